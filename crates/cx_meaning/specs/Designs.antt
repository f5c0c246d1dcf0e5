-- A design as plain data: what the types of a design stand for, without where they lie in memory. Numbers name parts.
use Rattle.std.specs.Prelude.{ℕ, Bool, false, ◌||◌, nat_eq, List, [], ◌∷◌, flat_map, Option, None, get_or}
use Rattle.cx_text.specs.declared.places.Place.{Place}
use Rattle.cx_prim.specs.Table.{PrimitiveRow}
use Rattle.cx_meaning.specs.declared.ports.PortRef.{PortRef}
use Rattle.cx_meaning.specs.declared.ports.PlacedPort.{PlacedPort}
use Rattle.cx_meaning.specs.declared.ports.Comparison.{Comparison}
use Rattle.cx_meaning.specs.declared.kinds.GroupKind.{GroupKind}
use Rattle.cx_meaning.specs.declared.kinds.GroupKind.TheVariants.{Plain}
use Rattle.cx_meaning.specs.declared.kinds.PortDecl.{PortDecl}

-- a guard; an assignment without one has Always. A conjunction and a disjunction have their parts in order.
-- Within from to is 1 at the offsets of its group from the first to before the second
mutual
  pub data PlainGuard : Type 0 where
    Always : PlainGuard
    Atom : (p : PlacedPort) → PlainGuard
    Negation : (g : PlainGuard) → PlainGuard
    All : (gs : PlainGuards) → PlainGuard
    Any : (gs : PlainGuards) → PlainGuard
    Compared : (c : Comparison) (a b : PlacedPort) → PlainGuard
    Within : (from to : ℕ) → PlainGuard

  pub data PlainGuards : Type 0 where
    no_guards : PlainGuards
    a_guard : (g : PlainGuard) (gs : PlainGuards) → PlainGuards

-- target = guard ? source
pub record PlainAssign : Type 0 where
  pub target : PortRef
  pub guard : PlainGuard
  pub source : PlacedPort
  pub place : Place

pub record PlainGroup : Type 0 where
  pub name : List ℕ
  pub kind : GroupKind
  pub assigns : List PlainAssign
  pub place : Place

-- what a cell is of: a primitive, which is a name and numbers, or a component, by its number
pub data PlainKind : Type 0 where
  OfPrimitive : (primitive : PrimitiveRow) → PlainKind
  OfComponent : (component : ℕ) → PlainKind

pub record PlainCell : Type 0 where
  pub name : List ℕ
  pub kind : PlainKind
  pub external : Bool
  pub place : Place

-- the components of cells
abbrev pub component_of_kind : PlainKind → List ℕ
component_of_kind (OfPrimitive primitive) = []
component_of_kind (OfComponent k) = k ∷ []

abbrev pub components_of : List PlainCell → List ℕ
components_of cells = flat_map (λ cell. component_of_kind cell.kind) cells

abbrev pub has_number : ℕ → List ℕ → Bool
has_number k [] = false
has_number k (n ∷ rest) = nat_eq k n || has_number k rest

-- a statement is a form and a place. The children of a seq and the arms of a par stand in order; a written length of
-- a static statement is given where there is one; Timed is a statement that takes its cycles by a number: a static invoke
-- of a design, an island of a lowered one
mutual
  pub data PlainForm : Type 0 where
    Empty : PlainForm
    Enable : (group : ℕ) → PlainForm
    Seq : (parts : PlainStatements) → PlainForm
    Par : (arms : PlainStatements) → PlainForm
    If : (test : PlacedPort) (comb : Option ℕ) (then_branch else_branch : PlainStatement) → PlainForm
    While : (test : PlacedPort) (comb : Option ℕ) (body : PlainStatement) → PlainForm
    Repeat : (count : ℕ) (body : PlainStatement) → PlainForm
    StaticSeq : (length : Option ℕ) (parts : PlainStatements) → PlainForm
    StaticPar : (length : Option ℕ) (arms : PlainStatements) → PlainForm
    StaticIf : (length : Option ℕ) (test : PlacedPort) (then_branch else_branch : PlainStatement) → PlainForm
    StaticRepeat : (length : Option ℕ) (count : ℕ) (body : PlainStatement) → PlainForm
    Timed : (island : ℕ) → PlainForm

  pub data PlainStatement : Type 0 where
    Placed : (form : PlainForm) (place : Place) → PlainStatement

  pub data PlainStatements : Type 0 where
    no_statements : PlainStatements
    a_statement : (s : PlainStatement) (ss : PlainStatements) → PlainStatements

abbrev pub form_of : PlainStatement → PlainForm
form_of (Placed form place) = form

abbrev pub place_of : PlainStatement → Place
place_of (Placed form place) = place

abbrev pub guards_of : List PlainGuard → PlainGuards
guards_of [] = no_guards
guards_of (g ∷ gs) = a_guard g (guards_of gs)

abbrev pub statements_of : List PlainStatement → PlainStatements
statements_of [] = no_statements
statements_of (s ∷ ss) = a_statement s (statements_of ss)

abbrev pub list_of : PlainStatements → List PlainStatement
list_of no_statements = []
list_of (a_statement s ss) = s ∷ list_of ss

-- an invoke of a cell of a static component: whether the word static stands there, the length that is written, the latency of
-- the cell's component, an assignment for each input that is bound, in the order of the binds, and the group that captures
pub record PlainInvoke : Type 0 where
  pub cell : ℕ
  pub written : Bool
  pub length : Option ℕ
  pub latency : Option ℕ
  pub inputs : List PlainAssign
  pub captures : Option ℕ

-- the inputs and outputs are those of the signature other than go, clk, reset and done; a static component has a latency in
-- cycles; its control names its static invokes by their numbers
pub record PlainComponent : Type 0 where
  pub name : List ℕ
  pub latency : Option ℕ
  pub inputs : List PortDecl
  pub outputs : List PortDecl
  pub cells : List PlainCell
  pub groups : List PlainGroup
  pub invokes : List PlainInvoke
  pub always : List PlainAssign
  pub control : PlainStatement
  pub place : Place

-- the components in source order, and the number of the one named main
pub record PlainDesign : Type 0 where
  pub components : List PlainComponent
  pub main : ℕ

-- what stands for a part whose number names none
abbrev pub no_place : Place
no_place = record { line = 1; column = 1 }

abbrev pub no_group : PlainGroup
no_group = record { name = []; kind = Plain; assigns = []; place = no_place }

abbrev pub no_component : PlainComponent
no_component =
    record {
      name = [];
      latency = None;
      inputs = [];
      outputs = [];
      cells = [];
      groups = [];
      invokes = [];
      always = [];
      control = Placed Empty no_place;
      place = no_place;
    }

abbrev pub group_at : PlainComponent → ℕ → PlainGroup
group_at part g = get_or part.groups g no_group

abbrev pub component_at : PlainDesign → ℕ → PlainComponent
component_at d k = get_or d.components k no_component
