-- HOW A PROMOTED DESIGN STANDS TO THE OLD ONE: a relation, since a design does not tell a written seq from an implied one, nor on which
-- level a block stands. Places of groups and assignments stay, so that other places are a matter of `SameDesign` alone.
use Rattle.std.specs.Prelude.{◌≡◌, ℕ, ◌<◌, ◌≤◌, ◌⊎◌, true, List, [], ◌∷◌, Option, Some, None, length}
use Rattle.cx_text.specs.declared.places.Place.{Place}
use Rattle.cx_meaning.specs.declared.ports.PlacedPort.{PlacedPort}
use Rattle.cx_meaning.specs.Designs.{Always, PlainGroup, PlainForm, Empty, Enable, Seq, Par, If, While, Repeat, StaticSeq, Timed, PlainStatement, Placed, PlainStatements, no_statements, a_statement, PlainComponent, PlainDesign, component_at, group_at}
use Rattle.cx_meaning.specs.Instances.{Instance, State}
use Rattle.cx_meaning.specs.Active.{Owned, source_order}
use Rattle.cx_meaning.specs.Answers.{End}
use Rattle.cx_rules.specs.Externals.{external_rows}
use Rattle.cx_rules.specs.Ports.{component_of, is_primitive_enable}
use Rattle.cx_rules.specs.ShapeRules.{is_hole}
use Rattle.cx_rules.specs.StaticControl.{is_static}
use Rattle.cx_rewrites.specs.Beside.{joined}
use Rattle.cx_flattening.specs.Whole.{whole_main}
use Rattle.cx_promotion.specs.Promotable.{promotable, promoted_group}

-- GROUPS: a group stays, or is promoted
abbrev pub GroupMade : Instance → PlainGroup → PlainGroup → Type 0
GroupMade i x y = (y ≡ x) ⊎ ((n : ℕ) × (promotable i x ≡ Some n) × (y ≡ promoted_group i n x))

pub data GroupsMade (i : Instance) : List PlainGroup → List PlainGroup → Type 0 where
  no_groups : GroupsMade i [] []
  a_group : {x y : PlainGroup} {xs ys : List PlainGroup} → GroupMade i x y → GroupsMade i xs ys
      → GroupsMade i (x ∷ xs) (y ∷ ys)

-- group g is promoted
abbrev pub IsPromoted : Instance → PlainComponent → PlainComponent → ℕ → Type 0
IsPromoted i old new g =
    (n : ℕ) × (promotable i (group_at old g) ≡ Some n)
    × (group_at new g ≡ promoted_group i n (group_at old g))

-- CONTROL, by which groups are promoted
module _ (promoted : ℕ → Type 0) where
  -- enables of promoted groups, one after another
  pub data IsRun : PlainStatements → Type 0 where
    no_more : IsRun no_statements
    one_more : {g : ℕ} {p : Place} {ss : PlainStatements} → promoted g → IsRun ss
        → IsRun (a_statement (Placed (Enable g) p) ss)

  mutual
    pub data FormMade : PlainForm → PlainForm → Type 0 where
      empty : FormMade Empty Empty
      enable : {g : ℕ} → FormMade (Enable g) (Enable g)
      seq : {parts others : PlainStatements} → PartsMade parts others → FormMade (Seq parts) (Seq others)
      -- an implied seq all of whose statements became one
      collapsed : {parts : PlainStatements} {form : PlainForm} {p : Place}
          → PartsMade parts (a_statement (Placed form p) no_statements) → FormMade (Seq parts) form
      par : {arms others : PlainStatements} → ArmsMade arms others → FormMade (Par arms) (Par others)
      if_made : {test : PlacedPort} {comb : Option ℕ} {a b x y : PlainStatement} → StatementMade a x
          → StatementMade b y → FormMade (If test comb a b) (If test comb x y)
      while_made : {test : PlacedPort} {comb : Option ℕ} {a x : PlainStatement} → StatementMade a x
          → FormMade (While test comb a) (While test comb x)
      repeat_made : {count : ℕ} {a x : PlainStatement} → StatementMade a x → FormMade (Repeat count a) (Repeat count x)
      -- static control of the source stays, and so does a static invoke
      static : {form : PlainForm} → is_static form ≡ true → FormMade form form
      timed : {k : ℕ} → FormMade (Timed k) (Timed k)

    pub data StatementMade : PlainStatement → PlainStatement → Type 0 where
      placed : {form other : PlainForm} {p q : Place} → FormMade form other
          → StatementMade (Placed form p) (Placed other q)

    -- the parts of a seq: each is made, or a run of them is one static seq
    pub data PartsMade : PlainStatements → PlainStatements → Type 0 where
      no_parts : PartsMade no_statements no_statements
      a_part : {s t : PlainStatement} {ss tt : PlainStatements} → StatementMade s t → PartsMade ss tt
          → PartsMade (a_statement s ss) (a_statement t tt)
      a_run : {s : PlainStatement} {run ss tt : PlainStatements} {p : Place} → IsRun (a_statement s run)
          → PartsMade ss tt
          → PartsMade (joined (a_statement s run) ss) (a_statement (Placed (StaticSeq None (a_statement s run)) p) tt)

    pub data ArmsMade : PlainStatements → PlainStatements → Type 0 where
      no_arms : ArmsMade no_statements no_statements
      an_arm : {s t : PlainStatement} {ss tt : PlainStatements} → StatementMade s t → ArmsMade ss tt
          → ArmsMade (a_statement s ss) (a_statement t tt)

-- THE ORDER of assignments: each stands, or loses its guard as that of an enabling port in a promoted group, or is
-- dropped as the done of one
abbrev pub without_guard : Owned → Owned
without_guard o = record o { assign = record o.assign { guard = Always } }

pub data OrderMade (i : Instance) (promoted : ℕ → Type 0) : List Owned → List Owned → Type 0 where
  no_assigns : OrderMade i promoted [] []
  stands : {o : Owned} {os ps : List Owned} → OrderMade i promoted os ps → OrderMade i promoted (o ∷ os) (o ∷ ps)
  bared : {o : Owned} {os ps : List Owned} (g : ℕ) → o.owner ≡ Some g → promoted g
      → is_primitive_enable i o.assign.target ≡ true
      → OrderMade i promoted os ps → OrderMade i promoted (o ∷ os) (without_guard o ∷ ps)
  dropped : {o : Owned} {os ps : List Owned} (g : ℕ) → o.owner ≡ Some g → promoted g → is_hole o.assign.target ≡ true
      → OrderMade i promoted os ps → OrderMade i promoted (o ∷ os) ps

-- A COMPONENT, for which i stands in the old design, and A DESIGN
pub record PartMade (i : Instance) (old new : PlainComponent) : Type 0 where
  pub name : old.name ≡ new.name
  pub latency : old.latency ≡ new.latency
  pub inputs : old.inputs ≡ new.inputs
  pub outputs : old.outputs ≡ new.outputs
  pub cells : old.cells ≡ new.cells
  pub groups : GroupsMade i old.groups new.groups
  pub invokes : old.invokes ≡ new.invokes
  pub always : old.always ≡ new.always
  pub order : OrderMade i (IsPromoted i old new) (source_order old) (source_order new)
  pub control : StatementMade (IsPromoted i old new) old.control new.control

pub record DesignMade (old new : PlainDesign) : Type 0 where
  pub main : old.main ≡ new.main
  pub count : length old.components ≡ length new.components
  pub parts : (k : ℕ) → k < length old.components
      → PartMade (component_of old k) (component_at old k) (component_at new k)

-- WHAT PROMOTION PROMISES, with static components: the same external memories; and where the old run ends, the new one ends no later,
-- in the same state
pub record WholeQuickens (old new : PlainDesign) : Type 0 where
  pub rows : external_rows old ≡ external_rows new
  pub runs : (words : List (List ℕ)) (n t : ℕ) (s : State) → whole_main old words n ≡ End s t
      → (k : ℕ) × (whole_main new words n ≡ End s k) × (k ≤ t)
