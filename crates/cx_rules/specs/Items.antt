-- The parts of a component that rules speak of: assignments in source order, operands, statements in pre-order.
use Rattle.std.specs.Prelude.{ℕ, ◌+◌, Bool, true, false, List, [], ◌∷◌, ◌++◌, Option, Some, None, length, flat_map}
use Rattle.cx_text.specs.declared.places.Place.{Place}
use Rattle.cx_meaning.specs.declared.ports.PortRef.{PortRef}
use Rattle.cx_meaning.specs.declared.ports.PlacedPort.{PlacedPort}
use Rattle.cx_meaning.specs.declared.kinds.GroupKind.{GroupKind}
use Rattle.cx_meaning.specs.declared.kinds.GroupKind.TheVariants as kinds
use Rattle.cx_meaning.specs.Designs.{PlainGuard, Always, Atom, Negation, All, Any, Compared, Within, PlainGuards, no_guards, a_guard, PlainAssign, PlainComponent, PlainForm, Empty, Enable, Seq, Par, If, While, Repeat, StaticSeq, StaticPar, StaticIf, StaticRepeat, Timed, PlainStatement, Placed, PlainStatements, no_statements, a_statement}

-- the ports that stand by themselves in a guard, in source order
abbrev mutual
  pub atoms_of : PlainGuard → List PlacedPort
  atoms_of Always = []
  atoms_of (Atom p) = p ∷ []
  atoms_of (Negation g) = atoms_of g
  atoms_of (All gs) = atoms_in gs
  atoms_of (Any gs) = atoms_in gs
  atoms_of (Compared c a b) = []
  atoms_of (Within from to) = []

  pub atoms_in : PlainGuards → List PlacedPort
  atoms_in no_guards = []
  atoms_in (a_guard g gs) = atoms_of g ++ atoms_in gs

-- two operands that are compared, or a target and its source
pub record Pair : Type 0 where
  pub first : PortRef
  pub second : PortRef

-- the comparisons of a guard, in source order
abbrev mutual
  pub comparisons_of : PlainGuard → List Pair
  comparisons_of Always = []
  comparisons_of (Atom p) = []
  comparisons_of (Negation g) = comparisons_of g
  comparisons_of (All gs) = comparisons_in gs
  comparisons_of (Any gs) = comparisons_in gs
  comparisons_of (Compared c a b) = record { first = a.port; second = b.port } ∷ []
  comparisons_of (Within from to) = []

  pub comparisons_in : PlainGuards → List Pair
  comparisons_in no_guards = []
  comparisons_in (a_guard g gs) = comparisons_of g ++ comparisons_in gs

-- the operands of a guard, compared ones too, in source order
abbrev mutual
  pub operands_of : PlainGuard → List PlacedPort
  operands_of Always = []
  operands_of (Atom p) = p ∷ []
  operands_of (Negation g) = operands_of g
  operands_of (All gs) = operands_in gs
  operands_of (Any gs) = operands_in gs
  operands_of (Compared c a b) = a ∷ b ∷ []
  operands_of (Within from to) = []

  pub operands_in : PlainGuards → List PlacedPort
  operands_in no_guards = []
  operands_in (a_guard g gs) = operands_of g ++ operands_in gs

-- the ranges of offsets in a guard
pub record Range : Type 0 where
  pub from : ℕ
  pub to : ℕ

abbrev mutual
  pub ranges_of : PlainGuard → List Range
  ranges_of Always = []
  ranges_of (Atom p) = []
  ranges_of (Negation g) = ranges_of g
  ranges_of (All gs) = ranges_in gs
  ranges_of (Any gs) = ranges_in gs
  ranges_of (Compared c a b) = []
  ranges_of (Within from to) = record { from = from; to = to } ∷ []

  pub ranges_in : PlainGuards → List Range
  ranges_in no_guards = []
  ranges_in (a_guard g gs) = ranges_of g ++ ranges_in gs

-- the nodes of a guard; an assignment without a guard has none
abbrev mutual
  pub guard_nodes : PlainGuard → ℕ
  guard_nodes Always = 0
  guard_nodes (Atom p) = 1
  guard_nodes (Negation g) = 1 + guard_nodes g
  guard_nodes (All gs) = 1 + nodes_in gs
  guard_nodes (Any gs) = 1 + nodes_in gs
  guard_nodes (Compared c a b) = 1
  guard_nodes (Within from to) = 1

  pub nodes_in : PlainGuards → ℕ
  nodes_in no_guards = 0
  nodes_in (a_guard g gs) = guard_nodes g + nodes_in gs

-- the source and the operands of the guard: what an assignment looks at
abbrev pub sources_of : PlainAssign → List PlacedPort
sources_of a = a.source ∷ operands_of a.guard

-- where a statement stands: in dynamic control, in static control, as the branch of a static if, or below a statement that
-- may not stand in static control
pub data Context : Type 0 where
  Dynamic : Context
  InStatic : Context
  Branch : Context
  Amiss : Context

-- where the parts of a dynamic statement stand
abbrev pub below_dynamic : Context → Context
below_dynamic Dynamic = Dynamic
below_dynamic InStatic = Amiss
below_dynamic Branch = Amiss
below_dynamic Amiss = Amiss

pub record Visited : Type 0 where
  pub context : Context
  pub form : PlainForm
  pub place : Place

-- the statements of a statement in pre-order, itself first, each with where it stands
abbrev mutual
  pub visit : Context → PlainStatement → List Visited
  visit context (Placed form place) =
      record { context = context; form = form; place = place } ∷ visit_parts context form

  pub visit_parts : Context → PlainForm → List Visited
  visit_parts context Empty = []
  visit_parts context (Enable g) = []
  visit_parts context (Seq parts) = visit_all (below_dynamic context) parts
  visit_parts context (Par arms) = visit_all (below_dynamic context) arms
  visit_parts context (If test comb a b) = visit (below_dynamic context) a ++ visit (below_dynamic context) b
  visit_parts context (While test comb a) = visit (below_dynamic context) a
  visit_parts context (Repeat count a) = visit (below_dynamic context) a
  visit_parts context (StaticSeq length parts) = visit_all InStatic parts
  visit_parts context (StaticPar length arms) = visit_all InStatic arms
  visit_parts context (StaticIf length test a b) = visit Branch a ++ visit Branch b
  visit_parts context (StaticRepeat length count a) = visit InStatic a
  visit_parts context (Timed k) = []

  pub visit_all : Context → PlainStatements → List Visited
  visit_all context no_statements = []
  visit_all context (a_statement s ss) = visit context s ++ visit_all context ss

-- the statements of a component
abbrev pub statements_in : PlainComponent → List Visited
statements_in part = visit Dynamic part.control

-- the condition of an if, a while or a static if
abbrev pub test_in : PlainForm → Option PlacedPort
test_in Empty = None
test_in (Enable g) = None
test_in (Seq parts) = None
test_in (Par arms) = None
test_in (If test comb a b) = Some test
test_in (While test comb a) = Some test
test_in (Repeat count a) = None
test_in (StaticSeq length parts) = None
test_in (StaticPar length arms) = None
test_in (StaticIf length test a b) = Some test
test_in (StaticRepeat length count a) = None
test_in (Timed k) = None

abbrev pub option_list : {A : Type 0} → Option A → List A
option_list None = []
option_list (Some x) = x ∷ []

-- the conditions in a statement, in source order
abbrev pub tests_of : PlainStatement → List PlacedPort
tests_of s = flat_map (λ v. option_list (test_in v.form)) (visit Dynamic s)

-- whether a group is plain
abbrev pub is_plain : GroupKind → Bool
is_plain kinds.Plain = true
is_plain kinds.Comb = false
is_plain (kinds.Timed n) = false

abbrev pub is_comb : GroupKind → Bool
is_comb kinds.Plain = false
is_comb kinds.Comb = true
is_comb (kinds.Timed n) = false
