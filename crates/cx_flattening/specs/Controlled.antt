-- What the rules keep of the control and the static invokes of a tree, as far as flattening asks for it.
use Rattle.std.specs.Prelude.{◌≡◌, ℕ, ◌<◌, true, List, [], ◌∷◌, ◌++◌, Some, length}
use Rattle.cx_meaning.specs.declared.ports.PortRef.{PortRef}
use Rattle.cx_meaning.specs.Designs.{PlainInvoke, PlainForm, Empty, Enable, Seq, Par, If, While, Repeat, StaticSeq, StaticPar, StaticIf, StaticRepeat, Timed, PlainStatement, Placed, PlainStatements, no_statements, a_statement}
use Rattle.cx_meaning.specs.Instances.{Instance, Node, Cells, no_cells, a_primitive, an_instance, OfInstance, part_of, cells_of, cell_at}
use Rattle.cx_meaning.specs.Control.{groups_of}
use Rattle.cx_text.specs.Members.{In}
use Rattle.cx_meaning.specs.Islands.{group_length}
use Rattle.cx_rules.specs.Invokes.{lasts}
use Rattle.cx_flattening.specs.Events.{the_invoke}
use Rattle.cx_flattening.specs.Whole.{is_static}
use Rattle.cx_flattening.specs.Fair.{IsNamed}

-- the numbers of the static invokes in a statement, in source order
abbrev mutual
  pub timed_in : PlainForm → List ℕ
  timed_in Empty = []
  timed_in (Enable g) = []
  timed_in (Seq ss) = timed_all ss
  timed_in (Par arms) = timed_all arms
  timed_in (If test comb a b) = timed_of a ++ timed_of b
  timed_in (While test comb a) = timed_of a
  timed_in (Repeat count a) = timed_of a
  timed_in (StaticSeq length ss) = timed_all ss
  timed_in (StaticPar length arms) = timed_all arms
  timed_in (StaticIf length test a b) = timed_of a ++ timed_of b
  timed_in (StaticRepeat length count a) = timed_of a
  timed_in (Timed k) = k ∷ []

  pub timed_of : PlainStatement → List ℕ
  timed_of (Placed form place) = timed_in form

  pub timed_all : PlainStatements → List ℕ
  timed_all no_statements = []
  timed_all (a_statement s ss) = timed_of s ++ timed_all ss

-- the ports at which static ifs look, in source order
abbrev mutual
  pub tested_in : PlainForm → List PortRef
  tested_in Empty = []
  tested_in (Enable g) = []
  tested_in (Seq ss) = tested_all ss
  tested_in (Par arms) = tested_all arms
  tested_in (If test comb a b) = tested_of a ++ tested_of b
  tested_in (While test comb a) = tested_of a
  tested_in (Repeat count a) = tested_of a
  tested_in (StaticSeq length ss) = tested_all ss
  tested_in (StaticPar length arms) = tested_all arms
  tested_in (StaticIf length test a b) = test.port ∷ (tested_of a ++ tested_of b)
  tested_in (StaticRepeat length count a) = tested_of a
  tested_in (Timed k) = []

  pub tested_of : PlainStatement → List PortRef
  tested_of (Placed form place) = tested_in form

  pub tested_all : PlainStatements → List PortRef
  tested_all no_statements = []
  tested_all (a_statement s ss) = tested_of s ++ tested_all ss

-- an invoke is of a static child, and takes as long as the child's control; the group that captures takes one cycle
pub record IsInvoked (i : Instance) (v : PlainInvoke) : Type 0 where
  pub child : Instance
  pub stands : cell_at (cells_of i) v.cell ≡ OfInstance child
  pub static : is_static child ≡ true
  pub latency : v.latency ≡ Some (lasts (part_of child) (part_of child).control)
  pub captures : (g : ℕ) → v.captures ≡ Some g → (g < length (part_of i).groups) × (group_length (part_of i) g ≡ Some 1)

-- control enables groups and has invokes that are there, and tests ports that may be named
pub record IsControlled (i : Instance) : Type 0 where
  pub enables : (g : ℕ) → In (groups_of (part_of i).control) g → g < length (part_of i).groups
  pub timed : (j : ℕ) → In (timed_of (part_of i).control) j → j < length (part_of i).invokes
  pub tests : (p : PortRef) → In (tested_of (part_of i).control) p → IsNamed i p
  pub invokes : (j : ℕ) → j < length (part_of i).invokes → IsInvoked i (the_invoke (part_of i) j)

abbrev mutual
  pub AllControlled : Instance → Type 0
  AllControlled (Node part cells) = IsControlled (Node part cells) × AllControlledBelow cells

  pub AllControlledBelow : Cells → Type 0
  AllControlledBelow no_cells = Unit {0}
  AllControlledBelow (a_primitive row rest) = AllControlledBelow rest
  AllControlledBelow (an_instance child rest) = AllControlled child × AllControlledBelow rest
