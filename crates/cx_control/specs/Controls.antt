-- The control of an instance: which machine it comes down to, and its places as numbers.
use Rattle.std.specs.Prelude.{ℕ, zero, suc, ◌+◌, ◌<◌, ◌≤◌, ◌≡◌, ◌==◌, nat_lt, Bool, false, not, Option, Some, None, if◌then◌else◌}
use Rattle.cx_meaning.specs.declared.kinds.GroupKind.{GroupKind}
use Rattle.cx_meaning.specs.declared.kinds.GroupKind.TheVariants as kinds
use Rattle.cx_meaning.specs.Designs.{PlainComponent, PlainForm, Enable, PlainStatement, group_at}
use Rattle.cx_meaning.specs.Instances.{Instance, Node, Cells, no_cells, a_primitive, an_instance, part_of}
use Rattle.cx_meaning.specs.Islands.{form_length}
use Rattle.cx_meaning.specs.Calls.{called}
use Rattle.cx_laws.specs.Samples.{Samples, form_ifs}
use Rattle.cx_lockstep.specs.Worlds.{Machine}
use Rattle.cx_lockstep.specs.Statements.{machine_of}
use Rattle.cx_control.specs.Codings.{Coding, unit_coding}
use Rattle.cx_control.specs.StatementCodings.{LeafCodings, statement_coding}
use Rattle.cx_control.specs.Leaves.{InIsland, Cycle, LastTurn, Coded, nothing_coded, called_machine, kind_machine, leaf_machines}

-- AN ISLAND is one place, with the count and the done of its timer and one number for each of its samples
abbrev pub bit : Bool → ℕ
bit b = if b then 1 else 0

abbrev pub island_other : InIsland → ℕ → ℕ
island_other (Cycle t kept) zero = t
island_other (Cycle t kept) (suc zero) = 0
island_other (Cycle t kept) (suc (suc n)) = bit (kept n)
island_other LastTurn zero = 0
island_other LastTurn (suc zero) = 1
island_other LastTurn (suc (suc n)) = 0

abbrev pub island_place : ℕ → ℕ → (ℕ → ℕ) → Option InIsland
island_place ifs zero numbers =
    Some (if numbers 1 == 0
    then Cycle (numbers 0) (λ n. if nat_lt n ifs then not (numbers (2 + n) == 0) else false) else LastTurn)
island_place ifs (suc n) numbers = None

-- it has not come to its end, and no static if is beyond its last
pub record IsFineCycle (part : PlainComponent) (form : PlainForm) (t : ℕ) (kept : Samples) : Type 0 where
  pub less : t < form_length part form
  pub beyond : (m : ℕ) → form_ifs form ≤ m → kept m ≡ false

abbrev pub island_fine : PlainComponent → PlainForm → InIsland → Type 0
island_fine part form (Cycle t kept) = IsFineCycle part form t kept
island_fine part form LastTurn = Unit {0}

abbrev pub island_coding : PlainComponent → PlainForm → Coding InIsland
island_coding part form =
    record {
      size = 1;
      extra = 2 + form_ifs form;
      number = λ p.
          0;
      other = island_other;
      place = island_place (form_ifs form);
      IsFine = island_fine part form;
    }

-- of the leaves of an instance, over the control of its children
module _ (i : Instance) (children : ℕ → Coded) where
  abbrev pub called_coding : (g : ℕ) (o : Option ℕ) → Coding (Machine.Place (called_machine i children g o))
  called_coding g None = unit_coding
  called_coding g (Some c) = unit_coding

  abbrev pub kind_coding : (g : ℕ) (kind : GroupKind) → Coding (Machine.Place (kind_machine i children g kind))
  kind_coding g kinds.Plain = called_coding g (called i g)
  kind_coding g kinds.Comb = called_coding g (called i g)
  kind_coding g (kinds.Timed n) = island_coding (part_of i) (Enable g)

  abbrev pub leaf_codings : LeafCodings (leaf_machines i children)
  leaf_codings =
      record {
        enable = λ g.
            kind_coding g (group_at (part_of i) g).kind;
        island = λ form. island_coding (part_of i) form;
      }

  abbrev pub coded_statement : PlainStatement → Coded
  coded_statement s =
      record {
        machine = machine_of (leaf_machines i children) s;
        coding = statement_coding (leaf_machines i children) leaf_codings s;
      }

-- THE CONTROL of an instance, and of the children at its cells
abbrev mutual
  pub coded_control : Instance → Coded
  coded_control (Node part cells) = coded_statement (Node part cells) (coded_below cells) part.control

  pub coded_below : Cells → ℕ → Coded
  coded_below no_cells c = nothing_coded
  coded_below (a_primitive row rest) zero = nothing_coded
  coded_below (a_primitive row rest) (suc c) = coded_below rest c
  coded_below (an_instance child rest) zero = coded_control child
  coded_below (an_instance child rest) (suc c) = coded_below rest c

-- the places that their numbers give back
abbrev pub fine_control : (i : Instance) → Machine.Place (Coded.machine (coded_control i)) → Type 0
fine_control i = Coding.IsFine (Coded.coding (coded_control i))

abbrev pub fine_below : (cells : Cells) (c : ℕ) → Machine.Place (Coded.machine (coded_below cells c)) → Type 0
fine_below cells c = Coding.IsFine (Coded.coding (coded_below cells c))

-- the number of places of a component's control: what its first number is in the cycle in which its done is 1
abbrev pub end_of : Instance → ℕ
end_of i = Coding.size (Coded.coding (coded_control i))
