-- Two-valued ports of an instance under the union of what all its arms have active: an undriven port is 0, and the first
-- true guard in source order drives.
use Rattle.std.specs.Prelude.{◌≡◌, ℕ, suc, ◌⊎◌, Bool, true, false, ◌&&◌, ◌||◌, not, ◌==◌, nat_lt, nat_le, List, [], ◌∷◌, Option, Some, None, unwrap_or, if◌then◌else◌}
use Rattle.cx_text.specs.Members.{In}
use Rattle.cx_bits.specs.BitVector.{BitVector}
use Rattle.cx_prim.specs.declared.ports.PortRow.{PortRow}
use Rattle.cx_prim.specs.declared.ports.Side.{Side}
use Rattle.cx_prim.specs.declared.ports.Side.TheVariants as sides
use Rattle.cx_prim.specs.Rows.{Inputs, Row}
use Rattle.cx_meaning.specs.declared.ports.PortRef.{PortRef}
use Rattle.cx_meaning.specs.declared.ports.PortRef.TheVariants as ports
use Rattle.cx_meaning.specs.declared.sights.Seen.TheVariants.{Value}
use Rattle.cx_meaning.specs.Designs.{PlainGuard, Always, Atom, Negation, All, Any, Compared, Within, PlainGuards, no_guards, a_guard}
use Rattle.cx_meaning.specs.Rows.{side_of}
use Rattle.cx_meaning.specs.Instances.{Instance, At, Nothing, OfRow, OfInstance, part_of, cells_of, cell_at, State, under}
use Rattle.cx_meaning.specs.Active.{Active, nothing, group, Owned, Acting, source_order, drivers, offset_of}
use Rattle.cx_meaning.specs.Truths.{compares}
use Rattle.cx_meaning.specs.Sights.{Held, Sees, PartPort, Go, AnInput, AnOutput, ItsDone, part_port, is_done_cell, bit_of, unheld}
use Rattle.cx_rules.specs.Footprints.{Depends}
use Rattle.cx_rules.specs.Ports.{width_of}

-- a value of each port
abbrev pub Values : Type 0
Values = PortRef → BitVector

abbrev pub is_set : BitVector → Bool
is_set b = b.value == 1

abbrev pub zero_of : Option ℕ → BitVector
zero_of w = record { width = unwrap_or w 1; value = 0 }

abbrev mutual
  pub guard_on : Values → ℕ → PlainGuard → Bool
  guard_on v at Always = true
  guard_on v at (Atom p) = is_set (v p.port)
  guard_on v at (Negation g) = not (guard_on v at g)
  guard_on v at (All gs) = all_on v at gs
  guard_on v at (Any gs) = any_on v at gs
  guard_on v at (Compared c a b) = compares c (v a.port).value (v b.port).value
  guard_on v at (Within from to) = nat_le from at && nat_lt at to

  pub all_on : Values → ℕ → PlainGuards → Bool
  all_on v at no_guards = true
  all_on v at (a_guard g gs) = guard_on v at g && all_on v at gs

  pub any_on : Values → ℕ → PlainGuards → Bool
  any_on v at no_guards = false
  any_on v at (a_guard g gs) = guard_on v at g || any_on v at gs

-- the first true guard drives
abbrev pub first_on : Values → BitVector → List Acting → BitVector
first_on v undriven [] = undriven
first_on v undriven (a ∷ rest) =
    if guard_on v a.offset a.assign.guard then v a.assign.source.port else first_on v undriven rest

-- what stands at all ports of a cell
abbrev pub given : Values → ℕ → ℕ → List PortRow → Inputs
given v c p [] = []
given v c p (port ∷ rest) = Some (v (ports.Cell c p)) ∷ given v c (suc p) rest

-- what is around an instance, and below it: its inputs, the outputs of its component cells, and their dones
pub record Around : Type 0 where
  pub input : ℕ → BitVector
  pub output : ℕ → ℕ → BitVector
  pub done : ℕ → BitVector

module _ (i : Instance) (go : Active) (s : State) (around : Around) (v : Values) where
  abbrev pub driven_flow : PortRef → BitVector
  driven_flow p = first_on v (zero_of (width_of i p)) (drivers (part_of i) go p)

  abbrev pub side_flow : Row → ℕ → ℕ → Side → BitVector
  side_flow row c p sides.Enable = driven_flow (ports.Cell c p)
  side_flow row c p sides.Plain = driven_flow (ports.Cell c p)
  side_flow row c p sides.Output =
      unwrap_or (row.output (s (c ∷ [])) (given v c 0 row.ports) p) (zero_of (width_of i (ports.Cell c p)))
  side_flow row c p sides.Registered = unwrap_or (row.output (s (c ∷ [])) [] p) (zero_of (width_of i (ports.Cell c p)))

  abbrev pub part_flow : ℕ → ℕ → PartPort → BitVector
  part_flow c p Go = driven_flow (ports.Cell c p)
  part_flow c p (AnInput n) = driven_flow (ports.Cell c p)
  part_flow c p (AnOutput n) = around.output c n
  part_flow c p ItsDone = around.done c

  abbrev pub cell_flow : ℕ → ℕ → At → BitVector
  cell_flow c p Nothing = zero_of None
  cell_flow c p (OfRow row) = side_flow row c p (side_of row p)
  cell_flow c p (OfInstance child) = part_flow c p (part_port (part_of child) p)

  -- a hole is not gated by its group
  abbrev pub flow : PortRef → BitVector
  flow (ports.Cell c p) = cell_flow c p (cell_at (cells_of i) c)
  flow (ports.Input n) = around.input n
  flow (ports.Output n) = driven_flow (ports.Output n)
  flow (ports.Done g) = first_on v (zero_of (Some 1)) (drivers (part_of i) (group g) (ports.Done g))
  flow (ports.Literal w n) = record { width = w; value = n }

-- the values solve the equations of the ports
abbrev pub Solves : Instance → Active → State → Around → Values → Type 0
Solves i go s around v = (p : PortRef) → v p ≡ flow i go s around v p

-- p itself, or what it depends on
abbrev pub Reaches : Instance → Active → PortRef → PortRef → Type 0
Reaches i act p q = (p ≡ q) ⊎ Depends i act p q

-- what one active set makes of a port is not disturbed by what else is active: of each port that it depends on, the union
-- has the assignments that the set has; and what stands around the instance is what the set takes it to be, where that is a value
pub record Undisturbed (i : Instance) (held : Held) (act go : Active) (s : State) (around : Around)
    (p : PortRef) : Type 0 where
  -- a hole is seen under its own group, whose go is cut where the hole is 1, and outputs are driven continuously
  pub assigns : (c q : ℕ) (o : Owned) → Reaches i act p (ports.Cell c q) → In (source_order (part_of i)) o
      → o.assign.target ≡ ports.Cell c q → offset_of act o.owner ≡ offset_of go o.owner
  pub holes : (g : ℕ) → Reaches i act p (ports.Done g) → act.offset g ≡ Some 0
  pub inputs : (n : ℕ) (b : BitVector) → Reaches i act p (ports.Input n) → held n ≡ Value b → around.input n ≡ b
  pub outputs : (c q n : ℕ) (child : Instance) (b : BitVector) → Reaches i act p (ports.Cell c q)
      → cell_at (cells_of i) c ≡ OfInstance child
      → part_port (part_of child) q ≡ AnOutput n
      → Sees child unheld nothing (under c s) (ports.Output n) (Value b) → around.output c n ≡ b
  pub dones : (c q : ℕ) (child : Instance) → Reaches i act p (ports.Cell c q)
      → cell_at (cells_of i) c ≡ OfInstance child
      → part_port (part_of child) q ≡ ItsDone → Value (around.done c) ≡ bit_of (is_done_cell act.done_cell c)
