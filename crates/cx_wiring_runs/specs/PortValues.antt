-- What a look of the net makes of an instance: a value of each port, what is around it and below it, and which groups go.
use Rattle.std.specs.Prelude.{ℕ, ◌+◌, ◌&&◌, Bool, false, nat_lt, [], ◌∷◌, length, Option, Some, None, unwrap_or, if◌then◌else◌}
use Rattle.cx_bits.specs.BitVector.{BitVector}
use Rattle.cx_meaning.specs.declared.ports.PortRef.TheVariants as ports
use Rattle.cx_meaning.specs.Instances.{Instance, At, Nothing, OfRow, OfInstance, part_of, cells_of, cell_at}
use Rattle.cx_meaning.specs.Active.{Active}
use Rattle.cx_meaning.specs.Islands.{group_length}
use Rattle.cx_rules.specs.Ports.{declared_width, width_of}
use Rattle.cx_control.specs.Flows.{Values, Around, Solves, zero_of}
use Rattle.cx_net.specs.NetMeaning.{NetState, APort, AWire, AHole, TheDone, NetLook, NetAround, is_true}
use Rattle.cx_static.specs.Lowering.{lowered_component}
use Rattle.cx_wiring.specs.Assignments.{owner_drives}

-- whether a port stands at a cell
abbrev pub has_port : At → ℕ → Bool
has_port Nothing p = false
has_port (OfRow row) p = nat_lt p (length row.ports)
has_port (OfInstance child) p = nat_lt p (2 + length (part_of child).inputs + length (part_of child).outputs)

-- the offset of a group, which is that of its wire where the group is static
abbrev pub own_offset : Option ℕ → BitVector → ℕ
own_offset None b = 0
own_offset (Some cycles) b = b.value

module _ (i : Instance) (around : NetAround) (s : NetState) (look : NetLook) where
  abbrev pub around_of : Around
  around_of = record {
    input = λ n. unwrap_or (around.input n) (zero_of (declared_width (part_of i).inputs n));
    output = λ c n. unwrap_or (look (c ∷ []) (APort (ports.Output n))) (zero_of None);
    done = λ c. unwrap_or (look (c ∷ []) TheDone) (zero_of (Some 1));
  }

  -- of a port that is not there
  abbrev pub value_beyond : ℕ → ℕ → At → BitVector
  value_beyond c p Nothing = zero_of None
  value_beyond c p (OfRow row) = unwrap_or (row.output (s.cell (c ∷ [])) [] p) (zero_of (width_of i (ports.Cell c p)))
  value_beyond c p (OfInstance child) = unwrap_or (look (c ∷ []) TheDone) (zero_of (Some 1))

  abbrev pub port_value : Values
  port_value (ports.Cell c p) =
      if has_port (cell_at (cells_of i) c) p
      then unwrap_or (look [] (APort (ports.Cell c p))) (zero_of None)
      else value_beyond c p (cell_at (cells_of i) c)
  port_value (ports.Input n) = unwrap_or (around.input n) (zero_of (declared_width (part_of i).inputs n))
  port_value (ports.Output n) =
      if nat_lt n (length (part_of i).outputs)
      then unwrap_or (look [] (APort (ports.Output n))) (zero_of None)
      else zero_of (declared_width (part_of i).outputs n)
  port_value (ports.Done g) =
      if nat_lt g (length (part_of i).groups) then unwrap_or (look [] (AHole g)) (zero_of (Some 1))
      else zero_of (Some 1)
  port_value (ports.Literal w n) = record { width = w; value = n }

  -- the groups that go. A static group of which no island has an occurrence does not stand in
  -- the net
  abbrev pub goes_now : ℕ → Bool
  goes_now g =
      is_true (unwrap_or (look [] (AHole (length (part_of i).groups + g))) (zero_of (Some 1)))
      && owner_drives (lowered_component (part_of i)) (Some g)

  abbrev pub offset_now : ℕ → BitVector
  offset_now g = unwrap_or (look [] (AWire g)) (zero_of (Some 32))

  abbrev pub active_now : Active
  active_now =
      record {
        offset = λ g. if goes_now g
            then Some (own_offset (group_length (part_of i) g) (offset_now g)) else None;
        done_cell = None;
      }

  -- THE PORTS SOLVE their equations
  abbrev pub WiresSolve : Type 0
  WiresSolve = Solves i active_now (λ path. s.cell path) around_of port_value
