-- The cells of a component of a design, and the cells that ports speak of.
use Rattle.std.proofs.Common.{◌≡◌, ◌<◌, ◌≤◌, ℕ, zero, suc, nat_lt, Bool, true, false, cond, List, [], ◌∷◌, Option, Some, None, length, refl, ap, ◌∙◌, subst, arith}
use Rattle.std.proofs.lemmas.Bool.{ltb-true}
use Rattle.cx_prim.specs.declared.ports.Side.{Side}
use Rattle.cx_prim.specs.declared.ports.Side.TheVariants as sides
use Rattle.cx_prim.specs.Rows.{Row}
use Rattle.cx_meaning.specs.declared.ports.PortRef.{PortRef}
use Rattle.cx_meaning.specs.declared.ports.PortRef.TheVariants as ports
use Rattle.cx_meaning.specs.Rows.{side_of}
use Rattle.cx_meaning.specs.Designs.{PlainKind, OfPrimitive, OfComponent, PlainCell, PlainDesign, component_at}
use Rattle.cx_meaning.specs.Instances.{Instance, Cells, At, Nothing, OfRow, OfInstance, part_of, cells_of, cell_at, cell_count, add_cell, cells_for, tree_within}
use Rattle.cx_meaning.proofs.CycleLemmas.{row_within}
use Rattle.cx_meaning.specs.Sights.{PartPort, Go, AnInput, AnOutput, ItsDone, part_port}
use Rattle.cx_rules.specs.Ports.{component_of}
use Rattle.cx_design_parts.specs.Outputs.{ReadsFirst, read_count}
use Rattle.cx_design_parts.proofs.OutputLemmas.{row_of-reads_first}
use Rattle.cx_shape_state.specs.Waits.{side_basis, part_basis, cell_basis, input_basis, basis_of, reads_at, reader_of}
use Rattle.cx_shape_state.specs.Joining.{IsWithin}
use Rattle.cx_text.proofs.OptionLaws.{some_is}

if_some : (b : Bool) (d c : ℕ) → cond b (Some d) None ≡ Some c → (b ≡ true) × (d ≡ c)
if_some true d c e = (refl, some_is d c e)
if_some false d c e = absurd (cc)

-- the reader of a port, and the port
pub record Reader (i : Instance) (port : PortRef) (c : ℕ) : Type 0 where
  pub number : ℕ
  pub port_is : port ≡ ports.Cell c number
  pub row : Row
  pub row_is : cell_at (cells_of i) c ≡ OfRow row
  pub reads : nat_lt number (read_count row.ports) ≡ true

reader_at : (i : Instance) (c m : ℕ) (at : At) → cell_at (cells_of i) c ≡ at → nat_lt m (reads_at at) ≡ true → Reader i (ports.Cell c m) c
reader_at i c m Nothing e h = absurd (let few : m < 0 = ltb-true m 0 h in omega (arith, few))
reader_at i c m (OfRow row) e h = record { number = m; port_is = refl; row = row; row_is = e; reads = h }
reader_at i c m (OfInstance child) e h = absurd (let few : m < 0 = ltb-true m 0 h in omega (arith, few))

pub reader : (i : Instance) (port : PortRef) (c : ℕ) → reader_of i port ≡ Some c → Reader i port c
reader i (ports.Cell d m) c e =
    let found = if_some (nat_lt m (reads_at (cell_at (cells_of i) d))) d c e in
    subst (λ x. Reader i (ports.Cell d m) x) found.1 (reader_at i d m (cell_at (cells_of i) d) refl found.0)
reader i (ports.Input n) c e = absurd (cc)
reader i (ports.Output n) c e = absurd (cc)
reader i (ports.Done g) c e = absurd (cc)
reader i (ports.Literal w v) c e = absurd (cc)

pub reader_is : (i : Instance) (c m : ℕ) (row : Row) → cell_at (cells_of i) c ≡ OfRow row → nat_lt m (read_count row.ports) ≡ true → reader_of i (ports.Cell c m) ≡ Some c
reader_is i c m row e h = ap (λ at. cond (nat_lt m (reads_at at)) (Some c) None) e ∙ ap (λ b. cond b (Some c) None) h

pub reader_within : (i : Instance) (port : PortRef) (c : ℕ) → reader_of i port ≡ Some c → c < cell_count (cells_of i)
reader_within i port c e = let r = reader i port c e in row_within (cells_of i) c r.row r.row_is

-- a cell that is waited for is there
side_within : (bound c : ℕ) (side : Side) → c < bound → IsWithin bound (side_basis c side)
side_within bound c sides.Enable h = tt
side_within bound c sides.Plain h = tt
side_within bound c sides.Output h = h
side_within bound c sides.Registered h = tt

part_port_within : (bound : ℕ) (port : PartPort) → IsWithin bound (part_basis port)
part_port_within bound Go = tt
part_port_within bound (AnInput n) = tt
part_port_within bound (AnOutput n) = tt
part_port_within bound ItsDone = tt

at_within : (i : Instance) (c p : ℕ) (at : At) → cell_at (cells_of i) c ≡ at → IsWithin (cell_count (cells_of i)) (cell_basis c p at)
at_within i c p Nothing e = tt
at_within i c p (OfRow row) e = side_within (cell_count (cells_of i)) c (side_of row p) (row_within (cells_of i) c row e)
at_within i c p (OfInstance child) e = part_port_within (cell_count (cells_of i)) (part_port (part_of child) p)

input_within : (bound : ℕ) (inputs : Bool) → IsWithin bound (input_basis inputs)
input_within bound true = tt
input_within bound false = tt

pub basis_within : (i : Instance) (inputs : Bool) (port : PortRef) → IsWithin (cell_count (cells_of i)) (basis_of i inputs port)
basis_within i inputs (ports.Cell c p) = at_within i c p (cell_at (cells_of i) c) refl
basis_within i inputs (ports.Input n) = input_within (cell_count (cells_of i)) inputs
basis_within i inputs (ports.Output n) = tt
basis_within i inputs (ports.Done g) = tt
basis_within i inputs (ports.Literal w v) = tt
