-- WHAT A COUNTER'S CELLS COME TO in a cycle: the register takes what stands at its input where it is enabled, and rests where it is not;
-- the adder has no state.
use Rattle.std.proofs.Common.{◌≡◌, ℕ, ◌+◌, ◌^◌, ◌%◌, Bool, true, false, [], ◌∷◌, refl}
use Rattle.cx_prim.specs.CellStates.{CellState, Register}
use Rattle.cx_prim.specs.Rows.{Row}
use Rattle.cx_prim.specs.Table.{row_of}
use Rattle.cx_prim.specs.declared.names.PrimitiveName.TheVariants as primitives
use Rattle.cx_meaning.specs.declared.ports.PortRef.TheVariants as ports
use Rattle.cx_meaning.specs.declared.sights.Seen.{Seen}
use Rattle.cx_meaning.specs.declared.sights.Seen.TheVariants.{Value}
use Rattle.cx_meaning.specs.Sights.{Look, gather, bit_of, output_seen}
use Rattle.cx_meaning.specs.Cycles.{Next, cell_outcome}
use Rattle.cx_profiling.proofs.RestLemmas.{counter_row}

abbrev pub number : ℕ → ℕ → Seen
number width value = Value (record { width = width; value = value })

abbrev pub adder_row : Row
adder_row = row_of (record { name = primitives.Add; numbers = 64 ∷ [] })

-- enabled
pub register_counts : (look : Look) (c old new : ℕ) (done : Bool) → look (ports.Cell c 1) ≡ number 1 1 → look (ports.Cell c 0) ≡ number 64 new
    → cell_outcome look c counter_row (Register old done) ≡ Next (Register new true)
register_counts look c old new done enabled data_in = rw (enabled, data_in, enabled) refl

-- at rest
pub register_rests : (look : Look) (c old : ℕ) (done : Bool) → look (ports.Cell c 1) ≡ bit_of false → cell_outcome look c counter_row (Register old done) ≡ Next (Register old false)
register_rests look c old done enabled = rw (enabled, enabled) refl

pub adder_goes : (look : Look) (c : ℕ) (state : CellState) → cell_outcome look c adder_row state ≡ Next state
adder_goes look c state = refl

-- the sum that the adder shows
pub adder_shows : (look : ℕ → Seen) (state : CellState) (a b : ℕ) → look 0 ≡ number 64 a → look 1 ≡ number 64 b
    → output_seen (λ inputs. adder_row.output state inputs 2) (gather look (adder_row.reads 2) 0 adder_row.ports) ≡ number 64 ((a + b) % 2 ^ 64)
adder_shows look state a b left right = rw (left, right) refl
