-- A state of a cell whose count is there is one of a timer.
use Rattle.std.proofs.Common.{◌≡◌, Some, refl}
use Rattle.cx_bits.specs.BitVector.{BitVector}
use Rattle.cx_prim.specs.CellStates.{CellState, Stateless, Register, Memory, SequentialMemory, Multiplier, Divider, Timer}
use Rattle.cx_prim.specs.PipeRows.{timer_output}
use Rattle.cx_net.specs.NetMeaning.{truth_bit}
use Rattle.cx_wiring_cycles.specs.Shown.{wide}
use Rattle.cx_wiring_cycles.specs.IslandNumbers.{count_in, done_bit}

-- a state whose count is there is one of a timer
pub record IsTimer (state : CellState) : Type 0 where
  pub is : state ≡ Timer (count_in state) (done_bit state)
  pub counts : timer_output state 1 ≡ Some (wide (count_in state))
  pub dones : timer_output state 2 ≡ Some (truth_bit (done_bit state))

pub is_timer : (state : CellState) (x : BitVector) → timer_output state 1 ≡ Some x → IsTimer state
is_timer (Timer count done) x e = record { is = refl; counts = refl; dones = refl }
is_timer Stateless x e = absurd cc
is_timer (Register value done) x e = absurd cc
is_timer (Memory words done) x e = absurd cc
is_timer (SequentialMemory words read done) x e = absurd cc
is_timer (Multiplier run product) x e = absurd cc
is_timer (Divider run quotient remainder) x e = absurd cc
