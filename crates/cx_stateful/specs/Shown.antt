-- The states that the program holds, as plain data.
use Rattle.std.specs.Prelude.{ℕ, List, take}
use Rattle.cx_prim.specs.CellStates as plain
use Rattle.cx_stateful.specs.declared.register.RegisterState.{RegisterState}
use Rattle.cx_stateful.specs.declared.memory.MemoryState.{MemoryState}
use Rattle.cx_stateful.specs.declared.sequential.SequentialState.{SequentialState}
use Rattle.cx_stateful.specs.declared.run.Run.{Run}
use Rattle.cx_stateful.specs.declared.multiplier.MultiplierState.{MultiplierState}
use Rattle.cx_stateful.specs.declared.divider.DividerState.{DividerState}
use Rattle.cx_stateful.specs.declared.timer.TimerState.{TimerState}

abbrev pub register_shown : RegisterState → plain.CellState
register_shown s = plain.Register s.value s.done

abbrev pub memory_shown : MemoryState → plain.CellState
memory_shown s = plain.Memory s.words.items s.done

abbrev pub sequential_shown : SequentialState → plain.CellState
sequential_shown s = plain.SequentialMemory s.words.items s.read_data s.done

abbrev pub run_shown : Run → plain.PipeRun
run_shown r = record { count = r.count; left = r.left; right = r.right; done = r.done }

abbrev pub multiplier_shown : MultiplierState → plain.CellState
multiplier_shown s = plain.Multiplier (run_shown s.run) s.product

abbrev pub divider_shown : DividerState → plain.CellState
divider_shown s = plain.Divider (run_shown s.run) s.quotient s.remainder

abbrev pub timer_shown : TimerState → plain.CellState
timer_shown s = plain.Timer s.count s.done
