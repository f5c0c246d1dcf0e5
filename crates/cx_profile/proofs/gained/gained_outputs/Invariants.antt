use Rattle.std.proofs.Common.{◌≡◌, length, map}
use Rattle.std.specs.List.{range_with_len}
use Rattle.cx_design.specs.PlainDesigns.{plain_design}
use Rattle.cx_profiling.specs.Instrumented as instrumented
use Rattle.cx_profile.proofs.gained.gained_outputs.Given as goal

abbrev pub invariant-loop-number : goal.invariant-loop-number
invariant-loop-number l = record {
  end : l.number-end ≡ length l.design.components.items;
  outputs : l.outputs.items ≡ map (instrumented.gained (plain_design l.design)) (range_with_len 0 l.number);
}
