use Rattle.std.proofs.Common.{◌≡◌, map}
use Rattle.std.specs.List.{range_with_len}
use Rattle.cx_design.specs.PlainDesigns.{plain_design}
use Rattle.cx_flattening.specs.FlatDesign.{is_reached}
use Rattle.cx_flat.proofs.flattening.dynamic_marks.Given as goal

abbrev pub invariant-loop-number : goal.invariant-loop-number
invariant-loop-number l = l.marks.items ≡ map (is_reached (plain_design l.design)) (range_with_len 0 l.number)
