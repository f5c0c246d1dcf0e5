use Rattle.std.proofs.Common.{◌≡◌, List}
use Rattle.cx_design.specs.PlainDesigns.{plain_design}
use Rattle.cx_design_parts.specs.Answers.{AreBreaksBy}
use Rattle.cx_design_parts.specs.Breaks.{Broken, first_of}
use Rattle.cx_shape_calls.specs.CallBreaks.{Before}
use Rattle.cx_shape_calls.proofs.checking.add_breaks.Given as goal

-- the breaks of the components so far
abbrev pub invariant-loop-number : goal.invariant-loop-number
invariant-loop-number l = (found : List Broken) × AreBreaksBy (Before (plain_design l.design) l.number) found × (l.first ≡ first_of l.initial.first found)
