use Rattle.std.proofs.Common.{length}
use Rattle.cx_graphs.specs.Tallies.{IsClear}
use Rattle.cx_rules.specs.Ports.{component_of}
use Rattle.cx_design.specs.PlainDesigns.{plain_design}
use Rattle.cx_shape_calls.specs.StaticInvokes.{AreMarksOf}
use Rattle.cx_shape_calls.proofs.invokes.marks.Given as goal

-- the static invokes so far, and the tally is empty
abbrev pub invariant-loop-place : goal.invariant-loop-place
invariant-loop-place l = AreMarksOf (component_of (plain_design l.design) l.number) l.place l.marks.items × IsClear (length l.links) l.tally.owners.items l.tally.touched.items
