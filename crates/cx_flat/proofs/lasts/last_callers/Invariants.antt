use Rattle.cx_design.specs.PlainDesigns.{plain_design}
use Rattle.cx_flat.specs.Lasts.{AreLasts}
use Rattle.cx_flat.proofs.lasts.last_callers.Given as goal

abbrev pub invariant-loop-place : goal.invariant-loop-place
invariant-loop-place l = AreLasts (plain_design l.design) l.order l.place l.lasts.items
