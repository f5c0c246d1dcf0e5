use Rattle.cx_design.specs.PlainDesigns.{plain_design}
use Rattle.cx_flat.specs.Flats.{AreKidsTo}
use Rattle.cx_flat.proofs.flattening.kids_in_order.Given as goal

abbrev pub invariant-loop-place : goal.invariant-loop-place
invariant-loop-place l = AreKidsTo (plain_design l.design) l.order l.lasts l.place l.kids.items
