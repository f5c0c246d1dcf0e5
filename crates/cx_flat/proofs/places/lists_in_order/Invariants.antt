use Rattle.cx_design.specs.PlainDesigns.{plain_design}
use Rattle.cx_flat.specs.Flats.{AreKidsTo}
use Rattle.cx_flat.specs.Places.{ArePlacesTo}
use Rattle.cx_flat.proofs.places.lists_in_order.Given as goal

abbrev pub invariant-loop-place : goal.invariant-loop-place
invariant-loop-place l = record {
  kids : AreKidsTo (plain_design l.design) l.order l.lasts l.place l.kids.items;
  lists : ArePlacesTo (plain_design l.design) l.order l.place l.lists.items;
}
