use Rattle.std.proofs.Common.{map, slice_get, ap, sym, ◌∙◌}
use Rattle.cx_velab.specs.Rows.{placed_of}
use Rattle.cx_vsim.proofs.tables.listed.Goals as goal

pub all_parts-requires-clause-can : goal.all_parts-requires-clause-can
all_parts-requires-clause-can c = λ i p at. c.requires.coded.can i p (ap (λ l. slice_get (map placed_of l) i) (sym c.deref-2.ensures.value) ∙ at)
