use Rattle.std.proofs.Common.{◌<◌, length, ap, arith}
use Rattle.std.proofs.lemmas.Grind.{common_steps}
use Rattle.cx_design.specs.PlainForms.{plain_kind}
use Rattle.cx_state.proofs.tables.place.Goals as goal

pub offset_bounds-rows-next : goal.offset_bounds-rows-next
offset_bounds-rows-next c = let l : c.args.next < length c.args.rows.now = c.requires.within c.in-Part.component (ap plain_kind c.in-Part.is) in grind (arith, common_steps)

pub bounds-rows-next : goal.bounds-rows-next
bounds-rows-next c = c.requires.within c.in-Part.component (ap plain_kind c.in-Part.is)
