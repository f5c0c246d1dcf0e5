use Rattle.std.proofs.Common.{◌≡◌, ◌∙◌, Some, None, arith, sym}
use Rattle.std.specs.List.{slice_get}
use Rattle.std.proofs.lemmas.Grind.{common_steps}
use Rattle.std.proofs.lemmas.Option.{gets}
use Rattle.cx_flat.proofs.KidLemmas.{kid_there, kid_past, kid_seen}
use Rattle.cx_flat.proofs.kids.kid_of.Goals as goal

pub returns-in-Some : goal.returns-in-Some
returns-in-Some c =
    let at : slice_get c.args.table.now c.args.number ≡ Some c.in-Some.slot.now = grind (arith, common_steps, gets) in
    record { value = kid_seen c.as_ref.result c.in-Some.slot.now c.as_ref.ensures.value ∙ sym (kid_there c.args.table.now c.args.number c.in-Some.slot.now at) }

pub returns-in-None : goal.returns-in-None
returns-in-None c =
    let at : slice_get c.args.table.now c.args.number ≡ None = grind (arith, common_steps, gets) in
    record { value = sym (kid_past c.args.table.now c.args.number at) }
