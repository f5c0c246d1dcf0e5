use Rattle.std.proofs.Common.{◌≡◌, codes, sym, ◌∙◌}
use Rattle.std.specs.Cmp.Lexicographic.{same_text}
use Rattle.cx_commands.proofs.CommandLemmas.{two_items}
use Rattle.cx_commands.proofs.commands.trial_of.Goals as goal

pub returns-in_ok-seed-in-len2 : goal.returns-in_ok-seed-in-len2
returns-in_ok-seed-in-len2 c =
    let words = two_items c.args.words.now c.name-item.result c.digits-item.result c.in-len2.len_at_least c.in-len2.len_below c.name-item.is c.digits-item.is in
    let spelled : c.bytes.result.now ≡ codes "trial" = same_text _ _ (sym c.if-eq.true ∙ c.eq.ensures) ∙ c.as_slice.ensures in
    let name = c.bytes.ensures.value in
    let digits = c.bytes-in-len2.ensures.value in
    (c.bytes-in-len2.result.now, cc, c.in_ok-seed-in-len2.ensures)
