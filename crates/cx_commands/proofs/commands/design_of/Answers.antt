use Rattle.std.proofs.Common.{◌≡◌, sym, ◌∙◌}
use Rattle.std.specs.Cmp.Lexicographic.{same_text}
use Rattle.cx_commands.proofs.CommandLemmas.{two_items}
use Rattle.cx_commands.proofs.commands.design_of.Goals as goal

pub returns-in-len2 : goal.returns-in-len2
returns-in-len2 c =
    let words = two_items c.args.words.now c.word-item.result c.file-item.result c.in-len2.len_at_least c.in-len2.len_below c.word-item.is c.file-item.is in
    let spelled : c.bytes.result.now ≡ c.args.name.now = same_text _ _ (sym c.if-eq.true ∙ c.eq.ensures) in
    let name = c.bytes.ensures.value in
    let file = c.bytes-in-len2.ensures.value in
    cc
