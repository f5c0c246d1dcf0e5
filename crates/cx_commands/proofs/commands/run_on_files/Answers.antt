use Rattle.std.proofs.Common.{◌≡◌, sym, ◌∙◌}
use Rattle.std.specs.Cmp.Lexicographic.{same_text}
use Rattle.cx_commands.proofs.Four.{four_items}
use Rattle.cx_commands.proofs.commands.run_on_files.Goals as goal

pub returns-in_ok-budget-in-len4 : goal.returns-in_ok-budget-in-len4
returns-in_ok-budget-in-len4 c =
    let words = four_items c.args.words.now c.word-item.result c.first-item.result c.second-item.result c.digits-item.result c.in-len4.len_at_least c.in-len4.len_below c.word-item.is c.first-item.is c.second-item.is c.digits-item.is in
    let spelled : c.bytes.result.now ≡ c.args.name.now = same_text _ _ (sym c.if-eq.true ∙ c.eq.ensures) in
    let name = c.bytes.ensures.value in
    let first = c.bytes-in-len4-2.ensures.value in
    let second = c.bytes-in-len4-3.ensures.value in
    let digits = c.bytes-in-len4.ensures.value in
    (c.bytes-in-len4.result.now, cc, c.in_ok-budget-in-len4.ensures)
