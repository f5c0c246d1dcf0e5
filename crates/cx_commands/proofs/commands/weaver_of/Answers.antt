use Rattle.std.proofs.Common.{◌≡◌, [], ◌∷◌, codes, sym, ◌∙◌}
use Rattle.std.specs.Cmp.Lexicographic.{same_text}
use Rattle.cx_commands.proofs.CommandLemmas.{weaves_as}
use Rattle.cx_commands.proofs.Five.{five_items}
use Rattle.cx_commands.proofs.commands.weaver_of.Goals as goal

pub returns-in_ok-steps-in-len5 : goal.returns-in_ok-steps-in-len5
returns-in_ok-steps-in-len5 c =
    let words = five_items c.args.words.now c.name-item.result c.design-item.result c.json-item.result c.digits-item.result c.list-item.result c.in-len5.len_at_least c.in-len5.len_below c.name-item.is c.design-item.is c.json-item.is c.digits-item.is c.list-item.is in
    let spelled : c.bytes.result.now ≡ codes "weave" = same_text _ _ (sym c.if-eq.true ∙ c.eq.ensures) ∙ c.as_slice.ensures in
    let name = c.bytes.ensures.value in
    let digits = c.bytes-in-len5.ensures.value in
    let design = c.bytes-in-len5-2.ensures.value in
    let json = c.bytes-in-len5-3.ensures.value in
    let list = c.bytes-in-len5-4.ensures.value in
    weaves_as c.args.words.now c.bytes-in-len5-2.result.now c.bytes-in-len5-3.result.now c.bytes-in-len5.result.now c.bytes-in-len5-4.result.now c.in_ok-steps-in-len5.steps c.weaver_on.result (cc) c.in_ok-steps-in-len5.ensures c.weaver_on.ensures
