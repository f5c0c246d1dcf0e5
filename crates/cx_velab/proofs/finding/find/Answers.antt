use Rattle.std.proofs.Common.{◌≡◌, ◌<◌, Some, None, length, reverse, take, ap, sym, ◌∙◌, subst}
use Rattle.cx_vtree.specs.PlainParts.{plain_module, plain_modules}
use Rattle.cx_vtree.specs.NameNumbers.{number_by}
use Rattle.cx_velab.specs.Trees.{found_from}
use Rattle.cx_velab.proofs.FoundLemmas.{absent, last_small, last_found, walked}
use Rattle.cx_text.proofs.ListLaws.{length-map}
use Rattle.cx_velab.proofs.finding.find.Goals as goal

pub returns-in_default : goal.returns-in_default
returns-in_default c =
    let is : None ≡ number_by c.args.last.now c.args.kind.now = c.in_default.ensures.value in
    absent c.args.last.now (plain_modules c.args.modules.now) c.args.kind.now c.requires c.args.count is

pub module_at-requires : goal.module_at-requires
module_at-requires c =
    let is : Some c.in-Some.number.now ≡ number_by c.args.last.now c.args.kind.now = c.in-Some.ensures.value in
    let small = last_small c.args.last.now (plain_modules c.args.modules.now) c.args.kind.now c.requires c.in-Some.number.now is in
    subst (λ n. c.in-Some.number.now < n) (length-map plain_module c.args.modules.now) small

pub returns-then-number-count : goal.returns-then-number-count
returns-then-number-count c =
    let is : Some c.in-Some.number.now ≡ number_by c.args.last.now c.args.kind.now = c.in-Some.ensures.value in
    last_found c.args.last.now (plain_modules c.args.modules.now) c.args.kind.now c.requires c.in-Some.number.now is
    c.args.count (plain_module c.module_at.result.now) c.if-number-count.true c.module_at.ensures

pub returns-in-None : goal.returns-in-None
returns-in-None c = c.in-None.ensures ∙ ap (λ l. found_from (reverse l) c.args.kind.now) c.first.ensures

pub returns-in-Some-last_of : goal.returns-in-Some-last_of
returns-in-Some-last_of c =
    let e : Some (plain_module c.in-Some-last_of.module.now, reverse (plain_modules c.in-Some-last_of.before.now)) ≡ found_from (reverse (take c.args.count (plain_modules c.args.modules.now))) c.args.kind.now =
    c.in-Some-last_of.ensures ∙ ap (λ l. found_from (reverse l) c.args.kind.now) c.first.ensures in
    walked (plain_modules c.args.modules.now) c.args.kind.now c.args.count (plain_module c.in-Some-last_of.module.now) (plain_modules c.in-Some-last_of.before.now) (length c.in-Some-last_of.before.now) e
    (sym (length-map plain_module c.in-Some-last_of.before.now))
