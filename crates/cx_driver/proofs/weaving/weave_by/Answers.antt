use Rattle.std.proofs.Common.{◌≡◌, ◌<◌, length, IfOk, IfErr, sym, ◌∙◌, subst}
use Rattle.cx_commands.specs.Lists.{numbers_in}
use Rattle.cx_driver.specs.Weaving.{IsWeaveStop, IsWovenAnswer}
use Rattle.cx_driver.proofs.WovenLemmas.{some_number}
use Rattle.cx_driver.proofs.weaving.weave_by.Goals as goal

pub weave-requires-clause-some : goal.weave-requires-clause-some
weave-requires-clause-some c =
    let same : c.deref.result.now ≡ numbers_in c.args.word.now = c.deref.ensures.value ∙ c.in_ok-list.ensures.numbers in
    subst (λ xs. 0 < length xs) (sym same) (some_number c.args.word.now)

pub returns : goal.returns
returns c =
    let same : c.deref.result.now ≡ numbers_in c.args.word.now = c.deref.ensures.value ∙ c.in_ok-list.ensures.numbers in
    record {
      answer = subst (λ list. IfOk c.weave.result (λ told. IsWovenAnswer c.args.text.now c.args.json.now c.args.steps list told.items)) same c.weave.ensures.answer;
      cause = subst (λ list. IfErr c.weave.result (IsWeaveStop c.args.text.now c.args.json.now c.args.steps list)) same c.weave.ensures.cause;
    }
