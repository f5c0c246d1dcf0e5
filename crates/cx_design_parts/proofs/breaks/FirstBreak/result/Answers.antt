use Rattle.std.proofs.Common.{ap, sym, ◌∙◌, subst}
use Rattle.cx_design_parts.specs.Answers.{IsAnswer, answer_of}
use Rattle.cx_design_parts.proofs.First.{first_answers}
use Rattle.cx_design_parts.proofs.breaks.FirstBreak.result.Goals as goal

pub returns : goal.returns
returns c = record {
  value = c.answer.ensures;
  answer = λ stage d found breaks e. subst (IsAnswer stage d) (sym (c.answer.ensures ∙ ap answer_of e)) (first_answers stage d found breaks);
}
