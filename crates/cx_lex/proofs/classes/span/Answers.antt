use Rattle.std.proofs.Common.{◌≡◌, ◌-◌, ◌≤◌, length, take, sym, subst}
use Rattle.cx_lex.specs.Classes.{passes}
use Rattle.cx_text.specs.Spans.{front}
use Rattle.cx_text.proofs.SpanLemmas.{length-back-le, front_is_take}
use Rattle.cx_lex.proofs.classes.span.Goals as goal

pub slice_bounds-result-count : goal.slice_bounds-result-count
slice_bounds-result-count c = subst (λ rest. length rest ≤ length c.args.text.now) (sym c.behind-rest.ensures) (length-back-le (passes c.args.class) c.args.text.now)

pub returns-clause-front : goal.returns-clause-front
returns-clause-front c = subst (λ rest. take (length c.args.text.now - length rest) c.args.text.now ≡ front (passes c.args.class) c.args.text.now) (sym c.behind-rest.ensures) (front_is_take (passes c.args.class) c.args.text.now)
