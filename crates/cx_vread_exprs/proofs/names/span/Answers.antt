use Rattle.std.proofs.Common.{◌≡◌, ◌-◌, ◌≤◌, length, take, sym, subst}
use Rattle.cx_vtree.specs.Layout.{is_name_byte}
use Rattle.cx_text.specs.Spans.{front}
use Rattle.cx_text.proofs.SpanLemmas.{length-back-le, front_is_take}
use Rattle.cx_vread_exprs.proofs.names.span.Goals as goal

pub slice_bounds-result-count : goal.slice_bounds-result-count
slice_bounds-result-count c = subst (λ rest. length rest ≤ length c.args.text.now) (sym c.behind-rest.ensures) (length-back-le is_name_byte c.args.text.now)

pub returns-clause-front : goal.returns-clause-front
returns-clause-front c = subst (λ rest. take (length c.args.text.now - length rest) c.args.text.now ≡ front is_name_byte c.args.text.now) (sym c.behind-rest.ensures) (front_is_take is_name_byte c.args.text.now)
