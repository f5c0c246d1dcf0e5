use Rattle.std.proofs.Common.{length, refl, sym, ap, ◌∙◌}
use Rattle.std.proofs.lemmas.Option.{slice_get_read}
use Rattle.std.specs.Prelude.{slice_get}
use Rattle.cx_eval.proofs.known.ports_at.Goals as goal

pub returns-in-Some : goal.returns-in-Some
returns-in-Some c =
    let cells = c.args.cells.now in
    let known = c.in-Some.known.now in
    let there = c.in-Some.ensures.lookup.3 in
    record {
      value = λ p source at. (known, slice_get_read cells (length cells) c.args.place known refl there.0 (there.1 known), c.if-known-cell.true, ap (λ xs. slice_get xs p) (sym c.deref.ensures.value) ∙ at);
    }
