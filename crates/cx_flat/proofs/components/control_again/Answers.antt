use Rattle.std.proofs.Common.{◌≡◌, ◌∙◌, ap}
use Rattle.std.proofs.lemmas.Result.{IfOk-weaker}
use Rattle.cx_design.specs.PlainForms.{plain_statement}
use Rattle.cx_flattening.specs.Flattened.{flat_statement}
use Rattle.cx_flat.specs.Callers.{kids_in, part_of}
use Rattle.cx_flat.specs.Controls.{inlined_at, statement_by}
use Rattle.cx_flat.proofs.ControlLemmas.{statement-is}
use Rattle.cx_flat.proofs.InvokeLemmas.{own_map}
use Rattle.cx_flat.proofs.components.control_again.Goals as goal

pub returns : goal.returns
returns c =
    let kids = kids_in c.args.caller in
    let part = part_of c.args.caller in
    record {
      value = IfOk-weaker c.flat_statement_again.result _ (λ s. plain_statement s ≡ flat_statement kids part part.control)
          (λ s is. is ∙ ap (λ move. statement_by move (inlined_at kids part) part.control) (own_map kids part c.args.caller.stands.now c.requires.caller) ∙ statement-is kids part part.control)
          c.flat_statement_again.ensures.value;
    }
