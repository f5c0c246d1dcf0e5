use Rattle.std.proofs.Common.{◌≡◌, ◌∙◌}
use Rattle.std.proofs.lemmas.Result.{IfOk-weaker}
use Rattle.cx_design.specs.PlainForms.{plain_statement}
use Rattle.cx_rewrites.specs.Moving.{moved_statement}
use Rattle.cx_design_copies.proofs.MoveLemmas.{statement-stays}
use Rattle.cx_design_copies.proofs.control.moved_statement.Goals as goal

pub returns : goal.returns
returns g c = record {
  value = IfOk-weaker c.copied_statement.result _ (λ s. plain_statement s ≡ moved_statement (g.M.PortMoves.moving c.args.moves.now) (plain_statement c.args.statement.now))
      (λ s is. is ∙ statement-stays (g.M.PortMoves.moving c.args.moves.now) (plain_statement c.args.statement.now))
      c.copied_statement.ensures.value;
}
