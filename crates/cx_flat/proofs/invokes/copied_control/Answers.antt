use Rattle.std.proofs.Common.{◌≡◌, ◌∙◌, ◌+◌}
use Rattle.std.proofs.lemmas.Result.{IfOk-weaker}
use Rattle.cx_meaning.specs.Control.{groups_of}
use Rattle.cx_design.specs.PlainForms.{plain_component, plain_invoke, plain_statement}
use Rattle.cx_flattening.specs.Copies.{copied_statement, enabled_below}
use Rattle.cx_flattening.specs.Flattened.{invoke_port}
use Rattle.cx_flat.specs.Callers.{kids_in, part_of}
use Rattle.cx_flat.specs.Maps.{map_by}
use Rattle.cx_flat.proofs.InvokeLemmas.{copied_by}
use Rattle.cx_flat.proofs.invokes.copied_control.Goals as goal

pub returns : goal.returns
returns c =
    let child = plain_component c.args.child.now in
    let move = invoke_port (kids_in c.args.caller) (part_of c.args.caller) child (plain_invoke c.args.invoke.now) in
    let same : map_by c.in_ok-moves.moves ≡ move = c.in_ok-moves.ensures.value child c.requires.child in
    record {
      value = IfOk-weaker c.copied_statement.result _ (λ s. plain_statement s ≡ copied_statement move (λ g. c.args.first + enabled_below (groups_of child.control) g) child.control)
          (λ s is. is ∙ copied_by (map_by c.in_ok-moves.moves) move c.args.first c.in_ok-enabled.enabled (groups_of child.control) child.control same c.in_ok-enabled.ensures.value)
          c.copied_statement.ensures.value;
    }
