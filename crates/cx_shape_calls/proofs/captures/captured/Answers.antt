use Rattle.std.proofs.Common.{◌≡◌, rules, ◌∙◌, [], ap, drop, map, sym, arith}
use Rattle.std.proofs.Math.ListN.{drop_of_length-le}
use Rattle.cx_design.specs.PlainForms.{plain_assign, plain_assigns, plain_component}
use Rattle.cx_shape_calls.specs.Forms.{registers_in}
use Rattle.cx_shape_calls.proofs.CaptureLemmas.{registers_captured}
use Rattle.cx_shape_calls.proofs.captures.captured.Goals as goal

pub returns : goal.returns
returns c =
    let part = plain_component c.args.component.now in
    let assigns = c.args.assigns.now in
    let all : c.in_ok-collect.field-0.items ≡ c.loop-assign.found.keys = search rules in
    let gone : drop c.loop-assign.assign-index assigns ≡ [] = drop_of_length-le assigns (omega arith) in
    record {
      value = all ∙ ap (λ l. registers_in part c.loop-assign.found.keys (map plain_assign l)) (sym gone) ∙ c.loop-assign.invariant ∙ registers_captured part (plain_assigns assigns);
    }
