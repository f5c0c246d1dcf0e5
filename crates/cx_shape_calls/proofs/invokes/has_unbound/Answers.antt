use Rattle.std.proofs.Common.{◌∙◌, ap, not}
use Rattle.std.specs.List.{list_any}
use Rattle.cx_design.specs.PlainForms.{plain_assigns}
use Rattle.cx_shape_calls.proofs.BoundLemmas.{some_mark}
use Rattle.cx_shape_calls.proofs.invokes.has_unbound.Goals as goal

pub returns : goal.returns
returns c = record {
  value =
      c.is_one_unset.ensures.value ∙ ap (list_any not) c.as_slice.ensures.value
      ∙ some_mark c.args.cell (plain_assigns c.args.inputs.now) c.args.count c.in_ok-marks.marks.items c.in_ok-marks.ensures.value;
}
