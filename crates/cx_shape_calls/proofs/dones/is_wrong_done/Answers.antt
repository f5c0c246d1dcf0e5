use Rattle.std.proofs.Common.{rules, map}
use Rattle.cx_design.specs.PlainForms.{plain_assign}
use Rattle.cx_shape_calls.proofs.DoneLemmas.{first_is_told}
use Rattle.cx_shape_calls.proofs.dones.is_wrong_done.Goals as goal

pub returns-in_ok-is_right_done-in-Some : goal.returns-in_ok-is_right_done-in-Some
returns-in_ok-is_right_done-in-Some c = record {
  value = first_is_told c.args.called.now c.in-Some.callee.now c.args.captured.now (map (λ a. plain_assign a.now) c.args.dones.now) c.in_ok-is_right_done-in-Some.field-0 (search rules) (search rules) c.in_ok-is_right_done-in-Some.ensures.value;
}
