use Rattle.std.proofs.Common.{◌≡◌, ◌+◌, cond, drop, length}
use Rattle.cx_rules.specs.CallShape.{with_target}
use Rattle.cx_design.specs.PlainForms.{plain_assigns}
use Rattle.cx_promote.proofs.starts.is_driven_once.Given as goal

-- those that drive the port: the one that was met, and those that are left
abbrev pub invariant-loop-assign : goal.invariant-loop-assign
invariant-loop-assign l =
    cond l.driven 1 0 + length (with_target l.port (plain_assigns (drop l.assign-index l.assigns))) ≡ length (with_target l.port (plain_assigns l.assigns))
