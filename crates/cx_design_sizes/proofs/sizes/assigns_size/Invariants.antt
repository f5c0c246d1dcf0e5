use Rattle.std.proofs.Common.{◌≤◌, ◌-◌, ◌^◌, ◌≡◌, ◌+◌, drop}
use Rattle.cx_design.specs.PlainForms.{plain_assigns}
use Rattle.cx_rules.specs.Sizes as sizes
use Rattle.cx_design_sizes.specs.Capped.{capped}
use Rattle.cx_design_sizes.proofs.sizes.assigns_size.Given as goal

abbrev pub invariant-loop-assign : goal.invariant-loop-assign
invariant-loop-assign l = (capped (l.size + sizes.assigns_size (plain_assigns (drop l.assign-index l.assigns))) ≡ capped (sizes.assigns_size (plain_assigns l.assigns))) × (l.size ≤ 2 ^ 64 - 1)
