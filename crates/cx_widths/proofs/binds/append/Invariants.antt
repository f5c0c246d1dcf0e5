use Rattle.std.proofs.Common.{◌≡◌, ◌++◌, drop}
use Rattle.cx_design.specs.PlainForms.{plain_assigns}
use Rattle.cx_widths.specs.Binds.{plain_binds}
use Rattle.cx_widths.proofs.binds.append.Given as goal

-- what is added so far, and the inputs that are left, are all
abbrev pub invariant-loop-assign : goal.invariant-loop-assign
invariant-loop-assign l = plain_binds l.list.items ++ plain_assigns (drop l.assign-index l.assigns) ≡ plain_binds l.initial.list.items ++ plain_assigns l.assigns
