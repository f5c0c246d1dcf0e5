use Rattle.std.proofs.Common.{◌≡◌, ◌++◌, drop, map}
use Rattle.cx_design.specs.PlainForms.{plain_assign}
use Rattle.cx_static.proofs.copies.copied_assigns.Given as goal

-- the copies so far, and those of the parts that are left, are all
abbrev pub invariant-loop-assign : goal.invariant-loop-assign
invariant-loop-assign l = map plain_assign l.copies.items ++ map plain_assign (drop l.assign-index l.assigns) ≡ map plain_assign l.assigns
