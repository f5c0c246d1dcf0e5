use Rattle.std.proofs.Common.{◌≡◌, drop, map}
use Rattle.cx_design.specs.PlainForms.{plain_assigns, plain_cell}
use Rattle.cx_profile.specs.Counted as specs
use Rattle.cx_profile.proofs.counted.calls.Given as goal

-- none so far drives such a port
abbrev pub invariant-loop-assign : goal.invariant-loop-assign
invariant-loop-assign l = specs.calls (map plain_cell l.cells) (plain_assigns (drop l.assign-index l.assigns)) ≡ specs.calls (map plain_cell l.cells) (plain_assigns l.assigns)
