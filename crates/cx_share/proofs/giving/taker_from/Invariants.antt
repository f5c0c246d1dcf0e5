use Rattle.std.proofs.Common.{◌≡◌, ℕ, ◌<◌, ◌≤◌, false, get_or, map}
use Rattle.cx_design.specs.PlainForms.{plain_component}
use Rattle.cx_sharing.specs.Giving.{takes}
use Rattle.cx_share.specs.Givings.{no_kept, plain_kept}
use Rattle.cx_share.proofs.giving.taker_from.Given as goal

-- none so far takes the cell
abbrev pub invariant-loop-number : goal.invariant-loop-number
invariant-loop-number l = (k : ℕ) → l.from ≤ k → k < l.number → takes (plain_component l.part) l.cell (get_or (map plain_kept l.kept) k no_kept) ≡ false
