use Rattle.std.proofs.Common.{◌≡◌, ℕ, ◌*◌, ◌<◌, false, get_or, map}
use Rattle.cx_design.specs.PlainForms.{plain_component}
use Rattle.cx_sharing.specs.Giving.{takes}
use Rattle.cx_share.specs.Givings.{no_kept, plain_kept}
use Rattle.cx_share.proofs.giving.first_taker.Given as goal

-- none of those that were passed takes the cell
abbrev pub invariant-loop-block : goal.invariant-loop-block
invariant-loop-block l = (k : ℕ) → k < l.block * 64 → takes (plain_component l.part) l.cell (get_or (map plain_kept l.kept) k no_kept) ≡ false
