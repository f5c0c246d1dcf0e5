use Rattle.std.proofs.Common.{◌≡◌, ◌≤◌, List, length, drop}
use Rattle.cx_meaning.specs.Active.{Owned}
use Rattle.cx_meaning.specs.Instances.{Instance}
use Rattle.cx_meaning.specs.Sights.{Look}
use Rattle.cx_eval_drives.specs.Drives.{drive_of, offset_by}
use Rattle.cx_eval_network.specs.Evaluated.{Agree}
use Rattle.cx_eval_network.specs.Planned.{StandFor}
use Rattle.cx_eval_network.proofs.evaluating.driven_found.Given as goal

-- the drive has what the assignments behind come to
abbrev pub invariant-loop-left : goal.invariant-loop-left
invariant-loop-left l = record {
  within : l.left ≤ length l.plan.assigns.items;
  drive : (i : Instance) (owned : List Owned) (look : Look) → StandFor i l.plan.assigns.items owned → Agree i look l.own → l.drive ≡ drive_of look (offset_by l.active) (drop l.left owned);
}

abbrev pub decreases-loop-left : goal.decreases-loop-left
decreases-loop-left l = l.left
