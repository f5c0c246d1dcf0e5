use Rattle.std.proofs.Common.{◌≤◌, List, length, drop}
use Rattle.cx_meaning.specs.Active.{Owned}
use Rattle.cx_meaning.specs.Instances.{Instance}
use Rattle.cx_meaning.specs.Sights.{Look}
use Rattle.cx_design.specs.declared.actives.Active.{Active}
use Rattle.cx_eval_drives.specs.Drives.{drive_of, offset_by}
use Rattle.cx_eval_network.specs.declared.marks.NodeMark.{NodeMark}
use Rattle.cx_eval_network.specs.Evaluated.{Agree}
use Rattle.cx_eval_network.specs.Lists.{ActsAs, IsSole}
use Rattle.cx_eval_network.specs.Planned.{StandFor}
use Rattle.cx_eval_network.proofs.soles.sole_of.Given as goal

-- what is active of those behind
abbrev pub invariant-loop-left : goal.invariant-loop-left
invariant-loop-left l = record {
  within : l.left ≤ length l.assigns;
  sole : (other : Active) → ActsAs l.active other → (i : Instance) (owned : List Owned) (look : Look) (own : List NodeMark) → StandFor i l.assigns owned → Agree i look own → IsSole own l.sole (drive_of look (offset_by other) (drop l.left owned));
}

abbrev pub decreases-loop-left : goal.decreases-loop-left
decreases-loop-left l = l.left
