use Rattle.cx_holes.proofs.RenamedFits.{inlined_no_holes}
use Rattle.cx_holes.proofs.RenamedNames.{inlined_names}
use Rattle.cx_holes.proofs.laws.inlining_leaves_no_hole.Goals as goal

pub returns : goal.returns
returns c = record { none = inlined_no_holes; names = inlined_names }
