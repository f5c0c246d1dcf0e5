use Rattle.std.proofs.Common.{map, take}
use Rattle.cx_meaning.specs.Active.{offset_in}
use Rattle.cx_profiling.specs.Counting.{once}
use Rattle.cx_design.specs.PlainActives.{plain_entry}
use Rattle.cx_interp.specs.Counts.{GrowsAt, plain_counts}
use Rattle.cx_interp.proofs.counts.Counts.add_each.Given as goal

-- the groups of the entries so far are counted
abbrev pub invariant-loop-place : goal.invariant-loop-place
invariant-loop-place l = GrowsAt l.instance (λ g. once (offset_in (map plain_entry (take l.place l.entries)) g)) (plain_counts l.initial.self) (plain_counts l.self)
