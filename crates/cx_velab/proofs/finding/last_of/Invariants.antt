use Rattle.std.proofs.Common.{◌≡◌, length, reverse}
use Rattle.cx_vtree.specs.PlainParts.{plain_modules}
use Rattle.cx_velab.specs.Trees.{found_from}
use Rattle.cx_velab.proofs.finding.last_of.Given as goal

abbrev pub invariant-loop-last : goal.invariant-loop-last
invariant-loop-last l = found_from (reverse (plain_modules l.modules)) l.kind ≡ found_from (reverse (plain_modules l.before)) l.kind

abbrev pub decreases-loop-last : goal.decreases-loop-last
decreases-loop-last l = length l.before
