use Rattle.std.proofs.Common.{◌≡◌, ◌++◌, length, map, reverse}
use Rattle.cx_velab.specs.Paths.{all_dotted, up}
use Rattle.cx_velab.specs.Rows.{placed_of}
use Rattle.cx_velab.proofs.paths.net_path.Given as goal

abbrev pub invariant-loop-at : goal.invariant-loop-at
invariant-loop-at l = l.path.items ++ all_dotted (map placed_of l.rows) (reverse l.chain.items) ≡ all_dotted (map placed_of l.rows) (reverse (up (map placed_of l.rows) l.instance l.instance))

abbrev pub decreases-loop-at : goal.decreases-loop-at
decreases-loop-at l = length l.chain.items
