use Rattle.std.proofs.Common.{◌≡◌, take, length}
use Rattle.cx_cells.proofs.numbers.padded.Given as goal

abbrev pub invariant-loop-place : goal.invariant-loop-place
invariant-loop-place g l = (take l.place l.all ≡ take l.place l.numbers) × (length l.all ≡ g.row.N)
