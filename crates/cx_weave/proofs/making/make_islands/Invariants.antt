use Rattle.std.proofs.Common.{◌≡◌, ◌≤◌}
use Rattle.std.specs.Prelude.{All, vec_capacity, vec_len}
use Rattle.cx_weave.proofs.making.make_islands.Given as goal

abbrev pub invariant-loop-island : goal.invariant-loop-island
invariant-loop-island l = (vec_len l.islands ≡ l._island) × All (λ lists. l.most ≤ vec_capacity lists.cells) l.islands.items × All (λ lists. l.ifs ≤ vec_len lists.samples) l.islands.items
