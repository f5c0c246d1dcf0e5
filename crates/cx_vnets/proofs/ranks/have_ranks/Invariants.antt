use Rattle.cx_vnets.specs.Readers.{HaveRanks}
use Rattle.cx_vnets.proofs.ranks.have_ranks.Given as goal

abbrev pub invariant-loop-rank : goal.invariant-loop-rank
invariant-loop-rank l = HaveRanks l.order l.ranks l.rank
