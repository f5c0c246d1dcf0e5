use Rattle.std.proofs.Common.{take}
use Rattle.cx_share.specs.Givings.{Put}
use Rattle.cx_share.proofs.giving.put_keeper.Given as goal

-- the first of the given cells have their keeper
abbrev pub invariant-loop-given : goal.invariant-loop-given
invariant-loop-given l = Put l.kept.cell (take l.given-index l.kept.given.items) l.initial.keepers.items l.keepers.items
