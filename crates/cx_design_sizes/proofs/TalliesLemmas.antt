-- Facts of what `Tallies` defines, that several crates above take.
use Rattle.std.proofs.Common.{◌≡◌}
use Rattle.cx_design_sizes.specs.declared.tallies.LimitTally.{LimitTally}

pub tally_eq : (a b : LimitTally) → a.instances ≡ b.instances → a.depth ≡ b.depth → a.words ≡ b.words → a.weight ≡ b.weight → a ≡ b
tally_eq a b e f g h = λ i. record { instances = e i; depth = f i; words = g i; weight = h i }
