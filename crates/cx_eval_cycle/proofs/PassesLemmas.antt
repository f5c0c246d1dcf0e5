-- Facts of what `Passes` defines, that several crates above take.
use Rattle.std.proofs.Common.{◌≡◌, ℕ, zero, suc, ◌≤◌, List, [], ◌∷◌, length, None, refl, arith}
use Rattle.cx_meaning.specs.Designs.{PlainCell}
use Rattle.cx_eval_cycle.specs.Passes.{kind_at}

pub no_kind : (cells : List PlainCell) (c : ℕ) → length cells ≤ c → kind_at cells c ≡ None
no_kind [] c le = refl
no_kind (cell ∷ cells) zero le = absurd (omega (arith, le))
no_kind (cell ∷ cells) (suc c) le = no_kind cells c (omega (arith, le))
