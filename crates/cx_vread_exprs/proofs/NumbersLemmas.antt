-- Facts of what `Numbers` defines, that several crates above take.
use Rattle.std.proofs.Common.{◌≡◌, ℕ, ◌≤◌, arith, ⊎_elim}
use Rattle.cx_vread_exprs.specs.Numbers.{IsBase}

pub two_least : (base : ℕ) → IsBase base → 2 ≤ base
two_least base one = ⊎_elim (λ ten. let e : base ≡ 10 = ten in omega arith) (λ sixteen. let e : base ≡ 16 = sixteen in omega arith) one
