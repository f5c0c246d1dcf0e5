-- Facts of what `BitVector` defines, that several crates above take.
use Rattle.std.proofs.Common.{◌≡◌, Option, Some, None}
use Rattle.cx_bits.specs.BitVector.{BitVector}
use Rattle.std.specs.Prelude.{Bool, true, false, if◌then◌else◌}

pub some_is : (v w : BitVector) → ◌≡◌ {A = Option BitVector} (Some v) (Some w) → v ≡ w
some_is v w e = cc

pub none_is : (o : Option BitVector) (b : BitVector) → o ≡ None → o ≡ Some b → ⊥
none_is o b e f = cc

pub none_some : (b : BitVector) → ◌≡◌ {A = Option BitVector} None (Some b) → ⊥
none_some b e = cc

pub some_read : (b : Bool) (a v : BitVector) → (if b then Some a else None) ≡ Some v → Some a ≡ Some v
some_read true a v h = h
some_read false a v h = absurd (cc)
