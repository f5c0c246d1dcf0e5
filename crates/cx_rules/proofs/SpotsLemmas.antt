-- Facts of what `Spots` defines, that several crates above take.
use Rattle.std.proofs.Common.{◌≡◌, ℕ}
use Rattle.cx_rules.specs.Spots.{AStatement}

pub same_number : (n m : ℕ) → AStatement n ≡ AStatement m → n ≡ m
same_number n m e = cc
