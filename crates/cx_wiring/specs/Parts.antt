-- The pieces that the net of a component is made of.
use Rattle.std.specs.Prelude.{ℕ, [], ◌∷◌}
use Rattle.cx_meaning.specs.declared.ports.Comparison.TheVariants.{Equal}
use Rattle.cx_net.specs.Nets.{PlainNetExpr, Fixed, AllOf, AnyOf, Compares, exprs_of, PlainNetTarget, ToWire, PlainNetDriver}

-- a number of so many bits
abbrev pub literal : ℕ → ℕ → PlainNetExpr
literal width value = Fixed (record { width = width; value = value })

-- a number of 32 bits, as registers and offsets have
abbrev pub word : ℕ → PlainNetExpr
word = literal 32

-- one bit that is 1
abbrev pub one : PlainNetExpr
one = literal 1 1

abbrev pub both : PlainNetExpr → PlainNetExpr → PlainNetExpr
both a b = AllOf (exprs_of (a ∷ b ∷ []))

abbrev pub either : PlainNetExpr → PlainNetExpr → PlainNetExpr
either a b = AnyOf (exprs_of (a ∷ b ∷ []))

abbrev pub equals : PlainNetExpr → ℕ → PlainNetExpr
equals e n = Compares Equal e (word n)

abbrev pub drive : PlainNetTarget → PlainNetExpr → PlainNetExpr → PlainNetDriver
drive target guard source = record { target = target; guard = guard; source = source }

-- a wire that has one driver, which always drives
abbrev pub connect : ℕ → PlainNetExpr → PlainNetDriver
connect wire source = drive (ToWire wire) one source
