-- What stands for an expression that nests deeper than a tree is read: it breaks the same rules.
use Rattle.std.specs.Prelude.{ℕ, zero, suc, Option, Some, None, if◌then◌else◌}
use Rattle.std.specs.Option.{option_or}
use Rattle.cx_bits.specs.BitVector.{BitVector}
use Rattle.cx_vtree.specs.Plain.{PlainExpr, Number, Inverted}
use Rattle.cx_vtree.specs.Sound.{Scope}
use Rattle.cx_vscope.specs.declared.shapes.Shape.{Shape}
use Rattle.cx_vread_exprs.specs.Places.{Place, Reads, then_reads}
use Rattle.cx_vread_exprs.specs.Tokens.{fits_bits, misnamed, miswidened}
use Rattle.cx_vread_exprs.specs.Exprs.{expr_at, most_levels}
use Rattle.cx_vread_exprs.specs.Passing.{shape_at}

-- the literal 0 of a width
abbrev pub bits_of : Option ℕ → Option BitVector
bits_of None = None
bits_of (Some w) = if fits_bits w 0 then Some (record { width = w; value = 0 }) else None

abbrev pub leaf_by : Option BitVector → PlainExpr
leaf_by None = miswidened
leaf_by (Some b) = Number b

-- an expression of a shape, without brackets around it
abbrev pub leaf_of : Shape → PlainExpr
leaf_of s = if s.misnamed then misnamed else leaf_by (bits_of s.width)

-- inverted so often
abbrev pub inverted : ℕ → PlainExpr → PlainExpr
inverted zero e = e
inverted (suc n) e = Inverted (inverted n e)

-- so many brackets break the limit
unfoldable pub most_brackets : ℕ
most_brackets = 65

-- an expression of a shape that breaks the limit
abbrev pub stand_for : Shape → PlainExpr
stand_for s = inverted most_brackets (leaf_of s)

abbrev pub deep_at : Scope → Place → Reads PlainExpr
deep_at scope p = then_reads (shape_at scope p) (λ s q. Some (stand_for s, q))

-- a whole expression, of any depth
abbrev pub whole_expr_at : Scope → Place → Reads PlainExpr
whole_expr_at scope p = option_or (expr_at most_levels p) (deep_at scope p)
