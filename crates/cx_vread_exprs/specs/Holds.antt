-- Which numbers and which nesting an expression of a tree of `cx_vtree` holds, as it is read.
use Rattle.std.specs.Prelude.{◌&&◌, not, nat_lt, Bool, true}
use Rattle.cx_vtree.specs.Plain.{PlainExpr, Named, Number, Part, Word, Applied, Inverted, Chosen, Joined}
use Rattle.cx_vtree.specs.Sound.{nests_over}
use Rattle.cx_vread_exprs.specs.Tokens.{fits_bits}

abbrev pub numbers_fit : PlainExpr → Bool
numbers_fit (Named n) = true
numbers_fit (Number b) = fits_bits b.width b.value
numbers_fit (Part n high low) = nat_lt high 256 && nat_lt low 256
numbers_fit (Word n i) = numbers_fit i
numbers_fit (Applied op a b) = numbers_fit a && numbers_fit b
numbers_fit (Inverted a) = numbers_fit a
numbers_fit (Chosen c a b) = numbers_fit c && numbers_fit a && numbers_fit b
numbers_fit (Joined a b) = numbers_fit a && numbers_fit b

-- literals have their widths, and at most 128 levels are nested
abbrev pub holds_expr : PlainExpr → Bool
holds_expr e = numbers_fit e && not (nests_over 128 e)
