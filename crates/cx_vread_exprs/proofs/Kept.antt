-- What a tree of `cx_vtree` keeps of an expression: the expression itself where it holds its numbers, and else one that breaks the
-- same rules.
use Rattle.std.specs.Prelude.{if◌then◌else◌}
use Rattle.cx_vtree.specs.Plain.{PlainExpr, Named, Number, Part, Word, Applied, Inverted, Chosen, Joined}
use Rattle.cx_vtree.specs.Sound.{Scope, nests_over}
use Rattle.cx_vread_exprs.specs.Deep.{stand_for}
use Rattle.cx_vscope.specs.Shapes.{shape_of}
use Rattle.cx_vread_exprs.specs.Tokens.{kept_small, kept_literal}

abbrev pub kept_expr : PlainExpr → PlainExpr
kept_expr (Named n) = Named n
kept_expr (Number b) = kept_literal b.width b.value
kept_expr (Part n high low) = Part n (kept_small high) (kept_small low)
kept_expr (Word n i) = Word n (kept_expr i)
kept_expr (Applied op a b) = Applied op (kept_expr a) (kept_expr b)
kept_expr (Inverted a) = Inverted (kept_expr a)
kept_expr (Chosen c a b) = Chosen (kept_expr c) (kept_expr a) (kept_expr b)
kept_expr (Joined a b) = Joined (kept_expr a) (kept_expr b)

-- the same of one of any depth, where names have these meanings
abbrev pub kept_by : Scope → PlainExpr → PlainExpr
kept_by scope e = if nests_over 128 e then stand_for (shape_of scope (kept_expr e)) else kept_expr e
