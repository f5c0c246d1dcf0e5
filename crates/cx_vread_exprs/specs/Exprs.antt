-- Reading expressions.
use Rattle.std.specs.Prelude.{ℕ, zero, suc, ◌&&◌, ◌||◌, nat_le, Bool, false, List, [], ◌∷◌, Option, Some, None, is_some, codes, if◌then◌else◌}
use Rattle.cx_vtree.specs.declared.operators.Operator.{Operator}
use Rattle.cx_vtree.specs.declared.operators.Operator.TheVariants.{Add, Subtract, Multiply, And, Or, Xor, ShiftLeft, ShiftRight, Equal, NotEqual, Less, Greater, AtMost, AtLeast}
use Rattle.cx_vtree.specs.Plain.{PlainExpr, Named, Part, Word, Applied, Inverted, Chosen, Joined}
use Rattle.cx_vread_exprs.specs.Places.{Place, Reads, then_reads, then_at, after, begins}
use Rattle.cx_vread_exprs.specs.Tokens.{name_at, number_at, small_at, literal_at}

-- an operator that stands here, or else another
abbrev pub or_else : Operator → Option Place → Reads Operator → Reads Operator
or_else op None other = other
or_else op (Some p) other = Some (op, p)

-- an operator of one byte
abbrev pub sign_at : Place → Reads Operator
sign_at p =
    or_else Add (after (codes "+") p) (or_else Subtract (after (codes "-") p)
    (or_else Multiply (after (codes "*") p) (or_else And (after (codes "&") p)
    (or_else Or (after (codes "|") p) (or_else Xor (after (codes "^") p)
    (or_else Less (after (codes "<") p) (or_else Greater (after (codes ">") p) None)))))))

abbrev pub operator_at : Place → Reads Operator
operator_at p =
    or_else ShiftLeft (after (codes "<<") p)
    (or_else ShiftRight (after (codes ">>") p) (or_else AtMost (after (codes "<=") p)
    (or_else AtLeast (after (codes ">=") p)
    (or_else Equal (after (codes "==") p) (or_else NotEqual (after (codes "!=") p) (sign_at p))))))

abbrev pub is_part : Place → Bool
is_part p = is_some (then_reads (number_at 10 p) (λ n q. after (codes ":") q))

abbrev pub part_by : List ℕ → Place → Reads PlainExpr
part_by n p =
    then_reads (small_at p) (λ h q. then_at (after (codes ":") q)
    (λ r. then_reads (small_at r) (λ l s. then_at (after (codes "]") s) (λ t. Some (Part n h l, t)))))

abbrev pub item_by : List ℕ → PlainExpr → Place → Reads PlainExpr
item_by n i p = then_at (after (codes "]") p) (λ q. Some (Word n i, q))

-- what stands in square brackets after a name; `inner` reads one level deeper
abbrev pub bracketed_by : (Place → Reads PlainExpr) → List ℕ → Place → Reads PlainExpr
bracketed_by inner n p =
    then_at (after (codes "[") p) (λ q. if is_part q then part_by n q else then_reads (inner q) (item_by n))

abbrev pub named_by : (Place → Reads PlainExpr) → Place → Reads PlainExpr
named_by inner p =
    then_reads (name_at p)
    (λ n q. if begins (codes "[") q then bracketed_by inner n q else Some (Named n, q))

abbrev pub joined_by : (Place → Reads PlainExpr) → Place → Reads PlainExpr
joined_by inner p =
    then_at (after (codes "{") p) (λ q. then_reads (inner q)
    (λ a r. then_at (after (codes ", ") r)
    (λ s. then_reads (inner s) (λ b t. then_at (after (codes "}") t) (λ u. Some (Joined a b, u))))))

abbrev pub inverted_by : (Place → Reads PlainExpr) → Place → Reads PlainExpr
inverted_by inner p =
    then_at (after (codes "(~") p)
    (λ q. then_reads (inner q) (λ a r. then_at (after (codes ")") r) (λ s. Some (Inverted a, s))))

abbrev pub chosen_by : (Place → Reads PlainExpr) → PlainExpr → Place → Reads PlainExpr
chosen_by inner c p =
    then_at (after (codes "? ") p) (λ q. then_reads (inner q)
    (λ a r. then_at (after (codes " : ") r)
    (λ s. then_reads (inner s) (λ b t. then_at (after (codes ")") t) (λ u. Some (Chosen c a b, u))))))

abbrev pub applied_by : (Place → Reads PlainExpr) → PlainExpr → Place → Reads PlainExpr
applied_by inner a p =
    then_reads (operator_at p) (λ op q. then_at (after (codes " ") q)
    (λ r. then_reads (inner r) (λ b s. then_at (after (codes ")") s) (λ t. Some (Applied op a b, t)))))

-- what follows the first expression in round brackets
abbrev pub behind_by : (Place → Reads PlainExpr) → PlainExpr → Place → Reads PlainExpr
behind_by inner e p = if begins (codes "? ") p then chosen_by inner e p else applied_by inner e p

abbrev pub round_by : (Place → Reads PlainExpr) → Place → Reads PlainExpr
round_by inner p =
    then_at (after (codes "(") p)
    (λ q. then_reads (inner q) (λ e r. then_at (after (codes " ") r) (behind_by inner e)))

-- what begins with a bracket
abbrev pub brackets_by : (Place → Reads PlainExpr) → Place → Reads PlainExpr
brackets_by inner p =
    if begins (codes "{") p then joined_by inner p
    else (if begins (codes "(~") p then inverted_by inner p else round_by inner p)

abbrev pub starts_digit : List ℕ → Bool
starts_digit [] = false
starts_digit (c ∷ cs) = nat_le 48 c && nat_le c 57

-- by the first byte
abbrev pub by_first : (Place → Reads PlainExpr) → (Place → Reads PlainExpr) → Place → Reads PlainExpr
by_first nested named p =
    if begins (codes "(") p || begins (codes "{") p then nested p
    else (if starts_digit p.rest then literal_at p else named p)

-- what no level is left for
abbrev pub too_deep_at : Place → Reads PlainExpr
too_deep_at p = None

-- an expression of at most so many levels of nesting
abbrev pub expr_at : ℕ → Place → Reads PlainExpr
expr_at zero p = by_first too_deep_at (named_by too_deep_at) p
expr_at (suc levels) p = by_first (brackets_by (expr_at levels)) (named_by (expr_at levels)) p

-- what stands one level deeper
abbrev pub inner_at : ℕ → Place → Reads PlainExpr
inner_at zero p = too_deep_at p
inner_at (suc levels) p = expr_at levels p

-- what begins with a bracket, its level counted
abbrev pub nested_at : ℕ → Place → Reads PlainExpr
nested_at zero p = too_deep_at p
nested_at (suc levels) p = brackets_by (expr_at levels) p

-- the levels of nesting that are read into a tree
unfoldable pub most_levels : ℕ
most_levels = 128
