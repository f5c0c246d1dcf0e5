-- The word that the addresses of a memory name. Each address is compared with its size at its own width, and the index is a net of
-- its own, as wide as the number of the last word needs.
use Rattle.std.specs.Prelude.{◌≡◌, ℕ, zero, suc, ◌+◌, ◌-◌, ◌^◌, ◌==◌, true, List, ◌∷◌, nat_le, length, if◌then◌else◌, codes}
use Rattle.std.specs.List.{list_all}
use Rattle.cx_text.specs.Loading.{word_count}
use Rattle.cx_prim.specs.MemoryRows.{are_sizes, is_address_width}
use Rattle.cx_vtree.specs.declared.operators.Operator.TheVariants.{Add, Multiply, And, Less}
use Rattle.cx_vtree.specs.Plain.{PlainExpr, Applied, Joined}
use Rattle.cx_vmods.specs.Spelling.{net, part}
use Rattle.cx_vmods.specs.Parts.{literal}

-- the sizes of some dimensions and the widths of their addresses
pub record AreAddresses (sizes widths : List ℕ) : Type 0 where
  pub sized : are_sizes sizes ≡ true
  pub addressed : list_all is_address_width widths ≡ true

abbrev pub address : ℕ → List ℕ
address zero = codes "addr0"
address (suc zero) = codes "addr1"
address (suc (suc zero)) = codes "addr2"
address _ = codes "addr3"

-- address n is below its size, where not every number of its width is
abbrev pub below : ℕ → ℕ → ℕ → PlainExpr
below n size width =
    if nat_le (2 ^ width) size then literal 1 1 else Applied Less (net (address n)) (literal width size)

-- each address from n on is below its size
abbrev pub in_range : ℕ → List ℕ → List ℕ → PlainExpr
in_range n (size ∷ sizes) (width ∷ widths) =
    if length sizes == 0 then below n size width else Applied And (below n size width) (in_range (n + 1) sizes widths)
in_range n _ _ = literal 1 1

-- address n, cut to the width of the index or with zeros above
abbrev pub fitted : ℕ → ℕ → ℕ → PlainExpr
fitted n width index_width =
    if nat_le index_width width then part (address n) (index_width - 1) 0
    else Joined (literal (index_width - width) 0) (net (address n))

-- the number of the word, in row-major order: each address from n on times the number of words of the dimensions behind it
abbrev pub index : ℕ → ℕ → List ℕ → List ℕ → PlainExpr
index n index_width (size ∷ sizes) (width ∷ widths) =
    if length sizes == 0
    then fitted n width index_width
    else Applied Add
    (Applied Multiply (fitted n width index_width) (literal index_width (word_count sizes)))
    (index (n + 1) index_width sizes widths)
index n index_width _ _ = literal index_width 0
