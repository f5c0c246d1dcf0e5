-- The continuous assignments of static children, cell by cell.
use Rattle.std.proofs.Common.{◌≡◌, ℕ, zero, suc, ◌+◌, ◌<◌, List, [], ◌∷◌, ◌++◌, drop, get_or, length, map, append_assoc, refl, sym, ap, ◌∙◌, arith}
use Rattle.cx_text.proofs.ListLaws.{drop_item}
use Rattle.cx_meaning.specs.Designs.{PlainAssign, PlainComponent}
use Rattle.cx_design.specs.declared.cells.Cell.{Cell}
use Rattle.cx_design.specs.PlainForms.{plain_cell}
use Rattle.cx_flattening.specs.Flattened.{Kids, kid_at, always_if, always_from}
use Rattle.cx_flat.specs.Tables.{kids_of}

kid_again : (kids : Kids) (i : ℕ) → i < length kids → kid_at kids i ≡ get_or kids i (kid_at kids i)
kid_again [] i less = absurd (omega (arith, less))
kid_again (k ∷ ks) zero less = refl
kid_again (k ∷ ks) (suc i) less = kid_again ks i (omega (arith, less))

-- those of one cell more
pub always_more : (kids : Kids) (part : PlainComponent) (i : ℕ) (front so_far now : List PlainAssign) → i < length kids
    → so_far ++ always_from kids part i (drop i kids) ≡ front ++ always_from kids part 0 kids → now ≡ so_far ++ always_if kids part (kid_at kids i) i
    → now ++ always_from kids part (i + 1) (drop (i + 1) kids) ≡ front ++ always_from kids part 0 kids
always_more kids part i front so_far now less before is =
    let next : suc i ≡ i + 1 = omega arith in
    ap (λ l. l ++ always_from kids part (i + 1) (drop (i + 1) kids)) is
    ∙ append_assoc so_far (always_if kids part (kid_at kids i) i) (always_from kids part (i + 1) (drop (i + 1) kids))
    ∙ ap (λ n. so_far ++ (always_if kids part (kid_at kids i) i ++ always_from kids part n (drop (i + 1) kids))) (sym next)
    ∙ ap (λ ks. so_far ++ always_from kids part i ks) (sym (drop_item kids i (kid_at kids i) (kid_again kids i less) less))
    ∙ before

-- there are as many children as cells
pub kids_length : (table : Kids) (cells : List Cell) → length (kids_of table (map plain_cell cells)) ≡ length cells
kids_length table [] = refl
kids_length table (c ∷ cs) = ap suc (kids_length table cs)
