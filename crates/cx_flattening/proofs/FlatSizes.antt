-- SIZES: the flat component has as many cells as are counted with static components written out.
use Rattle.std.proofs.Common.{◌≡◌, ℕ, suc, ◌+◌, is_some, List, [], ◌∷◌, length, map, Option, Some, None, refl, ap, ◌∙◌, arith}
use Rattle.std.proofs.lemmas.List.{length-append, length-map}
use Rattle.cx_meaning.specs.Designs.{PlainCell, PlainComponent}
use Rattle.cx_meaning.specs.Instances.{Instance, Node, Cells, no_cells, a_primitive, an_instance, part_of}
use Rattle.cx_rules.specs.Counts.{cell_count_of, cells_in, inner, if_static, inners_of, counted_cells}
use Rattle.cx_flattening.specs.Flattened.{kid_if, kept, block, blocks, inner_cell, wire_of, flat_part, flat_kids}

one_more : (a b n : ℕ) → a + b ≡ n → suc a + b ≡ 1 + n
one_more a b n e = omega (arith, e)

-- nothing is written out
count_none : (cs : List PlainCell) → length cs + 0 ≡ cells_in cs []
count_none [] = refl
count_none (c ∷ cs) = one_more (length cs) 0 (cells_in cs []) (count_none cs)

block_length : (child : PlainComponent) (c : PlainCell) → length (block (Some child) c) ≡ length child.cells + length child.outputs
block_length child c =
    length-append (map (inner_cell c) child.cells) (map (wire_of c) child.outputs) ∙ ap (λ n. n + length (map (wire_of c) child.outputs)) (length-map child.cells (inner_cell c))
    ∙ ap (λ n. length child.cells + n) (length-map child.outputs (wire_of c))

outputs_length : (i : Instance) → length (flat_part i).outputs ≡ length (part_of i).outputs
outputs_length (Node part cells) = refl

mutual
  -- THE CELLS of the flat component
  pub flat_count : (i : Instance) → length (flat_part i).cells ≡ counted_cells i
  flat_count (Node part cells) = length-append (kept (flat_kids cells) part.cells) (blocks (flat_kids cells) part.cells) ∙ count_cells cells part.cells

  count_cells : (cells : Cells) (cs : List PlainCell) → length (kept (flat_kids cells) cs) + length (blocks (flat_kids cells) cs) ≡ cells_in cs (inners_of cells)
  count_cells no_cells [] = refl
  count_cells no_cells (c ∷ cs) = count_none (c ∷ cs)
  count_cells (a_primitive row rest) [] = refl
  count_cells (a_primitive row rest) (c ∷ cs) = one_more (length (kept (flat_kids rest) cs)) (length (blocks (flat_kids rest) cs)) (cells_in cs (inners_of rest)) (count_cells rest cs)
  count_cells (an_instance (Node part cells) rest) [] = refl
  count_cells (an_instance (Node part cells) rest) (c ∷ cs) = by part.latency (flat_count (Node part cells)) (count_cells rest cs)
    where
      kid : PlainComponent
      kid = flat_part (Node part cells)

      front : (a n m k : ℕ) → n + m ≡ k → n + (a + m) ≡ a + k
      front a n m k e = omega (arith, e)

      by : (o : Option ℕ) → length kid.cells ≡ cells_in part.cells (inners_of cells) → length (kept (flat_kids rest) cs) + length (blocks (flat_kids rest) cs) ≡ cells_in cs (inners_of rest)
          → length (kept (kid_if (is_some o) kid ∷ flat_kids rest) (c ∷ cs)) + length (blocks (kid_if (is_some o) kid ∷ flat_kids rest) (c ∷ cs))
          ≡ cell_count_of (if_static o (inner part (inners_of cells))) + cells_in cs (inners_of rest)
      by None own later = one_more (length (kept (flat_kids rest) cs)) (length (blocks (flat_kids rest) cs)) (cells_in cs (inners_of rest)) later
      by (Some n) own later =
          ap (λ m. length (kept (flat_kids rest) cs) + m) (length-append (block (Some kid) c) (blocks (flat_kids rest) cs))
          ∙ front (length (block (Some kid) c)) (length (kept (flat_kids rest) cs)) (length (blocks (flat_kids rest) cs)) (cells_in cs (inners_of rest)) later
          ∙ ap (λ m. m + cells_in cs (inners_of rest)) (block_length kid c ∙ ap (λ m. m + length part.outputs) own)
