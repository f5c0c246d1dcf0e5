-- Where the groups of the child at a cell stand, by the numbers that are looked up for the cell.
use Rattle.std.proofs.Common.{◌≡◌, ℕ, ◌+◌, List, [], ◌∷◌, inl, inr, Some, None, length, map, sym, ap, ◌∙◌, arith}
use Rattle.std.specs.Prelude.{if◌then◌else◌}
use Rattle.std.specs.List.{slice_get}
use Rattle.std.proofs.Math.Path.{fun_ext}
use Rattle.cx_text.proofs.ListLaws.{two_maps}
use Rattle.cx_meaning.specs.Designs.{PlainComponent}
use Rattle.cx_meaning.specs.Instances.{Path}
use Rattle.cx_meaning.specs.Control.{groups_of}
use Rattle.cx_rules.specs.Counts.{is_one_of}
use Rattle.cx_flattening.specs.Copies.{enabled_below}
use Rattle.cx_flattening.specs.Flattened.{Kids, kid_at, kept, kept_at, block_at, start_of, first_copy, copy_of}
use Rattle.cx_profiling.specs.FlatEntries.{entry_at, invokes_of, copies_of, placed_entry}
use Rattle.cx_flat.specs.declared.placing.Inlining.{Inlining}
use Rattle.cx_flat.specs.declared.placing.Placing.TheVariants as places
use Rattle.cx_flat.specs.declared.stands.Block.{Block}
use Rattle.cx_flat.specs.declared.stands.Stand.{Stand}
use Rattle.cx_flat.specs.declared.stands.Stand.TheVariants.{Kept, Inlined}
use Rattle.cx_flat.specs.Enabling.{below_by, copy_by}
use Rattle.cx_flat.specs.Placing.{copies_at, copies_by, inlined_by, placed_by}
use Rattle.cx_flat.specs.Stands.{stand_of, stands_of}
use Rattle.cx_flat.proofs.StandLemmas.{StandsAt, stands_at, block-is}

module _ (kids : Kids) (part : PlainComponent) (stands : List Stand) (are : stands ≡ stands_of kids part.cells) (c : ℕ) where
  kept_number : (n : ℕ) → slice_get stands c ≡ Some (Kept n) → kid_at kids c ≡ None → n ≡ kept_at kids c
  kept_number n at none = by (stands_at kids 0 (length (kept kids part.cells)) c)
    where
      by : StandsAt (stands_of kids part.cells) kids 0 (length (kept kids part.cells)) c → n ≡ kept_at kids c
      by (inl e) =
          let same : Some (Kept n) ≡ Some (Kept (0 + kept_at kids c)) =
          sym at ∙ ap (λ ss. slice_get ss c) are ∙ e ∙ ap (λ k. Some (stand_of k (0 + kept_at kids c) (length (kept kids part.cells) + block_at kids c))) none in
          let number : n ≡ 0 + kept_at kids c = cc in
          omega (arith, number)
      by (inr e) = absurd (let no : Some (Kept n) ≡ None = sym at ∙ ap (λ ss. slice_get ss c) are ∙ e.0 in cc)

  -- BELOW THE CELL of a child that is kept
  pub kept_placed : (n : ℕ) → slice_get stands c ≡ Some (Kept n) → kid_at kids c ≡ None → placed_by (places.Kept n) ≡ placed_entry kids part c (kid_at kids c)
  kept_placed n at none = fun_ext (λ path. fun_ext (λ g. ap (λ m. entry_at (m ∷ path) g ∷ []) (kept_number n at none) ∙ ap (λ k. placed_entry kids part c k path g) (sym none)))

  module _ (child : PlainComponent) (block : Block) (i : Inlining) (at : slice_get stands c ≡ Some (Inlined block)) (its : kid_at kids c ≡ Some child) (cells : i.cells ≡ block.cells)
      (firsts : i.firsts.items ≡ map (first_copy kids part) (invokes_of c 0 part.invokes)) (used : i.used.items ≡ groups_of child.control)
      (enabled : (g : ℕ) → below_by i.enabled.below.items i.enabled.count g ≡ enabled_below (groups_of child.control) g) where
    start : i.cells ≡ start_of kids part c
    start = cells ∙ ap (λ (b : Block). b.cells) (block-is kids part c child block (ap (λ ss. slice_get ss c) (sym are) ∙ at) its)

    copies : (g : ℕ) → copies_by i g ≡ copies_of kids part c child g
    copies g =
        ap (λ us. if is_one_of g us then copies_at i.enabled g i.firsts.items else []) used
        ∙ ap (λ l. if is_one_of g (groups_of child.control) then l else [])
        (ap (copies_at i.enabled g) firsts
        ∙ two_maps (first_copy kids part) (λ first. entry_at [] (copy_by first i.enabled g)) (λ j. entry_at [] (copy_of kids part child j g)) (λ j. ap (λ n. entry_at [] (first_copy kids part j + n)) (enabled g)) (invokes_of c 0 part.invokes))

    inlined : (path : Path) (g : ℕ) → inlined_by i path g ≡ placed_entry kids part c (Some child) path g
    inlined [] g = copies g
    inlined (e ∷ path) g = ap (λ n. entry_at ((n + e) ∷ path) g ∷ []) start

    -- AS COPIES, and below the cells that stand for those of a static child
    pub inlined_placed : placed_by (places.Inlined i) ≡ placed_entry kids part c (kid_at kids c)
    inlined_placed = fun_ext (λ path. fun_ext (λ g. inlined path g ∙ ap (λ k. placed_entry kids part c k path g) (sym its)))
