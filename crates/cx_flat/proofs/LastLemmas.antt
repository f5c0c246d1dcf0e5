-- Up to which place of an order the flat component of a static one is needed.
use Rattle.std.proofs.Common.{◌≡◌, ℕ, ◌+◌, ◌<◌, ◌≤◌, false, ⊎_elim, List, Some, get_or, length, map, sym, ap, ◌∙◌, subst, arith}
use Rattle.std.specs.Prelude.{is_some}
use Rattle.std.specs.List.{slice_get}
use Rattle.std.proofs.lemmas.Bool.{cases_lt}
use Rattle.cx_meaning.specs.Designs.{OfComponent, PlainCell, PlainDesign, component_at}
use Rattle.cx_text.specs.Members.{In}
use Rattle.cx_text.proofs.ListLaws.{at_map}
use Rattle.cx_text.proofs.MemberLaws.{number_in}
use Rattle.cx_design.specs.declared.cells.Cell.{Cell}
use Rattle.cx_design.specs.PlainForms.{plain_cell, plain_kind}
use Rattle.cx_design_sizes.specs.Orders.{IsChildrenFirst}
use Rattle.cx_flat.specs.Lasts.{AreLasts}
use Rattle.cx_flat.proofs.OrderLemmas.{in_take}

module _ (d : PlainDesign) (order : List ℕ) where
  -- ONE MORE of the order, whose cells are these
  pub lasts_turn : (i k place : ℕ) (before now : List ℕ) (cells : List Cell) → IsChildrenFirst d order → AreLasts d order i before → slice_get order i ≡ Some k → map plain_cell cells ≡ (component_at d k).cells
      → i ≤ place → (is_some (component_at d k).latency ≡ false → length order ≤ place) → length now ≡ length before → ((j : ℕ) → get_or before j 0 ≤ get_or now j 0)
      → ((n j : ℕ) (cell : Cell) → slice_get cells n ≡ Some cell → plain_kind cell.kind ≡ OfComponent j → j < length before → place ≤ get_or now j 0) → AreLasts d order (i + 1) now
  lasts_turn i k place before now cells first so_far at are within end size more least = record {
    sized = size ∙ so_far.sized;
    last = λ n m j cell less here inside kind. ⊎_elim
        (λ lower. let was = so_far.last n m j cell lower here inside kind in let grown = more j in omega (arith, was, grown))
        (λ upper. let same : n ≡ i = omega (arith, less, upper) in let has = reached m j cell (same_at n m same here) inside kind in let e = has in omega (arith, e, within, same)) (cases_lt n i);
    end = λ n m j cell less here inside kind moves. ⊎_elim
        (λ lower. let was = so_far.end n m j cell lower here inside kind moves in let grown = more j in omega (arith, was, grown))
        (λ upper. let same : n ≡ i = omega (arith, less, upper) in let has = reached m j cell (same_at n m same here) inside kind in let far = end (subst (λ x. is_some (component_at d x).latency ≡ false) (same_at n m same here) moves) in omega (arith, has, far)) (cases_lt n i);
  }
    where
      -- the component at the place is this one
      same_at : (n m : ℕ) → n ≡ i → slice_get order n ≡ Some m → m ≡ k
      same_at n m same here = let both : Some m ≡ Some k = sym here ∙ ap (slice_get order) same ∙ at in cc

      reached : (m j : ℕ) (cell : PlainCell) → m ≡ k → In (component_at d m).cells cell → cell.kind ≡ OfComponent j → place ≤ get_or now j 0
      reached m j cell same inside kind =
          let own : In (map plain_cell cells) cell = subst (λ cs. In cs cell) (ap (λ x. (component_at d x).cells) same ∙ sym are) inside in
          let r = number_in (map plain_cell cells) cell own in
          let s = at_map plain_cell cells r.0 cell r.1 in
          let there : j < length before = subst (λ n. j < n) (sym so_far.sized) (first.there j (in_take i order j (first.behind i k j cell at (subst (λ x. In (component_at d x).cells cell) same inside) kind))) in
          least r.0 j s.0 s.1 (ap (λ (x : PlainCell). x.kind) s.2 ∙ kind) there
