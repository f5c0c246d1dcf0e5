-- Marks, numbers and components of the flat design, in lists by the numbers of the components.
use Rattle.std.proofs.Common.{◌≡◌, ℕ, zero, suc, ◌+◌, ◌<◌, Bool, true, false, inl, inr, List, [], ◌∷◌, ◌++◌, get_or, length, map, append_assoc, append-nil, refl, sym, ap, ◌∙◌, arith}
use Rattle.std.specs.Prelude.{if◌then◌else◌}
use Rattle.std.specs.List.{range_with_len}
use Rattle.std.proofs.lemmas.List.{map-append}
use Rattle.std.proofs.lemmas.List.FromFn.{get_or-map-range_with_len}
use Rattle.cx_meaning.specs.Designs.{PlainKind, OfPrimitive, OfComponent, PlainCell, PlainComponent, PlainDesign}
use Rattle.cx_flattening.specs.Copies.{count_if}
use Rattle.cx_flattening.specs.FlatDesign.{flat_of, is_reached, reached_from, reached_below, renumbered_kind, renumbered_cell, renumbered_part}
use Rattle.cx_flat.specs.Flats.{kept_for, part_if, numbers_of, kind_by, cell_by, renumbered_by}
use Rattle.cx_design_copies.proofs.EdgeLemmas.{HasCell}

module _ (d : PlainDesign) where
  -- the numbers are those of the flat design
  numbers_from : (a n : ℕ) → numbers_of (reached_below d a) (map (is_reached d) (range_with_len a n)) ≡ map (reached_below d) (range_with_len a n)
  numbers_from a zero = refl
  numbers_from a (suc n) =
      ap (λ ns. reached_below d a ∷ ns)
      (ap (λ x. numbers_of x (map (is_reached d) (range_with_len (a + 1) n))) (ap (reached_below d) (let e : suc a ≡ a + 1 = omega arith in e))
      ∙ numbers_from (a + 1) n)

  pub number_is : (marks : List Bool) (count k : ℕ) → marks ≡ map (is_reached d) (range_with_len 0 count) → k < count → get_or (numbers_of 0 marks) k 0 ≡ reached_below d k
  number_is marks count k are less =
      ap (λ ms. get_or (numbers_of 0 ms) k 0) are ∙ ap (λ ns. get_or ns k 0) (numbers_from 0 count)
      ∙ get_or-map-range_with_len (reached_below d) 0 count k k 0 less (let e : 0 + k ≡ k = omega arith in e)

  -- cells whose components are there get the numbers of the flat design
  cells_renumbered : (numbers : List ℕ) (cells : List PlainCell) → ((j : ℕ) → HasCell cells j → get_or numbers j 0 ≡ reached_below d j) → map (cell_by numbers) cells ≡ map (renumbered_cell d) cells
  cells_renumbered numbers [] h = refl
  cells_renumbered numbers (c ∷ cs) h =
      ap (λ k. record { name = c.name; kind = k; external = c.external; place = c.place } ∷ map (cell_by numbers) cs) (by c.kind refl)
      ∙ ap (λ l. renumbered_cell d c ∷ l) (cells_renumbered numbers cs (λ j has. h j (has.0, inr has.1, has.2)))
    where
      by : (kind : PlainKind) → c.kind ≡ kind → kind_by numbers kind ≡ renumbered_kind d kind
      by (OfPrimitive primitive) e = refl
      by (OfComponent j) e = ap OfComponent (h j (c, inl refl, e))

  pub part_renumbered : (numbers : List ℕ) (part : PlainComponent) → ((j : ℕ) → HasCell part.cells j → get_or numbers j 0 ≡ reached_below d j) → renumbered_by numbers part ≡ renumbered_part d part
  part_renumbered numbers part h = ap (λ cs. record part { cells = cs }) (cells_renumbered numbers part.cells h)

  -- ONE MORE of those that are reached
  abbrev pub one_if : Bool → ℕ → List ℕ
  one_if true k = k ∷ []
  one_if false k = []

  if_one : (b : Bool) (k : ℕ) (l : List ℕ) → (if b then k ∷ l else l) ≡ one_if b k ++ l
  if_one true k l = refl
  if_one false k l = refl

  from_last : (a n : ℕ) → reached_from d a (suc n) ≡ reached_from d a n ++ one_if (is_reached d (a + n)) (a + n)
  from_last a zero = if_one (is_reached d a) a [] ∙ append-nil (one_if (is_reached d a) a) ∙ ap (λ k. one_if (is_reached d k) k) (let e : a ≡ a + 0 = omega arith in e)
  from_last a (suc n) =
      if_one (is_reached d a) a (reached_from d (suc a) (suc n))
      ∙ ap (λ l. one_if (is_reached d a) a ++ l) (from_last (suc a) n)
      ∙ sym (append_assoc (one_if (is_reached d a) a) (reached_from d (suc a) n) (one_if (is_reached d (suc a + n)) (suc a + n)))
      ∙ ap (λ l. l ++ one_if (is_reached d (suc a + n)) (suc a + n)) (sym (if_one (is_reached d a) a (reached_from d (suc a) n)))
      ∙ ap (λ k. reached_from d a (suc n) ++ one_if (is_reached d k) k) (let e : suc a + n ≡ a + suc n = omega arith in e)

  -- what is made for those that are reached
  abbrev pub made_for : ℕ → List PlainComponent
  made_for n = map (λ k. renumbered_part d (flat_of d k)) (reached_from d 0 n)

  last_is : (n : ℕ) (b : Bool) → is_reached d n ≡ b → made_for (n + 1) ≡ made_for n ++ map (λ k. renumbered_part d (flat_of d k)) (one_if b n)
  last_is n b is =
      ap made_for (let e : n + 1 ≡ suc n = omega arith in e)
      ∙ ap (map (λ k. renumbered_part d (flat_of d k))) (from_last 0 n)
      ∙ ap (λ k. map (λ j. renumbered_part d (flat_of d j)) (reached_from d 0 n ++ one_if (is_reached d k) k)) (let e : 0 + n ≡ n = omega arith in e)
      ∙ map-append (λ k. renumbered_part d (flat_of d k)) (reached_from d 0 n) (one_if (is_reached d n) n)
      ∙ ap (λ t. made_for n ++ map (λ k. renumbered_part d (flat_of d k)) (one_if t n)) is

  -- and those of one number more
  kept_of : (n : ℕ) (b : Bool) → map (λ k. renumbered_part d (flat_of d k)) (one_if b n) ≡ part_if b (renumbered_part d (flat_of d n))
  kept_of n true = refl
  kept_of n false = refl

  pub made_next : (n : ℕ) → made_for (n + 1) ≡ made_for n ++ kept_for d n
  made_next n = last_is n (is_reached d n) refl ∙ ap (λ l. made_for n ++ l) (kept_of n (is_reached d n))

pub numbers_length : (n : ℕ) (marks : List Bool) → length (numbers_of n marks) ≡ length marks
numbers_length n [] = refl
numbers_length n (m ∷ ms) = ap suc (numbers_length (count_if m n) ms)
