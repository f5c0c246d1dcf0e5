-- The first of a list of breaks is one of them, and none of them comes before it.
use Rattle.std.proofs.Common.{◌≡◌, ℕ, Bool, true, false, cond, List, [], ◌∷◌, length, Option, Some, None, ◌⊎◌, inl, inr, ⊎_elim, refl, sym, ap, ◌∙◌, subst}
use Rattle.cx_meaning.specs.Designs.{PlainDesign}
use Rattle.cx_text.specs.Members.{In}
use Rattle.cx_rules.specs.Spots.{Part, Itself, ABind, AnAssign, AStatement, AGroup, Whole}
use Rattle.cx_rules.specs.Accepted.{number_of, part_key, comes_before}
use Rattle.cx_design_parts.specs.Breaks.{Broken, key, earlier, first_of}
use Rattle.cx_design_parts.specs.Answers.{AreBreaks, IsAnswer, answer_of}
use Rattle.cx_design_parts.proofs.Order.{not_before_later, not_both}
use Rattle.cx_rules.proofs.KeyOrder.{before_irreflexive}

-- of breaks, the first: one of them that none of them comes before
abbrev IsFirst : (Broken → Type 0) → Option Broken → Type 0
IsFirst Has None = (b : Broken) → Has b → ⊥
IsFirst Has (Some r) = Has r × ((b : Broken) → Has b → comes_before (key b) (key r) ≡ false)

abbrev OneOf : Option Broken → Broken → Type 0
OneOf None b = ⊥
OneOf (Some a) b = a ≡ b

-- what is kept, or in the list
abbrev Has : Option Broken → List Broken → Broken → Type 0
Has best bs b = OneOf best b ⊎ In bs b

kept : (a b : Broken) (t : Bool) → comes_before (key b) (key a) ≡ t → (x : Broken) → (a ≡ x) ⊎ (b ≡ x)
    → (y : Broken) → OneOf (cond t (Some b) (Some a)) y → comes_before (key x) (key y) ≡ false
kept a b true e x (inl p) y q = subst (λ v. comes_before (key v) (key y) ≡ false) p (subst (λ v. comes_before (key a) (key v) ≡ false) q (not_both (key b) (key a) e))
kept a b true e x (inr p) y q = subst (λ v. comes_before (key v) (key y) ≡ false) p (subst (λ v. comes_before (key b) (key v) ≡ false) q (before_irreflexive (key b)))
kept a b false e x (inl p) y q = subst (λ v. comes_before (key v) (key y) ≡ false) p (subst (λ v. comes_before (key a) (key v) ≡ false) q (before_irreflexive (key a)))
kept a b false e x (inr p) y q = subst (λ v. comes_before (key v) (key y) ≡ false) p (subst (λ v. comes_before (key b) (key v) ≡ false) q e)

one_kept : (best : Option Broken) (b : Broken) → (y : Broken) × OneOf (earlier best b) y × Has best (b ∷ []) y
    × ((x : Broken) → Has best (b ∷ []) x → comes_before (key x) (key y) ≡ false)
one_kept None b = (b, refl, inr (inl refl), λ x h. ⊎_elim (λ p. absurd p) (λ q. ⊎_elim (λ e. subst (λ v. comes_before (key v) (key b) ≡ false) e (before_irreflexive (key b))) (λ p. absurd p) q) h)
one_kept (Some a) b = choice (comes_before (key b) (key a)) refl
  where
    either : (x : Broken) → Has (Some a) (b ∷ []) x → (a ≡ x) ⊎ (b ≡ x)
    either x (inl p) = inl p
    either x (inr (inl q)) = inr q
    either x (inr (inr q)) = absurd q

    choice : (t : Bool) → comes_before (key b) (key a) ≡ t → (y : Broken) × OneOf (cond t (Some b) (Some a)) y × Has (Some a) (b ∷ []) y
        × ((x : Broken) → Has (Some a) (b ∷ []) x → comes_before (key x) (key y) ≡ false)
    choice true e = (b, refl, inr (inl refl), λ x h. kept a b true e x (either x h) b refl)
    choice false e = (a, refl, inl refl, λ x h. kept a b false e x (either x h) a refl)

is_some_one : (best : Option Broken) (y : Broken) → OneOf best y → best ≡ Some y
is_some_one None y h = absurd h
is_some_one (Some a) y h = ap Some h

key_length : (b : Broken) → length (key b) ≡ 6
key_length b = by_part b.spot.part
  where
    by_part : (part : Part) → length (b.place.line ∷ b.place.column ∷ number_of b.rule ∷ b.spot.component ∷ part_key part) ≡ 6
    by_part (Itself n) = refl
    by_part (ABind n) = refl
    by_part (AnAssign n) = refl
    by_part (AStatement n) = refl
    by_part (AGroup n) = refl
    by_part (Whole n) = refl

later : (x y z : Broken) → comes_before (key x) (key y) ≡ false → comes_before (key y) (key z) ≡ false → comes_before (key x) (key z) ≡ false
later x y z = not_before_later (key x) (key y) (key z) (key_length x ∙ sym (key_length y)) (key_length y ∙ sym (key_length z))

-- what comes before none of two, of which one is kept, comes before none of the rest
wider : (best : Option Broken) (b y : Broken) (bs : List Broken) (r : Option Broken) → Has best (b ∷ []) y
    → ((x : Broken) → Has best (b ∷ []) x → comes_before (key x) (key y) ≡ false) → IsFirst (Has (Some y) bs) r → IsFirst (Has best (b ∷ bs)) r
wider best b y bs None at none h = absurd (h y (inl refl))
wider best b y bs (Some r) at none h = (⊎_elim (λ e. subst (λ v. Has best (b ∷ bs) v) e (among y at)) (λ i. inr (inr i)) h.0, λ x i. ⊎_elim (λ p. up x (inl p)) (λ q. ⊎_elim (λ e. up x (inr (inl e))) (λ j. h.1 x (inr j)) q) i)
  where
    among : (v : Broken) → Has best (b ∷ []) v → Has best (b ∷ bs) v
    among v i = ⊎_elim (λ p. inl p) (λ q. ⊎_elim (λ e. inr (inl e)) (λ j. absurd j) q) i

    up : (x : Broken) → Has best (b ∷ []) x → comes_before (key x) (key r) ≡ false
    up x i = later x y r (none x i) (h.1 y (inl refl))

-- the first of what is kept and what is in the list
first_is : (best : Option Broken) (bs : List Broken) → IsFirst (Has best bs) (first_of best bs)
first_is None [] = λ b h. ⊎_elim (λ p. p) (λ p. p) h
first_is (Some a) [] = (inl refl, λ b h. ⊎_elim (λ e. subst (λ v. comes_before (key v) (key a) ≡ false) e (before_irreflexive (key a))) (λ p. absurd p) h)
first_is best (b ∷ bs) =
    let one = one_kept best b in
    let same : earlier best b ≡ Some one.0 = is_some_one (earlier best b) one.0 one.1 in
    wider best b one.0 bs (first_of (earlier best b) bs) one.2 one.3 (subst (λ o. IsFirst (Has o bs) (first_of (earlier best b) bs)) same (first_is (earlier best b) bs))

answer : (stage : ℕ) (d : PlainDesign) (found : List Broken) → AreBreaks stage d found → (r : Option Broken) → IsFirst (Has None found) r → IsAnswer stage d (answer_of r)
answer stage d found breaks None h = λ rule spot place name s b. let one = breaks.all rule spot place name s b in h one.0 (inr one.1)
answer stage d found breaks (Some r) h = record {
  in_stage = breaks.in_stage r there;
  spot = r.spot;
  breaks = breaks.break r there;
  first = λ rule other place name s b.
      let one = breaks.all rule other place name s b in
      let x : Broken = record { rule = rule; spot = other; place = place; name = name } in
      later x one.0 r one.2 (h.1 one.0 (inr one.1));
}
  where
    there : In found r
    there = ⊎_elim (λ p. absurd p) (λ i. i) h.0

-- the first of the breaks of a stage answers for the stage
pub first_answers : (stage : ℕ) (d : PlainDesign) (found : List Broken) → AreBreaks stage d found → IsAnswer stage d (answer_of (first_of None found))
first_answers stage d found breaks = answer stage d found breaks (first_of None found) (first_is None found)
