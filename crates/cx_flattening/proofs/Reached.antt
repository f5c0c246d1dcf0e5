-- Which components the flat main reaches, and where each of them stands in the flat design.
use Rattle.std.proofs.Common.{◌≡◌, ℕ, zero, suc, ◌+◌, ◌<◌, ⊎_elim, Bool, true, false, nat_eq, List, [], ◌∷◌, ◌++◌, length, get_or, Some, refl, sym, ap, ◌∙◌, subst, arith}
use Rattle.std.specs.Prelude.{if◌then◌else◌}
use Rattle.std.proofs.lemmas.Bool.{eq-eqb, eqb-true}
use Rattle.std.proofs.lemmas.List.{length-append, length-map, get_or-map}
use Rattle.std.proofs.Math.Seq.{get_or-append_seam}
use Rattle.cx_meaning.specs.Designs.{PlainKind, OfPrimitive, OfComponent, PlainCell, PlainDesign, component_at, no_component}
use Rattle.cx_flattening.specs.Copies.{count_if}
use Rattle.cx_flattening.specs.FlatDesign.{kind_of, any_of, flat_of, leads_within, is_reached, reached_from, reached_below, renumbered_part, flat_design}
use Rattle.cx_flattening.proofs.CellLayout.{kind_at}
use Rattle.cx_text.proofs.BoolLaws.{or_either, or_left, or_right}

zero_plus : (a : ℕ) → 0 + a ≡ a
zero_plus a = omega arith

plus_zero : (a : ℕ) → a ≡ a + 0
plus_zero a = omega arith

-- a cell of a component that has the property
pub any_here : (property : ℕ → Bool) (cs : List PlainCell) (e j : ℕ) → kind_at cs e ≡ Some (OfComponent j) → property j ≡ true → any_of property cs ≡ true
any_here property [] e j is holds = absurd (cc)
any_here property (c ∷ cs) zero j is holds = or_left (kind_of property c.kind) (any_of property cs) (let same : c.kind ≡ OfComponent j = cc in ap (kind_of property) same ∙ holds)
any_here property (c ∷ cs) (suc e) j is holds = or_right (kind_of property c.kind) (any_of property cs) (any_here property cs e j is holds)

-- what implies another property
kind_more : (one other : ℕ → Bool) → ((j : ℕ) → one j ≡ true → other j ≡ true) → (kind : PlainKind) → kind_of one kind ≡ true → kind_of other kind ≡ true
kind_more one other more (OfPrimitive primitive) e = absurd (cc)
kind_more one other more (OfComponent k) e = more k e

any_more : (one other : ℕ → Bool) → ((j : ℕ) → one j ≡ true → other j ≡ true) → (cs : List PlainCell) → any_of one cs ≡ true → any_of other cs ≡ true
any_more one other more [] e = absurd (cc)
any_more one other more (c ∷ cs) e =
    ⊎_elim
    (λ f. or_left (kind_of other c.kind) (any_of other cs) (kind_more one other more c.kind f))
    (λ f. or_right (kind_of other c.kind) (any_of other cs) (any_more one other more cs f))
    (or_either (kind_of one c.kind) (any_of one cs) e)

module _ (d : PlainDesign) where
  -- with a step more
  leads_more : (n k j : ℕ) → leads_within d n k j ≡ true → leads_within d (suc n) k j ≡ true
  leads_more zero k j e = or_left (nat_eq j k) (any_of (leads_within d zero k) (flat_of d j).cells) e
  leads_more (suc n) k j e =
      ⊎_elim
      (λ f. or_left (nat_eq j k) (any_of (leads_within d (suc n) k) (flat_of d j).cells) f)
      (λ f. or_right (nat_eq j k) (any_of (leads_within d (suc n) k) (flat_of d j).cells) (any_more (leads_within d n k) (leads_within d (suc n) k) (leads_more n k) (flat_of d j).cells f))
      (or_either (nat_eq j k) (any_of (leads_within d n k) (flat_of d j).cells) e)

  pub leads_far : (more n k j : ℕ) → leads_within d n k j ≡ true → leads_within d (more + n) k j ≡ true
  leads_far zero n k j e = subst (λ m. leads_within d m k j ≡ true) (sym (zero_plus n)) e
  leads_far (suc more) n k j e = subst (λ m. leads_within d m k j ≡ true) (plus more n) (leads_more (more + n) k j (leads_far more n k j e))
    where
      plus : (a b : ℕ) → suc (a + b) ≡ suc a + b
      plus a b = omega arith

  pub itself : (n k : ℕ) → leads_within d n k k ≡ true
  itself zero k = eq-eqb k k refl
  itself (suc n) k = or_left (nat_eq k k) (any_of (leads_within d n k) (flat_of d k).cells) (eq-eqb k k refl)

  -- what a component leads to leads to its cells' components
  begins_here : (m a k j e : ℕ) → kind_at (flat_of d k).cells e ≡ Some (OfComponent j) → nat_eq a k ≡ true → leads_within d (suc m) j a ≡ true
  begins_here m a k j e is same =
      or_right (nat_eq a j) (any_of (leads_within d m j) (flat_of d a).cells)
      (any_here (leads_within d m j) (flat_of d a).cells e j (ap (λ x. kind_at (flat_of d x).cells e) (eqb-true a k same) ∙ is) (itself m j))

  pub leads_further : (n a k j e : ℕ) → leads_within d n k a ≡ true → kind_at (flat_of d k).cells e ≡ Some (OfComponent j) → leads_within d (suc n) j a ≡ true
  leads_further zero a k j e h is = begins_here 0 a k j e is h
  leads_further (suc n) a k j e h is =
      ⊎_elim (begins_here (suc n) a k j e is)
      (λ g. or_right (nat_eq a j) (any_of (leads_within d (suc n) j) (flat_of d a).cells)
      (any_more (leads_within d n k) (leads_within d (suc n) j) (λ x l. leads_further n x k j e l is) (flat_of d a).cells g))
      (or_either (nat_eq a k) (any_of (leads_within d n k) (flat_of d a).cells) h)

  -- THE NEW NUMBERS. Those that are reached of more are those of fewer, and then the others
  from_both : (k a b : ℕ) → reached_from d k (a + b) ≡ reached_from d k a ++ reached_from d (k + a) b
  from_both k zero b = ap (reached_from d k) (zero_plus b) ∙ ap (λ x. reached_from d x b) (plus_zero k)
  from_both k (suc a) b =
      ap (reached_from d k) (suc_plus a b) ∙ choice (is_reached d k) (from_both (suc k) a b ∙ ap (λ x. reached_from d (suc k) a ++ reached_from d x b) (next k a))
    where
      suc_plus : (x y : ℕ) → suc x + y ≡ suc (x + y)
      suc_plus x y = omega arith

      next : (x y : ℕ) → suc x + y ≡ x + suc y
      next x y = omega arith

      choice : (t : Bool) → reached_from d (suc k) (a + b) ≡ reached_from d (suc k) a ++ reached_from d (k + suc a) b
          → (if t then k ∷ reached_from d (suc k) (a + b) else reached_from d (suc k) (a + b)) ≡ (if t then k ∷ reached_from d (suc k) a else reached_from d (suc k) a) ++ reached_from d (k + suc a) b
      choice true h = ap (λ l. k ∷ l) h
      choice false h = h

  -- as many stand before one as are reached below it
  before : (k : ℕ) → length (reached_from d 0 k) ≡ reached_below d k
  before zero = refl
  before (suc k) =
      ap (λ n. length (reached_from d 0 n)) (one k) ∙ ap length (from_both 0 k 1) ∙ length-append (reached_from d 0 k) (reached_from d (0 + k) 1)
      ∙ ap (λ n. length (reached_from d 0 k) + length (reached_from d n 1)) (zero_plus k) ∙ choice (is_reached d k) (before k)
    where
      one : (a : ℕ) → suc a ≡ a + 1
      one a = omega arith

      choice : (t : Bool) → length (reached_from d 0 k) ≡ reached_below d k → length (reached_from d 0 k) + length (if t then k ∷ [] else []) ≡ count_if t (reached_below d k)
      choice true h = omega (arith, h)
      choice false h = omega (arith, h)

  -- where one that is reached stands among them
  record HasPlace (list : List ℕ) (k : ℕ) : Type 0 where
    inside : reached_below d k < length list
    is : get_or list (reached_below d k) 0 ≡ k

  placed_in : (k : ℕ) (xs ys : List ℕ) → length xs ≡ reached_below d k → HasPlace (xs ++ k ∷ ys) k
  placed_in k xs ys count = record {
    inside = let all = length-append xs (k ∷ ys) in omega (arith, all, count);
    is = ap (λ n. get_or (xs ++ k ∷ ys) n 0) (sym count) ∙ get_or-append_seam xs k ys 0;
  }

  has_place : (k more : ℕ) → is_reached d k ≡ true → HasPlace (reached_from d 0 (k + suc more)) k
  has_place k more is =
      subst (λ l. HasPlace l k) (sym (from_both 0 k (suc more) ∙ ap (λ n. reached_from d 0 k ++ reached_from d n (suc more)) (zero_plus k)))
      (subst (λ (t : Bool). HasPlace (reached_from d 0 k ++ (if t then k ∷ reached_from d (suc k) more else reached_from d (suc k) more)) k) (sym is)
      (placed_in k (reached_from d 0 k) (reached_from d (suc k) more) (before k)))

  rest : (k n : ℕ) → k < n → (more : ℕ) × (n ≡ k + suc more)
  rest zero zero less = absurd (omega (arith, less))
  rest zero (suc n) less = (n, sym (zero_plus (suc n)))
  rest (suc k) zero less = absurd (omega (arith, less))
  rest (suc k) (suc n) less = let r = rest k n (omega (arith, less)) in (r.0, let e = r.1 in omega (arith, e))

  place : (k : ℕ) → k < length d.components → is_reached d k ≡ true → HasPlace (reached_from d 0 (length d.components)) k
  place k less is = let r = rest k (length d.components) less in subst (λ n. HasPlace (reached_from d 0 n) k) (sym r.1) (has_place k r.0 is)

  -- THE COMPONENT that is reached, in the flat design
  pub flat_there : (k : ℕ) → k < length d.components → is_reached d k ≡ true → reached_below d k < length (flat_design d).components
  flat_there k less is =
      let inside = (place k less is).inside in
      let size = length-map (reached_from d 0 (length d.components)) (λ j. renumbered_part d (flat_of d j)) in
      omega (arith, inside, size)

  pub flat_component_is : (k : ℕ) → k < length d.components → is_reached d k ≡ true → component_at (flat_design d) (reached_below d k) ≡ renumbered_part d (flat_of d k)
  flat_component_is k less is =
      get_or-map (λ j. renumbered_part d (flat_of d j)) (reached_from d 0 (length d.components)) (reached_below d k) 0 no_component (place k less is).inside
      ∙ ap (λ j. renumbered_part d (flat_of d j)) (place k less is).is

  -- no two have one number
  pub reached_apart : (j k : ℕ) → j < length d.components → k < length d.components → is_reached d j ≡ true → is_reached d k ≡ true → reached_below d j ≡ reached_below d k → j ≡ k
  reached_apart j k less fewer is also same = sym (place j less is).is ∙ ap (λ n. get_or (reached_from d 0 (length d.components)) n 0) same ∙ (place k fewer also).is
