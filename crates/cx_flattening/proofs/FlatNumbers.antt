-- EACH COMPONENT of the flat design is one that the flat main reaches, flattened.
use Rattle.std.proofs.Common.{◌≡◌, ℕ, zero, suc, ◌+◌, ◌<◌, Bool, true, false, ◌∷◌, length, get_or, if◌then◌else◌, refl, sym, ap, ◌∙◌, subst, arith}
use Rattle.std.proofs.lemmas.List.{length-map}
use Rattle.cx_meaning.specs.Designs.{PlainDesign, component_at}
use Rattle.cx_rules.specs.Ports.{component_of}
use Rattle.cx_rules.specs.Wellformed.{IsDesign}
use Rattle.cx_flattening.specs.Copies.{count_if}
use Rattle.cx_flattening.specs.Embedded.{IsFlattened}
use Rattle.cx_flattening.specs.FlatDesign.{flat_of, is_reached, reached_from, reached_below, renumbered_part, flat_design}
use Rattle.cx_flattening.proofs.Reached.{flat_component_is}
use Rattle.cx_flattening.proofs.FlatComponents.{flat_component}

abbrev IsPlaced : PlainDesign → ℕ → ℕ → ℕ → ℕ → Type 0
IsPlaced d k n m x = (x < k + n) × (is_reached d x ≡ true) × (reached_below d x ≡ reached_below d k + m)

placed : (d : PlainDesign) (k n m : ℕ) → m < length (reached_from d k n) → IsPlaced d k n m (get_or (reached_from d k n) m 0)
placed d k zero m less = absurd (omega (arith, less))
placed d k (suc n) m less = choice (is_reached d k) refl m less (λ x h. placed d (suc k) n x h)
  where
    choice : (b : Bool) → is_reached d k ≡ b → (m : ℕ) → m < length (if b then k ∷ reached_from d (suc k) n else reached_from d (suc k) n)
        → ((x : ℕ) → x < length (reached_from d (suc k) n) → IsPlaced d (suc k) n x (get_or (reached_from d (suc k) n) x 0))
        → IsPlaced d k (suc n) m (get_or (if b then k ∷ reached_from d (suc k) n else reached_from d (suc k) n) m 0)
    choice true is zero there later = (omega arith, is, omega arith)
    choice true is (suc x) there later =
        let h = later x (omega (arith, there)) in
        let less = h.0 in
        let e = h.2 in
        let one : reached_below d (suc k) ≡ suc (reached_below d k) = ap (λ c. count_if c (reached_below d k)) is in
        (omega (arith, less), h.1, omega (arith, e, one))
    choice false is x there later =
        let h = later x there in
        let less = h.0 in
        let e = h.2 in
        let one : reached_below d (suc k) ≡ reached_below d k = ap (λ c. count_if c (reached_below d k)) is in
        (omega (arith, less), h.1, omega (arith, e, one))

-- the component that one of the flat design is made of
pub record IsMade (d : PlainDesign) (n : ℕ) : Type 0 where
  pub old : ℕ
  pub less : old < length d.components
  pub reached : is_reached d old ≡ true
  pub number : reached_below d old ≡ n
  pub part : component_at (flat_design d) n ≡ renumbered_part d (flat_of d old)
  pub flattened : IsFlattened (component_of d old) (component_of (flat_design d) n)

pub made : (d : PlainDesign) → IsDesign d → (n : ℕ) → n < length (flat_design d).components → IsMade d n
made d design n there = record {
  old = k;
  less = less;
  reached = p.1;
  number = number;
  part = ap (component_at (flat_design d)) (sym number) ∙ flat_component_is d k less p.1;
  flattened = subst (λ m. IsFlattened (component_of d k) (component_of (flat_design d) m)) number (flat_component d design k p.1);
}
  where
    k : ℕ
    k = get_or (reached_from d 0 (length d.components)) n 0

    p : IsPlaced d 0 (length d.components) n k
    p = placed d 0 (length d.components) n (subst (λ m. n < m) (length-map (reached_from d 0 (length d.components)) (λ j. renumbered_part d (flat_of d j))) there)

    zero_plus : (a : ℕ) → 0 + a ≡ a
    zero_plus a = omega arith

    less : k < length d.components
    less = subst (λ m. k < m) (zero_plus (length d.components)) p.0

    number : reached_below d k ≡ n
    number = p.2 ∙ zero_plus n
