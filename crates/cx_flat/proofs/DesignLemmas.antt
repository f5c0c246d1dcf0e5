-- The flat design of what is made for its components, and what it keeps.
use Rattle.std.proofs.Common.{◌≡◌, ◌∙◌, ℕ, List, ap, sym, subst}
use Rattle.std.proofs.Math.Logic.{∥∥₁_elim, ∥∥₁_map}
use Rattle.cx_meaning.specs.Designs.{PlainComponent, PlainDesign}
use Rattle.cx_rules.specs.Accepted.{IsAccepted}
use Rattle.cx_rules.specs.Wellformed.{IsDesign}
use Rattle.cx_flattening.specs.FlatDesign.{flat_design, reached_below}

module _ (d : PlainDesign) where
  pub made_is : (made : List PlainComponent) (main : ℕ) → made ≡ (flat_design d).components → main ≡ reached_below d d.main → record { components = made; main = main } ≡ flat_design d
  made_is made main is same = ap (λ cs. record { components = cs; main = main }) is ∙ ap (λ m. record { components = (flat_design d).components; main = m }) same

  -- what every design keeps
  pub made_keeps : ∥ IsDesign d ∥₁ → (IsDesign d → IsDesign (flat_design d)) → (made : PlainDesign) → made ≡ flat_design d → ∥ IsDesign made ∥₁
  made_keeps keeps kept made is = ∥∥₁_map keeps (λ rules. subst IsDesign (sym is) (kept rules))

  -- it is accepted
  pub made_accepted : ∥ IsDesign d ∥₁ → (IsDesign d → IsAccepted (flat_design d)) → (made : PlainDesign) → made ≡ flat_design d → IsAccepted made
  made_accepted keeps kept made is = subst IsAccepted (sym is) (record {
    widths = λ rule spot place name stage b. never (λ a. a.widths rule spot place name stage b);
    shapes = λ rule spot place name stage b. never (λ a. a.shapes rule spot place name stage b);
    no_cycles = λ rule spot place name stage b. never (λ a. a.no_cycles rule spot place name stage b);
    no_races = λ rule spot place name stage b. never (λ a. a.no_races rule spot place name stage b);
    limits = λ rule spot place name stage b. never (λ a. a.limits rule spot place name stage b);
  })
    where
      never : (IsAccepted (flat_design d) → ⊥) → ⊥
      never breaks = ∥∥₁_elim keeps (λ p q. absurd p) (λ rules. breaks (kept rules))
