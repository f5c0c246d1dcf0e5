-- The components that main is made of are those that are reached.
use Rattle.std.proofs.Common.{◌≡◌, ℕ, ◌<◌, Bool, true, false, List, length, get_or, Some, refl, sym, ap, ◌∙◌, subst}
use Rattle.std.specs.List.{slice_get}
use Rattle.std.specs.Prelude.{Result, Ok, Err, IfOk}
use Rattle.std.specs.declared.vec.Vec.{Vec}
use Rattle.std.proofs.Math.Logic.{∥∥₁_elim}
use denote.Struct.Props.{props}
use Rattle.std.proofs.lemmas.Option.{slice_get-get_or}
use Rattle.cx_meaning.specs.Designs.{PlainDesign}
use Rattle.cx_rules.specs.Wellformed.{IsDesign}
use Rattle.cx_profiling.specs.Instrumented.{is_reached}
use Rattle.cx_profiling.proofs.ReachedLemmas.{is_reached-from, is_reached-to}
use Rattle.cx_design_copies.specs.Reaching.{AreMadeOf}
use Rattle.cx_profile.specs.Gains.{AreReached}

module _ (d : PlainDesign) where
  marks-are : IsDesign d → (marks : List Bool) → AreMadeOf d marks → (k : ℕ) → k < length marks → get_or marks k false ≡ is_reached d k
  marks-are rules marks made k less = by (get_or marks k false) refl (is_reached d k) refl
    where
      at : slice_get marks k ≡ Some (get_or marks k false)
      at = slice_get-get_or marks k false less

      by : (a : Bool) → get_or marks k false ≡ a → (b : Bool) → is_reached d k ≡ b → a ≡ b
      by true e true f = refl
      by false e false f = refl
      by true e false f = sym (is_reached-from d rules k (made.sound k (at ∙ ap (λ x. Some x) e))) ∙ f
      by false e true f = absurd (let m : Some false ≡ Some true = sym (at ∙ ap (λ x. Some x) e) ∙ made.all k (is_reached-to d rules k f) in cc)

  -- the marks tell which components are reached
  are_reached : ∥ IsDesign d ∥₁ → (marks : List Bool) → AreMadeOf d marks → AreReached d marks
  are_reached keeps marks made k less =
      let there : k < length marks = subst (λ n. k < n) (sym made.sized) less in
      let same : get_or marks k false ≡ is_reached d k = ∥∥₁_elim keeps (hlevel props) (λ rules. marks-are rules marks made k there) in
      slice_get-get_or marks k false there ∙ ap (λ x. Some x) same

  pub marked_reached : {B E : Type 0} → ∥ IsDesign d ∥₁ → (r : Result (Vec Bool B) E) → IfOk r (λ marks. AreMadeOf d marks.items) → IfOk r (λ marks. AreReached d marks.items)
  marked_reached keeps (Ok marks) made = are_reached keeps marks.items made
  marked_reached keeps (Err e) made = tt
