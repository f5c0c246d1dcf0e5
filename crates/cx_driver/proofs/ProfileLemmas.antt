-- What `profile` does with a text and a data file is one thing, and it is what its design does.
use Rattle.std.proofs.Common.{◌≡◌, inl, inr, ℕ, List, Result, Ok, Err, IfOk, IfErr, sym, ap, ◌∙◌}
use Rattle.cx_meaning.specs.Designs.{PlainDesign}
use Rattle.cx_commands.specs.declared.stops.Stop.{Stop}
use Rattle.cx_commands.specs.declared.stops.Stop.TheVariants as stops
use Rattle.cx_compiler.specs.Texts.{IsDesignOf, IsTextRefusal}
use Rattle.cx_compiler.proofs.TextLemmas.{one_design}
use Rattle.cx_driver.specs.Profiling.{IsDesignProfile, IsDesignProfileStop, IsProfileAnswer, IsProfileStop, Profiles, design_profile}
use Rattle.cx_driver.proofs.CountLemmas.{count_once, counted_once}

-- WHAT A TEXT DOES is one thing
pub one_profile : (text json : List ℕ) (budget : ℕ) (a b : Result (List ℕ) Stop) → Profiles text json budget a → Profiles text json budget b → a ≡ b
one_profile text json budget a b (inl h) (inl k) = h.3 ∙ ap (λ d. design_profile d json budget) (one_design text h.0 k.0 h.1 k.1) ∙ sym k.3
one_profile text json budget a b (inl h) (inr k) = absurd (counted_once text h.0 k.0 h.1 h.2 k.1)
one_profile text json budget a b (inr h) (inl k) = absurd (counted_once text k.0 h.0 k.1 k.2 h.1)
one_profile text json budget a b (inr h) (inr k) = h.2 ∙ ap (λ d. Err (stops.Rule d)) (count_once text h.0 k.0 h.1 k.1) ∙ sym k.2

-- from a design to its text
pub text_profiles : {X : Type 0} (bytes : X → List ℕ) (text json : List ℕ) (d : PlainDesign) (budget : ℕ) (r : Result X Stop) → IsDesignOf text d
    → IfOk r (λ x. IsDesignProfile d json budget (bytes x)) → IfOk r (λ x. IsProfileAnswer text json budget (bytes x))
text_profiles bytes text json d budget (Ok x) is h = inl (d, is, h.0, sym h.1)
text_profiles bytes text json d budget (Err stop) is h = tt

pub text_profile_stops : {X : Type 0} (text json : List ℕ) (d : PlainDesign) (budget : ℕ) (r : Result X Stop) → IsDesignOf text d
    → IfErr r (IsDesignProfileStop d json budget) → IfErr r (IsProfileStop text json budget)
text_profile_stops text json d budget (Ok x) is h = tt
text_profile_stops text json d budget (Err stop) is (inl (inl memory)) = inl memory
text_profile_stops text json d budget (Err stop) is (inl (inr h)) = inr (inr (h.0, inr (d, is, h.1), ap (λ s. Err s) h.2))
text_profile_stops text json d budget (Err stop) is (inr h) = inr (inl (d, is, h.0, sym h.1))

-- from a text that is refused
pub refused_profile : (text json : List ℕ) (budget : ℕ) (stop : Stop) → IsTextRefusal text stop → IsProfileStop text json budget stop
refused_profile text json budget stop (inl memory) = inl memory
refused_profile text json budget stop (inr h) = inr (inr (h.0, inl h.1, ap (λ s. Err s) h.2))
