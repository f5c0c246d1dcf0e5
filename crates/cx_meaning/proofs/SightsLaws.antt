-- Facts of what `Sights` defines, that several crates above take.
use Rattle.std.proofs.Common.{◌≡◌, ℕ, suc, inl, inr, List, Some, ap, Option, None, refl, Bool, true, false, if◌then◌else◌, ◌<◌, subst, ◌-◌, length}
use Rattle.cx_text.specs.Members.{In}
use Rattle.cx_meaning.specs.Sights.{AnInput, AnOutput, ItsDone, output_port, part_port, of_option}
use Rattle.cx_meaning.specs.Control.{with_comb}
use Rattle.std.specs.Prelude.{nat_lt}
use Rattle.std.proofs.lemmas.Bool.{ltb-true, lt-ltb}
use Rattle.cx_bits.specs.BitVector.{BitVector}
use Rattle.cx_meaning.specs.declared.sights.Seen.TheVariants.{Value, Undefined}
use Rattle.cx_meaning.specs.Designs.{PlainComponent}

pub behind_comb : (comb : Option ℕ) (gs : List ℕ) (g : ℕ) → In gs g → In (with_comb comb gs) g
behind_comb None gs g j = j
behind_comb (Some h) gs g j = inr j

pub in_comb : (comb : Option ℕ) (gs : List ℕ) (g : ℕ) → comb ≡ Some g → In (with_comb comb gs) g
in_comb None gs g e = absurd (none_some e)
  where
    none_some : ◌≡◌ {A = Option ℕ} None (Some g) → ⊥
    none_some e = cc
in_comb (Some h) gs g e = inl (some_inj e)
  where
    some_inj : ◌≡◌ {A = Option ℕ} (Some h) (Some g) → h ≡ g
    some_inj e = cc

pub not_input : (outputs m n : ℕ) → output_port outputs m ≡ AnInput n → ⊥
not_input outputs m n e = by (nat_lt m outputs) e
  where
    by : (t : Bool) → (if t then AnOutput m else ItsDone) ≡ AnInput n → ⊥
    by true e = cc
    by false e = cc

pub output_is : (outputs m n : ℕ) → output_port outputs m ≡ AnOutput n → n < outputs
output_is outputs m n e = by (nat_lt m outputs) refl e
  where
    by : (t : Bool) → nat_lt m outputs ≡ t → (if t then AnOutput m else ItsDone) ≡ AnOutput n → n < outputs
    by true f e = let same : m ≡ n = cc in subst (λ k. k < outputs) same (ltb-true m outputs f)
    by false f e = absurd (cc)

pub undefined_value : (b : BitVector) → Undefined ≡ Value b → ⊥
undefined_value b e = cc

pub input_at : (part : PlainComponent) (n : ℕ) → n < length part.inputs → part_port part (suc n) ≡ AnInput n
input_at part n less = ap (λ b. if b then AnInput n else output_port (length part.outputs) (n - length part.inputs)) (lt-ltb n (length part.inputs) less)

-- what a row gives, where it is seen as a value
pub option_is : (o : Option BitVector) (b : BitVector) → of_option o ≡ Value b → o ≡ Some b
option_is None b e = absurd (cc)
option_is (Some v) b e = cc
