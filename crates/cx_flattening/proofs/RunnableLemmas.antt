-- The design that is run has no static component, and is the design itself where that has none.
use Rattle.std.proofs.Common.{◌≡◌, ℕ, zero, suc, ◌<◌, Bool, true, false, ◌||◌, is_some, List, [], ◌∷◌, length, get_or, true≢false, refl, ap, ◌∙◌, arith}
use Rattle.std.specs.Prelude.{if◌then◌else◌}
use Rattle.std.proofs.lemmas.Bool.{or_parts}
use Rattle.cx_meaning.specs.Designs.{PlainInvoke, PlainComponent, PlainDesign, no_component}
use Rattle.cx_rules.specs.Flat.{IsFlatPart, IsFlat}
use Rattle.cx_flattening.specs.FlatDesign.{flat_design}
use Rattle.cx_flattening.specs.Runnable.{has_invokes, is_static_part, any_static, has_static, runnable}
use Rattle.cx_text.proofs.OptionLaws.{none_of}

-- WHERE NO COMPONENT IS STATIC

no_invokes : (vs : List PlainInvoke) → has_invokes vs ≡ false → vs ≡ []
no_invokes [] h = refl
no_invokes (v ∷ vs) h = absurd (true≢false h)

flat_part : (part : PlainComponent) → is_static_part part ≡ false → IsFlatPart part
flat_part part h =
    let both = or_parts (is_some part.latency) (has_invokes part.invokes) h in
    record { dynamic = none_of part.latency both.0; no_invoke = no_invokes part.invokes both.1 }

flat_parts : (parts : List PlainComponent) → any_static parts ≡ false → (k : ℕ) → k < length parts → IsFlatPart (get_or parts k no_component)
flat_parts [] h k few = absurd (omega (arith, few))
flat_parts (part ∷ parts) h zero few = flat_part part (or_parts (is_static_part part) (any_static parts) h).0
flat_parts (part ∷ parts) h (suc k) few = flat_parts parts (or_parts (is_static_part part) (any_static parts) h).1 k (omega (arith, few))

not_static : (part : PlainComponent) → IsFlatPart part → is_static_part part ≡ false
not_static part h = ap (λ o. is_some o || has_invokes part.invokes) h.dynamic ∙ ap has_invokes h.no_invoke

none_static : (parts : List PlainComponent) → ((k : ℕ) → k < length parts → IsFlatPart (get_or parts k no_component)) → any_static parts ≡ false
none_static [] h = refl
none_static (part ∷ parts) h =
    ap (λ b. b || any_static parts) (not_static part (h zero (omega arith)))
    ∙ none_static parts (λ k few. h (suc k) (omega (arith, few)))

pub without_static : (d : PlainDesign) → IsFlat d → runnable d ≡ d
without_static d flat = ap (λ b. if b then flat_design d else d) (none_static d.components flat)

-- what holds of the flat design, and of a design that is flat
pub by_static : (d : PlainDesign) (P : PlainDesign → Type 0) → P (flat_design d) → (IsFlat d → P d) → P (runnable d)
by_static d P flat own = by (has_static d) refl
  where
    by : (b : Bool) → has_static d ≡ b → P (if b then flat_design d else d)
    by true e = flat
    by false e = own (flat_parts d.components e)

pub runnable_flat : ((d : PlainDesign) → IsFlat (flat_design d)) → (d : PlainDesign) → IsFlat (runnable d)
runnable_flat flat d = by_static d IsFlat (flat d) (λ own. own)
