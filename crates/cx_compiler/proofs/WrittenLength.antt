-- The text that is written for an accepted design within the size has never more bytes than a Verilog text may have, where few static ifs stand around a
-- statement.
use Rattle.std.proofs.Common.{◌≡◌, true, ℕ, ◌<◌, ◌≤◌, length, ⊎_elim, refl, inr, sym, subst, arith}
use Rattle.std.proofs.lemmas.Bool.{cases_lt}
use Rattle.cx_text.specs.declared.limits.TheConstants.{COMPILE_SIZE, VERILOG_BYTES, WEIGHT}
use Rattle.cx_text.specs.declared.rules.Rule.TheVariants as told
use Rattle.cx_meaning.specs.Designs.{PlainDesign, component_at}
use Rattle.cx_rules.specs.Flat.{IsFlat}
use Rattle.cx_rules.specs.Accepted.{IsAccepted}
use Rattle.cx_rules.specs.LimitRule.{OnWeight, word_of, order_of}
use Rattle.cx_rules.specs.Sizes.{design_size, weight_of}
use Rattle.cx_rules.specs.Spots.{Whole}
use Rattle.cx_rules.specs.Wellformed.{IsDesign}
use Rattle.cx_rules.proofs.CountsLemmas.{counted_weight-flat}
use Rattle.cx_vtree.specs.Sound.{is_sound}
use Rattle.cx_vtree.specs.Spelling.{text_of}
use Rattle.cx_wiring.proofs.ComponentCounts.{PartsHold}
use Rattle.cx_emitted.specs.Shallow.{IsShallow}
use Rattle.cx_emitted.proofs.WrittenBytes.{written_within}
use Rattle.cx_compiler.specs.Compiled.{written_source}

-- an accepted design without static components is not over the limit on weight
weight_few : (d : PlainDesign) → IsFlat d → IsAccepted d → weight_of d ≤ WEIGHT
weight_few d flat accepted = ⊎_elim (λ more. absurd (over more)) (λ h. h) (cases_lt WEIGHT (weight_of d))
  where
    over : WEIGHT < weight_of d → ⊥
    over more =
        accepted.limits told.Limit (record { component = d.main; part = Whole (order_of OnWeight) }) (component_at d d.main).place (word_of OnWeight) refl
        (inr (inr (inr (inr (inr (inr (record { at_main = refl; is = refl; exceeds = subst (λ n. WEIGHT < n) (sym (counted_weight-flat d flat (length d.components) d.main)) more; tells = (refl, refl) })))))))

-- SO ITS TEXT IS SHORT, where few static ifs stand around a statement
module _ (d : PlainDesign) (rules : IsDesign d) (flat : IsFlat d) (accepted : IsAccepted d) (within : design_size d ≤ COMPILE_SIZE) (parts : (k : ℕ) → k < length d.components → PartsHold (component_at d k)) where
  pub short : IsShallow d → is_sound (written_source d) ≡ true → length (text_of (written_source d)) ≤ VERILOG_BYTES
  short shallow sound =
      let small : design_size d ≤ 16384 = within in
      let weight : weight_of d ≤ WEIGHT = weight_few d flat accepted in
      let light : weight_of d ≤ 65536 = omega (arith, weight) in
      written_within d rules flat accepted small parts shallow sound light
