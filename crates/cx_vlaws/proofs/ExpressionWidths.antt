-- Widths of expressions that fit.
use Rattle.std.proofs.Common.{◌≡◌, ℕ, ◌+◌, ◌-◌, ◌<◌, ◌≤◌, ◌==◌, List, Bool, true, false, ◌&&◌, not, Some, None, option_and_then, refl, subst, if◌then◌else◌, arith, codes}
use Rattle.std.specs.Prelude.{nat_lt, nat_le}
use Rattle.std.proofs.lemmas.Bool.{or_parts, and_parts, not-false, ltb-true, leb-true}
use Rattle.cx_vtree.specs.Plain.{PlainExpr, Named, Number, Part, Word, Applied, Inverted, Chosen, Joined, PlainSource}
use Rattle.cx_vtree.specs.InstanceTree.{same_name, instances_of}
use Rattle.cx_vtree.specs.Sound.{Scope, width_of, is_source, is_array, is_readable, is_comparison, misnames, bad_width, applied_width, chosen_width, joined_width, fitting_width, is_sound}
use Rattle.cx_vlaws.specs.Widths.{scope_at}
use Rattle.cx_vlaws.proofs.OriginLemmas.{source_net}
use Rattle.cx_vlaws.proofs.MeaningLemmas.{wide, net_meant, net_wide, array_wide}
use Rattle.cx_text.proofs.OptionLaws.{bind_some}
use Rattle.cx_text.proofs.BoolLaws.{none_goes_on}

-- 1 to 128
abbrev pub IsWide : ℕ → Type 0
IsWide w = (0 < w) × (w ≤ 128)

chosen_some : {A : Type 0} (test : Bool) (x y : A) → (if test then Some x else None) ≡ Some y → (test ≡ true) × (x ≡ y)
chosen_some true x y e = (refl, cc)
chosen_some false x y e = absurd (cc)

number_wide : (bad : Bool) (v w : ℕ) → (bad ≡ false → IsWide v) → (if bad then None else Some v) ≡ Some w → IsWide w
number_wide true v w h e = absurd (cc)
number_wide false v w h e = let same : v ≡ w = cc in subst IsWide same (h refl)

applied_wide : (comparison : Bool) (v : ℕ) → IsWide v → IsWide (if comparison then 1 else v)
applied_wide true v h = (omega arith, omega arith)
applied_wide false v h = h

part_wide : (v high low : ℕ) → IsWide v → low ≤ high → high < v → IsWide (high + 1 - low)
part_wide v high low h below within =
    let most = h.1 in
    let some : 0 < high + 1 - low = omega arith in
    let few : high + 1 - low ≤ 128 = omega arith in
    (some, few)

module _ (scope : Scope) (nets : (n : List ℕ) → is_source (scope n) ≡ true → IsWide (width_of (scope n))) (arrays : (n : List ℕ) → is_array (scope n) ≡ true → IsWide (width_of (scope n))) where
  named_wide : (n : List ℕ) → not (is_readable scope n) ≡ false → IsWide (width_of (scope n))
  named_wide n e = nets n (and_parts (is_source (scope n)) (not (same_name n (codes "clk"))) (not-false (is_readable scope n) e)).0

  pub expression_wide : (e : PlainExpr) (w : ℕ) → misnames scope e ≡ false → fitting_width scope e ≡ Some w → IsWide w
  expression_wide (Named n) w h e = let same : width_of (scope n) ≡ w = cc in subst IsWide same (named_wide n h)
  expression_wide (Number b) w h e = number_wide (bad_width b.width) b.width w (λ good. wide b.width good) e
  expression_wide (Part n high low) w h e =
      let (fits, same) = chosen_some (nat_le low high && nat_lt high (width_of (scope n))) (high + 1 - low) w e in
      let both = and_parts (nat_le low high) (nat_lt high (width_of (scope n))) fits in
      subst IsWide same (part_wide (width_of (scope n)) high low (named_wide n h) (leb-true low high both.0) (ltb-true high (width_of (scope n)) both.1))
  expression_wide (Word n i) w h e =
      let (v, is, same_some) = bind_some (λ v. Some (width_of (scope n))) (fitting_width scope i) w e in
      let same : width_of (scope n) ≡ w = cc in
      subst IsWide same (arrays n (not-false (is_array (scope n)) (or_parts (not (is_array (scope n))) (misnames scope i) h).0))
  expression_wide (Applied op a b) w h e =
      let ends = or_parts (misnames scope a) (misnames scope b) h in
      let (v, is, f) = bind_some (λ v. option_and_then (applied_width op v) (fitting_width scope b)) (fitting_width scope a) w e in
      let (u, is', g) = bind_some (applied_width op v) (fitting_width scope b) w f in
      let (equal, same) = chosen_some (v == u) (if is_comparison op then 1 else v) w g in
      subst IsWide same (applied_wide (is_comparison op) v (expression_wide a v ends.0 is))
  expression_wide (Inverted a) w h e = expression_wide a w h e
  expression_wide (Chosen c a b) w h e =
      let ends = none_goes_on (misnames scope c) (misnames scope a) (misnames scope b) h in
      let (t, is, f) = bind_some (λ t. option_and_then (λ v. option_and_then (chosen_width t v) (fitting_width scope b)) (fitting_width scope a)) (fitting_width scope c) w e in
      let (v, is', g) = bind_some (λ v. option_and_then (chosen_width t v) (fitting_width scope b)) (fitting_width scope a) w f in
      let (u, is'', k) = bind_some (chosen_width t v) (fitting_width scope b) w g in
      let (equal, same) = chosen_some (t == 1 && v == u) v w k in
      subst IsWide same (expression_wide a v ends.1 is')
  expression_wide (Joined a b) w h e =
      let ends = or_parts (misnames scope a) (misnames scope b) h in
      let (v, is, f) = bind_some (λ v. option_and_then (joined_width v) (fitting_width scope b)) (fitting_width scope a) w e in
      let (u, is', g) = bind_some (joined_width v) (fitting_width scope b) w f in
      let (fits, same) = chosen_some (nat_le (v + u) 128) (v + u) w g in
      let some = (expression_wide a v ends.0 is).0 in
      let few : v + u ≤ 128 = leb-true (v + u) 128 fits in
      let more : 0 < v + u = omega arith in
      subst IsWide same (more, few)

pub expression_bounded : (source : PlainSource) → is_sound source ≡ true → (i : ℕ) (e : PlainExpr) (w : ℕ) → misnames (scope_at (instances_of source) i) e ≡ false → fitting_width (scope_at (instances_of source) i) e ≡ Some w → (0 < w) × (w ≤ 128)
expression_bounded source sound i e w named fits =
    expression_wide (scope_at (instances_of source) i)
    (λ n is. net_wide source sound i n (net_meant (instances_of source) i n (source_net (scope_at (instances_of source) i n) is)))
    (λ n is. array_wide source sound i n is) e w named fits
