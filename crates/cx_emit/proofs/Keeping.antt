-- Expressions that keep the rules in a scope: their names may be read, their widths fit, and they nest within so many levels.
use Rattle.std.proofs.Common.{◌≡◌, ℕ, ◌+◌, ◌-◌, ◌^◌, ◌<◌, ◌≤◌, ◌==◌, ◌&&◌, ◌||◌, not, true, false, List, Some, None, option_and_then, refl, ap, ◌∙◌, subst, if◌then◌else◌, arith, le-leb, lt-ltb, ne_eqb, eq-eqb}
use Rattle.std.proofs.lemmas.Bool.{lt-leb, both_ways, and_from, or_from, or_parts}
use Rattle.std.specs.Prelude.{nat_le, nat_lt}
use Rattle.std.specs.Option.{option_map_or}
use Rattle.cx_bits.specs.BitVector.{BitVector}
use Rattle.cx_prim.specs.Rows.{IsOfWidth}
use Rattle.cx_vtree.specs.declared.operators.Operator.{Operator}
use Rattle.cx_vtree.specs.Plain.{PlainExpr, Named, Number, Part, Word, Applied, Inverted, Chosen, Joined}
use Rattle.cx_vtree.specs.Layout.{is_name, expr_fits}
use Rattle.cx_vtree.specs.Sound.{Scope, width_of, is_array, is_readable, is_comparison, misnames, applied_width, chosen_width, joined_width, part_width, fitting_width, has_width, nests_over}
use Rattle.cx_vtree.proofs.SoundLemmas.{not_wide}

pub record Keeps (scope : Scope) (levels : ℕ) (e : PlainExpr) (w : ℕ) : Type 0 where
  pub names : misnames scope e ≡ false
  pub width : fitting_width scope e ≡ Some w
  pub shallow : nests_over levels e ≡ false
  pub laid : expr_fits e ≡ true

module _ (scope : Scope) (levels : ℕ) where
  pub keeps_named : (n : List ℕ) (w : ℕ) → is_name n ≡ true → is_readable scope n ≡ true → width_of (scope n) ≡ w → Keeps scope levels (Named n) w
  keeps_named n w named readable wide = record { names = ap not readable; width = ap Some wide; shallow = refl; laid = named }

  pub keeps_number : (b : BitVector) (w : ℕ) → IsOfWidth w b → Keeps scope levels (Number b) w
  keeps_number b w fits = record {
    names = lt-leb (2 ^ b.width) b.value fits.fits.in_range;
    width = ap (λ t. if t then None else Some b.width) (not_wide b.width fits.fits.some_bits fits.fits.few_bits) ∙ ap Some fits.same_width;
    shallow = refl;
    laid = refl;
  }

  pub keeps_part : (n : List ℕ) (high low v w : ℕ) → is_name n ≡ true → is_readable scope n ≡ true → width_of (scope n) ≡ v → low ≤ high → high < v → high + 1 - low ≡ w → Keeps scope levels (Part n high low) w
  keeps_part n high low v w named readable wide order within same = record {
    names = ap not readable;
    width = ap (λ u. part_width u high low) wide
        ∙ ap (λ t. if t then Some (high + 1 - low) else None) (and_from (nat_le low high) (nat_lt high v) (le-leb low high order) (lt-ltb high v within))
        ∙ ap Some same;
    shallow = refl;
    laid = named;
  }

-- what nests within few levels nests within more
some_level : (m n : ℕ) → m ≤ n → (m == 0) ≡ false → (n == 0) ≡ false
some_level m n more some = ne_eqb n 0 (λ none. both_ways (m == 0) some (eq-eqb m 0 (omega (arith, more, none))))

pub over_more : (m n : ℕ) (e : PlainExpr) → m ≤ n → nests_over m e ≡ false → nests_over n e ≡ false
over_more m n (Named x) more h = refl
over_more m n (Number b) more h = refl
over_more m n (Part x high low) more h = refl
over_more m n (Word x i) more h =
    let parts = or_parts (m == 0) (nests_over (m - 1) i) h in
    or_from (n == 0) (nests_over (n - 1) i) (some_level m n more parts.0) (over_more (m - 1) (n - 1) i (omega (arith, more)) parts.1)
over_more m n (Applied op a b) more h =
    let parts = or_parts (m == 0 || nests_over (m - 1) a) (nests_over (m - 1) b) h in
    let front = or_parts (m == 0) (nests_over (m - 1) a) parts.0 in
    or_from (n == 0 || nests_over (n - 1) a) (nests_over (n - 1) b)
    (or_from (n == 0) (nests_over (n - 1) a) (some_level m n more front.0) (over_more (m - 1) (n - 1) a (omega (arith, more)) front.1))
    (over_more (m - 1) (n - 1) b (omega (arith, more)) parts.1)
over_more m n (Inverted a) more h =
    let parts = or_parts (m == 0) (nests_over (m - 1) a) h in
    or_from (n == 0) (nests_over (n - 1) a) (some_level m n more parts.0) (over_more (m - 1) (n - 1) a (omega (arith, more)) parts.1)
over_more m n (Chosen c a b) more h =
    let parts = or_parts ((m == 0 || nests_over (m - 1) c) || nests_over (m - 1) a) (nests_over (m - 1) b) h in
    let front = or_parts (m == 0 || nests_over (m - 1) c) (nests_over (m - 1) a) parts.0 in
    let first = or_parts (m == 0) (nests_over (m - 1) c) front.0 in
    or_from ((n == 0 || nests_over (n - 1) c) || nests_over (n - 1) a) (nests_over (n - 1) b)
    (or_from (n == 0 || nests_over (n - 1) c) (nests_over (n - 1) a)
    (or_from (n == 0) (nests_over (n - 1) c) (some_level m n more first.0) (over_more (m - 1) (n - 1) c (omega (arith, more)) first.1))
    (over_more (m - 1) (n - 1) a (omega (arith, more)) front.1))
    (over_more (m - 1) (n - 1) b (omega (arith, more)) parts.1)
over_more m n (Joined a b) more h =
    let parts = or_parts (m == 0 || nests_over (m - 1) a) (nests_over (m - 1) b) h in
    let front = or_parts (m == 0) (nests_over (m - 1) a) parts.0 in
    or_from (n == 0 || nests_over (n - 1) a) (nests_over (n - 1) b)
    (or_from (n == 0) (nests_over (n - 1) a) (some_level m n more front.0) (over_more (m - 1) (n - 1) a (omega (arith, more)) front.1))
    (over_more (m - 1) (n - 1) b (omega (arith, more)) parts.1)

pub keeps_more : (scope : Scope) (m n : ℕ) (e : PlainExpr) (w : ℕ) → m ≤ n → Keeps scope m e w → Keeps scope n e w
keeps_more scope m n e w more k = record { names = k.names; width = k.width; shallow = over_more m n e more k.shallow; laid = k.laid }

-- expressions of others, which stand one level deeper
module _ (scope : Scope) (levels : ℕ) (some : 1 ≤ levels) where
  no_end : (levels == 0) ≡ false
  no_end = ne_eqb levels 0 (λ none. absurd (omega (arith, some, none)))

  pub keeps_word : (n : List ℕ) (i : PlainExpr) (v w : ℕ) → is_name n ≡ true → is_array (scope n) ≡ true → width_of (scope n) ≡ w → Keeps scope (levels - 1) i v → Keeps scope levels (Word n i) w
  keeps_word n i v w named array wide k = record {
    names = or_from (not (is_array (scope n))) (misnames scope i) (ap not array) k.names;
    width = ap (option_and_then (λ u. Some (width_of (scope n)))) k.width ∙ ap Some wide;
    shallow = or_from (levels == 0) (nests_over (levels - 1) i) no_end k.shallow;
    laid = and_from (is_name n) (expr_fits i) named k.laid;
  }

  pub keeps_applied : (op : Operator) (a b : PlainExpr) (v : ℕ) → Keeps scope (levels - 1) a v → Keeps scope (levels - 1) b v → Keeps scope levels (Applied op a b) (if is_comparison op then 1 else v)
  keeps_applied op a b v k l = record {
    names = or_from (misnames scope a) (misnames scope b) k.names l.names;
    width = ap (option_and_then (λ u. option_and_then (applied_width op u) (fitting_width scope b))) k.width
        ∙ ap (option_and_then (applied_width op v)) l.width
        ∙ ap (λ t. if t then Some (if is_comparison op then 1 else v) else None) (eq-eqb v v refl);
    shallow = or_from (levels == 0 || nests_over (levels - 1) a) (nests_over (levels - 1) b) (or_from (levels == 0) (nests_over (levels - 1) a) no_end k.shallow) l.shallow;
    laid = and_from (expr_fits a) (expr_fits b) k.laid l.laid;
  }

  pub keeps_inverted : (a : PlainExpr) (v : ℕ) → Keeps scope (levels - 1) a v → Keeps scope levels (Inverted a) v
  keeps_inverted a v k = record { names = k.names; width = k.width; shallow = or_from (levels == 0) (nests_over (levels - 1) a) no_end k.shallow; laid = k.laid }

  pub keeps_chosen : (c a b : PlainExpr) (v : ℕ) → Keeps scope (levels - 1) c 1 → Keeps scope (levels - 1) a v → Keeps scope (levels - 1) b v → Keeps scope levels (Chosen c a b) v
  keeps_chosen c a b v j k l = record {
    names = or_from (misnames scope c || misnames scope a) (misnames scope b) (or_from (misnames scope c) (misnames scope a) j.names k.names) l.names;
    width = ap (option_and_then (λ t. option_and_then (λ u. option_and_then (chosen_width t u) (fitting_width scope b)) (fitting_width scope a))) j.width
        ∙ ap (option_and_then (λ u. option_and_then (chosen_width 1 u) (fitting_width scope b))) k.width
        ∙ ap (option_and_then (chosen_width 1 v)) l.width
        ∙ ap (λ t. if t then Some v else None) (eq-eqb v v refl);
    shallow = or_from ((levels == 0 || nests_over (levels - 1) c) || nests_over (levels - 1) a) (nests_over (levels - 1) b)
        (or_from (levels == 0 || nests_over (levels - 1) c) (nests_over (levels - 1) a) (or_from (levels == 0) (nests_over (levels - 1) c) no_end j.shallow) k.shallow) l.shallow;
    laid = and_from (expr_fits c && expr_fits a) (expr_fits b) (and_from (expr_fits c) (expr_fits a) j.laid k.laid) l.laid;
  }

  pub keeps_joined : (a b : PlainExpr) (v w : ℕ) → v + w ≤ 128 → Keeps scope (levels - 1) a v → Keeps scope (levels - 1) b w → Keeps scope levels (Joined a b) (v + w)
  keeps_joined a b v w few k l = record {
    names = or_from (misnames scope a) (misnames scope b) k.names l.names;
    width = ap (option_and_then (λ u. option_and_then (joined_width u) (fitting_width scope b))) k.width
        ∙ ap (option_and_then (joined_width v)) l.width
        ∙ ap (λ t. if t then Some (v + w) else None) (le-leb (v + w) 128 few);
    shallow = or_from (levels == 0 || nests_over (levels - 1) a) (nests_over (levels - 1) b) (or_from (levels == 0) (nests_over (levels - 1) a) no_end k.shallow) l.shallow;
    laid = and_from (expr_fits a) (expr_fits b) k.laid l.laid;
  }

-- of a width that is the same
pub keeps_as : (scope : Scope) (levels : ℕ) (e : PlainExpr) (v w : ℕ) → v ≡ w → Keeps scope levels e v → Keeps scope levels e w
keeps_as scope levels e v w same k = subst (Keeps scope levels e) same k

-- what an assign and a set ask of its value
pub keeps_width : (scope : Scope) (levels : ℕ) (e : PlainExpr) (w : ℕ) → Keeps scope levels e w → has_width scope e w ≡ true
keeps_width scope levels e w k = ap (λ o. option_map_or (λ v. v == w) o false) k.width ∙ eq-eqb w w refl
