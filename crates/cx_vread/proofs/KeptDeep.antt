-- What stands for an expression that nests deep breaks the same rules.
use Rattle.std.proofs.Common.{◌≡◌, ℕ, ◌-◌, ◌<◌, ◌^◌, zero, suc, ◌==◌, Bool, true, false, List, Option, Some, None, refl, ◌∙◌, ap, sym, subst, arith, if◌then◌else◌}
use Rattle.std.specs.Prelude.{is_some}
use Rattle.std.proofs.lemmas.Bool.{or_right, lt-leb}
use Rattle.std.proofs.lemmas.Nat.{pow_pos}
use Rattle.cx_vtree.specs.Plain.{PlainExpr}
use Rattle.cx_vtree.specs.Sound.{Scope, width_of, misnames, fitting_width, nests_over, too_deep}
use Rattle.cx_vread_exprs.specs.Deep.{bits_of, leaf_by, leaf_of, inverted, most_brackets, stand_for}
use Rattle.cx_vscope.specs.Shapes.{shape_of}
use Rattle.cx_vread_exprs.specs.Tokens.{fits_bits, misnamed}
use Rattle.cx_vread_exprs.proofs.Kept.{kept_expr, kept_by}
use Rattle.cx_vread_exprs.proofs.Levels.{brackets_are}
use Rattle.cx_vread.proofs.GoodWidths.{is_fine, IsGood, fitting_good}
use Rattle.cx_vread.proofs.KeptExprs.{clock_misnames, misnames_kept, fitting_kept, unbroken_kept}
use Rattle.cx_vread.proofs.SoundHeld.{literal_held, deeper}

-- brackets that invert change no name and no width
inverted_misnames : (scope : Scope) (n : ℕ) (e : PlainExpr) → misnames scope (inverted n e) ≡ misnames scope e
inverted_misnames scope zero e = refl
inverted_misnames scope (suc n) e = inverted_misnames scope n e

inverted_fitting : (scope : Scope) (n : ℕ) (e : PlainExpr) → fitting_width scope (inverted n e) ≡ fitting_width scope e
inverted_fitting scope zero e = refl
inverted_fitting scope (suc n) e = inverted_fitting scope n e

inverted_over : (l n : ℕ) (e : PlainExpr) → l < n → nests_over l (inverted n e) ≡ true
inverted_over l zero e lt = absurd (omega arith)
inverted_over zero (suc n) e lt = refl
inverted_over (suc l) (suc n) e lt =
    let fewer : suc l - 1 ≡ l = omega arith in
    or_right (suc l == 0) (nests_over (suc l - 1) (inverted n e)) (ap (λ k. nests_over k (inverted n e)) fewer ∙ inverted_over l n e (omega arith))

-- what stands within them
bits_misnames : (scope : Scope) (fits : Bool) (w : ℕ) → misnames scope (leaf_by (if fits then Some (record { width = w; value = 0 }) else None)) ≡ false
bits_misnames scope true w = lt-leb (2 ^ w) 0 (pow_pos w)
bits_misnames scope false w = refl

leaf_misnames : (scope : Scope) (named : Bool) (o : Option ℕ) → misnames scope (leaf_of (record { misnamed = named; width = o })) ≡ named
leaf_misnames scope true o = clock_misnames scope
leaf_misnames scope false None = refl
leaf_misnames scope false (Some w) = bits_misnames scope (fits_bits w 0) w

leaf_width : (scope : Scope) (o : Option ℕ) → IsGood o → fitting_width scope (leaf_by (bits_of o)) ≡ o
leaf_width scope None good = refl
leaf_width scope (Some w) good =
    ap (λ b. fitting_width scope (leaf_by (if b then Some (record { width = w; value = 0 }) else None))) (literal_held w 0 (lt-leb (2 ^ w) 0 (pow_pos w)) good)
    ∙ ap (λ b. if b then None else Some w) good

leaf_fitting : (scope : Scope) (named : Bool) (o : Option ℕ) → named ≡ false → IsGood o → fitting_width scope (leaf_of (record { misnamed = named; width = o })) ≡ o
leaf_fitting scope named o none good = ap (λ b. fitting_width scope (if b then misnamed else leaf_by (bits_of o))) none ∙ leaf_width scope o good

-- names, widths and depth
pub by_misnames : (scope : Scope) (e : PlainExpr) → misnames scope (kept_by scope e) ≡ misnames scope e
by_misnames scope e = go (nests_over 128 e)
  where
    go : (t : Bool) → misnames scope (if t then stand_for (shape_of scope (kept_expr e)) else kept_expr e) ≡ misnames scope e
    go true =
        inverted_misnames scope most_brackets (leaf_of (shape_of scope (kept_expr e)))
        ∙ leaf_misnames scope (misnames scope (kept_expr e)) (fitting_width scope (kept_expr e)) ∙ misnames_kept scope e
    go false = misnames_kept scope e

module _ (scope : Scope) (small : (n : List ℕ) → width_of (scope n) < 256) (fine : (n : List ℕ) → is_fine (scope n) ≡ true) where
  pub by_fitting : (e : PlainExpr) → misnames scope e ≡ false → fitting_width scope (kept_by scope e) ≡ fitting_width scope e
  by_fitting e m = go (nests_over 128 e)
    where
      kept : fitting_width scope (kept_expr e) ≡ fitting_width scope e
      kept = fitting_kept scope small e m

      go : (t : Bool) → fitting_width scope (if t then stand_for (shape_of scope (kept_expr e)) else kept_expr e) ≡ fitting_width scope e
      go true =
          inverted_fitting scope most_brackets (leaf_of (shape_of scope (kept_expr e)))
          ∙ leaf_fitting scope (misnames scope (kept_expr e)) (fitting_width scope (kept_expr e)) (misnames_kept scope e ∙ m) (subst IsGood (sym kept) (fitting_good scope fine e m))
          ∙ kept
      go false = kept

  pub by_depth : (e : PlainExpr) → misnames scope e ≡ false → is_some (fitting_width scope e) ≡ true → too_deep (kept_by scope e) ≡ too_deep e
  by_depth e m f = go (nests_over 128 e) refl
    where
      over : nests_over 128 e ≡ true → (t : Bool) → nests_over 64 e ≡ t → t ≡ true
      over deep true h = refl
      over deep false h = let flat = deeper 64 128 e (omega arith) h in absurd (cc)

      go : (t : Bool) → nests_over 128 e ≡ t → too_deep (if t then stand_for (shape_of scope (kept_expr e)) else kept_expr e) ≡ too_deep e
      go true deep =
          let room = brackets_are in
          inverted_over 64 most_brackets (leaf_of (shape_of scope (kept_expr e))) (omega arith) ∙ sym (over deep (nests_over 64 e) refl)
      go false flat = ap too_deep (unbroken_kept scope small e m f)
