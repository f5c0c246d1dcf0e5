-- Facts of what `WidthRules` defines, that several crates above take.
use Rattle.std.proofs.Common.{◌≡◌, ℕ, Bool, None, Option, Some, false, true, nat_eq, refl, ap, sym, ◌∙◌}
use Rattle.cx_meaning.specs.declared.ports.PortRef.TheVariants as ports
use Rattle.cx_rules.specs.WidthRules.{IsBadLiteral, differ, is_wide}
use Rattle.std.specs.Prelude.{if◌then◌else◌, not}
use Rattle.cx_meaning.specs.Instances.{Instance}
use Rattle.cx_meaning.specs.declared.ports.PortRef.{PortRef}
use Rattle.cx_rules.specs.Ports.{keeps_literal, width_of, written_width}
use Rattle.std.proofs.lemmas.Bool.{eqb-true}

pub not_bad : (c n : ℕ) → IsBadLiteral (ports.Cell c n) → ⊥
not_bad c n l = let e : ports.Cell c n ≡ ports.Literal l.0 l.1 = l.2 in cc

literal_width : (b : Bool) (x w : ℕ) → (if b then Some x else None) ≡ Some w → ◌≡◌ {A = Option ℕ} (Some x) (Some w)
literal_width true x w e = e
literal_width false x w e = absurd (let clash : ◌≡◌ {A = Option ℕ} None (Some w) = e in cc)

pub written_is : (i : Instance) (p : PortRef) (w : ℕ) → width_of i p ≡ Some w → written_width i p ≡ Some w
written_is i (ports.Cell c q) w e = e
written_is i (ports.Input n) w e = e
written_is i (ports.Output n) w e = e
written_is i (ports.Done g) w e = e
written_is i (ports.Literal x v) w e = literal_width (keeps_literal x v) x w e

pub not_differ : (a b : ℕ) → differ (Some a) (Some b) ≡ false → a ≡ b
not_differ a b e = by (nat_eq a b) refl e
  where
    by : (t : Bool) → nat_eq a b ≡ t → not t ≡ false → a ≡ b
    by true f g = eqb-true a b f
    by false f g = absurd (let clash : true ≡ false = g in cc)

pub bit_width : (i : Instance) (p : PortRef) (w : ℕ) → width_of i p ≡ Some w → is_wide i p ≡ false → w ≡ 1
bit_width i p w e narrow = not_differ w 1 (sym (ap (λ o. differ o (Some 1)) (written_is i p w e)) ∙ narrow)
