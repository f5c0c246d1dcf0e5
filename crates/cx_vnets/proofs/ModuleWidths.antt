-- Soundness of an expression, part by part.
use Rattle.std.proofs.Common.{◌≡◌, ℕ, Bool, true, false, ◌&&◌, not, List, Option, Some, None, option_and_then, slice_get, refl, ap, ◌∙◌, subst, if◌then◌else◌}
use Rattle.std.specs.Prelude.{IsSome}
use Rattle.cx_vtree.specs.Plain.{PlainExpr, Named, Number, Part, Word, Applied, Inverted, Chosen, Joined, PlainPort, PlainDecl}
use Rattle.cx_vtree.specs.Sound.{width_of, is_source, is_array, bad_width, applied_width, chosen_width, joined_width, part_width, meant_in, misnames, fitting_width}
use Rattle.cx_vnets.specs.declared.codes.Code.{Code}
use Rattle.cx_vnets.specs.declared.codes.Code.TheVariants.{Net, Literal, Slice, Item', Binary', Not', Choose', Cat'}
use Rattle.cx_vnets.specs.Codes.{code_width}
use Rattle.cx_vtree.specs.NameNumbers.{position}
use Rattle.cx_vnets.specs.ModuleCodes.{IsCode, HasNumbers}
use Rattle.cx_vnets.specs.CodeLaws.{net_widths, array_widths, net_numbering, array_numbering, HasWidths}
use Rattle.cx_vnets.proofs.Places.{StandsIn, net_stands, array_stands}
use Rattle.cx_text.proofs.BoolLaws.{not_not, neither_first, neither_second}
use Rattle.cx_text.proofs.OptionLaws.{some_by}

read : (a b : Bool) → not (a && b) ≡ false → a ≡ true
read true b e = refl
read false b e = absurd (cc)

module _ (ports : List PlainPort) (decls : List PlainDecl) where
  net_number : (n : List ℕ) (b : Bool) → not (is_source (meant_in ports decls n) && b) ≡ false → IsSome (net_numbering ports decls n)
  net_number n b e = let s = net_stands ports decls n (read (is_source (meant_in ports decls n)) b e) in some_by (net_numbering ports decls n) s.0 s.1

  -- all names have numbers
  pub have_numbers : (e : PlainExpr) → misnames (meant_in ports decls) e ≡ false → HasNumbers (net_numbering ports decls) (array_numbering decls) e
  have_numbers (Named n) f = net_number n _ f
  have_numbers (Number b) f = tt
  have_numbers (Part n h l) f = net_number n _ f
  have_numbers (Word n i) f =
      let s = array_stands ports decls n (not_not (is_array (meant_in ports decls n)) (neither_first _ _ f)) in
      (some_by (array_numbering decls n) s.0 s.1, have_numbers i (neither_second _ _ f))
  have_numbers (Applied op a b) f = (have_numbers a (neither_first _ _ f), have_numbers b (neither_second _ _ f))
  have_numbers (Inverted a) f = have_numbers a f
  have_numbers (Chosen c a b) f = (have_numbers c (neither_first _ _ (neither_first _ _ f)), have_numbers a (neither_second _ _ (neither_first _ _ f)), have_numbers b (neither_second _ _ f))
  have_numbers (Joined a b) f = (have_numbers a (neither_first _ _ f), have_numbers b (neither_second _ _ f))

-- a width that one tells the other tells too
abbrev Tells : Option ℕ → Option ℕ → Type 0
Tells a b = (w : ℕ) → a ≡ Some w → b ≡ Some w

tells_one : (f : ℕ → Option ℕ) (a x : Option ℕ) → Tells a x → Tells (option_and_then f a) (option_and_then f x)
tells_one f None x h w e = absurd (cc)
tells_one f (Some v) x h w e = ap (option_and_then f) (h v refl) ∙ e

tells_two : (f : ℕ → ℕ → Option ℕ) (a x b y : Option ℕ) → Tells a x → Tells b y
    → Tells (option_and_then (λ v. option_and_then (f v) b) a) (option_and_then (λ v. option_and_then (f v) y) x)
tells_two f None x b y h k w e = absurd (cc)
tells_two f (Some v) x b y h k w e = ap (option_and_then (λ v. option_and_then (f v) y)) (h v refl) ∙ tells_one (f v) b y k w e

tells_three : (f : ℕ → ℕ → ℕ → Option ℕ) (c z a x b y : Option ℕ) → Tells c z → Tells a x → Tells b y
    → Tells (option_and_then (λ t. option_and_then (λ v. option_and_then (f t v) b) a) c) (option_and_then (λ t. option_and_then (λ v. option_and_then (f t v) y) x) z)
tells_three f None z a x b y g h k w e = absurd (cc)
tells_three f (Some t) z a x b y g h k w e =
    ap (option_and_then (λ t. option_and_then (λ v. option_and_then (f t v) y) x)) (g t refl) ∙ tells_two (f t) a x b y h k w e

tells_item : (v : ℕ) (o : Option ℕ) (a x : Option ℕ) → o ≡ Some v → Tells a x → Tells (option_and_then (λ u. Some v) a) (option_and_then (λ u. o) x)
tells_item v o None x is h w e = absurd (cc)
tells_item v o (Some u) x is h w e = ap (option_and_then (λ u. o)) (h u refl) ∙ is ∙ e

tells_literal : (b : Bool) (v u : ℕ) → u ≡ v → Tells (if b then None else Some v) (Some u)
tells_literal true v u same w e = absurd (cc)
tells_literal false v u same w e = ap Some same ∙ e

-- a name's number has the name's width
width_there : (names : List (List ℕ)) (list : List ℕ) (n : List ℕ) (k v : ℕ) (widths : ℕ → Option ℕ) (o : Option ℕ) → StandsIn names list n v → HasWidths widths list → o ≡ Some k → o ≡ position names n
    → widths k ≡ Some v
width_there names list n k v widths o s h is e =
    let same : s.0 ≡ k = let f = s.1 in cc in h k v (subst (λ j. slice_get list j ≡ Some v) same s.2)

module _ (ports : List PlainPort) (decls : List PlainDecl) (nets arrays : ℕ → Option ℕ) (hn : HasWidths nets (net_widths ports decls)) (ha : HasWidths arrays (array_widths decls)) where
  net_width : (n : List ℕ) (k : ℕ) (b : Bool) → not (is_source (meant_in ports decls n) && b) ≡ false → net_numbering ports decls n ≡ Some k → nets k ≡ Some (width_of (meant_in ports decls n))
  net_width n k b f is =
      width_there _ (net_widths ports decls) n k (width_of (meant_in ports decls n)) nets (net_numbering ports decls n)
      (net_stands ports decls n (read (is_source (meant_in ports decls n)) b f)) hn is refl

  array_width : (n : List ℕ) (k : ℕ) → not (is_array (meant_in ports decls n)) ≡ false → array_numbering decls n ≡ Some k → arrays k ≡ Some (width_of (meant_in ports decls n))
  array_width n k f is =
      width_there _ (array_widths decls) n k (width_of (meant_in ports decls n)) arrays (array_numbering decls n)
      (array_stands ports decls n (not_not (is_array (meant_in ports decls n)) f)) ha is refl

  pub width_kept : (c : Code) (e : PlainExpr) → misnames (meant_in ports decls) e ≡ false → IsCode (net_numbering ports decls) (array_numbering decls) c e
      → Tells (fitting_width (meant_in ports decls) e) (code_width nets arrays c)
  width_kept (Net k) (Named n) f is = λ w e. net_width n k _ f is ∙ e
  width_kept (Literal b) (Number v) f is = tells_literal (bad_width v.width) v.width b.width (ap (λ x. x.width) is)
  width_kept (Slice k high low) (Part n h l) f is =
      λ w e. ap (option_and_then (λ v. part_width v high low)) (net_width n k _ f is.0)
      ∙ ap (λ x. part_width (width_of (meant_in ports decls n)) x low) is.1 ∙ ap (part_width (width_of (meant_in ports decls n)) h) is.2 ∙ e
  width_kept (Item' a p i) (Word n j) f is =
      tells_item (width_of (meant_in ports decls n)) (arrays a) (fitting_width (meant_in ports decls) j) (code_width nets arrays i)
      (array_width n a (neither_first _ _ f) is.0) (width_kept i j (neither_second _ _ f) is.1)
  width_kept (Binary' op p a q b) (Applied o x y) f is =
      λ w e. ap (λ z. option_and_then (λ v. option_and_then (applied_width z v) (code_width nets arrays b)) (code_width nets arrays a)) is.0
      ∙ tells_two (applied_width o) (fitting_width (meant_in ports decls) x) (code_width nets arrays a) (fitting_width (meant_in ports decls) y) (code_width nets arrays b)
      (width_kept a x (neither_first _ _ f) is.1) (width_kept b y (neither_second _ _ f) is.2) w e
  width_kept (Not' p a) (Inverted x) f is = width_kept a x f is
  width_kept (Choose' p c q a r b) (Chosen z x y) f is =
      tells_three chosen_width (fitting_width (meant_in ports decls) z) (code_width nets arrays c) (fitting_width (meant_in ports decls) x) (code_width nets arrays a)
      (fitting_width (meant_in ports decls) y) (code_width nets arrays b)
      (width_kept c z (neither_first _ _ (neither_first _ _ f)) is.0) (width_kept a x (neither_second _ _ (neither_first _ _ f)) is.1) (width_kept b y (neither_second _ _ f) is.2)
  width_kept (Cat' p a q b) (Joined x y) f is =
      tells_two joined_width (fitting_width (meant_in ports decls) x) (code_width nets arrays a) (fitting_width (meant_in ports decls) y) (code_width nets arrays b)
      (width_kept a x (neither_first _ _ f) is.0) (width_kept b y (neither_second _ _ f) is.1)
  width_kept c e f is = absurd is
