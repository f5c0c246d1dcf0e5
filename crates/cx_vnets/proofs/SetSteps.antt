-- One register is set.
use Rattle.std.proofs.Common.{◌≡◌, ℕ, ◌+◌, ◌<◌, List, ◌∷◌, Some, option_and_then, get_or, drop, drop-cons, add-one, length, slice_get, slice_set, refl, ap, ◌∙◌, sym, subst}
use Rattle.std.specs.Option.{option_map_or}
use Rattle.std.proofs.lemmas.Option.{slice_get-get_or, slice_get_read, slice_get_within}
use Rattle.cx_bits.specs.BitVector.{BitVector}
use Rattle.cx_vnets.specs.declared.arrays.Words.{Words}
use Rattle.cx_vnets.specs.declared.codes.Code.{Code}
use Rattle.cx_vnets.specs.declared.edges.Set.{Set}
use Rattle.cx_vnets.specs.Arrays.{IsEven}
use Rattle.cx_vnets.specs.Fits.{width_at}
use Rattle.cx_vnets.specs.Search.{SameWidths}
use Rattle.cx_vnets.specs.Edges.{code_of, width_of, numbered, after_sets, SetsFit}
use Rattle.cx_vnets.proofs.CodeWidths.{code_has_width}
use Rattle.cx_vnets.proofs.Steps.{width_set}

module _ (values : List BitVector) (arrays : List Words) (even : IsEven arrays) (codes : List Code) (sets : List Set) (fits : SetsFit codes values arrays sets)
    (i : ℕ) (d : Set) (lt : i < length sets) (c : Code) (v : BitVector) (read : c ≡ get_or codes (get_or sets i d).code c) (given : code_of values arrays (get_or sets i d).place c ≡ Some v) where
  code_here : slice_get codes (get_or sets i d).code ≡ Some c
  code_here =
      let r = fits i (get_or sets i d) (slice_get-get_or sets i d lt) in
      slice_get_read codes (length codes) (get_or sets i d).code c refl (slice_get_within codes (get_or sets i d).code r.0 r.1) read

  wide_here : width_at values (get_or sets i d).net ≡ Some v.width
  wide_here =
      let r = fits i (get_or sets i d) (slice_get-get_or sets i d lt) in
      let same : r.0 ≡ c = let a = r.1 in let b = code_here in cc in
      let width : width_of values arrays (get_or sets i d).place c ≡ Some r.2.0 = subst (λ x. width_of values arrays (get_or sets i d).place x ≡ Some r.2.0) same r.2.1 in
      r.2.2 ∙ ap Some (sym (code_has_width values arrays (get_or sets i d).place c r.2.0 v even width given))

  pub set-value : (registers whole : List BitVector) → after_sets codes values arrays (drop i sets) registers ≡ whole
      → after_sets codes values arrays (drop (i + 1) sets) (slice_set registers (get_or sets i d).net v) ≡ whole
  set-value registers whole e =
      let number : numbered codes values arrays (get_or sets i d).place (get_or sets i d).code ≡ Some v = ap (option_and_then (code_of values arrays (get_or sets i d).place)) code_here ∙ given in
      let rest : drop i sets ≡ (get_or sets i d ∷ drop (i + 1) sets) = drop-cons sets i d lt ∙ ap (λ k. get_or sets i d ∷ drop k sets) (sym (add-one i)) in
      sym (ap (λ l. after_sets codes values arrays l registers) rest
      ∙ ap (λ o. after_sets codes values arrays (drop (i + 1) sets) (option_map_or (λ x. slice_set registers (get_or sets i d).net x) o registers)) number) ∙ e

  pub set-widths : (registers : List BitVector) → SameWidths registers values → SameWidths (slice_set registers (get_or sets i d).net v) values
  set-widths registers widths = λ f. width_set registers (get_or sets i d).net v (widths (get_or sets i d).net ∙ wide_here) f ∙ widths f
