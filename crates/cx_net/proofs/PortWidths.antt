-- Each port of a component that has a width is its go, an input, an output or its done.
use Rattle.std.proofs.Common.{◌≡◌, ℕ, zero, suc, ◌-◌, ◌<◌, ◌≤◌, Bool, true, false, List, [], ◌∷◌, ◌++◌, length, map, Some, option_map, slice_get, append_assoc, refl, ap, sym, ◌∙◌, subst, if◌then◌else◌, ◌+◌, arith}
use Rattle.std.specs.Prelude.{nat_lt}
use Rattle.std.proofs.lemmas.Bool.{ltb-true, ltb-false}
use Rattle.std.proofs.lemmas.List.{length-map}
use Rattle.std.proofs.lemmas.Option.{slice_get-map, slice_get_within}
use Rattle.cx_meaning.specs.declared.kinds.PortDecl.{PortDecl}
use Rattle.cx_meaning.specs.Sights.{Go, AnInput, AnOutput, ItsDone, later_port, output_port}
use Rattle.cx_net.specs.Nets.{PlainNetComponent}
use Rattle.cx_net.specs.NetMeaning.{net_part_port}
use Rattle.cx_net.specs.NetFits.{signature_widths}
use Rattle.cx_text.proofs.ListLaws.{append-front, append-back}
use Rattle.cx_text.proofs.OptionLaws.{map_of}

-- port p, of this width, and which place that is
pub data WidePort (part : PlainNetComponent) (p w : ℕ) : Type 0 where
  wide_go : net_part_port part p ≡ Go → w ≡ 1 → p ≡ 0 → WidePort part p w
  wide_input : (n : ℕ) (d : PortDecl) → net_part_port part p ≡ AnInput n → slice_get part.inputs n ≡ Some d → w ≡ d.width → p ≡ suc n → WidePort part p w
  wide_output : (n : ℕ) (d : PortDecl) → net_part_port part p ≡ AnOutput n → slice_get part.outputs n ≡ Some d → w ≡ d.width → p ≡ suc (length part.inputs + n) → WidePort part p w
  wide_done : net_part_port part p ≡ ItsDone → w ≡ 1 → p ≡ suc (length part.inputs + length part.outputs) → WidePort part p w

single_at : {A : Type 0} (x y : A) (q : ℕ) → slice_get (x ∷ []) q ≡ Some y → (q ≡ 0) × (y ≡ x)
single_at x y zero e = (refl, cc)
single_at x y (suc q) e = absurd (cc)

module _ (part : PlainNetComponent) where
  abbrev pub widths : List PortDecl → List ℕ
  widths = map (λ (d : PortDecl). d.width)

  -- what stands behind go
  pub width_place : (n : ℕ) → slice_get (widths part.inputs ++ (widths part.outputs ++ 1 ∷ [])) n ≡ slice_get (signature_widths part) (suc n)
  width_place n = ap (λ l. slice_get l n) (sym (append_assoc (widths part.inputs) (widths part.outputs) (1 ∷ [])))

  pub inputs_in : (ns : List ℕ) (n w : ℕ) → n < length part.inputs → slice_get (widths part.inputs ++ ns) n ≡ Some w → (d : PortDecl) × (slice_get part.inputs n ≡ Some d) × (w ≡ d.width)
  inputs_in ns n w lt e =
      let wide : n < length (widths part.inputs) = subst (λ l. n < l) (sym (length-map part.inputs (λ (d : PortDecl). d.width))) lt in
      map_of (λ (d : PortDecl). d.width) (slice_get part.inputs n) w (sym (slice_get-map (λ (d : PortDecl). d.width) part.inputs n) ∙ sym (append-front (widths part.inputs) ns n wide) ∙ e)

  pub outputs_in : (m w : ℕ) → m < length part.outputs → slice_get (widths part.outputs ++ 1 ∷ []) m ≡ Some w → (d : PortDecl) × (slice_get part.outputs m ≡ Some d) × (w ≡ d.width)
  outputs_in m w lt e =
      let wide : m < length (widths part.outputs) = subst (λ l. m < l) (sym (length-map part.outputs (λ (d : PortDecl). d.width))) lt in
      map_of (λ (d : PortDecl). d.width) (slice_get part.outputs m) w (sym (slice_get-map (λ (d : PortDecl). d.width) part.outputs m) ∙ sym (append-front (widths part.outputs) (1 ∷ []) m wide) ∙ e)

  pub wide_port : (p w : ℕ) → slice_get (signature_widths part) p ≡ Some w → WidePort part p w
  wide_port zero w e = wide_go refl (cc) refl
  wide_port (suc n) w e = go (nat_lt n (length part.inputs)) refl (width_place n ∙ e) where
    later : (m : ℕ) → n ≡ length part.inputs + m → (t : Bool) → nat_lt m (length part.outputs) ≡ t → slice_get (widths part.outputs ++ 1 ∷ []) m ≡ Some w
        → later_port (length part.inputs) (length part.outputs) n ≡ output_port (length part.outputs) m → WidePort part (suc n) w
    later m place true test f named =
        let (d, at, is) = outputs_in m w (ltb-true m (length part.outputs) test) f in
        wide_output m d (named ∙ ap (λ b. if b then AnOutput m else ItsDone) test) at is (ap suc place)
    later m place false test f named =
        let past : length part.outputs ≤ m = ltb-false m (length part.outputs) test in
        let long : length (widths part.outputs) ≡ length part.outputs = length-map part.outputs (λ (d : PortDecl). d.width) in
        let wide : length (widths part.outputs) ≤ m = subst (λ l. l ≤ m) (sym long) past in
        let (last, is) = single_at 1 w (m - length (widths part.outputs)) (sym (append-back (widths part.outputs) (1 ∷ []) m wide) ∙ f) in
        let end : m ≡ length part.outputs = omega (arith, last, long, wide) in
        wide_done (named ∙ ap (λ b. if b then AnOutput m else ItsDone) test) is (ap suc place ∙ ap (λ k. suc (length part.inputs + k)) end)

    go : (t : Bool) → nat_lt n (length part.inputs) ≡ t → slice_get (widths part.inputs ++ (widths part.outputs ++ 1 ∷ [])) n ≡ Some w → WidePort part (suc n) w
    go true test f =
        let (d, at, is) = inputs_in (widths part.outputs ++ 1 ∷ []) n w (ltb-true n (length part.inputs) test) f in
        wide_input n d (ap (λ b. if b then AnInput n else output_port (length part.outputs) (n - length part.inputs)) test) at is refl
    go false test f =
        let le : length part.inputs ≤ n = ltb-false n (length part.inputs) test in
        let wide : length (widths part.inputs) ≤ n = subst (λ l. l ≤ n) (sym (length-map part.inputs (λ (d : PortDecl). d.width))) le in
        let m : ℕ = n - length part.inputs in
        let same : n - length (widths part.inputs) ≡ m = ap (λ l. n - l) (length-map part.inputs (λ (d : PortDecl). d.width)) in
        later m (omega (arith, le)) (nat_lt m (length part.outputs)) refl
        (sym (ap (slice_get (widths part.outputs ++ 1 ∷ [])) same) ∙ sym (append-back (widths part.inputs) (widths part.outputs ++ 1 ∷ []) n wide) ∙ f)
        (ap (λ b. if b then AnInput n else output_port (length part.outputs) m) test)

  -- an input stands behind go
  pub input_width : (n : ℕ) (d : PortDecl) → slice_get part.inputs n ≡ Some d → slice_get (signature_widths part) (suc n) ≡ Some d.width
  input_width n d at =
      let wide : n < length (widths part.inputs) = subst (λ l. n < l) (sym (length-map part.inputs (λ (d : PortDecl). d.width))) (slice_get_within part.inputs n d at) in
      sym (width_place n) ∙ append-front (widths part.inputs) (widths part.outputs ++ 1 ∷ []) n wide ∙ slice_get-map (λ (d : PortDecl). d.width) part.inputs n ∙ ap (option_map (λ (d : PortDecl). d.width)) at
