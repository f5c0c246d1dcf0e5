-- Which port of a component stands at which place of its signature.
use Rattle.std.proofs.Common.{◌≡◌, ℕ, suc, ◌-◌, ◌<◌, true, List, [], ◌∷◌, ◌++◌, length, Some, slice_get, append_assoc, refl, ap, sym, ◌∙◌, subst, ◌+◌, arith}
use Rattle.std.specs.Prelude.{codes}
use Rattle.std.proofs.lemmas.Option.{slice_get_within}
use Rattle.cx_meaning.specs.declared.kinds.PortDecl.{PortDecl}
use Rattle.cx_meaning.specs.Sights.{Go, AnInput, AnOutput, ItsDone, output_port}
use Rattle.cx_vtree.specs.Plain.{PlainPort}
use Rattle.cx_net.specs.Nets.{PlainNetComponent}
use Rattle.cx_net.specs.NetMeaning.{net_part_port}
use Rattle.cx_emit.specs.Numbered.{numbered_from, with_numbers}
use Rattle.cx_emit.specs.Signatures.{one_bit, input_port, signature_of}
use Rattle.cx_emit.specs.Signatures as signatures
use Rattle.cx_net.specs.NetFits.{signature_widths}
use Rattle.cx_net.proofs.PortWidths.{WidePort, wide_go, wide_input, wide_output, wide_done, wide_port, input_width}
use Rattle.cx_emit.proofs.NumberedLemmas.{in_numbered}
use Rattle.cx_text.proofs.ListLaws.{append-front, behind}

abbrev pub done_port : PlainPort
done_port = record { output = true; name = codes "done"; width = 1 }

-- port p, of this width
pub data PortIs (part : PlainNetComponent) (p w : ℕ) : Type 0 where
  is_go : net_part_port part p ≡ Go → slice_get (signature_of part) p ≡ Some (one_bit (codes "go")) → w ≡ 1 → p ≡ 0 → PortIs part p w
  is_input : (n : ℕ) (d : PortDecl) → net_part_port part p ≡ AnInput n → slice_get part.inputs n ≡ Some d → slice_get (signature_of part) p ≡ Some (input_port n d) → w ≡ d.width → p ≡ suc n → PortIs part p w
  is_output : (n : ℕ) (d : PortDecl) → net_part_port part p ≡ AnOutput n → slice_get part.outputs n ≡ Some d → slice_get (signature_of part) p ≡ Some (signatures.output_port n d) → w ≡ d.width → PortIs part p w
  is_done : net_part_port part p ≡ ItsDone → slice_get (signature_of part) p ≡ Some (record { output = true; name = codes "done"; width = 1 }) → w ≡ 1 → PortIs part p w

pub length-numbered : {A B : Type 0} (f : ℕ → A → B) (b : ℕ) (xs : List A) → length (numbered_from f b xs) ≡ length xs
length-numbered f b [] = refl
length-numbered f b (x ∷ xs) = ap suc (length-numbered f (suc b) xs)

module _ (part : PlainNetComponent) where
  abbrev rest : List PlainPort
  rest = with_numbers signatures.output_port part.outputs ++ done_port ∷ []

  -- what stands behind go
  text_place : (n : ℕ) → slice_get (with_numbers input_port part.inputs ++ rest) n ≡ slice_get (signature_of part) (suc n)
  text_place n = ap (λ l. slice_get l n) (sym (append_assoc (with_numbers input_port part.inputs) (with_numbers signatures.output_port part.outputs) (done_port ∷ [])))

  input_text : (n : ℕ) (d : PortDecl) → slice_get part.inputs n ≡ Some d → slice_get (signature_of part) (suc n) ≡ Some (input_port n d)
  input_text n d at =
      let long : n < length (with_numbers input_port part.inputs) = subst (λ l. n < l) (sym (length-numbered input_port 0 part.inputs)) (slice_get_within part.inputs n d at) in
      sym (text_place n) ∙ append-front (with_numbers input_port part.inputs) rest n long ∙ in_numbered input_port part.inputs n d at

  -- behind the inputs
  rest_text : (m : ℕ) → slice_get (signature_of part) (suc (length part.inputs + m)) ≡ slice_get rest m
  rest_text m =
      sym (text_place (length part.inputs + m)) ∙ behind (with_numbers input_port part.inputs) rest (length part.inputs + m) m (ap (λ l. l + m) (sym (length-numbered input_port 0 part.inputs)))

  output_text : (m : ℕ) (d : PortDecl) → slice_get part.outputs m ≡ Some d → slice_get rest m ≡ Some (signatures.output_port m d)
  output_text m d at =
      let long : m < length (with_numbers signatures.output_port part.outputs) = subst (λ l. m < l) (sym (length-numbered signatures.output_port 0 part.outputs)) (slice_get_within part.outputs m d at) in
      append-front (with_numbers signatures.output_port part.outputs) (done_port ∷ []) m long ∙ in_numbered signatures.output_port part.outputs m d at

  done_text : slice_get rest (length part.outputs) ≡ Some done_port
  done_text =
      let long : length (with_numbers signatures.output_port part.outputs) ≡ length part.outputs = length-numbered signatures.output_port 0 part.outputs in
      behind (with_numbers signatures.output_port part.outputs) (done_port ∷ []) (length part.outputs) 0 (omega (arith, long))

  -- each port that has a width is go, an input, an output or done
  pub port_is : (p w : ℕ) → slice_get (signature_widths part) p ≡ Some w → PortIs part p w
  port_is p w e = by (wide_port part p w e)
    where
      by : WidePort part p w → PortIs part p w
      by (wide_go named width place) = is_go named (ap (slice_get (signature_of part)) place) width place
      by (wide_input n d named at width place) = is_input n d named at (ap (slice_get (signature_of part)) place ∙ input_text n d at) width place
      by (wide_output n d named at width place) = is_output n d named at (ap (slice_get (signature_of part)) place ∙ rest_text n ∙ output_text n d at) width
      by (wide_done named width place) = is_done named (ap (slice_get (signature_of part)) place ∙ rest_text (length part.outputs) ∙ done_text) width

  -- an input stands behind go
  pub input_place : (n : ℕ) (d : PortDecl) → slice_get part.inputs n ≡ Some d → (slice_get (signature_widths part) (suc n) ≡ Some d.width) × (slice_get (signature_of part) (suc n) ≡ Some (input_port n d))
  input_place n d at = (input_width part n d at, input_text n d at)
