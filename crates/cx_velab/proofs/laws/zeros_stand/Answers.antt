use Rattle.std.proofs.Common.{◌≡◌, ◌+◌, Some, length, slice_get, ap, sym, ◌∙◌, subst}
use Rattle.std.specs.Prelude.{codes}
use Rattle.cx_vtree.specs.InstanceTree.{same_name, decls_at}
use Rattle.cx_vnets.specs.Stores.{plain_words}
use Rattle.cx_vnets.specs.Numbers.{nets_before, arrays_before}
use Rattle.cx_velab.specs.Zeros.{widths_at}
use Rattle.cx_velab.proofs.ZeroLemmas.{zeros_at, zero_arrays_at, zero_arrays_count, held_stands, array_stands, zero_word, zero_count, outside_zero}
use Rattle.cx_velab.proofs.EvenLemmas.{zeros_fit}
use Rattle.cx_text.proofs.ListLaws.{at_map, length-map}
use Rattle.cx_velab.proofs.laws.zeros_stand.Goals as goal

pub returns-clause-widths : goal.returns-clause-widths
returns-clause-widths c = zeros_at

pub returns-clause-values : goal.returns-clause-values
returns-clause-values c = λ tree s apart bits nets arrays. record {
  registers = λ i k w name at held.
      let h = held_stands tree i w name held in
      let same : h.0 ≡ k = apart.nets i h.0 k name h.1 at in
      ap (λ l. slice_get l (nets_before tree i + k)) nets ∙ zeros_at tree i k w (subst (λ j. slice_get (widths_at tree i) j ≡ Some w) same h.2);
  inputs = λ i k name at outside.
      ap (λ l. slice_get l (nets_before tree i + k)) nets ∙ zeros_at tree i k 1 (bits i k name at outside)
      ∙ ap Some (outside_zero (same_name name (codes "reset")) (same_name name (codes "go")));
  arrays = λ i a name at.
      let z = array_stands (decls_at tree i) a name at in
      let same : z.0 ≡ a = apart.arrays i z.0 a name z.3 at in
      let there = zero_arrays_at tree i z.0 _ z.4 in
      let x = at_map plain_words s.arrays.items (arrays_before tree i + z.0) _ (ap (λ l. slice_get l (arrays_before tree i + z.0)) arrays ∙ there) in (
        x.0,
        subst (λ j. slice_get s.arrays.items (arrays_before tree i + j) ≡ Some x.0) same x.1,
        record { size = zero_count x.0 z.1 z.2 x.2 ∙ sym z.5; each = λ index. zero_word x.0 z.1 z.2 index x.2 ∙ sym (z.6 index) },
      );
  count = sym (length-map plain_words s.arrays.items) ∙ ap length arrays ∙ zero_arrays_count tree;
}

pub returns-clause-fits : goal.returns-clause-fits
returns-clause-fits c = zeros_fit
