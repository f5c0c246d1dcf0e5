-- An edge of the machine is the edge of its source.
use Rattle.std.proofs.Common.{◌≡◌, ℕ, zero, suc, ◌+◌, ◌<◌, ◌≤◌, ⊎_elim, List, [], ◌∷◌, map, Option, Some, None, option_and_then, option_map, unwrap_or, slice_get, slice_set, length, refl, ap, sym, ◌∙◌, subst, arith}
use Rattle.std.specs.Option.{option_map_or}
use Rattle.std.proofs.lemmas.Bool.{cases_lt}
use Rattle.std.proofs.lemmas.List.{length-map}
use Rattle.std.proofs.lemmas.Option.{same_Some, slice_get_within, slice_get_past}
use Rattle.cx_bits.specs.BitVector.{BitVector}
use Rattle.cx_vtree.specs.Plain.{PlainEdge, PlainStore}
use Rattle.cx_vtree.specs.InstanceTree.{Placed, decls_at, arrays_at}
use Rattle.cx_vtree.specs.Meaning.{Moment}
use Rattle.cx_vtree.specs.Edges.{edge_at, acting_stores, state_after}
use Rattle.cx_vnets.specs.declared.arrays.Words.{Words}
use Rattle.cx_vnets.specs.declared.codes.Code.{Code}
use Rattle.cx_vnets.specs.declared.edges.Set.{Set}
use Rattle.cx_vnets.specs.declared.stores.Store.{Store}
use Rattle.cx_vnets.specs.declared.nets.Stored.{Stored}
use Rattle.cx_vnets.specs.Arrays.{IsEven, array_width}
use Rattle.cx_vnets.specs.Fits.{width_at}
use Rattle.cx_vnets.specs.Edges.{code_of, numbered, after_sets, SetsFit}
use Rattle.cx_vnets.specs.Search.{SameWidths}
use Rattle.cx_vnets.specs.Stores.{plain_words, write_of, StoresFit}
use Rattle.cx_vnets.specs.Widths.{HaveWidths}
use Rattle.cx_vnets.specs.Machines.{IsAfter}
use Rattle.cx_vnets.specs.Numbers.{nets_before, arrays_before, look_by}
use Rattle.cx_vnets.specs.Memory.{WordsStand, StoredStands}
use Rattle.cx_vnets.specs.EdgesFlat.{SetsStand, StoresStand, AreApart, EdgesAreApart}
use Rattle.cx_vnets.proofs.Numbering.{number_there}
use Rattle.cx_vnets.proofs.FlatStoreSteps.{stores_long}
use Rattle.cx_vnets.proofs.WordLemmas.{word_in_width}
use Rattle.cx_vnets.proofs.Registers.{input_same, register_same}
use Rattle.cx_vnets.proofs.WordsAfter.{array_same}
use Rattle.cx_vnets.proofs.ArraysLemmas.{zero_width}

module _ (tree : List Placed) where
  pub even_stored : (m : Moment) (s : Stored) → StoredStands tree m s → IsEven s.arrays.items
  even_stored m s memory a x k b at word =
      let lt : a < arrays_before tree (length tree) = subst (λ n. a < n) memory.count (slice_get_within s.arrays.items a x at) in
      let p = number_there (arrays_at tree) (length tree) a lt in
      let r = memory.arrays p.0 p.1 p.2 p.5 in
      let same : r.0 ≡ x = same_Some r.0 x (sym r.1 ∙ ap (slice_get s.arrays.items) (sym p.4) ∙ at) in
      let stand : WordsStand (m.state.word p.0) (decls_at tree p.0) p.2 x = subst (WordsStand (m.state.word p.0) (decls_at tree p.0) p.2) same r.2 in
      ap (λ (o : Option BitVector). (unwrap_or o x.zero).width) (sym word)
      ∙ ap (λ (b : BitVector). b.width) (stand.each k)
      ∙ word_in_width (decls_at tree p.0) (m.state.word p.0) (m.state.word p.0) p.2 k 0
      ∙ sym (zero_width (m.state.word p.0) (decls_at tree p.0) p.2 x stand)

  -- arrays that stand for the same declarations have the same widths
  pub same_array_widths : (m n : Moment) (s t : Stored) → StoredStands tree m s → StoredStands tree n t → (a : ℕ) → array_width s.arrays.items a ≡ array_width t.arrays.items a
  same_array_widths m n s t memory other a = ⊎_elim
      (λ lt.
      let p = number_there (arrays_at tree) (length tree) a lt in
      let r = memory.arrays p.0 p.1 p.2 p.5 in
      let q = other.arrays p.0 p.1 p.2 p.5 in
      let width : r.0.zero.width ≡ q.0.zero.width =
      zero_width (m.state.word p.0) (decls_at tree p.0) p.2 r.0 r.2
      ∙ word_in_width (decls_at tree p.0) (m.state.word p.0) (n.state.word p.0) p.2 0 0
      ∙ sym (zero_width (n.state.word p.0) (decls_at tree p.0) p.2 q.0 q.2) in
      ap (array_width s.arrays.items) p.4
      ∙ ap (option_map (λ (x : Words). x.zero.width)) r.1
      ∙ ap Some width
      ∙ sym (ap (array_width t.arrays.items) p.4 ∙ ap (option_map (λ (x : Words). x.zero.width)) q.1))
      (λ le.
      let e = memory.count in
      let e' = other.count in
      let past : length s.arrays.items ≤ a = omega arith in
      let past' : length t.arrays.items ≤ a = omega arith in
      ap (option_map (λ (x : Words). x.zero.width)) (slice_get_past s.arrays.items a past ∙ sym (slice_get_past t.arrays.items a past')))
      (cases_lt a (arrays_before tree (length tree)))

  -- the same cycle with what is stored after its edge
  abbrev pub moment_after : Moment → List BitVector → Moment
  moment_after m values = record { state = state_after tree m (look_by tree values); reset = m.reset; go = m.go }

  pub edge_same : (m : Moment) (table : List Code) (values : List BitVector) (s after : Stored) (sets : List Set) (stores : List Store)
      → StoredStands tree m s → AreApart tree → EdgesAreApart tree → SetsStand tree table m.reset sets → StoresStand tree table m.reset stores → HaveWidths
      → SameWidths values s.nets.items → SetsFit table values s.arrays.items sets → StoresFit table values s.arrays.items stores → IsAfter table sets stores values s after
      → StoredStands tree (moment_after m values) after
  edge_same m table values s after sets stores memory apart edges set stored have widths sets_fit stores_fit is =
      let even = even_stored m s memory in
      record {
        registers = λ i k w name there held.
            ap (λ l. slice_get l (nets_before tree i + k)) is.registers
            ∙ register_same tree m table values s sets memory apart edges set have even widths sets_fit i k w name there held;
        inputs = λ i k name there out.
            ap (λ l. slice_get l (nets_before tree i + k)) is.registers
            ∙ input_same tree m table values s sets memory apart edges set i k name there out;
        arrays = λ i a name there. array_same tree m table values s stores memory apart edges stored i a name there have even stores_fit after.arrays.items is.words;
        count = sym (length-map after.arrays.items plain_words)
            ∙ ap length is.words
            ∙ stores_long (write_of table values s.arrays.items) stores (map plain_words s.arrays.items)
            ∙ length-map s.arrays.items plain_words
            ∙ memory.count;
      }

  -- with reset there are no stores
  pub no_stores : (table : List Code) → StoresStand tree table 1 []
  no_stores table = record {
    each = λ i j s at. absurd (none (edge_at tree i) j s at);
    only = λ h x at. absurd (cc);
  }
    where
      none : (o : Option PlainEdge) (j : ℕ) (s : PlainStore) → slice_get (acting_stores 1 o) j ≡ Some s → ⊥
      none None j s at = cc
      none (Some e) j s at = cc

-- a value of the same width keeps all widths
pub width_set : (values : List BitVector) (i : ℕ) (v : BitVector) → width_at values i ≡ Some v.width → (f : ℕ) → width_at (slice_set values i v) f ≡ width_at values f
width_set [] i v e f = refl
width_set (y ∷ ys) zero v e zero = sym e
width_set (y ∷ ys) zero v e (suc f) = refl
width_set (y ∷ ys) (suc i) v e zero = refl
width_set (y ∷ ys) (suc i) v e (suc f) = width_set ys i v e f

-- sets keep all widths
module _ (have : HaveWidths) (table : List Code) (values : List BitVector) (arrays : List Words) (even : IsEven arrays) where
  abbrev number : Set → Option BitVector
  number x = numbered table values arrays x.place x.code

  put_width : (x : Set) (registers : List BitVector) → SetsFit table values arrays (x ∷ []) → SameWidths registers values → (o : Option BitVector) → number x ≡ o
      → SameWidths (option_map_or (λ v. slice_set registers x.net v) o registers) values
  put_width x registers fits same None is f = same f
  put_width x registers fits same (Some v) is f =
      let r = fits 0 x refl in
      let value : code_of values arrays x.place r.0 ≡ Some v = sym (ap (option_and_then (code_of values arrays x.place)) r.1) ∙ is in
      let wide = have values arrays x.place r.0 r.2.0 v even r.2.1 value in
      width_set registers x.net v (same x.net ∙ r.2.2 ∙ ap Some (sym wide)) f ∙ same f

  first_fits : (x : Set) (xs : List Set) → SetsFit table values arrays (x ∷ xs) → SetsFit table values arrays (x ∷ [])
  first_fits x xs fits zero y at = fits zero y at
  first_fits x xs fits (suc j) y at = absurd (cc)

  pub sets_width : (xs : List Set) (registers : List BitVector) → SetsFit table values arrays xs → SameWidths registers values → SameWidths (after_sets table values arrays xs registers) values
  sets_width [] registers fits same = same
  sets_width (x ∷ xs) registers fits same =
      sets_width xs (option_map_or (λ v. slice_set registers x.net v) (number x) registers) (λ j y at. fits (suc j) y at) (put_width x registers (first_fits x xs fits) same (number x) refl)
