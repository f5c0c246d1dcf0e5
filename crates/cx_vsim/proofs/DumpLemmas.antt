-- Memories that take the words of arrays.
use Rattle.std.proofs.Common.{◌≡◌, ℕ, zero, suc, ◌<◌, ◌≤◌, ◌^◌, List, [], ◌∷◌, Some, All, map, length, slice_get, refl, ap, sym, ◌∙◌, subst, arith}
use Rattle.std.proofs.lemmas.List.{length-map}
use Rattle.std.proofs.lemmas.Option.{same_Some}
use Rattle.std.specs.Option.{option_map_or}
use Rattle.cx_bits.specs.BitVector.{BitVector, Fits}
use Rattle.cx_text.specs.Loading.{PlainRow, PlainMemory, FitsShape, FitsRows, word_count, with_words}
use Rattle.cx_vtree.specs.Plain.{PlainSource}
use Rattle.cx_vtree.specs.PlainParts.{row_of, rows_of}
use Rattle.cx_vtree.specs.InstanceTree.{instances_of}
use Rattle.cx_vnets.specs.Stores.{PlainWords}
use Rattle.cx_vsim.specs.Externals.{array_of}
use Rattle.cx_vsim.specs.Answers.{IsDone}
use Rattle.cx_vsim.specs.Stands.{words_at, words_by, outcome_by, RanStands}
use Rattle.cx_vsim.specs.Arrays.{Gives, CanGive, AllGivenFit}
use Rattle.cx_vsim.specs.declared.answers.SimAnswer.{SimAnswer}
use Rattle.cx_vsim.specs.declared.answers.SimAnswer.TheVariants.{Done, Loop, More}
use Rattle.cx_vsim.proofs.Elements.{mapped_at, all_at, all_from_at}
use Rattle.cx_vsim.proofs.LoadLemmas.{shape_at, as_many}
use Rattle.cx_text.proofs.LoadingLemmas.{same_shapes}

-- a run that is done was answered so
pub done_is : (r : SimAnswer) (words : List (List ℕ)) → IsDone (outcome_by r words) → (cycle : ℕ) × (r ≡ Done cycle)
done_is (Done t) words done = (t, refl)
done_is (Loop i k) words done = absurd (let e = done.2 in cc)
done_is More words done = absurd (let e = done.2 in cc)

-- a memory with other words, where there are words for each
with_words_at : (ms : List PlainMemory) (words : List (List ℕ)) (k : ℕ) (x : PlainMemory) → length words ≡ length ms → slice_get (with_words ms words) k ≡ Some x
    → (m : PlainMemory) × (w : List ℕ) × (slice_get ms k ≡ Some m) × (slice_get words k ≡ Some w) × (x.shape ≡ m.shape) × (x.words ≡ w)
with_words_at [] words k x same at = absurd (cc)
with_words_at (m ∷ ms) [] k x same at = absurd (let g : 0 ≡ suc (length ms) = same in omega arith)
with_words_at (m ∷ ms) (w ∷ words) zero x same at =
    let is : record { shape = m.shape; signed = m.signed; words = w } ≡ x = same_Some (record { shape = m.shape; signed = m.signed; words = w }) x at in
    (m, w, refl, refl, sym (ap (λ (y : PlainMemory). y.shape) is), sym (ap (λ (y : PlainMemory). y.words) is))
with_words_at (m ∷ ms) (w ∷ words) (suc k) x same at =
    with_words_at ms words k x (let g : suc (length words) ≡ suc (length ms) = same in omega arith) at

words_fit : (words : List BitVector) (width : ℕ) → All Fits words → All (λ (b : BitVector). b.width ≡ width) words → All (λ n. n < 2 ^ width) (map (λ (b : BitVector). b.value) words)
words_fit words width fit wide = all_from_at (λ n. n < 2 ^ width) (map (λ (b : BitVector). b.value) words) (λ k n at.
    let r = mapped_at (λ (b : BitVector). b.value) (λ (v : ℕ). v) words (map (λ (b : BitVector). b.value) words) k n (sym (map_id (map (λ (b : BitVector). b.value) words))) at in
    let fits : Fits r.0 = all_at Fits words k r.0 fit r.1 in
    let same : r.0.width ≡ width = all_at (λ (b : BitVector). b.width ≡ width) words k r.0 wide r.1 in
    subst (λ v. v < 2 ^ width) r.2 (subst (λ w. r.0.value < 2 ^ w) same fits.in_range))
  where
    map_id : (ns : List ℕ) → map (λ (v : ℕ). v) ns ≡ ns
    map_id [] = refl
    map_id (n ∷ ns) = ap (λ l. n ∷ l) (map_id ns)

module _ (s : PlainSource) (r : SimAnswer) (arrays : List PlainWords) (numbers : List ℕ) (stands : RanStands s r arrays numbers) (cycle : ℕ) (done : r ≡ Done cycle)
    (ms : List PlainMemory) (fits : FitsRows (rows_of s.externals) ms) where
  pub can_give : CanGive numbers arrays ms
  can_give = record { count = as_many s numbers ms stands.arrays_are fits; each = gives }
    where
      gives : (k a : ℕ) (m : PlainMemory) → slice_get numbers k ≡ Some a → slice_get ms k ≡ Some m → Gives arrays a m
      gives k a m here there =
          let e = mapped_at (array_of (instances_of s)) Some s.externals numbers k a (sym stands.arrays_are) here in
          let x = stands.words cycle k a e.0 done e.1 here in
          let whole : FitsShape m = all_at FitsShape ms k m fits.whole there in
          let shape = shape_at s numbers ms stands.arrays_are fits k e.0 m e.1 there in
          let narrow = x.2.narrow in
          record {
            array = x.0;
            there = x.1;
            size = whole.count ∙ ap (λ (row : PlainRow). word_count row.sizes) shape ∙ sym x.2.count;
            narrow = all_from_at (λ (b : BitVector). b.width ≤ 64) x.0.words (λ j b at.
                let wide : b.width ≡ e.0.width = all_at (λ (b : BitVector). b.width ≡ e.0.width) x.0.words j b x.2.wide at in
                omega (arith, wide, narrow));
          }

  -- memories with the words of the arrays fit
  pub given_fit : AllGivenFit numbers arrays → FitsRows (rows_of s.externals) (with_words ms (words_by numbers arrays))
  given_fit all = record { same_rows = same_shapes ms (words_by numbers arrays) ∙ fits.same_rows; whole = all_from_at FitsShape (with_words ms (words_by numbers arrays)) fit }
    where
      fit : (k : ℕ) (m : PlainMemory) → slice_get (with_words ms (words_by numbers arrays)) k ≡ Some m → FitsShape m
      fit k m at =
          let (p, w, there, given, shape, words) = with_words_at ms (words_by numbers arrays) k m (length-map numbers (words_at arrays) ∙ as_many s numbers ms stands.arrays_are fits) at in
          let n = map_number numbers k w given in
          let e = mapped_at (array_of (instances_of s)) Some s.externals numbers k n.0 (sym stands.arrays_are) n.1 in
          let x = stands.words cycle k n.0 e.0 done e.1 n.1 in
          let row : m.shape ≡ row_of e.0 = shape ∙ shape_at s numbers ms stands.arrays_are fits k e.0 p e.1 there in
          let values : m.words ≡ map (λ (b : BitVector). b.value) x.0.words
          = words ∙ sym n.2 ∙ ap (λ o. option_map_or (λ (y : PlainWords). map (λ b. b.value) y.words) o []) x.1 in
          let wide : e.0.width ≡ m.shape.width = sym (ap (λ (y : PlainRow). y.width) row) in
          record {
            count = ap length values ∙ length-map x.0.words (λ (b : BitVector). b.value) ∙ x.2.count ∙ sym (ap (λ (y : PlainRow). word_count y.sizes) row);
            in_range = subst (λ l. All (λ v. v < 2 ^ m.shape.width) l) (sym values)
                (subst (λ v. All (λ u. u < 2 ^ v) (map (λ (b : BitVector). b.value) x.0.words)) wide (words_fit x.0.words e.0.width (all k n.0 x.0 n.1 x.1) x.2.wide));
          }
        where
          map_number : (ns : List ℕ) (k : ℕ) (w : List ℕ) → slice_get (words_by ns arrays) k ≡ Some w → (n : ℕ) × (slice_get ns k ≡ Some n) × (words_at arrays n ≡ w)
          map_number [] k w at = absurd (cc)
          map_number (n ∷ ns) zero w at = (n, refl, same_Some (words_at arrays n) w at)
          map_number (n ∷ ns) (suc k) w at = map_number ns k w at
