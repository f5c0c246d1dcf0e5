-- What is stored once words are loaded.
use Rattle.std.proofs.Common.{◌≡◌, ℕ, zero, suc, ◌+◌, ◌<◌, ◌≤◌, ◌^◌, ⊎_elim, true, false, List, [], ◌∷◌, Some, All, option_map, unwrap_or, map, length, slice_get, slice_index, refl, ap, sym, ◌∙◌, subst, arith}
use Rattle.std.proofs.lemmas.Bool.{cases_lt, cases_Bool}
use Rattle.std.proofs.lemmas.List.{length-map}
use Rattle.std.proofs.lemmas.Option.{same_Some, slice_get-map, slice_get_past}
use Rattle.std.specs.Option.{option_map_or}
use Rattle.cx_bits.specs.BitVector.{BitVector}
use Rattle.cx_text.specs.Loading.{PlainRow, PlainMemory, FitsShape, FitsRows, word_count, words_loaded}
use Rattle.cx_vtree.specs.Plain.{PlainDecl, PlainExternal, PlainSource}
use Rattle.cx_vtree.specs.PlainParts.{row_of, rows_of}
use Rattle.cx_vtree.specs.InstanceTree.{decls_at, instances_of, arrays_at}
use Rattle.cx_vtree.specs.Meaning.{word_in}
use Rattle.cx_vtree.specs.SimRun.{is_memory, loaded_word}
use Rattle.cx_vnets.specs.declared.arrays.Words.{Words}
use Rattle.cx_vnets.specs.declared.nets.Stored.{Stored}
use Rattle.cx_vnets.specs.Fits.{width_at}
use Rattle.cx_vnets.specs.Stores.{PlainWords, plain_words}
use Rattle.cx_vnets.specs.Machines.{KeepsWidths}
use Rattle.cx_vsim.specs.WordNumbers.{words_of_width}
use Rattle.cx_vnets.specs.Numbers.{nets_before, arrays_before}
use Rattle.cx_vnets.specs.Memory.{WordsStand, StoredStands}
use Rattle.cx_vnets.proofs.WordLemmas.{word_in_same, word_in_width, word_in_value}
use Rattle.cx_vnets.proofs.EdgeLemmas.{even_stored, same_array_widths}
use Rattle.cx_vsim.specs.Externals.{array_of}
use Rattle.cx_vsim.specs.Stands.{start_moment, words_by}
use Rattle.cx_vsim.specs.Arrays.{rewritten, with_arrays, Takes, CanTake}
use Rattle.cx_vsim.specs.Memories.{HasMemories}
use Rattle.cx_vsim.proofs.Elements.{mapped_at, all_at, found_or_not}
use Rattle.cx_vsim.proofs.Written.{values_of, length-with_arrays, with_arrays_other, with_arrays_same, words_by_loaded}
use Rattle.cx_vsim.proofs.Memories.{HasPlace, Holds, external_at, number_for, numbers_once, memory_here, memory_back, memory_found, memory_held}
use Rattle.cx_vsim.proofs.LoadedWords.{loaded_none, loaded_here, word_in_past}
use Rattle.cx_text.proofs.OptionLaws.{map_some}
use Rattle.cx_vnets.proofs.ArraysLemmas.{zero_width}

abbrev bits : ℕ → ℕ → BitVector
bits w v = record { width = w; value = v }

bits_same : (a b : BitVector) → a.width ≡ b.width → a.value ≡ b.value → a ≡ b
bits_same a b e f = ap (λ w. bits w a.value) e ∙ ap (bits b.width) f

-- a word of an array with other words, within it and past its end
rewritten_word : (w : ℕ) (ns : List ℕ) (z : BitVector) (index : ℕ) → index < length ns → unwrap_or (slice_get (words_of_width w ns) index) z ≡ bits w (slice_index ns index)
rewritten_word w [] z index lt = absurd (omega arith)
rewritten_word w (n ∷ ns) z zero lt = refl
rewritten_word w (n ∷ ns) z (suc index) lt = rewritten_word w ns z index (let h : suc index < suc (length ns) = lt in omega arith)

rewritten_past : (w : ℕ) (ns : List ℕ) (z : BitVector) (index : ℕ) → length ns ≤ index → unwrap_or (slice_get (words_of_width w ns) index) z ≡ z
rewritten_past w ns z index le =
    let long : length (words_of_width w ns) ≡ length ns = length-map ns (bits w) in
    ap (λ o. unwrap_or o z) (slice_get_past (words_of_width w ns) index (omega (arith, long, le)))

-- an array that was written over has the words that were written
written_stands : (decls : List PlainDecl) (name : List ℕ) (old new : List ℕ → ℕ → ℕ) (x y : Words) (ns : List ℕ) → WordsStand old decls name x
    → plain_words y ≡ rewritten (plain_words x) ns → length ns ≡ length x.words.items → ((index : ℕ) → new name index ≡ slice_index ns index) → WordsStand new decls name y
written_stands decls name old new x y ns stand same count fill = record {
  size = ap (λ (q : PlainWords). length q.words) same ∙ length-map ns (bits x.zero.width) ∙ count ∙ stand.size;
  each = λ index. ap (λ (q : PlainWords). unwrap_or (slice_get q.words index) q.zero) same ∙ ⊎_elim (within index) (past index) (cases_lt index (length ns));
}
  where
    within : (index : ℕ) → index < length ns → unwrap_or (slice_get (words_of_width x.zero.width ns) index) x.zero ≡ word_in new decls name index
    within index lt =
        let size = stand.size in
        rewritten_word x.zero.width ns x.zero index lt
        ∙ bits_same (bits x.zero.width (slice_index ns index)) (word_in new decls name index)
        (zero_width old decls name x stand ∙ word_in_width decls old new name 0 index)
        (sym (word_in_value decls new name index (omega (arith, lt, count, size)) ∙ fill index))

    past : (index : ℕ) → length ns ≤ index → unwrap_or (slice_get (words_of_width x.zero.width ns) index) x.zero ≡ word_in new decls name index
    past index le =
        let size = stand.size in
        rewritten_past x.zero.width ns x.zero index le
        ∙ sym (ap (λ o. unwrap_or o x.zero) (slice_get_past x.words.items index (omega (arith, le, count))))
        ∙ stand.each index
        ∙ word_in_past decls old new name index (omega (arith, le, count, size))

-- an array that was left alone has the same words
left_stands : (decls : List PlainDecl) (name : List ℕ) (old new : List ℕ → ℕ → ℕ) (x y : Words) → WordsStand old decls name x
    → plain_words y ≡ plain_words x → ((index : ℕ) → old name index ≡ new name index) → WordsStand new decls name y
left_stands decls name old new x y stand same words = record {
  size = ap (λ (q : PlainWords). length q.words) same ∙ stand.size;
  each = λ index. ap (λ (q : PlainWords). unwrap_or (slice_get q.words index) q.zero) same ∙ stand.each index ∙ word_in_same decls old new name index (words index);
}

module _ (s : PlainSource) (numbers : List ℕ) (ms : List PlainMemory) (arrays_are : map Some numbers ≡ map (array_of (instances_of s)) s.externals) (fits : FitsRows (rows_of s.externals) ms) where
  pub shape_at : (k : ℕ) (e : PlainExternal) (m : PlainMemory) → slice_get s.externals k ≡ Some e → slice_get ms k ≡ Some m → m.shape ≡ row_of e
  shape_at k e m at there =
      same_Some m.shape (row_of e)
      (sym (slice_get-map (λ (x : PlainMemory). x.shape) ms k ∙ ap (option_map (λ (x : PlainMemory). x.shape)) there)
      ∙ ap (λ l. slice_get l k) fits.same_rows
      ∙ slice_get-map row_of s.externals k
      ∙ ap (option_map row_of) at)

  pub memory_at : (k : ℕ) (e : PlainExternal) → slice_get s.externals k ≡ Some e → (m : PlainMemory) × (slice_get ms k ≡ Some m) × (m.shape ≡ row_of e)
  memory_at k e at = mapped_at (λ (x : PlainMemory). x.shape) row_of ms s.externals k e fits.same_rows at

  pub as_many : length numbers ≡ length ms
  as_many =
      sym (length-map numbers Some)
      ∙ ap length arrays_are
      ∙ length-map s.externals (array_of (instances_of s))
      ∙ sym (length-map s.externals row_of)
      ∙ sym (ap length fits.same_rows)
      ∙ length-map ms (λ (x : PlainMemory). x.shape)

  module _ (loaded : List (List ℕ)) (stored : Stored) (memories : HasMemories s) (stands : StoredStands (instances_of s) (start_moment s loaded) stored) where
    held : (k : ℕ) (e : PlainExternal) (a : ℕ) → slice_get s.externals k ≡ Some e → HasPlace (instances_of s) e a → Holds stored.arrays.items e a
    held k e a at place = memory_held (instances_of s) (start_moment s loaded) stored e a stands (memories.each k e at) place

    pub can_take : CanTake numbers (map plain_words stored.arrays.items) ms
    can_take = record { count = as_many; each = takes }
      where
        takes : (k a : ℕ) (m : PlainMemory) → slice_get numbers k ≡ Some a → slice_get ms k ≡ Some m → Takes (map plain_words stored.arrays.items) a m
        takes k a m here there =
            let e = external_at s numbers memories arrays_are k a here in
            let x = held k e.0 a e.1 e.2 in
            let shape = shape_at k e.0 m e.1 there in
            let whole : FitsShape m = all_at FitsShape ms k m fits.whole there in
            let wide : m.shape.width ≡ x.array.zero.width = ap (λ (r : PlainRow). r.width) shape ∙ sym x.wide in
            record {
              array = plain_words x.array;
              there = slice_get-map plain_words stored.arrays.items a ∙ ap (option_map plain_words) x.at;
              size = whole.count ∙ ap (λ (r : PlainRow). word_count r.sizes) shape ∙ sym x.size;
              below = subst (λ w. All (λ n. n < 2 ^ w) m.words) wide whole.in_range;
            }

    module _ (after : Stored) (nets : after.nets.items ≡ stored.nets.items) (written : map plain_words after.arrays.items ≡ with_arrays numbers ms (map plain_words stored.arrays.items)) where
      -- an array after the words were written
      array_after : (f : ℕ) (q : PlainWords) → slice_get (with_arrays numbers ms (map plain_words stored.arrays.items)) f ≡ Some q
          → (y : Words) × (slice_get after.arrays.items f ≡ Some y) × (plain_words y ≡ q)
      array_after f q is = map_some plain_words (slice_get after.arrays.items f) q (sym (slice_get-map plain_words after.arrays.items f) ∙ ap (λ l. slice_get l f) written ∙ is)

      abbrev words_before : ℕ → List ℕ → ℕ → ℕ
      words_before = loaded_word (instances_of s) s.externals loaded

      abbrev words_after : ℕ → List ℕ → ℕ → ℕ
      words_after = loaded_word (instances_of s) s.externals (words_loaded ms)

      module _ (i p : ℕ) (name : List ℕ) (at : slice_get (arrays_at (instances_of s) i) p ≡ Some name) where
        abbrev f : ℕ
        f = arrays_before (instances_of s) i + p

        abbrev Stands : Type 0
        Stands = (y : Words) × (slice_get after.arrays.items f ≡ Some y) × WordsStand (words_after i) (decls_at (instances_of s) i) name y

        -- the array of an external memory has its words
        external_stands : (k : ℕ) → slice_get numbers k ≡ Some f → Stands
        external_stands k here =
            let e = external_at s numbers memories arrays_are k f here in
            let m = memory_at k e.0 e.1 in
            let t = can_take.each k f m.0 here m.1 in
            let x = stands.arrays i p name at in
            let there : slice_get (map plain_words stored.arrays.items) f ≡ Some (plain_words x.0) = slice_get-map plain_words stored.arrays.items f ∙ ap (option_map plain_words) x.1 in
            let one : t.array ≡ plain_words x.0 = same_Some t.array (plain_words x.0) (sym t.there ∙ there) in
            let y = array_after f (rewritten (plain_words x.0) m.0.words) (with_arrays_same numbers ms (map plain_words stored.arrays.items) f k m.0 (plain_words x.0) (λ j is. numbers_once s numbers memories arrays_are j k f is here) here m.1 there) in
            let is : is_memory (instances_of s) e.0 i name ≡ true = memory_here (instances_of s) e.0 f i p name at e.2 refl in
            let found = memory_found (instances_of s) e.0 f i p name at e.2 is in (
              y.0,
              y.1,
              written_stands (decls_at (instances_of s) i) name (words_before i) (words_after i) x.0 y.0 m.0.words x.2 y.2 (t.size ∙ ap (λ (q : PlainWords). length q.words) one)
                  (λ index. loaded_here (instances_of s) i name index s.externals (words_loaded ms) k e.0 m.0.words e.1
                  (slice_get-map (λ (q : PlainMemory). q.words) ms k ∙ ap (option_map (λ (q : PlainMemory). q.words)) m.1) is
                  (λ j d dat dis.
                  let n = number_for s numbers memories arrays_are j d dat in
                  memories.once j k i d e.0 dat e.1 (memory_found (instances_of s) d n.0 i p name at n.2 dis) found)),
            )

        not_memory : ((k : ℕ) → slice_get numbers k ≡ Some f → ⊥) → (k : ℕ) (e : PlainExternal) → slice_get s.externals k ≡ Some e → is_memory (instances_of s) e i name ≡ false
        not_memory none k e here = ⊎_elim
            (λ is.
            let n = number_for s numbers memories arrays_are k e here in
            let same : f ≡ n.0 = memory_back (instances_of s) e n.0 i p name at n.2 memories.apart is in
            absurd (none k (n.1 ∙ ap Some (sym same))))
            (λ is. is)
            (cases_Bool (is_memory (instances_of s) e i name))

        -- another array has zeros, as before
        other_stands : ((k : ℕ) → slice_get numbers k ≡ Some f → ⊥) → Stands
        other_stands none =
            let x = stands.arrays i p name at in
            let there : slice_get (map plain_words stored.arrays.items) f ≡ Some (plain_words x.0) = slice_get-map plain_words stored.arrays.items f ∙ ap (option_map plain_words) x.1 in
            let y = array_after f (plain_words x.0) (with_arrays_other numbers ms (map plain_words stored.arrays.items) f none ∙ there) in (
              y.0,
              y.1,
              left_stands (decls_at (instances_of s) i) name (words_before i) (words_after i) x.0 y.0 x.2 y.2
                  (λ index. loaded_none (instances_of s) i name index s.externals loaded (not_memory none) ∙ sym (loaded_none (instances_of s) i name index s.externals (words_loaded ms) (not_memory none))),
            )

        array_stands : Stands
        array_stands = ⊎_elim (λ r. external_stands r.0 r.1) other_stands (found_or_not numbers f)

      pub loaded_stands : StoredStands (instances_of s) (start_moment s (words_loaded ms)) after
      loaded_stands = record {
        registers = λ i k w name at held. ap (λ l. slice_get l (nets_before (instances_of s) i + k)) nets ∙ stands.registers i k w name at held;
        inputs = λ i k name at outside. ap (λ l. slice_get l (nets_before (instances_of s) i + k)) nets ∙ stands.inputs i k name at outside;
        arrays = array_stands;
        count = sym (length-map after.arrays.items plain_words) ∙ ap length written ∙ length-with_arrays numbers ms (map plain_words stored.arrays.items) ∙ length-map stored.arrays.items plain_words ∙ stands.count;
      }

      pub loaded_keeps : KeepsWidths stored after
      loaded_keeps = record {
        nets = λ f. ap (λ l. width_at l f) nets;
        arrays = λ a. same_array_widths (instances_of s) (start_moment s (words_loaded ms)) (start_moment s loaded) after stored loaded_stands stands a;
        even = even_stored (instances_of s) (start_moment s (words_loaded ms)) after loaded_stands;
      }

      -- the words in the arrays are those of the memories
      pub loaded_words : words_by numbers (map plain_words after.arrays.items) ≡ words_loaded ms
      loaded_words = words_by_loaded numbers ms (map plain_words after.arrays.items) as_many (λ k a m here there.
          let t = can_take.each k a m here there in
          let is : slice_get (map plain_words after.arrays.items) a ≡ Some (rewritten t.array m.words)
          = ap (λ l. slice_get l a) written
          ∙ with_arrays_same numbers ms (map plain_words stored.arrays.items) a k m t.array (λ j at. numbers_once s numbers memories arrays_are j k a at here) here there t.there in
          ap (λ o. option_map_or (λ (x : PlainWords). map (λ b. b.value) x.words) o []) is ∙ values_of t.array.zero.width m.words)
