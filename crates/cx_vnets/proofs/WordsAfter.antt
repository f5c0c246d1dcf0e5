-- The arrays after an edge.
use Rattle.std.proofs.Common.{◌≡◌, ℕ, zero, suc, ◌+◌, ◌<◌, ◌≤◌, ⊎_elim, ◌==◌, not, Bool, true, false, nat_lt, List, [], ◌∷◌, map, Option, Some, None, option_and_then, option_map, unwrap_or, slice_get, slice_set, length, refl, ap, sym, ◌∙◌, subst, if◌then◌else◌, arith}
use Rattle.std.specs.Option.{option_map_or}
use Rattle.std.proofs.lemmas.Bool.{cases_lt, cases_eq, lt-ltb, le-ltb, eq-eqb, ne_eqb}
use Rattle.std.proofs.lemmas.List.{length-set}
use Rattle.std.proofs.lemmas.Option.{same_Some, slice_get-map, slice_get_past}
use Rattle.cx_bits.specs.BitVector.{BitVector}
use Rattle.cx_vtree.specs.Plain.{PlainExpr, PlainDecl, PlainStore}
use Rattle.cx_vtree.specs.InstanceTree.{Placed, same_name, decls_at, arrays_at}
use Rattle.cx_vtree.specs.Meaning.{Moment, word_in, expr_at}
use Rattle.cx_vtree.specs.Edges.{edge_at, acting_stores, number_or, store_to, word_by, word_after, array_size}
use Rattle.cx_vnets.specs.declared.arrays.Words.{Words}
use Rattle.cx_vnets.specs.declared.codes.Code.{Code}
use Rattle.cx_vnets.specs.declared.stores.Store.{Store}
use Rattle.cx_vnets.specs.declared.stores.Write.{Write}
use Rattle.cx_vnets.specs.declared.nets.Stored.{Stored}
use Rattle.cx_vnets.specs.Arrays.{IsEven, word_of, array_width}
use Rattle.cx_vnets.specs.Edges.{code_of, numbered}
use Rattle.cx_vnets.specs.Stores.{PlainWords, plain_words, guarded, write_of, written, after_writes, StoresFit}
use Rattle.cx_vnets.specs.Widths.{HaveWidths}
use Rattle.cx_vnets.specs.Numbers.{arrays_before, look_by}
use Rattle.cx_vnets.specs.Memory.{WordsStand, StoredStands}
use Rattle.cx_vnets.specs.EdgesFlat.{StoreStands, StoresStand, AreApart, EdgesAreApart}
use Rattle.cx_vnets.proofs.Numbering.{number_at, number_once}
use Rattle.cx_vnets.proofs.FlatSetSteps.{get_set_other}
use Rattle.cx_vnets.proofs.FlatStoreSteps.{stores_keep, stores_give}
use Rattle.cx_vnets.proofs.WordLemmas.{word_in_same, word_in_width, word_in_value}
use Rattle.cx_vnets.proofs.Registers.{code_given}
use Rattle.cx_text.proofs.BoolLaws.{if_same}
use Rattle.cx_text.proofs.OptionLaws.{map_some}
use Rattle.cx_vtree.proofs.InstanceTreeLemmas.{same_is, same_self}
use Rattle.cx_text.proofs.ListLaws.{get_set_same}

-- a store into an array of a name is found
stored_there : (xs : List PlainStore) (j : ℕ) (a : PlainStore) (name : List ℕ) → slice_get xs j ≡ Some a → a.array ≡ name → store_to xs name ≡ None → ⊥
stored_there [] j a name at is e = cc
stored_there (x ∷ xs) zero a name at is e =
    let first : x ≡ a = same_Some x a at in
    let t : same_name x.array name ≡ true = subst (λ n. same_name n name ≡ true) (sym (ap (λ y. y.array) first ∙ is)) (same_self name) in
    let here = ap (λ b. if b then Some x else store_to xs name) t in
    let never = sym here ∙ e in cc
stored_there (x ∷ xs) (suc j) a name at is e = go (same_name x.array name) (stored_there xs j a name at is) e
  where
    go : (t : Bool) → (store_to xs name ≡ None → ⊥) → (if t then Some x else store_to xs name) ≡ None → ⊥
    go true later e = cc
    go false later e = later e

-- where it is found
stored_here : (xs : List PlainStore) (name : List ℕ) (a : PlainStore) → store_to xs name ≡ Some a → (j : ℕ) × (slice_get xs j ≡ Some a) × (a.array ≡ name)
stored_here [] name a f = absurd (cc)
stored_here (x ∷ xs) name a f = go (same_name x.array name) refl (stored_here xs name a) f
  where
    go : (t : Bool) → same_name x.array name ≡ t → (store_to xs name ≡ Some a → (j : ℕ) × (slice_get xs j ≡ Some a) × (a.array ≡ name))
        → (if t then Some x else store_to xs name) ≡ Some a → (j : ℕ) × (slice_get (x ∷ xs) j ≡ Some a) × (a.array ≡ name)
    go true is later f = (0, f, subst (λ y. y.array ≡ name) (same_Some x a f) (same_is x.array name is))
    go false is later f = let r = later f in (suc r.0, r.1, r.2)

-- a word after a store, by the values of its parts
abbrev word_with : Option BitVector → Option BitVector → Option BitVector → ℕ → ℕ → ℕ
word_with g i v old index = if not (number_or 0 g == 0) then (if option_map_or (λ b. b.value == index) i false then number_or old v else old) else old

abbrev write_at : ℕ → BitVector → Write
write_at index v = record { index = index; value = v }

word_unwritten : (g i v : Option BitVector) (old index : ℕ) → guarded g i v ≡ None → word_with g i v old index ≡ old
word_unwritten None i v old index e = refl
word_unwritten (Some g) None v old index e = if_same (not (g.value == 0)) old
word_unwritten (Some g) (Some i) None old index e =
    ap (λ x. if not (g.value == 0) then x else old) (if_same (i.value == index) old) ∙ if_same (not (g.value == 0)) old
word_unwritten (Some g) (Some i) (Some v) old index e = go (g.value == 0) e
  where
    go : (t : Bool) → (if t then None else Some (write_at i.value v)) ≡ None → (if not t then (if i.value == index then v.value else old) else old) ≡ old
    go true e = refl
    go false e = cc

word_written : (g i v : Option BitVector) (w : Write) (old index : ℕ) → guarded g i v ≡ Some w
    → (word_with g i v old index ≡ (if w.index == index then w.value.value else old)) × (v ≡ Some w.value)
word_written None i v w old index e = absurd (cc)
word_written (Some g) None v w old index e = absurd (cc)
word_written (Some g) (Some i) None w old index e = absurd (cc)
word_written (Some g) (Some i) (Some v) w old index e = go (g.value == 0) e
  where
    go : (t : Bool) → (if t then None else Some (write_at i.value v)) ≡ Some w
        → ((if not t then (if i.value == index then v.value else old) else old) ≡ (if w.index == index then w.value.value else old)) × (Some v ≡ Some w.value)
    go true e = absurd (cc)
    go false e = let same = same_Some (write_at i.value v) w e in (ap (λ u. if u.index == index then u.value.value else old) same, ap (λ u. Some u.value) same)

set_past : {A : Type 0} (xs : List A) (i : ℕ) (v : A) → length xs ≤ i → slice_set xs i v ≡ xs
set_past [] i v le = refl
set_past (x ∷ xs) zero v le = absurd (let step : length (x ∷ xs) ≡ suc (length xs) = refl in omega arith)
set_past (x ∷ xs) (suc i) v le = let step : length (x ∷ xs) ≡ suc (length xs) = refl in ap (λ l. x ∷ l) (set_past xs i v (omega arith))

module _ (tree : List Placed) (m : Moment) (table : List Code) (values : List BitVector) (s : Stored) (stores : List Store)
    (memory : StoredStands tree m s) (apart : AreApart tree) (edges : EdgesAreApart tree) (stands : StoresStand tree table m.reset stores) where
  abbrev acting : ℕ → List PlainStore
  acting i = acting_stores m.reset (edge_at tree i)

  abbrev write : Store → Option Write
  write x = write_of table values s.arrays.items x

  abbrev number : Store → ℕ → Option BitVector
  number x c = numbered table values s.arrays.items x.place c

  abbrev given : ℕ → PlainExpr → Option BitVector
  given i e = expr_at tree m (look_by tree values) i e

  abbrev write_by : ℕ → PlainStore → Option Write
  write_by i a = guarded (given i a.guard) (given i a.index) (given i a.value)

  write_same : (i : ℕ) (a : PlainStore) (x : Store) → StoreStands tree table i a x → write x ≡ write_by i a
  write_same i a x h =
      ap (λ o. guarded o (number x x.index) (number x x.value)) (code_given tree m table values s memory i x.guard a.guard x.place h.place h.guard)
      ∙ ap (λ o. guarded (given i a.guard) o (number x x.value)) (code_given tree m table values s memory i x.index a.index x.place h.place h.index)
      ∙ ap (λ o. guarded (given i a.guard) (given i a.index) o) (code_given tree m table values s memory i x.value a.value x.place h.place h.value)

  module _ (i k : ℕ) (name : List ℕ) (there : slice_get (arrays_at tree i) k ≡ Some name) where
    abbrev place : ℕ
    place = arrays_before tree i + k

    -- the statement of a store
    store_of : (h : ℕ) (x : Store) → slice_get stores h ≡ Some x → x.array ≡ place
        → (j : ℕ) × (a : PlainStore) × (slice_get (acting i) j ≡ Some a) × (a.array ≡ name) × StoreStands tree table i a x
    store_of h x at is =
        let r = stands.only h x at in
        let p = number_at (arrays_at tree) r.0 r.2.array x.array r.4.array in
        let same = number_once (arrays_at tree) r.0 p.0 i k r.2.array name p.1 there (p.2 ∙ is) in
        (r.1, r.2, subst (λ z. slice_get (acting z) r.1 ≡ Some r.2) same.0 r.3, same.2, subst (λ z. StoreStands tree table z r.2 x) same.0 r.4)

    -- all stores into an array write the same
    all_same : (j : ℕ) (a : PlainStore) → slice_get (acting i) j ≡ Some a → a.array ≡ name
        → (h : ℕ) (x : Store) → slice_get stores h ≡ Some x → x.array ≡ place → write x ≡ write_by i a
    all_same j a at is h x here array =
        let r = store_of h x here array in
        let one = edges.stores m.reset i r.0 j r.1 a r.2 at (r.3 ∙ sym is) in
        let same : r.1 ≡ a = same_Some r.1 a (sym r.2 ∙ ap (slice_get (acting i)) one ∙ at) in
        write_same i r.1 x r.4 ∙ ap (write_by i) same

    store_array : (a : PlainStore) (x : Store) → a.array ≡ name → StoreStands tree table i a x → x.array ≡ place
    store_array a x is h =
        let p = number_at (arrays_at tree) i a.array x.array h.array in
        let one = apart.arrays i p.0 k name (p.1 ∙ ap Some is) there in
        sym p.2 ∙ ap (λ z. arrays_before tree i + z) one

    abbrev old : ℕ → ℕ
    old index = m.state.word i name index

    abbrev new : List ℕ → ℕ → ℕ
    new = word_after tree m (look_by tree values) i

    abbrev decls : List PlainDecl
    decls = decls_at tree i

    abbrev x : Words
    x = (memory.arrays i k name there).0

    before : slice_get s.arrays.items place ≡ Some x
    before = (memory.arrays i k name there).1

    words : WordsStand (m.state.word i) decls name x
    words = (memory.arrays i k name there).2

    plain_before : slice_get (map plain_words s.arrays.items) place ≡ Some (plain_words x)
    plain_before = slice_get-map plain_words s.arrays.items place ∙ ap (option_map plain_words) before

    -- a word after the edge, where it is known which store there is
    after_none : store_to (acting i) name ≡ None → (index : ℕ) → new name index ≡ old index
    after_none is index =
        ap (λ o. if nat_lt index (array_size decls name) then option_map_or (word_by tree m (look_by tree values) i (old index) index) o (old index) else old index) is
        ∙ if_same (nat_lt index (array_size decls name)) (old index)

    after_some : (a : PlainStore) → store_to (acting i) name ≡ Some a → (index : ℕ)
        → new name index ≡ (if nat_lt index (array_size decls name) then word_with (given i a.guard) (given i a.index) (given i a.value) (old index) index else old index)
    after_some a is index = ap (λ o. if nat_lt index (array_size decls name) then option_map_or (word_by tree m (look_by tree values) i (old index) index) o (old index) else old index) is

    -- an array that stays as it was
    unchanged : (y : Words) → plain_words y ≡ plain_words x → ((index : ℕ) → new name index ≡ old index) → WordsStand new decls name y
    unchanged y same keeps = record {
      size = ap (λ (p : PlainWords). length p.words) same ∙ words.size;
      each = λ index.
          ap (λ (p : PlainWords). unwrap_or (slice_get p.words index) p.zero) same
          ∙ words.each index
          ∙ word_in_same decls (m.state.word i) new name index (sym (keeps index));
    }

    zero_width : x.zero.width ≡ (word_in new decls name 0).width
    zero_width =
        ap (λ (o : Option BitVector). (unwrap_or o x.zero).width) (sym (slice_get_past x.words.items (length x.words.items) (let e : length x.words.items ≡ length x.words.items = refl in omega arith)))
        ∙ ap (λ (b : BitVector). b.width) (words.each (length x.words.items))
        ∙ word_in_width decls (m.state.word i) new name (length x.words.items) 0

    -- an array of which one word changed
    module _ (w : Write) (changes : (index : ℕ) → new name index ≡ (if nat_lt index (array_size decls name) then (if w.index == index then w.value.value else old index) else old index))
        (wide : w.value.width ≡ x.zero.width) (y : Words) (same : plain_words y ≡ written (plain_words x) w) where
      abbrev word : ℕ → BitVector
      word index = unwrap_or (slice_get (slice_set x.words.items w.index w.value) index) x.zero

      stays : (index : ℕ) → new name index ≡ old index → word index ≡ word_of x index → word index ≡ word_in new decls name index
      stays index keeps is = is ∙ words.each index ∙ word_in_same decls (m.state.word i) new name index (sym keeps)

      other_word : (index : ℕ) → (w.index ≡ index → ⊥) → word index ≡ word_in new decls name index
      other_word index ne =
          stays index
          (changes index ∙ ap (λ t. if nat_lt index (array_size decls name) then (if t then w.value.value else old index) else old index) (ne_eqb w.index index ne) ∙ if_same (nat_lt index (array_size decls name)) (old index))
          (ap (λ o. unwrap_or o x.zero) (get_set_other x.words.items w.index index w.value ne))

      past_word : (index : ℕ) → w.index ≡ index → array_size decls name ≤ index → word index ≡ word_in new decls name index
      past_word index is le =
          let past : length x.words.items ≤ w.index = let e = words.size in omega arith in
          stays index
          (changes index ∙ ap (λ t. if t then (if w.index == index then w.value.value else old index) else old index) (le-ltb index (array_size decls name) le))
          (ap (λ l. unwrap_or (slice_get l index) x.zero) (set_past x.words.items w.index w.value past))

      here_word : (index : ℕ) → w.index ≡ index → index < array_size decls name → word index ≡ word_in new decls name index
      here_word index is lt =
          let within : index < length x.words.items = let e = words.size in omega arith in
          let value : w.value.value ≡ (word_in new decls name index).value = sym (
          word_in_value decls new name index lt
          ∙ changes index
          ∙ ap (λ t. if t then (if w.index == index then w.value.value else old index) else old index) (lt-ltb index (array_size decls name) lt)
          ∙ ap (λ t. if t then w.value.value else old index) (eq-eqb w.index index is)) in
          let width : w.value.width ≡ (word_in new decls name index).width = wide ∙ zero_width ∙ word_in_width decls new new name 0 index in
          ap (λ j. unwrap_or (slice_get (slice_set x.words.items j w.value) index) x.zero) is
          ∙ ap (λ o. unwrap_or o x.zero) (get_set_same x.words.items index w.value within)
          ∙ (λ t. record { width = width t; value = value t })

      each_word : (index : ℕ) → word index ≡ word_in new decls name index
      each_word index = ⊎_elim
          (λ is. ⊎_elim (λ lt. here_word index is lt) (λ le. past_word index is le) (cases_lt index (array_size decls name)))
          (λ ne. other_word index ne)
          (cases_eq w.index index)

      changed : WordsStand new decls name y
      changed = record {
        size = ap (λ (p : PlainWords). length p.words) same ∙ length-set x.words.items w.index w.value ∙ words.size;
        each = λ index. ap (λ (p : PlainWords). unwrap_or (slice_get p.words index) p.zero) same ∙ each_word index;
      }

    module _ (have : HaveWidths) (even : IsEven s.arrays.items) (fits : StoresFit table values s.arrays.items stores)
        (after : List Words) (is_after : map plain_words after ≡ after_writes stores (map write stores) (map plain_words s.arrays.items)) where
      abbrev ArrayAfter : Type 0
      ArrayAfter = (y : Words) × (slice_get after place ≡ Some y) × WordsStand new decls name y

      found : (p : PlainWords) → slice_get (after_writes stores (map write stores) (map plain_words s.arrays.items)) place ≡ Some p → (y : Words) × (slice_get after place ≡ Some y) × (plain_words y ≡ p)
      found p e = map_some plain_words (slice_get after place) p (sym (slice_get-map plain_words after place) ∙ ap (λ l. slice_get l place) is_after ∙ e)

      kept : ((h : ℕ) (z : Store) → slice_get stores h ≡ Some z → z.array ≡ place → write z ≡ None) → ((index : ℕ) → new name index ≡ old index) → ArrayAfter
      kept none keeps =
          let r = found (plain_words x) (stores_keep write stores (map plain_words s.arrays.items) place none ∙ plain_before) in
          (r.0, r.1, unchanged r.0 r.2 keeps)

      write_width : (h : ℕ) (z : Store) (v : BitVector) → slice_get stores h ≡ Some z → z.array ≡ place → number z z.value ≡ Some v → v.width ≡ x.zero.width
      write_width h z v at array gives =
          let f = fits h z at in
          let code = f.value in
          let value : code_of values s.arrays.items z.place code.0 ≡ Some v = sym (ap (option_and_then (code_of values s.arrays.items z.place)) code.1) ∙ gives in
          let width = f.wide code.0 code.1 ∙ ap (array_width s.arrays.items) array ∙ ap (option_map (λ (u : Words). u.zero.width)) before in
          have values s.arrays.items z.place code.0 x.zero.width v even width value

      by_write : (j : ℕ) (a : PlainStore) → slice_get (acting i) j ≡ Some a → a.array ≡ name → store_to (acting i) name ≡ Some a → (o : Option Write) → write_by i a ≡ o → ArrayAfter
      by_write j a at is finds None gives =
          kept (λ h z here array. all_same j a at is h z here array ∙ gives)
          (λ index. after_some a finds index
          ∙ ap (λ v. if nat_lt index (array_size decls name) then v else old index) (word_unwritten (given i a.guard) (given i a.index) (given i a.value) (old index) index gives)
          ∙ if_same (nat_lt index (array_size decls name)) (old index))
      by_write j a at is finds (Some w) gives =
          let r = stands.each i j a at in
          let array = store_array a r.1 is r.3 in
          let same : (h : ℕ) (z : Store) → slice_get stores h ≡ Some z → z.array ≡ place → write z ≡ Some w = λ h z here is'. all_same j a at is h z here is' ∙ gives in
          let q = found (written (plain_words x) w) (stores_give write stores (map plain_words s.arrays.items) place r.0 r.1 w (plain_words x) same plain_before r.2 array) in
          let value : number r.1 r.1.value ≡ Some w.value =
          code_given tree m table values s memory i r.1.value a.value r.1.place r.3.place r.3.value
          ∙ (word_written (given i a.guard) (given i a.index) (given i a.value) w 0 0 gives).1 in
          let changes : (index : ℕ) → new name index ≡ (if nat_lt index (array_size decls name) then (if w.index == index then w.value.value else old index) else old index) = λ index.
          after_some a finds index
          ∙ ap (λ v. if nat_lt index (array_size decls name) then v else old index) (word_written (given i a.guard) (given i a.index) (given i a.value) w (old index) index gives).0 in
          (q.0, q.1, changed w changes (write_width r.0 r.1 w.value r.2 array value) q.0 q.2)

      by_store : (o : Option PlainStore) → store_to (acting i) name ≡ o → ArrayAfter
      by_store None is = kept (λ h z at array. let r = store_of h z at array in absurd (stored_there (acting i) r.0 r.1 name r.2 r.3 is)) (after_none is)
      by_store (Some a) is = let r = stored_here (acting i) name a is in by_write r.0 a r.1 r.2 is (write_by i a) refl

      pub array_same : (y : Words) × (slice_get after (arrays_before tree i + k) ≡ Some y) × WordsStand (word_after tree m (look_by tree values) i) (decls_at tree i) name y
      array_same = by_store (store_to (acting i) name) refl
