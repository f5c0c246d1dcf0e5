-- Marks after an edge, and after a sweep.
use Rattle.std.proofs.Common.{◌≡◌, ℕ, ◌+◌, ⊎_elim, true, List, Option, Some, None, map, length, slice_get, option_map, unwrap_or, refl, ap, sym, ◌∙◌, subst, arith}
use Rattle.std.proofs.lemmas.Bool.{cases_eq, cases_lt}
use Rattle.std.proofs.lemmas.Option.{same_Some, slice_get-map, slice_get_within}
use Rattle.cx_bits.specs.BitVector.{BitVector}
use Rattle.cx_vtree.specs.declared.operators.Operator.{Operator}
use Rattle.cx_vtree.specs.Operators.{operate}
use Rattle.cx_graphs.specs.Graphs.{Edges, edges_of}
use Rattle.cx_vnets.specs.declared.arrays.Words.{Words}
use Rattle.cx_vnets.specs.declared.nets.Stored.{Stored}
use Rattle.cx_vnets.specs.declared.stores.Store.{Store}
use Rattle.cx_vnets.specs.declared.stores.Write.{Write}
use Rattle.cx_vnets.specs.declared.machines.Machine.{Machine}
use Rattle.cx_vnets.specs.declared.machines.Bench.{Bench}
use Rattle.cx_vnets.specs.Arrays.{word_of, word_at}
use Rattle.cx_vnets.specs.Carriers.{AreAlike, origin_at}
use Rattle.cx_vnets.specs.Gates.{ZerosStand}
use Rattle.cx_vnets.specs.Readers.{IsListed, IsWatch, IsRanked, Agrees, Sweeping, IsCurrent, SameWords, Stays}
use Rattle.cx_vnets.specs.Runs.{AreValues, IsReady}
use Rattle.cx_vnets.specs.Stale.{rank_at, Tells}
use Rattle.cx_vnets.specs.Stores.{PlainWords, plain_words, after_writes}
use Rattle.cx_vnets.specs.Watches.{is_sided}
use Rattle.cx_vnets.specs.Written.{ReadsNoWritten}
use Rattle.cx_vnets.proofs.CarrierLemmas.{carried_agrees}
use Rattle.cx_vnets.proofs.FlatStoreSteps.{stores_keep}
use Rattle.cx_vnets.proofs.RankLemmas.{all_ranked_have, has_place}
use Rattle.cx_vnets.proofs.StaleLemmas.{tells_more, tells_so}
use Rattle.cx_vnets.proofs.WatchLemmas.{net_hears, rule_alike}
use Rattle.cx_vnets.proofs.WholeLooks.{same_length}

-- what is not marked agrees still
pub current_moved : (m : Machine) (s t : Stored) (b c : Bench) → IsCurrent m s b → c.values.items ≡ b.values.items → c.nonzero.items ≡ b.nonzero.items
    → Tells m.readers.ranks.items b.stale.items c.stale.items (Stays s t (edges_of m.readers.of_arrays.items)) → IsCurrent m t c
current_moved m s t b c current same nonzero tells = record {
  readers = current.readers;
  long = tells.long ∙ current.long;
  agree = λ is f lt free.
      let ranked = current.readers.ranked is in
      let stays = tells.stays f (has_place m.nets m.order.items m.readers.ranks.items b.stale.items ranked current.long f lt) free in
      let values = b.values.items in
      let origins = m.readers.carriers.origins.items in
      subst (λ (vs : List BitVector). Agrees m.nets t vs f) (sym same) (⊎_elim
      (λ own.
      sym (rule_alike m.nets s t (slice_get values) (slice_get values) f stays.0
      (net_hears m.nets (λ g. IsListed (edges_of m.readers.of_nets.items) f (origin_at origins g)) (λ g. slice_get values g ≡ slice_get values g) (IsListed (edges_of m.readers.of_arrays.items) f) (SameWords s t)
      (λ g v sided. IsWatch m.readers.watches (length m.nets.drivers.items) f (origin_at origins g) v sided)
      (λ g v sided. (op : Operator) → is_sided op ≡ Some sided → option_map (λ x. operate op x v) (slice_get values g) ≡ option_map (λ x. operate op x v) (slice_get values g))
      (λ g i. refl) stays.1 (λ g v sided i op tells_side. refl) f (current.readers.found f lt own)))
      ∙ current.agree is f lt (tells.kept (rank_at m.readers.ranks.items f) free))
      (λ carried. carried_agrees m.nets m.readers.ranks.items m.readers.carriers (current.readers.carriers is) t values (current.alike is) f lt carried) (cases_eq (origin_at origins f) f));
  alike = λ is. subst (λ (vs : List BitVector). AreAlike m.readers.carriers.origins.items vs) (sym same) (current.alike is);
  nonzero = λ is. subst (λ zs. ZerosStand m.readers.carriers.origins.items zs c.values.items) (sym nonzero)
      (subst (λ (vs : List BitVector). ZerosStand m.readers.carriers.origins.items b.nonzero.items vs) (sym same) (current.nonzero is));
}

-- a word by the plain words
plain_word : (arrays : List Words) (a i : ℕ) → word_at arrays a i
    ≡ unwrap_or (option_map (λ (x : PlainWords). unwrap_or (slice_get x.words i) x.zero) (slice_get (map plain_words arrays) a)) (record { width = 0; value = 0 })
plain_word arrays a i = go (slice_get arrays a) ∙ ap (λ (o : Option PlainWords). unwrap_or (option_map (λ (x : PlainWords). unwrap_or (slice_get x.words i) x.zero) o) (record { width = 0; value = 0 })) (sym (slice_get-map plain_words arrays a))
  where
    go : (o : Option Words) → unwrap_or (option_map (λ x. word_of x i) o) (record { width = 0; value = 0 })
        ≡ unwrap_or (option_map (λ (x : PlainWords). unwrap_or (slice_get x.words i) x.zero) (option_map plain_words o)) (record { width = 0; value = 0 })
    go None = refl
    go (Some x) = refl

-- an array into which no store writes has its words still
pub unwritten : (s t : Stored) (write : Store → Option Write) (stores : List Store) (rows : Edges) (f : ℕ)
    → map plain_words t.arrays.items ≡ after_writes stores (map write stores) (map plain_words s.arrays.items)
    → ReadsNoWritten rows stores (map write stores) (length stores) f → (a : ℕ) → IsListed rows f a → SameWords s t a
unwritten s t write stores rows f words none a listed i =
    plain_word s.arrays.items a i
    ∙ ap (λ (o : Option PlainWords). unwrap_or (option_map (λ (x : PlainWords). unwrap_or (slice_get x.words i) x.zero) o) (record { width = 0; value = 0 }))
    (sym (ap (λ l. slice_get l a) words ∙ stores_keep write stores (map plain_words s.arrays.items) a (λ h x at is. silent h x at is (write x) refl)))
    ∙ sym (plain_word t.arrays.items a i)
  where
    silent : (h : ℕ) (x : Store) → slice_get stores h ≡ Some x → x.array ≡ a → (o : Option Write) → write x ≡ o → o ≡ None
    silent h x at is None e = refl
    silent h x at is (Some w) e =
        absurd (none h x w (slice_get_within stores h x at) at (slice_get-map write stores h ∙ ap (option_map write) at ∙ ap Some e) (subst (IsListed rows f) (sym is) listed))

-- after a sweep all nets have their values
pub swept_values : (m : Machine) (s : Stored) (b : Bench) (stale : List ℕ) (values : List BitVector) → IsReady m s b → IsCurrent m s b → m.readers.ranked ≡ true
    → Sweeping m.nets s m.readers stale values (length m.order.items) → AreValues m s values
swept_values m s b stale values ready current is swept =
    let ranked : IsRanked m.nets m.order.items m.readers.ranks.items = current.readers.ranked is in
    record {
      widths = swept.widths;
      right = all_ranked_have m.nets s m.order.items m.readers.ranks.items ranked values (same_length values s.nets.items swept.widths ∙ sym ready.fits.long)
          (λ f lt. swept.agree f lt (swept.behind (rank_at m.readers.ranks.items f) (slice_get_within m.order.items (rank_at m.readers.ranks.items f) f (ranked.placed f lt))));
    }

-- with other inputs
pub inputs_current : (m : Machine) (s t : Stored) (b c : Bench) → IsCurrent m s b → c.values.items ≡ b.values.items → c.nonzero.items ≡ b.nonzero.items → t.arrays.items ≡ s.arrays.items
    → Tells m.readers.ranks.items b.stale.items c.stale.items (λ f. slice_get t.nets.items f ≡ slice_get s.nets.items f) → IsCurrent m t c
inputs_current m s t b c current values nonzero arrays tells =
    current_moved m s t b c current values nonzero
    (tells_so m.readers.ranks.items b.stale.items c.stale.items (λ f. slice_get t.nets.items f ≡ slice_get s.nets.items f) (Stays s t (edges_of m.readers.of_arrays.items)) tells
    (λ f e. (sym e, λ a listed i. ap (λ xs. word_at xs a i) (sym arrays))))

-- what an edge tells of registers and of arrays
pub edge_tells : (ranks : List ℕ) (old mid new : List ℕ) (s t : Stored) (write : Store → Option Write) (stores : List Store) (writes : List (Option Write)) (rows : Edges)
    → writes ≡ map write stores → map plain_words t.arrays.items ≡ after_writes stores (map write stores) (map plain_words s.arrays.items)
    → Tells ranks old mid (λ f. slice_get t.nets.items f ≡ slice_get s.nets.items f) → Tells ranks mid new (ReadsNoWritten rows stores writes (length stores)) → Tells ranks old new (Stays s t rows)
edge_tells ranks old mid new s t write stores writes rows are words first then_ =
    tells_more ranks old mid new (λ f. slice_get t.nets.items f ≡ slice_get s.nets.items f) (ReadsNoWritten rows stores writes (length stores)) (Stays s t rows) first then_
    (λ f e none. (sym e, unwritten s t write stores rows f words (subst (λ ws. ReadsNoWritten rows stores ws (length stores) f) are none)))

-- one more store has been looked at
pub unwritten_more : (rows : Edges) (stores : List Store) (writes : List (Option Write)) (k f : ℕ) (y : Store) (o : Option Write) → slice_get stores k ≡ Some y → slice_get writes k ≡ Some o
    → ReadsNoWritten rows stores writes k f → ((w : Write) → o ≡ Some w → IsListed rows f y.array → ⊥) → ReadsNoWritten rows stores writes (k + 1) f
unwritten_more rows stores writes k f y o at there before here j x w lt stands is listed = ⊎_elim
    (λ l. before j x w l stands is listed)
    (λ l.
    let place : j ≡ k = omega (arith, lt, l) in
    let store : x ≡ y = same_Some x y (sym stands ∙ ap (slice_get stores) place ∙ at) in
    let write : Some w ≡ o = same_Some (Some w) o (sym is ∙ ap (slice_get writes) place ∙ there) in
    here w (sym write) (subst (λ z. IsListed rows f z.array) store listed)) (cases_lt j k)
