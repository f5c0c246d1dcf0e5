-- A search begins, goes on, and ends with all that is reached.
use Rattle.std.proofs.Common.{◌≡◌, ℕ, zero, suc, ◌+◌, ◌<◌, ◌≤◌, Bool, true, false, true≢false, List, [], ◌∷◌, ◌++◌, length, drop, slice_set, replicate, get_or, inl, inr, ⊎_elim, refl, sym, ◌∙◌, subst, arith}
use Rattle.std.proofs.lemmas.List.{drop_all, get_or_read, length-set}
use Rattle.std.proofs.lemmas.Option.{slice_get_within}
use Rattle.cx_text.specs.Members.{In}
use Rattle.cx_graphs.specs.Graphs.{Appends, Marked, Spread}
use Rattle.cx_graphs.specs.Ways.{Targets, Way, edge, further, Comes}
use Rattle.cx_graphs.specs.Reach.{AreReached, IsKept, IsQueue, IsUnderWay}
use Rattle.cx_graphs.proofs.Marks.{in_at, in_left, in_either, drop_none, spread_whole}
use Rattle.cx_graphs.proofs.Lists.{set_from}

-- what is marked stays touched
kept_more : (marks : List Bool) (touched nodes : List ℕ) (after : List Bool) (now : List ℕ) → IsKept marks touched → Spread marks touched nodes after now → IsKept after now
kept_more marks touched nodes after now k s = record {
  within = λ n i. ⊎_elim (λ w. subst (λ l. n < l) (sym s.same_length) (k.within n w)) (λ j. slice_get_within after n true (s.marked n j)) (s.known n i);
  all = λ n m. ⊎_elim (λ o. s.still n (k.all n o)) (λ j. j.1) (s.new n m);
}

module _ (targets : Targets) where
  then_edge : (m n k : ℕ) → Way targets m n → In (targets n) k → Way targets m k
  then_edge m n k (edge i) j = further n i (edge j)
  then_edge m n k (further h i w) j = further h i (then_edge h n k w j)

  further_on : (start n k : ℕ) → Comes targets (start ∷ []) n → In (targets n) k → Comes targets (start ∷ []) k
  further_on start n k (inl (inl e)) j = inr (start, inl refl, edge (subst (λ v. In (targets v) k) (sym e) j))
  further_on start n k (inl (inr f)) j = absurd f
  further_on start n k (inr w) j = inr (w.0, w.1, then_edge w.0 n k w.2 j)

  begins : (count start : ℕ) (marks : List Bool) (waiting : List ℕ) (none : List Bool) → length none ≡ count → ((n : ℕ) → Marked none n → ⊥)
      → Spread none [] (start ∷ []) marks waiting → IsUnderWay targets count start marks waiting
  begins count start marks waiting none long clean s = record {
    same_length = s.same_length ∙ long;
    sound = λ n k. ⊎_elim (λ m. absurd (clean n m)) (λ j. inl j.0) (s.new n k);
    begun = s.marked start (inl refl);
    waits = λ n i. ⊎_elim (λ w. absurd w) (λ j. s.marked n j) (s.known n i);
    gone = λ n k. ⊎_elim (λ m. absurd (clean n m)) (λ j. inl j.1) (s.new n k);
  }

  -- the first that waits is gone through
  goes_on : (count start : ℕ) (marks : List Bool) (waiting rest : List ℕ) (node : ℕ) (after : List Bool) (more : List ℕ)
      → waiting ≡ node ∷ rest → IsUnderWay targets count start marks waiting → Spread marks rest (targets node) after more → IsUnderWay targets count start after more
  goes_on count start marks waiting rest node after more e way s =
      let waited : (n : ℕ) → In (node ∷ rest) n → Marked marks n = λ n i. way.waits n (subst (λ l. In l n) (sym e) i) in
      let reached : Comes targets (start ∷ []) node = way.sound node (waited node (inl refl)) in
      record {
        same_length = s.same_length ∙ way.same_length;
        sound = λ n k. ⊎_elim (λ m. way.sound n m) (λ j. further_on start node n reached j.0) (s.new n k);
        begun = s.kept start way.begun;
        waits = λ n i. ⊎_elim (λ w. s.kept n (waited n (inr w))) (λ j. s.marked n j) (s.known n i);
        gone = λ n k. ⊎_elim
            (λ m. ⊎_elim
            (λ w. ⊎_elim
            (λ same. inr (λ t i. s.marked t (subst (λ v. In (targets v) t) (sym same) i)))
            (λ l. inl (s.still n l))
            (subst (λ l. In l n) e w))
            (λ f. inr (λ t i. s.kept t (f t i)))
            (way.gone n m))
            (λ j. inl j.1)
            (s.new n k);
      }

  along : (marks : List Bool) → ((n m : ℕ) → Marked marks n → In (targets n) m → Marked marks m) → (m n : ℕ) → Way targets m n → Marked marks m → Marked marks n
  along marks closed m n (edge i) k = closed m n k i
  along marks closed m n (further h i w) k = along marks closed h n w (closed m h k i)

  -- where nothing waits, all that is reached is marked
  ends : (count start : ℕ) (marks : List Bool) → IsUnderWay targets count start marks [] → (n : ℕ) → Comes targets (start ∷ []) n → Marked marks n
  ends count start marks way n (inl (inl e)) = subst (λ v. Marked marks v) e way.begun
  ends count start marks way n (inl (inr f)) = absurd f
  ends count start marks way n (inr w) =
      along marks (λ a b k i. ⊎_elim (λ f. absurd f) (λ f. f b i) (way.gone a k)) w.0 n w.2
      (⊎_elim (λ e. subst (λ v. Marked marks v) e way.begun) (λ f. absurd f) w.1)

  -- A QUEUE begins, goes on, and ends
  pub queue_begins : (count start : ℕ) (marks : List Bool) (touched : List ℕ) (none : List Bool) (empty : List ℕ) → length none ≡ count → ((n : ℕ) → Marked none n → ⊥) → empty ≡ []
      → Appends none empty (start ∷ []) marks touched → IsQueue targets count start marks touched 0
  queue_begins count start marks touched none empty long clean e a =
      let s : Spread none empty (start ∷ []) marks touched = spread_whole none empty (start ∷ []) marks touched a in
      record {
        way = subst (IsUnderWay targets count start marks) (sym (drop_none touched)) (begins count start marks touched none long clean (subst (λ l. Spread none l (start ∷ []) marks touched) e s));
        kept = kept_more none empty (start ∷ []) marks touched (record { within = λ n i. absurd (subst (λ l. In l n) e i); all = λ n m. absurd (clean n m) }) s;
        place = omega arith;
      }

  pub queue_goes_on : (count start : ℕ) (marks : List Bool) (touched : List ℕ) (next node : ℕ) (after : List Bool) (now : List ℕ) → next < length touched → drop next touched ≡ node ∷ drop (next + 1) touched
      → IsQueue targets count start marks touched next → Appends marks touched (targets node) after now → IsQueue targets count start after now (next + 1)
  queue_goes_on count start marks touched next node after now few e q a = record {
    way = goes_on count start marks (drop next touched) (drop (next + 1) touched) node after (drop (next + 1) now) e q.way (a.spread (next + 1) (omega (arith, few)));
    kept = kept_more marks touched (targets node) after now q.kept (spread_whole marks touched (targets node) after now a);
    place = omega (arith, few, a.longer);
  }

  pub queue_ends : (count start : ℕ) (marks : List Bool) (touched : List ℕ) (next : ℕ) → length touched ≤ next → IsQueue targets count start marks touched next → AreReached targets start marks
  queue_ends count start marks touched next end q = record {
    sound = q.way.sound;
    all = ends count start marks (subst (IsUnderWay targets count start marks) (drop_all next touched end) q.way);
  }

  -- the next that is gone through is a node
  pub next_within : (count start : ℕ) (marks : List Bool) (touched : List ℕ) (next node : ℕ) → next < length touched → node ≡ get_or touched next node → IsQueue targets count start marks touched next → node < count
  next_within count start marks touched next node few e q =
      subst (λ n. node < n) q.way.same_length (subst (λ n. n < length marks) (sym (get_or_read touched next node few e 0)) (q.kept.within (get_or touched next 0) (in_at touched next few)))

-- what is touched is taken off, and its mark with it
pub kept_without : (marks : List Bool) (touched rest : List ℕ) (node : ℕ) → touched ≡ rest ++ node ∷ [] → IsKept marks touched → IsKept (slice_set marks node false) rest
kept_without marks touched rest node e k = record {
  within = λ n i. subst (λ c. n < c) (sym (length-set marks node false)) (k.within n (subst (λ l. In l n) (sym e) (in_left rest (node ∷ []) n i)));
  all = λ n m. ⊎_elim
      (λ s. absurd (true≢false (sym s.1)))
      (λ d. ⊎_elim (λ i. i) (λ r. ⊎_elim (λ same. absurd (d.1 same)) (λ j. absurd j) r) (in_either rest (node ∷ []) n (subst (λ l. In l n) e (k.all n d.0))))
      (set_from marks node n false true m);
}

pub no_mark : (count n : ℕ) → Marked (replicate count false) n → ⊥
no_mark zero n h = absurd (cc)
no_mark (suc count) zero h = absurd (cc)
no_mark (suc count) (suc n) h = no_mark count n h
