-- A tally begins, goes on through lists, and is cleared.
use Rattle.std.proofs.Common.{◌≡◌, ℕ, zero, suc, ◌+◌, ◌<◌, ◌≤◌, List, [], ◌∷◌, ◌++◌, length, slice_set, ◌⊎◌, inl, inr, ⊎_elim, refl, sym, ◌∙◌, subst, arith}
use Rattle.std.proofs.lemmas.List.{length-set, get_or-set_same, get_or-set_other}
use Rattle.cx_text.specs.Members.{In}
use Rattle.cx_graphs.specs.Graphs.{Bounded, Edges, targets_of}
use Rattle.cx_graphs.specs.declared.owners.Owners.{Owners}
use Rattle.cx_graphs.specs.declared.owners.Owners.TheVariants.{Nobody, Only}
use Rattle.cx_graphs.specs.Owners.{Covers, Sound, owners_at}
use Rattle.cx_graphs.specs.Tallies.{IsClear, IsKept, Starts, Tallies, Added}
use Rattle.cx_graphs.specs.Spreads.{IsBegun}
use Rattle.cx_graphs.proofs.Members.{past_the_end}
use Rattle.cx_graphs.proofs.Marks.{in_left, in_right, in_either}
use Rattle.cx_graphs.proofs.OwnerLemmas.{sound_joined}
use Rattle.cx_text.proofs.NumberLaws.{same_or}

-- what adding leaves is kept
pub kept_added : (owners : List Owners) (touched nodes : List ℕ) (more : Owners) (after : List Owners) (now : List ℕ)
    → Bounded (length owners) nodes → IsKept owners touched → Added owners touched nodes more after now → IsKept after now
kept_added owners touched nodes more after now within k a = record {
  within = λ n i. subst (λ c. n < c) (sym a.same_length) (⊎_elim (λ l. k.within n l) (λ r. within n (a.among n r)) (in_either touched a.fresh n (subst (λ l. In l n) a.longer i)));
  others = λ n. ⊎_elim
      (λ same. ⊎_elim (λ e. inl (same ∙ e)) (λ i. inr (there n (in_left touched a.fresh n i))) (k.others n))
      (λ new. inr (there n (in_right touched a.fresh n new.1)))
      (a.changed n);
}
  where
    there : (n : ℕ) → In (touched ++ a.fresh) n → In now n
    there n i = subst (λ l. In l n) (sym a.longer) i

-- what is touched has owners
pub some_added : (owners : List Owners) (touched nodes : List ℕ) (more : Owners) (after : List Owners) (now : List ℕ)
    → ((n : ℕ) → In touched n → (k : ℕ) × Covers (owners_at owners n) k) → Added owners touched nodes more after now
    → (n : ℕ) → In now n → (k : ℕ) × Covers (owners_at after n) k
some_added owners touched nodes more after now has a n i =
    ⊎_elim (λ l. let one = has n l in (one.0, a.still n one.0 one.1)) (λ r. a.some n r) (in_either touched a.fresh n (subst (λ l. In l n) a.longer i))

pub begins : (count : ℕ) (lists : Edges) (owners : List Owners) (touched : List ℕ) → IsClear count owners touched → IsBegun count lists 0 owners touched
begins count lists owners touched c = record {
  same_length = c.size;
  sound = λ n. subst (Sound (Starts (targets_of lists) n)) (sym (c.nobody n)) tt;
  all = λ n k few h. absurd (omega (arith, few));
  some = λ n i. absurd (subst (λ l. In l n) c.none_touched i);
  kept = record { within = λ n i. absurd (subst (λ l. In l n) c.none_touched i); others = λ n. inl (c.nobody n) };
}

-- one more list
pub begins_more : (count : ℕ) (lists : Edges) (number : ℕ) (owners : List Owners) (touched : List ℕ) (after : List Owners) (now : List ℕ)
    → Bounded count (targets_of lists number) → IsBegun count lists number owners touched
    → Added owners touched (targets_of lists number) (Only number) after now → IsBegun count lists (number + 1) after now
begins_more count lists number owners touched after now within b a = record {
  same_length = a.same_length ∙ b.same_length;
  sound = λ n. ⊎_elim
      (λ same. subst (Sound (Starts (targets_of lists) n)) (sym same) (b.sound n))
      (λ new. subst (Sound (Starts (targets_of lists) n)) (sym new.2) (sound_joined (Starts (targets_of lists) n) (owners_at owners n) (Only number) (b.sound n) new.0))
      (a.changed n);
  all = λ n k few h. ⊎_elim
      (λ s. a.given n k (subst (λ m. In (targets_of lists m) n) (sym s) h) s)
      (λ d. a.still n k (b.all n k (omega (arith, few, d)) h))
      (same_or number k);
  some = some_added owners touched (targets_of lists number) (Only number) after now b.some a;
  kept = kept_added owners touched (targets_of lists number) (Only number) after now (λ n i. subst (λ c. n < c) (sym b.same_length) (within n i)) b.kept a;
}

pub begun : (count : ℕ) (lists : Edges) (number : ℕ) (owners : List Owners) (touched : List ℕ) → IsBegun count lists number owners touched → (number < length lists → ⊥)
    → Tallies (Starts (targets_of lists)) owners touched
begun count lists number owners touched b end = record {
  tells = λ n. record { sound = b.sound n; all = λ k h. all n k h };
  some = b.some;
  kept = b.kept;
}
  where
    below_or_not : (m n : ℕ) → (m < n) ⊎ (n ≤ m)
    below_or_not zero zero = inr (omega arith)
    below_or_not zero (suc n) = inl (omega arith)
    below_or_not (suc m) zero = inr (omega arith)
    below_or_not (suc m) (suc n) = ⊎_elim (λ l. inl (omega (arith, l))) (λ g. inr (omega (arith, g))) (below_or_not m n)

    all : (n k : ℕ) → Starts (targets_of lists) n k → Covers (owners_at owners n) k
    all n k h = ⊎_elim (λ lt. b.all n k lt h) (λ ge. absurd (past_the_end lists k n (λ lt. end (omega (arith, lt, ge))) h)) (below_or_not k number)

-- the last touched node has no owner any more
pub kept_without : (owners : List Owners) (touched rest : List ℕ) (node : ℕ) → touched ≡ rest ++ node ∷ [] → IsKept owners touched → IsKept (slice_set owners node Nobody) rest
kept_without owners touched rest node e k = record {
  within = λ n i. subst (λ c. n < c) (sym (length-set owners node Nobody)) (k.within n (subst (λ l. In l n) (sym e) (in_left rest (node ∷ []) n i)));
  others = λ n. ⊎_elim
      (λ s. inl (subst (λ m. owners_at (slice_set owners node Nobody) m ≡ Nobody) s (get_or-set_same owners node Nobody Nobody within)))
      (λ d. ⊎_elim
      (λ nobody. inl (get_or-set_other owners node n Nobody Nobody (λ x. d (sym x)) ∙ nobody))
      (λ i. ⊎_elim (λ l. inr l) (λ r. ⊎_elim (λ x. absurd (d x)) (λ j. absurd j) r) (in_either rest (node ∷ []) n (subst (λ l. In l n) e i)))
      (k.others n))
      (same_or node n);
}
  where
    within : node < length owners
    within = k.within node (subst (λ l. In l node) (sym e) (in_right rest (node ∷ []) node (inl refl)))

-- where nothing is touched no node has an owner
pub cleared : (count : ℕ) (owners : List Owners) (touched rest : List ℕ) → length owners ≡ count → IsKept owners touched → touched ≡ [] → rest ≡ [] → IsClear count owners rest
cleared count owners touched rest long k e none = record {
  size = long;
  nobody = λ n. ⊎_elim (λ x. x) (λ i. absurd (subst (λ l. In l n) e i)) (k.others n);
  none_touched = none;
}
