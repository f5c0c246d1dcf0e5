-- Owners spread through a graph.
use Rattle.std.proofs.Common.{◌≡◌, ℕ, zero, suc, ◌+◌, ◌<◌, ◌≤◌, List, [], ◌∷◌, ◌++◌, length, get_or, drop, inl, inr, ⊎_elim, refl, sym, ap, ◌∙◌, subst, arith}
use Rattle.std.proofs.lemmas.List.{drop-append-le, length-append, get_or_read}
use Rattle.cx_text.specs.Members.{In}
use Rattle.cx_graphs.specs.Graphs.{Bounded, Edges, targets_of, IsReached, at_start, by_edge}
use Rattle.cx_graphs.specs.declared.owners.Owners.{Owners}
use Rattle.cx_graphs.specs.Owners.{Covers, Sound, owners_at}
use Rattle.cx_graphs.specs.Tallies.{IsKept, Starts, Reaches, Tallies, Added}
use Rattle.cx_graphs.specs.Spreads.{IsSpreading}
use Rattle.cx_graphs.proofs.Marks.{in_left, in_right, in_at}
use Rattle.cx_graphs.proofs.OwnerLemmas.{sound_joined, sound_wider}
use Rattle.cx_graphs.proofs.Beginnings.{kept_added, some_added}

pub spreads : (g : Edges) (starts : ℕ → List ℕ) (owners : List Owners) (touched : List ℕ) → length owners ≡ length g → Tallies (Starts starts) owners touched → IsSpreading g starts owners touched 0
spreads g starts owners touched long t = record {
  same_length = long;
  sound = λ n. sound_wider (Starts starts n) (Reaches g starts n) (owners_at owners n) (λ k i. at_start i) ((t.tells n).sound);
  begun = λ n k h. (t.tells n).all k h;
  some = t.some;
  kept = t.kept;
  place = omega arith;
  gone = λ n. ⊎_elim (λ e. inl e) (λ i. inr (inl i)) (t.kept.others n);
}

-- the next touched node passes its owners on
pub spreads_more : (g : Edges) (starts : ℕ → List ℕ) (owners : List Owners) (touched : List ℕ) (next node : ℕ) (after : List Owners) (now : List ℕ)
    → ((n : ℕ) → Bounded (length g) (targets_of g n)) → next < length touched → drop next touched ≡ node ∷ drop (next + 1) touched
    → IsSpreading g starts owners touched next → Added owners touched (targets_of g node) (owners_at owners node) after now → IsSpreading g starts after now (next + 1)
spreads_more g starts owners touched next node after now graph few at s a = record {
  same_length = a.same_length ∙ s.same_length;
  sound = λ n. ⊎_elim
      (λ same. subst (Sound (Reaches g starts n)) (sym same) (s.sound n))
      (λ new. subst (Sound (Reaches g starts n)) (sym new.2)
      (sound_joined (Reaches g starts n) (owners_at owners n) (owners_at owners node) (s.sound n)
      (sound_wider (Reaches g starts node) (Reaches g starts n) (owners_at owners node) (λ k r. by_edge node r new.0) (s.sound node))))
      (a.changed n);
  begun = λ n k h. a.still n k (s.begun n k h);
  some = some_added owners touched (targets_of g node) (owners_at owners node) after now s.some a;
  kept = kept_added owners touched (targets_of g node) (owners_at owners node) after now (λ n i. subst (λ c. n < c) (sym s.same_length) (graph node n i)) s.kept a;
  place = let long = ap length a.longer ∙ length-append touched a.fresh in omega (arith, few, long);
  gone = λ n. ⊎_elim
      (λ same. ⊎_elim
      (λ nobody. inl (same ∙ nobody))
      (λ waits_or_passed. ⊎_elim
      (λ waits. ⊎_elim
      (λ is_it. inr (inr (λ m k i h. a.given m k (subst (λ v. In (targets_of g v) m) (sym is_it) i) (subst (λ v. Covers (owners_at owners v) k) (sym is_it) (subst (λ o. Covers o k) same h)))))
      (λ later. inr (inl (still_waits n (in_left (drop (next + 1) touched) a.fresh n later))))
      (subst (λ l. In l n) at waits))
      (λ passed. inr (inr (λ m k i h. a.still m k (passed m k i (subst (λ o. Covers o k) same h)))))
      waits_or_passed)
      (s.gone n))
      (λ new. inr (inl (still_waits n (in_right (drop (next + 1) touched) a.fresh n new.1))))
      (a.changed n);
}
  where
    rest_is : drop (next + 1) now ≡ drop (next + 1) touched ++ a.fresh
    rest_is = ap (λ l. drop (next + 1) l) a.longer ∙ drop-append-le (next + 1) touched a.fresh (omega (arith, few))

    still_waits : (n : ℕ) → In (drop (next + 1) touched ++ a.fresh) n → In (drop (next + 1) now) n
    still_waits n i = subst (λ l. In l n) (sym rest_is) i

-- where all have passed their owners on, all owners are told
all_told : (g : Edges) (starts : ℕ → List ℕ) (owners : List Owners) (touched : List ℕ) (next : ℕ) → drop next touched ≡ [] → IsSpreading g starts owners touched next
    → (k n : ℕ) → IsReached g (starts k) n → Covers (owners_at owners n) k
all_told g starts owners touched next end s k n (at_start i) = s.begun n k i
all_told g starts owners touched next end s k n (by_edge m r i) =
    let before : Covers (owners_at owners m) k = all_told g starts owners touched next end s k m r in
    ⊎_elim
    (λ nobody. absurd (subst (λ o. Covers o k) nobody before))
    (λ rest. ⊎_elim (λ waits. absurd (subst (λ l. In l m) end waits)) (λ passed. passed n k i before) rest)
    (s.gone m)

pub spread : (g : Edges) (starts : ℕ → List ℕ) (owners : List Owners) (touched : List ℕ) (next : ℕ) → (next < length touched → ⊥) → IsSpreading g starts owners touched next → Tallies (Reaches g starts) owners touched
spread g starts owners touched next end s = record {
  tells = λ n. record { sound = s.sound n; all = λ k r. all_told g starts owners touched next (past next touched (omega arith)) s k n r };
  some = s.some;
  kept = s.kept;
}
  where
    none : (n : ℕ) → drop {A = ℕ} n [] ≡ []
    none zero = refl
    none (suc n) = refl

    past : (n : ℕ) (ns : List ℕ) → length ns ≤ n → drop n ns ≡ []
    past n [] h = none n
    past zero (x ∷ ns) h = absurd (omega (arith, h))
    past (suc n) (x ∷ ns) h = past n ns (omega (arith, h))

-- the next touched node is a node
pub next_within : (owners : List Owners) (touched : List ℕ) (next node : ℕ) → IsKept owners touched → next < length touched → node ≡ get_or touched next node → node < length owners
next_within owners touched next node k few e =
    subst (λ n. n < length owners) (sym (get_or_read touched next node few e 0)) (k.within (get_or touched next 0) (in_at touched next few))
