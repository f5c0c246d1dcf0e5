-- Owners of groups own what the groups have.
use Rattle.std.proofs.Common.{ℕ, List, [], ◌∷◌, ◌++◌, length, flat_map, inl, inr, ⊎_elim, refl, sym, subst}
use Rattle.cx_text.specs.Members.{In}
use Rattle.cx_graphs.specs.Graphs.{Bounded, Edges, targets_of}
use Rattle.cx_graphs.specs.declared.owners.Owners.{Owners}
use Rattle.cx_graphs.specs.Owners.{Covers, Sound, owners_at}
use Rattle.cx_graphs.specs.Tallies.{Starts, Tallies, Added, starts_of}
use Rattle.cx_graphs.specs.Spreads.{IsShared}
use Rattle.cx_graphs.proofs.Marks.{in_left, in_right, in_either}
use Rattle.cx_graphs.proofs.OwnerLemmas.{sound_joined, sound_wider}
use Rattle.cx_graphs.proofs.Beginnings.{kept_added, some_added}

in_flat : (f : ℕ → List ℕ) (ms : List ℕ) (m n : ℕ) → In ms m → In (f m) n → In (flat_map f ms) n
in_flat f [] m n i j = absurd i
in_flat f (x ∷ ms) m n (inl e) j = in_left (f x) (flat_map f ms) n (subst (λ y. In (f y) n) (sym e) j)
in_flat f (x ∷ ms) m n (inr i) j = in_right (f x) (flat_map f ms) n (in_flat f ms m n i j)

flat_in : (f : ℕ → List ℕ) (ms : List ℕ) (n : ℕ) → In (flat_map f ms) n → (m : ℕ) × In ms m × In (f m) n
flat_in f [] n i = absurd i
flat_in f (x ∷ ms) n i = ⊎_elim (λ l. (x, inl refl, l)) (λ r. let h = flat_in f ms n r in (h.0, inr h.1, h.2)) (in_either (f x) (flat_map f ms) n i)

module _ (members group_lists lists : Edges) where
  abbrev Start : ℕ → ℕ → Type 0
  Start = Starts (starts_of members group_lists lists)

  of_list : (n k : ℕ) → In (targets_of lists k) n → Start n k
  of_list n k i = in_left (targets_of lists k) (flat_map (targets_of members) (targets_of group_lists k)) n i

  of_group : (g n k : ℕ) → In (targets_of members g) n → In (targets_of group_lists k) g → Start n k
  of_group g n k i j = in_right (targets_of lists k) (flat_map (targets_of members) (targets_of group_lists k)) n (in_flat (targets_of members) (targets_of group_lists k) g n j i)

  pub shares : (group_owners owners : List Owners) (touched : List ℕ) → Tallies (Starts (targets_of lists)) owners touched → IsShared members group_lists lists group_owners [] owners touched
  shares group_owners owners touched t = record {
    sound = λ n. sound_wider (Starts (targets_of lists) n) (Start n) (owners_at owners n) (λ k i. of_list n k i) ((t.tells n).sound);
    begun = λ n k i. (t.tells n).all k i;
    shared = λ g n k p i c. absurd p;
    some = t.some;
    kept = t.kept;
  }

  -- one more group
  pub shares_more : (group_owners : List Owners) (group_touched passed : List ℕ) (g : ℕ) (owners : List Owners) (touched : List ℕ) (after : List Owners) (now : List ℕ)
      → Tallies (Starts (targets_of group_lists)) group_owners group_touched → Bounded (length owners) (targets_of members g)
      → IsShared members group_lists lists group_owners passed owners touched → Added owners touched (targets_of members g) (owners_at group_owners g) after now
      → IsShared members group_lists lists group_owners (passed ++ g ∷ []) after now
  shares_more group_owners group_touched passed g owners touched after now t within s a = record {
    sound = λ n. ⊎_elim
        (λ same. subst (Sound (Start n)) (sym same) (s.sound n))
        (λ new. subst (Sound (Start n)) (sym new.2)
        (sound_joined (Start n) (owners_at owners n) (owners_at group_owners g) (s.sound n)
        (sound_wider (Starts (targets_of group_lists) g) (Start n) (owners_at group_owners g) (λ k j. of_group g n k new.0 j) ((t.tells g).sound))))
        (a.changed n);
    begun = λ n k i. a.still n k (s.begun n k i);
    shared = λ h n k p i c. ⊎_elim
        (λ l. a.still n k (s.shared h n k l i c))
        (λ r. ⊎_elim (λ e. a.given n k (subst (λ x. In (targets_of members x) n) (sym e) i) (subst (λ x. Covers (owners_at group_owners x) k) (sym e) c)) (λ j. absurd j) r)
        (in_either passed (g ∷ []) h p);
    some = some_added owners touched (targets_of members g) (owners_at group_owners g) after now s.some a;
    kept = kept_added owners touched (targets_of members g) (owners_at group_owners g) after now within s.kept a;
  }

  pub shared : (group_owners : List Owners) (group_touched : List ℕ) (owners : List Owners) (touched : List ℕ)
      → Tallies (Starts (targets_of group_lists)) group_owners group_touched → IsShared members group_lists lists group_owners group_touched owners touched
      → Tallies (Starts (starts_of members group_lists lists)) owners touched
  shared group_owners group_touched owners touched t s = record {
    tells = λ n. record { sound = s.sound n; all = λ k i. all n k i };
    some = s.some;
    kept = s.kept;
  }
    where
      all : (n k : ℕ) → Start n k → Covers (owners_at owners n) k
      all n k i =
          ⊎_elim
          (λ l. s.begun n k l)
          (λ r. let g = flat_in (targets_of members) (targets_of group_lists k) n r in
          let covered = (t.tells g.0).all k g.1 in
          ⊎_elim
          (λ nobody. absurd (subst (λ o. Covers o k) nobody covered))
          (λ there. s.shared g.0 n k there g.2 covered)
          (t.kept.others g.0))
          (in_either (targets_of lists k) (flat_map (targets_of members) (targets_of group_lists k)) n i)
