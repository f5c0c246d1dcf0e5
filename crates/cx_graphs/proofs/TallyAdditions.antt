-- What adding owners to nodes leaves.
use Rattle.std.proofs.Common.{◌≡◌, ◌≢◌, ℕ, ◌<◌, List, [], ◌∷◌, ◌++◌, length, get_or, slice_set, append_assoc, inl, inr, ⊎_elim, refl, sym, ap, ◌∙◌, subst, arith}
use Rattle.std.proofs.lemmas.List.{length-set, length-append, get_or-set_same, get_or-set_other, get_or_read}
use Rattle.cx_graphs.specs.declared.owners.Owners.{Owners}
use Rattle.cx_graphs.specs.declared.owners.Owners.TheVariants.{Nobody}
use Rattle.cx_graphs.specs.Owners.{Covers, joined, owners_at}
use Rattle.cx_graphs.specs.Tallies.{Added}
use Rattle.cx_graphs.proofs.Marks.{in_left, in_right, in_either}
use Rattle.cx_graphs.proofs.OwnerLemmas.{covers_left, covers_right, joined_again, less_room, some_joined, rooms_less}
use Rattle.cx_text.proofs.NumberLaws.{same_or}

-- a node whose owners become more
pub added_now : (owners : List Owners) (touched : List ℕ) (node : ℕ) (more : Owners) → node < length owners → (joined (owners_at owners node) more ≡ owners_at owners node → ⊥)
    → Added owners touched (node ∷ []) more (slice_set owners node (joined (owners_at owners node) more)) (touched ++ node ∷ [])
added_now owners touched node more within differ = record {
  same_length = length-set owners node now;
  still = λ n k h. ⊎_elim
      (λ s. subst (λ o. Covers o k) (sym (here n s)) (covers_left (owners_at owners node) more k (subst (λ m. Covers (owners_at owners m) k) (sym s) h)))
      (λ d. subst (λ o. Covers o k) (sym (there n d)) h)
      (same_or node n);
  given = λ n k i h. ⊎_elim (λ s. subst (λ o. Covers o k) (sym (here n s)) (covers_right (owners_at owners node) more k h)) (λ j. absurd j) i;
  fresh = node ∷ [];
  longer = refl;
  among = λ n i. i;
  some = λ n i. ⊎_elim (λ s. let has = some_joined (owners_at owners node) more differ in (has.0, subst (λ o. Covers o has.0) (sym (here n s)) has.1)) (λ j. absurd j) i;
  changed = λ n. ⊎_elim
      (λ s. inr (inl s, inl s, here n s ∙ ap (λ m. joined (owners_at owners m) more) s))
      (λ d. inl (there n d))
      (same_or node n);
  less = let left = rooms_less owners node now within (less_room (owners_at owners node) more differ) in let long = length-append touched (node ∷ []) in omega (arith, left, long);
}
  where
    now : Owners
    now = joined (owners_at owners node) more

    here : (n : ℕ) → node ≡ n → owners_at (slice_set owners node now) n ≡ now
    here n s = subst (λ m. owners_at (slice_set owners node now) m ≡ now) s (get_or-set_same owners node now Nobody within)

    there : (n : ℕ) → node ≢ n → owners_at (slice_set owners node now) n ≡ owners_at owners n
    there n d = get_or-set_other owners node n now Nobody (λ e. d (sym e))

-- some nodes, and then others
pub added_more : (owners : List Owners) (touched nodes : List ℕ) (more : Owners) (between : List Owners) (mid others : List ℕ) (after : List Owners) (now : List ℕ)
    → Added owners touched nodes more between mid → Added between mid others more after now → Added owners touched (nodes ++ others) more after now
added_more owners touched nodes more between mid others after now a b = record {
  same_length = b.same_length ∙ a.same_length;
  still = λ n k h. b.still n k (a.still n k h);
  given = λ n k i h. ⊎_elim (λ l. b.still n k (a.given n k l h)) (λ r. b.given n k r h) (in_either nodes others n i);
  fresh = a.fresh ++ b.fresh;
  longer = b.longer ∙ ap (λ l. l ++ b.fresh) a.longer ∙ append_assoc touched a.fresh b.fresh;
  among = λ n i. ⊎_elim (λ l. in_left nodes others n (a.among n l)) (λ r. in_right nodes others n (b.among n r)) (in_either a.fresh b.fresh n i);
  some = λ n i. ⊎_elim (λ l. let has = a.some n l in (has.0, b.still n has.0 has.1)) (λ r. b.some n r) (in_either a.fresh b.fresh n i);
  changed = λ n. ⊎_elim
      (λ same. ⊎_elim
      (λ before. inl (same ∙ before))
      (λ was. inr (in_left nodes others n was.0, in_left a.fresh b.fresh n was.1, same ∙ was.2))
      (a.changed n))
      (λ is_now. inr (
        in_right nodes others n is_now.0,
        in_right a.fresh b.fresh n is_now.1,
        ⊎_elim
            (λ before. is_now.2 ∙ ap (λ o. joined o more) before)
            (λ was. is_now.2 ∙ ap (λ o. joined o more) was.2 ∙ joined_again (owners_at owners n) more)
            (a.changed n),
      ))
      (b.changed n);
  less = omega (arith, a.less, b.less);
}

-- the owners of a node are read, joined, and written where that changes them
module _ (owners : List Owners) (touched : List ℕ) (node : ℕ) (more before after : Owners) (within : node < length owners) (read : before ≡ get_or owners node before) (join : after ≡ joined before more) where
  was : before ≡ owners_at owners node
  was = get_or_read owners node before within read Nobody

  is_joined : after ≡ joined (owners_at owners node) more
  is_joined = join ∙ ap (λ o. joined o more) was

  pub add_now : (now : List ℕ) → (after ≡ before → ⊥) → now ≡ touched ++ node ∷ [] → Added owners touched (node ∷ []) more (slice_set owners node after) now
  add_now now differ e =
      subst (λ l. Added owners touched (node ∷ []) more (slice_set owners node after) l) (sym e)
      (subst (λ o. Added owners touched (node ∷ []) more (slice_set owners node o) (touched ++ node ∷ [])) (sym is_joined)
      (added_now owners touched node more within (λ same. differ (is_joined ∙ same ∙ sym was))))
