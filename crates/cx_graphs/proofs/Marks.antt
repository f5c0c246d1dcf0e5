-- What marking a node leaves.
use Rattle.std.proofs.Common.{◌≡◌, ℕ, zero, suc, ◌+◌, ◌<◌, Bool, true, false, List, [], ◌∷◌, ◌++◌, Some, length, slice_get, slice_set, get_or, take, drop, add-one, ◌⊎◌, inl, inr, ⊎_elim, refl, sym, ap, ◌∙◌, subst, arith}
use Rattle.std.proofs.lemmas.List.{length-set, length-append, drop-append-le}
use Rattle.std.proofs.Math.Seq.{take-suc}
use Rattle.cx_text.specs.Members.{In}
use Rattle.cx_graphs.specs.Graphs.{Appends, Marked, Spread}
use Rattle.cx_graphs.proofs.Takes.{marked_here, marked_still, fewer, marked_from}

pub in_left : (xs ys : List ℕ) (n : ℕ) → In xs n → In (xs ++ ys) n
in_left [] ys n i = absurd i
in_left (x ∷ xs) ys n (inl e) = inl e
in_left (x ∷ xs) ys n (inr i) = inr (in_left xs ys n i)

pub in_right : (xs ys : List ℕ) (n : ℕ) → In ys n → In (xs ++ ys) n
in_right [] ys n i = i
in_right (x ∷ xs) ys n i = inr (in_right xs ys n i)

pub in_either : (xs ys : List ℕ) (n : ℕ) → In (xs ++ ys) n → In xs n ⊎ In ys n
in_either [] ys n i = inr i
in_either (x ∷ xs) ys n (inl e) = inl (inl e)
in_either (x ∷ xs) ys n (inr i) = ⊎_elim (λ p. inl (inr p)) (λ q. inr q) (in_either xs ys n i)

-- a node that is marked already
pub marked_before : (marks : List Bool) (waiting : List ℕ) (node : ℕ) → slice_get marks node ≡ Some true → Spread marks waiting (node ∷ []) marks waiting
marked_before marks waiting node h = record {
  same_length = refl;
  kept = λ n k. k;
  marked = λ n i. ⊎_elim (λ e. subst (Marked marks) e h) (λ j. absurd j) i;
  new = λ n k. inl k;
  still = λ n i. i;
  known = λ n i. inl i;
  less = omega arith;
}

-- a node that is marked now
pub marked_now : (marks : List Bool) (waiting : List ℕ) (node : ℕ) → node < length marks → slice_get marks node ≡ Some false → Spread marks waiting (node ∷ []) (slice_set marks node true) (waiting ++ node ∷ [])
marked_now marks waiting node within h = record {
  same_length = length-set marks node true;
  kept = λ n k. marked_still marks node n k;
  marked = λ n i. ⊎_elim (λ e. subst (Marked (slice_set marks node true)) e (marked_here marks node within)) (λ j. absurd j) i;
  new = λ n k. ⊎_elim (λ m. inl m) (λ e. inr (inl e, in_right waiting (node ∷ []) n (inl e))) (marked_from marks node n k);
  still = λ n i. in_left waiting (node ∷ []) n i;
  known = λ n i. in_either waiting (node ∷ []) n i;
  less = let rest = fewer marks node h in let more = length-append waiting (node ∷ []) in omega (arith, rest, more);
}

pub nothing_marked : (marks : List Bool) (waiting : List ℕ) → Spread marks waiting [] marks waiting
nothing_marked marks waiting = record {
  same_length = refl;
  kept = λ n k. k;
  marked = λ n i. absurd i;
  new = λ n k. inl k;
  still = λ n i. i;
  known = λ n i. inl i;
  less = omega arith;
}

-- some nodes, and then others
pub marked_more : (marks : List Bool) (waiting nodes : List ℕ) (between : List Bool) (mid more : List ℕ) (after : List Bool) (last : List ℕ)
    → Spread marks waiting nodes between mid → Spread between mid more after last → Spread marks waiting (nodes ++ more) after last
marked_more marks waiting nodes between mid more after last a b = record {
  same_length = b.same_length ∙ a.same_length;
  kept = λ n k. b.kept n (a.kept n k);
  marked = λ n i. ⊎_elim (λ l. b.kept n (a.marked n l)) (λ r. b.marked n r) (in_either nodes more n i);
  new = λ n k. ⊎_elim
      (λ m. ⊎_elim (λ o. inl o) (λ j. inr (in_left nodes more n j.0, b.still n j.1)) (a.new n m))
      (λ j. inr (in_right nodes more n j.0, j.1))
      (b.new n k);
  still = λ n i. b.still n (a.still n i);
  known = λ n i. ⊎_elim
      (λ m. ⊎_elim (λ w. inl w) (λ l. inr (in_left nodes more n l)) (a.known n m))
      (λ r. inr (in_right nodes more n r))
      (b.known n i);
  less = omega (arith, a.less, b.less);
}

pub in_at : (ns : List ℕ) (k : ℕ) → k < length ns → In ns (get_or ns k 0)
in_at [] k h = absurd (omega (arith, h))
in_at (n ∷ ns) zero h = inl refl
in_at (n ∷ ns) (suc k) h = inr (in_at ns k (omega (arith, h)))

pub take_more : (ns : List ℕ) (k : ℕ) → k < length ns → take (k + 1) ns ≡ take k ns ++ get_or ns k 0 ∷ []
take_more ns k h = ap (λ n. take n ns) (add-one k) ∙ take-suc ns k 0 h

-- the same at the end of what waits
pub appends_before : (marks : List Bool) (waiting : List ℕ) (node : ℕ) → slice_get marks node ≡ Some true → Appends marks waiting (node ∷ []) marks waiting
appends_before marks waiting node h = record {
  longer = omega arith;
  spread = λ next few. marked_before marks (drop next waiting) node h;
}

pub appends_now : (marks : List Bool) (waiting : List ℕ) (node : ℕ) → node < length marks → slice_get marks node ≡ Some false → Appends marks waiting (node ∷ []) (slice_set marks node true) (waiting ++ node ∷ [])
appends_now marks waiting node within h = record {
  longer = let more = length-append waiting (node ∷ []) in omega (arith, more);
  spread = λ next few. subst (Spread marks (drop next waiting) (node ∷ []) (slice_set marks node true)) (sym (drop-append-le next waiting (node ∷ []) few)) (marked_now marks (drop next waiting) node within h);
}

pub appends_nothing : (marks : List Bool) (waiting nodes : List ℕ) → Appends marks waiting (take 0 nodes) marks waiting
appends_nothing marks waiting nodes = record {
  longer = omega arith;
  spread = λ next few. subst (λ l. Spread marks (drop next waiting) l marks (drop next waiting)) (none nodes) (nothing_marked marks (drop next waiting));
}
  where
    none : (ns : List ℕ) → [] ≡ take 0 ns
    none [] = refl
    none (n ∷ ns) = refl

pub appends_more : (marks : List Bool) (waiting nodes : List ℕ) (between : List Bool) (mid more : List ℕ) (after : List Bool) (last : List ℕ)
    → Appends marks waiting nodes between mid → Appends between mid more after last → Appends marks waiting (nodes ++ more) after last
appends_more marks waiting nodes between mid more after last a b = record {
  longer = omega (arith, a.longer, b.longer);
  spread = λ next few. marked_more marks (drop next waiting) nodes between (drop next mid) more after (drop next last) (a.spread next few) (b.spread next (omega (arith, few, a.longer)));
}

pub drop_none : (ns : List ℕ) → drop 0 ns ≡ ns
drop_none [] = refl
drop_none (n ∷ ns) = refl

-- all that waits
pub spread_whole : (marks : List Bool) (waiting nodes : List ℕ) (after : List Bool) (now_waiting : List ℕ) → Appends marks waiting nodes after now_waiting → Spread marks waiting nodes after now_waiting
spread_whole marks waiting nodes after now_waiting a =
    subst (λ l. Spread marks l nodes after now_waiting) (drop_none waiting) (subst (λ l. Spread marks (drop 0 waiting) nodes after l) (drop_none now_waiting) (a.spread 0 (omega arith)))
