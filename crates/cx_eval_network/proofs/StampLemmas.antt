-- Marks with stamps show what is known.
use Rattle.std.proofs.Common.{◌≡◌, ◌≢◌, ℕ, zero, suc, ◌+◌, ◌-◌, ◌<◌, ◌≤◌, Bool, true, false, nat_eq, Option, Some, None, option_map, List, ◌∷◌, drop, length, replicate, set, slice_get, ⊎_elim, refl, sym, ap, ◌∙◌, subst, arith}
use Rattle.std.specs.Prelude.{if◌then◌else◌}
use Rattle.std.proofs.lemmas.List.{drop-map, length-set, map-set}
use Rattle.std.proofs.lemmas.Option.{slice_get-map}
use Rattle.cx_meaning.specs.declared.sights.Seen.{Seen}
use Rattle.cx_text.proofs.ListLaws.{at_map, set_other, set_same, there_below}
use Rattle.cx_text.proofs.OptionLaws.{none_is_some}
use Rattle.cx_text.proofs.NumberLaws.{apart_numbers, from_eq, same_numbers, same_or}
use Rattle.cx_eval_network.specs.declared.marks.NodeMark.{NodeMark}
use Rattle.cx_eval_network.specs.declared.marks.NodeMark.TheVariants.{Unseen, Open, Known}
use Rattle.cx_eval_network.specs.declared.marks.StampedMark.{StampedMark}
use Rattle.cx_eval_network.specs.Demands.{AllUnseen, Ready}
use Rattle.cx_eval_network.specs.Stamps.{AreStamped, copied, followed, mark_at, marks_at}

known_so : (stamp : ℕ) (m : StampedMark) → m.stamp ≡ stamp → mark_at stamp m ≡ Known m.seen
known_so stamp m e = ap (λ b. if b then Known m.seen else (if nat_eq (m.stamp + 1) stamp then Open else Unseen)) (same_numbers m.stamp stamp e)

module _ (stamp : ℕ) (marks : List StampedMark) (node : ℕ) where
  -- WRITTEN
  pub known_put : (x : Seen) → marks_at stamp (set marks node (record { stamp = stamp; seen = x })) ≡ set (marks_at stamp marks) node (Known x)
  known_put x =
      let m : StampedMark = record { stamp = stamp; seen = x } in
      map-set (mark_at stamp) marks node m ∙ ap (set (marks_at stamp marks) node) (known_so stamp m refl)

  pub open_put : (x : Seen) → 0 < stamp → marks_at stamp (set marks node (record { stamp = stamp - 1; seen = x })) ≡ set (marks_at stamp marks) node Open
  open_put x some =
      let m : StampedMark = record { stamp = stamp - 1; seen = x } in
      let before : nat_eq (stamp - 1) stamp ≡ false = apart_numbers (stamp - 1) stamp (omega arith) in
      let next : nat_eq (stamp - 1 + 1) stamp ≡ true = same_numbers (stamp - 1 + 1) stamp (omega arith) in
      map-set (mark_at stamp) marks node m
      ∙ ap (set (marks_at stamp marks) node)
      (ap (λ b. if b then Known x else (if nat_eq (stamp - 1 + 1) stamp then Open else Unseen)) before ∙ ap (λ c. if c then Open else Unseen) next)

  pub stamped_put : (m : StampedMark) → m.stamp ≤ stamp → AreStamped stamp marks → AreStamped stamp (set marks node m)
  stamped_put m le h = record {
    counts = h.counts;
    each = λ n k e. ⊎_elim
        (λ (s : n ≡ node). written n k s e)
        (λ (ne : n ≢ node). h.each n k (sym (set_other marks node n m ne) ∙ e)) (same_or n node);
  }
    where
      written : (n : ℕ) (k : StampedMark) → n ≡ node → slice_get (set marks node m) n ≡ Some k → k.stamp ≤ stamp
      written n k s e =
          let at : slice_get (set marks node m) node ≡ Some k = ap (slice_get (set marks node m)) (sym s) ∙ e in
          let lt : node < length marks = subst (λ l. node < l) (length-set marks node m) (there_below (set marks node m) node k at) in
          let f : Some m ≡ Some k = sym (set_same marks node m lt) ∙ at in
          let same : m ≡ k = cc in
          subst (λ (j : StampedMark). j.stamp ≤ stamp) same le

  -- COPIED
  copy_by : (m : StampedMark) (b c : Bool) → nat_eq m.stamp stamp ≡ b
      → marks_at stamp (if b then set marks node m else marks) ≡ followed (marks_at stamp marks) node (Some (if b then Known m.seen else (if c then Open else Unseen)))
  copy_by m true c e = map-set (mark_at stamp) marks node m ∙ ap (set (marks_at stamp marks) node) (known_so stamp m (from_eq m.stamp stamp e))
  copy_by m false true e = refl
  copy_by m false false e = refl

  copied_so : (o : Option StampedMark) → marks_at stamp (copied stamp marks node o) ≡ followed (marks_at stamp marks) node (option_map (mark_at stamp) o)
  copied_so None = refl
  copied_so (Some m) = copy_by m (nat_eq m.stamp stamp) (nat_eq (m.stamp + 1) stamp) refl

  pub copied_follows : (first number : ℕ) → marks_at stamp (copied stamp marks node (slice_get (drop first marks) number)) ≡ followed (marks_at stamp marks) node (slice_get (drop first (marks_at stamp marks)) number)
  copied_follows first number =
      copied_so (slice_get (drop first marks) number)
      ∙ ap (followed (marks_at stamp marks) node) (sym (ap (λ ms. slice_get ms number) (drop-map (mark_at stamp) first marks) ∙ slice_get-map (mark_at stamp) (drop first marks) number))

  copied_by : (m : StampedMark) (b : Bool) → nat_eq m.stamp stamp ≡ b → AreStamped stamp marks → AreStamped stamp (if b then set marks node m else marks)
  copied_by m true e h = stamped_put m (let same = from_eq m.stamp stamp e in omega (arith, same)) h
  copied_by m false e h = h

  pub copied_stamped : (o : Option StampedMark) → AreStamped stamp marks → AreStamped stamp (copied stamp marks node o)
  copied_stamped None h = h
  copied_stamped (Some m) h = copied_by m (nat_eq m.stamp stamp) refl h

-- FORGOTTEN
earlier_unseen : (stamp : ℕ) (m : StampedMark) → m.stamp + 1 < stamp → mark_at stamp m ≡ Unseen
earlier_unseen stamp m lt =
    ap (λ b. if b then Known m.seen else (if nat_eq (m.stamp + 1) stamp then Open else Unseen)) (apart_numbers m.stamp stamp (omega arith))
    ∙ ap (λ c. if c then Open else Unseen) (apart_numbers (m.stamp + 1) stamp lt)

all_earlier : (stamp : ℕ) (marks : List StampedMark) → ((n : ℕ) (m : StampedMark) → slice_get marks n ≡ Some m → m.stamp + 1 < stamp) → AllUnseen (marks_at stamp marks)
all_earlier stamp marks h n mark e =
    let at = at_map (mark_at stamp) marks n mark e in
    sym at.2 ∙ earlier_unseen stamp at.0 (h n at.0 at.1)

-- by a later stamp
pub later_stamped : (stamp : ℕ) (marks : List StampedMark) → AreStamped stamp marks → AreStamped (stamp + 2) marks
later_stamped stamp marks h = record {
  counts = omega arith;
  each = λ n m e. (let le = h.each n m e in omega (arith, le));
}

pub later_unseen : (stamp : ℕ) (marks : List StampedMark) → AreStamped stamp marks → AllUnseen (marks_at (stamp + 2) marks)
later_unseen stamp marks h = all_earlier (stamp + 2) marks (λ n m e. (let le = h.each n m e in omega (arith, le)))

-- or without their stamps
module _ (marks : List StampedMark) (cleared : (n : ℕ) (m : StampedMark) → slice_get marks n ≡ Some m → m.stamp ≡ 0) where
  pub cleared_stamped : AreStamped 2 marks
  cleared_stamped = record { counts = omega arith; each = λ n m e. (let z = cleared n m e in omega (arith, z)) }

  pub cleared_unseen : AllUnseen (marks_at 2 marks)
  cleared_unseen = all_earlier 2 marks (λ n m e. (let z = cleared n m e in omega (arith, z)))

pub new_unseen : (count : ℕ) (x : Seen) → marks_at 2 (replicate count (record { stamp = 0; seen = x })) ≡ replicate count Unseen
new_unseen zero x = refl
new_unseen (suc count) x = ap (λ ms. Unseen ∷ ms) (new_unseen count x)

-- NOTHING IS KNOWN
all_same : (count n : ℕ) (m : NodeMark) → slice_get (replicate count Unseen) n ≡ Some m → m ≡ Unseen
all_same zero n m e = absurd (none_is_some m e)
all_same (suc count) zero m e = let f : Some Unseen ≡ Some m = e in cc
all_same (suc count) (suc n) m e = all_same count n m e

pub all_unseen : (marks : List NodeMark) (count : ℕ) → marks ≡ replicate count Unseen → AllUnseen marks
all_unseen marks count e = subst AllUnseen (sym e) (all_same count)

pub unseen_ready : (value : ℕ → Seen) (marks : List NodeMark) → AllUnseen marks → Ready value marks
unseen_ready value marks all = record {
  right = λ n x e. (let f : Known x ≡ Unseen = all n (Known x) e in absurd cc);
  closed = λ n e. (let f : Open ≡ Unseen = all n Open e in absurd cc);
}
