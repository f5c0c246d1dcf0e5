-- An arm beside arms that have run already.
use Rattle.std.proofs.Common.{◌≡◌, ℕ, ◌<◌, ◌≤◌, max, Bool, true, false, if◌then◌else◌, nat_le, [], ◌∷◌, refl, sym, ap, ◌∙◌, subst, arith}
use Rattle.std.proofs.lemmas.Bool.{le-leb, lt-leb, leb-true, leb-false}
use Rattle.cx_meaning.specs.Instances.{State, Path, Set, merge}
use Rattle.cx_meaning.specs.Cycles.{Fault}
use Rattle.cx_meaning.specs.Answers.{Answer, End, More, both}
use Rattle.cx_meaning.specs.Answers as answers
use Rattle.cx_meaning.specs.Budgets.{Beyond, Grows}
use Rattle.cx_frames.specs.Agreeing.{Agree, Alike}
use Rattle.cx_frames.specs.Ran.{Outcome, Ended, Faulted, Unfinished, AnswersAs, limit, joined}
use Rattle.cx_frames.proofs.AlikeLemmas.{a_fault}

-- of three faults the first of the least turn, however they are joined
module _ (one two : State → State → State) where
  earlier : (f g h : Fault) (t u v : ℕ) (b : Bool) → nat_le u v ≡ b → (c : Bool) → nat_le t u ≡ c
      → both one (a_fault f t) (if b then a_fault g u else a_fault h v) ≡ both two (if c then a_fault f t else a_fault g u) (a_fault h v)
  earlier f g h t u v true d true e =
      let first : u ≤ v = leb-true u v d in
      let second : t ≤ u = leb-true t u e in
      let whole : t ≤ v = omega arith in
      ap (λ x. if x then a_fault f t else a_fault g u) e ∙ sym (ap (λ x. if x then a_fault f t else a_fault h v) (le-leb t v whole))
  earlier f g h t u v true d false e = ap (λ x. if x then a_fault f t else a_fault g u) e ∙ sym (ap (λ x. if x then a_fault g u else a_fault h v) d)
  earlier f g h t u v false d true e = refl
  earlier f g h t u v false d false e =
      let first : v < u = leb-false u v d in
      let second : u < t = leb-false t u e in
      let whole : v < t = omega arith in
      ap (λ x. if x then a_fault f t else a_fault h v) (lt-leb t v whole) ∙ sym (ap (λ x. if x then a_fault g u else a_fault h v) d)

  -- a fault beside what is no fault
  fault_end : (f g : Fault) (t u : ℕ) (a : State) (k : ℕ) → both one (a_fault f t) (a_fault g u) ≡ both two (both one (a_fault f t) (a_fault g u)) (End a k)
  fault_end f g t u a k = go (nat_le t u)
    where
      go : (b : Bool) → (if b then a_fault f t else a_fault g u) ≡ both two (if b then a_fault f t else a_fault g u) (End a k)
      go true = refl
      go false = refl

  fault_more : (f g : Fault) (t u : ℕ) → both one (a_fault f t) (a_fault g u) ≡ both two (both one (a_fault f t) (a_fault g u)) More
  fault_more f g t u = go (nat_le t u)
    where
      go : (b : Bool) → (if b then a_fault f t else a_fault g u) ≡ both two (if b then a_fault f t else a_fault g u) More
      go true = refl
      go false = refl

  end_fault : (f g : Fault) (t u : ℕ) (a : State) (k : ℕ) → both one (End a k) (both two (a_fault f t) (a_fault g u)) ≡ both two (a_fault f t) (a_fault g u)
  end_fault f g t u a k = go (nat_le t u)
    where
      go : (b : Bool) → both one (End a k) (if b then a_fault f t else a_fault g u) ≡ (if b then a_fault f t else a_fault g u)
      go true = refl
      go false = refl

  more_fault : (f g : Fault) (t u : ℕ) → both one More (both two (a_fault f t) (a_fault g u)) ≡ both two (a_fault f t) (a_fault g u)
  more_fault f g t u = go (nat_le t u)
    where
      go : (b : Bool) → both one More (if b then a_fault f t else a_fault g u) ≡ (if b then a_fault f t else a_fault g u)
      go true = refl
      go false = refl

  module _ (states : (a b c : State) → one a (two b c) ≡ two (one a b) c) where
    ends : (a b c : State) (t u v : ℕ) → ◌≡◌ {A = Answer State Fault} (End (one a (two b c)) (max t (max u v))) (End (two (one a b) c) (max (max t u) v))
    ends a b c t u v =
        let turns : max t (max u v) ≡ max (max t u) v = omega arith in
        ap (λ x. End x (max t (max u v))) (states a b c) ∙ ap (End (two (one a b) c)) turns

    pub both_apart : (x y z : Answer State Fault) → both one x (both two y z) ≡ both two (both one x y) z
    both_apart (End a t) (End b u) (End c v) = ends a b c t u v
    both_apart (End a t) (End b u) (answers.Fault h v) = refl
    both_apart (End a t) (End b u) More = refl
    both_apart (End a t) (answers.Fault g u) (End c v) = refl
    both_apart (End a t) (answers.Fault g u) (answers.Fault h v) = end_fault g h u v a t
    both_apart (End a t) (answers.Fault g u) More = refl
    both_apart (End a t) More (End c v) = refl
    both_apart (End a t) More (answers.Fault h v) = refl
    both_apart (End a t) More More = refl
    both_apart (answers.Fault f t) (End b u) (End c v) = refl
    both_apart (answers.Fault f t) (End b u) (answers.Fault h v) = refl
    both_apart (answers.Fault f t) (End b u) More = refl
    both_apart (answers.Fault f t) (answers.Fault g u) (End c v) = fault_end f g t u c v
    both_apart (answers.Fault f t) (answers.Fault g u) (answers.Fault h v) = earlier f g h t u v (nat_le u v) refl (nat_le t u) refl
    both_apart (answers.Fault f t) (answers.Fault g u) More = fault_more f g t u
    both_apart (answers.Fault f t) More (End c v) = refl
    both_apart (answers.Fault f t) More (answers.Fault h v) = refl
    both_apart (answers.Fault f t) More More = refl
    both_apart More (End b u) (End c v) = refl
    both_apart More (End b u) (answers.Fault h v) = refl
    both_apart More (End b u) More = refl
    both_apart More (answers.Fault g u) (End c v) = refl
    both_apart More (answers.Fault g u) (answers.Fault h v) = more_fault g h u v
    both_apart More (answers.Fault g u) More = refl
    both_apart More More (End c v) = refl
    both_apart More More (answers.Fault h v) = refl
    both_apart More More More = refl

-- the answers of the arms that have run, and of one more, which ran from where they left the state with their limit
module _ (set : ℕ → Type 0) (cells : Set) (driven : (c : ℕ) → cells c ≡ true → set c) (n : ℕ) (cur next : State) where
  abbrev beside : State → State → State
  beside a b = merge cells b a

  module _ (top : next [] ≡ cur []) (others : (c : ℕ) (below : Path) → cells c ≡ false → next (c ∷ below) ≡ cur (c ∷ below)) where
    merged_is : (a b x : State) → ((path : Path) → cur path ≡ a path) → ((path : Path) → next path ≡ x path) → Agree set x b → (path : Path) → next path ≡ merge cells b a path
    merged_is a b x from left agree [] = top ∙ from []
    merged_is a b x from left agree (c ∷ path) = one (cells c) refl
      where
        one : (k : Bool) → cells c ≡ k → next (c ∷ path) ≡ (if k then b (c ∷ path) else a (c ∷ path))
        one true e = left (c ∷ path) ∙ agree c path (driven c e)
        one false e = others c path e ∙ from (c ∷ path)

    -- after an end
    by_end : (a : State) (t : ℕ) (z y : Answer State Fault) (p : Outcome) → ((path : Path) → cur path ≡ a path) → AnswersAs next z p → Alike set z y → AnswersAs next (both beside (End a t) y) (joined (Ended t) p)
    by_end a t (End x u) y p from (e, left) (b, f, agree) =
        subst (λ o. AnswersAs next (both beside (End a t) y) (joined (Ended t) o)) (sym e)
        (subst (λ w. AnswersAs next (both beside (End a t) w) (Ended (max t u))) (sym f) (refl, merged_is a b x from left agree))
    by_end a t (answers.Fault g u) y p from e f =
        subst (λ o. AnswersAs next (both beside (End a t) y) (joined (Ended t) o)) (sym e) (subst (λ w. AnswersAs next (both beside (End a t) w) (Faulted g u)) (sym f) refl)
    by_end a t More y p from e f =
        subst (λ o. AnswersAs next (both beside (End a t) y) (joined (Ended t) o)) (sym e) (subst (λ w. AnswersAs next (both beside (End a t) w) Unfinished) (sym f) refl)

  -- after a run that has not ended
  by_more : (z y : Answer State Fault) (p : Outcome) → AnswersAs next z p → Alike set z y → AnswersAs next (both beside More y) (joined Unfinished p)
  by_more (End x u) y p (e, left) (b, f, agree) = subst (λ o. AnswersAs next (both beside More y) (joined Unfinished o)) (sym e) (subst (λ w. AnswersAs next (both beside More w) Unfinished) (sym f) refl)
  by_more (answers.Fault g u) y p e f = subst (λ o. AnswersAs next (both beside More y) (joined Unfinished o)) (sym e) (subst (λ w. AnswersAs next (both beside More w) (Faulted g u)) (sym f) refl)
  by_more More y p e f = subst (λ o. AnswersAs next (both beside More y) (joined Unfinished o)) (sym e) (subst (λ w. AnswersAs next (both beside More w) Unfinished) (sym f) refl)

  -- after a fault: y1 is the answer within the turns before it, and y that within the whole budget
  beyond : (f : Fault) (t : ℕ) (y : Answer State Fault) → Beyond t y → AnswersAs next (both beside (answers.Fault f t) y) (Faulted f t)
  beyond f t (End b u) h = refl
  beyond f t (answers.Fault g u) h = subst (λ k. AnswersAs next (if k then a_fault f t else a_fault g u) (Faulted f t)) (sym (le-leb t u h)) refl
  beyond f t More h = refl

  by_fault : (f : Fault) (t : ℕ) (z y1 y : Answer State Fault) (p : Outcome) → AnswersAs next z p → Alike set z y1 → Grows t y1 y → AnswersAs next (both beside (answers.Fault f t) y) (joined (Faulted f t) p)
  by_fault f t (End x u) y1 y p (e, left) (b, g, agree) grows =
      let later : Grows t (End b u) y = subst (λ w. Grows t w y) g grows in
      subst (λ o. AnswersAs next (both beside (answers.Fault f t) y) (joined (Faulted f t) o)) (sym e)
      (subst (λ w. AnswersAs next (both beside (answers.Fault f t) w) (Faulted f t)) (sym later.1) refl)
  by_fault f t (answers.Fault h u) y1 y p e g grows =
      let later : Grows t (answers.Fault h u) y = subst (λ w. Grows t w y) g grows in
      subst (λ o. AnswersAs next (both beside (answers.Fault f t) y) (joined (Faulted f t) o)) (sym e)
      (subst (λ w. AnswersAs next (both beside (answers.Fault f t) w) (Faulted h u)) (sym later.1)
      (subst (λ k. AnswersAs next (if k then a_fault f t else a_fault h u) (Faulted h u)) (sym (lt-leb t u later.0)) refl))
  by_fault f t More y1 y p e g grows =
      let later : Beyond t y = subst (λ w. Grows t w y) g grows in
      subst (λ o. AnswersAs next (both beside (answers.Fault f t) y) (joined (Faulted f t) o)) (sym e) (beyond f t y later)

  pub arm_answers : next [] ≡ cur [] → ((c : ℕ) (below : Path) → cells c ≡ false → next (c ∷ below) ≡ cur (c ∷ below))
      → (own : ℕ → Answer State Fault) → ((k : ℕ) → k ≤ n → Grows k (own k) (own n))
      → (x z : Answer State Fault) (o p : Outcome) → limit n o ≤ n → AnswersAs cur x o → AnswersAs next z p → Alike set z (own (limit n o)) → AnswersAs next (both beside x (own n)) (joined o p)
  arm_answers top others own grows (End a t) z o p within (e, from) h alike =
      subst (λ w. AnswersAs next (both beside (End a t) (own n)) (joined w p)) (sym e)
      (by_end top others a t z (own n) p from h (subst (λ w. Alike set z (own (limit n w))) e alike))
  arm_answers top others own grows (answers.Fault f t) z o p within e h alike =
      let less : t ≤ n = subst (λ w. limit n w ≤ n) e within in
      subst (λ w. AnswersAs next (both beside (answers.Fault f t) (own n)) (joined w p)) (sym e)
      (by_fault f t z (own t) (own n) p h (subst (λ w. Alike set z (own (limit n w))) e alike) (grows t less))
  arm_answers top others own grows More z o p within e h alike =
      subst (λ w. AnswersAs next (both beside More (own n)) (joined w p)) (sym e)
      (by_more z (own n) p h (subst (λ w. Alike set z (own (limit n w))) e alike))
