-- Where one order of the leaves ends, every order ends in the same state after as many turns.
use Rattle.std.proofs.Common.{◌≡◌, ℕ, zero, suc, ◌+◌, ◌<◌, ◌≤◌, Bool, true, false, nat_eq, List, [], ◌∷◌, Option, Some, None, refl, sym, ap, ◌∙◌, subst, arith}
use Rattle.std.proofs.Common.{⊎_elim}
use Rattle.std.proofs.lemmas.Bool.{eqb-true, eqb-false, cases_lt}
use Rattle.std.proofs.lemmas.Nat.{mod_below}
use Rattle.cx_meaning.specs.Designs.{PlainStatement}
use Rattle.cx_meaning.specs.Instances.{Instance, part_of, State, instance_at}
use Rattle.cx_meaning.specs.Sights.{Held}
use Rattle.cx_meaning.specs.Cycles.{Fault}
use Rattle.cx_orders.specs.Open.{Open, Idling, InGroup, Choosing, Testing, InIsland, Capturing, Closing, Waiting, InSeq, InPar, InLoop, InRepeat, InCall, Opens, no_arms, an_arm, leaves_of, leaves_of_all}
use Rattle.cx_orders.specs.Steps.{Stepped, Now, Stops, step}
use Rattle.cx_orders.specs.Woven.{Woven, Ends, Faults, More, Choices, leaf_of, then_weave, weave_from}
use Rattle.cx_orders.proofs.Inside.{Stands}
use Rattle.cx_orders.proofs.Fits.{Fits, ArmsFit, AllSound}
use Rattle.cx_orders.proofs.StepFits.{LeftFits, StepFits, step_fits}
use Rattle.cx_orders.proofs.Joins.{Joins, joins}
use Rattle.cx_text.proofs.NumberLaws.{no_less}

abbrev pub Goes : Stepped (Option Open) → (Option Open → State → Type 0) → Type 0
Goes (Now left after) P = P left after
Goes (Stops fault) P = ⊥

-- so many turns of any leaves end in this state
abbrev pub EndsIn : Instance → Held → State → ℕ → Option Open → State → Type 0
EndsIn i held final zero None s = s ≡ final
EndsIn i held final zero (Some o) s = ⊥
EndsIn i held final (suc m) None s = ⊥
EndsIn i held final (suc m) (Some o) s = (k : ℕ) × (k < leaves_of o) × Goes (step i held o k s) (EndsIn i held final m)

module _ (i : Instance) (held : Held) (st : PlainStatement) (final : State) where
  -- behind the turn of one leaf it ends; then behind that of another
  crossed_none : (x y : Stepped (Option Open)) → Joins i held x y → Goes x (EndsIn i held final zero) → Goes y (EndsIn i held final zero)
  crossed_none (Now None a) y h e = absurd h
  crossed_none (Now (Some o) a) y h e = absurd e
  crossed_none (Stops f) y h e = absurd e

  crossed_some : (m : ℕ) → ((o : Open) → Fits i st o → (a : State) (k : ℕ) → k < leaves_of o → Goes (step i held o k a) (EndsIn i held final m) → (l : ℕ) → l < leaves_of o → Goes (step i held o l a) (EndsIn i held final m))
      → (x y : Stepped (Option Open)) → Joins i held x y → StepFits i st x → Goes x (EndsIn i held final (suc m)) → Goes y (EndsIn i held final (suc m))
  crossed_some m again (Now None a) y h fits e = absurd h
  crossed_some m again (Now (Some o) a) (Now None b) h fits e = absurd h
  crossed_some m again (Now (Some o) a) (Now (Some p) b) h fits (k, less, e) =
      (h.k, h.k_within, subst (λ x. Goes x (EndsIn i held final m)) (sym h.second) (subst (λ x. Goes x (EndsIn i held final m)) h.first (again o fits a k less e h.l h.l_within)))
  crossed_some m again (Now (Some o) a) (Stops f) h fits (k, less, e) = subst (λ x. Goes x (EndsIn i held final m)) h.halts (again o fits a k less e h.l h.l_within)
  crossed_some m again (Stops f) y h fits e = absurd e

module _ (i : Instance) (all : AllSound i) (held : Held) (st : PlainStatement) (stands : Stands i st) (final : State) where
  same_leaf : (m k l : ℕ) (o : Open) (s : State) → (b : Bool) → nat_eq k l ≡ b → (nat_eq k l ≡ false → Goes (step i held o l s) (EndsIn i held final m)) → Goes (step i held o k s) (EndsIn i held final m) → Goes (step i held o l s) (EndsIn i held final m)
  same_leaf m k l o s true same other e = subst (λ n. Goes (step i held o n s) (EndsIn i held final m)) (eqb-true k l same) e
  same_leaf m k l o s false differ other e = other differ

  -- it ends behind the turn of any leaf
  pub any_leaf : (m : ℕ) (o : Open) → Fits i st o → (s : State) (k : ℕ) → k < leaves_of o → Goes (step i held o k s) (EndsIn i held final m) → (l : ℕ) → l < leaves_of o → Goes (step i held o l s) (EndsIn i held final m)
  any_leaf zero o fits s k less e l below =
      same_leaf zero k l o s (nat_eq k l) refl
      (λ differ. crossed_none i held st final (step i held o k s) (step i held o l s) (joins i all held st stands o fits k l less below (eqb-false k l differ) s) e) e
  any_leaf (suc m) o fits s k less e l below =
      same_leaf (suc m) k l o s (nat_eq k l) refl
      (λ differ. crossed_some i held st final m (λ p more a n u f j w. any_leaf m p more a n u f j w) (step i held o k s) (step i held o l s)
      (joins i all held st stands o fits k l less below (eqb-false k l differ) s) (step_fits i all held st stands o fits k s) e) e

-- a statement that is open has a leaf
mutual
  pub leaves_some : (i : Instance) (st : PlainStatement) (o : Open) → Fits i st o → 0 < leaves_of o
  leaves_some i st Idling fits = omega arith
  leaves_some i st (InGroup g) fits = omega arith
  leaves_some i st (Choosing port comb a b) fits = omega arith
  leaves_some i st (Testing port comb body) fits = omega arith
  leaves_some i st (InIsland form t left h) fits = omega arith
  leaves_some i st (Capturing g c) fits = omega arith
  leaves_some i st (Closing g) fits = omega arith
  leaves_some i st Waiting fits = omega arith
  leaves_some i st (InSeq first later) (fits, rest) = leaves_some i st first fits
  leaves_some i st (InPar arms) (x, xs, fits) = arms_some i st x xs arms fits
  leaves_some i st (InLoop run port comb body) (fits, tested_so, inside) = leaves_some i st run fits
  leaves_some i st (InRepeat run left body) (fits, rest) = leaves_some i st run fits
  leaves_some i st (InCall g c inputs child) (j, on, fits) = leaves_some (instance_at i (c ∷ [])) (part_of (instance_at i (c ∷ []))).control child fits

  arms_some : (i : Instance) (st x : PlainStatement) (xs : List PlainStatement) (arms : Opens) → ArmsFit i st (x ∷ xs) arms → 0 < leaves_of_all arms
  arms_some i st x xs no_arms fits = absurd fits
  arms_some i st x xs (an_arm v arm arms) (is, one, apart, rest) = let h : 0 < leaves_of arm = leaves_some i x arm one in omega arith

none_more : (m : ℕ) → suc m ≤ 0 → ⊥
none_more m h = absurd (omega arith)

module _ (i : Instance) (all : AllSound i) (held : Held) (st : PlainStatement) (stands : Stands i st) (final : State) (choice : Choices) where
  abbrev pub EndsSo : ℕ → Woven → Type 0
  EndsSo made w = (total : ℕ) × (w ≡ Ends final made total)

  then_ends : (m made made2 : ℕ) (x : Stepped (Option Open)) (go : Option Open → State → Woven) → StepFits i st x → Goes x (EndsIn i held final m)
      → ((now : Option Open) → LeftFits i st now → (s : State) → EndsIn i held final m now s → EndsSo made2 (go now s)) → EndsSo made2 (then_weave made x go)
  then_ends m made made2 (Now left after) go fits e h = h left fits after e
  then_ends m made made2 (Stops f) go fits e h = absurd e

  then_more : (m made : ℕ) (x : Stepped (Option Open)) (go : Option Open → State → Woven) → StepFits i st x → Goes x (EndsIn i held final m)
      → ((now : Option Open) → LeftFits i st now → (s : State) → EndsIn i held final m now s → go now s ≡ More) → then_weave made x go ≡ More
  then_more m made (Now left after) go fits e h = h left fits after e
  then_more m made (Stops f) go fits e h = absurd e

  -- with as many choices or more it ends
  pub ends_so : (m : ℕ) (now : Option Open) → LeftFits i st now → (s : State) → EndsIn i held final m now s → (left made sum : ℕ) → m ≤ left → EndsSo (made + m) (weave_from i held choice left made sum now s)
  ends_so zero None fits s e left made sum less = let none : made ≡ made + 0 = omega arith in (sum, ap (λ x. Ends x made sum) e ∙ ap (λ n. Ends final n sum) none)
  ends_so zero (Some o) fits s e left made sum less = absurd e
  ends_so (suc m) None fits s e left made sum less = absurd e
  ends_so (suc m) (Some o) fits s (k, below, e) zero made sum less = absurd (none_more m less)
  ends_so (suc m) (Some o) fits s (k, below, e) (suc left) made sum less =
      let some : 0 < leaves_of o = omega arith in
      let within : leaf_of (choice made) o < leaves_of o = mod_below (choice made) (leaves_of o) some in
      let turns : suc made + m ≡ made + suc m = omega arith in
      then_ends m made (made + suc m) (step i held o (leaf_of (choice made) o) s) (weave_from i held choice left (suc made) (sum + leaf_of (choice made) o))
      (step_fits i all held st stands o fits (leaf_of (choice made) o) s)
      (any_leaf i all held st stands final m o fits s k below e (leaf_of (choice made) o) within)
      (λ now h t f. subst (λ n. EndsSo n (weave_from i held choice left (suc made) (sum + leaf_of (choice made) o) now t)) turns
      (ends_so m now h t f left (suc made) (sum + leaf_of (choice made) o) (let few : m ≤ left = omega arith in few)))

  -- with fewer it does not
  pub more_so : (m : ℕ) (now : Option Open) → LeftFits i st now → (s : State) → EndsIn i held final m now s → (left made sum : ℕ) → left < m → weave_from i held choice left made sum now s ≡ More
  more_so zero now fits s e left made sum less = absurd (no_less left less)
  more_so (suc m) None fits s e left made sum less = absurd e
  more_so (suc m) (Some o) fits s e zero made sum less = refl
  more_so (suc m) (Some o) fits s (k, below, e) (suc left) made sum less =
      let some : 0 < leaves_of o = omega arith in
      let within : leaf_of (choice made) o < leaves_of o = mod_below (choice made) (leaves_of o) some in
      then_more m made (step i held o (leaf_of (choice made) o) s) (weave_from i held choice left (suc made) (sum + leaf_of (choice made) o))
      (step_fits i all held st stands o fits (leaf_of (choice made) o) s)
      (any_leaf i all held st stands final m o fits s k below e (leaf_of (choice made) o) within)
      (λ now h t f. more_so m now h t f left (suc made) (sum + leaf_of (choice made) o) (let few : left < m = omega arith in few))

  -- a woven run that ends is one of so many turns
  pub record Ended (made total : ℕ) (goal : ℕ → Type 0) : Type 0 where
    pub turns : ℕ
    pub count : total ≡ made + turns
    pub ends : goal turns

  same_end : (s : State) (made sum total numbers : ℕ) → Ends s made sum ≡ Ends final total numbers → s ≡ final
  same_end s made sum total numbers e = cc

  same_count : (s : State) (made sum total numbers : ℕ) → Ends s made sum ≡ Ends final total numbers → made ≡ total
  same_count s made sum total numbers e = cc

  no_more : (total numbers : ℕ) → More ≡ Ends final total numbers → ⊥
  no_more total numbers e = cc

  no_fault : (f : Fault) (made total numbers : ℕ) → Faults f made ≡ Ends final total numbers → ⊥
  no_fault f made total numbers e = cc

  then_ended : (made total numbers : ℕ) (x : Stepped (Option Open)) (go : Option Open → State → Woven) → StepFits i st x → then_weave made x go ≡ Ends final total numbers
      → ((now : Option Open) → LeftFits i st now → (s : State) → go now s ≡ Ends final total numbers → Ended (suc made) total (λ m. EndsIn i held final m now s))
      → Ended (suc made) total (λ m. Goes x (EndsIn i held final m))
  then_ended made total numbers (Now left after) go fits e h = h left fits after e
  then_ended made total numbers (Stops f) go fits e h = absurd (no_fault f made total numbers e)

  pub ended_so : (left made sum total numbers : ℕ) (now : Option Open) → LeftFits i st now → (s : State) → weave_from i held choice left made sum now s ≡ Ends final total numbers → Ended made total (λ m. EndsIn i held final m now s)
  ended_so left made sum total numbers None fits s e =
      let same : made ≡ total = same_count s made sum total numbers e in
      record { turns = 0; count = (let h : total ≡ made + 0 = omega arith in h); ends = same_end s made sum total numbers e }
  ended_so zero made sum total numbers (Some o) fits s e = absurd (no_more total numbers e)
  ended_so (suc left) made sum total numbers (Some o) fits s e =
      let later = then_ended made total numbers (step i held o (leaf_of (choice made) o) s) (weave_from i held choice left (suc made) (sum + leaf_of (choice made) o))
      (step_fits i all held st stands o fits (leaf_of (choice made) o) s) e
      (λ now h t f. ended_so left (suc made) (sum + leaf_of (choice made) o) total numbers now h t f) in
      let count : total ≡ suc made + later.turns = later.count in
      record {
        turns = suc later.turns;
        count = (let h : total ≡ made + suc later.turns = omega arith in h);
        ends = (leaf_of (choice made) o, mod_below (choice made) (leaves_of o) (leaves_some i st o fits), later.ends);
      }

-- TWO ORDERS
module _ (i : Instance) (all : AllSound i) (held : Held) (st : PlainStatement) (stands : Stands i st) (now : Option Open) (fits : LeftFits i st now) (s final : State) (one other : Choices) (n m made sum : ℕ)
    (e : weave_from i held one n 0 0 now s ≡ Ends final made sum) where
  ran : Ended i all held st stands final one 0 made (λ k. EndsIn i held final k now s)
  ran = ended_so i all held st stands final one n 0 0 made sum now fits s e

  turns_are : ran.turns ≡ made
  turns_are = let h : made ≡ 0 + ran.turns = ran.count in omega arith

  pub orders_end : made ≤ m → (total : ℕ) × (weave_from i held other m 0 0 now s ≡ Ends final made total)
  orders_end less =
      let same : 0 + ran.turns ≡ made = (let h : made ≡ 0 + ran.turns = ran.count in omega arith) in
      let few : ran.turns ≤ m = (let h : ran.turns ≡ made = turns_are in omega arith) in
      subst (λ k. (total : ℕ) × (weave_from i held other m 0 0 now s ≡ Ends final k total)) same
      (ends_so i all held st stands final other ran.turns now fits s ran.ends m 0 0 few)

  pub orders_go_on : m < made → weave_from i held other m 0 0 now s ≡ More
  orders_go_on less =
      let few : m < ran.turns = (let h : ran.turns ≡ made = turns_are in omega arith) in
      more_so i all held st stands final other ran.turns now fits s ran.ends m 0 0 few

-- so none faults
pub none_faults : (i : Instance) (all : AllSound i) (held : Held) (st : PlainStatement) (stands : Stands i st) (now : Option Open) (fits : LeftFits i st now) (s final : State) (one other : Choices) (n m made sum : ℕ)
    → weave_from i held one n 0 0 now s ≡ Ends final made sum → (f : Fault) (before : ℕ) → weave_from i held other m 0 0 now s ≡ Faults f before → ⊥
none_faults i all held st stands now fits s final one other n m made sum e f before g =
    ⊎_elim
    (λ less. no_end (let r = orders_go_on i all held st stands now fits s final one other n m made sum e less in sym r ∙ g))
    (λ less. let r = orders_end i all held st stands now fits s final one other n m made sum e less in no_stop r.0 (sym r.1 ∙ g))
    (cases_lt m made)
  where
    no_end : More ≡ Faults f before → ⊥
    no_end h = cc

    no_stop : (total : ℕ) → Ends final made total ≡ Faults f before → ⊥
    no_stop total h = cc
