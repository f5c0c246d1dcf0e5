-- Turns of groups, tests and calls carry, where what they look at is seen alike and their cycles carry.
use Rattle.std.proofs.Common.{◌≡◌, ℕ, Bool, true, false, Option, Some, None, refl, sym, ap, ◌∙◌, subst}
use Rattle.std.proofs.Math.Path.{fun_ext}
use Rattle.cx_meaning.specs.declared.ports.PortRef.{PortRef}
use Rattle.cx_meaning.specs.declared.ports.PortRef.TheVariants as ports
use Rattle.cx_meaning.specs.declared.sights.FaultKind.TheVariants as kinds
use Rattle.cx_meaning.specs.declared.kinds.GroupKind.{GroupKind}
use Rattle.cx_meaning.specs.declared.kinds.GroupKind.TheVariants as groups
use Rattle.cx_meaning.specs.Designs.{group_at, Enable}
use Rattle.cx_meaning.specs.Instances.{Instance, part_of, State, under, put, idle}
use Rattle.cx_meaning.specs.Active.{group, comb, capture}
use Rattle.cx_meaning.specs.Truths.{Truth, One, Zero, truth_of}
use Rattle.cx_meaning.specs.Truths as truths
use Rattle.cx_meaning.specs.Sights.{Held, seen}
use Rattle.cx_meaning.specs.Cycles.{Fault, Ended, cycle}
use Rattle.cx_meaning.specs.Answers.{Answer, End, More, Meaning, Turn, Ends, Goes, Faults, Unclear, then_do, turns_of, idle_turn}
use Rattle.cx_meaning.specs.Answers as answers
use Rattle.cx_meaning.specs.Islands.{kind_length, group_length, turn_of, island}
use Rattle.cx_meaning.specs.Calls.{hole_turn, group_turn, test_of, test, captures, fault_below, lift_answer, inputs_of_call, after_child, call, called, call_or_turns, enable_kind, enable}
use Rattle.cx_meaning.specs.Running.{Children}
use Rattle.cx_rewrites.specs.Tallies.{Tally, none, plus, at_cell, below, Counted, turns_count}
use Rattle.cx_rewrites.specs.Carrying.{Pace, TestCarried, Carried, Carries, TurnCarried}
use Rattle.cx_rewrites.specs.Turns.{IsSeenAlike, IsTold, GroupCarries, CallCarries}
use Rattle.cx_rewrites.proofs.TallyLemmas.{plus-none, one_none, then_none}
use Rattle.cx_rewrites.proofs.PaceLemmas.{if_exact, then_exact}
use Rattle.cx_rewrites.proofs.CarryLemmas.{then_carried, idle_carries, one_carries, turns_carry}

module _ (pace : Pace) (R : Tally → State → State → Type 0) (faults : Fault → Fault) (i j : Instance) (held twin_held : Held) where
  -- A TEST
  pub test_carried : (p q : PortRef) (c d : Option ℕ) → IsSeenAlike R i j held twin_held (comb c) (comb d) p q → IsTold faults p q
      → (before : Tally) (s z : State) → R before s z → TestCarried pace faults (test i held p c s) (test j twin_held q d z)
  test_carried p q c d same told before s z r =
      subst (λ x. TestCarried pace faults (test i held p c s) (test_of q (truth_of x))) (sym (same before s z r)) (one (truth_of (seen i held (comb c) s p)))
    where
      one : (t : Truth) → TestCarried pace faults (test_of p t) (test_of q t)
      one One = refl
      one Zero = refl
      one truths.Conflict = if_exact pace (test_of q truths.Conflict ≡ Unclear (faults _)) (ap Unclear (sym (told kinds.Conflict)))
      one truths.Undefined = if_exact pace (test_of q truths.Undefined ≡ Unclear (faults _)) (ap Unclear (sym (told kinds.Undefined)))

  -- A TURN OF A GROUP
  hole_carried : (g h : ℕ) (before one : Tally) (a b : Ended) (t : Truth) → IsTold faults (ports.Done g) (ports.Done h) → TurnCarried pace R faults before one (turn_of a) (turn_of b)
      → TurnCarried pace R faults before one (hole_turn g a t) (hole_turn h b t)
  hole_carried g h before one a b One told carried = refl
  hole_carried g h before one a b Zero told carried = carried
  hole_carried g h before one a b truths.Conflict told carried = if_exact pace (hole_turn h b truths.Conflict ≡ Faults (faults _)) (ap Faults (sym (told kinds.Conflict)))
  hole_carried g h before one a b truths.Undefined told carried = if_exact pace (hole_turn h b truths.Undefined ≡ Faults (faults _)) (ap Faults (sym (told kinds.Undefined)))

  pub group_turn_carried : (g h : ℕ) (one : Tally) → GroupCarries pace R faults one i j held twin_held g h
      → (before : Tally) (s z : State) → R before s z → TurnCarried pace R faults before one (group_turn i held g s) (group_turn j twin_held h z)
  group_turn_carried g h one carries before s z r =
      subst (λ x. TurnCarried pace R faults before one (group_turn i held g s) (hole_turn h (cycle j twin_held (group h) z) (truth_of x))) (sym (carries.hole before s z r))
      (hole_carried g h before one (cycle i held (group g) s) (cycle j twin_held (group h) z) (truth_of (seen i held (group g) s (ports.Done g))) carries.told (carries.cycle before s z r))

  -- A GROUP, turn after turn
  pub group_carries : (g h : ℕ) (one : Tally) → GroupCarries pace R faults one i j held twin_held g h
      → Carries pace R faults (turns_count (group_turn i held g) one) (turns_of (idle i) (group_turn i held g)) (turns_of (idle j) (group_turn j twin_held h))
  group_carries g h one carries = turns_carry pace R faults (idle i) (idle j) carries.rests (group_turn i held g) (group_turn j twin_held h) one (group_turn_carried g h one carries)

  -- A CALL
  module _ (Q : Tally → State → State → Type 0) (child_faults : Fault → Fault) (g h c e : ℕ) (carries : CallCarries pace R Q faults child_faults i j held twin_held g h c e) where
    after_carries : (capturing : Bool) → captures i g ≡ capturing → Carries pace R faults (λ s n. none) (after_child i held g c capturing) (after_child j twin_held h e capturing)
    after_carries false is before s z n m room r = idle_carries pace R faults (idle i) (idle j) carries.rests before s z n m room r
    after_carries true is before s z n m room r =
        subst (λ k. Carried pace R faults before k (after_child i held g c true s n) (after_child j twin_held h e true z m)) (one_none (λ s1. turn_of (cycle i held (capture g c) s1)) s n)
        (one_carries pace R faults (idle i) (idle j) carries.rests (λ s1. turn_of (cycle i held (capture g c) s1)) (λ z1. turn_of (cycle j twin_held (capture h e) z1)) none (carries.capture_cycle is)
        (λ s1 k. none) (idle_turn (idle i)) (idle_turn (idle j)) (idle_carries pace R faults (idle i) (idle j) carries.rests) before s z n m room r)

    -- a run of the child, as a run of the instance
    lift_carried : (before counted : Tally) (s z : State) (o x : Answer State Fault) → R before s z → Carried pace Q child_faults (at_cell c before) counted o x
        → Carried pace R faults before (below c counted) (lift_answer c s o) (lift_answer e z x)
    lift_carried before counted s z (End own t) x r (twin, u, is, keeps, q) = (put e twin z, u, ap (lift_answer e z) is, keeps, carries.ends before counted s z own twin r q)
    lift_carried before counted s z (answers.Fault f t) x r told =
        then_exact pace (x ≡ answers.Fault (child_faults f) t) (lift_answer e z x ≡ answers.Fault (faults (fault_below c f)) t)
        (λ is. ap (lift_answer e z) is ∙ ap (λ k. answers.Fault k t) (sym (carries.told f))) told
    lift_carried before counted s z More x r told = then_exact pace (x ≡ More) (lift_answer e z x ≡ More) (λ is. ap (lift_answer e z) is) told

    pub call_carries : (children others : Children) (counts : Held → Counted State) → ((own : Held) → Carries pace Q child_faults (counts own) (children c own) (others e own))
        → Carries pace R faults (λ s n. below c (counts (inputs_of_call i held g c s) (under c s) n)) (call i children held g c) (call j others twin_held h e)
    call_carries children others counts kids before s z n m room r =
        subst (λ k. Carried pace R faults before k (call i children held g c s n) (call j others twin_held h e z m))
        (ap (plus child_counts) (then_none child_run n) ∙ plus-none child_counts)
        (then_carried pace R faults before child_counts n m room child_run (lift_answer e z (others e (inputs_of_call j twin_held h e z) (under e z) m)) (λ s1 k. none)
        (after_child i held g c (captures i g)) (after_child j twin_held h e (captures j h))
        (subst (λ own. Carried pace R faults before child_counts child_run (lift_answer e z (others e own (under e z) m))) same_inputs
        (lift_carried before (counts inputs (under c s) n) s z (children c inputs (under c s) n) (others e inputs (under e z) m) r
        (kids inputs (at_cell c before) (under c s) (under e z) n m room (carries.begins before s z r))))
        (subst (λ b. Carries pace R faults (λ s1 k. none) (after_child i held g c (captures i g)) (after_child j twin_held h e b)) (sym carries.captured) (after_carries (captures i g) refl)))
      where
        inputs : Held
        inputs = inputs_of_call i held g c s

        child_counts : Tally
        child_counts = below c (counts inputs (under c s) n)

        child_run : Answer State Fault
        child_run = lift_answer c s (children c inputs (under c s) n)

        same_inputs : inputs ≡ inputs_of_call j twin_held h e z
        same_inputs = fun_ext (λ input. sym (carries.inputs input before s z r))

-- THE ENABLE OF A GROUP is its turns, a call, or an island
kinds_of_enable : (i : Instance) (kids : Children) (held : Held) (g : ℕ) (kind : GroupKind) → kind_length kind ≡ None → (s : State) (n : ℕ) → enable_kind i kids held g kind s n ≡ call_or_turns i kids held g (called i g) s n
kinds_of_enable i kids held g groups.Plain none s n = refl
kinds_of_enable i kids held g groups.Comb none s n = refl
kinds_of_enable i kids held g (groups.Timed k) none s n = absurd (cc)

pub enable-turns : (i : Instance) (kids : Children) (held : Held) (g : ℕ) → group_length (part_of i) g ≡ None → called i g ≡ None → (s : State) (n : ℕ) → enable i kids held g s n ≡ turns_of (idle i) (group_turn i held g) s n
enable-turns i kids held g none calls s n = kinds_of_enable i kids held g (group_at (part_of i) g).kind none s n ∙ ap (λ c. call_or_turns i kids held g c s n) calls

pub enable-call : (i : Instance) (kids : Children) (held : Held) (g c : ℕ) → group_length (part_of i) g ≡ None → called i g ≡ Some c → (s : State) (n : ℕ) → enable i kids held g s n ≡ call i kids held g c s n
enable-call i kids held g c none calls s n = kinds_of_enable i kids held g (group_at (part_of i) g).kind none s n ∙ ap (λ x. call_or_turns i kids held g x s n) calls

pub enable-island : (i : Instance) (kids : Children) (held : Held) (g k : ℕ) → group_length (part_of i) g ≡ Some k → (s : State) (n : ℕ) → enable i kids held g s n ≡ island i held (Enable g) s n
enable-island i kids held g k some s n = by (group_at (part_of i) g).kind some
  where
    by : (kind : GroupKind) → kind_length kind ≡ Some k → enable_kind i kids held g kind s n ≡ island i held (Enable g) s n
    by groups.Plain e = absurd (cc)
    by groups.Comb e = absurd (cc)
    by (groups.Timed m) e = refl

-- meanings that are equal carry what is carried
pub equals_carry : (pace : Pace) (R : Tally → State → State → Type 0) (faults : Fault → Fault) (counts : Counted State) (go first on second : Meaning State Fault)
    → ((s : State) (n : ℕ) → first s n ≡ go s n) → ((s : State) (n : ℕ) → second s n ≡ on s n) → Carries pace R faults counts go on → Carries pace R faults counts first second
equals_carry pace R faults counts go first on second e h carries before s z n m room r =
    subst (λ o. Carried pace R faults before (counts s n) o (second z m)) (sym (e s n)) (subst (λ x. Carried pace R faults before (counts s n) (go s n) x) (sym (h z m)) (carries before s z n m room r))
