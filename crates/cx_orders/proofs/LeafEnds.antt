-- Where the run of a leaf ends, its turns end.
use Rattle.std.proofs.Common.{◌≡◌, ℕ, zero, suc, ◌+◌, ◌-◌, Bool, true, false, [], Option, Some, None, refl, sym, ap, ◌∙◌, subst, arith}
use Rattle.cx_meaning.specs.Designs.{PlainForm}
use Rattle.cx_meaning.specs.Instances.{Instance, part_of, State, idle, IsSettled}
use Rattle.cx_meaning.specs.Sights.{Held, seen}
use Rattle.cx_meaning.specs.Active.{nothing, capture}
use Rattle.cx_meaning.specs.Cycles.{Fault, cycle_of}
use Rattle.cx_meaning.specs.Cycles as cycles
use Rattle.cx_meaning.specs.Answers.{Answer, End, More, Meaning, Turn, after_turns, then_do, idle_turn, turn_then, turns_of}
use Rattle.cx_meaning.specs.Answers as answers
use Rattle.cx_meaning.specs.Control.{form_drives, group_drives}
use Rattle.cx_meaning.specs.Islands.{History, and_now, form_flat, island_from, turn_of, unless_unclear}
use Rattle.cx_meaning.specs.Calls.{after_child, group_turn}
use Rattle.cx_frames.proofs.IslandFrames.{AllFine}
use Rattle.cx_frames.proofs.RunLemmas.{capture_undriven}
use Rattle.cx_orders.specs.Open.{Idling, InGroup, InIsland, Closing}
use Rattle.cx_orders.specs.Leaves.{rested, own_turn, own_island, is_tested, samples_now}
use Rattle.cx_orders.specs.Steps.{turned, behind_child}
use Rattle.cx_orders.proofs.OwnTurns.{TurnsIn, turn_only, capture_only, island_only}
use Rattle.cx_orders.proofs.Orders.{Goes, EndsIn}
use Rattle.cx_orders.proofs.LeafRuns.{IsLawful, Busy, busy_settled, busy_still, rested_idle, idle_same, own_is, Same, same_now, island_is}
use Rattle.cx_orders.proofs.Joining.{SomeEnd}

-- AN END, and what ended before it
pub state_of : (a final : State) (t u : ℕ) → ◌≡◌ {A = Answer State Fault} (End a t) (End final u) → a ≡ final
state_of a final t u e = cc

pub no_end : (final : State) (u : ℕ) → ◌≡◌ {A = Answer State Fault} More (End final u) → ⊥
no_end final u e = cc

pub no_fault_ends : (f : Fault) (t : ℕ) (final : State) (u : ℕ) → ◌≡◌ {A = Answer State Fault} (answers.Fault f t) (End final u) → ⊥
no_fault_ends f t final u e = cc

abbrev pub EndsAt : Answer State Fault → State → Type 0
EndsAt x final = (t : ℕ) × (x ≡ End final t)

pub earlier : (k : ℕ) (x : Answer State Fault) (final : State) (t : ℕ) → after_turns k x ≡ End final t → EndsAt x final
earlier k (End a u) final t e = (u, ap (λ s. End s u) (state_of a final (k + u) t e))
earlier k (answers.Fault f u) final t e = absurd (no_fault_ends f (k + u) final t e)
earlier k More final t e = absurd (no_end final t e)

-- one run and then another
pub record Parts (x : Answer State Fault) (n : ℕ) (go : Meaning State Fault) (final : State) : Type 0 where
  pub middle : State
  pub turns : ℕ
  pub first : x ≡ End middle turns
  pub then_ends : EndsAt (go middle (n - turns)) final

pub parts_end : (x : Answer State Fault) (n : ℕ) (go : Meaning State Fault) (final : State) (t : ℕ) → then_do x n go ≡ End final t → Parts x n go final
parts_end (End a u) n go final t e = record { middle = a; turns = u; first = refl; then_ends = earlier u (go a (n - u)) final t e }
parts_end (answers.Fault f u) n go final t e = absurd (no_fault_ends f u final t e)
parts_end More n go final t e = absurd (no_end final t e)

-- LEAVES
module _ (i : Instance) (law : IsLawful i) (held : Held) (final : State) where
  -- an idle turn of the driven cells, and the end
  last_idle : (driven : ℕ → Bool) (s : State) (n t : ℕ) → Busy i driven s → idle_turn {F = Fault} (idle i) s n ≡ End final t → rested i driven s ≡ final
  last_idle driven s zero t busy e = absurd (no_end final t e)
  last_idle driven s (suc n) t busy e = rested_idle i driven s busy ∙ state_of (idle i s) final 1 t e

  pub idling_ends : (s : State) (n t : ℕ) → IsSettled i s → idle_turn {F = Fault} (idle i) s n ≡ End final t → SomeEnd i held final (Some Idling) s
  idling_ends s zero t settled e = absurd (no_end final t e)
  idling_ends s (suc n) t settled e = (1, (0, omega arith, sym (idle_same i s settled) ∙ state_of (idle i s) final 1 t e))

  pub closing_ends : (g : ℕ) (s : State) (n t : ℕ) → Busy i (group_drives (part_of i) g) s → idle_turn {F = Fault} (idle i) s n ≡ End final t → SomeEnd i held final (Some (Closing g)) s
  closing_ends g s n t busy e = (1, (0, omega arith, last_idle (group_drives (part_of i) g) s n t busy e))

  -- GROUPS
  group_turned : (g n t : ℕ) (s : State) (x : Turn State Fault) → Busy i (group_drives (part_of i) g) s → TurnsIn (group_drives (part_of i) g) s x
      → turn_then (idle i) s x (λ after. turns_of (idle i) (group_turn i held g) after n) ≡ End final t
      → ((after : State) (u : ℕ) → Busy i (group_drives (part_of i) g) after → turns_of (idle i) (group_turn i held g) after n ≡ End final u → SomeEnd i held final (Some (InGroup g)) after)
      → (m : ℕ) × Goes (turned x (rested i (group_drives (part_of i) g) s) (InGroup g)) (EndsIn i held final m)
  group_turned g n t s answers.Ends busy only e again = (0, rested_idle i (group_drives (part_of i) g) s busy ∙ state_of (idle i s) final 1 t e)
  group_turned g n t s (answers.Goes after) busy only e again =
      let r = earlier 1 (turns_of (idle i) (group_turn i held g) after n) final t e in
      again after r.0 (busy_still i (group_drives (part_of i) g) s after only busy) r.1
  group_turned g n t s (answers.Faults f) busy only e again = absurd (no_fault_ends f 0 final t e)

  pub group_ends : (g n t : ℕ) (s : State) → Busy i (group_drives (part_of i) g) s → turns_of (idle i) (group_turn i held g) s n ≡ End final t → SomeEnd i held final (Some (InGroup g)) s
  group_ends g zero t s busy e = absurd (no_end final t e)
  group_ends g (suc n) t s busy e =
      let r = group_turned g n t s (own_turn i held g s) busy (turn_only i held g s)
      (subst (λ x. turn_then (idle i) s x (λ after. turns_of (idle i) (group_turn i held g) after n) ≡ End final t) (sym (own_is i law held final g s busy)) e)
      (λ after u b f. group_ends g n u after b f) in
      (suc r.0, (0, omega arith, r.1))

  -- what comes behind the child of a call
  captured : (g c n t : ℕ) (s : State) (x : cycles.Ended) → Busy i (group_drives (part_of i) g) s → TurnsIn (group_drives (part_of i) g) s (turn_of x)
      → turn_then (idle i) s (turn_of x) (λ after. idle_turn (idle i) after n) ≡ End final t → (m : ℕ) × Goes (turned (turn_of x) s (Closing g)) (EndsIn i held final m)
  captured g c n t s (cycles.Goes after) busy only e =
      let r = earlier 1 (idle_turn (idle i) after n) final t e in
      closing_ends g after n r.0 (busy_still i (group_drives (part_of i) g) s after only busy) r.1
  captured g c n t s (cycles.Faults f) busy only e = absurd (no_fault_ends f 0 final t e)

  pub behind_ends : (g c n t : ℕ) (capturing : Bool) (s : State) → IsSettled i s → after_child i held g c capturing s n ≡ End final t → SomeEnd i held final (Some (behind_child capturing g c)) s
  behind_ends g c n t false s settled e = closing_ends g s n t (busy_settled i (group_drives (part_of i) g) s settled) e
  behind_ends g c zero t true s settled e = absurd (no_end final t e)
  behind_ends g c (suc n) t true s settled e =
      let busy : Busy i (group_drives (part_of i) g) s = busy_settled i (group_drives (part_of i) g) s settled in
      let r = captured g c n t s (cycle_of i held (capture g c) (group_drives (part_of i) g) s) busy (capture_only i held g c s)
      (subst (λ x. turn_then (idle i) s (turn_of x) (λ after. idle_turn (idle i) after n) ≡ End final t)
      (sym (law.suffices held (capture g c) (group_drives (part_of i) g) s (λ d off. capture_undriven (part_of i) g c d off) busy)) e) in
      (suc r.0, (0, omega arith, r.1))

  -- ISLANDS, by histories that are the same for the ports of their static ifs
  module _ (form : PlainForm) (fine : AllFine (λ g. Unit {0}) (λ port. is_tested form port ≡ true) (form_flat (part_of i) form 0 [])) where
    cycled : (n u t left : ℕ) (h k : History) (s : State) (x : Turn State Fault) → TurnsIn (form_drives (part_of i) form) s x → Busy i (form_drives (part_of i) form) s → (x ≡ answers.Ends → ⊥)
        → turn_then (idle i) s x (λ after. island_from i held (form_flat (part_of i) form 0 []) left (suc t) k after n) ≡ End final u
        → ((after : State) (v : ℕ) → Busy i (form_drives (part_of i) form) after → island_from i held (form_flat (part_of i) form 0 []) left (suc t) k after n ≡ End final v → SomeEnd i held final (Some (InIsland form (suc t) left h)) after)
        → (m : ℕ) × Goes (turned x s (InIsland form (suc t) left h)) (EndsIn i held final m)
    cycled n u t left h k s answers.Ends only busy goes_on e again = absurd (goes_on refl)
    cycled n u t left h k s (answers.Goes after) only busy goes_on e again =
        let r = earlier 1 (island_from i held (form_flat (part_of i) form 0 []) left (suc t) k after n) final u e in
        again after r.0 (busy_still i (form_drives (part_of i) form) s after only busy) r.1
    cycled n u t left h k s (answers.Faults f) only busy goes_on e again = absurd (no_fault_ends f 0 final u e)

    never_ends : (o : Option Fault) (x : cycles.Ended) → unless_unclear o x ≡ answers.Ends → ⊥
    never_ends (Some f) x e = cc
    never_ends None (cycles.Goes after) e = cc
    never_ends None (cycles.Faults f) e = cc

    pub island_ends : (left t n u : ℕ) (h k : History) (s : State) → Same i law held final form fine h k → Busy i (form_drives (part_of i) form) s → island_from i held (form_flat (part_of i) form 0 []) left t k s n ≡ End final u
        → SomeEnd i held final (Some (InIsland form t left h)) s
    island_ends zero t n u h k s same busy e = (1, (0, omega arith, last_idle (form_drives (part_of i) form) s n u busy e))
    island_ends (suc left) t zero u h k s same busy e = absurd (no_end final u e)
    island_ends (suc left) t (suc n) u h k s same busy e =
        let r = cycled n u t left (samples_now i held form h t s) (and_now k t (seen i held nothing s)) s (own_island i held form t (samples_now i held form h t s) s)
        (island_only i held form t (samples_now i held form h t s) s) busy (never_ends _ _)
        (subst (λ x. turn_then (idle i) s x (λ after. island_from i held (form_flat (part_of i) form 0 []) left (suc t) (and_now k t (seen i held nothing s)) after n) ≡ End final u)
        (sym (island_is i law held final form fine (samples_now i held form h t s) (and_now k t (seen i held nothing s)) t s (same_now i law held final form fine h k t s same) busy)) e)
        (λ after v b f. island_ends left (suc t) n v (samples_now i held form h t s) (and_now k t (seen i held nothing s)) after (same_now i law held final form fine h k t s same) b f) in
        (suc r.0, (0, omega arith, r.1))
