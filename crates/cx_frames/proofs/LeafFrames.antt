-- Turns of groups, tests and calls hang on a set of cells alone.
use Rattle.std.proofs.Common.{◌≡◌, ℕ, suc, inl, inr, Bool, true, false, ◌||◌, Option, Some, None, List, [], ◌∷◌, refl, ap, ◌∙◌, subst}
use Rattle.std.specs.Prelude.{if◌then◌else◌, nat_eq}
use Rattle.std.proofs.Math.Path.{fun_ext}
use Rattle.std.proofs.lemmas.Bool.{eqb-true, or_right}
use Rattle.cx_text.specs.Members.{In}
use Rattle.cx_meaning.specs.declared.ports.PortRef.{PortRef}
use Rattle.cx_meaning.specs.declared.ports.PortRef.TheVariants as ports
use Rattle.cx_meaning.specs.declared.kinds.GroupKind.{GroupKind}
use Rattle.cx_meaning.specs.declared.kinds.GroupKind.TheVariants as kinds
use Rattle.cx_meaning.specs.Designs.{PlainAssign, group_at, Enable}
use Rattle.cx_meaning.specs.Instances.{Instance, Cells, At, Nothing, OfRow, OfInstance, cell_at, cells_of, part_of, State, Set, merge, just, beneath, put, under, idle_at, idle}
use Rattle.cx_meaning.specs.Active.{nothing, only_at, group, capture}
use Rattle.cx_meaning.specs.Truths.{truth_of}
use Rattle.cx_meaning.specs.Sights.{Held, seen}
use Rattle.cx_meaning.specs.Cycles.{Fault, cycle}
use Rattle.cx_meaning.specs.Answers.{Answer, End, More, idle_turn}
use Rattle.cx_meaning.specs.Answers as answers
use Rattle.cx_meaning.specs.Control.{targets_cell, assigns_drive}
use Rattle.cx_meaning.specs.Islands.{turn_of, island}
use Rattle.cx_meaning.specs.Calls.{group_turn, test_of, test, if_instance, called_by, called_in, called, captures, lift_answer, inputs_of_call, after_child, call, call_or_turns, enable_kind, enable}
use Rattle.cx_meaning.specs.Running.{Children}
use Rattle.cx_rules.specs.Circles.{IsAcyclic, AcyclicBelow}
use Rattle.cx_frames.specs.Agreeing.{Agree, Alike}
use Rattle.cx_frames.proofs.AlikeLemmas.{Frames, AlikeTurn, hole_alike, then_alike, idle_frames, one_frames, turns_frames}
use Rattle.cx_frames.proofs.RuleLemmas.{IsKept}
use Rattle.cx_frames.proofs.SightFrames.{InFrame, IsThrough, IsWithin, IsAmong, seen_alike, cycle_alike}
use Rattle.cx_frames.proofs.CircleFrames.{capture_acyclic}
use Rattle.cx_text.proofs.OptionLaws.{none_some, some_is}
use Rattle.cx_meaning.proofs.InstancesLemmas.{just_same}

pub nothing_among : IsAmong nothing []
nothing_among g k e = none_some k e

-- where one group is active no other is
pub only_among : (g h k : ℕ) → only_at g h ≡ Some k → In (g ∷ []) h
only_among g h k e = go (nat_eq g h) refl e
  where
    go : (b : Bool) → nat_eq g h ≡ b → ◌≡◌ {A = Option ℕ} (if b then Some 0 else None) (Some k) → In (g ∷ []) h
    go true same e = inl (eqb-true g h same)
    go false differ e = absurd (none_some k e)

-- a cell of which a group drives a port is called by it
pub called_drives : (cells : Cells) (list : List PlainAssign) (c : ℕ) → called_in cells list ≡ Some c → assigns_drive list c ≡ true
called_drives cells [] c e = absurd (none_some c e)
called_drives cells (a ∷ rest) c e = of_target a.target e (called_drives cells rest c)
  where
    of_at : (at : At) (d : ℕ) → if_instance at d (called_in cells rest) ≡ Some c → (called_in cells rest ≡ Some c → assigns_drive rest c ≡ true) → (just d c || assigns_drive rest c) ≡ true
    of_at Nothing d e h = or_right (just d c) (assigns_drive rest c) (h e)
    of_at (OfRow row) d e h = or_right (just d c) (assigns_drive rest c) (h e)
    of_at (OfInstance child) d e h = ap (λ x. just x c || assigns_drive rest c) (some_is d c e) ∙ ap (λ b. b || assigns_drive rest c) (just_same c)

    of_target : (p : PortRef) → called_by cells p (called_in cells rest) ≡ Some c → (called_in cells rest ≡ Some c → assigns_drive rest c ≡ true) → (targets_cell p c || assigns_drive rest c) ≡ true
    of_target (ports.Cell d n) e h = of_at (cell_at cells d) d e h
    of_target (ports.Input n) e h = h e
    of_target (ports.Output n) e h = h e
    of_target (ports.Done g) e h = h e
    of_target (ports.Literal w v) e h = h e

-- merged states, and a child's state put back
pub merge_agree : (set : ℕ → Type 0) (cells : Set) (a b c d : State) → Agree set a c → Agree set b d → Agree set (merge cells a b) (merge cells c d)
merge_agree set cells a b c d h k e path inside = one (cells e)
  where
    one : (pick : Bool) → (if pick then a (e ∷ path) else b (e ∷ path)) ≡ (if pick then c (e ∷ path) else d (e ∷ path))
    one true = h e path inside
    one false = k e path inside

lift_alike : (set : ℕ → Type 0) (c : ℕ) (s t : State) (o : Answer State Fault) → Agree set s t → Alike set (lift_answer c s o) (lift_answer c t o)
lift_alike set c s t (End own k) h = (put c own t, refl, merge_agree set (just c) (beneath own) s (beneath own) t (λ e path inside. refl) h)
lift_alike set c s t (answers.Fault f k) h = refl
lift_alike set c s t More h = refl

pub idle_agree : (set : ℕ → Type 0) (i : Instance) (s t : State) → Agree set s t → Agree set (idle i s) (idle i t)
idle_agree set i s t h c path inside = ap (idle_at i (c ∷ path)) (h c path inside)

module _ (i : Instance) (held : Held) (set : ℕ → Type 0) (kept : IsKept i) (through : IsThrough (part_of i) set) (deeper : AcyclicBelow (cells_of i)) where
  -- a group that drives and names nothing outside the set, under which nothing leads in a circle
  pub record IsGood (g : ℕ) : Type 0 where
    pub within : IsWithin (part_of i) set g
    pub acyclic : IsAcyclic i (group g)

  pub alone : (g : ℕ) → IsGood g → (h : ℕ) → In (g ∷ []) h → IsWithin (part_of i) set h
  alone g good h (inl e) = subst (IsWithin (part_of i) set) e good.within
  alone g good h (inr none) = absurd none

  -- sights and cycles with a group, and with nothing
  pub group_seen : (g : ℕ) → IsGood g → (s t : State) → Agree set s t → (p : PortRef) → InFrame set p → seen i held (group g) s p ≡ seen i held (group g) t p
  group_seen g good s t agree p inside = seen_alike i held (group g) set (g ∷ []) kept through (only_among g) (alone g good) s t agree good.acyclic deeper p inside

  pub bare_seen : IsAcyclic i nothing → (s t : State) → Agree set s t → (p : PortRef) → InFrame set p → seen i held nothing s p ≡ seen i held nothing t p
  bare_seen bare s t agree p inside = seen_alike i held nothing set [] kept through nothing_among (λ g none. absurd none) s t agree bare deeper p inside

  -- a turn of a group
  pub group_alike : (g : ℕ) → IsGood g → (s t : State) → Agree set s t → AlikeTurn set (group_turn i held g s) (group_turn i held g t)
  group_alike g good s t agree =
      hole_alike set g (truth_of (seen i held (group g) s (ports.Done g))) (truth_of (seen i held (group g) t (ports.Done g))) (cycle i held (group g) s) (cycle i held (group g) t)
      (ap truth_of (group_seen g good s t agree (ports.Done g) tt))
      (cycle_alike i held (group g) set (g ∷ []) kept through (only_among g) (alone g good) s t agree good.acyclic deeper)

  pub test_alike : IsAcyclic i nothing → (port : PortRef) → InFrame set port → (with_group : Option ℕ) → ((g : ℕ) → with_group ≡ Some g → IsGood g) → (s t : State) → Agree set s t → test i held port with_group s ≡ test i held port with_group t
  test_alike bare port inside None good s t agree = ap (λ x. test_of port (truth_of x)) (bare_seen bare s t agree port inside)
  test_alike bare port inside (Some g) good s t agree = ap (λ x. test_of port (truth_of x)) (group_seen g (good g refl) s t agree port inside)

  -- a capture cycle
  pub capture_alike : (g c : ℕ) → IsGood g → (s t : State) → Agree set s t → AlikeTurn set (turn_of (cycle i held (capture g c) s)) (turn_of (cycle i held (capture g c) t))
  capture_alike g c good s t agree = cycle_alike i held (capture g c) set (g ∷ []) kept through (only_among g) (alone g good) s t agree (capture_acyclic i g c good.acyclic) deeper

  -- calls
  module _ (children : Children) (g : ℕ) (good : IsGood g) where
    after_frames : (c : ℕ) (capturing : Bool) → Frames set (after_child i held g c capturing)
    after_frames c true s t n h =
        one_frames set (idle i) (idle_agree set i) (λ s1. turn_of (cycle i held (capture g c) s1))
        (λ s1 t1 k. capture_alike g c good s1 t1 k)
        (idle_turn (idle i)) (idle_frames set (idle i) (idle_agree set i)) s t n h
    after_frames c false s t n h = idle_frames set (idle i) (idle_agree set i) s t n h

    call_frames : (c : ℕ) → set c → Frames set (call i children held g c)
    call_frames c inside s t n h =
        let inputs : inputs_of_call i held g c s ≡ inputs_of_call i held g c t = fun_ext (λ input. group_seen g good s t h (ports.Cell c (suc input)) inside) in
        let below : under c s ≡ under c t = fun_ext (λ path. h c path inside) in
        let same : children c (inputs_of_call i held g c s) (under c s) n ≡ children c (inputs_of_call i held g c t) (under c t) n =
        ap (λ x. children c x (under c s) n) inputs ∙ ap (λ x. children c (inputs_of_call i held g c t) x n) below in
        then_alike set n (lift_answer c s (children c (inputs_of_call i held g c s) (under c s) n)) (lift_answer c t (children c (inputs_of_call i held g c t) (under c t) n)) (after_child i held g c (captures i g))
        (subst (λ o. Alike set (lift_answer c s (children c (inputs_of_call i held g c s) (under c s) n)) (lift_answer c t o)) same (lift_alike set c s t (children c (inputs_of_call i held g c s) (under c s) n) h))
        (after_frames c (captures i g))

    called_frames : (o : Option ℕ) → called i g ≡ o → Frames set (call_or_turns i children held g o)
    called_frames None e s t n h = turns_frames set (idle i) (idle_agree set i) (group_turn i held g) (group_alike g good) s t n h
    called_frames (Some c) e s t n h = call_frames c (good.within.drives c (called_drives (cells_of i) (group_at (part_of i) g).assigns c e)) s t n h

    kind_frames : (kind : GroupKind) → Frames set (island i held (Enable g)) → Frames set (enable_kind i children held g kind)
    kind_frames kinds.Plain f s t n h = called_frames (called i g) refl s t n h
    kind_frames kinds.Comb f s t n h = called_frames (called i g) refl s t n h
    kind_frames (kinds.Timed length) f s t n h = f s t n h

    pub enable_frames : Frames set (island i held (Enable g)) → Frames set (enable i children held g)
    enable_frames f s t n h = kind_frames (group_at (part_of i) g).kind f s t n h
