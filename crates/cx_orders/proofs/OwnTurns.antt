-- Turns of one leaf change no cell that it does not drive, and hang on a set of cells alone.
use Rattle.std.proofs.Common.{◌≡◌, ℕ, inl, inr, Bool, true, false, ◌&&◌, nat_eq, if◌then◌else◌, List, [], ◌∷◌, map, Option, Some, None, refl, ap, ◌∙◌, subst}
use Rattle.std.proofs.Math.Path.{fun_ext}
use Rattle.std.proofs.lemmas.Bool.{both_ways}
use Rattle.cx_text.specs.Members.{In}
use Rattle.cx_prim.specs.Rows.{Row}
use Rattle.cx_meaning.specs.declared.ports.PortRef.{PortRef}
use Rattle.cx_meaning.specs.declared.ports.PortRef.TheVariants as ports
use Rattle.cx_meaning.specs.Designs.{PlainForm}
use Rattle.cx_meaning.specs.Instances.{Instance, Cells, cell_count, cells_of, part_of, Path, State, Set, merge, idle}
use Rattle.cx_meaning.specs.Active.{Active, nothing, group, capture, entries}
use Rattle.cx_meaning.specs.Truths.{Truth, One, Zero, truth_of}
use Rattle.cx_meaning.specs.Truths as truths
use Rattle.cx_meaning.specs.Sights.{Look, Held, seen, gather}
use Rattle.cx_meaning.specs.Cycles.{Fault, Ended, enables, after_enabling, cell_outcome, outcome_of, first_fault, state_after, unless_fault, cycle_of}
use Rattle.cx_meaning.proofs.CycleLemmas.{unlisted_stays}
use Rattle.cx_meaning.specs.Answers.{Turn}
use Rattle.cx_meaning.specs.Answers as answers
use Rattle.cx_meaning.specs.Control.{form_drives, group_drives}
use Rattle.cx_meaning.specs.Islands.{Occurrence, History, form_flat, looked_at, first_unclear, active_in, is_one, turn_of, unless_unclear}
use Rattle.cx_meaning.specs.Calls.{hole_turn}
use Rattle.cx_rules.specs.Circles.{IsAcyclic, AcyclicBelow}
use Rattle.cx_frames.specs.Agreeing.{Agree}
use Rattle.cx_frames.proofs.AlikeLemmas.{AlikeTurn, hole_alike, unclear_alike}
use Rattle.cx_frames.proofs.CircleFrames.{capture_acyclic}
use Rattle.cx_frames.proofs.RuleLemmas.{IsKept}
use Rattle.cx_frames.proofs.SightFrames.{InFrame, IsThrough, IsWithin, IsAmong, seen_alike, ends_alike}
use Rattle.cx_frames.proofs.LeafFrames.{merge_agree, idle_agree, IsGood, bare_seen, only_among}
use Rattle.cx_frames.proofs.IslandFrames.{AllFine, active_good, looked_good, unclear_same}
use Rattle.cx_orders.specs.Leaves.{rested, own_turn, own_capture, sampled_now, own_cycle, own_island}
use Rattle.cx_frames.proofs.SharedLemmas.{entries_among}

-- only cells of the set, and what is below them, differ
pub record OnlyIn (driven : Set) (s after : State) : Type 0 where
  pub top : after [] ≡ s []
  pub others : (c : ℕ) (below : Path) → driven c ≡ false → after (c ∷ below) ≡ s (c ∷ below)

abbrev pub TurnsIn : Set → State → Turn State Fault → Type 0
TurnsIn driven s answers.Ends = Unit {0}
TurnsIn driven s (answers.Goes after) = OnlyIn driven s after
TurnsIn driven s (answers.Faults fault) = Unit {0}

pub only_same : (driven : Set) (s : State) → OnlyIn driven s s
only_same driven s = record { top = refl; others = λ c below e. refl }

pub merge_only : (driven : Set) (a s : State) → OnlyIn driven s (merge driven a s)
merge_only driven a s = record { top = refl; others = λ c below e. ap (λ b. if b then a (c ∷ below) else s (c ∷ below)) e }

pub only_wider : (small large : Set) → ((c : ℕ) → small c ≡ true → large c ≡ true) → (s after : State) → OnlyIn small s after → OnlyIn large s after
only_wider small large within s after h = record { top = h.top; others = λ c below e. h.others c below (off c (small c) refl e) }
  where
    off : (c : ℕ) (b : Bool) → small c ≡ b → large c ≡ false → small c ≡ false
    off c true e f = absurd (both_ways (large c) f (within c e))
    off c false e f = e

-- CYCLES of listed cells
after_only : (listed : Set) (look : Look) (cells : Cells) (s : State) → OnlyIn listed s (state_after (outcome_of listed look cells s) s)
after_only listed look cells s = record { top = refl; others = λ c below e. unlisted_stays listed look cells s c e below }

unless_only : (driven : Set) (s after : State) (fault : Option Fault) → OnlyIn driven s after → TurnsIn driven s (turn_of (unless_fault fault after))
unless_only driven s after (Some f) h = tt
unless_only driven s after None h = h

cycle_only : (i : Instance) (held : Held) (act : Active) (listed : Set) (s : State) → TurnsIn listed s (turn_of (cycle_of i held act listed s))
cycle_only i held act listed s = unless_only listed s _ (first_fault (outcome_of listed (seen i held act s) (cells_of i) s) 0 (cell_count (cells_of i))) (after_only listed (seen i held act s) (cells_of i) s)

hole_only : (driven : Set) (s : State) (g : ℕ) (ended : Ended) (t : Truth) → TurnsIn driven s (turn_of ended) → TurnsIn driven s (hole_turn g ended t)
hole_only driven s g ended One h = tt
hole_only driven s g ended Zero h = h
hole_only driven s g ended truths.Conflict h = tt
hole_only driven s g ended truths.Undefined h = tt

unclear_only : (driven : Set) (s : State) (fault : Option Fault) (ended : Ended) → TurnsIn driven s (turn_of ended) → TurnsIn driven s (unless_unclear fault ended)
unclear_only driven s (Some f) ended h = tt
unclear_only driven s None ended h = h

module _ (i : Instance) (held : Held) where
  pub turn_only : (g : ℕ) (s : State) → TurnsIn (group_drives (part_of i) g) s (own_turn i held g s)
  turn_only g s = hole_only (group_drives (part_of i) g) s g _ (truth_of (seen i held (group g) s (ports.Done g))) (cycle_only i held (group g) (group_drives (part_of i) g) s)

  pub capture_only : (g c : ℕ) (s : State) → TurnsIn (group_drives (part_of i) g) s (own_capture i held g c s)
  capture_only g c s = cycle_only i held (capture g c) (group_drives (part_of i) g) s

  pub island_only : (form : PlainForm) (t : ℕ) (h : History) (s : State) → TurnsIn (form_drives (part_of i) form) s (own_island i held form t h s)
  island_only form t h s =
      unclear_only (form_drives (part_of i) form) s (first_unclear (seen i held nothing s) (looked_at h t (form_flat (part_of i) form 0 []))) _
      (cycle_only i held (entries (active_in h t (form_flat (part_of i) form 0 []))) (form_drives (part_of i) form) s)

module _ (i : Instance) (held : Held) (set : ℕ → Type 0) (kept : IsKept i) (through : IsThrough (part_of i) set) (deeper : AcyclicBelow (cells_of i)) where
  -- a cycle of listed cells of the set ends alike
  cycle_alike : (act : Active) (gs : List ℕ) → IsAmong act gs → ((g : ℕ) → In gs g → IsWithin (part_of i) set g) → IsAcyclic i act → (listed : Set) → ((c : ℕ) → listed c ≡ true → set c)
      → (s t : State) → Agree set s t → AlikeTurn set (turn_of (cycle_of i held act listed s)) (turn_of (cycle_of i held act listed t))
  cycle_alike act gs among looks acyclic listed inside s t agree =
      ends_alike set listed (seen i held act s) (seen i held act t) (cells_of i) s t (λ c row at on. inl (outcome c row (inside c on))) outcome agree
    where
      outcome : (c : ℕ) (row : Row) → set c → cell_outcome (seen i held act s) c row (s (c ∷ [])) ≡ cell_outcome (seen i held act t) c row (t (c ∷ []))
      outcome c row here =
          ap (λ look. after_enabling look row (s (c ∷ [])) (gather look (enables row) 0 row.ports))
          (fun_ext (λ p. seen_alike i held act set gs kept through among looks s t agree acyclic deeper (ports.Cell c p) here))
          ∙ ap (cell_outcome (seen i held act t) c row) (agree c [] here)

  own_within : (g : ℕ) → IsGood i held set kept through deeper g → (h : ℕ) → In (g ∷ []) h → IsWithin (part_of i) set h
  own_within g good h (inl e) = subst (IsWithin (part_of i) set) e good.within
  own_within g good h (inr none) = absurd none

  pub group_seen : (g : ℕ) → IsGood i held set kept through deeper g → (s t : State) → Agree set s t → (p : PortRef) → InFrame set p → seen i held (group g) s p ≡ seen i held (group g) t p
  group_seen g good s t agree p inside = seen_alike i held (group g) set (g ∷ []) kept through (only_among g) (own_within g good) s t agree good.acyclic deeper p inside

  pub turn_frames : (g : ℕ) → IsGood i held set kept through deeper g → (s t : State) → Agree set s t → AlikeTurn set (own_turn i held g s) (own_turn i held g t)
  turn_frames g good s t agree =
      hole_alike set g (truth_of (seen i held (group g) s (ports.Done g))) (truth_of (seen i held (group g) t (ports.Done g))) _ _
      (ap truth_of (group_seen g good s t agree (ports.Done g) tt))
      (cycle_alike (group g) (g ∷ []) (only_among g) (own_within g good) good.acyclic (group_drives (part_of i) g) good.within.drives s t agree)

  pub capture_frames : (g c : ℕ) → IsGood i held set kept through deeper g → (s t : State) → Agree set s t → AlikeTurn set (own_capture i held g c s) (own_capture i held g c t)
  capture_frames g c good s t agree =
      cycle_alike (capture g c) (g ∷ []) (only_among g) (own_within g good) (capture_acyclic i g c good.acyclic) (group_drives (part_of i) g) good.within.drives s t agree

  pub rest_frames : (driven : Set) (s t : State) → Agree set s t → Agree set (rested i driven s) (rested i driven t)
  rest_frames driven s t agree = merge_agree set driven (idle i s) s (idle i t) t (idle_agree set i s t agree) agree

  -- islands
  module _ (bare : IsAcyclic i nothing) (list : List Occurrence) (fine : AllFine (IsGood i held set kept through deeper) (InFrame set) list) where
    abbrev Good : ℕ → Type 0
    Good = IsGood i held set kept through deeper

    pub samples_frames : (tested : PortRef → Bool) → ((port : PortRef) → tested port ≡ true → InFrame set port) → (h : History) (t : ℕ) (s s2 : State) → Agree set s s2
        → sampled_now tested h t (seen i held nothing s) ≡ sampled_now tested h t (seen i held nothing s2)
    samples_frames tested inside h t s s2 agree = fun_ext (λ port. fun_ext (λ at. one port at (tested port) refl (nat_eq t at)))
      where
        one : (port : PortRef) (at : ℕ) (b : Bool) → tested port ≡ b → (c : Bool) → (b && (if c then is_one (truth_of (seen i held nothing s port)) else h port at)) ≡ (b && (if c then is_one (truth_of (seen i held nothing s2 port)) else h port at))
        one port at true e true = ap (λ x. is_one (truth_of x)) (bare_seen i held set kept through deeper bare s s2 agree port (inside port e))
        one port at true e false = refl
        one port at false e c = refl

    pub cycle_frames : (driven : Set) → ((c : ℕ) → driven c ≡ true → set c) → (h : History) (t : ℕ) → IsAcyclic i (entries (active_in h t list)) → (s s2 : State) → Agree set s s2
        → AlikeTurn set (own_cycle i held driven list t h s) (own_cycle i held driven list t h s2)
    cycle_frames driven inside h t acyclic s s2 agree =
        unclear_alike set (first_unclear (seen i held nothing s) (looked_at h t list)) (first_unclear (seen i held nothing s2) (looked_at h t list)) _ _
        (unclear_same (seen i held nothing s) (seen i held nothing s2) (looked_at h t list)
        (λ q j. bare_seen i held set kept through deeper bare s s2 agree q (looked_good Good (InFrame set) h t list fine q j)))
        (cycle_alike (entries (active_in h t list)) (map (λ e. e.group) (active_in h t list)) (entries_among (active_in h t list)) (λ g j. (active_good Good (InFrame set) h t list fine g j).within) acyclic driven inside s s2 agree)
