-- Runs of leaves that end: they are the runs of the meaning, where everything else is settled.
use Rattle.std.proofs.Common.{◌≡◌, ℕ, zero, suc, ◌≤◌, ◌<◌, Bool, true, false, ◌&&◌, nat_eq, if◌then◌else◌, List, [], ◌∷◌, ◌++◌, length, Option, Some, None, refl, sym, ap, ◌∙◌, subst, arith, ◌+◌}
use Rattle.std.proofs.Math.Path.{fun_ext}
use Rattle.cx_text.specs.Members.{In}
use Rattle.cx_meaning.specs.declared.ports.PortRef.{PortRef}
use Rattle.cx_meaning.specs.declared.ports.PortRef.TheVariants as ports
use Rattle.cx_meaning.specs.Rows.{KeepsIdle}
use Rattle.cx_meaning.specs.Designs.{PlainForm, Par, PlainStatement, PlainStatements, Placed, list_of, no_place}
use Rattle.cx_meaning.specs.Instances.{Instance, Node, part_of, Path, State, Set, idle, idle_at, IsSettled}
use Rattle.cx_meaning.specs.Active.{Active, nothing, group, capture, entries}
use Rattle.cx_meaning.specs.Truths.{truth_of}
use Rattle.cx_meaning.specs.Sights.{Held, seen}
use Rattle.cx_meaning.specs.Cycles.{Fault, Ended, cycle, cycle_of, every_cell}
use Rattle.cx_meaning.specs.Cycles as cycles
use Rattle.cx_meaning.specs.Answers.{Answer, End, More, Meaning, Turn, after_turns, turn_then, turns_of, idle_turn, one_turn}
use Rattle.cx_meaning.specs.Answers as answers
use Rattle.cx_meaning.specs.Control.{form_drives, group_drives, drives}
use Rattle.cx_meaning.specs.Islands.{History, form_flat, active_in, looked_at, first_unclear, and_now, is_one, island_turn, island_from, turn_of, unless_unclear}
use Rattle.cx_meaning.specs.Calls.{hole_turn, group_turn, after_child}
use Rattle.cx_meaning.specs.Laws.{AllRows}
use Rattle.cx_meaning.specs.Running.{run_control, run_statement}
use Rattle.cx_rules.specs.Items.{Visited, statements_in}
use Rattle.cx_frames.specs.Arms.{all_drive, arms_run}
use Rattle.cx_frames.specs.Ran.{Outcome, Ran, limit, joined}
use Rattle.cx_frames.specs.Rests.{IsUndriven, IsSettledAt}
use Rattle.cx_frames.proofs.IslandFrames.{AllFine, active_same, looked_same}
use Rattle.cx_frames.proofs.RunLemmas.{group_undriven, capture_undriven, island_undriven}
use Rattle.cx_orders.specs.Open.{Idling, InGroup, InIsland, Closing}
use Rattle.cx_orders.specs.Leaves.{rested, own_turn, own_island, is_tested, samples_now}
use Rattle.cx_orders.specs.Steps.{turned, behind_child}
use Rattle.cx_orders.proofs.OwnTurns.{OnlyIn, TurnsIn, turn_only, capture_only, island_only}
use Rattle.cx_orders.proofs.Orders.{Goes, EndsIn}

-- what the laws say of an instance of an accepted design
pub record IsLawful (i : Instance) : Type 0 where
  pub rows : AllRows KeepsIdle i
  pub suffices : (held : Held) (act : Active) (listed : Set) (s : State) → ((c : ℕ) → listed c ≡ false → IsUndriven (part_of i) act c) → ((c : ℕ) → listed c ≡ false → IsSettledAt i s c)
      → cycle_of i held act listed s ≡ cycle_of i held act every_cell s
  pub own : (held other : Held) (s : State) (n : ℕ) → ((input : ℕ) → input < length (part_of i).inputs → held input ≡ other input) → run_control i held s n ≡ run_control i other s n
  pub next : (held : Held) (v : Visited) (arms : PlainStatements) (done later : List PlainStatement) (arm : PlainStatement) (s cur next : State) (n : ℕ) (o p : Outcome)
      → In (statements_in (part_of i)) v → v.form ≡ Par arms → list_of arms ≡ done ++ (arm ∷ later)
      → Ran i (all_drive (part_of i) done) (arms_run i held done) s n cur o
      → Ran i (drives (part_of i) arm) (run_statement i held arm) cur (limit n o) next p
      → Ran i (all_drive (part_of i) (done ++ (arm ∷ []))) (arms_run i held (done ++ (arm ∷ []))) s n next (joined o p)
  pub whole : (held : Held) (arms : PlainStatements) (first : PlainStatement) (rest : List PlainStatement) (s after : State) (n : ℕ) (o : Outcome)
      → list_of arms ≡ first ∷ rest → Ran i (all_drive (part_of i) (list_of arms)) (arms_run i held (list_of arms)) s n after o
      → Ran i (drives (part_of i) (Placed (Par arms) no_place)) (run_statement i held (Placed (Par arms) no_place)) s n after o

-- a run that ends in a state after at most so many turns
abbrev pub Answered : Answer State Fault → State → ℕ → Type 0
Answered x final m = (t : ℕ) × (x ≡ End final t) × (t ≤ m)

pub later_one : (x : Answer State Fault) (final : State) (m : ℕ) → Answered x final m → Answered (after_turns 1 x) final (suc m)
later_one x final m (t, e, less) = (1 + t, ap (after_turns 1) e, omega arith)

-- beside driven cells all is settled
abbrev pub Busy : Instance → Set → State → Type 0
Busy i driven s = (c : ℕ) → driven c ≡ false → IsSettledAt i s c

pub busy_settled : (i : Instance) (driven : Set) (s : State) → IsSettled i s → Busy i driven s
busy_settled i driven s settled c off below = settled (c ∷ below)

pub busy_still : (i : Instance) (driven : Set) (s after : State) → OnlyIn driven s after → Busy i driven s → Busy i driven after
busy_still i driven s after only busy c off below =
    let same : after (c ∷ below) ≡ s (c ∷ below) = only.others c below off in
    ap (idle_at i (c ∷ below)) same ∙ busy c off below ∙ sym same

idle_top : (i : Instance) (s : State) → idle i s [] ≡ s []
idle_top (Node part cells) s = refl

-- the idle turn of the driven cells is the idle turn
pub rested_idle : (i : Instance) (driven : Set) (s : State) → Busy i driven s → rested i driven s ≡ idle i s
rested_idle i driven s busy = fun_ext at
  where
    pick : (c : ℕ) (below : Path) (b : Bool) → driven c ≡ b → (if b then idle i s (c ∷ below) else s (c ∷ below)) ≡ idle i s (c ∷ below)
    pick c below true e = refl
    pick c below false e = sym (busy c e below)

    at : (path : Path) → rested i driven s path ≡ idle i s path
    at [] = sym (idle_top i s)
    at (c ∷ below) = pick c below (driven c) refl

pub idle_same : (i : Instance) (s : State) → IsSettled i s → idle i s ≡ s
idle_same i s settled = fun_ext settled

-- an idle turn, and the end
idle_ends : (i : Instance) (held : Held) (driven : Set) (final : State) (s : State) (m n : ℕ) → Busy i driven s → EndsIn i held final m None (rested i driven s) → suc m ≤ n → Answered (idle_turn (idle i) s n) final (suc m)
idle_ends i held driven final s zero zero busy e less = absurd (let h : suc zero ≤ zero = less in omega arith)
idle_ends i held driven final s zero (suc n) busy e less = (1, ap (λ x. End x 1) (sym (rested_idle i driven s busy) ∙ e), omega arith)
idle_ends i held driven final s (suc m) n busy e less = absurd e

-- GROUPS
module _ (i : Instance) (law : IsLawful i) (held : Held) (final : State) where
  pub own_is : (g : ℕ) (s : State) → Busy i (group_drives (part_of i) g) s → own_turn i held g s ≡ group_turn i held g s
  own_is g s busy =
      ap (λ x. hole_turn g x (truth_of (seen i held (group g) s (ports.Done g))))
      (law.suffices held (group g) (group_drives (part_of i) g) s (λ c off. group_undriven (part_of i) g c off) busy)

  group_turned : (g m n : ℕ) (s : State) (t : Turn State Fault) → Busy i (group_drives (part_of i) g) s → TurnsIn (group_drives (part_of i) g) s t
      → Goes (turned t (rested i (group_drives (part_of i) g) s) (InGroup g)) (EndsIn i held final m)
      → ((after : State) → Busy i (group_drives (part_of i) g) after → EndsIn i held final m (Some (InGroup g)) after → Answered (turns_of (idle i) (group_turn i held g) after n) final m)
      → Answered (turn_then (idle i) s t (λ after. turns_of (idle i) (group_turn i held g) after n)) final (suc m)
  group_turned g zero n s answers.Ends busy only e again = (1, ap (λ x. End x 1) (sym (rested_idle i (group_drives (part_of i) g) s busy) ∙ e), omega arith)
  group_turned g (suc m) n s answers.Ends busy only e again = absurd e
  group_turned g m n s (answers.Goes after) busy only e again =
      later_one (turns_of (idle i) (group_turn i held g) after n) final m (again after (busy_still i (group_drives (part_of i) g) s after only busy) e)
  group_turned g m n s (answers.Faults f) busy only e again = absurd e

  pub group_runs : (g m : ℕ) (s : State) → Busy i (group_drives (part_of i) g) s → EndsIn i held final m (Some (InGroup g)) s → (n : ℕ) → m ≤ n → Answered (turns_of (idle i) (group_turn i held g) s n) final m
  group_runs g zero s busy e n less = absurd e
  group_runs g (suc m) s busy (k, below, e) zero less = absurd (let h : suc m ≤ zero = less in omega arith)
  group_runs g (suc m) s busy (k, below, e) (suc n) less =
      subst (λ t. Answered (turn_then (idle i) s t (λ after. turns_of (idle i) (group_turn i held g) after n)) final (suc m)) (own_is g s busy)
      (group_turned g m n s (own_turn i held g s) busy (turn_only i held g s) e (λ after b h. group_runs g m after b h n (let few : m ≤ n = omega arith in few)))

  -- what comes behind the child of a call
  closing_runs : (g m : ℕ) (s : State) → Busy i (group_drives (part_of i) g) s → EndsIn i held final m (Some (Closing g)) s → (n : ℕ) → m ≤ n → Answered (idle_turn (idle i) s n) final m
  closing_runs g zero s busy e n less = absurd e
  closing_runs g (suc m) s busy (k, below, e) n less = idle_ends i held (group_drives (part_of i) g) final s m n busy e less

  captured : (g c m n : ℕ) (s : State) (x : Ended) → Busy i (group_drives (part_of i) g) s → TurnsIn (group_drives (part_of i) g) s (turn_of x)
      → Goes (turned (turn_of x) s (Closing g)) (EndsIn i held final m)
      → ((after : State) → Busy i (group_drives (part_of i) g) after → EndsIn i held final m (Some (Closing g)) after → Answered (idle_turn (idle i) after n) final m)
      → Answered (turn_then (idle i) s (turn_of x) (λ after. idle_turn (idle i) after n)) final (suc m)
  captured g c m n s (cycles.Goes after) busy only e again = later_one (idle_turn (idle i) after n) final m (again after (busy_still i (group_drives (part_of i) g) s after only busy) e)
  captured g c m n s (cycles.Faults f) busy only e again = absurd e

  pub behind_runs : (g c m : ℕ) (capturing : Bool) (s : State) → IsSettled i s → EndsIn i held final m (Some (behind_child capturing g c)) s → (n : ℕ) → m ≤ n → Answered (after_child i held g c capturing s n) final m
  behind_runs g c m false s settled e n less = closing_runs g m s (busy_settled i (group_drives (part_of i) g) s settled) e n less
  behind_runs g c zero true s settled e n less = absurd e
  behind_runs g c (suc m) true s settled (k, below, e) zero less = absurd (let h : suc m ≤ zero = less in omega arith)
  behind_runs g c (suc m) true s settled (k, below, e) (suc n) less =
      let busy : Busy i (group_drives (part_of i) g) s = busy_settled i (group_drives (part_of i) g) s settled in
      subst (λ t. Answered (turn_then (idle i) s (turn_of t) (λ after. idle_turn (idle i) after n)) final (suc m))
      (law.suffices held (capture g c) (group_drives (part_of i) g) s (λ d off. capture_undriven (part_of i) g c d off) busy)
      (captured g c m n s (cycle_of i held (capture g c) (group_drives (part_of i) g) s) busy (capture_only i held g c s) e
      (λ after b h. closing_runs g m after b h n (let few : m ≤ n = omega arith in few)))

  -- ISLANDS, by histories that are the same for the ports of their static ifs
  module _ (form : PlainForm) (fine : AllFine (λ g. Unit {0}) (λ port. is_tested form port ≡ true) (form_flat (part_of i) form 0 [])) where
    abbrev pub Same : History → History → Type 0
    Same h k = (port : PortRef) (at : ℕ) → is_tested form port ≡ true → h port at ≡ k port at

    pub same_now : (h k : History) (t : ℕ) (s : State) → Same h k → Same (samples_now i held form h t s) (and_now k t (seen i held nothing s))
    same_now h k t s same port at tested = ap (λ b. b && and_now h t (seen i held nothing s) port at) tested ∙ one (nat_eq t at)
      where
        one : (b : Bool) → (if b then is_one (truth_of (seen i held nothing s port)) else h port at) ≡ (if b then is_one (truth_of (seen i held nothing s port)) else k port at)
        one true = refl
        one false = same port at tested

    pub island_is : (h k : History) (t : ℕ) (s : State) → Same h k → Busy i (form_drives (part_of i) form) s → own_island i held form t h s ≡ island_turn i held (form_flat (part_of i) form 0 []) t k s
    island_is h k t s same busy =
        ap (λ ps. unless_unclear (first_unclear (seen i held nothing s) ps) (cycle_of i held (entries (active_in h t (form_flat (part_of i) form 0 []))) (form_drives (part_of i) form) s))
        (looked_same (λ g. Unit {0}) (λ port. is_tested form port ≡ true) h k same t (form_flat (part_of i) form 0 []) fine)
        ∙ ap (λ es. unless_unclear (first_unclear (seen i held nothing s) (looked_at k t (form_flat (part_of i) form 0 []))) (cycle_of i held (entries es) (form_drives (part_of i) form) s))
        (active_same (λ g. Unit {0}) (λ port. is_tested form port ≡ true) h k same t (form_flat (part_of i) form 0 []) fine)
        ∙ ap (unless_unclear (first_unclear (seen i held nothing s) (looked_at k t (form_flat (part_of i) form 0 []))))
        (law.suffices held (entries (active_in k t (form_flat (part_of i) form 0 []))) (form_drives (part_of i) form) s (λ c off. island_undriven (part_of i) form no_place t k c off) busy)

    cycled : (m n t left : ℕ) (h k : History) (s : State) (x : Turn State Fault) → TurnsIn (form_drives (part_of i) form) s x → Busy i (form_drives (part_of i) form) s
        → (x ≡ answers.Ends → ⊥) → Goes (turned x s (InIsland form (suc t) left h)) (EndsIn i held final m)
        → ((after : State) → Busy i (form_drives (part_of i) form) after → EndsIn i held final m (Some (InIsland form (suc t) left h)) after → Answered (island_from i held (form_flat (part_of i) form 0 []) left (suc t) k after n) final m)
        → Answered (turn_then (idle i) s x (λ after. island_from i held (form_flat (part_of i) form 0 []) left (suc t) k after n)) final (suc m)
    cycled m n t left h k s answers.Ends only busy goes_on e again = absurd (goes_on refl)
    cycled m n t left h k s (answers.Goes after) only busy goes_on e again =
        later_one (island_from i held (form_flat (part_of i) form 0 []) left (suc t) k after n) final m (again after (busy_still i (form_drives (part_of i) form) s after only busy) e)
    cycled m n t left h k s (answers.Faults f) only busy goes_on e again = absurd e

    pub never_ends : (o : Option Fault) (x : Ended) → unless_unclear o x ≡ answers.Ends → ⊥
    never_ends (Some f) x e = cc
    never_ends None (cycles.Goes after) e = cc
    never_ends None (cycles.Faults f) e = cc

    pub island_runs : (m t left : ℕ) (h k : History) (s : State) → Same h k → Busy i (form_drives (part_of i) form) s → EndsIn i held final m (Some (InIsland form t left h)) s → (n : ℕ) → m ≤ n
        → Answered (island_from i held (form_flat (part_of i) form 0 []) left t k s n) final m
    island_runs zero t left h k s same busy e n less = absurd e
    island_runs (suc m) t zero h k s same busy (l, below, e) n less = idle_ends i held (form_drives (part_of i) form) final s m n busy e less
    island_runs (suc m) t (suc left) h k s same busy (l, below, e) zero less = absurd (let h : suc m ≤ zero = less in omega arith)
    island_runs (suc m) t (suc left) h k s same busy (l, below, e) (suc n) less =
        subst (λ x. Answered (turn_then (idle i) s x (λ after. island_from i held (form_flat (part_of i) form 0 []) left (suc t) (and_now k t (seen i held nothing s)) after n)) final (suc m))
        (island_is (samples_now i held form h t s) (and_now k t (seen i held nothing s)) t s (same_now h k t s same) busy)
        (cycled m n t left (samples_now i held form h t s) (and_now k t (seen i held nothing s)) s (own_island i held form t (samples_now i held form h t s) s)
        (island_only i held form t (samples_now i held form h t s) s) busy (never_ends _ _) e
        (λ after b j. island_runs m (suc t) left (samples_now i held form h t s) (and_now k t (seen i held nothing s)) after (same_now h k t s same) b j n (let few : m ≤ n = omega arith in few)))

  -- what has no part
  pub idling_runs : (m : ℕ) (s : State) → IsSettled i s → EndsIn i held final m (Some Idling) s → (n : ℕ) → m ≤ n → Answered (idle_turn (idle i) s n) final m
  idling_runs zero s settled e n less = absurd e
  idling_runs (suc zero) s settled (k, below, e) zero less = absurd (let h : suc zero ≤ zero = less in omega arith)
  idling_runs (suc zero) s settled (k, below, e) (suc n) less = (1, ap (λ x. End x 1) (idle_same i s settled ∙ e), omega arith)
  idling_runs (suc (suc m)) s settled (k, below, e) n less = absurd e
