-- A run of a statement leaves alone what the statement does not drive.
use Rattle.std.proofs.Common.{◌≡◌, ℕ, zero, suc, ◌+◌, ◌-◌, Bool, true, false, ◌&&◌, nat_eq, nat_le, nat_lt, inl, inr, List, [], ◌∷◌, ◌++◌, Option, Some, None, if◌then◌else◌, refl, sym, ap, ◌∙◌, subst}
use Rattle.std.proofs.lemmas.Bool.{both_ways, false_from_ne_true, ne_eqb, or_parts}
use Rattle.cx_text.proofs.MemberLaws.{in_left, in_right}
use Rattle.cx_text.specs.Members.{In}
use Rattle.cx_text.specs.declared.places.Place.{Place}
use Rattle.cx_meaning.specs.declared.ports.PortRef.{PortRef}
use Rattle.cx_meaning.specs.declared.ports.PortRef.TheVariants as ports
use Rattle.cx_meaning.specs.declared.kinds.GroupKind.{GroupKind}
use Rattle.cx_meaning.specs.declared.kinds.GroupKind.TheVariants as kinds
use Rattle.cx_meaning.specs.Designs.{PlainAssign, PlainComponent, group_at, PlainForm, Empty, Enable, Seq, Par, If, While, Repeat, StaticSeq, StaticPar, StaticIf, StaticRepeat, Timed, PlainStatement, Placed, PlainStatements, no_statements, a_statement}
use Rattle.cx_meaning.specs.Instances.{Instance, Node, Cells, At, Nothing, OfRow, OfInstance, cell_at, cells_of, part_of, Path, State, Set, merge, just, beneath, put, under, idle_at, idle}
use Rattle.cx_meaning.specs.Active.{Active, nothing, group, capture, offset_in, entries}
use Rattle.cx_meaning.specs.Sights.{Held, seen}
use Rattle.cx_meaning.specs.Truths.{Truth, One, Zero}
use Rattle.cx_meaning.specs.Truths as truths
use Rattle.cx_meaning.specs.Cycles.{Fault, Ended, Goes, cycle, every_cell}
use Rattle.cx_meaning.specs.Answers.{Answer, End, More, Turn, idle_turn}
use Rattle.cx_meaning.specs.Answers as answers
use Rattle.cx_meaning.specs.Control.{groups_in, groups_of, groups_in_all, targets_cell, assigns_drive, group_drives, drives}
use Rattle.cx_meaning.specs.Islands.{group_length, form_length, length_of, Condition, condition, Occurrence, Runs, Looks, rounds_from, occurrence, form_flat, flat, seq_flat, par_flat, History, no_history, hold, entry_if, active_in, and_now, turn_of, unless_unclear, island_turn, island_from, island}
use Rattle.cx_meaning.specs.Calls.{hole_turn, group_turn, if_instance, called_by, called_in, called, captures, lift_answer, inputs_of_call, after_child, call_or_turns, enable_kind}
use Rattle.cx_meaning.specs.Running.{Children, leaves, control_below, run_statement}
use Rattle.cx_meaning.specs.Budgets.{Leaves}
use Rattle.cx_meaning.proofs.AnswersLemmas.{leaves_then}
use Rattle.cx_frames.specs.Rests.{IsUndriven, IsSettledAt, IsKeptAt}
use Rattle.cx_frames.proofs.EnableLemmas.{HasLawfulRows, BareEnablesNothing}
use Rattle.cx_frames.proofs.CycleLemmas.{cycle_keeps_root, cycle_keeps}
use Rattle.cx_frames.proofs.KeepLemmas.{Keeps, keeps_idle, keeps_turn, keeps_turns, leaves_turn_then, keeps_run}
use Rattle.cx_meaning.proofs.ControlLaws.{groups_drive_in}
use Rattle.cx_meaning.proofs.CyclesLemmas.{turn_goes}
use Rattle.cx_meaning.proofs.InstancesLemmas.{top_idle}

pub drives_group : (part : PlainComponent) (s : PlainStatement) (g c : ℕ) → In (groups_of s) g → group_drives part g c ≡ true → drives part s c ≡ true
drives_group part s g c i e = groups_drive_in part (groups_of s) g c i e

pub undriven_group : (part : PlainComponent) (s : PlainStatement) (c : ℕ) → drives part s c ≡ false → (g : ℕ) → In (groups_of s) g → group_drives part g c ≡ false
undriven_group part s c off g i = false_from_ne_true (group_drives part g c) (λ on. both_ways (drives part s c) off (drives_group part s g c i on))

-- ONE GROUP that does not drive the cell
nat_eq-differs : (part : PlainComponent) (c g h : ℕ) → group_drives part g c ≡ false → group_drives part h c ≡ true → nat_eq g h ≡ false
nat_eq-differs part c g h off on = ne_eqb g h (λ same. both_ways (group_drives part g c) off (ap (λ k. group_drives part k c) same ∙ on))

pub group_undriven : (part : PlainComponent) (g c : ℕ) → group_drives part g c ≡ false → IsUndriven part (group g) c
group_undriven part g c off h on = ap (λ b. if b then Some 0 else None) (nat_eq-differs part c g h off on)

pub capture_undriven : (part : PlainComponent) (g e c : ℕ) → group_drives part g c ≡ false → IsUndriven part (capture g e) c
capture_undriven part g e c off h on = ap (λ b. if b then Some 0 else None) (nat_eq-differs part c g h off on)

-- ISLANDS: the groups of the flat list are those of the statement
abbrev RunsOnly : (ℕ → Type 0) → List Occurrence → Type 0
RunsOnly allowed [] = Unit {0}
RunsOnly allowed (Runs g from to conditions ∷ rest) = allowed g × RunsOnly allowed rest
RunsOnly allowed (Looks port at conditions ∷ rest) = RunsOnly allowed rest

module _ (part : PlainComponent) (allowed : ℕ → Type 0) where
  runs_join : (xs ys : List Occurrence) → RunsOnly allowed xs → RunsOnly allowed ys → RunsOnly allowed (xs ++ ys)
  runs_join [] ys h k = k
  runs_join (Runs g from to conditions ∷ xs) ys (ok, h) k = (ok, runs_join xs ys h k)
  runs_join (Looks port at conditions ∷ xs) ys h k = runs_join xs ys h k

  runs_rounds : (body : ℕ → List Occurrence) (p k x : ℕ) → ((y : ℕ) → RunsOnly allowed (body y)) → RunsOnly allowed (rounds_from body p k x)
  runs_rounds body p zero x h = tt
  runs_rounds body p (suc k) x h = runs_join (body x) (rounds_from body p k (x + p)) (h x) (runs_rounds body p k (x + p) h)

  runs_occurrence : (g x : ℕ) (conditions : List Condition) (length : Option ℕ) → allowed g → RunsOnly allowed (occurrence g x conditions length)
  runs_occurrence g x conditions None ok = tt
  runs_occurrence g x conditions (Some n) ok = (ok, tt)

  mutual
    runs_form : (form : PlainForm) → ((g : ℕ) → In (groups_in form) g → allowed g) → (x : ℕ) (conditions : List Condition) → RunsOnly allowed (form_flat part form x conditions)
    runs_form Empty all x conditions = tt
    runs_form (Enable g) all x conditions = runs_occurrence g x conditions (group_length part g) (all g (inl refl))
    runs_form (Seq parts) all x conditions = tt
    runs_form (Par arms) all x conditions = tt
    runs_form (If test comb a b) all x conditions = tt
    runs_form (While test comb a) all x conditions = tt
    runs_form (Repeat count a) all x conditions = tt
    runs_form (StaticSeq length parts) all x conditions = runs_seq parts all x conditions
    runs_form (StaticPar length arms) all x conditions = runs_par arms all x conditions
    runs_form (StaticIf length test a b) all x conditions =
        runs_join (flat part a x (condition test.port x true ∷ conditions)) (flat part b x (condition test.port x false ∷ conditions))
        (runs_statement a (λ g i. all g (in_left (groups_of a) (groups_of b) g i)) x (condition test.port x true ∷ conditions))
        (runs_statement b (λ g i. all g (in_right (groups_of a) (groups_of b) g i)) x (condition test.port x false ∷ conditions))
    runs_form (StaticRepeat length count a) all x conditions = runs_rounds (λ y. flat part a y conditions) (length_of part a) count x (λ y. runs_statement a all y conditions)
    runs_form (Timed k) all x conditions = tt

    runs_statement : (s : PlainStatement) → ((g : ℕ) → In (groups_of s) g → allowed g) → (x : ℕ) (conditions : List Condition) → RunsOnly allowed (flat part s x conditions)
    runs_statement (Placed form place) all x conditions = runs_form form all x conditions

    runs_seq : (parts : PlainStatements) → ((g : ℕ) → In (groups_in_all parts) g → allowed g) → (x : ℕ) (conditions : List Condition) → RunsOnly allowed (seq_flat part parts x conditions)
    runs_seq no_statements all x conditions = tt
    runs_seq (a_statement s ss) all x conditions =
        runs_join (flat part s x conditions) (seq_flat part ss (x + length_of part s) conditions)
        (runs_statement s (λ g i. all g (in_left (groups_of s) (groups_in_all ss) g i)) x conditions)
        (runs_seq ss (λ g i. all g (in_right (groups_of s) (groups_in_all ss) g i)) (x + length_of part s) conditions)

    runs_par : (arms : PlainStatements) → ((g : ℕ) → In (groups_in_all arms) g → allowed g) → (x : ℕ) (conditions : List Condition) → RunsOnly allowed (par_flat part arms x conditions)
    runs_par no_statements all x conditions = tt
    runs_par (a_statement s ss) all x conditions =
        runs_join (flat part s x conditions) (par_flat part ss x conditions)
        (runs_statement s (λ g i. all g (in_left (groups_of s) (groups_in_all ss) g i)) x conditions)
        (runs_par ss (λ g i. all g (in_right (groups_of s) (groups_in_all ss) g i)) x conditions)

-- a group that drives none of the cells that are kept
abbrev Spares : PlainComponent → (ℕ → Type 0) → ℕ → Type 0
Spares part kept g = (c : ℕ) → kept c → group_drives part g c ≡ false

entries_undriven : (part : PlainComponent) (kept : ℕ → Type 0) (c : ℕ) → kept c → (t : ℕ) (h : History) (list : List Occurrence) → RunsOnly (Spares part kept) list → IsUndriven part (entries (active_in h t list)) c
entries_undriven part kept c k t h [] runs g on = refl
entries_undriven part kept c k t h (Runs x from to conditions ∷ rest) (spares, runs) g on = one (nat_le from t && nat_lt t to && hold h conditions) (entries_undriven part kept c k t h rest runs g on)
  where
    one : (b : Bool) → offset_in (active_in h t rest) g ≡ None → offset_in (entry_if b x (t - from) (active_in h t rest)) g ≡ None
    one true e = ap (λ same. if same then Some (t - from) else offset_in (active_in h t rest) g) (nat_eq-differs part c x g (spares c k) on) ∙ e
    one false e = e
entries_undriven part kept c k t h (Looks port at conditions ∷ rest) runs g on = entries_undriven part kept c k t h rest runs g on

-- what a statement does not drive no group drives that is active in an island of it
pub island_undriven : (part : PlainComponent) (form : PlainForm) (place : Place) (t : ℕ) (h : History) (c : ℕ) → drives part (Placed form place) c ≡ false → IsUndriven part (entries (active_in h t (form_flat part form 0 []))) c
island_undriven part form place t h c off =
    entries_undriven part (λ e. drives part (Placed form place) e ≡ false) c off t h (form_flat part form 0 [])
    (runs_form part (Spares part (λ e. drives part (Placed form place) e ≡ false)) form (λ g i e spared. undriven_group part (Placed form place) e spared g i) 0 [])

-- CALLS: the cell that a group calls is one that it drives
at_apart : (at : At) (d e c : ℕ) (later : Option ℕ) → just d c ≡ false → (later ≡ Some e → just e c ≡ false) → if_instance at d later ≡ Some e → just e c ≡ false
at_apart Nothing d e c later off h same = h same
at_apart (OfRow row) d e c later off h same = h same
at_apart (OfInstance child) d e c later off h same = let one : d ≡ e = cc in subst (λ k. just k c ≡ false) one off

target_apart : (cells : Cells) (target : PortRef) (e c : ℕ) (later : Option ℕ) → targets_cell target c ≡ false → (later ≡ Some e → just e c ≡ false) → called_by cells target later ≡ Some e → just e c ≡ false
target_apart cells (ports.Cell d p) e c later off h same = at_apart (cell_at cells d) d e c later off h same
target_apart cells (ports.Input n) e c later off h same = h same
target_apart cells (ports.Output n) e c later off h same = h same
target_apart cells (ports.Done g) e c later off h same = h same
target_apart cells (ports.Literal w v) e c later off h same = h same

called_apart : (cells : Cells) (assigns : List PlainAssign) (e c : ℕ) → assigns_drive assigns c ≡ false → called_in cells assigns ≡ Some e → just e c ≡ false
called_apart cells [] e c off same = absurd (cc)
called_apart cells (a ∷ rest) e c off same =
    target_apart cells a.target e c (called_in cells rest) (or_parts (targets_cell a.target c) (assigns_drive rest c) off).0
    (called_apart cells rest e c (or_parts (targets_cell a.target c) (assigns_drive rest c) off).1) same

-- TURNS that go on
next_of : State → Turn State Fault → State
next_of s answers.Ends = s
next_of s (answers.Goes after) = after
next_of s (answers.Faults fault) = s

hole_turn-Goes : (g : ℕ) (ended : Ended) (truth : Truth) (after : State) → hole_turn g ended truth ≡ answers.Goes after → ended ≡ Goes after
hole_turn-Goes g ended One after e = absurd (cc)
hole_turn-Goes g ended Zero after e = turn_goes ended after e
hole_turn-Goes g ended truths.Conflict after e = absurd (cc)
hole_turn-Goes g ended truths.Undefined after e = absurd (cc)

pub unless_unclear-Goes : (unclear : Option Fault) (ended : Ended) (after : State) → unless_unclear unclear ended ≡ answers.Goes after → ended ≡ Goes after
unless_unclear-Goes (Some fault) ended after e = absurd (cc)
unless_unclear-Goes None ended after e = turn_goes ended after e

-- the cells that are kept are as they were at first, and so is what stands at the instance itself
abbrev pub Stays : (ℕ → Type 0) → State → State → Type 0
Stays kept first s = (s [] ≡ first []) × ((c : ℕ) → kept c → IsKeptAt first s c)

module _ (i : Instance) (quiet : HasLawfulRows i) (bare : BareEnablesNothing i) (kept : ℕ → Type 0) (first : State) (settled : (c : ℕ) → kept c → IsSettledAt i first c) where
  still_settled : (s : State) → Stays kept first s → (c : ℕ) → kept c → IsSettledAt i s c
  still_settled s p c k below = ap (idle_at i (c ∷ below)) (p.1 c k below) ∙ settled c k below ∙ sym (p.1 c k below)

  stays_idle : (s : State) → Stays kept first s → Stays kept first (idle i s)
  stays_idle s p = (top_idle i (s []) ∙ p.0, λ c k below. still_settled s p c k below ∙ p.1 c k below)

  stays_merged : (set : Set) (a b : State) → Stays kept first a → Stays kept first b → Stays kept first (merge set a b)
  stays_merged set a b p q = (q.0, λ c k below. one c k below (set c))
    where
      one : (c : ℕ) → kept c → (below : Path) (pick : Bool) → (if pick then a (c ∷ below) else b (c ∷ below)) ≡ first (c ∷ below)
      one c k below true = p.1 c k below
      one c k below false = q.1 c k below

  stays_put : (e : ℕ) (own s : State) → ((c : ℕ) → kept c → just e c ≡ false) → Stays kept first s → Stays kept first (put e own s)
  stays_put e own s apart p = (p.0, λ c k below. ap (λ b. if b then beneath own (c ∷ below) else s (c ∷ below)) (apart c k) ∙ p.1 c k below)

  stays_cycle : (held : Held) (act : Active) (s after : State) → ((c : ℕ) → kept c → IsUndriven (part_of i) act c) → Stays kept first s → cycle i held act s ≡ Goes after → Stays kept first after
  stays_cycle held act s after undriven p goes = (
    cycle_keeps_root i held act every_cell s after goes ∙ p.0,
    λ c k below. cycle_keeps i quiet bare held act s c (undriven c k) every_cell after (still_settled s p c k) goes below ∙ p.1 c k below,
  )

  module _ (held : Held) where
    keeps_cycles : (list : List Occurrence) → RunsOnly (Spares (part_of i) kept) list → (left t : ℕ) (h : History) → Keeps (Stays kept first) (island_from i held list left t h)
    keeps_cycles list runs zero t h s n p = keeps_idle Fault (Stays kept first) (idle i) stays_idle s n p
    keeps_cycles list runs (suc left) t h s zero p = tt
    keeps_cycles list runs (suc left) t h s (suc n) p =
        leaves_turn_then (Stays kept first) (idle i) stays_idle s (island_turn i held list t (and_now h t (seen i held nothing s)) s) _ p
        (λ after e. keeps_cycles list runs left (suc t) (and_now h t (seen i held nothing s)) after n
        (stays_cycle held (entries (active_in (and_now h t (seen i held nothing s)) t list)) s after
        (λ c k. entries_undriven (part_of i) kept c k t (and_now h t (seen i held nothing s)) list runs) p (unless_unclear-Goes _ _ after e)))

    keeps_island : (form : PlainForm) → ((g : ℕ) → In (groups_in form) g → Spares (part_of i) kept g) → Keeps (Stays kept first) (island i held form)
    keeps_island form all s n p =
        keeps_cycles (form_flat (part_of i) form 0 []) (runs_form (part_of i) (Spares (part_of i) kept) form all 0 []) (form_length (part_of i) form) 0 no_history s n p

    module _ (g : ℕ) (spares : Spares (part_of i) kept g) where
      keeps_after : (e : ℕ) (capturing : Bool) → Keeps (Stays kept first) (after_child i held g e capturing)
      keeps_after e true s n p =
          keeps_turn (Stays kept first) (idle i) stays_idle (λ s1. turn_of (cycle i held (capture g e) s1)) (idle_turn (idle i))
          (λ s1 after q goes. stays_cycle held (capture g e) s1 after (λ c k. capture_undriven (part_of i) g e c (spares c k)) q (turn_goes _ after goes))
          (keeps_idle Fault (Stays kept first) (idle i) stays_idle) s n p
      keeps_after e false s n p = keeps_idle Fault (Stays kept first) (idle i) stays_idle s n p

      lifted_leaves : (e : ℕ) (s : State) (answer : Answer State Fault) → ((c : ℕ) → kept c → just e c ≡ false) → Stays kept first s → Leaves (Stays kept first) (lift_answer e s answer)
      lifted_leaves e s (End own t) apart p = stays_put e own s apart p
      lifted_leaves e s (answers.Fault fault t) apart p = tt
      lifted_leaves e s More apart p = tt

      keeps_called : (children : Children) (cell : Option ℕ) → ((e c : ℕ) → cell ≡ Some e → kept c → just e c ≡ false) → Keeps (Stays kept first) (call_or_turns i children held g cell)
      keeps_called children (Some e) apart s n p =
          leaves_then (Stays kept first) (lift_answer e s (children e (inputs_of_call i held g e s) (under e s) n)) n (after_child i held g e (captures i g))
          (lifted_leaves e s (children e (inputs_of_call i held g e s) (under e s) n) (λ c k. apart e c refl k) p)
          (λ after k q. keeps_after e (captures i g) after k q)
      keeps_called children None apart s n p =
          keeps_turns (Stays kept first) (idle i) stays_idle (group_turn i held g)
          (λ s1 after q goes. stays_cycle held (group g) s1 after (λ c k. group_undriven (part_of i) g c (spares c k)) q (hole_turn-Goes g _ _ after goes)) s n p

      keeps_group : (children : Children) → Keeps (Stays kept first) (call_or_turns i children held g (called i g))
      keeps_group children = keeps_called children (called i g) (λ e c same k. called_apart (cells_of i) (group_at (part_of i) g).assigns e c (spares c k) same)

      only_group : (h : ℕ) → In (groups_in (Enable g)) h → Spares (part_of i) kept h
      only_group h (inl same) = subst (Spares (part_of i) kept) same spares
      only_group h (inr j) = absurd j

      keeps_enable : (children : Children) (kind : GroupKind) → Keeps (Stays kept first) (enable_kind i children held g kind)
      keeps_enable children kinds.Plain s n p = keeps_group children s n p
      keeps_enable children kinds.Comb s n p = keeps_group children s n p
      keeps_enable children (kinds.Timed length) s n p = keeps_island (Enable g) only_group s n p

-- the cells that a statement does not drive and that are settled
abbrev pub IsSpared : Instance → PlainStatement → State → ℕ → Type 0
IsSpared i statement s c = (drives (part_of i) statement c ≡ false) × IsSettledAt i s c

-- A RUN leaves them alone
statement_stays : (i : Instance) → HasLawfulRows i → BareEnablesNothing i → (held : Held) (statement : PlainStatement) (s : State) (n : ℕ) → Leaves (Stays (IsSpared i statement s) s) (run_statement i held statement s n)
statement_stays (Node part cells) quiet bare held statement s n =
    keeps_run (leaves (Node part cells) (control_below cells) held) (Stays (IsSpared (Node part cells) statement s) s) (Spares part (IsSpared (Node part cells) statement s))
    (record {
      rests = stays_idle (Node part cells) quiet bare (IsSpared (Node part cells) statement s) s (λ c k. k.1);
      merges = stays_merged (Node part cells) quiet bare (IsSpared (Node part cells) statement s) s (λ c k. k.1);
      enable = λ g spares s1 k p. keeps_enable (Node part cells) quiet bare (IsSpared (Node part cells) statement s) s (λ c k. k.1) held g spares (control_below cells) (group_at part g).kind s1 k p;
      island = λ form all s1 k p. keeps_island (Node part cells) quiet bare (IsSpared (Node part cells) statement s) s (λ c k. k.1) held form all s1 k p;
      timed = λ k s1 j p. tt;
    })
    statement (λ g j c k. undriven_group part statement c k.0 g j) s n (refl, λ c k below. refl)

pub run_stays : (i : Instance) → HasLawfulRows i → BareEnablesNothing i → (held : Held) (statement : PlainStatement) (s after : State) (n t : ℕ) → run_statement i held statement s n ≡ End after t → Stays (IsSpared i statement s) s after
run_stays i quiet bare held statement s after n t ends = subst (Leaves (Stays (IsSpared i statement s) s)) ends (statement_stays i quiet bare held statement s n)
