-- THE LAW OF AN ISLAND: its machine does what the island means.
use Rattle.std.proofs.Common.{◌≡◌, ℕ, zero, suc, ◌+◌, ◌<◌, inl, inr, Bool, true, false, nat_lt, List, [], Option, Some, None, if◌then◌else◌, refl, sym, ap, ◌∙◌, subst, arith}
use Rattle.std.specs.Prelude.{not, option_map, option_and_then, nat_eq, ◌%◌}
use Rattle.std.proofs.Math.Path.{fun_ext}
use Rattle.std.proofs.lemmas.Bool.{lt-ltb, le-ltb}
use Rattle.cx_text.proofs.MemberLaws.{in_left, in_right}
use Rattle.cx_text.specs.Members.{In}
use Rattle.cx_text.specs.declared.places.Place.{Place}
use Rattle.cx_meaning.specs.declared.ports.PortRef.{PortRef}
use Rattle.cx_meaning.specs.declared.ports.PlacedPort.{PlacedPort}
use Rattle.cx_meaning.specs.Designs.{PlainComponent, PlainForm, Empty, Enable, Seq, Par, If, While, Repeat, StaticSeq, StaticPar, StaticIf, StaticRepeat, Timed, PlainStatement, Placed, PlainStatements, no_statements, a_statement}
use Rattle.cx_meaning.specs.Instances.{Instance, part_of, State, idle}
use Rattle.cx_meaning.specs.Active.{nothing, entries}
use Rattle.cx_meaning.specs.Truths.{truth_of}
use Rattle.cx_meaning.specs.Sights.{Held, seen}
use Rattle.cx_meaning.specs.Cycles.{Fault, Ended, Goes, Faults, cycle}
use Rattle.cx_meaning.specs.Answers.{Answer, End, More, Turn, after_turns, idle_turn, turn_then}
use Rattle.cx_meaning.specs.Answers as answers
use Rattle.cx_meaning.specs.Control.{form_drives, drives}
use Rattle.cx_meaning.specs.Islands.{History, no_history, length_of, form_length, form_flat, active_in, looked_at, and_now, is_one, first_unclear, unless_unclear, island_turn, island_from, island}
use Rattle.cx_rules.specs.Items.{Context, Dynamic, InStatic, Branch, Visited, visit, visit_all, test_in}
use Rattle.cx_rules.specs.Footprints.{Reads}
use Rattle.cx_laws.specs.Samples.{Samples, says, ifs_of, AreKept, active_by, begun_by}
use Rattle.cx_frames.proofs.AlikeLemmas.{AlikeTurn}
use Rattle.cx_frames.proofs.SightFrames.{InFrame}
use Rattle.cx_frames.proofs.LeafFrames.{IsGood, bare_seen}
use Rattle.cx_frames.proofs.IslandFrames.{form_fine, same_turn}
use Rattle.cx_frames.proofs.StatementFrames.{through, good, IsReady, ready}
use Rattle.cx_lockstep.specs.Worlds.{Control, At, Done, Machine, edge_of, edge, Agree}
use Rattle.cx_lockstep.specs.Doing.{Meets, Does}
use Rattle.cx_lockstep.proofs.FollowLaws.{meets_done}
use Rattle.cx_lockstep.proofs.TurnLaws.{meets_cycle}
use Rattle.cx_control.specs.Sampling.{within_length, behind_length, taken, where_so, form_now, statement_now, parts_now, arms_now, samples_now}
use Rattle.cx_control.proofs.SamplingLaws.{first_sampled, next_sampled}
use Rattle.cx_control.specs.Spots.{Spot, Holds, Kept, cells_in, shown, spots_of, reads_spot}
use Rattle.cx_control.specs.Numbers.{spot_idle, world_of, Rests}
use Rattle.cx_control.specs.Leaves.{turn_writes, turn_faults, InIsland, Cycle, LastTurn, no_samples, island_start, sampled_now, island_now, next_cycle, island_machine}
use Rattle.cx_control.specs.InstanceRules.{InstanceRules, Stands}
use Rattle.cx_control.specs.IslandRules.{IslandRules}
use Rattle.cx_control.proofs.RestLaws.{rest_is_kept, idle_is_shown, idle_rests}
use Rattle.cx_control.proofs.GroupLaws.{spots_within, turn_writes-none, turn_written, turn_kept, near_inputs, near_cells}
use Rattle.cx_frames.proofs.RunLemmas.{unless_unclear-Goes}
use Rattle.cx_rules.proofs.CirclesLemmas.{cells_below, own_acyclic}

-- WHAT IS SAMPLED hangs on the ports that are tested
module _ (part : PlainComponent) (one other : PortRef → Bool) (kept : Samples) where
  abbrev SameTests : List Visited → Type 0
  SameTests list = (v : Visited) → In list v → (p : PlacedPort) → test_in v.form ≡ Some p → one p.port ≡ other p.port

  mutual
    form_same : (context : Context) (form : PlainForm) (place : Place) (n : ℕ) (live : Option ℕ) (m : ℕ) → SameTests (visit context (Placed form place)) → form_now part one kept form n live m ≡ form_now part other kept form n live m
    form_same context Empty place n live m same = refl
    form_same context (Enable g) place n live m same = refl
    form_same context (Seq parts) place n live m same = refl
    form_same context (Par arms) place n live m same = refl
    form_same context (If test comb a b) place n live m same = refl
    form_same context (While test comb a) place n live m same = refl
    form_same context (Repeat count a) place n live m same = refl
    form_same context (StaticSeq length parts) place n live m same = parts_same parts n live m (λ v i. same v (inr i))
    form_same context (StaticPar length arms) place n live m same = arms_same arms n live m (λ v i. same v (inr i))
    form_same context (StaticIf length test a b) place n live m same =
        ap (λ x. if nat_eq m n then taken x (kept n) live else (if nat_lt m (suc n + ifs_of a) then statement_now part one kept a (suc n) (where_so (taken x (kept n) live) live) m else statement_now part one kept b (suc n + ifs_of a) (where_so (not (taken x (kept n) live)) live) m))
        (same (record { context = context; form = StaticIf length test a b; place = place }) (inl refl) test refl)
        ∙ ap (λ x. if nat_eq m n then taken (other test.port) (kept n) live else (if nat_lt m (suc n + ifs_of a) then x else statement_now part one kept b (suc n + ifs_of a) (where_so (not (taken (other test.port) (kept n) live)) live) m))
        (statement_same Branch a (suc n) (where_so (taken (other test.port) (kept n) live) live) m (λ v i. same v (inr (in_left (visit Branch a) (visit Branch b) v i))))
        ∙ ap (λ x. if nat_eq m n then taken (other test.port) (kept n) live else (if nat_lt m (suc n + ifs_of a) then statement_now part other kept a (suc n) (where_so (taken (other test.port) (kept n) live) live) m else x))
        (statement_same Branch b (suc n + ifs_of a) (where_so (not (taken (other test.port) (kept n) live)) live) m (λ v i. same v (inr (in_right (visit Branch a) (visit Branch b) v i))))
    form_same context (StaticRepeat length count a) place n live m same = statement_same InStatic a n (option_map (λ j. j % length_of part a) live) m (λ v i. same v (inr i))
    form_same context (Timed k) place n live m same = refl

    statement_same : (context : Context) (s : PlainStatement) (n : ℕ) (live : Option ℕ) (m : ℕ) → SameTests (visit context s) → statement_now part one kept s n live m ≡ statement_now part other kept s n live m
    statement_same context (Placed form place) n live m same = form_same context form place n (option_and_then (within_length (length_of part (Placed form place))) live) m same

    parts_same : (ss : PlainStatements) (n : ℕ) (live : Option ℕ) (m : ℕ) → SameTests (visit_all InStatic ss) → parts_now part one kept ss n live m ≡ parts_now part other kept ss n live m
    parts_same no_statements n live m same = refl
    parts_same (a_statement s ss) n live m same =
        ap (λ x. if nat_lt m (n + ifs_of s) then x else parts_now part one kept ss (n + ifs_of s) (option_and_then (behind_length (length_of part s)) live) m)
        (statement_same InStatic s n live m (λ v i. same v (in_left (visit InStatic s) (visit_all InStatic ss) v i)))
        ∙ ap (λ x. if nat_lt m (n + ifs_of s) then statement_now part other kept s n live m else x)
        (parts_same ss (n + ifs_of s) (option_and_then (behind_length (length_of part s)) live) m (λ v i. same v (in_right (visit InStatic s) (visit_all InStatic ss) v i)))

    arms_same : (ss : PlainStatements) (n : ℕ) (live : Option ℕ) (m : ℕ) → SameTests (visit_all InStatic ss) → arms_now part one kept ss n live m ≡ arms_now part other kept ss n live m
    arms_same no_statements n live m same = refl
    arms_same (a_statement s ss) n live m same =
        ap (λ x. if nat_lt m (n + ifs_of s) then x else arms_now part one kept ss (n + ifs_of s) live m)
        (statement_same InStatic s n live m (λ v i. same v (in_left (visit InStatic s) (visit_all InStatic ss) v i)))
        ∙ ap (λ x. if nat_lt m (n + ifs_of s) then statement_now part other kept s n live m else x)
        (arms_same ss (n + ifs_of s) live m (λ v i. same v (in_right (visit InStatic s) (visit_all InStatic ss) v i)))

-- a cycle of an island is no last turn, and where it goes on its cycle does
not_last : (o : Option Fault) (ended : Ended) → unless_unclear o ended ≡ answers.Ends → ⊥
not_last (Some fault) ended e = cc
not_last None (Goes after) e = cc
not_last None (Faults fault) e = cc

module _ (i : Instance) (rules : InstanceRules i) (island_rules : IslandRules i) (form : PlainForm) (place : Place) (stands : Stands i (Placed form place)) where
  abbrev Whole : PlainStatement
  Whole = Placed form place

  abbrev part : PlainComponent
  part = part_of i

  abbrev Seen : ℕ → Type 0
  Seen = Reads (part_of i) (Placed form place)

  abbrev v : Visited
  v = record { context = Dynamic; form = form; place = place }

  abbrev M : Machine Spot Holds
  M = island_machine i form

  -- where control stands with so many cycles left
  abbrev stand : ℕ → ℕ → Samples → Control InIsland
  stand zero t kept = At LastTurn
  stand (suc left) t kept = At (Cycle t kept)

  module _ (R : Spot → Type 0) (more : (x : Spot) → reads_spot Seen x → R x) (D : Spot → Bool) (less : (x : Spot) → D x ≡ false → spots_of (drives (part_of i) Whole) x ≡ false) (e : Held) where
    -- what is not driven rests all the while
    abbrev Calm : State → Type 0
    Calm st = (x : Spot) → R x → spots_of (drives (part_of i) Whole) x ≡ false → Rests i x (shown e st x)

    near_reads : (st : State) (w : Kept) → Agree R w (shown e st) → Agree (reads_spot Seen) w (shown e st)
    near_reads st w near x r = near x (more x r)

    -- the samples of this cycle are those of the state
    sampled_same : (t : ℕ) (kept : Samples) (st : State) (w : Kept) → Agree R w (shown e st) → sampled_now i form t kept w ≡ samples_now (part_of i) (says (seen i e nothing st)) t form kept
    sampled_same t kept st w near =
        ap (λ h. samples_now (part_of i) (says (seen i h nothing (cells_in w))) t form kept) (near_inputs Seen e st w (near_reads st w near))
        ∙ fun_ext (λ m. form_same (part_of i) (says (seen i e nothing (cells_in w))) (says (seen i e nothing st)) kept Dynamic form place 0 (Some t) m tests)
      where
        tests : (u : Visited) → In (visit Dynamic (Placed form place)) u → (p : PlacedPort) → test_in u.form ≡ Some p → says (seen i e nothing (cells_in w)) p.port ≡ says (seen i e nothing st) p.port
        tests u j p is =
            ap (λ x. is_one (truth_of x))
            (sym (bare_seen i e Seen rules.kept (through i e rules.kept rules.circles rules.groups rules.islands v stands Seen (rules.closed Whole)) (cells_below i rules.circles) (own_acyclic i rules.circles)
            st (cells_in w) (near_cells Seen e st w (near_reads st w near)) p.port
            (IsReady.tests (ready i e rules.kept rules.circles rules.groups rules.islands v stands Seen (rules.closed Whole) u j) p is)))

    -- A CYCLE, with samples that are kept
    module _ (t : ℕ) (h : History) (kept : Samples) (st : State) (inside : t < form_length (part_of i) form)
        (are_kept : AreKept (part_of i) (and_now h t (seen i e nothing st)) t form (samples_now (part_of i) (says (seen i e nothing st)) t form kept)) where
      abbrev now : History
      now = and_now h t (seen i e nothing st)

      abbrev kept_now : Samples
      kept_now = samples_now (part_of i) (says (seen i e nothing st)) t form kept

      abbrev turn : State → Turn State Fault
      turn s = island_turn i e (form_flat (part_of i) form 0 []) t now s

      turn_is : (w : Kept) → Agree R w (shown e st) → island_now i form t kept w ≡ turn (cells_in w)
      turn_is w near =
          ap (λ held. unless_unclear (first_unclear (seen i held nothing (cells_in w)) (begun_by (part_of i) (sampled_now i form t kept w) t form)) (cycle i held (entries (active_by (part_of i) (sampled_now i form t kept w) t form)) (cells_in w)))
          (near_inputs Seen e st w (near_reads st w near))
          ∙ ap (λ k. unless_unclear (first_unclear (seen i e nothing (cells_in w)) (begun_by (part_of i) k t form)) (cycle i e (entries (active_by (part_of i) k t form)) (cells_in w))) (sampled_same t kept st w near)
          ∙ ap (λ ps. unless_unclear (first_unclear (seen i e nothing (cells_in w)) ps) (cycle i e (entries (active_by (part_of i) kept_now t form)) (cells_in w))) (island_rules.begun form place stands now t kept_now are_kept inside)
          ∙ ap (λ es. unless_unclear (first_unclear (seen i e nothing (cells_in w)) (looked_at now t (form_flat (part_of i) form 0 []))) (cycle i e (entries es) (cells_in w))) (island_rules.active form now t kept_now are_kept inside)

      alike : (w : Kept) → Agree R w (shown e st) → AlikeTurn Seen (turn st) (turn (cells_in w))
      alike w near =
          same_turn i e Seen rules.kept (through i e rules.kept rules.circles rules.groups rules.islands v stands Seen (rules.closed Whole)) (cells_below i rules.circles) (own_acyclic i rules.circles)
          (form_flat (part_of i) form 0 [])
          (form_fine (IsGood i e Seen rules.kept (through i e rules.kept rules.circles rules.groups rules.islands v stands Seen (rules.closed Whole)) (cells_below i rules.circles)) (InFrame Seen)
          (IsReady i e rules.kept rules.circles rules.groups rules.islands v stands Seen (rules.closed Whole)) (λ f p r is. IsReady.tests r p is) (part_of i) Dynamic form 0 []
          (ready i e rules.kept rules.circles rules.groups rules.islands v stands Seen (rules.closed Whole) v (inl refl))
          (record {
            groups = λ g j. good i e rules.kept rules.circles rules.groups rules.islands v stands Seen (rules.closed Whole) g j;
            forms = λ u j. ready i e rules.kept rules.circles rules.groups rules.islands v stands Seen (rules.closed Whole) u (inr j);
          }) tt)
          (λ k u. rules.islands v k u stands) t now st (cells_in w) (near_cells Seen e st w (near_reads st w near))

      -- it comes to a state
      module _ (after : State) (goes : turn st ≡ answers.Goes after) (calm : Calm st) where
        there : (w : Kept) → Agree R w (shown e st) → AlikeTurn Seen (answers.Goes after) (island_now i form t kept w)
        there w near = subst (AlikeTurn Seen (answers.Goes after)) (sym (turn_is w near)) (subst (λ x. AlikeTurn Seen x (turn (cells_in w))) goes (alike w near))

        cycle_goes : cycle i e (entries (active_in now t (form_flat (part_of i) form 0 []))) st ≡ Goes after
        cycle_goes = unless_unclear-Goes (first_unclear (seen i e nothing st) (looked_at now t (form_flat (part_of i) form 0 []))) _ after goes

        kept_there : (x : Spot) → R x → spots_of (drives (part_of i) Whole) x ≡ false → shown e after x ≡ shown e st x
        kept_there x r free =
            turn_kept i (form_drives (part_of i) form) e rules (entries (active_in now t (form_flat (part_of i) form 0 []))) st after cycle_goes (λ c none. rules.in_island form place now t c none) x free (calm x r free)

        clean : (w : Kept) → Agree R w (shown e st) → M.faults (Cycle t kept) w ≡ false
        clean w near = ap turn_faults (there w near).1

        comes_to : (w : Kept) → Agree R w (shown e st) → Agree R (edge (spot_idle i) M (At (Cycle t kept)) w) (shown e after)
        comes_to w near x r = either (spots_of (drives (part_of i) Whole) x) refl
          where
            either : (b : Bool) → spots_of (drives (part_of i) Whole) x ≡ b → edge_of (turn_writes (form_drives (part_of i) form) (island_now i form t kept w) x) (spot_idle i x (w x)) ≡ shown e after x
            either true driven =
                ap (λ u. edge_of (turn_writes (form_drives (part_of i) form) u x) (spot_idle i x (w x))) (there w near).1
                ∙ turn_written i (form_drives (part_of i) form) e Fault st (there w near).0 after w (λ c path one. sym ((there w near).2 c path ((rules.closed Whole).driven c one)))
                (λ y one. near y (more y (spots_within (drives (part_of i) Whole) Seen (λ c k. (rules.closed Whole).driven c k) y one))) x driven
            either false free =
                ap (λ o. edge_of o (spot_idle i x (w x))) (turn_writes-none (form_drives (part_of i) form) (island_now i form t kept w) x free)
                ∙ ap (spot_idle i x) (near x r) ∙ (rest_is_kept i).quiet x (shown e st x) (calm x r free) ∙ sym (kept_there x r free)

        calm_after : Calm after
        calm_after x r free = subst (Rests i x) (sym (kept_there x r free)) (calm x r free)

    -- THE LAST TURN
    last_meets : (st : State) → Calm st → (n : ℕ) → Meets (world_of i) (Rests i) M R {F = Fault} e D (At LastTurn) (shown e st) n (idle_turn (idle i) st n)
    last_meets st calm zero = tt
    last_meets st calm (suc n) =
        meets_cycle (world_of i) (Rests i) {F = Fault} M R e D LastTurn Done (shown e st) (idle i st) n (λ w near. refl) (λ w near. refl)
        (λ w near x r. ap (spot_idle i x) (near x r) ∙ sym (idle_is_shown i e st x))
        (λ x r free. (rest_is_kept i).rested e st x (calm x r (less x free))) (End (idle i st) 0) (meets_done (world_of i) (Rests i) M R e D (idle i st) n (λ x r. idle_rests i rules e st x))

    -- ALL CYCLES
    next_stand : (left t : ℕ) (kept : Samples) → t + suc left ≡ form_length (part_of i) form → next_cycle i form t kept ≡ stand left (suc t) kept
    next_stand zero t kept whole = ap (λ b. if b then At (Cycle (suc t) kept) else At LastTurn) (le-ltb (suc t) (form_length (part_of i) form) (omega arith))
    next_stand (suc left) t kept whole = ap (λ b. if b then At (Cycle (suc t) kept) else At LastTurn) (lt-ltb (suc t) (form_length (part_of i) form) (omega arith))

    cycles_meet : (left t : ℕ) (h : History) (kept : Samples) (st : State) (n : ℕ) → t + left ≡ form_length (part_of i) form → ((u : ℕ) → t ≡ suc u → AreKept (part_of i) h u form kept) → Calm st
        → Meets (world_of i) (Rests i) M R e D (stand left t kept) (shown e st) n (island_from i e (form_flat (part_of i) form 0 []) left t h st n)
    cycles_meet zero t h kept st n whole before calm = last_meets st calm n
    cycles_meet (suc left) t h kept st zero whole before calm = tt
    cycles_meet (suc left) t h kept st (suc n) whole before calm =
        by_turn (island_turn i e (form_flat (part_of i) form 0 []) t (and_now h t (seen i e nothing st)) st) refl
        (λ after still. cycles_meet left (suc t) (and_now h t (seen i e nothing st)) (samples_now (part_of i) (says (seen i e nothing st)) t form kept) after n (omega arith) (λ u same. keeps_on u same) still)
      where
        inside : t < form_length (part_of i) form
        inside = omega arith

        are_kept : AreKept (part_of i) (and_now h t (seen i e nothing st)) t form (samples_now (part_of i) (says (seen i e nothing st)) t form kept)
        are_kept = by_time t before inside
          where
            by_time : (u : ℕ) → ((k : ℕ) → u ≡ suc k → AreKept (part_of i) h k form kept) → u < form_length (part_of i) form → AreKept (part_of i) (and_now h u (seen i e nothing st)) u form (samples_now (part_of i) (says (seen i e nothing st)) u form kept)
            by_time zero k l = first_sampled (part_of i) form h (seen i e nothing st) kept l
            by_time (suc u) k l = next_sampled (part_of i) form h u (seen i e nothing st) kept l (k u refl)

        keeps_on : (u : ℕ) → suc t ≡ suc u → AreKept (part_of i) (and_now h t (seen i e nothing st)) u form (samples_now (part_of i) (says (seen i e nothing st)) t form kept)
        keeps_on u same = let e2 : t ≡ u = omega arith in subst (λ k. AreKept (part_of i) (and_now h t (seen i e nothing st)) k form (samples_now (part_of i) (says (seen i e nothing st)) t form kept)) e2 are_kept

        by_turn : (x : Turn State Fault) → island_turn i e (form_flat (part_of i) form 0 []) t (and_now h t (seen i e nothing st)) st ≡ x
            → ((after : State) → Calm after → Meets (world_of i) (Rests i) M R e D (stand left (suc t) (samples_now (part_of i) (says (seen i e nothing st)) t form kept)) (shown e after) n
            (island_from i e (form_flat (part_of i) form 0 []) left (suc t) (and_now h t (seen i e nothing st)) after n))
            → Meets (world_of i) (Rests i) M R e D (At (Cycle t kept)) (shown e st) (suc n)
            (turn_then (idle i) st x (λ after. island_from i e (form_flat (part_of i) form 0 []) left (suc t) (and_now h t (seen i e nothing st)) after n))
        by_turn answers.Ends is later = absurd (not_last _ _ is)
        by_turn (answers.Goes after) is later =
            meets_cycle (world_of i) (Rests i) M R e D (Cycle t kept) (stand left (suc t) (samples_now (part_of i) (says (seen i e nothing st)) t form kept)) (shown e st) after n
            (clean t h kept st inside are_kept after is calm)
            (λ w near. ap (next_cycle i form t) (sampled_same t kept st w near) ∙ next_stand left t (samples_now (part_of i) (says (seen i e nothing st)) t form kept) whole)
            (comes_to t h kept st inside are_kept after is calm)
            (λ x r free. kept_there t h kept st inside are_kept after is calm x r (less x free))
            (island_from i e (form_flat (part_of i) form 0 []) left (suc t) (and_now h t (seen i e nothing st)) after n)
            (later after (calm_after t h kept st inside are_kept after is calm))
        by_turn (answers.Faults fault) is later = tt

  only : (p : InIsland) (s : Kept) (x : Spot) → spots_of (drives (part_of i) Whole) x ≡ false → M.writes p s x ≡ None
  only (Cycle t kept) s x free = turn_writes-none (form_drives (part_of i) form) (island_now i form t kept s) x free
  only LastTurn s x free = refl

  start_is : (length : ℕ) → island_start length ≡ stand length 0 no_samples
  start_is zero = refl
  start_is (suc n) = refl

  -- THE MACHINE OF AN ISLAND DOES what the island means
  pub island_leaf : Does (world_of i) (Rests i) (island_machine i form) (spots_of (drives (part_of i) (Placed form place))) (reads_spot (Reads (part_of i) (Placed form place))) (λ held. island i held form)
  island_leaf = record {
    sees = spots_within (drives (part_of i) Whole) Seen (λ c k. (rules.closed Whole).driven c k);
    only = only;
    does = λ R D more less held st n settled.
        subst (λ k. Meets (world_of i) (Rests i) M R held D k (shown held st) n (island i held form st n)) (sym (start_is (form_length (part_of i) form)))
        (cycles_meet R more D less held (form_length (part_of i) form) 0 no_history no_samples st n (omega arith) (λ u same. absurd (cc)) (λ x r free. settled x r));
  }
