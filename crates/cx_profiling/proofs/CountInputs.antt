-- What is counted depends on the inputs alone that the component of an instance has.
use Rattle.std.proofs.Common.{◌≡◌, ℕ, zero, suc, ◌<◌, inl, inr, Bool, true, false, List, [], length, Option, Some, None, refl, ap, ◌∙◌}
use Rattle.std.specs.Prelude.{if◌then◌else◌, nat_eq}
use Rattle.std.proofs.Math.Path.{fun_ext}
use Rattle.cx_text.proofs.MemberLaws.{in_left, in_right}
use Rattle.cx_text.specs.Members.{In}
use Rattle.cx_meaning.specs.declared.ports.PortRef.{PortRef}
use Rattle.cx_meaning.specs.declared.ports.PortRef.TheVariants as ports
use Rattle.cx_meaning.specs.declared.ports.PlacedPort.{PlacedPort}
use Rattle.cx_meaning.specs.declared.kinds.GroupKind.{GroupKind}
use Rattle.cx_meaning.specs.declared.kinds.GroupKind.TheVariants as kinds
use Rattle.cx_meaning.specs.Designs.{PlainForm, Empty, Enable, Seq, Par, If, While, Repeat, StaticSeq, StaticPar, StaticIf, StaticRepeat, Timed, PlainStatement, Placed, PlainStatements, no_statements, a_statement, group_at}
use Rattle.cx_meaning.specs.Instances.{Instance, Node, State, cells_of, part_of, idle, under}
use Rattle.cx_meaning.specs.Active.{Entry, nothing, group, entries, Owned, source_order}
use Rattle.cx_meaning.specs.Truths.{truth_of}
use Rattle.cx_meaning.specs.Sights.{Held, seen}
use Rattle.cx_meaning.specs.Cycles.{Fault, cycle}
use Rattle.cx_meaning.specs.Control.{Leaves, run}
use Rattle.cx_meaning.specs.Islands.{Occurrence, History, no_history, and_now, is_one, form_flat, form_length, active_in, looked_at, first_unclear, unless_unclear, island_turn}
use Rattle.cx_meaning.specs.Calls.{group_turn, called, inputs_of_call}
use Rattle.cx_meaning.specs.Running.{Children, leaves, control_below}
use Rattle.cx_rules.specs.Circles.{IsAcyclic, AcyclicBelow}
use Rattle.cx_rules.specs.Footprints.{AssignNames}
use Rattle.cx_rules.specs.Items.{Context, Dynamic, below_dynamic, Visited, visit, visit_parts, visit_all, test_in}
use Rattle.cx_frames.proofs.IslandFrames.{AllFine, AreSame, active_same, looked_same, looked_good, unclear_same, form_fine}
use Rattle.cx_frames.proofs.InputLemmas.{Own, seen_own, cycle_own, turn_own, test_own}
use Rattle.cx_frames.proofs.InputRuns as runs
use Rattle.cx_rewrites.specs.Tallies.{Tally, plus, below, then_count, turn_count, turns_count, test_count, loop_count, rounds_count, Counting, count_form, count, count_parts, count_arms, island_count_from}
use Rattle.cx_profiling.specs.Counting.{made_with, ChildrenCount, count_island, count_call_or_turns, count_enable, counting, count_control, count_below}
use Rattle.cx_profiling.proofs.CountFrames.{both_counted}

-- of the groups of an island nothing is asked
abbrev AnyGroup : ℕ → Type 0
AnyGroup g = Unit {0}

module _ (i : Instance) (held other : Held) (same : (input : ℕ) → input < length (part_of i).inputs → held input ≡ other input)
    (own : (o : Owned) (q : PortRef) → In (source_order (part_of i)) o → AssignNames o.assign q → Own i q) (deeper : AcyclicBelow (cells_of i)) (bare : IsAcyclic i nothing) where
  abbrev Sound : PlainForm → Type 0
  Sound = runs.IsSound i held other same own deeper bare

  abbrev AllSound : (A : Visited → Type 0) → Type 0
  AllSound A = (v : Visited) → A v → Sound v.form

  abbrev Same : History → History → Type 0
  Same = AreSame AnyGroup (Own i)

  module _ (list : List Occurrence) (fine : AllFine AnyGroup (Own i) list) (acyclic : (h : History) (t : ℕ) → IsAcyclic i (entries (active_in h t list))) where
    turn_same : (t : ℕ) (h k : History) (s : State) → Same h k → island_turn i held list t h s ≡ island_turn i other list t k s
    turn_same t h k s alike =
        ap (λ ps. unless_unclear (first_unclear (seen i held nothing s) ps) (cycle i held (entries (active_in h t list)) s)) (looked_same AnyGroup (Own i) h k alike t list fine)
        ∙ ap (λ es. unless_unclear (first_unclear (seen i held nothing s) (looked_at k t list)) (cycle i held (entries es) s)) (active_same AnyGroup (Own i) h k alike t list fine)
        ∙ ap (λ x. unless_unclear x (cycle i held (entries (active_in k t list)) s))
        (unclear_same (seen i held nothing s) (seen i other nothing s) (looked_at k t list)
        (λ q j. seen_own i held other same own deeper nothing bare s q (looked_good AnyGroup (Own i) k t list fine q j)))
        ∙ ap (unless_unclear (first_unclear (seen i other nothing s) (looked_at k t list))) (cycle_own i held other same own deeper (entries (active_in k t list)) (acyclic k t) s)

    now_same : (t : ℕ) (h k : History) (s : State) → Same h k → Same (and_now h t (seen i held nothing s)) (and_now k t (seen i other nothing s))
    now_same t h k s alike port at inside = one (nat_eq t at)
      where
        one : (b : Bool) → (if b then is_one (truth_of (seen i held nothing s port)) else h port at) ≡ (if b then is_one (truth_of (seen i other nothing s port)) else k port at)
        one true = ap (λ x. is_one (truth_of x)) (seen_own i held other same own deeper nothing bare s port inside)
        one false = alike port at inside

    cycles_count : (made : List Entry → Tally) (left t : ℕ) (h k : History) (s : State) (n : ℕ) → Same h k
        → island_count_from made i held list left t h s n ≡ island_count_from made i other list left t k s n
    cycles_count made zero t h k s n alike = refl
    cycles_count made (suc left) t h k s zero alike = refl
    cycles_count made (suc left) t h k s (suc n) alike =
        let before : History = and_now h t (seen i held nothing s) in
        let after : History = and_now k t (seen i other nothing s) in
        let later : Same before after = now_same t h k s alike in
        ap (λ x. turn_count x (λ s1. plus (made (active_in before t list)) (island_count_from made i held list left (suc t) before s1 n))) (turn_same t before after s later)
        ∙ ap (turn_count (island_turn i other list t after s))
        (fun_ext (λ s1. both_counted (ap made (active_same AnyGroup (Own i) before after later t list fine)) (cycles_count made left (suc t) before after s1 n later)))

  island_counts_own : (context : Context) (form : PlainForm) → Sound form → AllSound (In (visit_parts context form)) → (s : State) (n : ℕ)
      → count_island i held form s n ≡ count_island i other form s n
  island_counts_own context form sound all s n =
      cycles_count (form_flat (part_of i) form 0 [])
      (form_fine AnyGroup (Own i) (λ f. (p : PlacedPort) → test_in f ≡ Some p → Own i p.port) (λ f p h e. h p e) (part_of i) context form 0 [] sound.tests
      (record { groups = λ g j. tt; forms = λ v j. (all v j).tests }) tt) sound.acyclic
      (λ es. made_with (entries es)) (form_length (part_of i) form) 0 no_history no_history s n (λ port at inside. refl)

  module _ (children : Children) (counts : ChildrenCount) (groups : (g : ℕ) → IsAcyclic i (group g)) where
    called_counts_own : (g : ℕ) (o : Option ℕ) (s : State) (n : ℕ) → count_call_or_turns i counts held g o s n ≡ count_call_or_turns i counts other g o s n
    called_counts_own g (Some c) s n =
        let inputs : inputs_of_call i held g c s ≡ inputs_of_call i other g c s =
        fun_ext (λ input. seen_own i held other same own deeper (group g) (groups g) s (ports.Cell c (suc input)) tt) in
        ap (λ x. below c (counts c x (under c s) n)) inputs
    called_counts_own g None s n =
        let turns : group_turn i held g ≡ group_turn i other g = fun_ext (turn_own i held other same own deeper g (groups g)) in
        ap (λ t. turns_count t (made_with (group g)) s n) turns

    kind_counts_own : (g : ℕ) (kind : GroupKind) (s : State) (n : ℕ) → count_island i held (Enable g) s n ≡ count_island i other (Enable g) s n
        → count_enable i counts held g kind s n ≡ count_enable i counts other g kind s n
    kind_counts_own g kinds.Plain s n e = called_counts_own g (called i g) s n
    kind_counts_own g kinds.Comb s n e = called_counts_own g (called i g) s n
    kind_counts_own g (kinds.Timed length) s n e = e

    abbrev L : Held → Leaves State Fault
    L h = leaves i children h

    abbrev C : Held → Counting State
    C h = counting i counts h

    runs_own : (context : Context) (statement : PlainStatement) → AllSound (In (visit context statement)) → run (L held) statement ≡ run (L other) statement
    runs_own context statement all = fun_ext (λ s. fun_ext (λ n. runs.statement_own i held other same own deeper bare children groups context statement all s n))

    tests_own : (form : PlainForm) (test : PlacedPort) (comb : Option ℕ) → test_in form ≡ Some test → Sound form → (L held).test test.port comb ≡ (L other).test test.port comb
    tests_own form test comb e sound = fun_ext (λ s. test_own i held other same own deeper bare groups test.port (sound.tests test e) comb s)

    mutual
      form_counts_own : (context : Context) (form : PlainForm) → Sound form → AllSound (In (visit_parts context form)) → (s : State) (n : ℕ)
          → count_form (L held) (C held) form s n ≡ count_form (L other) (C other) form s n
      form_counts_own context Empty sound all s n = refl
      form_counts_own context (Enable g) sound all s n = kind_counts_own g (group_at (part_of i) g).kind s n (island_counts_own context (Enable g) sound all s n)
      form_counts_own context (Seq parts) sound all s n = parts_counts_own (below_dynamic context) parts all s n
      form_counts_own context (Par arms) sound all s n = arms_counts_own (below_dynamic context) arms all s n
      form_counts_own context (If test comb a b) sound all s n =
          let in_first : AllSound (In (visit (below_dynamic context) a)) = λ v j. all v (in_left (visit (below_dynamic context) a) (visit (below_dynamic context) b) v j) in
          let in_second : AllSound (In (visit (below_dynamic context) b)) = λ v j. all v (in_right (visit (below_dynamic context) a) (visit (below_dynamic context) b) v j) in
          ap (λ t. test_count (idle i) t (count (L held) (C held) a) (count (L held) (C held) b) s n) (tests_own (If test comb a b) test comb refl sound)
          ∙ ap (λ f. test_count (idle i) ((L other).test test.port comb) f (count (L held) (C held) b) s n)
          (fun_ext (λ s1. fun_ext (λ m. statement_counts_own (below_dynamic context) a in_first s1 m)))
          ∙ ap (λ f. test_count (idle i) ((L other).test test.port comb) (count (L other) (C other) a) f s n)
          (fun_ext (λ s1. fun_ext (λ m. statement_counts_own (below_dynamic context) b in_second s1 m)))
      form_counts_own context (While test comb a) sound all s n =
          ap (λ t. loop_count (suc n) (idle i) t (run (L held) a) (count (L held) (C held) a) s n) (tests_own (While test comb a) test comb refl sound)
          ∙ ap (λ f. loop_count (suc n) (idle i) ((L other).test test.port comb) f (count (L held) (C held) a) s n) (runs_own (below_dynamic context) a all)
          ∙ ap (λ f. loop_count (suc n) (idle i) ((L other).test test.port comb) (run (L other) a) f s n)
          (fun_ext (λ s1. fun_ext (λ m. statement_counts_own (below_dynamic context) a all s1 m)))
      form_counts_own context (Repeat times a) sound all s n =
          ap (λ f. rounds_count times f (count (L held) (C held) a) s n) (runs_own (below_dynamic context) a all)
          ∙ ap (λ f. rounds_count times (run (L other) a) f s n) (fun_ext (λ s1. fun_ext (λ m. statement_counts_own (below_dynamic context) a all s1 m)))
      form_counts_own context (StaticSeq length parts) sound all s n = island_counts_own context (StaticSeq length parts) sound all s n
      form_counts_own context (StaticPar length arms) sound all s n = island_counts_own context (StaticPar length arms) sound all s n
      form_counts_own context (StaticIf length test a b) sound all s n = island_counts_own context (StaticIf length test a b) sound all s n
      form_counts_own context (StaticRepeat length times a) sound all s n = island_counts_own context (StaticRepeat length times a) sound all s n
      form_counts_own context (Timed k) sound all s n = refl

      statement_counts_own : (context : Context) (statement : PlainStatement) → AllSound (In (visit context statement)) → (s : State) (n : ℕ)
          → count (L held) (C held) statement s n ≡ count (L other) (C other) statement s n
      statement_counts_own context (Placed form place) all s n =
          form_counts_own context form (all (record { context = context; form = form; place = place }) (inl refl)) (λ v j. all v (inr j)) s n

      parts_counts_own : (context : Context) (parts : PlainStatements) → AllSound (In (visit_all context parts)) → (s : State) (n : ℕ)
          → count_parts (L held) (C held) parts s n ≡ count_parts (L other) (C other) parts s n
      parts_counts_own context no_statements all s n = refl
      parts_counts_own context (a_statement first later) all s n =
          let here : AllSound (In (visit context first)) = λ v j. all v (in_left (visit context first) (visit_all context later) v j) in
          both_counted (statement_counts_own context first here s n)
          (ap (λ f. then_count (f s n) n (count_parts (L held) (C held) later)) (runs_own context first here)
          ∙ ap (then_count (run (L other) first s n) n)
          (fun_ext (λ s1. fun_ext (λ m. parts_counts_own context later (λ v j. all v (in_right (visit context first) (visit_all context later) v j)) s1 m))))

      arms_counts_own : (context : Context) (arms : PlainStatements) → AllSound (In (visit_all context arms)) → (s : State) (n : ℕ)
          → count_arms (L held) (C held) arms s n ≡ count_arms (L other) (C other) arms s n
      arms_counts_own context no_statements all s n = refl
      arms_counts_own context (a_statement first later) all s n =
          both_counted (statement_counts_own context first (λ v j. all v (in_left (visit context first) (visit_all context later) v j)) s n)
          (arms_counts_own context later (λ v j. all v (in_right (visit context first) (visit_all context later) v j)) s n)

  pub control_counts_own : ((g : ℕ) → IsAcyclic i (group g)) → AllSound (In (visit Dynamic (part_of i).control)) → (s : State) (n : ℕ)
      → count_control i held s n ≡ count_control i other s n
  control_counts_own groups all s n = of_node i (λ children counts. statement_counts_own children counts groups Dynamic (part_of i).control all s n)
    where
      of_node : (x : Instance) → ((children : Children) (counts : ChildrenCount)
          → count (leaves x children held) (counting x counts held) (part_of x).control s n ≡ count (leaves x children other) (counting x counts other) (part_of x).control s n)
          → count_control x held s n ≡ count_control x other s n
      of_node (Node part cells) h = h (control_below cells) (count_below cells)
