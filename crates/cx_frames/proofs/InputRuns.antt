-- Islands and statements depend on the inputs alone that their component has.
use Rattle.std.proofs.Common.{◌≡◌, ℕ, zero, suc, ◌<◌, inl, inr, Bool, true, false, List, [], length, Some, refl, ap, ◌∙◌}
use Rattle.std.specs.Prelude.{if◌then◌else◌, nat_eq}
use Rattle.std.proofs.Math.Path.{fun_ext}
use Rattle.cx_text.proofs.MemberLaws.{in_left, in_right}
use Rattle.cx_text.specs.Members.{In}
use Rattle.cx_meaning.specs.declared.ports.PortRef.{PortRef}
use Rattle.cx_meaning.specs.declared.ports.PlacedPort.{PlacedPort}
use Rattle.cx_meaning.specs.Designs.{PlainForm, Empty, Enable, Seq, Par, If, While, Repeat, StaticSeq, StaticPar, StaticIf, StaticRepeat, Timed, PlainStatement, Placed, PlainStatements, no_statements, a_statement}
use Rattle.cx_meaning.specs.Instances.{Instance, Node, State, cells_of, part_of, idle}
use Rattle.cx_meaning.specs.Active.{nothing, group, entries, Owned, source_order}
use Rattle.cx_meaning.specs.Truths.{truth_of}
use Rattle.cx_meaning.specs.Sights.{Held, seen}
use Rattle.cx_meaning.specs.Cycles.{cycle}
use Rattle.cx_meaning.specs.Answers.{turn_then, then_do, both, test_turn, loop_of, rounds}
use Rattle.cx_meaning.specs.Control.{drives, run, run_form, run_parts, run_arms}
use Rattle.cx_meaning.specs.Islands.{Occurrence, History, no_history, and_now, is_one, form_flat, form_length, active_in, looked_at, first_unclear, unless_unclear, island_turn, island_from, island}
use Rattle.cx_meaning.specs.Running.{Children, leaves, control_below, run_control}
use Rattle.cx_rules.specs.Circles.{IsAcyclic, AcyclicBelow}
use Rattle.cx_rules.specs.Footprints.{AssignNames}
use Rattle.cx_rules.specs.Items.{Context, Dynamic, below_dynamic, Visited, visit, visit_parts, visit_all, test_in}
use Rattle.cx_frames.proofs.IslandFrames.{AllFine, AreSame, active_same, looked_same, looked_good, unclear_same, form_fine}
use Rattle.cx_frames.proofs.InputLemmas.{Own, seen_own, cycle_own, test_own, enable_own}

abbrev AnyGroup : ℕ → Type 0
AnyGroup g = Unit {0}

module _ (i : Instance) (held other : Held) (same : (input : ℕ) → input < length (part_of i).inputs → held input ≡ other input)
    (own : (o : Owned) (q : PortRef) → In (source_order (part_of i)) o → AssignNames o.assign q → Own i q) (deeper : AcyclicBelow (cells_of i)) (bare : IsAcyclic i nothing) where
  module _ (list : List Occurrence) (fine : AllFine AnyGroup (Own i) list) (acyclic : (h : History) (t : ℕ) → IsAcyclic i (entries (active_in h t list))) where
    turn_same : (t : ℕ) (h k : History) (s : State) → AreSame AnyGroup (Own i) h k → island_turn i held list t h s ≡ island_turn i other list t k s
    turn_same t h k s alike =
        ap (λ ps. unless_unclear (first_unclear (seen i held nothing s) ps) (cycle i held (entries (active_in h t list)) s)) (looked_same AnyGroup (Own i) h k alike t list fine)
        ∙ ap (λ es. unless_unclear (first_unclear (seen i held nothing s) (looked_at k t list)) (cycle i held (entries es) s)) (active_same AnyGroup (Own i) h k alike t list fine)
        ∙ ap (λ x. unless_unclear x (cycle i held (entries (active_in k t list)) s))
        (unclear_same (seen i held nothing s) (seen i other nothing s) (looked_at k t list) (λ q j. seen_own i held other same own deeper nothing bare s q (looked_good AnyGroup (Own i) k t list fine q j)))
        ∙ ap (unless_unclear (first_unclear (seen i other nothing s) (looked_at k t list))) (cycle_own i held other same own deeper (entries (active_in k t list)) (acyclic k t) s)

    now_same : (t : ℕ) (h k : History) (s : State) → AreSame AnyGroup (Own i) h k → AreSame AnyGroup (Own i) (and_now h t (seen i held nothing s)) (and_now k t (seen i other nothing s))
    now_same t h k s alike port at inside = one (nat_eq t at)
      where
        one : (b : Bool) → (if b then is_one (truth_of (seen i held nothing s port)) else h port at) ≡ (if b then is_one (truth_of (seen i other nothing s port)) else k port at)
        one true = ap (λ x. is_one (truth_of x)) (seen_own i held other same own deeper nothing bare s port inside)
        one false = alike port at inside

    cycles_same : (rest t : ℕ) (h k : History) (s : State) (n : ℕ) → AreSame AnyGroup (Own i) h k → island_from i held list rest t h s n ≡ island_from i other list rest t k s n
    cycles_same zero t h k s n alike = refl
    cycles_same (suc rest) t h k s zero alike = refl
    cycles_same (suc rest) t h k s (suc n) alike =
        let before : History = and_now h t (seen i held nothing s) in
        let after : History = and_now k t (seen i other nothing s) in
        let later : AreSame AnyGroup (Own i) before after = now_same t h k s alike in
        ap (λ x. turn_then (idle i) s x (λ s1. island_from i held list rest (suc t) before s1 n)) (turn_same t before after s later)
        ∙ ap (λ f. turn_then (idle i) s (island_turn i other list t after s) f) (fun_ext (λ s1. cycles_same rest (suc t) before after s1 n later))

  abbrev IsOwnTest : PlainForm → Type 0
  IsOwnTest form = (p : PlacedPort) → test_in form ≡ Some p → Own i p.port

  -- the tests of a form are of ports that are there, and its island has no circle
  pub record IsSound (form : PlainForm) : Type 0 where
    pub tests : IsOwnTest form
    pub acyclic : (h : History) (t : ℕ) → IsAcyclic i (entries (active_in h t (form_flat (part_of i) form 0 [])))

  island_own : (context : Context) (form : PlainForm) → IsSound form → ((v : Visited) → In (visit_parts context form) v → IsSound v.form) → (s : State) (n : ℕ) → island i held form s n ≡ island i other form s n
  island_own context form sound all s n =
      cycles_same (form_flat (part_of i) form 0 [])
      (form_fine AnyGroup (Own i) IsOwnTest (λ f p h e. h p e) (part_of i) context form 0 [] sound.tests (record { groups = λ g j. tt; forms = λ v j. (all v j).tests }) tt) sound.acyclic
      (form_length (part_of i) form) 0 no_history no_history s n (λ port at inside. refl)

  module _ (children : Children) (groups : (g : ℕ) → IsAcyclic i (group g)) where
    mutual
      form_own : (context : Context) (form : PlainForm) → IsSound form → ((v : Visited) → In (visit_parts context form) v → IsSound v.form) → (s : State) (n : ℕ) → run_form (leaves i children held) form s n ≡ run_form (leaves i children other) form s n
      form_own context Empty sound all s n = refl
      form_own context (Enable g) sound all s n = enable_own i held other same own deeper children g (groups g) s n (island_own context (Enable g) sound all s n)
      form_own context (Seq no_statements) sound all s n = refl
      form_own context (Seq (a_statement first later)) sound all s n =
          ap (λ x. then_do x n (run_parts (leaves i children held) later)) (statement_own (below_dynamic context) first (λ v j. all v (in_left (visit (below_dynamic context) first) (visit_all (below_dynamic context) later) v j)) s n)
          ∙ ap (then_do (run (leaves i children other) first s n) n)
          (fun_ext (λ s1. fun_ext (λ m. parts_own (below_dynamic context) later (λ v j. all v (in_right (visit (below_dynamic context) first) (visit_all (below_dynamic context) later) v j)) s1 m)))
      form_own context (Par no_statements) sound all s n = refl
      form_own context (Par (a_statement first later)) sound all s n =
          ap (λ x. both ((leaves i children held).merged (drives (part_of i) first)) x (run_arms (leaves i children held) later s n))
          (statement_own (below_dynamic context) first (λ v j. all v (in_left (visit (below_dynamic context) first) (visit_all (below_dynamic context) later) v j)) s n)
          ∙ ap (both ((leaves i children held).merged (drives (part_of i) first)) (run (leaves i children other) first s n))
          (arms_own (below_dynamic context) later (λ v j. all v (in_right (visit (below_dynamic context) first) (visit_all (below_dynamic context) later) v j)) s n)
      form_own context (If test comb a b) sound all s n =
          ap (λ t. test_turn (idle i) t (run (leaves i children held) a) (run (leaves i children held) b) s n) (fun_ext (λ s1. test_own i held other same own deeper bare groups test.port (sound.tests test refl) comb s1))
          ∙ ap (λ f. test_turn (idle i) ((leaves i children other).test test.port comb) f (run (leaves i children held) b) s n)
          (fun_ext (λ s1. fun_ext (λ m. statement_own (below_dynamic context) a (λ v j. all v (in_left (visit (below_dynamic context) a) (visit (below_dynamic context) b) v j)) s1 m)))
          ∙ ap (λ f. test_turn (idle i) ((leaves i children other).test test.port comb) (run (leaves i children other) a) f s n)
          (fun_ext (λ s1. fun_ext (λ m. statement_own (below_dynamic context) b (λ v j. all v (in_right (visit (below_dynamic context) a) (visit (below_dynamic context) b) v j)) s1 m)))
      form_own context (While test comb a) sound all s n =
          ap (λ t. loop_of (idle i) t (run (leaves i children held) a) s n) (fun_ext (λ s1. test_own i held other same own deeper bare groups test.port (sound.tests test refl) comb s1))
          ∙ ap (λ f. loop_of (idle i) ((leaves i children other).test test.port comb) f s n) (fun_ext (λ s1. fun_ext (λ m. statement_own (below_dynamic context) a all s1 m)))
      form_own context (Repeat zero a) sound all s n = refl
      form_own context (Repeat (suc k) a) sound all s n = ap (λ f. rounds (suc k) f s n) (fun_ext (λ s1. fun_ext (λ m. statement_own (below_dynamic context) a all s1 m)))
      form_own context (StaticSeq length parts) sound all s n = island_own context (StaticSeq length parts) sound all s n
      form_own context (StaticPar length arms) sound all s n = island_own context (StaticPar length arms) sound all s n
      form_own context (StaticIf length test a b) sound all s n = island_own context (StaticIf length test a b) sound all s n
      form_own context (StaticRepeat length count a) sound all s n = island_own context (StaticRepeat length count a) sound all s n
      form_own context (Timed k) sound all s n = refl

      pub statement_own : (context : Context) (statement : PlainStatement) → ((v : Visited) → In (visit context statement) v → IsSound v.form) → (s : State) (n : ℕ) → run (leaves i children held) statement s n ≡ run (leaves i children other) statement s n
      statement_own context (Placed form place) all s n = form_own context form (all (record { context = context; form = form; place = place }) (inl refl)) (λ v j. all v (inr j)) s n

      parts_own : (context : Context) (parts : PlainStatements) → ((v : Visited) → In (visit_all context parts) v → IsSound v.form) → (s : State) (n : ℕ) → run_parts (leaves i children held) parts s n ≡ run_parts (leaves i children other) parts s n
      parts_own context no_statements all s n = refl
      parts_own context (a_statement first later) all s n =
          ap (λ x. then_do x n (run_parts (leaves i children held) later)) (statement_own context first (λ v j. all v (in_left (visit context first) (visit_all context later) v j)) s n)
          ∙ ap (then_do (run (leaves i children other) first s n) n) (fun_ext (λ s1. fun_ext (λ m. parts_own context later (λ v j. all v (in_right (visit context first) (visit_all context later) v j)) s1 m)))

      arms_own : (context : Context) (arms : PlainStatements) → ((v : Visited) → In (visit_all context arms) v → IsSound v.form) → (s : State) (n : ℕ) → run_arms (leaves i children held) arms s n ≡ run_arms (leaves i children other) arms s n
      arms_own context no_statements all s n = refl
      arms_own context (a_statement first later) all s n =
          ap (λ x. both ((leaves i children held).merged (drives (part_of i) first)) x (run_arms (leaves i children held) later s n)) (statement_own context first (λ v j. all v (in_left (visit context first) (visit_all context later) v j)) s n)
          ∙ ap (both ((leaves i children held).merged (drives (part_of i) first)) (run (leaves i children other) first s n)) (arms_own context later (λ v j. all v (in_right (visit context first) (visit_all context later) v j)) s n)

  pub control_own : ((g : ℕ) → IsAcyclic i (group g)) → ((v : Visited) → In (visit Dynamic (part_of i).control) v → IsSound v.form) → (s : State) (n : ℕ) → run_control i held s n ≡ run_control i other s n
  control_own groups all s n = of_node i (λ children. statement_own children groups Dynamic (part_of i).control all s n)
    where
      of_node : (x : Instance) → ((children : Children) → run (leaves x children held) (part_of x).control s n ≡ run (leaves x children other) (part_of x).control s n) → run_control x held s n ≡ run_control x other s n
      of_node (Node part cells) h = h (control_below cells)
