-- THE MEANING IS THE LANDED ONE where nothing is static: a design without static invokes and static components runs as it did.
use Rattle.std.proofs.Common.{◌≡◌, ℕ, zero, suc, Bool, true, false, nat_eq, cond, List, [], map, Option, Some, None, refl, ap, ◌∙◌}
use Rattle.std.proofs.Math.Path.{fun_ext}
use Rattle.cx_meaning.specs.declared.ports.PortRef.TheVariants as ports
use Rattle.cx_meaning.specs.declared.kinds.GroupKind.{GroupKind}
use Rattle.cx_meaning.specs.declared.kinds.GroupKind.TheVariants as kinds
use Rattle.cx_meaning.specs.Designs.{PlainComponent, PlainDesign, group_at, PlainForm, Empty, Enable, Seq, Par, If, While, Repeat, StaticSeq, StaticPar, StaticIf, StaticRepeat, Timed, PlainStatement, Placed, PlainStatements, no_statements, a_statement}
use Rattle.cx_meaning.specs.Instances.{Instance, Node, Cells, no_cells, a_primitive, an_instance, State, idle, merge, under, tree_of, start}
use Rattle.cx_meaning.specs.Truths.{truth_of}
use Rattle.cx_meaning.specs.Active.{nothing, entries, group, capture}
use Rattle.cx_meaning.specs.Sights.{Held, unheld, seen}
use Rattle.cx_meaning.specs.Cycles.{Fault, cycle}
use Rattle.cx_meaning.specs.Answers.{then_do, idle_turn, one_turn, turns_of, turn_then, test_turn, loop_of, rounds, both}
use Rattle.cx_meaning.specs.Control.{Leaves, drives, run, run_form, run_parts, run_arms}
use Rattle.cx_meaning.specs.Islands.{Occurrence, form_flat, form_length, looked_at, active_in, is_one, turn_of, unless_unclear, island_turn, island_from, island}
use Rattle.cx_meaning.specs.Islands as islands
use Rattle.cx_meaning.specs.Calls.{hole_turn, called, captures, lift_answer, inputs_of_call}
use Rattle.cx_meaning.specs.Calls as calls
use Rattle.cx_meaning.specs.Running.{Children, leaves, run_control, control_below, run_main}
use Rattle.cx_rules.specs.Invokes.{form_lasts, drives_all}
use Rattle.cx_rules.proofs.InvokesLemmas.{drives_all-flat}
use Rattle.cx_flattening.specs.Events.{events_below}
use Rattle.cx_flattening.specs.Deeds.{History, no_history, and_now, deeds_in, own_entries, first_unclear}
use Rattle.cx_flattening.specs.Whole.{look_below, whole_cycle, whole_turn, whole_from, whole_island, after_child, group_turn, call_or_turns, enable_kind, whole_leaves, whole_control, whole_below, whole_main}
use Rattle.cx_flattening.proofs.BareIslands.{Bare, BareOne, BareAll, event_of, bare_form, bare_form_lasts, Says, acts_same, looks_same, unclear_same, NoStatic, whole_is_cycle}

module _ (part : PlainComponent) (cells : Cells) (none : part.invokes ≡ []) (u : NoStatic cells) (held : Held) where
  pub says_now : (h : History) (k : islands.History) → Says h k → (t : ℕ) (s : State) → Says (and_now h t (look_below (Node part cells) held s)) (islands.and_now k t (seen (Node part cells) held nothing s))
  says_now h k says t s p at = ap (λ b. cond (nat_eq t at) (is_one (truth_of (seen (Node part cells) held nothing s p))) b) (says p at)

  pub turn_same : (list : List Occurrence) (t : ℕ) (h : History) (k : islands.History) → Says h k → (s : State) → whole_turn (Node part cells) held (map event_of list) t h s ≡ island_turn (Node part cells) held list t k s
  turn_same list t h k says s =
      ap (λ x. unless_unclear x (whole_cycle (Node part cells) held (entries (own_entries (deeds_in h t (map event_of list)))) (deeds_in h t (map event_of list)) s))
      (ap (first_unclear (look_below (Node part cells) held s)) (looks_same h k says t list) ∙ unclear_same (look_below (Node part cells) held s) (looked_at k t list))
      ∙ ap (unless_unclear (islands.first_unclear (seen (Node part cells) held nothing s) (looked_at k t list)))
      (whole_is_cycle (Node part cells) u held (entries (own_entries (deeds_in h t (map event_of list)))) (deeds_in h t (map event_of list)) s
      ∙ ap (λ es. cycle (Node part cells) held (entries es) s) (acts_same h k says t list))

  from_same : (list : List Occurrence) (left t : ℕ) (h : History) (k : islands.History) → Says h k → (s : State) (n : ℕ)
      → whole_from (Node part cells) held (map event_of list) left t h s n ≡ island_from (Node part cells) held list left t k s n
  from_same list zero t h k says s n = refl
  from_same list (suc left) t h k says s zero = refl
  from_same list (suc left) t h k says s (suc n) =
      ap (λ turn. turn_then (idle (Node part cells)) s turn (λ after. whole_from (Node part cells) held (map event_of list) left (suc t) (and_now h t (look_below (Node part cells) held s)) after n))
      (turn_same list t (and_now h t (look_below (Node part cells) held s)) (islands.and_now k t (seen (Node part cells) held nothing s)) (says_now h k says t s) s)
      ∙ ap (turn_then (idle (Node part cells)) s (island_turn (Node part cells) held list t (islands.and_now k t (seen (Node part cells) held nothing s)) s))
      (fun_ext (λ after. from_same list left (suc t) (and_now h t (look_below (Node part cells) held s)) (islands.and_now k t (seen (Node part cells) held nothing s)) (says_now h k says t s) after n))

  -- AN ISLAND is the landed one
  pub island_same : (form : PlainForm) → Bare form → (s : State) (n : ℕ) → whole_island (Node part cells) held form s n ≡ island (Node part cells) held form s n
  island_same form bare s n =
      ap (λ list. whole_from (Node part cells) held list (form_lasts part form) 0 no_history s n) (bare_form part (events_below cells) form bare 0 [])
      ∙ ap (λ left. whole_from (Node part cells) held (map event_of (form_flat part form 0 [])) left 0 no_history s n) (bare_form_lasts part (events_below cells) form bare)
      ∙ from_same (form_flat part form 0 []) (form_length part form) 0 no_history islands.no_history (λ p at. refl) s n

  -- what it drives
  drives_same : (s : PlainStatement) → drives_all part s ≡ drives part s
  drives_same s = fun_ext (λ c. drives_all-flat part none s c)

  module _ (below beneath : Children) (children : (c : ℕ) (h : Held) (s : State) (n : ℕ) → below c h s n ≡ beneath c h s n) where
    group_turn_same : (g : ℕ) (s : State) → group_turn (Node part cells) held g s ≡ calls.group_turn (Node part cells) held g s
    group_turn_same g s = ap (λ e. hole_turn g e (truth_of (seen (Node part cells) held (group g) s (ports.Done g)))) (whole_is_cycle (Node part cells) u held (group g) [] s)

    after_same : (g c : ℕ) (b : Bool) (s : State) (n : ℕ) → after_child (Node part cells) held g c b s n ≡ calls.after_child (Node part cells) held g c b s n
    after_same g c true s n = ap (λ turn. one_turn (idle (Node part cells)) turn (idle_turn (idle (Node part cells))) s n) (fun_ext (λ s1. ap turn_of (whole_is_cycle (Node part cells) u held (capture g c) [] s1)))
    after_same g c false s n = refl

    call_same : (g : ℕ) (o : Option ℕ) (s : State) (n : ℕ) → call_or_turns (Node part cells) below held g o s n ≡ calls.call_or_turns (Node part cells) beneath held g o s n
    call_same g (Some c) s n =
        ap (λ a. then_do (lift_answer c s a) n (after_child (Node part cells) held g c (captures (Node part cells) g))) (children c (inputs_of_call (Node part cells) held g c s) (under c s) n)
        ∙ ap (then_do (lift_answer c s (beneath c (inputs_of_call (Node part cells) held g c s) (under c s) n)) n) (fun_ext (λ s1. fun_ext (λ m. after_same g c (captures (Node part cells) g) s1 m)))
    call_same g None s n = ap (λ turn. turns_of (idle (Node part cells)) turn s n) (fun_ext (λ s1. group_turn_same g s1))

    kind_same : (g : ℕ) (kind : GroupKind) (s : State) (n : ℕ) → enable_kind (Node part cells) below held g kind s n ≡ calls.enable_kind (Node part cells) beneath held g kind s n
    kind_same g kinds.Plain s n = call_same g (called (Node part cells) g) s n
    kind_same g kinds.Comb s n = call_same g (called (Node part cells) g) s n
    kind_same g (kinds.Timed length) s n = island_same (Enable g) tt s n

    abbrev new : Leaves State Fault
    new = whole_leaves (Node part cells) below held

    abbrev old : Leaves State Fault
    old = leaves (Node part cells) beneath held

    -- A RUN is the landed one
    mutual
      pub run_same : (st : PlainStatement) → BareOne st → (s : State) (n : ℕ) → run new st s n ≡ run old st s n
      run_same (Placed form place) b s n = form_same form b s n

      form_same : (form : PlainForm) → Bare form → (s : State) (n : ℕ) → run_form new form s n ≡ run_form old form s n
      form_same Empty b s n = refl
      form_same (Enable g) b s n = kind_same g (group_at part g).kind s n
      form_same (Seq no_statements) b s n = refl
      form_same (Seq (a_statement first later)) b s n =
          ap (λ a. then_do a n (run_parts new later)) (run_same first b.0 s n)
          ∙ ap (then_do (run old first s n) n) (fun_ext (λ s1. fun_ext (λ m. parts_same later b.1 s1 m)))
      form_same (Par no_statements) b s n = refl
      form_same (Par (a_statement first later)) b s n =
          ap (λ d. both (merge d) (run new first s n) (run_arms new later s n)) (drives_same first)
          ∙ ap (λ a. both (merge (drives part first)) a (run_arms new later s n)) (run_same first b.0 s n)
          ∙ ap (both (merge (drives part first)) (run old first s n)) (arms_same later b.1 s n)
      form_same (If test comb x y) b s n =
          ap (λ m. test_turn (idle (Node part cells)) (calls.test (Node part cells) held test.port comb) m (run new y) s n) (fun_ext (λ s1. fun_ext (λ m. run_same x b.0 s1 m)))
          ∙ ap (λ m. test_turn (idle (Node part cells)) (calls.test (Node part cells) held test.port comb) (run old x) m s n) (fun_ext (λ s1. fun_ext (λ m. run_same y b.1 s1 m)))
      form_same (While test comb x) b s n = ap (λ m. loop_of (idle (Node part cells)) (calls.test (Node part cells) held test.port comb) m s n) (fun_ext (λ s1. fun_ext (λ m. run_same x b s1 m)))
      form_same (Repeat zero x) b s n = refl
      form_same (Repeat (suc k) x) b s n = ap (λ m. rounds (suc k) m s n) (fun_ext (λ s1. fun_ext (λ m. run_same x b s1 m)))
      form_same (StaticSeq length ss) b s n = island_same (StaticSeq length ss) b s n
      form_same (StaticPar length arms) b s n = island_same (StaticPar length arms) b s n
      form_same (StaticIf length test x y) b s n = island_same (StaticIf length test x y) b s n
      form_same (StaticRepeat length count x) b s n = island_same (StaticRepeat length count x) b s n
      form_same (Timed k) b s n = absurd b

      parts_same : (ss : PlainStatements) → BareAll ss → (s : State) (n : ℕ) → run_parts new ss s n ≡ run_parts old ss s n
      parts_same no_statements b s n = refl
      parts_same (a_statement first later) b s n =
          ap (λ a. then_do a n (run_parts new later)) (run_same first b.0 s n)
          ∙ ap (then_do (run old first s n) n) (fun_ext (λ s1. fun_ext (λ m. parts_same later b.1 s1 m)))

      arms_same : (ss : PlainStatements) → BareAll ss → (s : State) (n : ℕ) → run_arms new ss s n ≡ run_arms old ss s n
      arms_same no_statements b s n = refl
      arms_same (a_statement first later) b s n =
          ap (λ d. both (merge d) (run new first s n) (run_arms new later s n)) (drives_same first)
          ∙ ap (λ a. both (merge (drives part first)) a (run_arms new later s n)) (run_same first b.0 s n)
          ∙ ap (both (merge (drives part first)) (run old first s n)) (arms_same later b.1 s n)

-- no static invoke and no static child in a tree
abbrev mutual
  pub BareTree : Instance → Type 0
  BareTree (Node part cells) = (part.invokes ≡ []) × (BareOne part.control × (NoStatic cells × BareCells cells))

  pub BareCells : Cells → Type 0
  BareCells no_cells = Unit {0}
  BareCells (a_primitive row rest) = BareCells rest
  BareCells (an_instance child rest) = BareTree child × BareCells rest

mutual
  pub control_same : (i : Instance) → BareTree i → (held : Held) (s : State) (n : ℕ) → whole_control i held s n ≡ run_control i held s n
  control_same (Node part cells) b held s n = run_same part cells b.0 b.1.1.0 held (whole_below cells) (control_below cells) (below_same cells b.1.1.1) part.control b.1.0 s n

  pub below_same : (cells : Cells) → BareCells cells → (c : ℕ) (held : Held) (s : State) (n : ℕ) → whole_below cells c held s n ≡ control_below cells c held s n
  below_same no_cells b c held s n = refl
  below_same (a_primitive row rest) b zero held s n = refl
  below_same (a_primitive row rest) b (suc c) held s n = below_same rest b c held s n
  below_same (an_instance child rest) b zero held s n = control_same child b.0 held s n
  below_same (an_instance child rest) b (suc c) held s n = below_same rest b.1 c held s n

-- THE RUN OF MAIN is the landed one
pub main_same : (d : PlainDesign) → BareTree (tree_of d) → (words : List (List ℕ)) (n : ℕ) → whole_main d words n ≡ run_main d words n
main_same d b words n = control_same (tree_of d) b unheld (start (tree_of d) words) n
