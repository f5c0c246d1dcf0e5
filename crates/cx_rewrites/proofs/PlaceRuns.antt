-- RUNS HANG ON NO PLACE, but for the order of assignments: leaves, statements, and the control of an instance.
use Rattle.std.proofs.Common.{◌≡◌, ℕ, zero, suc, Bool, true, false, List, [], length, Option, Some, None, refl, sym, ap, ◌∙◌, subst}
use Rattle.std.proofs.Math.Path.{fun_ext}
use Rattle.cx_meaning.specs.declared.ports.PortRef.{PortRef}
use Rattle.cx_meaning.specs.declared.ports.PortRef.TheVariants as ports
use Rattle.cx_meaning.specs.declared.kinds.GroupKind.{GroupKind}
use Rattle.cx_meaning.specs.declared.kinds.GroupKind.TheVariants as kinds
use Rattle.cx_meaning.specs.Designs.{PlainComponent, group_at, PlainForm, Empty, Enable, Seq, Par, If, While, Repeat, StaticSeq, StaticPar, StaticIf, StaticRepeat, Timed, PlainStatement, Placed, PlainStatements, no_statements, a_statement}
use Rattle.cx_meaning.specs.Instances.{Instance, Node, Cells, no_cells, a_primitive, an_instance, part_of, State, Set, under, merge, idle}
use Rattle.cx_meaning.specs.Active.{Active, nothing, group, comb, capture, Entry, entries}
use Rattle.cx_meaning.specs.Truths.{truth_of}
use Rattle.cx_meaning.specs.Sights.{Look, Held, seen}
use Rattle.cx_meaning.specs.Cycles.{Fault, Ended, cycle}
use Rattle.cx_meaning.specs.Answers.{Answer, Meaning, Test, Holds, Fails, Unclear, turn_then, turns_of, one_turn, idle_turn, then_do}
use Rattle.cx_meaning.specs.Control.{Leaves, groups_of, groups_drive, run}
use Rattle.cx_meaning.specs.Islands.{kind_length, group_length, form_length, Occurrence, form_flat, History, no_history, and_now, active_in, looked_at, first_unclear, turn_of, unless_unclear, island_from, island}
use Rattle.cx_meaning.specs.Calls.{hole_turn, group_turn, test_of, test, called, captures, lift_answer, inputs_of_call, after_child, call, call_or_turns, enable_kind, enable}
use Rattle.cx_meaning.specs.Running.{Children, leaves, run_control, control_below}
use Rattle.cx_rewrites.specs.Tallies.{none, uncounted}
use Rattle.cx_rewrites.specs.Carrying.{Exact, Same, TestCarried, Carried, Carries}
use Rattle.cx_rewrites.specs.Beside.{FormBeside, outright, empties, seqs, pars, ifs, whiles, repeats, Beside, placed, PartsBeside, no_parts, a_part, ArmsBeside, no_arms, an_arm}
use Rattle.cx_rewrites.specs.Places.{unplaced_port, unplaced_form, unplaced, unplaced_statements, SamePart}
use Rattle.cx_rewrites.proofs.FollowLemmas.{same_carries, carried_is_same}
use Rattle.cx_rewrites.proofs.BesideLemmas.{run_carries}
use Rattle.cx_rewrites.proofs.PlaceLemmas.{SameTree, SameCells, same_parts, seen-same, cycle-same, idle-same}
use Rattle.cx_rewrites.proofs.PlaceStatements.{kind-same, groups_drive-same, called-same, captures-same, groups_of-unplaced, form_length-unplaced, form_flat-unplaced}

-- from the same state, equal meanings carry each other
pub equal_carries : (go on : Meaning State Fault) → ((s : State) (n : ℕ) → on s n ≡ go s n) → Carries Exact Same (λ (f : Fault). f) (λ s n. none) go on
equal_carries go on h before s z n m room same =
    subst (λ x. Carried Exact Same (λ (f : Fault). f) before none (go s n) x) (sym (h z m)) (same_carries (λ s1 k. none) go before s z n m room same)

-- LEAVES of two instances of the same tree, whose children run alike
module _ (i j : Instance) (t : SameTree i j) (kids others : Children) (children : (c : ℕ) (held : Held) (s : State) (n : ℕ) → others c held s n ≡ kids c held s n) (held : Held) where
  rest_is : idle j ≡ idle i
  rest_is = fun_ext (λ s. sym (idle-same i j t s))

  look_is : (act : Active) (s : State) → seen j held act s ≡ seen i held act s
  look_is act s = fun_ext (λ p. sym (seen-same i j t held act s p))

  cycle_is : (act : Active) → cycle j held act ≡ cycle i held act
  cycle_is act = fun_ext (λ s. sym (cycle-same i j t held act s))

  group_turn_is : (g : ℕ) → group_turn j held g ≡ group_turn i held g
  group_turn_is g =
      fun_ext (λ s.
      ap (λ look. hole_turn g (cycle j held (group g) s) (truth_of (look (ports.Done g)))) (look_is (group g) s)
      ∙ ap (λ (go : State → Ended). hole_turn g (go s) (truth_of (seen i held (group g) s (ports.Done g)))) (cycle_is (group g)))

  test_is : (p : PortRef) (with_group : Option ℕ) (s : State) → test j held p with_group s ≡ test i held p with_group s
  test_is p with_group s = ap (λ look. test_of p (truth_of (look p))) (look_is (comb with_group) s)

  -- an island
  one_cycle : (before : History) (t0 : ℕ) (list : List Occurrence) (s : State) → (State → State) → Look → (List Entry → Ended) → (History → State → Answer State Fault) → Answer State Fault
  one_cycle before t0 list s rest look go later =
      turn_then rest s (unless_unclear (first_unclear look (looked_at (and_now before t0 look) t0 list)) (go (active_in (and_now before t0 look) t0 list))) (λ after. later (and_now before t0 look) after)

  island_from_is : (list : List Occurrence) (left t0 : ℕ) (before : History) (s : State) (n : ℕ) → island_from j held list left t0 before s n ≡ island_from i held list left t0 before s n
  unfolding one_cycle
  island_from_is list zero t0 before s n = ap (λ rest. idle_turn rest s n) rest_is
  island_from_is list (suc left) t0 before s zero = refl
  island_from_is list (suc left) t0 before s (suc n) =
      ap (λ rest. one_cycle before t0 list s rest (seen j held nothing s) (λ es. cycle j held (entries es) s) (λ h after. island_from j held list left (suc t0) h after n)) rest_is
      ∙ ap (λ look. one_cycle before t0 list s (idle i) look (λ es. cycle j held (entries es) s) (λ h after. island_from j held list left (suc t0) h after n)) (look_is nothing s)
      ∙ ap (λ go. one_cycle before t0 list s (idle i) (seen i held nothing s) go (λ h after. island_from j held list left (suc t0) h after n))
      (fun_ext (λ es. ap (λ (go : State → Ended). go s) (cycle_is (entries es))))
      ∙ ap (one_cycle before t0 list s (idle i) (seen i held nothing s) (λ es. cycle i held (entries es) s)) (fun_ext (λ h. fun_ext (λ after. island_from_is list left (suc t0) h after n)))

  lengths : (g : ℕ) → group_length (part_of j) g ≡ group_length (part_of i) g
  lengths g = ap kind_length (sym (kind-same (part_of i) (part_of j) (same_parts i j t) g))

  island_is : (form : PlainForm) (s : State) (n : ℕ) → island j held (unplaced_form form) s n ≡ island i held form s n
  island_is form s n =
      ap (λ list. island_from j held list (form_length (part_of j) (unplaced_form form)) 0 no_history s n) (form_flat-unplaced (part_of i) (part_of j) lengths form 0 [])
      ∙ ap (λ left. island_from j held (form_flat (part_of i) form 0 []) left 0 no_history s n) (form_length-unplaced (part_of i) (part_of j) lengths form)
      ∙ island_from_is (form_flat (part_of i) form 0 []) (form_length (part_of i) form) 0 no_history s n

  -- a call
  after_child_is : (g c : ℕ) (capturing : Bool) → after_child j held g c capturing ≡ after_child i held g c capturing
  after_child_is g c true =
      fun_ext (λ s. fun_ext (λ n.
      ap (λ rest. one_turn rest (λ s1. turn_of (cycle j held (capture g c) s1)) (idle_turn rest) s n) rest_is
      ∙ ap (λ (go : State → Ended). one_turn (idle i) (λ s1. turn_of (go s1)) (idle_turn (idle i)) s n) (cycle_is (capture g c))))
  after_child_is g c false = fun_ext (λ s. fun_ext (λ n. ap (λ rest. idle_turn rest s n) rest_is))

  call_is : (g c : ℕ) (s : State) (n : ℕ) → call j others held g c s n ≡ call i kids held g c s n
  call_is g c s n =
      ap (λ (inputs : Held). then_do (lift_answer c s (others c inputs (under c s) n)) n (after_child j held g c (captures j g)))
      (ap {B = Held} (λ look input. look (ports.Cell c (suc input))) (look_is (group g) s))
      ∙ ap (λ x. then_do (lift_answer c s x) n (after_child j held g c (captures j g))) (children c (inputs_of_call i held g c s) (under c s) n)
      ∙ ap (then_do (lift_answer c s (kids c (inputs_of_call i held g c s) (under c s) n)) n) (after_child_is g c (captures j g) ∙ ap (after_child i held g c) (sym (captures-same i j t g)))

  call_or_turns_is : (g : ℕ) (c : Option ℕ) (s : State) (n : ℕ) → call_or_turns j others held g c s n ≡ call_or_turns i kids held g c s n
  call_or_turns_is g (Some c) s n = call_is g c s n
  call_or_turns_is g None s n = ap (λ rest. turns_of rest (group_turn j held g) s n) rest_is ∙ ap (λ turn. turns_of (idle i) turn s n) (group_turn_is g)

  enable_kind_is : (g : ℕ) (kind : GroupKind) (s : State) (n : ℕ) → enable_kind j others held g kind s n ≡ enable_kind i kids held g kind s n
  enable_kind_is g kinds.Plain s n = ap (λ c. call_or_turns j others held g c s n) (sym (called-same i j t g)) ∙ call_or_turns_is g (called i g) s n
  enable_kind_is g kinds.Comb s n = ap (λ c. call_or_turns j others held g c s n) (sym (called-same i j t g)) ∙ call_or_turns_is g (called i g) s n
  enable_kind_is g (kinds.Timed k) s n = island_is (Enable g) s n

  enable_is : (g : ℕ) (s : State) (n : ℕ) → enable j others held g s n ≡ enable i kids held g s n
  enable_is g s n = ap (λ kind. enable_kind j others held g kind s n) (sym (kind-same (part_of i) (part_of j) (same_parts i j t) g)) ∙ enable_kind_is g (group_at (part_of i) g).kind s n

  -- STATEMENTS stand beside themselves without places
  abbrev L : Leaves State Fault
  L = leaves i kids held

  abbrev M : Leaves State Fault
  M = leaves j others held

  abbrev id : Fault → Fault
  id f = f

  tests_carry : (p : PortRef) (with_group : Option ℕ) (s z : State) → s ≡ z → TestCarried Exact id (L.test p with_group s) (M.test p with_group z)
  tests_carry p with_group s z e =
      subst (λ x. TestCarried Exact id (test i held p with_group s) x) (sym (test_is p with_group z)) (subst (λ y. TestCarried Exact id (test i held p with_group s) (test i held p with_group y)) e (itself (test i held p with_group s)))
    where
      itself : (x : Test Fault) → TestCarried Exact id x x
      itself Holds = refl
      itself Fails = refl
      itself (Unclear f) = refl

  merges_is : (arm : PlainStatement) (a b x y : State) → a ≡ x → b ≡ y → merge (groups_drive (part_of i) (groups_of arm)) a b ≡ merge (groups_drive (part_of j) (groups_of (unplaced arm))) x y
  merges_is arm a b x y e f =
      ap (λ (set : Set). merge set a b) (fun_ext (λ c. groups_drive-same (part_of i) (part_of j) (same_parts i j t) (groups_of arm) c))
      ∙ ap (λ gs. merge (groups_drive (part_of j) gs) a b) (sym (groups_of-unplaced arm))
      ∙ ap (λ s. merge (groups_drive (part_of j) (groups_of (unplaced arm))) s b) e
      ∙ ap (merge (groups_drive (part_of j) (groups_of (unplaced arm))) x) f

  mutual
    form_beside : (form : PlainForm) → FormBeside Exact Same id L uncounted M form (unplaced_form form)
    form_beside Empty = empties
    form_beside (Enable g) = outright (equal_carries (L.enable g) (M.enable g) (enable_is g))
    form_beside (Seq parts) = seqs (parts_beside parts)
    form_beside (Par arms) = pars (arms_beside arms)
    form_beside (If test comb a b) = ifs {p = test} {q = unplaced_port test} (λ before s z same. tests_carry test.port comb s z same) (beside a) (beside b)
    form_beside (While test comb a) = whiles {p = test} {q = unplaced_port test} (λ before s z same. tests_carry test.port comb s z same) (beside a)
    form_beside (Repeat count a) = repeats (beside a)
    form_beside (StaticSeq length parts) = outright (equal_carries (island i held (StaticSeq length parts)) (island j held (unplaced_form (StaticSeq length parts))) (island_is (StaticSeq length parts)))
    form_beside (StaticPar length arms) = outright (equal_carries (island i held (StaticPar length arms)) (island j held (unplaced_form (StaticPar length arms))) (island_is (StaticPar length arms)))
    form_beside (StaticIf length test a b) = outright (equal_carries (island i held (StaticIf length test a b)) (island j held (unplaced_form (StaticIf length test a b))) (island_is (StaticIf length test a b)))
    form_beside (StaticRepeat length count a) =
        outright (equal_carries (island i held (StaticRepeat length count a)) (island j held (unplaced_form (StaticRepeat length count a))) (island_is (StaticRepeat length count a)))
    form_beside (Timed k) = outright (equal_carries (L.timed k) (M.timed k) (λ s n. refl))

    beside : (s : PlainStatement) → Beside Exact Same id L uncounted M s (unplaced s)
    beside (Placed form place) = placed (form_beside form)

    parts_beside : (ss : PlainStatements) → PartsBeside Exact Same id L uncounted M ss (unplaced_statements ss)
    parts_beside no_statements = no_parts
    parts_beside (a_statement s ss) = a_part (beside s) (parts_beside ss)

    arms_beside : (ss : PlainStatements) → ArmsBeside Exact Same id L uncounted M ss (unplaced_statements ss)
    arms_beside no_statements = no_arms
    arms_beside (a_statement s ss) = an_arm (λ before z n a b x y t0 v e f p q. merges_is s a b x y p q) (beside s) (arms_beside ss)

  run-unplaced : (statement : PlainStatement) (s : State) (n : ℕ) → run M (unplaced statement) s n ≡ run L statement s n
  run-unplaced statement s n =
      carried_is_same none none (run L statement s n) (run M (unplaced statement) s n)
      (run_carries Exact Same id L uncounted M (λ before a b same. ap (idle i) same ∙ idle-same i j t b) (beside statement) none s s n n refl refl)

-- a component and a tree are the same as themselves
pub same_part_itself : (part : PlainComponent) → SamePart part part
same_part_itself part = record { name = refl; latency = refl; inputs = refl; outputs = refl; cells = refl; groups = refl; always = refl; order = refl; invokes = refl; control = refl }

mutual
  pub same_tree_itself : (i : Instance) → SameTree i i
  same_tree_itself (Node part cells) = (same_part_itself part, same_cells_themselves cells)

  same_cells_themselves : (cells : Cells) → SameCells cells cells
  same_cells_themselves no_cells = tt
  same_cells_themselves (a_primitive row rest) = (refl, same_cells_themselves rest)
  same_cells_themselves (an_instance child rest) = (same_tree_itself child, same_cells_themselves rest)

-- CONTROL is the same
mutual
  pub run_control-same : (i j : Instance) → SameTree i j → (held : Held) (s : State) (n : ℕ) → run_control i held s n ≡ run_control j held s n
  run_control-same (Node part cells) (Node other more) (h, hs) held s n =
      sym (run-unplaced (Node part cells) (Node other more) (h, hs) (control_below cells) (control_below more) (λ c own s1 m. sym (control_below-same cells more hs c own s1 m)) held part.control s n)
      ∙ ap (λ control. run (leaves (Node other more) (control_below more) held) control s n) h.control
      ∙ run-unplaced (Node other more) (Node other more) (same_tree_itself (Node other more)) (control_below more) (control_below more) (λ c own s1 m. refl) held other.control s n

  control_below-same : (cells more : Cells) → SameCells cells more → (c : ℕ) (held : Held) (s : State) (n : ℕ) → control_below cells c held s n ≡ control_below more c held s n
  control_below-same no_cells no_cells h c held s n = refl
  control_below-same no_cells (a_primitive twin more) h c held s n = absurd h
  control_below-same no_cells (an_instance twin more) h c held s n = absurd h
  control_below-same (a_primitive row rest) no_cells h c held s n = absurd h
  control_below-same (a_primitive row rest) (a_primitive twin more) (e, h) zero held s n = refl
  control_below-same (a_primitive row rest) (a_primitive twin more) (e, h) (suc c) held s n = control_below-same rest more h c held s n
  control_below-same (a_primitive row rest) (an_instance twin more) h c held s n = absurd h
  control_below-same (an_instance child rest) no_cells h c held s n = absurd h
  control_below-same (an_instance child rest) (a_primitive twin more) h c held s n = absurd h
  control_below-same (an_instance child rest) (an_instance twin more) (t, h) zero held s n = run_control-same child twin t held s n
  control_below-same (an_instance child rest) (an_instance twin more) (t, h) (suc c) held s n = control_below-same rest more h c held s n
