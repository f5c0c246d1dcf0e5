-- WHAT IS COUNTED IS AS IT WAS where nothing is static.
use Rattle.std.proofs.Common.{◌≡◌, ℕ, zero, suc, ◌-◌, Bool, true, false, ◌&&◌, nat_le, nat_lt, List, [], ◌∷◌, map, Option, Some, None, refl, ap, ◌∙◌}
use Rattle.std.proofs.Math.Path.{fun_ext}
use Rattle.cx_meaning.specs.declared.ports.PortRef.TheVariants as ports
use Rattle.cx_meaning.specs.declared.kinds.GroupKind.{GroupKind}
use Rattle.cx_meaning.specs.declared.kinds.GroupKind.TheVariants as kinds
use Rattle.cx_meaning.specs.Designs.{PlainComponent, PlainDesign, group_at, PlainForm, Empty, Enable, Seq, Par, If, While, Repeat, StaticSeq, StaticPar, StaticIf, StaticRepeat, Timed, PlainStatement, Placed, PlainStatements, no_statements, a_statement}
use Rattle.cx_meaning.specs.Instances.{Instance, Node, Cells, no_cells, a_primitive, an_instance, Path, State, idle, under, tree_of, start}
use Rattle.cx_meaning.specs.Truths.{truth_of}
use Rattle.cx_meaning.specs.Active.{nothing, entries, group}
use Rattle.cx_meaning.specs.Sights.{Held, unheld, seen}
use Rattle.cx_meaning.specs.Cycles.{Fault}
use Rattle.cx_meaning.specs.Control.{Leaves, run}
use Rattle.cx_meaning.specs.Islands.{Occurrence, form_flat, form_length, active_in, island_turn}
use Rattle.cx_meaning.specs.Islands as islands
use Rattle.cx_meaning.specs.Calls.{hole_turn, called, inputs_of_call, test}
use Rattle.cx_meaning.specs.Running.{Children, leaves, control_below}
use Rattle.cx_rules.specs.Flat.{IsFlat}
use Rattle.cx_rules.specs.Invokes.{form_lasts}
use Rattle.cx_rules.specs.Wellformed.{IsDesign}
use Rattle.cx_rewrites.specs.Tallies.{plus, below, then_count, turn_count, turns_count, test_count, loop_count, rounds_count, Counting, count_form, count, count_parts, count_arms, island_count_from}
use Rattle.cx_rewrites.proofs.TallyLemmas.{same_numbers}
use Rattle.cx_flattening.specs.Events.{events_below}
use Rattle.cx_flattening.specs.Deeds.{History, no_history, hold, and_now, Acts, deed_if, deeds_in, deeds_below}
use Rattle.cx_flattening.specs.Whole.{look_below, whole_leaves, whole_below}
use Rattle.cx_flattening.proofs.BareIslands.{Bare, BareOne, BareAll, sample_of, event_of, bare_form, bare_form_lasts, Says, acts_same, NoStatic, whole_is_cycle}
use Rattle.cx_flattening.proofs.BareRuns.{run_same, BareTree, BareCells, says_now, turn_same, below_same}
use Rattle.cx_flattening.proofs.BareDesigns.{bare_design}
use Rattle.cx_profiling.specs.Counting.{made_with, ChildrenCount, count_island, count_call_or_turns, count_enable, counting, count_control, count_below, tally_of}
use Rattle.cx_profiling.specs.WholeCounting.{whole_count_form, whole_count, whole_count_parts, whole_count_arms, done_with, whole_count_from, count_whole_island, count_whole_call_or_turns, count_whole_enable, whole_counting, count_whole_control, count_whole_below, whole_tally_of}

-- nothing done counts nothing
pub nothing_done : (path : Path) (g : ℕ) → done_with [] path g ≡ 0
nothing_done [] g = refl
nothing_done (c ∷ path) g = nothing_done path g

module _ (h : History) (t : ℕ) where
  none_below : (c : ℕ) (list : List Occurrence) → deeds_below c (deeds_in h t (map event_of list)) ≡ []
  none_below c [] = refl
  none_below c (islands.Runs g from to conditions ∷ rest) = by (nat_le from t && nat_lt t to && hold h (map sample_of conditions)) (none_below c rest)
    where
      by : (b : Bool) → deeds_below c (deeds_in h t (map event_of rest)) ≡ [] → deeds_below c (deed_if b (Acts [] (record { group = g; offset = t - from })) (deeds_in h t (map event_of rest))) ≡ []
      by true e = e
      by false e = e
  none_below c (islands.Looks port at conditions ∷ rest) = none_below c rest

module _ (part : PlainComponent) (cells : Cells) (no_invoke : part.invokes ≡ []) (u : NoStatic cells) (held : Held) where
  done_same : (h : History) (k : islands.History) → Says h k → (t : ℕ) (list : List Occurrence) → done_with (deeds_in h t (map event_of list)) ≡ made_with (entries (active_in k t list))
  done_same h k says t list = same_numbers (done_with (deeds_in h t (map event_of list))) (made_with (entries (active_in k t list))) by
    where
      by : (path : Path) (g : ℕ) → done_with (deeds_in h t (map event_of list)) path g ≡ made_with (entries (active_in k t list)) path g
      by [] g = ap (λ es. made_with (entries es) [] g) (acts_same h k says t list)
      by (c ∷ path) g = ap (λ ds. done_with ds path g) (none_below h t c list) ∙ nothing_done path g

  from_same : (list : List Occurrence) (left t : ℕ) (h : History) (k : islands.History) → Says h k → (s : State) (n : ℕ)
      → whole_count_from (Node part cells) held (map event_of list) left t h s n ≡ island_count_from (λ es. made_with (entries es)) (Node part cells) held list left t k s n
  from_same list zero t h k says s n = refl
  from_same list (suc left) t h k says s zero = refl
  from_same list (suc left) t h k says s (suc n) =
      ap (λ turn. turn_count turn (λ after. plus (done_with (deeds_in (and_now h t (look_below (Node part cells) held s)) t (map event_of list))) (whole_count_from (Node part cells) held (map event_of list) left (suc t) (and_now h t (look_below (Node part cells) held s)) after n)))
      (turn_same part cells no_invoke u held list t (and_now h t (look_below (Node part cells) held s)) (islands.and_now k t (seen (Node part cells) held nothing s)) (says_now part cells no_invoke u held h k says t s) s)
      ∙ ap (turn_count (island_turn (Node part cells) held list t (islands.and_now k t (seen (Node part cells) held nothing s)) s))
      (fun_ext (λ after.
      ap (λ made. plus made (whole_count_from (Node part cells) held (map event_of list) left (suc t) (and_now h t (look_below (Node part cells) held s)) after n))
      (done_same (and_now h t (look_below (Node part cells) held s)) (islands.and_now k t (seen (Node part cells) held nothing s)) (says_now part cells no_invoke u held h k says t s) t list)
      ∙ ap (plus (made_with (entries (active_in (islands.and_now k t (seen (Node part cells) held nothing s)) t list))))
      (from_same list left (suc t) (and_now h t (look_below (Node part cells) held s)) (islands.and_now k t (seen (Node part cells) held nothing s)) (says_now part cells no_invoke u held h k says t s) after n)))

  -- AN ISLAND counts as it did
  island_same : (form : PlainForm) → Bare form → (s : State) (n : ℕ) → count_whole_island (Node part cells) held form s n ≡ count_island (Node part cells) held form s n
  island_same form bare s n =
      ap (λ list. whole_count_from (Node part cells) held list (form_lasts part form) 0 no_history s n) (bare_form part (events_below cells) form bare 0 [])
      ∙ ap (λ left. whole_count_from (Node part cells) held (map event_of (form_flat part form 0 [])) left 0 no_history s n) (bare_form_lasts part (events_below cells) form bare)
      ∙ from_same (form_flat part form 0 []) (form_length part form) 0 no_history islands.no_history (λ p at. refl) s n

  module _ (kids twins : Children) (children : (c : ℕ) (h : Held) (s : State) (n : ℕ) → kids c h s n ≡ twins c h s n)
      (counts others : ChildrenCount) (same : (c : ℕ) (h : Held) (s : State) (n : ℕ) → counts c h s n ≡ others c h s n) where
    call_same : (g : ℕ) (o : Option ℕ) (s : State) (n : ℕ) → count_whole_call_or_turns (Node part cells) counts held g o s n ≡ count_call_or_turns (Node part cells) others held g o s n
    call_same g (Some c) s n = ap (below c) (same c (inputs_of_call (Node part cells) held g c s) (under c s) n)
    call_same g None s n =
        ap (λ turn. turns_count turn (made_with (group g)) s n)
        (fun_ext (λ s1. ap (λ e. hole_turn g e (truth_of (seen (Node part cells) held (group g) s1 (ports.Done g)))) (whole_is_cycle (Node part cells) u held (group g) [] s1)))

    kind_same : (g : ℕ) (kind : GroupKind) (s : State) (n : ℕ) → count_whole_enable (Node part cells) counts held g kind s n ≡ count_enable (Node part cells) others held g kind s n
    kind_same g kinds.Plain s n = call_same g (called (Node part cells) g) s n
    kind_same g kinds.Comb s n = call_same g (called (Node part cells) g) s n
    kind_same g (kinds.Timed length) s n = island_same (Enable g) tt s n

    abbrev new : Leaves State Fault
    new = whole_leaves (Node part cells) kids held

    abbrev old : Leaves State Fault
    old = leaves (Node part cells) twins held

    abbrev counted : Counting State
    counted = whole_counting (Node part cells) counts held

    abbrev before : Counting State
    before = counting (Node part cells) others held

    runs : (st : PlainStatement) → BareOne st → (s : State) (n : ℕ) → run new st s n ≡ run old st s n
    runs st bare s n = run_same part cells no_invoke u held kids twins children st bare s n

    -- A STATEMENT counts as it did
    mutual
      pub count_same : (st : PlainStatement) → BareOne st → (s : State) (n : ℕ) → whole_count new counted st s n ≡ count old before st s n
      count_same (Placed form place) b s n = form_same form b s n

      form_same : (form : PlainForm) → Bare form → (s : State) (n : ℕ) → whole_count_form new counted form s n ≡ count_form old before form s n
      form_same Empty b s n = refl
      form_same (Enable g) b s n = kind_same g (group_at part g).kind s n
      form_same (Seq ss) b s n = parts_same ss b s n
      form_same (Par arms) b s n = arms_same arms b s n
      form_same (If test_port comb x y) b s n =
          ap (λ m. test_count (idle (Node part cells)) (test (Node part cells) held test_port.port comb) m (whole_count new counted y) s n) (fun_ext (λ s1. fun_ext (λ m. count_same x b.0 s1 m)))
          ∙ ap (λ m. test_count (idle (Node part cells)) (test (Node part cells) held test_port.port comb) (count old before x) m s n) (fun_ext (λ s1. fun_ext (λ m. count_same y b.1 s1 m)))
      form_same (While test_port comb x) b s n =
          ap (λ m. loop_count (suc n) (idle (Node part cells)) (test (Node part cells) held test_port.port comb) m (whole_count new counted x) s n) (fun_ext (λ s1. fun_ext (λ m. runs x b s1 m)))
          ∙ ap (λ m. loop_count (suc n) (idle (Node part cells)) (test (Node part cells) held test_port.port comb) (run old x) m s n) (fun_ext (λ s1. fun_ext (λ m. count_same x b s1 m)))
      form_same (Repeat k x) b s n =
          ap (λ m. rounds_count k m (whole_count new counted x) s n) (fun_ext (λ s1. fun_ext (λ m. runs x b s1 m))) ∙ ap (λ m. rounds_count k (run old x) m s n) (fun_ext (λ s1. fun_ext (λ m. count_same x b s1 m)))
      form_same (StaticSeq length ss) b s n = island_same (StaticSeq length ss) b s n
      form_same (StaticPar length arms) b s n = island_same (StaticPar length arms) b s n
      form_same (StaticIf length test_port x y) b s n = island_same (StaticIf length test_port x y) b s n
      form_same (StaticRepeat length k x) b s n = island_same (StaticRepeat length k x) b s n
      form_same (Timed k) b s n = absurd b

      parts_same : (ss : PlainStatements) → BareAll ss → (s : State) (n : ℕ) → whole_count_parts new counted ss s n ≡ count_parts old before ss s n
      parts_same no_statements b s n = refl
      parts_same (a_statement first later) b s n =
          ap (λ k. plus k (then_count (run new first s n) n (whole_count_parts new counted later))) (count_same first b.0 s n)
          ∙ ap (λ a. plus (count old before first s n) (then_count a n (whole_count_parts new counted later))) (runs first b.0 s n)
          ∙ ap (λ go. plus (count old before first s n) (then_count (run old first s n) n go)) (fun_ext (λ s1. fun_ext (λ m. parts_same later b.1 s1 m)))

      arms_same : (ss : PlainStatements) → BareAll ss → (s : State) (n : ℕ) → whole_count_arms new counted ss s n ≡ count_arms old before ss s n
      arms_same no_statements b s n = refl
      arms_same (a_statement first later) b s n =
          ap (λ k. plus k (whole_count_arms new counted later s n)) (count_same first b.0 s n) ∙ ap (plus (count old before first s n)) (arms_same later b.1 s n)

mutual
  control_counts : (i : Instance) → BareTree i → (held : Held) (s : State) (n : ℕ) → count_whole_control i held s n ≡ count_control i held s n
  control_counts (Node part cells) b held s n =
      count_same part cells b.0 b.1.1.0 held (whole_below cells) (control_below cells) (below_same cells b.1.1.1) (count_whole_below cells) (count_below cells) (below_counts cells b.1.1.1) part.control b.1.0 s n

  below_counts : (cells : Cells) → BareCells cells → (c : ℕ) (held : Held) (s : State) (n : ℕ) → count_whole_below cells c held s n ≡ count_below cells c held s n
  below_counts no_cells b c held s n = refl
  below_counts (a_primitive row rest) b zero held s n = refl
  below_counts (a_primitive row rest) b (suc c) held s n = below_counts rest b c held s n
  below_counts (an_instance child rest) b zero held s n = control_counts child b.0 held s n
  below_counts (an_instance child rest) b (suc c) held s n = below_counts rest b.1 c held s n

-- THE COUNTS are as they were, of a design without static components
pub whole_tally_flat : (d : PlainDesign) → IsDesign d → IsFlat d → (words : List (List ℕ)) (n : ℕ) → whole_tally_of d words n ≡ tally_of d words n
whole_tally_flat d design flat words n = control_counts (tree_of d) (bare_design d design flat) unheld (start (tree_of d) words) n
