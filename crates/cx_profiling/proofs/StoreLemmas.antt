-- THE STORES: each takes two turns, stores the count of its entry, and leaves all else of the settled state as it is.
use Rattle.std.proofs.Common.{◌≡◌, ℕ, zero, suc, ◌+◌, ◌*◌, ◌<◌, ◌≤◌, inl, inr, ◌⊎◌, ⊎_elim, true, false, ◌||◌, if◌then◌else◌, List, [], ◌∷◌, length, Some, None, slice_get, refl, sym, ap, ◌∙◌, subst, arith}
use Rattle.std.specs.Prelude.{slice_set}
use Rattle.std.proofs.lemmas.Bool.{ne_eqb, cases_eq, cases_lt}
use Rattle.std.proofs.lemmas.Option.{slice_get_within}
use Rattle.std.proofs.lemmas.List.{get_or_past}
use Rattle.cx_text.proofs.MemberLaws.{in_at}
use Rattle.cx_text.specs.Members.{In}
use Rattle.cx_prim.specs.CellStates.{CellState, Memory}
use Rattle.cx_prim.specs.Rows.{Row}
use Rattle.cx_prim.specs.MemoryRows.{memory_row}
use Rattle.cx_meaning.specs.declared.ports.PortRef.{PortRef}
use Rattle.cx_meaning.specs.declared.ports.PortRef.TheVariants as ports
use Rattle.cx_meaning.specs.declared.sights.Seen.{Seen}
use Rattle.cx_meaning.specs.declared.sights.Seen.TheVariants.{Undefined}
use Rattle.cx_meaning.specs.Designs.{PlainAssign, PlainGroup, PlainComponent, PlainDesign, component_at, group_at, no_group}
use Rattle.cx_meaning.specs.Instances.{Instance, At, Nothing, OfRow, OfInstance, cell_at, cell_count, cells_of, Path, State, under, just, idle, idle_at, IsSettled, tree_within}
use Rattle.cx_meaning.specs.Active.{group, only_at, drivers}
use Rattle.cx_meaning.specs.Truths.{truth_of}
use Rattle.cx_meaning.specs.Sights.{Look, unheld, bit_of, of_option, target_seen, cell_step, step, seen, outputs_below}
use Rattle.cx_meaning.specs.Cycles.{Outcome, Next, outcome_at, cell_outcome, first_of, first_fault, stepped, unless_fault, Goes, cycle}
use Rattle.cx_meaning.specs.Answers.{End, turns_of, turn_then, after_turns}
use Rattle.cx_meaning.specs.Answers as answers
use Rattle.cx_meaning.specs.Control.{group_drives, assigns_drive}
use Rattle.cx_meaning.specs.Islands.{turn_of}
use Rattle.cx_meaning.specs.Calls.{hole_turn, group_turn, called, called_in, if_instance, call_or_turns, enable_kind}
use Rattle.cx_meaning.specs.Running.{Children}
use Rattle.cx_meaning.proofs.CycleLemmas.{row_within, count_for}
use Rattle.cx_meaning.proofs.IdleLemmas.{kept_within}
use Rattle.cx_meaning.proofs.InstancesLemmas.{not_just, literal_is}
use Rattle.cx_meaning.proofs.RunningLemmas.{idle_settles}
use Rattle.cx_rules.specs.Circles.{IsAcyclic}
use Rattle.cx_rules.specs.Ports.{component_of}
use Rattle.cx_rules.specs.Accepted.{IsAccepted}
use Rattle.cx_rules.specs.Wellformed.{IsDesign}
use Rattle.cx_rules.proofs.CircleLemmas.{within_group}
use Rattle.cx_rules.proofs.FoundLemmas.{seen_solves}
use Rattle.cx_frames.specs.Rests.{IsUndriven}
use Rattle.cx_frames.proofs.EnableLemmas.{tree_lawful, BareEnablesNothing}
use Rattle.cx_frames.proofs.CycleLemmas.{idle_at-row, undriven_idles}
use Rattle.cx_rewrites.specs.Tallies.{Tally, at_cell}
use Rattle.cx_rewrites.specs.Cells.{comes_to, left_by}
use Rattle.cx_profiling.specs.Counters.{Counter, counters, Shown, shown_in}
use Rattle.cx_profiling.specs.Growing.{Grown}
use Rattle.cx_profiling.specs.Instrumented.{store_assigns, address_width, main_component, with_counts}
use Rattle.cx_profiling.proofs.RestLemmas.{grown_states}
use Rattle.cx_profiling.proofs.CounterLemmas.{in_counters}
use Rattle.cx_profiling.proofs.RoleLemmas.{own_counters}
use Rattle.cx_profiling.proofs.GrownTrees.{InTree, is_whole}
use Rattle.cx_profiling.proofs.RowLemmas.{number}
use Rattle.cx_profiling.proofs.AcyclicLemmas.{child_few}
use Rattle.cx_profiling.proofs.GrownCycles.{grown_rows, grown_kid, make_grown}
use Rattle.cx_profiling.proofs.SeenOutputs.{below_there}
use Rattle.cx_profiling.proofs.OutputLemmas.{counted_of, port_shows, outputs_show}
use Rattle.cx_profiling.proofs.StoreDrives.{StoreWire, to_address, to_data, to_write, to_done, store_target, store_source, store_driven, store_group}
use Rattle.cx_profiling.proofs.MemoryLemmas.{memory_at, done_shows, memory_stores}

pub none_stops : (outcome : ℕ → Outcome) (c n : ℕ) → ((e : ℕ) → c ≤ e → e < c + n → (after : CellState) × (outcome e ≡ Next after)) → first_fault outcome c n ≡ None
none_stops outcome c zero h = refl
none_stops outcome c (suc n) h =
    let here : (after : CellState) × (outcome c ≡ Next after) = h c (omega arith) (omega arith) in
    ap (λ o. first_of c o (first_fault outcome (suc c) n)) here.1 ∙ none_stops outcome (suc c) n (λ e past less. h e (omega (arith, past)) (omega (arith, less)))

module _ (d : PlainDesign) (design : IsDesign d) (accepted : IsAccepted d) (grown_accepted : IsAccepted (with_counts d)) (m k : ℕ) (at : InTree d (suc m) k)
    (names : List (List ℕ)) (is : component_at (with_counts d) k ≡ main_component d k names) (bare : BareEnablesNothing (tree_within (with_counts d) (suc m) k)) (some : 1 ≤ length (shown_in (component_of d k))) where
  abbrev node : PlainComponent
  node = component_at d k

  abbrev other : PlainComponent
  other = component_at (with_counts d) k

  abbrev i : Instance
  i = tree_within d (suc m) k

  abbrev j : Instance
  j = tree_within (with_counts d) (suc m) k

  abbrev size : ℕ
  size = length (shown_in (component_of d k))

  abbrev memory : ℕ
  memory = length node.cells + 2 * length (counters (component_of d k))

  abbrev row : Row
  row = memory_row 64 (size ∷ []) (address_width size ∷ [])

  at_memory : cell_at (cells_of j) memory ≡ OfRow row
  at_memory = memory_at d k at.within names is grown_accepted.limits m some

  -- a state between two stores, and what differs from an earlier one
  pub record Between (words : List ℕ) (τ : Tally) (s u : State) : Type 0 where
    pub settled : IsSettled j u
    pub grown : Grown i τ s u
    pub holds : u (memory ∷ []) ≡ Memory words false

  module _ (n : ℕ) (x : Shown) (listed : slice_get (shown_in (component_of d k)) n ≡ Some x) (words : List ℕ) (τ : Tally) (s u : State) (between : Between words τ s u) where
    abbrev g : ℕ
    g = length node.groups + n

    abbrev look : Look
    look = seen j unheld (group g) u

    -- a group that is not there is no such group
    group_there : g < length other.groups
    group_there = by (cases_lt g (length other.groups))
      where
        by : (g < length other.groups) ⊎ (length other.groups ≤ g) → g < length other.groups
        by (inl less) = less
        by (inr past) =
            let r = store_group d design k at.within names is n x listed in
            let none : ◌≡◌ {A = List PlainAssign} (store_assigns node.place memory (address_width size) g n x.port) [] =
            sym (ap (λ (y : PlainGroup). y.assigns) r.1) ∙ ap (λ (y : PlainGroup). y.assigns) (get_or_past other.groups g no_group past) in
            absurd (cc)

    acyclic : IsAcyclic j (group g)
    acyclic = within_group (with_counts d) grown_accepted (suc m) k g group_there

    solved : (p : PortRef) → look p ≡ step j unheld (group g) u look (outputs_below (cells_of j) (λ c. under c u)) p
    solved p = seen_solves j unheld (group g) u acyclic (below_there d design accepted grown_accepted (suc m) k) p

    one_source : (w : StoreWire) (undriven : Seen) → target_seen undriven look (drivers other (group g) (store_target w memory g)) ≡ look (store_source w memory (address_width size) n x.port)
    one_source w undriven = ap (target_seen undriven look) (store_driven d design k at.within names is w n x listed)

    address_shows : look (ports.Cell memory 0) ≡ number (address_width size) n
    address_shows =
        solved (ports.Cell memory 0) ∙ ap (cell_step other (group g) u look (outputs_below (cells_of j) (λ c. under c u)) memory 0) at_memory ∙ one_source to_address Undefined
        ∙ literal_is j unheld (group g) u (address_width size) n

    data_shows : look (ports.Cell memory 1) ≡ number 64 (counted_of τ x)
    data_shows =
        solved (ports.Cell memory 1) ∙ ap (cell_step other (group g) u look (outputs_below (cells_of j) (λ c. under c u)) memory 1) at_memory ∙ one_source to_data Undefined
        ∙ port_shows d design accepted grown_accepted m k at (outputs_show d design accepted grown_accepted m) (group g) unheld acyclic τ s u between.grown x
        (in_at (shown_in i) n x (ap (λ tree. slice_get (shown_in tree) n) (is_whole d at) ∙ listed))

    write_shows : look (ports.Cell memory 2) ≡ number 1 1
    write_shows =
        solved (ports.Cell memory 2) ∙ ap (cell_step other (group g) u look (outputs_below (cells_of j) (λ c. under c u)) memory 2) at_memory ∙ one_source to_write (bit_of false)
        ∙ literal_is j unheld (group g) u 1 1

    few : n < size
    few = slice_get_within (shown_in (component_of d k)) n x listed

    memory_goes : comes_to j unheld (group g) u memory ≡ Next (Memory (slice_set words n (counted_of τ x)) true)
    memory_goes =
        ap (λ a. outcome_at look memory a (u (memory ∷ []))) at_memory ∙ ap (cell_outcome look memory row) between.holds
        ∙ memory_stores look memory size (address_width size) n (counted_of τ x) words false few write_shows address_shows data_shows

    -- no other cell is driven
    undriven : (c : ℕ) → (c ≡ memory → ⊥) → IsUndriven other (group g) c
    undriven c differ h driven = by (cases_eq g h)
      where
        by : (g ≡ h) ⊎ (g ≡ h → ⊥) → only_at g h ≡ None
        by (inr apart) = ap (λ b. if b then Some 0 else None) (ne_eqb g h apart)
        by (inl same) =
            let r = store_group d design k at.within names is n x listed in
            let none : just memory c ≡ false = not_just memory c differ in
            let drives : (just memory c || (just memory c || (just memory c || false))) ≡ true =
            sym (ap (λ (y : PlainGroup). assigns_drive y.assigns c) r.1) ∙ ap (λ y. group_drives other y c) same ∙ driven in
            absurd (let wrong : false ≡ true = sym (ap (λ b. b || (b || (b || false))) none) ∙ drives in cc)

    row_goes : (c : ℕ) (r : Row) → cell_at (cells_of j) c ≡ OfRow r → (c ≡ memory → ⊥) → comes_to j unheld (group g) u c ≡ Next (u (c ∷ []))
    row_goes c r here differ =
        ap (λ a. outcome_at look c a (u (c ∷ []))) here
        ∙ undriven_idles j (tree_lawful (with_counts d) (suc m) k) bare unheld (group g) u c (undriven c differ) r here
        ∙ ap Next (sym (idle_at-row j c r (u (c ∷ [])) here) ∙ between.settled (c ∷ []))

    cell_goes : (c : ℕ) → (c ≡ memory → ⊥) → comes_to j unheld (group g) u c ≡ Next (u (c ∷ []))
    cell_goes c differ = by (cell_at (cells_of j) c) refl
      where
        by : (a : At) → cell_at (cells_of j) c ≡ a → comes_to j unheld (group g) u c ≡ Next (u (c ∷ []))
        by Nothing e = ap (λ a. outcome_at look c a (u (c ∷ []))) e
        by (OfRow r) e = row_goes c r e differ
        by (OfInstance child) e = ap (λ a. outcome_at look c a (u (c ∷ []))) e

    each_goes : (c : ℕ) → (after : CellState) × (comes_to j unheld (group g) u c ≡ Next after)
    each_goes c = ⊎_elim (λ (e : c ≡ memory). (Memory (slice_set words n (counted_of τ x)) true, ap (comes_to j unheld (group g) u) e ∙ memory_goes)) (λ differ. (u (c ∷ []), cell_goes c differ)) (cases_eq c memory)

    pub cycle_goes : cycle j unheld (group g) u ≡ Goes (left_by j unheld (group g) u)
    cycle_goes =
        ap (λ f. unless_fault f (left_by j unheld (group g) u)) (none_stops (comes_to j unheld (group g) u) 0 (cell_count (cells_of j)) (λ e past less. each_goes e))

    memory_after : left_by j unheld (group g) u (memory ∷ []) ≡ Memory (slice_set words n (counted_of τ x)) true
    memory_after = ap (stepped (u (memory ∷ []))) memory_goes

    pub same_after : (path : Path) → (path ≡ memory ∷ [] → ⊥) → left_by j unheld (group g) u path ≡ u path
    same_after [] differ = refl
    same_after (c ∷ e ∷ path) differ = refl
    same_after (c ∷ []) differ = ap (stepped (u (c ∷ []))) (cell_goes c (λ e. differ (ap (λ y. y ∷ []) e)))

    -- and the idle turn behind it
    memory_ended : idle j (left_by j unheld (group g) u) (memory ∷ []) ≡ Memory (slice_set words n (counted_of τ x)) false
    memory_ended = idle_at-row j memory row (left_by j unheld (group g) u (memory ∷ [])) at_memory ∙ ap (λ (x : CellState). row.idle x) memory_after

    same_ended : (path : Path) → (path ≡ memory ∷ [] → ⊥) → idle j (left_by j unheld (group g) u) path ≡ u path
    same_ended path differ = ap (idle_at j path) (same_after path differ) ∙ between.settled path

    other_cell : (c : ℕ) → c < memory → c ∷ [] ≡ memory ∷ [] → ⊥
    other_cell c less e = let same : c ≡ memory = first_is c memory e in omega (arith, less, same)
      where
        first_is : (a b : ℕ) → a ∷ [] ≡ b ∷ [] → a ≡ b
        first_is a b e = cc

    pub stored_between : Between (slice_set words n (counted_of τ x)) τ s (idle j (left_by j unheld (group g) u))
    stored_between = record {
      settled = idle_settles j (kept_within (with_counts d) (suc m) k) (left_by j unheld (group g) u);
      holds = memory_ended;
      grown = make_grown d design m k at τ s (idle j (left_by j unheld (group g) u))
          (λ c r e.
          let less : c < length node.cells = subst (λ n. c < n) (count_for (tree_within d m) node.cells) (row_within (cells_of i) c r e) in
          same_ended (c ∷ []) (other_cell c (omega (arith, less))) ∙ grown_rows d design m k at τ s u between.grown c r e)
          (λ c child e.
          let less : c < length node.cells = child_few (tree_within d m) node.cells c child e in
          grown_states child (at_cell c τ) (under c s) (under c u) (under c s) (under c (idle j (left_by j unheld (group g) u))) (λ path. refl)
          (λ path. sym (same_ended (c ∷ path) (deep c path (omega (arith, less))))) (grown_kid d design m k at τ s u between.grown c child e))
          (λ y own.
          let r = between.grown.1 y own in
          let less : y.register < memory = register_before y own in
          (r.0, same_ended (y.register ∷ []) (other_cell y.register less) ∙ r.1));
    }
      where
        deep : (c : ℕ) (path : Path) → c < memory → c ∷ path ≡ memory ∷ [] → ⊥
        deep c path less e = let same : c ≡ memory = cc in omega (arith, less, same)

        register_before : (y : Counter) → In (counters i) y → y.register < memory
        register_before y own =
            let listed = subst (λ list. In list y) (own_counters d k) (subst (λ tree. In (counters tree) y) (is_whole d at) own) in
            let r = in_counters (cells_of (component_of d k)) (length node.cells) 0 node.groups y listed in
            let number : y.register ≡ length node.cells + 2 * r.0 = r.2 in
            let few : r.0 < length (counters (component_of d k)) = subst (λ list. r.0 < length list) (sym (own_counters d k)) r.1 in
            omega (arith, number, few)

    -- A STORE IN TWO TURNS
    pub done_before : look (ports.Done g) ≡ bit_of false
    done_before =
        solved (ports.Done g) ∙ one_source to_done (bit_of false) ∙ solved (ports.Cell memory 4)
        ∙ ap (cell_step other (group g) u look (outputs_below (cells_of j) (λ c. under c u)) memory 4) at_memory
        ∙ ap (λ state. of_option (row.output state [] 4)) between.holds ∙ done_shows size (address_width size) words false

    abbrev look_after : Look
    look_after = seen j unheld (group g) (left_by j unheld (group g) u)

    solved_after : (p : PortRef) → look_after p ≡ step j unheld (group g) (left_by j unheld (group g) u) look_after (outputs_below (cells_of j) (λ c. under c (left_by j unheld (group g) u))) p
    solved_after p = seen_solves j unheld (group g) (left_by j unheld (group g) u) acyclic (below_there d design accepted grown_accepted (suc m) k) p

    pub done_after : look_after (ports.Done g) ≡ bit_of true
    done_after =
        solved_after (ports.Done g) ∙ ap (target_seen (bit_of false) look_after) (store_driven d design k at.within names is to_done n x listed) ∙ solved_after (ports.Cell memory 4)
        ∙ ap (cell_step other (group g) (left_by j unheld (group g) u) look_after (outputs_below (cells_of j) (λ c. under c (left_by j unheld (group g) u))) memory 4) at_memory
        ∙ ap (λ state. of_option (row.output state [] 4)) memory_after ∙ done_shows size (address_width size) (slice_set words n (counted_of τ x)) true

    first_turn : group_turn j unheld g u ≡ answers.Goes (left_by j unheld (group g) u)
    first_turn = ap (λ y. hole_turn g (cycle j unheld (group g) u) (truth_of y)) done_before ∙ ap turn_of cycle_goes

    second_turn : group_turn j unheld g (left_by j unheld (group g) u) ≡ answers.Ends
    second_turn = ap (λ y. hole_turn g (cycle j unheld (group g) (left_by j unheld (group g) u)) (truth_of y)) done_after

    two_turns : (b : ℕ) → turns_of (idle j) (group_turn j unheld g) u (suc (suc b)) ≡ End (idle j (left_by j unheld (group g) u)) 2
    two_turns b =
        ap (λ t. turn_then (idle j) u t (λ a. turns_of (idle j) (group_turn j unheld g) a (suc b))) first_turn
        ∙ ap (λ t. after_turns 1 (turn_then (idle j) (left_by j unheld (group g) u) t (λ a. turns_of (idle j) (group_turn j unheld g) a b))) second_turn

    pub no_call : called j g ≡ None
    no_call =
        let r = store_group d design k at.within names is n x listed in
        ap (λ (y : PlainGroup). called_in (cells_of j) y.assigns) r.1
        ∙ ap (λ a. if_instance a memory (if_instance (cell_at (cells_of j) memory) memory (if_instance (cell_at (cells_of j) memory) memory None))) at_memory
        ∙ ap (λ a. if_instance a memory (if_instance (cell_at (cells_of j) memory) memory None)) at_memory
        ∙ ap (λ a. if_instance a memory None) at_memory

    pub store_runs : (children : Children) (b : ℕ) → enable_kind j children unheld g (group_at other g).kind u (suc (suc b)) ≡ End (idle j (left_by j unheld (group g) u)) 2
    store_runs children b =
        let r = store_group d design k at.within names is n x listed in
        ap (λ (y : PlainGroup). enable_kind j children unheld g y.kind u (suc (suc b))) r.1 ∙ ap (λ o. call_or_turns j children unheld g o u (suc (suc b))) no_call ∙ two_turns b

    pub store_leaves : (c : ℕ) → c < memory → idle j (left_by j unheld (group g) u) (c ∷ []) ≡ u (c ∷ [])
    store_leaves c less = same_ended (c ∷ []) (other_cell c less)
