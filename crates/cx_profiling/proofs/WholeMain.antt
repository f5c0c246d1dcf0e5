-- MAIN with static components: the old control, and then the stores.
use Rattle.std.proofs.Common.{◌≡◌, ℕ, zero, suc, ◌+◌, ◌-◌, ◌*◌, ◌<◌, ◌≤◌, inl, inr, Bool, true, false, if◌then◌else◌, List, [], ◌∷◌, ◌++◌, length, map, Some, slice_get, refl, sym, ap, ◌∙◌, subst, arith}
use Rattle.std.specs.Prelude.{slice_set}
use Rattle.std.proofs.lemmas.List.{map-append, nil_from_length}
use Rattle.cx_text.specs.Members.{In}
use Rattle.cx_text.proofs.ListLaws.{behind, length-map, nothing_more, snoc_length}
use Rattle.cx_prim.specs.CellStates.{CellState, Memory, AreWords}
use Rattle.cx_prim.specs.CellStates as cell_states
use Rattle.cx_prim.specs.Rows.{Row}
use Rattle.cx_prim.specs.MemoryRows.{memory_row}
use Rattle.cx_meaning.specs.declared.ports.PortRef.TheVariants as ports
use Rattle.cx_meaning.specs.Designs.{PlainComponent, PlainDesign, PlainStatement, PlainStatements, statements_of, component_at}
use Rattle.cx_meaning.specs.Instances.{Instance, Cells, no_cells, a_primitive, an_instance, OfRow, OfInstance, cell_at, cell_count, cells_of, Path, State, under, put, just, beneath, idle, idle_at, IsSettled, instance_at, start, externals_of, words_of, tree_within}
use Rattle.cx_meaning.specs.Active.{Active, group, entries}
use Rattle.cx_meaning.specs.Sights.{Look, Held, unheld, bit_of, target_seen, side_step, cell_step, seen, outputs_below}
use Rattle.cx_meaning.specs.Cycles.{Fault, Next, outcome_at, first_fault, stepped, Ended, Goes, Faults, cycle}
use Rattle.cx_meaning.specs.Answers.{Answer, End, More, then_do, after_turns}
use Rattle.cx_meaning.specs.Answers as answers
use Rattle.cx_meaning.specs.Budgets.{Grows, Leaves}
use Rattle.cx_meaning.specs.Control as control
use Rattle.cx_meaning.specs.Control.{run, run_parts}
use Rattle.cx_meaning.proofs.CycleLemmas.{goes_to}
use Rattle.cx_meaning.proofs.InstancesLemmas.{row_instance, not_just}
use Rattle.cx_meaning.proofs.IdleLemmas.{kept_within}
use Rattle.cx_rules.specs.Circles.{IsAcyclic}
use Rattle.cx_rules.specs.Ports.{component_of}
use Rattle.cx_rules.specs.Accepted.{IsAccepted}
use Rattle.cx_rules.specs.Wellformed.{IsDesign}
use Rattle.cx_rules.proofs.FoundLemmas.{seen_solves}
use Rattle.cx_frames.proofs.EnableLemmas.{tree_lawful, BareEnablesNothing}
use Rattle.cx_frames.proofs.QuietLemmas.{quiet_outcome}
use Rattle.cx_frames.proofs.CycleLemmas.{idle_at-row}
use Rattle.cx_rewrites.specs.Tallies.{Tally, none, plus}
use Rattle.cx_rewrites.specs.Carrying.{Exact, Carried, Carries}
use Rattle.cx_rewrites.specs.Moving.{moved_statement}
use Rattle.cx_rewrites.specs.Cells.{comes_to, left_by}
use Rattle.cx_profiling.specs.Counters.{counters, Shown, shown_in}
use Rattle.cx_flattening.specs.Controlled.{AllControlled}
use Rattle.cx_flattening.specs.Deeds.{Deed, own_entries, deeds_below, held_below}
use Rattle.cx_flattening.specs.Whole.{is_static, with_child, child_if, whole_cycle, cycles_below, whole_leaves, whole_control, whole_below}
use Rattle.cx_flattening.proofs.Ruled.{AllRuled}
use Rattle.cx_profiling.specs.WholeCounting.{count_whole_control}
use Rattle.cx_profiling.specs.Growing.{Grown}
use Rattle.cx_profiling.specs.Instrumented.{moved_in, store_enables, address_width, main_component, with_counts}
use Rattle.cx_profiling.specs.RunsAlike.{Owes}
use Rattle.cx_profiling.proofs.GrownLemmas.{grown_numbers}
use Rattle.cx_profiling.proofs.GrownTrees.{InTree}
use Rattle.cx_profiling.proofs.AcyclicLemmas.{ActsWithin, main_silent}
use Rattle.cx_profiling.proofs.CirclesKept.{main_acyclic}
use Rattle.cx_profiling.proofs.SeenOutputs.{below_there}
use Rattle.cx_profiling.proofs.GrownIslands.{TwinKeeps}
use Rattle.cx_profiling.proofs.WholeLeaves.{whole_control_carries, whole_kids}
use Rattle.cx_flattening.proofs.WholeSteady.{steady_statement, whole_settles}
use Rattle.cx_profiling.proofs.WholeStores.{whole_store_runs}
use Rattle.cx_profiling.proofs.MainLemmas.{set_middle, more_after, memory_rests}
use Rattle.cx_profiling.proofs.OutputLemmas.{counted_of}
use Rattle.cx_profiling.proofs.MemoryLemmas.{memory_at}
use Rattle.cx_profiling.proofs.StoreLemmas.{Between, stored_between, store_leaves}
use Rattle.cx_profiling.proofs.GrownCycles.{grown_rows}
use Rattle.cx_profiling.proofs.StartsGrown.{start_grown, memory_start, externals_grow, external_row}

-- a cell that no child stands at, after a cycle of the static children
row_after : (cells : Cells) (from : ℕ) (look : Look) (ds : List Deed) (s : State) (o : Ended) (z : State) (x : ℕ) → ((c : ℕ) (child : Instance) → cell_at cells c ≡ OfInstance child → from + c ≡ x → ⊥)
    → cycles_below cells from look ds s o ≡ Goes z → (a : State) × (o ≡ Goes a) × (z (x ∷ []) ≡ a (x ∷ []))
row_after no_cells from look ds s o z x none e = (z, e, refl)
row_after (a_primitive row rest) from look ds s o z x none e =
    row_after rest (suc from) look ds s o z x (λ c child here same. none (suc c) child here (let number : from + suc c ≡ suc from + c = omega arith in number ∙ same)) e
row_after (an_instance child rest) from look ds s o z x none e =
    by (is_static child) o (whole_cycle child (held_below look from ds) (entries (own_entries (deeds_below from ds))) (deeds_below from ds) (under from s))
    (row_after rest (suc from) look ds s (child_if (is_static child) from o (whole_cycle child (held_below look from ds) (entries (own_entries (deeds_below from ds))) (deeds_below from ds) (under from s))) z x
    (λ c other here same. none (suc c) other here (let number : from + suc c ≡ suc from + c = omega arith in number ∙ same)) e)
  where
    apart : just from x ≡ false
    apart = not_just from x (λ same. none 0 child refl (let number : from + 0 ≡ from = omega arith in number ∙ sym same))

    inner : (o own : Ended) (a : State) → with_child from o own ≡ Goes a → z (x ∷ []) ≡ a (x ∷ []) → (b : State) × (o ≡ Goes b) × (z (x ∷ []) ≡ b (x ∷ []))
    inner (Faults f) own a h same = absurd (cc)
    inner (Goes b) (Faults f) a h same = absurd (cc)
    inner (Goes b) (Goes c) a h same =
        let is : put from c b ≡ a = cc in
        (b, refl, same ∙ ap (λ (y : State). y (x ∷ [])) (sym is) ∙ ap (λ pick. if pick then beneath c (x ∷ []) else b (x ∷ [])) apart)

    by : (static : Bool) (o own : Ended) → (a : State) × (child_if static from o own ≡ Goes a) × (z (x ∷ []) ≡ a (x ∷ [])) → (b : State) × (o ≡ Goes b) × (z (x ∷ []) ≡ b (x ∷ []))
    by false o own r = r
    by true o own (a, h, same) = inner o own a h same

module _ (d : PlainDesign) (design : IsDesign d) (accepted : IsAccepted d) (grown_accepted : IsAccepted (with_counts d)) (m k : ℕ) (at : InTree d (suc m) k)
    (names : List (List ℕ)) (is : component_at (with_counts d) k ≡ main_component d k names) (bare : (path : Path) → BareEnablesNothing (instance_at (tree_within (with_counts d) (suc m) k) path))
    (some : 1 ≤ length (shown_in (component_of d k))) (controlled : AllControlled (tree_within d (suc m) k)) (rules : AllRuled (tree_within d (suc m) k)) where
  abbrev node : PlainComponent
  node = component_at d k

  abbrev other : PlainComponent
  other = component_at (with_counts d) k

  abbrev i : Instance
  i = tree_within d (suc m) k

  abbrev j : Instance
  j = tree_within (with_counts d) (suc m) k

  abbrev size : ℕ
  size = length (shown_in (component_of d k))

  abbrev memory : ℕ
  memory = length node.cells + 2 * length (counters (component_of d k))

  abbrev M : control.Leaves State Fault
  M = whole_leaves j (whole_below (cells_of j)) unheld

  abbrev IsBetween : List ℕ → Tally → State → State → Type 0
  IsBetween words τ s u = Between d design accepted grown_accepted m k at names is (bare []) some words τ s u

  -- what the stores of a list come to
  abbrev StoresEnd : Tally → State → State → ℕ → ℕ → List Shown → Type 0
  StoresEnd τ s u b g list = (after : State) × (run_parts M (statements_of (store_enables node.place g list)) u b ≡ End after (2 * length list))
      × IsBetween (map (counted_of τ) (shown_in (component_of d k))) τ s after × ((c : ℕ) → c < memory → after (c ∷ []) ≡ u (c ∷ []))

  -- ALL STORES from one on
  stores_run : (τ : Tally) (s : State) (list : List Shown) (before : List Shown) (n : ℕ) → n ≡ length before → shown_in (component_of d k) ≡ before ++ list → (rest : List ℕ) → length rest ≡ length list
      → (u : State) → IsBetween (map (counted_of τ) before ++ rest) τ s u → (b : ℕ) → 2 * length list ≤ b
      → StoresEnd τ s u b (length node.groups + n) list
  stores_run τ s [] before n number all rest count u between b enough = (
    u,
    ap (End u) (omega arith),
    subst (λ words. IsBetween words τ s u) (ap (λ list. map (counted_of τ) before ++ list) (nil_from_length rest count) ∙ nothing_more (map (counted_of τ) before) ∙ ap (map (counted_of τ)) (sym (nothing_more before) ∙ sym all)) between,
    λ c less. refl,
  )
  stores_run τ s (x ∷ xs) before n number all [] count u between b enough = absurd (let wrong : 0 ≡ suc (length xs) = count in omega (arith, wrong))
  stores_run τ s (x ∷ xs) before n number all (r ∷ rest) count u between b enough =
      finish (two b (let much : 2 * suc (length xs) ≤ b = enough in omega (arith, much)))
      (λ c e. stores_run τ s xs (before ++ x ∷ []) (suc n) longer (all ∙ sym (more_after before x xs)) rest (let same : suc (length rest) ≡ suc (length xs) = count in omega (arith, same)) next
      (subst (λ words. IsBetween words τ s next) words_next (stored_between d design accepted grown_accepted m k at names is (bare []) some n x listed (map (counted_of τ) before ++ r ∷ rest) τ s u between))
      c (let much : 2 * suc (length xs) ≤ b = enough in omega (arith, much, e)))
    where
      two : (b : ℕ) → 2 ≤ b → (c : ℕ) × (b ≡ suc (suc c))
      two zero h = absurd (omega (arith, h))
      two (suc zero) h = absurd (omega (arith, h))
      two (suc (suc c)) h = (c, refl)

      longer : suc n ≡ length (before ++ x ∷ [])
      longer = ap suc number ∙ sym (snoc_length before x)

      listed : slice_get (shown_in (component_of d k)) n ≡ Some x
      listed = ap (λ list. slice_get list n) all ∙ behind before (x ∷ xs) n 0 (let same : n ≡ length before + 0 = omega (arith, number) in same)

      next : State
      next = idle j (left_by j unheld (group (length node.groups + n)) u)

      words_next : slice_set (map (counted_of τ) before ++ r ∷ rest) n (counted_of τ x) ≡ map (counted_of τ) (before ++ x ∷ []) ++ rest
      words_next =
          set_middle (map (counted_of τ) before) r (counted_of τ x) rest n (number ∙ sym (length-map (counted_of τ) before))
          ∙ ap (λ list. list ++ rest) (sym (map-append (counted_of τ) before (x ∷ [])))

      finish : (c : ℕ) × (b ≡ suc (suc c)) → ((c : ℕ) → b ≡ suc (suc c) → StoresEnd τ s next c (length node.groups + suc n) xs) → StoresEnd τ s u b (length node.groups + n) (x ∷ xs)
      finish (c, e) later =
          let done = later c e in
          let left : suc (suc c) - 2 ≡ c = omega arith in
          let group_is : suc (length node.groups + n) ≡ length node.groups + suc n = omega arith in
          let turns : 2 + 2 * length xs ≡ 2 * suc (length xs) = omega arith in (
            done.0,
            ap (λ budget. run_parts M (statements_of (store_enables node.place (length node.groups + n) (x ∷ xs))) u budget) e
                ∙ ap (λ o. then_do o (suc (suc c)) (run_parts M (statements_of (store_enables node.place (suc (length node.groups + n)) xs))))
                (whole_store_runs d design accepted grown_accepted m k at names is bare some n x listed (map (counted_of τ) before ++ r ∷ rest) τ s u between (whole_below (cells_of j)) c)
                ∙ ap (λ budget. after_turns 2 (run_parts M (statements_of (store_enables node.place (suc (length node.groups + n)) xs)) next budget)) left
                ∙ ap (λ g. after_turns 2 (run_parts M (statements_of (store_enables node.place g xs)) next c)) group_is
                ∙ ap (after_turns 2) done.1 ∙ ap (End done.0) turns,
            done.2,
            λ cell less. done.3 cell less ∙ store_leaves d design accepted grown_accepted m k at names is (bare []) some n x listed (map (counted_of τ) before ++ r ∷ rest) τ s u between cell less,
          )

  abbrev row : Row
  row = memory_row 64 (size ∷ []) (address_width size ∷ [])

  at_memory : cell_at (cells_of j) memory ≡ OfRow (memory_row 64 (size ∷ []) (address_width size ∷ []))
  at_memory = memory_at d k at.within names is grown_accepted.limits m some

  -- UNDER GROUPS OF THE DESIGN the memory rests
  memory_idles : (act : Active) → ActsWithin node act → IsAcyclic j act → (twin : Held) (t : State) → comes_to j twin act t memory ≡ Next (row.idle (t (memory ∷ [])))
  memory_idles act acts acyclic twin t =
      ap (λ a. outcome_at (seen j twin act t) memory a (t (memory ∷ []))) at_memory
      ∙ quiet_outcome row (tree_lawful (with_counts d) (suc m) k memory row at_memory) (seen j twin act t) memory (t (memory ∷ []))
      (λ p side. seen_solves j twin act t acyclic (below_there d design accepted grown_accepted (suc m) k) (ports.Cell memory p)
      ∙ ap (cell_step other act t (seen j twin act t) (outputs_below (cells_of j) (λ c. under c t)) memory p) at_memory
      ∙ ap (side_step other act t (seen j twin act t) (outputs_below (cells_of j) (λ c. under c t)) row memory p) side
      ∙ ap (target_seen (bit_of false) (seen j twin act t)) (main_silent d design k at.within act names is acts (ports.Cell memory p) (omega arith) (inr (omega arith))))

  entries_there : (act : Active) → ActsWithin node act → IsAcyclic i act → IsAcyclic j act
  entries_there act acts acyclic = main_acyclic d design m k at act names is size (address_width size) at_memory acyclic

  -- A WORD that rests stays in the memory
  module _ (w : CellState) (settled : row.idle w ≡ w) where
    abbrev HoldsIt : State → Type 0
    HoldsIt t = t (memory ∷ []) ≡ w

    pub memory_kept : TwinKeeps d m k unheld HoldsIt
    memory_kept = record {
      rest = λ t h. idle_at-row j memory row (t (memory ∷ [])) at_memory ∙ ap (λ (x : CellState). row.idle x) h ∙ settled;
      cycle = λ act acts acyclic ds t z h e.
          let r = row_after (cells_of j) 0 (seen j unheld act t) ds t (cycle j unheld act t) z memory (λ c child here same. no_child c child here same) e in
          let left = (goes_to (first_fault (comes_to j unheld act t) 0 (cell_count (cells_of j))) (left_by j unheld act t) r.0 r.1).1 in
          r.2 ∙ ap (λ (x : State). x (memory ∷ [])) (sym left) ∙ ap (stepped (t (memory ∷ []))) (memory_idles act acts (entries_there act acts acyclic) unheld t)
          ∙ ap (λ (x : CellState). row.idle x) h ∙ settled;
      child = λ c few own t h. ap (λ b. if b then beneath own (memory ∷ []) else t (memory ∷ [])) (not_just c memory (λ same. omega (arith, few, same))) ∙ h;
      merged = λ set a b h g. one (set memory) a b h g;
    }
      where
        no_child : (c : ℕ) (child : Instance) → cell_at (cells_of j) c ≡ OfInstance child → 0 + c ≡ memory → ⊥
        no_child c child here same = row_instance row child (sym at_memory ∙ ap (cell_at (cells_of j)) (sym (let number : c ≡ 0 + c = omega arith in number ∙ same)) ∙ here)

        one : (pick : Bool) (a b : State) → HoldsIt a → HoldsIt b → (if pick then a (memory ∷ []) else b (memory ∷ [])) ≡ w
        one true a b h g = h
        one false a b h g = g

    -- THE OLD CONTROL in main
    old_control : Carries Exact (λ τ s t. Grown i τ s t × HoldsIt t) (λ f. f) (count_whole_control i unheld) (whole_control i unheld) (run M (moved_statement (λ p. moved_in d node p) node.control))
    old_control =
        whole_control_carries d design accepted grown_accepted m k at controlled rules entries_there (memory_rests d design accepted grown_accepted m k at names is (bare []) some)
        (whole_kids d design accepted grown_accepted m) unheld unheld (λ n less. refl) HoldsIt memory_kept

  module _ (start_rests : (words : List (List ℕ)) → IsSettled j (start j words)) (words : List (List ℕ)) (new : List ℕ) (n : ℕ) (fits : length words ≡ length (externals_of node)) (whole : AreWords 64 size new) where
    abbrev before : State
    before = start i words

    abbrev twin : State
    twin = start j (words ++ new ∷ [])

    abbrev held_word : CellState
    held_word = Memory new false

    starts_so : start j (words ++ new ∷ []) (memory ∷ []) ≡ held_word
    starts_so = memory_start d design m k at names is words new fits at_memory

    word_rests : row.idle held_word ≡ held_word
    word_rests = sym (idle_at-row j memory row held_word at_memory) ∙ subst (λ (x : CellState). idle_at j (memory ∷ []) x ≡ x) starts_so (start_rests (words ++ new ∷ []) (memory ∷ []))

    abbrev tally : Tally
    tally = count_whole_control i unheld (start i words) n

    abbrev moved : PlainStatement
    moved = moved_statement (λ p. moved_in d node p) node.control

    abbrev stores : PlainStatements
    stores = statements_of (store_enables node.place (length node.groups) (shown_in (component_of d k)))

    in_two : (b : ℕ) → whole_control j unheld (start j (words ++ new ∷ [])) b ≡ then_do (run M moved (start j (words ++ new ∷ [])) b) b (run_parts M stores)
    in_two b = ap (λ statement. run M statement (start j (words ++ new ∷ [])) b) (ap (λ x. x.control) is)

    abbrev LeavesCounts : State → State → Type 0
    LeavesCounts s u = words_of j u ≡ words_of i s ++ map (counted_of tally) (shown_in (component_of d k)) ∷ []

    words_after : (s u after : State) → Grown i tally s u → IsBetween (map (counted_of tally) (shown_in (component_of d k))) tally s after → ((c : ℕ) → c < memory → after (c ∷ []) ≡ u (c ∷ [])) → LeavesCounts s after
    words_after s u after grown between same =
        ap (λ es. map (λ c. cell_states.words_of (after (c ∷ []))) es) (externals_grow d design m k at names is)
        ∙ map-append (λ c. cell_states.words_of (after (c ∷ []))) (externals_of node) (memory ∷ [])
        ∙ ap (λ list. list ++ cell_states.words_of (after (memory ∷ [])) ∷ []) (old_words (externals_of node) (λ c inside. external_row d design m k at names is c inside))
        ∙ ap (λ state. map (λ c. cell_states.words_of (s (c ∷ []))) (externals_of node) ++ cell_states.words_of state ∷ []) between.holds
      where
        old_words : (es : List ℕ) → ((c : ℕ) → In es c → (c < length node.cells) × ((r : Row) × (cell_at (cells_of i) c ≡ OfRow r))) → map (λ c. cell_states.words_of (after (c ∷ []))) es ≡ map (λ c. cell_states.words_of (s (c ∷ []))) es
        old_words [] there = refl
        old_words (c ∷ es) there =
            let r = there c (inl refl) in
            let few : c < length node.cells = r.0 in
            ap (λ state. cell_states.words_of state ∷ map (λ c. cell_states.words_of (after (c ∷ []))) es) (same c (omega (arith, few)) ∙ grown_rows d design m k at tally s u grown c r.1.0 r.1.1)
            ∙ ap (λ list. cell_states.words_of (s (c ∷ [])) ∷ list) (old_words es (λ e inside. there e (inr inside)))

    -- AFTER THE OLD CONTROL the stores run
    stores_follow : (s u : State) (t : ℕ) → t ≤ n → run M moved (start j (words ++ new ∷ [])) n ≡ End u t → run M moved (start j (words ++ new ∷ [])) (n + 2 * size) ≡ End u t → Grown i (plus none tally) s u → u (memory ∷ []) ≡ held_word
        → (after : State) × (whole_control j unheld (start j (words ++ new ∷ [])) (n + 2 * size) ≡ End after (t + 2 * size)) × LeavesCounts s after
    stores_follow s u t within ends later grown kept =
        let counted : Grown i tally s u = grown_numbers i (plus none tally) tally s u (λ path g. omega arith) grown in
        let settled : IsSettled j u = subst (Leaves (IsSettled j)) ends (whole_settles j (kept_within (with_counts d) (suc m) k) unheld moved (start j (words ++ new ∷ [])) n (start_rests (words ++ new ∷ []))) in
        let none_first : length node.groups ≡ length node.groups + 0 = omega arith in
        let r = stores_run tally s (shown_in (component_of d k)) [] 0 refl refl new whole.length u
        (record { settled = settled; grown = counted; holds = kept }) (n + 2 * size - t) (omega (arith, within)) in (
          r.0,
          in_two (n + 2 * size) ∙ ap (λ o. then_do o (n + 2 * size) (run_parts M stores)) later
              ∙ ap (λ g. after_turns t (run_parts M (statements_of (store_enables node.place g (shown_in (component_of d k)))) u (n + 2 * size - t))) none_first ∙ ap (after_turns t) r.1,
          words_after s u r.0 counted r.2 r.3,
        )

    -- WHAT MAIN OWES
    pub whole_main_owes : Owes LeavesCounts size (whole_control i unheld (start i words) n) (whole_control j unheld (start j (words ++ new ∷ [])) n) (whole_control j unheld (start j (words ++ new ∷ [])) (n + 2 * size))
    whole_main_owes = by (whole_control i unheld (start i words) n) (old_control held_word word_rests none (start i words) (start j (words ++ new ∷ [])) n n refl (start_grown d design m k at names is words new fits, starts_so))
      where
        by : (o : Answer State Fault) → Carried Exact (λ τ s t. Grown i τ s t × (t (memory ∷ []) ≡ held_word)) (λ f. f) none tally o (run M moved (start j (words ++ new ∷ [])) n)
            → Owes LeavesCounts size o (whole_control j unheld (start j (words ++ new ∷ [])) n) (whole_control j unheld (start j (words ++ new ∷ [])) (n + 2 * size))
        by (End s t) (u, v, ends, same, grown) =
            let grows : Grows n (End u v) (run M moved (start j (words ++ new ∷ [])) (n + 2 * size)) =
            subst (λ o. Grows n o (run M moved (start j (words ++ new ∷ [])) (n + 2 * size))) ends (steady_statement j unheld moved (start j (words ++ new ∷ [])) n (n + 2 * size) (omega arith)) in
            let r = stores_follow s u v grows.0 ends grows.1 grown.0 grown.1 in
            (r.0, r.1 ∙ ap (λ x. End r.0 (x + 2 * size)) same, r.2)
        by (answers.Fault f t) faults = in_two n ∙ ap (λ o. then_do o n (run_parts M stores)) faults
        by More more = in_two n ∙ ap (λ o. then_do o n (run_parts M stores)) more
