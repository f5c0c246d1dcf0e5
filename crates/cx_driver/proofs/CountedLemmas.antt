-- A DESIGN'S RUN, with its counts, by the run of what is run of it and the table of the counts of that.
use Rattle.std.proofs.Common.{◌≡◌, inl, inr, ℕ, zero, suc, ◌+◌, ◌<◌, ◌≤◌, ◌%◌, ◌^◌, List, [], ◌∷◌, length, map, get_or, slice_get, sum_by, Some, Ok, Err, refl, sym, ap, ap₂, ◌∙◌, subst, arith}
use Rattle.std.proofs.Math.Nat.{add-mod, mod-eq_of_lt}
use Rattle.std.proofs.lemmas.List.FromFn.{get_or-map-range_with_len}
use Rattle.std.proofs.lemmas.List.Sums.{sum_by-cons}
use Rattle.cx_text.proofs.OptionLaws.{same_some}
use Rattle.cx_text.specs.declared.limits.TheConstants.{BUDGET}
use Rattle.cx_text.specs.Loading.{PlainMemory, words_loaded}
use Rattle.cx_data.specs.Load.{load_of}
use Rattle.cx_meaning.specs.Designs.{PlainDesign}
use Rattle.cx_meaning.specs.Instances.{instance_at, part_of, paths_of, tree_of}
use Rattle.cx_text.specs.Members.{In}
use Rattle.cx_rules.specs.Externals.{external_rows}
use Rattle.cx_profiling.specs.Counters.{ProfileEntry, entries_of}
use Rattle.cx_profiling.specs.Counting.{tally_of}
use Rattle.cx_profiling.specs.FlatEntries.{count_at, entries_in_flat, flat_entries, total_of}
use Rattle.cx_profiling.specs.WholeCounting.{whole_tally_of}
use Rattle.cx_profiling.proofs.EntriesThere.{entry_is_there}
use Rattle.cx_profile.specs.declared.entries.ProfiledGroup.{ProfiledGroup}
use Rattle.cx_state.specs.declared.tables.InstanceRow.{InstanceRow}
use Rattle.cx_state.specs.Tables.{IsTable}
use Rattle.cx_flat.specs.Places.{Standing, places_at, places_in}
use Rattle.cx_compiler.specs.Runnable.{RunsAsMeant, runnable}
use Rattle.cx_commands.specs.declared.stops.Stop.{Stop}
use Rattle.cx_compiler.specs.Interpreted.{IsRunLeft, PlainLeft, StopsRun, meant_left, run_left}
use Rattle.cx_compiler.proofs.MeantLemmas.{left_meant}
use Rattle.cx_driver.specs.Counted.{AreEntries, AreTallied, CountsLoaded, StopsLoaded}
use Rattle.cx_driver.specs.Placing.{count_of, number_along, standing_at, total_in}
use Rattle.cx_driver.specs.Profiling.{active_counts, loaded_counted, with_counts_of}
use Rattle.cx_driver.proofs.PlacedLemmas.{path_number}

-- what is counted of a data file, by what the design means on it
counts_loaded : (d : PlainDesign) (json : List ℕ) (ms : List PlainMemory) (n : ℕ) (left : PlainLeft) (counts : List ℕ) → load_of json (external_rows d) ≡ Ok ms → meant_left d ms n ≡ Ok left → counts ≡ active_counts d (words_loaded ms) n
    → CountsLoaded d json n (record { left = left; counts = counts })
counts_loaded d json ms n left counts loads means same =
    ap (loaded_counted d n) loads ∙ ap (with_counts_of (active_counts d (words_loaded ms) n)) means ∙ ap (λ cs. Ok (record { left = left; counts = cs })) (sym same)

stops_loaded : (d : PlainDesign) (json : List ℕ) (ms : List PlainMemory) (n : ℕ) (stop : Stop) → load_of json (external_rows d) ≡ Ok ms → meant_left d ms n ≡ Err stop → StopsLoaded d json n stop
stops_loaded d json ms n stop loads means = inr (ap (loaded_counted d n) loads ∙ ap (with_counts_of (active_counts d (words_loaded ms) n)) means)

-- what is listed at a place
got_map : {A B : Type 0} (f : A → B) (xs : List A) (n : ℕ) (x : A) (none : B) → slice_get xs n ≡ Some x → get_or (map f xs) n none ≡ f x
got_map f [] n x none e = absurd (cc)
got_map f (y ∷ ys) zero x none e = ap f (same_some y x e)
got_map f (y ∷ ys) (suc n) x none e = got_map f ys n x none e

-- WHAT STANDS FOR AN ENTRY, as it is listed
standing_is : (d : PlainDesign) (places : List Standing) → places ≡ places_in (tree_of d) → (e : ProfileEntry) → In (entries_of (tree_of d)) e → (n : ℕ) → slice_get (paths_of (tree_of d)) n ≡ Some e.path
    → standing_at places n e.group ≡ flat_entries d e
standing_is d places are e inside n number =
    ap (λ ps. get_or (get_or ps n []) e.group []) are
    ∙ ap (λ own. get_or own e.group []) (got_map (places_at (tree_of d)) (paths_of (tree_of d)) n e.path [] number)
    ∙ get_or-map-range_with_len (entries_in_flat (tree_of d) e.path) 0 (length (part_of (instance_at (tree_of d) e.path)).groups) e.group e.group [] (entry_is_there d e inside) (let own : 0 + e.group ≡ e.group = omega arith in own)

module _ (d run : PlainDesign) (words : List (List ℕ)) (n : ℕ) (budget : n ≤ BUDGET) (rows : List InstanceRow) (children : List ℕ) (table : IsTable run rows children) (counts : List (List ℕ)) (tallied : AreTallied run words n counts)
    (law : (e : ProfileEntry) → In (entries_of (tree_of d)) e → whole_tally_of d words n e.path e.group ≡ total_of (tally_of run words n) (flat_entries d e))
    (there : (e : ProfileEntry) → In (entries_of (tree_of d)) e → (f : ProfileEntry) → In (flat_entries d e) f → f.group < length (part_of (instance_at (tree_of run) f.path)).groups)
    (within : (e : ProfileEntry) → In (entries_of (tree_of d)) e → whole_tally_of d words n e.path e.group ≤ n) where
  sum_counts : (list : List ProfileEntry) → ((f : ProfileEntry) → In list f → f.group < length (part_of (instance_at (tree_of run) f.path)).groups)
      → sum_by (count_of rows children counts) list % 2 ^ 64 ≡ total_of (tally_of run words n) list % 2 ^ 64
  sum_counts [] each = refl
  sum_counts (f ∷ fs) each =
      let one = tallied (number_along rows children 0 f.path) f.group f.path (path_number run rows children table f.group f.path (each f (inl refl))) (each f (inl refl)) in
      ap (λ k. k % 2 ^ 64) (sum_by-cons (count_of rows children counts) f fs)
      ∙ add-mod (count_of rows children counts f) (sum_by (count_of rows children counts) fs) (2 ^ 64)
      ∙ ap₂ (λ a b. (a + b) % 2 ^ 64) one (sum_counts fs (λ g i. each g (inr i)))
      ∙ sym (add-mod (tally_of run words n f.path f.group) (total_of (tally_of run words n) fs) (2 ^ 64))
      ∙ sym (ap (λ k. k % 2 ^ 64) (sum_by-cons (count_at (tally_of run words n)) f fs))

  -- within the budget of a command the counts are the numbers of cycles themselves
  entry_total : (e : ProfileEntry) → In (entries_of (tree_of d)) e → total_in rows children counts (flat_entries d e) ≡ whole_tally_of d words n e.path e.group
  entry_total e inside =
      let most = within e inside in
      let few : n ≤ 1000000000000 = budget in
      let small : whole_tally_of d words n e.path e.group < 2 ^ 64 = omega (arith, few, most) in
      sum_counts (flat_entries d e) (there e inside) ∙ ap (λ k. k % 2 ^ 64) (sym (law e inside)) ∙ mod-eq_of_lt small

  listed_totals : (places : List Standing) → places ≡ places_in (tree_of d) → (groups : List ProfiledGroup) (es : List ProfileEntry) → map (λ (g : ProfiledGroup). g.group) groups ≡ map (λ (e : ProfileEntry). e.group) es
      → map (λ (g : ProfiledGroup). slice_get (paths_of (tree_of d)) g.instance) groups ≡ map (λ (e : ProfileEntry). Some e.path) es → ((e : ProfileEntry) → In es e → In (entries_of (tree_of d)) e)
      → map (λ (g : ProfiledGroup). total_in rows children counts (standing_at places g.instance g.group)) groups ≡ map (λ (e : ProfileEntry). whole_tally_of d words n e.path e.group) es
  listed_totals places are [] [] a b inside = refl
  listed_totals places are [] (e ∷ es) a b inside = absurd (let h : 0 ≡ suc (length (map (λ (e : ProfileEntry). e.group) es)) = ap length a in omega (arith, h))
  listed_totals places are (g ∷ gs) [] a b inside = absurd (let h : suc (length (map (λ (g : ProfiledGroup). g.group) gs)) ≡ 0 = ap length a in omega (arith, h))
  listed_totals places are (g ∷ gs) (e ∷ es) a b inside =
      let group : g.group ≡ e.group = cc (a) in
      let place : slice_get (paths_of (tree_of d)) g.instance ≡ Some e.path = cc (b) in
      let groups : map (λ (g : ProfiledGroup). g.group) gs ≡ map (λ (e : ProfileEntry). e.group) es = cc (a) in
      let instances : map (λ (g : ProfiledGroup). slice_get (paths_of (tree_of d)) g.instance) gs ≡ map (λ (e : ProfileEntry). Some e.path) es = cc (b) in
      ap₂ (λ x xs. x ∷ xs)
      (ap (λ k. total_in rows children counts (standing_at places g.instance k)) group
      ∙ ap (total_in rows children counts) (standing_is d places are e (inside e (inl refl)) g.instance place) ∙ entry_total e (inside e (inl refl)))
      (listed_totals places are gs es groups instances (λ x i. inside x (inr i)))

  pub group_totals : (places : List Standing) → places ≡ places_in (tree_of d) → (groups : List ProfiledGroup) → AreEntries d groups
      → map (λ (g : ProfiledGroup). total_in rows children counts (standing_at places g.instance g.group)) groups ≡ active_counts d words n
  group_totals places are groups entries = listed_totals places are groups (entries_of (tree_of d)) entries.numbers entries.instances (λ e i. i)

-- THE RUN of what is run
module _ (d run : PlainDesign) (is : run ≡ runnable d) (runs : RunsAsMeant d) (json : List ℕ) (ms : List PlainMemory) (n : ℕ) (loads : load_of json (external_rows d) ≡ Ok ms) where
  pub run_counts : (left : PlainLeft) (counts : List ℕ) → IsRunLeft run ms n left → counts ≡ active_counts d (words_loaded ms) n → CountsLoaded d json n (record { left = left; counts = counts })
  run_counts left counts h same =
      counts_loaded d json ms n left counts loads (left_meant d runs ms n ∙ subst (λ (e : PlainDesign). IsRunLeft e ms n left) is h) same

  pub run_stops : (stop : Stop) → StopsRun run ms n stop → StopsLoaded d json n stop
  run_stops stop (inl memory) = inl memory
  run_stops stop (inr h) = stops_loaded d json ms n stop loads (left_meant d runs ms n ∙ subst (λ (e : PlainDesign). run_left e ms n ≡ Err stop) is h)
