-- WHAT THE RUN OF A DESIGN COUNTS, by that of its flat design, and of the design that is run.
use Rattle.std.proofs.Common.{◌≡◌, ℕ, zero, suc, false, inl, inr, List, [], ◌∷◌, ◌++◌, refl, sym, ap, ◌∙◌, subst}
use Rattle.cx_text.specs.Members.{In}
use Rattle.cx_meaning.specs.Designs.{PlainDesign}
use Rattle.cx_meaning.specs.Instances.{Instance, Node, Cells, no_cells, a_primitive, an_instance, OfInstance, cell_at, Path, start, tree_of}
use Rattle.cx_meaning.specs.Sights.{unheld}
use Rattle.cx_meaning.proofs.InstancesLemmas.{instance_is}
use Rattle.cx_rules.specs.Accepted.{IsAccepted}
use Rattle.cx_rules.specs.Wellformed.{IsDesign}
use Rattle.cx_laws.proofs.StartLemmas.{design_starts_settled}
use Rattle.cx_flattening.specs.Embedded.{Stands}
use Rattle.cx_flattening.specs.Ends.{NoneNamesDone}
use Rattle.cx_flattening.specs.Flattened.{behind, kept_at, kid_if, flat_kids, flat_part}
use Rattle.cx_flattening.specs.FlatDesign.{flat_design}
use Rattle.cx_flattening.specs.Runnable.{runnable}
use Rattle.cx_flattening.specs.Whole.{is_static}
use Rattle.cx_flattening.proofs.AcceptedRuns.{accepted_asks}
use Rattle.cx_flattening.proofs.BareIslands.{NoStatic}
use Rattle.cx_flattening.proofs.BareRuns.{BareTree, BareCells}
use Rattle.cx_flattening.proofs.BareDesigns.{bare_design}
use Rattle.cx_flattening.proofs.LevelSights.{kid-dynamic}
use Rattle.cx_flattening.proofs.RunnableLemmas.{by_static}
use Rattle.cx_profiling.specs.Counters.{ProfileEntry}
use Rattle.cx_profiling.specs.Counting.{tally_of}
use Rattle.cx_profiling.specs.WholeCounting.{whole_tally_of}
use Rattle.cx_profiling.specs.FlatEntries.{entry_at, placed_entry, placed_entries, entries_in_flat, flat_entries, total_of}
use Rattle.cx_profiling.proofs.BareCounts.{whole_tally_flat}
use Rattle.cx_profiling.proofs.FlatTotals.{total-alone, entries-child, IsThere, child_there}
use Rattle.cx_profiling.proofs.FlatControl.{control_tells}

pub flat_counts : (d : PlainDesign) → IsDesign d → IsAccepted d → NoneNamesDone d → (words : List (List ℕ))
    → Stands (tree_of d) 0 (start (tree_of d) words) (start (tree_of (flat_design d)) words)
    → (n : ℕ) (path : Path) (g : ℕ) → IsThere (tree_of d) path g → whole_tally_of d words n path g ≡ total_of (tally_of (flat_design d) words n) (flat_entries d (entry_at path g))
flat_counts d design accepted undone words begin n path g there =
    control_tells (tree_of d) (tree_of (flat_design d)) (accepted_asks d design accepted undone) unheld (start (tree_of d) words) (start (tree_of (flat_design d)) words) n
    begin (design_starts_settled (flat_design d) words) path g there

-- WHERE NOTHING IS STATIC each entry stands for itself
bare_child : (cells : Cells) (c : ℕ) (child : Instance) → NoStatic cells → BareCells cells → cell_at cells c ≡ OfInstance child → (is_static child ≡ false) × BareTree child
bare_child no_cells c child none bare at = absurd (cc)
bare_child (a_primitive row rest) zero child none bare at = absurd (cc)
bare_child (a_primitive row rest) (suc c) child none bare at = bare_child rest c child none bare at
bare_child (an_instance other rest) zero child none bare at =
    subst (λ x. (is_static x ≡ false) × BareTree x) (instance_is other child at) (none.0, bare.0)
bare_child (an_instance other rest) (suc c) child none bare at = bare_child rest c child none.1 bare.1 at

bare_kept : (cells : Cells) (c : ℕ) (child : Instance) → NoStatic cells → cell_at cells c ≡ OfInstance child → kept_at (flat_kids cells) c ≡ c
bare_kept no_cells c child none at = absurd (cc)
bare_kept (a_primitive row rest) zero child none at = refl
bare_kept (a_primitive row rest) (suc c) child none at = ap suc (bare_kept rest c child none at)
bare_kept (an_instance other rest) zero child none at = refl
bare_kept (an_instance other rest) (suc c) child none at =
    ap (λ b. behind (kid_if b (flat_part other)) (kept_at (flat_kids rest) c)) none.0 ∙ ap suc (bare_kept rest c child none.1 at)

bare_entries : (i : Instance) → BareTree i → (path : Path) (g : ℕ) → IsThere i path g → entries_in_flat i path g ≡ entry_at path g ∷ []
bare_entries (Node part cells) bare [] g there = refl
bare_entries (Node part cells) bare (c ∷ path) g there =
    let r = child_there cells c path g there in
    let its = bare_child cells c r.0 bare.1.1.0 bare.1.1.1 r.1 in
    ap (placed_entries (flat_kids cells) part c) (entries-child cells c r.0 r.1 path g ∙ bare_entries r.0 its.1 path g r.2)
    ∙ ap (λ kid. placed_entry (flat_kids cells) part c kid path g ++ []) (kid-dynamic cells c r.0 r.1 its.0)
    ∙ ap (λ k. entry_at (k ∷ path) g ∷ []) (bare_kept cells c r.0 bare.1.1.0 r.1)

pub run_counts : (d : PlainDesign) → IsDesign d → IsAccepted d → NoneNamesDone d → (words : List (List ℕ))
    → Stands (tree_of d) 0 (start (tree_of d) words) (start (tree_of (flat_design d)) words)
    → (n : ℕ) (path : Path) (g : ℕ) → IsThere (tree_of d) path g → whole_tally_of d words n path g ≡ total_of (tally_of (runnable d) words n) (flat_entries d (entry_at path g))
run_counts d design accepted undone words begin n path g there =
    by_static d (λ made. whole_tally_of d words n path g ≡ total_of (tally_of made words n) (flat_entries d (entry_at path g)))
    (flat_counts d design accepted undone words begin n path g there)
    (λ flat.
    ap (λ tally. tally path g) (whole_tally_flat d design flat words n) ∙ sym (total-alone (tally_of d words n) path g)
    ∙ ap (total_of (tally_of d words n)) (sym (bare_entries (tree_of d) (bare_design d design flat) path g there)))

-- AN ENTRY THAT STANDS FOR ANOTHER in the design that is run is there, as in the flat design
pub run_entry_there : (d : PlainDesign) → IsDesign d → (path : Path) (g : ℕ) → IsThere (tree_of d) path g → (e : ProfileEntry) → In (flat_entries d (entry_at path g)) e → IsThere (tree_of (flat_design d)) e.path e.group
    → IsThere (tree_of (runnable d)) e.path e.group
run_entry_there d design path g there e inside made =
    by_static d (λ run. IsThere (tree_of run) e.path e.group) made
    (λ flat. itself (subst (λ list. In list e) (bare_entries (tree_of d) (bare_design d design flat) path g there) inside))
  where
    itself : In (entry_at path g ∷ []) e → IsThere (tree_of d) e.path e.group
    itself (inl same) = subst (λ (f : ProfileEntry). IsThere (tree_of d) f.path f.group) same there
    itself (inr none) = absurd none
