-- THE THEOREM with static components: an instrumented design runs as its design, two turns for each entry longer, and its last memory has the counts.
use Rattle.std.proofs.Common.{◌≡◌, ℕ, suc, ◌+◌, ◌*◌, ◌^◌, ◌%◌, ◌≤◌, List, [], ◌∷◌, ◌++◌, length, map, refl, sym, ap, ◌∙◌, subst}
use Rattle.cx_prim.specs.CellStates.{AreWords}
use Rattle.cx_meaning.specs.Designs.{PlainComponent, PlainDesign, component_at}
use Rattle.cx_meaning.specs.Instances.{Instance, Path, IsSettled, instance_at, start, externals_of, words_of, tree_within, tree_of}
use Rattle.cx_meaning.specs.Sights.{unheld}
use Rattle.cx_meaning.proofs.DesignsLemmas.{same_part}
use Rattle.cx_rules.specs.Accepted.{IsAccepted}
use Rattle.cx_rules.specs.Wellformed.{IsDesign}
use Rattle.cx_laws.proofs.StartLemmas.{design_starts_settled}
use Rattle.cx_frames.proofs.EnableLemmas.{BareEnablesNothing, instance_bare}
use Rattle.cx_flattening.specs.Ends.{NoneNamesDone}
use Rattle.cx_flattening.specs.Whole.{whole_control, whole_main}
use Rattle.cx_flattening.proofs.AcceptedTrees.{IsGood, good}
use Rattle.cx_profiling.specs.Counters.{ProfileEntry, shown_in, entries_of, entry_count}
use Rattle.cx_profiling.specs.WholeCounting.{count_whole_control}
use Rattle.cx_profiling.specs.Instrumented.{instrumented, with_counts}
use Rattle.cx_profiling.specs.RunsAlike.{Owes, HasMemories}
use Rattle.cx_profiling.specs.WholeRunsAlike.{whole_counts_of, WholeInstrumentsAs}
use Rattle.cx_profiling.proofs.GainedLemmas.{components-length}
use Rattle.cx_profiling.proofs.RoleLemmas.{Role, as_main, as_child, as_kept, role}
use Rattle.cx_profiling.proofs.GrownTrees.{InTree, main_in_tree}
use Rattle.cx_profiling.proofs.AlikeLemmas.{some_levels, entry_counts, instrumented_is}
use Rattle.cx_profiling.proofs.WholeMain.{whole_main_owes}

module _ (d : PlainDesign) (design : IsDesign d) (accepted : IsAccepted d) (grown_accepted : IsAccepted (with_counts d)) (undone : NoneNamesDone d) (some : 1 ≤ entry_count d) where
  -- of trees that are those of both designs
  abbrev OwesFor : (words : List (List ℕ)) (new : List ℕ) (n : ℕ) → Instance → Instance → Type 0
  OwesFor words new n i j =
      Owes (λ s u. words_of j u ≡ words_of i s ++ map (λ (e : ProfileEntry). count_whole_control i unheld (start i words) n e.path e.group % 2 ^ 64) (entries_of (tree_of d)) ∷ []) (entry_count d)
      (whole_control i unheld (start i words) n) (whole_control j unheld (start j (words ++ new ∷ [])) n) (whole_control j unheld (start j (words ++ new ∷ [])) (n + 2 * entry_count d))

  with_counts_owes : (words : List (List ℕ)) (new : List ℕ) (n : ℕ) → HasMemories d words → AreWords 64 (entry_count d) new → OwesFor words new n (tree_of d) (tree_of (with_counts d))
  with_counts_owes words new n fits whole = by (role d d.main design.main_there)
    where
      levels : (m : ℕ) × (length d.components ≡ suc m)
      levels = some_levels (length d.components) d.main design.main_there

      at : InTree d (suc levels.0) d.main
      at = subst (λ n. InTree d n d.main) levels.1 (main_in_tree d design)

      first : tree_of d ≡ tree_within d (suc levels.0) d.main
      first = ap (λ n. tree_within d n d.main) levels.1

      second : tree_of (with_counts d) ≡ tree_within (with_counts d) (suc levels.0) d.main
      second = ap (λ n. tree_within (with_counts d) n d.main) (components-length d ∙ levels.1)

      bare : (path : Path) → BareEnablesNothing (instance_at (tree_within (with_counts d) (suc levels.0) d.main) path)
      bare path = subst (λ x. BareEnablesNothing (instance_at x path)) second (instance_bare (with_counts d) grown_accepted path)

      sound : IsGood (tree_within d (suc levels.0) d.main)
      sound = subst IsGood first (good d design accepted undone)

      rests : (words : List (List ℕ)) → IsSettled (tree_within (with_counts d) (suc levels.0) d.main) (start (tree_within (with_counts d) (suc levels.0) d.main) words)
      rests words = subst (λ x. IsSettled x (start x words)) second (design_starts_settled (with_counts d) words)

      memories : length words ≡ length (externals_of (component_at d d.main))
      memories = subst (λ (x : PlainComponent). length words ≡ length (externals_of x)) (same_part d (length d.components) d.main) fits

      by : Role d d.main → OwesFor words new n (tree_of d) (tree_of (with_counts d))
      by (as_child names other r is) = absurd (other refl)
      by (as_kept other r is) = absurd (other refl)
      by (as_main names same is) =
          subst (λ x. OwesFor words new n x (tree_of (with_counts d))) (sym first)
          (subst (λ x. OwesFor words new n (tree_within d (suc levels.0) d.main) x) (sym second)
          (subst (λ counts. Owes (λ s u. words_of (tree_within (with_counts d) (suc levels.0) d.main) u ≡ words_of (tree_within d (suc levels.0) d.main) s ++ counts ∷ []) (entry_count d)
          (whole_control (tree_within d (suc levels.0) d.main) unheld (start (tree_within d (suc levels.0) d.main) words) n)
          (whole_control (tree_within (with_counts d) (suc levels.0) d.main) unheld (start (tree_within (with_counts d) (suc levels.0) d.main) (words ++ new ∷ [])) n)
          (whole_control (tree_within (with_counts d) (suc levels.0) d.main) unheld (start (tree_within (with_counts d) (suc levels.0) d.main) (words ++ new ∷ [])) (n + 2 * entry_count d)))
          (sym (entry_counts (λ e. count_whole_control (tree_within d (suc levels.0) d.main) unheld (start (tree_within d (suc levels.0) d.main) words) n e.path e.group % 2 ^ 64) (shown_in (tree_of d))))
          (whole_main_owes d design accepted grown_accepted levels.0 d.main at names is bare some sound.controlled sound.rules rests words new n memories whole)))

-- AN INSTRUMENTED DESIGN RUNS ALIKE
pub whole_runs_alike : (d : PlainDesign) → IsDesign d → IsAccepted d → NoneNamesDone d → IsAccepted (instrumented d) → 1 ≤ entry_count d → WholeInstrumentsAs d
whole_runs_alike d design accepted undone grown_accepted some words new n fits whole =
    subst (λ x. Owes (λ s u. words_of (tree_of x) u ≡ words_of (tree_of d) s ++ whole_counts_of d words n ∷ []) (entry_count d) (whole_main d words n) (whole_main x (words ++ new ∷ []) n) (whole_main x (words ++ new ∷ []) (n + 2 * entry_count d)))
    (sym (instrumented_is d some)) (with_counts_owes d design accepted (subst IsAccepted (instrumented_is d some) grown_accepted) undone some words new n fits whole)
