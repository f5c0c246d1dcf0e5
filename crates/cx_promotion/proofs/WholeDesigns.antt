-- A PROMOTED DESIGN QUICKENS, with static components: where the old run of main ends, the new one ends no later, in the same state.
use Rattle.std.proofs.Common.{◌≡◌, ℕ, ◌≤◌, List, [], ◌∷◌, length, map, sym, ap, ◌∙◌, subst, arith}
use Rattle.std.proofs.Math.Path.{fun_ext}
use Rattle.cx_prim.specs.CellStates as cell_states
use Rattle.cx_meaning.specs.Designs.{PlainDesign, component_at}
use Rattle.cx_meaning.specs.Instances.{Instance, part_of, tree_within, tree_of, Path, State, start_at, externals_from, externals_of, loaded_at, start, words_of}
use Rattle.cx_meaning.specs.Sights.{unheld}
use Rattle.cx_meaning.specs.Cycles.{Fault}
use Rattle.cx_meaning.specs.Answers.{Answer, End}
use Rattle.cx_rules.specs.Accepted.{IsAccepted}
use Rattle.cx_rules.specs.Externals.{rows_of, external_rows}
use Rattle.cx_rules.specs.Wellformed.{IsDesign}
use Rattle.cx_laws.proofs.StartLemmas.{design_starts_settled}
use Rattle.cx_rewrites.specs.Tallies.{none}
use Rattle.cx_rewrites.specs.Carrying.{NoLater, Carried}
use Rattle.cx_rewrites.specs.Places.{SameDesign}
use Rattle.cx_rewrites.proofs.PlaceDesigns.{external_rows-same}
use Rattle.cx_flattening.specs.Ends.{NoneNamesDone}
use Rattle.cx_flattening.specs.Whole.{whole_control, whole_main}
use Rattle.cx_flattening.proofs.AcceptedTrees.{good}
use Rattle.cx_flattening.proofs.WholePlaces.{whole_main-same}
use Rattle.cx_promotion.specs.Made.{DesignMade, WholeQuickens}
use Rattle.cx_promotion.proofs.Twins.{Twins, beside_each, start_at-twin}
use Rattle.cx_promotion.proofs.MadeBeside.{MadeBeside}
use Rattle.cx_promotion.proofs.LeavesQuicken.{same_fault, SameSettled}
use Rattle.cx_promotion.proofs.Trees.{trees_are_twins}
use Rattle.cx_promotion.proofs.WholeRuns.{whole_quickens}

externals-twin : (i j : Instance) → Twins MadeBeside i j → externals_of (part_of i) ≡ externals_of (part_of j)
externals-twin i j t = ap (externals_from 0) (beside_each MadeBeside i j t).made.cells

-- the start is the same
start-twin : (i j : Instance) → Twins MadeBeside i j → (words : List (List ℕ)) → start i words ≡ start j words
start-twin i j t words = fun_ext each
  where
    each : (path : Path) → start i words path ≡ start j words path
    each [] = start_at-twin MadeBeside i j t []
    each (c ∷ []) =
        ap (λ es. loaded_at es words c (start_at i (c ∷ []))) (externals-twin i j t) ∙ ap (loaded_at (externals_of (part_of j)) words c) (start_at-twin MadeBeside i j t (c ∷ []))
    each (c ∷ e ∷ path) = start_at-twin MadeBeside i j t (c ∷ e ∷ path)

module _ (old new : PlainDesign) (design : IsDesign old) (accepted : IsAccepted old) (is_made : DesignMade old new) where
  -- the tree of the new design
  abbrev j : Instance
  j = tree_within new (length old.components) old.main

  tree_is : j ≡ tree_of new
  tree_is = ap (λ n. tree_within new n old.main) is_made.count ∙ ap (tree_within new (length new.components)) is_made.main

  rows_same : external_rows old ≡ external_rows new
  rows_same =
      let parts = is_made.parts old.main design.main_there in
      ap rows_of parts.cells ∙ ap (λ k. rows_of (component_at new k).cells) is_made.main

  -- what the external memories hold is read alike
  pub words_stay : (s : State) → words_of (tree_of new) s ≡ words_of (tree_of old) s
  words_stay s =
      ap (λ tree. words_of tree s) (sym tree_is)
      ∙ ap (map (λ c. cell_states.words_of (s (c ∷ [])))) (sym (externals-twin (tree_of old) j (trees_are_twins old new design accepted is_made)))

  same_end : (o x : Answer State Fault) (s : State) (t : ℕ) → o ≡ End s t → Carried NoLater (SameSettled (tree_of old)) same_fault none none o x → (k : ℕ) × (x ≡ End s k) × (k ≤ t)
  same_end o x s t e carried =
      let r = subst (λ a. Carried NoLater (SameSettled (tree_of old)) same_fault none none a x) e carried in
      (r.1, r.2 ∙ ap (λ z. End z r.1) (sym r.4.0), r.3)

  module _ (undone : NoneNamesDone old) where
    abbrev Ends : Instance → List (List ℕ) → ℕ → State → ℕ → Type 0
    Ends tree words n s t = (k : ℕ) × (whole_control tree unheld (start tree words) n ≡ End s k) × (k ≤ t)

    twin_ends : (words : List (List ℕ)) (n t : ℕ) (s : State) → whole_main old words n ≡ End s t → Ends j words n s t
    twin_ends words n t s e =
        let twins = trees_are_twins old new design accepted is_made in
        let sound = good old design accepted undone in
        same_end (whole_main old words n) (whole_control j unheld (start j words) n) s t e
        (whole_quickens (tree_of old) j twins sound.rules sound.controlled unheld none (start (tree_of old) words) (start j words) n n (within n)
        (start-twin (tree_of old) j twins words, design_starts_settled old words))
      where
        within : (n : ℕ) → n ≤ n
        within n = omega arith

    -- THE THEOREM
    pub design_quickens : WholeQuickens old new
    design_quickens = record { rows = rows_same; runs = λ words n t s e. subst (λ tree. Ends tree words n s t) tree_is (twin_ends words n t s e) }

    -- and of a design that is the new one apart from places
    pub again_quickens : (again : PlainDesign) → SameDesign new again → WholeQuickens old again
    again_quickens again same = record {
      rows = rows_same ∙ external_rows-same new again same;
      runs = λ words n t s e. let r = design_quickens.runs words n t s e in (r.0, sym (whole_main-same new again same words n) ∙ r.1, r.2);
    }
