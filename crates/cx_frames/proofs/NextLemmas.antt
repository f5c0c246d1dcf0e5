-- One more arm of a par in an accepted design.
use Rattle.std.proofs.Common.{◌≡◌, ℕ, suc, ◌+◌, Some, List, [], ◌∷◌, ◌++◌, take, drop, sym, ap, ◌∙◌, subst, arith}
use Rattle.std.specs.Prelude.{slice_get}
use Rattle.cx_text.specs.Members.{In}
use Rattle.cx_meaning.specs.Designs.{PlainDesign, Par, PlainStatement, Placed, PlainStatements, statements_of, list_of}
use Rattle.cx_meaning.specs.Instances.{part_of, tree_of, State, Path, instance_at}
use Rattle.cx_meaning.specs.Sights.{Held}
use Rattle.cx_meaning.specs.Budgets.{IsSteady}
use Rattle.cx_meaning.specs.Control.{drives}
use Rattle.cx_meaning.specs.Running.{run_statement}
use Rattle.cx_rules.specs.Footprints.{Reads}
use Rattle.cx_rules.specs.Items.{Visited, statements_in}
use Rattle.cx_rules.specs.RaceRule.{arms_of}
use Rattle.cx_rules.specs.Accepted.{IsAccepted}
use Rattle.cx_frames.specs.Arms.{all_drive, arms_run}
use Rattle.cx_frames.specs.Ran.{Outcome, Ran, limit, joined}
use Rattle.cx_frames.proofs.AlikeLemmas.{Frames}
use Rattle.cx_frames.proofs.ShareLemmas.{apart_from}
use Rattle.cx_frames.proofs.ArmLemmas.{next_ran, arm_stands, behind, one_longer}
use Rattle.cx_meaning.proofs.DesignsLemmas.{list_again}

module _ (d : PlainDesign) (path : Path) (held : Held) (accepted : IsAccepted d)
    (frames : (w : Visited) → In (statements_in (part_of (instance_at (tree_of d) path))) w → Frames (Reads (part_of (instance_at (tree_of d) path)) (Placed w.form w.place)) (run_statement (instance_at (tree_of d) path) held (Placed w.form w.place)))
    (steady : (statement : PlainStatement) → IsSteady (run_statement (instance_at (tree_of d) path) held statement))
    (v : Visited) (stands : In (statements_in (part_of (instance_at (tree_of d) path))) v) where
  -- with the arms before it and those after it
  pub next_split : (arms : PlainStatements) (done later : List PlainStatement) (arm : PlainStatement) (s cur next : State) (n : ℕ) (o p : Outcome)
      → v.form ≡ Par arms → list_of arms ≡ done ++ (arm ∷ later)
      → Ran (instance_at (tree_of d) path) (all_drive (part_of (instance_at (tree_of d) path)) done) (arms_run (instance_at (tree_of d) path) held done) s n cur o
      → Ran (instance_at (tree_of d) path) (drives (part_of (instance_at (tree_of d) path)) arm) (run_statement (instance_at (tree_of d) path) held arm) cur (limit n o) next p
      → Ran (instance_at (tree_of d) path) (all_drive (part_of (instance_at (tree_of d) path)) (done ++ (arm ∷ []))) (arms_run (instance_at (tree_of d) path) held (done ++ (arm ∷ []))) s n next (joined o p)
  next_split arms done later (Placed own place) s cur next n o p form split first second =
      next_ran (instance_at (tree_of d) path) held done (Placed own place) s cur next n o p
      (λ e reads drives. apart_from d accepted path v done later (Placed own place) stands (ap arms_of form ∙ split) e reads drives)
      (frames _ (arm_stands (part_of (instance_at (tree_of d) path)) v arms done later own place stands form split))
      steady first second

  -- by its number
  pub next_numbered : (list : List PlainStatement) (k : ℕ) (arm : PlainStatement) (s cur next : State) (n : ℕ) (o p : Outcome)
      → v.form ≡ Par (statements_of list) → slice_get list k ≡ Some arm
      → Ran (instance_at (tree_of d) path) (all_drive (part_of (instance_at (tree_of d) path)) (take k list)) (arms_run (instance_at (tree_of d) path) held (take k list)) s n cur o
      → Ran (instance_at (tree_of d) path) (drives (part_of (instance_at (tree_of d) path)) arm) (run_statement (instance_at (tree_of d) path) held arm) cur (limit n o) next p
      → Ran (instance_at (tree_of d) path) (all_drive (part_of (instance_at (tree_of d) path)) (take (k + 1) list)) (arms_run (instance_at (tree_of d) path) held (take (k + 1) list)) s n next (joined o p)
  next_numbered list k arm s cur next n o p form at first second =
      let count : suc k ≡ k + 1 = omega arith in
      subst (λ l. Ran (instance_at (tree_of d) path) (all_drive (part_of (instance_at (tree_of d) path)) l) (arms_run (instance_at (tree_of d) path) held l) s n next (joined o p))
      (sym (one_longer list k arm at) ∙ ap (λ m. take m list) count)
      (next_split (statements_of list) (take k list) (drop (suc k) list) arm s cur next n o p form (list_again list ∙ behind list k arm at) first second)
