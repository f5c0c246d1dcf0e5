-- THE RUN OF MAIN of the shared design, static components among it: from the same words it ends in the same turn with the same words, or has the
-- same fault.
use Rattle.std.proofs.Common.{◌≡◌, ℕ, List, length, refl, ap, ◌∙◌}
use Rattle.cx_meaning.specs.Designs.{PlainDesign}
use Rattle.cx_meaning.specs.Instances.{Instance, tree_within, tree_of, State, start, words_of}
use Rattle.cx_meaning.specs.Sights.{unheld}
use Rattle.cx_meaning.specs.Cycles.{Fault}
use Rattle.cx_meaning.specs.Answers.{Answer, End, More}
use Rattle.cx_meaning.specs.Answers as answers
use Rattle.cx_rules.specs.Accepted.{IsAccepted}
use Rattle.cx_rules.specs.Wellformed.{IsDesign}
use Rattle.cx_rewrites.specs.Tallies.{none}
use Rattle.cx_rewrites.specs.Carrying.{Exact, Carried}
use Rattle.cx_rewrites.proofs.FollowLemmas.{end_followed, fault_followed, more_followed}
use Rattle.cx_flattening.specs.Ends.{NoneNamesDone}
use Rattle.cx_flattening.specs.Whole.{whole_control, whole_main}
use Rattle.cx_flattening.proofs.AcceptedTrees.{good}
use Rattle.cx_sharing.specs.SharedDesign.{shared_design}
use Rattle.cx_sharing.specs.Following.{SharedStands, shared_fault}
use Rattle.cx_sharing.proofs.SharedMain.{tree_shared, twins, kept, memories, start_shared, words_shared}
use Rattle.cx_sharing.proofs.WholeTwins.{tree_twins}
use Rattle.cx_sharing.proofs.WholeControl.{control_alike}

module _ (d : PlainDesign) (design : IsDesign d) (accepted : IsAccepted d) (undone : NoneNamesDone d) (words : List (List ℕ)) (n : ℕ) where
  abbrev twin_tree : Instance
  twin_tree = tree_within (shared_design d) (length d.components) d.main

  abbrev twin_run : Answer State Fault
  twin_run = whole_control twin_tree unheld (start twin_tree words) n

  run_is : whole_main (shared_design d) words n ≡ twin_run
  run_is = ap (λ i. whole_control i unheld (start i words) n) (tree_shared d design accepted)

  carried : Carried Exact (λ counted. SharedStands (tree_of d)) (shared_fault (tree_of d)) none none (whole_main d words n) twin_run
  carried =
      let g = good d design accepted undone in
      control_alike (tree_twins d design accepted undone (length d.components) d.main) g.controlled g.rules g.calm unheld none (start (tree_of d) words) (start twin_tree words) n n refl
      (start_shared (tree_of d) twin_tree (twins d design accepted) (kept d design accepted) words)

  -- THE SHARED DESIGN RUNS ALIKE
  pub whole_ends : (s : State) (t : ℕ) → whole_main d words n ≡ End s t
      → (z : State) × (whole_main (shared_design d) words n ≡ End z t) × (words_of (tree_of (shared_design d)) z ≡ words_of (tree_of d) s) × SharedStands (tree_of d) s z
  whole_ends s t ends =
      let r = end_followed (λ counted. SharedStands (tree_of d)) (shared_fault (tree_of d)) none none (whole_main d words n) twin_run s t ends carried in (
        r.0,
        run_is ∙ r.1,
        ap (λ i. words_of i r.0) (tree_shared d design accepted) ∙ words_shared (tree_of d) twin_tree (twins d design accepted) (kept d design accepted) s r.0 r.2 (memories d design accepted),
        r.2,
      )

  pub whole_fault : (f : Fault) (t : ℕ) → whole_main d words n ≡ answers.Fault f t → whole_main (shared_design d) words n ≡ answers.Fault (shared_fault (tree_of d) f) t
  whole_fault f t stops = run_is ∙ fault_followed (λ counted. SharedStands (tree_of d)) (shared_fault (tree_of d)) none none (whole_main d words n) twin_run f t stops carried

  pub whole_more : whole_main d words n ≡ More → whole_main (shared_design d) words n ≡ More
  whole_more more = run_is ∙ more_followed (λ counted. SharedStands (tree_of d)) (shared_fault (tree_of d)) none none (whole_main d words n) twin_run more carried
