-- THE MACHINE OF A DESIGN runs as its main, where the control of main does what it means.
use Rattle.std.proofs.Common.{◌≡◌, ℕ, ◌⊎◌, inl, inr, ◌<◌, Bool, false, List, refl, sym, subst, arith}
use Rattle.cx_meaning.specs.Designs.{PlainDesign, PlainComponent}
use Rattle.cx_meaning.specs.Instances.{State, tree_of, start, part_of, IsSettled}
use Rattle.cx_meaning.specs.Sights.{unheld}
use Rattle.cx_meaning.specs.Answers.{End, More}
use Rattle.cx_meaning.specs.Control.{drives}
use Rattle.cx_meaning.specs.Running.{run_control, run_main}
use Rattle.cx_rules.specs.Footprints.{Reads}
use Rattle.cx_lockstep.specs.Worlds.{Machine, Moment, is_done, IsQuiet}
use Rattle.cx_lockstep.specs.Doing.{Meets, Does}
use Rattle.cx_lockstep.proofs.EndLaws.{ended, StillGoes, going}
use Rattle.cx_control.specs.Spots.{Spot, Cell, Number, Input, Kept, shown, spots_of, reads_spot}
use Rattle.cx_control.specs.Numbers.{world_of, Rests}
use Rattle.cx_control.specs.DesignRuns.{design_machine, moment_of, EndsSo, GoesOnSo, MachineRuns}
use Rattle.cx_text.proofs.NumberLaws.{before_more}

module _ (d : PlainDesign)
    (does : Does (world_of (tree_of d)) (Rests (tree_of d)) (design_machine d) (spots_of (drives (part_of (tree_of d)) (PlainComponent.control (part_of (tree_of d)))))
    (reads_spot (Reads (part_of (tree_of d)) (PlainComponent.control (part_of (tree_of d))))) (λ held. run_control (tree_of d) held))
    (settled : (words : List (List ℕ)) → IsSettled (tree_of d) (start (tree_of d) words)) where
  abbrev driven : Spot → Bool
  driven = spots_of (drives (part_of (tree_of d)) (PlainComponent.control (part_of (tree_of d))))

  abbrev begun : List (List ℕ) → Kept
  begun words = shown unheld (start (tree_of d) words)

  rests : (words : List (List ℕ)) (x : Spot) → Unit {0} → Rests (tree_of d) x (begun words x)
  rests words (Cell path) i = settled words path
  rests words (Number path n) i = refl
  rests words (Input n) i = tt

  meets : (words : List (List ℕ)) (n : ℕ) → Meets (world_of (tree_of d)) (Rests (tree_of d)) (design_machine d) (λ x. Unit {0}) unheld driven
      (Machine.start (design_machine d)) (begun words) n (run_main d words n)
  meets words n = does.does (λ x. Unit {0}) driven (λ x r. tt) (λ x free. free) unheld (start (tree_of d) words) n (rests words)

  ends : (words : List (List ℕ)) (n t : ℕ) (after : State) → run_main d words n ≡ End after t → EndsSo d words n t after
  ends words n t after is =
      let met = subst (Meets (world_of (tree_of d)) (Rests (tree_of d)) (design_machine d) (λ x. Unit {0}) unheld driven (Machine.start (design_machine d)) (begun words) n) is (meets words n) in
      let it = ended (world_of (tree_of d)) (Rests (tree_of d)) (design_machine d) driven (Machine.start (design_machine d)) (begun words) n t (shown unheld after) met in
      record { in_budget = met.in_budget; quiet = it.quiet; is_over = it.is_over; cells = λ path. it.store (Cell path) }

  goes : (words : List (List ℕ)) (n : ℕ) → run_main d words n ≡ More → GoesOnSo d words n
  goes words n is =
      let met = subst (Meets (world_of (tree_of d)) (Rests (tree_of d)) (design_machine d) (λ x. Unit {0}) unheld driven (Machine.start (design_machine d)) (begun words) n) is (meets words n) in
      let it = going (world_of (tree_of d)) (Rests (tree_of d)) (design_machine d) (Machine.start (design_machine d)) (begun words) n met in
      record { quiet = it.quiet; undone = λ k less. undone it k (before_more n k (omega (arith, less))) }
    where
      undone : StillGoes (world_of (tree_of d)) (Rests (tree_of d)) (design_machine d) (Machine.start (design_machine d)) (begun words) n → (k : ℕ) → (k < n) ⊎ (k ≡ n) → is_done (Moment.control (moment_of d words k)) ≡ false
      undone it k (inl less) = IsQuiet.goes (it.quiet k less)
      undone it k (inr same) = subst (λ j. is_done (Moment.control (moment_of d words j)) ≡ false) (sym same) it.goes

  pub machine_runs : MachineRuns d
  machine_runs = record { ends = ends; goes_on = goes }
