-- The machine of a design runs as main from every settled state, the end of a run included.
use Rattle.std.proofs.Common.{◌≡◌, ℕ, zero, suc, ◌⊎◌, inl, inr, ◌<◌, ◌≤◌, Bool, true, false, refl, sym, ap, subst, arith}
use Rattle.cx_meaning.specs.Designs.{PlainDesign, PlainComponent}
use Rattle.cx_meaning.specs.Instances.{Instance, Node, State, tree_of, Path, instance_at, part_of, IsSettled}
use Rattle.cx_meaning.specs.Sights.{Held, unheld}
use Rattle.cx_meaning.specs.Answers.{End, More}
use Rattle.cx_meaning.specs.Budgets.{Leaves}
use Rattle.cx_meaning.specs.Control.{drives}
use Rattle.cx_meaning.specs.Laws.{AllRows}
use Rattle.cx_meaning.specs.Rows.{KeepsIdle}
use Rattle.cx_meaning.specs.Running.{run_control}
use Rattle.cx_meaning.proofs.IdleLemmas.{kept_within}
use Rattle.cx_meaning.proofs.RunningLemmas.{settles_statement}
use Rattle.cx_rules.specs.Footprints.{Reads}
use Rattle.cx_lockstep.specs.Worlds.{Machine, Moment, after_cycles, is_done, IsQuiet}
use Rattle.cx_lockstep.specs.Doing.{Does, Meets}
use Rattle.cx_lockstep.proofs.EndLaws.{ended, StillGoes, going}
use Rattle.cx_control.specs.ControlRules.{ControlRules}
use Rattle.cx_control.specs.IslandRules.{IslandRules}
use Rattle.cx_control.specs.Spots.{Spot, Cell, Number, Input, shown, spots_of, reads_spot}
use Rattle.cx_control.specs.Numbers.{spot_idle, world_of, Rests}
use Rattle.cx_control.specs.DesignRuns.{design_machine}
use Rattle.cx_control.proofs.ControlLaws.{control_does}
use Rattle.cx_control.proofs.DesignRuns.{islands_do}
use Rattle.cx_emitted.specs.Stays.{run_from}
use Rattle.cx_text.proofs.NumberLaws.{before_more}

-- A RUN LEAVES a settled state
control_settles : (i : Instance) → AllRows KeepsIdle i → (held : Held) (s : State) (n : ℕ) → IsSettled i s → Leaves (IsSettled i) (run_control i held s n)
control_settles (Node part cells) keep held s n settled = settles_statement (Node part cells) keep held part.control s n settled

pub end_settled : (d : PlainDesign) (s after : State) (n t : ℕ) → IsSettled (tree_of d) s → run_from d s n ≡ End after t → IsSettled (tree_of d) after
end_settled d s after n t settled e =
    subst (Leaves (IsSettled (tree_of d))) e (control_settles (tree_of d) (kept_within d _ d.main) unheld s n settled)

-- after so many cycles from the start of the machine, with the cells of a state
abbrev pub moment_from : (d : PlainDesign) → State → ℕ → Moment (design_machine d)
moment_from d s k = after_cycles (spot_idle (tree_of d)) (design_machine d) k (record { control = Machine.start (design_machine d); store = shown unheld s })

pub record EndsFrom (d : PlainDesign) (s : State) (n t : ℕ) (after : State) : Type 0 where
  pub in_budget : t ≤ n
  pub quiet : (k : ℕ) → k < t → IsQuiet (design_machine d) (moment_from d s k)
  pub is_over : is_done (Moment.control (moment_from d s t)) ≡ true
  -- the whole store, so that the next run begins from it
  pub store : (x : Spot) → Moment.store (moment_from d s t) x ≡ shown unheld after x

pub record GoesOnFrom (d : PlainDesign) (s : State) (n : ℕ) : Type 0 where
  pub quiet : (k : ℕ) → k < n → IsQuiet (design_machine d) (moment_from d s k)
  pub undone : (k : ℕ) → k ≤ n → is_done (Moment.control (moment_from d s k)) ≡ false

pub record RunsFromAll (d : PlainDesign) : Type 0 where
  pub ends : (s : State) (n t : ℕ) (after : State) → IsSettled (tree_of d) s → run_from d s n ≡ End after t → EndsFrom d s n t after
  pub goes_on : (s : State) (n : ℕ) → IsSettled (tree_of d) s → run_from d s n ≡ More → GoesOnFrom d s n

-- the law of control, which speaks of any state that rests
abbrev ControlDoes : PlainDesign → Type 1
ControlDoes d = Does (world_of (tree_of d)) (Rests (tree_of d)) (design_machine d) (spots_of (drives (part_of (tree_of d)) (PlainComponent.control (part_of (tree_of d)))))
    (reads_spot (Reads (part_of (tree_of d)) (PlainComponent.control (part_of (tree_of d))))) (λ held. run_control (tree_of d) held)

module _ (d : PlainDesign) (does : ControlDoes d) where
  abbrev driven : Spot → Bool
  driven = spots_of (drives (part_of (tree_of d)) (PlainComponent.control (part_of (tree_of d))))

  rests : (s : State) → IsSettled (tree_of d) s → (x : Spot) → Unit {0} → Rests (tree_of d) x (shown unheld s x)
  rests s settled (Cell path) i = settled path
  rests s settled (Number path n) i = refl
  rests s settled (Input n) i = tt

  meets : (s : State) → IsSettled (tree_of d) s → (n : ℕ) → Meets (world_of (tree_of d)) (Rests (tree_of d)) (design_machine d) (λ x. Unit {0}) unheld driven
      (Machine.start (design_machine d)) (shown unheld s) n (run_from d s n)
  meets s settled n = does.does (λ x. Unit {0}) driven (λ x r. tt) (λ x free. free) unheld s n (rests s settled)

  ends : (s : State) (n t : ℕ) (after : State) → IsSettled (tree_of d) s → run_from d s n ≡ End after t → EndsFrom d s n t after
  ends s n t after settled is =
      let met = subst (Meets (world_of (tree_of d)) (Rests (tree_of d)) (design_machine d) (λ x. Unit {0}) unheld driven (Machine.start (design_machine d)) (shown unheld s) n) is (meets s settled n) in
      let it = ended (world_of (tree_of d)) (Rests (tree_of d)) (design_machine d) driven (Machine.start (design_machine d)) (shown unheld s) n t (shown unheld after) met in
      record { in_budget = met.in_budget; quiet = it.quiet; is_over = it.is_over; store = it.store }

  goes : (s : State) (n : ℕ) → IsSettled (tree_of d) s → run_from d s n ≡ More → GoesOnFrom d s n
  goes s n settled is =
      let met = subst (Meets (world_of (tree_of d)) (Rests (tree_of d)) (design_machine d) (λ x. Unit {0}) unheld driven (Machine.start (design_machine d)) (shown unheld s) n) is (meets s settled n) in
      let it = going (world_of (tree_of d)) (Rests (tree_of d)) (design_machine d) (Machine.start (design_machine d)) (shown unheld s) n met in
      record { quiet = it.quiet; undone = λ k less. undone it k (before_more n k (omega (arith, less))) }
    where
      undone : StillGoes (world_of (tree_of d)) (Rests (tree_of d)) (design_machine d) (Machine.start (design_machine d)) (shown unheld s) n → (k : ℕ) → (k < n) ⊎ (k ≡ n) → is_done (Moment.control (moment_from d s k)) ≡ false
      undone it k (inl less) = IsQuiet.goes (it.quiet k less)
      undone it k (inr same) = subst (λ j. is_done (Moment.control (moment_from d s j)) ≡ false) (sym same) it.goes

-- THE MACHINE RUNS FROM EVERY SETTLED STATE as main
pub machine_runs_anew : (d : PlainDesign) → ((path : Path) → ControlRules (instance_at (tree_of d) path)) → ((path : Path) → IslandRules (instance_at (tree_of d) path)) → RunsFromAll d
machine_runs_anew d rules islands =
    let does = control_does (tree_of d) rules (λ path. islands_do (instance_at (tree_of d) path) (rules path) (islands path)) in
    record { ends = ends d does; goes_on = goes d does }
