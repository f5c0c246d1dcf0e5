use Rattle.std.proofs.Common.{◌≡◌}
use Rattle.cx_meaning.specs.Islands.{form_length}
use Rattle.cx_design.specs.PlainForms.{plain_component, plain_form}
use Rattle.cx_turns.specs.Islands.{SampledBefore}
use Rattle.cx_turns.specs.Machines.{design_of, rows_of, IsAt}
use Rattle.cx_interp.specs.Doings.{form_drives}
use Rattle.cx_interp.specs.Counts.{KeepsShape, plain_counts}
use Rattle.cx_interp.specs.IslandCycles.{samples_in}
use Rattle.cx_interp.proofs.IslandLoop.{CyclesGo}
use Rattle.cx_interp.proofs.islands.take_cycles.Given as goal

-- the cycles so far went on
abbrev pub invariant-loop-cycle : goal.invariant-loop-cycle
invariant-loop-cycle l =
    IsAt l.plan l.machine
    × CyclesGo (design_of l.plan) l.instance (plain_form l.form) (form_drives (plain_form l.form)) (form_length (plain_component l.part) (plain_form l.form)) l.budget (samples_in l.initial.machine) (rows_of l.initial.machine) (rows_of l.machine)
    (plain_counts l.initial.counts) (plain_counts l.counts)
    (samples_in l.machine) l.cycle
    × SampledBefore (plain_component l.part) l.cycle (plain_form l.form) (samples_in l.machine)
    × KeepsShape (plain_counts l.initial.counts) (plain_counts l.counts)
    × (l.machine.room.cells ≡ l.initial.machine.room.cells)
