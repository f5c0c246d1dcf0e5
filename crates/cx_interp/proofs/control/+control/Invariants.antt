use Rattle.std.proofs.Common.{◌+◌, ◌*◌, ◌-◌, ◌≤◌, drop, take, map}
use Rattle.cx_meaning.specs.Designs.{Seq, Repeat}
use Rattle.cx_design.specs.PlainForms.{plain_form, plain_statement, plain_statements}
use Rattle.cx_turns.specs.Machines.{design_of, rows_of, IsAt}
use Rattle.cx_turns.proofs.Measures.{form_steps, steps, all_steps, below}
use Rattle.cx_interp.specs.Doings.{parts_do, parts_drive, form_does}
use Rattle.cx_interp.proofs.ContinueLemmas.{Continues}
use Rattle.cx_interp.proofs.ControlLemmas.{WhileLeft, RoundsLeft}
use Rattle.cx_interp.specs.Counted.{Counted}
use Rattle.cx_interp.specs.Counts.{KeepsShape, plain_counts}
use Rattle.cx_interp.proofs.LoopCounts.{SeqCounts, WhileCounts, RepeatCounts}
use Rattle.cx_interp.proofs.ControlCounts.{arms_count}
use Rattle.cx_interp.specs.Done.{Done}
use Rattle.cx_interp.proofs.ParLemmas.{some_do, some_drive}
use Rattle.cx_interp.proofs.control.+control.Given as goal

abbrev pub decreases-run_statement : goal.decreases-run_statement
decreases-run_statement l = 2 * steps (plain_statement l.statement.now) + below (design_of l.plan.now) l.instance

abbrev pub decreases-run_form : goal.decreases-run_form
decreases-run_form l = 2 * form_steps (plain_form l.form.now) + 1 + below (design_of l.plan.now) l.instance

abbrev pub decreases-run_seq : goal.decreases-run_seq
decreases-run_seq l = 2 * all_steps (plain_statements l.parts.now) + 2 + below (design_of l.plan.now) l.instance

abbrev pub decreases-run_if : goal.decreases-run_if
decreases-run_if l = 2 * (steps (plain_statement l.yes.now) + steps (plain_statement l.no.now)) + 2 + below (design_of l.plan.now) l.instance

abbrev pub decreases-run_while : goal.decreases-run_while
decreases-run_while l = 2 * steps (plain_statement l.body.now) + 2 + below (design_of l.plan.now) l.instance

abbrev pub decreases-run_repeat : goal.decreases-run_repeat
decreases-run_repeat l = 2 * steps (plain_statement l.body.now) + 2 + below (design_of l.plan.now) l.instance

-- what is left of the parts is what comes of the whole
abbrev pub invariant-run_seq-loop-part : goal.invariant-run_seq-loop-part
invariant-run_seq-loop-part l =
    IsAt l.plan l.machine
    × (l.spent ≤ l.budget)
    × Continues (design_of l.plan) l.instance (parts_drive (plain_statements l.parts)) (rows_of l.initial.machine) (rows_of l.machine)
    (parts_do (plain_statements (drop l.part-index l.parts))) (l.budget - l.spent) (form_does (Seq (plain_statements l.parts))) l.budget l.spent
    × SeqCounts (design_of l.plan) l.instance l.parts (rows_of l.initial.machine) (rows_of l.machine) (plain_counts l.initial.counts) (plain_counts l.counts) l.budget l.spent l.part-index
    × KeepsShape (plain_counts l.initial.counts) (plain_counts l.counts)

abbrev pub decreases-run_while-loop-spent : goal.decreases-run_while-loop-spent
decreases-run_while-loop-spent l = l.budget - l.spent

abbrev pub invariant-run_while-loop-spent : goal.invariant-run_while-loop-spent
invariant-run_while-loop-spent l =
    IsAt l.plan l.machine
    × (l.spent ≤ l.budget)
    × WhileLeft (design_of l.plan) l.instance l.port l.comb (plain_statement l.body) (rows_of l.initial.machine) (rows_of l.machine) l.budget l.spent
    × WhileCounts (design_of l.plan) l.instance l.port l.comb (plain_statement l.body) (rows_of l.initial.machine) (rows_of l.machine) (plain_counts l.initial.counts) (plain_counts l.counts) l.budget l.spent
    × KeepsShape (plain_counts l.initial.counts) (plain_counts l.counts)

abbrev pub invariant-run_repeat-loop-round : goal.invariant-run_repeat-loop-round
invariant-run_repeat-loop-round l =
    IsAt l.plan l.machine
    × (l.spent ≤ l.budget)
    × RoundsLeft (design_of l.plan) l.instance (plain_statement l.body) (rows_of l.initial.machine) (rows_of l.machine) (l.count - l._round) (form_does (Repeat l.count (plain_statement l.body))) l.budget l.spent
    × RepeatCounts (design_of l.plan) l.instance (plain_statement l.body) (rows_of l.initial.machine) (rows_of l.machine) (plain_counts l.initial.counts) (plain_counts l.counts) l.budget l.spent l.count l._round
    × KeepsShape (plain_counts l.initial.counts) (plain_counts l.counts)

abbrev pub decreases-run_par : goal.decreases-run_par
decreases-run_par l = 2 * all_steps (plain_statements l.arms.now) + 2 + below (design_of l.plan.now) l.instance

-- the arms so far have run
abbrev pub invariant-run_par-loop-arm : goal.invariant-run_par-loop-arm
invariant-run_par-loop-arm l =
    IsAt l.plan l.machine
    × Done (design_of l.plan) (rows_of l.initial.machine) (rows_of l.machine) l.instance (some_drive (take l.arm-index (map plain_statement l.arms))) (some_do (take l.arm-index (map plain_statement l.arms))) l.budget l.joined
    × Counted (design_of l.plan) (rows_of l.initial.machine) (plain_counts l.initial.counts) (plain_counts l.counts) l.instance (arms_count (take l.arm-index (map plain_statement l.arms))) l.budget l.joined

abbrev pub decreases-run_enable : goal.decreases-run_enable
decreases-run_enable l = 2 + below (design_of l.plan.now) l.instance

abbrev pub decreases-run_dynamic : goal.decreases-run_dynamic
decreases-run_dynamic l = 1 + below (design_of l.plan.now) l.instance

abbrev pub decreases-run_call : goal.decreases-run_call
decreases-run_call l = below (design_of l.plan.now) l.instance
