use Rattle.cx_design.specs.PlainForms.{plain_statement}
use Rattle.cx_turns.specs.Machines.{design_of, rows_of}
use Rattle.cx_interp.specs.Counts.{plain_counts}
use Rattle.cx_interp.proofs.ControlCounts.{main_counted}
use Rattle.cx_interp.proofs.RunLemmas.{main_answered}
use Rattle.cx_interp.proofs.interp.run_main.Goals as goal

pub returns-clause-answered : goal.returns-clause-answered
returns-clause-answered c words stands =
    main_answered (design_of c.args.plan.now) (rows_of c.args.machine.now) (rows_of c.run_statement.new.machine) (plain_statement c.control_of-control.result.now) c.args.budget c.run_statement.result words c.control_of-control.ensures c.requires.unheld
    (c.loaded_start_is_settled.ensures (design_of c.args.plan.now) words) stands c.run_statement.ensures.done

pub returns-clause-within : goal.returns-clause-within
returns-clause-within c = c.run_statement.ensures.done.within

pub returns-clause-counted : goal.returns-clause-counted
returns-clause-counted c words stands =
    main_counted (design_of c.args.plan.now) (rows_of c.args.machine.now) (plain_counts c.args.counts.now) (plain_counts c.run_statement.new.counts) (plain_statement c.control_of-control.result.now) c.args.budget c.run_statement.result words
    c.control_of-control.ensures c.requires.unheld (c.loaded_start_is_settled.ensures (design_of c.args.plan.now) words) stands c.run_statement.ensures.counted
