use Rattle.std.proofs.Common.{sym, subst}
use Rattle.cx_meaning.specs.Instances.{start, tree_of}
use Rattle.cx_meaning.specs.Running.{run_main}
use Rattle.cx_design.specs.declared.designs.Design.{Design}
use Rattle.cx_design.specs.PlainDesigns.{plain_design}
use Rattle.cx_state.specs.States.{IsStateOf, StandsFor}
use Rattle.cx_turns.specs.Machines.{rows_of}
use Rattle.cx_interp.specs.Counts.{plain_counts}
use Rattle.cx_interp.specs.Counted.{MainCounted}
use Rattle.cx_interp.specs.Runs.{Answered}
use Rattle.cx_interp.proofs.interp.run.Goals as goal

pub returns : goal.returns
returns c = record {
  run = λ given words ready.
      let stands : StandsFor (tree_of (plain_design c.args.begun.plan.design.now)) (rows_of c.args.begun.machine) (start (tree_of (plain_design c.args.begun.plan.design.now)) words) =
      subst (λ (d : Design). StandsFor (tree_of (plain_design d)) (rows_of c.args.begun.machine) (start (tree_of (plain_design d)) words)) (sym ready.design) ready.stands in
      record {
        design = ready.design;
        state = subst (λ (d : Design). IsStateOf (plain_design d) (rows_of c.run_main-answer.new.machine)) ready.design c.run_main-answer.ensures.machine.state;
        answered =
            subst (λ (d : Design). Answered (plain_design d) (rows_of c.run_main-answer.new.machine) c.run_main-answer.result (run_main (plain_design d) words c.args.budget)) ready.design
            (c.run_main-answer.ensures.answered words stands);
        within = c.run_main-answer.ensures.within;
      };
  counted = λ given words ready.
      let stands : StandsFor (tree_of (plain_design c.args.begun.plan.design.now)) (rows_of c.args.begun.machine) (start (tree_of (plain_design c.args.begun.plan.design.now)) words) =
      subst (λ (d : Design). StandsFor (tree_of (plain_design d)) (rows_of c.args.begun.machine) (start (tree_of (plain_design d)) words)) (sym ready.design) ready.stands in
      subst (λ (d : Design). MainCounted (plain_design d) words c.args.budget c.run_main-answer.result (plain_counts c.args.counts.now) (plain_counts c.run_main-answer.new.counts)) ready.design (c.run_main-answer.ensures.counted words stands);
}
