use Rattle.std.proofs.Common.{◌+◌, ◌*◌}
use Rattle.cx_design.specs.PlainForms.{plain_form, plain_statement, plain_statements}
use Rattle.cx_turns.specs.Machines.{design_of}
use Rattle.cx_turns.proofs.Measures.{form_steps, steps, all_steps, below}
use Rattle.cx_weave.proofs.opening.+opened.Given as goal

abbrev pub decreases-open_statement : goal.decreases-open_statement
decreases-open_statement l = 2 * steps (plain_statement l.statement.now) + below (design_of l.plan.now) l.instance

abbrev pub decreases-open_form : goal.decreases-open_form
decreases-open_form l = 2 * form_steps (plain_form l.form.now) + 1 + below (design_of l.plan.now) l.instance

abbrev pub decreases-open_seq : goal.decreases-open_seq
decreases-open_seq l = 2 * all_steps (plain_statements l.parts.now) + 2 + below (design_of l.plan.now) l.instance

abbrev pub decreases-open_par : goal.decreases-open_par
decreases-open_par l = 2 * all_steps (plain_statements l.arms.now) + 2 + below (design_of l.plan.now) l.instance

abbrev pub decreases-open_arms : goal.decreases-open_arms
decreases-open_arms l = 2 * all_steps (plain_statements l.arms.now) + 1 + below (design_of l.plan.now) l.instance

abbrev pub decreases-open_repeat : goal.decreases-open_repeat
decreases-open_repeat l = 2 * steps (plain_statement l.body.now) + 2 + below (design_of l.plan.now) l.instance

abbrev pub decreases-open_enable : goal.decreases-open_enable
decreases-open_enable l = 2 + below (design_of l.plan.now) l.instance

abbrev pub decreases-open_dynamic : goal.decreases-open_dynamic
decreases-open_dynamic l = 1 + below (design_of l.plan.now) l.instance

abbrev pub decreases-open_call : goal.decreases-open_call
decreases-open_call l = below (design_of l.plan.now) l.instance
