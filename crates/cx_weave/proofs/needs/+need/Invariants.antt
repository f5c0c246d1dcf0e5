use Rattle.std.proofs.Common.{◌+◌, ◌*◌}
use Rattle.cx_meaning.specs.Instances.{Path, instance_at, tree_of}
use Rattle.cx_design.specs.PlainForms.{plain_form, plain_statement, plain_statements}
use Rattle.cx_state.specs.Tables.{IsNumber}
use Rattle.cx_turns.specs.Machines.{design_of}
use Rattle.cx_turns.proofs.Measures.{form_steps, steps, all_steps}
use Rattle.cx_weave.proofs.NeedSteps.{AllSoFar, MostSoFar}
use Rattle.cx_weave.proofs.needs.+need.Given as goal

abbrev pub decreases-statement_need : goal.decreases-statement_need
decreases-statement_need l = 2 * steps (plain_statement l.statement.now)

abbrev pub decreases-form_need : goal.decreases-form_need
decreases-form_need l = 2 * form_steps (plain_form l.form.now) + 1

abbrev pub decreases-most_need : goal.decreases-most_need
decreases-most_need l = 2 * all_steps (plain_statements l.parts.now) + 2

abbrev pub decreases-all_need : goal.decreases-all_need
decreases-all_need l = 2 * all_steps (plain_statements l.arms.now) + 2

-- the parts so far
abbrev pub invariant-most_need-loop-part : goal.invariant-most_need-loop-part
invariant-most_need-loop-part l = (path : Path) → IsNumber (design_of l.plan) l.instance path → MostSoFar l.piece (instance_at (tree_of (design_of l.plan)) path) l.parts l.part-index l.most

-- the arms so far
abbrev pub invariant-all_need-loop-arm : goal.invariant-all_need-loop-arm
invariant-all_need-loop-arm l = (path : Path) → IsNumber (design_of l.plan) l.instance path → AllSoFar l.piece (instance_at (tree_of (design_of l.plan)) path) l.arms l.arm-index l.all
