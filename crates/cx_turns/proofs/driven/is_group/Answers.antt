use Rattle.std.proofs.Common.{rules, ◌<◌, arith}
use Rattle.cx_text.proofs.NumberLaws.{true_lt}
use Rattle.cx_turns.specs.Machines.{design_of}
use Rattle.cx_turns.proofs.MarkSteps.{groups_are}
use Rattle.cx_turns.proofs.driven.is_group.Goals as goal

pub returns : goal.returns
returns c = record {
  group = λ on path number.
      let count = groups_are (design_of c.args.plan.now) c.args.instance c.instance_part.result.now c.instance_part.ensures path number in
      let long = c.len.ensures in
      let below : c.args.group < c.len.result = true_lt c.args.group c.len.result on in
      first_of (omega (arith, count, long, below), search (rules, count, long, below));
}
