use Rattle.cx_design.specs.PlainDesigns.{plain_design}
use Rattle.cx_check.proofs.StageLemmas.{joined}
use Rattle.cx_check.proofs.shapes.first_break.Goals as goal

pub returns : goal.returns
returns c = record {
  value = joined (plain_design c.args.design.now) c.new-first.result c.add_breaks.new.first c.add_breaks-2.new.first c.add_breaks-3.new.first c.new-first.ensures.value
      c.in_ok-add_breaks.ensures.value c.in_ok-add_breaks-2.ensures.value c.in_ok-add_breaks-3.ensures.value;
}
