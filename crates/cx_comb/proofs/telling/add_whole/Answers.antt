use Rattle.cx_design.specs.PlainDesigns.{plain_design}
use Rattle.cx_design.specs.PlainForms.{plain_component}
use Rattle.cx_comb.proofs.BreakLemmas.{whole_told}
use Rattle.cx_comb.proofs.telling.add_whole.Goals as goal

pub returns : goal.returns
returns c = record {
  value = whole_told (plain_design c.args.design.now) c.args.number (plain_component c.component-part.result.now) c.args.found c.args.first.now c.add_break.new.first c.if-not-found.false c.component-part.ensures.value
      c.in_ok-add_break.ensures.value;
}
