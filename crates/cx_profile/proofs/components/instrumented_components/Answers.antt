use Rattle.std.proofs.Common.{[]}
use Rattle.cx_design.specs.PlainForms.{plain_component}
use Rattle.cx_design.specs.PlainDesigns.{plain_design}
use Rattle.cx_profiling.specs.Instrumented.{instrumented_component}
use Rattle.cx_profile.proofs.StepLemmas.{range_seen}
use Rattle.cx_profile.proofs.components.instrumented_components.Goals as goal

pub loop-number-preserved : goal.loop-number-preserved
loop-number-preserved c = record {
  end = c.loop-number.invariant.end;
  made = range_seen plain_component (instrumented_component (plain_design c.args.design.now)) [] c.loop-number.all.items c.push.new.self.items c.in_ok-instrumented_component.field-0 c.loop-number.number
      c.in_ok-push.ensures.items c.loop-number.invariant.made c.in_ok-instrumented_component.ensures.value;
}
