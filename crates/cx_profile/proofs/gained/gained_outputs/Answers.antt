use Rattle.std.proofs.Common.{◌≡◌, length, arith}
use Rattle.std.proofs.lemmas.List.{length-map}
use Rattle.cx_design.specs.PlainForms.{plain_component}
use Rattle.cx_design.specs.PlainDesigns.{plain_design}
use Rattle.cx_profiling.specs.Instrumented.{gained}
use Rattle.cx_profile.proofs.GainLemmas.{are_gained}
use Rattle.cx_profile.proofs.gained.gained_outputs.Goals as goal
use Rattle.cx_text.proofs.ListLaws.{range_pushed}

pub loop-number-preserved : goal.loop-number-preserved
loop-number-preserved c = record {
  end = c.loop-number.invariant.end;
  outputs = range_pushed (gained (plain_design c.args.design.now)) c.loop-number.outputs.items c.push.new.self.items c.gained_output.result c.loop-number.number c.in_ok-push.ensures.items c.loop-number.invariant.outputs c.gained_output.ensures.value;
}

pub returns : goal.returns
returns c =
    let d = plain_design c.args.design.now in
    let all : c.loop-number.number ≡ length d.components = omega (arith, length-map c.args.design.now.components.items plain_component, c.loop-number.invariant.end) in
    record { value = are_gained d c.loop-number.outputs.items c.loop-number.number all c.loop-number.invariant.outputs }
