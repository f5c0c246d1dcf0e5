use Rattle.cx_design.specs.PlainDesigns.{plain_design}
use Rattle.cx_net.specs.NetsAsData.{plain_net}
use Rattle.cx_static.specs.PlainLowered.{plain_lowereds}
use Rattle.cx_compiler.proofs.Layers.{net_without_holes}
use Rattle.cx_compiler.proofs.WrittenRows.{net_passed}
use Rattle.cx_compiler.proofs.compiling.design_net.Goals as goal

pub build-requires : goal.build-requires
build-requires c = record {
  lowered = record {
    design = plain_design c.args.design.now;
    rules = c.requires.rules.0;
    flat = c.requires.rules.1;
    accepted = c.requires.rules.2;
    is = c.in_ok-lowered.ensures.value;
  };
}

pub returns : goal.returns
returns c =
    let d = plain_design c.args.design.now in
    let lowered = plain_lowereds c.in_ok-lowered.lowered in
    let net = plain_net c.in_ok-build.field-0 in
    record {
      value = net_passed plain_net d lowered net c.inline.result c.in_ok-lowered.ensures.value c.in_ok-build.ensures.value c.inline.ensures.value;
      meaning = net_without_holes plain_net d net c.inline.result (λ rules flat accepted. c.in_ok-build.ensures.meaning d rules flat accepted c.in_ok-lowered.ensures.value) c.inline.ensures.value c.inline.ensures.meaning;
    }
