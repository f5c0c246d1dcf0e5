use Rattle.std.proofs.Common.{arith}
use Rattle.std.proofs.lemmas.List.{length-map}
use Rattle.std.proofs.lemmas.Result.{IfOk-weaker}
use Rattle.cx_design.specs.PlainForms.{plain_component}
use Rattle.cx_design.specs.PlainDesigns.{plain_design}
use Rattle.cx_rules.specs.Ports.{component_of}
use Rattle.cx_eval_network.proofs.FoundLemmas.{get_some}
use Rattle.cx_eval.proofs.groups.own_sources.Goals as goal

pub returns-in-Some : goal.returns-in-Some
returns-in-Some c =
    let n = c.args.number in
    let nodes = c.args.nodes.now in
    let h = c.requires.numbered.1 in
    let within = c.requires.within in
    let all = length-map c.args.design.now.components.items plain_component in
    let parts = h.parts.count in
    let planned = h.plans.count in
    record {
      value = IfOk-weaker c.part_sources.result _ _
          (λ sources are. are (component_of (plain_design c.args.design.now) n)
          (h.parts.each n c.index.result.now (get_some nodes.parts.items n c.index.result.now (omega (arith, within, all, parts)) c.index.ensures))
          (h.plans.each n c.index-in-Some.result.now (get_some nodes.plans.items n c.index-in-Some.result.now (omega (arith, within, all, planned)) c.index-in-Some.ensures)))
          c.part_sources.ensures.value;
    }
