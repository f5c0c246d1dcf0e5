use Rattle.std.proofs.Common.{sym}
use Rattle.cx_rules.specs.Ports.{component_of}
use Rattle.cx_design.specs.PlainDesigns.{plain_design}
use Rattle.cx_design.specs.PlainForms.{plain_assign}
use Rattle.cx_design_leads.proofs.NodeLemmas.{within}
use Rattle.cx_design_leads.proofs.EdgeLemmas.{driven_is}
use Rattle.cx_comb.proofs.TargetLemmas.{no_target, one_target}
use Rattle.cx_comb.proofs.pruning.add_target.Goals as goal

pub returns-in_ok-push-in-Some : goal.returns-in_ok-push-in-Some
returns-in_ok-push-in-Some c =
    let i = component_of (plain_design c.args.design.now) c.args.number in
    let a = plain_assign c.args.assign.now in
    let t = c.in-Some.target in
    let d = sym c.in-Some.ensures.value in
    record { value = one_target i a c.args.targets.now.items c.push.new.self.items t d (within i a.target t (driven_is i a.target t d).1) c.in_ok-push-in-Some.ensures.items }

pub returns-in-None : goal.returns-in-None
returns-in-None c =
    let i = component_of (plain_design c.args.design.now) c.args.number in record { value = no_target i (plain_assign c.args.assign.now) c.args.targets.now.items (sym c.in-None.ensures.value) }
