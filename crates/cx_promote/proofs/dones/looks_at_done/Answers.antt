use Rattle.std.proofs.Common.{rules, false}
use Rattle.cx_rules.specs.Ports.{component_of}
use Rattle.cx_design.specs.PlainDesigns.{plain_design}
use Rattle.cx_design.specs.PlainForms.{plain_assign}
use Rattle.cx_promote.proofs.StartLemmas.{looks_by}
use Rattle.cx_promote.proofs.dones.looks_at_done.Goals as goal

pub returns : goal.returns
returns c = record {
  value = looks_by (component_of (plain_design c.args.design.now) c.args.number) (plain_assign c.args.assign.now) false c.guard_looks.result (search rules) c.guard_looks.ensures.value;
}
