use Rattle.std.proofs.Common.{◌≡◌, ◌≤◌, length, drop}
use Rattle.cx_meaning.specs.Calls as calls
use Rattle.cx_meaning.specs.Instances.{cells_of}
use Rattle.cx_rules.specs.Ports.{component_of}
use Rattle.cx_design.specs.PlainForms.{plain_assigns}
use Rattle.cx_design.specs.PlainDesigns.{plain_design}
use Rattle.cx_eval_network.proofs.called.called_in.Given as goal

abbrev pub invariant-loop-left : goal.invariant-loop-left
invariant-loop-left l = record {
  within : l.left ≤ length l.assigns;
  called : l.called ≡ calls.called_in (cells_of (component_of (plain_design l.design) l.number)) (plain_assigns (drop l.left l.assigns));
}

abbrev pub decreases-loop-left : goal.decreases-loop-left
decreases-loop-left l = l.left
