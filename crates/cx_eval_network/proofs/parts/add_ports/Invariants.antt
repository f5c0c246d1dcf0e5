use Rattle.std.proofs.Common.{ℕ, ◌+◌, ◌≤◌}
use Rattle.cx_meaning.specs.Instances.{Instance}
use Rattle.cx_design_leads.specs.Nodes.{IsNodesOf}
use Rattle.cx_eval_network.specs.Parts.{ArePorts, HaveSpan}
use Rattle.cx_eval_network.proofs.parts.add_ports.Given as goal

-- the ports before the number
abbrev pub invariant-loop-number : goal.invariant-loop-number
invariant-loop-number l = (i : Instance) (count start : ℕ) → IsNodesOf i l.numbers → HaveSpan i l.first count start → ArePorts i start l.initial.ports.items → (l.number ≤ count) × ArePorts i (start + l.number) l.ports.items
