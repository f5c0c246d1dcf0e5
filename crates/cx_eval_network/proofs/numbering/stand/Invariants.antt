use Rattle.cx_eval_network.specs.Nodes.{StandBehind}
use Rattle.cx_eval_network.proofs.numbering.stand.Given as goal

-- the ports so far
abbrev pub invariant-loop-number : goal.invariant-loop-number
invariant-loop-number l = StandBehind l.instance l.component l.ports l.number l.initial.nodes.items l.nodes.items
