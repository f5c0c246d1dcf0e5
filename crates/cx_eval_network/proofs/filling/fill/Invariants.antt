use Rattle.std.proofs.Common.{◌≡◌, length}
use Rattle.cx_eval_network.specs.Askings.{asked_of}
use Rattle.cx_eval_network.specs.Demands.{Keeps, Ready}
use Rattle.cx_eval_network.specs.Networks.{value_at}
use Rattle.cx_eval_network.proofs.filling.fill.Given as goal

-- what is known is right, and stays
abbrev pub invariant-loop-port : goal.invariant-loop-port
invariant-loop-port l = record {
  ready : Ready (value_at (asked_of l.asking) l.asking.nodes.now) l.marks;
  kept : Keeps l.initial.marks l.marks;
  count : length l.marks ≡ length l.initial.marks;
}
