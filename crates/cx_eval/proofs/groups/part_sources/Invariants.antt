use Rattle.std.proofs.Common.{◌≡◌, length}
use Rattle.cx_meaning.specs.Instances.{Instance}
use Rattle.cx_eval_network.specs.Nodes.{IsPartOf}
use Rattle.cx_eval_network.specs.Plans.{ArePlans}
use Rattle.cx_eval.proofs.SourceLemmas.{GroupsKnown}
use Rattle.cx_eval.proofs.groups.part_sources.Given as goal

-- the groups so far
abbrev pub invariant-loop-number : goal.invariant-loop-number
invariant-loop-number l = record {
  sized : length l.groups.items ≡ l.number;
  each : (i : Instance) → IsPartOf i l.part → ArePlans i l.plans.ports.items → GroupsKnown i l.groups.items;
}
