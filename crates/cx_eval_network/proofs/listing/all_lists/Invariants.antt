use Rattle.std.proofs.Common.{◌≡◌, length}
use Rattle.cx_eval_network.specs.Lists.{HaveLists}
use Rattle.cx_eval_network.proofs.listing.all_lists.Given as goal

-- the components so far
abbrev pub invariant-loop-number : goal.invariant-loop-number
invariant-loop-number l = record {
  sized : length l.lists.items ≡ l.number;
  each : HaveLists l.parts l.plans l.lists.items;
}
