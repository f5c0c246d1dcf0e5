use Rattle.std.proofs.Common.{◌≡◌, length}
use Rattle.cx_eval_network.proofs.ListingLemmas.{GroupsListed}
use Rattle.cx_eval_network.proofs.listing.part_lists.Given as goal

-- the groups so far
abbrev pub invariant-loop-number : goal.invariant-loop-number
invariant-loop-number l = record {
  sized : length l.groups.items ≡ l.number;
  each : GroupsListed l.part.ports.items l.plans.ports.items l.groups.items;
}
