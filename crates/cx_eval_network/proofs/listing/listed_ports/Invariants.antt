use Rattle.cx_eval_network.specs.Lists.{AreListed}
use Rattle.cx_eval_network.proofs.listing.listed_ports.Given as goal

-- the places so far
abbrev pub invariant-loop-place : goal.invariant-loop-place
invariant-loop-place l = AreListed l.part.ports.items l.plans l.active l.listed.items
