use Rattle.std.proofs.Common.{◌≡◌, ◌++◌, drop, map}
use Rattle.cx_net.specs.PlainNets.{plain_net_expr}
use Rattle.cx_wiring.specs.IslandDrivers.{as_wanted}
use Rattle.cx_fsm.specs.Drafts.{IfWhole, Keeps}
use Rattle.cx_fsm.specs.Places.{at_place}
use Rattle.cx_fsm.proofs.islands.where_wanted.Given as goal

-- the parts so far, and those of the samples that are left, are all
abbrev pub invariant-loop-sample : goal.invariant-loop-sample
invariant-loop-sample l = record {
  kept : Keeps l.initial.draft l.draft;
  parts :
      IfWhole l.draft (map plain_net_expr l.parts.items ++ map (at_place as_wanted l.place) (drop l.sample-index l.samples)
      ≡ map plain_net_expr l.fn.parts.items ++ map (at_place as_wanted l.place) l.samples);
}
