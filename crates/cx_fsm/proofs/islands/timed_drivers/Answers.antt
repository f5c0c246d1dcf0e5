use Rattle.std.proofs.Common.{◌≡◌, ◌++◌, ◌∙◌, length, map, sym, ap, append-nil, rules}
use Rattle.std.proofs.lemmas.List.{length-map, length-replicate}
use Rattle.cx_net.specs.PlainNets.{plain_net_drivers}
use Rattle.cx_static.specs.PlainLowered.{plain_island, plain_point}
use Rattle.cx_wiring.specs.Control.{timed_drivers}
use Rattle.cx_wiring.specs.Counts.{sample_registers}
use Rattle.cx_wiring.specs.IslandDrivers.{island_drivers}
use Rattle.cx_fsm.specs.PlainStands.{islands_of, plain_stand}
use Rattle.cx_fsm.proofs.PlanLemmas.{no_island, an_island}
use Rattle.cx_fsm.proofs.islands.timed_drivers.Goals as goal

pub returns-in_default-clause-driven : goal.returns-in_default-clause-driven
returns-in_default-clause-driven c =
    let before = plain_net_drivers c.args.draft.now.drivers.items in
    record {
      whole = λ h. h;
      driven = λ h.
          sym (append-nil before)
          ∙ ap (λ o. before ++ timed_drivers c.args.plan.now.groups (islands_of c.args.plan.now) (plain_stand c.args.stand) c.args.number o)
          (sym (no_island c.args.plan.now.islands.now c.args.number c.in_default.ensures.lookup.3));
    }

pub returns-clause-samples : goal.returns-clause-samples
returns-clause-samples c = λ h.
    let points = c.in-Some.island.now.points.items in
    let there = an_island c.args.plan.now.islands.now c.args.number c.in-Some.island.now c.in-Some.ensures.lookup.3.0 c.in-Some.ensures.lookup.1 in
    let count : c.len.result ≡ length points = search rules in
    c.number_of.ensures.value h
    ∙ count
    ∙ sym (length-map points plain_point)
    ∙ sym (length-replicate (length (map plain_point points)) 1)
    ∙ ap (λ o. length (sample_registers o)) (sym there)

pub returns-clause-driven : goal.returns-clause-driven
returns-clause-driven c =
    let before = plain_net_drivers c.args.draft.now.drivers.items in
    let groups = c.args.plan.now.groups in
    let x = plain_stand c.args.stand in
    let there = an_island c.args.plan.now.islands.now c.args.number c.in-Some.island.now c.in-Some.ensures.lookup.3.0 c.in-Some.ensures.lookup.1 in
    record {
      whole = λ h. c.island_drivers.ensures.driven.whole (c.number_of.ensures.kept.whole h);
      driven = λ h.
          ap plain_net_drivers c.number_of.ensures.kept.kept
          ∙ c.island_drivers.ensures.driven.driven (c.number_of.ensures.kept.whole h)
          ∙ ap (λ n. before ++ island_drivers groups x n (plain_island c.in-Some.island.now)) (c.first_of.ensures.value c.in-Some.ensures.lookup.3.0)
          ∙ ap (λ o. before ++ timed_drivers groups (islands_of c.args.plan.now) x c.args.number o) (sym there);
    }
