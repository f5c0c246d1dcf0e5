use Rattle.std.proofs.Common.{◌≡◌, length, map, ap, subst, ◌∙◌}
use Rattle.cx_text.specs.Members.{In}
use Rattle.cx_graphs.specs.Graphs as graphs
use Rattle.cx_graphs.specs.Graphs.{edges_of, targets_of}
use Rattle.cx_rules.specs.RaceRule.{enabled_in}
use Rattle.cx_design.specs.PlainForms.{plain_statement}
use Rattle.cx_graphs.specs.Owners.{IsLeast}
use Rattle.cx_graphs.specs.Tallies.{Starts, Tallies}
use Rattle.cx_race.proofs.ArmLemmas.{lists_within}
use Rattle.cx_race.proofs.SharedLemmas.{least_twice}
use Rattle.cx_race.proofs.races.group_enabled_twice.Goals as goal

pub tally-requires-clause-within : goal.tally-requires-clause-within
tally-requires-clause-within c =
    let arms = map plain_statement c.args.arms.now in
    let same : edges_of c.as_slice.result.now ≡ map enabled_in arms = ap edges_of c.as_slice.ensures.value ∙ c.in_ok-lists.ensures.value in
    λ k n i. lists_within enabled_in (length c.args.groups.now.owners.items) arms c.requires.enabled k n (subst (λ g. In (targets_of g k) n) same i)

pub returns-clause-least : goal.returns-clause-least
returns-clause-least c =
    let arms = map plain_statement c.args.arms.now in
    let t = c.tally.new.self in
    let same : edges_of c.as_slice.result.now ≡ map enabled_in arms = ap edges_of c.as_slice.ensures.value ∙ c.in_ok-lists.ensures.value in
    least_twice arms t.owners.items t.touched.items (subst (λ l. Tallies (Starts (targets_of l)) t.owners.items t.touched.items) same c.in_ok-tally.ensures.told)
    c.least_several-least.result (subst (λ l. IsLeast t.owners.items l c.least_several-least.result) c.as_slice-2.ensures.value c.least_several-least.ensures.least)
