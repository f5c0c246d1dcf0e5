use Rattle.std.proofs.Common.{◌≡◌, ◌<◌, length, map, sym, ap, subst, ◌∙◌}
use Rattle.cx_text.specs.Members.{In}
use Rattle.cx_graphs.specs.Graphs as graphs
use Rattle.cx_graphs.specs.Graphs.{edges_of, targets_of}
use Rattle.cx_meaning.specs.Control.{groups_of}
use Rattle.cx_design.specs.PlainForms.{plain_component, plain_statement}
use Rattle.cx_graphs.specs.Owners.{IsLeast}
use Rattle.cx_graphs.specs.Tallies.{Reaches, Starts, Tallies, starts_of}
use Rattle.cx_race.specs.Cells.{invoked_by, met_by}
use Rattle.cx_race.proofs.ArmLemmas.{lists_within}
use Rattle.cx_race.proofs.SharedLemmas.{least_shared}
use Rattle.cx_race.proofs.races.shared_cell.Goals as goal

pub tally_groups-requires-clause-groups_within : goal.tally_groups-requires-clause-groups_within
tally_groups-requires-clause-groups_within c =
    let f = c.args.footprints.now in
    let arms = map plain_statement c.args.arms.now in
    let same : edges_of c.as_slice-enabled.result.now ≡ map groups_of arms = ap edges_of c.as_slice-enabled.ensures.value ∙ c.in_ok-enabled.ensures.value in
    λ k n i. subst (λ m. n < length m) (sym c.as_slice.ensures.value) (lists_within groups_of (length f.driven.items) arms c.requires.within.groups k n (subst (λ l. In (targets_of l k) n) same i))

pub tally_groups-requires-clause-within : goal.tally_groups-requires-clause-within
tally_groups-requires-clause-within c =
    let arms = map plain_statement c.args.arms.now in
    let invoked = invoked_by (plain_component c.args.part.now) in
    let same : edges_of c.as_slice-2.result.now ≡ map invoked arms = ap edges_of c.as_slice-2.ensures.value ∙ c.in_ok-invoked.ensures.value in
    let size = c.requires.driving.size in
    λ k n i. subst (λ m. n < m) (sym size) (lists_within invoked (length c.args.footprints.now.links.items) arms c.requires.within.invoked k n (subst (λ l. In (targets_of l k) n) same i))

pub tally_reached-requires-clause-groups_within : goal.tally_reached-requires-clause-groups_within
tally_reached-requires-clause-groups_within c =
    let f = c.args.footprints.now in
    let arms = map plain_statement c.args.arms.now in
    let same : edges_of c.as_slice-enabled.result.now ≡ map groups_of arms = ap edges_of c.as_slice-enabled.ensures.value ∙ c.in_ok-enabled.ensures.value in
    let size : length f.driven.items ≡ length c.as_slice-4.result.now = sym c.requires.within.same ∙ ap length (sym c.as_slice-4.ensures.value) in
    λ k n i. subst (λ m. n < m) size (lists_within groups_of (length f.driven.items) arms c.requires.within.groups k n (subst (λ l. In (targets_of l k) n) same i))

pub tally_reached-requires-clause-within : goal.tally_reached-requires-clause-within
tally_reached-requires-clause-within c =
    let f = c.args.footprints.now in
    let arms = map plain_statement c.args.arms.now in
    let met = met_by (plain_component c.args.part.now) in
    let same : edges_of c.as_slice-5.result.now ≡ map met arms = ap edges_of c.as_slice-5.ensures.value ∙ c.in_ok-met.ensures.value in
    λ k n i. subst (λ m. n < length m) (sym c.as_slice-3.ensures.value) (lists_within met (length f.links.items) arms c.requires.within.met k n (subst (λ l. In (targets_of l k) n) same i))

pub returns-clause-least : goal.returns-clause-least
returns-clause-least c =
    let f = c.args.footprints.now in
    let arms = map plain_statement c.args.arms.now in
    let d = c.tally_groups.new.self in
    let r = c.tally_reached.new.self in
    let enabled : edges_of c.as_slice-enabled.result.now ≡ map groups_of arms = ap edges_of c.as_slice-enabled.ensures.value ∙ c.in_ok-enabled.ensures.value in
    let part = plain_component c.args.part.now in
    let invoked : edges_of c.as_slice-2.result.now ≡ map (invoked_by part) arms = ap edges_of c.as_slice-2.ensures.value ∙ c.in_ok-invoked.ensures.value in
    let met : edges_of c.as_slice-5.result.now ≡ map (met_by part) arms = ap edges_of c.as_slice-5.ensures.value ∙ c.in_ok-met.ensures.value in
    let driven : edges_of c.as_slice.result.now ≡ edges_of f.driven.items = ap edges_of c.as_slice.ensures.value in
    let named : edges_of c.as_slice-4.result.now ≡ edges_of f.named.items = ap edges_of c.as_slice-4.ensures.value in
    let links : edges_of c.as_slice-3.result.now ≡ edges_of f.links.items = ap edges_of c.as_slice-3.ensures.value in
    λ a. least_shared part arms (edges_of f.links.items) (edges_of f.driven.items) (edges_of f.named.items) a.links a.driven a.named d.owners.items r.owners.items d.touched.items r.touched.items
    (subst (λ l. Tallies (Starts (starts_of (edges_of f.driven.items) (map groups_of arms) l)) d.owners.items d.touched.items) invoked
    (subst (λ l. Tallies (Starts (starts_of (edges_of f.driven.items) l (edges_of c.as_slice-2.result.now))) d.owners.items d.touched.items) enabled
    (subst (λ m. Tallies (Starts (starts_of m (edges_of c.as_slice-enabled.result.now) (edges_of c.as_slice-2.result.now))) d.owners.items d.touched.items) driven c.in_ok-tally_groups.ensures.told)))
    (subst (λ l. Tallies (Reaches (edges_of f.links.items) (starts_of (edges_of f.named.items) (map groups_of arms) l)) r.owners.items r.touched.items) met
    (subst (λ l. Tallies (Reaches (edges_of f.links.items) (starts_of (edges_of f.named.items) l (edges_of c.as_slice-5.result.now))) r.owners.items r.touched.items) enabled
    (subst (λ m. Tallies (Reaches (edges_of f.links.items) (starts_of m (edges_of c.as_slice-enabled.result.now) (edges_of c.as_slice-5.result.now))) r.owners.items r.touched.items) named
    (subst (λ g. Tallies (Reaches g (starts_of (edges_of c.as_slice-4.result.now) (edges_of c.as_slice-enabled.result.now) (edges_of c.as_slice-5.result.now))) r.owners.items r.touched.items) links c.in_ok-tally_reached.ensures.told))))
    c.least_several-least.result (subst (λ l. IsLeast r.owners.items l c.least_several-least.result) c.as_slice-6.ensures.value c.least_several-least.ensures.least)
