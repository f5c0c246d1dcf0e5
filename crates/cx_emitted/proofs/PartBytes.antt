-- What the net of a component costs, with its timers: 4,096 for each statement and 460 for each assignment, node of a guard and group at most.
use Rattle.std.proofs.Common.{◌≡◌, ℕ, suc, ◌+◌, ◌-◌, ◌*◌, ◌<◌, ◌≤◌, List, [], ◌∷◌, length, refl, arith, length-append}
use Rattle.cx_meaning.specs.Designs.{PlainComponent, PlainDesign, component_at}
use Rattle.cx_meaning.specs.Active.{source_order}
use Rattle.cx_rules.specs.Items.{Dynamic, visit, statements_in}
use Rattle.cx_rules.specs.Sizes.{assigns_size, groups_size}
use Rattle.cx_rules.specs.Flat.{IsFlatPart}
use Rattle.cx_rules.specs.Wellformed.{IsDesign}
use Rattle.cx_static.specs.Islands.{PlainPoint, PlainOccurrence, PlainIsland, PlainLowered}
use Rattle.cx_static.specs.Lowering.{unlowered, lowered_component, lowered_of}
use Rattle.cx_wiring.specs.Counts.{wires_of, registers_of}
use Rattle.cx_wiring.specs.IslandDrivers.{island_wires}
use Rattle.cx_wiring.specs.Control.{control_drivers}
use Rattle.cx_wiring.specs.Assignments.{is_driven, driven_assigns, assigns_wires, assigns_drivers}
use Rattle.cx_wiring.specs.Trees.{tree_widths}
use Rattle.cx_wiring.specs.Wiring.{groups, first_of_control, first_of_assigns, bits, plain_wires, plain_drivers, component_driven, target_width}
use Rattle.cx_wiring.specs.PartNets.{wired_in}
use Rattle.cx_wiring.proofs.CountLaws.{samples_in, wires_of_few, registers_of_few}
use Rattle.cx_wiring.proofs.NetTargets.{plain_wires_count}
use Rattle.cx_wiring.proofs.DesignNames.{in_filter}
use Rattle.cx_wiring.proofs.LoweringCounts.{total, all_timers, all_points}
use Rattle.cx_wiring.proofs.ControlCounts.{timed_in, Before, lowered_total, samples_are}
use Rattle.cx_wiring.proofs.AssignCounts.{units, AllParts, assigns_wires_few, units_filter, units_order}
use Rattle.cx_wiring.proofs.ComponentCounts.{PartsHold, all_parts, untimed}
use Rattle.cx_emitted.specs.Shallow.{Shallow}
use Rattle.cx_emitted.proofs.NetBytes.{drivers_cost, drivers_cost-append}
use Rattle.cx_emitted.proofs.ControlBytes.{points_cost, occurrences_cost, island_cost, control_cost}
use Rattle.cx_emitted.proofs.TreeBytes.{bare_costs, all_trees_cost}
use Rattle.cx_emitted.proofs.AssignBytes.{assigns_cost}
use Rattle.cx_emitted.proofs.LoweringBytes.{points_weigh, occurrences_weigh, islands_weigh, statement_lowers}

-- ISLANDS weigh what they cost, with their wires, the registers of their samples, and 1,348 for each timer's cell
points_paid : (ps : List PlainPoint) → points_weigh ps ≡ points_cost ps + 212 * length ps
points_paid [] = refl
points_paid (p ∷ ps) = let h : points_weigh ps ≡ points_cost ps + 212 * length ps = points_paid ps in omega (arith, h)

occurrences_paid : (os : List PlainOccurrence) → occurrences_weigh os ≡ occurrences_cost os + 90 * length os
occurrences_paid [] = refl
occurrences_paid (o ∷ os) = let h : occurrences_weigh os ≡ occurrences_cost os + 90 * length os = occurrences_paid os in omega (arith, h)

points_many : (ps : List PlainPoint) → 1156 * length ps ≤ points_cost ps
points_many [] = omega arith
points_many (p ∷ ps) = let h : 1156 * length ps ≤ points_cost ps = points_many ps in omega (arith, h)

occurrences_many : (os : List PlainOccurrence) → 703 * length os ≤ occurrences_cost os
occurrences_many [] = omega arith
occurrences_many (o ∷ os) = let h : 703 * length os ≤ occurrences_cost os = occurrences_many os in omega (arith, h)

-- an island that costs nothing has no wire
one_paid : (timers points occurrences p o : ℕ) → 1156 * points ≤ p → 703 * occurrences ≤ o
    → ((506 * timers + (p + o)) - 167) + (90 * (timers + points + occurrences) + 122 * points + 1362 * timers) ≤ (1958 * timers + (p + 212 * points + (o + 90 * occurrences))) - 167
one_paid timers points occurrences p o h k = omega (arith, h, k)

islands_paid : (islands : List PlainIsland) → total island_cost islands + 90 * island_wires islands + 122 * all_points islands + 1362 * all_timers islands ≤ islands_weigh islands
islands_paid [] = omega arith
islands_paid (i ∷ islands) =
    let h : total island_cost islands + 90 * island_wires islands + 122 * all_points islands + 1362 * all_timers islands ≤ islands_weigh islands = islands_paid islands in
    let p : points_weigh i.points ≡ points_cost i.points + 212 * length i.points = points_paid i.points in
    let o : occurrences_weigh i.occurrences ≡ occurrences_cost i.occurrences + 90 * length i.occurrences = occurrences_paid i.occurrences in
    let own : ((506 * length i.timers + (points_cost i.points + occurrences_cost i.occurrences)) - 167) + (90 * (length i.timers + length i.points + length i.occurrences) + 122 * length i.points + 1362 * length i.timers)
    ≤ (1958 * length i.timers + (points_cost i.points + 212 * length i.points + (occurrences_cost i.occurrences + 90 * length i.occurrences))) - 167 =
    one_paid (length i.timers) (length i.points) (length i.occurrences) (points_cost i.points) (occurrences_cost i.occurrences) (points_many i.points) (occurrences_many i.occurrences) in
    omega (arith, h, p, o, own)

module _ (d : PlainDesign) (rules : IsDesign d) (k : ℕ) (within : k < length d.components) (flat : IsFlatPart (component_at d k)) (parts : PartsHold (component_at d k)) (shallow : Shallow 64 (component_at d k).control) where
  abbrev part : PlainComponent
  part = component_at d k

  abbrev low : PlainLowered
  low = lowered_component part

  pub part_cost : bare_costs (wired_in d part).drivers + 90 * (length (wired_in d part).wires + (wired_in d part).holes) + 122 * length (wired_in d part).registers + 1362 * all_timers low.islands
      ≤ 4096 * length (statements_in part) + 460 * (assigns_size part.always + groups_size part.groups) + 240
  part_cost =
      let before : Before low.islands low.islands = λ n x e. e in
      let own : AllParts (groups low) (driven_assigns low) = all_parts (groups low) (driven_assigns low) (λ o i. parts o (in_filter (is_driven low) (source_order part) o i)) in
      let some : units (driven_assigns low) ≤ units (source_order part) = units_filter (is_driven low) (source_order part) in
      let sized : length part.groups + units (source_order part) ≡ assigns_size part.always + groups_size part.groups = units_order part in
      let assigned : assigns_wires (driven_assigns low) ≤ units (driven_assigns low) = assigns_wires_few (groups low) (driven_assigns low) own in
      let assigning : drivers_cost (assigns_drivers (groups low) (first_of_assigns low) (driven_assigns low)) ≤ 370 * units (driven_assigns low) = assigns_cost (groups low) (driven_assigns low) (first_of_assigns low) own in
      let stated : wires_of low.part.control ≤ length (visit Dynamic low.part.control) + length (visit Dynamic low.part.control) = wires_of_few low.part.control in
      let plain : length (plain_wires low) ≡ groups low + bits low = plain_wires_count low in
      let narrow : bits low ≡ island_wires low.islands + wires_of low.part.control + assigns_wires (driven_assigns low) = refl in
      let timed : timed_in island_cost low.islands (visit Dynamic low.part.control) + 0 ≡ total island_cost low.islands = lowered_total part island_cost part.control (unlowered part) low.islands (untimed d rules k within parts flat) before in
      let controlled : drivers_cost (control_drivers (groups low) low.islands (first_of_control low) low.part.control) ≤ 1024 * length (visit Dynamic low.part.control) + timed_in island_cost low.islands (visit Dynamic low.part.control) + 240 =
      control_cost (groups low) low.islands (first_of_control low) low.part.control in
      let driving : drivers_cost (plain_drivers low) ≡ drivers_cost (control_drivers (groups low) low.islands (first_of_control low) low.part.control) + drivers_cost (assigns_drivers (groups low) (first_of_assigns low) (driven_assigns low)) =
      drivers_cost-append (control_drivers (groups low) low.islands (first_of_control low) low.part.control) (assigns_drivers (groups low) (first_of_assigns low) (driven_assigns low)) in
      let bundled : bare_costs (wired_in d part).drivers + 90 * length (tree_widths (target_width (lowered_of d) low) (component_driven low)) ≤ drivers_cost (plain_drivers low) =
      all_trees_cost (target_width (lowered_of d) low) (length (plain_wires low)) (plain_drivers low) in
      let wired : length (wired_in d part).wires ≡ length (plain_wires low) + length (tree_widths (target_width (lowered_of d) low) (component_driven low)) =
      length-append (plain_wires low) (tree_widths (target_width (lowered_of d) low) (component_driven low)) in
      let kept : suc (length (registers_of low.islands low.part.control)) ≤ length (visit Dynamic low.part.control) + length (visit Dynamic low.part.control) + samples_in low.islands (visit Dynamic low.part.control) =
      registers_of_few low.islands low.part.control in
      let sampled : samples_in low.islands (visit Dynamic low.part.control) ≡ timed_in (λ i. length i.points) low.islands (visit Dynamic low.part.control) = samples_are low.islands (visit Dynamic low.part.control) in
      let pointed : timed_in (λ i. length i.points) low.islands (visit Dynamic low.part.control) + 0 ≡ all_points low.islands = lowered_total part (λ i. length i.points) part.control (unlowered part) low.islands (untimed d rules k within parts flat) before in
      let registered : length (wired_in d part).registers ≡ suc (length (registers_of low.islands low.part.control)) = refl in
      let held : (wired_in d part).holes ≡ length part.groups + length part.groups = refl in
      let grouped : groups low ≡ length part.groups = refl in
      let paid : total island_cost low.islands + 90 * island_wires low.islands + 122 * all_points low.islands + 1362 * all_timers low.islands ≤ islands_weigh low.islands = islands_paid low.islands in
      let lowered : 1448 * length (visit Dynamic low.part.control) + islands_weigh low.islands ≤ 0 + 4096 * length (visit Dynamic part.control) = statement_lowers part part.control (unlowered part) shallow in
      omega (arith, some, sized, assigned, assigning, stated, plain, narrow, timed, controlled, driving, bundled, wired, kept, sampled, pointed, registered, held, grouped, paid, lowered)
