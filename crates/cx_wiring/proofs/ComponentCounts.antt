-- How many wires, holes and registers the net of a component has, by the size of the component.
use Rattle.std.proofs.Common.{◌≡◌, inl, inr, ℕ, suc, ◌+◌, ◌*◌, ◌<◌, ◌≤◌, List, [], ◌∷◌, length, refl, subst, arith, length-append}
use Rattle.cx_text.specs.declared.places.Place.{Place}
use Rattle.cx_meaning.specs.Designs.{PlainCell, PlainComponent, PlainDesign, component_at, Timed}
use Rattle.cx_meaning.specs.Active.{Owned, source_order}
use Rattle.cx_text.specs.Members.{In}
use Rattle.cx_rules.specs.Items.{Dynamic, visit, statements_in}
use Rattle.cx_rules.specs.Sizes.{assigns_size, groups_size}
use Rattle.cx_rules.specs.StaticControl.{occurrences_of}
use Rattle.cx_rules.specs.Flat.{IsFlatPart}
use Rattle.cx_rules.specs.Wellformed.{IsForm, IsDesign}
use Rattle.cx_static.specs.Islands.{PlainIsland, PlainLowered}
use Rattle.cx_static.specs.Lowering.{timer_cell, unlowered, after, lowered_component, lowered_of}
use Rattle.cx_wiring.specs.Counts.{wires_of, registers_of}
use Rattle.cx_wiring.specs.IslandDrivers.{island_wires}
use Rattle.cx_wiring.specs.Control.{control_drivers}
use Rattle.cx_wiring.specs.Assignments.{is_driven, driven_assigns, assigns_wires, assigns_drivers}
use Rattle.cx_wiring.specs.Trees.{tree_widths}
use Rattle.cx_wiring.specs.Wiring.{groups, first_of_control, first_of_assigns, bits, plain_wires, plain_drivers, component_driven, target_width}
use Rattle.cx_wiring.specs.PartNets.{wired_in}
use Rattle.cx_wiring.specs.Nesting.{HasParts}
use Rattle.cx_wiring.proofs.CountLaws.{samples_in, wires_of_few, registers_of_few}
use Rattle.cx_wiring.proofs.NetTargets.{plain_wires_count}
use Rattle.cx_wiring.proofs.DesignNames.{in_filter}
use Rattle.cx_wiring.proofs.FitLowering.{lowered_few}
use Rattle.cx_wiring.proofs.LoweringCounts.{total, all_timers, all_points, all_occurrences, Adds, statement_adds}
use Rattle.cx_wiring.proofs.ControlCounts.{timed_in, Untimed, Before, lowered_total, samples_are, island_count, control_count}
use Rattle.cx_wiring.proofs.AssignCounts.{units, AllParts, assigns_wires_few, assigns_count, units_filter, units_order, all_trees_few}
use Rattle.cx_meaning.proofs.DesignsLemmas.{same_part}

wires_total : (islands : List PlainIsland) → island_wires islands ≡ all_timers islands + all_points islands + all_occurrences islands
wires_total [] = refl
wires_total (i ∷ islands) = let h : island_wires islands ≡ all_timers islands + all_points islands + all_occurrences islands = wires_total islands in omega arith

count_total : (islands : List PlainIsland) → total island_count islands ≡ length islands + (2 * all_timers islands + 4 * all_points islands + 3 * all_occurrences islands)
count_total [] = omega arith
count_total (i ∷ islands) =
    let h : total island_count islands ≡ length islands + (2 * all_timers islands + 4 * all_points islands + 3 * all_occurrences islands) = count_total islands in
    omega arith

-- nothing costs anything
abbrev free : PlainCell → ℕ
free cell = 0

free_timer : (place : Place) (n : ℕ) → free (timer_cell place n) ≤ 0
free_timer place n = omega arith

-- what the design asks of its assignments: no part of a guard is Always
abbrev pub PartsHold : PlainComponent → Type 0
PartsHold part = (o : Owned) → In (source_order part) o → HasParts o.assign.guard

-- a component without static invokes has no timed statement
pub no_timed : (part : PlainComponent) → IsFlatPart part → (n : ℕ) → IsForm part (Timed n) → ⊥
no_timed part flat n is = let none : n < 0 = subst (λ invokes. n < length invokes) flat.no_invoke is in omega (arith, none)

pub all_parts : (groups : ℕ) (list : List Owned) → ((o : Owned) → In list o → HasParts o.assign.guard) → AllParts groups list
all_parts groups [] each = tt
all_parts groups (o ∷ list) each = (each o (inl refl), all_parts groups list (λ x i. each x (inr i)))

module _ (d : PlainDesign) (rules : IsDesign d) (k : ℕ) (within : k < length d.components) (parts : PartsHold (component_at d k)) where
  abbrev part : PlainComponent
  part = component_at d k

  abbrev low : PlainLowered
  low = lowered_component part

  pub untimed : IsFlatPart part → Untimed (statements_in part)
  untimed flat v i n is =
      no_timed part flat n (subst (IsForm part) is (subst (λ x. IsForm x v.form) (same_part d (length d.components) k) ((rules.components k within).statements v i).form))

  adds : Adds part free 0 free_timer (unlowered part) (after part part.control (unlowered part)) (length (statements_in part)) (occurrences_of part (statements_in part))
  adds = statement_adds part free 0 free_timer part.control (unlowered part)

  -- TIMERS: two for each statement at most
  pub timers_few : all_timers low.islands ≤ 2 * length (statements_in part)
  timers_few = let h : all_timers low.islands ≤ 0 + (length (statements_in part) + length (statements_in part)) = adds.timers in omega arith

  -- WIRES, HOLES AND REGISTERS
  pub component_few : IsFlatPart part
      → length (wired_in d part).wires + (wired_in d part).holes + length (wired_in d part).registers
      ≤ 3 * (assigns_size part.always + groups_size part.groups) + 25 * length (statements_in part) + 4 * occurrences_of part (statements_in part) + 1
  component_few flat =
      let lowered : length (visit Dynamic low.part.control) ≤ length (statements_in part) = lowered_few part part.control (unlowered part) in
      let timers : all_timers low.islands ≤ 0 + (length (statements_in part) + length (statements_in part)) = adds.timers in
      let points : all_points low.islands ≤ 0 + length (statements_in part) = adds.points in
      let occurring : all_occurrences low.islands ≤ 0 + occurrences_of part (statements_in part) = adds.occurrences in
      let islands : length low.islands ≤ 0 + length (statements_in part) = adds.islands in
      let before : Before low.islands low.islands = λ n x e. e in
      let own : AllParts (groups low) (driven_assigns low) = all_parts (groups low) (driven_assigns low) (λ o i. parts o (in_filter (is_driven low) (source_order part) o i)) in
      let some : units (driven_assigns low) ≤ units (source_order part) = units_filter (is_driven low) (source_order part) in
      let sized : length part.groups + units (source_order part) ≡ assigns_size part.always + groups_size part.groups = units_order part in
      let assigned : assigns_wires (driven_assigns low) ≤ units (driven_assigns low) = assigns_wires_few (groups low) (driven_assigns low) own in
      let assigning : length (assigns_drivers (groups low) (first_of_assigns low) (driven_assigns low)) ≤ units (driven_assigns low) + units (driven_assigns low) = assigns_count (groups low) (driven_assigns low) (first_of_assigns low) own in
      let island : island_wires low.islands ≡ all_timers low.islands + all_points low.islands + all_occurrences low.islands = wires_total low.islands in
      let stated : wires_of low.part.control ≤ length (visit Dynamic low.part.control) + length (visit Dynamic low.part.control) = wires_of_few low.part.control in
      let plain : length (plain_wires low) ≡ groups low + bits low = plain_wires_count low in
      let narrow : bits low ≡ island_wires low.islands + wires_of low.part.control + assigns_wires (driven_assigns low) = refl in
      let timed : timed_in island_count low.islands (visit Dynamic low.part.control) + 0 ≡ total island_count low.islands = lowered_total part island_count part.control (unlowered part) low.islands (untimed flat) before in
      let counted : total island_count low.islands ≡ length low.islands + (2 * all_timers low.islands + 4 * all_points low.islands + 3 * all_occurrences low.islands) = count_total low.islands in
      let controlled : length (control_drivers (groups low) low.islands (first_of_control low) low.part.control) ≤ 8 * length (visit Dynamic low.part.control) + timed_in island_count low.islands (visit Dynamic low.part.control) + 1 =
      control_count (groups low) low.islands (first_of_control low) low.part.control in
      let driving : length (plain_drivers low) ≡ length (control_drivers (groups low) low.islands (first_of_control low) low.part.control) + length (assigns_drivers (groups low) (first_of_assigns low) (driven_assigns low)) =
      length-append (control_drivers (groups low) low.islands (first_of_control low) low.part.control) (assigns_drivers (groups low) (first_of_assigns low) (driven_assigns low)) in
      let branched : length (tree_widths (target_width (lowered_of d) low) (component_driven low)) ≤ length (plain_drivers low) = all_trees_few (target_width (lowered_of d) low) (plain_drivers low) in
      let wired : length (wired_in d part).wires ≡ length (plain_wires low) + length (tree_widths (target_width (lowered_of d) low) (component_driven low)) =
      length-append (plain_wires low) (tree_widths (target_width (lowered_of d) low) (component_driven low)) in
      let kept : suc (length (registers_of low.islands low.part.control))
      ≤ length (visit Dynamic low.part.control) + length (visit Dynamic low.part.control) + samples_in low.islands (visit Dynamic low.part.control) = registers_of_few low.islands low.part.control in
      let sampled : samples_in low.islands (visit Dynamic low.part.control) ≡ timed_in (λ i. length i.points) low.islands (visit Dynamic low.part.control) = samples_are low.islands (visit Dynamic low.part.control) in
      let pointed : timed_in (λ i. length i.points) low.islands (visit Dynamic low.part.control) + 0 ≡ all_points low.islands = lowered_total part (λ i. length i.points) part.control (unlowered part) low.islands (untimed flat) before in
      let registered : length (wired_in d part).registers ≡ suc (length (registers_of low.islands low.part.control)) = refl in
      let held : (wired_in d part).holes ≡ length part.groups + length part.groups = refl in
      let grouped : groups low ≡ length part.groups = refl in
      omega arith
