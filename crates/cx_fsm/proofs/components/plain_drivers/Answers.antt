use Rattle.std.proofs.Common.{◌≡◌, ◌+◌, ◌++◌, ◌∙◌, length, map, sym, ap}
use Rattle.std.proofs.lemmas.List.{length-map}
use Rattle.cx_design.specs.PlainForms.{plain_group}
use Rattle.cx_design_parts.specs.Plain.{plain_owned}
use Rattle.cx_net.specs.PlainNets.{plain_net_drivers}
use Rattle.cx_static.specs.PlainLowered.{plain_island, plain_lowered}
use Rattle.cx_wiring.specs.Assignments.{assigns_drivers, assigns_wires, driven_assigns}
use Rattle.cx_wiring.specs.Counts.{wires_of}
use Rattle.cx_wiring.specs.IslandDrivers.{island_wires}
use Rattle.cx_wiring.specs.Wiring.{first_of_control, groups}
use Rattle.cx_fsm.specs.PlainStands.{islands_of}
use Rattle.cx_fsm.proofs.ComponentLemmas.{drivers_made, wires_counted}
use Rattle.cx_fsm.proofs.components.plain_drivers.Goals as goal

pub returns : goal.returns
returns c =
    let component = c.args.component.now in
    let lowered = plain_lowered component in
    let plan = c.in_ok-plan.plan in
    let wire = c.control_drivers-wire.result in
    let first = c.assigns_drivers-first.result in
    let whole = c.in_ok-finished.ensures.whole in
    let begun = c.assigns_drivers-first.ensures.driven.whole whole in
    let all : length component.part.groups.items ≡ groups lowered = sym (length-map component.part.groups.items plain_group) in
    let counts : plan.groups ≡ groups lowered = c.in_ok-plan.ensures.groups ∙ all in
    let begins : plan.control ≡ first_of_control lowered = c.in_ok-plan.ensures.control ∙ ap (λ n. n + island_wires lowered.islands) all in
    let given : map plain_owned c.deref.result.now ≡ driven_assigns lowered = ap (map plain_owned) c.deref.ensures.value ∙ c.in_ok-assigns.ensures.value in
    let control : wire ≡ plan.control + wires_of lowered.part.control = c.control_drivers-wire.ensures.behind begun in
    let behind : first ≡ wire + assigns_wires (driven_assigns lowered) = c.assigns_drivers-first.ensures.behind whole ∙ ap (λ l. wire + assigns_wires l) given in
    record {
      drivers =
          ap plain_net_drivers c.in_ok-finished.ensures.value
          ∙ drivers_made lowered plan.groups plan.control wire first counts begins control behind (islands_of plan)
          (plain_net_drivers c.new-draft.result.drivers.items) (plain_net_drivers c.control_drivers-wire.new.draft.drivers.items) (plain_net_drivers c.assigns_drivers-first.new.draft.drivers.items)
          (ap (map plain_island) c.in_ok-plan.ensures.islands) (ap plain_net_drivers c.new-draft.ensures.value) (c.control_drivers-wire.ensures.driven.driven begun)
          (c.assigns_drivers-first.ensures.driven.driven whole
          ∙ ap (λ l. plain_net_drivers c.control_drivers-wire.new.draft.drivers.items ++ assigns_drivers plan.groups wire l) given);
      wires = wires_counted lowered plan.groups plan.control wire first counts begins control behind;
    }
