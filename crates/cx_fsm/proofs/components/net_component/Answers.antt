use Rattle.std.proofs.Common.{◌∷◌, ◌∙◌, map, ap}
use Rattle.cx_design.specs.PlainForms.{plain_cell, plain_statement}
use Rattle.cx_static.specs.PlainLowered.{plain_island, plain_lowered, plain_lowereds}
use Rattle.cx_wiring.specs.Counts.{registers_of}
use Rattle.cx_wiring.specs.Wiring.{cell_in}
use Rattle.cx_fsm.proofs.ComponentLemmas.{component_is}
use Rattle.cx_fsm.proofs.components.net_component.Goals as goal

pub returns : goal.returns
returns c =
    let part = c.args.component.now.part in
    record {
      value =
          component_is (plain_lowereds c.args.design.now) (plain_lowered c.args.component.now) _ _ _ _ _ _ _ _
          c.in_ok-face.ensures.name
          c.in_ok-face.ensures.inputs
          c.in_ok-face.ensures.outputs
          (c.in_ok-face.ensures.cells ∙ ap (λ ns. map (cell_in ns) (map plain_cell part.cells.items)) c.requires)
          (c.in_ok-registers.ensures.value ∙ ap (λ l. 32 ∷ registers_of (map plain_island l) (plain_statement part.control)) c.deref.ensures.value)
          c.in_ok-wires.ensures.wires
          c.in_ok-holes.ensures.value
          c.in_ok-wires.ensures.drivers;
    }
