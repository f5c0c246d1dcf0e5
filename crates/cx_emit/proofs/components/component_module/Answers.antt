use Rattle.std.proofs.Common.{◌∙◌, ap, map, subst, sym}
use Rattle.cx_design.specs.PlainForms.{plain_cell}
use Rattle.cx_net.specs.NetsAsData.{plain_net}
use Rattle.cx_net.specs.PlainNets.{plain_net_component}
use Rattle.cx_emit.specs.Emitted.{PartFits}
use Rattle.cx_emit.specs.PlainForms.{plain_cell_ports}
use Rattle.cx_emit.specs.Signatures.{cell_ports}
use Rattle.cx_emit.proofs.EmittedParts.{part_fits}
use Rattle.cx_emit.proofs.components.component_module.Goals as goal

pub module-requires : goal.module-requires
module-requires c =
    let net = plain_net c.args.net.now in
    let part = plain_net_component c.args.part.now in
    let made = ap (map plain_cell_ports) c.deref-2.ensures.value ∙ c.in_ok-cells.ensures.value ∙ ap (λ cells. map (cell_ports net) (map plain_cell cells)) c.deref.ensures.value in
    record { fits = subst (λ cells. PartFits part cells) (sym made) (part_fits net c.requires.net c.args.number part c.requires.part) }
