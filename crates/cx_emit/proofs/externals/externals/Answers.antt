use Rattle.std.proofs.Common.{◌≡◌, List, Some, slice_get, map, subst, sym}
use Rattle.cx_design.specs.PlainForms.{plain_cell}
use Rattle.cx_net.specs.declared.components.NetComponent.{NetComponent}
use Rattle.cx_net.specs.Nets.{PlainNetComponent, PlainNet}
use Rattle.cx_net.specs.NetsAsData.{plain_net}
use Rattle.cx_net.specs.PlainNets.{plain_net_component}
use Rattle.cx_emit.specs.Emitted.{ExternalsHaveWords}
use Rattle.cx_emit.proofs.EmittedParts.{main_has_words}
use Rattle.cx_text.proofs.ListLaws.{item_at}
use Rattle.cx_emit.proofs.externals.externals.Goals as goal

pub external_cells-requires : goal.external_cells-requires
external_cells-requires c =
    let net : PlainNet = plain_net c.args.net.now in
    let main : NetComponent = c.in-Some.main.now in
    let among : slice_get (map plain_net_component c.components.result.now) c.main.result ≡ Some (plain_net_component main) =
    item_at plain_net_component c.components.result.now c.main.result main c.in-Some.ensures.lookup.3.0 c.in-Some.ensures.lookup.1 in
    let there : slice_get net.components net.main ≡ Some (plain_net_component main) =
    subst (λ n. slice_get net.components n ≡ Some (plain_net_component main)) c.main.ensures.value
    (subst (λ (parts : List PlainNetComponent). slice_get parts c.main.result ≡ Some (plain_net_component main)) c.components.ensures.value among) in
    record { words = subst (λ cells. ExternalsHaveWords (map plain_cell cells)) (sym c.deref.ensures.value) (main_has_words net c.requires.net (plain_net_component main) there) }
