use Rattle.std.proofs.Common.{◌≡◌, ◌∙◌, ap, ap₂, map, filter_map, slice_get}
use Rattle.cx_net.specs.PlainNets.{plain_net_component}
use Rattle.cx_static.specs.PlainLowered.{plain_lowereds}
use Rattle.cx_wiring.specs.Reached.{place_in}
use Rattle.cx_wiring.specs.Wiring.{net_component}
use Rattle.cx_fsm.proofs.BuiltLemmas.{made_net}
use Rattle.cx_fsm.proofs.building.reached_net.Goals as goal

pub new-requires : goal.new-requires
new-requires c =
    let l = plain_lowereds c.args.design.now in
    let parts = c.in_ok-parts.ensures.value ∙ ap (λ numbers. map (net_component l) (filter_map (slice_get l.components) numbers)) (c.as_slice.ensures.value ∙ c.in_ok-order.ensures.value) in
    let main = c.in_ok-main.ensures.value ∙ ap₂ place_in c.main.ensures.value (c.as_slice-2.ensures.value ∙ c.in_ok-order.ensures.value) in
    record { net = made_net l c.requires.lowered (map plain_net_component c.in_ok-parts.parts.items) c.in_ok-main.main parts main }
