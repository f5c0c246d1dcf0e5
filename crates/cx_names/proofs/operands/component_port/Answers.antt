use Rattle.std.proofs.Common.{arith, ◌∙◌, sym, ap, Some}
use Rattle.std.proofs.lemmas.Option.{slice_get-get_or}
use Rattle.cx_names.proofs.PortLemmas.{ports_within, port_of_component, no_component}
use Rattle.cx_names.proofs.operands.component_port.Goals as goal

pub index-requires : goal.index-requires
index-requires c = omega (arith, c.args.site.now.ports.now.ok, ports_within _ _ c.args.site.now.scope.index.now.components c.args.component.now _ c.requires.ports c.requires.scope.index.components c.in-Some.ensures.value)

pub returns-in-None : goal.returns-in-None
returns-in-None c = no_component _ c.args.site.now.scope.index.now.components c.args.component.now c.args.port.now c.requires.scope.index.components c.in-None.ensures.value

pub returns-in-Some : goal.returns-in-Some
returns-in-Some c =
    let within = ports_within _ _ c.args.site.now.scope.index.now.components c.args.component.now _ c.requires.ports c.requires.scope.index.components c.in-Some.ensures.value in
    c.find-in-Some.ensures.value
    ∙ port_of_component _ _ c.args.site.now.scope.index.now.components c.index.result.now c.args.component.now c.args.port.now _ c.requires.ports c.requires.scope.index.components c.in-Some.ensures.value
    (slice_get-get_or c.args.site.now.ports.now.items c.in-Some.number c.index.result.now within ∙ ap Some (sym c.index.ensures))
