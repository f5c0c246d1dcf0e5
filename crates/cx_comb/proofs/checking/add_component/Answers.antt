use Rattle.std.proofs.Common.{◌<◌, length, sym, ap, ◌∙◌, subst}
use Rattle.std.proofs.lemmas.List.{length-map}
use Rattle.cx_meaning.specs.Designs.{PlainComponent}
use Rattle.cx_design.specs.PlainDesigns.{plain_design}
use Rattle.cx_design.specs.PlainForms.{plain_component}
use Rattle.cx_comb.specs.CombBreaks.{component_breaks}
use Rattle.cx_comb.proofs.BreakLemmas.{component_has}
use Rattle.cx_rules.proofs.PortsLemmas.{part_is}
use Rattle.cx_comb.proofs.checking.add_component.Goals as goal

pub add_circles-requires : goal.add_circles-requires
add_circles-requires c = record {
  within = c.requires.within;
  count = c.in_ok-circles.ensures.value.count ∙ ap (λ (part : PlainComponent). length part.groups) (part_is (plain_design c.args.design.now) c.args.number);
}

pub returns : goal.returns
returns c =
    let d = plain_design c.args.design.now in
    let k = c.args.number in
    let found = c.in_ok-circles.circles in
    let within : k < length d.components = subst (λ n. k < n) (sym (length-map c.args.design.now.components.items plain_component)) c.requires.within in
    record { value = (component_breaks d k found.whole found.groups.items, component_has d k found.whole found.groups.items within c.in_ok-circles.ensures.value, c.in_ok-add_circles.ensures.value) }
