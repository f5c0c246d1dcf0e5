use Rattle.std.proofs.Common.{◌≡◌, length, get_or, sym, ap, ◌∙◌, subst}
use Rattle.std.specs.Prelude.{IfOk}
use Rattle.cx_meaning.specs.Designs.{component_at}
use Rattle.cx_meaning.specs.Instances.{part_of}
use Rattle.cx_meaning.proofs.DesignsLemmas.{same_part}
use Rattle.cx_rules.specs.Ports.{component_of}
use Rattle.cx_design.specs.PlainForms.{plain_component}
use Rattle.cx_design.specs.PlainDesigns.{plain_design}
use Rattle.cx_design.proofs.DesignFacts.{component_is}
use Rattle.cx_state.proofs.paths.own_path.Goals as goal

pub returns-in-Some : goal.returns-in-Some
returns-in-Some c =
    let d = plain_design c.args.design.now in
    let components = c.args.design.now.components.items in
    let k = c.args.component in
    let part : plain_component c.index-as_slice-component.result ≡ component_at d k =
    component_is components k c.index-as_slice-component.result c.requires.within (c.index-as_slice-component.is ∙ ap (λ xs. get_or xs k c.index-as_slice-component.result) c.as_slice.ensures.value) in
    let own : part_of (component_of d k) ≡ plain_component c.index-as_slice-component.result = same_part d (length d.components) k ∙ sym part in
    record { value = subst (λ x. IfOk c.from_bytes.result (λ name. name ≡ x)) (sym (c.in-Some.ensures.some (component_of d k) own)) c.from_bytes.ensures.value }

pub returns-in-None : goal.returns-in-None
returns-in-None c =
    let d = plain_design c.args.design.now in
    let components = c.args.design.now.components.items in
    let k = c.args.component in
    let part : plain_component c.index-as_slice-component.result ≡ component_at d k =
    component_is components k c.index-as_slice-component.result c.requires.within (c.index-as_slice-component.is ∙ ap (λ xs. get_or xs k c.index-as_slice-component.result) c.as_slice.ensures.value) in
    let own : part_of (component_of d k) ≡ plain_component c.index-as_slice-component.result = same_part d (length d.components) k ∙ sym part in
    record { value = subst (λ x. IfOk c.path.result (λ name. name ≡ x)) (sym (c.in-None.ensures.none (component_of d k) own)) c.path.ensures.value }
