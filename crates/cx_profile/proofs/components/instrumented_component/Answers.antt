use Rattle.std.proofs.Common.{◌≡◌, ◌<◌, ◌∙◌, true, false, get_or, length, map, ap, sym, subst, arith}
use Rattle.std.proofs.lemmas.List.{length-map}
use Rattle.std.proofs.lemmas.Result.{IfOk-weaker}
use Rattle.cx_text.proofs.ListLaws.{there_below}
use Rattle.cx_meaning.specs.Designs.{component_at}
use Rattle.cx_design.proofs.DesignFacts.{component_is}
use Rattle.cx_design.specs.PlainForms.{plain_cell, plain_component}
use Rattle.cx_design.specs.PlainDesigns.{plain_design}
use Rattle.cx_profiling.specs.Instrumented.{is_reached, instrumented_component}
use Rattle.cx_profile.specs.Renumbering.{AreThere, dones_of}
use Rattle.cx_profile.proofs.MadeLemmas.{mark_is, main_reached, main_made, child_made, kept_made, named_there}
use Rattle.cx_profile.proofs.components.instrumented_component.Goals as goal

pub renumbered_cells-requires-clause-there : goal.renumbered_cells-requires-clause-there
renumbered_cells-requires-clause-there c =
    let own : plain_component c.index-as_slice-number.result ≡ component_at (plain_design c.args.design.now) c.args.number =
    component_is c.args.design.now.components.items c.args.number c.index-as_slice-number.result c.requires.there
    (c.index-as_slice-number.is ∙ ap (λ xs. get_or xs c.args.number c.index-as_slice-number.result) c.as_slice.ensures.value) in
    subst (λ cs. AreThere (length c.args.design.now.components.items) (map plain_cell cs)) (sym c.deref-2.ensures.value)
    (named_there c.args.design.now.components.items c.args.design.now.main c.args.number c.index-as_slice-number.result c.args.design.now.keeps c.requires.there own)

pub instrumented_main-requires-clause-there : goal.instrumented_main-requires-clause-there
instrumented_main-requires-clause-there c =
    let own : plain_component c.index-as_slice-number.result ≡ component_at (plain_design c.args.design.now) c.args.number =
    component_is c.args.design.now.components.items c.args.number c.index-as_slice-number.result c.requires.there
    (c.index-as_slice-number.is ∙ ap (λ xs. get_or xs c.args.number c.index-as_slice-number.result) c.as_slice.ensures.value) in
    named_there c.args.design.now.components.items c.args.design.now.main c.args.number c.index-as_slice-number.result c.args.design.now.keeps c.requires.there own

pub instrumented_child-requires-clause-there : goal.instrumented_child-requires-clause-there
instrumented_child-requires-clause-there c =
    let own : plain_component c.index-as_slice-number.result ≡ component_at (plain_design c.args.design.now) c.args.number =
    component_is c.args.design.now.components.items c.args.number c.index-as_slice-number.result c.requires.there
    (c.index-as_slice-number.is ∙ ap (λ xs. get_or xs c.args.number c.index-as_slice-number.result) c.as_slice.ensures.value) in
    named_there c.args.design.now.components.items c.args.design.now.main c.args.number c.index-as_slice-number.result c.args.design.now.keeps c.requires.there own

pub index-requires : goal.index-requires
index-requires c =
    let d = plain_design c.args.design.now in
    let there : c.args.number < length d.components = subst (λ n. c.args.number < n) (sym (length-map c.args.design.now.components.items plain_component)) c.requires.there in
    let within : c.args.number < length c.args.gains.now.reached.items = there_below c.args.gains.now.reached.items c.args.number (is_reached d c.args.number) (c.requires.gains.reached c.args.number there) in
    omega (arith, within, c.args.gains.now.reached.ok.0)

pub returns-then-number-design : goal.returns-then-number-design
returns-then-number-design c =
    let d = plain_design c.args.design.now in
    let part = plain_component c.index-as_slice-number.result in
    let own : plain_component c.index-as_slice-number.result ≡ component_at (plain_design c.args.design.now) c.args.number =
    component_is c.args.design.now.components.items c.args.number c.index-as_slice-number.result c.requires.there
    (c.index-as_slice-number.is ∙ ap (λ xs. get_or xs c.args.number c.index-as_slice-number.result) c.as_slice.ensures.value) in
    let are : c.deref-then-number-design-2.result.now ≡ dones_of d part.cells =
    c.deref-then-number-design-2.ensures.value ∙ c.in_ok-dones.ensures.value ∙ ap (λ cs. dones_of d (map plain_cell cs)) c.deref-2.ensures.value in
    let reached : is_reached d c.args.number ≡ true = ap (is_reached d) c.if-number-design.true ∙ main_reached d c.args.design.now.keeps in
    record {
      value = IfOk-weaker c.instrumented_main.result _ (λ made. plain_component made ≡ instrumented_component d c.args.number)
          (λ made is. main_made d c.args.design.now.keeps c.args.number part c.deref-then-number-design-2.result.now own are (c.requires.gains.trees c.args.number reached) c.if-number-design.true (plain_component made) is)
          c.instrumented_main.ensures.value;
    }

pub returns-then-index : goal.returns-then-index
returns-then-index c =
    let d = plain_design c.args.design.now in
    let part = plain_component c.index-as_slice-number.result in
    let own : plain_component c.index-as_slice-number.result ≡ component_at (plain_design c.args.design.now) c.args.number =
    component_is c.args.design.now.components.items c.args.number c.index-as_slice-number.result c.requires.there
    (c.index-as_slice-number.is ∙ ap (λ xs. get_or xs c.args.number c.index-as_slice-number.result) c.as_slice.ensures.value) in
    let are : c.deref-then-index-2.result.now ≡ dones_of d part.cells =
    c.deref-then-index-2.ensures.value ∙ c.in_ok-dones.ensures.value ∙ ap (λ cs. dones_of d (map plain_cell cs)) c.deref-2.ensures.value in
    let there : c.args.number < length d.components = subst (λ n. c.args.number < n) (sym (length-map c.args.design.now.components.items plain_component)) c.requires.there in
    let at = c.requires.gains.reached c.args.number there in
    let reached : is_reached d c.args.number ≡ true =
    sym (mark_is c.args.gains.now.reached.items c.args.number c.index.result.now (is_reached d c.args.number) (there_below c.args.gains.now.reached.items c.args.number (is_reached d c.args.number) at) c.index.ensures at) ∙ c.if-index.true in
    record {
      value = IfOk-weaker c.instrumented_child.result _ (λ made. plain_component made ≡ instrumented_component d c.args.number)
          (λ made is. child_made d c.args.design.now.keeps c.args.number part c.deref-then-index-2.result.now own are (c.requires.gains.trees c.args.number reached) c.if-number-design.false reached (plain_component made) is)
          c.instrumented_child.ensures.value;
    }

pub returns : goal.returns
returns c =
    let d = plain_design c.args.design.now in
    let part = plain_component c.index-as_slice-number.result in
    let own : plain_component c.index-as_slice-number.result ≡ component_at (plain_design c.args.design.now) c.args.number =
    component_is c.args.design.now.components.items c.args.number c.index-as_slice-number.result c.requires.there
    (c.index-as_slice-number.is ∙ ap (λ xs. get_or xs c.args.number c.index-as_slice-number.result) c.as_slice.ensures.value) in
    let are : c.deref-else-index.result.now ≡ dones_of d part.cells =
    c.deref-else-index.ensures.value ∙ c.in_ok-dones.ensures.value ∙ ap (λ cs. dones_of d (map plain_cell cs)) c.deref-2.ensures.value in
    let there : c.args.number < length d.components = subst (λ n. c.args.number < n) (sym (length-map c.args.design.now.components.items plain_component)) c.requires.there in
    let at = c.requires.gains.reached c.args.number there in
    let reached : is_reached d c.args.number ≡ false =
    sym (mark_is c.args.gains.now.reached.items c.args.number c.index.result.now (is_reached d c.args.number) (there_below c.args.gains.now.reached.items c.args.number (is_reached d c.args.number) at) c.index.ensures at) ∙ c.if-index.false in
    record {
      value = IfOk-weaker c.kept_component.result _ (λ made. plain_component made ≡ instrumented_component d c.args.number)
          (λ made is. kept_made d c.args.design.now.keeps c.args.number part c.deref-else-index.result.now own are c.if-number-design.false reached (plain_component made) is)
          c.kept_component.ensures.value;
    }
