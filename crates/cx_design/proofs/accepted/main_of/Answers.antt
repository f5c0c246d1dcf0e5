use Rattle.std.proofs.Common.{◌≡◌, List, get_or, ap, ◌∙◌, subst}
use Rattle.cx_design.specs.declared.components.Component.{Component}
use Rattle.cx_design.proofs.DesignFacts.{component_is, cells_narrow, main_within}
use Rattle.cx_design.proofs.accepted.main_of.Goals as goal

pub returns : goal.returns
returns c =
    let r = c.index-components-design.result in
    let cs = c.args.design.now.components.items in
    let main = c.args.design.now.main in
    let h = main_within cs main c.args.design.now.keeps in
    let e : r ≡ get_or cs main r = c.index-components-design.is ∙ ap (λ xs. get_or xs main r) c.as_slice-components.ensures.value in
    record { value = component_is cs main r h e; narrow = λ k d lt. cells_narrow cs main r c.args.design.now.keeps h e k d lt }
