use Rattle.std.proofs.Common.{◌≡◌, ◌-◌, suc, ◌∙◌, get_or, length, map, ap, sym, subst, arith}
use Rattle.std.proofs.lemmas.Result.{IfOk-weaker}
use Rattle.cx_meaning.specs.Designs.{component_at}
use Rattle.cx_meaning.specs.Instances.{cells_for, tree_within}
use Rattle.cx_design.proofs.DesignFacts.{component_is}
use Rattle.cx_design.specs.PlainForms.{plain_cell, plain_component}
use Rattle.cx_design.specs.PlainDesigns.{plain_design}
use Rattle.cx_profile.specs.Renumbering.{AreThere}
use Rattle.cx_profile.specs.Walks.{IsPast, IsPastCells}
use Rattle.cx_profile.proofs.MadeLemmas.{named_there}
use Rattle.cx_profile.proofs.WalkLemmas.{past_node}
use Rattle.cx_profile.proofs.entries.+walk.Goals as goal

pub past_instance-past_cells-requires : goal.past_instance-past_cells-requires
past_instance-past_cells-requires t c =
    let own : plain_component c.index-as_slice-component.result ≡ component_at (plain_design c.args.design.now) c.args.component =
    component_is c.args.design.now.components.items c.args.component c.index-as_slice-component.result c.requires.there
    (c.index-as_slice-component.is ∙ ap (λ xs. get_or xs c.args.component c.index-as_slice-component.result) c.as_slice.ensures.value) in (
      omega (arith, c.decreases, c.if-levels-eq0.false),
      subst (λ cs. AreThere (length c.args.design.now.components.items) (map plain_cell cs)) (sym c.deref.ensures.value)
          (named_there c.args.design.now.components.items c.args.design.now.main c.args.component c.index-as_slice-component.result c.args.design.now.keeps c.requires.there own),
    )

pub past_instance-returns : goal.past_instance-returns
past_instance-returns t c =
    let d = plain_design c.args.design.now in
    let part = plain_component c.index-as_slice-component.result in
    let own : plain_component c.index-as_slice-component.result ≡ component_at (plain_design c.args.design.now) c.args.component =
    component_is c.args.design.now.components.items c.args.component c.index-as_slice-component.result c.requires.there
    (c.index-as_slice-component.is ∙ ap (λ xs. get_or xs c.args.component c.index-as_slice-component.result) c.as_slice.ensures.value) in
    let levels : c.args.levels ≡ suc (c.args.levels - 1) = omega (arith, c.if-levels-eq0.false) in
    record {
      value = IfOk-weaker c.past_cells.result _ (IsPast (tree_within d c.args.levels c.args.component) c.args.names.now c.args.walk)
          (λ past h. past_node d (c.args.levels - 1) c.args.levels c.args.component part c.args.names.now c.args.walk c.in_ok-past.past past levels own c.in_ok-past.ensures.groups c.in_ok-past.ensures.instance
          (subst (λ cs. IsPastCells (cells_for (tree_within d (c.args.levels - 1)) (map plain_cell cs)) (map plain_cell cs) c.args.names.now c.in_ok-past.past past) c.deref.ensures.value h))
          c.past_cells.ensures.value;
    }
