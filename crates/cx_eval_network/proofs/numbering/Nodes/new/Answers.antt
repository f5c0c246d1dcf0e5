use Rattle.std.proofs.Common.{rules, ◌≡◌, ℕ, ◌+◌, ◌<◌, List, ⊎_elim, Some, length, slice_get, map, sym, ap, ◌∙◌, subst, arith}
use Rattle.std.proofs.lemmas.List.{length-append, length-map}
use Rattle.cx_graphs.proofs.Lists.{get_last}
use Rattle.cx_rules.specs.Ports.{component_of}
use Rattle.cx_design.specs.declared.designs.Design.{Design}
use Rattle.cx_design.specs.PlainForms.{plain_component}
use Rattle.cx_design.specs.PlainDesigns.{plain_design}
use Rattle.cx_state.specs.Tables.{row_at}
use Rattle.cx_eval_network.specs.declared.parts.PartNodes.{PartNodes}
use Rattle.cx_eval_network.specs.Lists.{HaveLists}
use Rattle.cx_eval_network.specs.Nodes.{HaveParts, IsNodesOf, IsPartOf}
use Rattle.cx_eval_network.specs.Plans.{HavePlans}
use Rattle.cx_eval_network.proofs.numbering.Nodes.new.Goals as goal

have_parts : (parts : List PartNodes) (n : ℕ) (design : Design) → length parts ≡ n → ((k : ℕ) (nodes : PartNodes) → slice_get parts k ≡ Some nodes → IsPartOf (component_of (plain_design design) k) nodes)
    → length design.components.items ≡ n → HaveParts (plain_design design) parts
have_parts parts n design sized each all = record { count = sized ∙ sym all ∙ sym (length-map design.components.items plain_component); each = each }

pub loop-number-preserved : goal.loop-number-preserved
loop-number-preserved c =
    let d = plain_design c.args.design.now in
    let parts = c.loop-number.parts.items in
    let own : IsPartOf (component_of d c.loop-number.number) c.in_ok-new.field-0 = c.in_ok-new.ensures.value in
    let sized = c.loop-number.invariant.sized in
    record {
      sized = ap length c.in_ok-push.ensures.items ∙ length-append parts _ ∙ ap (λ k. k + 1) sized;
      each = λ k nodes e. ⊎_elim
          (λ f. c.loop-number.invariant.each k nodes f)
          (λ (b : (k ≡ length parts) × (c.in_ok-new.field-0 ≡ nodes)).
          subst (λ m. IsPartOf (component_of d m) nodes) (sym (b.0 ∙ sized)) (subst (IsPartOf (component_of d c.loop-number.number)) b.1 own))
          (get_last parts c.in_ok-new.field-0 nodes k (subst (λ xs. slice_get xs k ≡ Some nodes) c.in_ok-push.ensures.items e));
    }

pub all_plans-requires : goal.all_plans-requires
all_plans-requires c =
    let all : length c.args.design.now.components.items ≡ c.loop-number.number = search rules in
    record { parts = subst (HaveParts (plain_design c.args.design.now)) (sym c.as_slice.ensures.value) (have_parts _ _ c.args.design.now c.loop-number.invariant.sized c.loop-number.invariant.each all) }

pub all_lists-requires : goal.all_lists-requires
all_lists-requires c =
    let d = plain_design c.args.design.now in
    let all : length c.args.design.now.components.items ≡ c.loop-number.number = search rules in
    record {
      parts = subst (HaveParts d) (sym c.as_slice-2.ensures.value) (have_parts _ _ c.args.design.now c.loop-number.invariant.sized c.loop-number.invariant.each all);
      plans = subst (HavePlans d) (sym c.as_slice-3.ensures.value) c.in_ok-plans.ensures.value;
    }

pub placed-requires : goal.placed-requires
placed-requires c = record {
  within = λ n lt.
      let d = plain_design c.args.design.now in
      let rows = c.args.table.now.rows.items in
      let all : length c.args.design.now.components.items ≡ c.loop-number.number = search rules in
      let sized = c.loop-number.invariant.sized in
      let many : length (map plain_component c.args.design.now.components.items) ≡ length c.args.design.now.components.items = length-map c.args.design.now.components.items plain_component in
      let there : (row_at rows n).component < length (map plain_component c.args.design.now.components.items) = c.requires.table.there n (subst (λ xs. n < length xs) c.as_slice-4.ensures.value lt) in
      subst (λ xs. (row_at xs n).component < length c.loop-number.parts.items) (sym c.as_slice-4.ensures.value) (omega (arith, there, many, all, sized));
}

pub returns : goal.returns
returns c = record {
  value =
      let all : length c.args.design.now.components.items ≡ c.loop-number.number = search rules in
      let parts = have_parts _ _ c.args.design.now c.loop-number.invariant.sized c.loop-number.invariant.each all in
      let lists = subst (λ plans. HaveLists c.loop-number.parts.items plans c.in_ok-lists.lists.items) c.as_slice-3.ensures.value (subst (λ ps. HaveLists ps c.as_slice-3.result.now c.in_ok-lists.lists.items) c.as_slice-2.ensures.value c.in_ok-lists.ensures.value) in
      subst (λ xs. IsNodesOf (plain_design c.args.design.now) xs c.in_ok-nodes.nodes) c.as_slice-4.ensures.value (c.in_ok-nodes.ensures.value (plain_design c.args.design.now) parts c.in_ok-plans.ensures.value lists c.in_ok-nothing.ensures.value);
}
