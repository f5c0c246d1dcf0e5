use Rattle.std.proofs.Common.{◌≡◌, ◌+◌, suc, List, ◌∷◌, ◌++◌, drop, map, ap, sym, ◌∙◌, drop-cons, add-one}
use Rattle.cx_design.specs.PlainForms.{plain_cell}
use Rattle.cx_net.specs.PlainNets.{plain_net_component}
use Rattle.cx_prim.specs.Table.{PrimitiveRow}
use Rattle.cx_vtree.specs.Plain.{PlainModule}
use Rattle.cx_vtree.specs.PlainParts.{plain_modules}
use Rattle.cx_emit.specs.Sources.{primitives_in, primitives_among, with_primitives}
use Rattle.cx_emit.proofs.NetPrimitives.{with-append}
use Rattle.cx_emit.proofs.primitives.add_components.Goals as goal

pub loop-part-preserved : goal.loop-part-preserved
loop-part-preserved c =
    let i = c.loop-part.part-index in
    let parts = c.args.components.now in
    let part = c.part-item.result in
    let before : List PlainModule = plain_modules c.loop-part.modules.items in
    let own : List PrimitiveRow = primitives_in (plain_net_component part).cells in
    let rest : List PrimitiveRow = primitives_among (map plain_net_component (drop (i + 1) parts)) in
    let left : primitives_among (map plain_net_component (drop i parts)) ≡ own ++ rest =
    ap (λ xs. primitives_among (map plain_net_component xs)) (drop-cons parts i part c.loop-part-test.true ∙ ap (λ x. x ∷ drop (suc i) parts) (sym c.part-item.is))
    ∙ ap (λ n. own ++ primitives_among (map plain_net_component (drop n parts))) (sym (add-one i)) in
    let added : plain_modules c.add_cells.new.modules.items ≡ with_primitives before own = c.in_ok-add_cells.ensures.value ∙ ap (λ cells. with_primitives before (primitives_in (map plain_cell cells))) c.deref.ensures.value in
    record {
      found = c.in_ok-add_cells.ensures.found;
      value = ap (λ ms. with_primitives ms rest) added ∙ with-append before own rest ∙ ap (with_primitives before) (sym left) ∙ c.loop-part.invariant.value;
    }
