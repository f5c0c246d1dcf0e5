use Rattle.std.proofs.Common.{◌≡◌, map, reverse, ap, ◌∙◌}
use Rattle.cx_vtree.specs.PlainParts.{plain_instance}
use Rattle.cx_vtree.specs.PlainSources.{plain_source}
use Rattle.cx_vtree.specs.InstanceTree.{tree_from, below, instances_of}
use Rattle.cx_velab.specs.Rows.{placed_of}
use Rattle.cx_vsim.proofs.Small.{alone, nets_small, arrays_small}
use Rattle.cx_vsim.proofs.numbers.numbers_of.Goals as goal

pub places-requires-clause-nets : goal.places-requires-clause-nets
places-requires-clause-nets c =
    let tree : map placed_of c.deref-2.result.now ≡ instances_of (plain_source c.args.source.now)
    = ap (map placed_of) c.deref-2.ensures.value ∙ c.in_ok-rows.ensures
    ∙ ap (λ ms. below (tree_from (reverse ms)) 0 0 (map plain_instance c.deref.result.now)) c.modules.ensures.value
    ∙ ap (λ l. below (tree_from (reverse (plain_source c.args.source.now).modules)) 0 0 (map plain_instance l)) c.deref.ensures.value
    ∙ ap (below (tree_from (reverse (plain_source c.args.source.now).modules)) 0 0) c.in_ok-main.ensures ∙ alone (instances_of (plain_source c.args.source.now)) in
    nets_small c.deref-2.result.now (instances_of (plain_source c.args.source.now)) tree (c.trees_can_be_built.ensures (plain_source c.args.source.now) c.modules.ensures.sound).small

pub places-requires-clause-arrays : goal.places-requires-clause-arrays
places-requires-clause-arrays c =
    let tree : map placed_of c.deref-2.result.now ≡ instances_of (plain_source c.args.source.now)
    = ap (map placed_of) c.deref-2.ensures.value ∙ c.in_ok-rows.ensures
    ∙ ap (λ ms. below (tree_from (reverse ms)) 0 0 (map plain_instance c.deref.result.now)) c.modules.ensures.value
    ∙ ap (λ l. below (tree_from (reverse (plain_source c.args.source.now).modules)) 0 0 (map plain_instance l)) c.deref.ensures.value
    ∙ ap (below (tree_from (reverse (plain_source c.args.source.now).modules)) 0 0) c.in_ok-main.ensures ∙ alone (instances_of (plain_source c.args.source.now)) in
    arrays_small c.deref-2.result.now (instances_of (plain_source c.args.source.now)) tree (c.trees_can_be_built.ensures (plain_source c.args.source.now) c.modules.ensures.sound).small
