use Rattle.std.proofs.Common.{◌≡◌, ◌<◌, Some, length, map, slice_get, ap, sym, ◌∙◌, subst, arith}
use Rattle.cx_vtree.specs.PlainParts.{plain_external}
use Rattle.cx_vtree.specs.PlainSources.{plain_source}
use Rattle.cx_velab.specs.Rows.{placed_of}
use Rattle.cx_vsim.specs.Externals.{HasArray}
use Rattle.cx_text.proofs.ListLaws.{item_at}
use Rattle.cx_vsim.proofs.arrays.external_arrays.Goals as goal

pub external_array-requires-clause-there : goal.external_array-requires-clause-there
external_array-requires-clause-there c =
    let lt : c.loop-external.external-index < length c.externals-external-items.result.now = omega (arith, c.loop-external-test.true) in
    let at = item_at plain_external c.externals-external-items.result.now c.loop-external.external-index c.external-item.result lt c.external-item.is in
    let there : slice_get (plain_source c.args.source.now).externals c.loop-external.external-index ≡ Some (plain_external c.external-item.result)
    = ap (λ l. slice_get l c.loop-external.external-index) (sym c.externals-external-items.ensures.value) ∙ at in
    subst (λ t. HasArray t (plain_external c.external-item.result)) (sym (ap (map placed_of) c.in_ok-instances.ensures ∙ c.requires.rows))
    (c.externals_have_arrays.ensures (plain_source c.args.source.now) c.loop-external.external-index (plain_external c.external-item.result) c.externals-external-items.ensures.sound there)
