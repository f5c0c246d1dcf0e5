use Rattle.std.proofs.Common.{◌≡◌, ◌∙◌, ◌<◌, ◌+◌, ◌*◌, [], false, true, get_or, map, length, sym, ap, arith}
use Rattle.std.proofs.lemmas.List.{get_or_default, length-map}
use Rattle.cx_design.specs.PlainForms.{plain_cell, plain_component}
use Rattle.cx_sharing.specs.Giving as giving
use Rattle.cx_share.specs.Givings.{no_kept, plain_kept}
use Rattle.cx_share.proofs.RefusedLemmas.{none_on, refused_takes}
use Rattle.cx_share.proofs.giving.first_taker.Goals as goal

pub loop-block-preserved-then-has : goal.loop-block-preserved-then-has
loop-block-preserved-then-has c =
    let part = plain_component c.args.part.now in
    let kept = c.args.kept.now in
    let block = c.loop-block.block in
    let few = c.requires.refused.few in
    let less = c.loop-block-test.true in
    let inside : c.args.cell < length part.cells = rw (length-map c.args.part.now.cells.items plain_cell) c.requires.cell in
    let marked : get_or (get_or c.args.refused.now block []) c.args.cell false ≡ true =
    ap (λ m. get_or m c.args.cell false) (sym (c.index-refused-block.is ∙ get_or_default c.args.refused.now block c.index-refused-block.result [] less)) ∙ sym c.has.ensures.value ∙ c.if-has.true in
    none_on (λ k. giving.takes part c.args.cell (get_or (map plain_kept kept) k no_kept)) (block * 64) ((block + 1) * 64) c.loop-block.invariant
    (λ k from to. refused_takes part c.args.cell kept k (omega (arith, few, less, to)) c.requires.near inside (c.requires.refused.each block k less from (omega (arith, to)) c.args.cell marked))
