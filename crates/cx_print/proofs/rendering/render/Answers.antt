use Rattle.std.proofs.Common.{◌≡◌, ◌+◌, ◌<◌, ◌≤◌, suc, ◌∷◌, length, drop, drop-cons, add-one, sym, ◌∙◌, ap, arith}
use Rattle.std.proofs.lemmas.List.{drop_all}
use Rattle.cx_print.proofs.LayoutLemmas.{layout_start, layout_more, layout_end}
use Rattle.cx_print.proofs.rendering.render.Goals as goal

pub loop-piece-init : goal.loop-piece-init
loop-piece-init c = layout_start c.args.pieces.now c.args.out.now.items

pub loop-piece-preserved : goal.loop-piece-preserved
loop-piece-preserved c =
    let inside : c.loop-piece.piece-index < length c.args.pieces.now = omega arith in
    let whole : drop c.loop-piece.piece-index c.args.pieces.now ≡ c.piece-item.result ∷ drop (c.loop-piece.piece-index + 1) c.args.pieces.now =
    drop-cons c.args.pieces.now c.loop-piece.piece-index c.piece-item.result inside
    ∙ ap (λ p. p ∷ drop (suc c.loop-piece.piece-index) c.args.pieces.now) (sym c.piece-item.is)
    ∙ ap (λ n. c.piece-item.result ∷ drop n c.args.pieces.now) (sym (add-one c.loop-piece.piece-index)) in
    layout_more c.args.pieces.now _ _ c.args.out.now.items c.loop-piece.out.items c.gap.new.out.items c.token.new.out.items c.piece-item.result whole c.loop-piece.invariant c.in_ok-gap.ensures c.in_ok-token.ensures

pub returns : goal.returns
returns c =
    let past : length c.args.pieces.now ≤ c.loop-piece.piece-index = omega arith in
    layout_end c.args.pieces.now _ c.args.out.now.items c.loop-piece.out.items c.plain.new.out.items (drop_all c.loop-piece.piece-index c.args.pieces.now past) c.loop-piece.invariant c.in_ok-plain.ensures
