use Rattle.std.proofs.Common.{◌≡◌, IsSome, subst, sym}
use Rattle.cx_vnets.specs.declared.codes.Code.{Code}
use Rattle.cx_vnets.specs.declared.marks.FoundValue.TheVariants.{Worth}
use Rattle.cx_vnets.specs.Codes.{code_width}
use Rattle.cx_vnets.specs.Looks.{look, seen_from, words_from, widths_from, array_widths_from}
use Rattle.cx_vnets.proofs.Widths.{binary_same, cat_within, item_found, item_there}
use Rattle.cx_vnets.proofs.values.+value.Goals as goal

pub operate-requires : goal.operate-requires
operate-requires t c =
    let left : look (seen_from c.args.marks.now c.args.values.now c.args.place.nets) (words_from c.args.arrays.now c.args.place.arrays) c.in-Binary.left.value ≡ Worth c.in-Worth-value-2.x = cc in
    let right : look (seen_from c.args.marks.now c.args.values.now c.args.place.nets) (words_from c.args.arrays.now c.args.place.arrays) c.in-Binary.right.value ≡ Worth c.in-Worth-value-3.y = cc in
    binary_same c.args.marks.now c.args.values.now c.args.arrays.now c.args.place.nets c.args.place.arrays c.requires.even c.in-Binary.op c.in-Binary.left.value c.in-Binary.right.value _ _
    (subst (λ (x : Code). IsSome (code_width (widths_from c.args.values.now c.args.place.nets) (array_widths_from c.args.arrays.now c.args.place.arrays) x)) c.in-Binary.is c.requires.fits) left right

pub cat-requires : goal.cat-requires
cat-requires t c =
    let left : look (seen_from c.args.marks.now c.args.values.now c.args.place.nets) (words_from c.args.arrays.now c.args.place.arrays) c.in-Cat.high.value ≡ Worth c.in-Worth-value-6.x = cc in
    let right : look (seen_from c.args.marks.now c.args.values.now c.args.place.nets) (words_from c.args.arrays.now c.args.place.arrays) c.in-Cat.low.value ≡ Worth c.in-Worth-value-7.y = cc in
    cat_within c.args.marks.now c.args.values.now c.args.arrays.now c.args.place.nets c.args.place.arrays c.requires.even c.in-Cat.high.value c.in-Cat.low.value _ _
    (subst (λ (x : Code). IsSome (code_width (widths_from c.args.values.now c.args.place.nets) (array_widths_from c.args.arrays.now c.args.place.arrays) x)) c.in-Cat.is c.requires.fits) left right

pub returns-in-Worth-value : goal.returns-in-Worth-value
returns-in-Worth-value t c =
    let at : look (seen_from c.args.marks.now c.args.values.now c.args.place.nets) (words_from c.args.arrays.now c.args.place.arrays) c.in-Item.index.value ≡ Worth c.in-Worth-value.at = cc in
    subst (λ (x : Code). Worth c.word.result ≡ look (seen_from c.args.marks.now c.args.values.now c.args.place.nets) (words_from c.args.arrays.now c.args.place.arrays) x) (sym c.in-Item.is)
    (item_found (seen_from c.args.marks.now c.args.values.now c.args.place.nets) c.args.arrays.now c.args.place.arrays c.in-Item.a c.number-in-Worth-value.result c.in-Item.index.value _ _ _ c.number-in-Worth-value.ensures at
    (item_there (widths_from c.args.values.now c.args.place.nets) (array_widths_from c.args.arrays.now c.args.place.arrays) c.in-Item.a c.in-Item.index.value
    (subst (λ (x : Code). IsSome (code_width (widths_from c.args.values.now c.args.place.nets) (array_widths_from c.args.arrays.now c.args.place.arrays) x)) c.in-Item.is c.requires.fits))
    c.index-arrays-number.is c.word.ensures)
