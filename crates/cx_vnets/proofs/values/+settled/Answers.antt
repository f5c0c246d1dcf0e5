use Rattle.std.proofs.Common.{◌≡◌, ℕ, ◌+◌, ◌∙◌, arith, max, IsSome, Some, option_and_then, option_map, ap, subst, sym}
use Rattle.std.proofs.Math.Nat.{le-max_left, le-max_right}
use Rattle.cx_bits.specs.BitVector.{BitVector}
use Rattle.cx_vtree.specs.Operators.{part_of}
use Rattle.cx_vtree.specs.Sound.{applied_width, chosen_width, joined_width, part_width}
use Rattle.cx_vnets.specs.declared.codes.Code.{Code, size-Code}
use Rattle.cx_vnets.specs.Arrays.{word_at}
use Rattle.cx_vnets.specs.Edges.{code_of, width_of}
use Rattle.cx_vnets.specs.Operands.{above, applied}
use Rattle.cx_vnets.specs.Fits.{width_at}
use Rattle.cx_vnets.proofs.Widths.{and_first, and_second, and_third, net_read, operands_same, operands_within, word_read}
use Rattle.cx_vnets.proofs.CodeWidths.{code_has_width}
use Rattle.cx_vnets.proofs.values.+settled.Goals as goal

pub operated-operand-y-requires : goal.operated-operand-y-requires
operated-operand-y-requires t c =
    let deep = le-max_right (size-Code c.args.left.now) (size-Code c.args.right.now) in
    (omega (arith, deep), (c.requires.even, and_second (applied_width c.args.op) (width_of c.args.values.now c.args.arrays.now c.args.place c.args.left.now) (width_of c.args.values.now c.args.arrays.now c.args.place c.args.right.now) c.requires.fits))

pub operated-operate-requires : goal.operated-operate-requires
operated-operate-requires t c =
    operands_same c.args.op (width_of c.args.values.now c.args.arrays.now c.args.place c.args.left.now) (width_of c.args.values.now c.args.arrays.now c.args.place c.args.right.now) c.operand-x.result c.operand-y.result
    c.requires.fits
    (λ w e. code_has_width c.args.values.now c.args.arrays.now c.args.place c.args.left.now w c.operand-x.result c.requires.even e c.operand-x.ensures)
    (λ w e. code_has_width c.args.values.now c.args.arrays.now c.args.place c.args.right.now w c.operand-y.result c.requires.even e c.operand-y.ensures)

pub joined-operand-y-requires : goal.joined-operand-y-requires
joined-operand-y-requires t c =
    let deep = le-max_right (size-Code c.args.high.now) (size-Code c.args.low.now) in
    (omega (arith, deep), (c.requires.even, and_second joined_width (width_of c.args.values.now c.args.arrays.now c.args.place c.args.high.now) (width_of c.args.values.now c.args.arrays.now c.args.place c.args.low.now) c.requires.fits))

pub joined-cat-requires : goal.joined-cat-requires
joined-cat-requires t c =
    operands_within (width_of c.args.values.now c.args.arrays.now c.args.place c.args.high.now) (width_of c.args.values.now c.args.arrays.now c.args.place c.args.low.now) c.operand-x.result c.operand-y.result
    c.requires.fits
    (λ w e. code_has_width c.args.values.now c.args.arrays.now c.args.place c.args.high.now w c.operand-x.result c.requires.even e c.operand-x.ensures)
    (λ w e. code_has_width c.args.values.now c.args.arrays.now c.args.place c.args.low.now w c.operand-y.result c.requires.even e c.operand-y.ensures)

pub chosen-operand-requires-then-value-eq0 : goal.chosen-operand-requires-then-value-eq0
chosen-operand-requires-then-value-eq0 t c =
    let deep = le-max_right (size-Code c.args.test.now) (max (size-Code c.args.one.now) (size-Code c.args.other.now)) in
    let deeper = le-max_right (size-Code c.args.one.now) (size-Code c.args.other.now) in
    (omega (arith, deep, deeper), (c.requires.even, and_third chosen_width (width_of c.args.values.now c.args.arrays.now c.args.place c.args.test.now) (width_of c.args.values.now c.args.arrays.now c.args.place c.args.one.now) (width_of c.args.values.now c.args.arrays.now c.args.place c.args.other.now) c.requires.fits))

pub chosen-operand-requires-else-value-eq0 : goal.chosen-operand-requires-else-value-eq0
chosen-operand-requires-else-value-eq0 t c =
    let deep = le-max_right (size-Code c.args.test.now) (max (size-Code c.args.one.now) (size-Code c.args.other.now)) in
    let deeper = le-max_left (size-Code c.args.one.now) (size-Code c.args.other.now) in
    (omega (arith, deep, deeper), (c.requires.even, and_second (λ (u v : ℕ). option_and_then (chosen_width u v) (width_of c.args.values.now c.args.arrays.now c.args.place c.args.other.now)) (width_of c.args.values.now c.args.arrays.now c.args.place c.args.test.now) (width_of c.args.values.now c.args.arrays.now c.args.place c.args.one.now) c.requires.fits))

pub settled-returns-in-Binary : goal.settled-returns-in-Binary
settled-returns-in-Binary t c =
    let left : c.deref-in-Binary.result.now ≡ c.in-Binary.left.value = c.deref-in-Binary.ensures in
    let right : c.deref-in-Binary-2.result.now ≡ c.in-Binary.right.value = c.deref-in-Binary-2.ensures in
    subst (λ (x : Code). code_of c.args.values.now c.args.arrays.now c.args.place x ≡ Some c.operated.result) (sym c.in-Binary.is)
    (subst (λ (x : Code). applied c.in-Binary.op (code_of c.args.values.now c.args.arrays.now c.args.place x) (code_of c.args.values.now c.args.arrays.now c.args.place c.in-Binary.right.value) ≡ Some c.operated.result) left
    (subst (λ (x : Code). applied c.in-Binary.op (code_of c.args.values.now c.args.arrays.now c.args.place c.deref-in-Binary.result.now) (code_of c.args.values.now c.args.arrays.now c.args.place x) ≡ Some c.operated.result) right c.operated.ensures))

pub settled-returns-in-Cat : goal.settled-returns-in-Cat
settled-returns-in-Cat t c =
    let high : c.deref-in-Cat.result.now ≡ c.in-Cat.high.value = c.deref-in-Cat.ensures in
    let low : c.deref-in-Cat-2.result.now ≡ c.in-Cat.low.value = c.deref-in-Cat-2.ensures in
    subst (λ (x : Code). code_of c.args.values.now c.args.arrays.now c.args.place x ≡ Some c.joined.result) (sym c.in-Cat.is)
    (subst (λ (x : Code). above (code_of c.args.values.now c.args.arrays.now c.args.place x) (code_of c.args.values.now c.args.arrays.now c.args.place c.in-Cat.low.value) ≡ Some c.joined.result) high
    (subst (λ (x : Code). above (code_of c.args.values.now c.args.arrays.now c.args.place c.deref-in-Cat.result.now) (code_of c.args.values.now c.args.arrays.now c.args.place x) ≡ Some c.joined.result) low c.joined.ensures))

pub settled-returns-in-Net : goal.settled-returns-in-Net
settled-returns-in-Net t c =
    subst (λ (x : Code). code_of c.args.values.now c.args.arrays.now c.args.place x ≡ Some c.index-values-number.result) (sym c.in-Net.is)
    (net_read c.args.values.now c.args.place.nets c.in-Net.k c.number.result _ c.number.ensures
    (subst (λ (x : Code). IsSome (width_of c.args.values.now c.args.arrays.now c.args.place x)) c.in-Net.is c.requires.fits)
    c.index-values-number.is)

pub settled-returns-in-Slice : goal.settled-returns-in-Slice
settled-returns-in-Slice t c =
    subst (λ (x : Code). code_of c.args.values.now c.args.arrays.now c.args.place x ≡ Some c.part.result) (sym c.in-Slice.is)
    (ap (option_map (part_of c.in-Slice.high c.in-Slice.low))
    (net_read c.args.values.now c.args.place.nets c.in-Slice.k c.number-in-Slice.result c.index-values-number-in-Slice.result c.number-in-Slice.ensures
    (and_first (λ w. part_width w c.in-Slice.high c.in-Slice.low) (width_at c.args.values.now (c.args.place.nets + c.in-Slice.k))
    (subst (λ (x : Code). IsSome (width_of c.args.values.now c.args.arrays.now c.args.place x)) c.in-Slice.is c.requires.fits))
    c.index-values-number-in-Slice.is)
    ∙ ap Some (sym c.part.ensures))

pub word_settled-returns : goal.word_settled-returns
word_settled-returns t c =
    ap (option_map (λ (y : BitVector). word_at c.args.arrays.now (c.args.place.arrays + c.args.array) y.value)) c.operand-at.ensures
    ∙ ap Some (sym (word_read c.args.arrays.now c.args.place.arrays c.args.array c.number.result c.operand-at.result.value _ _ c.number.ensures c.requires.there c.index-arrays-number.is c.word.ensures))

pub operand-returns-in-Net : goal.operand-returns-in-Net
operand-returns-in-Net t c =
    subst (λ (x : Code). code_of c.args.values.now c.args.arrays.now c.args.place x ≡ Some c.index-values-number.result) (sym c.in-Net.is)
    (net_read c.args.values.now c.args.place.nets c.in-Net.k c.number.result _ c.number.ensures
    (subst (λ (x : Code). IsSome (width_of c.args.values.now c.args.arrays.now c.args.place x)) c.in-Net.is c.requires.fits)
    c.index-values-number.is)
