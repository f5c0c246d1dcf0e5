use Rattle.std.proofs.Common.{arith, ◌≡◌, ℕ, ◌+◌, ◌*◌, ◌<◌, ◌≤◌, ◌^◌, slice_index, length, subst, sym, ap, ◌∙◌, Fits, w64}
use Rattle.cx_text.specs.Loading.{word_count}
use Rattle.cx_prim.specs.Rows.{value_at}
use Rattle.cx_stateful.proofs.LocateLemmas.{IsLocating, IsLocating-next, IsLocating-below, sizes_few}
use Rattle.cx_stateful.proofs.layout.locate.Goals as goal

abbrev pub after_dimension : goal.loop-port-preserved
after_dimension c =
    let address = c.number_at-address.ensures.value in
    let below : value_at c.args.inputs.now c.loop-port.port < slice_index c.args.sizes.now c.loop-port.port = omega (arith, address) in
    subst (λ (a : ℕ). IsLocating c.args.sizes.now c.args.inputs.now (c.loop-port.port + 1) (c.loop-port.number * slice_index c.args.sizes.now c.loop-port.port + a)) (sym address)
    (IsLocating-next c.args.sizes.now c.args.inputs.now c.loop-port.port c.loop-port.number c.loop-port-test.true below c.loop-port.invariant)

pub overflow_mul-number : goal.overflow_mul-number
overflow_mul-number c =
    let far = after_dimension c in
    let below = IsLocating-below c.args.sizes.now c.args.inputs.now (c.loop-port.port + 1) _ c.requires far in
    let few = sizes_few c.args.sizes.now c.requires in
    omega (arith, below, few)

pub overflow_add-number : goal.overflow_add-number
overflow_add-number c =
    let far = after_dimension c in
    let below = IsLocating-below c.args.sizes.now c.args.inputs.now (c.loop-port.port + 1) _ c.requires far in
    let few = sizes_few c.args.sizes.now c.requires in
    omega (arith, below, few)

pub loop-port-preserved : goal.loop-port-preserved
loop-port-preserved c = after_dimension c
