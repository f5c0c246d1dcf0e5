use Rattle.std.proofs.Common.{arith, sym, ap, ◌≡◌, ℕ, ◌+◌, ◌*◌, ◌<◌, ◌≤◌, ◌^◌, Bool, Option, Some, None, if◌then◌else◌, slice_index, subst}
use Rattle.cx_text.specs.Loading.{word_count}
use Rattle.cx_cells.proofs.NumberLemmas.{IsCounting, IsCounting-next, are_sizes-zero, are_sizes-large, are_sizes-all}
use Rattle.cx_cells.proofs.numbers.word_count.Goals as goal

pub returns-then-size-eq0 : goal.returns-then-size-eq0
returns-then-size-eq0 c = record {
  value = sym (ap (λ (b : Bool). if b then Some (word_count c.args.sizes.now) else None)
      (are_sizes-zero c.args.sizes.now c.loop-size.size-index c.loop-size.count c.loop-size-test.true c.if-size-eq0.true c.loop-size.invariant));
}

pub returns-then-product-gt4294967295 : goal.returns-then-product-gt4294967295
returns-then-product-gt4294967295 c =
    let product : c.from.result * c.from-in-loop-size.result ≡ c.loop-size.count * slice_index c.args.sizes.now c.loop-size.size-index = cc (c.from.ensures, c.from-in-loop-size.ensures) in
    let large : 2 ^ 32 ≤ c.loop-size.count * slice_index c.args.sizes.now c.loop-size.size-index = omega (arith, product, c.if-product-gt4294967295.true) in
    record {
      value = sym (ap (λ (b : Bool). if b then Some (word_count c.args.sizes.now) else None)
          (are_sizes-large c.args.sizes.now c.loop-size.size-index c.loop-size.count c.loop-size-test.true large c.loop-size.invariant));
    }

pub loop-size-preserved : goal.loop-size-preserved
loop-size-preserved c =
    let product : c.from.result * c.from-in-loop-size.result ≡ c.loop-size.count * slice_index c.args.sizes.now c.loop-size.size-index = cc (c.from.ensures, c.from-in-loop-size.ensures) in
    let small : c.loop-size.count * slice_index c.args.sizes.now c.loop-size.size-index < 2 ^ 32 = omega (arith, product, c.if-product-gt4294967295.false) in
    let some : 1 ≤ slice_index c.args.sizes.now c.loop-size.size-index = omega (arith, c.if-size-eq0.false) in
    subst (IsCounting c.args.sizes.now (c.loop-size.size-index + 1)) (sym product)
    (IsCounting-next c.args.sizes.now c.loop-size.size-index c.loop-size.count c.loop-size-test.true some small c.loop-size.invariant)

pub returns : goal.returns
returns c = record {
  value = sym (are_sizes-all c.args.sizes.now c.loop-size.size-index c.loop-size.count c.loop-size-test.false c.loop-size.invariant);
}
