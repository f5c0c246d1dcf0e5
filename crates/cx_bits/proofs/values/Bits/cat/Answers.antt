use Rattle.std.proofs.Common.{◌+◌, ◌≤◌, arith}
use Rattle.cx_bits.proofs.Powers.{side_by_side}
use Rattle.cx_bits.proofs.values.Bits.cat.Goals as goal

pub overflow_add-result-2 : goal.overflow_add-result-2
overflow_add-result-2 c =
    let fit : c.self.inside.width + c.low.inside.width ≤ 128 = grind arith in
    let both = side_by_side c.self.inside.value c.self.inside.width c.low.inside.value c.low.inside.width c.self.invariant.in_range c.low.invariant.in_range fit in
    omega arith

pub invariant_of-result : goal.invariant_of-result
invariant_of-result c =
    let fit : c.self.inside.width + c.low.inside.width ≤ 128 = grind arith in
    let both = side_by_side c.self.inside.value c.self.inside.width c.low.inside.value c.low.inside.width c.self.invariant.in_range c.low.invariant.in_range fit in
    grind arith

pub returns : goal.returns
returns c =
    let fit : c.self.inside.width + c.low.inside.width ≤ 128 = grind arith in
    let both = side_by_side c.self.inside.value c.self.inside.width c.low.inside.value c.low.inside.width c.self.invariant.in_range c.low.invariant.in_range fit in
    grind (arith, both.uncut)
