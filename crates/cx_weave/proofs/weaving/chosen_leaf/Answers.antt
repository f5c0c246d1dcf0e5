use Rattle.std.proofs.Common.{rules, ◌≡◌, ◌<◌, ◌%◌, ◌^◌, length, get_or, arith}
use Rattle.std.proofs.Math.Nat.{mod-le}
use Rattle.cx_weave.specs.Strands.{plain_strand, strand_leaves}
use Rattle.cx_orders.specs.Woven.{by_list}
use Rattle.cx_weave.proofs.WeaveSteps.{leaf_named}
use Rattle.cx_weave.proofs.weaving.chosen_leaf.Goals as goal

pub nonzero_rem-leaf : goal.nonzero_rem-leaf
nonzero_rem-leaf c = let t = (c.count_leaves.ensures c.requires.counted) in let s = c.requires.leaves in first_of (omega (arith, t, s), search (rules, t, s))

pub overflow_cast-result : goal.overflow_cast-result
overflow_cast-result c =
    let small : get_or c.args.list.now (c.args.made % length c.args.list.now) 0 < 2 ^ 32 = (let r = c.type_inv.list (c.args.made % length c.args.list.now) in first_of (omega (arith, r), search (rules, r))) in
    let same : c.from.result ≡ get_or c.args.list.now (c.args.made % length c.args.list.now) 0 = (let e = c.from.ensures in first_of (cc, search (rules, e))) in
    let below = mod-le c.from.result c.count_leaves.result in
    omega (arith, small, same, below)

pub returns : goal.returns
returns c =
    let small : get_or c.args.list.now (c.args.made % length c.args.list.now) 0 < 2 ^ 32 = (let r = c.type_inv.list (c.args.made % length c.args.list.now) in first_of (omega (arith, r), search (rules, r))) in
    let same : c.from.result ≡ by_list c.args.list.now c.args.made = (let e = c.from.ensures in first_of (cc, search (rules, e))) in
    leaf_named c.from.result (by_list c.args.list.now c.args.made) (strand_leaves (plain_strand c.args.strand.now)) c.count_leaves.result (omega (arith, small, same)) same (c.count_leaves.ensures c.requires.counted)
