use Rattle.std.proofs.Common.{◌≡◌, ◌∷◌, ◌+◌, ◌-◌, ◌<◌, drop, length, map, refl, arith, rules}
use Rattle.cx_text.proofs.ListLaws.{drop_item}
use Rattle.cx_share.specs.Givings.{plain_kept}
use Rattle.cx_share.proofs.GiveLemmas.{kept_before}
use Rattle.cx_share.proofs.giving.keepers_by.Goals as goal

pub loop-left-preserved : goal.loop-left-preserved
loop-left-preserved c =
    let kept = c.args.kept.now in
    let n = c.loop-left.left - 1 in
    let one = c.index-kept-left.result in
    let lt : n < length kept = search rules in
    let back : n + 1 ≡ c.loop-left.left = omega (arith, c.loop-left-test.true) in
    let item : drop n kept ≡ one ∷ drop (n + 1) kept = drop_item kept n one c.index-kept-left.is lt in
    record {
      within = omega (arith, lt);
      keeps = rw (item, back) (kept_before c.args.count (plain_kept one) (map plain_kept (drop c.loop-left.left kept)) one.given.items c.loop-left.keepers.items c.put_keeper.new.keepers.items refl c.loop-left.invariant.keeps c.put_keeper.ensures.value);
    }
