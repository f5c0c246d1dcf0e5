use Rattle.std.proofs.Common.{◌≡◌, ◌+◌, ◌-◌, ◌<◌, map, drop, length, ap, ◌∙◌, arith}
use Rattle.cx_vtree.specs.SimRun.{instance_named}
use Rattle.cx_velab.specs.Rows.{placed_of}
use Rattle.cx_vsim.proofs.Naming.{main_entered}
use Rattle.cx_text.proofs.ListLaws.{read_at}
use Rattle.cx_vsim.proofs.arrays.main_numbers.Goals as goal

pub loop-i-preserved-in_ok-insert : goal.loop-i-preserved-in_ok-insert
loop-i-preserved-in_ok-insert c =
    let lt : c.loop-i.i - 1 < length c.args.rows.now = omega (arith, c.loop-i-test.true, c.loop-i.invariant.within) in
    let at = read_at c.args.rows.now (c.loop-i.i - 1) c.index-rows-i.result lt c.index-rows-i.is in
    let next : c.loop-i.i ≡ c.loop-i.i - 1 + 1 = omega (arith, c.loop-i-test.true) in
    record {
      main = main_entered c.loop-i.numbers c.insert.new.self c.args.rows.now (c.loop-i.i - 1) c.index-rows-i.result at c.if-row-eq0.true c.in_ok-insert.ensures.updates.0
          (λ q. c.loop-i.invariant.main q ∙ ap (λ k. instance_named (map placed_of (drop k c.args.rows.now)) k q) next);
      within = omega (arith, c.loop-i.invariant.within);
    }
