use Rattle.std.proofs.Common.{◌<◌, ◌++◌, arith}
use Rattle.std.proofs.lemmas.List.{length-append}
use Rattle.cx_text.proofs.MemberLaws.{in_at}
use Rattle.cx_graphs.proofs.Lists.{in_get}
use Rattle.cx_graphs.proofs.walking.next_edge.Goals as goal

pub mark_of-requires : goal.mark_of-requires
mark_of-requires c =
    let list = c.args.first.now ++ c.args.second.now in
    record { within = c.requires.within c.edge_target-target.result (in_at list c.loop-at.at c.edge_target-target.result c.edge_target-target.ensures.value) }

pub returns-in-Entered : goal.returns-in-Entered
returns-in-Entered c =
    let list = c.args.first.now ++ c.args.second.now in
    record { value = λ before. (c.edge_target-target.result, in_at list c.loop-at.at c.edge_target-target.result c.edge_target-target.ensures.value, c.in-Entered.ensures.value) }

pub returns : goal.returns
returns c =
    let list = c.args.first.now ++ c.args.second.now in
    record {
      value = λ before t i.
          let r = in_get list t i in
          let past : r.0 < c.loop-at.at = omega (arith, r.1, length-append c.args.first.now c.args.second.now, c.loop-at-test.false) in
          c.loop-at.invariant before r.0 t past r.2;
    }
