use Rattle.std.proofs.Common.{arith}
use Rattle.cx_eval.proofs.TableLemmas.{part_below, part_kept, part_steps}
use Rattle.cx_eval.proofs.tables.stepping_of.Goals as goal

pub index-requires-2 : goal.index-requires-2
index-requires-2 c =
    let below = part_below c.args.tables.now c.requires.tables c.args.instance c.requires.instance c.index.result.now c.index.ensures in
    omega (arith, below, c.args.tables.now.parts.ok.0)

pub returns : goal.returns
returns c =
    let t = c.args.tables.now in
    let are = c.requires.tables in
    let n = c.args.instance in
    let lt = c.requires.instance in
    record {
      value = part_steps t are n lt c.index.result.now c.index.ensures c.index-2.result.now c.index-2.ensures;
      kept = part_kept t are n lt c.index.result.now c.index.ensures c.index-2.result.now c.index-2.ensures;
    }
