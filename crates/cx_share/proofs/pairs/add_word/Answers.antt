use Rattle.std.proofs.Common.{◌≡◌, ◌+◌, ◌*◌, arith}
use Rattle.cx_share.specs.Tables.{marked_pairs}
use Rattle.cx_share.proofs.TableLemmas.{joins_next}
use Rattle.cx_share.proofs.pairs.add_word.Goals as goal

pub loop-bit-preserved : goal.loop-bit-preserved
loop-bit-preserved c =
    let first = c.args.word * 64 in
    let next : first + (c.loop-bit.bit + 1) ≡ first + c.loop-bit.bit + 1 = omega arith in
    rw next (joins_next c.args.table.now.items c.loop-bit.table.items c.add_row.new.table.items first (first + c.loop-bit.bit) (marked_pairs c.args.ones.now c.args.others.now) (omega arith) c.loop-bit.invariant c.add_row.ensures.value)
