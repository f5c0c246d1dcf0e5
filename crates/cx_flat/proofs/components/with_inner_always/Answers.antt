use Rattle.std.proofs.Common.{◌<◌, length, arith}
use Rattle.cx_design.specs.PlainForms.{plain_assigns}
use Rattle.cx_flat.specs.Callers.{kids_in, part_of}
use Rattle.cx_flat.specs.Tables.{plain_table}
use Rattle.cx_flat.proofs.AlwaysLemmas.{always_more, kids_length}
use Rattle.cx_flat.proofs.components.with_inner_always.Goals as goal

pub loop-number-preserved : goal.loop-number-preserved
loop-number-preserved c =
    let kids = kids_in c.args.caller in
    let size = kids_length (plain_table c.args.caller.table.now) c.args.caller.part.now.cells.items in
    let less : c.loop-number.number < length kids = omega (arith, size, c.loop-number-test.true, c.len-number-end.ensures) in
    always_more kids (part_of c.args.caller) c.loop-number.number (plain_assigns c.args.front.items) (plain_assigns c.loop-number.all.items) (plain_assigns c.in_ok-all.all.items) less c.loop-number.invariant
    c.in_ok-all.ensures.value
