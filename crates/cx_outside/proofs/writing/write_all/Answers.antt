use Rattle.std.proofs.Common.{rules}
use Rattle.cx_outside.proofs.WritingLemmas.{grown-take_more}
use Rattle.cx_outside.proofs.writing.write_all.Goals as goal

pub loop-done-preserved : goal.loop-done-preserved
loop-done-preserved g c =
    let grows = grown-take_more _ _ _ c.args.bytes.now c.loop-done.done c.in_ok-done.field-0 c.loop-done.invariant.1 c.in_ok-done.ensures.grows in
    (search rules, grows, search rules)
