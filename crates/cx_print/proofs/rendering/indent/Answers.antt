use Rattle.cx_print.proofs.LayoutLemmas.{blanks_none, blanks_more}
use Rattle.cx_print.proofs.rendering.indent.Goals as goal

pub loop-init : goal.loop-init
loop-init c = blanks_none _

pub loop-preserved : goal.loop-preserved
loop-preserved c = blanks_more c.args.out.now.items c.loop.out.items c.plain.new.out.items c.loop.invariant c.in_ok-plain.ensures
