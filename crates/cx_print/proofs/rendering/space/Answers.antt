use Rattle.cx_print.proofs.LayoutLemmas.{space_gap}
use Rattle.cx_print.proofs.rendering.space.Goals as goal

pub returns : goal.returns
returns c = space_gap c.args.out.now.items c.plain.new.out.items c.in_ok-plain.ensures
