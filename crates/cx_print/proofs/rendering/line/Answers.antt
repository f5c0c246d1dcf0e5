use Rattle.cx_print.proofs.LayoutLemmas.{line_gap}
use Rattle.cx_print.proofs.rendering.line.Goals as goal

pub returns : goal.returns
returns c = line_gap c.args.out.now.items c.plain.new.out.items c.indent.new.out.items c.in_ok-plain.ensures c.in_ok-indent.ensures
