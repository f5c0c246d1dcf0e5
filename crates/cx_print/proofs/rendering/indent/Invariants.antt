use Rattle.cx_print.specs.Layout.{AppendsBlanks}
use Rattle.cx_print.proofs.rendering.indent.Given as goal

abbrev pub invariant-loop : goal.invariant-loop
invariant-loop l = AppendsBlanks l.initial.out.items l.out.items
