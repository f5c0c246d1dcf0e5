use Rattle.std.proofs.Common.{◌≡◌, ◌++◌, drop, map}
use Rattle.cx_vtree.specs.Lines.{more_conns_text}
use Rattle.cx_vtree.specs.PlainParts.{plain_conn}
use Rattle.cx_vwrite.proofs.lines.more_conns.Given as goal

abbrev pub invariant-loop-c : goal.invariant-loop-c
invariant-loop-c l = l.out.items ++ more_conns_text (map plain_conn (drop l.c-index l.cs)) ≡ l.initial.out.items ++ more_conns_text (map plain_conn l.cs)
