use Rattle.std.proofs.Common.{◌≡◌, map, drop}
use Rattle.std.specs.List.{list_all}
use Rattle.cx_vtree.specs.Layout as layout
use Rattle.cx_vtree.specs.PlainParts.{plain_conn}
use Rattle.cx_vscope.proofs.layout.conns_fit.Given as goal

abbrev pub invariant-loop-c : goal.invariant-loop-c
invariant-loop-c l = list_all layout.conn_fits (map plain_conn (drop l.c-index l.list)) ≡ list_all layout.conn_fits (map plain_conn l.list)
