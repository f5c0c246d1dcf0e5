use Rattle.std.proofs.Common.{◌≡◌, drop}
use Rattle.std.specs.List.{list_all}
use Rattle.cx_vtree.specs.Layout as layout
use Rattle.cx_vscope.proofs.layout.all_name_bytes.Given as goal

abbrev pub invariant-loop-c : goal.invariant-loop-c
invariant-loop-c l = list_all layout.is_name_byte (drop l.c-index l.bytes) ≡ list_all layout.is_name_byte l.bytes
