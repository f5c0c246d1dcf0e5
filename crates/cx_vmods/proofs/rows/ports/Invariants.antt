use Rattle.std.proofs.Common.{◌≡◌, ◌∷◌, map, take}
use Rattle.std.specs.Prelude.{codes}
use Rattle.cx_prim.specs.Table.{row_of}
use Rattle.cx_vtree.specs.PlainParts.{plain_port}
use Rattle.cx_vmods.specs.Modules.{input, port_of}
use Rattle.cx_vmods.proofs.rows.ports.Given as goal

abbrev pub invariant-loop-n : goal.invariant-loop-n
invariant-loop-n l = map plain_port l.ports.items ≡ input (codes "clk") ∷ input (codes "reset") ∷ map port_of (take l.n (row_of l.primitive).ports)
