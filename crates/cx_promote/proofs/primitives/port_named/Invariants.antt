use Rattle.std.proofs.Common.{◌≡◌, drop}
use Rattle.cx_prim.specs.Table.{row_of}
use Rattle.cx_promotion.specs.Promotable.{first_named}
use Rattle.cx_promote.proofs.primitives.port_named.Given as goal

-- the first is among the ports that are left
abbrev pub invariant-loop-port : goal.invariant-loop-port
invariant-loop-port l = first_named l.name (drop l.port (row_of l.primitive).ports) l.port ≡ first_named l.name (row_of l.primitive).ports 0
