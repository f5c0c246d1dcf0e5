use Rattle.std.proofs.Common.{◌≡◌, false, take}
use Rattle.std.specs.List.{list_any}
use Rattle.cx_prim.specs.Table.{row_of}
use Rattle.cx_prim.specs.Rows.{is_plain_side}
use Rattle.cx_share.proofs.kinds.has_plain.Given as goal

-- none so far is one
abbrev pub invariant-loop-port : goal.invariant-loop-port
invariant-loop-port l = list_any (λ port. is_plain_side port.side) (take l.port (row_of l.primitive).ports) ≡ false
