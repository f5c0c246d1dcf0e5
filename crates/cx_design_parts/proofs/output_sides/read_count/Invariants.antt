use Rattle.std.proofs.Common.{◌≡◌, ◌+◌, drop}
use Rattle.cx_prim.specs.Table.{row_of}
use Rattle.cx_design_parts.specs.Outputs.{read_count}
use Rattle.cx_design_parts.proofs.output_sides.read_count.Given as goal

-- the ports so far are read
abbrev pub invariant-loop-port : goal.invariant-loop-port
invariant-loop-port l = let ports = (row_of l.primitive).ports in l.port + read_count (drop l.port ports) ≡ read_count ports
