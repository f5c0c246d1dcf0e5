use Rattle.std.proofs.Common.{◌≡◌, ◌++◌, drop, map}
use Rattle.cx_vtree.specs.PlainParts.{plain_port}
use Rattle.cx_emit.specs.Signatures.{output_port}
use Rattle.cx_emit.specs.Numbered.{numbered_from}
use Rattle.cx_emit.proofs.signatures.add_outputs.Given as goal

-- those so far, and those that are left, are all
abbrev pub invariant-loop-number : goal.invariant-loop-number
invariant-loop-number l =
    map plain_port l.ports.items ++ numbered_from output_port l.number (drop l.number l.outputs)
    ≡ map plain_port l.initial.ports.items ++ numbered_from output_port 0 l.outputs
