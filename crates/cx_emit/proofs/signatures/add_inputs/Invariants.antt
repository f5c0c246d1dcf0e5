use Rattle.std.proofs.Common.{◌≡◌, ◌++◌, drop, map}
use Rattle.cx_vtree.specs.PlainParts.{plain_port}
use Rattle.cx_emit.specs.Signatures.{input_port}
use Rattle.cx_emit.specs.Numbered.{numbered_from}
use Rattle.cx_emit.proofs.signatures.add_inputs.Given as goal

-- those so far, and those that are left, are all
abbrev pub invariant-loop-number : goal.invariant-loop-number
invariant-loop-number l =
    map plain_port l.ports.items ++ numbered_from input_port l.number (drop l.number l.inputs)
    ≡ map plain_port l.initial.ports.items ++ numbered_from input_port 0 l.inputs
