use Rattle.std.proofs.Common.{◌≡◌, [], ◌++◌, drop, map}
use Rattle.cx_vtree.specs.PlainParts.{plain_assign}
use Rattle.cx_emit.specs.Sources.{output_assign}
use Rattle.cx_emit.specs.Numbered.{numbered_from}
use Rattle.cx_emit.proofs.driven.undriven_outputs.Given as goal

-- those so far, and those that are left, are all
abbrev pub invariant-loop-number : goal.invariant-loop-number
invariant-loop-number l =
    map plain_assign l.driven.items ++ numbered_from (output_assign []) l.number (drop l.number l.outputs)
    ≡ numbered_from (output_assign []) 0 l.outputs
