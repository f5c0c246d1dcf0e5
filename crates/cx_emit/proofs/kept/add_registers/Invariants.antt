use Rattle.std.proofs.Common.{◌≡◌, ◌++◌, drop, map}
use Rattle.cx_vtree.specs.PlainParts.{plain_decl}
use Rattle.cx_emit.specs.Sources.{register_decl}
use Rattle.cx_emit.specs.Numbered.{numbered_from}
use Rattle.cx_emit.proofs.kept.add_registers.Given as goal

-- those so far, and those that are left, are all
abbrev pub invariant-loop-number : goal.invariant-loop-number
invariant-loop-number l =
    map plain_decl l.decls.items ++ numbered_from register_decl l.number (drop l.number l.widths)
    ≡ map plain_decl l.initial.decls.items ++ numbered_from register_decl 0 l.widths
