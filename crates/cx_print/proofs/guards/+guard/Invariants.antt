use Rattle.std.proofs.Common.{◌≡◌, false, drop}
use Rattle.cx_ast.specs.PlainGuards.{plain_guards, guards_of}
use Rattle.cx_print.specs.Pieces.{add_parts}
use Rattle.cx_print.proofs.guards.+guard.Given as goal

abbrev pub invariant-joined-loop-part : goal.invariant-joined-loop-part
invariant-joined-loop-part l = add_parts l.binding l.between l.is_behind (guards_of (plain_guards (drop l.part-index l.parts))) l.gap l.out.items ≡ add_parts l.binding l.between false (guards_of (plain_guards l.parts)) l.initial.gap l.initial.out.items
