use Rattle.std.proofs.Common.{◌≡◌, ◌++◌, drop, map}
use Rattle.cx_design.specs.PlainForms.{plain_statement}
use Rattle.cx_flat.specs.Callers.{kids_in, part_of}
use Rattle.cx_flat.specs.Controls.{inlined_at, statement_by}
use Rattle.cx_flat.specs.Stands.{own_by}
use Rattle.cx_flat.proofs.control.+statement.Given as goal

-- the statements so far, and the flat forms of those that are left, are all
abbrev pub invariant-flat_parts_again-loop-statement : goal.invariant-flat_parts_again-loop-statement
invariant-flat_parts_again-loop-statement l =
    map plain_statement l.all.items ++ map (statement_by (own_by l.caller.stands.now) (inlined_at (kids_in l.caller) (part_of l.caller))) (map plain_statement (drop l.statement-index l.parts))
    ≡ map (statement_by (own_by l.caller.stands.now) (inlined_at (kids_in l.caller) (part_of l.caller))) (map plain_statement l.parts)
