use Rattle.std.proofs.Common.{◌≡◌, ◌++◌, drop, map}
use Rattle.cx_design.specs.PlainForms.{plain_statement}
use Rattle.cx_flattening.specs.Copies.{copied_statement}
use Rattle.cx_design_copies.proofs.control.+statement.Given as goal

-- the statements so far, and copies of those that are left, are all
abbrev pub invariant-copied_parts-loop-statement : goal.invariant-copied_parts-loop-statement
invariant-copied_parts-loop-statement g l =
    map plain_statement l.all.items ++ map (copied_statement (g.M.PortMoves.moving l.moves) (g.G.GroupMoves.numbering l.groups)) (map plain_statement (drop l.statement-index l.parts))
    ≡ map (copied_statement (g.M.PortMoves.moving l.moves) (g.G.GroupMoves.numbering l.groups)) (map plain_statement l.parts)
