use Rattle.std.proofs.Common.{◌≡◌, ◌++◌, drop, map}
use Rattle.cx_ast.specs.PlainStatements.{plain_statement}
use Rattle.cx_copies.specs.Naming.{named_statement}
use Rattle.cx_copies.proofs.control.+control.Given as goal

-- those so far, and those of what is left, are all
abbrev pub invariant-named_statements-loop-statement : goal.invariant-named_statements-loop-statement
invariant-named_statements-loop-statement g l = map plain_statement l.named.items ++ map (named_statement (g.N.CellNames.renaming l.names)) (map plain_statement (drop l.statement-index l.statements)) ≡ map (named_statement (g.N.CellNames.renaming l.names)) (map plain_statement l.statements)
