use Rattle.std.proofs.Common.{◌≡◌, ◌++◌, drop, map}
use Rattle.cx_ast.specs.PlainStatements.{plain_statement}
use Rattle.cx_copies.proofs.copies.copied_statements.Given as goal

-- the copies so far, and those of what is left, are all
abbrev pub invariant-loop-statement : goal.invariant-loop-statement
invariant-loop-statement l = map plain_statement l.copies.items ++ map plain_statement (drop l.statement-index l.statements) ≡ map plain_statement l.statements
