-- A statement with the statements in it.
use Rattle.std.specs.Prelude.{List, ◌∷◌}
use Rattle.cx_ast.specs.PlainStatements.{PlainStatement, Placed}
use Rattle.cx_numbering.specs.NameRules.{Visited, visit_parts}

abbrev pub visit_statement : PlainStatement → List Visited
visit_statement (Placed attributes form place) = record { form = form; place = place } ∷ visit_parts form
