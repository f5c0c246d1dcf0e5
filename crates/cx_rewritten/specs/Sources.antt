-- Trees of texts.
use Rattle.std.specs.Prelude.{ℕ, List}
use Rattle.cx_ast.specs.declared.tokens.Token.{Token}
use Rattle.cx_ast.specs.PlainTree.{PlainTree}
use Rattle.cx_lex.specs.Lex.{Lex}
use Rattle.cx_grammar.specs.Parsing.{Parse}

-- some text has this tree
abbrev pub IsTreeOfText : PlainTree → Type 0
IsTreeOfText tree = (text : List ℕ) × (tokens : List Token) × Lex text tokens × Parse tokens tree
