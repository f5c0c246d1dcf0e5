-- What it means that a text is appended which is read as an equal tree.
use Rattle.std.specs.Prelude.{◌≡◌, ℕ, List, ◌++◌}
use Rattle.cx_ast.specs.declared.tokens.Token.{Token}
use Rattle.cx_ast.specs.PlainTokens.{kinds_of}
use Rattle.cx_ast.specs.PlainTree.{PlainTree}
use Rattle.cx_lex.specs.Lex.{Lex}
use Rattle.cx_grammar.specs.Parsing.{Parse}
use Rattle.cx_print.specs.Pieces.{tokens_of}
use Rattle.cx_print.specs.Places.{without_places}

-- what is appended is a text whose tokens are read as a tree that is equal apart from places
pub record AppendsTree (tree : PlainTree) (old new : List ℕ) : Type 0 where
  pub text : List ℕ
  pub tokens : List Token
  pub again : PlainTree
  pub appended : new ≡ old ++ text
  pub lexed : Lex text tokens
  pub same : kinds_of tokens ≡ tokens_of tree
  pub parsed : Parse tokens again
  pub equal : without_places again ≡ without_places tree
