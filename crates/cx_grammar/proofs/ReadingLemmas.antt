-- Facts of what `Reading` defines, that several crates above take.
use Rattle.std.proofs.Common.{◌≡◌, List, Ok, Err}
use Rattle.cx_ast.specs.declared.tokens.Token.{Token}
use Rattle.cx_ast.specs.PlainTree.{PlainTree}
use Rattle.cx_grammar.specs.Reading.{Stop, Reads}

pub ok_not_err : (x : PlainTree × List Token) (s : Stop) → (let r : Reads PlainTree = Ok x in r ≡ Err s) → ⊥
ok_not_err x s e = cc
