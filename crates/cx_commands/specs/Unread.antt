-- What is refused in a text before any of its names is looked up: the first token that cannot be read, or the first place
-- at which its tokens are no file.
use Rattle.std.specs.Prelude.{◌≡◌, ℕ, List, [], ◌∷◌, Option, Some, None}
use Rattle.cx_text.specs.declared.diagnostics.Diagnostic.{Diagnostic}
use Rattle.cx_text.specs.declared.places.Place.{Place}
use Rattle.cx_text.specs.declared.rules.Rule.{Rule}
use Rattle.cx_text.specs.declared.rules.Rule.TheVariants as rules
use Rattle.cx_ast.specs.declared.tokens.Token.{Token}
use Rattle.cx_ast.specs.PlainTree.{PlainTree}
use Rattle.cx_lex.specs.declared.faults.LexFault.{LexFault}
use Rattle.cx_lex.specs.declared.faults.LexKind.{LexKind}
use Rattle.cx_lex.specs.declared.faults.LexKind.TheVariants as lexical
use Rattle.cx_lex.specs.Lex.{Lex, FirstFault}
use Rattle.cx_grammar.specs.Calyx.{word_of}
use Rattle.cx_grammar.specs.Parsing.{Parse, IsUnexpected, IsDeep}
use Rattle.cx_parse.specs.Whole.{place_at}
use Rattle.cx_commands.specs.declared.stops.Stop.{Stop}
use Rattle.cx_commands.specs.Stopping.{TellsBreak}

-- the rule of a token that cannot be read
abbrev pub rule_of : LexKind → Option Rule
rule_of lexical.BadByte = Some rules.BadByte
rule_of lexical.OpenComment = Some rules.OpenComment
rule_of lexical.OpenString = Some rules.OpenString
rule_of lexical.BadLiteral = Some rules.BadLiteral
rule_of lexical.Memory = None

-- the name that is told of an unexpected token; the end has none
abbrev pub name_at : List Token → List ℕ
name_at [] = []
name_at (t ∷ ts) = word_of t.kind

-- the tokens are no file for this reason
pub data TokensFault : List Token → Diagnostic → Type 0 where
  unexpected : (tokens front back : List Token) → IsUnexpected tokens front back
      → TokensFault tokens
      (record { rule = rules.Unexpected; place = place_at back tokens; name = name_at back })
  too_deep : (tokens front back : List Token) → IsDeep tokens front back
      → TokensFault tokens (record { rule = rules.TooDeep; place = place_at back tokens; name = [] })

-- the text has no tree for this reason
pub data StageOneFault : List ℕ → Diagnostic → Type 0 where
  no_tokens : (text : List ℕ) (kind : LexKind) (rule : Rule) (place : Place) → FirstFault text kind place
      → rule_of kind ≡ Some rule → StageOneFault text (record { rule = rule; place = place; name = [] })
  no_tree : (text : List ℕ) (tokens : List Token) (fault : Diagnostic) → Lex text tokens
      → TokensFault tokens fault → StageOneFault text fault

-- the text has this tree
abbrev pub HasTree : List ℕ → PlainTree → Type 0
HasTree text tree = (tokens : List Token) × Lex text tokens × Parse tokens tree

-- what is told of a token that cannot be read
abbrev pub IsNoToken : LexFault → Stop → Type 0
IsNoToken fault stop =
    TellsBreak (λ told. (rule : Rule) × (rule_of fault.kind ≡ Some rule)
    × (told ≡ record { rule = rule; place = fault.place; name = [] })) stop

-- what is told of tokens that are no file
abbrev pub IsNoFile : List Token → Stop → Type 0
IsNoFile tokens stop = TellsBreak (TokensFault tokens) stop

-- what is told of a text without a tree
abbrev pub IsNoTree : List ℕ → Stop → Type 0
IsNoTree text stop = TellsBreak (StageOneFault text) stop

-- the text has a tree
abbrev pub IsRead : List ℕ → Type 0
IsRead text = (tree : PlainTree) × HasTree text tree
