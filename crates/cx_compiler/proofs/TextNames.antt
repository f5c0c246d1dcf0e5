-- The names of the cells and of the ports of a text are words: none is empty, and none holds a point.
use Rattle.std.proofs.Common.{◌≡◌, ℕ, zero, suc, ◌&&◌, true, false, List, [], ◌∷◌, length, ◌⊎◌, inl, inr, true≢false, refl, sym, ◌∙◌, subst}
use Rattle.std.specs.Prelude.{nat_le}
use Rattle.std.specs.List.{list_all}
use Rattle.std.proofs.lemmas.Bool.{and_from, or_left, le-leb}
use Rattle.cx_text.proofs.MemberLaws.{each_in}
use Rattle.cx_text.specs.declared.places.Place.{Place}
use Rattle.cx_ast.specs.declared.signs.Sign.{Sign}
use Rattle.cx_ast.specs.declared.signs.Sign.TheVariants as signs
use Rattle.cx_ast.specs.declared.tokens.Token.{Token}
use Rattle.cx_ast.specs.declared.tokens.TokenKind.{TokenKind}
use Rattle.cx_ast.specs.declared.tokens.TokenKind.TheVariants as kinds
use Rattle.cx_ast.specs.PlainTree.{PlainTree, PlainComponent, PlainCell, PlainPort}
use Rattle.cx_lex.specs.Lex.{IsToken, name, number, literal, string, sign, HasTokens, ended, gap, token}
use Rattle.cx_grammar.specs.declared.terminals.Terminal.{Terminal}
use Rattle.cx_grammar.specs.declared.terminals.Terminal.TheVariants as t
use Rattle.cx_grammar.specs.Terminals.{sign_terminal, terminal_of, is_in}
use Rattle.cx_grammar.specs.Grammar.{Nest, Nested, Grammar, Empty, One, Pair, Choice, Several, Commas, Deeper, Spelling, Spells, Several_of, Commas_of, IsComma}
use Rattle.cx_grammar.specs.Calyx as calyx
use Rattle.cx_grammar.specs.Calyx.{named, behind, before, within, pair, many, marks, attributes, cell_kind, cell_of, cell, cell_list, cells, wires_part, control, body, port_of, port, some_ports, ports, outputs, signature, component_word, component_of, component, components, imports, file, nest, spelled_within}
use Rattle.cx_grammar.specs.Parsing.{Parse}
use Rattle.cx_text.specs.Members.{Each, In}
use Rattle.cx_names.proofs.Giving.{Asks, Gives, anything, gives_empty, gives_one, gives_pair, gives_choice, gives_many, gives_commas, gives_first, gives_second, gives_left, gives_right, gives_behind, gives_within}
use Rattle.cx_vtree.specs.Layout.{is_letter, begins_word, is_name_byte, is_word}
use Rattle.cx_commands.specs.Unread.{HasTree}

-- TOKENS: each that is a word is a word of the subset
abbrev IsWordKind : TokenKind → Type 0
IsWordKind (kinds.Word word) = is_word word ≡ true
IsWordKind (kinds.Number n) = Unit {0}
IsWordKind (kinds.Literal width value) = Unit {0}
IsWordKind (kinds.Text bytes) = Unit {0}
IsWordKind (kinds.Sign s) = Unit {0}

abbrev AreWords : List Token → Type 0
AreWords [] = Unit {0}
AreWords (x ∷ ts) = IsWordKind x.kind × AreWords ts

pub kind_word : {bytes rest : List ℕ} {kind : TokenKind} → IsToken bytes rest kind → IsWordKind kind
kind_word (name {first = first} {more = more} w short) =
    let letter : is_letter first ≡ true = w.begins in
    let each : list_all is_name_byte (first ∷ more) ≡ true = and_from (is_name_byte first) (list_all is_name_byte more) (or_left (is_letter first) (nat_le 48 first && nat_le first 57) letter) w.each in
    and_from (begins_word (first ∷ more) && list_all is_name_byte (first ∷ more)) (nat_le (length (first ∷ more)) 255)
    (and_from (begins_word (first ∷ more)) (list_all is_name_byte (first ∷ more)) letter each) (le-leb (length (first ∷ more)) 255 short)
kind_word (number numeral fits stop) = tt
kind_word (literal width letter base digits wide width_fits eb numeral fits stop) = tt
kind_word (string bytes each short) = tt
kind_word (sign s longest) = tt

pub tokens_words : {place : Place} {text : List ℕ} {tokens : List Token} → HasTokens place text tokens → AreWords tokens
tokens_words ended = tt
tokens_words (gap bytes rest g more) = tokens_words more
tokens_words (token bytes rest kind is more) = (kind_word is, tokens_words more)

-- PARTS of a text
abbrev IsNamed : calyx.Named → Type 0
IsNamed n = is_word n.0 ≡ true

abbrev IsCell : PlainCell → Type 0
IsCell c = is_word c.name ≡ true

abbrev IsPort : PlainPort → Type 0
IsPort p = is_word p.name ≡ true

-- of a component: its cells, its inputs and its outputs
pub record HasWords (part : PlainComponent) : Type 0 where
  pub cells : Each IsCell part.cells
  pub inputs : Each IsPort part.inputs
  pub outputs : Each IsPort part.outputs

-- a token that stands for a name is a word
pub no_sign : (s : Sign) → is_in (sign_terminal s) (t.Name ∷ []) ≡ false
no_sign signs.OpenBrace = refl
no_sign signs.CloseBrace = refl
no_sign signs.OpenParen = refl
no_sign signs.CloseParen = refl
no_sign signs.OpenBracket = refl
no_sign signs.CloseBracket = refl
no_sign signs.Less = refl
no_sign signs.Greater = refl
no_sign signs.Semicolon = refl
no_sign signs.Colon = refl
no_sign signs.Comma = refl
no_sign signs.Dot = refl
no_sign signs.Equal = refl
no_sign signs.Question = refl
no_sign signs.Not = refl
no_sign signs.And = refl
no_sign signs.Or = refl
no_sign signs.At = refl
no_sign signs.Percent = refl
no_sign signs.EqualEqual = refl
no_sign signs.NotEqual = refl
no_sign signs.LessEqual = refl
no_sign signs.GreaterEqual = refl
no_sign signs.Arrow = refl

pub name_word : (x : Token) → IsWordKind x.kind → is_in (terminal_of x.kind) (t.Name ∷ []) ≡ true → is_word (calyx.word_of x.kind) ≡ true
name_word x h e = by x.kind h e
  where
    by : (kind : TokenKind) → IsWordKind kind → is_in (terminal_of kind) (t.Name ∷ []) ≡ true → is_word (calyx.word_of kind) ≡ true
    by (kinds.Word word) h e = h
    by (kinds.Number n) h e = absurd (true≢false (sym e))
    by (kinds.Literal width value) h e = absurd (true≢false (sym e))
    by (kinds.Text bytes) h e = absurd (true≢false (sym e))
    by (kinds.Sign s) h e = absurd (true≢false (sym e ∙ no_sign s))

-- the tokens that are words are words of the subset, and so are those of the tokens behind a part
module _ (spelled : (n : Nest) → Spelling (Nested n)) (deep : (n : Nest) (ts : List Token) (x : Nested n) (rest : List Token) → AreWords ts → spelled n ts x rest → AreWords rest) where
  abbrev asks : Asks
  asks = record { Kept = AreWords; spelled = spelled; less = λ x ts w. w.1; deep = deep }

  names_words : Gives asks calyx.name IsNamed
  names_words = gives_one asks (t.Name ∷ []) named IsNamed (λ x rest w e. name_word x w.0 e)

  is_cell : Gives asks cell IsCell
  unfolding cell
  is_cell =
      gives_second asks cell_of attributes (pair calyx.name (pair marks (behind t.Equal cell_kind))) (λ v. IsNamed v.0) IsCell
      (gives_left asks calyx.name (pair marks (behind t.Equal cell_kind)) IsNamed names_words) (λ attrs v h. h)

  are_cells : Gives asks cells (Each IsCell)
  unfolding cells cell_list
  are_cells = gives_behind asks t.Cells (within t.OpenBrace cell_list t.CloseBrace) (Each IsCell) (gives_within asks t.OpenBrace cell_list t.CloseBrace (Each IsCell) (gives_many asks cell IsCell is_cell))

  bodied : Gives asks body (λ b. Each IsCell b.0)
  unfolding body
  bodied =
      gives_behind asks t.OpenBrace (pair cells (pair wires_part (before control t.CloseBrace))) (λ b. Each IsCell b.0)
      (gives_left asks cells (pair wires_part (before control t.CloseBrace)) (Each IsCell) are_cells)

  is_port : Gives asks port IsPort
  unfolding port
  is_port =
      gives_second asks port_of attributes (pair calyx.name (behind t.Colon calyx.number)) (λ v. IsNamed v.0) IsPort
      (gives_left asks calyx.name (behind t.Colon calyx.number) IsNamed names_words) (λ attrs v h. h)

  are_ports : Gives asks ports (Each IsPort)
  unfolding ports some_ports
  are_ports =
      gives_within asks t.OpenParen some_ports t.CloseParen (Each IsPort)
      (gives_choice asks (Commas (λ ps. ps) port) (Empty []) (Each IsPort) (gives_commas asks (λ ps. ps) port IsPort (Each IsPort) is_port (λ x xs h. h)) (gives_empty asks [] (Each IsPort) tt))

  are_outputs : Gives asks outputs (Each IsPort)
  unfolding outputs
  are_outputs = gives_choice asks (behind t.Arrow ports) (Empty []) (Each IsPort) (gives_behind asks t.Arrow ports (Each IsPort) are_ports) (gives_empty asks [] (Each IsPort) tt)

  abbrev HasPorts : List PlainPort × List PlainPort → Type 0
  HasPorts both = Each IsPort both.0 × Each IsPort both.1

  signed : Gives asks signature (λ s. HasPorts s.1.1)
  unfolding signature
  signed =
      gives_right asks calyx.name (pair marks (pair ports outputs)) (λ v. HasPorts v.1)
      (gives_right asks marks (pair ports outputs) HasPorts (gives_pair asks (λ a b. (a, b)) ports outputs (Each IsPort) (Each IsPort) HasPorts are_ports are_outputs (λ x y p q. (p, q))))

  is_component : Gives asks component HasWords
  unfolding component
  is_component =
      gives_second asks component_of attributes (pair component_word (pair signature body)) (λ v. HasPorts v.1.0.1.1 × Each IsCell v.1.1.0) HasWords
      (gives_right asks component_word (pair signature body) (λ v. HasPorts v.0.1.1 × Each IsCell v.1.0)
      (gives_pair asks (λ a b. (a, b)) signature body (λ s. HasPorts s.1.1) (λ b. Each IsCell b.0) (λ v. HasPorts v.0.1.1 × Each IsCell v.1.0) signed bodied (λ x y p q. (p, q))))
      (λ attrs v h. record { cells = h.1; inputs = h.0.0; outputs = h.0.1 })

  are_components : Gives asks components (Each HasWords)
  unfolding components
  are_components = gives_many asks component HasWords is_component

  is_file : Gives asks file (λ tree. Each HasWords tree.components)
  unfolding file
  is_file =
      gives_second asks (λ is cs. record { imports = is; components = cs }) imports (Pair (λ c cs. c ∷ cs) component components) (Each HasWords) (λ tree. Each HasWords tree.components)
      (gives_pair asks (λ c cs. c ∷ cs) component components HasWords (Each HasWords) (Each HasWords) is_component are_components (λ c cs h k. (h, k)))
      (λ is cs h. h)

words_within : (levels : ℕ) (n : Nest) (ts : List Token) (x : Nested n) (rest : List Token) → AreWords ts → spelled_within levels n ts x rest → AreWords rest
words_within zero n ts x rest w s = absurd s
words_within (suc levels) n ts x rest w s = (anything (asks (spelled_within levels) (words_within levels)) (nest n) ts x rest w s).1

-- EACH COMPONENT of a text: the names of its cells and of its ports are words
pub parts_named : (text : List ℕ) (tree : PlainTree) → HasTree text tree → (part : PlainComponent) → In tree.components part → HasWords part
unfolding Parse
parts_named text tree h part i =
    let all = (is_file (spelled_within 64) (words_within 64) h.0 tree [] (tokens_words h.1) h.2).0 in
    each_in HasWords tree.components part all i

pub cells_named : (text : List ℕ) (tree : PlainTree) → HasTree text tree → (part : PlainComponent) → In tree.components part → (c : PlainCell) → In part.cells c → is_word c.name ≡ true
cells_named text tree h part i c j = each_in IsCell part.cells c (parts_named text tree h part i).cells j

pub inputs_named : (text : List ℕ) (tree : PlainTree) → HasTree text tree → (part : PlainComponent) → In tree.components part → (p : PlainPort) → In part.inputs p → is_word p.name ≡ true
inputs_named text tree h part i p j = each_in IsPort part.inputs p (parts_named text tree h part i).inputs j

pub outputs_named : (text : List ℕ) (tree : PlainTree) → HasTree text tree → (part : PlainComponent) → In tree.components part → (p : PlainPort) → In part.outputs p → is_word p.name ≡ true
outputs_named text tree h part i p j = each_in IsPort part.outputs p (parts_named text tree h part i).outputs j
