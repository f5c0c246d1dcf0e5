-- The terminals of the grammar: what it sees of a token.
use Rattle.std.specs.Prelude.{ℕ, ◌==◌, Bool, false, List, [], ◌∷◌, Option, Some, None, codes, if◌then◌else◌}
use Rattle.std.specs.Cmp.Lexicographic.{pointwise}
use Rattle.std.specs.List.{list_any}
use Rattle.cx_ast.specs.declared.signs.Sign.{Sign}
use Rattle.cx_ast.specs.declared.signs.Sign.TheVariants as signs
use Rattle.cx_ast.specs.declared.tokens.Token.{Token}
use Rattle.cx_ast.specs.declared.tokens.TokenKind.{TokenKind}
use Rattle.cx_ast.specs.declared.tokens.TokenKind.TheVariants as kinds
use Rattle.cx_grammar.specs.declared.terminals.Terminal.{Terminal}
use Rattle.cx_grammar.specs.declared.terminals.Terminal.TheVariants.{Import, Component, Cells, Wires, Control, Group, Comb, Static, Seq, Par, If, Else, While, Repeat, Invoke, With, Ref, Name, Number, Literal, Text, OpenBrace, CloseBrace, OpenParen, CloseParen, OpenBracket, CloseBracket, Less, Greater, Semicolon, Colon, Comma, Dot, Equal, Question, Not, And, Or, At, Percent, EqualEqual, NotEqual, LessEqual, GreaterEqual, Arrow}

-- a reserved word's terminal; every other word is a name
abbrev pub word_terminal : List ℕ → Terminal
word_terminal word =
    if pointwise ◌==◌ word (codes "import") then Import else (
    if pointwise ◌==◌ word (codes "component") then Component else (
    if pointwise ◌==◌ word (codes "cells") then Cells else (
    if pointwise ◌==◌ word (codes "wires") then Wires else (
    if pointwise ◌==◌ word (codes "control") then Control else (
    if pointwise ◌==◌ word (codes "group") then Group else (
    if pointwise ◌==◌ word (codes "comb") then Comb else (
    if pointwise ◌==◌ word (codes "static") then Static else (
    if pointwise ◌==◌ word (codes "seq") then Seq else (
    if pointwise ◌==◌ word (codes "par") then Par else (
    if pointwise ◌==◌ word (codes "if") then If else (
    if pointwise ◌==◌ word (codes "else") then Else else (
    if pointwise ◌==◌ word (codes "while") then While else (
    if pointwise ◌==◌ word (codes "repeat") then Repeat else (
    if pointwise ◌==◌ word (codes "invoke") then Invoke else (
    if pointwise ◌==◌ word (codes "with") then With else (
    if pointwise ◌==◌ word (codes "ref") then Ref else (
    Name)))))))))))))))))

abbrev pub sign_terminal : Sign → Terminal
sign_terminal signs.OpenBrace = OpenBrace
sign_terminal signs.CloseBrace = CloseBrace
sign_terminal signs.OpenParen = OpenParen
sign_terminal signs.CloseParen = CloseParen
sign_terminal signs.OpenBracket = OpenBracket
sign_terminal signs.CloseBracket = CloseBracket
sign_terminal signs.Less = Less
sign_terminal signs.Greater = Greater
sign_terminal signs.Semicolon = Semicolon
sign_terminal signs.Colon = Colon
sign_terminal signs.Comma = Comma
sign_terminal signs.Dot = Dot
sign_terminal signs.Equal = Equal
sign_terminal signs.Question = Question
sign_terminal signs.Not = Not
sign_terminal signs.And = And
sign_terminal signs.Or = Or
sign_terminal signs.At = At
sign_terminal signs.Percent = Percent
sign_terminal signs.EqualEqual = EqualEqual
sign_terminal signs.NotEqual = NotEqual
sign_terminal signs.LessEqual = LessEqual
sign_terminal signs.GreaterEqual = GreaterEqual
sign_terminal signs.Arrow = Arrow

abbrev pub terminal_of : TokenKind → Terminal
terminal_of (kinds.Word word) = word_terminal word
terminal_of (kinds.Number n) = Number
terminal_of (kinds.Literal width value) = Literal
terminal_of (kinds.Text bytes) = Text
terminal_of (kinds.Sign sign) = sign_terminal sign

-- the terminal of the next token
abbrev pub peek_at : List Token → Option Terminal
peek_at [] = None
peek_at (t ∷ ts) = Some (terminal_of t.kind)

-- each terminal has a number of its own
abbrev pub number_of : Terminal → ℕ
number_of Import = 0
number_of Component = 1
number_of Cells = 2
number_of Wires = 3
number_of Control = 4
number_of Group = 5
number_of Comb = 6
number_of Static = 7
number_of Seq = 8
number_of Par = 9
number_of If = 10
number_of Else = 11
number_of While = 12
number_of Repeat = 13
number_of Invoke = 14
number_of With = 15
number_of Ref = 16
number_of Name = 17
number_of Number = 18
number_of Literal = 19
number_of Text = 20
number_of OpenBrace = 21
number_of CloseBrace = 22
number_of OpenParen = 23
number_of CloseParen = 24
number_of OpenBracket = 25
number_of CloseBracket = 26
number_of Less = 27
number_of Greater = 28
number_of Semicolon = 29
number_of Colon = 30
number_of Comma = 31
number_of Dot = 32
number_of Equal = 33
number_of Question = 34
number_of Not = 35
number_of And = 36
number_of Or = 37
number_of At = 38
number_of Percent = 39
number_of EqualEqual = 40
number_of NotEqual = 41
number_of LessEqual = 42
number_of GreaterEqual = 43
number_of Arrow = 44

abbrev pub is : Terminal → Terminal → Bool
is t u = number_of t == number_of u

-- the terminal is one of the set
abbrev pub is_in : Terminal → List Terminal → Bool
is_in t set = list_any (is t) set

-- the next token's terminal is one of the set
abbrev pub is_next : Option Terminal → List Terminal → Bool
is_next None set = false
is_next (Some t) set = is_in t set

abbrev pub begins : List Terminal → List Token → Bool
begins set ts = is_next (peek_at ts) set
