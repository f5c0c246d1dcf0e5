-- A text of each grammar.
use Rattle.std.proofs.Common.{◌≡◌, ℕ, suc, Bool, true, false, ◌&&◌, ◌||◌, not, List, [], ◌∷◌, ◌++◌, codes, refl, sym, ap, subst, ◌∙◌, inl, inr, append_assoc}
use Rattle.std.proofs.lemmas.Bool.{and_parts, eq-eqb}
use Rattle.cx_ast.specs.declared.signs.Sign.TheVariants as signs
use Rattle.cx_ast.specs.declared.tokens.Token.{Token}
use Rattle.cx_ast.specs.declared.tokens.TokenKind.{TokenKind}
use Rattle.cx_ast.specs.declared.tokens.TokenKind.TheVariants as kinds
use Rattle.cx_grammar.specs.declared.terminals.Terminal.{Terminal}
use Rattle.cx_grammar.specs.declared.terminals.Terminal.TheVariants.{Import, Component, Cells, Wires, Control, Group, Comb, Static, Seq, Par, If, Else, While, Repeat, Invoke, With, Ref, Name, Number, Literal, Text, OpenBrace, CloseBrace, OpenParen, CloseParen, OpenBracket, CloseBracket, Less, Greater, Semicolon, Colon, Comma, Dot, Equal, Question, Not, And, Or, At, Percent, EqualEqual, NotEqual, LessEqual, GreaterEqual, Arrow}
use Rattle.cx_grammar.specs.Terminals.{terminal_of, number_of, is, is_in}
use Rattle.cx_grammar.specs.Grammar.{Nest, Nested, Grammar, Empty, One, Pair, Choice, Several, Commas, Deeper, Spelling, Spells, starts, nullable, goes_on}
use Rattle.cx_grammar.specs.Calyx.{nest, spelled_within}
use Rattle.cx_grammar.specs.Reading.{is_plain, is_empty, disjoint}
use Rattle.cx_grammar.proofs.Known.{plain_nest, shallow_nest, is_shallow}

-- a token of each terminal
kind_for : Terminal → TokenKind
kind_for Import = kinds.Word (codes "import")
kind_for Component = kinds.Word (codes "component")
kind_for Cells = kinds.Word (codes "cells")
kind_for Wires = kinds.Word (codes "wires")
kind_for Control = kinds.Word (codes "control")
kind_for Group = kinds.Word (codes "group")
kind_for Comb = kinds.Word (codes "comb")
kind_for Static = kinds.Word (codes "static")
kind_for Seq = kinds.Word (codes "seq")
kind_for Par = kinds.Word (codes "par")
kind_for If = kinds.Word (codes "if")
kind_for Else = kinds.Word (codes "else")
kind_for While = kinds.Word (codes "while")
kind_for Repeat = kinds.Word (codes "repeat")
kind_for Invoke = kinds.Word (codes "invoke")
kind_for With = kinds.Word (codes "with")
kind_for Ref = kinds.Word (codes "ref")
kind_for Name = kinds.Word (97 ∷ [])
kind_for Number = kinds.Number 0
kind_for Literal = kinds.Literal 1 0
kind_for Text = kinds.Text []
kind_for OpenBrace = kinds.Sign signs.OpenBrace
kind_for CloseBrace = kinds.Sign signs.CloseBrace
kind_for OpenParen = kinds.Sign signs.OpenParen
kind_for CloseParen = kinds.Sign signs.CloseParen
kind_for OpenBracket = kinds.Sign signs.OpenBracket
kind_for CloseBracket = kinds.Sign signs.CloseBracket
kind_for Less = kinds.Sign signs.Less
kind_for Greater = kinds.Sign signs.Greater
kind_for Semicolon = kinds.Sign signs.Semicolon
kind_for Colon = kinds.Sign signs.Colon
kind_for Comma = kinds.Sign signs.Comma
kind_for Dot = kinds.Sign signs.Dot
kind_for Equal = kinds.Sign signs.Equal
kind_for Question = kinds.Sign signs.Question
kind_for Not = kinds.Sign signs.Not
kind_for And = kinds.Sign signs.And
kind_for Or = kinds.Sign signs.Or
kind_for At = kinds.Sign signs.At
kind_for Percent = kinds.Sign signs.Percent
kind_for EqualEqual = kinds.Sign signs.EqualEqual
kind_for NotEqual = kinds.Sign signs.NotEqual
kind_for LessEqual = kinds.Sign signs.LessEqual
kind_for GreaterEqual = kinds.Sign signs.GreaterEqual
kind_for Arrow = kinds.Sign signs.Arrow

terminal_of-kind_for : (t : Terminal) → terminal_of (kind_for t) ≡ t
unfolding kind_for
terminal_of-kind_for Import = refl
terminal_of-kind_for Component = refl
terminal_of-kind_for Cells = refl
terminal_of-kind_for Wires = refl
terminal_of-kind_for Control = refl
terminal_of-kind_for Group = refl
terminal_of-kind_for Comb = refl
terminal_of-kind_for Static = refl
terminal_of-kind_for Seq = refl
terminal_of-kind_for Par = refl
terminal_of-kind_for If = refl
terminal_of-kind_for Else = refl
terminal_of-kind_for While = refl
terminal_of-kind_for Repeat = refl
terminal_of-kind_for Invoke = refl
terminal_of-kind_for With = refl
terminal_of-kind_for Ref = refl
terminal_of-kind_for Name = refl
terminal_of-kind_for Number = refl
terminal_of-kind_for Literal = refl
terminal_of-kind_for Text = refl
terminal_of-kind_for OpenBrace = refl
terminal_of-kind_for CloseBrace = refl
terminal_of-kind_for OpenParen = refl
terminal_of-kind_for CloseParen = refl
terminal_of-kind_for OpenBracket = refl
terminal_of-kind_for CloseBracket = refl
terminal_of-kind_for Less = refl
terminal_of-kind_for Greater = refl
terminal_of-kind_for Semicolon = refl
terminal_of-kind_for Colon = refl
terminal_of-kind_for Comma = refl
terminal_of-kind_for Dot = refl
terminal_of-kind_for Equal = refl
terminal_of-kind_for Question = refl
terminal_of-kind_for Not = refl
terminal_of-kind_for And = refl
terminal_of-kind_for Or = refl
terminal_of-kind_for At = refl
terminal_of-kind_for Percent = refl
terminal_of-kind_for EqualEqual = refl
terminal_of-kind_for NotEqual = refl
terminal_of-kind_for LessEqual = refl
terminal_of-kind_for GreaterEqual = refl
terminal_of-kind_for Arrow = refl

pub token_for : Terminal → Token
token_for t = record { kind = kind_for t; place = record { line = 1; column = 1 } }

terminal_of-token_for : (t : Terminal) → terminal_of (token_for t).kind ≡ t
unfolding token_for
terminal_of-token_for t = terminal_of-kind_for t

is_same : (t : Terminal) → is t t ≡ true
is_same t = eq-eqb (number_of t) (number_of t) refl

-- a text, whatever follows
pub record Sample {A : Type 0} (spelled : Spelling A) : Type 0 where
  pub tokens : List Token
  pub value : A
  pub free : (more : List Token) → spelled (tokens ++ more) value more

or_parts : (a b c : Bool) → (a || (b && c)) ≡ true → ((a || b) ≡ true) × ((a || c) ≡ true)
or_parts true b c e = (refl, refl)
or_parts false b c e = and_parts b c e

or_none : (a : Bool) → (a || false) ≡ true → a ≡ true
or_none true e = refl
or_none false e = e

pub one_sample : {A : Type 0} (spelled : (n : Nest) → Spelling (Nested n)) (set : List Terminal) (value : Token → A) → not (is_empty set) ≡ true → Sample (Spells spelled (One set value))
one_sample spelled [] value e = absurd (cc)
one_sample spelled (t ∷ set) value e = record {
  tokens = token_for t ∷ [];
  value = value (token_for t);
  free = λ more. (token_for t, refl, ap (λ u. is u t || is_in u set) (terminal_of-token_for t) ∙ ap (λ b. b || is_in t set) (is_same t), refl);
}

-- where nothing nested is needed, or what nests has a text
pub sample : {A : Type 0} (spelled : (n : Nest) → Spelling (Nested n)) (have : Bool) → (have ≡ true → (n : Nest) → Sample (spelled n)) → (g : Grammar A) → is_plain g ≡ true → (have || is_shallow g) ≡ true → Sample (Spells spelled g)
sample spelled have nested (Empty x) p e = record { tokens = []; value = x; free = λ more. (refl, refl) }
sample spelled have nested (One set value) p e = one_sample spelled set value p
sample spelled have nested (Pair join g h) p e =
    let q = and_parts (is_plain g) (is_plain h && disjoint (goes_on g) (starts h)) p in
    let o = and_parts (is_plain h) (disjoint (goes_on g) (starts h)) q.1 in
    let f = or_parts have (is_shallow g) (is_shallow h) e in
    let a = sample spelled have nested g q.0 f.0 in
    let b = sample spelled have nested h o.0 f.1 in
    record {
      tokens = a.tokens ++ b.tokens;
      value = join a.value b.value;
      free = λ more. subst (λ ts. Spells spelled (Pair join g h) ts (join a.value b.value) more) (sym (append_assoc a.tokens b.tokens more)) (b.tokens ++ more, a.value, b.value, a.free (b.tokens ++ more), b.free more, refl);
    }
sample spelled have nested (Choice g h) p e =
    let q = and_parts (is_plain g) (is_plain h && (not (nullable g) && disjoint (starts g) (starts h))) p in
    let o = and_parts (is_plain h) (not (nullable g) && disjoint (starts g) (starts h)) q.1 in
    let b = sample spelled have nested h o.0 e in
    record { tokens = b.tokens; value = b.value; free = λ more. inr (b.free more) }
sample spelled have nested (Several whole g) p e = record { tokens = []; value = whole []; free = λ more. ([], refl, refl) }
sample spelled have nested (Commas whole g) p e =
    let q = and_parts (is_plain g) (not (nullable g) && disjoint (goes_on g) (Comma ∷ [])) p in
    let a = sample spelled have nested g q.0 e in
    record { tokens = a.tokens; value = whole (a.value ∷ []); free = λ more. (a.value, [], (more, a.free more, inl refl), refl) }
sample spelled have nested (Deeper n) p e = nested (or_none have e) n

-- one level is enough for a text of each part that nests
pub nested_sample : (levels : ℕ) (n : Nest) → Sample (spelled_within (suc levels) n)
nested_sample levels n = let s = sample (spelled_within levels) false (λ e. absurd (cc)) (nest n) (plain_nest n) (shallow_nest n) in record { tokens = s.tokens; value = s.value; free = s.free }
