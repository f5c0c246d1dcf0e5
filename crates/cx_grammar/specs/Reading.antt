-- Reading a grammar from the left, with one token of lookahead: the value and the tokens behind it, or where reading stops.
use Rattle.std.specs.Prelude.{ℕ, zero, suc, Bool, true, false, ◌&&◌, not, List, [], ◌∷◌, length, Result, Ok, Err, if◌then◌else◌}
use Rattle.std.specs.List.{list_all}
use Rattle.cx_ast.specs.declared.tokens.Token.{Token}
use Rattle.cx_grammar.specs.declared.terminals.Terminal.{Terminal}
use Rattle.cx_grammar.specs.declared.terminals.Terminal.TheVariants.{Comma}
use Rattle.cx_grammar.specs.Terminals.{terminal_of, is_in, begins}
use Rattle.cx_grammar.specs.Grammar.{Nest, Nested, Grammar, Empty, One, Pair, Choice, Several, Commas, Deeper, starts, nullable, goes_on}

pub data Why : Type 0 where
  Unexpected : Why
  TooDeep : Why

-- why reading stops, and how many tokens are left from the one on at which it does
pub record Stop : Type 0 where
  pub why : Why
  pub left : ℕ

abbrev pub unexpected : List Token → Stop
unexpected ts = record { why = Unexpected; left = length ts }

abbrev pub too_deep : List Token → Stop
too_deep ts = record { why = TooDeep; left = length ts }

abbrev pub Reads : Type 0 → Type 0
Reads A = Result (A × List Token) Stop

abbrev pub then_reads : {A B : Type 0} → Reads A → (A → List Token → Reads B) → Reads B
then_reads (Ok x) f = f x.0 x.1
then_reads (Err stop) f = Err stop

abbrev pub one_at : {A : Type 0} → List Terminal → (Token → A) → List Token → Reads A
one_at set value [] = Err (unexpected [])
one_at set value (t ∷ ts) = if is_in (terminal_of t.kind) set then Ok (value t, ts) else Err (unexpected (t ∷ ts))

-- one text after another, as long as the next token begins one; n texts at most
abbrev pub several_in : {A : Type 0} → (List Token → Reads A) → List Terminal → ℕ → List Token → Reads (List A)
several_in read set zero ts = Ok ([], ts)
several_in read set (suc n) ts =
    if begins set ts then then_reads (read ts)
    (λ x mid. then_reads (several_in read set n mid) (λ xs rest. Ok (x ∷ xs, rest))) else Ok ([], ts)

-- each text takes a token at least
unfoldable pub several_at : {A : Type 0} → (List Token → Reads A) → List Terminal → List Token → Reads (List A)
several_at read set ts = several_in read set (length ts) ts

-- what follows a text in a list with commas: the others, n at most
abbrev pub commas_in : {A : Type 0} → (List Token → Reads A) → List Terminal → ℕ → List Token → Reads (List A)
commas_in read set zero ts = Ok ([], ts)
commas_in read set (suc n) [] = Ok ([], [])
commas_in read set (suc n) (t ∷ ts) =
    if is_in (terminal_of t.kind) (Comma ∷ [])
    then (if begins set ts then then_reads (read ts)
    (λ x mid. then_reads (commas_in read set n mid) (λ xs rest. Ok (x ∷ xs, rest))) else Ok ([], ts))
    else Ok ([], t ∷ ts)

unfoldable pub commas_at : {A : Type 0} → (List Token → Reads A) → List Terminal → List Token → Reads (List A)
commas_at read set ts = commas_in read set (length ts) ts

abbrev pub read : {A : Type 0} → ((n : Nest) → List Token → Reads (Nested n)) → Grammar A → List Token → Reads A
read nested (Empty x) ts = Ok (x, ts)
read nested (One set value) ts = one_at set value ts
read nested (Pair join g h) ts =
    then_reads (read nested g ts) (λ x mid. then_reads (read nested h mid) (λ y rest. Ok (join x y, rest)))
read nested (Choice g h) ts = if begins (starts g) ts then read nested g ts else read nested h ts
read nested (Several whole g) ts =
    then_reads (several_at (read nested g) (starts g) ts) (λ xs rest. Ok (whole xs, rest))
read nested (Commas whole g) ts =
    then_reads (read nested g ts)
    (λ x mid. then_reads (commas_at (read nested g) (starts g) mid) (λ xs rest. Ok (whole (x ∷ xs), rest)))
read nested (Deeper n) ts = nested n ts

-- no terminal is in both sets
abbrev pub disjoint : List Terminal → List Terminal → Bool
disjoint ts us = list_all (λ t. not (is_in t us)) ts

abbrev pub is_empty : List Terminal → Bool
is_empty [] = true
is_empty (t ∷ ts) = false

-- one token of lookahead tells what to read
abbrev pub is_plain : {A : Type 0} → Grammar A → Bool
is_plain (Empty x) = true
is_plain (One set value) = not (is_empty set)
is_plain (Pair join g h) = is_plain g && (is_plain h && disjoint (goes_on g) (starts h))
is_plain (Choice g h) = is_plain g && (is_plain h && (not (nullable g) && disjoint (starts g) (starts h)))
is_plain (Several whole g) = is_plain g && (not (nullable g) && disjoint (goes_on g) (starts g))
is_plain (Commas whole g) = is_plain g && (not (nullable g) && disjoint (goes_on g) (Comma ∷ []))
is_plain (Deeper n) = true
