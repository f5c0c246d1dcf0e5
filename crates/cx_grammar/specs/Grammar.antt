-- Grammars as values: what the productions are made of, which tokens a grammar spells, and how it is read from the left.
use Rattle.std.specs.Prelude.{◌≡◌, Bool, true, false, ◌&&◌, ◌||◌, List, [], ◌∷◌, ◌++◌, ◌⊎◌, if◌then◌else◌}
use Rattle.cx_ast.specs.declared.tokens.Token.{Token}
use Rattle.cx_ast.specs.PlainGuards.{PlainGuard}
use Rattle.cx_ast.specs.PlainStatements.{PlainBlock}
use Rattle.cx_grammar.specs.declared.terminals.Terminal.{Terminal}
use Rattle.cx_grammar.specs.declared.terminals.Terminal.TheVariants.{Comma, Not, OpenParen, OpenBrace, Dot, OpenBracket}
use Rattle.cx_grammar.specs.Terminals.{terminal_of, is_in}

-- the parts that nest, each of which begins a level: `!` with its operand, a guard in parentheses, a block in braces
pub data Nest : Type 0 where
  Negation : Nest
  Parens : Nest
  Braces : Nest

abbrev pub Nested : Nest → Type 0
Nested Negation = PlainGuard
Nested Parens = PlainGuard
Nested Braces = PlainBlock

-- the token that begins the level
abbrev pub opening : Nest → Terminal
opening Negation = Not
opening Parens = OpenParen
opening Braces = OpenBrace

-- the terminals with which a part of this kind, when it is complete, could still go on
abbrev pub nest_goes_on : Nest → List Terminal
nest_goes_on Negation = Dot ∷ OpenBracket ∷ []
nest_goes_on Parens = []
nest_goes_on Braces = []

-- A grammar whose texts stand for values of A. What `Pair` joins and `Several` collects says which value it is.
pub data Grammar : Type 0 → Type 1 where
  -- no token
  Empty : {A : Type 0} (x : A) → Grammar A
  -- one token of a set
  One : {A : Type 0} (set : List Terminal) (value : Token → A) → Grammar A
  -- one after the other
  Pair : {A B C : Type 0} (join : A → B → C) (g : Grammar A) (h : Grammar B) → Grammar C
  -- one or the other
  Choice : {A : Type 0} (g h : Grammar A) → Grammar A
  -- any number, one after the other
  Several : {A B : Type 0} (whole : List A → B) (g : Grammar A) → Grammar B
  -- one or more with commas between, and a comma behind or none
  Commas : {A B : Type 0} (whole : List A → B) (g : Grammar A) → Grammar B
  -- a part that is a level deeper
  Deeper : (n : Nest) → Grammar (Nested n)

-- the grammar has a text without tokens
abbrev pub nullable : {A : Type 0} → Grammar A → Bool
nullable (Empty x) = true
nullable (One set value) = false
nullable (Pair join g h) = nullable g && nullable h
nullable (Choice g h) = nullable g || nullable h
nullable (Several whole g) = true
nullable (Commas whole g) = nullable g
nullable (Deeper n) = false

-- the terminals with which a text of the grammar begins
abbrev pub starts : {A : Type 0} → Grammar A → List Terminal
starts (Empty x) = []
starts (One set value) = set
starts (Pair join g h) = if nullable g then starts g ++ starts h else starts g
starts (Choice g h) = starts g ++ starts h
starts (Several whole g) = starts g
starts (Commas whole g) = starts g
starts (Deeper n) = opening n ∷ []

-- the terminals with which a whole text of the grammar could still go on
abbrev pub goes_on : {A : Type 0} → Grammar A → List Terminal
goes_on (Empty x) = []
goes_on (One set value) = []
goes_on (Pair join g h) = if nullable h then goes_on g ++ goes_on h else goes_on h
goes_on (Choice g h) = if nullable h then starts g ++ (goes_on g ++ goes_on h) else goes_on g ++ goes_on h
goes_on (Several whole g) = starts g ++ goes_on g
goes_on (Commas whole g) = Comma ∷ (starts g ++ goes_on g)
goes_on (Deeper n) = nest_goes_on n

-- What it means that the tokens begin with a text of the grammar that stands for x, and that the rest follows. `spelled`
-- says it of the parts that nest.
abbrev pub Spelling : Type 0 → Type 1
Spelling A = List Token → A → List Token → Type 0

abbrev pub Several_of : {A : Type 0} → Spelling A → Spelling (List A)
Several_of spelled ts [] rest = ts ≡ rest
Several_of spelled ts (x ∷ xs) rest = (mid : List Token) × spelled ts x mid × Several_of spelled mid xs rest

abbrev pub IsComma : List Token → List Token → Type 0
IsComma ts rest = (t : Token) × (ts ≡ t ∷ rest) × (is_in (terminal_of t.kind) (Comma ∷ []) ≡ true)

abbrev pub Commas_of : {A : Type 0} → Spelling A → A → List A → List Token → List Token → Type 0
Commas_of spelled x [] ts rest = (mid : List Token) × spelled ts x mid × ((mid ≡ rest) ⊎ IsComma mid rest)
Commas_of spelled x (y ∷ ys) ts rest =
    (mid after : List Token) × spelled ts x mid × IsComma mid after × Commas_of spelled y ys after rest

abbrev pub Spells : {A : Type 0} → ((n : Nest) → Spelling (Nested n)) → Grammar A → Spelling A
Spells spelled (Empty x) ts y rest = (ts ≡ rest) × (x ≡ y)
Spells spelled (One set value) ts x rest =
    (t : Token) × (ts ≡ t ∷ rest) × (is_in (terminal_of t.kind) set ≡ true) × (value t ≡ x)
Spells spelled (Pair {A = A} {B = B} join g h) ts z rest = (mid : List Token) × (x : A) × (y : B)
    × Spells spelled g ts x mid × Spells spelled h mid y rest × (join x y ≡ z)
Spells spelled (Choice g h) ts x rest = Spells spelled g ts x rest ⊎ Spells spelled h ts x rest
Spells spelled (Several {A = A} whole g) ts x rest = (xs : List A)
    × Several_of (Spells spelled g) ts xs rest × (whole xs ≡ x)
Spells spelled (Commas {A = A} whole g) ts x rest = (first : A) × (more : List A)
    × Commas_of (Spells spelled g) first more ts rest × (whole (first ∷ more) ≡ x)
Spells spelled (Deeper n) ts x rest = spelled n ts x rest
