-- What a reading function gives, in the words of the grammar's reading.
use Rattle.std.specs.Prelude.{◌≡◌, ℕ, Bool, false, List, [], ◌∷◌, ◌++◌, ◌⊎◌, Option, Some, None, Result, Ok, Err}
use Rattle.cx_ast.specs.declared.tokens.Token.{Token}
use Rattle.cx_grammar.specs.Grammar.{Grammar, One, starts}
use Rattle.cx_grammar.specs.Reading.{Unexpected, TooDeep, Stop, Reads, then_reads, commas_at, read}
use Rattle.cx_grammar.specs.Calyx.{nested_at, mapped}
use Rattle.cx_grammar.specs.declared.terminals.Terminal.{Terminal}
use Rattle.cx_grammar.specs.Terminals.{begins}
use Rattle.cx_parse.specs.declared.stops.Stop.{Stop as Answer}
use Rattle.cx_parse.specs.declared.stops.Stop.TheVariants as stops
use Rattle.cx_parse.specs.declared.readers.Reader.{Reader}

-- where reading stands: it goes on with the tokens that are left, or it has stopped
pub data State : Type 0 where
  Going : (rest : List Token) → State
  Stopped : (stop : Answer) → State

abbrev pub state_at : Option Answer → List Token → State
state_at None rest = Going rest
state_at (Some stop) rest = Stopped stop

abbrev pub state_of : Reader → State
state_of r = state_at r.stop r.rest.now

-- the next token is one of the set
abbrev pub next_is_in : List Terminal → State → Bool
next_is_in set (Going ts) = begins set ts
next_is_in set (Stopped stop) = false

-- the state once memory ran out
abbrev pub out_of_memory : State → State
out_of_memory (Going ts) = Stopped stops.Memory
out_of_memory (Stopped stop) = Stopped stop

-- reading stops so, unless memory ran out
abbrev pub Fails : {Y : Type 0} → Answer → Result Y Stop → Type 0
Fails (stops.Unexpected left) reads = reads ≡ Err (record { why = Unexpected; left = left })
Fails (stops.TooDeep left) reads = reads ≡ Err (record { why = TooDeep; left = left })
Fails stops.Memory reads = Unit {0}

-- what is returned, seen by view, is what reading gives, unless memory ran out
abbrev pub Answers : {X Y : Type 0} → (X → Y) → Result X Answer → Result Y Stop → Type 0
Answers view (Ok x) reads = reads ≡ Ok (view x)
Answers view (Err e) reads = Fails e reads

-- where reading goes on, there is a value, and it gave that and the tokens behind it
abbrev pub GoesOn : {A : Type 0} → Reads A → List Token → Option A → Type 0
GoesOn reads rest (Some x) = reads ≡ Ok (x, rest)
GoesOn reads rest None = ⊥

abbrev pub Ends : {A : Type 0} → Reads A → State → Option A → Type 0
Ends reads (Going rest) value = GoesOn reads rest value
Ends reads (Stopped stop) value = Fails stop reads

-- reading leads from the old state to the new one and gives the value; where it had stopped, nothing is read
abbrev pub Leads : {A : Type 0} → (List Token → Reads A) → State → State → Option A → Type 0
Leads reads (Going ts) new value = Ends (reads ts) new value
Leads reads (Stopped stop) new value = new ≡ Stopped stop

-- so it is with a production
pub record Gives {A : Type 0} (levels : ℕ) (g : Grammar A) (old new : State) (value : Option A) : Type 0 where
  pub leads : Leads (read (nested_at levels) g) old new value

-- one token of a set
abbrev pub one_of : List Terminal → Grammar Token
one_of set = One set (λ t. t)

-- a production at the value that stands before it
abbrev pub given : {A B : Type 0} → A → Grammar (A → B) → Grammar B
given x g = mapped (λ f. f x) g

-- what follows the first of a list, behind it
abbrev pub with_first : {A : Type 0} → A → Grammar (List A) → Grammar (List A)
with_first x g = mapped (λ xs. x ∷ xs) g

-- so it is with what follows the first of a list with commas
abbrev pub commas_behind : {A : Type 0} → ℕ → Grammar A → A → List Token → Reads (List A)
commas_behind levels g x ts =
    then_reads (commas_at (read (nested_at levels) g) (starts g) ts) (λ xs rest. Ok (x ∷ xs, rest))

pub record GivesCommas {A : Type 0} (levels : ℕ) (g : Grammar A) (first : A) (old new : State)
    (values : List A) : Type 0 where
  pub leads : Leads (commas_behind levels g first) old new (Some values)

-- a list, where there is something
abbrev pub listed : {A : Type 0} → Option A → List A
listed None = []
listed (Some x) = x ∷ []

-- what was read stands at the end of a list, or memory ran out
pub record Keeps {A : Type 0} (old new : State) (before after : List A) (item : Option A) : Type 0 where
  pub kept : ((new ≡ old) × (after ≡ before ++ listed item)) ⊎ (new ≡ out_of_memory old)
