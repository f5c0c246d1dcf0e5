-- What it means that tokens are a file, that they begin one, and that they are too deep.
use Rattle.std.specs.Prelude.{◌≡◌, ℕ, zero, suc, true, List, [], ◌∷◌, ◌++◌, ◌⊎◌}
use Rattle.cx_ast.specs.declared.tokens.Token.{Token}
use Rattle.cx_ast.specs.PlainTree.{PlainTree}
use Rattle.cx_grammar.specs.Terminals.{begins}
use Rattle.cx_grammar.specs.Grammar.{Nest, Nested, opening, Grammar, Empty, One, Pair, Choice, Several, Commas, Deeper, Spelling, Spells, Several_of, IsComma}
use Rattle.cx_grammar.specs.Calyx.{file, nest, spelled_within}

-- the tokens are those of the tree, with no more than 64 levels of control and of each guard
unfoldable pub Parse : List Token → PlainTree → Type 0
Parse tokens tree = Spells (spelled_within 64) file tokens tree []

-- the tokens are some file, however deep it is
abbrev pub IsFile : List Token → Type 0
IsFile tokens = (levels : ℕ) × (tree : PlainTree) × Spells (spelled_within levels) file tokens tree []

-- the tokens begin some file, however deep it is
pub record Begins (tokens : List Token) : Type 0 where
  pub levels : ℕ
  pub more : List Token
  pub tree : PlainTree
  pub whole : Spells (spelled_within levels) file (tokens ++ more) tree []

-- texts with commas behind them, and then into one
abbrev pub Commas_into : {A : Type 0} → Spelling A → (List Token → Type 0) → List A → List Token → Type 0
Commas_into spelled into [] ts = into ts
Commas_into spelled into (x ∷ xs) ts =
    (mid after : List Token) × spelled ts x mid × IsComma mid after × Commas_into spelled into xs after

-- The tokens lead through the grammar to a token that begins a level too deep, and end with it. `deep` says it of the
-- parts that nest, and `spelled` what comes before.
abbrev pub Leads : {A : Type 0} → ((n : Nest) → Spelling (Nested n)) → (Nest → List Token → Type 0)
    → Grammar A → List Token → Type 0
Leads spelled deep (Empty x) ts = ⊥
Leads spelled deep (One set value) ts = ⊥
Leads spelled deep (Pair {A = A} join g h) ts = Leads spelled deep g ts
    ⊎ ((mid : List Token) × (x : A) × Spells spelled g ts x mid × Leads spelled deep h mid)
Leads spelled deep (Choice g h) ts = Leads spelled deep g ts ⊎ Leads spelled deep h ts
Leads spelled deep (Several {A = A} whole g) ts = (mid : List Token) × (xs : List A)
    × Several_of (Spells spelled g) ts xs mid × Leads spelled deep g mid
Leads spelled deep (Commas {A = A} whole g) ts = (xs : List A)
    × Commas_into (Spells spelled g) (Leads spelled deep g) xs ts
Leads spelled deep (Deeper n) ts = deep n ts

-- the last of the tokens begins a level more than there may be
abbrev pub deep_at : ℕ → Nest → List Token → Type 0
deep_at zero n ts = (t : Token) × (ts ≡ t ∷ []) × (begins (opening n ∷ []) ts ≡ true)
deep_at (suc levels) n ts = Leads (spelled_within levels) (deep_at levels) (nest n) ts

-- the last of the tokens begins the sixty-fifth level, of control or of a guard
unfoldable pub IsTooDeep : List Token → Type 0
IsTooDeep tokens = Leads (spelled_within 64) (deep_at 64) file tokens

-- behind the front stands the first token, or the end, with which the tokens so far begin no file, and no token of the
-- front begins the sixty-fifth level
pub record IsUnexpected (tokens front back : List Token) : Type 0 where
  pub whole : tokens ≡ front ++ back
  pub front_begins : Begins front
  pub no_more : (t : Token) (after : List Token) → back ≡ t ∷ after → Begins (front ++ (t ∷ [])) → ⊥
  pub no_file : back ≡ [] → IsFile tokens → ⊥
  pub not_deep : (before after : List Token) → front ≡ before ++ after → IsTooDeep before → ⊥

-- behind the front stands a token that begins the sixty-fifth level, and up to it the tokens begin a file
pub record IsDeep (tokens front back : List Token) : Type 0 where
  pub token : Token
  pub after : List Token
  pub whole : tokens ≡ front ++ back
  pub is : back ≡ token ∷ after
  pub too_deep : IsTooDeep (front ++ (token ∷ []))
  pub still_begins : Begins (front ++ (token ∷ []))
