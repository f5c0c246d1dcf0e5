-- What holds of all that a grammar stands for, from what holds of its parts.
use Rattle.std.proofs.Common.{◌≡◌, true, List, [], ◌∷◌, ◌⊎◌, inl, inr, subst}
use Rattle.cx_text.specs.Members.{Each}
use Rattle.cx_ast.specs.declared.tokens.Token.{Token}
use Rattle.cx_grammar.specs.declared.terminals.Terminal.{Terminal}
use Rattle.cx_grammar.specs.Terminals.{terminal_of, is_in}
use Rattle.cx_grammar.specs.Grammar.{Nest, Nested, Grammar, Empty, One, Pair, Choice, Several, Commas, Deeper, Spelling, Spells, Several_of, Commas_of, IsComma}
use Rattle.cx_grammar.specs.Calyx.{sign, behind, before, within, pair, many, mapped}

-- what is known of the tokens of a text, which is known also of those behind one, and of those behind a part that nests
pub record Asks : Type 1 where
  pub Kept : List Token → Type 0
  pub spelled : (n : Nest) → Spelling (Nested n)
  pub less : (x : Token) (ts : List Token) → Kept (x ∷ ts) → Kept ts
  pub deep : (n : Nest) (ts : List Token) (x : Nested n) (rest : List Token) → Kept ts → spelled n ts x rest → Kept rest

-- of any tokens
abbrev pub asks_nothing : ((n : Nest) → Spelling (Nested n)) → Asks
asks_nothing spelled = record { Kept = λ ts. Unit {0}; spelled = spelled; less = λ x ts k. tt; deep = λ n ts x rest k s. tt }

abbrev pub Anything : {A : Type 0} → A → Type 0
Anything x = Unit {0}

module _ (asks : Asks) where
  abbrev pub Gives : {A : Type 0} → Grammar A → (A → Type 0) → Type 0
  Gives {A = A} g P = (ts : List Token) (x : A) (rest : List Token) → asks.Kept ts → Spells asks.spelled g ts x rest → P x × asks.Kept rest

  pub gives_empty : {A : Type 0} (x : A) (P : A → Type 0) → P x → Gives (Empty x) P
  gives_empty x P h ts v rest k s = (subst P s.1 h, subst asks.Kept s.0 k)

  pub gives_one : {A : Type 0} (set : List Terminal) (value : Token → A) (P : A → Type 0) → ((x : Token) (rest : List Token) → asks.Kept (x ∷ rest) → is_in (terminal_of x.kind) set ≡ true → P (value x)) → Gives (One set value) P
  gives_one set value P h ts x rest k s =
      let kept : asks.Kept (s.0 ∷ rest) = subst asks.Kept s.1 k in
      (subst P s.3 (h s.0 rest kept s.2), asks.less s.0 rest kept)

  pub gives_pair : {A B C : Type 0} (join : A → B → C) (g : Grammar A) (h : Grammar B) (P : A → Type 0) (Q : B → Type 0) (R : C → Type 0)
      → Gives g P → Gives h Q → ((x : A) (y : B) → P x → Q y → R (join x y)) → Gives (Pair join g h) R
  gives_pair join g h P Q R one two both ts z rest k s =
      let a = one ts s.1 s.0 k s.3 in
      let b = two s.0 s.2 rest a.1 s.4 in
      (subst R s.5 (both s.1 s.2 a.0 b.0), b.1)

  pub gives_choice : {A : Type 0} (g h : Grammar A) (P : A → Type 0) → Gives g P → Gives h P → Gives (Choice g h) P
  gives_choice g h P one two ts x rest k (inl s) = one ts x rest k s
  gives_choice g h P one two ts x rest k (inr s) = two ts x rest k s

  several_keep : {A : Type 0} (g : Grammar A) (P : A → Type 0) → Gives g P → (xs : List A) (ts rest : List Token) → asks.Kept ts → Several_of (Spells asks.spelled g) ts xs rest → Each P xs × asks.Kept rest
  several_keep g P one [] ts rest k s = (tt, subst asks.Kept s k)
  several_keep g P one (x ∷ xs) ts rest k s =
      let a = one ts x s.0 k s.1 in
      let b = several_keep g P one xs s.0 rest a.1 s.2 in
      ((a.0, b.0), b.1)

  gives_several : {A B : Type 0} (whole : List A → B) (g : Grammar A) (P : A → Type 0) (Q : B → Type 0) → Gives g P → ((xs : List A) → Each P xs → Q (whole xs)) → Gives (Several whole g) Q
  gives_several whole g P Q one all ts x rest k s =
      let a = several_keep g P one s.0 ts rest k s.1 in
      (subst Q s.2 (all s.0 a.0), a.1)

  pub gives_many : {A : Type 0} (g : Grammar A) (P : A → Type 0) → Gives g P → Gives (many g) (Each P)
  gives_many g P one = gives_several (λ xs. xs) g P (Each P) one (λ xs h. h)

  comma_keeps : (mid rest : List Token) → asks.Kept mid → IsComma mid rest → asks.Kept rest
  comma_keeps mid rest k c = asks.less c.0 rest (subst asks.Kept c.1 k)

  commas_keep : {A : Type 0} (g : Grammar A) (P : A → Type 0) → Gives g P → (x : A) (xs : List A) (ts rest : List Token) → asks.Kept ts → Commas_of (Spells asks.spelled g) x xs ts rest → Each P (x ∷ xs) × asks.Kept rest
  commas_keep g P one x [] ts rest k s = let a = one ts x s.0 k s.1 in ((a.0, tt), last s.0 a.1 s.2)
    where
      last : (mid : List Token) → asks.Kept mid → (mid ≡ rest) ⊎ IsComma mid rest → asks.Kept rest
      last mid h (inl e) = subst asks.Kept e h
      last mid h (inr c) = comma_keeps mid rest h c
  commas_keep g P one x (y ∷ ys) ts rest k s =
      let a = one ts x s.0 k s.2 in
      let b = commas_keep g P one y ys s.1 rest (comma_keeps s.0 s.1 a.1 s.3) s.4 in
      ((a.0, b.0), b.1)

  pub gives_commas : {A B : Type 0} (whole : List A → B) (g : Grammar A) (P : A → Type 0) (Q : B → Type 0) → Gives g P → ((x : A) (xs : List A) → Each P (x ∷ xs) → Q (whole (x ∷ xs))) → Gives (Commas whole g) Q
  gives_commas whole g P Q one all ts x rest k s =
      let a = commas_keep g P one s.0 s.1 ts rest k s.2 in
      (subst Q s.3 (all s.0 s.1 a.0), a.1)

  pub anything : {A : Type 0} (g : Grammar A) → Gives g Anything
  anything (Empty x) ts v rest k s = gives_empty x Anything tt ts v rest k s
  anything (One set value) ts v rest k s = gives_one set value Anything (λ x more h e. tt) ts v rest k s
  anything (Pair join g h) ts v rest k s = gives_pair join g h Anything Anything Anything (anything g) (anything h) (λ x y p q. tt) ts v rest k s
  anything (Choice g h) ts v rest k s = gives_choice g h Anything (anything g) (anything h) ts v rest k s
  anything (Several whole g) ts v rest k s = gives_several whole g Anything Anything (anything g) (λ xs h. tt) ts v rest k s
  anything (Commas whole g) ts v rest k s = gives_commas whole g Anything Anything (anything g) (λ x xs h. tt) ts v rest k s
  anything (Deeper n) ts v rest k s = (tt, asks.deep n ts v rest k s)

  -- of a pair one of whose parts does not matter
  pub gives_first : {A B C : Type 0} (join : A → B → C) (g : Grammar A) (h : Grammar B) (P : A → Type 0) (R : C → Type 0) → Gives g P → ((x : A) (y : B) → P x → R (join x y)) → Gives (Pair join g h) R
  gives_first join g h P R one both = gives_pair join g h P Anything R one (anything h) (λ x y p _. both x y p)

  pub gives_second : {A B C : Type 0} (join : A → B → C) (g : Grammar A) (h : Grammar B) (Q : B → Type 0) (R : C → Type 0) → Gives h Q → ((x : A) (y : B) → Q y → R (join x y)) → Gives (Pair join g h) R
  gives_second join g h Q R two both = gives_pair join g h Anything Q R (anything g) two (λ x y _ q. both x y q)

  pub gives_left : {A B : Type 0} (g : Grammar A) (h : Grammar B) (P : A → Type 0) → Gives g P → Gives (pair g h) (λ v. P v.0)
  gives_left {A = A} {B = B} g h P one = gives_first (λ (x : A) (y : B). (x, y)) g h P (λ v. P v.0) one (λ x y p. p)

  pub gives_right : {A B : Type 0} (g : Grammar A) (h : Grammar B) (Q : B → Type 0) → Gives h Q → Gives (pair g h) (λ v. Q v.1)
  gives_right {A = A} {B = B} g h Q two = gives_second (λ (x : A) (y : B). (x, y)) g h Q (λ v. Q v.1) two (λ x y q. q)

  pub gives_behind : {A : Type 0} (terminal : Terminal) (g : Grammar A) (P : A → Type 0) → Gives g P → Gives (behind terminal g) P
  gives_behind terminal g P h = gives_second (λ _ x. x) (sign terminal) g P P h (λ x y q. q)

  pub gives_before : {A : Type 0} (g : Grammar A) (terminal : Terminal) (P : A → Type 0) → Gives g P → Gives (before g terminal) P
  gives_before g terminal P h = gives_first (λ x _. x) g (sign terminal) P P h (λ x y p. p)

  pub gives_within : {A : Type 0} (from : Terminal) (g : Grammar A) (to : Terminal) (P : A → Type 0) → Gives g P → Gives (within from g to) P
  gives_within from g to P h = gives_behind from (before g to) P (gives_before g to P h)

  pub gives_mapped : {A B : Type 0} (f : A → B) (g : Grammar A) (P : A → Type 0) (R : B → Type 0) → Gives g P → ((x : A) → P x → R (f x)) → Gives (mapped f g) R
  gives_mapped {A = A} f g P R h both = gives_first (λ (x : A) (_ : Unit {0}). f x) g (Empty tt) P R h (λ x y p. both x p)
