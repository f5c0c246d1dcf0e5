-- What the grammar gives for tokens that can be written: one lemma for each of the seven parts of grammars.
use Rattle.std.proofs.Common.{◌≡◌, ℕ, zero, suc, true, List, [], ◌∷◌, Some, None, subst, ⊎_elim}
use Rattle.std.specs.List.{AllByRecursion}
use Rattle.cx_ast.specs.declared.tokens.Token.{Token}
use Rattle.cx_ast.specs.PlainTokens.{kinds_of}
use Rattle.cx_grammar.specs.declared.terminals.Terminal.{Terminal}
use Rattle.cx_grammar.specs.Terminals.{terminal_of, is_in}
use Rattle.cx_grammar.specs.Grammar.{Nest, Nested, Grammar, Empty, One, Pair, Choice, Several, Commas, Deeper, Spells, Several_of, Commas_of}
use Rattle.cx_grammar.specs.Calyx.{nest, spelled_within}
use Rattle.cx_grammar.specs.Calyx as calyx
use Rattle.cx_print.specs.Layout.{IsWritable, AreWritable}
use Rattle.cx_print.specs.Printable.{IfThere}
use Rattle.cx_print.proofs.Adding.{Any}

-- P holds of each value that the grammar spells in tokens that can be written, and those behind it can be written too
pub record Gives {A : Type 0} (n : ℕ) (g : Grammar A) (P : A → Type 0) : Type 0 where
  pub gives : (ts rest : List Token) (x : A) → AreWritable (kinds_of ts) → Spells (spelled_within n) g ts x rest → P x × AreWritable (kinds_of rest)

rest_writable : (ts us : List Token) → ts ≡ us → AreWritable (kinds_of ts) → AreWritable (kinds_of us)
rest_writable ts us e w = subst (λ vs. AreWritable (kinds_of vs)) e w

one_given : {A : Type 0} (set : List Terminal) (value : Token → A) (P : A → Type 0) → ((token : Token) → IsWritable token.kind → is_in (terminal_of token.kind) set ≡ true → P (value token))
    → (ts rest : List Token) (x : A) → AreWritable (kinds_of ts) → (token : Token) → ts ≡ token ∷ rest → is_in (terminal_of token.kind) set ≡ true → value token ≡ x → P x × AreWritable (kinds_of rest)
one_given set value P each ts rest x w token e among same = let all = rest_writable ts (token ∷ rest) e w in (subst P same (each token all.0 among), all.1)

module _ {A : Type 0} {n : ℕ} where
  pub gives_nothing : (x : A) (P : A → Type 0) → P x → Gives n (Empty x) P
  gives_nothing x P p = record { gives = λ ts rest y w s. (subst P s.1 p, rest_writable ts rest s.0 w) }

  pub gives_one : (set : List Terminal) (value : Token → A) (P : A → Type 0) → ((token : Token) → IsWritable token.kind → is_in (terminal_of token.kind) set ≡ true → P (value token)) → Gives n (One set value) P
  gives_one set value P each = record { gives = λ ts rest x w s. one_given set value P each ts rest x w s.0 s.1 s.2 s.3 }

  pub gives_choice : {g h : Grammar A} {P : A → Type 0} → Gives n g P → Gives n h P → Gives n (Choice g h) P
  gives_choice a b = record { gives = λ ts rest x w s. ⊎_elim (λ k. a.gives ts rest x w k) (λ k. b.gives ts rest x w k) s }

  pub gives_so : {g : Grammar A} {P : A → Type 0} → Gives n g P → (R : A → Type 0) → ((x : A) → P x → R x) → Gives n g R
  gives_so a R r = record { gives = λ ts rest x w s. let b = a.gives ts rest x w s in (r x b.0, b.1) }

module _ {A B C : Type 0} {n : ℕ} where
  pub gives_pair : {join : A → B → C} {g : Grammar A} {h : Grammar B} {P : A → Type 0} {Q : B → Type 0} → Gives n g P → Gives n h Q → (R : C → Type 0) → ((x : A) (y : B) → P x → Q y → R (join x y)) → Gives n (Pair join g h) R
  gives_pair a b R r = record {
    gives = λ ts rest z w s.
        let first = a.gives ts s.0 s.1 w s.3 in
        let second = b.gives s.0 rest s.2 first.1 s.4 in
        (subst R s.5 (r s.1 s.2 first.0 second.0), second.1);
  }

pub gives_deeper : {n : ℕ} {m : Nest} {P : Nested m → Type 0} → Gives n (nest m) P → Gives (suc n) (Deeper m) P
gives_deeper a = record { gives = λ ts rest x w s. a.gives ts rest x w s }

pub gives_none : (m : Nest) (P : Nested m → Type 0) → Gives zero (Deeper m) P
gives_none m P = record { gives = λ ts rest x w s. absurd s }

module _ {A : Type 0} {n : ℕ} {g : Grammar A} {P : A → Type 0} (a : Gives n g P) where
  several_given : (xs : List A) (ts rest : List Token) → AreWritable (kinds_of ts) → Several_of (Spells (spelled_within n) g) ts xs rest → AllByRecursion P xs × AreWritable (kinds_of rest)
  several_given [] ts rest w s = (tt, rest_writable ts rest s w)
  several_given (x ∷ xs) ts rest w s =
      let first = a.gives ts s.0 x w s.1 in
      let others = several_given xs s.0 rest first.1 s.2 in
      ((first.0, others.0), others.1)

  tail_given : (xs : List A) (x : A) (ts rest : List Token) → AreWritable (kinds_of ts) → Commas_of (Spells (spelled_within n) g) x xs ts rest → AllByRecursion P (x ∷ xs) × AreWritable (kinds_of rest)
  tail_given [] x ts rest w s =
      let first = a.gives ts s.0 x w s.1 in
      ((first.0, tt), ⊎_elim (λ e. rest_writable s.0 rest e first.1) (λ comma. (rest_writable s.0 (comma.0 ∷ rest) comma.1 first.1).1) s.2)
  tail_given (y ∷ xs) x ts rest w s =
      let first = a.gives ts s.0 x w s.2 in
      let after = (rest_writable s.0 (s.3.0 ∷ s.1) s.3.1 first.1).1 in
      let others = tail_given xs y s.1 rest after s.4 in
      ((first.0, others.0), others.1)

  pub gives_several : {B : Type 0} (whole : List A → B) (R : B → Type 0) → ((xs : List A) → AllByRecursion P xs → R (whole xs)) → Gives n (Several whole g) R
  gives_several whole R r = record { gives = λ ts rest x w s. let all = several_given s.0 ts rest w s.1 in (subst R s.2 (r s.0 all.0), all.1) }

  pub gives_many : Gives n (calyx.many g) (AllByRecursion P)
  gives_many = gives_several (λ xs. xs) (AllByRecursion P) (λ xs h. h)

  pub gives_commas : Gives n (Choice (Commas (λ xs. xs) g) (Empty [])) (AllByRecursion P)
  gives_commas = gives_choice (record { gives = λ ts rest x w s. let all = tail_given s.1 s.0 ts rest w s.2 in (subst (AllByRecursion P) s.3 all.0, all.1) }) (gives_nothing [] (AllByRecursion P) tt)

-- signs and reserved words tell nothing
pub sign_given : {n : ℕ} (terminal : Terminal) → Gives n (calyx.sign terminal) Any
sign_given terminal = gives_one (terminal ∷ []) (λ token. token.place) Any (λ token w e. tt)

module _ {A : Type 0} {n : ℕ} {g : Grammar A} {P : A → Type 0} where
  pub gives_behind : (terminal : Terminal) → Gives n g P → Gives n (calyx.behind terminal g) P
  gives_behind terminal a = gives_pair (sign_given terminal) a P (λ x y p q. q)

  pub gives_before : Gives n g P → (terminal : Terminal) → Gives n (calyx.before g terminal) P
  gives_before a terminal = gives_pair a (sign_given terminal) P (λ x y p q. p)

  pub gives_mapped : {B : Type 0} (f : A → B) → Gives n g P → (R : B → Type 0) → ((x : A) → P x → R (f x)) → Gives n (calyx.mapped f g) R
  gives_mapped f a R r = gives_pair a (gives_nothing tt Any tt) R (λ x y p q. r x p)

module _ {A : Type 0} {n : ℕ} {g : Grammar A} {P : A → Type 0} where
  pub gives_within : (from : Terminal) → Gives n g P → (to : Terminal) → Gives n (calyx.within from g to) P
  gives_within from a to = gives_behind from (gives_before a to)

  pub gives_maybe : Gives n g P → Gives n (calyx.maybe g) (IfThere P)
  gives_maybe a = gives_choice (gives_mapped (λ x. Some x) a (IfThere P) (λ x p. p)) (gives_nothing None (IfThere P) tt)
