-- What a part of the printer adds is read by its grammar: one lemma for each of the seven parts of grammars.
use Rattle.std.proofs.Common.{◌≡◌, ℕ, suc, true, List, [], ◌∷◌, ◌++◌, refl, sym, ap, ◌∙◌, subst, inl, inr, append_assoc, append-nil}
use Rattle.cx_ast.specs.declared.tokens.Token.{Token}
use Rattle.cx_ast.specs.declared.tokens.TokenKind.{TokenKind}
use Rattle.cx_ast.specs.PlainTokens.{kinds_of}
use Rattle.cx_grammar.specs.declared.terminals.Terminal.{Terminal}
use Rattle.cx_grammar.specs.Terminals.{terminal_of, is_in}
use Rattle.cx_grammar.specs.Grammar.{Nest, Nested, Grammar, Empty, One, Pair, Choice, Several, Deeper, Spells, Several_of}
use Rattle.cx_grammar.specs.Calyx.{nest, spelled_within}
use Rattle.cx_print.specs.declared.pieces.Gap.{Gap}
use Rattle.cx_print.specs.Layout.{IsWritable, AreWritable}
use Rattle.cx_print.specs.Pieces.{Pieces, put, kinds_in}

-- any value
abbrev pub Any : {A : Type 0} → A → Type 0
Any x = Unit {0}

-- the tokens begin with a text of the grammar, for a value of which P holds, and others follow
pub record Begun {A : Type 0} (n : ℕ) (g : Grammar A) (P : A → Type 0) (ts : List Token) (after : List TokenKind) : Type 0 where
  pub value : A
  pub rest : List Token
  pub spelled : Spells (spelled_within n) g ts value rest
  pub is : P value
  pub left : kinds_of rest ≡ after

-- what is added can be written, and is a text of the grammar for a value of which P holds
pub record Adds {A : Type 0} (n : ℕ) (g : Grammar A) (P : A → Type 0) (add : Pieces → Pieces) : Type 0 where
  pub kinds : List TokenKind
  pub added : (before : Pieces) → kinds_in (add before) ≡ kinds_in before ++ kinds
  pub writable : AreWritable kinds
  pub begun : (ts : List Token) (after : List TokenKind) → kinds_of ts ≡ kinds ++ after → Begun n g P ts after

pub adds_both : (ks ls : List TokenKind) → AreWritable ks → AreWritable ls → AreWritable (ks ++ ls)
adds_both [] ls h l = l
adds_both (k ∷ ks) ls h l = (h.0, adds_both ks ls h.1 l)

put_kinds : (before : Pieces) (gap : Gap) (kind : TokenKind) → kinds_in (put gap kind before) ≡ kinds_in before ++ kind ∷ []
put_kinds [] gap kind = refl
put_kinds (p ∷ before) gap kind = ap (λ ks. p.kind ∷ ks) (put_kinds before gap kind)

module _ {A : Type 0} {n : ℕ} where
  pub adds_nothing : (x : A) (P : A → Type 0) → P x → Adds n (Empty x) P (λ before. before)
  adds_nothing x P p = record {
    kinds = [];
    added = λ before. sym (append-nil (kinds_in before));
    writable = tt;
    begun = λ ts after e. record { value = x; rest = ts; spelled = (refl, refl); is = p; left = e };
  }

  one_begun : (set : List Terminal) (value : Token → A) (P : A → Type 0) (kind : TokenKind) → is_in (terminal_of kind) set ≡ true → ((t : Token) → t.kind ≡ kind → P (value t))
      → (ts : List Token) (after : List TokenKind) → kinds_of ts ≡ kind ∷ after → Begun n (One set value) P ts after
  one_begun set value P kind among p [] after e = absurd (cc)
  one_begun set value P kind among p (t ∷ ts) after e =
      let same : t.kind ≡ kind = cc in
      record { value = value t; rest = ts; spelled = (t, refl, subst (λ k. is_in (terminal_of k) set ≡ true) (sym same) among, refl); is = p t same; left = cc }

  pub adds_one : (set : List Terminal) (value : Token → A) (P : A → Type 0) (gap : Gap) (kind : TokenKind) → IsWritable kind → is_in (terminal_of kind) set ≡ true → ((t : Token) → t.kind ≡ kind → P (value t))
      → Adds n (One set value) P (put gap kind)
  adds_one set value P gap kind writable among p = record {
    kinds = kind ∷ [];
    added = λ before. put_kinds before gap kind;
    writable = (writable, tt);
    begun = λ ts after e. one_begun set value P kind among p ts after e;
  }

module _ {A B C : Type 0} {n : ℕ} where
  pub adds_pair : {join : A → B → C} {g : Grammar A} {h : Grammar B} {P : A → Type 0} {Q : B → Type 0} {add more : Pieces → Pieces} → Adds n g P add → Adds n h Q more
      → (R : C → Type 0) → ((x : A) (y : B) → P x → Q y → R (join x y)) → Adds n (Pair join g h) R (λ before. more (add before))
  adds_pair {join = join} {add = add} a b R r = record {
    kinds = a.kinds ++ b.kinds;
    added = λ before. b.added (add before) ∙ ap (λ ks. ks ++ b.kinds) (a.added before) ∙ append_assoc (kinds_in before) a.kinds b.kinds;
    writable = adds_both a.kinds b.kinds a.writable b.writable;
    begun = λ ts after e.
        let first = a.begun ts (b.kinds ++ after) (e ∙ append_assoc a.kinds b.kinds after) in
        let second = b.begun first.rest after first.left in
        record { value = join first.value second.value; rest = second.rest; spelled = (first.rest, first.value, second.value, first.spelled, second.spelled, refl); is = r first.value second.value first.is second.is; left = second.left };
  }

module _ {A : Type 0} {n : ℕ} where
  pub adds_left : {g : Grammar A} {P : A → Type 0} {add : Pieces → Pieces} (h : Grammar A) → Adds n g P add → Adds n (Choice g h) P add
  adds_left h a = record {
    kinds = a.kinds;
    added = a.added;
    writable = a.writable;
    begun = λ ts after e. let b = a.begun ts after e in record { value = b.value; rest = b.rest; spelled = inl b.spelled; is = b.is; left = b.left };
  }

  pub adds_right : {h : Grammar A} {P : A → Type 0} {add : Pieces → Pieces} (g : Grammar A) → Adds n h P add → Adds n (Choice g h) P add
  adds_right g a = record {
    kinds = a.kinds;
    added = a.added;
    writable = a.writable;
    begun = λ ts after e. let b = a.begun ts after e in record { value = b.value; rest = b.rest; spelled = inr b.spelled; is = b.is; left = b.left };
  }

pub adds_deeper : {n : ℕ} {m : Nest} {P : Nested m → Type 0} {add : Pieces → Pieces} → Adds n (nest m) P add → Adds (suc n) (Deeper m) P add
adds_deeper a = record {
  kinds = a.kinds;
  added = a.added;
  writable = a.writable;
  begun = λ ts after e. let b = a.begun ts after e in record { value = b.value; rest = b.rest; spelled = b.spelled; is = b.is; left = b.left };
}

-- the same for texts one after the other
pub record BegunMany {A : Type 0} (n : ℕ) (g : Grammar A) (P : List A → Type 0) (ts : List Token) (after : List TokenKind) : Type 0 where
  pub value : List A
  pub rest : List Token
  pub spelled : Several_of (Spells (spelled_within n) g) ts value rest
  pub is : P value
  pub left : kinds_of rest ≡ after

pub record AddsMany {A : Type 0} (n : ℕ) (g : Grammar A) (P : List A → Type 0) (add : Pieces → Pieces) : Type 0 where
  pub kinds : List TokenKind
  pub added : (before : Pieces) → kinds_in (add before) ≡ kinds_in before ++ kinds
  pub writable : AreWritable kinds
  pub begun : (ts : List Token) (after : List TokenKind) → kinds_of ts ≡ kinds ++ after → BegunMany n g P ts after

module _ {A : Type 0} {n : ℕ} where
  pub many_none : (g : Grammar A) (P : List A → Type 0) → P [] → AddsMany n g P (λ before. before)
  many_none g P p = record {
    kinds = [];
    added = λ before. sym (append-nil (kinds_in before));
    writable = tt;
    begun = λ ts after e. record { value = []; rest = ts; spelled = refl; is = p; left = e };
  }

  pub many_more : {g : Grammar A} {P : A → Type 0} {Q : List A → Type 0} {add more : Pieces → Pieces} → Adds n g P add → AddsMany n g Q more
      → (R : List A → Type 0) → ((x : A) (xs : List A) → P x → Q xs → R (x ∷ xs)) → AddsMany n g R (λ before. more (add before))
  many_more {add = add} a b R r = record {
    kinds = a.kinds ++ b.kinds;
    added = λ before. b.added (add before) ∙ ap (λ ks. ks ++ b.kinds) (a.added before) ∙ append_assoc (kinds_in before) a.kinds b.kinds;
    writable = adds_both a.kinds b.kinds a.writable b.writable;
    begun = λ ts after e.
        let first = a.begun ts (b.kinds ++ after) (e ∙ append_assoc a.kinds b.kinds after) in
        let second = b.begun first.rest after first.left in
        record { value = first.value ∷ second.value; rest = second.rest; spelled = (first.rest, first.spelled, second.spelled); is = r first.value second.value first.is second.is; left = second.left };
  }

pub adds_several : {A B : Type 0} {n : ℕ} {g : Grammar A} {P : List A → Type 0} {add : Pieces → Pieces} (whole : List A → B) → AddsMany n g P add → (R : B → Type 0) → ((xs : List A) → P xs → R (whole xs)) → Adds n (Several whole g) R add
adds_several whole a R r = record {
  kinds = a.kinds;
  added = a.added;
  writable = a.writable;
  begun = λ ts after e. let b = a.begun ts after e in record { value = whole b.value; rest = b.rest; spelled = (b.value, b.spelled, refl); is = r b.value b.is; left = b.left };
}
