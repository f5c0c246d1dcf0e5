-- Names, attributes, marks, operands and binds: what each adds is read by its production as an equal part apart from places.
use Rattle.std.proofs.Common.{◌≡◌, ℕ, Bool, true, false, List, [], ◌∷◌, ◌++◌, Option, Some, None, codes, refl, sym, ap, ◌∙◌, subst, map, inl, append_assoc, append-nil, if◌then◌else◌, ◌==◌}
use Rattle.std.specs.Cmp.Lexicographic.{pointwise}
use Rattle.std.specs.List.{AllByRecursion}
use Rattle.cx_ast.specs.declared.signs.Sign.{Sign}
use Rattle.cx_ast.specs.declared.signs.Sign.TheVariants as signs
use Rattle.cx_ast.specs.declared.tokens.Token.{Token}
use Rattle.cx_ast.specs.declared.tokens.TokenKind.{TokenKind}
use Rattle.cx_ast.specs.declared.tokens.TokenKind.TheVariants as kinds
use Rattle.cx_ast.specs.PlainTokens.{kinds_of}
use Rattle.cx_ast.specs.declared.components.Attribute.{Attribute}
use Rattle.cx_ast.specs.declared.components.Mark.{Mark}
use Rattle.cx_ast.specs.declared.operands.OperandForm.{OperandForm}
use Rattle.cx_ast.specs.declared.operands.OperandForm.TheVariants as operands
use Rattle.cx_ast.specs.declared.operands.OperandItem.{OperandItem}
use Rattle.cx_ast.specs.declared.statements.BindItem.{BindItem}
use Rattle.cx_grammar.specs.declared.terminals.Terminal.{Terminal}
use Rattle.cx_grammar.specs.declared.terminals.Terminal.TheVariants as t
use Rattle.cx_grammar.specs.Terminals.{is_in, sign_terminal, word_terminal}
use Rattle.cx_grammar.specs.Grammar.{Grammar, Empty, Choice, Commas, Spells, Commas_of}
use Rattle.cx_grammar.specs.Calyx.{spelled_within}
use Rattle.cx_grammar.specs.Calyx as calyx
use Rattle.cx_print.specs.declared.pieces.Gap.{Gap}
use Rattle.cx_print.specs.declared.pieces.Gap.TheVariants.{Tight, Space}
use Rattle.cx_print.specs.Layout.{AreWritable, IsWritableWord}
use Rattle.cx_print.specs.Pieces.{Pieces, put, put_sign, put_word, put_number, kinds_in, more_of, with_commas, add_attribute_number, add_attribute, add_attributes, add_mark, add_marks, add_length, add_form, add_operand, add_bind, add_binds}
use Rattle.cx_print.specs.Places.{bare_bind}
use Rattle.cx_print.specs.Printable.{IsName, IsText, IsNumber, IfThere, IsAttribute, IsMark, IsForm, IsNoLiteral, IsOperand, IsBind}
use Rattle.cx_print.proofs.Adding.{Any, Adds, AddsMany, adds_nothing, adds_one, adds_pair, adds_left, adds_right, many_none, many_more, adds_several, adds_both}

-- every word is of a terminal that stands for words
pub record AmongWords (terminal : Terminal) : Type 0 where
  pub among : is_in terminal calyx.words ≡ true

either : (b : Bool) (terminal : Terminal) (others : Terminal) → AmongWords terminal → AmongWords others → AmongWords (if b then terminal else others)
either true terminal others h k = h
either false terminal others h k = k

known : (terminal : Terminal) → is_in terminal calyx.words ≡ true → AmongWords terminal
known terminal h = record { among = h }

pub among_words : (bytes : List ℕ) → AmongWords (word_terminal bytes)
among_words bytes =
    either (pointwise ◌==◌ bytes (codes "import")) t.Import _ (known t.Import refl) (
    either (pointwise ◌==◌ bytes (codes "component")) t.Component _ (known t.Component refl) (
    either (pointwise ◌==◌ bytes (codes "cells")) t.Cells _ (known t.Cells refl) (
    either (pointwise ◌==◌ bytes (codes "wires")) t.Wires _ (known t.Wires refl) (
    either (pointwise ◌==◌ bytes (codes "control")) t.Control _ (known t.Control refl) (
    either (pointwise ◌==◌ bytes (codes "group")) t.Group _ (known t.Group refl) (
    either (pointwise ◌==◌ bytes (codes "comb")) t.Comb _ (known t.Comb refl) (
    either (pointwise ◌==◌ bytes (codes "static")) t.Static _ (known t.Static refl) (
    either (pointwise ◌==◌ bytes (codes "seq")) t.Seq _ (known t.Seq refl) (
    either (pointwise ◌==◌ bytes (codes "par")) t.Par _ (known t.Par refl) (
    either (pointwise ◌==◌ bytes (codes "if")) t.If _ (known t.If refl) (
    either (pointwise ◌==◌ bytes (codes "else")) t.Else _ (known t.Else refl) (
    either (pointwise ◌==◌ bytes (codes "while")) t.While _ (known t.While refl) (
    either (pointwise ◌==◌ bytes (codes "repeat")) t.Repeat _ (known t.Repeat refl) (
    either (pointwise ◌==◌ bytes (codes "invoke")) t.Invoke _ (known t.Invoke refl) (
    either (pointwise ◌==◌ bytes (codes "with")) t.With _ (known t.With refl) (
    either (pointwise ◌==◌ bytes (codes "ref")) t.Ref _ (known t.Ref refl) (
    known t.Name refl)))))))))))))))))

module _ {n : ℕ} where
  pub name_added : (gap : Gap) (bytes : List ℕ) → IsName bytes → Adds n calyx.name (λ w. w.0 ≡ bytes) (put_word gap bytes)
  name_added gap bytes h = adds_one (t.Name ∷ []) calyx.named (λ w. w.0 ≡ bytes) gap (kinds.Word bytes) h.0 (ap (λ k. is_in k (t.Name ∷ [])) h.1) (λ token e. ap calyx.word_of e)

  pub word_added : (gap : Gap) (bytes : List ℕ) → IsWritableWord bytes → Adds n calyx.word (λ w. w ≡ bytes) (put_word gap bytes)
  word_added gap bytes h = adds_one calyx.words (λ token. calyx.word_of token.kind) (λ w. w ≡ bytes) gap (kinds.Word bytes) h (among_words bytes).among (λ token e. ap calyx.word_of e)

  pub number_added : (gap : Gap) (m : ℕ) → IsNumber m → Adds n calyx.number (λ x. x ≡ m) (put_number gap m)
  number_added gap m h = adds_one (t.Number ∷ []) (λ token. calyx.number_of token.kind) (λ x. x ≡ m) gap (kinds.Number m) h refl (λ token e. ap calyx.number_of e)

  pub text_added : (gap : Gap) (bytes : List ℕ) → IsText bytes → Adds n calyx.text (λ x. x ≡ bytes) (put gap (kinds.Text bytes))
  text_added gap bytes h = adds_one (t.Text ∷ []) (λ token. calyx.text_of token.kind) (λ x. x ≡ bytes) gap (kinds.Text bytes) h refl (λ token e. ap calyx.text_of e)

  pub sign_added : (gap : Gap) (s : Sign) (terminal : Terminal) → is_in (sign_terminal s) (terminal ∷ []) ≡ true → Adds n (calyx.sign terminal) Any (put_sign gap s)
  sign_added gap s terminal h = adds_one (terminal ∷ []) (λ token. token.place) Any gap (kinds.Sign s) tt h (λ token e. tt)

  pub keyword_added : (gap : Gap) (bytes : List ℕ) (terminal : Terminal) → IsWritableWord bytes → is_in (word_terminal bytes) (terminal ∷ []) ≡ true → Adds n (calyx.sign terminal) Any (put_word gap bytes)
  keyword_added gap bytes terminal w h = adds_one (terminal ∷ []) (λ token. token.place) Any gap (kinds.Word bytes) w h (λ token e. tt)

module _ {A : Type 0} {n : ℕ} {g : Grammar A} {P : A → Type 0} {add : Pieces → Pieces} where
  pub behind_added : (gap : Gap) (s : Sign) (terminal : Terminal) → is_in (sign_terminal s) (terminal ∷ []) ≡ true → Adds n g P add → Adds n (calyx.behind terminal g) P (λ before. add (put_sign gap s before))
  behind_added gap s terminal h a = adds_pair (sign_added gap s terminal h) a P (λ x y p q. q)

  pub before_added : Adds n g P add → (gap : Gap) (s : Sign) (terminal : Terminal) → is_in (sign_terminal s) (terminal ∷ []) ≡ true → Adds n (calyx.before g terminal) P (λ before. put_sign gap s (add before))
  before_added a gap s terminal h = adds_pair a (sign_added gap s terminal h) P (λ x y p q. p)

  pub mapped_added : {B : Type 0} (f : A → B) → Adds n g P add → (R : B → Type 0) → ((x : A) → P x → R (f x)) → Adds n (calyx.mapped f g) R add
  mapped_added f a R r = adds_pair a (adds_nothing tt Any tt) R (λ x y p q. r x p)

module _ {A : Type 0} {n : ℕ} {g : Grammar A} {P : A → Type 0} {add : Pieces → Pieces} where
  pub within_added : (gap : Gap) (from : Sign) (opening : Terminal) → is_in (sign_terminal from) (opening ∷ []) ≡ true → Adds n g P add → (last : Gap) (to : Sign) (closing : Terminal) → is_in (sign_terminal to) (closing ∷ []) ≡ true
      → Adds n (calyx.within opening g closing) P (λ before. put_sign last to (add (put_sign gap from before)))
  within_added gap from opening h a last to closing k = behind_added gap from opening h (before_added a last to closing k)

abbrev attribute_of : List ℕ → Option ℕ → Attribute
attribute_of name number = record { name = name; number = number }

attribute_same : (name : List ℕ) (number : Option ℕ) (a : Attribute) → name ≡ a.name → number ≡ a.number → attribute_of name number ≡ a
attribute_same name number a p q = ap (λ x. attribute_of x number) p ∙ ap (λ x. attribute_of a.name x) q

abbrev mark_of : List ℕ → ℕ → Mark
mark_of name number = record { name = name; number = number }

mark_same : (name : List ℕ) (number : ℕ) (m : Mark) → name ≡ m.name → number ≡ m.number → mark_of name number ≡ m
mark_same name number m p q = ap (λ x. mark_of x number) p ∙ ap (λ x. mark_of m.name x) q

module _ {n : ℕ} where
  -- attributes
  attribute_number_added : (m : Option ℕ) → IfThere IsNumber m → Adds n calyx.attribute_number (λ x. x ≡ m) (add_attribute_number m)
  unfolding calyx.attribute_number
  attribute_number_added None h = adds_right _ (adds_nothing None _ refl)
  attribute_number_added (Some m) h = adds_left (Empty None) (mapped_added (λ x. Some x) (within_added Tight signs.OpenParen t.OpenParen refl (number_added Tight m h) Tight signs.CloseParen t.CloseParen refl) _ (λ x e. ap (λ y. Some y) e))

  attribute_added : (gap : Gap) (a : Attribute) → IsAttribute a → Adds n calyx.attribute (λ x. x ≡ a) (add_attribute gap a)
  unfolding calyx.attribute
  attribute_added gap a h = behind_added gap signs.At t.At refl (adds_pair (word_added Tight a.name h.0) (attribute_number_added a.number h.1) (λ x. x ≡ a) (λ x y p q. attribute_same x y a p q))

  attributes_many : (gap : Gap) (attrs : List Attribute) → AllByRecursion IsAttribute attrs → AddsMany n calyx.attribute (λ xs. xs ≡ attrs) (add_attributes gap attrs)
  attributes_many gap [] h = many_none _ _ refl
  attributes_many gap (a ∷ attrs) h = many_more (attribute_added gap a h.0) (attributes_many Space attrs h.1) _ (λ x xs p q. cc)

  pub attributes_added : (gap : Gap) (attrs : List Attribute) → AllByRecursion IsAttribute attrs → Adds n calyx.attributes (λ xs. xs ≡ attrs) (add_attributes gap attrs)
  unfolding calyx.attributes
  attributes_added gap attrs h = adds_several (λ xs. xs) (attributes_many gap attrs h) _ (λ xs p. p)

  -- marks
  mark_added : (gap : Gap) (m : Mark) → IsMark m → Adds n calyx.mark (λ x. x ≡ m) (add_mark gap m)
  unfolding calyx.mark
  mark_added gap m h = adds_pair (text_added gap m.name h.0) (behind_added Space signs.Equal t.Equal refl (number_added Space m.number h.1)) _ (λ x y p q. mark_same x y m p q)

  marks_many : (ms : List Mark) → AllByRecursion IsMark ms → AddsMany n calyx.next_mark (λ xs. xs ≡ ms) (more_of add_mark ms)
  unfolding calyx.next_mark
  marks_many [] h = many_none _ _ refl
  marks_many (m ∷ ms) h = many_more (behind_added Tight signs.Comma t.Comma refl (mark_added Space m h.0)) (marks_many ms h.1) _ (λ x xs p q. cc)

  more_marks_added : (ms : List Mark) → AllByRecursion IsMark ms → Adds n calyx.more_marks (λ xs. xs ≡ ms) (more_of add_mark ms)
  unfolding calyx.more_marks
  more_marks_added ms h = adds_several (λ xs. xs) (marks_many ms h) _ (λ xs p. p)

  pub marks_added : (ms : List Mark) → AllByRecursion IsMark ms → Adds n calyx.marks (λ xs. xs ≡ ms) (add_marks ms)
  unfolding calyx.marks
  marks_added [] h = adds_right _ (adds_nothing [] _ refl)
  marks_added (m ∷ ms) h =
      adds_left (Empty []) (behind_added Tight signs.Less t.Less refl (adds_pair (mark_added Tight m h.0) (before_added (more_marks_added ms h.1) Tight signs.Greater t.Greater refl) (λ xs. xs ≡ m ∷ ms) (λ x xs p q. cc)))

  -- lengths
  pub length_added : (m : ℕ) → IsNumber m → Adds n calyx.length_of (λ x. x ≡ m) (add_length (Some m))
  unfolding calyx.length_of
  length_added m h = within_added Tight signs.Less t.Less refl (number_added Tight m h) Tight signs.Greater t.Greater refl

  pub optional_length_added : (m : Option ℕ) → IfThere IsNumber m → Adds n calyx.optional_length (λ x. x ≡ m) (add_length m)
  unfolding calyx.optional_length
  optional_length_added None h = adds_right _ (adds_nothing None _ refl)
  optional_length_added (Some m) h = adds_left (Empty None) (mapped_added (λ x. Some x) (length_added m h) _ (λ x e. ap (λ y. Some y) e))

  -- operands
  reference_added : (gap : Gap) (f : OperandForm) → IsForm f → IsNoLiteral f → Adds n calyx.target (λ o. o.form ≡ f) (add_form gap f)
  unfolding calyx.target calyx.reference
  reference_added gap (operands.Own port) h k = adds_pair (name_added gap port h) (adds_right _ (adds_right _ (adds_nothing (λ p. operands.Own p) (λ f. f port ≡ operands.Own port) refl))) _ (λ x f p q. cc)
  reference_added gap (operands.Port cell port) h k =
      adds_pair (name_added gap cell h.0) (adds_left _ (behind_added Tight signs.Dot t.Dot refl (mapped_added calyx.port_form (name_added Tight port h.1) (λ f. f cell ≡ operands.Port cell port) (λ x p. cc)))) _ (λ x f p q. cc)
  reference_added gap (operands.Hole group hole) h k =
      adds_pair (name_added gap group h.0)
      (adds_right _ (adds_left _ (within_added Tight signs.OpenBracket t.OpenBracket refl (mapped_added calyx.hole_form (word_added Tight hole h.1) (λ f. f group ≡ operands.Hole group hole) (λ x p. cc)) Tight signs.CloseBracket t.CloseBracket refl)))
      _ (λ x f p q. cc)
  reference_added gap (operands.Literal width value) h k = absurd k

  pub target_added : (gap : Gap) (o : OperandItem) → IsForm o.form → IsNoLiteral o.form → Adds n calyx.target (λ x. x.form ≡ o.form) (add_operand gap o)
  target_added gap o h k = reference_added gap o.form h k

  form_added : (gap : Gap) (f : OperandForm) → IsForm f → Adds n calyx.operand (λ o. o.form ≡ f) (add_form gap f)
  unfolding calyx.operand calyx.literal
  form_added gap (operands.Own port) h = adds_left _ (reference_added gap (operands.Own port) h tt)
  form_added gap (operands.Port cell port) h = adds_left _ (reference_added gap (operands.Port cell port) h tt)
  form_added gap (operands.Hole group hole) h = adds_left _ (reference_added gap (operands.Hole group hole) h tt)
  form_added gap (operands.Literal width value) h =
      adds_right _ (adds_one (t.Literal ∷ []) (λ token. record { form = calyx.literal_of token.kind; place = token.place }) (λ o. o.form ≡ operands.Literal width value) gap (kinds.Literal width value) h refl (λ token e. ap calyx.literal_of e))

  pub operand_added : (gap : Gap) (o : OperandItem) → IsOperand o → Adds n calyx.operand (λ x. x.form ≡ o.form) (add_operand gap o)
  operand_added gap o h = form_added gap o.form h

-- what follows the first of a list with commas
record BegunTail {A : Type 0} (n : ℕ) (g : Grammar A) (P : List A → Type 0) (first : A) (from : List Token) (after : List TokenKind) : Type 0 where
  pub value : List A
  pub rest : List Token
  pub spelled : Commas_of (Spells (spelled_within n) g) first value from rest
  pub is : P value
  pub left : kinds_of rest ≡ after

record AddsTail {A : Type 0} (n : ℕ) (g : Grammar A) (P : List A → Type 0) (add : Pieces → Pieces) : Type 0 where
  pub kinds : List TokenKind
  pub added : (before : Pieces) → kinds_in (add before) ≡ kinds_in before ++ kinds
  pub writable : AreWritable kinds
  pub begun : (first : A) (from mid : List Token) (after : List TokenKind) → Spells (spelled_within n) g from first mid → kinds_of mid ≡ kinds ++ after → BegunTail n g P first from after

module _ {A : Type 0} {n : ℕ} where
  tail_none : (g : Grammar A) (P : List A → Type 0) → P [] → AddsTail n g P (λ before. before)
  tail_none g P p = record {
    kinds = [];
    added = λ before. sym (append-nil (kinds_in before));
    writable = tt;
    begun = λ first from mid after s e. record { value = []; rest = mid; spelled = (mid, s, inl refl); is = p; left = e };
  }

  tail_more : {g : Grammar A} {P : A → Type 0} {Q : List A → Type 0} {add more : Pieces → Pieces} → Adds n (calyx.behind t.Comma g) P add → AddsTail n g Q more
      → (R : List A → Type 0) → ((x : A) (xs : List A) → P x → Q xs → R (x ∷ xs)) → AddsTail n g R (λ before. more (add before))
  tail_more {g = g} {add = add} a b R r = record {
    kinds = a.kinds ++ b.kinds;
    added = λ before. b.added (add before) ∙ ap (λ ks. ks ++ b.kinds) (a.added before) ∙ append_assoc (kinds_in before) a.kinds b.kinds;
    writable = adds_both a.kinds b.kinds a.writable b.writable;
    begun = λ first from mid after s e.
        let second = a.begun mid (b.kinds ++ after) (e ∙ append_assoc a.kinds b.kinds after) in
        let (behind_comma, place, x, comma, spelled, same) = second.spelled in
        let others = b.begun second.value behind_comma second.rest after (subst (λ y. Spells (spelled_within n) g behind_comma y second.rest) same spelled) second.left in
        record { value = second.value ∷ others.value; rest = others.rest; spelled = (mid, behind_comma, s, (comma.0, comma.1, comma.2), others.spelled); is = r second.value others.value second.is others.is; left = others.left };
  }

  commas_begun : {g : Grammar A} {P : A → Type 0} {Q : List A → Type 0} {add more : Pieces → Pieces} → Adds n g P add → AddsTail n g Q more
      → (R : List A → Type 0) → ((x : A) (xs : List A) → P x → Q xs → R (x ∷ xs)) → Adds n (Commas (λ xs. xs) g) R (λ before. more (add before))
  commas_begun {add = add} a b R r = record {
    kinds = a.kinds ++ b.kinds;
    added = λ before. b.added (add before) ∙ ap (λ ks. ks ++ b.kinds) (a.added before) ∙ append_assoc (kinds_in before) a.kinds b.kinds;
    writable = adds_both a.kinds b.kinds a.writable b.writable;
    begun = λ ts after e.
        let first = a.begun ts (b.kinds ++ after) (e ∙ append_assoc a.kinds b.kinds after) in
        let others = b.begun first.value ts first.rest after first.spelled first.left in
        record { value = first.value ∷ others.value; rest = others.rest; spelled = (first.value, others.value, others.spelled, refl); is = r first.value others.value first.is others.is; left = others.left };
  }

-- lists with commas
module _ {A : Type 0} {n : ℕ} (g : Grammar A) (bare : A → A) (Is : A → Type 0) (add : Gap → A → Pieces → Pieces) (each : (gap : Gap) (x : A) → Is x → Adds n g (λ y. bare y ≡ bare x) (add gap x)) where
  tail_added : (xs : List A) → AllByRecursion Is xs → AddsTail n g (λ ys. map bare ys ≡ map bare xs) (more_of add xs)
  tail_added [] h = tail_none g _ refl
  tail_added (x ∷ xs) h = tail_more (behind_added Tight signs.Comma t.Comma refl (each Space x h.0)) (tail_added xs h.1) _ (λ y ys p q. cc)

  pub commas_added : (xs : List A) → AllByRecursion Is xs → Adds n (Choice (Commas (λ ys. ys) g) (Empty [])) (λ ys. map bare ys ≡ map bare xs) (with_commas add xs)
  commas_added [] h = adds_right _ (adds_nothing [] _ refl)
  commas_added (x ∷ xs) h = adds_left (Empty []) (commas_begun (each Tight x h.0) (tail_added xs h.1) _ (λ y ys p q. cc))

module _ {n : ℕ} where
  bind_added : (gap : Gap) (b : BindItem) → IsBind b → Adds n calyx.bind (λ x. bare_bind x ≡ bare_bind b) (add_bind gap b)
  unfolding calyx.bind
  bind_added gap b h = adds_pair (name_added gap b.name h.0) (behind_added Space signs.Equal t.Equal refl (operand_added Space b.value h.1)) _ (λ x y p q. cc)

  pub binds_added : (bs : List BindItem) → AllByRecursion IsBind bs → Adds n calyx.binds (λ xs. map bare_bind xs ≡ map bare_bind bs) (add_binds bs)
  unfolding calyx.binds calyx.some_binds
  binds_added bs h = within_added Tight signs.OpenParen t.OpenParen refl (commas_added calyx.bind bare_bind IsBind add_bind bind_added bs h) Tight signs.CloseParen t.CloseParen refl
