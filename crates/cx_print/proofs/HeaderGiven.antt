-- What the grammar gives for names, attributes, marks, operands and binds is printable.
use Rattle.std.proofs.Common.{◌≡◌, ℕ, true, List, [], ◌∷◌, refl}
use Rattle.std.specs.List.{AllByRecursion}
use Rattle.cx_ast.specs.declared.signs.Sign.{Sign}
use Rattle.cx_ast.specs.declared.signs.Sign.TheVariants as signs
use Rattle.cx_ast.specs.declared.tokens.TokenKind.{TokenKind}
use Rattle.cx_ast.specs.declared.tokens.TokenKind.TheVariants as kinds
use Rattle.cx_ast.specs.declared.operands.OperandForm.{OperandForm}
use Rattle.cx_ast.specs.declared.operands.OperandForm.TheVariants as operands
use Rattle.cx_grammar.specs.declared.terminals.Terminal.{Terminal}
use Rattle.cx_grammar.specs.declared.terminals.Terminal.TheVariants as t
use Rattle.cx_grammar.specs.Terminals.{terminal_of, is_in, sign_terminal, word_terminal}
use Rattle.cx_grammar.specs.Calyx as calyx
use Rattle.cx_print.specs.Layout.{IsWritable, IsWritableWord}
use Rattle.cx_print.specs.Printable.{IsName, IsText, IsNumber, IfThere, IsAttribute, IsMark, IsForm, IsNoLiteral, IsOperand, IsTarget, IsBind}
use Rattle.cx_print.proofs.Giving.{Gives, gives_nothing, gives_one, gives_choice, gives_so, gives_pair, gives_many, gives_commas, gives_behind, gives_before, gives_mapped, gives_within, gives_maybe}
use Rattle.cx_print.proofs.HeaderSpelling.{among_words}

-- no sign is a word, a number, a literal or a string
sign_no_name : (s : Sign) → is_in (sign_terminal s) (t.Name ∷ []) ≡ true → ⊥
sign_no_name signs.OpenBrace e = cc
sign_no_name s e = cc

sign_no_word : (s : Sign) → is_in (sign_terminal s) calyx.words ≡ true → ⊥
sign_no_word signs.OpenBrace e = cc
sign_no_word s e = cc

sign_no_number : (s : Sign) → is_in (sign_terminal s) (t.Number ∷ []) ≡ true → ⊥
sign_no_number signs.OpenBrace e = cc
sign_no_number s e = cc

sign_no_literal : (s : Sign) → is_in (sign_terminal s) (t.Literal ∷ []) ≡ true → ⊥
sign_no_literal signs.OpenBrace e = cc
sign_no_literal s e = cc

sign_no_text : (s : Sign) → is_in (sign_terminal s) (t.Text ∷ []) ≡ true → ⊥
sign_no_text signs.OpenBrace e = cc
sign_no_text s e = cc

-- no word is a number, a literal or a string
word_no_number : (x : Terminal) → is_in x calyx.words ≡ true → is_in x (t.Number ∷ []) ≡ true → ⊥
word_no_number t.Number h e = cc
word_no_number x h e = cc

word_no_literal : (x : Terminal) → is_in x calyx.words ≡ true → is_in x (t.Literal ∷ []) ≡ true → ⊥
word_no_literal t.Literal h e = cc
word_no_literal x h e = cc

word_no_text : (x : Terminal) → is_in x calyx.words ≡ true → is_in x (t.Text ∷ []) ≡ true → ⊥
word_no_text t.Text h e = cc
word_no_text x h e = cc

the_name : (x : Terminal) → is_in x (t.Name ∷ []) ≡ true → x ≡ t.Name
the_name t.Name e = refl
the_name x e = cc

-- what a token of each set carries
name_kind : (k : TokenKind) → IsWritable k → is_in (terminal_of k) (t.Name ∷ []) ≡ true → IsName (calyx.word_of k)
name_kind (kinds.Word bytes) w e = (w, the_name (word_terminal bytes) e)
name_kind (kinds.Number n) w e = absurd (cc)
name_kind (kinds.Literal width value) w e = absurd (cc)
name_kind (kinds.Text bytes) w e = absurd (cc)
name_kind (kinds.Sign s) w e = absurd (sign_no_name s e)

word_kind : (k : TokenKind) → IsWritable k → is_in (terminal_of k) calyx.words ≡ true → IsWritableWord (calyx.word_of k)
word_kind (kinds.Word bytes) w e = w
word_kind (kinds.Number n) w e = absurd (cc)
word_kind (kinds.Literal width value) w e = absurd (cc)
word_kind (kinds.Text bytes) w e = absurd (cc)
word_kind (kinds.Sign s) w e = absurd (sign_no_word s e)

number_kind : (k : TokenKind) → IsWritable k → is_in (terminal_of k) (t.Number ∷ []) ≡ true → IsNumber (calyx.number_of k)
number_kind (kinds.Word bytes) w e = absurd (word_no_number (word_terminal bytes) (among_words bytes).among e)
number_kind (kinds.Number n) w e = w
number_kind (kinds.Literal width value) w e = absurd (cc)
number_kind (kinds.Text bytes) w e = absurd (cc)
number_kind (kinds.Sign s) w e = absurd (sign_no_number s e)

text_kind : (k : TokenKind) → IsWritable k → is_in (terminal_of k) (t.Text ∷ []) ≡ true → IsText (calyx.text_of k)
text_kind (kinds.Word bytes) w e = absurd (word_no_text (word_terminal bytes) (among_words bytes).among e)
text_kind (kinds.Number n) w e = absurd (cc)
text_kind (kinds.Literal width value) w e = absurd (cc)
text_kind (kinds.Text bytes) w e = w
text_kind (kinds.Sign s) w e = absurd (sign_no_text s e)

literal_kind : (k : TokenKind) → IsWritable k → is_in (terminal_of k) (t.Literal ∷ []) ≡ true → IsForm (calyx.literal_of k)
literal_kind (kinds.Word bytes) w e = absurd (word_no_literal (word_terminal bytes) (among_words bytes).among e)
literal_kind (kinds.Number n) w e = absurd (cc)
literal_kind (kinds.Literal width value) w e = w
literal_kind (kinds.Text bytes) w e = absurd (cc)
literal_kind (kinds.Sign s) w e = absurd (sign_no_literal s e)

-- behind a name
abbrev IsReference : (List ℕ → OperandForm) → Type 0
IsReference f = (bytes : List ℕ) → IsName bytes → IsForm (f bytes) × IsNoLiteral (f bytes)

module _ {n : ℕ} where
  pub name_given : Gives n calyx.name (λ w. IsName w.0)
  name_given = gives_one (t.Name ∷ []) calyx.named (λ w. IsName w.0) (λ token w e. name_kind token.kind w e)

  word_given : Gives n calyx.word IsWritableWord
  word_given = gives_one calyx.words (λ token. calyx.word_of token.kind) IsWritableWord (λ token w e. word_kind token.kind w e)

  pub number_given : Gives n calyx.number IsNumber
  number_given = gives_one (t.Number ∷ []) (λ token. calyx.number_of token.kind) IsNumber (λ token w e. number_kind token.kind w e)

  pub text_given : Gives n calyx.text IsText
  text_given = gives_one (t.Text ∷ []) (λ token. calyx.text_of token.kind) IsText (λ token w e. text_kind token.kind w e)

  attribute_number_given : Gives n calyx.attribute_number (IfThere IsNumber)
  unfolding calyx.attribute_number
  attribute_number_given = gives_maybe (gives_within t.OpenParen number_given t.CloseParen)

  attribute_given : Gives n calyx.attribute IsAttribute
  unfolding calyx.attribute
  attribute_given = gives_behind t.At (gives_pair word_given attribute_number_given IsAttribute (λ x y p q. (p, q)))

  pub attributes_given : Gives n calyx.attributes (AllByRecursion IsAttribute)
  unfolding calyx.attributes
  attributes_given = gives_many attribute_given

  mark_given : Gives n calyx.mark IsMark
  unfolding calyx.mark
  mark_given = gives_pair text_given (gives_behind t.Equal number_given) IsMark (λ x y p q. (p, q))

  more_marks_given : Gives n calyx.more_marks (AllByRecursion IsMark)
  unfolding calyx.more_marks calyx.next_mark
  more_marks_given = gives_many (gives_behind t.Comma mark_given)

  pub marks_given : Gives n calyx.marks (AllByRecursion IsMark)
  unfolding calyx.marks
  marks_given = gives_choice (gives_behind t.Less (gives_pair mark_given (gives_before more_marks_given t.Greater) (AllByRecursion IsMark) (λ x y p q. (p, q)))) (gives_nothing [] (AllByRecursion IsMark) tt)

  pub length_given : Gives n calyx.length_of IsNumber
  unfolding calyx.length_of
  length_given = gives_within t.Less number_given t.Greater

  pub optional_length_given : Gives n calyx.optional_length (IfThere IsNumber)
  unfolding calyx.optional_length
  optional_length_given = gives_maybe length_given

  reference_given : Gives n calyx.reference IsReference
  unfolding calyx.reference
  reference_given =
      gives_choice (gives_behind t.Dot (gives_mapped calyx.port_form name_given IsReference (λ w p. λ bytes h. ((h, p), tt))))
      (gives_choice (gives_within t.OpenBracket (gives_mapped calyx.hole_form word_given IsReference (λ w p. λ bytes h. ((h, p), tt))) t.CloseBracket)
      (gives_nothing (λ p. operands.Own p) IsReference (λ bytes h. (h, tt))))

  pub target_given : Gives n calyx.target IsTarget
  unfolding calyx.target
  target_given = gives_pair name_given reference_given IsTarget (λ w f p q. q w.0 p)

  pub operand_given : Gives n calyx.operand IsOperand
  unfolding calyx.operand calyx.literal
  operand_given =
      gives_choice (gives_so target_given IsOperand (λ o h. h.0))
      (gives_one (t.Literal ∷ []) (λ token. record { form = calyx.literal_of token.kind; place = token.place }) IsOperand (λ token w e. literal_kind token.kind w e))

  bind_given : Gives n calyx.bind IsBind
  unfolding calyx.bind
  bind_given = gives_pair name_given (gives_behind t.Equal operand_given) IsBind (λ x y p q. (p, q))

  pub binds_given : Gives n calyx.binds (AllByRecursion IsBind)
  unfolding calyx.binds calyx.some_binds
  binds_given = gives_within t.OpenParen (gives_commas bind_given) t.CloseParen
