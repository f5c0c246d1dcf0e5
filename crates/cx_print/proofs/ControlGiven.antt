-- What the grammar gives for control is printable.
use Rattle.std.proofs.Common.{ℕ, zero, suc, List, [], ◌∷◌, Option, Some, None}
use Rattle.std.specs.List.{AllByRecursion}
use Rattle.cx_text.specs.declared.places.Place.{Place}
use Rattle.cx_ast.specs.declared.components.Mark.{Mark}
use Rattle.cx_ast.specs.PlainStatements.{PlainForm, PlainStatement, PlainBlock, statements_of, else_of}
use Rattle.cx_grammar.specs.declared.terminals.Terminal.TheVariants as t
use Rattle.cx_grammar.specs.Grammar.{Grammar}
use Rattle.cx_grammar.specs.Grammar as grammars
use Rattle.cx_grammar.specs.Calyx as calyx
use Rattle.cx_print.specs.Printable.{IsName, IsNumber, IfThere, IsMark, IsBind, IsControl, IsElse, IsStatement, AreStatements, IsBlock}
use Rattle.cx_print.proofs.Giving.{Gives, gives_choice, gives_so, gives_pair, gives_many, gives_deeper, gives_none, gives_behind, gives_before, gives_mapped, gives_maybe, sign_given}
use Rattle.cx_print.proofs.HeaderGiven.{name_given, number_given, marks_given, optional_length_given, operand_given, binds_given, attributes_given}

abbrev IsMarked : ℕ → List Mark × PlainBlock → Type 0
IsMarked n r = AllByRecursion IsMark r.0 × IsBlock r.1 n

abbrev IsCounted : ℕ → ℕ × PlainBlock → Type 0
IsCounted n r = IsNumber r.0 × IsBlock r.1 n

abbrev IsCalled : calyx.Called → Type 0
IsCalled r = IsName r.0.0 × AllByRecursion IsBind r.1.0 × AllByRecursion IsBind r.1.1

abbrev IsStatic : ℕ → (Option ℕ → PlainForm) → Type 0
IsStatic n f = (length : Option ℕ) → IfThere IsNumber length → IsControl (f length) n

abbrev IsForm : ℕ → PlainForm × Place → Type 0
IsForm n x = IsControl x.0 n

abbrev IsOtherwise : ℕ → Option PlainBlock → Type 0
IsOtherwise n b = IsElse (else_of b) n

else_given : (n : ℕ) (b : Option PlainBlock) → IfThere (λ c. IsBlock c n) b → IsOtherwise n b
else_given n None h = tt
else_given n (Some b) h = h

all_statements : (n : ℕ) (ss : List PlainStatement) → AllByRecursion (λ s. IsStatement s n) ss → AreStatements (statements_of ss) n
all_statements n [] h = tt
all_statements n (s ∷ ss) h = (h.0, all_statements n ss h.1)

called_given : {n : ℕ} → Gives n calyx.invoke_rest IsCalled
unfolding calyx.invoke_rest
called_given = gives_pair name_given (gives_pair binds_given (gives_before binds_given t.Semicolon) (λ r. AllByRecursion IsBind r.0 × AllByRecursion IsBind r.1) (λ x y p q. (p, q))) IsCalled (λ x y p q. (p, q.0, q.1))

comb_given : {n : ℕ} → Gives n calyx.comb (IfThere IsName)
unfolding calyx.comb
comb_given = gives_maybe (gives_behind t.With (gives_mapped calyx.text_in name_given IsName (λ x p. p)))

module _ {n : ℕ} (block : Gives n calyx.block (λ b. IsBlock b n)) where
  otherwise_given : Gives n calyx.otherwise (IsOtherwise n)
  unfolding calyx.otherwise
  otherwise_given = gives_so (gives_maybe (gives_behind t.Else block)) (IsOtherwise n) (else_given n)

  marked_given : Gives n calyx.marked_block (IsMarked n)
  unfolding calyx.marked_block
  marked_given = gives_pair marks_given block (IsMarked n) (λ x y p q. (p, q))

  counted_given : Gives n calyx.repeat_rest (IsCounted n)
  unfolding calyx.repeat_rest
  counted_given = gives_pair number_given block (IsCounted n) (λ x y p q. (p, q))

  branches_given : Gives n (calyx.pair calyx.block calyx.otherwise) (λ r. IsBlock r.0 n × IsOtherwise n r.1)
  branches_given = gives_pair block otherwise_given (λ r. IsBlock r.0 n × IsOtherwise n r.1) (λ x y p q. (p, q))

  if_given : Gives n calyx.if_rest (λ f. IsControl f n)
  unfolding calyx.if_rest
  if_given =
      gives_pair operand_given (gives_pair comb_given branches_given (λ r. IfThere IsName r.0 × IsBlock r.1.0 n × IsOtherwise n r.1.1) (λ x y p q. (p, q.0, q.1)))
      (λ f. IsControl f n) (λ x y p q. (p, q.0, q.1, q.2))

  while_given : Gives n calyx.while_rest (λ f. IsControl f n)
  unfolding calyx.while_rest
  while_given = gives_pair operand_given (gives_pair comb_given block (λ r. IfThere IsName r.0 × IsBlock r.1 n) (λ x y p q. (p, q))) (λ f. IsControl f n) (λ x y p q. (p, q.0, q.1))

  static_if_given : Gives n calyx.static_if_rest (IsStatic n)
  unfolding calyx.static_if_rest
  static_if_given = gives_pair operand_given branches_given (IsStatic n) (λ x y p q. λ length h. (h, p, q.0, q.1))

  static_rest_given : Gives n calyx.static_rest (IsStatic n)
  unfolding calyx.static_rest
  static_rest_given =
      gives_choice (gives_behind t.Seq (gives_mapped calyx.static_seq_of marked_given (IsStatic n) (λ r p. λ length h. (h, p.0, p.1))))
      (gives_choice (gives_behind t.Par (gives_mapped calyx.static_par_of marked_given (IsStatic n) (λ r p. λ length h. (h, p.0, p.1))))
      (gives_choice (gives_behind t.If static_if_given)
      (gives_choice (gives_behind t.Repeat (gives_mapped calyx.static_repeat_of counted_given (IsStatic n) (λ r p. λ length h. (h, p.0, p.1))))
      (gives_behind t.Invoke (gives_mapped calyx.static_invoke_of called_given (IsStatic n) (λ r p. λ length h. (h, p.0, p.1, p.2)))))))

  static_given : Gives n calyx.static_statement (IsForm n)
  unfolding calyx.static_statement calyx.static_form
  static_given = gives_pair (sign_given t.Static) (gives_pair optional_length_given static_rest_given (λ f. IsControl f n) (λ length f p q. q length p)) (IsForm n) (λ x y p q. q)

  form_given : Gives n calyx.form (IsForm n)
  unfolding calyx.form calyx.enable calyx.seq calyx.par calyx.if_form calyx.while_form calyx.repeat calyx.invoke
  form_given =
      gives_choice (gives_pair name_given (gives_before marks_given t.Semicolon) (IsForm n) (λ x y p q. (p, q)))
      (gives_choice (gives_pair (sign_given t.Seq) marked_given (IsForm n) (λ x y p q. (q.0, q.1)))
      (gives_choice (gives_pair (sign_given t.Par) marked_given (IsForm n) (λ x y p q. (q.0, q.1)))
      (gives_choice (gives_pair (sign_given t.If) if_given (IsForm n) (λ x y p q. q))
      (gives_choice (gives_pair (sign_given t.While) while_given (IsForm n) (λ x y p q. q))
      (gives_choice (gives_pair (sign_given t.Repeat) counted_given (IsForm n) (λ x y p q. (q.0, q.1)))
      (gives_choice (gives_pair (sign_given t.Invoke) called_given (IsForm n) (λ x y p q. (q.0, q.1, q.2)))
      static_given))))))

  statement_given : Gives n calyx.statement (λ s. IsStatement s n)
  unfolding calyx.statement
  statement_given = gives_pair attributes_given form_given (λ s. IsStatement s n) (λ x y p q. (p, q))

  statements_given : Gives n calyx.statements (AllByRecursion (λ s. IsStatement s n))
  unfolding calyx.statements
  statements_given = gives_many statement_given

  braces_given : Gives n (calyx.nest grammars.Braces) (λ b. IsBlock b (suc n))
  unfolding calyx.nest
  braces_given = gives_pair (sign_given t.OpenBrace) (gives_before statements_given t.CloseBrace) (λ b. IsBlock b (suc n)) (λ x ss p q. all_statements n ss q)

pub block_given : (n : ℕ) → Gives n calyx.block (λ b. IsBlock b n)
unfolding calyx.block
block_given zero = gives_none grammars.Braces (λ b. IsBlock b zero)
block_given (suc n) = gives_deeper {m = grammars.Braces} (braces_given (block_given n))
