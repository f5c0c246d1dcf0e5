-- A statement more is cut.
use Rattle.std.proofs.Common.{◌≡◌, ℕ, suc, ◌≤◌, arith, nat_eq, Bool, true, false, List, [], ◌∷◌, ◌++◌, length, refl, sym, ap, ◌∙◌, if◌then◌else◌}
use Rattle.cx_ast.specs.declared.statements.StatementItem.{StatementItem}
use Rattle.cx_ast.specs.PlainStatements.{PlainStatement, PlainStatements, NoStatements, StatementThen, plain_statement, plain_statements, statements_of}
use Rattle.cx_text.proofs.ListLaws.{snoc_length}
use Rattle.cx_promotion.specs.Rewriting.{PIECE, cut, close, is_run, promote_all, promote_statement}
use Rattle.cx_promote.specs.Cutting.{before}
use Rattle.cx_promote.proofs.ListLemmas.{mapped_push}

pub before_push : (done : List PlainStatement) (s : PlainStatement) (later : PlainStatements) → before (done ++ s ∷ []) later ≡ before done (StatementThen s later)
before_push [] s later = refl
before_push (d ∷ done) s later = ap (StatementThen d) (before_push done s later)

pub before_none : (done : List PlainStatement) → before done NoStatements ≡ statements_of done
before_none [] = refl
before_none (d ∷ done) = ap (StatementThen d) (before_none done)

module _ (long : List ℕ → Bool) (done closed piece : List PlainStatement) (s : PlainStatement) (later : PlainStatements) where
  -- what becomes of the open piece and a statement behind it
  abbrev chosen : Bool → Bool → PlainStatements
  chosen run full =
      if run
      then (if full then close long piece (cut long (s ∷ []) 1 later) else cut long (piece ++ (s ∷ [])) (suc (length piece)) later)
      else close long piece (StatementThen s (cut long [] 0 later))

  abbrev IsClosed : Type 0
  IsClosed = (others : PlainStatements) → before closed others ≡ before done (close long piece others)

  pub add_other : is_run long s ≡ false → IsClosed → before (closed ++ s ∷ []) (cut long [] 0 later) ≡ before done (cut long piece (length piece) (StatementThen s later))
  add_other other shut =
      before_push closed s (cut long [] 0 later) ∙ shut (StatementThen s (cut long [] 0 later))
      ∙ sym (ap (λ run. before done (chosen run (nat_eq (length piece) PIECE))) other)

  pub add_full : is_run long s ≡ true → nat_eq (length piece) PIECE ≡ true → IsClosed → before closed (cut long (s ∷ []) 1 later) ≡ before done (cut long piece (length piece) (StatementThen s later))
  add_full run full shut =
      shut (cut long (s ∷ []) 1 later)
      ∙ sym (ap (λ b. before done (chosen b (nat_eq (length piece) PIECE))) run ∙ ap (λ b. before done (chosen true b)) full)

  pub add_open : is_run long s ≡ true → nat_eq (length piece) PIECE ≡ false
      → before done (cut long (piece ++ s ∷ []) (length (piece ++ s ∷ [])) later) ≡ before done (cut long piece (length piece) (StatementThen s later))
  add_open run room =
      ap (λ n. before done (cut long (piece ++ s ∷ []) n later)) (snoc_length piece s)
      ∙ sym (ap (λ b. before done (chosen b (nat_eq (length piece) PIECE))) run ∙ ap (λ b. before done (chosen true b)) room)

-- A statement is put behind those that are done
pub before_pushed : (new old : List StatementItem) (x : StatementItem) (later : PlainStatements) → new ≡ old ++ x ∷ []
    → before (plain_statements new) later ≡ before (plain_statements old) (StatementThen (plain_statement x) later)
before_pushed new old x later e =
    ap (λ ss. before ss later) (mapped_push plain_statement new old x e) ∙ before_push (plain_statements old) (plain_statement x) later

-- A piece of one, and of none
module _ (long : List ℕ → Bool) (later : PlainStatements) (items : List StatementItem) where
  pub closed_one : (rest : List StatementItem) (x : StatementItem) → items ≡ rest ++ x ∷ [] → length items ≤ 1 → StatementThen (plain_statement x) later ≡ close long (plain_statements items) later
  closed_one [] x e short = sym (ap (λ ss. close long (plain_statements ss) later) e)
  closed_one (y ∷ rest) x e short = let two : length items ≡ suc (suc (length rest)) = ap length e ∙ ap suc (snoc_length rest x) in absurd (omega arith)

  pub closed_none : items ≡ [] → later ≡ close long (plain_statements items) later
  closed_none e = sym (ap (λ ss. close long (plain_statements ss) later) e)

-- A statement more is promoted
pub promoted_push : (long : List ℕ → Bool) (below : ℕ) (new old left rest : List StatementItem) (item x : StatementItem) (whole : PlainStatements)
    → new ≡ old ++ x ∷ [] → plain_statement x ≡ promote_statement long below (plain_statement item) → left ≡ item ∷ rest
    → before (plain_statements old) (promote_all long below (statements_of (plain_statements left))) ≡ whole
    → before (plain_statements new) (promote_all long below (statements_of (plain_statements rest))) ≡ whole
promoted_push long below new old left rest item x whole e is there so_far =
    let after = promote_all long below (statements_of (plain_statements rest)) in
    before_pushed new old x after e
    ∙ ap (λ s. before (plain_statements old) (StatementThen s after)) is
    ∙ sym (ap (λ ss. before (plain_statements old) (promote_all long below (statements_of (plain_statements ss)))) there)
    ∙ so_far
