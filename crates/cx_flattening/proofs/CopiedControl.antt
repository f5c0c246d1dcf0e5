-- Control that is copied twice is copied by both maps; a copy enables the copies of the groups.
use Rattle.std.proofs.Common.{◌≡◌, ℕ, Option, Some, None, refl, ap, ◌∙◌}
use Rattle.cx_meaning.specs.declared.ports.PortRef.{PortRef}
use Rattle.cx_meaning.specs.Designs.{PlainForm, Empty, Enable, Seq, Par, If, While, Repeat, StaticSeq, StaticPar, StaticIf, StaticRepeat, Timed, PlainStatement, Placed, PlainStatements, no_statements, a_statement}
use Rattle.cx_rewrites.specs.Moving.{moved_port}
use Rattle.cx_flattening.specs.Copies.{copied_comb, copied_form, copied_statement, copied_statements}

comb_twice : (r q : ℕ → ℕ) (comb : Option ℕ) → copied_comb r (copied_comb q comb) ≡ copied_comb (λ n. r (q n)) comb
comb_twice r q None = refl
comb_twice r q (Some g) = refl

module _ (f g : PortRef → PortRef) (r q : ℕ → ℕ) where
  mutual
    pub form_twice : (form : PlainForm) → copied_form f r (copied_form g q form) ≡ copied_form (λ p. f (g p)) (λ n. r (q n)) form
    form_twice Empty = refl
    form_twice (Enable n) = refl
    form_twice (Seq parts) = ap Seq (statements_twice parts)
    form_twice (Par arms) = ap Par (statements_twice arms)
    form_twice (If test comb a b) =
        ap (λ c. If (moved_port (λ p. f (g p)) test) c (copied_statement f r (copied_statement g q a)) (copied_statement f r (copied_statement g q b))) (comb_twice r q comb)
        ∙ ap (λ x. If (moved_port (λ p. f (g p)) test) (copied_comb (λ n. r (q n)) comb) x (copied_statement f r (copied_statement g q b))) (statement_twice a)
        ∙ ap (If (moved_port (λ p. f (g p)) test) (copied_comb (λ n. r (q n)) comb) (copied_statement (λ p. f (g p)) (λ n. r (q n)) a)) (statement_twice b)
    form_twice (While test comb a) = ap (λ c. While (moved_port (λ p. f (g p)) test) c (copied_statement f r (copied_statement g q a))) (comb_twice r q comb) ∙ ap (While (moved_port (λ p. f (g p)) test) (copied_comb (λ n. r (q n)) comb)) (statement_twice a)
    form_twice (Repeat count a) = ap (Repeat count) (statement_twice a)
    form_twice (StaticSeq length parts) = ap (StaticSeq length) (statements_twice parts)
    form_twice (StaticPar length arms) = ap (StaticPar length) (statements_twice arms)
    form_twice (StaticIf length test a b) =
        ap (λ x. StaticIf length (moved_port (λ p. f (g p)) test) x (copied_statement f r (copied_statement g q b))) (statement_twice a)
        ∙ ap (StaticIf length (moved_port (λ p. f (g p)) test) (copied_statement (λ p. f (g p)) (λ n. r (q n)) a)) (statement_twice b)
    form_twice (StaticRepeat length count a) = ap (StaticRepeat length count) (statement_twice a)
    form_twice (Timed k) = refl

    pub statement_twice : (s : PlainStatement) → copied_statement f r (copied_statement g q s) ≡ copied_statement (λ p. f (g p)) (λ n. r (q n)) s
    statement_twice (Placed form place) = ap (λ x. Placed x place) (form_twice form)

    statements_twice : (ss : PlainStatements) → copied_statements f r (copied_statements g q ss) ≡ copied_statements (λ p. f (g p)) (λ n. r (q n)) ss
    statements_twice no_statements = refl
    statements_twice (a_statement s ss) =
        ap (λ x. a_statement x (copied_statements f r (copied_statements g q ss))) (statement_twice s) ∙ ap (a_statement (copied_statement (λ p. f (g p)) (λ n. r (q n)) s)) (statements_twice ss)
