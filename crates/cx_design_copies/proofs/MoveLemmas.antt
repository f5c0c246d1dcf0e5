-- Parts of guards and of statements, moved and copied one by one; a copy in which each group stays.
use Rattle.std.proofs.Common.{◌≡◌, ◌∙◌, ℕ, List, [], ◌∷◌, Option, Some, None, map, refl, ap}
use Rattle.cx_meaning.specs.declared.ports.PortRef.{PortRef}
use Rattle.cx_meaning.specs.Designs.{PlainGuard, a_guard, guards_of, PlainForm, Empty, Enable, Seq, Par, If, While, Repeat, StaticSeq, StaticPar, StaticIf, StaticRepeat, Timed, PlainStatement, Placed, PlainStatements, no_statements, a_statement, statements_of}
use Rattle.cx_rewrites.specs.Moving.{moved_port, moved_guard, moved_guards, moved_form, moved_statement, moved_statements}
use Rattle.cx_flattening.specs.Copies.{copied_comb, copied_form, copied_statement, copied_statements}

module _ (move : PortRef → PortRef) where
  pub guards_of-moved : (gs : List PlainGuard) → guards_of (map (moved_guard move) gs) ≡ moved_guards move (guards_of gs)
  guards_of-moved [] = refl
  guards_of-moved (g ∷ gs) = ap (a_guard (moved_guard move g)) (guards_of-moved gs)

  pub statements_of-copied : (copy : ℕ → ℕ) (ss : List PlainStatement) → statements_of (map (copied_statement move copy) ss) ≡ copied_statements move copy (statements_of ss)
  statements_of-copied copy [] = refl
  statements_of-copied copy (s ∷ ss) = ap (a_statement (copied_statement move copy s)) (statements_of-copied copy ss)

  abbrev stays : ℕ → ℕ
  stays g = g

  comb-stays : (comb : Option ℕ) → copied_comb stays comb ≡ comb
  comb-stays None = refl
  comb-stays (Some g) = refl

  mutual
    form-stays : (form : PlainForm) → copied_form move stays form ≡ moved_form move form
    form-stays Empty = refl
    form-stays (Enable g) = refl
    form-stays (Seq parts) = ap Seq (statements-stay parts)
    form-stays (Par arms) = ap Par (statements-stay arms)
    form-stays (If test comb a b) =
        ap (λ c. If (moved_port move test) c (copied_statement move stays a) (copied_statement move stays b)) (comb-stays comb)
        ∙ ap (λ x. If (moved_port move test) comb x (copied_statement move stays b)) (statement-stays a) ∙ ap (If (moved_port move test) comb (moved_statement move a)) (statement-stays b)
    form-stays (While test comb a) = ap (λ c. While (moved_port move test) c (copied_statement move stays a)) (comb-stays comb) ∙ ap (While (moved_port move test) comb) (statement-stays a)
    form-stays (Repeat count a) = ap (Repeat count) (statement-stays a)
    form-stays (StaticSeq length parts) = ap (StaticSeq length) (statements-stay parts)
    form-stays (StaticPar length arms) = ap (StaticPar length) (statements-stay arms)
    form-stays (StaticIf length test a b) =
        ap (λ x. StaticIf length (moved_port move test) x (copied_statement move stays b)) (statement-stays a) ∙ ap (StaticIf length (moved_port move test) (moved_statement move a)) (statement-stays b)
    form-stays (StaticRepeat length count a) = ap (StaticRepeat length count) (statement-stays a)
    form-stays (Timed k) = refl

    pub statement-stays : (s : PlainStatement) → copied_statement move stays s ≡ moved_statement move s
    statement-stays (Placed form place) = ap (λ f. Placed f place) (form-stays form)

    statements-stay : (ss : PlainStatements) → copied_statements move stays ss ≡ moved_statements move ss
    statements-stay no_statements = refl
    statements-stay (a_statement s ss) = ap (λ x. a_statement x (copied_statements move stays ss)) (statement-stays s) ∙ ap (a_statement (moved_statement move s)) (statements-stay ss)
