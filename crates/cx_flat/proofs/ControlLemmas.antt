-- Statements one by one; control whose invokes become what is given is flat control.
use Rattle.std.proofs.Common.{◌≡◌, ℕ, List, [], ◌∷◌, map, refl, ap, ◌∙◌}
use Rattle.cx_meaning.specs.declared.ports.PortRef.{PortRef}
use Rattle.cx_meaning.specs.Designs.{PlainForm, Empty, Enable, Seq, Par, If, While, Repeat, StaticSeq, StaticPar, StaticIf, StaticRepeat, Timed, PlainStatement, Placed, PlainStatements, no_statements, a_statement, statements_of, PlainComponent}
use Rattle.cx_rewrites.specs.Moving.{moved_port}
use Rattle.cx_flattening.specs.Flattened.{Kids, own_port, flat_form, flat_statement, flat_statements}
use Rattle.cx_flat.specs.Controls.{form_by, statement_by, statements_by, inlined_at}

pub statements_of-by : (move : PortRef → PortRef) (inline : ℕ → PlainForm) (ss : List PlainStatement) → statements_of (map (statement_by move inline) ss) ≡ statements_by move inline (statements_of ss)
statements_of-by move inline [] = refl
statements_of-by move inline (s ∷ ss) = ap (a_statement (statement_by move inline s)) (statements_of-by move inline ss)

module _ (kids : Kids) (part : PlainComponent) where
  mutual
    form-is : (form : PlainForm) → form_by (own_port kids part) (inlined_at kids part) form ≡ flat_form kids part form
    form-is Empty = refl
    form-is (Enable g) = refl
    form-is (Seq ss) = ap Seq (statements-are ss)
    form-is (Par ss) = ap Par (statements-are ss)
    form-is (If test comb a b) =
        ap (λ x. If (moved_port (own_port kids part) test) comb x (statement_by (own_port kids part) (inlined_at kids part) b)) (statement-is a)
        ∙ ap (If (moved_port (own_port kids part) test) comb (flat_statement kids part a)) (statement-is b)
    form-is (While test comb a) = ap (While (moved_port (own_port kids part) test) comb) (statement-is a)
    form-is (Repeat count a) = ap (Repeat count) (statement-is a)
    form-is (StaticSeq length ss) = ap (StaticSeq length) (statements-are ss)
    form-is (StaticPar length ss) = ap (StaticPar length) (statements-are ss)
    form-is (StaticIf length test a b) =
        ap (λ x. StaticIf length (moved_port (own_port kids part) test) x (statement_by (own_port kids part) (inlined_at kids part) b)) (statement-is a)
        ∙ ap (StaticIf length (moved_port (own_port kids part) test) (flat_statement kids part a)) (statement-is b)
    form-is (StaticRepeat length count a) = ap (StaticRepeat length count) (statement-is a)
    form-is (Timed k) = refl

    -- FLAT CONTROL
    pub statement-is : (s : PlainStatement) → statement_by (own_port kids part) (inlined_at kids part) s ≡ flat_statement kids part s
    statement-is (Placed form place) = ap (λ f. Placed f place) (form-is form)

    statements-are : (ss : PlainStatements) → statements_by (own_port kids part) (inlined_at kids part) ss ≡ flat_statements kids part ss
    statements-are no_statements = refl
    statements-are (a_statement s ss) =
        ap (λ x. a_statement x (statements_by (own_port kids part) (inlined_at kids part) ss)) (statement-is s) ∙ ap (a_statement (flat_statement kids part s)) (statements-are ss)
