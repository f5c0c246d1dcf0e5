-- Control in which ports are moved and each static invoke becomes what is given for its number.
use Rattle.std.specs.Prelude.{ℕ}
use Rattle.cx_meaning.specs.declared.ports.PortRef.{PortRef}
use Rattle.cx_meaning.specs.Designs.{PlainForm, Empty, Enable, Seq, Par, If, While, Repeat, StaticSeq, StaticPar, StaticIf, StaticRepeat, Timed, PlainStatement, Placed, PlainStatements, no_statements, a_statement, PlainComponent}
use Rattle.cx_rewrites.specs.Moving.{moved_port}
use Rattle.cx_flattening.specs.Events.{the_invoke}
use Rattle.cx_flattening.specs.Flattened.{Kids, kid_at, inlined}

module _ (move : PortRef → PortRef) (inline : ℕ → PlainForm) where
  abbrev mutual
    pub form_by : PlainForm → PlainForm
    form_by Empty = Empty
    form_by (Enable g) = Enable g
    form_by (Seq ss) = Seq (statements_by ss)
    form_by (Par arms) = Par (statements_by arms)
    form_by (If test comb a b) = If (moved_port move test) comb (statement_by a) (statement_by b)
    form_by (While test comb a) = While (moved_port move test) comb (statement_by a)
    form_by (Repeat count a) = Repeat count (statement_by a)
    form_by (StaticSeq length ss) = StaticSeq length (statements_by ss)
    form_by (StaticPar length arms) = StaticPar length (statements_by arms)
    form_by (StaticIf length test a b) = StaticIf length (moved_port move test) (statement_by a) (statement_by b)
    form_by (StaticRepeat length count a) = StaticRepeat length count (statement_by a)
    form_by (Timed k) = inline k

    pub statement_by : PlainStatement → PlainStatement
    statement_by (Placed form place) = Placed (form_by form) place

    pub statements_by : PlainStatements → PlainStatements
    statements_by no_statements = no_statements
    statements_by (a_statement s ss) = a_statement (statement_by s) (statements_by ss)

-- what a static invoke of a component becomes
abbrev pub inlined_at : Kids → PlainComponent → ℕ → PlainForm
inlined_at kids part k = inlined kids part (kid_at kids (the_invoke part k).cell) k (the_invoke part k)
