-- A worked rewriting of control: a seq of one part is that part. Static control stays as it is.
use Rattle.cx_meaning.specs.Designs.{PlainForm, Empty, Enable, Seq, Par, If, While, Repeat, StaticSeq, StaticPar, StaticIf, StaticRepeat, Timed, PlainStatement, Placed, PlainStatements, no_statements, a_statement}

abbrev mutual
  pub unwrapped_form : PlainForm → PlainForm
  unwrapped_form Empty = Empty
  unwrapped_form (Enable g) = Enable g
  unwrapped_form (Seq no_statements) = Seq no_statements
  unwrapped_form (Seq (a_statement (Placed form place) no_statements)) = unwrapped_form form
  unwrapped_form (Seq (a_statement first (a_statement next rest))) =
      Seq (a_statement (unwrapped first) (a_statement (unwrapped next) (all_unwrapped rest)))
  unwrapped_form (Par arms) = Par (all_unwrapped arms)
  unwrapped_form (If test comb a b) = If test comb (unwrapped a) (unwrapped b)
  unwrapped_form (While test comb a) = While test comb (unwrapped a)
  unwrapped_form (Repeat count a) = Repeat count (unwrapped a)
  unwrapped_form (StaticSeq length parts) = StaticSeq length parts
  unwrapped_form (StaticPar length arms) = StaticPar length arms
  unwrapped_form (StaticIf length test a b) = StaticIf length test a b
  unwrapped_form (StaticRepeat length count a) = StaticRepeat length count a
  unwrapped_form (Timed k) = Timed k

  pub unwrapped : PlainStatement → PlainStatement
  unwrapped (Placed form place) = Placed (unwrapped_form form) place

  pub all_unwrapped : PlainStatements → PlainStatements
  all_unwrapped no_statements = no_statements
  all_unwrapped (a_statement s ss) = a_statement (unwrapped s) (all_unwrapped ss)
