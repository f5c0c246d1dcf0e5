-- How deep control nests: a statement without parts is one level.
use Rattle.std.specs.Prelude.{ℕ, ◌-◌, Bool, true, nat_le, ◌&&◌}
use Rattle.cx_meaning.specs.Designs.{PlainForm, Empty, Enable, Seq, Par, If, While, Repeat, StaticSeq, StaticPar, StaticIf, StaticRepeat, Timed, PlainStatement, Placed, PlainStatements, no_statements, a_statement}

abbrev mutual
  pub fits : ℕ → PlainStatement → Bool
  fits n (Placed form place) = nat_le 1 n && form_fits (n - 1) form

  pub form_fits : ℕ → PlainForm → Bool
  form_fits n Empty = true
  form_fits n (Enable g) = true
  form_fits n (Seq parts) = all_fit n parts
  form_fits n (Par arms) = all_fit n arms
  form_fits n (If test comb a b) = fits n a && fits n b
  form_fits n (While test comb a) = fits n a
  form_fits n (Repeat count a) = fits n a
  form_fits n (StaticSeq length parts) = all_fit n parts
  form_fits n (StaticPar length arms) = all_fit n arms
  form_fits n (StaticIf length test a b) = fits n a && fits n b
  form_fits n (StaticRepeat length count a) = fits n a
  form_fits n (Timed k) = true

  pub all_fit : ℕ → PlainStatements → Bool
  all_fit n no_statements = true
  all_fit n (a_statement s ss) = fits n s && all_fit n ss
