-- Room for what one cycle of an island needs.
use Rattle.std.specs.Prelude.{ℕ, ◌+◌, Bool, false, List, get_or}
use Rattle.cx_meaning.specs.Designs.{PlainForm, Empty, Enable, Seq, Par, If, While, Repeat, StaticSeq, StaticPar, StaticIf, StaticRepeat, Timed, PlainStatement, Placed, PlainStatements, no_statements, a_statement}
use Rattle.cx_laws.specs.Samples.{Samples}

-- the enables of groups in a static statement: no cycle has more of them active
abbrev mutual
  pub form_groups : PlainForm → ℕ
  form_groups Empty = 0
  form_groups (Enable g) = 1
  form_groups (Seq parts) = 0
  form_groups (Par arms) = 0
  form_groups (If test comb a b) = 0
  form_groups (While test comb a) = 0
  form_groups (Repeat count a) = 0
  form_groups (StaticSeq length parts) = groups_in parts
  form_groups (StaticPar length arms) = groups_in arms
  form_groups (StaticIf length test a b) = groups_of a + groups_of b
  form_groups (StaticRepeat length count a) = groups_of a
  form_groups (Timed k) = 0

  pub groups_of : PlainStatement → ℕ
  groups_of (Placed form place) = form_groups form

  pub groups_in : PlainStatements → ℕ
  groups_in no_statements = 0
  groups_in (a_statement s ss) = groups_of s + groups_in ss

-- the samples that a list holds
abbrev pub samples_of : List Bool → Samples
samples_of list n = get_or list n false
