-- Static control: what may stand in it, and counts of occurrences before repetition.
use Rattle.std.specs.Prelude.{ℕ, ◌+◌, Bool, true, false, ◌&&◌, is_some, List, [], ◌∷◌, Option, Some, None, slice_get}
use Rattle.cx_meaning.specs.Designs.{PlainInvoke, PlainComponent, PlainForm, Empty, Enable, Seq, Par, If, While, Repeat, StaticSeq, StaticPar, StaticIf, StaticRepeat, Timed, PlainStatement, Placed, PlainStatements, no_statements, a_statement}
use Rattle.cx_meaning.specs.Islands.{group_length}
use Rattle.cx_rules.specs.Items.{Context, Dynamic, InStatic, Branch, Amiss, Visited}

-- a static seq, par, if or repeat
abbrev pub is_static : PlainForm → Bool
is_static Empty = false
is_static (Enable g) = false
is_static (Seq parts) = false
is_static (Par arms) = false
is_static (If test comb a b) = false
is_static (While test comb a) = false
is_static (Repeat count a) = false
is_static (StaticSeq length parts) = true
is_static (StaticPar length arms) = true
is_static (StaticIf length test a b) = true
is_static (StaticRepeat length count a) = true
is_static (Timed k) = false

abbrev pub is_branch : Context → Bool
is_branch Dynamic = false
is_branch InStatic = false
is_branch Branch = true
is_branch Amiss = false

abbrev pub is_in_static : Context → Bool
is_in_static Dynamic = false
is_in_static InStatic = true
is_in_static Branch = true
is_in_static Amiss = false

-- MAY STAND IN STATIC CONTROL: a static statement, the enable of a static group, and as a branch of a static if the empty one
-- and a static invoke where the word static stands at it
abbrev pub is_written : Option PlainInvoke → Bool
is_written None = false
is_written (Some v) = v.written

abbrev pub may_stand : PlainComponent → Context → PlainForm → Bool
may_stand part context Empty = is_branch context
may_stand part context (Enable g) = is_some (group_length part g)
may_stand part context (Seq parts) = false
may_stand part context (Par arms) = false
may_stand part context (If test comb a b) = false
may_stand part context (While test comb a) = false
may_stand part context (Repeat count a) = false
may_stand part context (StaticSeq length parts) = true
may_stand part context (StaticPar length arms) = true
may_stand part context (StaticIf length test a b) = true
may_stand part context (StaticRepeat length count a) = true
may_stand part context (Timed k) = is_written (slice_get part.invokes k)

-- HAS A LENGTH: nothing in the static statement may not stand there, and no static invoke in it is of a cell of another kind
abbrev pub is_timed : Option PlainInvoke → Bool
is_timed None = false
is_timed (Some v) = v.written && is_some v.latency

abbrev mutual
  pub form_has_length : PlainComponent → Context → PlainForm → Bool
  form_has_length part context Empty = is_branch context
  form_has_length part context (Enable g) = is_some (group_length part g)
  form_has_length part context (Seq parts) = false
  form_has_length part context (Par arms) = false
  form_has_length part context (If test comb a b) = false
  form_has_length part context (While test comb a) = false
  form_has_length part context (Repeat count a) = false
  form_has_length part context (StaticSeq length parts) = all_have_length part parts
  form_has_length part context (StaticPar length arms) = all_have_length part arms
  form_has_length part context (StaticIf length test a b) = has_length part Branch a && has_length part Branch b
  form_has_length part context (StaticRepeat length count a) = has_length part InStatic a
  form_has_length part context (Timed k) = is_timed (slice_get part.invokes k)

  pub has_length : PlainComponent → Context → PlainStatement → Bool
  has_length part context (Placed form place) = form_has_length part context form

  pub all_have_length : PlainComponent → PlainStatements → Bool
  all_have_length part no_statements = true
  all_have_length part (a_statement s ss) = has_length part InStatic s && all_have_length part ss

-- the length that is written, where there is one
abbrev pub written_length : PlainForm → Option ℕ
written_length Empty = None
written_length (Enable g) = None
written_length (Seq parts) = None
written_length (Par arms) = None
written_length (If test comb a b) = None
written_length (While test comb a) = None
written_length (Repeat count a) = None
written_length (StaticSeq length parts) = length
written_length (StaticPar length arms) = length
written_length (StaticIf length test a b) = length
written_length (StaticRepeat length count a) = length
written_length (Timed k) = None

-- an island: a static statement in dynamic control, or the enable of a static group there
abbrev pub is_island_form : PlainComponent → PlainForm → Bool
is_island_form part Empty = false
is_island_form part (Enable g) = is_some (group_length part g)
is_island_form part (Seq parts) = false
is_island_form part (Par arms) = false
is_island_form part (If test comb a b) = false
is_island_form part (While test comb a) = false
is_island_form part (Repeat count a) = false
is_island_form part (StaticSeq length parts) = true
is_island_form part (StaticPar length arms) = true
is_island_form part (StaticIf length test a b) = true
is_island_form part (StaticRepeat length count a) = true
is_island_form part (Timed k) = false

abbrev pub is_dynamic : Context → Bool
is_dynamic Dynamic = true
is_dynamic InStatic = false
is_dynamic Branch = false
is_dynamic Amiss = false

abbrev pub is_island : PlainComponent → Visited → Bool
is_island part v = is_dynamic v.context && is_island_form part v.form

-- OCCURRENCES BEFORE REPETITION: an enable of a static group counts 1, a static statement what its parts count together,
-- and a repeat what its body counts. What may not stand in static control counts 0
abbrev pub one_if : Bool → ℕ
one_if true = 1
one_if false = 0

abbrev mutual
  pub form_occurrences : PlainComponent → PlainForm → ℕ
  form_occurrences part Empty = 0
  form_occurrences part (Enable g) = one_if (is_some (group_length part g))
  form_occurrences part (Seq parts) = 0
  form_occurrences part (Par arms) = 0
  form_occurrences part (If test comb a b) = 0
  form_occurrences part (While test comb a) = 0
  form_occurrences part (Repeat count a) = 0
  form_occurrences part (StaticSeq length parts) = occurrences_in part parts
  form_occurrences part (StaticPar length arms) = occurrences_in part arms
  form_occurrences part (StaticIf length test a b) = occurrences part a + occurrences part b
  form_occurrences part (StaticRepeat length count a) = occurrences part a
  form_occurrences part (Timed k) = 0

  pub occurrences : PlainComponent → PlainStatement → ℕ
  occurrences part (Placed form place) = form_occurrences part form

  pub occurrences_in : PlainComponent → PlainStatements → ℕ
  occurrences_in part no_statements = 0
  occurrences_in part (a_statement s ss) = occurrences part s + occurrences_in part ss

abbrev pub island_occurrences : PlainComponent → Bool → PlainForm → ℕ
island_occurrences part true form = form_occurrences part form
island_occurrences part false form = 0

-- the occurrences of a list of statements that are islands
abbrev pub occurrences_of : PlainComponent → List Visited → ℕ
occurrences_of part [] = 0
occurrences_of part (v ∷ vs) = island_occurrences part (is_island part v) v.form + occurrences_of part vs
