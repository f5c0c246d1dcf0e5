-- Statements of statements.
use Rattle.std.proofs.Common.{inl, inr, List, ◌++◌, sym, subst, refl}
use Rattle.cx_text.proofs.MemberLaws.{in_left, in_right, of_joined}
use Rattle.cx_meaning.specs.Designs.{PlainForm, Empty, Enable, Seq, Par, If, While, Repeat, StaticSeq, StaticPar, StaticIf, StaticRepeat, Timed, PlainStatement, Placed, PlainStatements, no_statements, a_statement}
use Rattle.cx_text.specs.Members.{In}
use Rattle.cx_rules.specs.Items.{Context, Dynamic, InStatic, Branch, below_dynamic, Visited, visit, visit_parts, visit_all}

-- a statement of dynamic control, as it is visited
abbrev pub as_visited : PlainStatement → Visited
as_visited (Placed form place) = record { context = Dynamic; form = form; place = place }

pub itself : (s : PlainStatement) → In (visit Dynamic s) (as_visited s)
itself (Placed form place) = inl refl

-- what holds of each in a list
abbrev pub AllHold : (Visited → Type 0) → List Visited → Type 0
AllHold P list = (v : Visited) → In list v → P v

pub first_hold : {P : Visited → Type 0} (xs ys : List Visited) → AllHold P (xs ++ ys) → AllHold P xs
first_hold xs ys h v i = h v (in_left xs ys v i)

pub rest_hold : {P : Visited → Type 0} (xs ys : List Visited) → AllHold P (xs ++ ys) → AllHold P ys
rest_hold xs ys h v i = h v (in_right xs ys v i)

-- a statement that is visited, as a statement again
abbrev pub visits : Visited → List Visited
visits v = visit v.context (Placed v.form v.place)

-- what a visited statement visits is visited
mutual
  visited_parts : (context : Context) (form : PlainForm) (v w : Visited) → In (visit_parts context form) v → In (visits v) w → In (visit_parts context form) w
  visited_parts context Empty v w i j = absurd i
  visited_parts context (Enable g) v w i j = absurd i
  visited_parts context (Seq parts) v w i j = visited_all (below_dynamic context) parts v w i j
  visited_parts context (Par arms) v w i j = visited_all (below_dynamic context) arms v w i j
  visited_parts context (If test comb a b) v w i j =
      of_joined (visit (below_dynamic context) a) (visit (below_dynamic context) b) v i
      (λ k. in_left (visit (below_dynamic context) a) (visit (below_dynamic context) b) w (visited (below_dynamic context) a v w k j))
      (λ k. in_right (visit (below_dynamic context) a) (visit (below_dynamic context) b) w (visited (below_dynamic context) b v w k j))
  visited_parts context (While test comb a) v w i j = visited (below_dynamic context) a v w i j
  visited_parts context (Repeat count a) v w i j = visited (below_dynamic context) a v w i j
  visited_parts context (StaticSeq length parts) v w i j = visited_all InStatic parts v w i j
  visited_parts context (StaticPar length arms) v w i j = visited_all InStatic arms v w i j
  visited_parts context (StaticIf length test a b) v w i j =
      of_joined (visit Branch a) (visit Branch b) v i
      (λ k. in_left (visit Branch a) (visit Branch b) w (visited Branch a v w k j))
      (λ k. in_right (visit Branch a) (visit Branch b) w (visited Branch b v w k j))
  visited_parts context (StaticRepeat length count a) v w i j = visited InStatic a v w i j
  visited_parts context (Timed k) v w i j = absurd i

  pub visited : (context : Context) (s : PlainStatement) (v w : Visited) → In (visit context s) v → In (visits v) w → In (visit context s) w
  visited context (Placed form place) v w (inl e) j = subst (λ x. In (visits x) w) (sym e) j
  visited context (Placed form place) v w (inr i) j = inr (visited_parts context form v w i j)

  visited_all : (context : Context) (ss : PlainStatements) (v w : Visited) → In (visit_all context ss) v → In (visits v) w → In (visit_all context ss) w
  visited_all context no_statements v w i j = absurd i
  visited_all context (a_statement s ss) v w i j =
      of_joined (visit context s) (visit_all context ss) v i
      (λ k. in_left (visit context s) (visit_all context ss) w (visited context s v w k j))
      (λ k. in_right (visit context s) (visit_all context ss) w (visited_all context ss v w k j))
