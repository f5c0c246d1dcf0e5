-- The ports of the static ifs in a statement of a component are tests of statements of it.
use Rattle.std.proofs.Common.{inl, inr, List, ◌∷◌, ◌++◌, refl, sym, subst}
use Rattle.cx_text.proofs.MemberLaws.{in_left, in_right, of_joined}
use Rattle.cx_text.specs.declared.places.Place.{Place}
use Rattle.cx_meaning.specs.declared.ports.PortRef.{PortRef}
use Rattle.cx_meaning.specs.Designs.{PlainForm, Empty, Enable, Seq, Par, If, While, Repeat, StaticSeq, StaticPar, StaticIf, StaticRepeat, Timed, PlainStatement, Placed, PlainStatements, no_statements, a_statement}
use Rattle.cx_text.specs.Members.{In}
use Rattle.cx_rules.specs.Items.{Context, InStatic, Branch, below_dynamic, Visited, visit, visit_parts, visit_all}
use Rattle.cx_interp_islands.specs.Asked.{form_tests, tests_of, tests_in, IsTestIn}

test_left : (xs ys : List Visited) (p : PortRef) → IsTestIn xs p → IsTestIn (xs ++ ys) p
test_left xs ys p t = (t.0, t.1, in_left xs ys t.0 t.2, t.3, t.4)

test_right : (xs ys : List Visited) (p : PortRef) → IsTestIn ys p → IsTestIn (xs ++ ys) p
test_right xs ys p t = (t.0, t.1, in_right xs ys t.0 t.2, t.3, t.4)

test_later : (v : Visited) (xs : List Visited) (p : PortRef) → IsTestIn xs p → IsTestIn (v ∷ xs) p
test_later v xs p t = (t.0, t.1, inr t.2, t.3, t.4)

-- the ports of a static statement are tests of what it visits
mutual
  own_test : (context : Context) (form : PlainForm) (place : Place) (p : PortRef) → In (form_tests form) p → IsTestIn (visit context (Placed form place)) p
  own_test context Empty place p i = absurd i
  own_test context (Enable g) place p i = absurd i
  own_test context (Seq parts) place p i = absurd i
  own_test context (Par arms) place p i = absurd i
  own_test context (If test comb a b) place p i = absurd i
  own_test context (While test comb a) place p i = absurd i
  own_test context (Repeat count a) place p i = absurd i
  own_test context (StaticSeq length parts) place p i = test_later _ (visit_all InStatic parts) p (all_tests parts p i)
  own_test context (StaticPar length arms) place p i = test_later _ (visit_all InStatic arms) p (all_tests arms p i)
  own_test context (StaticIf length test a b) place p (inl e) = (record { context = context; form = StaticIf length test a b; place = place }, test, inl refl, refl, e)
  own_test context (StaticIf length test a b) place p (inr i) =
      test_later _ (visit Branch a ++ visit Branch b) p
      (of_joined (tests_of a) (tests_of b) p i
      (λ k. test_left (visit Branch a) (visit Branch b) p (statement_test Branch a p k))
      (λ k. test_right (visit Branch a) (visit Branch b) p (statement_test Branch b p k)))
  own_test context (StaticRepeat length count a) place p i = test_later _ (visit InStatic a) p (statement_test InStatic a p i)
  own_test context (Timed k) place p i = absurd i

  statement_test : (context : Context) (s : PlainStatement) (p : PortRef) → In (tests_of s) p → IsTestIn (visit context s) p
  statement_test context (Placed form place) p i = own_test context form place p i

  all_tests : (ss : PlainStatements) (p : PortRef) → In (tests_in ss) p → IsTestIn (visit_all InStatic ss) p
  all_tests no_statements p i = absurd i
  all_tests (a_statement s ss) p i =
      of_joined (tests_of s) (tests_in ss) p i
      (λ k. test_left (visit InStatic s) (visit_all InStatic ss) p (statement_test InStatic s p k))
      (λ k. test_right (visit InStatic s) (visit_all InStatic ss) p (all_tests ss p k))

-- and so are those of each statement that is visited
module _ (v : Visited) (p : PortRef) (asked : In (form_tests v.form) p) where
  mutual
    parts_test : (context : Context) (form : PlainForm) → In (visit_parts context form) v → IsTestIn (visit_parts context form) p
    parts_test context Empty i = absurd i
    parts_test context (Enable g) i = absurd i
    parts_test context (Seq parts) i = each_test (below_dynamic context) parts i
    parts_test context (Par arms) i = each_test (below_dynamic context) arms i
    parts_test context (If test comb a b) i =
        of_joined (visit (below_dynamic context) a) (visit (below_dynamic context) b) v i
        (λ k. test_left (visit (below_dynamic context) a) (visit (below_dynamic context) b) p (visited_test (below_dynamic context) a k))
        (λ k. test_right (visit (below_dynamic context) a) (visit (below_dynamic context) b) p (visited_test (below_dynamic context) b k))
    parts_test context (While test comb a) i = visited_test (below_dynamic context) a i
    parts_test context (Repeat count a) i = visited_test (below_dynamic context) a i
    parts_test context (StaticSeq length parts) i = each_test InStatic parts i
    parts_test context (StaticPar length arms) i = each_test InStatic arms i
    parts_test context (StaticIf length test a b) i =
        of_joined (visit Branch a) (visit Branch b) v i
        (λ k. test_left (visit Branch a) (visit Branch b) p (visited_test Branch a k))
        (λ k. test_right (visit Branch a) (visit Branch b) p (visited_test Branch b k))
    parts_test context (StaticRepeat length count a) i = visited_test InStatic a i
    parts_test context (Timed k) i = absurd i

    pub visited_test : (context : Context) (s : PlainStatement) → In (visit context s) v → IsTestIn (visit context s) p
    visited_test context (Placed form place) (inl e) =
        own_test context form place p (subst (λ w. In (form_tests w.form) p) (sym e) asked)
    visited_test context (Placed form place) (inr i) = test_later _ (visit_parts context form) p (parts_test context form i)

    each_test : (context : Context) (ss : PlainStatements) → In (visit_all context ss) v → IsTestIn (visit_all context ss) p
    each_test context no_statements i = absurd i
    each_test context (a_statement s ss) i =
        of_joined (visit context s) (visit_all context ss) v i
        (λ k. test_left (visit context s) (visit_all context ss) p (visited_test context s k))
        (λ k. test_right (visit context s) (visit_all context ss) p (each_test context ss k))
