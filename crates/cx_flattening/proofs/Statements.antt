-- The groups, the static invokes and the conditions of a statement stand in statements inside it.
use Rattle.std.proofs.Common.{◌≡◌, ℕ, inl, inr, ⊎_elim, ◌⊎◌, List, ◌++◌, Option, Some, None, refl, ap}
use Rattle.cx_text.proofs.MemberLaws.{in_either, in_left, in_right}
use Rattle.cx_meaning.specs.declared.ports.PortRef.{PortRef}
use Rattle.cx_meaning.specs.declared.ports.PlacedPort.{PlacedPort}
use Rattle.cx_meaning.specs.Designs.{PlainForm, Empty, Enable, Seq, Par, If, While, Repeat, StaticSeq, StaticPar, StaticIf, StaticRepeat, Timed, PlainStatement, Placed, PlainStatements, no_statements, a_statement}
use Rattle.cx_meaning.specs.Control.{with_comb, groups_in, groups_of, groups_in_all}
use Rattle.cx_text.specs.Members.{In}
use Rattle.cx_rules.specs.Items.{Context, InStatic, Branch, below_dynamic, Visited, visit, visit_parts, visit_all, test_in}
use Rattle.cx_flattening.specs.Controlled.{timed_in, timed_of, timed_all, tested_in, tested_of, tested_all}

-- a statement among some whose form is of this kind
abbrev pub Among : (PlainForm → Type 0) → List Visited → Type 0
Among P vs = (v : Visited) × In vs v × P v.form

pub among_left : (P : PlainForm → Type 0) (vs ws : List Visited) → Among P vs → Among P (vs ++ ws)
among_left P vs ws r = (r.0, in_left vs ws r.0 r.1, r.2)

pub among_right : (P : PlainForm → Type 0) (vs ws : List Visited) → Among P ws → Among P (vs ++ ws)
among_right P vs ws r = (r.0, in_right vs ws r.0 r.1, r.2)

-- itself, or one inside
abbrev Here : (PlainForm → Type 0) → Context → PlainForm → Type 0
Here P context form = P form ⊎ Among P (visit_parts context form)

-- a group that a form names by itself
abbrev pub comb_of : PlainForm → Option ℕ
comb_of Empty = None
comb_of (Enable g) = None
comb_of (Seq parts) = None
comb_of (Par arms) = None
comb_of (If test comb a b) = comb
comb_of (While test comb a) = comb
comb_of (Repeat count a) = None
comb_of (StaticSeq length parts) = None
comb_of (StaticPar length arms) = None
comb_of (StaticIf length test a b) = None
comb_of (StaticRepeat length count a) = None
comb_of (Timed k) = None

abbrev pub NamesGroup : ℕ → PlainForm → Type 0
NamesGroup g form = (form ≡ Enable g) ⊎ (comb_of form ≡ Some g)

module _ (g : ℕ) where
  abbrev P : PlainForm → Type 0
  P = NamesGroup g

  of_comb : (comb : Option ℕ) (gs : List ℕ) → In (with_comb comb gs) g → (comb ≡ Some g) ⊎ In gs g
  of_comb None gs i = inr i
  of_comb (Some h) gs (inl e) = inl (ap Some e)
  of_comb (Some h) gs (inr i) = inr i

  mutual
    group_in : (context : Context) (form : PlainForm) → In (groups_in form) g → Here P context form
    group_in context Empty i = absurd i
    group_in context (Enable h) (inl e) = inl (inl (ap Enable e))
    group_in context (Enable h) (inr i) = absurd i
    group_in context (Seq parts) i = inr (group_all (below_dynamic context) parts i)
    group_in context (Par arms) i = inr (group_all (below_dynamic context) arms i)
    group_in context (If test comb a b) i =
        ⊎_elim
        (λ e. inl (inr e))
        (λ j. inr (⊎_elim
        (λ k. among_left P (visit (below_dynamic context) a) (visit (below_dynamic context) b) (group_one (below_dynamic context) a k))
        (λ k. among_right P (visit (below_dynamic context) a) (visit (below_dynamic context) b) (group_one (below_dynamic context) b k))
        (in_either (groups_of a) (groups_of b) g j)))
        (of_comb comb (groups_of a ++ groups_of b) i)
    group_in context (While test comb a) i = ⊎_elim (λ e. inl (inr e)) (λ j. inr (group_one (below_dynamic context) a j)) (of_comb comb (groups_of a) i)
    group_in context (Repeat count a) i = inr (group_one (below_dynamic context) a i)
    group_in context (StaticSeq length parts) i = inr (group_all InStatic parts i)
    group_in context (StaticPar length arms) i = inr (group_all InStatic arms i)
    group_in context (StaticIf length test a b) i =
        inr (⊎_elim
        (λ k. among_left P (visit Branch a) (visit Branch b) (group_one Branch a k))
        (λ k. among_right P (visit Branch a) (visit Branch b) (group_one Branch b k))
        (in_either (groups_of a) (groups_of b) g i))
    group_in context (StaticRepeat length count a) i = inr (group_one InStatic a i)
    group_in context (Timed k) i = absurd i

    -- A GROUP of a statement
    pub group_one : (context : Context) (s : PlainStatement) → In (groups_of s) g → Among P (visit context s)
    group_one context (Placed form place) i =
        ⊎_elim
        (λ own. (record { context = context; form = form; place = place }, inl refl, own))
        (λ r. (r.0, inr r.1, r.2))
        (group_in context form i)

    group_all : (context : Context) (ss : PlainStatements) → In (groups_in_all ss) g → Among P (visit_all context ss)
    group_all context no_statements i = absurd i
    group_all context (a_statement s ss) i =
        ⊎_elim
        (λ k. among_left P (visit context s) (visit_all context ss) (group_one context s k))
        (λ k. among_right P (visit context s) (visit_all context ss) (group_all context ss k))
        (in_either (groups_of s) (groups_in_all ss) g i)

module _ (k : ℕ) where
  abbrev T : PlainForm → Type 0
  T form = form ≡ Timed k

  mutual
    timed_here : (context : Context) (form : PlainForm) → In (timed_in form) k → Here T context form
    timed_here context Empty i = absurd i
    timed_here context (Enable h) i = absurd i
    timed_here context (Seq parts) i = inr (timed_each (below_dynamic context) parts i)
    timed_here context (Par arms) i = inr (timed_each (below_dynamic context) arms i)
    timed_here context (If test comb a b) i =
        inr (⊎_elim
        (λ j. among_left T (visit (below_dynamic context) a) (visit (below_dynamic context) b) (timed_one (below_dynamic context) a j))
        (λ j. among_right T (visit (below_dynamic context) a) (visit (below_dynamic context) b) (timed_one (below_dynamic context) b j))
        (in_either (timed_of a) (timed_of b) k i))
    timed_here context (While test comb a) i = inr (timed_one (below_dynamic context) a i)
    timed_here context (Repeat count a) i = inr (timed_one (below_dynamic context) a i)
    timed_here context (StaticSeq length parts) i = inr (timed_each InStatic parts i)
    timed_here context (StaticPar length arms) i = inr (timed_each InStatic arms i)
    timed_here context (StaticIf length test a b) i =
        inr (⊎_elim
        (λ j. among_left T (visit Branch a) (visit Branch b) (timed_one Branch a j))
        (λ j. among_right T (visit Branch a) (visit Branch b) (timed_one Branch b j))
        (in_either (timed_of a) (timed_of b) k i))
    timed_here context (StaticRepeat length count a) i = inr (timed_one InStatic a i)
    timed_here context (Timed j) (inl e) = inl (ap Timed e)
    timed_here context (Timed j) (inr i) = absurd i

    -- A STATIC INVOKE of a statement
    pub timed_one : (context : Context) (s : PlainStatement) → In (timed_of s) k → Among T (visit context s)
    timed_one context (Placed form place) i =
        ⊎_elim
        (λ own. (record { context = context; form = form; place = place }, inl refl, own))
        (λ r. (r.0, inr r.1, r.2))
        (timed_here context form i)

    timed_each : (context : Context) (ss : PlainStatements) → In (timed_all ss) k → Among T (visit_all context ss)
    timed_each context no_statements i = absurd i
    timed_each context (a_statement s ss) i =
        ⊎_elim
        (λ j. among_left T (visit context s) (visit_all context ss) (timed_one context s j))
        (λ j. among_right T (visit context s) (visit_all context ss) (timed_each context ss j))
        (in_either (timed_of s) (timed_all ss) k i)

module _ (p : PortRef) where
  abbrev Q : PlainForm → Type 0
  Q form = (test : PlacedPort) × (test_in form ≡ Some test) × (test.port ≡ p)

  mutual
    test_here : (context : Context) (form : PlainForm) → In (tested_in form) p → Here Q context form
    test_here context Empty i = absurd i
    test_here context (Enable h) i = absurd i
    test_here context (Seq parts) i = inr (test_each (below_dynamic context) parts i)
    test_here context (Par arms) i = inr (test_each (below_dynamic context) arms i)
    test_here context (If test comb a b) i =
        inr (⊎_elim
        (λ j. among_left Q (visit (below_dynamic context) a) (visit (below_dynamic context) b) (test_one (below_dynamic context) a j))
        (λ j. among_right Q (visit (below_dynamic context) a) (visit (below_dynamic context) b) (test_one (below_dynamic context) b j))
        (in_either (tested_of a) (tested_of b) p i))
    test_here context (While test comb a) i = inr (test_one (below_dynamic context) a i)
    test_here context (Repeat count a) i = inr (test_one (below_dynamic context) a i)
    test_here context (StaticSeq length parts) i = inr (test_each InStatic parts i)
    test_here context (StaticPar length arms) i = inr (test_each InStatic arms i)
    test_here context (StaticIf length test a b) (inl e) = inl (test, refl, e)
    test_here context (StaticIf length test a b) (inr i) =
        inr (⊎_elim
        (λ j. among_left Q (visit Branch a) (visit Branch b) (test_one Branch a j))
        (λ j. among_right Q (visit Branch a) (visit Branch b) (test_one Branch b j))
        (in_either (tested_of a) (tested_of b) p i))
    test_here context (StaticRepeat length count a) i = inr (test_one InStatic a i)
    test_here context (Timed j) i = absurd i

    -- THE PORT of a static if of a statement
    pub test_one : (context : Context) (s : PlainStatement) → In (tested_of s) p → Among Q (visit context s)
    test_one context (Placed form place) i =
        ⊎_elim
        (λ own. (record { context = context; form = form; place = place }, inl refl, own))
        (λ r. (r.0, inr r.1, r.2))
        (test_here context form i)

    test_each : (context : Context) (ss : PlainStatements) → In (tested_all ss) p → Among Q (visit_all context ss)
    test_each context no_statements i = absurd i
    test_each context (a_statement s ss) i =
        ⊎_elim
        (λ j. among_left Q (visit context s) (visit_all context ss) (test_one context s j))
        (λ j. among_right Q (visit context s) (visit_all context ss) (test_each context ss j))
        (in_either (tested_of s) (tested_all ss) p i)
