-- The groups that a statement enables are those of the statements in it.
use Rattle.std.proofs.Common.{◌≡◌, ℕ, List, [], ◌∷◌, ◌++◌, Option, Some, None, ◌⊎◌, inl, inr, ⊎_elim, refl, ap, ◌∙◌}
use Rattle.cx_text.proofs.MemberLaws.{in_either, in_left, in_right}
use Rattle.cx_text.specs.declared.places.Place.{Place}
use Rattle.cx_meaning.specs.Designs.{PlainForm, Empty, Enable, Seq, Par, If, While, Repeat, StaticSeq, StaticPar, StaticIf, StaticRepeat, Timed, PlainStatement, Placed, PlainStatements, no_statements, a_statement}
use Rattle.cx_text.specs.Members.{In}
use Rattle.cx_meaning.specs.Control.{with_comb, groups_in, groups_of, groups_in_all}
use Rattle.cx_rules.specs.Items.{Context, InStatic, Branch, below_dynamic, Visited, visit, visit_parts, visit_all}

-- the comb group of a condition
abbrev pub comb_in : PlainForm → Option ℕ
comb_in Empty = None
comb_in (Enable g) = None
comb_in (Seq parts) = None
comb_in (Par arms) = None
comb_in (If test comb a b) = comb
comb_in (While test comb a) = comb
comb_in (Repeat count a) = None
comb_in (StaticSeq length parts) = None
comb_in (StaticPar length arms) = None
comb_in (StaticIf length test a b) = None
comb_in (StaticRepeat length count a) = None
comb_in (Timed k) = None

-- a statement that enables the group, or has it as its comb group
pub record Names (vs : List Visited) (g : ℕ) : Type 0 where
  pub statement : Visited
  pub stands : In vs statement
  pub names : (statement.form ≡ Enable g) ⊎ (comb_in statement.form ≡ Some g)

left : (xs ys : List Visited) (g : ℕ) → Names xs g → Names (xs ++ ys) g
left xs ys g n = record { statement = n.statement; stands = in_left xs ys n.statement n.stands; names = n.names }

right : (xs ys : List Visited) (g : ℕ) → Names ys g → Names (xs ++ ys) g
right xs ys g n = record { statement = n.statement; stands = in_right xs ys n.statement n.stands; names = n.names }

inside : (v : Visited) (vs : List Visited) (g : ℕ) → Names vs g → Names (v ∷ vs) g
inside v vs g n = record { statement = n.statement; stands = inr n.stands; names = n.names }

of_comb : (v : Visited) (vs : List Visited) (comb : Option ℕ) (gs : List ℕ) (g : ℕ) → comb_in v.form ≡ comb → (In gs g → Names vs g) → In (with_comb comb gs) g → Names (v ∷ vs) g
of_comb v vs None gs g e next i = inside v vs g (next i)
of_comb v vs (Some h) gs g e next (inl same) = record { statement = v; stands = inl refl; names = inr (e ∙ ap Some same) }
of_comb v vs (Some h) gs g e next (inr i) = inside v vs g (next i)

mutual
  named_form : (context : Context) (form : PlainForm) (place : Place) (g : ℕ) → In (groups_in form) g → Names (record { context = context; form = form; place = place } ∷ visit_parts context form) g
  named_form context Empty place g i = absurd i
  named_form context (Enable h) place g (inl e) = record { statement = record { context = context; form = Enable h; place = place }; stands = inl refl; names = inl (ap Enable e) }
  named_form context (Enable h) place g (inr i) = absurd i
  named_form context (Seq parts) place g i = inside _ _ g (named_all (below_dynamic context) parts g i)
  named_form context (Par arms) place g i = inside _ _ g (named_all (below_dynamic context) arms g i)
  named_form context (If test comb a b) place g i =
      of_comb (record { context = context; form = If test comb a b; place = place }) (visit (below_dynamic context) a ++ visit (below_dynamic context) b) comb (groups_of a ++ groups_of b) g refl
      (λ j. ⊎_elim (λ l. left (visit (below_dynamic context) a) (visit (below_dynamic context) b) g (named_statement (below_dynamic context) a g l))
      (λ r. right (visit (below_dynamic context) a) (visit (below_dynamic context) b) g (named_statement (below_dynamic context) b g r)) (in_either (groups_of a) (groups_of b) g j)) i
  named_form context (While test comb a) place g i =
      of_comb (record { context = context; form = While test comb a; place = place }) (visit (below_dynamic context) a) comb (groups_of a) g refl (λ j. named_statement (below_dynamic context) a g j) i
  named_form context (Repeat count a) place g i = inside _ _ g (named_statement (below_dynamic context) a g i)
  named_form context (StaticSeq length parts) place g i = inside _ _ g (named_all InStatic parts g i)
  named_form context (StaticPar length arms) place g i = inside _ _ g (named_all InStatic arms g i)
  named_form context (StaticIf length test a b) place g i =
      inside _ _ g
      (⊎_elim (λ l. left (visit Branch a) (visit Branch b) g (named_statement Branch a g l)) (λ r. right (visit Branch a) (visit Branch b) g (named_statement Branch b g r)) (in_either (groups_of a) (groups_of b) g i))
  named_form context (StaticRepeat length count a) place g i = inside _ _ g (named_statement InStatic a g i)
  named_form context (Timed k) place g i = absurd i

  pub named_statement : (context : Context) (s : PlainStatement) (g : ℕ) → In (groups_of s) g → Names (visit context s) g
  named_statement context (Placed form place) g i = named_form context form place g i

  named_all : (context : Context) (ss : PlainStatements) (g : ℕ) → In (groups_in_all ss) g → Names (visit_all context ss) g
  named_all context no_statements g i = absurd i
  named_all context (a_statement s ss) g i =
      ⊎_elim (λ l. left (visit context s) (visit_all context ss) g (named_statement context s g l)) (λ r. right (visit context s) (visit_all context ss) g (named_all context ss g r)) (in_either (groups_of s) (groups_in_all ss) g i)
