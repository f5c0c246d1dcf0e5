-- STATIC CONTROL OF THE SOURCE stays: it enables static groups alone, which are not promoted.
use Rattle.std.proofs.Common.{◌≡◌, ℕ, inl, inr, true, List, ◌++◌, refl, subst}
use Rattle.std.specs.Prelude.{is_some}
use Rattle.cx_text.proofs.MemberLaws.{in_left, in_right, of_joined}
use Rattle.cx_text.specs.Members.{In}
use Rattle.cx_text.specs.declared.places.Place.{Place}
use Rattle.cx_meaning.specs.Designs.{PlainComponent, PlainForm, Empty, Enable, Seq, Par, If, While, Repeat, StaticSeq, StaticPar, StaticIf, StaticRepeat, Timed, PlainStatement, Placed, PlainStatements, no_statements, a_statement}
use Rattle.cx_meaning.specs.Control.{groups_in, groups_of, groups_in_all}
use Rattle.cx_meaning.specs.Islands.{group_length}
use Rattle.cx_rules.specs.Items.{Context, InStatic, Branch, Visited, visit, visit_parts, visit_all}
use Rattle.cx_rules.specs.StaticControl.{is_static, is_in_static, may_stand}
use Rattle.cx_promotion.proofs.Impossible.{no_true}

-- GROUPS that are as long in both designs
module _ (part other : PlainComponent) where
  abbrev pub Same : List ℕ → Type 0
  Same gs = (g : ℕ) → In gs g → group_length other g ≡ group_length part g

  pub same_left : (gs hs : List ℕ) → Same (gs ++ hs) → Same gs
  same_left gs hs same g k = same g (in_left gs hs g k)

  pub same_right : (gs hs : List ℕ) → Same (gs ++ hs) → Same hs
  same_right gs hs same g k = same g (in_right gs hs g k)

-- GROUPS IN STATIC CONTROL are static
module _ (part : PlainComponent) where
  abbrev MayStand : List Visited → Type 0
  MayStand vs = (v : Visited) → In vs v → is_in_static v.context ≡ true → may_stand part v.context v.form ≡ true

  abbrev AreStatic : List ℕ → Type 0
  AreStatic gs = (g : ℕ) → In gs g → is_some (group_length part g) ≡ true

  both_static : (gs hs : List ℕ) → AreStatic gs → AreStatic hs → AreStatic (gs ++ hs)
  both_static gs hs one two g k = of_joined gs hs g k (one g) (two g)

  mutual
    form_static : (context : Context) (form : PlainForm) (place : Place) → is_in_static context ≡ true → MayStand (visit context (Placed form place)) → AreStatic (groups_in form)
    form_static context Empty place is all g k = absurd k
    form_static context (Enable h) place is all g (inl e) = subst (λ n. is_some (group_length part n) ≡ true) e (all (record { context = context; form = Enable h; place = place }) (inl refl) is)
    form_static context (Enable h) place is all g (inr k) = absurd k
    form_static context (Seq parts) place is all g k = no_true (all (record { context = context; form = Seq parts; place = place }) (inl refl) is)
    form_static context (Par arms) place is all g k = no_true (all (record { context = context; form = Par arms; place = place }) (inl refl) is)
    form_static context (If test comb a b) place is all g k = no_true (all (record { context = context; form = If test comb a b; place = place }) (inl refl) is)
    form_static context (While test comb a) place is all g k = no_true (all (record { context = context; form = While test comb a; place = place }) (inl refl) is)
    form_static context (Repeat count a) place is all g k = no_true (all (record { context = context; form = Repeat count a; place = place }) (inl refl) is)
    form_static context (StaticSeq length parts) place is all g k = all_static parts (λ v j. all v (inr j)) g k
    form_static context (StaticPar length arms) place is all g k = all_static arms (λ v j. all v (inr j)) g k
    form_static context (StaticIf length test a b) place is all g k =
        both_static (groups_of a) (groups_of b)
        (statement_static Branch a refl (λ v j. all v (inr (in_left (visit Branch a) (visit Branch b) v j))))
        (statement_static Branch b refl (λ v j. all v (inr (in_right (visit Branch a) (visit Branch b) v j)))) g k
    form_static context (StaticRepeat length count a) place is all g k = statement_static InStatic a refl (λ v j. all v (inr j)) g k
    form_static context (Timed n) place is all g k = absurd k

    statement_static : (context : Context) (s : PlainStatement) → is_in_static context ≡ true → MayStand (visit context s) → AreStatic (groups_of s)
    statement_static context (Placed form place) is all g k = form_static context form place is all g k

    all_static : (ss : PlainStatements) → MayStand (visit_all InStatic ss) → AreStatic (groups_in_all ss)
    all_static no_statements all g k = absurd k
    all_static (a_statement s ss) all g k =
        both_static (groups_of s) (groups_in_all ss)
        (statement_static InStatic s refl (λ v j. all v (in_left (visit InStatic s) (visit_all InStatic ss) v j)))
        (all_static ss (λ v j. all v (in_right (visit InStatic s) (visit_all InStatic ss) v j))) g k

  -- of a static statement, wherever it stands
  pub parts_static : (context : Context) (form : PlainForm) → is_static form ≡ true → MayStand (visit_parts context form) → AreStatic (groups_in form)
  parts_static context Empty is all = no_true is
  parts_static context (Enable h) is all = no_true is
  parts_static context (Seq parts) is all = no_true is
  parts_static context (Par arms) is all = no_true is
  parts_static context (If test comb a b) is all = no_true is
  parts_static context (While test comb a) is all = no_true is
  parts_static context (Repeat count a) is all = no_true is
  parts_static context (StaticSeq length parts) is all = all_static parts all
  parts_static context (StaticPar length arms) is all = all_static arms all
  parts_static context (StaticIf length test a b) is all =
      both_static (groups_of a) (groups_of b)
      (statement_static Branch a refl (λ v j. all v (in_left (visit Branch a) (visit Branch b) v j)))
      (statement_static Branch b refl (λ v j. all v (in_right (visit Branch a) (visit Branch b) v j)))
  parts_static context (StaticRepeat length count a) is all = statement_static InStatic a refl all
  parts_static context (Timed n) is all = no_true is
