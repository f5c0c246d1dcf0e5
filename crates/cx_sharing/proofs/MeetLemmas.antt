-- What is used at once meets: by one port, one group, a condition with its comb group, and by two arms.
use Rattle.std.proofs.Common.{◌≡◌, ◌≢◌, ℕ, zero, suc, inl, inr, true, ◌||◌, ◌&&◌, Option, Some, None, List, [], ◌∷◌, refl, sym, ap, ◌∙◌}
use Rattle.std.specs.Prelude.{slice_get}
use Rattle.std.specs.List.{list_any}
use Rattle.std.proofs.lemmas.Bool.{or_right}
use Rattle.cx_text.proofs.BoolLaws.{or_left, and_true}
use Rattle.cx_text.proofs.OptionLaws.{none_some}
use Rattle.cx_meaning.specs.declared.ports.PortRef.{PortRef}
use Rattle.cx_meaning.specs.declared.ports.PortRef.TheVariants as ports
use Rattle.cx_meaning.specs.declared.ports.PlacedPort.{PlacedPort}
use Rattle.cx_meaning.specs.Designs.{PlainComponent, PlainForm, Empty, Enable, Seq, Par, If, While, Repeat, StaticSeq, StaticPar, StaticIf, StaticRepeat, Timed, PlainStatement}
use Rattle.cx_meaning.specs.Active.{nothing, group, capture, comb}
use Rattle.cx_meaning.specs.Control.{targets_cell}
use Rattle.cx_text.specs.Members.{In}
use Rattle.cx_meaning.proofs.ActiveLemmas.{only_is}
use Rattle.cx_meaning.proofs.InstancesLemmas.{just_true}
use Rattle.cx_rules.specs.Items.{Visited, statements_in}
use Rattle.cx_rules.specs.RaceRule.{arms_of}
use Rattle.cx_sharing.specs.Uses.{group_uses, uses, test_uses}
use Rattle.cx_sharing.specs.Meeting.{has_both, arms_meet, form_meets}
use Rattle.cx_sharing.proofs.UsedLemmas.{any_of, Covers, UsedMeet, group_meets, statement_meets}

-- ONE PORT, under the continuous assignments alone
one_target : (p : PortRef) (x y : ℕ) → targets_cell p x ≡ true → targets_cell p y ≡ true → x ≡ y
one_target (ports.Cell d n) x y a b = sym (just_true d x a) ∙ just_true d y b
one_target (ports.Input n) x y a b = absurd (cc)
one_target (ports.Output n) x y a b = absurd (cc)
one_target (ports.Done g) x y a b = absurd (cc)
one_target (ports.Literal w v) x y a b = absurd (cc)

module _ (part : PlainComponent) where
  pub port_covers : (p : PortRef) → Covers part (λ c. targets_cell p c ≡ true) nothing
  port_covers p g k c acts uses = absurd (none_some k acts)

  pub port_meets : (p : PortRef) → UsedMeet part (λ c. targets_cell p c ≡ true)
  port_meets p x y first second a b = inl (one_target p x y a b)

  -- ONE GROUP, a call in its capture cycle too
  pub group_covers : (g : ℕ) → Covers part (λ c. group_uses part g c ≡ true) (group g)
  group_covers g h k c acts uses = ap (λ n. group_uses part n c) (only_is g h k acts) ∙ uses

  pub capture_covers : (g d : ℕ) → Covers part (λ c. group_uses part g c ≡ true) (capture g d)
  capture_covers g d h k c acts uses = ap (λ n. group_uses part n c) (only_is g h k acts) ∙ uses

  pub group_used_meet : (g : ℕ) → UsedMeet part (λ c. group_uses part g c ≡ true)
  group_used_meet g x y first second a b = inr (group_meets part g x y a b)

  -- A CONDITION and its comb group
  pub test_covers : (test : PlacedPort) (o : Option ℕ) → Covers part (λ c. test_uses part test o c ≡ true) (comb o)
  test_covers test None g k c acts uses = absurd (none_some k acts)
  test_covers test (Some h) g k c acts uses = or_right (targets_cell test.port c) (group_uses part h c) (ap (λ n. group_uses part n c) (only_is h g k acts) ∙ uses)

  pub test_meets : (v : Visited) (test : PlacedPort) (o : Option ℕ) → In (statements_in part) v → ((x y : ℕ) → form_meets part v.form x y ≡ has_both (test_uses part test o) x y)
      → UsedMeet part (λ c. test_uses part test o c ≡ true)
  test_meets v test o stands is x y first second a b =
      inr (statement_meets part x y (any_of (λ w. form_meets part w.form x y) (statements_in part) v stands (is x y ∙ and_true (test_uses part test o x) (test_uses part test o y) a b)))

  -- TWO ARMS of a par
  arm_in : (arms : List PlainStatement) (n : ℕ) (s : PlainStatement) → slice_get arms n ≡ Some s → In arms s
  arm_in [] n s e = absurd (cc)
  arm_in (a ∷ later) zero s e = let same : a ≡ s = cc in inl same
  arm_in (a ∷ later) (suc n) s e = inr (arm_in later n s e)

  pub arms_meet-true : (arms : List PlainStatement) (m n : ℕ) (s t : PlainStatement) (x y : ℕ) → m ≢ n → slice_get arms m ≡ Some s → slice_get arms n ≡ Some t → uses part s x ≡ true → uses part t y ≡ true
      → arms_meet part arms x y ≡ true
  arms_meet-true [] m n s t x y differ e f a b = absurd (cc)
  arms_meet-true (arm ∷ later) zero zero s t x y differ e f a b = absurd (differ refl)
  arms_meet-true (arm ∷ later) zero (suc n) s t x y differ e f a b =
      let same : arm ≡ s = cc in
      or_left ((uses part arm x && list_any (λ u. uses part u y) later) || (uses part arm y && list_any (λ u. uses part u x) later)) (arms_meet part later x y)
      (or_left (uses part arm x && list_any (λ u. uses part u y) later) (uses part arm y && list_any (λ u. uses part u x) later)
      (and_true (uses part arm x) (list_any (λ u. uses part u y) later) (ap (λ u. uses part u x) same ∙ a) (any_of (λ u. uses part u y) later t (arm_in later n t f) b)))
  arms_meet-true (arm ∷ later) (suc m) zero s t x y differ e f a b =
      let same : arm ≡ t = cc in
      or_left ((uses part arm x && list_any (λ u. uses part u y) later) || (uses part arm y && list_any (λ u. uses part u x) later)) (arms_meet part later x y)
      (or_right (uses part arm x && list_any (λ u. uses part u y) later) (uses part arm y && list_any (λ u. uses part u x) later)
      (and_true (uses part arm y) (list_any (λ u. uses part u x) later) (ap (λ u. uses part u y) same ∙ b) (any_of (λ u. uses part u x) later s (arm_in later m s e) a)))
  arms_meet-true (arm ∷ later) (suc m) (suc n) s t x y differ e f a b =
      or_right ((uses part arm x && list_any (λ u. uses part u y) later) || (uses part arm y && list_any (λ u. uses part u x) later)) (arms_meet part later x y)
      (arms_meet-true later m n s t x y (λ same. differ (ap suc same)) e f a b)

  pub in_form : (form : PlainForm) (x y : ℕ) → arms_meet part (arms_of form) x y ≡ true → form_meets part form x y ≡ true
  in_form Empty x y e = absurd (cc)
  in_form (Enable g) x y e = absurd (cc)
  in_form (Seq parts) x y e = absurd (cc)
  in_form (Par arms) x y e = e
  in_form (If test o a b) x y e = absurd (cc)
  in_form (While test o a) x y e = absurd (cc)
  in_form (Repeat count a) x y e = absurd (cc)
  in_form (StaticSeq length parts) x y e = absurd (cc)
  in_form (StaticPar length arms) x y e = e
  in_form (StaticIf length test a b) x y e = absurd (cc)
  in_form (StaticRepeat length count a) x y e = absurd (cc)
  in_form (Timed k) x y e = absurd (cc)
