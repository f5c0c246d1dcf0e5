-- A guard that is a conjunction of ports is 1 exactly where they all are; and as many ports as are wanted, with all of these among
-- them, are no others.
use Rattle.std.proofs.Common.{◌≡◌, ℕ, suc, ◌⊎◌, inl, inr, Bool, true, false, ◌||◌, nat_eq, List, [], ◌∷◌, ◌++◌, Option, Some, None, length, refl, sym, ap, ◌∙◌, subst, arith}
use Rattle.std.specs.List.{list_all, list_any}
use Rattle.std.proofs.lemmas.Bool.{eqb-true}
use Rattle.cx_text.proofs.MemberLaws.{in_left, in_right}
use Rattle.cx_text.specs.Members.{In}
use Rattle.cx_meaning.specs.declared.ports.PortRef.{PortRef}
use Rattle.cx_meaning.specs.Designs.{PlainGuard, Always, Atom, Negation, All, Any, Compared, Within, PlainGuards, no_guards, a_guard}
use Rattle.cx_meaning.specs.Active.{same_port}
use Rattle.cx_meaning.specs.Truths.{Truth, One, Zero, truth_of, and_truth}
use Rattle.cx_meaning.specs.Truths as truths
use Rattle.cx_meaning.specs.Sights.{Look, guard_truth, all_truth}
use Rattle.cx_rules.specs.CallShape.{joined, conjuncts, conjuncts_in, are_dones}
use Rattle.cx_rules.proofs.FoundLemmas.{same_is}
use Rattle.cx_text.proofs.BoolLaws.{and_both}
use Rattle.cx_text.proofs.OptionLaws.{none_is_some}

some_is : {A : Type 0} (x y : A) → ◌≡◌ {A = Option A} (Some x) (Some y) → x ≡ y
some_is x y e = cc

both_one : (a b : Truth) → and_truth a b ≡ One → (a ≡ One) × (b ≡ One)
both_one One b e = (refl, e)
both_one Zero b e = absurd (cc)
both_one truths.Conflict One e = absurd (cc)
both_one truths.Conflict Zero e = absurd (cc)
both_one truths.Conflict truths.Conflict e = absurd (cc)
both_one truths.Conflict truths.Undefined e = absurd (cc)
both_one truths.Undefined One e = absurd (cc)
both_one truths.Undefined Zero e = absurd (cc)
both_one truths.Undefined truths.Conflict e = absurd (cc)
both_one truths.Undefined truths.Undefined e = absurd (cc)

-- two conjunctions joined
pub record Joins (a b : Option (List PortRef)) (ps : List PortRef) : Type 0 where
  pub first : List PortRef
  pub second : List PortRef
  pub is_first : a ≡ Some first
  pub is_second : b ≡ Some second
  pub whole : first ++ second ≡ ps

joins : (a b : Option (List PortRef)) (ps : List PortRef) → joined a b ≡ Some ps → Joins a b ps
joins None b ps e = absurd (none_is_some ps e)
joins (Some xs) None ps e = absurd (none_is_some ps e)
joins (Some xs) (Some ys) ps e = record { first = xs; second = ys; is_first = refl; is_second = refl; whole = some_is (xs ++ ys) ps e }

either_in : (xs ys : List PortRef) (p : PortRef) → In (xs ++ ys) p → In xs p ⊎ In ys p
either_in [] ys p i = inr i
either_in (x ∷ xs) ys p (inl e) = inl (inl e)
either_in (x ∷ xs) ys p (inr i) = up (either_in xs ys p i)
  where
    up : In xs p ⊎ In ys p → In (x ∷ xs) p ⊎ In ys p
    up (inl j) = inl (inr j)
    up (inr j) = inr j

module _ (look : Look) (at : ℕ) where
  mutual
    -- where it is 1 all its ports are
    pub conjuncts_hold : (g : PlainGuard) (ps : List PortRef) → conjuncts g ≡ Some ps → guard_truth look at g ≡ One → (p : PortRef) → In ps p → truth_of (look p) ≡ One
    conjuncts_hold Always ps is one p i = absurd (none_is_some ps is)
    conjuncts_hold (Atom q) ps is one p i = of_list ps (some_is (q.port ∷ []) ps is) i
      where
        of_list : (l : List PortRef) → (q.port ∷ []) ≡ l → In l p → truth_of (look p) ≡ One
        of_list l e j = of_one (subst (λ k. In k p) (sym e) j)
          where
            of_one : In (q.port ∷ []) p → truth_of (look p) ≡ One
            of_one (inl same) = ap (λ r. truth_of (look r)) (sym same) ∙ one
            of_one (inr none) = absurd none
    conjuncts_hold (Negation g) ps is one p i = absurd (none_is_some ps is)
    conjuncts_hold (All gs) ps is one p i = all_hold gs ps is one p i
    conjuncts_hold (Any gs) ps is one p i = absurd (none_is_some ps is)
    conjuncts_hold (Compared c a b) ps is one p i = absurd (none_is_some ps is)
    conjuncts_hold (Within from to) ps is one p i = absurd (none_is_some ps is)

    all_hold : (gs : PlainGuards) (ps : List PortRef) → conjuncts_in gs ≡ Some ps → all_truth look at gs ≡ One → (p : PortRef) → In ps p → truth_of (look p) ≡ One
    all_hold no_guards ps is one p i = absurd (subst (λ l. In l p) (sym (some_is [] ps is)) i)
    all_hold (a_guard g gs) ps is one p i =
        let j = joins (conjuncts g) (conjuncts_in gs) ps is in
        let both = both_one (guard_truth look at g) (all_truth look at gs) one in
        parts (conjuncts_hold g j.first j.is_first both.0 p) (all_hold gs j.second j.is_second both.1 p) (either_in j.first j.second p (subst (λ l. In l p) (sym j.whole) i))
      where
        parts : {A B : Type 0} → (A → truth_of (look p) ≡ One) → (B → truth_of (look p) ≡ One) → A ⊎ B → truth_of (look p) ≡ One
        parts f h (inl a) = f a
        parts f h (inr b) = h b

  mutual
    -- and where they all are it is
    pub conjunction_holds : (g : PlainGuard) (ps : List PortRef) → conjuncts g ≡ Some ps → ((p : PortRef) → In ps p → truth_of (look p) ≡ One) → guard_truth look at g ≡ One
    conjunction_holds Always ps is each = refl
    conjunction_holds (Atom q) ps is each = each q.port (subst (λ l. In l q.port) (some_is (q.port ∷ []) ps is) (inl refl))
    conjunction_holds (Negation g) ps is each = absurd (none_is_some ps is)
    conjunction_holds (All gs) ps is each = all_of gs ps is each
    conjunction_holds (Any gs) ps is each = absurd (none_is_some ps is)
    conjunction_holds (Compared c a b) ps is each = absurd (none_is_some ps is)
    conjunction_holds (Within from to) ps is each = absurd (none_is_some ps is)

    all_of : (gs : PlainGuards) (ps : List PortRef) → conjuncts_in gs ≡ Some ps → ((p : PortRef) → In ps p → truth_of (look p) ≡ One) → all_truth look at gs ≡ One
    all_of no_guards ps is each = refl
    all_of (a_guard g gs) ps is each =
        let j = joins (conjuncts g) (conjuncts_in gs) ps is in
        ap (λ t. and_truth t (all_truth look at gs)) (conjunction_holds g j.first j.is_first (λ p i. each p (subst (λ l. In l p) j.whole (in_left j.first j.second p i))))
        ∙ all_of gs j.second j.is_second (λ p i. each p (subst (λ l. In l p) j.whole (in_right j.first j.second p i)))

any_in : (w : PortRef) (ps : List PortRef) → list_any (same_port w) ps ≡ true → In ps w
any_in w [] e = absurd (cc)
any_in w (p ∷ ps) e = either (same_port w p) refl e (any_in w ps)
  where
    either : (b : Bool) → same_port w p ≡ b → (b || list_any (same_port w) ps) ≡ true → (list_any (same_port w) ps ≡ true → In ps w) → In (p ∷ ps) w
    either true same f later = inl (sym (same_is w p same))
    either false differ f later = inr (later f)

all_in : (ws ps : List PortRef) → list_all (λ w. list_any (same_port w) ps) ws ≡ true → (w : PortRef) → In ws w → In ps w
all_in [] ps e w i = absurd i
all_in (v ∷ ws) ps e w (inl same) = subst (In ps) same (any_in v ps (and_both (list_any (same_port v) ps) (list_all (λ u. list_any (same_port u) ps) ws) e).0)
all_in (v ∷ ws) ps e w (inr i) = all_in ws ps (and_both (list_any (same_port v) ps) (list_all (λ u. list_any (same_port u) ps) ws) e).1 w i

pub wanted_are_in : (wanted ps : List PortRef) → are_dones wanted (Some ps) ≡ true → (w : PortRef) → In wanted w → In ps w
wanted_are_in wanted ps e = all_in wanted ps (and_both (nat_eq (length ps) (length wanted)) (list_all (λ w. list_any (same_port w) ps) wanted) e).1

-- each of a list once
abbrev pub AreOnce : List PortRef → Type 0
AreOnce [] = Unit {0}
AreOnce (w ∷ ws) = (In ws w → ⊥) × AreOnce ws

-- a list without one of its members
record Without (ps : List PortRef) (w : PortRef) : Type 0 where
  rest : List PortRef
  shorter : suc (length rest) ≡ length ps
  kept : (p : PortRef) → In ps p → (p ≡ w) ⊎ In rest p
  less : (p : PortRef) → In ps p → (w ≡ p → ⊥) → In rest p

without : (ps : List PortRef) (w : PortRef) → In ps w → Without ps w
without [] w i = absurd i
without (p ∷ ps) w (inl e) = record { rest = ps; shorter = refl; kept = kept; less = less }
  where
    kept : (q : PortRef) → In (p ∷ ps) q → (q ≡ w) ⊎ In ps q
    kept q (inl f) = inl (sym f ∙ e)
    kept q (inr i) = inr i

    less : (q : PortRef) → In (p ∷ ps) q → (w ≡ q → ⊥) → In ps q
    less q (inl f) differ = absurd (differ (sym e ∙ f))
    less q (inr i) differ = i
without (p ∷ ps) w (inr i) = let r = without ps w i in record { rest = p ∷ r.rest; shorter = ap suc r.shorter; kept = kept r; less = less r }
  where
    kept : (r : Without ps w) → (q : PortRef) → In (p ∷ ps) q → (q ≡ w) ⊎ In (p ∷ r.rest) q
    kept r q (inl f) = inr (inl f)
    kept r q (inr j) = up (r.kept q j)
      where
        up : (q ≡ w) ⊎ In r.rest q → (q ≡ w) ⊎ In (p ∷ r.rest) q
        up (inl e) = inl e
        up (inr k) = inr (inr k)

    less : (r : Without ps w) → (q : PortRef) → In (p ∷ ps) q → (w ≡ q → ⊥) → In (p ∷ r.rest) q
    less r q (inl f) differ = inl f
    less r q (inr j) differ = inr (r.less q j differ)

no_others : (wanted ps : List PortRef) → AreOnce wanted → length ps ≡ length wanted → ((w : PortRef) → In wanted w → In ps w) → (p : PortRef) → In ps p → In wanted p
no_others [] [] once same each p i = absurd i
no_others [] (q ∷ ps) once same each p i = absurd (let e : suc (length ps) ≡ 0 = same in omega (arith, e))
no_others (w ∷ ws) ps once same each p i =
    let r = without ps w (each w (inl refl)) in
    let count : length r.rest ≡ length ws = (let a : suc (length r.rest) ≡ length ps = r.shorter in let b : length ps ≡ suc (length ws) = same in omega (arith, a, b)) in
    up (r.kept p i) (no_others ws r.rest once.1 count (λ v j. r.less v (each v (inr j)) (λ e. once.0 (subst (In ws) (sym e) j))) p)
  where
    up : {A : Type 0} → (p ≡ w) ⊎ A → (A → In ws p) → In (w ∷ ws) p
    up (inl e) later = inl (sym e)
    up (inr k) later = inr (later k)

pub wanted_are_all : (wanted ps : List PortRef) → AreOnce wanted → are_dones wanted (Some ps) ≡ true → (p : PortRef) → In ps p → In wanted p
wanted_are_all wanted ps once e =
    no_others wanted ps once (eqb-true (length ps) (length wanted) (and_both (nat_eq (length ps) (length wanted)) (list_all (λ w. list_any (same_port w) ps) wanted) e).0) (wanted_are_in wanted ps e)
