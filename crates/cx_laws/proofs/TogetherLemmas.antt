-- Two entries of one cycle of an island are one, or their groups stand in two arms of a static par.
use Rattle.std.proofs.Common.{◌≡◌, ℕ, suc, ◌-◌, ◌%◌, inl, inr, ◌⊎◌, Bool, true, false, nat_lt, Some, List, [], ◌∷◌, refl, sym, ap, ◌∙◌, subst}
use Rattle.std.specs.Prelude.{if◌then◌else◌, slice_get, flat_map}
use Rattle.cx_text.proofs.MemberLaws.{in_left, in_right, of_joined}
use Rattle.cx_text.specs.declared.places.Place.{Place}
use Rattle.cx_meaning.specs.Designs.{PlainComponent, PlainForm, Empty, Enable, Seq, Par, If, While, Repeat, StaticSeq, StaticPar, StaticIf, StaticRepeat, Timed, PlainStatement, Placed, PlainStatements, no_statements, a_statement, list_of}
use Rattle.cx_meaning.specs.Active.{Entry}
use Rattle.cx_text.specs.Members.{In}
use Rattle.cx_meaning.specs.Control.{groups_in, groups_of, groups_in_all}
use Rattle.cx_meaning.specs.Islands.{History, length_of}
use Rattle.cx_rules.specs.Items.{Context, Dynamic, InStatic, Branch, Visited, visit, visit_parts, visit_all}
use Rattle.cx_rules.specs.RaceRule.{Arms, arms_of, enabled_group, enabled_in}
use Rattle.cx_laws.specs.Positions.{form_at, statement_at, while_runs, parts_at, arms_at, entry_at, no_entry}

-- two arms of a list, one with a group and the other with another
pub record InArms (arms : List PlainStatement) (g k : ℕ) : Type 0 where
  pub two : Arms arms
  pub one : In (groups_of two.first) g
  pub other : In (groups_of two.second) k
  pub one_enabled : In (enabled_in two.first) g
  pub other_enabled : In (enabled_in two.second) k

-- some par among the statements has them in two arms
pub record InPar (visited : List Visited) (g k : ℕ) : Type 0 where
  pub statement : Visited
  pub stands : In visited statement
  pub arms : InArms (arms_of statement.form) g k

abbrev pub Together : List Visited → Entry → Entry → Type 0
Together visited e f = (e ≡ f) ⊎ InPar visited e.group f.group

pub among : {xs ys : List Visited} {e f : Entry} → ((v : Visited) → In xs v → In ys v) → Together xs e f → Together ys e f
among h (inl e) = inl e
among h (inr p) = inr (record { statement = p.statement; stands = h p.statement p.stands; arms = p.arms })

either : {A B : Type 0} (b : Bool) (xs ys : List A) (x : A) → In (if b then xs else ys) x → (In xs x → B) → (In ys x → B) → B
either true xs ys x i f g = f i
either false xs ys x i f g = g i

either_two : {A B : Type 0} (b : Bool) (xs ys : List A) (x y : A) → In (if b then xs else ys) x → In (if b then xs else ys) y → (In xs x → In xs y → B) → (In ys x → In ys y → B) → B
either_two true xs ys x y i j f g = f i j
either_two false xs ys x y i j f g = g i j

-- a statement that enables a group
record Enabler (list : List Visited) (g : ℕ) : Type 0 where
  statement : Visited
  stands : In list statement
  enables : In (enabled_group statement.form) g

wider : {xs ys : List Visited} {g : ℕ} → ((v : Visited) → In xs v → In ys v) → Enabler xs g → Enabler ys g
wider h r = record { statement = r.statement; stands = h r.statement r.stands; enables = r.enables }

pub in_flat : {A B : Type 0} (each : A → List B) (xs : List A) (x : A) (y : B) → In xs x → In (each x) y → In (flat_map each xs) y
in_flat each [] x y i j = absurd i
in_flat each (z ∷ zs) x y (inl e) j = in_left (each z) (flat_map each zs) y (subst (λ w. In (each w) y) (sym e) j)
in_flat each (z ∷ zs) x y (inr i) j = in_right (each z) (flat_map each zs) y (in_flat each zs x y i j)

module _ (part : PlainComponent) (h : History) (t : ℕ) where
  while_in : (s : PlainStatement) (j : ℕ) (e : Entry) → In (while_runs part h t entry_at no_entry s j) e → In (statement_at part h t entry_at no_entry s j) e
  while_in (Placed form place) j e i = either (nat_lt j (length_of part (Placed form place))) (form_at part h t entry_at no_entry form j) [] e i (λ k. k) (λ k. absurd k)

  -- what is active is a group of the statement
  mutual
    form_group : (form : PlainForm) (j : ℕ) (e : Entry) → In (form_at part h t entry_at no_entry form j) e → In (groups_in form) e.group
    form_group Empty j e i = absurd i
    form_group (Enable g) j e (inl same) = inl (ap (λ x. x.group) same)
    form_group (Enable g) j e (inr i) = absurd i
    form_group (Seq parts) j e i = absurd i
    form_group (Par arms) j e i = absurd i
    form_group (If test comb a b) j e i = absurd i
    form_group (While test comb a) j e i = absurd i
    form_group (Repeat count a) j e i = absurd i
    form_group (StaticSeq length parts) j e i = parts_group parts j e i
    form_group (StaticPar length arms) j e i = arms_group arms j e i
    form_group (StaticIf length test a b) j e i =
        either (h test.port (t - j)) (while_runs part h t entry_at no_entry a j) (while_runs part h t entry_at no_entry b j) e i
        (λ k. in_left (groups_of a) (groups_of b) e.group (statement_group a j e (while_in a j e k)))
        (λ k. in_right (groups_of a) (groups_of b) e.group (statement_group b j e (while_in b j e k)))
    form_group (StaticRepeat length count a) j e i = statement_group a (j % length_of part a) e i
    form_group (Timed k) j e i = absurd i

    statement_group : (s : PlainStatement) (j : ℕ) (e : Entry) → In (statement_at part h t entry_at no_entry s j) e → In (groups_of s) e.group
    statement_group (Placed form place) j e i = form_group form j e i

    parts_group : (ss : PlainStatements) (j : ℕ) (e : Entry) → In (parts_at part h t entry_at no_entry ss j) e → In (groups_in_all ss) e.group
    parts_group no_statements j e i = absurd i
    parts_group (a_statement s ss) j e i =
        either (nat_lt j (length_of part s)) (statement_at part h t entry_at no_entry s j) (parts_at part h t entry_at no_entry ss (j - length_of part s)) e i
        (λ k. in_left (groups_of s) (groups_in_all ss) e.group (statement_group s j e k))
        (λ k. in_right (groups_of s) (groups_in_all ss) e.group (parts_group ss (j - length_of part s) e k))

    arms_group : (ss : PlainStatements) (j : ℕ) (e : Entry) → In (arms_at part h t entry_at no_entry ss j) e → In (groups_in_all ss) e.group
    arms_group no_statements j e i = absurd i
    arms_group (a_statement s ss) j e i =
        of_joined (while_runs part h t entry_at no_entry s j) (arms_at part h t entry_at no_entry ss j) e i
        (λ k. in_left (groups_of s) (groups_in_all ss) e.group (statement_group s j e (while_in s j e k)))
        (λ k. in_right (groups_of s) (groups_in_all ss) e.group (arms_group ss j e k))

  -- and one that it enables
  mutual
    form_enables : (context : Context) (form : PlainForm) (place : Place) (j : ℕ) (e : Entry) → In (form_at part h t entry_at no_entry form j) e → Enabler (visit context (Placed form place)) e.group
    form_enables context Empty place j e i = absurd i
    form_enables context (Enable g) place j e (inl same) = record { statement = record { context = context; form = Enable g; place = place }; stands = inl refl; enables = inl (ap (λ x. x.group) same) }
    form_enables context (Enable g) place j e (inr i) = absurd i
    form_enables context (Seq parts) place j e i = absurd i
    form_enables context (Par arms) place j e i = absurd i
    form_enables context (If test comb a b) place j e i = absurd i
    form_enables context (While test comb a) place j e i = absurd i
    form_enables context (Repeat count a) place j e i = absurd i
    form_enables context (StaticSeq length parts) place j e i = wider (λ v k. inr k) (parts_enable parts j e i)
    form_enables context (StaticPar length arms) place j e i = wider (λ v k. inr k) (arms_enable arms j e i)
    form_enables context (StaticIf length test a b) place j e i =
        either (h test.port (t - j)) (while_runs part h t entry_at no_entry a j) (while_runs part h t entry_at no_entry b j) e i
        (λ k. wider (λ v p. inr (in_left (visit Branch a) (visit Branch b) v p)) (statement_enables Branch a j e (while_in a j e k)))
        (λ k. wider (λ v p. inr (in_right (visit Branch a) (visit Branch b) v p)) (statement_enables Branch b j e (while_in b j e k)))
    form_enables context (StaticRepeat length count a) place j e i = wider (λ v k. inr k) (statement_enables InStatic a (j % length_of part a) e i)
    form_enables context (Timed k) place j e i = absurd i

    statement_enables : (context : Context) (s : PlainStatement) (j : ℕ) (e : Entry) → In (statement_at part h t entry_at no_entry s j) e → Enabler (visit context s) e.group
    statement_enables context (Placed form place) j e i = form_enables context form place j e i

    parts_enable : (ss : PlainStatements) (j : ℕ) (e : Entry) → In (parts_at part h t entry_at no_entry ss j) e → Enabler (visit_all InStatic ss) e.group
    parts_enable no_statements j e i = absurd i
    parts_enable (a_statement s ss) j e i =
        either (nat_lt j (length_of part s)) (statement_at part h t entry_at no_entry s j) (parts_at part h t entry_at no_entry ss (j - length_of part s)) e i
        (λ k. wider (in_left (visit InStatic s) (visit_all InStatic ss)) (statement_enables InStatic s j e k))
        (λ k. wider (in_right (visit InStatic s) (visit_all InStatic ss)) (parts_enable ss (j - length_of part s) e k))

    arms_enable : (ss : PlainStatements) (j : ℕ) (e : Entry) → In (arms_at part h t entry_at no_entry ss j) e → Enabler (visit_all InStatic ss) e.group
    arms_enable no_statements j e i = absurd i
    arms_enable (a_statement s ss) j e i =
        of_joined (while_runs part h t entry_at no_entry s j) (arms_at part h t entry_at no_entry ss j) e i
        (λ k. wider (in_left (visit InStatic s) (visit_all InStatic ss)) (statement_enables InStatic s j e (while_in s j e k)))
        (λ k. wider (in_right (visit InStatic s) (visit_all InStatic ss)) (arms_enable ss j e k))

  has_enabled : (s : PlainStatement) (j : ℕ) (e : Entry) → In (statement_at part h t entry_at no_entry s j) e → In (enabled_in s) e.group
  has_enabled s j e i = let r = statement_enables Dynamic s j e i in in_flat (λ v. enabled_group v.form) (visit Dynamic s) r.statement e.group r.stands r.enables

  -- the arm in which a group is active
  record InArm (arms : List PlainStatement) (g : ℕ) : Type 0 where
    number : ℕ
    arm : PlainStatement
    stands : slice_get arms number ≡ Some arm
    has : In (groups_of arm) g
    enables : In (enabled_in arm) g

  arm_of : (ss : PlainStatements) (j : ℕ) (e : Entry) → In (arms_at part h t entry_at no_entry ss j) e → InArm (list_of ss) e.group
  arm_of no_statements j e i = absurd i
  arm_of (a_statement s ss) j e i =
      of_joined (while_runs part h t entry_at no_entry s j) (arms_at part h t entry_at no_entry ss j) e i
      (λ k. record { number = 0; arm = s; stands = refl; has = statement_group s j e (while_in s j e k); enables = has_enabled s j e (while_in s j e k) })
      (λ k. let r = arm_of ss j e k in record { number = suc r.number; arm = r.arm; stands = r.stands; has = r.has; enables = r.enables })

  first_and_later : (s : PlainStatement) (list : List PlainStatement) (g k : ℕ) → In (groups_of s) g → In (enabled_in s) g → InArm list k → InArms (s ∷ list) g k
  first_and_later s list g k i en r = record {
    two = record { one = 0; other = suc r.number; differ = λ e. absurd (zero_suc r.number e); first = s; second = r.arm; first_stands = refl; second_stands = r.stands };
    one = i;
    other = r.has;
    one_enabled = en;
    other_enabled = r.enables;
  }
    where
      zero_suc : (n : ℕ) → 0 ≡ suc n → ⊥
      zero_suc n e = cc

  later_and_first : (s : PlainStatement) (list : List PlainStatement) (g k : ℕ) → InArm list g → In (groups_of s) k → In (enabled_in s) k → InArms (s ∷ list) g k
  later_and_first s list g k r i en = record {
    two = record { one = suc r.number; other = 0; differ = λ e. absurd (suc_zero r.number e); first = r.arm; second = s; first_stands = r.stands; second_stands = refl };
    one = r.has;
    other = i;
    one_enabled = r.enables;
    other_enabled = en;
  }
    where
      suc_zero : (n : ℕ) → suc n ≡ 0 → ⊥
      suc_zero n e = cc

  later_arms : (s : PlainStatement) (list : List PlainStatement) (g k : ℕ) → InArms list g k → InArms (s ∷ list) g k
  later_arms s list g k r = record {
    two = record { one = suc r.two.one; other = suc r.two.other; differ = λ e. r.two.differ (suc_inj r.two.one r.two.other e); first = r.two.first; second = r.two.second; first_stands = r.two.first_stands; second_stands = r.two.second_stands };
    one = r.one;
    other = r.other;
    one_enabled = r.one_enabled;
    other_enabled = r.other_enabled;
  }
    where
      suc_inj : (m n : ℕ) → suc m ≡ suc n → m ≡ n
      suc_inj m n e = cc

  -- in two arms of the par itself, or together in one of them
  abbrev ArmsTogether : PlainStatements → Entry → Entry → Type 0
  ArmsTogether arms e f = InArms (list_of arms) e.group f.group ⊎ Together (visit_all InStatic arms) e f

  later_together : (s : PlainStatement) (ss : PlainStatements) (e f : Entry) → ArmsTogether ss e f → ArmsTogether (a_statement s ss) e f
  later_together s ss e f (inl r) = inl (later_arms s (list_of ss) e.group f.group r)
  later_together s ss e f (inr r) = inr (among (in_right (visit InStatic s) (visit_all InStatic ss)) r)

  -- with the statement itself
  itself : {e f : Entry} (context : Context) (form : PlainForm) (place : Place) → InArms (arms_of form) e.group f.group ⊎ Together (visit_parts context form) e f → Together (visit context (Placed form place)) e f
  itself context form place (inl r) = inr (record { statement = record { context = context; form = form; place = place }; stands = inl refl; arms = r })
  itself context form place (inr r) = among (λ v i. inr i) r

  mutual
    together_parts : (context : Context) (form : PlainForm) (j : ℕ) (e f : Entry) → In (form_at part h t entry_at no_entry form j) e → In (form_at part h t entry_at no_entry form j) f
        → InArms (arms_of form) e.group f.group ⊎ Together (visit_parts context form) e f
    together_parts context Empty j e f i k = absurd i
    together_parts context (Enable g) j e f (inl a) (inl b) = inr (inl (sym a ∙ b))
    together_parts context (Enable g) j e f (inl a) (inr k) = absurd k
    together_parts context (Enable g) j e f (inr i) k = absurd i
    together_parts context (Seq parts) j e f i k = absurd i
    together_parts context (Par arms) j e f i k = absurd i
    together_parts context (If test comb a b) j e f i k = absurd i
    together_parts context (While test comb a) j e f i k = absurd i
    together_parts context (Repeat count a) j e f i k = absurd i
    together_parts context (StaticSeq length parts) j e f i k = inr (together_seq parts j e f i k)
    together_parts context (StaticPar length arms) j e f i k = together_arms arms j e f i k
    together_parts context (StaticIf length test a b) j e f i k =
        either_two (h test.port (t - j)) (while_runs part h t entry_at no_entry a j) (while_runs part h t entry_at no_entry b j) e f i k
        (λ p q. inr (among (in_left (visit Branch a) (visit Branch b)) (together Branch a j e f (while_in a j e p) (while_in a j f q))))
        (λ p q. inr (among (in_right (visit Branch a) (visit Branch b)) (together Branch b j e f (while_in b j e p) (while_in b j f q))))
    together_parts context (StaticRepeat length count a) j e f i k = inr (together InStatic a (j % length_of part a) e f i k)
    together_parts context (Timed n) j e f i k = absurd i

    pub together : (context : Context) (s : PlainStatement) (j : ℕ) (e f : Entry) → In (statement_at part h t entry_at no_entry s j) e → In (statement_at part h t entry_at no_entry s j) f
        → Together (visit context s) e f
    together context (Placed form place) j e f i k = itself context form place (together_parts context form j e f i k)

    together_seq : (ss : PlainStatements) (j : ℕ) (e f : Entry) → In (parts_at part h t entry_at no_entry ss j) e → In (parts_at part h t entry_at no_entry ss j) f
        → Together (visit_all InStatic ss) e f
    together_seq no_statements j e f i k = absurd i
    together_seq (a_statement s ss) j e f i k =
        either_two (nat_lt j (length_of part s)) (statement_at part h t entry_at no_entry s j) (parts_at part h t entry_at no_entry ss (j - length_of part s)) e f i k
        (λ p q. among (in_left (visit InStatic s) (visit_all InStatic ss)) (together InStatic s j e f p q))
        (λ p q. among (in_right (visit InStatic s) (visit_all InStatic ss)) (together_seq ss (j - length_of part s) e f p q))

    together_arms : (ss : PlainStatements) (j : ℕ) (e f : Entry) → In (arms_at part h t entry_at no_entry ss j) e → In (arms_at part h t entry_at no_entry ss j) f
        → InArms (list_of ss) e.group f.group ⊎ Together (visit_all InStatic ss) e f
    together_arms no_statements j e f i k = absurd i
    together_arms (a_statement s ss) j e f i k =
        of_joined (while_runs part h t entry_at no_entry s j) (arms_at part h t entry_at no_entry ss j) e i
        (λ p. of_joined (while_runs part h t entry_at no_entry s j) (arms_at part h t entry_at no_entry ss j) f k
        (λ q. inr (among (in_left (visit InStatic s) (visit_all InStatic ss)) (together InStatic s j e f (while_in s j e p) (while_in s j f q))))
        (λ q. inl (first_and_later s (list_of ss) e.group f.group (statement_group s j e (while_in s j e p)) (has_enabled s j e (while_in s j e p)) (arm_of ss j f q))))
        (λ p. of_joined (while_runs part h t entry_at no_entry s j) (arms_at part h t entry_at no_entry ss j) f k
        (λ q. inl (later_and_first s (list_of ss) e.group f.group (arm_of ss j e p) (statement_group s j f (while_in s j f q)) (has_enabled s j f (while_in s j f q))))
        (λ q. later_together s ss e f (together_arms ss j e f p q)))
