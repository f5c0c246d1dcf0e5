-- Two breaks of one rule at one spot and place have one name.
use Rattle.std.proofs.Common.{◌≡◌, ℕ, ◌<◌, ◌≤◌, true, false, inl, inr, ◌⊎◌, List, [], ◌∷◌, get_or, Option, Some, None, codes, refl, sym, ap, ◌∙◌, subst, arith}
use Rattle.std.specs.List.{slice_get}
use Rattle.std.proofs.lemmas.Bool.{cases_lt}
use Rattle.cx_text.specs.declared.places.Place.{Place}
use Rattle.cx_text.specs.declared.rules.Rule.{Rule}
use Rattle.cx_text.specs.declared.rules.Rule.TheVariants.{Width, GuardWidth, Literal, NotATarget, NotASource, NoDone, DoneNotState, AlwaysEnable, CombEnable, StaticGuard, StaticShape, CallShape, OutputNotState, CombCycle, Race, Limit}
use Rattle.cx_meaning.specs.declared.ports.PortRef.TheVariants as ports
use Rattle.cx_meaning.specs.Designs.{PlainAssign, PlainInvoke, PlainComponent, PlainDesign, component_at, group_at, PlainForm, Enable, Timed}
use Rattle.cx_meaning.specs.Instances.{Instance, part_of}
use Rattle.cx_meaning.specs.Active.{Owned, source_order}
use Rattle.cx_rules.specs.Accepted.{Breaks}
use Rattle.cx_rules.specs.CallShape.{BreaksCallShape, GroupBreaksCallShape}
use Rattle.cx_rules.specs.InvokeShape.{BreaksStaticCell, BreaksInvoke}
use Rattle.cx_rules.specs.Invokes.{invoke_at}
use Rattle.cx_rules.specs.Items.{Visited, statements_in}
use Rattle.cx_rules.specs.LimitRule.{Limited, OnCells, OnGroups, OnRepeat, OnOccurrences, OnLatency, OnInstances, OnDepth, OnWords, OnWeight, order_of, word_of, BreaksStatement}
use Rattle.cx_rules.specs.Ports.{component_of, path_of, cell_name}
use Rattle.cx_rules.specs.RaceRule.{GroupBreaksCombCycle, BreaksRace}
use Rattle.cx_rules.specs.ShapeRules.{enabled_name, BreaksNoDone, BreaksDoneNotState, BreaksAlwaysEnable, BreaksCombEnable, BreaksStaticGuard, GroupBreaksStaticShape, BreaksStaticControl, BreaksLength, BreaksStaticTest, BreaksInvokeLength, BreaksPartLength, BreaksOutputNotState, BreaksKept}
use Rattle.cx_rules.specs.Spots.{Part, Itself, ABind, AnAssign, AStatement, AGroup, Whole, Spot, AssignRule, StatementRule, GroupRule, OnBind, OnAssign, OnStatement, OnGroup, binds_in}
use Rattle.cx_rules.specs.StaticControl.{is_static}
use Rattle.cx_rules.specs.WidthRules.{BreaksWidth, BreaksGuardWidth, TestBreaksGuardWidth, BreaksLiteral, TestBreaksLiteral, BreaksNotATarget, BreaksNotASource, TestBreaksNotASource}
use Rattle.cx_rules.specs.OneBreak.{IsPlaced}
use Rattle.cx_text.proofs.OptionLaws.{one_value}
use Rattle.cx_rules.proofs.SpotsLemmas.{same_number}

assign_number : (n m : ℕ) → AnAssign n ≡ AnAssign m → n ≡ m
assign_number n m e = cc

bind_number : (n m : ℕ) → ABind n ≡ ABind m → n ≡ m
bind_number n m e = cc

group_number : (n m : ℕ) → AGroup n ≡ AGroup m → n ≡ m
group_number n m e = cc

-- ONE NAME. Two breaks of one rule at one spot and place have one name
module _ (d : PlainDesign) (spot : Spot) (place : Place) (n m : List ℕ) where
  assign_name : (rule other : AssignRule) → ((k : ℕ) (o : Owned) → slice_get (source_order (component_at d spot.component)) k ≡ Some o
      → rule (component_of d spot.component) o place n → other (component_of d spot.component) o place m → n ≡ m)
      → OnAssign rule d spot place n → OnAssign other d spot place m → n ≡ m
  assign_name rule other h a b =
      let e : a.number ≡ b.number = assign_number a.number b.number (sym a.is ∙ b.is) in
      let f : b.assign ≡ a.assign = one_value (slice_get (source_order (component_at d spot.component)) b.number) b.assign a.assign b.stands (subst (λ x. slice_get (source_order (component_at d spot.component)) x ≡ Some a.assign) e a.stands) in
      h a.number a.assign a.stands a.breaks (subst (λ o. other (component_of d spot.component) o place m) f b.breaks)

  abbrev fed : PlainAssign → Owned
  fed a = record { owner = None; assign = a }

  bind_name : (rule : AssignRule) → ((k : ℕ) (a : PlainAssign) → slice_get (binds_in (component_at d spot.component)) k ≡ Some a
      → rule (component_of d spot.component) (fed a) place n → rule (component_of d spot.component) (fed a) place m → n ≡ m)
      → OnBind rule d spot place n → OnBind rule d spot place m → n ≡ m
  bind_name rule h a b =
      let e : a.number ≡ b.number = bind_number a.number b.number (sym a.is ∙ b.is) in
      let f : b.assign ≡ a.assign = one_value (slice_get (binds_in (component_at d spot.component)) b.number) b.assign a.assign b.stands (subst (λ x. slice_get (binds_in (component_at d spot.component)) x ≡ Some a.assign) e a.stands) in
      h a.number a.assign a.stands a.breaks (subst (λ x. rule (component_of d spot.component) (fed x) place m) f b.breaks)

  statement_name : (one other : StatementRule) → ((v : Visited) → one (component_of d spot.component) v place n → other (component_of d spot.component) v place m → n ≡ m)
      → OnStatement one d spot place n → OnStatement other d spot place m → n ≡ m
  statement_name one other h a b =
      let e : a.number ≡ b.number = same_number a.number b.number (sym a.is ∙ b.is) in
      let f : b.statement ≡ a.statement = one_value (slice_get (statements_in (component_at d spot.component)) b.number) b.statement a.statement b.stands (subst (λ x. slice_get (statements_in (component_at d spot.component)) x ≡ Some a.statement) e a.stands) in
      h a.statement a.breaks (subst (λ v. other (component_of d spot.component) v place m) f b.breaks)

  group_name : (rule : GroupRule) → ((g : ℕ) → rule (component_of d spot.component) g place n → rule (component_of d spot.component) g place m → n ≡ m)
      → OnGroup rule d spot place n → OnGroup rule d spot place m → n ≡ m
  group_name rule h a b =
      let e : b.number ≡ a.number = group_number b.number a.number (sym b.is ∙ a.is) in
      h a.number a.breaks (subst (λ g. rule (component_of d spot.component) g place m) e b.breaks)

-- a static statement enables no group
unnamed : (part : PlainComponent) (form : PlainForm) → is_static form ≡ true → enabled_name part form ≡ []
unnamed part (Enable g) e = absurd (let f : false ≡ true = e in cc)
unnamed part _ e = refl

-- the name of a break of static-shape at a statement
control_name : (i : Instance) (v : Visited) (place : Place) (n : List ℕ) → BreaksStaticControl i v place n → n ≡ enabled_name (part_of i) v.form
control_name i v place n b = b.2.1

length_name : (i : Instance) (v : Visited) (place : Place) (n : List ℕ) → BreaksLength i v place n → n ≡ enabled_name (part_of i) v.form
length_name i v place n b = b.3.1 ∙ sym (unnamed (part_of i) v.form b.0)

test_name : (i : Instance) (v : Visited) (place : Place) (n : List ℕ) → BreaksStaticTest i v place n → n ≡ enabled_name (part_of i) v.form
test_name i v place n b = b.6.1 ∙ sym (ap (enabled_name (part_of i)) b.4)

invoke_length_name : (i : Instance) (v : Visited) (place : Place) (n : List ℕ) → BreaksInvokeLength i v place n → n ≡ enabled_name (part_of i) v.form
invoke_length_name i v place n b = b.6.1 ∙ sym (ap (enabled_name (part_of i)) b.2)

-- what is broken at a statement is told by the group that it enables, where it enables one
abbrev NamesItsGroup : StatementRule
NamesItsGroup i v place n = n ≡ enabled_name (part_of i) v.form

named_so : (d : PlainDesign) (spot : Spot) (place : Place) (n : List ℕ) (rule : StatementRule) → ((i : Instance) (v : Visited) → rule i v place n → n ≡ enabled_name (part_of i) v.form)
    → OnStatement rule d spot place n → OnStatement NamesItsGroup d spot place n
named_so d spot place n rule h b = record { within = b.within; number = b.number; is = b.is; statement = b.statement; stands = b.stands; breaks = h (component_of d spot.component) b.statement b.breaks }

shape_kind : (d : PlainDesign) (spot : Spot) (place : Place) (n : List ℕ) → Breaks d StaticShape spot place n
    → OnGroup GroupBreaksStaticShape d spot place n ⊎ OnStatement NamesItsGroup d spot place n ⊎ BreaksPartLength d spot place n
shape_kind d spot place n (inl b) = inl b
shape_kind d spot place n (inr (inl b)) = inr (inl (named_so d spot place n BreaksStaticControl (λ i v x. control_name i v place n x) b))
shape_kind d spot place n (inr (inr (inl b))) = inr (inl (named_so d spot place n BreaksLength (λ i v x. length_name i v place n x) b))
shape_kind d spot place n (inr (inr (inr (inl b)))) = inr (inl (named_so d spot place n BreaksStaticTest (λ i v x. test_name i v place n x) b))
shape_kind d spot place n (inr (inr (inr (inr (inl b))))) = inr (inl (named_so d spot place n BreaksInvokeLength (λ i v x. invoke_length_name i v place n x) b))
shape_kind d spot place n (inr (inr (inr (inr (inr b))))) = inr (inr b)

-- a break of call-shape or output-not-state at an assignment is told by the target
abbrev NamesItsTarget : AssignRule
NamesItsTarget i o place n = n ≡ path_of i o.assign.target

by_target : (d : PlainDesign) (spot : Spot) (place : Place) (n : List ℕ) (rule : AssignRule) → ((i : Instance) (o : Owned) → rule i o place n → n ≡ path_of i o.assign.target)
    → OnAssign rule d spot place n → OnAssign NamesItsTarget d spot place n
by_target d spot place n rule h b = record { within = b.within; number = b.number; is = b.is; assign = b.assign; stands = b.stands; breaks = h (component_of d spot.component) b.assign b.breaks }

call_kind : (d : PlainDesign) (spot : Spot) (place : Place) (n : List ℕ) → Breaks d CallShape spot place n
    → OnAssign NamesItsTarget d spot place n ⊎ OnGroup GroupBreaksCallShape d spot place n ⊎ OnStatement BreaksInvoke d spot place n
call_kind d spot place n (inl b) = inl (by_target d spot place n BreaksCallShape (λ i o x. x.1.1) b)
call_kind d spot place n (inr (inl b)) = inr (inl b)
call_kind d spot place n (inr (inr (inl b))) = inl (by_target d spot place n BreaksStaticCell (λ i o x. x.1.1) b)
call_kind d spot place n (inr (inr (inr b))) = inr (inr b)

output_kind : (d : PlainDesign) (spot : Spot) (place : Place) (n : List ℕ) → Breaks d OutputNotState spot place n → OnAssign NamesItsTarget d spot place n
output_kind d spot place n (inl b) = by_target d spot place n BreaksOutputNotState (λ i o x. x.3.1) b
output_kind d spot place n (inr b) = by_target d spot place n BreaksKept (λ i o x. x.4.1) b

-- the name of a limit by its number
abbrev word_at : ℕ → List ℕ
word_at n = get_or (codes "cells" ∷ codes "groups" ∷ codes "repeat" ∷ codes "occurrences" ∷ codes "latency" ∷ codes "instances" ∷ codes "depth" ∷ codes "words" ∷ codes "weight" ∷ []) n []

word_at-order_of : (l : Limited) → word_at (order_of l) ≡ word_of l
word_at-order_of OnCells = refl
word_at-order_of OnGroups = refl
word_at-order_of OnRepeat = refl
word_at-order_of OnOccurrences = refl
word_at-order_of OnLatency = refl
word_at-order_of OnInstances = refl
word_at-order_of OnDepth = refl
word_at-order_of OnWords = refl
word_at-order_of OnWeight = refl

-- the number of the word of a rule, where the part is a component
abbrev number_in : Part → Option ℕ
number_in (Itself n) = Some n
number_in (ABind n) = None
number_in (AnAssign n) = None
number_in (AStatement n) = None
number_in (AGroup n) = None
number_in (Whole n) = Some n

one_word : (spot : Spot) (l k : Limited) (n m : List ℕ) → number_in spot.part ≡ Some (order_of l) → number_in spot.part ≡ Some (order_of k) → n ≡ word_of l → m ≡ word_of k → n ≡ m
one_word spot l k n m e f g h =
    g ∙ sym (word_at-order_of l) ∙ ap word_at (one_value (number_in spot.part) (order_of l) (order_of k) e f) ∙ word_at-order_of k ∙ sym h

-- a break of a limit is at a statement, or at a component with the number of its word
abbrev WordLimit : Spot → List ℕ → Type 0
WordLimit spot n = (l : Limited) × (number_in spot.part ≡ Some (order_of l)) × (n ≡ word_of l)

limit_kind : (d : PlainDesign) (spot : Spot) (place : Place) (n : List ℕ) → Breaks d Limit spot place n → OnStatement BreaksStatement d spot place n ⊎ WordLimit spot n
limit_kind d spot place n (inl b) = inr (OnCells, ap number_in b.is, b.tells.1)
limit_kind d spot place n (inr (inl b)) = inr (OnGroups, ap number_in b.is, b.tells.1)
limit_kind d spot place n (inr (inr (inl b))) = inl b
limit_kind d spot place n (inr (inr (inr (inl b)))) = inr (OnInstances, ap number_in b.is, b.tells.1)
limit_kind d spot place n (inr (inr (inr (inr (inl b))))) = inr (OnDepth, ap number_in b.is, b.tells.1)
limit_kind d spot place n (inr (inr (inr (inr (inr (inl b)))))) = inr (OnWords, ap number_in b.is, b.tells.1)
limit_kind d spot place n (inr (inr (inr (inr (inr (inr b)))))) = inr (OnWeight, ap number_in b.is, b.tells.1)

limit_names : (d : PlainDesign) (spot : Spot) (place : Place) (n m : List ℕ) → OnStatement BreaksStatement d spot place n ⊎ WordLimit spot n → OnStatement BreaksStatement d spot place m ⊎ WordLimit spot m → n ≡ m
limit_names d spot place n m (inl a) (inl b) =
    statement_name d spot place n m BreaksStatement BreaksStatement (λ v x y. x.2.1 ∙ ap word_of (one_value _ x.0 y.0 x.1 y.1) ∙ sym y.2.1) a b
limit_names d spot place n m (inl a) (inr b) = absurd (let e : None ≡ Some (order_of b.0) = sym (ap number_in a.is) ∙ b.1 in cc)
limit_names d spot place n m (inr a) (inl b) = absurd (let e : None ≡ Some (order_of a.0) = sym (ap number_in b.is) ∙ a.1 in cc)
limit_names d spot place n m (inr a) (inr b) = one_word spot a.0 b.0 n m a.1 b.1 a.2 b.2

least_one : (P : ℕ → Type 0) (x y : ℕ) → P x → P y → ((e : ℕ) → e < x → P e → ⊥) → ((e : ℕ) → e < y → P e → ⊥) → x ≡ y
least_one P x y p q h k = by (cases_lt x y) (cases_lt y x)
  where
    by : (x < y) ⊎ (y ≤ x) → (y < x) ⊎ (x ≤ y) → x ≡ y
    by (inl lt) b = absurd (k x lt p)
    by (inr ge) (inl lt) = absurd (h y lt q)
    by (inr ge) (inr le) = omega arith

race_names : (i : Instance) (v : Visited) (place : Place) (n m : List ℕ) → BreaksRace i v place n → BreaksRace i v place m → n ≡ m
race_names i v place n m (inl a) (inl b) = a.3.1 ∙ ap (cell_name (part_of i).cells) (least_one _ a.0 b.0 a.1 b.1 a.2 b.2) ∙ sym b.3.1
race_names i v place n m (inl a) (inr b) = absurd (b.0 a.0 a.1)
race_names i v place n m (inr a) (inl b) = absurd (a.0 b.0 b.1)
race_names i v place n m (inr (none, a)) (inr (none', b)) = a.3.1 ∙ ap (λ g. (group_at (part_of i) g).name) (least_one _ a.0 b.0 a.1 b.1 a.2 b.2) ∙ sym b.3.1

absurd_spot : {A : Type 0} (spot : Spot) (p q : Part) → spot.part ≡ p → spot.part ≡ q → (p ≡ q → ⊥) → A
absurd_spot spot p q e f h = absurd (h (sym e ∙ f))

assign_statement : (x y : ℕ) → AnAssign x ≡ AStatement y → ⊥
assign_statement x y e = cc

group_statement : (x y : ℕ) → AGroup x ≡ AStatement y → ⊥
group_statement x y e = cc

assign_group : (x y : ℕ) → AnAssign x ≡ AGroup y → ⊥
assign_group x y e = cc

itself_group : (x y : ℕ) → Itself x ≡ AGroup y → ⊥
itself_group x y e = cc

itself_statement : (x y : ℕ) → Itself x ≡ AStatement y → ⊥
itself_statement x y e = cc

bind_assign : (x y : ℕ) → ABind x ≡ AnAssign y → ⊥
bind_assign x y e = cc

bind_statement : (x y : ℕ) → ABind x ≡ AStatement y → ⊥
bind_statement x y e = cc

-- the number of a static invoke tells the invoke
one_invoke : (i : Instance) (v : Visited) (place : Place) (n m : List ℕ) → BreaksInvoke i v place n → BreaksInvoke i v place m → n ≡ m
one_invoke i v place n m x y = x.5.1 ∙ ap (λ (w : PlainInvoke). cell_name (part_of i).cells w.cell) same ∙ sym y.5.1
  where
    timed_number : (j k : ℕ) → Timed j ≡ Timed k → j ≡ k
    timed_number j k e = cc

    same : x.1 ≡ y.1
    same = one_value (invoke_at (part_of i) y.0) x.1 y.1 (subst (λ k. invoke_at (part_of i) k ≡ Some x.1) (timed_number x.0 y.0 (sym x.2 ∙ y.2)) x.3) y.3

-- where a rule is asked of assignments, of conditions and of the inputs that static invokes bind
module _ (d : PlainDesign) (spot : Spot) (place : Place) (n m : List ℕ) where
  names_of_operands : (rule : AssignRule) (test : StatementRule)
      → ((k : ℕ) (o : Owned) → slice_get (source_order (component_at d spot.component)) k ≡ Some o → rule (component_of d spot.component) o place n → rule (component_of d spot.component) o place m → n ≡ m)
      → ((v : Visited) → test (component_of d spot.component) v place n → test (component_of d spot.component) v place m → n ≡ m)
      → ((k : ℕ) (a : PlainAssign) → slice_get (binds_in (component_at d spot.component)) k ≡ Some a
      → rule (component_of d spot.component) (record { owner = None; assign = a }) place n → rule (component_of d spot.component) (record { owner = None; assign = a }) place m → n ≡ m)
      → OnAssign rule d spot place n ⊎ OnStatement test d spot place n ⊎ OnBind rule d spot place n
      → OnAssign rule d spot place m ⊎ OnStatement test d spot place m ⊎ OnBind rule d spot place m → n ≡ m
  names_of_operands rule test f g h (inl a) (inl b) = assign_name d spot place n m rule rule f a b
  names_of_operands rule test f g h (inl a) (inr (inl b)) = absurd_spot spot (AnAssign a.number) (AStatement b.number) a.is b.is (assign_statement a.number b.number)
  names_of_operands rule test f g h (inl a) (inr (inr b)) = absurd_spot spot (ABind b.number) (AnAssign a.number) b.is a.is (bind_assign b.number a.number)
  names_of_operands rule test f g h (inr (inl a)) (inl b) = absurd_spot spot (AnAssign b.number) (AStatement a.number) b.is a.is (assign_statement b.number a.number)
  names_of_operands rule test f g h (inr (inl a)) (inr (inl b)) = statement_name d spot place n m test test g a b
  names_of_operands rule test f g h (inr (inl a)) (inr (inr b)) = absurd_spot spot (ABind b.number) (AStatement a.number) b.is a.is (bind_statement b.number a.number)
  names_of_operands rule test f g h (inr (inr a)) (inl b) = absurd_spot spot (ABind a.number) (AnAssign b.number) a.is b.is (bind_assign a.number b.number)
  names_of_operands rule test f g h (inr (inr a)) (inr (inl b)) = absurd_spot spot (ABind a.number) (AStatement b.number) a.is b.is (bind_statement a.number b.number)
  names_of_operands rule test f g h (inr (inr a)) (inr (inr b)) = bind_name d spot place n m rule h a b

  names_of_assigns : (rule : AssignRule) → ((o : Owned) → rule (component_of d spot.component) o place n → rule (component_of d spot.component) o place m → n ≡ m)
      → OnAssign rule d spot place n ⊎ OnBind rule d spot place n → OnAssign rule d spot place m ⊎ OnBind rule d spot place m → n ≡ m
  names_of_assigns rule h (inl a) (inl b) = assign_name d spot place n m rule rule (λ k o s. h o) a b
  names_of_assigns rule h (inl a) (inr b) = absurd_spot spot (ABind b.number) (AnAssign a.number) b.is a.is (bind_assign b.number a.number)
  names_of_assigns rule h (inr a) (inl b) = absurd_spot spot (ABind a.number) (AnAssign b.number) a.is b.is (bind_assign a.number b.number)
  names_of_assigns rule h (inr a) (inr b) = bind_name d spot place n m rule (λ k o s. h (record { owner = None; assign = o })) a b

  abbrev Shape : List ℕ → Type 0
  Shape name = OnGroup GroupBreaksStaticShape d spot place name ⊎ OnStatement NamesItsGroup d spot place name ⊎ BreaksPartLength d spot place name

  names_of_shapes : Shape n → Shape m → n ≡ m
  names_of_shapes (inl a) (inl b) = group_name d spot place n m GroupBreaksStaticShape (λ g x y. x.3.1 ∙ sym y.3.1) a b
  names_of_shapes (inl a) (inr (inl b)) = absurd_spot spot (AGroup a.number) (AStatement b.number) a.is b.is (group_statement a.number b.number)
  names_of_shapes (inl a) (inr (inr b)) = absurd_spot spot (Itself 0) (AGroup a.number) b.is a.is (itself_group 0 a.number)
  names_of_shapes (inr (inl a)) (inl b) = absurd_spot spot (AGroup b.number) (AStatement a.number) b.is a.is (group_statement b.number a.number)
  names_of_shapes (inr (inl a)) (inr (inl b)) = statement_name d spot place n m NamesItsGroup NamesItsGroup (λ v x y. x ∙ sym y) a b
  names_of_shapes (inr (inl a)) (inr (inr b)) = absurd_spot spot (Itself 0) (AStatement a.number) b.is a.is (itself_statement 0 a.number)
  names_of_shapes (inr (inr a)) (inl b) = absurd_spot spot (Itself 0) (AGroup b.number) a.is b.is (itself_group 0 b.number)
  names_of_shapes (inr (inr a)) (inr (inl b)) = absurd_spot spot (Itself 0) (AStatement b.number) a.is b.is (itself_statement 0 b.number)
  names_of_shapes (inr (inr a)) (inr (inr b)) = a.tells.1 ∙ sym b.tells.1

  abbrev Call : List ℕ → Type 0
  Call name = OnAssign NamesItsTarget d spot place name ⊎ OnGroup GroupBreaksCallShape d spot place name ⊎ OnStatement BreaksInvoke d spot place name

  names_of_calls : Call n → Call m → n ≡ m
  names_of_calls (inl a) (inl b) = assign_name d spot place n m NamesItsTarget NamesItsTarget (λ k o s x y. x ∙ sym y) a b
  names_of_calls (inl a) (inr (inl b)) = absurd_spot spot (AnAssign a.number) (AGroup b.number) a.is b.is (assign_group a.number b.number)
  names_of_calls (inl a) (inr (inr b)) = absurd_spot spot (AnAssign a.number) (AStatement b.number) a.is b.is (assign_statement a.number b.number)
  names_of_calls (inr (inl a)) (inl b) = absurd_spot spot (AnAssign b.number) (AGroup a.number) b.is a.is (assign_group b.number a.number)
  names_of_calls (inr (inl a)) (inr (inl b)) = group_name d spot place n m GroupBreaksCallShape (λ g x y. x.2.1 ∙ sym y.2.1) a b
  names_of_calls (inr (inl a)) (inr (inr b)) = absurd_spot spot (AGroup a.number) (AStatement b.number) a.is b.is (group_statement a.number b.number)
  names_of_calls (inr (inr a)) (inl b) = absurd_spot spot (AnAssign b.number) (AStatement a.number) b.is a.is (assign_statement b.number a.number)
  names_of_calls (inr (inr a)) (inr (inl b)) = absurd_spot spot (AGroup b.number) (AStatement a.number) b.is a.is (group_statement b.number a.number)
  names_of_calls (inr (inr a)) (inr (inr b)) = statement_name d spot place n m BreaksInvoke BreaksInvoke (λ v x y. one_invoke (component_of d spot.component) v place n m x y) a b

  pub names_of : (r : Rule) → (r ≡ NotASource → IsPlaced d) → Breaks d r spot place n → Breaks d r spot place m → n ≡ m
  names_of Width h a b = names_of_assigns BreaksWidth (λ o x y. x.2.1 ∙ ap (path_of (component_of d spot.component)) (one_value _ x.0 y.0 x.1 y.1) ∙ sym y.2.1) a b
  names_of GuardWidth h a b =
      names_of_operands BreaksGuardWidth TestBreaksGuardWidth
      (λ k o s x y. x.2.1 ∙ ap (path_of (component_of d spot.component)) (one_value _ x.0 y.0 x.1 y.1) ∙ sym y.2.1)
      (λ v x y. x.3.1 ∙ ap (λ t. path_of (component_of d spot.component) t.port) (one_value _ x.0 y.0 x.1 y.1) ∙ sym y.3.1)
      (λ k o s x y. x.2.1 ∙ ap (path_of (component_of d spot.component)) (one_value _ x.0 y.0 x.1 y.1) ∙ sym y.2.1) a b
  names_of Literal h a b = names_of_operands BreaksLiteral TestBreaksLiteral (λ k o s x y. x.3.1 ∙ sym y.3.1) (λ v x y. x.3.1 ∙ sym y.3.1) (λ k o s x y. x.3.1 ∙ sym y.3.1) a b
  names_of NotATarget h a b = names_of_assigns BreaksNotATarget (λ o x y. x.1.1 ∙ sym y.1.1) a b
  names_of NotASource h a b =
      names_of_operands BreaksNotASource TestBreaksNotASource
      (λ k o s x y. x.3.1 ∙ ap (path_of (component_of d spot.component)) ((h refl).assigns spot.component k o x.0 y.0 s x.1 y.1 x.2 y.2 (sym x.3.0 ∙ y.3.0)) ∙ sym y.3.1)
      (λ v x y. x.3.1 ∙ ap (λ t. path_of (component_of d spot.component) t.port) (one_value _ x.0 y.0 x.1 y.1) ∙ sym y.3.1)
      (λ k o s x y. x.3.1 ∙ ap (path_of (component_of d spot.component)) ((h refl).binds spot.component k o x.0 y.0 s x.1 y.1 x.2 y.2 (sym x.3.0 ∙ y.3.0)) ∙ sym y.3.1) a b
  names_of NoDone h a b = group_name d spot place n m BreaksNoDone (λ g x y. x.2.1 ∙ sym y.2.1) a b
  names_of DoneNotState h a b =
      assign_name d spot place n m BreaksDoneNotState BreaksDoneNotState
      (λ k o s x y. x.3.1 ∙ ap (λ g. (group_at (part_of (component_of d spot.component)) g).name) (done_group x.0 y.0 (sym x.1 ∙ y.1)) ∙ sym y.3.1) a b
    where
      done_group : (g k : ℕ) → ports.Done g ≡ ports.Done k → g ≡ k
      done_group g k e = cc
  names_of AlwaysEnable h a b = assign_name d spot place n m BreaksAlwaysEnable BreaksAlwaysEnable (λ k o s x y. x.2.1 ∙ sym y.2.1) a b
  names_of CombEnable h a b = assign_name d spot place n m BreaksCombEnable BreaksCombEnable (λ k o s x y. x.4.1 ∙ sym y.4.1) a b
  names_of StaticGuard h a b = assign_name d spot place n m BreaksStaticGuard BreaksStaticGuard (λ k o s x y. x.3.1 ∙ sym y.3.1) a b
  names_of StaticShape h a b = names_of_shapes (shape_kind d spot place n a) (shape_kind d spot place m b)
  names_of CallShape h a b = names_of_calls (call_kind d spot place n a) (call_kind d spot place m b)
  names_of OutputNotState h a b = assign_name d spot place n m NamesItsTarget NamesItsTarget (λ k o s x y. x ∙ sym y) (output_kind d spot place n a) (output_kind d spot place m b)
  names_of CombCycle h (inl a) (inl b) = a.tells.1 ∙ sym b.tells.1
  names_of CombCycle h (inl a) (inr b) = absurd_spot spot (Itself 0) (AGroup b.number) a.is b.is (itself_group 0 b.number)
  names_of CombCycle h (inr a) (inl b) = absurd_spot spot (Itself 0) (AGroup a.number) b.is a.is (itself_group 0 a.number)
  names_of CombCycle h (inr a) (inr b) = group_name d spot place n m GroupBreaksCombCycle (λ g x y. x.1.1 ∙ sym y.1.1) a b
  names_of Race h a b = statement_name d spot place n m BreaksRace BreaksRace (λ v x y. race_names (component_of d spot.component) v place n m x y) a b
  names_of Limit h a b = limit_names d spot place n m (limit_kind d spot place n a) (limit_kind d spot place m b)
  names_of _ h a b = absurd a
