-- What a grammar spells, over tokens that stand further and further on.
use Rattle.std.proofs.Common.{◌≡◌, ℕ, zero, suc, List, [], ◌∷◌, ◌++◌, ◌⊎◌, inl, inr, sym, ◌∙◌, subst}
use Rattle.cx_text.specs.declared.places.Place.{Place}
use Rattle.cx_ast.specs.declared.tokens.Token.{Token}
use Rattle.cx_ast.specs.declared.operands.OperandItem.{OperandItem}
use Rattle.cx_ast.specs.PlainGuards.{PlainGuard, PlainGuards, Or, And, Compare, Not, Operand, At, During, NoGuards, GuardThen}
use Rattle.cx_text.specs.Members.{In}
use Rattle.cx_grammar.specs.declared.terminals.Terminal.{Terminal}
use Rattle.cx_grammar.specs.Grammar.{Nest, Negation, Parens, Braces, Nested, Grammar, Empty, One, Pair, Choice, Several, Commas, Deeper, Spelling, Spells, Several_of, Commas_of, IsComma}
use Rattle.cx_grammar.specs.Calyx.{nest, spelled_within}
use Rattle.cx_names.proofs.Rising.{Before, NoLater, here, before_no_later, then_later, then_before, not_before_itself, Rises}

-- what has places stands one behind the other, from p on and up to q
module _ {A : Type 0} (at : A → Place) where
  abbrev pub Steps : Place → List A → Place → Type 0
  Steps p [] q = NoLater p q
  Steps p (x ∷ xs) q = NoLater p (at x) × ((m : Place) × Before (at x) m × Steps m xs q)

  pub steps_earlier : (p m : Place) (xs : List A) (q : Place) → NoLater p m → Steps m xs q → Steps p xs q
  steps_earlier p m [] q h s = then_later p m q h s
  steps_earlier p m (x ∷ xs) q h s = (then_later p m (at x) h s.0, s.1)

  pub steps_join : (p : Place) (xs : List A) (m : Place) (ys : List A) (q : Place) → Steps p xs m → Steps m ys q → Steps p (xs ++ ys) q
  steps_join p [] m ys q s t = steps_earlier p m ys q s t
  steps_join p (x ∷ xs) m ys q s t = (s.0, (s.1.0, s.1.1, steps_join s.1.0 xs m ys q s.1.2 t))

  pub steps_pass : (p : Place) (xs : List A) (q : Place) → Steps p xs q → NoLater p q
  steps_pass p [] q s = s
  steps_pass p (x ∷ xs) q s = then_later p (at x) q s.0 (then_later (at x) s.1.0 q (before_no_later (at x) s.1.0 s.1.1) (steps_pass s.1.0 xs q s.1.2))

  pub steps_later : (p : Place) (xs : List A) (q m : Place) → Steps p xs q → NoLater q m → Steps p xs m
  steps_later p [] q m s h = then_later p q m s h
  steps_later p (x ∷ xs) q m s h = (s.0, (s.1.0, s.1.1, steps_later s.1.0 xs q m s.1.2 h))

-- where an operand stands
abbrev pub stands : OperandItem → Place
stands o = o.place

-- each operand stands where they begin or later
chained : (p : Place) (os : List OperandItem) (q : Place) (o : OperandItem) → Steps stands p os q → In os o → NoLater p o.place
chained p [] q o c i = absurd i
chained p (x ∷ os) q o c (inl e) = subst (λ (y : OperandItem). NoLater p y.place) e c.0
chained p (x ∷ os) q o c (inr i) =
    then_later p x.place o.place c.0 (then_later x.place c.1.0 o.place (before_no_later x.place c.1.0 c.1.1) (chained c.1.0 os q o c.1.2 i))

first_is_before : (p : Place) (x : OperandItem) (os : List OperandItem) (q : Place) (o : OperandItem) → Steps stands p (x ∷ os) q → In os o → Before x.place o.place
first_is_before p x os q o c i = then_before x.place c.1.0 o.place c.1.1 (chained c.1.0 os q o c.1.2 i)

-- two at one place are one
pub one_at_place : (p : Place) (os : List OperandItem) (q : Place) (a b : OperandItem) → Steps stands p os q → In os a → In os b → a.place ≡ b.place → a ≡ b
one_at_place p [] q a b c i j e = absurd i
one_at_place p (x ∷ os) q a b c (inl h) (inl k) e = sym h ∙ k
one_at_place p (x ∷ os) q a b c (inl h) (inr j) e =
    absurd (not_before_itself a.place (subst (λ r. Before a.place r) (sym e) (subst (λ (y : OperandItem). Before y.place b.place) h (first_is_before p x os q b c j))))
one_at_place p (x ∷ os) q a b c (inr i) (inl k) e =
    absurd (not_before_itself b.place (subst (λ r. Before b.place r) e (subst (λ (y : OperandItem). Before y.place a.place) k (first_is_before p x os q a c i))))
one_at_place p (x ∷ os) q a b c (inr i) (inr j) e = one_at_place c.1.0 os q a b c.1.2 i j e

-- the operands of a guard, as they are written
abbrev mutual
  pub in_guard : PlainGuard → List OperandItem
  in_guard (Or gs) = in_guards gs
  in_guard (And gs) = in_guards gs
  in_guard (Compare c left right) = left ∷ right ∷ []
  in_guard (Not g) = in_guard g
  in_guard (Operand o) = o ∷ []
  in_guard (At n) = []
  in_guard (During from to) = []

  pub in_guards : PlainGuards → List OperandItem
  in_guards NoGuards = []
  in_guards (GuardThen g gs) = in_guard g ++ in_guards gs

-- what is asked of a value that is spelled from p on and up to q
abbrev pub Between : Type 0 → Type 1
Between A = Place → A → Place → Type 0

abbrev pub Passes : {A : Type 0} → Between A
Passes p x q = NoLater p q

-- of the parts that nest, what has places in them
abbrev pub Nests : {A : Type 0} → (A → Place) → ((n : Nest) → Nested n → List A) → (n : Nest) → Between (Nested n)
Nests at parts n p x q = Steps at p (parts n x) q

-- whatever is spelled by tokens that rise is so, and the tokens behind it rise
abbrev pub Keeps : {A : Type 0} → Spelling A → Between A → Type 0
Keeps {A = A} spelling R = (p : Place) (ts : List Token) (x : A) (rest : List Token) → Rises p ts → spelling ts x rest → (q : Place) × R p x q × Rises q rest

module _ (spelled : (n : Nest) → Spelling (Nested n)) where
  abbrev pub Gives : {A : Type 0} → Grammar A → Between A → Type 0
  Gives {A = A} g R = Keeps (Spells spelled g) R

  pub gives_empty : {A : Type 0} (x : A) (R : Between A) → ((p : Place) → R p x p) → Gives (Empty x) R
  gives_empty x R h p ts y rest r s = (p, subst (λ z. R p z p) s.1 (h p), subst (Rises p) s.0 r)

  pub gives_one : {A : Type 0} (set : List Terminal) (value : Token → A) (R : Between A) → ((t : Token) (p q : Place) → NoLater p t.place → Before t.place q → R p (value t) q) → Gives (One set value) R
  gives_one set value R h p ts x rest r s =
      let risen : Rises p (s.0 ∷ rest) = subst (Rises p) s.1 r in
      (risen.1.0, subst (λ z. R p z risen.1.0) s.3 (h s.0 p risen.1.0 risen.0 risen.1.1), risen.1.2)

  pub gives_pair : {A B C : Type 0} (join : A → B → C) (g : Grammar A) (h : Grammar B) (P : Between A) (Q : Between B) (R : Between C)
      → Gives g P → Gives h Q → ((p m q : Place) (x : A) (y : B) → P p x m → Q m y q → R p (join x y) q) → Gives (Pair join g h) R
  gives_pair join g h P Q R one two both p ts z rest r s =
      let a = one p ts s.1 s.0 r s.3 in
      let b = two a.0 s.0 s.2 rest a.2 s.4 in
      (b.0, subst (λ v. R p v b.0) s.5 (both p a.0 b.0 s.1 s.2 a.1 b.1), b.2)

  pub gives_choice : {A : Type 0} (g h : Grammar A) (R : Between A) → Gives g R → Gives h R → Gives (Choice g h) R
  gives_choice g h R one two p ts x rest r (inl s) = one p ts x rest r s
  gives_choice g h R one two p ts x rest r (inr s) = two p ts x rest r s

  several_keep : {A : Type 0} (g : Grammar A) (R : Between A) (S : Between (List A)) → Gives g R → ((p : Place) → S p [] p) → ((p m q : Place) (x : A) (xs : List A) → R p x m → S m xs q → S p (x ∷ xs) q)
      → (xs : List A) (p : Place) (ts rest : List Token) → Rises p ts → Several_of (Spells spelled g) ts xs rest → (q : Place) × S p xs q × Rises q rest
  several_keep g R S one none more [] p ts rest r s = (p, none p, subst (Rises p) s r)
  several_keep g R S one none more (x ∷ xs) p ts rest r s =
      let a = one p ts x s.0 r s.1 in
      let b = several_keep g R S one none more xs a.0 s.0 rest a.2 s.2 in
      (b.0, more p a.0 b.0 x xs a.1 b.1, b.2)

  pub gives_several : {A B : Type 0} (whole : List A → B) (g : Grammar A) (R : Between A) (S : Between (List A)) (T : Between B) → Gives g R
      → ((p : Place) → S p [] p) → ((p m q : Place) (x : A) (xs : List A) → R p x m → S m xs q → S p (x ∷ xs) q)
      → ((p q : Place) (xs : List A) → S p xs q → T p (whole xs) q) → Gives (Several whole g) T
  gives_several whole g R S T one none more all p ts x rest r s =
      let a = several_keep g R S one none more s.0 p ts rest r s.1 in
      (a.0, subst (λ v. T p v a.0) s.2 (all p a.0 s.0 a.1), a.2)

  commas_pass : {A : Type 0} (g : Grammar A) → Gives g Passes → (x : A) (xs : List A) (p : Place) (ts rest : List Token) → Rises p ts → Commas_of (Spells spelled g) x xs ts rest → (q : Place) × NoLater p q × Rises q rest
  commas_pass g one x [] p ts rest r s =
      let a = one p ts x s.0 r s.1 in
      last s.0 a.0 a.1 a.2 s.2
    where
      last : (mid : List Token) (m : Place) → NoLater p m → Rises m mid → (mid ≡ rest) ⊎ IsComma mid rest → (q : Place) × NoLater p q × Rises q rest
      last mid m h k (inl e) = (m, h, subst (Rises m) e k)
      last mid m h k (inr c) =
          (let risen : Rises m (c.0 ∷ rest) = subst (Rises m) c.1 k in
          (risen.1.0, then_later p m risen.1.0 h (then_later m c.0.place risen.1.0 risen.0 (before_no_later c.0.place risen.1.0 risen.1.1)), risen.1.2))
  commas_pass g one x (y ∷ ys) p ts rest r s =
      let a = one p ts x s.0 r s.2 in
      let c = s.3 in
      let risen : Rises a.0 (c.0 ∷ s.1) = subst (Rises a.0) c.1 a.2 in
      let b = commas_pass g one y ys risen.1.0 s.1 rest risen.1.2 s.4 in
      (b.0, then_later p a.0 b.0 a.1 (then_later a.0 c.0.place b.0 risen.0 (then_later c.0.place risen.1.0 b.0 (before_no_later c.0.place risen.1.0 risen.1.1) b.1)), b.2)

  module _ (deep : (n : Nest) → Keeps (spelled n) Passes) where
    -- whatever is spelled leads on
    pub passes : {A : Type 0} (g : Grammar A) → Gives g Passes
    passes (Empty x) p ts v rest r s = gives_empty x Passes here p ts v rest r s
    passes (One set value) p ts v rest r s = gives_one set value Passes (λ t p q h k. then_later p t.place q h (before_no_later t.place q k)) p ts v rest r s
    passes (Pair join g h) p ts v rest r s = gives_pair join g h Passes Passes Passes (passes g) (passes h) (λ p m q x y k l. then_later p m q k l) p ts v rest r s
    passes (Choice g h) p ts v rest r s = gives_choice g h Passes (passes g) (passes h) p ts v rest r s
    passes (Several whole g) p ts v rest r s = gives_several whole g Passes Passes Passes (passes g) here (λ p m q x xs k l. then_later p m q k l) (λ p q xs h. h) p ts v rest r s
    passes (Commas whole g) p ts x rest r s = commas_pass g (passes g) s.0 s.1 p ts rest r s.2
    passes (Deeper n) p ts x rest r s = deep n p ts x rest r s

-- what is asked of the parts that nest holds at each level, where it does one level deeper
pub within_levels : (R : (n : Nest) → Between (Nested n)) → ((spelled : (n : Nest) → Spelling (Nested n)) → ((n : Nest) → Keeps (spelled n) (R n)) → (n : Nest) → Keeps (Spells spelled (nest n)) (R n))
    → (levels : ℕ) (n : Nest) → Keeps (spelled_within levels n) (R n)
within_levels R deeper zero n p ts x rest r s = absurd s
within_levels R deeper (suc levels) n p ts x rest r s = deeper (spelled_within levels) (within_levels R deeper levels) n p ts x rest r s
