-- The operands of an assignment that is written stand one behind the other.
use Rattle.std.proofs.Common.{◌≡◌, ℕ, zero, suc, List, [], ◌∷◌, ◌++◌, flat_map, Option, Some, None, refl, sym, ap, ◌∙◌, subst, append_assoc, append-nil}
use Rattle.cx_text.specs.Members.{Each}
use Rattle.cx_text.specs.declared.places.Place.{Place}
use Rattle.cx_ast.specs.declared.tokens.Token.{Token}
use Rattle.cx_ast.specs.declared.components.Attribute.{Attribute}
use Rattle.cx_ast.specs.declared.operands.OperandItem.{OperandItem}
use Rattle.cx_ast.specs.PlainGuards.{PlainGuard, Compare, Not, Operand, At, During, guards_of}
use Rattle.cx_ast.specs.PlainTree.{PlainTree, PlainComponent, PlainGroup, PlainWire, PlainAssign}
use Rattle.cx_ast.specs.PlainTree as ast
use Rattle.cx_grammar.specs.declared.terminals.Terminal.{Terminal}
use Rattle.cx_grammar.specs.declared.terminals.Terminal.TheVariants as t
use Rattle.cx_grammar.specs.Grammar.{Nest, Negation, Parens, Braces, Nested, Grammar, Empty, Pair, Choice, Deeper, Spelling, Spells}
use Rattle.cx_grammar.specs.Calyx.{sign, name, number, behind, before, within, pair, mapped, many, reference, target_of, assign_of, target, literal, literal_of, operand, cmp, window_range, window, prefixed, unary, compared, comp, and_of, next_comp, more_comps, conj, or_of, next_conj, more_conjs, guard, Value, guarded_of, guarded, guard_value, after_operand, value, assign_of, bare_assign, attributes, assign, group_word, marks, assigns, group_of, bare_group, assign_wire, group_wire, wire, wire_list, wires_part, cells, control, nest, component_word, signature, body, component_of, component, imports, components, file, spelled_within}
use Rattle.cx_grammar.specs.Parsing.{Parse}
use Rattle.cx_names.proofs.Rising.{Before, NoLater, here, then_later, Rises}
use Rattle.cx_names.proofs.Spelled.{Steps, steps_earlier, steps_join, steps_pass, steps_later, stands, in_guard, in_guards, Between, Passes, Nests, Keeps, within_levels, Gives, gives_empty, gives_one, gives_pair, gives_choice, gives_several, passes}

-- operands of conjunctions and disjunctions
abbrev in_each : List PlainGuard → List OperandItem
in_each gs = flat_map in_guard gs

each_guard : (gs : List PlainGuard) → in_guards (guards_of gs) ≡ in_each gs
each_guard [] = refl
each_guard (g ∷ gs) = ap (λ os. in_guard g ++ os) (each_guard gs)

of_and : (g : PlainGuard) (gs : List PlainGuard) → in_guard (and_of (g ∷ gs)) ≡ in_guard g ++ in_each gs
of_and g [] = sym (append-nil (in_guard g))
of_and g (h ∷ gs) = ap (λ os. in_guard g ++ (in_guard h ++ os)) (each_guard gs)

of_or : (g : PlainGuard) (gs : List PlainGuard) → in_guard (or_of (g ∷ gs)) ≡ in_guard g ++ in_each gs
of_or g [] = sym (append-nil (in_guard g))
of_or g (h ∷ gs) = ap (λ os. in_guard g ++ (in_guard h ++ os)) (each_guard gs)

abbrev pub in_maybe : Option PlainGuard → List OperandItem
in_maybe None = []
in_maybe (Some g) = in_guard g

abbrev in_value : Value → List OperandItem
in_value v = in_maybe v.0 ++ v.1 ∷ []

-- the operands of an assignment's guard, and its source behind them
abbrev pub in_assign : PlainAssign → List OperandItem
in_assign a = in_maybe a.guard ++ a.source ∷ []

-- what is asked of the parts of a tree
abbrev Guards : Between PlainGuard
Guards p g q = Steps stands p (in_guard g) q

-- of the parts that nest, the operands of guards
abbrev nested_operands : (n : Nest) → Nested n → List OperandItem
nested_operands Negation g = in_guard g
nested_operands Parens g = in_guard g
nested_operands Braces b = []

abbrev Operands : Between OperandItem
Operands p o q = Steps stands p (o ∷ []) q

abbrev ManyGuards : Between (List PlainGuard)
ManyGuards p gs q = Steps stands p (in_each gs) q

abbrev Values : Between Value
Values p v q = Steps stands p (in_value v) q

-- of what still waits for what stands before it
abbrev Compares : Between (OperandItem → PlainGuard)
Compares p f q = (os : List OperandItem) × Steps stands p os q × ((o : OperandItem) → in_guard (f o) ≡ o ∷ os)

abbrev Guarded : Between (PlainGuard → Value)
Guarded p k q = (os : List OperandItem) × Steps stands p os q × ((g : PlainGuard) → in_value (k g) ≡ in_guard g ++ os)

abbrev Follows : Between (OperandItem → Value)
Follows p f q = (os : List OperandItem) × Steps stands p os q × ((o : OperandItem) → in_value (f o) ≡ o ∷ os)

-- an assignment's operands stand in a chain
abbrev pub Assigns : PlainAssign → Type 0
Assigns a = (p q : Place) × Steps stands p (in_assign a) q

abbrev AssignsWith : (List Attribute → PlainAssign) → Type 0
AssignsWith f = (attrs : List Attribute) → Assigns (f attrs)

abbrev Groups : PlainGroup → Type 0
Groups g = Each Assigns g.assigns

abbrev GroupsWith : (List Attribute → PlainGroup) → Type 0
GroupsWith f = (attrs : List Attribute) → Groups (f attrs)

abbrev pub Wires : PlainWire → Type 0
Wires (ast.Group g) = Each Assigns g.assigns
Wires (ast.Assign a) = Assigns a

abbrev WiresWith : (List Attribute → PlainWire) → Type 0
WiresWith f = (attrs : List Attribute) → Wires (f attrs)

abbrev pub HasWires : PlainComponent → Type 0
HasWires part = Each Wires part.wires

-- wherever it stands
abbrev Ever : {A : Type 0} → (A → Type 0) → Between A
Ever P p x q = P x

module _ (spelled : (n : Nest) → Spelling (Nested n)) (deep : (n : Nest) → Keeps (spelled n) (Nests stands nested_operands n)) where
  abbrev Has : {A : Type 0} → Grammar A → Between A → Type 0
  Has {A = A} g R = Gives spelled g R

  abbrev Is : {A : Type 0} → Grammar A → (A → Type 0) → Type 0
  Is {A = A} g P = Gives spelled g (Ever P)

  leads : {A : Type 0} (g : Grammar A) → Has g Passes
  leads g = passes spelled (λ n p ts x rest r s. let a = deep n p ts x rest r s in (a.0, steps_pass stands p (nested_operands n x) a.0 a.1, a.2)) g

  has_behind : {A : Type 0} (terminal : Terminal) (g : Grammar A) (R : Between A) → ((p m q : Place) (x : A) → NoLater p m → R m x q → R p x q) → Has g R → Has (behind terminal g) R
  has_behind terminal g R earlier h = gives_pair spelled (λ _ x. x) (sign terminal) g Passes R R (leads (sign terminal)) h (λ p m q x y k r. earlier p m q y k r)

  has_before : {A : Type 0} (g : Grammar A) (terminal : Terminal) (R : Between A) → ((p q m : Place) (x : A) → R p x q → NoLater q m → R p x m) → Has g R → Has (before g terminal) R
  has_before g terminal R later h = gives_pair spelled (λ x _. x) g (sign terminal) R Passes R h (leads (sign terminal)) (λ p m q x y r k. later p m q x r k)

  has_mapped : {A B : Type 0} (f : A → B) (g : Grammar A) (P : Between A) (R : Between B) → ((p q m : Place) (x : A) → P p x q → NoLater q m → R p (f x) m) → Has g P → Has (mapped f g) R
  has_mapped f g P R later h = gives_pair spelled (λ x _. f x) g (Empty tt) P Passes R h (leads (Empty tt)) (λ p m q x y r k. later p m q x r k)

  -- OPERANDS
  has_target : Has target Operands
  unfolding target
  has_target =
      gives_pair spelled target_of name reference (λ p n q. NoLater p n.1 × Before n.1 q) Passes Operands
      (gives_one spelled (t.Name ∷ []) _ _ (λ token p q h k. (h, k))) (leads reference) (λ p m q n f h k. (h.0, (m, h.1, k)))

  has_literal : Has literal Operands
  unfolding literal
  has_literal = gives_one spelled (t.Literal ∷ []) (λ token. record { form = literal_of token.kind; place = token.place }) Operands (λ token p q h k. (h, (q, k, here q)))

  has_operand : Has operand Operands
  unfolding operand
  has_operand = gives_choice spelled target literal Operands has_target has_literal

  -- GUARDS
  has_range : Has window_range Guards
  unfolding window_range
  has_range =
      has_behind t.OpenBracket (Pair (λ from to. During from to) number (behind t.Colon (before number t.CloseBracket))) Guards (λ p m q g h c. steps_earlier stands p m (in_guard g) q h c)
      (gives_pair spelled (λ from to. During from to) number (behind t.Colon (before number t.CloseBracket)) Passes Passes Guards (leads number) (leads (behind t.Colon (before number t.CloseBracket))) (λ p m q x y h k. then_later p m q h k))

  has_window : Has window Guards
  unfolding window
  has_window =
      has_behind t.Percent (Choice (mapped (λ n. At n) number) window_range) Guards (λ p m q g h c. steps_earlier stands p m (in_guard g) q h c)
      (gives_choice spelled (mapped (λ n. At n) number) window_range Guards
      (has_mapped (λ n. At n) number Passes Guards (λ p q m n h k. then_later p q m h k) (leads number)) has_range)

  has_prefixed : Has prefixed Guards
  unfolding prefixed
  has_prefixed = gives_choice spelled (Deeper Negation) (Choice (Deeper Parens) window) Guards (deep Negation) (gives_choice spelled (Deeper Parens) window Guards (deep Parens) has_window)

  has_unary : Has unary Guards
  unfolding unary
  has_unary =
      gives_choice spelled prefixed (mapped (λ o. Operand o) operand) Guards has_prefixed
      (has_mapped (λ o. Operand o) operand Operands Guards (λ p q m o h k. steps_later stands p (o ∷ []) q m h k) has_operand)

  has_compared : Has compared Compares
  unfolding compared
  has_compared =
      gives_choice spelled (Pair (λ c right left. Compare c left right) cmp operand) (Empty (λ left. Operand left)) Compares
      (gives_pair spelled (λ c right left. Compare c left right) cmp operand Passes Operands Compares (leads cmp) has_operand (λ p m q c o h k. (o ∷ [], steps_earlier stands p m (o ∷ []) q h k, λ left. refl)))
      (gives_empty spelled (λ left. Operand left) Compares (λ p. ([], here p, λ left. refl)))

  has_comp : Has comp Guards
  unfolding comp
  has_comp =
      gives_choice spelled prefixed (Pair (λ o f. f o) operand compared) Guards has_prefixed
      (gives_pair spelled (λ o f. f o) operand compared Operands Compares Guards has_operand has_compared
      (λ p m q o f h k. subst (λ os. Steps stands p os q) (sym (k.2 o)) (steps_join stands p (o ∷ []) m k.0 q h k.1)))

  has_next_comp : Has next_comp Guards
  unfolding next_comp
  has_next_comp = has_behind t.And comp Guards (λ p m q g h c. steps_earlier stands p m (in_guard g) q h c) has_comp

  has_more_comps : Has more_comps ManyGuards
  unfolding more_comps
  has_more_comps = gives_several spelled (λ xs. xs) next_comp Guards ManyGuards ManyGuards has_next_comp here (λ p m q g gs h k. steps_join stands p (in_guard g) m (in_each gs) q h k) (λ p q gs h. h)

  has_conj : Has conj Guards
  unfolding conj
  has_conj =
      gives_pair spelled (λ g gs. and_of (g ∷ gs)) comp more_comps Guards ManyGuards Guards has_comp has_more_comps
      (λ p m q g gs h k. subst (λ os. Steps stands p os q) (sym (of_and g gs)) (steps_join stands p (in_guard g) m (in_each gs) q h k))

  has_next_conj : Has next_conj Guards
  unfolding next_conj
  has_next_conj = has_behind t.Or conj Guards (λ p m q g h c. steps_earlier stands p m (in_guard g) q h c) has_conj

  has_more_conjs : Has more_conjs ManyGuards
  unfolding more_conjs
  has_more_conjs = gives_several spelled (λ xs. xs) next_conj Guards ManyGuards ManyGuards has_next_conj here (λ p m q g gs h k. steps_join stands p (in_guard g) m (in_each gs) q h k) (λ p q gs h. h)

  has_guard : Has guard Guards
  unfolding guard
  has_guard =
      gives_pair spelled (λ g gs. or_of (g ∷ gs)) conj more_conjs Guards ManyGuards Guards has_conj has_more_conjs
      (λ p m q g gs h k. subst (λ os. Steps stands p os q) (sym (of_or g gs)) (steps_join stands p (in_guard g) m (in_each gs) q h k))

  -- VALUES
  in_guarded : (gs hs : List PlainGuard) (o : OperandItem) (g : PlainGuard) → in_value (guarded_of gs (hs, o) g) ≡ in_guard g ++ (in_each gs ++ (in_each hs ++ o ∷ []))
  in_guarded gs hs o g =
      ap (λ os. os ++ o ∷ []) (of_or (and_of (g ∷ gs)) hs ∙ ap (λ os. os ++ in_each hs) (of_and g gs))
      ∙ append_assoc (in_guard g ++ in_each gs) (in_each hs) (o ∷ [])
      ∙ append_assoc (in_guard g) (in_each gs) (in_each hs ++ o ∷ [])

  has_guarded : Has guarded Guarded
  unfolding guarded
  has_guarded =
      gives_pair spelled guarded_of more_comps (pair more_conjs (behind t.Question operand)) ManyGuards (λ p r q. Steps stands p (in_each r.0 ++ r.1 ∷ []) q) Guarded has_more_comps
      (gives_pair spelled (λ hs o. (hs, o)) more_conjs (behind t.Question operand) ManyGuards Operands (λ p r q. Steps stands p (in_each r.0 ++ r.1 ∷ []) q) has_more_conjs
      (has_behind t.Question operand Operands (λ p m q o h c. steps_earlier stands p m (o ∷ []) q h c) has_operand)
      (λ p m q hs o h k. steps_join stands p (in_each hs) m (o ∷ []) q h k))
      (λ p m q gs r h k. (in_each gs ++ (in_each r.0 ++ r.1 ∷ []), steps_join stands p (in_each gs) m (in_each r.0 ++ r.1 ∷ []) q h k, λ g. in_guarded gs r.0 r.1 g))

  has_guard_value : Has guard_value Follows
  unfolding guard_value
  has_guard_value =
      gives_pair spelled (λ f k o. k (f o)) compared guarded Compares Guarded Follows has_compared has_guarded
      (λ p m q f k h l. (h.0 ++ l.0, steps_join stands p h.0 m l.0 q h.1 l.1, λ o. l.2 (f o) ∙ ap (λ os. os ++ l.0) (h.2 o)))

  has_after_operand : Has after_operand Follows
  unfolding after_operand
  has_after_operand = gives_choice spelled guard_value (Empty (λ o. (None, o))) Follows has_guard_value (gives_empty spelled (λ o. (None, o)) Follows (λ p. ([], here p, λ o. refl)))

  has_value : Has value Values
  unfolding value
  has_value =
      gives_choice spelled (Pair (λ g k. k g) prefixed guarded) (Pair (λ o k. k o) operand after_operand) Values
      (gives_pair spelled (λ g k. k g) prefixed guarded Guards Guarded Values has_prefixed has_guarded
      (λ p m q g k h l. subst (λ os. Steps stands p os q) (sym (l.2 g)) (steps_join stands p (in_guard g) m l.0 q h l.1)))
      (gives_pair spelled (λ o k. k o) operand after_operand Operands Follows Values has_operand has_after_operand
      (λ p m q o k h l. subst (λ os. Steps stands p os q) (sym (l.2 o)) (steps_join stands p (o ∷ []) m l.0 q h l.1)))

  -- the parts that nest, one level deeper
  nested : (n : Nest) → Keeps (Spells spelled (nest n)) (Nests stands nested_operands n)
  unfolding nest
  nested Negation = gives_pair spelled (λ _ g. Not g) (sign t.Not) unary Passes Guards Guards (leads (sign t.Not)) has_unary (λ p m q x g h c. steps_earlier stands p m (in_guard g) q h c)
  nested Parens =
      has_behind t.OpenParen (before guard t.CloseParen) Guards (λ p m q g h c. steps_earlier stands p m (in_guard g) q h c)
      (has_before guard t.CloseParen Guards (λ p q m g c h. steps_later stands p (in_guard g) q m c h) has_guard)
  nested Braces = leads (nest Braces)

  -- ASSIGNMENTS
  ever_behind : {A : Type 0} (terminal : Terminal) (g : Grammar A) (P : A → Type 0) → Is g P → Is (behind terminal g) P
  ever_behind terminal g P h = has_behind terminal g (Ever P) (λ p m q x _ r. r) h

  ever_within : {A : Type 0} (from : Terminal) (g : Grammar A) (to : Terminal) (P : A → Type 0) → Is g P → Is (within from g to) P
  ever_within from g to P h = ever_behind from (before g to) P (has_before g to (Ever P) (λ p q m x r _. r) h)

  ever_mapped : {A B : Type 0} (f : A → B) (g : Grammar A) (P : A → Type 0) (R : B → Type 0) → Is g P → ((x : A) → P x → R (f x)) → Is (mapped f g) R
  ever_mapped f g P R h each = has_mapped f g (Ever P) (Ever R) (λ p q m x r _. each x r) h

  ever_second : {A B C : Type 0} (join : A → B → C) (g : Grammar A) (h : Grammar B) (Q : B → Type 0) (R : C → Type 0) → Is h Q → ((x : A) (y : B) → Q y → R (join x y)) → Is (Pair join g h) R
  ever_second join g h Q R two both = gives_pair spelled join g h Passes (Ever Q) (Ever R) (leads g) two (λ p m q x y _ r. both x y r)

  ever_left : {A B : Type 0} (g : Grammar A) (h : Grammar B) (P : A → Type 0) → Is g P → Is (pair g h) (λ r. P r.0)
  ever_left {A = A} {B = B} g h P one = gives_pair spelled (λ (x : A) (y : B). (x, y)) g h (Ever P) Passes (Ever (λ (r : A × B). P r.0)) one (leads h) (λ p m q x y r _. r)

  ever_right : {A B : Type 0} (g : Grammar A) (h : Grammar B) (Q : B → Type 0) → Is h Q → Is (pair g h) (λ r. Q r.1)
  ever_right {A = A} {B = B} g h Q two = ever_second (λ (x : A) (y : B). (x, y)) g h Q (λ r. Q r.1) two (λ x y q. q)

  ever_many : {A : Type 0} (g : Grammar A) (P : A → Type 0) → Is g P → Is (many g) (Each P)
  ever_many g P h = gives_several spelled (λ xs. xs) g (Ever P) (Ever (Each P)) (Ever (Each P)) h (λ p. tt) (λ p m q x xs r s. (r, s)) (λ p q xs r. r)

  bare_assigns : Is bare_assign AssignsWith
  unfolding bare_assign
  bare_assigns =
      gives_pair spelled (λ o v. assign_of o v) target (behind t.Equal (before value t.Semicolon)) Passes Values (Ever AssignsWith) (leads target)
      (has_behind t.Equal (before value t.Semicolon) Values (λ p m q v h c. steps_earlier stands p m (in_value v) q h c)
      (has_before value t.Semicolon Values (λ p q m v c h. steps_later stands p (in_value v) q m c h) has_value))
      (λ p m q o v h c attrs. (m, q, c))

  assigned : Is assign Assigns
  unfolding assign
  assigned = ever_second (λ attrs f. f attrs) attributes bare_assign AssignsWith Assigns bare_assigns (λ attrs f h. h attrs)

  all_assigned : Is assigns (Each Assigns)
  unfolding assigns
  all_assigned = ever_many assign Assigns assigned

  bare_groups : Is bare_group GroupsWith
  unfolding bare_group
  bare_groups =
      ever_second group_of group_word (pair name (pair marks (within t.OpenBrace assigns t.CloseBrace))) (λ r. Each Assigns r.1.1) GroupsWith
      (ever_right name (pair marks (within t.OpenBrace assigns t.CloseBrace)) (λ r. Each Assigns r.1)
      (ever_right marks (within t.OpenBrace assigns t.CloseBrace) (Each Assigns)
      (ever_within t.OpenBrace assigns t.CloseBrace (Each Assigns) all_assigned)))
      (λ k r h attrs. h)

  wired : Is wire Wires
  unfolding wire
  wired =
      ever_second (λ attrs f. f attrs) attributes (Choice (mapped assign_wire bare_assign) (mapped group_wire bare_group)) WiresWith Wires
      (gives_choice spelled (mapped assign_wire bare_assign) (mapped group_wire bare_group) (Ever WiresWith)
      (ever_mapped assign_wire bare_assign AssignsWith WiresWith bare_assigns (λ f h attrs. h attrs))
      (ever_mapped group_wire bare_group GroupsWith WiresWith bare_groups (λ f h attrs. h attrs)))
      (λ attrs f h. h attrs)

  all_wired : Is wires_part (Each Wires)
  unfolding wires_part wire_list
  all_wired =
      ever_behind t.Wires (within t.OpenBrace wire_list t.CloseBrace) (Each Wires)
      (ever_within t.OpenBrace wire_list t.CloseBrace (Each Wires) (ever_many wire Wires wired))

  bodied : Is body (λ b. Each Wires b.1.0)
  unfolding body
  bodied =
      ever_behind t.OpenBrace (pair cells (pair wires_part (before control t.CloseBrace))) (λ b. Each Wires b.1.0)
      (ever_right cells (pair wires_part (before control t.CloseBrace)) (λ r. Each Wires r.0) (ever_left wires_part (before control t.CloseBrace) (Each Wires) all_wired))

  is_component : Is component HasWires
  unfolding component
  is_component =
      ever_second component_of attributes (pair component_word (pair signature body)) (λ r. Each Wires r.1.1.1.0) HasWires
      (ever_right component_word (pair signature body) (λ r. Each Wires r.1.1.0) (ever_right signature body (λ b. Each Wires b.1.0) bodied))
      (λ attrs r h. h)

  all_components : Is components (Each HasWires)
  unfolding components
  all_components = ever_many component HasWires is_component

  is_file : Is file (λ tree. Each HasWires tree.components)
  unfolding file
  is_file =
      ever_second (λ is r. record { imports = is; components = r }) imports (Pair (λ c cs. c ∷ cs) component components) (Each HasWires) (λ tree. Each HasWires tree.components)
      (gives_pair spelled (λ c cs. c ∷ cs) component components (Ever HasWires) (Ever (Each HasWires)) (Ever (Each HasWires)) is_component all_components (λ p m q c cs h k. (h, k)))
      (λ is cs h. h)

-- in the tree of a text each assignment's operands stand in a chain
pub written_in_text : (tokens : List Token) (tree : PlainTree) (p : Place) → Rises p tokens → Parse tokens tree → Each HasWires tree.components
unfolding Parse
written_in_text tokens tree p r s = (is_file (spelled_within 64) (within_levels (Nests stands nested_operands) nested 64) p tokens tree [] r s).1
