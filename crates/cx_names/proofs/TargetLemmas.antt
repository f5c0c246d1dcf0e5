-- What the productions of the text can stand for: no target of an assignment is a literal.
use Rattle.std.proofs.Common.{◌≡◌, ℕ, false, List, [], ◌∷◌, map, flat_map, Some, None, inl, inr, ⊎_elim, refl, subst}
use Rattle.cx_text.proofs.MemberLaws.{each_in, flat_in, image_in, in_either}
use Rattle.cx_ast.specs.declared.tokens.Token.{Token}
use Rattle.cx_ast.specs.declared.components.Attribute.{Attribute}
use Rattle.cx_ast.specs.declared.operands.OperandForm.{OperandForm}
use Rattle.cx_ast.specs.declared.operands.OperandItem.{OperandItem}
use Rattle.cx_ast.specs.PlainTree.{PlainTree, PlainComponent, PlainGroup, PlainWire, PlainAssign}
use Rattle.cx_ast.specs.PlainTree as ast
use Rattle.cx_text.specs.Members.{Each, In}
use Rattle.cx_grammar.specs.Grammar.{Nest, Nested, Grammar, Empty, Pair, Choice, Several, Spelling, Spells, Several_of}
use Rattle.cx_grammar.specs.declared.terminals.Terminal.{Terminal}
use Rattle.cx_grammar.specs.declared.terminals.Terminal.TheVariants as t
use Rattle.cx_grammar.specs.Calyx.{sign, name, behind, before, within, pair, mapped, spelled_within, file, imports, components, component, component_of, component_word, signature, body, cells, control, wires_part, wire_list, wire, assign_wire, group_wire, bare_group, group_of, group_word, marks, assigns, assign, assign_of, attributes, bare_assign, value, target, target_of, reference}
use Rattle.cx_grammar.specs.Parsing.{Parse}
use Rattle.cx_numbering.specs.Names.{groups_in, always_in}
use Rattle.cx_numbering.specs.NameRules.{Standing, standing}
use Rattle.cx_names.proofs.Giving.{Asks, asks_nothing, Gives, gives_first, gives_second, gives_left, gives_right, gives_pair, gives_choice, gives_many, gives_behind, gives_within, gives_mapped}
use Rattle.cx_names.specs.Targets.{is_literal, HasTargets}

-- what holds of the parts of a tree
abbrev NoLiteral : OperandItem → Type 0
NoLiteral o = is_literal o.form ≡ false

abbrev RefersTo : (List ℕ → OperandForm) → Type 0
RefersTo f = (n : List ℕ) → is_literal (f n) ≡ false

-- the target of an assignment is no literal
abbrev pub HasTarget : PlainAssign → Type 0
HasTarget a = NoLiteral a.target

abbrev AssignsWith : (List Attribute → PlainAssign) → Type 0
AssignsWith f = (attrs : List Attribute) → HasTarget (f attrs)

abbrev Groups : PlainGroup → Type 0
Groups g = Each HasTarget g.assigns

abbrev GroupsWith : (List Attribute → PlainGroup) → Type 0
GroupsWith f = (attrs : List Attribute) → Groups (f attrs)

abbrev Wires : PlainWire → Type 0
Wires (ast.Group g) = Groups g
Wires (ast.Assign a) = HasTarget a

abbrev WiresWith : (List Attribute → PlainWire) → Type 0
WiresWith f = (attrs : List Attribute) → Wires (f attrs)

abbrev HasWires : PlainComponent → Type 0
HasWires part = Each Wires part.wires

module _ (spelled : (n : Nest) → Spelling (Nested n)) where
  abbrev asks : Asks
  asks = asks_nothing spelled

  -- TARGETS
  no_literal_referred : Gives asks reference RefersTo
  unfolding reference
  no_literal_referred ts f rest k (inl s) = (subst RefersTo s.5 (subst RefersTo s.4.5 (λ n. refl)), tt)
  no_literal_referred ts f rest k (inr (inl s)) = (subst RefersTo s.5 (subst RefersTo s.4.5 (subst RefersTo s.4.3.5 (λ n. refl))), tt)
  no_literal_referred ts f rest k (inr (inr s)) = (subst RefersTo s.1 (λ n. refl), tt)

  no_literal_target : Gives asks target NoLiteral
  unfolding target
  no_literal_target = gives_second asks target_of name reference RefersTo NoLiteral no_literal_referred (λ n f h. h n.0)

  bare_assigns : Gives asks bare_assign AssignsWith
  unfolding bare_assign
  bare_assigns = gives_first asks (λ o v. assign_of o v) target (behind t.Equal (before value t.Semicolon)) NoLiteral AssignsWith no_literal_target (λ o v h attrs. h)

  assigned : Gives asks assign HasTarget
  unfolding assign
  assigned = gives_second asks (λ attrs f. f attrs) attributes bare_assign AssignsWith HasTarget bare_assigns (λ attrs f h. h attrs)

  all_assigned : Gives asks assigns (Each HasTarget)
  unfolding assigns
  all_assigned = gives_many asks assign HasTarget assigned

  bare_groups : Gives asks bare_group GroupsWith
  unfolding bare_group
  bare_groups =
      gives_second asks group_of group_word (pair name (pair marks (within t.OpenBrace assigns t.CloseBrace))) (λ v. Each HasTarget v.1.1) GroupsWith
      (gives_right asks name (pair marks (within t.OpenBrace assigns t.CloseBrace)) (λ v. Each HasTarget v.1)
      (gives_right asks marks (within t.OpenBrace assigns t.CloseBrace) (Each HasTarget)
      (gives_within asks t.OpenBrace assigns t.CloseBrace (Each HasTarget) all_assigned)))
      (λ k v h attrs. h)

  wired : Gives asks wire Wires
  unfolding wire
  wired =
      gives_second asks (λ attrs f. f attrs) attributes (Choice (mapped assign_wire bare_assign) (mapped group_wire bare_group)) WiresWith Wires
      (gives_choice asks (mapped assign_wire bare_assign) (mapped group_wire bare_group) WiresWith
      (gives_mapped asks assign_wire bare_assign AssignsWith WiresWith bare_assigns (λ f h attrs. h attrs))
      (gives_mapped asks group_wire bare_group GroupsWith WiresWith bare_groups (λ f h attrs. h attrs)))
      (λ attrs f h. h attrs)

  all_wired : Gives asks wires_part (Each Wires)
  unfolding wires_part wire_list
  all_wired =
      gives_behind asks t.Wires (within t.OpenBrace wire_list t.CloseBrace) (Each Wires)
      (gives_within asks t.OpenBrace wire_list t.CloseBrace (Each Wires) (gives_many asks wire Wires wired))

  bodied : Gives asks body (λ b. Each Wires b.1.0)
  unfolding body
  bodied =
      gives_behind asks t.OpenBrace (pair cells (pair wires_part (before control t.CloseBrace))) (λ b. Each Wires b.1.0)
      (gives_right asks cells (pair wires_part (before control t.CloseBrace)) (λ v. Each Wires v.0) (gives_left asks wires_part (before control t.CloseBrace) (Each Wires) all_wired))

  is_component : Gives asks component HasWires
  unfolding component
  is_component =
      gives_second asks component_of attributes (pair component_word (pair signature body)) (λ v. Each Wires v.1.1.1.0) HasWires
      (gives_right asks component_word (pair signature body) (λ v. Each Wires v.1.1.0) (gives_right asks signature body (λ b. Each Wires b.1.0) bodied))
      (λ attrs v h. h)

  all_components : Gives asks components (Each HasWires)
  unfolding components
  all_components = gives_many asks component HasWires is_component

  is_file : Gives asks file (λ tree. Each HasWires tree.components)
  unfolding file
  is_file =
      gives_second asks (λ is cs. record { imports = is; components = cs }) imports (Pair (λ c cs. c ∷ cs) component components) (Each HasWires) (λ tree. Each HasWires tree.components)
      (gives_pair asks (λ c cs. c ∷ cs) component components HasWires (Each HasWires) (Each HasWires) is_component all_components (λ c cs h k. (h, k)))
      (λ is cs h. h)

-- from the wires of a component to its assignments
group_wired : (wires : List PlainWire) (g : PlainGroup) → Each Wires wires → In (groups_in wires) g → Each HasTarget g.assigns
group_wired [] g h i = absurd i
group_wired (ast.Group x ∷ wires) g h (inl e) = subst (λ v. Each HasTarget v.assigns) e h.0
group_wired (ast.Group x ∷ wires) g h (inr i) = group_wired wires g h.1 i
group_wired (ast.Assign a ∷ wires) g h i = group_wired wires g h.1 i

always_wired : (wires : List PlainWire) (a : PlainAssign) → Each Wires wires → In (always_in wires) a → HasTarget a
always_wired [] a h i = absurd i
always_wired (ast.Group x ∷ wires) a h i = always_wired wires a h.1 i
always_wired (ast.Assign x ∷ wires) a h (inl e) = subst HasTarget e h.0
always_wired (ast.Assign x ∷ wires) a h (inr i) = always_wired wires a h.1 i

abbrev pub free : PlainAssign → Standing
free a = record { group = None; assign = a }

abbrev pub owned : PlainGroup → PlainAssign → Standing
owned g a = record { group = Some g.name; assign = a }

abbrev pub inside : PlainGroup → List Standing
inside g = map (owned g) g.assigns

abbrev pub IsPort : Standing → Type 0
IsPort x = is_literal x.assign.target.form ≡ false

stands_as_port : (part : PlainComponent) (x : Standing) → Each Wires part.wires → In (standing part) x → IsPort x
stands_as_port part x h i =
    ⊎_elim
    (λ p. let found = image_in free (always_in part.wires) x p in subst IsPort found.2 (always_wired part.wires found.0 h found.1))
    (λ q. let group = flat_in inside (groups_in part.wires) x q in
    let found = image_in (owned group.0) group.0.assigns x group.2 in
    subst IsPort found.2 (each_in HasTarget group.0.assigns found.0 (group_wired part.wires group.0 h group.1) found.1))
    (in_either (map free (always_in part.wires)) (flat_map inside (groups_in part.wires)) x i)

-- in the tree of a text no target is a literal
pub targets_in_text : (tokens : List Token) (tree : PlainTree) → Parse tokens tree → HasTargets tree
unfolding Parse
targets_in_text tokens tree p part i x j =
    stands_as_port part x (each_in HasWires tree.components part (is_file (spelled_within 64) tokens tree [] tt p).0 i) j
