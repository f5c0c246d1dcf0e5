-- From the tree of a text to its design: a place tells a port among the operands of an assignment that is written.
use Rattle.std.proofs.Common.{◌≡◌, ℕ, List, [], ◌∷◌, ◌++◌, map, flat_map, Option, Some, None, inl, inr, ⊎_elim, refl, sym, ap, ◌∙◌, subst}
use Rattle.cx_text.proofs.MemberLaws.{each_in, flat_in, image_in, in_either, in_left, in_right}
use Rattle.cx_text.specs.Places.{start}
use Rattle.cx_ast.specs.declared.tokens.Token.{Token}
use Rattle.cx_ast.specs.declared.operands.OperandItem.{OperandItem}
use Rattle.cx_ast.specs.PlainGuards.{PlainGuard, PlainGuards, Or, And, Compare, Not, Operand, At, During, NoGuards, GuardThen}
use Rattle.cx_ast.specs.PlainTree.{PlainTree, PlainComponent, PlainGroup, PlainWire, PlainAssign}
use Rattle.cx_ast.specs.PlainTree as ast
use Rattle.cx_lex.specs.Lex.{Lex}
use Rattle.cx_grammar.specs.Parsing.{Parse}
use Rattle.cx_meaning.specs.declared.ports.PlacedPort.{PlacedPort}
use Rattle.cx_text.specs.Members.{Each, In}
use Rattle.cx_rules.specs.Items.{sources_of, operands_of, operands_in}
use Rattle.cx_numbering.specs.Names.{groups_in, always_in}
use Rattle.cx_numbering.specs.DesignOf.{placed_of, guard_of, guards_in, guard_or_always, assign_of}
use Rattle.cx_numbering.specs.NameRules.{Standing, standing}
use Rattle.cx_names.proofs.Rising.{text_rises}
use Rattle.cx_names.proofs.Spelled.{in_guard, in_guards, one_at_place}
use Rattle.cx_names.proofs.Written.{in_maybe, in_assign, Assigns, Wires, HasWires, written_in_text}
use Rattle.cx_names.proofs.TargetLemmas.{free, owned, inside}

module _ (tree : PlainTree) (part : PlainComponent) where
  -- a port of the design comes from an operand that is written
  abbrev Comes : List OperandItem → PlacedPort → Type 0
  Comes os p = (o : OperandItem) × In os o × (placed_of tree part o ≡ p)

  comes_left : (xs ys : List OperandItem) (p : PlacedPort) → Comes xs p → Comes (xs ++ ys) p
  comes_left xs ys p c = (c.0, in_left xs ys c.0 c.1, c.2)

  comes_right : (xs ys : List OperandItem) (p : PlacedPort) → Comes ys p → Comes (xs ++ ys) p
  comes_right xs ys p c = (c.0, in_right xs ys c.0 c.1, c.2)

  mutual
    of_guard : (g : PlainGuard) (p : PlacedPort) → In (operands_of (guard_of tree part g)) p → Comes (in_guard g) p
    of_guard (Or gs) p i = of_guards gs p i
    of_guard (And gs) p i = of_guards gs p i
    of_guard (Compare c left right) p (inl e) = (left, inl refl, e)
    of_guard (Compare c left right) p (inr (inl e)) = (right, inr (inl refl), e)
    of_guard (Compare c left right) p (inr (inr i)) = absurd i
    of_guard (Not g) p i = of_guard g p i
    of_guard (Operand o) p (inl e) = (o, inl refl, e)
    of_guard (Operand o) p (inr i) = absurd i
    of_guard (At n) p i = absurd i
    of_guard (During from to) p i = absurd i

    of_guards : (gs : PlainGuards) (p : PlacedPort) → In (operands_in (guards_in tree part gs)) p → Comes (in_guards gs) p
    of_guards NoGuards p i = absurd i
    of_guards (GuardThen g gs) p i =
        ⊎_elim (λ l. comes_left (in_guard g) (in_guards gs) p (of_guard g p l)) (λ r. comes_right (in_guard g) (in_guards gs) p (of_guards gs p r))
        (in_either (operands_of (guard_of tree part g)) (operands_in (guards_in tree part gs)) p i)

  of_maybe : (g : Option PlainGuard) (p : PlacedPort) → In (operands_of (guard_or_always tree part g)) p → Comes (in_maybe g) p
  of_maybe None p i = absurd i
  of_maybe (Some g) p i = of_guard g p i

  of_assign : (a : PlainAssign) (p : PlacedPort) → In (sources_of (assign_of tree part a)) p → Comes (in_assign a) p
  of_assign a p (inl e) = comes_right (in_maybe a.guard) (a.source ∷ []) p (a.source, inl refl, e)
  of_assign a p (inr i) = comes_left (in_maybe a.guard) (a.source ∷ []) p (of_maybe a.guard p i)

  -- so two at one place are of one port
  pub assign_placed : (a : PlainAssign) → Assigns a → (p q : PlacedPort) → In (sources_of (assign_of tree part a)) p → In (sources_of (assign_of tree part a)) q → p.place ≡ q.place → p.port ≡ q.port
  assign_placed a h p q i j e =
      let x = of_assign a p i in
      let y = of_assign a q j in
      let one : x.0 ≡ y.0 = one_at_place h.0 (in_assign a) h.1 x.0 y.0 h.2 x.1 y.1 (ap (λ (r : PlacedPort). r.place) x.2 ∙ e ∙ sym (ap (λ (r : PlacedPort). r.place) y.2)) in
      sym (ap (λ (r : PlacedPort). r.port) x.2) ∙ ap (λ o. (placed_of tree part o).port) one ∙ ap (λ (r : PlacedPort). r.port) y.2

-- from the wires of a component to its assignments
pub group_wired : (wires : List PlainWire) (g : PlainGroup) → Each Wires wires → In (groups_in wires) g → Each Assigns g.assigns
group_wired [] g h i = absurd i
group_wired (ast.Group x ∷ wires) g h (inl e) = subst (λ v. Each Assigns v.assigns) e h.0
group_wired (ast.Group x ∷ wires) g h (inr i) = group_wired wires g h.1 i
group_wired (ast.Assign a ∷ wires) g h i = group_wired wires g h.1 i

pub always_wired : (wires : List PlainWire) (a : PlainAssign) → Each Wires wires → In (always_in wires) a → Assigns a
always_wired [] a h i = absurd i
always_wired (ast.Group x ∷ wires) a h i = always_wired wires a h.1 i
always_wired (ast.Assign x ∷ wires) a h (inl e) = subst Assigns e h.0
always_wired (ast.Assign x ∷ wires) a h (inr i) = always_wired wires a h.1 i

pub in_group : (part : PlainComponent) (g : PlainGroup) (a : PlainAssign) → Each Wires part.wires → In (groups_in part.wires) g → In g.assigns a → Assigns a
in_group part g a h i j = each_in Assigns g.assigns a (group_wired part.wires g h i) j

stands_in_chain : (part : PlainComponent) (x : Standing) → Each Wires part.wires → In (standing part) x → Assigns x.assign
stands_in_chain part x h i =
    ⊎_elim
    (λ p. let found = image_in free (always_in part.wires) x p in subst (λ (y : Standing). Assigns y.assign) found.2 (always_wired part.wires found.0 h found.1))
    (λ q. let group = flat_in inside (groups_in part.wires) x q in
    let found = image_in (owned group.0) group.0.assigns x group.2 in
    subst (λ (y : Standing). Assigns y.assign) found.2 (in_group part group.0 found.0 h group.1 found.1))
    (in_either (map free (always_in part.wires)) (flat_map inside (groups_in part.wires)) x i)

-- the wires of a component of a text
pub wires_of_text : (text : List ℕ) (tokens : List Token) (tree : PlainTree) (part : PlainComponent) → Lex text tokens → Parse tokens tree → In tree.components part → HasWires part
wires_of_text text tokens tree part l s i = each_in HasWires tree.components part (written_in_text tokens tree start (text_rises l) s) i

pub written_placed : (text : List ℕ) (tokens : List Token) (tree : PlainTree) (part : PlainComponent) (x : Standing) (p q : PlacedPort)
    → Lex text tokens → Parse tokens tree → In tree.components part → In (standing part) x
    → In (sources_of (assign_of tree part x.assign)) p → In (sources_of (assign_of tree part x.assign)) q → p.place ≡ q.place → p.port ≡ q.port
written_placed text tokens tree part x p q l s i j ip iq e =
    assign_placed tree part x.assign (stands_in_chain part x (wires_of_text text tokens tree part l s i) j) p q ip iq e
