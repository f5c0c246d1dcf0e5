-- No part of a guard of a text's design is Always: that stands for an assignment without a guard, alone.
use Rattle.std.proofs.Common.{◌≡◌, ℕ, ◌<◌, Bool, true, false, List, [], ◌∷◌, ◌++◌, Option, Some, None, length, map, flat_map, inl, inr, ⊎_elim, sym, subst, arith}
use Rattle.std.proofs.lemmas.List.{length-map}
use Rattle.std.proofs.lemmas.Option.{get_or_from_slice_get}
use Rattle.cx_text.proofs.MemberLaws.{flat_in, image_in, in_at, in_either}
use Rattle.cx_ast.specs.declared.statements.BindItem.{BindItem}
use Rattle.cx_ast.specs.PlainGuards as guards
use Rattle.cx_ast.specs.PlainTree as ast
use Rattle.cx_ast.specs.PlainTree.{PlainTree}
use Rattle.cx_meaning.specs.Designs.{Atom, guards_of, PlainAssign, PlainGroup, no_group, component_at, group_at}
use Rattle.cx_text.specs.Members.{In}
use Rattle.cx_rules.specs.Wellformed.{StandsIn}
use Rattle.cx_numbering.specs.Names.{groups_in, always_in}
use Rattle.cx_numbering.specs.DesignOf.{Invoke, Next, guard_of, guards_in, guard_or_always, assign_of, group_of, input_assign, go_assign, go_guard, capture_assigns, register_done, done_assign, invoke_group, is_static_invoke, static_capture, capture_group, after, captures_for, groups_for, invoke_groups, first, control_invokes, component_of, design_of}
use Rattle.cx_names.proofs.Base.{some_at}
use Rattle.cx_names.proofs.There.{component_is}
use Rattle.cx_wiring.specs.Nesting.{IsPart, AreParts, HasParts}
use Rattle.cx_wiring.proofs.ComponentCounts.{PartsHold}
use Rattle.cx_wiring.proofs.DesignNames.{stands_in}

module _ (tree : PlainTree) (part : ast.PlainComponent) where
  -- GUARDS
  mutual
    is_part : (g : guards.PlainGuard) → IsPart (guard_of tree part g)
    is_part (guards.Or gs) = are_parts gs
    is_part (guards.And gs) = are_parts gs
    is_part (guards.Compare c left right) = tt
    is_part (guards.Not g) = is_part g
    is_part (guards.Operand o) = tt
    is_part (guards.At n) = tt
    is_part (guards.During from to) = tt

    are_parts : (gs : guards.PlainGuards) → AreParts (guards_in tree part gs)
    are_parts guards.NoGuards = tt
    are_parts (guards.GuardThen g gs) = (is_part g, are_parts gs)

  written_parts : (g : guards.PlainGuard) → HasParts (guard_of tree part g)
  written_parts (guards.Or gs) = are_parts gs
  written_parts (guards.And gs) = are_parts gs
  written_parts (guards.Compare c left right) = tt
  written_parts (guards.Not g) = is_part g
  written_parts (guards.Operand o) = tt
  written_parts (guards.At n) = tt
  written_parts (guards.During from to) = tt

  maybe_parts : (g : Option guards.PlainGuard) → HasParts (guard_or_always tree part g)
  maybe_parts None = tt
  maybe_parts (Some g) = written_parts g

  -- ASSIGNMENTS
  abbrev Parts : PlainAssign → Type 0
  Parts a = HasParts a.guard

  written_assign : (list : List ast.PlainAssign) (a : PlainAssign) → In (map (assign_of tree part) list) a → Parts a
  written_assign list a i = let found = image_in (assign_of tree part) list a i in subst Parts found.2 (maybe_parts found.0.guard)

  atoms_parts : (k : Invoke) (binds : List BindItem) → AreParts (guards_of (map (λ b. Atom (register_done tree part k b)) binds))
  atoms_parts k [] = tt
  atoms_parts k (b ∷ binds) = (tt, atoms_parts k binds)

  go_parts : (k : Invoke) (binds : List BindItem) → HasParts (go_guard tree part k binds)
  go_parts k [] = tt
  go_parts k (b ∷ binds) = tt

  done_parts : (k : Invoke) (g : ℕ) (binds : List BindItem) → Parts (done_assign tree part k g binds)
  done_parts k g [] = tt
  done_parts k g (b ∷ []) = tt
  done_parts k g (b ∷ other ∷ binds) = (tt, (tt, atoms_parts k binds))

  capture_parts : (k : Invoke) (b : BindItem) (a : PlainAssign) → In (capture_assigns tree part k b) a → Parts a
  capture_parts k b a (inl e) = subst Parts e tt
  capture_parts k b a (inr (inl e)) = subst Parts e tt
  capture_parts k b a (inr (inr i)) = absurd i

  invoke_parts : (g : ℕ) (k : Invoke) (a : PlainAssign) → In (invoke_group tree part g k).assigns a → Parts a
  invoke_parts g k a i =
      ⊎_elim
      (λ j. let found = image_in (input_assign tree part k) k.inputs a j in subst Parts found.2 tt)
      (λ j. behind j)
      (in_either (map (input_assign tree part k) k.inputs) (go_assign tree part k ∷ (flat_map (capture_assigns tree part k) k.outputs ++ (done_assign tree part k g k.outputs ∷ []))) a i)
    where
      last : In (done_assign tree part k g k.outputs ∷ []) a → Parts a
      last (inl e) = subst Parts e (done_parts k g k.outputs)
      last (inr i) = absurd i

      behind : In (go_assign tree part k ∷ (flat_map (capture_assigns tree part k) k.outputs ++ (done_assign tree part k g k.outputs ∷ []))) a → Parts a
      behind (inl e) = subst Parts e (go_parts k k.outputs)
      behind (inr j) =
          ⊎_elim
          (λ l. let found = flat_in (capture_assigns tree part k) k.outputs a l in capture_parts k found.0 a found.2)
          last
          (in_either (flat_map (capture_assigns tree part k) k.outputs) (done_assign tree part k g k.outputs ∷ []) a j)

  static_capture_parts : (k : Invoke) (b : BindItem) (a : PlainAssign) → In (static_capture tree part k b) a → Parts a
  static_capture_parts k b a (inl e) = subst Parts e tt
  static_capture_parts k b a (inr (inl e)) = subst Parts e tt
  static_capture_parts k b a (inr (inr i)) = absurd i

  abbrev GroupParts : PlainGroup → Type 0
  GroupParts group = (a : PlainAssign) → In group.assigns a → Parts a

  capture_group_parts : (k : Invoke) → GroupParts (capture_group tree part k)
  capture_group_parts k a i = let found = flat_in (static_capture tree part k) k.outputs a i in static_capture_parts k found.0 a found.2

  captures_parts : (k : Invoke) (binds : List BindItem) (group : PlainGroup) → In (captures_for tree part k binds) group → GroupParts group
  captures_parts k [] group i = absurd i
  captures_parts k (b ∷ binds) group (inl e) = subst GroupParts e (capture_group_parts k)
  captures_parts k (b ∷ binds) group (inr i) = absurd i

  one_parts : (static : Bool) (n : Next) (k : Invoke) (group : PlainGroup) → In (groups_for tree part static n k) group → GroupParts group
  one_parts true n k group i = captures_parts k k.outputs group i
  one_parts false n k group (inl e) = subst GroupParts e (invoke_parts n.group k)
  one_parts false n k group (inr i) = absurd i

  invoked_parts : (n : Next) (ks : List Invoke) (group : PlainGroup) → In (invoke_groups tree part n ks) group → GroupParts group
  invoked_parts n [] group i = absurd i
  invoked_parts n (k ∷ ks) group i =
      ⊎_elim (λ own. one_parts (is_static_invoke tree part k) n k group own) (λ later. invoked_parts (after tree part n k) ks group later)
      (in_either (groups_for tree part (is_static_invoke tree part k) n k) (invoke_groups tree part (after tree part n k) ks) group i)

  group_parts : (group : PlainGroup) → In (component_of tree part).groups group → (a : PlainAssign) → In group.assigns a → Parts a
  group_parts group i a j =
      ⊎_elim
      (λ l. let found = image_in (group_of tree part) (groups_in part.wires) group l in written_assign found.0.assigns a (subst (λ (x : PlainGroup). In x.assigns a) (sym found.2) j))
      (λ r. invoked_parts (first tree part) (control_invokes tree part part.control) group r a j)
      (in_either (map (group_of tree part) (groups_in part.wires)) (invoke_groups tree part (first tree part) (control_invokes tree part part.control)) group i)

  stands_parts : (owner : Option ℕ) (a : PlainAssign) → StandsIn (component_of tree part) owner a → Parts a
  stands_parts None a i = written_assign (always_in part.wires) a i
  stands_parts (Some g) a h =
      let group = some_at (component_of tree part).groups g h.0 in
      let here : group_at (component_of tree part) g ≡ group.0 = get_or_from_slice_get (component_of tree part).groups g group.0 no_group group.1 in
      group_parts group.0 (in_at (component_of tree part).groups g group.0 group.1) a (subst (λ (x : PlainGroup). In x.assigns a) here h.1)

-- in each component of the design of a tree
pub guards_hold : (tree : PlainTree) (k : ℕ) → k < length (design_of tree).components → PartsHold (component_at (design_of tree) k)
guards_hold tree k within =
    let many : length (design_of tree).components ≡ length tree.components = length-map tree.components (component_of tree) in
    let part = some_at tree.components k (omega (arith, within, many)) in
    subst PartsHold (sym (component_is tree k part.0 part.1)) (λ o i. stands_parts tree part.0 o.owner o.assign (stands_in (component_of tree part.0) o i))
