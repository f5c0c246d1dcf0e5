-- THE DESIGN OF A PROMOTED TREE is one that promotion makes of the tree's design.
use Rattle.std.proofs.Common.{◌≡◌, ℕ, zero, suc, ◌+◌, ◌<◌, inl, inr, Bool, true, false, List, [], ◌∷◌, ◌++◌, Option, Some, None, is_some, option_map, length, map, get_or, slice_get, codes, refl, sym, ap, ap₂, ◌∙◌, subst, arith}
use Rattle.std.proofs.lemmas.List.{length-map, append-nil}
use Rattle.std.proofs.lemmas.Option.{slice_get-map, slice_get-get_or}
use Rattle.std.specs.Prelude.{unwrap_or}
use Rattle.cx_text.specs.declared.places.Place.{Place}
use Rattle.cx_ast.specs.PlainStatements as statements
use Rattle.cx_ast.specs.PlainTree as ast
use Rattle.cx_ast.specs.PlainTree.{PlainTree}
use Rattle.cx_meaning.specs.Designs.{PlainGroup, no_group, group_at, PlainComponent, no_component, component_at, no_place}
use Rattle.cx_meaning.specs.Instances.{Instance}
use Rattle.cx_rules.specs.Ports as rules
use Rattle.cx_numbering.specs.Names.{number_of, group_names, groups_in, always_in}
use Rattle.cx_numbering.specs.DesignOf.{number_or_0, Next, group_of, assign_of, is_static_invoke, past, invoke_form, form_of, else_of, block_of, all_of, invokes_in, invokes_of, invoke_groups, static_invokes, first, control_invokes, control_of, group_number, component_of, design_of}
use Rattle.cx_names_scopes.specs.Scopes.{at_number}
use Rattle.cx_names_scopes.proofs.NameLemmas.{group_at as group_by_number}
use Rattle.cx_promotion.specs.declared.rows.PromotedRow.{PromotedRow}
use Rattle.cx_promotion.specs.Promotable.{promotable, promoted_group}
use Rattle.cx_promotion.specs.Made.{GroupsMade, no_groups, a_group, IsPromoted, FormMade, empty, enable, seq, par, if_made, while_made, repeat_made, static, timed, StatementMade, placed, PartsMade, no_parts, a_part, ArmsMade, no_arms, an_arm, PartMade, DesignMade}
use Rattle.cx_promotion.specs.Rewriting.{length_of, length_found, is_long, promote_component, components_from, made_tree, IsPromotedTree}
use Rattle.cx_promote.proofs.PartsPromoted.{component_names-made, twin, made_group, cells-made, groups_in-made, always_in-made, assigns-made, long-made, groups-made, first-made, invoke_groups-made, static_invokes-made}
use Rattle.cx_promote.proofs.ControlPromoted.{control_made, control_invokes-made}
use Rattle.cx_promote.proofs.OrderPromoted.{order_made}

-- an entry of a list that begins with what a function gives
front_of : {A B : Type 0} (f : A → B) (xs : List A) (rest : List B) (n : ℕ) (x : A) (d : B) → slice_get xs n ≡ Some x → get_or (map f xs ++ rest) n d ≡ f x
front_of f [] rest n x d e = absurd cc
front_of f (y ∷ xs) rest zero x d e = let same : y ≡ x = cc in ap f same
front_of f (y ∷ xs) rest (suc n) x d e = front_of f xs rest n x d e

same_groups : (i : Instance) (xs : List PlainGroup) → GroupsMade i xs xs
same_groups i [] = no_groups
same_groups i (x ∷ xs) = a_group (inl refl) (same_groups i xs)

-- A COMPONENT, and the one that is made of it
module _ (tree : PlainTree) (part : ast.PlainComponent) (i : Instance) where
  abbrev old_part : PlainComponent
  old_part = component_of tree part

  abbrev new_part : PlainComponent
  new_part = component_of (made_tree tree) (twin tree part i)

  -- the groups of invokes stay
  abbrev invoked : List PlainGroup
  invoked = invoke_groups tree part (first tree part) (control_invokes tree part part.control)

  invoked-made : invoke_groups (made_tree tree) (twin tree part i) (first (made_tree tree) (twin tree part i)) (control_invokes (made_tree tree) (twin tree part i) (twin tree part i).control) ≡ invoked
  invoked-made =
      ap₂ (invoke_groups (made_tree tree) (twin tree part i)) (first-made tree part i) (control_invokes-made tree part i (is_long tree part i) part.control)
      ∙ invoke_groups-made tree part i (first tree part) (control_invokes tree part part.control)

  -- and so do static invokes
  invokes-made : new_part.invokes ≡ old_part.invokes
  invokes-made =
      ap₂ (static_invokes (made_tree tree) (twin tree part i)) (first-made tree part i) (control_invokes-made tree part i (is_long tree part i) part.control)
      ∙ static_invokes-made tree part i (first tree part) (control_invokes tree part part.control)

  new_groups : new_part.groups ≡ map (group_of (made_tree tree) (twin tree part i)) (map (made_group tree part i) (groups_in part.wires)) ++ invoked
  new_groups = ap₂ (λ gs rest. map (group_of (made_tree tree) (twin tree part i)) gs ++ rest) (groups_in-made tree part i part.wires) invoked-made

  groups-are-made : GroupsMade i old_part.groups new_part.groups
  groups-are-made = subst (GroupsMade i old_part.groups) (sym new_groups) (groups-made tree part i (groups_in part.wires) invoked invoked (same_groups i invoked))

  -- a group whose name is that of a promotable one is promoted
  found_long : (name : List ℕ) (o : Option ℕ) → number_of name (group_names part) ≡ o → is_some (length_found tree part i (at_number o (groups_in part.wires))) ≡ true → IsPromoted i old_part new_part (group_number tree part name)
  found_long name None e long = absurd cc
  found_long name (Some n) e long = by (slice_get (groups_in part.wires) n) refl long
    where
      number : n ≡ group_number tree part name
      number = sym (ap (λ o. unwrap_or o 0) e)

      here : (g : ast.PlainGroup) (k : ℕ) → slice_get (groups_in part.wires) n ≡ Some g → length_of tree part i g ≡ Some k → IsPromoted i old_part new_part n
      here g k there is =
          let before : group_at old_part n ≡ group_of tree part g = front_of (group_of tree part) (groups_in part.wires) invoked n g no_group there in
          let after : group_at new_part n ≡ group_of (made_tree tree) (twin tree part i) (made_group tree part i g) =
          ap (λ gs. get_or gs n no_group) new_groups
          ∙ front_of (group_of (made_tree tree) (twin tree part i)) (map (made_group tree part i) (groups_in part.wires)) invoked n (made_group tree part i g) no_group
          (slice_get-map (made_group tree part i) (groups_in part.wires) n ∙ ap (option_map (made_group tree part i)) there) in
          (k, ap (promotable i) before ∙ is, after ∙ long-made tree part i g k is ∙ ap (promoted_group i k) (sym before))

      of_length : (g : ast.PlainGroup) (o : Option ℕ) → slice_get (groups_in part.wires) n ≡ Some g → length_of tree part i g ≡ o → is_some o ≡ true → IsPromoted i old_part new_part n
      of_length g None there is some = absurd cc
      of_length g (Some k) there is some = here g k there is

      by : (o : Option ast.PlainGroup) → slice_get (groups_in part.wires) n ≡ o → is_some (length_found tree part i o) ≡ true → IsPromoted i old_part new_part (group_number tree part name)
      by None there some = absurd cc
      by (Some g) there some = subst (IsPromoted i old_part new_part) number (of_length g (length_of tree part i g) there refl some)

  long_is_promoted : (name : List ℕ) → is_long tree part i name ≡ true → IsPromoted i old_part new_part (group_number tree part name)
  long_is_promoted name long =
      found_long name (number_of name (group_names part)) refl (sym (ap (λ o. is_some (length_found tree part i o)) (group_by_number name (groups_in part.wires))) ∙ long)

  always-stays : old_part.always ≡ new_part.always
  always-stays = sym (ap (map (assign_of (made_tree tree) (twin tree part i))) (always_in-made tree part i part.wires) ∙ assigns-made tree part i (always_in part.wires))

  pub part_made : PartMade i old_part new_part
  part_made = record {
    name = refl;
    latency = refl;
    inputs = refl;
    outputs = refl;
    cells = sym (cells-made tree part i part.cells);
    groups = groups-are-made;
    invokes = sym invokes-made;
    always = always-stays;
    order = order_made i old_part new_part always-stays groups-are-made;
    control = control_made tree part i (is_long tree part i) (IsPromoted i old_part new_part) long_is_promoted part.control;
  }

-- what stands for a component that is not there
no_part : ast.PlainComponent
no_part = record { attributes = []; length = None; name = []; marks = []; inputs = []; outputs = []; cells = []; wires = []; control = None; place = no_place }

-- COMPONENTS by their numbers
module _ (tree : PlainTree) where
  many_parts : (k : ℕ) (parts : List ast.PlainComponent) → length (components_from tree k parts) ≡ length parts
  many_parts k [] = refl
  many_parts k (part ∷ parts) = ap suc (many_parts (suc k) parts)

  made_at : (m n : ℕ) (parts : List ast.PlainComponent) (part : ast.PlainComponent) → slice_get parts n ≡ Some part
      → slice_get (components_from tree m parts) n ≡ Some (promote_component tree part (rules.component_of (design_of tree) (m + n)))
  made_at m n [] part e = absurd cc
  made_at m zero (x ∷ parts) part e =
      let same : x ≡ part = cc in let none : m ≡ m + 0 = omega arith in
      ap₂ (λ p k. Some (promote_component tree p (rules.component_of (design_of tree) k))) same none
  made_at m (suc n) (x ∷ parts) part e =
      let next : suc m + n ≡ m + suc n = omega arith in
      made_at (suc m) n parts part e ∙ ap (λ k. Some (promote_component tree part (rules.component_of (design_of tree) k))) next

  component_is : (new : PlainTree) (k : ℕ) (part : ast.PlainComponent) → slice_get new.components k ≡ Some part → component_at (design_of new) k ≡ component_of new part
  component_is new k part e =
      sym (ap (λ list. get_or list k no_component) (append-nil (map (component_of new) new.components))) ∙ front_of (component_of new) new.components [] k part no_component e

  as_many : (new : PlainTree) → length (design_of new).components ≡ length new.components
  as_many new = length-map new.components (component_of new)

  -- THE DESIGN
  parts_made : (k : ℕ) → k < length (design_of tree).components → PartMade (rules.component_of (design_of tree) k) (component_at (design_of tree) k) (component_at (design_of (made_tree tree)) k)
  parts_made k within =
      let part = get_or tree.components k no_part in
      let is = slice_get-get_or tree.components k no_part (subst (λ n. k < n) (as_many tree) within) in
      let zero_on : 0 + k ≡ k = omega arith in
      let there = made_at 0 k tree.components part is ∙ ap (λ n. Some (promote_component tree part (rules.component_of (design_of tree) n))) zero_on in
      subst (λ x. PartMade (rules.component_of (design_of tree) k) x (component_at (design_of (made_tree tree)) k)) (sym (component_is tree k part is))
      (subst (PartMade (rules.component_of (design_of tree) k) (component_of tree part))
      (sym (component_is (made_tree tree) k (promote_component tree part (rules.component_of (design_of tree) k)) there))
      (part_made tree part (rules.component_of (design_of tree) k)))

  pub design_made : DesignMade (design_of tree) (design_of (made_tree tree))
  design_made = record {
    main = ap (number_or_0 (codes "main")) (sym (component_names-made tree));
    count = as_many tree ∙ sym (many_parts 0 tree.components) ∙ sym (as_many (made_tree tree));
    parts = parts_made;
  }

  -- WHERE THE TREE STAYS, its design is made of itself
  module _ (part : ast.PlainComponent) (promoted : ℕ → Type 0) where
    invoke_same : (in_static : Bool) (n : Next) → FormMade promoted (invoke_form tree part in_static n) (invoke_form tree part in_static n)
    invoke_same true n = timed
    invoke_same false n = enable

    mutual
      form_same : (n : Next) (place : Place) (form : statements.PlainForm) → FormMade promoted (form_of tree part n place form) (form_of tree part n place form)
      form_same n place (statements.Enable group marks) = enable
      form_same n place (statements.Seq marks (statements.Braces ss there)) = seq (all_same n ss)
      form_same n place (statements.Par marks (statements.Braces ss there)) = par (arms_same n ss)
      form_same n place (statements.StaticSeq written marks block) = static refl
      form_same n place (statements.StaticPar written marks block) = static refl
      form_same n place (statements.If test comb body otherwise) = if_made (block_same n body) (else_same (past tree part n (invokes_of body)) place otherwise)
      form_same n place (statements.StaticIf written test body otherwise) = static refl
      form_same n place (statements.While test comb body) = while_made (block_same n body)
      form_same n place (statements.Repeat count body) = repeat_made (block_same n body)
      form_same n place (statements.StaticRepeat written count body) = static refl
      form_same n place (statements.Invoke cell inputs outputs) =
          invoke_same (is_static_invoke tree part (record { cell = cell; written = false; length = None; inputs = inputs; outputs = outputs; place = place })) n
      form_same n place (statements.StaticInvoke written cell inputs outputs) = timed

      else_same : (n : Next) (place : Place) (otherwise : statements.PlainElse) → StatementMade promoted (else_of tree part false n place otherwise) (else_of tree part false n place otherwise)
      else_same n place statements.NoElse = placed empty
      else_same n place (statements.Else block) = block_same n block

      block_same : (n : Next) (block : statements.PlainBlock) → StatementMade promoted (block_of tree part false n block) (block_of tree part false n block)
      block_same n (statements.Braces statements.NoStatements place) = placed empty
      block_same n (statements.Braces (statements.StatementThen (statements.Placed attributes form here) statements.NoStatements) place) = placed (form_same n here form)
      block_same n (statements.Braces (statements.StatementThen (statements.Placed attributes form here) (statements.StatementThen (statements.Placed more next there) ss)) place) =
          placed (seq (all_same n (statements.StatementThen (statements.Placed attributes form here) (statements.StatementThen (statements.Placed more next there) ss))))

      all_same : (n : Next) (ss : statements.PlainStatements) → PartsMade promoted (all_of tree part n ss) (all_of tree part n ss)
      all_same n statements.NoStatements = no_parts
      all_same n (statements.StatementThen (statements.Placed attributes form place) ss) = a_part (placed (form_same n place form)) (all_same (past tree part n (invokes_in form place)) ss)

      arms_same : (n : Next) (ss : statements.PlainStatements) → ArmsMade promoted (all_of tree part n ss) (all_of tree part n ss)
      arms_same n statements.NoStatements = no_arms
      arms_same n (statements.StatementThen (statements.Placed attributes form place) ss) = an_arm (placed (form_same n place form)) (arms_same (past tree part n (invokes_in form place)) ss)

    control_same : (o : Option statements.PlainBlock) → StatementMade promoted (control_of tree part o) (control_of tree part o)
    control_same None = placed empty
    control_same (Some block) = block_same (first tree part) block

  part_same : (i : Instance) (part : ast.PlainComponent) → PartMade i (component_of tree part) (component_of tree part)
  part_same i part = record {
    name = refl;
    latency = refl;
    inputs = refl;
    outputs = refl;
    cells = refl;
    groups = same_groups i (component_of tree part).groups;
    invokes = refl;
    always = refl;
    order = order_made i (component_of tree part) (component_of tree part) refl (same_groups i (component_of tree part).groups);
    control = control_same part (IsPromoted i (component_of tree part) (component_of tree part)) part.control;
  }

  pub design_same : DesignMade (design_of tree) (design_of tree)
  design_same = record {
    main = refl;
    count = refl;
    parts = λ k within.
        let part = get_or tree.components k no_part in
        let is = slice_get-get_or tree.components k no_part (subst (λ n. k < n) (as_many tree) within) in
        subst (λ x. PartMade (rules.component_of (design_of tree) k) x x) (sym (component_is tree k part is)) (part_same (rules.component_of (design_of tree) k) part);
  }

pub promoted_design : (tree new : PlainTree) (rows : List PromotedRow) → IsPromotedTree tree new rows → DesignMade (design_of tree) (design_of new)
promoted_design tree new rows (inl (keeps, made, told)) = subst (λ t. DesignMade (design_of tree) (design_of t)) (sym made) (design_made tree)
promoted_design tree new rows (inr (breaks, stays, told)) = subst (λ t. DesignMade (design_of tree) (design_of t)) (sym stays) (design_same tree)
