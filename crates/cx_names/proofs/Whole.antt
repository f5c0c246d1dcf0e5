-- The whole design of a tree that keeps the rules on names.
use Rattle.std.proofs.Common.{◌≡◌, ℕ, ◌+◌, ◌<◌, ◌≤◌, ◌^◌, true, false, List, [], ◌∷◌, ◌++◌, Option, Some, None, length, map, flat_map, option_map, slice_get, codes, inl, inr, ⊎_elim, refl, sym, ap, ◌∙◌, subst, arith, true≢false}
use Rattle.std.proofs.lemmas.List.{length-map}
use Rattle.std.proofs.lemmas.Option.{get_or_from_slice_get, slice_get-map, slice_get_within}
use Rattle.cx_text.proofs.MemberLaws.{image_in, in_at, in_flat, in_image, in_left, in_right}
use Rattle.cx_ast.specs.PlainTree as ast
use Rattle.cx_ast.specs.PlainTree.{PlainTree}
use Rattle.cx_ast.specs.PlainStatements as statements
use Rattle.cx_meaning.specs.Designs.{PlainAssign, PlainInvoke, component_at, group_at, no_group}
use Rattle.cx_meaning.specs.Designs as plain
use Rattle.cx_meaning.specs.declared.kinds.GroupKind.TheVariants as kinds
use Rattle.cx_meaning.specs.Control.{groups_of}
use Rattle.cx_ast.specs.declared.statements.BindItem.{BindItem}
use Rattle.cx_rules.specs.Invokes.{invoke_in}
use Rattle.cx_meaning.specs.Instances.{part_of}
use Rattle.cx_text.specs.Members.{In}
use Rattle.cx_rules.specs.Items.{Dynamic, is_comb}
use Rattle.cx_rules.specs.Items as items
use Rattle.cx_rules.specs.Ports.{component_of as instance_of}
use Rattle.cx_rules.specs.Sizes.{design_size}
use Rattle.cx_rules.specs.Wellformed.{IsAssign, IsForm, IsBind, IsInvoke, IsStatement, StandsIn, IsCell, IsComponent, IsDesign, IsSignature, AreApart}
use Rattle.cx_numbering.specs.Names.{same_name, number_of, component_names, cell_names, groups_in, always_in, group_names}
use Rattle.cx_numbering.specs.DesignOf as design
use Rattle.cx_numbering.specs.DesignOf.{Invoke, Next, number_or_0, is_static_invoke, captures_number, capture_group, input_assign, assign_of, group_of, invoke_groups, invokes_of, control_invokes, control_of, plain_cell_of, component_of, design_of}
use Rattle.cx_numbering.specs.NameRules.{Standing, standing, named, names_break, visit_block, Visited, is_main, form_breaks, visit_control}
use Rattle.cx_names_scopes.proofs.NameLemmas.{number_within}
use Rattle.cx_numbering.proofs.NamesLemmas.{same_name-refl}
use Rattle.cx_names.specs.Targets.{is_literal, HasTargets}
use Rattle.cx_names.proofs.Base.{Distinct, some_at, at_either}
use Rattle.cx_names.proofs.Kept.{Kept, KeptPart, kept, kept_part}
use Rattle.cx_names.proofs.NumberLemmas.{there, or_0, number_at, number_is, cell_found}
use Rattle.cx_names.proofs.There.{part_is, component_is}
use Rattle.cx_names.proofs.AssignLemmas.{Owns, assign_kept}
use Rattle.cx_names.proofs.Circles.{KeptCell, kept_cell, no_circle}
use Rattle.cx_names.proofs.InvokeLemmas.{KeptInvoke, kept_invoke}
use Rattle.cx_names.proofs.InvokeGroups.{invoke_kept, captures_kept}
use Rattle.cx_names.proofs.Statements.{block_whole, statement_kept, EnablesCalls, enables_calls, group_stands, invoke_of_block, visited_of, same_breaks}
use Rattle.cx_names.proofs.Splits.{Split, split_all, GroupAt, captured_at, GroupOf, group_of_invoke, StaticOf, of_static, one_capture}
use Rattle.cx_names.proofs.StaticInvokes.{latency_told, bind_is, bound_once, capture_is}
use Rattle.cx_names.proofs.InvokedAll.{invoked_all}
use Rattle.cx_names.proofs.EnabledGroups.{comb_in, named_statement}
use Rattle.cx_names.proofs.PartLemmas.{distinct_names, distinct_groups, cells_apart, ports_apart, groups_apart, no_primitive_name, main_is_dynamic, inputs_are_ports, outputs_are_ports, main_inputs, main_outputs, cell_is}
use Rattle.cx_names.proofs.Controls.{invoke_own, control_kept}

module _ (tree : PlainTree) (k : ℕ) (part : ast.PlainComponent) (at : slice_get tree.components k ≡ Some part) (own : KeptPart tree part) (targets : (x : Standing) → In (standing part) x → is_literal x.assign.target.form ≡ false) where
  cells_kept : (cell : ast.PlainCell) → In part.cells cell → KeptCell tree part cell
  cells_kept cell i = kept_cell tree part cell (own.cells cell i)

  standing_kept : (x : Standing) (owner : Option ℕ) → Owns tree part x.group owner → In (standing part) x → IsAssign (instance_of (design_of tree) k) owner (assign_of tree part x.assign)
  standing_kept x owner owns i = assign_kept tree k part at x owner owns (targets x i) (own.assigns x i)

  always_kept : (a : PlainAssign) → In (component_of tree part).always a → IsAssign (instance_of (design_of tree) k) None a
  always_kept a i =
      let found = image_in (assign_of tree part) (always_in part.wires) a i in
      let x : Standing = record { group = None; assign = found.0 } in
      subst (IsAssign (instance_of (design_of tree) k) None) found.2 (standing_kept x None tt (in_left (map (λ b. record { group = None; assign = b }) (always_in part.wires)) _ x (in_image (λ b. record { group = None; assign = b }) (always_in part.wires) found.0 found.1)))

  -- an assignment of a group of the text
  source_kept : (g : ℕ) (group : ast.PlainGroup) → slice_get (groups_in part.wires) g ≡ Some group → (a : PlainAssign) → In (group_of tree part group).assigns a → IsAssign (instance_of (design_of tree) k) (Some g) a
  source_kept g group stands a i =
      let found = image_in (assign_of tree part) group.assigns a i in
      let x : Standing = record { group = Some group.name; assign = found.0 } in
      let within = in_flat (λ h. map (λ b. record { group = Some h.name; assign = b }) h.assigns) (groups_in part.wires) group x (in_at (groups_in part.wires) g group stands) (in_image (λ b. record { group = Some group.name; assign = b }) group.assigns found.0 found.1) in
      let number = number_is (group_names part) (distinct_groups tree part own) g group.name (slice_get-map (λ h. h.name) (groups_in part.wires) g ∙ ap (λ o. option_map (λ h. h.name) o) stands) in
      subst (IsAssign (instance_of (design_of tree) k) (Some g)) found.2 (standing_kept x (Some g) number (in_right (map (λ b. record { group = None; assign = b }) (always_in part.wires)) _ x within))

  group_kept : (g : ℕ) → g < length (component_of tree part).groups → (a : PlainAssign) → In (group_at (component_of tree part) g).assigns a → IsAssign (instance_of (design_of tree) k) (Some g) a
  group_kept g few a i =
      let first = map (group_of tree part) (groups_in part.wires) in
      let vs = control_invokes tree part part.control in
      let group = some_at (component_of tree part).groups g few in
      let here : group_at (component_of tree part) g ≡ group.0 = get_or_from_slice_get (component_of tree part).groups g group.0 no_group group.1 in
      ⊎_elim
      (λ l.
      let few_first : g < length first = slice_get_within first g group.0 l in
      let count : length first ≡ length (groups_in part.wires) = length-map (groups_in part.wires) (group_of tree part) in
      let source = some_at (groups_in part.wires) g (omega (arith, few_first, count)) in
      let same : Some group.0 ≡ Some (group_of tree part source.0) = sym l ∙ slice_get-map (group_of tree part) (groups_in part.wires) g ∙ ap (λ o. option_map (group_of tree part) o) source.1 in
      let is : group.0 ≡ group_of tree part source.0 = cc in
      source_kept g source.0 source.1 a (subst (λ x. In x.assigns a) (here ∙ is) i))
      (λ r.
      let found = group_of_invoke tree part (design.first tree part) vs r.0 group.0 r.2 in
      let firsts : length first ≡ length (groups_in part.wires) = length-map (groups_in part.wires) (group_of tree part) in
      let names : length (group_names part) ≡ length (groups_in part.wires) = length-map (groups_in part.wires) (λ h. h.name) in
      let number : g ≡ length (group_names part) + r.0 = omega (arith, r.1, firsts, names) in
      let groups : length (part_of (instance_of (design_of tree) k)).groups ≡ length (component_of tree part).groups = ap (λ p. length p.groups) (part_is tree k part at) in
      let kept_own = invoke_own tree part own found.invoke found.stands in
      ⊎_elim
      (λ calls. subst (λ m. IsAssign (instance_of (design_of tree) k) (Some m) a) (sym number)
      (invoke_kept tree k part at cells_kept found.invoke kept_own (length (group_names part) + r.0) (omega (arith, few, number, groups)) a (subst (λ x. In x.assigns a) (here ∙ calls) i)))
      (λ takes. captures_kept tree k part at cells_kept found.invoke kept_own g a (subst (λ x. In x.assigns a) (here ∙ takes) i))
      found.is)
      (at_either first (invoke_groups tree part (design.first tree part) vs) g group.0 group.1)

  assigns_kept : (owner : Option ℕ) (a : PlainAssign) → StandsIn (component_of tree part) owner a → IsAssign (instance_of (design_of tree) k) owner a
  assigns_kept None a i = always_kept a i
  assigns_kept (Some g) a (few, i) = group_kept g few a i

  -- STATIC INVOKES
  static_of : (v : PlainInvoke) → In (component_of tree part).invokes v → StaticOf tree part v
  static_of v i = of_static tree part (design.first tree part) (control_invokes tree part part.control) (split_all tree part (control_invokes tree part part.control) refl) v i

  split_in : (n : Next) (v : Invoke) → Split tree part n (v ∷ []) → In (control_invokes tree part part.control) v
  split_in n v s = subst (λ vs. In vs v) (sym s.all) (in_right s.before (v ∷ s.later) v (inl refl))

  -- the group that captures, by its number
  captured : (n : Next) (v : Invoke) → Split tree part n (v ∷ []) → is_static_invoke tree part v ≡ true → (g : ℕ) → captures_number tree part n.group v.outputs ≡ Some g
      → (g ≡ n.group) × GroupAt tree part n (capture_group tree part v)
  captured n v s static g h = by v.outputs refl h
    where
      by : (outputs : List BindItem) → v.outputs ≡ outputs → captures_number tree part n.group outputs ≡ Some g → (g ≡ n.group) × GroupAt tree part n (capture_group tree part v)
      by [] e h = absurd cc
      by (b ∷ bs) e h = let same : g ≡ n.group = cc in (same, captured_at tree part n v b bs s static e)

  enabled_call : (v : items.Visited) → In (items.visit Dynamic (control_of tree part part.control)) v → EnablesCalls tree part v
  enabled_call v i = by part.control refl own.statements i
    where
      by : (o : Option statements.PlainBlock) → part.control ≡ o → ((w : Visited) → In (visit_control o) w → form_breaks tree part w.form w.place ≡ []) → In (items.visit Dynamic (control_of tree part o)) v → EnablesCalls tree part v
      by None e all (inl same) = λ g f. absurd (no_enable g (ap (λ (w : items.Visited). w.form) same ∙ f))
        where
          no_enable : (g : ℕ) → plain.Empty ≡ plain.Enable g → ⊥
          no_enable g f = cc
      by None e all (inr j) = absurd j
      by (Some block) e all j =
          block_whole tree part (EnablesCalls tree part) (enables_calls tree part) Dynamic false (design.first tree part) block all (split_all tree part (invokes_of block) (ap (λ o. control_invokes tree part o) e)) v j

  not_enabled : (g : ℕ) → length (group_names part) ≤ g → (group_at (component_of tree part) g).kind ≡ kinds.Timed 1 → In (groups_of (control_of tree part part.control)) g → ⊥
  not_enabled g high timed i =
      let found = named_statement Dynamic (control_of tree part part.control) g i in
      ⊎_elim
      (λ e. ⊎_elim (λ few. absurd (omega (arith, few, high))) (λ plain_kind. plain_timed (sym plain_kind ∙ timed)) (enabled_call found.statement found.stands g e))
      (λ c. comb_timed (comb_kept found.statement found.stands c) timed)
      found.names
    where
      plain_timed : kinds.Plain ≡ kinds.Timed 1 → ⊥
      plain_timed e = cc

      comb_timed : is_comb (group_at (component_of tree part) g).kind ≡ true → (group_at (component_of tree part) g).kind ≡ kinds.Timed 1 → ⊥
      comb_timed c t = true≢false (sym c ∙ ap is_comb t)

      with_comb_kept : (form : plain.PlainForm) → IsForm (component_of tree part) form → comb_in form ≡ Some g → is_comb (group_at (component_of tree part) g).kind ≡ true
      with_comb_kept plain.Empty h c = absurd cc
      with_comb_kept (plain.Enable n) h c = absurd cc
      with_comb_kept (plain.Seq parts) h c = absurd cc
      with_comb_kept (plain.Par arms) h c = absurd cc
      with_comb_kept (plain.If test None a b) h c = absurd cc
      with_comb_kept (plain.If test (Some n) a b) h c = let same : n ≡ g = cc in subst (λ m. is_comb (group_at (component_of tree part) m).kind ≡ true) same h.1
      with_comb_kept (plain.While test None a) h c = absurd cc
      with_comb_kept (plain.While test (Some n) a) h c = let same : n ≡ g = cc in subst (λ m. is_comb (group_at (component_of tree part) m).kind ≡ true) same h.1
      with_comb_kept (plain.Repeat count a) h c = absurd cc
      with_comb_kept (plain.StaticSeq length parts) h c = absurd cc
      with_comb_kept (plain.StaticPar length arms) h c = absurd cc
      with_comb_kept (plain.StaticIf length test a b) h c = absurd cc
      with_comb_kept (plain.StaticRepeat length count a) h c = absurd cc
      with_comb_kept (plain.Timed n) h c = absurd cc

      comb_kept : (v : items.Visited) → In (items.visit Dynamic (control_of tree part part.control)) v → comb_in v.form ≡ Some g → is_comb (group_at (component_of tree part) g).kind ≡ true
      comb_kept v j c = with_comb_kept v.form (subst (λ q. IsForm q v.form) (part_is tree k part at) (control_kept tree k part at own v j).form) c

  invokes_kept : (v : PlainInvoke) → In (component_of tree part).invokes v → IsInvoke (instance_of (design_of tree) k) v
  invokes_kept v i =
      let found = static_of v i in
      let n = found.next in
      let w = found.invoke in
      let kept_own = invoke_own tree part own w (split_in n w found.split) in
      let place = cell_found w.cell part.cells kept_own.found kept_own.is in
      let number : number_or_0 w.cell (cell_names part) ≡ place.number = or_0 w.cell (cell_names part) place.number place.is in
      let within : place.number < length part.cells = slice_get_within part.cells place.number kept_own.found place.at in
      let cells : length (part_of (instance_of (design_of tree) k)).cells ≡ length part.cells = ap (λ p. length p.cells) (part_is tree k part at) ∙ length-map part.cells (plain_cell_of tree part) in
      subst (IsInvoke (instance_of (design_of tree) k)) found.is
      (record {
        cell = omega (arith, number, within, cells);
        latency = latency_told tree k part at w.cell kept_own.found kept_own.is (cells_kept kept_own.found (in_at part.cells place.number kept_own.found place.at)).kind;
        inputs = λ a j. (let bind = image_in (input_assign tree part w) w.inputs a j in subst (IsBind (instance_of (design_of tree) k) (number_or_0 w.cell (cell_names part))) bind.2 (bind_is tree k part at w kept_own bind.0 bind.1));
        once = λ l m a b p q e. bound_once tree k part at w kept_own l m a b p q e;
        captures = λ g e. (
            let of = captured n w found.split found.static g e in
            let stands = group_stands tree part n (capture_group tree part w) of.1 in
            let here : group_at (component_of tree part) g ≡ capture_group tree part w = ap (group_at (component_of tree part)) of.0 ∙ stands.1 in
            let same = part_is tree k part at in
            let high : length (group_names part) ≤ g = let at_number = of.1.number in let same_number = of.0 in omega (arith, at_number, same_number) in
            record {
              there = subst (λ p. g < length p.groups) (sym same) (subst (λ m. m < length (component_of tree part).groups) (sym of.0) stands.0);
              one_cycle = ap (λ p. (group_at p g).kind) same ∙ ap (λ x. x.kind) here;
              unnamed = ap (λ p. (group_at p g).name) same ∙ ap (λ x. x.name) here;
              not_enabled = λ j. not_enabled g high (ap (λ x. x.kind) here) (subst (λ p. In (groups_of p.control) g) same j);
              assigns = λ a j. capture_is tree k part at w kept_own cells_kept a (subst (λ x. In x.assigns a) (ap (λ p. group_at p g) same ∙ here) j);
            });
      })

  captures_apart : (l m g : ℕ) (v w : PlainInvoke) → slice_get (component_of tree part).invokes l ≡ Some v → slice_get (component_of tree part).invokes m ≡ Some w → v.captures ≡ Some g → w.captures ≡ Some g → l ≡ m
  captures_apart l m g v w p q e f = one_capture tree part (design.first tree part) (control_invokes tree part part.control) l m g v w p q e f

  component_kept : Distinct (component_names tree) → IsComponent (design_of tree) k
  component_kept distinct =
      let is = component_is tree k part at in
      record {
        cells = λ cell i. (let found = image_in (plain_cell_of tree part) part.cells cell (subst (λ p. In p.cells cell) is i) in subst (IsCell (design_of tree) k) found.2 (cell_is tree k part at distinct found.0 (cells_kept found.0 found.1)));
        assigns = λ owner a s. assigns_kept owner a (subst (λ p. StandsIn p owner a) is s);
        statements = λ v i. control_kept tree k part at own v (subst (λ p. In (items.visit Dynamic p.control) v) is i);
        invokes = λ v i. invokes_kept v (subst (λ p. In p.invokes v) is i);
        invoked = λ n less. subst (λ p. In (flat_map (λ v. invoke_in v.form) (items.visit Dynamic p.control)) n) (sym is) (invoked_all tree part part.control n (subst (λ p. n < length p.invokes) is less));
        captures_apart = λ l m g v w p q e f. captures_apart l m g v w (subst (λ c. slice_get c.invokes l ≡ Some v) is p) (subst (λ c. slice_get c.invokes m ≡ Some w) is q) e f;
        inputs = subst (λ p. IsSignature p.inputs) (sym is) (inputs_are_ports tree part own);
        outputs = subst (λ p. IsSignature p.outputs) (sym is) (outputs_are_ports tree part own);
        port_names = subst (λ p. AreApart (map (λ decl. decl.name) (p.inputs ++ p.outputs))) (sym is) (ports_apart tree part own);
        cell_names = subst (λ p. AreApart (map (λ cell. cell.name) p.cells)) (sym is) (cells_apart tree part own);
        group_names = subst (λ p. AreApart (map (λ group. group.name) p.groups)) (sym is) (groups_apart tree part own);
        no_primitive_name = λ name other e. no_primitive_name tree part own name other (ap (λ p. p.name) (sym is) ∙ e);
      }

pub is_design : (tree : PlainTree) → HasTargets tree → names_break tree ≡ None → design_size (design_of tree) < 2 ^ 32 → IsDesign (design_of tree)
is_design tree targets none few =
    let all : Kept tree = kept tree none in
    let distinct : Distinct (component_names tree) = distinct_names (λ part. named part.name part.place) (λ part. part.name) tree.components (λ part. refl) all.apart in
    let many : length (design_of tree).components ≡ length tree.components = length-map tree.components (component_of tree) in
    let main = there (codes "main") (component_names tree) all.main in
    let names : length (component_names tree) ≡ length tree.components = length-map tree.components (λ part. part.name) in
    let main_few = number_within (codes "main") (component_names tree) main.0 main.1 in
    let number : (design_of tree).main ≡ main.0 = or_0 (codes "main") (component_names tree) main.0 main.1 in
    let main_part = some_at tree.components main.0 (omega (arith, main_few, names)) in
    let stands : Some main_part.0.name ≡ Some (codes "main") = sym (slice_get-map (λ part. part.name) tree.components main.0 ∙ ap (λ o. option_map (λ part. part.name) o) main_part.1) ∙ number_at (codes "main") (component_names tree) main.0 main.1 in
    let named_main : main_part.0.name ≡ codes "main" = cc in
    let is : component_at (design_of tree) (design_of tree).main ≡ component_of tree main_part.0 = ap (component_at (design_of tree)) number ∙ component_is tree main.0 main_part.0 main_part.1 in
    let own : (part : ast.PlainComponent) → In tree.components part → KeptPart tree part = λ part i. kept_part tree part (all.parts part i) in
    let main_own = own main_part.0 (in_at tree.components main.0 main_part.0 main_part.1) in
    let is_main_is : is_main tree main_part.0 ≡ true = ap (λ n. same_name n (codes "main")) named_main ∙ same_name-refl (codes "main") in
    record {
      main_there = omega (arith, number, many, main_few, names);
      main_named = ap (λ p. p.name) is ∙ named_main;
      main_dynamic = ap (λ p. p.latency) is ∙ main_is_dynamic tree main_part.0 main_own is_main_is;
      main_bare = (ap (λ p. p.inputs) is ∙ main_inputs tree main_part.0 main_own is_main_is, ap (λ p. p.outputs) is ∙ main_outputs tree main_part.0 main_own is_main_is);
      components = λ k within. (
          let part = some_at tree.components k (omega (arith, within, many)) in
          let i = in_at tree.components k part.0 part.1 in
          component_kept tree k part.0 part.1 (own part.0 i) (targets part.0 i) distinct);
      component_names = λ j k within_j within_k same. (
          let one = some_at tree.components j (omega (arith, within_j, many)) in
          let two = some_at tree.components k (omega (arith, within_k, many)) in
          let names_same : one.0.name ≡ two.0.name = ap (λ p. p.name) (sym (component_is tree j one.0 one.1)) ∙ same ∙ ap (λ p. p.name) (component_is tree k two.0 two.1) in
          let first = number_is (component_names tree) distinct j one.0.name (slice_get-map (λ part. part.name) tree.components j ∙ ap (λ o. option_map (λ part. part.name) o) one.1) in
          let second = number_is (component_names tree) distinct k two.0.name (slice_get-map (λ part. part.name) tree.components k ∙ ap (λ o. option_map (λ part. part.name) o) two.1) in
          let numbers : Some j ≡ Some k = sym first ∙ ap (λ n. number_of n (component_names tree)) names_same ∙ second in
          cc);
      not_recursive = no_circle tree (λ part i cell j. kept_cell tree part cell ((own part i).cells cell j));
      few_parts = few;
    }
