-- No text names the done of a cell of a static component: the rules on names leave it out, and no group of an invoke looks at one.
use Rattle.std.proofs.Common.{◌≡◌, ℕ, zero, suc, ◌+◌, ◌-◌, ◌<◌, ◌≤◌, Bool, true, false, ◌||◌, ◌&&◌, not, cond, is_some, nat_lt, List, [], ◌∷◌, ◌++◌, Option, Some, None, length, map, flat_map, option_map, slice_get, unwrap_or, codes, inl, inr, ⊎_elim, refl, sym, ap, ◌∙◌, subst, arith, true≢false}
use Rattle.std.proofs.lemmas.Bool.{ltb-false, or_parts}
use Rattle.std.proofs.lemmas.List.{length-map}
use Rattle.std.proofs.lemmas.Option.{slice_get-map, slice_get_within}
use Rattle.cx_text.proofs.MemberLaws.{flat_in, image_in, in_at, in_either, in_flat, in_image, in_left, in_right}
use Rattle.cx_text.specs.Members.{In}
use Rattle.cx_text.specs.declared.places.Place.{Place}
use Rattle.cx_text.proofs.BoolLaws.{and_both}
use Rattle.cx_ast.specs.declared.operands.OperandForm.{OperandForm}
use Rattle.cx_ast.specs.declared.operands.OperandForm.TheVariants as operands
use Rattle.cx_ast.specs.declared.operands.OperandItem.{OperandItem}
use Rattle.cx_ast.specs.declared.statements.BindItem.{BindItem}
use Rattle.cx_ast.specs.PlainGuards as guards
use Rattle.cx_ast.specs.PlainStatements as statements
use Rattle.cx_ast.specs.PlainTree as ast
use Rattle.cx_ast.specs.PlainTree.{PlainTree}
use Rattle.cx_meaning.specs.declared.ports.PortRef.{PortRef}
use Rattle.cx_meaning.specs.declared.ports.PlacedPort.{PlacedPort}
use Rattle.cx_meaning.specs.Designs.{PlainAssign, PlainInvoke, PlainGroup, PlainCell, PlainKind, OfPrimitive, OfComponent, PlainComponent, PlainDesign, PlainStatements, component_at, Always}
use Rattle.cx_meaning.specs.Instances.{Instance, At, Nothing, OfRow, OfInstance, cell_at, cells_of, part_of, add_cell, cells_for, tree_within}
use Rattle.cx_meaning.specs.Sights.{AnInput, AnOutput, ItsDone, later_port, output_port, part_port}
use Rattle.cx_meaning.proofs.DesignsLemmas.{same_part}
use Rattle.cx_rules.specs.Items.{Context, Dynamic, sources_of, test_in}
use Rattle.cx_rules.specs.Items as items
use Rattle.cx_rules.specs.Footprints.{AssignNames}
use Rattle.cx_rules.specs.Ports.{component_of as instance_of, is_part_done}
use Rattle.cx_numbering.specs.Names.{same_name, is_among, number_of, signature_ports, port_names, component_names, cell_names, groups_in, always_in, cell_among, component_among, primitive_of, CellOf, Neither, APrimitive, AComponent, cell_of, cell_port_names, found_cell_ports, latency_of, found_latency}
use Rattle.cx_numbering.specs.DesignOf.{Invoke, Next, number_or_0, own_port, cell_port, port_of, placed_of, guard_or_always, assign_of, group_of, input_assign, go_guard, go_assign, register_of, register_done, capture_assigns, done_assign, invoke_group, is_static_invoke, static_capture, capture_group, after, invoke_form, seq_form, captures_for, groups_for, invoke_groups, static_for, static_invokes, first, invokes_of, control_invokes, control_of, kind_or, decl_of, plain_cell_of, component_of, design_of, form_of}
use Rattle.cx_numbering.specs.NameRules as rules
use Rattle.cx_numbering.specs.NameRules.{Standing, standing, Visited, visit_block, names_break, is_static_end, is_clock, is_left_out, is_unknown, unknown, source_breaks, guard_operands, with_breaks, form_breaks, is_reg, found_reg, is_register_in, output_names, output_breaks, visit_control}
use Rattle.cx_numbering.proofs.NamesLemmas.{same_name-refl}
use Rattle.cx_names.proofs.Base.{append_none, flat_none, tell_none, at_either, some_at}
use Rattle.cx_names.proofs.Kept.{KeptPart, kept, kept_part}
use Rattle.cx_names.proofs.NumberLemmas.{number_at, or_0, cell_found, part_found}
use Rattle.cx_names.proofs.There.{of_component, component_is, part_is}
use Rattle.cx_names.proofs.AssignLemmas.{guard_sources}
use Rattle.cx_names.proofs.InvokeLemmas.{KeptInvoke, kept_invoke, input_source, output_register}
use Rattle.cx_names.proofs.InvokeGroups.{atoms}
use Rattle.cx_names.proofs.Splits.{split_all}
use Rattle.cx_names.proofs.Statements.{HoldsEach, block_whole, invoke_of_block, visited_of, same_breaks}
use Rattle.cx_flattening.specs.Fair.{IsAssignOf}
use Rattle.cx_flattening.specs.Ends.{is_done_at, is_static_done, NamesNoDone, NoneNamesDone}
use Rattle.cx_rules.proofs.FoundLemmas.{source_in}
use Rattle.cx_names.proofs.Controls.{invoke_own}
use Rattle.cx_names.proofs.StaticInvokes.{kind_told, component_numbered}

and_false : (b : Bool) → (b && false) ≡ false
and_false true = refl
and_false false = refl

-- THE DONE of a component's cell stands last among its ports
behind_inputs : (inputs outputs n : ℕ) → is_part_done (later_port inputs outputs n) ≡ true → inputs + outputs ≤ n
behind_inputs inputs outputs n h = by (nat_lt n inputs) refl h
  where
    last : (b : Bool) → nat_lt (n - inputs) outputs ≡ b → inputs ≤ n → is_part_done (cond b (AnOutput (n - inputs)) ItsDone) ≡ true → inputs + outputs ≤ n
    last true e low h = absurd (true≢false (sym h))
    last false e low h = let high = ltb-false (n - inputs) outputs e in omega (arith, low, high)

    by : (b : Bool) → nat_lt n inputs ≡ b → is_part_done (cond b (AnInput n) (output_port outputs (n - inputs))) ≡ true → inputs + outputs ≤ n
    by true e h = absurd (true≢false (sym h))
    by false e h = last (nat_lt (n - inputs) outputs) refl (ltb-false n inputs e) h

no_first : (part : PlainComponent) → is_part_done (part_port part 0) ≡ false
no_first part = refl

go_is_no_done : (a : At) → is_done_at a 0 ≡ false
go_is_no_done Nothing = refl
go_is_no_done (OfRow row) = refl
go_is_no_done (OfInstance child) = and_false (is_some ((part_of child).latency))

last_name : (inputs outputs : List (List ℕ)) (n : ℕ) (name : List ℕ) → slice_get (inputs ++ (outputs ++ (codes "done" ∷ []))) n ≡ Some name → length inputs + length outputs ≤ n → name ≡ codes "done"
last_name inputs outputs n name h high =
    ⊎_elim (λ l. let few = slice_get_within inputs n name l in absurd (omega (arith, few, high)))
    (λ r. ⊎_elim (λ l. let few = slice_get_within outputs r.0 name l in let is = r.1 in absurd (omega (arith, few, high, is))) (λ q. one q.0 q.2)
    (at_either outputs (codes "done" ∷ []) r.0 name r.2))
    (at_either inputs (outputs ++ (codes "done" ∷ [])) n name h)
  where
    one : (m : ℕ) → slice_get (codes "done" ∷ []) m ≡ Some name → name ≡ codes "done"
    one zero e = cc
    one (suc m) e = absurd cc

-- whether it is one of a static component, by what the cell is of
abbrev kind_done : PlainDesign → PlainKind → ℕ → Bool
kind_done d (OfPrimitive primitive) p = false
kind_done d (OfComponent j) p = is_some (component_at d j).latency && is_part_done (part_port (component_at d j) p)

done_told : (d : PlainDesign) (n : ℕ) (cells : List PlainCell) (c : ℕ) (cell : PlainCell) (p : ℕ) → slice_get cells c ≡ Some cell → is_done_at (cell_at (cells_for (tree_within d n) cells) c) p ≡ kind_done d cell.kind p
done_told d n [] c cell p h = absurd cc
done_told d n (x ∷ xs) zero cell p h = let same : x ≡ cell = cc in head x.kind ∙ ap (λ (y : PlainCell). kind_done d y.kind p) same
  where
    head : (kind : PlainKind) → is_done_at (cell_at (add_cell (tree_within d n) kind (cells_for (tree_within d n) xs)) zero) p ≡ kind_done d kind p
    head (OfPrimitive primitive) = refl
    head (OfComponent j) = ap (λ (q : PlainComponent). is_some q.latency && is_part_done (part_port q p)) (same_part d n j)
done_told d n (x ∷ xs) (suc c) cell p h = next x.kind ∙ done_told d n xs c cell p h
  where
    next : (kind : PlainKind) → is_done_at (cell_at (add_cell (tree_within d n) kind (cells_for (tree_within d n) xs)) (suc c)) p ≡ is_done_at (cell_at (cells_for (tree_within d n) xs) c) p
    next (OfPrimitive primitive) = refl
    next (OfComponent j) = refl

module _ (tree : PlainTree) where
  -- the port of a component's cell that is its done has that name
  named_done : (comp : ast.PlainComponent) (name : List ℕ) → is_part_done (part_port (component_of tree comp) (number_or_0 name (cell_port_names (AComponent comp)))) ≡ true → name ≡ codes "done"
  named_done comp name h = by (number_of name (cell_port_names (AComponent comp))) refl
    where
      inputs : length (component_of tree comp).inputs ≡ length (port_names comp.inputs)
      inputs = length-map (signature_ports comp.inputs) (decl_of tree comp) ∙ sym (length-map (signature_ports comp.inputs) (λ q. q.name))

      outputs : length (component_of tree comp).outputs ≡ length (port_names comp.outputs)
      outputs = length-map (signature_ports comp.outputs) (decl_of tree comp) ∙ sym (length-map (signature_ports comp.outputs) (λ q. q.name))

      at_port : (n : ℕ) → number_of name (cell_port_names (AComponent comp)) ≡ Some n → is_part_done (part_port (component_of tree comp) n) ≡ true → name ≡ codes "done"
      at_port zero e g = absurd (true≢false (sym g))
      at_port (suc n) e g =
          let high = behind_inputs (length (component_of tree comp).inputs) (length (component_of tree comp).outputs) n g in
          let ins = inputs in
          let outs = outputs in
          last_name (port_names comp.inputs) (port_names comp.outputs) n name (number_at name (cell_port_names (AComponent comp)) (suc n) e) (omega (arith, high, ins, outs))

      by : (o : Option ℕ) → number_of name (cell_port_names (AComponent comp)) ≡ o → name ≡ codes "done"
      by None e = absurd (true≢false (sym h ∙ ap (λ o. is_part_done (part_port (component_of tree comp) (unwrap_or o 0))) e))
      by (Some n) e = at_port n e (sym (ap (λ o. is_part_done (part_port (component_of tree comp) (unwrap_or o 0))) e) ∙ h)

module _ (tree : PlainTree) (k : ℕ) (part : ast.PlainComponent) (at : slice_get tree.components k ≡ Some part) where
  abbrev here : Instance
  here = instance_of (design_of tree) k

  -- PORTS. One that is not left out is none
  abbrev IsFine : PortRef → Type 0
  IsFine p = is_static_done here p ≡ false

  cell_told : (found : ast.PlainCell) (c p : ℕ) → slice_get part.cells c ≡ Some found → is_done_at (cell_at (cells_of here) c) p ≡ kind_done (design_of tree) (kind_or tree part (cell_of tree found)) p
  cell_told found c p h =
      let within : k < length tree.components = slice_get_within tree.components k part at in
      let as_many : length (design_of tree).components ≡ length tree.components = length-map tree.components (component_of tree) in
      let stands : slice_get (component_of tree part).cells c ≡ Some (plain_cell_of tree part found) = slice_get-map (plain_cell_of tree part) part.cells c ∙ ap (λ o. option_map (plain_cell_of tree part) o) h in
      levels (length (design_of tree).components) (omega (arith, within, as_many)) (ap (λ (q : PlainComponent). slice_get q.cells c) (component_is tree k part at) ∙ stands)
    where
      levels : (m : ℕ) → 0 < m → slice_get (component_at (design_of tree) k).cells c ≡ Some (plain_cell_of tree part found)
          → is_done_at (cell_at (cells_of (tree_within (design_of tree) m k)) c) p ≡ kind_done (design_of tree) (kind_or tree part (cell_of tree found)) p
      levels zero few h = absurd (omega (arith, few))
      levels (suc n) few h = kind_told (λ a. is_done_at a p) (λ kind. kind_done (design_of tree) kind p) (design_of tree) n (λ q. refl)
          (λ j. ap (λ (q : PlainComponent). is_some q.latency && is_part_done (part_port q p)) (same_part (design_of tree) n j)) (component_at (design_of tree) k).cells c (plain_cell_of tree part found) h

  kind_fine : (found : ast.PlainCell) (port : List ℕ) (of : CellOf) → cell_of tree found ≡ of → (is_some (latency_of of) && (same_name port (codes "go") || same_name port (codes "done"))) ≡ false
      → kind_done (design_of tree) (kind_or tree part of) (number_or_0 port (cell_port_names of)) ≡ false
  kind_fine found port Neither e h = and_false (is_some (component_at (design_of tree) 0).latency)
  kind_fine found port (APrimitive primitive) e h = refl
  kind_fine found port (AComponent comp) e h =
      ap (λ (q : PlainComponent). is_some q.latency && is_part_done (part_port q (number_or_0 port (cell_port_names (AComponent comp))))) (component_numbered tree found comp e) ∙ by comp.length h
    where
      no_done : (b : Bool) → is_part_done (part_port (component_of tree comp) (number_or_0 port (cell_port_names (AComponent comp)))) ≡ b → same_name port (codes "done") ≡ false → b ≡ false
      no_done true g other = absurd (true≢false (sym (ap (λ n. same_name n (codes "done")) (named_done tree comp port g) ∙ same_name-refl (codes "done")) ∙ other))
      no_done false g other = refl

      by : (o : Option ℕ) → (is_some o && (same_name port (codes "go") || same_name port (codes "done"))) ≡ false → (is_some o && is_part_done (part_port (component_of tree comp) (number_or_0 port (cell_port_names (AComponent comp))))) ≡ false
      by None g = refl
      by (Some n) g = no_done _ refl (or_parts (same_name port (codes "go")) (same_name port (codes "done")) g).1

  port_fine : (cell port : List ℕ) → is_static_end tree part cell port ≡ false → IsFine (cell_port tree part cell port)
  port_fine cell port h = by (cell_among cell part.cells) refl
    where
      by : (o : Option ast.PlainCell) → cell_among cell part.cells ≡ o → IsFine (cell_port tree part cell port)
      by None e =
          ap (λ o. is_done_at (cell_at (cells_of here) (number_or_0 cell (cell_names part))) (number_or_0 port (found_cell_ports tree o))) e
          ∙ go_is_no_done (cell_at (cells_of here) (number_or_0 cell (cell_names part)))
      by (Some found) e =
          let place = cell_found cell part.cells found e in
          ap (λ o. is_done_at (cell_at (cells_of here) (number_or_0 cell (cell_names part))) (number_or_0 port (found_cell_ports tree o))) e
          ∙ ap (λ c. is_done_at (cell_at (cells_of here) c) (number_or_0 port (cell_port_names (cell_of tree found)))) (or_0 cell (cell_names part) place.number place.is)
          ∙ cell_told found place.number (number_or_0 port (cell_port_names (cell_of tree found))) place.at
          ∙ kind_fine found port (cell_of tree found) refl (sym (ap (λ o. is_some (found_latency tree o) && (same_name port (codes "go") || same_name port (codes "done"))) e) ∙ h)

  form_fine : (form : OperandForm) → is_left_out tree part form ≡ false → IsFine (port_of tree part form)
  form_fine (operands.Own name) h = by (number_of name (port_names part.inputs))
    where
      by : (o : Option ℕ) → IsFine (own_port o (number_or_0 name (port_names part.outputs)))
      by None = refl
      by (Some n) = refl
  form_fine (operands.Port cell port) h = port_fine cell port (or_parts (is_clock tree part cell port) (is_static_end tree part cell port) h).1
  form_fine (operands.Hole group hole) h = refl
  form_fine (operands.Literal width value) h = refl

  source_fine : (o : OperandItem) → source_breaks tree part o ≡ [] → IsFine (port_of tree part o.form)
  source_fine o h = form_fine o.form (or_parts (is_left_out tree part o.form) (rules.is_hole tree part o.form) (tell_none _ _ _ _ (append_none (unknown tree part o) _ h).1)).0

  -- ASSIGNMENTS
  abbrev LooksFine : PlainAssign → Type 0
  LooksFine a = (p : PlacedPort) → In (sources_of a) p → IsFine p.port

  bare_fine : (a : PlainAssign) (q : PortRef) → a.guard ≡ Always → a.source.port ≡ q → IsFine q → LooksFine a
  bare_fine a q bare same fine p (inl e) = subst IsFine (sym same ∙ ap (λ (x : PlacedPort). x.port) e) fine
  bare_fine a q bare same fine p (inr i) = none (subst (λ g. In (items.operands_of g) p) bare i)
    where
      none : In (items.operands_of Always) p → IsFine p.port
      none i = absurd i

  -- an assignment without a guard that is another
  bare_alike : (x a : PlainAssign) → x ≡ a → x.guard ≡ Always → IsFine x.source.port → LooksFine a
  bare_alike x a e bare fine = subst LooksFine e (bare_fine x x.source.port bare refl fine)

  written : (a : ast.PlainAssign) → source_breaks tree part a.source ≡ [] → flat_map (source_breaks tree part) (guard_operands a.guard) ≡ [] → LooksFine (assign_of tree part a)
  written a one rest p (inl e) = subst (λ (q : PlacedPort). IsFine q.port) e (source_fine a.source one)
  written a one rest p (inr i) = by a.guard rest i
    where
      by : (g : Option guards.PlainGuard) → flat_map (source_breaks tree part) (guard_operands g) ≡ [] → In (items.operands_of (guard_or_always tree part g)) p → IsFine p.port
      by None none i = absurd i
      by (Some g) none i =
          let found = image_in (placed_of tree part) (rules.operands_of g) p (subst (λ xs. In xs p) (guard_sources tree part g) i) in
          subst (λ (q : PlacedPort). IsFine q.port) found.2 (source_fine found.0 (flat_none (source_breaks tree part) (rules.operands_of g) none found.0 found.1))

  stands_fine : (own : KeptPart tree part) (x : Standing) → In (standing part) x → LooksFine (assign_of tree part x.assign)
  stands_fine own x i =
      let three = append_none _ (flat_map (source_breaks tree part) (guard_operands x.assign.guard)) (own.assigns x i) in
      let two = append_none _ (source_breaks tree part x.assign.source) three.0 in
      written x.assign two.1 three.1

  -- INVOKES. No cell of a dynamic one is static, and no register is
  dynamic_end : (v : Invoke) → is_static_invoke tree part v ≡ false → (port : List ℕ) → is_static_end tree part v.cell port ≡ false
  dynamic_end v h port = ap (λ b. b && (same_name port (codes "go") || same_name port (codes "done"))) (or_parts v.written (is_some (found_latency tree (cell_among v.cell part.cells))) h).1

  register_end : (b : BindItem) → is_register_in tree part b.value.form ≡ true → (port : List ℕ) → is_static_end tree part (register_of tree part b) port ≡ false
  register_end b h port = by b.value.form h
    where
      of_register : (of : CellOf) → is_reg tree part of ≡ true → is_some (latency_of of) ≡ false
      of_register Neither r = absurd (true≢false (sym r))
      of_register (APrimitive primitive) r = refl
      of_register (AComponent comp) r = absurd (true≢false (sym r))

      no_latency : (o : Option ast.PlainCell) → found_reg tree part o ≡ true → is_some (found_latency tree o) ≡ false
      no_latency None r = absurd (true≢false (sym r))
      no_latency (Some c) r = of_register (cell_of tree c) r

      by : (f : OperandForm) → is_register_in tree part f ≡ true → is_static_end tree part (register_of tree part (record { name = b.name; value = record { form = f; place = b.value.place }; place = b.place })) port ≡ false
      by (operands.Own name) g = absurd (true≢false (sym g))
      by (operands.Port cell q) g = ap (λ b. b && (same_name port (codes "go") || same_name port (codes "done"))) (no_latency (cell_among cell part.cells) (and_both (found_reg tree part (cell_among cell part.cells)) _ g).0)
      by (operands.Hole group hole) g = absurd (true≢false (sym g))
      by (operands.Literal width value) g = absurd (true≢false (sym g))

  -- an output that a static one captures is no done of it
  output_end : (cell : List ℕ) (of : CellOf) (b : BindItem) → output_breaks tree part cell of b ≡ [] → is_static_end tree part cell b.name ≡ false
  output_end cell of b h =
      let three = append_none _ _ h in
      let two = append_none _ (unknown tree part b.value) three.0 in
      let one = append_none _ _ two.0 in
      (or_parts (not (is_among b.name (output_names tree part of))) (is_static_end tree part cell b.name) (tell_none _ _ _ _ one.1)).1

  module _ (v : Invoke) (own : KeptInvoke tree part v) where
    input_fine : (b : BindItem) → In v.inputs b → IsFine (placed_of tree part b.value).port
    input_fine b i = source_fine b.value (input_source tree part v.cell (cell_of tree own.found) b (own.inputs b i))

    inputs_fine : (a : PlainAssign) → In (map (input_assign tree part v) v.inputs) a → IsFine a.source.port
    inputs_fine a i = let found = image_in (input_assign tree part v) v.inputs a i in subst (λ (x : PlainAssign). IsFine x.source.port) found.2 (input_fine found.0 found.1)

    inputs_look : (a : PlainAssign) → In (map (input_assign tree part v) v.inputs) a → LooksFine a
    inputs_look a i = let found = image_in (input_assign tree part v) v.inputs a i in bare_alike (input_assign tree part v found.0) a found.2 refl (input_fine found.0 found.1)

    register_fine : (b : BindItem) → In v.outputs b → IsFine (register_done tree part v b).port
    register_fine b i = port_fine (register_of tree part b) (codes "done") (register_end b (output_register tree part v.cell (cell_of tree own.found) b (own.outputs b i)) (codes "done"))

    -- the group of a call
    module _ (dynamic : is_static_invoke tree part v ≡ false) where
      done_fine : IsFine (cell_port tree part v.cell (codes "done"))
      done_fine = port_fine v.cell (codes "done") (dynamic_end v dynamic (codes "done"))

      go_fine : LooksFine (go_assign tree part v)
      go_fine p (inl e) = subst (λ (q : PlacedPort). IsFine q.port) e refl
      go_fine p (inr i) = guarded v.outputs i
        where
          guarded : (outputs : List BindItem) → In (items.operands_of (go_guard tree part v outputs)) p → IsFine p.port
          guarded [] i = absurd i
          guarded (b ∷ bs) (inl e) = subst (λ (q : PlacedPort). IsFine q.port) e done_fine
          guarded (b ∷ bs) (inr i) = absurd i

      capture_fine : (b : BindItem) (a : PlainAssign) → In (capture_assigns tree part v b) a → LooksFine a
      capture_fine b a (inl e) = bare_alike _ a e refl (port_fine v.cell b.name (dynamic_end v dynamic b.name))
      capture_fine b a (inr (inl e)) = bare_alike _ a e refl done_fine
      capture_fine b a (inr (inr none)) = absurd none

      ended_fine : (g : ℕ) (outputs : List BindItem) → ((b : BindItem) → In outputs b → In v.outputs b) → LooksFine (done_assign tree part v g outputs)
      ended_fine g [] among p (inl e) = subst (λ (q : PlacedPort). IsFine q.port) e done_fine
      ended_fine g [] among p (inr none) = absurd none
      ended_fine g (b ∷ []) among p (inl e) = subst (λ (q : PlacedPort). IsFine q.port) e (register_fine b (among b (inl refl)))
      ended_fine g (b ∷ []) among p (inr none) = absurd none
      ended_fine g (b ∷ c ∷ bs) among p (inl e) = subst (λ (q : PlacedPort). IsFine q.port) e refl
      ended_fine g (b ∷ c ∷ bs) among p (inr i) =
          let found = image_in (register_done tree part v) (b ∷ c ∷ bs) p (subst (λ ps. In ps p) (atoms (register_done tree part v) (b ∷ c ∷ bs)) i) in
          subst (λ (q : PlacedPort). IsFine q.port) found.2 (register_fine found.0 (among found.0 found.1))

      call_fine : (g : ℕ) (a : PlainAssign) → In (invoke_group tree part g v).assigns a → LooksFine a
      call_fine g a i = ⊎_elim (inputs_look a) behind (in_either (map (input_assign tree part v) v.inputs) (go_assign tree part v ∷ (flat_map (capture_assigns tree part v) v.outputs ++ (done_assign tree part v g v.outputs ∷ []))) a i)
        where
          last : In (done_assign tree part v g v.outputs ∷ []) a → LooksFine a
          last (inl e) = subst LooksFine e (ended_fine g v.outputs (λ b j. j))
          last (inr none) = absurd none

          behind : In (go_assign tree part v ∷ (flat_map (capture_assigns tree part v) v.outputs ++ (done_assign tree part v g v.outputs ∷ []))) a → LooksFine a
          behind (inl e) = subst LooksFine e go_fine
          behind (inr j) =
              ⊎_elim (λ l. let found = flat_in (capture_assigns tree part v) v.outputs a l in capture_fine found.0 a found.2) last
              (in_either (flat_map (capture_assigns tree part v) v.outputs) (done_assign tree part v g v.outputs ∷ []) a j)

    -- the group that captures
    static_capture_fine : (b : BindItem) → In v.outputs b → (a : PlainAssign) → In (static_capture tree part v b) a → LooksFine a
    static_capture_fine b i a (inl e) = bare_alike _ a e refl (port_fine v.cell b.name (output_end v.cell (cell_of tree own.found) b (own.outputs b i)))
    static_capture_fine b i a (inr (inl e)) = bare_alike _ a e refl refl
    static_capture_fine b i a (inr (inr none)) = absurd none

    capture_group_fine : (a : PlainAssign) → In (capture_group tree part v).assigns a → LooksFine a
    capture_group_fine a i = let found = flat_in (static_capture tree part v) v.outputs a i in static_capture_fine found.0 found.1 a found.2

  abbrev GroupFine : PlainGroup → Type 0
  GroupFine group = (a : PlainAssign) → In group.assigns a → LooksFine a

  captures_fine : (v : Invoke) → KeptInvoke tree part v → (outputs : List BindItem) (group : PlainGroup) → In (captures_for tree part v outputs) group → GroupFine group
  captures_fine v own [] group i = absurd i
  captures_fine v own (b ∷ bs) group (inl e) = subst GroupFine e (capture_group_fine v own)
  captures_fine v own (b ∷ bs) group (inr i) = absurd i

  one_fine : (n : Next) (v : Invoke) → KeptInvoke tree part v → (static : Bool) → is_static_invoke tree part v ≡ static → (group : PlainGroup) → In (groups_for tree part static n v) group → GroupFine group
  one_fine n v own true e group i = captures_fine v own v.outputs group i
  one_fine n v own false e group (inl same) = subst GroupFine same (call_fine v own e n.group)
  one_fine n v own false e group (inr i) = absurd i

  invoked_fine : (n : Next) (vs : List Invoke) → ((v : Invoke) → In vs v → KeptInvoke tree part v) → (group : PlainGroup) → In (invoke_groups tree part n vs) group → GroupFine group
  invoked_fine n [] all group i = absurd i
  invoked_fine n (v ∷ vs) all group i =
      ⊎_elim (λ l. one_fine n v (all v (inl refl)) (is_static_invoke tree part v) refl group l) (λ r. invoked_fine (after tree part n v) vs (λ w j. all w (inr j)) group r)
      (in_either (groups_for tree part (is_static_invoke tree part v) n v) (invoke_groups tree part (after tree part n v) vs) group i)

  abbrev InputsFine : PlainInvoke → Type 0
  InputsFine v = (a : PlainAssign) → In v.inputs a → IsFine a.source.port

  static_fine : (n : Next) (v : Invoke) → KeptInvoke tree part v → (static : Bool) (w : PlainInvoke) → In (static_for tree part static n v) w → InputsFine w
  static_fine n v own true w (inl e) = subst InputsFine e (inputs_fine v own)
  static_fine n v own true w (inr i) = absurd i
  static_fine n v own false w i = absurd i

  statics_fine : (n : Next) (vs : List Invoke) → ((v : Invoke) → In vs v → KeptInvoke tree part v) → (w : PlainInvoke) → In (static_invokes tree part n vs) w → InputsFine w
  statics_fine n [] all w i = absurd i
  statics_fine n (v ∷ vs) all w i =
      ⊎_elim (static_fine n v (all v (inl refl)) (is_static_invoke tree part v) w) (statics_fine (after tree part n v) vs (λ x j. all x (inr j)) w)
      (in_either (static_for tree part (is_static_invoke tree part v) n v) (static_invokes tree part (after tree part n v) vs) w i)

  -- CONDITIONS
  abbrev TestFine : items.Visited → Type 0
  TestFine v = (p : PlacedPort) → test_in v.form ≡ Some p → IsFine p.port

  test_fine : (o : OperandItem) → source_breaks tree part o ≡ [] → (p : PlacedPort) → Some (placed_of tree part o) ≡ Some p → IsFine p.port
  test_fine o h p e = let same : placed_of tree part o ≡ p = cc in subst (λ (q : PlacedPort). IsFine q.port) same (source_fine o h)

  no_test : (b : Bool) (n : Next) (p : PlacedPort) → test_in (invoke_form tree part b n) ≡ Some p → IsFine p.port
  no_test true n p e = absurd cc
  no_test false n p e = absurd cc

  head_fine : (context : Context) (n : Next) (place : Place) (form : statements.PlainForm) → form_breaks tree part form place ≡ [] → TestFine (record { context = context; form = form_of tree part n place form; place = place })
  head_fine context n place (statements.Enable group marks) h p e = absurd cc
  head_fine context n place (statements.Seq marks block) h p e = absurd cc
  head_fine context n place (statements.Par marks block) h p e = absurd cc
  head_fine context n place (statements.StaticSeq lasts marks block) h p e = absurd cc
  head_fine context n place (statements.StaticPar lasts marks block) h p e = absurd cc
  head_fine context n place (statements.If test comb block otherwise) h p e = test_fine test (append_none (with_breaks tree part comb place) (source_breaks tree part test) h).1 p e
  head_fine context n place (statements.StaticIf written test block otherwise) h p e = test_fine test h p e
  head_fine context n place (statements.While test comb body) h p e = test_fine test (append_none (with_breaks tree part comb place) (source_breaks tree part test) h).1 p e
  head_fine context n place (statements.Repeat count body) h p e = absurd cc
  head_fine context n place (statements.StaticRepeat lasts count body) h p e = absurd cc
  head_fine context n place (statements.Invoke cell inputs outputs) h p e = no_test (is_static_invoke tree part (record { cell = cell; written = false; length = None; inputs = inputs; outputs = outputs; place = place })) n p e
  head_fine context n place (statements.StaticInvoke lasts cell inputs outputs) h p e = absurd cc

  several_fine : (context : Context) (static : Bool) (place : Place) (parts : PlainStatements) → TestFine (record { context = context; form = seq_form tree part static parts; place = place })
  several_fine context true place parts p e = absurd cc
  several_fine context false place parts p e = absurd cc

  each_fine : HoldsEach tree part TestFine
  each_fine = record {
    written = λ context n place form h split. head_fine context n place form h;
    none = λ context place p e. absurd cc;
    several = several_fine;
  }

  -- ALL of a component
  module _ (own : KeptPart tree part) where
    always_fine : (a : PlainAssign) → In (component_of tree part).always a → LooksFine a
    always_fine a i =
        let found = image_in (assign_of tree part) (always_in part.wires) a i in
        let x : Standing = record { group = None; assign = found.0 } in
        subst LooksFine found.2 (stands_fine own x (in_left (map (λ b. record { group = None; assign = b }) (always_in part.wires)) _ x (in_image (λ b. record { group = None; assign = b }) (always_in part.wires) found.0 found.1)))

    group_fine : (group : ast.PlainGroup) → In (groups_in part.wires) group → GroupFine (group_of tree part group)
    group_fine group stands a i =
        let found = image_in (assign_of tree part) group.assigns a i in
        let x : Standing = record { group = Some group.name; assign = found.0 } in
        let within = in_flat (λ h. map (λ b. record { group = Some h.name; assign = b }) h.assigns) (groups_in part.wires) group x stands (in_image (λ b. record { group = Some group.name; assign = b }) group.assigns found.0 found.1) in
        subst LooksFine found.2 (stands_fine own x (in_right (map (λ b. record { group = None; assign = b }) (always_in part.wires)) _ x within))

    groups_fine : (group : PlainGroup) → In (component_of tree part).groups group → GroupFine group
    groups_fine group i =
        ⊎_elim (λ l. let found = image_in (group_of tree part) (groups_in part.wires) group l in subst GroupFine found.2 (group_fine found.0 found.1))
        (invoked_fine (first tree part) (control_invokes tree part part.control) (invoke_own tree part own) group)
        (in_either (map (group_of tree part) (groups_in part.wires)) (invoke_groups tree part (first tree part) (control_invokes tree part part.control)) group i)

    tests_fine : (v : items.Visited) → In (items.visit Dynamic (control_of tree part part.control)) v → TestFine v
    tests_fine v i = by part.control refl own.statements i
      where
        by : (o : Option statements.PlainBlock) → part.control ≡ o → ((w : Visited) → In (visit_control o) w → form_breaks tree part w.form w.place ≡ []) → In (items.visit Dynamic (control_of tree part o)) v → TestFine v
        by None e all (inl same) = subst TestFine same (λ p t. absurd cc)
        by None e all (inr j) = absurd j
        by (Some block) e all j =
            block_whole tree part TestFine each_fine Dynamic false (first tree part) block all (split_all tree part (invokes_of block) (ap (λ o. control_invokes tree part o) e)) v j

    looked : (a : PlainAssign) (q : PortRef) → LooksFine a → AssignNames a q → IsFine q
    looked a q fine names = let found = source_in a q names in subst IsFine found.2 (fine found.0 found.1)

    part_names_no_done : NamesNoDone here
    part_names_no_done =
        let is = part_is tree k part at in
        record {
          assigns = λ a q i names. looked a q (assign_fine a (subst (λ p. IsAssignOf p a) is i)) names;
          inputs = λ v a i j. statics_fine (first tree part) (control_invokes tree part part.control) (invoke_own tree part own) v (subst (λ (p : PlainComponent). In p.invokes v) is i) a j;
          tests = λ v p i e. tests_fine v (subst (λ (q : PlainComponent). In (items.visit Dynamic q.control) v) is i) p e;
        }
      where
        assign_fine : (a : PlainAssign) → IsAssignOf (component_of tree part) a → LooksFine a
        assign_fine a (inl i) = always_fine a i
        assign_fine a (inr stands) = groups_fine stands.0 stands.1 a stands.2

-- A TREE that keeps the rules on names
pub names_no_done : (tree : PlainTree) → names_break tree ≡ None → NoneNamesDone (design_of tree)
names_no_done tree none k within =
    let all = kept tree none in
    let many : length (design_of tree).components ≡ length tree.components = length-map tree.components (component_of tree) in
    let part = some_at tree.components k (omega (arith, within, many)) in
    part_names_no_done tree k part.0 part.1 (kept_part tree part.0 (all.parts part.0 (in_at tree.components k part.0 part.1)))
