-- THE RULES ON NAMES of assignments, statements and cells hang on no place.
use Rattle.std.proofs.Common.{◌≡◌, ℕ, Bool, true, false, ◌&&◌, ◌||◌, not, nat_le, List, [], ◌∷◌, ◌++◌, Option, Some, None, is_some, is_none, codes, map, flat_map, option_map, refl, sym, ap, ap₂, ◌∙◌, if◌then◌else◌}
use Rattle.cx_text.specs.declared.places.Place.{Place}
use Rattle.cx_text.specs.Places.{start}
use Rattle.cx_text.specs.declared.diagnostics.Diagnostic.{Diagnostic}
use Rattle.cx_text.specs.declared.rules.Rule.TheVariants.{UnknownName, BadParameters, LeftOut}
use Rattle.cx_prim.specs.declared.ports.PortRow.{PortRow}
use Rattle.cx_prim.specs.PortNames.{text_of}
use Rattle.cx_prim.specs.Rows.{is_output_side}
use Rattle.cx_prim.specs.Table.{row_of}
use Rattle.cx_ast.specs.declared.components.Attribute.{Attribute}
use Rattle.cx_ast.specs.declared.operands.OperandItem.{OperandItem}
use Rattle.cx_ast.specs.declared.operands.OperandForm.{OperandForm}
use Rattle.cx_ast.specs.declared.operands.OperandForm.TheVariants as operands
use Rattle.cx_ast.specs.declared.statements.BindItem.{BindItem}
use Rattle.cx_ast.specs.declared.wiring.GroupWord.{GroupWord}
use Rattle.cx_ast.specs.declared.wiring.GroupWord.TheVariants as words
use Rattle.cx_ast.specs.PlainTree as ast
use Rattle.cx_ast.specs.PlainGuards as guards
use Rattle.cx_ast.specs.PlainStatements as statements
use Rattle.cx_print.specs.Places.{bare_operand, bare_bind, bare_guard, bare_form, bare_port, bare_cell, bare_assign, bare_group, bare_component, without_places}
use Rattle.cx_numbering.specs.Names.{same_name, is_among, is_own_name, port_names, groups_in, group_names, cell_among, group_among, CellOf, Neither, APrimitive, AComponent, cell_of, cell_go, is_external}
use Rattle.cx_numbering.specs.NameRules.{tell_if, path_of, named, duplicates, bind_names, guard_operands, Standing, cell_ports, is_component, found_component, is_clock, is_static_end, is_own, is_unknown, unknown, is_left_out, is_hole, source_breaks, is_group, is_wrong_target, is_one, is_bare_done, assign_breaks, is_comb_word, is_comb_group, enable_breaks, with_breaks, output_rows, output_names, is_go_name, found_reg, is_reg, is_register_in, input_breaks, output_breaks, invoke_on, form_breaks, kind_breaks, is_narrow_memory, external_breaks, is_on_side, is_wrong_port, has_other_attribute, port_breaks}
use Rattle.cx_rewritten.proofs.BareNames.{each_way, port_names-bare, cell_among-bare, groups_in-bare, group_names-bare, group_among-bare, bare_of, cell_of-bare, found_cell_ports-bare, found_latency-bare, cell_go-bare}
use Rattle.cx_rewritten.proofs.BareItems.{bare_break, told, joined, bare_standing, repeats, guard_operands-bare}

module _ (tree : ast.PlainTree) (part : ast.PlainComponent) where
  is_component-bare : (x : CellOf) → is_component tree part x ≡ is_component (without_places tree) (bare_component part) (bare_of x)
  is_component-bare Neither = refl
  is_component-bare (APrimitive primitive) = refl
  is_component-bare (AComponent component) = refl

  is_clock-bare : (cell port : List ℕ) → is_clock tree part cell port ≡ is_clock (without_places tree) (bare_component part) cell port
  is_clock-bare cell port =
      ap (λ b. b && (same_name port (codes "clk") || same_name port (codes "reset")))
      (by (cell_among cell part.cells) ∙ ap (found_component (without_places tree) (bare_component part)) (sym (cell_among-bare cell part.cells)))
    where
      by : (c : Option ast.PlainCell) → found_component tree part c ≡ found_component (without_places tree) (bare_component part) (option_map bare_cell c)
      by None = refl
      by (Some c) = is_component-bare (cell_of tree c) ∙ ap (is_component (without_places tree) (bare_component part)) (sym (cell_of-bare tree c))

  is_static_end-bare : (cell port : List ℕ) → is_static_end tree part cell port ≡ is_static_end (without_places tree) (bare_component part) cell port
  is_static_end-bare cell port = ap (λ latency. is_some latency && (same_name port (codes "go") || same_name port (codes "done"))) (sym (found_latency-bare tree cell part.cells))

  is_own-bare : (name : List ℕ) → is_own tree part name ≡ is_own (without_places tree) (bare_component part) name
  is_own-bare name =
      ap (λ names. is_among name names || is_among name (port_names part.outputs)) (sym (port_names-bare part.inputs))
      ∙ ap (λ names. is_among name (port_names (bare_component part).inputs) || is_among name names) (sym (port_names-bare part.outputs))

  is_there-bare : (cell port : List ℕ) → is_among port (cell_ports tree part cell) ≡ is_among port (cell_ports (without_places tree) (bare_component part) cell)
  is_there-bare cell port = ap (is_among port) (sym (found_cell_ports-bare tree cell part.cells))

  is_unknown_port-bare : (cell port : List ℕ) → not (is_among port (cell_ports tree part cell) || is_clock tree part cell port)
      ≡ not (is_among port (cell_ports (without_places tree) (bare_component part) cell) || is_clock (without_places tree) (bare_component part) cell port)
  is_unknown_port-bare cell port =
      ap (λ b. not (b || is_clock tree part cell port)) (is_there-bare cell port)
      ∙ ap (λ b. not (is_among port (cell_ports (without_places tree) (bare_component part) cell) || b)) (is_clock-bare cell port)

  is_unknown-bare : (o : OperandForm) → is_unknown tree part o ≡ is_unknown (without_places tree) (bare_component part) o
  is_unknown-bare (operands.Own name) = ap (λ b. not (b || is_own_name name)) (is_own-bare name)
  is_unknown-bare (operands.Port cell port) = is_unknown_port-bare cell port
  is_unknown-bare (operands.Hole group hole) = ap (λ names. not (is_among group names && (same_name hole (codes "go") || same_name hole (codes "done")))) (sym (group_names-bare part))
  is_unknown-bare (operands.Literal width value) = refl

  unknown-bare : (o : OperandItem) → map bare_break (unknown tree part o) ≡ unknown (without_places tree) (bare_component part) (bare_operand o)
  unknown-bare o = told (is_unknown tree part o.form) _ UnknownName o.place (path_of o.form) (is_unknown-bare o.form)

  is_left_out-bare : (o : OperandForm) → is_left_out tree part o ≡ is_left_out (without_places tree) (bare_component part) o
  is_left_out-bare (operands.Own name) = refl
  is_left_out-bare (operands.Port cell port) = ap₂ (λ a b. a || b) (is_clock-bare cell port) (is_static_end-bare cell port)
  is_left_out-bare (operands.Hole group hole) = refl
  is_left_out-bare (operands.Literal width value) = refl

  is_hole-bare : (o : OperandForm) → is_hole tree part o ≡ is_hole (without_places tree) (bare_component part) o
  is_hole-bare (operands.Own name) = refl
  is_hole-bare (operands.Port cell port) = refl
  is_hole-bare (operands.Hole group hole) = refl
  is_hole-bare (operands.Literal width value) = refl

  source_breaks-bare : (o : OperandItem) → map bare_break (source_breaks tree part o) ≡ source_breaks (without_places tree) (bare_component part) (bare_operand o)
  source_breaks-bare o =
      joined (unknown tree part o) (tell_if (is_left_out tree part o.form || is_hole tree part o.form) LeftOut o.place (path_of o.form)) _ _ (unknown-bare o)
      (told (is_left_out tree part o.form || is_hole tree part o.form) _ LeftOut o.place (path_of o.form)
      (ap (λ b. b || is_hole tree part o.form) (is_left_out-bare o.form) ∙ ap (λ b. is_left_out (without_places tree) (bare_component part) o.form || b) (is_hole-bare o.form)))

  is_group-bare : (group : Option (List ℕ)) (name : List ℕ) → is_group tree part group name ≡ is_group (without_places tree) (bare_component part) group name
  is_group-bare None name = refl
  is_group-bare (Some group) name = refl

  is_wrong_target-bare : (group : Option (List ℕ)) (o : OperandForm) → is_wrong_target tree part group o ≡ is_wrong_target (without_places tree) (bare_component part) group o
  is_wrong_target-bare None (operands.Own name) = refl
  is_wrong_target-bare (Some group) (operands.Own name) = ap (is_among name) (sym (port_names-bare part.outputs))
  is_wrong_target-bare group (operands.Port cell port) = refl
  is_wrong_target-bare group (operands.Hole name hole) = ap (λ b. same_name hole (codes "go") || not b) (is_group-bare group name)
  is_wrong_target-bare group (operands.Literal width value) = refl

  is_one-bare : (o : OperandForm) → is_one tree part o ≡ is_one (without_places tree) (bare_component part) o
  is_one-bare (operands.Own name) = refl
  is_one-bare (operands.Port cell port) = refl
  is_one-bare (operands.Hole group hole) = refl
  is_one-bare (operands.Literal width value) = refl

  unguarded-bare : (g : Option guards.PlainGuard) → is_none g ≡ is_none (option_map bare_guard g)
  unguarded-bare None = refl
  unguarded-bare (Some g) = refl

  is_bare_done-bare : (a : ast.PlainAssign) → is_bare_done tree part a ≡ is_bare_done (without_places tree) (bare_component part) (bare_assign a)
  is_bare_done-bare a = cc (is_hole-bare a.target.form, unguarded-bare a.guard, is_one-bare a.source.form)

  pub assign_breaks-bare : (x : Standing) → map bare_break (assign_breaks tree part x) ≡ assign_breaks (without_places tree) (bare_component part) (bare_standing x)
  assign_breaks-bare x =
      let form = x.assign.target.form in
      let no_target : is_left_out tree part form || is_wrong_target tree part x.group form || is_bare_done tree part x.assign
      ≡ is_left_out (without_places tree) (bare_component part) form || is_wrong_target (without_places tree) (bare_component part) x.group form || is_bare_done (without_places tree) (bare_component part) (bare_assign x.assign) =
      cc (is_left_out-bare form, is_wrong_target-bare x.group form, is_bare_done-bare x.assign) in
      let ops : map bare_break (flat_map (source_breaks tree part) (guard_operands x.assign.guard)) ≡ flat_map (source_breaks (without_places tree) (bare_component part)) (guard_operands (option_map bare_guard x.assign.guard)) =
      each_way (source_breaks tree part) bare_break bare_operand (source_breaks (without_places tree) (bare_component part)) source_breaks-bare (guard_operands x.assign.guard)
      ∙ ap (flat_map (source_breaks (without_places tree) (bare_component part))) (guard_operands-bare x.assign.guard) in
      let wrong : List Diagnostic = tell_if (is_left_out tree part form || is_wrong_target tree part x.group form || is_bare_done tree part x.assign) LeftOut x.assign.target.place (path_of form) in
      let first : List Diagnostic = unknown tree part x.assign.target in
      let source : List Diagnostic = source_breaks tree part x.assign.source in
      joined (first ++ wrong ++ source) (flat_map (source_breaks tree part) (guard_operands x.assign.guard)) _ _
      (joined (first ++ wrong) source _ _
      (joined first wrong _ _ (unknown-bare x.assign.target) (told (is_left_out tree part form || is_wrong_target tree part x.group form || is_bare_done tree part x.assign) _ LeftOut x.assign.target.place (path_of form) no_target))
      (source_breaks-bare x.assign.source))
      ops

  -- STATEMENTS
  is_comb_word-bare : (w : GroupWord) → is_comb_word tree part w ≡ is_comb_word (without_places tree) (bare_component part) w
  is_comb_word-bare words.Plain = refl
  is_comb_word-bare words.Comb = refl
  is_comb_word-bare (words.Timed n) = refl

  is_comb-bare : (name : List ℕ) → is_comb_group tree part (group_among name (groups_in part.wires)) ≡ is_comb_group (without_places tree) (bare_component part) (group_among name (groups_in (bare_component part).wires))
  is_comb-bare name =
      by (group_among name (groups_in part.wires))
      ∙ ap (is_comb_group (without_places tree) (bare_component part)) (sym (group_among-bare name (groups_in part.wires)) ∙ ap (group_among name) (sym (groups_in-bare part.wires)))
    where
      by : (g : Option ast.PlainGroup) → is_comb_group tree part g ≡ is_comb_group (without_places tree) (bare_component part) (option_map bare_group g)
      by None = refl
      by (Some g) = is_comb_word-bare g.kind

  is_no_group-bare : (name : List ℕ) → not (is_among name (group_names part)) ≡ not (is_among name (group_names (bare_component part)))
  is_no_group-bare name = ap (λ names. not (is_among name names)) (sym (group_names-bare part))

  enable_breaks-bare : (name : List ℕ) (place : Place) → map bare_break (enable_breaks tree part name place) ≡ enable_breaks (without_places tree) (bare_component part) name start
  enable_breaks-bare name place =
      joined (tell_if (not (is_among name (group_names part))) UnknownName place name) (tell_if (is_comb_group tree part (group_among name (groups_in part.wires))) LeftOut place name) _ _
      (told (not (is_among name (group_names part))) _ UnknownName place name (is_no_group-bare name))
      (told (is_comb_group tree part (group_among name (groups_in part.wires))) _ LeftOut place name (is_comb-bare name))

  with_breaks-bare : (comb : Option (List ℕ)) (place : Place) → map bare_break (with_breaks tree part comb place) ≡ with_breaks (without_places tree) (bare_component part) comb start
  with_breaks-bare None place = refl
  with_breaks-bare (Some name) place =
      joined (tell_if (not (is_among name (group_names part))) UnknownName place name) (tell_if (not (is_comb_group tree part (group_among name (groups_in part.wires)))) LeftOut place name) _ _
      (told (not (is_among name (group_names part))) _ UnknownName place name (is_no_group-bare name))
      (told (not (is_comb_group tree part (group_among name (groups_in part.wires)))) _ LeftOut place name (ap not (is_comb-bare name)))

  -- INVOKES
  output_rows-bare : (rows : List PortRow) → output_rows tree part rows ≡ output_rows (without_places tree) (bare_component part) rows
  output_rows-bare [] = refl
  output_rows-bare (port ∷ rest) = ap (λ names. if is_output_side port.side then text_of port.name ∷ names else names) (output_rows-bare rest)

  output_names-bare : (x : CellOf) → output_names tree part x ≡ output_names (without_places tree) (bare_component part) (bare_of x)
  output_names-bare Neither = refl
  output_names-bare (APrimitive primitive) = output_rows-bare (row_of primitive).ports
  output_names-bare (AComponent component) = ap (λ names. names ++ (codes "done" ∷ [])) (sym (port_names-bare component.outputs))

  is_go_name-bare : (go : Option (List ℕ)) (name : List ℕ) → is_go_name tree part go name ≡ is_go_name (without_places tree) (bare_component part) go name
  is_go_name-bare None name = refl
  is_go_name-bare (Some go) name = refl

  is_reg-bare : (x : CellOf) → is_reg tree part x ≡ is_reg (without_places tree) (bare_component part) (bare_of x)
  is_reg-bare Neither = refl
  is_reg-bare (APrimitive primitive) = refl
  is_reg-bare (AComponent component) = refl

  found_reg-bare : (cell : List ℕ) → found_reg tree part (cell_among cell part.cells) ≡ found_reg (without_places tree) (bare_component part) (cell_among cell (bare_component part).cells)
  found_reg-bare cell = by (cell_among cell part.cells) ∙ ap (found_reg (without_places tree) (bare_component part)) (sym (cell_among-bare cell part.cells))
    where
      by : (c : Option ast.PlainCell) → found_reg tree part c ≡ found_reg (without_places tree) (bare_component part) (option_map bare_cell c)
      by None = refl
      by (Some c) = is_reg-bare (cell_of tree c) ∙ ap (is_reg (without_places tree) (bare_component part)) (sym (cell_of-bare tree c))

  is_register_in-bare : (o : OperandForm) → is_register_in tree part o ≡ is_register_in (without_places tree) (bare_component part) o
  is_register_in-bare (operands.Own name) = refl
  is_register_in-bare (operands.Port cell port) = ap (λ b. b && same_name port (codes "in")) (found_reg-bare cell)
  is_register_in-bare (operands.Hole group hole) = refl
  is_register_in-bare (operands.Literal width value) = refl

  input_breaks-bare : (cell : List ℕ) (x : CellOf) (b : BindItem) → map bare_break (input_breaks tree part cell x b) ≡ input_breaks (without_places tree) (bare_component part) cell (bare_of x) (bare_bind b)
  input_breaks-bare cell x b =
      let no_input : is_among b.name (output_names tree part x) || is_go_name tree part (cell_go x) b.name || is_clock tree part cell b.name
      ≡ is_among b.name (output_names (without_places tree) (bare_component part) (bare_of x)) || is_go_name (without_places tree) (bare_component part) (cell_go (bare_of x)) b.name || is_clock (without_places tree) (bare_component part) cell b.name =
      cc (output_names-bare x, is_go_name-bare (cell_go x) b.name, cell_go-bare x, is_clock-bare cell b.name) in
      let wrong : List Diagnostic = tell_if (is_among b.name (output_names tree part x) || is_go_name tree part (cell_go x) b.name || is_clock tree part cell b.name) LeftOut b.place b.name in
      let missing : List Diagnostic = tell_if (not (is_among b.name (cell_ports tree part cell) || is_clock tree part cell b.name)) UnknownName b.place b.name in
      joined (missing ++ wrong) (source_breaks tree part b.value) _ _
      (joined missing wrong _ _
      (told (not (is_among b.name (cell_ports tree part cell) || is_clock tree part cell b.name)) _ UnknownName b.place b.name (is_unknown_port-bare cell b.name))
      (told (is_among b.name (output_names tree part x) || is_go_name tree part (cell_go x) b.name || is_clock tree part cell b.name) _ LeftOut b.place b.name no_input))
      (source_breaks-bare b.value)

  output_breaks-bare : (cell : List ℕ) (x : CellOf) (b : BindItem) → map bare_break (output_breaks tree part cell x b) ≡ output_breaks (without_places tree) (bare_component part) cell (bare_of x) (bare_bind b)
  output_breaks-bare cell x b =
      let missing : List Diagnostic = tell_if (not (is_among b.name (cell_ports tree part cell) || is_clock tree part cell b.name)) UnknownName b.place b.name in
      let wrong : List Diagnostic = tell_if (not (is_among b.name (output_names tree part x)) || is_static_end tree part cell b.name) LeftOut b.place b.name in
      let last : List Diagnostic = tell_if (not (is_register_in tree part b.value.form)) LeftOut b.value.place (path_of b.value.form) in
      joined (missing ++ wrong ++ unknown tree part b.value) last _ _
      (joined (missing ++ wrong) (unknown tree part b.value) _ _
      (joined missing wrong _ _
      (told (not (is_among b.name (cell_ports tree part cell) || is_clock tree part cell b.name)) _ UnknownName b.place b.name (is_unknown_port-bare cell b.name))
      (told (not (is_among b.name (output_names tree part x)) || is_static_end tree part cell b.name) _ LeftOut b.place b.name (ap₂ (λ names end. not (is_among b.name names) || end) (output_names-bare x) (is_static_end-bare cell b.name))))
      (unknown-bare b.value))
      (told (not (is_register_in tree part b.value.form)) _ LeftOut b.value.place (path_of b.value.form) (ap not (is_register_in-bare b.value.form)))

  invoke_on-bare : (cell : List ℕ) (inputs outputs : List BindItem) (place : Place)
      → map bare_break (invoke_on tree part cell inputs outputs place (cell_among cell part.cells))
      ≡ invoke_on (without_places tree) (bare_component part) cell (map bare_bind inputs) (map bare_bind outputs) start (cell_among cell (bare_component part).cells)
  invoke_on-bare cell inputs outputs place =
      by (cell_among cell part.cells) ∙ ap (invoke_on (without_places tree) (bare_component part) cell (map bare_bind inputs) (map bare_bind outputs) start) (sym (cell_among-bare cell part.cells))
    where
      at_kind : (x : CellOf) → map bare_break (tell_if (is_none (cell_go x)) LeftOut place cell ++ flat_map (input_breaks tree part cell x) inputs ++ flat_map (output_breaks tree part cell x) outputs)
          ≡ tell_if (is_none (cell_go (bare_of x))) LeftOut start cell
          ++ flat_map (input_breaks (without_places tree) (bare_component part) cell (bare_of x)) (map bare_bind inputs)
          ++ flat_map (output_breaks (without_places tree) (bare_component part) cell (bare_of x)) (map bare_bind outputs)
      at_kind x =
          joined (tell_if (is_none (cell_go x)) LeftOut place cell ++ flat_map (input_breaks tree part cell x) inputs) (flat_map (output_breaks tree part cell x) outputs) _ _
          (joined (tell_if (is_none (cell_go x)) LeftOut place cell) (flat_map (input_breaks tree part cell x) inputs) _ _
          (told (is_none (cell_go x)) _ LeftOut place cell (ap (λ go. is_none go) (sym (cell_go-bare x))))
          (each_way (input_breaks tree part cell x) bare_break bare_bind (input_breaks (without_places tree) (bare_component part) cell (bare_of x)) (input_breaks-bare cell x) inputs))
          (each_way (output_breaks tree part cell x) bare_break bare_bind (output_breaks (without_places tree) (bare_component part) cell (bare_of x)) (output_breaks-bare cell x) outputs)

      by : (c : Option ast.PlainCell)
          → map bare_break (invoke_on tree part cell inputs outputs place c) ≡ invoke_on (without_places tree) (bare_component part) cell (map bare_bind inputs) (map bare_bind outputs) start (option_map bare_cell c)
      by None = refl
      by (Some c) =
          at_kind (cell_of tree c)
          ∙ ap (λ x. tell_if (is_none (cell_go x)) LeftOut start cell
          ++ flat_map (input_breaks (without_places tree) (bare_component part) cell x) (map bare_bind inputs)
          ++ flat_map (output_breaks (without_places tree) (bare_component part) cell x) (map bare_bind outputs)) (sym (cell_of-bare tree c))

  bound_breaks-bare : (cell : List ℕ) (inputs outputs : List BindItem) (place : Place)
      → map bare_break (duplicates [] (bind_names inputs) ++ duplicates [] (bind_names outputs) ++ invoke_on tree part cell inputs outputs place (cell_among cell part.cells))
      ≡ duplicates [] (bind_names (map bare_bind inputs)) ++ duplicates [] (bind_names (map bare_bind outputs))
      ++ invoke_on (without_places tree) (bare_component part) cell (map bare_bind inputs) (map bare_bind outputs) start (cell_among cell (bare_component part).cells)
  bound_breaks-bare cell inputs outputs place =
      joined (duplicates [] (bind_names inputs) ++ duplicates [] (bind_names outputs)) (invoke_on tree part cell inputs outputs place (cell_among cell part.cells)) _ _
      (joined (duplicates [] (bind_names inputs)) (duplicates [] (bind_names outputs)) _ _
      (repeats bare_bind (λ b. named b.name b.place) (λ b. refl) inputs) (repeats bare_bind (λ b. named b.name b.place) (λ b. refl) outputs))
      (invoke_on-bare cell inputs outputs place)

  pub form_breaks-bare : (f : statements.PlainForm) (place : Place) → map bare_break (form_breaks tree part f place) ≡ form_breaks (without_places tree) (bare_component part) (bare_form f) start
  form_breaks-bare (statements.Enable group marks) place = enable_breaks-bare group place
  form_breaks-bare (statements.Seq marks block) place = refl
  form_breaks-bare (statements.Par marks block) place = refl
  form_breaks-bare (statements.StaticSeq written marks block) place = refl
  form_breaks-bare (statements.StaticPar written marks block) place = refl
  form_breaks-bare (statements.If test comb block otherwise) place =
      joined (with_breaks tree part comb place) (source_breaks tree part test) _ _ (with_breaks-bare comb place) (source_breaks-bare test)
  form_breaks-bare (statements.StaticIf written test block otherwise) place = source_breaks-bare test
  form_breaks-bare (statements.While test comb body) place =
      joined (with_breaks tree part comb place) (source_breaks tree part test) _ _ (with_breaks-bare comb place) (source_breaks-bare test)
  form_breaks-bare (statements.Repeat count body) place = refl
  form_breaks-bare (statements.StaticRepeat written count body) place = refl
  form_breaks-bare (statements.Invoke cell inputs outputs) place = bound_breaks-bare cell inputs outputs place
  form_breaks-bare (statements.StaticInvoke written cell inputs outputs) place = bound_breaks-bare cell inputs outputs place

  -- CELLS and ports
  pub kind_breaks-bare : (cell : ast.PlainCell) (x : CellOf) → map bare_break (kind_breaks tree part cell x) ≡ kind_breaks (without_places tree) (bare_component part) (bare_cell cell) (bare_of x)
  kind_breaks-bare cell Neither = refl
  kind_breaks-bare cell (APrimitive primitive) = told _ _ BadParameters cell.place cell.name refl
  kind_breaks-bare cell (AComponent component) = told _ _ BadParameters cell.place cell.name refl

  is_narrow_memory-bare : (x : CellOf) → is_narrow_memory tree part x ≡ is_narrow_memory (without_places tree) (bare_component part) (bare_of x)
  is_narrow_memory-bare Neither = refl
  is_narrow_memory-bare (APrimitive primitive) = refl
  is_narrow_memory-bare (AComponent component) = refl

  pub external_breaks-bare : (cell : ast.PlainCell) → map bare_break (external_breaks tree part cell) ≡ external_breaks (without_places tree) (bare_component part) (bare_cell cell)
  external_breaks-bare cell =
      told _ _ LeftOut cell.place cell.name
      (ap (λ b. is_external cell && not (same_name part.name (codes "main") && b))
      (is_narrow_memory-bare (cell_of tree cell) ∙ ap (is_narrow_memory (without_places tree) (bare_component part)) (sym (cell_of-bare tree cell))))

  has_other_attribute-bare : (name : List ℕ) (list : List Attribute) → has_other_attribute tree part name list ≡ has_other_attribute (without_places tree) (bare_component part) name list
  has_other_attribute-bare name [] = refl
  has_other_attribute-bare name (a ∷ rest) = ap (λ b. (is_own_name a.name && not (same_name a.name name)) || b) (has_other_attribute-bare name rest)

  is_on_side-bare : (input : Bool) (name : List ℕ) → is_on_side tree part input name ≡ is_on_side (without_places tree) (bare_component part) input name
  is_on_side-bare true name = refl
  is_on_side-bare false name = refl

  is_wrong_port-bare : (input : Bool) (port : ast.PlainPort) → is_wrong_port tree part input port ≡ is_wrong_port (without_places tree) (bare_component part) input (bare_port port)
  is_wrong_port-bare input port = cc (is_on_side-bare input port.name, has_other_attribute-bare port.name port.attributes)

  pub port_breaks-bare : (input : Bool) (port : ast.PlainPort) → map bare_break (port_breaks tree part input port) ≡ port_breaks (without_places tree) (bare_component part) input (bare_port port)
  port_breaks-bare input port =
      joined (tell_if (not (nat_le 1 port.width && nat_le port.width 128)) BadParameters port.place port.name) (tell_if (is_wrong_port tree part input port) LeftOut port.place port.name) _ _
      (told (not (nat_le 1 port.width && nat_le port.width 128)) _ BadParameters port.place port.name refl)
      (told (is_wrong_port tree part input port) _ LeftOut port.place port.name (is_wrong_port-bare input port))
