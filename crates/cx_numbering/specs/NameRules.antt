-- Stage 2: the rules on names. Each rule lists its breaks; the first by place, and at one place by the rule's number, is told.
use Rattle.std.specs.Prelude.{ℕ, zero, suc, Bool, true, false, ◌&&◌, ◌||◌, not, nat_eq, nat_le, List, [], ◌∷◌, ◌++◌, Option, Some, None, codes, decimal, map, flat_map, length, is_some, is_none, if◌then◌else◌}
use Rattle.cx_text.specs.declared.places.Place.{Place}
use Rattle.cx_text.specs.declared.diagnostics.Diagnostic.{Diagnostic}
use Rattle.cx_text.specs.declared.rules.Rule.{Rule}
use Rattle.cx_text.specs.declared.rules.Rule.TheVariants.{Duplicate, UnknownName, UnknownPrimitive, BadParameters, Recursive, NoMain, LeftOut}
use Rattle.cx_prim.specs.declared.names.PrimitiveName.{PrimitiveName}
use Rattle.cx_prim.specs.declared.names.PrimitiveName.TheVariants as primitives
use Rattle.cx_prim.specs.declared.ports.PortRow.{PortRow}
use Rattle.cx_prim.specs.PortNames.{text_of}
use Rattle.cx_prim.specs.Rows.{is_output_side}
use Rattle.cx_prim.specs.Table.{row_at, row_of}
use Rattle.cx_ast.specs.declared.components.Attribute.{Attribute}
use Rattle.cx_ast.specs.declared.operands.OperandItem.{OperandItem}
use Rattle.cx_ast.specs.declared.operands.OperandForm.{OperandForm}
use Rattle.cx_ast.specs.declared.operands.OperandForm.TheVariants as operands
use Rattle.cx_ast.specs.declared.wiring.GroupWord.{GroupWord}
use Rattle.cx_ast.specs.declared.wiring.GroupWord.TheVariants as words
use Rattle.cx_ast.specs.declared.statements.BindItem.{BindItem}
use Rattle.cx_ast.specs.declared.trees.ImportItem.{ImportItem}
use Rattle.cx_ast.specs.PlainTree as ast
use Rattle.cx_ast.specs.PlainGuards as guards
use Rattle.cx_ast.specs.PlainStatements as statements
use Rattle.cx_rules.specs.Accepted.{number_of, comes_before}
use Rattle.cx_rules.specs.Wellformed.{is_memory, first_number}
use Rattle.cx_numbering.specs.Names.{same_name, is_among, primitive_of, is_own_name, port_names, component_names, groups_in, always_in, group_names, cell_among, group_among, CellOf, Neither, APrimitive, AComponent, cell_of, found_cell_ports, found_latency, cell_go, is_external}

abbrev pub tell : Rule → Place → List ℕ → Diagnostic
tell rule place name = record { rule = rule; place = place; name = name }

abbrev pub tell_if : Bool → Rule → Place → List ℕ → List Diagnostic
tell_if true rule place name = tell rule place name ∷ []
tell_if false rule place name = []

-- the text of a target or an operand
abbrev pub path_of : OperandForm → List ℕ
path_of (operands.Own name) = name
path_of (operands.Port cell port) = cell ++ codes "." ++ port
path_of (operands.Hole group hole) = group ++ codes "[" ++ hole ++ codes "]"
path_of (operands.Literal width value) = decimal width ++ codes "'d" ++ decimal value

-- RULE duplicate: what has the name of an earlier part of its kind
pub record Named : Type 0 where
  pub name : List ℕ
  pub place : Place

abbrev pub named : List ℕ → Place → Named
named name place = record { name = name; place = place }

abbrev pub duplicates : List (List ℕ) → List Named → List Diagnostic
duplicates before [] = []
duplicates before (x ∷ xs) =
    tell_if (is_among x.name before) Duplicate x.place x.name ++ duplicates (x.name ∷ before) xs

abbrev pub bind_names : List BindItem → List Named
bind_names binds = map (λ b. named b.name b.place) binds

-- a component with the name of a primitive
abbrev pub primitive_named : ast.PlainComponent → List Diagnostic
primitive_named part = tell_if (is_some (primitive_of part.name)) Duplicate part.place part.name

abbrev pub component_duplicates : ast.PlainComponent → List Diagnostic
component_duplicates part =
    duplicates [] (map (λ p. named p.name p.place) (part.inputs ++ part.outputs))
    ++ duplicates [] (map (λ c. named c.name c.place) part.cells)
    ++ duplicates [] (map (λ g. named g.name g.place) (groups_in part.wires))

-- OPERANDS of a guard and of an assignment, in source order
abbrev mutual
  pub operands_of : guards.PlainGuard → List OperandItem
  operands_of (guards.Or gs) = operands_in gs
  operands_of (guards.And gs) = operands_in gs
  operands_of (guards.Compare c left right) = left ∷ right ∷ []
  operands_of (guards.Not g) = operands_of g
  operands_of (guards.Operand o) = o ∷ []
  operands_of (guards.At n) = []
  operands_of (guards.During from to) = []

  pub operands_in : guards.PlainGuards → List OperandItem
  operands_in guards.NoGuards = []
  operands_in (guards.GuardThen g gs) = operands_of g ++ operands_in gs

abbrev pub guard_operands : Option guards.PlainGuard → List OperandItem
guard_operands None = []
guard_operands (Some g) = operands_of g

-- an assignment with the name and the kind of the group that it stands in, if any
pub record Standing : Type 0 where
  pub group : Option (List ℕ)
  pub assign : ast.PlainAssign

abbrev pub standing : ast.PlainComponent → List Standing
standing part =
    map (λ a. record { group = None; assign = a }) (always_in part.wires)
    ++ flat_map (λ g. map (λ a. record { group = Some g.name; assign = a }) g.assigns) (groups_in part.wires)

-- STATEMENTS, each with its place
pub record Visited : Type 0 where
  pub form : statements.PlainForm
  pub place : Place

abbrev mutual
  pub visit_parts : statements.PlainForm → List Visited
  visit_parts (statements.Enable group marks) = []
  visit_parts (statements.Seq marks block) = visit_block block
  visit_parts (statements.Par marks block) = visit_block block
  visit_parts (statements.StaticSeq length marks block) = visit_block block
  visit_parts (statements.StaticPar length marks block) = visit_block block
  visit_parts (statements.If test comb block otherwise) = visit_block block ++ visit_else otherwise
  visit_parts (statements.StaticIf length test block otherwise) = visit_block block ++ visit_else otherwise
  visit_parts (statements.While test comb body) = visit_block body
  visit_parts (statements.Repeat count body) = visit_block body
  visit_parts (statements.StaticRepeat length count body) = visit_block body
  visit_parts (statements.Invoke cell inputs outputs) = []
  visit_parts (statements.StaticInvoke length cell inputs outputs) = []

  pub visit_else : statements.PlainElse → List Visited
  visit_else statements.NoElse = []
  visit_else (statements.Else block) = visit_block block

  pub visit_block : statements.PlainBlock → List Visited
  visit_block (statements.Braces list place) = visit_all list

  pub visit_all : statements.PlainStatements → List Visited
  visit_all statements.NoStatements = []
  visit_all (statements.StatementThen (statements.Placed attributes form place) rest) =
      record { form = form; place = place } ∷ (visit_parts form ++ visit_all rest)

abbrev pub visit_control : Option statements.PlainBlock → List Visited
visit_control None = []
visit_control (Some block) = visit_block block

abbrev pub statements_in : ast.PlainComponent → List Visited
statements_in part = visit_control part.control

module _ (tree : ast.PlainTree) (part : ast.PlainComponent) where
  -- the names of the ports that a port of a cell may name
  abbrev pub cell_ports : List ℕ → List (List ℕ)
  cell_ports cell = found_cell_ports tree (cell_among cell part.cells)

  abbrev pub is_component : CellOf → Bool
  is_component Neither = false
  is_component (APrimitive primitive) = false
  is_component (AComponent component) = true

  abbrev pub found_component : Option ast.PlainCell → Bool
  found_component None = false
  found_component (Some cell) = is_component (cell_of tree cell)

  -- clk and reset of a component's cell are there, and left out
  abbrev pub is_clock : List ℕ → List ℕ → Bool
  is_clock cell port =
      found_component (cell_among cell part.cells)
      && (same_name port (codes "clk") || same_name port (codes "reset"))

  -- go and done of a cell of a static component are there, and left out
  abbrev pub is_static_end : List ℕ → List ℕ → Bool
  is_static_end cell port =
      is_some (found_latency tree (cell_among cell part.cells))
      && (same_name port (codes "go") || same_name port (codes "done"))

  abbrev pub is_own : List ℕ → Bool
  is_own name = is_among name (port_names part.inputs) || is_among name (port_names part.outputs)

  -- RULE unknown-name: a cell, port, group or hole that is not there
  abbrev pub is_unknown : OperandForm → Bool
  is_unknown (operands.Own name) = not (is_own name || is_own_name name)
  is_unknown (operands.Port cell port) = not (is_among port (cell_ports cell) || is_clock cell port)
  is_unknown (operands.Hole group hole) =
      not
      (is_among group (group_names part) && (same_name hole (codes "go") || same_name hole (codes "done")))
  is_unknown (operands.Literal width value) = false

  abbrev pub unknown : OperandItem → List Diagnostic
  unknown o = tell_if (is_unknown o.form) UnknownName o.place (path_of o.form)

  -- RULE left-out, of what any target or operand may not be
  abbrev pub is_left_out : OperandForm → Bool
  is_left_out (operands.Own name) = is_own_name name
  is_left_out (operands.Port cell port) = is_clock cell port || is_static_end cell port
  is_left_out (operands.Hole group hole) = false
  is_left_out (operands.Literal width value) = false

  -- a source, an operand of a guard or a condition: no hole
  abbrev pub is_hole : OperandForm → Bool
  is_hole (operands.Own name) = false
  is_hole (operands.Port cell port) = false
  is_hole (operands.Hole group hole) = true
  is_hole (operands.Literal width value) = false

  abbrev pub source_breaks : OperandItem → List Diagnostic
  source_breaks o = unknown o ++ tell_if (is_left_out o.form || is_hole o.form) LeftOut o.place (path_of o.form)

  -- a target: no go hole, no done but that of its own group, no output of the signature in a group
  abbrev pub is_group : Option (List ℕ) → List ℕ → Bool
  is_group None name = false
  is_group (Some group) name = same_name group name

  abbrev pub is_wrong_target : Option (List ℕ) → OperandForm → Bool
  is_wrong_target group (operands.Own name) = is_some group && is_among name (port_names part.outputs)
  is_wrong_target group (operands.Port cell port) = false
  is_wrong_target group (operands.Hole name hole) = same_name hole (codes "go") || not (is_group group name)
  is_wrong_target group (operands.Literal width value) = false

  -- an unguarded done of 1'd1
  abbrev pub is_one : OperandForm → Bool
  is_one (operands.Own name) = false
  is_one (operands.Port cell port) = false
  is_one (operands.Hole group hole) = false
  is_one (operands.Literal width value) = nat_eq width 1 && nat_eq value 1

  abbrev pub is_bare_done : ast.PlainAssign → Bool
  is_bare_done a = is_hole a.target.form && is_none a.guard && is_one a.source.form

  abbrev pub assign_breaks : Standing → List Diagnostic
  assign_breaks x =
      unknown x.assign.target
      ++ tell_if (is_left_out x.assign.target.form || is_wrong_target x.group x.assign.target.form ||
      is_bare_done x.assign) LeftOut x.assign.target.place (path_of x.assign.target.form)
      ++ source_breaks x.assign.source
      ++ flat_map source_breaks (guard_operands x.assign.guard)

  -- STATEMENTS. The enable of a group that is not there or is a comb group; a with that names none, or no comb group
  abbrev pub is_comb_word : GroupWord → Bool
  is_comb_word words.Plain = false
  is_comb_word words.Comb = true
  is_comb_word (words.Timed n) = false

  abbrev pub is_comb_group : Option ast.PlainGroup → Bool
  is_comb_group None = false
  is_comb_group (Some g) = is_comb_word g.kind

  abbrev pub enable_breaks : List ℕ → Place → List Diagnostic
  enable_breaks name place =
      tell_if (not (is_among name (group_names part))) UnknownName place name
      ++ tell_if (is_comb_group (group_among name (groups_in part.wires))) LeftOut place name

  abbrev pub with_breaks : Option (List ℕ) → Place → List Diagnostic
  with_breaks None place = []
  with_breaks (Some name) place =
      tell_if (not (is_among name (group_names part))) UnknownName place name
      ++ tell_if (not (is_comb_group (group_among name (groups_in part.wires)))) LeftOut place name

  -- INVOKES. The names of the outputs of a cell, its done among them
  abbrev pub output_rows : List PortRow → List (List ℕ)
  output_rows [] = []
  output_rows (port ∷ rest) =
      if is_output_side port.side then text_of port.name ∷ output_rows rest else output_rows rest

  abbrev pub output_names : CellOf → List (List ℕ)
  output_names Neither = []
  output_names (APrimitive primitive) = output_rows (row_of primitive).ports
  output_names (AComponent component) = port_names component.outputs ++ (codes "done" ∷ [])

  abbrev pub is_go_name : Option (List ℕ) → List ℕ → Bool
  is_go_name None name = false
  is_go_name (Some go) name = same_name go name

  -- `in` of a std_reg
  abbrev pub is_reg : CellOf → Bool
  is_reg Neither = false
  is_reg (APrimitive primitive) = is_reg_name primitive.name
    where
      is_reg_name : PrimitiveName → Bool
      is_reg_name primitives.Reg = true
      is_reg_name _ = false
  is_reg (AComponent component) = false

  abbrev pub found_reg : Option ast.PlainCell → Bool
  found_reg None = false
  found_reg (Some cell) = is_reg (cell_of tree cell)

  abbrev pub is_register_in : OperandForm → Bool
  is_register_in (operands.Own name) = false
  is_register_in (operands.Port cell port) = found_reg (cell_among cell part.cells) && same_name port (codes "in")
  is_register_in (operands.Hole group hole) = false
  is_register_in (operands.Literal width value) = false

  -- a bind's name is a port of the cell; an input is no output, no go port and no clock
  abbrev pub input_breaks : List ℕ → CellOf → BindItem → List Diagnostic
  input_breaks cell of bind =
      tell_if (not (is_among bind.name (cell_ports cell) || is_clock cell bind.name)) UnknownName bind.place bind.name
      ++ tell_if (is_among bind.name (output_names of) || is_go_name (cell_go of) bind.name ||
      is_clock cell bind.name) LeftOut bind.place bind.name
      ++ source_breaks bind.value

  -- an output is an output of the cell, and no done of a static one; it is bound to `in` of a std_reg
  abbrev pub output_breaks : List ℕ → CellOf → BindItem → List Diagnostic
  output_breaks cell of bind =
      tell_if (not (is_among bind.name (cell_ports cell) || is_clock cell bind.name)) UnknownName bind.place bind.name
      ++ tell_if (not (is_among bind.name (output_names of)) || is_static_end cell bind.name) LeftOut
      bind.place bind.name
      ++ unknown bind.value
      ++ tell_if (not (is_register_in bind.value.form)) LeftOut bind.value.place (path_of bind.value.form)

  abbrev pub invoke_on : List ℕ → List BindItem → List BindItem → Place → Option ast.PlainCell → List Diagnostic
  invoke_on cell inputs outputs place None = tell UnknownName place cell ∷ []
  invoke_on cell inputs outputs place (Some found) =
      tell_if (is_none (cell_go (cell_of tree found))) LeftOut place cell
      ++ flat_map (input_breaks cell (cell_of tree found)) inputs
      ++ flat_map (output_breaks cell (cell_of tree found)) outputs

  abbrev pub form_breaks : statements.PlainForm → Place → List Diagnostic
  form_breaks (statements.Enable group marks) place = enable_breaks group place
  form_breaks (statements.Seq marks block) place = []
  form_breaks (statements.Par marks block) place = []
  form_breaks (statements.StaticSeq length marks block) place = []
  form_breaks (statements.StaticPar length marks block) place = []
  form_breaks (statements.If test comb block otherwise) place = with_breaks comb place ++ source_breaks test
  form_breaks (statements.StaticIf length test block otherwise) place = source_breaks test
  form_breaks (statements.While test comb body) place = with_breaks comb place ++ source_breaks test
  form_breaks (statements.Repeat count body) place = []
  form_breaks (statements.StaticRepeat length count body) place = []
  form_breaks (statements.Invoke cell inputs outputs) place =
      duplicates [] (bind_names inputs) ++ duplicates [] (bind_names outputs)
      ++ invoke_on cell inputs outputs place (cell_among cell part.cells)
  form_breaks (statements.StaticInvoke length cell inputs outputs) place =
      duplicates [] (bind_names inputs) ++ duplicates [] (bind_names outputs)
      ++ invoke_on cell inputs outputs place (cell_among cell part.cells)

  -- CELLS. RULE unknown-primitive, and RULE bad-parameters: numbers that break the row, or numbers of a component's cell
  abbrev pub kind_breaks : ast.PlainCell → CellOf → List Diagnostic
  kind_breaks cell Neither = tell UnknownPrimitive cell.place cell.kind ∷ []
  kind_breaks cell (APrimitive primitive) =
      tell_if (is_none (row_at primitive.name primitive.numbers)) BadParameters cell.place cell.name
  kind_breaks cell (AComponent component) =
      tell_if (not (nat_eq (length cell.numbers) 0)) BadParameters cell.place cell.name

  -- external on what is no memory, is not in main, or has words of over 64 bits
  abbrev pub is_narrow_memory : CellOf → Bool
  is_narrow_memory Neither = false
  is_narrow_memory (APrimitive primitive) =
      is_memory (row_of primitive).shape && nat_le (first_number primitive.numbers) 64
  is_narrow_memory (AComponent component) = false

  abbrev pub is_main : Bool
  is_main = same_name part.name (codes "main")

  abbrev pub external_breaks : ast.PlainCell → List Diagnostic
  external_breaks cell =
      tell_if (is_external cell && not (is_main && is_narrow_memory (cell_of tree cell))) LeftOut cell.place
      cell.name

  -- SIGNATURE PORTS. A width that is not 1 to 128 is RULE bad-parameters. Left out are: a port of main other than the own
  -- four; one of these on the wrong side, of another width than 1, or with the attribute of another; and another port with one
  abbrev pub has_other_attribute : List ℕ → List Attribute → Bool
  has_other_attribute name [] = false
  has_other_attribute name (a ∷ rest) =
      (is_own_name a.name && not (same_name a.name name)) || has_other_attribute name rest

  abbrev pub is_on_side : Bool → List ℕ → Bool
  is_on_side true name = not (same_name name (codes "done"))
  is_on_side false name = same_name name (codes "done")

  abbrev pub is_wrong_port : Bool → ast.PlainPort → Bool
  is_wrong_port input port =
      (if is_own_name port.name then not (is_on_side input port.name) || not (nat_eq port.width 1) else is_main)
      || has_other_attribute port.name port.attributes

  abbrev pub port_breaks : Bool → ast.PlainPort → List Diagnostic
  port_breaks input port =
      tell_if (not (nat_le 1 port.width && nat_le port.width 128)) BadParameters port.place port.name
      ++ tell_if (is_wrong_port input port) LeftOut port.place port.name

-- RULE recursive: a cell whose component leads back to the component that the cell stands in, by no more cells than there are components
abbrev pub kinds_of : CellOf → List ast.PlainComponent
kinds_of Neither = []
kinds_of (APrimitive primitive) = []
kinds_of (AComponent component) = component ∷ []

abbrev pub component_kinds : ast.PlainTree → ast.PlainComponent → List ast.PlainComponent
component_kinds tree part = flat_map (λ cell. kinds_of (cell_of tree cell)) part.cells

abbrev pub some_part : (ast.PlainComponent → Bool) → List ast.PlainComponent → Bool
some_part test [] = false
some_part test (part ∷ rest) = test part || some_part test rest

abbrev pub leads_back : ast.PlainTree → List ℕ → ℕ → ast.PlainComponent → Bool
leads_back tree name zero part = same_name part.name name
leads_back tree name (suc n) part =
    same_name part.name name || some_part (leads_back tree name n) (component_kinds tree part)

abbrev pub circle_breaks : ast.PlainTree → ast.PlainComponent → ast.PlainCell → CellOf → List Diagnostic
circle_breaks tree part cell Neither = []
circle_breaks tree part cell (APrimitive primitive) = []
circle_breaks tree part cell (AComponent component) =
    tell_if (leads_back tree part.name (length tree.components) component) Recursive cell.place cell.name

abbrev pub recursive_breaks : ast.PlainTree → ast.PlainComponent → ast.PlainCell → List Diagnostic
recursive_breaks tree part cell = circle_breaks tree part cell (cell_of tree cell)

abbrev pub cell_breaks : ast.PlainTree → ast.PlainComponent → ast.PlainCell → List Diagnostic
cell_breaks tree part cell =
    kind_breaks tree part cell (cell_of tree cell) ++ external_breaks tree part cell
    ++ recursive_breaks tree part cell

-- a static main
abbrev pub main_static : ast.PlainTree → ast.PlainComponent → List Diagnostic
main_static tree part = tell_if (is_main tree part && is_some part.length) LeftOut part.place part.name

abbrev pub component_breaks : ast.PlainTree → ast.PlainComponent → List Diagnostic
component_breaks tree part =
    primitive_named part ++ main_static tree part ++ component_duplicates part
    ++ flat_map (port_breaks tree part true) part.inputs ++ flat_map (port_breaks tree part false) part.outputs
    ++ flat_map (cell_breaks tree part) part.cells
    ++ flat_map (assign_breaks tree part) (standing part)
    ++ flat_map (λ v. form_breaks tree part v.form v.place) (statements_in part)

-- an import whose path does not begin with primitives/
abbrev pub begins_with : List ℕ → List ℕ → Bool
begins_with [] name = true
begins_with (a ∷ xs) [] = false
begins_with (a ∷ xs) (b ∷ ys) = nat_eq a b && begins_with xs ys

abbrev pub import_breaks : ImportItem → List Diagnostic
import_breaks item = tell_if (not (begins_with (codes "primitives/") item.path)) LeftOut item.place item.path

-- RULE no-main
abbrev pub main_breaks : ast.PlainTree → List Diagnostic
main_breaks tree =
    tell_if (not (is_among (codes "main") (component_names tree))) NoMain
    (record { line = 1; column = 1 }) []

-- ALL BREAKS of the rules on names
abbrev pub name_breaks : ast.PlainTree → List Diagnostic
name_breaks tree =
    main_breaks tree ++ flat_map import_breaks tree.imports
    ++ duplicates [] (map (λ part. named part.name part.place) tree.components)
    ++ flat_map (component_breaks tree) tree.components

-- THE FIRST BREAK: by place, then by the rule's number; of one rule at one place the first of the list
abbrev pub key_of : Diagnostic → List ℕ
key_of d = d.place.line ∷ d.place.column ∷ number_of d.rule ∷ []

abbrev pub earlier : Diagnostic → Option Diagnostic → Option Diagnostic
earlier d None = Some d
earlier d (Some e) = if comes_before (key_of e) (key_of d) then Some e else Some d

abbrev pub first_break : List Diagnostic → Option Diagnostic
first_break [] = None
first_break (d ∷ ds) = earlier d (first_break ds)

-- the first break of stage 2, if any
abbrev pub names_break : ast.PlainTree → Option Diagnostic
names_break tree = first_break (name_breaks tree)
