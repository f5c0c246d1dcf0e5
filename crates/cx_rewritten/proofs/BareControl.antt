-- CONTROL, CELLS AND COMPONENTS of the design of a tree without places.
use Rattle.std.proofs.Common.{◌≡◌, ℕ, Bool, true, false, List, [], ◌∷◌, ◌++◌, Option, Some, None, map, option_map, length, refl, sym, ap, ◌∙◌}
use Rattle.std.proofs.lemmas.List.{map-append}
use Rattle.cx_text.specs.declared.places.Place.{Place}
use Rattle.cx_text.specs.Places.{start}
use Rattle.cx_ast.specs.PlainTree as ast
use Rattle.cx_ast.specs.PlainStatements as statements
use Rattle.cx_print.specs.Places.{bare_form, bare_else, bare_block, bare_statements, bare_port, bare_cell, bare_group, bare_component, without_places}
use Rattle.cx_meaning.specs.Designs.{OfComponent, PlainCell, PlainForm, Placed, PlainStatements, no_statements, a_statement, PlainGroup, PlainComponent}
use Rattle.cx_meaning.specs.Designs as plain
use Rattle.cx_numbering.specs.Names.{signature_ports, groups_in, always_in, CellOf, Neither, APrimitive, AComponent, cell_of}
use Rattle.cx_numbering.specs.DesignOf.{number_or_0, assign_of, group_of, Invoke, Next, is_static_invoke, past, invokes_in, invokes_else, invokes_of, invokes_all, group_number, comb_number, of_block, invoke_form, form_of, else_of, block_of, parts_of, all_of, invoke_groups, static_invokes, first, control_invokes, control_of, kind_or, plain_cell_of, decl_of, component_of}
use Rattle.cx_rewrites.specs.Places.{unplaced_assign, unplaced_group, unplaced_invoke, unplaced_cell, unplaced_form, unplaced, unplaced_statements}
use Rattle.cx_rewritten.proofs.BareNames.{both_ways, signature_ports-bare, component_names-bare, groups_in-bare, always_in-bare, group_names-bare, bare_of, cell_of-bare}
use Rattle.cx_rewritten.proofs.BareParts.{bare_invoke, placed_of-bare, assigns-bare, group_of-bare, is_static-bare, past-bare, invoke_groups-bare, static_invokes-bare}

-- INVOKES in control
mutual
  pub invokes_in-bare : (f : statements.PlainForm) (place : Place) → invokes_in (bare_form f) start ≡ map bare_invoke (invokes_in f place)
  invokes_in-bare (statements.Enable group marks) place = refl
  invokes_in-bare (statements.Seq marks block) place = invokes_of-bare block
  invokes_in-bare (statements.Par marks block) place = invokes_of-bare block
  invokes_in-bare (statements.StaticSeq written marks block) place = invokes_of-bare block
  invokes_in-bare (statements.StaticPar written marks block) place = invokes_of-bare block
  invokes_in-bare (statements.If test comb body otherwise) place =
      ap (λ ks. ks ++ invokes_else (bare_else otherwise)) (invokes_of-bare body) ∙ ap (λ ks. map bare_invoke (invokes_of body) ++ ks) (invokes_else-bare otherwise)
      ∙ sym (map-append bare_invoke (invokes_of body) (invokes_else otherwise))
  invokes_in-bare (statements.StaticIf written test body otherwise) place =
      ap (λ ks. ks ++ invokes_else (bare_else otherwise)) (invokes_of-bare body) ∙ ap (λ ks. map bare_invoke (invokes_of body) ++ ks) (invokes_else-bare otherwise)
      ∙ sym (map-append bare_invoke (invokes_of body) (invokes_else otherwise))
  invokes_in-bare (statements.While test comb body) place = invokes_of-bare body
  invokes_in-bare (statements.Repeat count body) place = invokes_of-bare body
  invokes_in-bare (statements.StaticRepeat written count body) place = invokes_of-bare body
  invokes_in-bare (statements.Invoke cell inputs outputs) place = refl
  invokes_in-bare (statements.StaticInvoke written cell inputs outputs) place = refl

  invokes_else-bare : (e : statements.PlainElse) → invokes_else (bare_else e) ≡ map bare_invoke (invokes_else e)
  invokes_else-bare statements.NoElse = refl
  invokes_else-bare (statements.Else block) = invokes_of-bare block

  pub invokes_of-bare : (b : statements.PlainBlock) → invokes_of (bare_block b) ≡ map bare_invoke (invokes_of b)
  invokes_of-bare (statements.Braces list place) = invokes_all-bare list

  invokes_all-bare : (list : statements.PlainStatements) → invokes_all (bare_statements list) ≡ map bare_invoke (invokes_all list)
  invokes_all-bare statements.NoStatements = refl
  invokes_all-bare (statements.StatementThen (statements.Placed attributes form place) rest) =
      ap (λ ks. ks ++ invokes_all (bare_statements rest)) (invokes_in-bare form place) ∙ ap (λ ks. map bare_invoke (invokes_in form place) ++ ks) (invokes_all-bare rest)
      ∙ sym (map-append bare_invoke (invokes_in form place) (invokes_all rest))

module _ (tree : ast.PlainTree) (part : ast.PlainComponent) where
  group_number-bare : (name : List ℕ) → group_number tree part name ≡ group_number (without_places tree) (bare_component part) name
  group_number-bare name = ap (number_or_0 name) (sym (group_names-bare part))

  comb_number-bare : (comb : Option (List ℕ)) → comb_number tree part comb ≡ comb_number (without_places tree) (bare_component part) comb
  comb_number-bare None = refl
  comb_number-bare (Some name) = ap Some (group_number-bare name)

  -- STATEMENTS
  of_block-bare : (static : Bool) (place : Place) (list : PlainStatements) → unplaced (of_block tree part static place list) ≡ of_block (without_places tree) (bare_component part) static start (unplaced_statements list)
  of_block-bare static place no_statements = refl
  of_block-bare static place (a_statement (Placed form at) no_statements) = refl
  of_block-bare true place (a_statement s (a_statement t rest)) = refl
  of_block-bare false place (a_statement s (a_statement t rest)) = refl

  block_past : (n : Next) (block : statements.PlainBlock) → past tree part n (invokes_of block) ≡ past (without_places tree) (bare_component part) n (invokes_of (bare_block block))
  block_past n block = past-bare tree part n (invokes_of block) ∙ ap (past (without_places tree) (bare_component part) n) (sym (invokes_of-bare block))

  form_past : (n : Next) (f : statements.PlainForm) (place : Place) → past tree part n (invokes_in f place) ≡ past (without_places tree) (bare_component part) n (invokes_in (bare_form f) start)
  form_past n f place = past-bare tree part n (invokes_in f place) ∙ ap (past (without_places tree) (bare_component part) n) (sym (invokes_in-bare f place))

  behind : (static : Bool) (n : Next) (block : statements.PlainBlock) (otherwise : statements.PlainElse)
      → else_of (without_places tree) (bare_component part) static (past tree part n (invokes_of block)) start (bare_else otherwise)
      ≡ else_of (without_places tree) (bare_component part) static (past (without_places tree) (bare_component part) n (invokes_of (bare_block block))) start (bare_else otherwise)
  behind static n block otherwise = ap (λ m. else_of (without_places tree) (bare_component part) static m start (bare_else otherwise)) (block_past n block)

  invoke_form-bare : (static : Bool) (n : Next) → unplaced_form (invoke_form tree part static n) ≡ invoke_form (without_places tree) (bare_component part) static n
  invoke_form-bare true n = refl
  invoke_form-bare false n = refl

  mutual
    form_of-bare : (n : Next) (place : Place) (f : statements.PlainForm) → unplaced_form (form_of tree part n place f) ≡ form_of (without_places tree) (bare_component part) n start (bare_form f)
    form_of-bare n place (statements.Enable group marks) = ap plain.Enable (group_number-bare group)
    form_of-bare n place (statements.Seq marks block) = ap plain.Seq (parts_of-bare n block)
    form_of-bare n place (statements.Par marks block) = ap plain.Par (parts_of-bare n block)
    form_of-bare n place (statements.StaticSeq written marks block) = ap (plain.StaticSeq written) (parts_of-bare n block)
    form_of-bare n place (statements.StaticPar written marks block) = ap (plain.StaticPar written) (parts_of-bare n block)
    form_of-bare n place (statements.If test comb block otherwise) =
        cc (placed_of-bare tree part test, comb_number-bare comb, block_of-bare false n block, else_of-bare false (past tree part n (invokes_of block)) place otherwise, behind false n block otherwise)
    form_of-bare n place (statements.StaticIf written test block otherwise) =
        cc (placed_of-bare tree part test, block_of-bare true n block, else_of-bare true (past tree part n (invokes_of block)) place otherwise, behind true n block otherwise)
    form_of-bare n place (statements.While test comb body) = cc (placed_of-bare tree part test, comb_number-bare comb, block_of-bare false n body)
    form_of-bare n place (statements.Repeat count body) = ap (plain.Repeat count) (block_of-bare false n body)
    form_of-bare n place (statements.StaticRepeat written count body) = ap (plain.StaticRepeat written count) (block_of-bare true n body)
    form_of-bare n place (statements.Invoke cell inputs outputs) =
        let k : Invoke = record { cell = cell; written = false; length = None; inputs = inputs; outputs = outputs; place = place } in
        invoke_form-bare (is_static_invoke tree part k) n ∙ ap (λ static. invoke_form (without_places tree) (bare_component part) static n) (is_static-bare tree part k)
    form_of-bare n place (statements.StaticInvoke written cell inputs outputs) = refl

    else_of-bare : (static : Bool) (n : Next) (place : Place) (e : statements.PlainElse) → unplaced (else_of tree part static n place e) ≡ else_of (without_places tree) (bare_component part) static n start (bare_else e)
    else_of-bare static n place statements.NoElse = refl
    else_of-bare static n place (statements.Else block) = block_of-bare static n block

    block_of-bare : (static : Bool) (n : Next) (b : statements.PlainBlock) → unplaced (block_of tree part static n b) ≡ block_of (without_places tree) (bare_component part) static n (bare_block b)
    block_of-bare static n (statements.Braces list place) =
        of_block-bare static place (all_of tree part n list) ∙ ap (of_block (without_places tree) (bare_component part) static start) (all_of-bare n list)

    parts_of-bare : (n : Next) (b : statements.PlainBlock) → unplaced_statements (parts_of tree part n b) ≡ parts_of (without_places tree) (bare_component part) n (bare_block b)
    parts_of-bare n (statements.Braces list place) = all_of-bare n list

    all_of-bare : (n : Next) (list : statements.PlainStatements) → unplaced_statements (all_of tree part n list) ≡ all_of (without_places tree) (bare_component part) n (bare_statements list)
    all_of-bare n statements.NoStatements = refl
    all_of-bare n (statements.StatementThen (statements.Placed attributes form place) rest) =
        ap (λ f. a_statement (Placed f start) (unplaced_statements (all_of tree part (past tree part n (invokes_in form place)) rest))) (form_of-bare n place form)
        ∙ ap (a_statement (Placed (form_of (without_places tree) (bare_component part) n start (bare_form form)) start))
        (all_of-bare (past tree part n (invokes_in form place)) rest ∙ ap (λ m. all_of (without_places tree) (bare_component part) m (bare_statements rest)) (form_past n form place))

  pub control_invokes-bare : (c : Option statements.PlainBlock) → control_invokes (without_places tree) (bare_component part) (option_map bare_block c) ≡ map bare_invoke (control_invokes tree part c)
  control_invokes-bare None = refl
  control_invokes-bare (Some block) = invokes_of-bare block

  first-bare : first tree part ≡ first (without_places tree) (bare_component part)
  first-bare = ap (λ (names : List (List ℕ)). record { group = length names; invoke = 0 }) (sym (group_names-bare part))

  control_of-bare : (c : Option statements.PlainBlock) → unplaced (control_of tree part c) ≡ control_of (without_places tree) (bare_component part) (option_map bare_block c)
  control_of-bare None = refl
  control_of-bare (Some block) =
      block_of-bare false (first tree part) block ∙ ap (λ n. block_of (without_places tree) (bare_component part) false n (bare_block block)) first-bare

  -- CELLS
  kind_or-bare : (x : CellOf) → kind_or tree part x ≡ kind_or (without_places tree) (bare_component part) (bare_of x)
  kind_or-bare Neither = refl
  kind_or-bare (APrimitive primitive) = refl
  kind_or-bare (AComponent component) = ap (λ names. OfComponent (number_or_0 component.name names)) (sym (component_names-bare tree))

  plain_cell_of-bare : (cell : ast.PlainCell) → unplaced_cell (plain_cell_of tree part cell) ≡ plain_cell_of (without_places tree) (bare_component part) (bare_cell cell)
  plain_cell_of-bare cell =
      let kind : kind_or tree part (cell_of tree cell) ≡ kind_or (without_places tree) (bare_component part) (cell_of (without_places tree) (bare_cell cell)) =
      kind_or-bare (cell_of tree cell) ∙ ap (kind_or (without_places tree) (bare_component part)) (sym (cell_of-bare tree cell)) in
      cc kind

  decls-bare : (list : List ast.PlainPort) → map (decl_of tree part) (signature_ports list) ≡ map (decl_of (without_places tree) (bare_component part)) (signature_ports (map bare_port list))
  decls-bare list =
      by (signature_ports list) ∙ ap (map (decl_of (without_places tree) (bare_component part))) (sym (signature_ports-bare list))
    where
      by : (list : List ast.PlainPort) → map (decl_of tree part) list ≡ map (decl_of (without_places tree) (bare_component part)) (map bare_port list)
      by [] = refl
      by (port ∷ rest) = ap (λ ports. decl_of tree part port ∷ ports) (by rest)

  -- THE PARTS OF A COMPONENT
  pub inputs-bare : (component_of tree part).inputs ≡ (component_of (without_places tree) (bare_component part)).inputs
  inputs-bare = decls-bare part.inputs

  pub outputs-bare : (component_of tree part).outputs ≡ (component_of (without_places tree) (bare_component part)).outputs
  outputs-bare = decls-bare part.outputs

  pub cells-bare : map unplaced_cell (component_of tree part).cells ≡ (component_of (without_places tree) (bare_component part)).cells
  cells-bare = both_ways (plain_cell_of tree part) unplaced_cell bare_cell (plain_cell_of (without_places tree) (bare_component part)) plain_cell_of-bare part.cells

  pub written_groups-bare : map unplaced_group (map (group_of tree part) (groups_in part.wires)) ≡ map (group_of (without_places tree) (bare_component part)) (groups_in (bare_component part).wires)
  written_groups-bare =
      both_ways (group_of tree part) unplaced_group bare_group (group_of (without_places tree) (bare_component part)) (group_of-bare tree part) (groups_in part.wires)
      ∙ ap (map (group_of (without_places tree) (bare_component part))) (sym (groups_in-bare part.wires))

  abbrev pub invoked : List PlainGroup
  invoked = invoke_groups tree part (first tree part) (control_invokes tree part part.control)

  pub invoked-bare : map unplaced_group invoked ≡ invoke_groups (without_places tree) (bare_component part) (first (without_places tree) (bare_component part)) (control_invokes (without_places tree) (bare_component part) (bare_component part).control)
  invoked-bare =
      invoke_groups-bare tree part (first tree part) (control_invokes tree part part.control)
      ∙ ap (λ n. invoke_groups (without_places tree) (bare_component part) n (map bare_invoke (control_invokes tree part part.control))) first-bare
      ∙ ap (invoke_groups (without_places tree) (bare_component part) (first (without_places tree) (bare_component part))) (sym (control_invokes-bare part.control))

  pub groups-bare : map unplaced_group (component_of tree part).groups ≡ (component_of (without_places tree) (bare_component part)).groups
  groups-bare =
      map-append unplaced_group (map (group_of tree part) (groups_in part.wires)) invoked
      ∙ ap (λ gs. gs ++ map unplaced_group invoked) written_groups-bare
      ∙ ap (λ gs. map (group_of (without_places tree) (bare_component part)) (groups_in (bare_component part).wires) ++ gs) invoked-bare

  pub invokes-bare : map unplaced_invoke (component_of tree part).invokes ≡ (component_of (without_places tree) (bare_component part)).invokes
  invokes-bare =
      static_invokes-bare tree part (first tree part) (control_invokes tree part part.control)
      ∙ ap (λ n. static_invokes (without_places tree) (bare_component part) n (map bare_invoke (control_invokes tree part part.control))) first-bare
      ∙ ap (static_invokes (without_places tree) (bare_component part) (first (without_places tree) (bare_component part))) (sym (control_invokes-bare part.control))

  pub always-bare : map unplaced_assign (component_of tree part).always ≡ (component_of (without_places tree) (bare_component part)).always
  always-bare = assigns-bare tree part (always_in part.wires) ∙ ap (map (assign_of (without_places tree) (bare_component part))) (sym (always_in-bare part.wires))

  pub control-bare : unplaced (component_of tree part).control ≡ (component_of (without_places tree) (bare_component part)).control
  control-bare = control_of-bare part.control
