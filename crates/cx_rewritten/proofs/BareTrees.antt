-- THE RULES ON NAMES of a tree hang on no place: a tree without places has the same breaks, all at one place.
use Rattle.std.proofs.Common.{◌≡◌, ℕ, zero, suc, Bool, true, false, ◌||◌, not, List, [], ◌∷◌, ◌++◌, codes, map, flat_map, length, refl, sym, ap, ◌∙◌}
use Rattle.std.proofs.lemmas.List.{map-append}
use Rattle.cx_text.proofs.ListLaws.{length-map}
use Rattle.cx_text.specs.Places.{start}
use Rattle.cx_text.specs.declared.diagnostics.Diagnostic.{Diagnostic}
use Rattle.cx_text.specs.declared.rules.Rule.TheVariants.{Duplicate, LeftOut, Recursive, NoMain}
use Rattle.cx_ast.specs.PlainTree as ast
use Rattle.cx_print.specs.Places.{bare_import, bare_port, bare_cell, bare_group, bare_wire, bare_component, without_places}
use Rattle.cx_numbering.specs.Names.{same_name, is_among, component_names, groups_in, CellOf, Neither, APrimitive, AComponent, cell_of}
use Rattle.cx_numbering.specs.NameRules.{tell_if, named, duplicates, component_duplicates, primitive_named, main_breaks, standing, statements_in, assign_breaks, form_breaks, kind_breaks, external_breaks, port_breaks, component_kinds, some_part, leads_back, recursive_breaks, cell_breaks, main_static, component_breaks, import_breaks, name_breaks}
use Rattle.cx_rewritten.proofs.BareNames.{each_way, component_names-bare, groups_in-bare, bare_of, cell_of-bare}
use Rattle.cx_rewritten.proofs.BareItems.{bare_break, told, joined, bare_standing, bare_visited, repeats, standing-bare, statements_in-bare}
use Rattle.cx_rewritten.proofs.BareRules.{assign_breaks-bare, form_breaks-bare, kind_breaks-bare, external_breaks-bare, port_breaks-bare}

module _ (tree : ast.PlainTree) where
  -- CIRCLES of components
  component_kinds-bare : (part : ast.PlainComponent) → map bare_component (component_kinds tree part) ≡ component_kinds (without_places tree) (bare_component part)
  component_kinds-bare part = each_way (λ cell. kinds (cell_of tree cell)) bare_component bare_cell (λ cell. kinds (cell_of (without_places tree) cell)) of_cell part.cells
    where
      kinds : CellOf → List ast.PlainComponent
      kinds Neither = []
      kinds (APrimitive primitive) = []
      kinds (AComponent component) = component ∷ []

      by : (x : CellOf) → map bare_component (kinds x) ≡ kinds (bare_of x)
      by Neither = refl
      by (APrimitive primitive) = refl
      by (AComponent component) = refl

      of_cell : (cell : ast.PlainCell) → map bare_component (kinds (cell_of tree cell)) ≡ kinds (cell_of (without_places tree) (bare_cell cell))
      of_cell cell = by (cell_of tree cell) ∙ ap kinds (sym (cell_of-bare tree cell))

  some_part-bare : (old new : ast.PlainComponent → Bool) → ((part : ast.PlainComponent) → old part ≡ new (bare_component part)) → (parts : List ast.PlainComponent) → some_part old parts ≡ some_part new (map bare_component parts)
  some_part-bare old new e [] = refl
  some_part-bare old new e (part ∷ rest) = ap (λ b. b || some_part old rest) (e part) ∙ ap (λ b. new (bare_component part) || b) (some_part-bare old new e rest)

  leads_back-bare : (name : List ℕ) (n : ℕ) (part : ast.PlainComponent) → leads_back tree name n part ≡ leads_back (without_places tree) name n (bare_component part)
  leads_back-bare name zero part = refl
  leads_back-bare name (suc n) part =
      ap (λ b. same_name part.name name || b)
      (some_part-bare (leads_back tree name n) (leads_back (without_places tree) name n) (leads_back-bare name n) (component_kinds tree part)
      ∙ ap (some_part (leads_back (without_places tree) name n)) (component_kinds-bare part))

  recursive_breaks-bare : (part : ast.PlainComponent) (cell : ast.PlainCell) → map bare_break (recursive_breaks tree part cell) ≡ recursive_breaks (without_places tree) (bare_component part) (bare_cell cell)
  recursive_breaks-bare part cell = by (cell_of tree cell) ∙ ap after (sym (cell_of-bare tree cell))
    where
      before : CellOf → List Diagnostic
      before Neither = []
      before (APrimitive primitive) = []
      before (AComponent component) = tell_if (leads_back tree part.name (length tree.components) component) Recursive cell.place cell.name

      after : CellOf → List Diagnostic
      after Neither = []
      after (APrimitive primitive) = []
      after (AComponent component) = tell_if (leads_back (without_places tree) part.name (length (map bare_component tree.components)) component) Recursive start cell.name

      by : (x : CellOf) → map bare_break (before x) ≡ after (bare_of x)
      by Neither = refl
      by (APrimitive primitive) = refl
      by (AComponent component) =
          told (leads_back tree part.name (length tree.components) component) _ Recursive cell.place cell.name
          (leads_back-bare part.name (length tree.components) component
          ∙ ap (λ n. leads_back (without_places tree) part.name n (bare_component component)) (sym (length-map bare_component tree.components)))

  cell_breaks-bare : (part : ast.PlainComponent) (cell : ast.PlainCell) → map bare_break (cell_breaks tree part cell) ≡ cell_breaks (without_places tree) (bare_component part) (bare_cell cell)
  cell_breaks-bare part cell =
      joined (kind_breaks tree part cell (cell_of tree cell) ++ external_breaks tree part cell) (recursive_breaks tree part cell) _ _
      (joined (kind_breaks tree part cell (cell_of tree cell)) (external_breaks tree part cell) _ _
      (kind_breaks-bare tree part cell (cell_of tree cell) ∙ ap (kind_breaks (without_places tree) (bare_component part) (bare_cell cell)) (sym (cell_of-bare tree cell)))
      (external_breaks-bare tree part cell))
      (recursive_breaks-bare part cell)

  component_duplicates-bare : (part : ast.PlainComponent) → map bare_break (component_duplicates part) ≡ component_duplicates (bare_component part)
  component_duplicates-bare part =
      let ports : map bare_break (duplicates [] (map (λ p. named p.name p.place) (part.inputs ++ part.outputs))) ≡ duplicates [] (map (λ p. named p.name p.place) (map bare_port part.inputs ++ map bare_port part.outputs)) =
      repeats bare_port (λ p. named p.name p.place) (λ p. refl) (part.inputs ++ part.outputs) ∙ ap (λ ps. duplicates [] (map (λ p. named p.name p.place) ps)) (map-append bare_port part.inputs part.outputs) in
      let groups : map bare_break (duplicates [] (map (λ g. named g.name g.place) (groups_in part.wires))) ≡ duplicates [] (map (λ g. named g.name g.place) (groups_in (map bare_wire part.wires))) =
      repeats bare_group (λ g. named g.name g.place) (λ g. refl) (groups_in part.wires) ∙ ap (λ gs. duplicates [] (map (λ g. named g.name g.place) gs)) (sym (groups_in-bare part.wires)) in
      let cells : map bare_break (duplicates [] (map (λ c. named c.name c.place) part.cells)) ≡ duplicates [] (map (λ c. named c.name c.place) (map bare_cell part.cells)) = repeats bare_cell (λ c. named c.name c.place) (λ c. refl) part.cells in
      joined (duplicates [] (map (λ p. named p.name p.place) (part.inputs ++ part.outputs)) ++ duplicates [] (map (λ c. named c.name c.place) part.cells)) (duplicates [] (map (λ g. named g.name g.place) (groups_in part.wires))) _ _
      (joined (duplicates [] (map (λ p. named p.name p.place) (part.inputs ++ part.outputs))) (duplicates [] (map (λ c. named c.name c.place) part.cells)) _ _ ports cells) groups

  component_breaks-bare : (part : ast.PlainComponent) → map bare_break (component_breaks tree part) ≡ component_breaks (without_places tree) (bare_component part)
  component_breaks-bare part =
      let one = joined (primitive_named part) (main_static tree part) _ _ (told _ _ Duplicate part.place part.name refl) (told _ _ LeftOut part.place part.name refl) in
      let two = joined (primitive_named part ++ main_static tree part) (component_duplicates part) _ _ one (component_duplicates-bare part) in
      let inputs : map bare_break (flat_map (port_breaks tree part true) part.inputs) ≡ flat_map (port_breaks (without_places tree) (bare_component part) true) (map bare_port part.inputs) =
      each_way (port_breaks tree part true) bare_break bare_port (port_breaks (without_places tree) (bare_component part) true) (port_breaks-bare tree part true) part.inputs in
      let outputs : map bare_break (flat_map (port_breaks tree part false) part.outputs) ≡ flat_map (port_breaks (without_places tree) (bare_component part) false) (map bare_port part.outputs) =
      each_way (port_breaks tree part false) bare_break bare_port (port_breaks (without_places tree) (bare_component part) false) (port_breaks-bare tree part false) part.outputs in
      let cells : map bare_break (flat_map (cell_breaks tree part) part.cells) ≡ flat_map (cell_breaks (without_places tree) (bare_component part)) (map bare_cell part.cells) =
      each_way (cell_breaks tree part) bare_break bare_cell (cell_breaks (without_places tree) (bare_component part)) (cell_breaks-bare part) part.cells in
      let assigns : map bare_break (flat_map (assign_breaks tree part) (standing part)) ≡ flat_map (assign_breaks (without_places tree) (bare_component part)) (standing (bare_component part)) =
      each_way (assign_breaks tree part) bare_break bare_standing (assign_breaks (without_places tree) (bare_component part)) (assign_breaks-bare tree part) (standing part)
      ∙ ap (flat_map (assign_breaks (without_places tree) (bare_component part))) (standing-bare part) in
      let statements : map bare_break (flat_map (λ v. form_breaks tree part v.form v.place) (statements_in part)) ≡ flat_map (λ v. form_breaks (without_places tree) (bare_component part) v.form v.place) (statements_in (bare_component part)) =
      each_way (λ v. form_breaks tree part v.form v.place) bare_break bare_visited (λ v. form_breaks (without_places tree) (bare_component part) v.form v.place) (λ v. form_breaks-bare tree part v.form v.place) (statements_in part)
      ∙ ap (flat_map (λ v. form_breaks (without_places tree) (bare_component part) v.form v.place)) (statements_in-bare part) in
      joined _ _ _ _ (joined _ _ _ _ (joined _ _ _ _ (joined _ _ _ _ (joined _ _ _ _ two inputs) outputs) cells) assigns) statements

  -- ALL BREAKS of a tree
  pub name_breaks-bare : map bare_break (name_breaks tree) ≡ name_breaks (without_places tree)
  name_breaks-bare =
      let first : map bare_break (main_breaks tree) ≡ main_breaks (without_places tree) =
      told (not (is_among (codes "main") (component_names tree))) _ NoMain (record { line = 1; column = 1 }) [] (ap (λ names. not (is_among (codes "main") names)) (sym (component_names-bare tree))) in
      let imports : map bare_break (flat_map import_breaks tree.imports) ≡ flat_map import_breaks (map bare_import tree.imports) =
      each_way import_breaks bare_break bare_import import_breaks (λ i. told _ _ LeftOut i.place i.path refl) tree.imports in
      let names : map bare_break (duplicates [] (map (λ part. named part.name part.place) tree.components)) ≡ duplicates [] (map (λ part. named part.name part.place) (map bare_component tree.components)) =
      repeats bare_component (λ part. named part.name part.place) (λ part. refl) tree.components in
      let parts : map bare_break (flat_map (component_breaks tree) tree.components) ≡ flat_map (component_breaks (without_places tree)) (map bare_component tree.components) =
      each_way (component_breaks tree) bare_break bare_component (component_breaks (without_places tree)) component_breaks-bare tree.components in
      joined _ _ _ _ (joined _ _ _ _ (joined _ _ _ _ first imports) names) parts
