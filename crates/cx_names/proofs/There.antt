-- What the names in a component's text name in the design: ports that are there.
use Rattle.std.proofs.Common.{◌≡◌, ℕ, zero, suc, ◌+◌, ◌<◌, Bool, true, false, ◌&&◌, is_some, List, [], ◌∷◌, ◌++◌, Option, Some, None, length, map, option_map, slice_get, codes, ◌⊎◌, inl, inr, ⊎_elim, refl, sym, ap, ◌∙◌, subst, arith, true≢false}
use Rattle.std.proofs.lemmas.List.{length-map, length-append}
use Rattle.std.proofs.lemmas.Option.{get_or_from_slice_get, slice_get-map, slice_get_within}
use Rattle.cx_prim.specs.declared.names.PrimitiveName.{PrimitiveName}
use Rattle.cx_prim.specs.PortNames.{text_of}
use Rattle.cx_prim.specs.Table.{row_of}
use Rattle.cx_ast.specs.declared.operands.OperandForm.{OperandForm}
use Rattle.cx_ast.specs.declared.operands.OperandForm.TheVariants as operands
use Rattle.cx_ast.specs.declared.operands.OperandItem.{OperandItem}
use Rattle.cx_ast.specs.PlainTree as ast
use Rattle.cx_ast.specs.PlainTree.{PlainTree}
use Rattle.cx_meaning.specs.declared.ports.PortRef.{PortRef}
use Rattle.cx_meaning.specs.declared.ports.PortRef.TheVariants as ports
use Rattle.cx_meaning.specs.Designs.{PlainCell, PlainKind, OfPrimitive, OfComponent, PlainDesign, component_at, no_component}
use Rattle.cx_meaning.specs.Instances.{Instance, cell_at, cells_of, part_of, add_cell, cells_for, tree_within}
use Rattle.cx_rules.specs.Ports.{component_of as instance_of}
use Rattle.cx_rules.specs.ShapeRules.{is_hole}
use Rattle.cx_rules.specs.Wellformed.{port_count, IsThere}
use Rattle.cx_numbering.specs.Names.{number_of, is_among, is_own_name, signature_ports, port_names, component_names, cell_names, groups_in, group_names, cell_among, component_among, CellOf, Neither, APrimitive, AComponent, cell_of, primitive_of, primitive_or, cell_port_names, found_cell_ports}
use Rattle.cx_numbering.specs.DesignOf.{first, number_or_0, own_port, cell_port, port_of, decl_of, group_of, plain_cell_of, kind_or, component_of, design_of, invoke_groups, control_invokes}
use Rattle.cx_numbering.specs.NameRules as rules
use Rattle.cx_numbering.specs.NameRules.{is_own, is_clock, is_static_end, is_unknown, is_left_out, source_breaks, unknown}
use Rattle.cx_names_scopes.proofs.NameLemmas.{number_within}
use Rattle.cx_names.proofs.Base.{append_none, tell_none}
use Rattle.cx_names.proofs.NumberLemmas.{there, or_0, cell_found, part_found}
use Rattle.cx_meaning.proofs.DesignsLemmas.{same_part}
use Rattle.cx_text.proofs.BoolLaws.{or_either, not_not}
use Rattle.std.proofs.lemmas.Bool.{or_parts}

-- the ports of what a cell is of
abbrev pub kind_ports : PlainDesign → PlainKind → ℕ
kind_ports d (OfPrimitive p) = length (row_of p).ports
kind_ports d (OfComponent j) = 2 + length (component_at d j).inputs + length (component_at d j).outputs

cell_ports_at : (d : PlainDesign) (n : ℕ) (cells : List PlainCell) (c : ℕ) (cell : PlainCell) → slice_get cells c ≡ Some cell → port_count (cell_at (cells_for (tree_within d n) cells) c) ≡ kind_ports d cell.kind
cell_ports_at d n [] c cell h = absurd cc
cell_ports_at d n (x ∷ xs) zero cell h = let same : x ≡ cell = cc in first x.kind ∙ ap (λ y. kind_ports d y.kind) same
  where
    first : (kind : PlainKind) → port_count (cell_at (add_cell (tree_within d n) kind (cells_for (tree_within d n) xs)) zero) ≡ kind_ports d kind
    first (OfPrimitive p) = refl
    first (OfComponent j) = ap (λ p. 2 + length p.inputs + length p.outputs) (same_part d n j)
cell_ports_at d n (x ∷ xs) (suc c) cell h = next x.kind ∙ cell_ports_at d n xs c cell h
  where
    next : (kind : PlainKind) → port_count (cell_at (add_cell (tree_within d n) kind (cells_for (tree_within d n) xs)) (suc c)) ≡ port_count (cell_at (cells_for (tree_within d n) xs) c)
    next (OfPrimitive p) = refl
    next (OfComponent j) = refl

pub of_component : (o : Option PrimitiveName) (numbers : List ℕ) (found : Option ast.PlainComponent) (part : ast.PlainComponent) → primitive_or o numbers found ≡ AComponent part → found ≡ Some part
of_component (Some name) numbers found part h = absurd cc
of_component None numbers None part h = absurd cc
of_component None numbers (Some p) part h = cc

module _ (tree : PlainTree) where
  pub component_is : (k : ℕ) (part : ast.PlainComponent) → slice_get tree.components k ≡ Some part → component_at (design_of tree) k ≡ component_of tree part
  component_is k part h =
      get_or_from_slice_get (map (component_of tree) tree.components) k (component_of tree part) no_component (slice_get-map (component_of tree) tree.components k ∙ ap (λ o. option_map (component_of tree) o) h)

  pub part_is : (k : ℕ) (part : ast.PlainComponent) → slice_get tree.components k ≡ Some part → part_of (instance_of (design_of tree) k) ≡ component_of tree part
  part_is k part h = same_part (design_of tree) (length (design_of tree).components) k ∙ component_is k part h

  pub cell_ports : (k : ℕ) (part : ast.PlainComponent) (c : ℕ) (cell : PlainCell) → slice_get tree.components k ≡ Some part → slice_get (component_of tree part).cells c ≡ Some cell
      → port_count (cell_at (cells_of (instance_of (design_of tree) k)) c) ≡ kind_ports (design_of tree) cell.kind
  cell_ports k part c cell at h =
      let within : k < length tree.components = slice_get_within tree.components k part at in
      let as_many : length (design_of tree).components ≡ length tree.components = length-map tree.components (component_of tree) in
      let is = component_is k part at in
      levels (length (design_of tree).components) (omega (arith, within, as_many)) (ap (λ p. slice_get p.cells c) is ∙ h)
    where
      levels : (m : ℕ) → 0 < m → slice_get (component_at (design_of tree) k).cells c ≡ Some cell → port_count (cell_at (cells_of (tree_within (design_of tree) m k)) c) ≡ kind_ports (design_of tree) cell.kind
      levels zero few h = absurd (omega (arith, few))
      levels (suc n) few h = cell_ports_at (design_of tree) n (component_at (design_of tree) k).cells c cell h

  pub names_of_component : (part : ast.PlainComponent) → 2 + length (component_of tree part).inputs + length (component_of tree part).outputs ≡ length (cell_port_names (AComponent part))
  names_of_component part =
      let ins : length (component_of tree part).inputs ≡ length (port_names part.inputs) = length-map (signature_ports part.inputs) (decl_of tree part) ∙ sym (length-map (signature_ports part.inputs) (λ p. p.name)) in
      let outs : length (component_of tree part).outputs ≡ length (port_names part.outputs) = length-map (signature_ports part.outputs) (decl_of tree part) ∙ sym (length-map (signature_ports part.outputs) (λ p. p.name)) in
      let one : length (port_names part.inputs ++ (port_names part.outputs ++ (codes "done" ∷ []))) ≡ length (port_names part.inputs) + length (port_names part.outputs ++ (codes "done" ∷ [])) = length-append (port_names part.inputs) (port_names part.outputs ++ (codes "done" ∷ [])) in
      let two : length (port_names part.outputs ++ (codes "done" ∷ [])) ≡ length (port_names part.outputs) + 1 = length-append (port_names part.outputs) (codes "done" ∷ []) in
      omega (arith, ins, outs, one, two)

  -- the ports of what a cell is of are as many as their names
  pub counted : (part : ast.PlainComponent) (cell : ast.PlainCell) (port : List ℕ) (of : CellOf) → cell_of tree cell ≡ of → is_among port (cell_port_names of) ≡ true → kind_ports (design_of tree) (kind_or tree part of) ≡ length (cell_port_names of)
  counted part cell port Neither e h = absurd (true≢false (sym h))
  counted part cell port (APrimitive p) e h = sym (length-map (row_of p).ports (λ port. text_of port.name))
  counted part cell port (AComponent comp) e h =
      let found = part_found cell.kind tree.components comp (of_component (primitive_of cell.kind) cell.numbers (component_among cell.kind tree.components) comp e) in
      ap (λ j. kind_ports (design_of tree) (OfComponent j)) (or_0 comp.name (component_names tree) found.number found.is)
      ∙ ap (λ p. 2 + length p.inputs + length p.outputs) (component_is found.number comp found.at)
      ∙ names_of_component comp

module _ (tree : PlainTree) (k : ℕ) (part : ast.PlainComponent) (at : slice_get tree.components k ≡ Some part) where
  abbrev here : Instance
  here = instance_of (design_of tree) k

  pub cell_port_there : (cell port : List ℕ) → is_among port (found_cell_ports tree (cell_among cell part.cells)) ≡ true → IsThere (instance_of (design_of tree) k) (cell_port tree part cell port)
  cell_port_there cell port h = by (cell_among cell part.cells) refl h
    where
      by : (o : Option ast.PlainCell) → cell_among cell part.cells ≡ o → is_among port (found_cell_ports tree o) ≡ true → IsThere (instance_of (design_of tree) k) (cell_port tree part cell port)
      by None e h = absurd (true≢false (sym h))
      by (Some c) e h =
          let found = cell_found cell part.cells c e in
          let name = there port (cell_port_names (cell_of tree c)) h in
          let number : number_or_0 cell (cell_names part) ≡ found.number = or_0 cell (cell_names part) found.number found.is in
          let port_number : number_or_0 port (found_cell_ports tree (cell_among cell part.cells)) ≡ name.0 = ap (λ o. number_or_0 port (found_cell_ports tree o)) e ∙ or_0 port (cell_port_names (cell_of tree c)) name.0 name.1 in
          let cells_is : length (part_of here).cells ≡ length part.cells = ap (λ p. length p.cells) (part_is tree k part at) ∙ length-map part.cells (plain_cell_of tree part) in
          let cell_within : found.number < length part.cells = slice_get_within part.cells found.number c found.at in
          let stands : slice_get (component_of tree part).cells found.number ≡ Some (plain_cell_of tree part c) = slice_get-map (plain_cell_of tree part) part.cells found.number ∙ ap (λ o. option_map (plain_cell_of tree part) o) found.at in
          let count : port_count (cell_at (cells_of here) found.number) ≡ length (cell_port_names (cell_of tree c)) =
          cell_ports tree k part found.number (plain_cell_of tree part c) at stands ∙ counted tree part c port (cell_of tree c) refl h in
          let port_within : name.0 < length (cell_port_names (cell_of tree c)) = number_within port (cell_port_names (cell_of tree c)) name.0 name.1 in
          subst (λ a. IsThere here (ports.Cell a (number_or_0 port (found_cell_ports tree (cell_among cell part.cells))))) (sym number)
          (subst (λ b. IsThere here (ports.Cell found.number b)) (sym port_number) (omega (arith, cells_is, cell_within), omega (arith, count, port_within)))

  inputs_are : length (part_of (instance_of (design_of tree) k)).inputs ≡ length (port_names part.inputs)
  inputs_are = ap (λ p. length p.inputs) (part_is tree k part at) ∙ length-map (signature_ports part.inputs) (decl_of tree part) ∙ sym (length-map (signature_ports part.inputs) (λ p. p.name))

  outputs_are : length (part_of (instance_of (design_of tree) k)).outputs ≡ length (port_names part.outputs)
  outputs_are = ap (λ p. length p.outputs) (part_is tree k part at) ∙ length-map (signature_ports part.outputs) (decl_of tree part) ∙ sym (length-map (signature_ports part.outputs) (λ p. p.name))

  pub groups_are : length (component_of tree part).groups ≡ length (groups_in part.wires) + length (invoke_groups tree part (first tree part) (control_invokes tree part part.control))
  groups_are = length-append (map (group_of tree part) (groups_in part.wires)) (invoke_groups tree part (first tree part) (control_invokes tree part part.control)) ∙ ap (λ n. n + length (invoke_groups tree part (first tree part) (control_invokes tree part part.control))) (length-map (groups_in part.wires) (group_of tree part))

  pub own_port_there : (name : List ℕ) → is_own tree part name ≡ true → IsThere (instance_of (design_of tree) k) (own_port (number_of name (port_names part.inputs)) (number_or_0 name (port_names part.outputs)))
  own_port_there name h = by (number_of name (port_names part.inputs)) refl (or_either (is_among name (port_names part.inputs)) (is_among name (port_names part.outputs)) h)
    where
      by : (o : Option ℕ) → number_of name (port_names part.inputs) ≡ o → (is_among name (port_names part.inputs) ≡ true) ⊎ (is_among name (port_names part.outputs) ≡ true) → IsThere (instance_of (design_of tree) k) (own_port o (number_or_0 name (port_names part.outputs)))
      by (Some n) e s = let few = number_within name (port_names part.inputs) n e in let many = inputs_are in omega (arith, few, many)
      by None e (inl i) = absurd (true≢false (sym i ∙ ap is_some e))
      by None e (inr o) =
          let found = there name (port_names part.outputs) o in
          let few = number_within name (port_names part.outputs) found.0 found.1 in
          let is = or_0 name (port_names part.outputs) found.0 found.1 in
          let many = outputs_are in
          omega (arith, few, is, many)

  pub group_there : (name : List ℕ) → is_among name (group_names part) ≡ true → number_or_0 name (group_names part) < length (part_of (instance_of (design_of tree) k)).groups
  group_there name h =
      let found = there name (group_names part) h in
      let few = number_within name (group_names part) found.0 found.1 in
      let is = or_0 name (group_names part) found.0 found.1 in
      let names : length (group_names part) ≡ length (groups_in part.wires) = length-map (groups_in part.wires) (λ g. g.name) in
      let all : length (part_of (instance_of (design_of tree) k)).groups ≡ length (component_of tree part).groups = ap (λ p. length p.groups) (part_is tree k part at) in
      let many = groups_are in
      omega (arith, few, is, names, all, many)

  -- a target or an operand that is known and not left out
  pub form_there : (form : OperandForm) → is_unknown tree part form ≡ false → is_left_out tree part form ≡ false → IsThere (instance_of (design_of tree) k) (port_of tree part form)
  form_there (operands.Own name) known kept = own_port_there name (⊎_elim (λ i. i) (λ o. absurd (true≢false (sym o ∙ kept))) (or_either (is_own tree part name) (is_own_name name) (not_not _ known)))
  form_there (operands.Port cell port) known kept =
      cell_port_there cell port (⊎_elim (λ i. i) (λ o. absurd (true≢false (sym o ∙ (or_parts (is_clock tree part cell port) (is_static_end tree part cell port) kept).0))) (or_either (is_among port (found_cell_ports tree (cell_among cell part.cells))) (is_clock tree part cell port) (not_not _ known)))
  form_there (operands.Hole group hole) known kept = group_there group (and_left (is_among group (group_names part)) _ (not_not _ known))
    where
      and_left : (a b : Bool) → (a && b) ≡ true → a ≡ true
      and_left true b h = refl
      and_left false b h = absurd (true≢false (sym h))
  form_there (operands.Literal width value) known kept = tt

  pub no_hole : (form : OperandForm) → rules.is_hole tree part form ≡ false → is_hole (port_of tree part form) ≡ false
  no_hole (operands.Own name) h = by (number_of name (port_names part.inputs))
    where
      by : (o : Option ℕ) → is_hole (own_port o (number_or_0 name (port_names part.outputs))) ≡ false
      by None = refl
      by (Some n) = refl
  no_hole (operands.Port cell port) h = refl
  no_hole (operands.Hole group hole) h = absurd (true≢false h)
  no_hole (operands.Literal width value) h = refl

  -- a source
  pub record IsSource (p : PortRef) : Type 0 where
    pub there : IsThere (instance_of (design_of tree) k) p
    pub no_hole : is_hole p ≡ false

  pub source_there : (o : OperandItem) → source_breaks tree part o ≡ [] → IsSource (port_of tree part o.form)
  source_there o h =
      let parts = append_none (unknown tree part o) _ h in
      let two = or_parts (is_left_out tree part o.form) (rules.is_hole tree part o.form) (tell_none _ _ _ _ parts.1) in
      record { there = form_there o.form (tell_none _ _ _ _ parts.0) two.0; no_hole = no_hole o.form two.1 }
