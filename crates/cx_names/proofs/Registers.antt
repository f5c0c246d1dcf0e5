-- The done of a register is an output, so it is a source.
use Rattle.std.proofs.Common.{◌≡◌, ℕ, zero, suc, ◌<◌, Bool, true, false, cond, not, is_some, List, [], ◌∷◌, Option, Some, None, length, map, option_map, slice_get, unwrap_or, codes, refl, sym, ap, ◌∙◌, subst, arith, true≢false}
use Rattle.std.proofs.lemmas.List.{length-map}
use Rattle.std.proofs.lemmas.Option.{slice_get-map, slice_get_within}
use Rattle.cx_text.proofs.MemberLaws.{in_at}
use Rattle.cx_prim.specs.declared.names.PrimitiveName.{PrimitiveName}
use Rattle.cx_prim.specs.declared.names.PrimitiveName.TheVariants as primitives
use Rattle.cx_prim.specs.PortNames.{text_of}
use Rattle.cx_prim.specs.Rows.{Row, is_output_side}
use Rattle.cx_prim.specs.RegisterRow.{register_row}
use Rattle.cx_prim.specs.Widths.{is_width}
use Rattle.cx_prim.specs.Table.{PrimitiveRow, row_at, row_of, no_row, at_width}
use Rattle.cx_ast.specs.declared.operands.OperandForm.{OperandForm}
use Rattle.cx_ast.specs.declared.operands.OperandForm.TheVariants as operands
use Rattle.cx_ast.specs.declared.statements.BindItem.{BindItem}
use Rattle.cx_ast.specs.PlainTree as ast
use Rattle.cx_ast.specs.PlainTree.{PlainTree}
use Rattle.cx_meaning.specs.Designs.{PlainCell, PlainKind, OfPrimitive, OfComponent, PlainDesign, component_at}
use Rattle.cx_meaning.specs.Instances.{OfRow, cell_at, cells_of, add_cell, cells_for, tree_within}
use Rattle.cx_meaning.specs.Rows.{side_of}
use Rattle.cx_text.specs.Members.{In}
use Rattle.cx_rules.specs.Ports.{component_of as instance_of, is_cell_output, is_target_only}
use Rattle.cx_numbering.specs.Names.{cell_names, cell_among, CellOf, Neither, APrimitive, AComponent, cell_of, cell_port_names, found_cell_ports}
use Rattle.cx_numbering.specs.DesignOf.{number_or_0, cell_port, register_of, kind_or, plain_cell_of, component_of, design_of}
use Rattle.cx_numbering.specs.NameRules.{is_reg, found_reg, is_register_in, kind_breaks}
use Rattle.cx_names.proofs.NumberLemmas.{or_0, cell_found}
use Rattle.cx_names.proofs.There.{component_is}
use Rattle.cx_names.proofs.Circles.{KeptCell}
use Rattle.cx_names.proofs.InvokeLemmas.{row_kept}
use Rattle.cx_text.proofs.BoolLaws.{and_left}

-- the row's done is an output
abbrev HasDone : Row → Type 0
HasDone row = is_output_side (side_of row (number_or_0 (codes "done") (map (λ port. text_of port.name) row.ports))) ≡ true

register_done : (numbers : List ℕ) → is_some (at_width register_row numbers) ≡ true → HasDone (unwrap_or (at_width register_row numbers) no_row)
register_done [] h = absurd cc
register_done (w ∷ []) h = by (is_width w) h
  where
    by : (b : Bool) → is_some (cond b (Some (register_row w)) None) ≡ true → HasDone (unwrap_or (cond b (Some (register_row w)) None) no_row)
    by true h = refl
    by false h = absurd cc
register_done (w ∷ v ∷ rest) h = absurd cc

row_done : (p : PrimitiveRow) → p.name ≡ primitives.Reg → is_some (row_at p.name p.numbers) ≡ true → HasDone (row_of p)
row_done p name h =
    let whole : p ≡ record { name = primitives.Reg; numbers = p.numbers } = ap (λ n. record { name = n; numbers = p.numbers }) name in
    subst (λ q. HasDone (row_of q)) (sym whole) (register_done p.numbers (subst (λ n. is_some (row_at n p.numbers) ≡ true) name h))

-- what stands at a primitive's cell
row_stands : (d : PlainDesign) (n : ℕ) (cells : List PlainCell) (c : ℕ) (cell : PlainCell) (p : PrimitiveRow) → slice_get cells c ≡ Some cell → cell.kind ≡ OfPrimitive p → cell_at (cells_for (tree_within d n) cells) c ≡ OfRow (row_of p)
row_stands d n [] c cell p h e = absurd cc
row_stands d n (x ∷ xs) zero cell p h e = let same : x ≡ cell = cc in first x.kind (ap (λ (y : PlainCell). y.kind) same ∙ e)
  where
    first : (kind : PlainKind) → kind ≡ OfPrimitive p → cell_at (add_cell (tree_within d n) kind (cells_for (tree_within d n) xs)) zero ≡ OfRow (row_of p)
    first (OfPrimitive q) f = let s : q ≡ p = cc in ap (λ r. OfRow (row_of r)) s
    first (OfComponent j) f = absurd cc
row_stands d n (x ∷ xs) (suc c) cell p h e = next x.kind ∙ row_stands d n xs c cell p h e
  where
    next : (kind : PlainKind) → cell_at (add_cell (tree_within d n) kind (cells_for (tree_within d n) xs)) (suc c) ≡ cell_at (cells_for (tree_within d n) xs) c
    next (OfPrimitive q) = refl
    next (OfComponent j) = refl

reg_name : (tree : PlainTree) (part : ast.PlainComponent) (n : PrimitiveName) (numbers : List ℕ) → is_reg tree part (APrimitive (record { name = n; numbers = numbers })) ≡ true → n ≡ primitives.Reg
reg_name tree part primitives.Reg numbers r = refl
reg_name tree part _ numbers r = absurd cc

module _ (tree : PlainTree) (k : ℕ) (part : ast.PlainComponent) (at : slice_get tree.components k ≡ Some part) where
  primitive_stands : (c : ℕ) (cell : PlainCell) (p : PrimitiveRow) → slice_get (component_of tree part).cells c ≡ Some cell → cell.kind ≡ OfPrimitive p
      → cell_at (cells_of (instance_of (design_of tree) k)) c ≡ OfRow (row_of p)
  primitive_stands c cell p h e =
      let within : k < length tree.components = slice_get_within tree.components k part at in
      let as_many : length (design_of tree).components ≡ length tree.components = length-map tree.components (component_of tree) in
      let is = component_is tree k part at in
      levels (length (design_of tree).components) (omega (arith, within, as_many)) (ap (λ p. slice_get p.cells c) is ∙ h)
    where
      levels : (m : ℕ) → 0 < m → slice_get (component_at (design_of tree) k).cells c ≡ Some cell → cell_at (cells_of (tree_within (design_of tree) m k)) c ≡ OfRow (row_of p)
      levels zero few h = absurd (omega (arith, few))
      levels (suc n) few h = row_stands (design_of tree) n (component_at (design_of tree) k).cells c cell p h e

  module _ (kept : (cell : ast.PlainCell) → In part.cells cell → KeptCell tree part cell) where
    abbrev IsNoTarget : List ℕ → Type 0
    IsNoTarget cell = is_target_only (instance_of (design_of tree) k) (cell_port tree part cell (codes "done")) ≡ false

    found_source : (cell : List ℕ) (c : ast.PlainCell) → cell_among cell part.cells ≡ Some c → (of : CellOf) → cell_of tree c ≡ of → is_reg tree part of ≡ true → kind_breaks tree part c of ≡ [] → IsNoTarget cell
    found_source cell c e Neither f r h = absurd (true≢false (sym r))
    found_source cell c e (AComponent comp) f r h = absurd (true≢false (sym r))
    found_source cell c e (APrimitive p) f r h =
        let found = cell_found cell part.cells c e in
        let number : number_or_0 cell (cell_names part) ≡ found.number = or_0 cell (cell_names part) found.number found.is in
        let stands : slice_get (component_of tree part).cells found.number ≡ Some (plain_cell_of tree part c) = slice_get-map (plain_cell_of tree part) part.cells found.number ∙ ap (λ o. option_map (plain_cell_of tree part) o) found.at in
        let row = primitive_stands found.number (plain_cell_of tree part c) p stands (ap (λ o. kind_or tree part o) f) in
        let port = number_or_0 (codes "done") (found_cell_ports tree (cell_among cell part.cells)) in
        let names : found_cell_ports tree (cell_among cell part.cells) ≡ cell_port_names (APrimitive p) = ap (λ o. found_cell_ports tree o) e ∙ ap cell_port_names f in
        ap (λ n. not (is_cell_output (cell_at (cells_of (instance_of (design_of tree) k)) n) port)) number
        ∙ ap (λ a. not (is_cell_output a port)) row
        ∙ ap (λ ns. not (is_output_side (side_of (row_of p) (number_or_0 (codes "done") ns)))) names
        ∙ ap not (row_done p (reg_name tree part p.name p.numbers r) (row_kept tree part c p h))

    form_source : (cell port : List ℕ) → is_register_in tree part (operands.Port cell port) ≡ true → IsNoTarget cell
    form_source cell port h = by (cell_among cell part.cells) refl (and_left (found_reg tree part (cell_among cell part.cells)) _ h)
      where
        by : (o : Option ast.PlainCell) → cell_among cell part.cells ≡ o → found_reg tree part o ≡ true → IsNoTarget cell
        by None e r = absurd (true≢false (sym r))
        by (Some c) e r = let found = cell_found cell part.cells c e in found_source cell c e (cell_of tree c) refl r (kept c (in_at part.cells found.number c found.at)).kind

    -- the done of the register of an output
    pub register_source : (b : BindItem) → is_register_in tree part b.value.form ≡ true → IsNoTarget (register_of tree part b)
    register_source b h = by b.value.form h
      where
        by : (f : OperandForm) → is_register_in tree part f ≡ true → IsNoTarget (register_of tree part (record { name = b.name; value = record { form = f; place = b.value.place }; place = b.place }))
        by (operands.Own name) r = absurd (true≢false (sym r))
        by (operands.Hole group hole) r = absurd (true≢false (sym r))
        by (operands.Literal width value) r = absurd (true≢false (sym r))
        by (operands.Port cell port) r = form_source cell port r
