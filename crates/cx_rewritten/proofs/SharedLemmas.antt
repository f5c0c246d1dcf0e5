-- THE SHARED TREE keeps the order of its tree, and the lines before it are comments.
use Rattle.std.proofs.Common.{◌≡◌, ℕ, zero, suc, Bool, true, false, List, [], ◌∷◌, ◌++◌, codes, length, map, flat_map, option_map, refl, sym, ap, ◌∙◌, subst, if◌then◌else◌, append_assoc}
use Rattle.std.specs.List.{AllByRecursion, list_all}
use Rattle.cx_ast.specs.PlainTree as ast
use Rattle.cx_lex.specs.Bytes.{is_in_line}
use Rattle.cx_meaning.specs.Designs.{PlainCell, PlainComponent}
use Rattle.cx_rules.specs.Ports.{cell_name}
use Rattle.cx_numbering.specs.DesignOf.{plain_cell_of, component_of, design_of}
use Rattle.cx_print.proofs.FileGiven.{tree_of_text}
use Rattle.cx_print.specs.Printable.{IsName, IsCell, IsComponent, IsPrintable}
use Rattle.cx_sharing.specs.declared.rows.SharedRow.{SharedRow}
use Rattle.cx_sharing.specs.Giving.{keeper, stays}
use Rattle.cx_sharing.specs.SharedTree.{kept_name, shared_component, shared_components, shared_tree}
use Rattle.cx_sharing.specs.SharedRows.{row_of, rows_from, rows_of, shared_rows}
use Rattle.cx_rewritten.proofs.PrintableShared.{printable-shared}
use Rattle.cx_copies.specs.Naming.{named_block}
use Rattle.cx_rewritten.specs.Ordered.{wire_places, invoke_places, places_in, AreOf, StandAs, KeepsOrder}
use Rattle.cx_rewritten.specs.Comments.{AreComments}
use Rattle.cx_rewritten.specs.Written.{IsReadAs}
use Rattle.cx_rewritten.proofs.ReadLemmas.{written_read}
use Rattle.cx_rewritten.specs.Sources.{IsTreeOfText}
use Rattle.cx_rewritten.specs.SharedTexts.{row_line, lines, IsSharedText}
use Rattle.cx_rewritten.proofs.LineLemmas.{word_in_line, joined_in_line, IsComment, comments_of, all_joined}
use Rattle.cx_rewritten.proofs.OrderLemmas.{all_of, stand_themselves}
use Rattle.cx_rewritten.proofs.NamedOrder.{wires-named, control-named}

-- ORDER
part_order : (part : PlainComponent) (item : ast.PlainComponent) → places_in (shared_component part item) ≡ places_in item
part_order part item =
    ap (λ ps. ps ++ invoke_places (option_map (named_block (kept_name part)) item.control)) (wires-named (kept_name part) item.wires)
    ∙ ap (λ ps. flat_map wire_places item.wires ++ ps) (control-named (kept_name part) item.control)

stand_as : (parts : List PlainComponent) (items : List ast.PlainComponent) → StandAs (shared_components parts items) items
stand_as parts [] = tt
stand_as [] (item ∷ items) = (all_of (places_in item), stand_themselves items)
stand_as (part ∷ parts) (item ∷ items) = (subst (λ ps. AreOf ps (places_in item)) (sym (part_order part item)) (all_of (places_in item)), stand_as parts items)

pub shared_keeps_order : (tree : ast.PlainTree) → KeepsOrder tree (shared_tree tree)
shared_keeps_order tree = stand_as (design_of tree).components tree.components

-- NAMES of cells
abbrev Named : List PlainCell → Type 0
Named cells = AllByRecursion (λ (cell : PlainCell). IsName cell.name) cells

cells_named : (tree : ast.PlainTree) (item : ast.PlainComponent) → AllByRecursion IsCell item.cells → Named (component_of tree item).cells
cells_named tree item h = by item.cells h
  where
    by : (cells : List ast.PlainCell) → AllByRecursion IsCell cells → Named (map (plain_cell_of tree item) cells)
    by [] k = tt
    by (cell ∷ cells) k = (k.0.1, by cells k.1)

-- COMMENTS: no name ends a line
-- the words of a row stand on one line
abbrev InLine : SharedRow → Type 0
InLine row = (list_all is_in_line row.component ≡ true) × (list_all is_in_line row.cell ≡ true) × (list_all is_in_line row.kept ≡ true)

cell_in_line : (cells : List PlainCell) (c : ℕ) → Named cells → list_all is_in_line (cell_name cells c) ≡ true
cell_in_line [] c h = refl
cell_in_line (cell ∷ cells) zero h = word_in_line cell.name h.0.0
cell_in_line (cell ∷ cells) (suc c) h = cell_in_line cells c h.1

rows_in_line : (part : PlainComponent) → IsName part.name → Named part.cells → (c more : ℕ) → AllByRecursion InLine (rows_from part c more)
rows_in_line part name h c zero = tt
rows_in_line part name h c (suc more) = by (stays part c) (rows_in_line part name h (suc c) more)
  where
    by : (t : Bool) → AllByRecursion InLine (rows_from part (suc c) more) → AllByRecursion InLine (if t then rows_from part (suc c) more else row_of part c ∷ rows_from part (suc c) more)
    by true k = k
    by false k = ((word_in_line part.name name.0, cell_in_line part.cells c h, cell_in_line part.cells (keeper part c) h), k)

row_is_comment : (row : SharedRow) → InLine row → IsComment (row_line row)
row_is_comment row h = record {
  body = codes " shared" ++ (32 ∷ row.component) ++ (32 ∷ row.cell) ++ (32 ∷ row.kept);
  in_line =
      joined_in_line (codes " shared" ++ (32 ∷ row.component) ++ (32 ∷ row.cell)) (32 ∷ row.kept)
      (joined_in_line (codes " shared" ++ (32 ∷ row.component)) (32 ∷ row.cell) (joined_in_line (codes " shared") (32 ∷ row.component) refl h.0) h.1) h.2;
  is = simp append_assoc;
}

parts_in_line : (tree : ast.PlainTree) (items : List ast.PlainComponent) → AllByRecursion IsComponent items → AllByRecursion InLine (flat_map rows_of (map (component_of tree) items))
parts_in_line tree [] h = tt
parts_in_line tree (item ∷ items) h =
    all_joined InLine (rows_of (component_of tree item)) (flat_map rows_of (map (component_of tree) items))
    (rows_in_line (component_of tree item) h.0.name (cells_named tree item h.0.cells) 0 (length (component_of tree item).cells)) (parts_in_line tree items h.1)

pub lines_are_comments : (tree : ast.PlainTree) → IsPrintable tree → AreComments (lines (shared_rows tree))
lines_are_comments tree h = comments_of row_line InLine row_is_comment (shared_rows tree) (parts_in_line tree tree.components h.components)

-- WHAT IS WRITTEN is read as the shared tree
pub shared_read : (tree : ast.PlainTree) (written : List ℕ) → IsTreeOfText tree → IsSharedText tree written → IsReadAs (shared_tree tree) written
shared_read tree written s w =
    let printable = tree_of_text s.0 s.1 tree s.2 s.3 in
    written_read s.0 written s.1 tree (shared_tree tree) s.2 s.3 (shared_keeps_order tree) (printable-shared tree printable)
    (record { comments = lines (shared_rows tree); are = lines_are_comments tree printable; printed = w })
