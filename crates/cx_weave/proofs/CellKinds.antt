-- What stands at a cell of an instance, by the cell's kind.
use Rattle.std.proofs.Common.{◌≡◌, ℕ, zero, suc, ◌<◌, ◌^◌, List, [], ◌∷◌, length, get_or, map, refl, sym, ap, ◌∙◌, subst, arith}
use Rattle.std.proofs.lemmas.List.{length-map, get_or-map}
use Rattle.cx_prim.specs.Table.{row_of}
use Rattle.cx_meaning.specs.Designs.{PlainCell, PlainComponent, PlainDesign, component_at}
use Rattle.cx_meaning.specs.Instances.{Instance, OfRow, OfInstance, cells_for, Path, cell_at, cells_of, part_of, instance_at, paths_of, tree_of}
use Rattle.cx_rules.specs.Wellformed.{IsDesign}
use Rattle.cx_design.specs.declared.cells.Cell.{Cell}
use Rattle.cx_design.specs.declared.cells.CellKind.{CellKind}
use Rattle.cx_design.specs.declared.cells.CellKind.TheVariants.{Prim, Part}
use Rattle.cx_design.specs.declared.components.Component.{Component}
use Rattle.cx_design.specs.PlainForms.{plain_cell, plain_component, plain_kind}
use Rattle.cx_state.specs.declared.tables.InstanceRow.{InstanceRow}
use Rattle.cx_state.specs.Tables.{IsNumber, IsTable, row_at}
use Rattle.cx_turns.specs.Children.{IsPart}
use Rattle.cx_turns.specs.Islands.{HasPart}
use Rattle.cx_turns.proofs.HoldLemmas.{own_part}
use Rattle.cx_meaning.proofs.InstancesLemmas.{kind_skip, some_cells, at_kind, first_at}
use Rattle.cx_rules.proofs.SizesLemmas.{few}
use Rattle.cx_text.proofs.ListLaws.{there_below}

cell_kind : (trees : ℕ → Instance) (cells : List PlainCell) (c : ℕ) (x : PlainCell) → c < length cells → cell_at (cells_for trees cells) c ≡ at_kind trees (get_or cells c x).kind
cell_kind trees [] c x lt = absurd (let h : c < 0 = lt in omega (arith, h))
cell_kind trees (y ∷ ys) zero x lt = first_at trees y.kind (cells_for trees ys)
cell_kind trees (y ∷ ys) (suc c) x lt = kind_skip trees y.kind (cells_for trees ys) c ∙ cell_kind trees ys c x (let h : suc c < suc (length ys) = lt in omega (arith, h))

module _ (d : PlainDesign) (design : IsDesign d) (table : List InstanceRow) (children : List ℕ) (is_table : IsTable d table children) (n : ℕ) (part : Component) (has : HasPart d n (plain_component part)) where
  -- the cells of an instance are those of its component
  kinds_at : (path : Path) → IsNumber d n path → (c : ℕ) (x : Cell) → c < length part.cells.items → x ≡ get_or part.cells.items c x → (trees : ℕ → Instance) × (cell_at (cells_of (instance_at (tree_of d) path)) c ≡ at_kind trees (plain_kind x.kind))
  kinds_at path number c x lt is =
      let k = (row_at table n).component in
      let within : k < length d.components = is_table.there n (subst (λ m. n < m) (sym is_table.count) (there_below (paths_of (tree_of d)) n path number)) in
      let t = some_cells d (length d.components) k (omega (arith, within)) in
      let mine : map plain_cell part.cells.items ≡ (component_at d k).cells = ap (λ (p : PlainComponent). p.cells) (has path number ∙ own_part d design table children is_table n path number) in (
        t.0,
        ap (λ (i : Instance). cell_at (cells_of i) c) (is_table.component n path number)
            ∙ ap (λ cells. cell_at cells c) t.1
            ∙ ap (λ (xs : List PlainCell). cell_at (cells_for t.0 xs) c) (sym mine)
            ∙ cell_kind t.0 (map plain_cell part.cells.items) c (plain_cell x) (subst (λ m. c < m) (sym (length-map part.cells.items plain_cell)) lt)
            ∙ ap (λ (y : PlainCell). at_kind t.0 y.kind) (get_or-map plain_cell part.cells.items c x (plain_cell x) lt ∙ ap plain_cell (sym is)),
      )

  pub part_is : (c k : ℕ) (x : Cell) → c < length part.cells.items → x ≡ get_or part.cells.items c x → x.kind ≡ Part k → IsPart d n c
  part_is c k x lt is kind path number =
      let r = kinds_at path number c x lt is in
      (r.0 k, r.1 ∙ ap (λ (y : CellKind). at_kind r.0 (plain_kind y)) kind)

  pub other_is : (c : ℕ) (x : Cell) → c < length part.cells.items → x ≡ get_or part.cells.items c x → ((k : ℕ) → x.kind ≡ Part k → ⊥) → (path : Path) (child : Instance) → IsNumber d n path → cell_at (cells_of (instance_at (tree_of d) path)) c ≡ OfInstance child → ⊥
  other_is c x lt is none path child number e =
      let r = kinds_at path number c x lt is in
      by_kind x.kind r.0 none (sym e ∙ r.1)
    where
      by_kind : (kind : CellKind) (trees : ℕ → Instance) → ((k : ℕ) → kind ≡ Part k → ⊥) → OfInstance child ≡ at_kind trees (plain_kind kind) → ⊥
      by_kind (Prim p) trees none f = absurd (let g : OfInstance child ≡ OfRow (row_of p) = f in cc)
      by_kind (Part k) trees none f = none k refl

  -- they are few
  pub few_cells : (path : Path) → IsNumber d n path → length part.cells.items < 2 ^ 32
  few_cells path number =
      let mine : map plain_cell part.cells.items ≡ (component_at d (row_at table n).component).cells = ap (λ (p : PlainComponent). p.cells) (has path number ∙ own_part d design table children is_table n path number) in
      subst (λ m. m < 2 ^ 32) (ap (λ (xs : List PlainCell). length xs) (sym mine) ∙ length-map part.cells.items plain_cell) (let h = few d.components (row_at table n).component in let size = design.few_parts in omega (arith, h, size))

  pub within_cells : (path : Path) → IsNumber d n path → length (part_of (instance_at (tree_of d) path)).cells ≡ length part.cells.items
  within_cells path number = ap (λ (p : PlainComponent). length p.cells) (sym (has path number)) ∙ length-map part.cells.items plain_cell
