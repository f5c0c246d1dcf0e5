-- CELLS OF THE FLAT DESIGN: their numbers keep their rows, their components are there, and an external one is a memory of main.
use Rattle.std.proofs.Common.{◌≡◌, ◌≢◌, ℕ, zero, suc, ◌<◌, inl, inr, ⊎_elim, Bool, true, false, List, [], ◌∷◌, ◌++◌, length, map, Some, None, IsSome, refl, sym, ap, ◌∙◌, subst}
use Rattle.std.specs.Prelude.{◌&&◌, nat_le, if◌then◌else◌}
use Rattle.std.proofs.lemmas.Bool.{le-leb}
use Rattle.cx_text.proofs.MemberLaws.{image_in, in_either}
use Rattle.cx_prim.specs.Table.{PrimitiveRow, HasRow}
use Rattle.cx_prim.specs.Widths.{is_width}
use Rattle.cx_prim.specs.declared.names.PrimitiveName.TheVariants as primitives
use Rattle.cx_meaning.specs.Designs.{PlainKind, OfPrimitive, OfComponent, PlainCell, PlainComponent, PlainDesign, component_at}
use Rattle.cx_meaning.specs.Instances.{Instance, add_cell, cells_for, tree_within}
use Rattle.cx_text.specs.Members.{In}
use Rattle.cx_meaning.proofs.DesignsLemmas.{same_part}
use Rattle.cx_rules.specs.Wellformed.{IsKind, IsExternal, IsCell, IsDesign}
use Rattle.cx_flattening.specs.Whole.{is_static}
use Rattle.cx_flattening.specs.Embedded.{wire_row}
use Rattle.cx_flattening.specs.Flattened.{Kids, kid_if, kept, block, blocks, inner_cell, wire_of, flat_kids, flat_part}
use Rattle.cx_flattening.specs.FlatDesign.{flat_of, reached_below, renumbered_kind, renumbered_cell, flat_design}
use Rattle.cx_flattening.proofs.FlatComponents.{kept_from, also_reached}
use Rattle.cx_flattening.proofs.FlatNumbers.{IsMade, made}
use Rattle.cx_flattening.proofs.LevelSights.{flat-outputs}
use Rattle.cx_flattening.proofs.Reached.{flat_there}
use Rattle.cx_flattening.proofs.TreeLevels.{child_there}

-- A BLOCK is that of a cell of a component
record IsOfBlock (trees : ℕ → Instance) (cs : List PlainCell) (cell : PlainCell) : Type 0 where
  caller : PlainCell
  component : ℕ
  among : In cs caller
  kind : caller.kind ≡ OfComponent component
  stands : In (block (Some (flat_part (trees component))) caller) cell

further : (trees : ℕ → Instance) (c : PlainCell) (cs : List PlainCell) (cell : PlainCell) → IsOfBlock trees cs cell → IsOfBlock trees (c ∷ cs) cell
further trees c cs cell h = record { caller = h.caller; component = h.component; among = inr h.among; kind = h.kind; stands = h.stands }

blocks_of : (trees : ℕ → Instance) (cs : List PlainCell) (cell : PlainCell) → In (blocks (flat_kids (cells_for trees cs)) cs) cell → IsOfBlock trees cs cell
blocks_of trees [] cell i = absurd i
blocks_of trees (c ∷ cs) cell i = by c.kind refl i (λ j. further trees c cs cell (blocks_of trees cs cell j))
  where
    of_child : (y : ℕ) → c.kind ≡ OfComponent y → (b : Bool) → In (block (kid_if b (flat_part (trees y))) c ++ blocks (flat_kids (cells_for trees cs)) cs) cell
        → (In (blocks (flat_kids (cells_for trees cs)) cs) cell → IsOfBlock trees (c ∷ cs) cell) → IsOfBlock trees (c ∷ cs) cell
    of_child y is true j later =
        ⊎_elim (λ l. record { caller = c; component = y; among = inl refl; kind = is; stands = l }) later (in_either (block (Some (flat_part (trees y))) c) (blocks (flat_kids (cells_for trees cs)) cs) cell j)
    of_child y is false j later = later j

    by : (kind : PlainKind) → c.kind ≡ kind → In (blocks (flat_kids (add_cell trees kind (cells_for trees cs))) (c ∷ cs)) cell
        → (In (blocks (flat_kids (cells_for trees cs)) cs) cell → IsOfBlock trees (c ∷ cs) cell) → IsOfBlock trees (c ∷ cs) cell
    by (OfPrimitive p) is j later = later j
    by (OfComponent y) is j later = of_child y is (is_static (trees y)) j later

-- A CELL OF A FLAT COMPONENT
abbrev HasKind : PlainKind → Type 0
HasKind kind = (p : PrimitiveRow) → kind ≡ OfPrimitive p → HasRow p × (p.name ≢ primitives.Timer)

record IsFlatCell (d : PlainDesign) (k : ℕ) (cell : PlainCell) : Type 0 where
  kind : HasKind cell.kind
  external : cell.external ≡ true → IsExternal d k cell.kind

own_kind : (d : PlainDesign) (kind : PlainKind) → IsKind d kind → HasKind kind
own_kind d kind h p e = subst (IsKind d) e h

own_cell : (d : PlainDesign) (k : ℕ) (cell : PlainCell) → IsCell d k cell → IsFlatCell d k cell
own_cell d k cell h = record { kind = own_kind d cell.kind h.kind; external = h.external }

false_true : {A : Type 0} → false ≡ true → A
false_true e = absurd (cc)

wire_row_there : (w : ℕ) → is_width w ≡ true → IsSome (if is_width w then Some (wire_row w) else None)
wire_row_there w e = subst (λ b. IsSome (if b then Some (wire_row w) else None)) (sym e) refl

wire_kind : (w : ℕ) → is_width w ≡ true → HasKind (OfPrimitive (record { name = primitives.Wire; numbers = w ∷ [] }))
wire_kind w e p same =
    let is : record { name = primitives.Wire; numbers = w ∷ [] } ≡ p = cc in
    subst (λ (x : PrimitiveRow). HasRow x × (x.name ≢ primitives.Timer)) is (wire_row_there w e, λ (clash : primitives.Wire ≡ primitives.Timer). cc)

module _ (d : PlainDesign) (design : IsDesign d) where
  flat_cell : (m k : ℕ) → k < length d.components → (cell : PlainCell) → In (flat_part (tree_within d m k)).cells cell → IsFlatCell d k cell
  flat_cell zero k less cell i = ⊎_elim (λ j. own_cell d k cell ((design.components k less).cells cell j)) (λ j. absurd j) (in_either (component_at d k).cells [] cell i)
  flat_cell (suc m) k less cell i =
      ⊎_elim
      (λ j. own_cell d k cell ((design.components k less).cells cell (kept_from kids cs cell j)))
      (λ j. of_block (λ y there inner l. flat_cell m y there inner l) (blocks_of (tree_within d m) cs cell j))
      (in_either (kept kids cs) (blocks kids cs) cell i)
    where
      cs : List PlainCell
      cs = (component_at d k).cells

      kids : Kids
      kids = flat_kids (cells_for (tree_within d m) cs)

      of_block : ((y : ℕ) → y < length d.components → (inner : PlainCell) → In (flat_part (tree_within d m y)).cells inner → IsFlatCell d y inner) → IsOfBlock (tree_within d m) cs cell → IsFlatCell d k cell
      of_block below h = ⊎_elim of_inner of_wire (in_either (map (inner_cell h.caller) kid.cells) (map (wire_of h.caller) kid.outputs) cell h.stands)
        where
          kid : PlainComponent
          kid = flat_part (tree_within d m h.component)

          there : h.component < length d.components
          there = child_there d design k h.component h.caller less h.among h.kind

          of_inner : In (map (inner_cell h.caller) kid.cells) cell → IsFlatCell d k cell
          of_inner j =
              let r = image_in (inner_cell h.caller) kid.cells cell j in
              subst (IsFlatCell d k) r.2 (record { kind = (below h.component there r.0 r.1).kind; external = false_true })

          of_wire : In (map (wire_of h.caller) kid.outputs) cell → IsFlatCell d k cell
          of_wire j =
              let r = image_in (wire_of h.caller) kid.outputs cell j in
              let port = (design.components h.component there).outputs r.0 (subst (λ l. In l r.0) (flat-outputs (tree_within d m h.component) ∙ ap (λ (p : PlainComponent). p.outputs) (same_part d m h.component)) r.1) in
              let fits : is_width r.0.width ≡ true = ap (λ b. b && nat_le r.0.width 128) (le-leb 1 r.0.width port.some_bits) ∙ le-leb r.0.width 128 port.few_bits in
              subst (IsFlatCell d k) r.2 (record { kind = wire_kind r.0.width fits; external = false_true })

  -- IN THE FLAT DESIGN
  module _ (n : ℕ) (there : n < length (flat_design d).components) where
    m : IsMade d n
    m = made d design n there

    new_kind : (cell : PlainCell) → In (flat_of d m.old).cells cell → (kind : PlainKind) → cell.kind ≡ kind → HasKind kind → IsKind (flat_design d) (renumbered_kind d kind)
    new_kind cell i (OfPrimitive p) is h = h p refl
    new_kind cell i (OfComponent y) is h = let r = also_reached d design m.old y m.reached (cell, i, is) in flat_there d y r.0 r.1

    new_external : (kind : PlainKind) → IsExternal d m.old kind → IsExternal (flat_design d) n (renumbered_kind d kind)
    new_external (OfPrimitive p) h = (sym m.number ∙ ap (reached_below d) h.0, h.1, h.2)
    new_external (OfComponent y) h = h

    pub flat_cells_keep : (cell : PlainCell) → In (component_at (flat_design d) n).cells cell → IsCell (flat_design d) n cell
    flat_cells_keep cell i =
        let r = image_in (renumbered_cell d) (flat_of d m.old).cells cell (subst (λ (p : PlainComponent). In p.cells cell) m.part i) in
        let h = flat_cell (length d.components) m.old m.less r.0 r.1 in
        subst (IsCell (flat_design d) n) r.2 (record { kind = new_kind r.0 r.1 r.0.kind refl h.kind; external = λ e. new_external r.0.kind (h.external e) })
