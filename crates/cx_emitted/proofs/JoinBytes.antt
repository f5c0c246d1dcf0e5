-- What a component of the net of a design has of bytes, with the modules of its cells: 4,096 for each unit of its size and one more, and
-- 134 for each unit of weight of its cells' components.
use Rattle.std.proofs.Common.{◌≡◌, inl, inr, ℕ, suc, ◌+◌, ◌*◌, ◌<◌, ◌≤◌, Bool, true, false, List, [], ◌∷◌, ◌++◌, length, map, slice_get, refl, ap, arith}
use Rattle.std.specs.Prelude.{codes}
use Rattle.std.proofs.lemmas.List.{length-map, map-append}
use Rattle.cx_text.specs.declared.places.Place.{Place}
use Rattle.cx_prim.specs.declared.names.PrimitiveName.TheVariants.{Timer}
use Rattle.cx_prim.specs.Table.{PrimitiveRow, HasRow, row_of}
use Rattle.cx_meaning.specs.Designs.{PlainKind, OfPrimitive, OfComponent, PlainCell, PlainDesign, component_at}
use Rattle.cx_text.specs.Members.{In}
use Rattle.cx_rules.specs.Sizes.{size_of}
use Rattle.cx_rules.specs.Wellformed.{IsKind, IsExternal, IsCell, IsDesign, is_memory}
use Rattle.cx_net.specs.Nets.{PlainNet}
use Rattle.cx_static.specs.Lowering.{timer_cell, unlowered, lowered_component}
use Rattle.cx_wiring.specs.Reached.{place_in, component_of_kind, components_of}
use Rattle.cx_wiring.specs.Wiring.{kind_in, cell_in}
use Rattle.cx_wiring.proofs.LoweringCounts.{cells_cost, all_timers, statement_adds}
use Rattle.cx_vmods.specs.Modules.{port_of, pieces_of}
use Rattle.cx_emit.specs.Names.{module_name, primitive_name}
use Rattle.cx_emit.specs.Signatures.{signature_at, primitive_module, kind_ports, cell_ports}
use Rattle.cx_emit.specs.Sources.{primitives_of, primitives_in}
use Rattle.cx_emit.proofs.PrimitiveModules.{primitive_owes}
use Rattle.cx_emitted.proofs.TextBytes.{sum_over}
use Rattle.cx_emitted.proofs.ModuleBytes.{sum_over-append, module_bytes}
use Rattle.cx_emitted.proofs.PrimitiveBytes.{primitive_bytes, pieces_cost, timer_pieces_few, memory_pieces_few}
use Rattle.cx_emitted.proofs.ComponentBytes.{kind_bytes, ports_count}
use Rattle.cx_emitted.proofs.CellBytes.{parts_few, timer_ports}
use Rattle.cx_emitted.proofs.NameBytes.{name_bytes, name_most, name_few}

-- CELLS: an instance of 42 bytes and its module's name, with 134 for each port around it; the module of a primitive; and 112 for an external one
abbrev pub kind_cost : PlainDesign → PlainKind → ℕ
kind_cost d (OfPrimitive p) = 42 + (name_bytes p.name + (134 * length (row_of p).ports + (name_bytes p.name + (163 + (40 * length (row_of p).ports + pieces_cost (pieces_of p.name p.numbers))))))
kind_cost d (OfComponent j) = 57 + 134 * (2 + length (component_at d j).inputs + length (component_at d j).outputs)

abbrev pub outside_cost : Bool → ℕ
outside_cost true = 112
outside_cost false = 0

abbrev pub cell_cost : PlainDesign → PlainCell → ℕ
cell_cost d cell = kind_cost d cell.kind + outside_cost cell.external

timer_cost : (d : PlainDesign) (place : Place) (n : ℕ) → cell_cost d (timer_cell place n) ≤ 1362
timer_cost d place n =
    let few : length (row_of (record { name = Timer; numbers = n ∷ [] })).ports ≤ 3 = timer_ports (n ∷ []) in
    let pieces : pieces_cost (pieces_of Timer (n ∷ [])) ≤ 591 = timer_pieces_few (n ∷ []) in
    let name : name_bytes Timer ≡ 22 = refl in
    omega (arith, few, pieces, name)

module _ (d : PlainDesign) (rules : IsDesign d) where
  abbrev own_weight : ℕ → ℕ
  own_weight k = size_of (component_at d k) + 1

  primitive_cost : (p : PrimitiveRow) → HasRow p → (b : Bool) → (b ≡ true → is_memory (row_of p).shape ≡ true) → kind_cost d (OfPrimitive p) + outside_cost b ≤ 4096
  primitive_cost p has true memory =
      let few : length (row_of p).ports ≤ 9 = (primitive_owes [] (codes "x") refl p has).few in
      let pieces : pieces_cost (pieces_of p.name p.numbers) ≤ 2000 = memory_pieces_few p (memory refl) in
      let name : name_bytes p.name ≤ 76 = name_most p.name in
      omega (arith, few, pieces, name)
  primitive_cost p has false memory =
      let parts : 174 * length (row_of p).ports + pieces_cost (pieces_of p.name p.numbers) ≤ 3566 = parts_few p has in
      let name : name_bytes p.name ≤ 76 = name_most p.name in
      omega (arith, parts, name)

  child_cost : (j : ℕ) → kind_cost d (OfComponent j) ≤ 4096 + 134 * own_weight j
  child_cost j = omega arith

  kind_cells : (k : ℕ) (kind : PlainKind) (b : Bool) (names : List ℕ) (cost count : ℕ) → IsKind d kind → (b ≡ true → IsExternal d k kind)
      → cost ≤ 4096 * count + 134 * sum_over own_weight names → kind_cost d kind + outside_cost b + cost ≤ 4096 * suc count + 134 * sum_over own_weight (component_of_kind kind ++ names)
  kind_cells k (OfPrimitive p) b names cost count is external h =
      let own : kind_cost d (OfPrimitive p) + outside_cost b ≤ 4096 = primitive_cost p is.0 b (λ e. (external e).1) in
      omega (arith, h, own)
  kind_cells k (OfComponent j) true names cost count is external h = absurd (external refl)
  kind_cells k (OfComponent j) false names cost count is external h =
      let own : kind_cost d (OfComponent j) ≤ 4096 + 134 * own_weight j = child_cost j in
      omega (arith, h, own)

  cells_cheap : (k : ℕ) (cells : List PlainCell) → ((cell : PlainCell) → In cells cell → IsCell d k cell) → cells_cost (cell_cost d) cells ≤ 4096 * length cells + 134 * sum_over own_weight (components_of cells)
  cells_cheap k [] each = omega arith
  cells_cheap k (c ∷ cells) each =
      let own = each c (inl refl) in
      kind_cells k c.kind c.external (components_of cells) (cells_cost (cell_cost d) cells) (length cells) own.kind own.external (cells_cheap k cells (λ cell i. each cell (inr i)))

  -- with the timers that lowering puts behind
  pub lowered_cheap : (k : ℕ) → k < length d.components → cells_cost (cell_cost d) (lowered_component (component_at d k)).part.cells
      ≤ 4096 * length (component_at d k).cells + 134 * sum_over own_weight (components_of (component_at d k).cells) + 1362 * all_timers (lowered_component (component_at d k)).islands
  lowered_cheap k within =
      let adds = statement_adds (component_at d k) (cell_cost d) 1362 (timer_cost d) (component_at d k).control (unlowered (component_at d k)) in
      let grown : cells_cost (cell_cost d) (lowered_component (component_at d k)).part.cells + 1362 * 0 ≤ cells_cost (cell_cost d) (component_at d k).cells + 1362 * all_timers (lowered_component (component_at d k)).islands = adds.cells in
      let own : cells_cost (cell_cost d) (component_at d k).cells ≤ 4096 * length (component_at d k).cells + 134 * sum_over own_weight (components_of (component_at d k).cells) =
      cells_cheap k (component_at d k).cells (rules.components k within).cells in
      omega (arith, grown, own)

  -- IN THE TEXT of a net in which the components of cells have their signatures
  module _ (net : PlainNet) (places : List ℕ) where
    abbrev pub IsSigned : ℕ → Type 0
    IsSigned j = length (signature_at (slice_get net.components (place_in j places))) ≤ 2 + length (component_at d j).inputs + length (component_at d j).outputs

    abbrev pub outside_sum : List PlainCell → ℕ
    outside_sum [] = 0
    outside_sum (c ∷ cells) = outside_cost c.external + outside_sum cells

    -- those that stand there, with short names; and primitives that have rows
    abbrev pub IsShown : PlainKind → Type 0
    IsShown (OfPrimitive p) = HasRow p
    IsShown (OfComponent j) = IsSigned j × (length (module_name net.main (place_in j places)) ≤ 15)

    kind_written : (kind : PlainKind) → IsShown kind
        → 42 + length (kind_ports net (kind_in places kind)).kind + 134 * length (kind_ports net (kind_in places kind)).ports + sum_over module_bytes (map primitive_module (primitives_of (kind_in places kind))) ≤ kind_cost d kind
    kind_written (OfPrimitive p) has =
        let short : length (primitive_name p) ≤ name_bytes p.name = name_few p has in
        let own : module_bytes (primitive_module p) ≤ length (primitive_name p) + (163 + (40 * length (row_of p).ports + pieces_cost (pieces_of p.name p.numbers))) = primitive_bytes p (primitive_name p) in
        let ports : length (map port_of (row_of p).ports) ≡ length (row_of p).ports = length-map (row_of p).ports port_of in
        omega (arith, short, own, ports)
    kind_written (OfComponent j) shown = let own = shown.0 in let name = shown.1 in omega (arith, own, name)

    pub cells_written : (cells : List PlainCell) → ((cell : PlainCell) → In cells cell → IsShown cell.kind)
        → 42 * length cells + sum_over kind_bytes (map (cell_ports net) (map (cell_in places) cells)) + 134 * sum_over ports_count (map (cell_ports net) (map (cell_in places) cells))
        + sum_over module_bytes (map primitive_module (primitives_in (map (cell_in places) cells))) + outside_sum cells
        ≤ cells_cost (cell_cost d) cells
    cells_written [] shown = omega arith
    cells_written (c ∷ cells) shown =
        let own = kind_written c.kind (shown c (inl refl)) in
        let rest = cells_written cells (λ cell i. shown cell (inr i)) in
        let here : List PrimitiveRow = primitives_of (kind_in places c.kind) in
        let later : List PrimitiveRow = primitives_in (map (cell_in places) cells) in
        let split : sum_over module_bytes (map primitive_module (here ++ later)) ≡ sum_over module_bytes (map primitive_module here ++ map primitive_module later) = ap (sum_over module_bytes) (map-append primitive_module here later) in
        let both : sum_over module_bytes (map primitive_module here ++ map primitive_module later) ≡ sum_over module_bytes (map primitive_module here) + sum_over module_bytes (map primitive_module later) =
        sum_over-append module_bytes (map primitive_module here) (map primitive_module later) in
        omega (arith, own, rest, split, both)
