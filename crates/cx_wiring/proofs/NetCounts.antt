-- The nets and instances of the text of a design's net: 64 nets and two instances for each unit of the design's weight at most, and the
-- words of the design's memories.
use Rattle.std.proofs.Common.{◌≡◌, inl, inr, ⊎_elim, ℕ, zero, suc, ◌+◌, ◌*◌, ◌<◌, ◌≤◌, Bool, true, false, List, [], ◌∷◌, ◌++◌, length, Some, None, refl, ap, sym, subst, arith, zero-mul}
use Rattle.std.specs.Prelude.{◌^◌, ◌&&◌, nat_le, nat_lt, unwrap_or, if◌then◌else◌}
use Rattle.std.proofs.lemmas.Bool.{cases_lt}
use Rattle.cx_text.specs.declared.limits.TheConstants.{WEIGHT, MEMORY_WORDS}
use Rattle.cx_text.specs.declared.rules.Rule.TheVariants as told
use Rattle.cx_prim.specs.declared.names.PrimitiveName.TheVariants as primitives
use Rattle.cx_prim.specs.Rows.{Row}
use Rattle.cx_prim.specs.PipeRows.{timer_row}
use Rattle.cx_prim.specs.Table.{no_row, row_of}
use Rattle.cx_meaning.specs.Designs.{PlainKind, OfPrimitive, OfComponent, PlainCell, PlainComponent, PlainDesign, component_at}
use Rattle.cx_meaning.specs.Instances.{Instance, Cells, add_cell, cells_for, tree_within, tree_of}
use Rattle.cx_text.specs.Members.{In}
use Rattle.cx_rules.specs.Flat.{IsFlat}
use Rattle.cx_rules.specs.Accepted.{IsAccepted}
use Rattle.cx_rules.specs.Items.{statements_in}
use Rattle.cx_rules.specs.LimitRule.{OnWeight, OnWords, word_of, order_of}
use Rattle.cx_rules.specs.Sizes.{size_of, weight_below, weight_in, weight_of, shape_words, words_below as design_words, words_in as design_words_in}
use Rattle.cx_rules.specs.Spots.{Whole}
use Rattle.cx_rules.proofs.CountsLemmas.{counted_weight-flat}
use Rattle.cx_rules.specs.Wellformed.{IsKind, IsDesign}
use Rattle.cx_net.specs.NetLimits.{row_nets, signature_size, nets_below, nets_in, instances_below, instances_in, words_below, words_in}
use Rattle.cx_net.specs.Nets.{PlainNetComponent}
use Rattle.cx_net.specs.NetMeaning.{NetState}
use Rattle.cx_net.specs.NetTree.{NetInstance, NetCells, net_part, net_tree}
use Rattle.cx_static.specs.Lowering.{unlowered, lowered_component, lowered_of}
use Rattle.cx_wiring.specs.Wiring.{net_of}
use Rattle.cx_wiring.specs.PartNets.{row_of_kind, rows_among, timer_cells, timers_of, wired_in, rows_alone, net_of_instance, net_of_cells}
use Rattle.cx_wiring.proofs.TimerCells.{cells-lowered_component}
use Rattle.cx_wiring.proofs.NetTrees.{net_tree-net_of}
use Rattle.cx_wiring.proofs.LoweringCounts.{cells_cost, cells_cost-append, all_timers, statement_adds}
use Rattle.cx_wiring.proofs.ComponentCounts.{PartsHold, timers_few, component_few}
use Rattle.cx_wiring.proofs.RowCounts.{timer_nets, primitive_nets}
use Rattle.cx_text.proofs.NumberLaws.{times_none}

-- what a cell costs beside what stands below it
abbrev of_kind : (Row → ℕ) → PlainKind → ℕ
of_kind cost (OfPrimitive primitive) = cost (row_of primitive)
of_kind cost (OfComponent j) = 0

abbrev of_row : (Row → ℕ) → PlainCell → ℕ
of_row cost cell = of_kind cost cell.kind

abbrev rows_cost : (Row → ℕ) → List Row → ℕ
rows_cost cost [] = 0
rows_cost cost (row ∷ rows) = cost row + rows_cost cost rows

rows_cost-among : (cost : Row → ℕ) (cells : List PlainCell) → rows_cost cost (rows_among cells) ≡ cells_cost (of_row cost) cells
rows_cost-among cost [] = refl
rows_cost-among cost (c ∷ cells) = kinds c.kind (rows_cost-among cost cells)
  where
    kinds : (kind : PlainKind) → rows_cost cost (rows_among cells) ≡ cells_cost (of_row cost) cells → rows_cost cost (row_of_kind kind ++ rows_among cells) ≡ of_kind cost kind + cells_cost (of_row cost) cells
    kinds (OfPrimitive primitive) h = omega arith
    kinds (OfComponent j) h = omega arith

nets_few : (cells : List PlainCell) → cells_cost (of_row row_nets) cells ≤ 31 * length cells
nets_few [] = omega arith
nets_few (c ∷ cells) = let own : of_kind row_nets c.kind ≤ 31 = kinds c.kind in let h : cells_cost (of_row row_nets) cells ≤ 31 * length cells = nets_few cells in omega arith
  where
    kinds : (kind : PlainKind) → of_kind row_nets kind ≤ 31
    kinds (OfPrimitive primitive) = primitive_nets primitive
    kinds (OfComponent j) = omega arith

abbrev one_row : Row → ℕ
one_row row = 1

rows_few : (cells : List PlainCell) → cells_cost (of_row one_row) cells ≤ length cells
rows_few [] = omega arith
rows_few (c ∷ cells) = let own : of_kind one_row c.kind ≤ 1 = kinds c.kind in let h : cells_cost (of_row one_row) cells ≤ length cells = rows_few cells in omega arith
  where
    kinds : (kind : PlainKind) → of_kind one_row kind ≤ 1
    kinds (OfPrimitive primitive) = omega arith
    kinds (OfComponent j) = omega arith

abbrev row_words : Row → ℕ
row_words row = shape_words row.shape

-- the nets of components, made in some way: as they are wired, or with wires in place of holes
module _ (d : PlainDesign) (rules : IsDesign d) (made : PlainComponent → PlainNetComponent) (numbers : Instance → NetState → ℕ → ℕ) where
  abbrev net_instance : Instance → NetInstance
  net_instance = net_of_instance made timers_of numbers

  abbrev net_cells_of : Cells → List Row → NetCells
  net_cells_of = net_of_cells made timers_of numbers

  abbrev alone : List Row → NetCells
  alone = rows_alone made timers_of numbers

  -- TIMERS of a component, each of which costs so much at most
  timers_cost : (k : ℕ) (cost : Row → ℕ) (each : ℕ) → ((n : ℕ) → cost (row_of (record { name = primitives.Timer; numbers = n ∷ [] })) ≤ each)
      → rows_cost cost (timers_of (component_at d k)) ≤ each * all_timers (lowered_component (component_at d k)).islands
  timers_cost k cost each few =
      let adds = statement_adds (component_at d k) (of_row cost) each (λ place n. few n) (component_at d k).control (unlowered (component_at d k)) in
      let grown : cells_cost (of_row cost) (lowered_component (component_at d k)).part.cells + each * 0 ≤ cells_cost (of_row cost) (component_at d k).cells + each * all_timers (lowered_component (component_at d k)).islands = adds.cells in
      let none : each * 0 ≡ 0 = times_none each in
      let split : cells_cost (of_row cost) (lowered_component (component_at d k)).part.cells ≡ cells_cost (of_row cost) ((component_at d k).cells ++ timer_cells (component_at d k)) =
      ap (cells_cost (of_row cost)) (cells-lowered_component (component_at d k)) in
      let both : cells_cost (of_row cost) ((component_at d k).cells ++ timer_cells (component_at d k)) ≡ cells_cost (of_row cost) (component_at d k).cells + cells_cost (of_row cost) (timer_cells (component_at d k)) =
      cells_cost-append (of_row cost) (component_at d k).cells (timer_cells (component_at d k)) in
      let rows : rows_cost cost (timers_of (component_at d k)) ≡ cells_cost (of_row cost) (timer_cells (component_at d k)) = rows_cost-among cost (timer_cells (component_at d k)) in
      omega arith

  part_is : (n k : ℕ) → net_part (net_instance (tree_within d n k)) ≡ made (component_at d k)
  part_is zero k = refl
  part_is (suc n) k = refl

  child_there : (k : ℕ) → k < length d.components → (cell : PlainCell) (j : ℕ) → In (component_at d k).cells cell → cell.kind ≡ OfComponent j → j < length d.components
  child_there k within cell j i is = subst (IsKind d) is ((rules.components k within).cells cell i).kind

  -- NETS
  alone_nets : (rows : List Row) → nets_in (alone rows) ≡ rows_cost row_nets rows
  alone_nets [] = refl
  alone_nets (row ∷ rows) = let h : nets_in (alone rows) ≡ rows_cost row_nets rows = alone_nets rows in omega arith

  abbrev NetsFew : ℕ → ℕ → Type 0
  NetsFew n k = signature_size (made (component_at d k)) + nets_below (net_instance (tree_within d n k)) ≤ 64 * weight_below (tree_within d n k)

  kind_nets : (n : ℕ) (kind : PlainKind) (rest : Cells) (rows : List Row) (cost : ℕ) → ((j : ℕ) → kind ≡ OfComponent j → NetsFew n j) → nets_in (net_cells_of rest rows) ≤ cost + 64 * weight_in rest + rows_cost row_nets rows
      → nets_in (net_cells_of (add_cell (tree_within d n) kind rest) rows) ≤ of_kind row_nets kind + cost + 64 * weight_in (add_cell (tree_within d n) kind rest) + rows_cost row_nets rows
  kind_nets n (OfPrimitive primitive) rest rows cost each later = omega arith
  kind_nets n (OfComponent j) rest rows cost each later =
      let own : signature_size (made (component_at d j)) + nets_below (net_instance (tree_within d n j)) ≤ 64 * weight_below (tree_within d n j) = each j refl in
      let same : signature_size (net_part (net_instance (tree_within d n j))) ≡ signature_size (made (component_at d j)) = ap signature_size (part_is n j) in
      omega arith

  cells_nets : (n : ℕ) (cells : List PlainCell) (rows : List Row) → ((cell : PlainCell) (j : ℕ) → In cells cell → cell.kind ≡ OfComponent j → NetsFew n j)
      → nets_in (net_cells_of (cells_for (tree_within d n) cells) rows) ≤ cells_cost (of_row row_nets) cells + 64 * weight_in (cells_for (tree_within d n) cells) + rows_cost row_nets rows
  cells_nets n [] rows each = let h : nets_in (alone rows) ≡ rows_cost row_nets rows = alone_nets rows in omega arith
  cells_nets n (c ∷ cells) rows each =
      kind_nets n c.kind (cells_for (tree_within d n) cells) rows (cells_cost (of_row row_nets) cells) (λ j is. each c j (inl refl) is) (cells_nets n cells rows (λ cell j i is. each cell j (inr i) is))

  -- where each component has so few
  abbrev pub OwnNets : ℕ → Type 0
  OwnNets k = 2 + (signature_size (made (component_at d k)) + signature_size (made (component_at d k))) + length (made (component_at d k)).wires + length (made (component_at d k)).registers
      + 31 * length (component_at d k).cells + rows_cost row_nets (timers_of (component_at d k)) ≤ 64 * (size_of (component_at d k) + 1)

  tree_nets : ((k : ℕ) → k < length d.components → OwnNets k) → (n k : ℕ) → k < length d.components → NetsFew n k
  tree_nets own zero k within =
      let mine = own k within in
      let h : nets_in (alone (timers_of (component_at d k))) ≡ rows_cost row_nets (timers_of (component_at d k)) = alone_nets (timers_of (component_at d k)) in
      omega (arith, mine)
  tree_nets own (suc n) k within =
      let mine = own k within in
      let cells : nets_in (net_cells_of (cells_for (tree_within d n) (component_at d k).cells) (timers_of (component_at d k)))
      ≤ cells_cost (of_row row_nets) (component_at d k).cells + 64 * weight_in (cells_for (tree_within d n) (component_at d k).cells) + rows_cost row_nets (timers_of (component_at d k)) =
      cells_nets n (component_at d k).cells (timers_of (component_at d k)) (λ cell j i is. tree_nets own n j (child_there k within cell j i is)) in
      let few : cells_cost (of_row row_nets) (component_at d k).cells ≤ 31 * length (component_at d k).cells = nets_few (component_at d k).cells in
      omega (arith, mine)

  -- INSTANCES
  alone_instances : (rows : List Row) → instances_in (alone rows) ≡ rows_cost one_row rows
  alone_instances [] = refl
  alone_instances (row ∷ rows) = let h : instances_in (alone rows) ≡ rows_cost one_row rows = alone_instances rows in omega arith

  abbrev InstancesFew : ℕ → ℕ → Type 0
  InstancesFew n k = instances_below (net_instance (tree_within d n k)) ≤ 2 * weight_below (tree_within d n k)

  kind_instances : (n : ℕ) (kind : PlainKind) (rest : Cells) (rows : List Row) (cost : ℕ) → ((j : ℕ) → kind ≡ OfComponent j → InstancesFew n j)
      → instances_in (net_cells_of rest rows) ≤ cost + 2 * weight_in rest + rows_cost one_row rows
      → instances_in (net_cells_of (add_cell (tree_within d n) kind rest) rows) ≤ of_kind one_row kind + cost + 2 * weight_in (add_cell (tree_within d n) kind rest) + rows_cost one_row rows
  kind_instances n (OfPrimitive primitive) rest rows cost each later = omega arith
  kind_instances n (OfComponent j) rest rows cost each later = let own : instances_below (net_instance (tree_within d n j)) ≤ 2 * weight_below (tree_within d n j) = each j refl in omega arith

  cells_instances : (n : ℕ) (cells : List PlainCell) (rows : List Row) → ((cell : PlainCell) (j : ℕ) → In cells cell → cell.kind ≡ OfComponent j → InstancesFew n j)
      → instances_in (net_cells_of (cells_for (tree_within d n) cells) rows) ≤ cells_cost (of_row one_row) cells + 2 * weight_in (cells_for (tree_within d n) cells) + rows_cost one_row rows
  cells_instances n [] rows each = let h : instances_in (alone rows) ≡ rows_cost one_row rows = alone_instances rows in omega arith
  cells_instances n (c ∷ cells) rows each =
      kind_instances n c.kind (cells_for (tree_within d n) cells) rows (cells_cost (of_row one_row) cells) (λ j is. each c j (inl refl) is) (cells_instances n cells rows (λ cell j i is. each cell j (inr i) is))

  own_instances : ((k : ℕ) → k < length d.components → PartsHold (component_at d k)) → (k : ℕ) → k < length d.components
      → 1 + length (component_at d k).cells + rows_cost one_row (timers_of (component_at d k)) ≤ 2 * (size_of (component_at d k) + 1)
  own_instances parts k within =
      let timers : rows_cost one_row (timers_of (component_at d k)) ≤ 1 * all_timers (lowered_component (component_at d k)).islands = timers_cost k one_row 1 (λ n. (omega arith)) in
      let count : all_timers (lowered_component (component_at d k)).islands ≤ 2 * length (statements_in (component_at d k)) = timers_few d rules k within (parts k within) in
      omega arith

  tree_instances : ((k : ℕ) → k < length d.components → PartsHold (component_at d k)) → (n k : ℕ) → k < length d.components → InstancesFew n k
  tree_instances parts zero k within =
      let mine = own_instances parts k within in
      let h : instances_in (alone (timers_of (component_at d k))) ≡ rows_cost one_row (timers_of (component_at d k)) = alone_instances (timers_of (component_at d k)) in
      omega (arith, mine)
  tree_instances parts (suc n) k within =
      let mine = own_instances parts k within in
      let cells : instances_in (net_cells_of (cells_for (tree_within d n) (component_at d k).cells) (timers_of (component_at d k)))
      ≤ cells_cost (of_row one_row) (component_at d k).cells + 2 * weight_in (cells_for (tree_within d n) (component_at d k).cells) + rows_cost one_row (timers_of (component_at d k)) =
      cells_instances n (component_at d k).cells (timers_of (component_at d k)) (λ cell j i is. tree_instances parts n j (child_there k within cell j i is)) in
      let few : cells_cost (of_row one_row) (component_at d k).cells ≤ length (component_at d k).cells = rows_few (component_at d k).cells in
      omega (arith, mine)

  -- WORDS
  alone_words : (rows : List Row) → words_in (alone rows) ≡ rows_cost row_words rows
  alone_words [] = refl
  alone_words (row ∷ rows) = let h : words_in (alone rows) ≡ rows_cost row_words rows = alone_words rows in omega arith

  timer_words : (n : ℕ) → row_words (row_of (record { name = primitives.Timer; numbers = n ∷ [] })) ≤ 0
  timer_words n = no_words (nat_le 1 n && nat_lt n (2 ^ 32))
    where
      no_words : (b : Bool) → row_words (unwrap_or (if b then Some (timer_row n) else None) no_row) ≤ 0
      no_words true = omega arith
      no_words false = omega arith

  timers_words : (k : ℕ) → rows_cost row_words (timers_of (component_at d k)) ≤ 0
  timers_words k =
      let h : rows_cost row_words (timers_of (component_at d k)) ≤ 0 * all_timers (lowered_component (component_at d k)).islands = timers_cost k row_words 0 timer_words in
      omega (arith, zero-mul (all_timers (lowered_component (component_at d k)).islands))

  abbrev WordsFew : ℕ → ℕ → Type 0
  WordsFew n k = words_below (net_instance (tree_within d n k)) ≤ design_words (tree_within d n k)

  kind_words : (n : ℕ) (kind : PlainKind) (rest : Cells) (rows : List Row) → ((j : ℕ) → kind ≡ OfComponent j → WordsFew n j) → words_in (net_cells_of rest rows) ≤ design_words_in rest + rows_cost row_words rows
      → words_in (net_cells_of (add_cell (tree_within d n) kind rest) rows) ≤ design_words_in (add_cell (tree_within d n) kind rest) + rows_cost row_words rows
  kind_words n (OfPrimitive primitive) rest rows each later = omega arith
  kind_words n (OfComponent j) rest rows each later = let own : words_below (net_instance (tree_within d n j)) ≤ design_words (tree_within d n j) = each j refl in omega arith

  cells_words : (n : ℕ) (cells : List PlainCell) (rows : List Row) → ((cell : PlainCell) (j : ℕ) → In cells cell → cell.kind ≡ OfComponent j → WordsFew n j)
      → words_in (net_cells_of (cells_for (tree_within d n) cells) rows) ≤ design_words_in (cells_for (tree_within d n) cells) + rows_cost row_words rows
  cells_words n [] rows each = let h : words_in (alone rows) ≡ rows_cost row_words rows = alone_words rows in omega arith
  cells_words n (c ∷ cells) rows each = kind_words n c.kind (cells_for (tree_within d n) cells) rows (λ j is. each c j (inl refl) is) (cells_words n cells rows (λ cell j i is. each cell j (inr i) is))

  tree_words : (n k : ℕ) → k < length d.components → WordsFew n k
  tree_words zero k within =
      let none : rows_cost row_words (timers_of (component_at d k)) ≤ 0 = timers_words k in
      let h : words_in (alone (timers_of (component_at d k))) ≡ rows_cost row_words (timers_of (component_at d k)) = alone_words (timers_of (component_at d k)) in
      omega arith
  tree_words (suc n) k within =
      let none : rows_cost row_words (timers_of (component_at d k)) ≤ 0 = timers_words k in
      let cells : words_in (net_cells_of (cells_for (tree_within d n) (component_at d k).cells) (timers_of (component_at d k)))
      ≤ design_words_in (cells_for (tree_within d n) (component_at d k).cells) + rows_cost row_words (timers_of (component_at d k)) =
      cells_words n (component_at d k).cells (timers_of (component_at d k)) (λ cell j i is. tree_words n j (child_there k within cell j i is)) in
      omega arith

  -- the nets of the whole tree: 64 for each unit of weight
  pub whole_weighs : ((k : ℕ) → k < length d.components → OwnNets k) → nets_below (net_instance (tree_of d)) ≤ 64 * weight_of d
  whole_weighs own =
      let h : signature_size (made (component_at d d.main)) + nets_below (net_instance (tree_within d (length d.components) d.main)) ≤ 64 * weight_below (tree_within d (length d.components) d.main) =
      tree_nets own (length d.components) d.main rules.main_there in
      omega arith

  module _ (flat : IsFlat d) (accepted : IsAccepted d) where
    weight_few : weight_of d ≤ 65536
    weight_few = let h : weight_of d ≤ WEIGHT = ⊎_elim (λ more. absurd (over more)) (λ h. h) (cases_lt WEIGHT (weight_of d)) in omega arith
      where
        over : WEIGHT < weight_of d → ⊥
        over more =
            accepted.limits told.Limit (record { component = d.main; part = Whole (order_of OnWeight) }) (component_at d d.main).place (word_of OnWeight) refl
            (inr (inr (inr (inr (inr (inr (record { at_main = refl; is = refl; exceeds = subst (λ n. WEIGHT < n) (sym (counted_weight-flat d flat (length d.components) d.main)) more; tells = (refl, refl) })))))))

    memory_few : design_words (tree_of d) ≤ 4194304
    memory_few = let h : design_words (tree_of d) ≤ MEMORY_WORDS = ⊎_elim (λ more. absurd (over more)) (λ h. h) (cases_lt MEMORY_WORDS (design_words (tree_of d))) in omega arith
      where
        over : MEMORY_WORDS < design_words (tree_of d) → ⊥
        over more =
            accepted.limits told.Limit (record { component = d.main; part = Whole (order_of OnWords) }) (component_at d d.main).place (word_of OnWords) refl
            (inr (inr (inr (inr (inr (inl (record { at_main = refl; is = refl; exceeds = more; tells = (refl, refl) })))))))

    -- OF THE WHOLE TREE
    pub whole_nets : ((k : ℕ) → k < length d.components → OwnNets k) → nets_below (net_instance (tree_of d)) ≤ 4194304
    whole_nets own =
        let h : nets_below (net_instance (tree_of d)) ≤ 64 * weight_of d = whole_weighs own in
        let w : weight_of d ≤ 65536 = weight_few in
        omega arith

    pub whole_instances : ((k : ℕ) → k < length d.components → PartsHold (component_at d k)) → instances_below (net_instance (tree_of d)) ≤ 131072
    whole_instances parts =
        let h : instances_below (net_instance (tree_within d (length d.components) d.main)) ≤ 2 * weight_below (tree_within d (length d.components) d.main) = tree_instances parts (length d.components) d.main rules.main_there in
        let w : weight_of d ≤ 65536 = weight_few in
        omega arith

    pub whole_words : words_below (net_instance (tree_of d)) ≤ 4194304
    whole_words =
        let h : words_below (net_instance (tree_within d (length d.components) d.main)) ≤ design_words (tree_within d (length d.components) d.main) = tree_words (length d.components) d.main rules.main_there in
        let w : design_words (tree_of d) ≤ 4194304 = memory_few in
        omega arith

module _ (d : PlainDesign) (rules : IsDesign d) (parts : (k : ℕ) → k < length d.components → PartsHold (component_at d k)) (numbers : Instance → NetState → ℕ → ℕ) where
  -- the components of a design as they are wired, with wires in place of holes or not, have few nets
  pub own_few : IsFlat d → (made : PlainComponent → PlainNetComponent)
      → ((k : ℕ) → signature_size (made (component_at d k)) ≡ signature_size (wired_in d (component_at d k)))
      → ((k : ℕ) → length (made (component_at d k)).wires ≤ length (wired_in d (component_at d k)).wires + (wired_in d (component_at d k)).holes)
      → ((k : ℕ) → length (made (component_at d k)).registers ≡ length (wired_in d (component_at d k)).registers)
      → (k : ℕ) → k < length d.components → OwnNets d rules made numbers k
  own_few flat made sign wires registers k within =
      let few = component_few d rules k within (parts k within) (flat k within) in
      let timers : rows_cost row_nets (timers_of (component_at d k)) ≤ 12 * all_timers (lowered_component (component_at d k)).islands = timers_cost d rules made numbers k row_nets 12 timer_nets in
      let count : all_timers (lowered_component (component_at d k)).islands ≤ 2 * length (statements_in (component_at d k)) = timers_few d rules k within (parts k within) in
      let same : signature_size (made (component_at d k)) ≡ signature_size (wired_in d (component_at d k)) = sign k in
      let whole : signature_size (wired_in d (component_at d k)) ≡ 2 + length (component_at d k).inputs + length (component_at d k).outputs = refl in
      let w : length (made (component_at d k)).wires ≤ length (wired_in d (component_at d k)).wires + (wired_in d (component_at d k)).holes = wires k in
      let r : length (made (component_at d k)).registers ≡ length (wired_in d (component_at d k)).registers = registers k in
      omega (arith, few)

  -- THE NET of a design
  pub net_nets : IsFlat d → IsAccepted d → nets_below (net_tree (net_of (lowered_of d))) ≤ 4194304
  net_nets flat accepted =
      subst (λ tree. nets_below tree ≤ 4194304) (sym (net_tree-net_of d rules numbers))
      (whole_nets d rules (wired_in d) numbers flat accepted (own_few flat (wired_in d) (λ k. refl) (λ k. (omega arith)) (λ k. refl)))

  pub net_instances : IsFlat d → IsAccepted d → instances_below (net_tree (net_of (lowered_of d))) ≤ 131072
  net_instances flat accepted = subst (λ tree. instances_below tree ≤ 131072) (sym (net_tree-net_of d rules numbers)) (whole_instances d rules (wired_in d) numbers flat accepted parts)

  pub net_words : IsFlat d → IsAccepted d → words_below (net_tree (net_of (lowered_of d))) ≤ 4194304
  net_words flat accepted = subst (λ tree. words_below tree ≤ 4194304) (sym (net_tree-net_of d rules numbers)) (whole_words d rules (wired_in d) numbers flat accepted)
