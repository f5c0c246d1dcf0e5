-- THE MODULES of the source of a design: no more than 4,096 bytes for each unit of its size and 134 for each unit of weight of the components
-- of cells, with 112 for each external cell to spare.
use Rattle.std.proofs.Common.{◌≡◌, ℕ, suc, ◌+◌, ◌*◌, ◌^◌, ◌<◌, ◌≤◌, ◌||◌, Bool, true, false, List, [], ◌∷◌, ◌++◌, length, map, Some, slice_get, nat_eq, eq-eqb, refl, ap, ◌∙◌, subst, if◌then◌else◌, arith}
use Rattle.std.specs.Prelude.{filter_map, option_map}
use Rattle.std.specs.List.{cons_option}
use Rattle.std.proofs.lemmas.List.{length-map, map-append}
use Rattle.std.proofs.lemmas.Option.{slice_get-map, slice_get_within}
use Rattle.cx_text.proofs.MemberLaws.{number_in}
use Rattle.cx_meaning.specs.Designs.{OfPrimitive, PlainCell, PlainComponent, PlainDesign, component_at}
use Rattle.cx_prim.specs.Table.{PrimitiveRow, HasRow}
use Rattle.cx_text.specs.Members.{In}
use Rattle.cx_rules.specs.Flat.{IsFlat}
use Rattle.cx_rules.specs.Accepted.{IsAccepted}
use Rattle.cx_rules.specs.Sizes.{size_of, design_size}
use Rattle.cx_rules.specs.Wellformed.{IsDesign}
use Rattle.cx_net.specs.Nets.{PlainNetComponent}
use Rattle.cx_holes.specs.Inlining.{inlined_component}
use Rattle.cx_static.specs.Lowering.{lowered_of}
use Rattle.cx_wiring.specs.Reached.{has_number, place_in, order}
use Rattle.cx_wiring.specs.Wiring.{net_component, kind_in, cell_in}
use Rattle.cx_wiring.specs.PartNets.{wired_in}
use Rattle.cx_wiring.proofs.ComponentCounts.{PartsHold, component_few}
use Rattle.cx_wiring.proofs.FitNets.{component_drives, component_cells}
use Rattle.cx_wiring.proofs.WayLemmas.{there, part_there}
use Rattle.cx_net.specs.NetFits.{IsFitKind}
use Rattle.cx_vtree.specs.Plain.{PlainModule}
use Rattle.cx_vtree.specs.Sound.{has_name}
use Rattle.cx_emit.specs.Numbered.{numbered_from}
use Rattle.cx_emit.specs.Names.{module_name, primitive_name}
use Rattle.cx_emit.specs.Signatures.{PlainCellPorts, primitive_module, cell_ports}
use Rattle.cx_emit.specs.Sources.{component_module, primitives_in, primitives_among, firsts}
use Rattle.cx_emitted.specs.Shallow.{Shallow}
use Rattle.cx_emitted.proofs.TextBytes.{sum_over}
use Rattle.cx_emitted.proofs.ModuleBytes.{sum_over-append, module_bytes}
use Rattle.cx_emitted.proofs.TreeBytes.{bare_costs}
use Rattle.cx_emitted.proofs.DrivenBytes.{before_bytes}
use Rattle.cx_emitted.proofs.ComponentBytes.{wire_short, register_short, kind_bytes, ports_count}
use Rattle.cx_emitted.proofs.AssignedBytes.{component_bytes}
use Rattle.cx_emitted.proofs.PartBytes.{part_cost}
use Rattle.cx_emitted.proofs.HoledBytes.{drivers_few}
use Rattle.cx_emitted.proofs.WeightBytes.{cells_weight}
use Rattle.cx_emitted.proofs.JoinBytes.{outside_sum, lowered_cheap, cells_written}
use Rattle.cx_emitted.proofs.LoweredCells.{lowered_cells, cells_here, cells_few}
use Rattle.cx_emitted.proofs.NamedBytes.{ports_named}
use Rattle.cx_emitted.proofs.SignedBytes.{place_at, holed, net, sized, module_short, cells_short, cells_shown}
use Rattle.std.proofs.lemmas.Bool.{or_right}
use Rattle.cx_holes.proofs.RenamedRuns.{counted}

module _ (d : PlainDesign) (rules : IsDesign d) (flat : IsFlat d) (accepted : IsAccepted d) (small : design_size d ≤ 16384) (parts : (k : ℕ) → k < length d.components → PartsHold (component_at d k))
    (shallow : (k : ℕ) → k < length d.components → Shallow 64 (component_at d k).control)
    (many : length (order (lowered_of d)) < 10 ^ 5) where
  -- what a component has at most
  abbrev pub share : ℕ → ℕ
  share k = 4096 * (size_of (component_at d k) + 1) + 134 * cells_weight d rules k

  module _ (k : ℕ) (here : has_number k (order (lowered_of d)) ≡ true) (n : ℕ) (less : n < 10 ^ 5) where
    abbrev part : PlainComponent
    part = component_at d k

    abbrev C : PlainNetComponent
    C = wired_in d part

    abbrev D : PlainNetComponent
    D = inlined_component C

    abbrev placed_cells : List PlainCellPorts
    placed_cells = map (cell_ports (net d rules small)) D.cells

    within : k < length d.components
    within = there d rules k here

    drivers_short : sum_over before_bytes D.drivers ≤ bare_costs C.drivers
    drivers_short =
        let wired = component_few d rules k within (parts k within) (flat k within) in
        let size : size_of part < 16384 = sized d rules small k within in
        let wires : length C.wires + C.holes < 10 ^ 7 = omega (arith, wired, size) in
        let registers : length C.registers < 10 ^ 7 = omega (arith, wired, size) in
        drivers_few (holed d rules small) C (length C.wires) (ports_named d rules small parts k here)
        (λ m w e. let low = slice_get_within C.registers m w e in register_short m (omega (arith, low, registers)))
        (λ m w e. let low = slice_get_within C.wires m w e in wire_short m (omega (arith, low, wires)))
        (λ m low. wire_short (length C.wires + m) (omega (arith, low, wires)))
        C.drivers (component_drives d rules flat accepted k here)

    -- the primitives of its cells have rows
    cells_rows : (cell : PlainCell) (p : PrimitiveRow) → In (lowered_cells d rules k) cell → cell.kind ≡ OfPrimitive p → HasRow p
    cells_rows cell p i is =
        let (c, at) = number_in (lowered_cells d rules k) cell i in
        let placed : slice_get C.cells c ≡ Some (cell_in (order (lowered_of d)) cell) = slice_get-map (cell_in (order (lowered_of d))) (lowered_cells d rules k) c ∙ ap (option_map (cell_in (order (lowered_of d)))) at in
        subst (λ kind. IsFitKind (place_in k (order (lowered_of d))) (kind_in (order (lowered_of d)) kind)) is
        (component_cells d rules flat accepted k here (place_in k (order (lowered_of d))) (place_at k (order (lowered_of d)) here) c (cell_in (order (lowered_of d)) cell) placed)

    -- A COMPONENT with a module for each of its cells
    pub one_written : sum_over module_bytes (map primitive_module (primitives_in D.cells)) + module_bytes (component_module (net d rules small) n D) + outside_sum d rules (net d rules small) (order (lowered_of d)) (lowered_cells d rules k) ≤ share k
    one_written =
        let size : size_of part < 16384 = sized d rules small k within in
        let wired = component_few d rules k within (parts k within) (flat k within) in
        let wires : length C.wires + C.holes ≤ 10 ^ 7 = omega (arith, wired, size) in
        let all_wires : length D.wires ≡ length C.wires + C.holes = counted C in
        let inputs : length D.inputs ≤ 10 ^ 5 = omega (arith, size) in
        let outputs : length D.outputs ≤ 10 ^ 5 = omega (arith, size) in
        let few_wires : length D.wires ≤ 10 ^ 7 = omega (arith, wires, all_wires) in
        let registers : length D.registers ≤ 10 ^ 7 = omega (arith, wired, size) in
        let cells_long : length D.cells ≡ length (lowered_cells d rules k) = length-map (lowered_cells d rules k) (cell_in (order (lowered_of d))) in
        let placed_long : length placed_cells ≡ length D.cells = length-map D.cells (cell_ports (net d rules small)) in
        let few : length (lowered_cells d rules k) ≤ 10 ^ 5 = cells_few d rules small k within (parts k within) in
        let few_cells : length placed_cells ≤ 10 ^ 5 = omega (arith, cells_long, placed_long, few) in
        let short = cells_short d rules small (lowered_cells d rules k) (cells_here d rules k here) in
        let own : module_bytes (component_module (net d rules small) n D)
        ≤ length (module_name (net d rules small).main n) + (272 + (35 * length D.inputs + (97 * length D.outputs + (134 * sum_over ports_count placed_cells + (42 * length placed_cells + (sum_over kind_bytes placed_cells + (90 * length D.wires + (122 * length D.registers + sum_over before_bytes D.drivers)))))))) =
        component_bytes D placed_cells inputs outputs few_wires registers few_cells short (module_name (net d rules small).main n) in
        let name : length (module_name (net d rules small).main n) ≤ 15 = module_short d rules small n less in
        let written = cells_written d rules (net d rules small) (order (lowered_of d)) (lowered_cells d rules k) (cells_shown d rules small many (lowered_cells d rules k) (cells_here d rules k here) cells_rows) in
        let cheap = lowered_cheap d rules k within in
        let cost = part_cost d rules k within (flat k within) (parts k within) (shallow k within) in
        let drivers = drivers_short in
        omega (arith, all_wires, cells_long, placed_long, own, name, written, cheap, cost, drivers)

  -- what components have of primitives, and of their own modules
  abbrev primitives_sum : List PlainNetComponent → ℕ
  primitives_sum cs = sum_over module_bytes (map primitive_module (primitives_among cs))

  abbrev components_sum : ℕ → List PlainNetComponent → ℕ
  components_sum n cs = sum_over module_bytes (numbered_from (component_module (net d rules small)) n cs)

  abbrev made : List ℕ → List PlainNetComponent
  made ks = map inlined_component (map (net_component (lowered_of d)) (filter_map (slice_get (lowered_of d).components) ks))

  -- ALL COMPONENTS, in their order, from one on
  pub all_written : (n : ℕ) (ks : List ℕ) → ((k : ℕ) → has_number k ks ≡ true → has_number k (order (lowered_of d)) ≡ true) → n + length ks ≤ 10 ^ 5
      → primitives_sum (made ks) + components_sum n (made ks) + sum_over (λ k. outside_sum d rules (net d rules small) (order (lowered_of d)) (lowered_cells d rules k)) ks ≤ sum_over share ks
  all_written n [] among few = omega arith
  all_written n (k ∷ ks) among few =
      let here : has_number k (order (lowered_of d)) ≡ true = among k (ap (λ b. b || has_number k ks) (eq-eqb k k refl)) in
      let less : n < 10 ^ 5 = omega (arith, few) in
      let more : suc n + length ks ≤ 10 ^ 5 = omega (arith, few) in
      let own = one_written k here n less in
      let rest = all_written (suc n) ks (λ j h. among j (or_right (nat_eq j k) (has_number j ks) h)) more in
      let first : PlainNetComponent = inlined_component (wired_in d (component_at d k)) in
      let same : made (k ∷ ks) ≡ first ∷ made ks =
      ap (λ o. map inlined_component (map (net_component (lowered_of d)) (cons_option o (filter_map (slice_get (lowered_of d).components) ks)))) (part_there d rules k (there d rules k here)) in
      let primitives : primitives_sum (made (k ∷ ks)) ≡ primitives_sum (first ∷ made ks) = ap primitives_sum same in
      let components : components_sum n (made (k ∷ ks)) ≡ components_sum n (first ∷ made ks) = ap (components_sum n) same in
      let split : primitives_sum (first ∷ made ks) ≡ sum_over module_bytes (map primitive_module (primitives_in first.cells) ++ map primitive_module (primitives_among (made ks))) =
      ap (sum_over module_bytes) (map-append primitive_module (primitives_in first.cells) (primitives_among (made ks))) in
      let both : sum_over module_bytes (map primitive_module (primitives_in first.cells) ++ map primitive_module (primitives_among (made ks))) ≡ sum_over module_bytes (map primitive_module (primitives_in first.cells)) + primitives_sum (made ks) =
      sum_over-append module_bytes (map primitive_module (primitives_in first.cells)) (map primitive_module (primitives_among (made ks))) in
      omega (arith, own, rest, primitives, components, split, both)

-- ONE MODULE for each primitive is no more than one for each cell
pub firsts_less : (f : PlainModule → ℕ) (names : List (List ℕ)) (ps : List PrimitiveRow) → sum_over f (map primitive_module (firsts names ps)) ≤ sum_over f (map primitive_module ps)
firsts_less f names [] = omega arith
firsts_less f names (p ∷ ps) = by (has_name names (primitive_name p)) (firsts_less f names ps) (firsts_less f (names ++ primitive_name p ∷ []) ps)
  where
    by : (b : Bool) → sum_over f (map primitive_module (firsts names ps)) ≤ sum_over f (map primitive_module ps) → sum_over f (map primitive_module (firsts (names ++ primitive_name p ∷ []) ps)) ≤ sum_over f (map primitive_module ps)
        → sum_over f (map primitive_module (if b then firsts names ps else p ∷ firsts (names ++ primitive_name p ∷ []) ps)) ≤ f (primitive_module p) + sum_over f (map primitive_module ps)
    by true same next = omega (arith, same)
    by false same next = omega (arith, next)
