-- THE NET OF AN ACCEPTED DESIGN can be written, where the design is no larger than the limit of compile, no part of a guard is Always, and
-- its external memories have words for names.
use Rattle.std.proofs.Common.{◌≡◌, inl, inr, ⊎_elim, ℕ, suc, ◌+◌, ◌-◌, ◌*◌, ◌<◌, ◌≤◌, Bool, true, false, List, [], ◌∷◌, ◌++◌, length, map, Option, Some, None, slice_get, refl, ap, sym, ◌∙◌, subst, arith, zero-mul}
use Rattle.std.specs.Prelude.{◌^◌, option_map, All}
use Rattle.std.proofs.lemmas.Bool.{cases_lt}
use Rattle.std.proofs.lemmas.List.{length-map}
use Rattle.std.proofs.lemmas.Option.{slice_get-map, slice_get-get_or}
use Rattle.cx_text.proofs.MemberLaws.{in_at, each_append}
use Rattle.cx_prim.specs.Widths.{IsWidth}
use Rattle.cx_meaning.specs.Designs.{PlainKind, OfPrimitive, OfComponent, PlainCell, PlainComponent, PlainDesign, no_component, component_at}
use Rattle.cx_meaning.specs.Instances.{Instance}
use Rattle.cx_text.specs.Members.{In}
use Rattle.cx_rules.specs.Flat.{IsFlat}
use Rattle.cx_rules.specs.Accepted.{IsAccepted}
use Rattle.cx_rules.specs.Externals.{numbers_of}
use Rattle.cx_rules.specs.Items.{Dynamic, visit, statements_in}
use Rattle.cx_rules.specs.Sizes.{size_of, design_size}
use Rattle.cx_rules.specs.Wellformed.{IsExternal, IsDesign, first_number}
use Rattle.cx_vtree.specs.Layout.{is_word}
use Rattle.cx_net.specs.Nets.{PlainNetComponent}
use Rattle.cx_net.specs.NetLimits.{IsWritableDriver, IsWritableComponent, IsWritableExternal, IsWritable}
use Rattle.cx_net.specs.NetMeaning.{NetState}
use Rattle.cx_net.proofs.NetsLemmas.{each_all}
use Rattle.cx_static.specs.Islands.{PlainLowered}
use Rattle.cx_static.specs.Lowering.{unlowered, lowered_component, lowered_of}
use Rattle.cx_wiring.specs.Assignments.{driven_assigns, assigns_drivers}
use Rattle.cx_wiring.specs.Control.{control_drivers}
use Rattle.cx_wiring.specs.Trees.{tree_widths}
use Rattle.cx_wiring.specs.Reached.{numbers_from, has_number, order}
use Rattle.cx_wiring.specs.Wiring.{groups, first_of_control, first_of_assigns, plain_wires, component_registers, plain_drivers, component_driven, target_width, kind_in, cell_in, net_of}
use Rattle.cx_wiring.specs.PartNets.{timer_cells, wired_in}
use Rattle.cx_wiring.specs.Nesting.{most}
use Rattle.cx_wiring.proofs.NumberLemmas.{in_number, few_apart, length-numbers_from}
use Rattle.cx_wiring.proofs.MainLaws.{number_from, order_main}
use Rattle.cx_wiring.proofs.TimerCells.{cells-lowered_component}
use Rattle.cx_wiring.proofs.WayLemmas.{count_is, there, placed, net_long}
use Rattle.cx_wiring.proofs.FitLemmas.{slice_right}
use Rattle.cx_wiring.proofs.OrderHeights.{stands_at}
use Rattle.cx_wiring.proofs.MainOrder.{distinct_order, main_last}
use Rattle.cx_wiring.proofs.FitLowering.{lowered_few}
use Rattle.cx_wiring.proofs.FitNets.{size_among, targets_few}
use Rattle.cx_wiring.proofs.WireWidths.{component_registers_wide, wires_wide, signature_wide}
use Rattle.cx_wiring.proofs.NestDrivers.{control_nest, assigns_nest, trees_nest}
use Rattle.cx_wiring.proofs.NestLowering.{islands_nest, lowers}
use Rattle.cx_wiring.proofs.NestRules.{tests_read, assigns_nests}
use Rattle.cx_wiring.proofs.LoweringCounts.{cells_cost, cells_cost-append, all_timers, statement_adds}
use Rattle.cx_wiring.proofs.ComponentCounts.{PartsHold, timers_few, component_few}
use Rattle.cx_wiring.proofs.NetCounts.{net_nets, net_instances, net_words}
use Rattle.cx_rules.proofs.SizesLemmas.{sizes_many}
use Rattle.cx_text.proofs.ListLaws.{there_at, front}
use Rattle.cx_text.proofs.BoolLaws.{not_both}

-- WHAT THE TEXT of a design gives beside the rules, where compile does not find it too large
pub record CanBeWritten (d : PlainDesign) : Type 0 where
  pub small : design_size d ≤ 16384
  pub parts : (k : ℕ) → k < length d.components → PartsHold (component_at d k)
  pub words : (cell : PlainCell) → In (component_at d d.main).cells cell → cell.external ≡ true → is_word cell.name ≡ true

abbrev one_cell : PlainCell → ℕ
one_cell cell = 1

cells_counted : (cells : List PlainCell) → cells_cost one_cell cells ≡ length cells
cells_counted [] = refl
cells_counted (c ∷ cells) = let h : cells_cost one_cell cells ≡ length cells = cells_counted cells in omega arith

abbrev if_outside : Bool → ℕ
if_outside true = 1
if_outside false = 0

abbrev outside : PlainCell → ℕ
outside cell = if_outside cell.external

outside_none : (cells : List PlainCell) → cells_cost outside cells ≤ 0 → (cell : PlainCell) → In cells cell → cell.external ≡ false
outside_none [] none cell i = absurd i
outside_none (c ∷ cells) none cell i = by i (outside_none cells)
  where
    inside : (b : Bool) → if_outside b + cells_cost outside cells ≤ 0 → b ≡ false
    inside true h = absurd (omega arith)
    inside false h = refl

    by : In (c ∷ cells) cell → (cells_cost outside cells ≤ 0 → (x : PlainCell) → In cells x → x.external ≡ false) → cell.external ≡ false
    by (inl e) later = ap (λ (x : PlainCell). x.external) (sym e) ∙ inside c.external none
    by (inr j) later = let less : cells_cost outside cells ≤ 0 = omega arith in later less cell j

module _ (d : PlainDesign) (rules : IsDesign d) (flat : IsFlat d) (accepted : IsAccepted d) (can : CanBeWritten d) where
  sized : (k : ℕ) → k < length d.components → size_of (component_at d k) < design_size d
  sized k within = size_among d.components k (component_at d k) (slice_get-get_or d.components k no_component within)

  module _ (k : ℕ) (here : has_number k (order (lowered_of d)) ≡ true) where
    abbrev part : PlainComponent
    part = component_at d k

    abbrev low : PlainLowered
    low = lowered_component part

    abbrev C : PlainNetComponent
    C = wired_in d part

    within : k < length d.components
    within = there d rules k here

    few_cells : length C.cells ≤ length part.cells + 2 * length (statements_in part)
    few_cells =
        let adds = statement_adds part one_cell 1 (λ place n. (omega arith)) part.control (unlowered part) in
        let grown : cells_cost one_cell low.part.cells + 1 * 0 ≤ cells_cost one_cell part.cells + 1 * all_timers low.islands = adds.cells in
        let timers : all_timers low.islands ≤ 2 * length (statements_in part) = timers_few d rules k within (can.parts k within) in
        let all : cells_cost one_cell low.part.cells ≡ length low.part.cells = cells_counted low.part.cells in
        let own : cells_cost one_cell part.cells ≡ length part.cells = cells_counted part.cells in
        let same : length C.cells ≡ length low.part.cells = length-map low.part.cells (cell_in (order (lowered_of d))) in
        omega arith

    -- DRIVERS
    drivers_nest : All IsWritableDriver C.drivers
    drivers_nest =
        let size : size_of part < design_size d = sized k within in
        let small : design_size d ≤ 16384 = can.small in
        let visits : suc (length (visit Dynamic part.control)) ≤ most = omega arith in
        let lowered : length (visit Dynamic low.part.control) ≤ length (visit Dynamic part.control) = lowered_few part part.control (unlowered part) in
        let few : length (visit Dynamic low.part.control) ≤ most = omega arith in
        let less : size_of part ≤ most = omega arith in
        let read = tests_read d accepted k within in
        each_all IsWritableDriver C.drivers
        (trees_nest (plain_drivers low) (length (plain_wires low))
        (each_append IsWritableDriver (control_drivers (groups low) low.islands (first_of_control low) low.part.control) (assigns_drivers (groups low) (first_of_assigns low) (driven_assigns low))
        (control_nest (groups low) low.islands (islands_nest part part.control (unlowered part) read visits tt) (first_of_control low) low.part.control (lowers part part.control (unlowered part) read) few)
        (assigns_nest (groups low) (driven_assigns low) (first_of_assigns low) (assigns_nests d accepted k within less (can.parts k within)))))

    component_writable : IsWritableComponent C
    component_writable =
        let size : size_of part < design_size d = sized k within in
        let small : design_size d < 2 ^ 32 = rules.few_parts in
        let wired = component_few d rules k within (can.parts k within) (flat k within) in
        let cells : length C.cells ≤ length part.cells + 2 * length (statements_in part) = few_cells in
        record {
          input_widths = signature_wide part.inputs (rules.components k within).inputs;
          output_widths = signature_wide part.outputs (rules.components k within).outputs;
          register_widths = each_all IsWidth (component_registers low) (component_registers_wide low);
          wire_widths = each_all IsWidth (plain_wires low ++ tree_widths (target_width (lowered_of d) low) (component_driven low)) (wires_wide d rules k within);
          few_ports = (let h : 2 + length part.inputs + length part.outputs < 2 ^ 64 = omega arith in h);
          few_registers = (let h : length C.registers < 2 ^ 64 = omega (arith, wired) in h);
          few_wires = (let h : length C.wires < 2 ^ 64 = omega (arith, wired) in h);
          few_cells = (let h : length C.cells < 2 ^ 64 = omega arith in h);
          chains = targets_few d rules flat accepted k here;
          drivers = drivers_nest;
        }

  -- EXTERNAL MEMORIES
  abbrev main : PlainComponent
  main = component_at d d.main

  abbrev main_low : PlainLowered
  main_low = lowered_component main

  main_here : has_number d.main (order (lowered_of d)) ≡ true
  main_here = order_main (lowered_of d) (subst (λ n. d.main < n) (sym (count_is d rules)) rules.main_there)

  timers_inside : (cell : PlainCell) → In (timer_cells main) cell → cell.external ≡ false
  timers_inside =
      let adds = statement_adds main outside 0 (λ place n. (omega arith)) main.control (unlowered main) in
      let grown : cells_cost outside main_low.part.cells + 0 * 0 ≤ cells_cost outside main.cells + 0 * all_timers main_low.islands = adds.cells in
      let split : cells_cost outside main_low.part.cells ≡ cells_cost outside (main.cells ++ timer_cells main) = ap (cells_cost outside) (cells-lowered_component main) in
      let both : cells_cost outside (main.cells ++ timer_cells main) ≡ cells_cost outside main.cells + cells_cost outside (timer_cells main) = cells_cost-append outside main.cells (timer_cells main) in
      let none : 0 * all_timers main_low.islands ≡ 0 = zero-mul (all_timers main_low.islands) in
      let free : 0 * 0 ≡ 0 = zero-mul 0 in
      let rest : cells_cost outside (timer_cells main) ≤ 0 = omega arith in
      outside_none (timer_cells main) rest

  -- an external cell is one of the design's own, at the same place
  own_cell : (c : ℕ) (x : PlainCell) → slice_get main_low.part.cells c ≡ Some x → x.external ≡ true → slice_get main.cells c ≡ Some x
  own_cell c x e external =
      let whole : slice_get (main.cells ++ timer_cells main) c ≡ Some x = ap (λ cells. slice_get cells c) (sym (cells-lowered_component main)) ∙ e in
      ⊎_elim
      (λ less. let r = there_at main.cells c less in r.1 ∙ sym (front main.cells (timer_cells main) c r.0 r.1) ∙ whole)
      (λ past. let same : c ≡ length main.cells + (c - length main.cells) = omega arith in
      let timer : slice_get (timer_cells main) (c - length main.cells) ≡ Some x = sym (slice_right main.cells (timer_cells main) (c - length main.cells)) ∙ ap (slice_get (main.cells ++ timer_cells main)) (sym same) ∙ whole in
      absurd (not_both x.external external (timers_inside x (in_at (timer_cells main) (c - length main.cells) x timer))))
      (cases_lt c (length main.cells))

  record IsMemory (c : ℕ) (cell : PlainCell) : Type 0 where
    own : PlainCell
    stands : slice_get main.cells c ≡ Some own
    external : own.external ≡ true
    made : cell_in (order (lowered_of d)) own ≡ cell

  memory_at : (c : ℕ) (cell : PlainCell) → slice_get (wired_in d main).cells c ≡ Some cell → cell.external ≡ true → IsMemory c cell
  memory_at c cell e external = by (slice_get main_low.part.cells c) refl (sym (slice_get-map (cell_in (order (lowered_of d))) main_low.part.cells c) ∙ e)
    where
      some_same : (a b : PlainCell) → Some a ≡ Some b → a ≡ b
      some_same a b g = cc

      by : (found : Option PlainCell) → slice_get main_low.part.cells c ≡ found → option_map (cell_in (order (lowered_of d))) found ≡ Some cell → IsMemory c cell
      by None is f = absurd cc
      by (Some x) is f =
          let made = some_same (cell_in (order (lowered_of d)) x) cell f in
          let outer : x.external ≡ true = ap (λ (y : PlainCell). y.external) made ∙ external in
          record { own = x; stands = own_cell c x is outer; external = outer; made = made }

  numbers_same : (kind : PlainKind) → numbers_of (kind_in (order (lowered_of d)) kind) ≡ numbers_of kind
  numbers_same (OfPrimitive primitive) = refl
  numbers_same (OfComponent j) = refl

  narrow : (kind : PlainKind) → IsExternal d d.main kind → first_number (numbers_of kind) ≤ 64
  narrow (OfPrimitive primitive) is = is.2
  narrow (OfComponent j) is = absurd is

  memory_writable : (c : ℕ) (cell : PlainCell) → slice_get (wired_in d main).cells c ≡ Some cell → cell.external ≡ true → IsWritableExternal cell
  memory_writable c cell e external =
      let m = memory_at c cell e external in
      let i = in_at main.cells c m.own m.stands in
      subst IsWritableExternal m.made
      (record {
        word = can.words m.own i m.external;
        few_bits = subst (λ ns. first_number ns ≤ 64) (sym (numbers_same m.own.kind)) (narrow m.own.kind (((rules.components d.main rules.main_there).cells m.own i).external m.external));
      })

  memories_apart : (c e : ℕ) (cell other : PlainCell) → slice_get (wired_in d main).cells c ≡ Some cell → cell.external ≡ true → slice_get (wired_in d main).cells e ≡ Some other → other.external ≡ true → cell.name ≡ other.name → c ≡ e
  memories_apart c e cell other is external also outer same =
      let m = memory_at c cell is external in
      let n = memory_at e other also outer in
      let names : m.own.name ≡ n.own.name = ap (λ (x : PlainCell). x.name) m.made ∙ same ∙ ap (λ (x : PlainCell). x.name) (sym n.made) in
      let first : slice_get (map (λ (x : PlainCell). x.name) main.cells) c ≡ Some m.own.name = slice_get-map (λ (x : PlainCell). x.name) main.cells c ∙ ap (option_map (λ (x : PlainCell). x.name)) m.stands in
      let second : slice_get (map (λ (x : PlainCell). x.name) main.cells) e ≡ Some m.own.name =
      slice_get-map (λ (x : PlainCell). x.name) main.cells e ∙ ap (option_map (λ (x : PlainCell). x.name)) n.stands ∙ ap Some (sym names) in
      (rules.components d.main rules.main_there).cell_names c e m.own.name first second (λ empty. no_name (ap is_word (sym empty) ∙ can.words m.own (in_at main.cells c m.own m.stands) m.external))
    where
      no_name : is_word [] ≡ true → ⊥
      no_name g = cc

  few_components : length (net_of (lowered_of d)).components < 2 ^ 64
  few_components =
      let long : length (net_of (lowered_of d)).components ≡ length (order (lowered_of d)) = net_long d rules in
      let among : length (order (lowered_of d)) ≤ length (numbers_from 0 (length d.components)) =
      few_apart (order (lowered_of d)) (numbers_from 0 (length d.components)) (distinct_order (lowered_of d)) (λ j h. let less = there d rules j h in number_from j 0 (length d.components) (omega arith) (omega (arith, less))) in
      let count : length (numbers_from 0 (length d.components)) ≡ length d.components = length-numbers_from 0 (length d.components) in
      let many : length d.components ≤ design_size d = sizes_many d.components in
      let small : design_size d < 2 ^ 32 = rules.few_parts in
      omega arith

  abbrev no_numbers : Instance → NetState → ℕ → ℕ
  no_numbers i s n = 0

  -- THE NET can be written
  pub net_writable : IsWritable (net_of (lowered_of d))
  net_writable = record {
    few = few_components;
    components = λ n less.
        let r = there_at (order (lowered_of d)) n (subst (λ m. n < m) (net_long d rules) less) in
        let here : has_number r.0 (order (lowered_of d)) ≡ true = in_number r.0 (order (lowered_of d)) (in_at (order (lowered_of d)) n r.0 r.1) in
        subst IsWritableComponent (sym (stands_at d rules n r.0 r.1)) (component_writable r.0 here);
    main_last = main_last d rules;
    no_inputs = ap (λ (x : PlainNetComponent). x.inputs) (placed d rules d.main main_here) ∙ rules.main_bare.0;
    no_outputs = ap (λ (x : PlainNetComponent). x.outputs) (placed d rules d.main main_here) ∙ rules.main_bare.1;
    externals = subst (λ (x : PlainNetComponent). (c : ℕ) (cell : PlainCell) → slice_get x.cells c ≡ Some cell → cell.external ≡ true → IsWritableExternal cell) (sym (placed d rules d.main main_here)) memory_writable;
    externals_apart = subst (λ (x : PlainNetComponent). (c e : ℕ) (cell other : PlainCell) → slice_get x.cells c ≡ Some cell → cell.external ≡ true → slice_get x.cells e ≡ Some other → other.external ≡ true → cell.name ≡ other.name → c ≡ e)
        (sym (placed d rules d.main main_here)) memories_apart;
    nets = net_nets d rules can.parts no_numbers flat accepted;
    instances = net_instances d rules can.parts no_numbers flat accepted;
    words = net_words d rules can.parts no_numbers flat accepted;
  }
