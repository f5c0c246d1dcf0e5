-- THE NET OF AN ACCEPTED DESIGN fits.
use Rattle.std.proofs.Common.{◌≡◌, ℕ, zero, suc, ◌+◌, ◌<◌, ◌≤◌, Bool, true, false, List, [], ◌∷◌, length, replicate, Option, Some, None, slice_get, refl, ap, sym, ◌∙◌, subst, arith}
use Rattle.std.specs.Prelude.{◌^◌, option_map, option_and_then, unwrap_or, nat_lt, nat_eq, if◌then◌else◌}
use Rattle.std.proofs.lemmas.Option.{slice_get-map, slice_get-get_or}
use Rattle.cx_text.proofs.MemberLaws.{in_at, of_joined, each_append}
use Rattle.cx_meaning.specs.declared.ports.PortRef.TheVariants as ports
use Rattle.cx_meaning.specs.Designs.{PlainKind, OfPrimitive, OfComponent, PlainCell, PlainComponent, PlainDesign, no_component, component_at}
use Rattle.cx_text.specs.Members.{In, Each}
use Rattle.cx_rules.specs.Flat.{IsFlat}
use Rattle.cx_rules.specs.Accepted.{IsAccepted}
use Rattle.cx_rules.specs.Items.{Dynamic, visit}
use Rattle.cx_rules.specs.Sizes.{size_of, sizes_of, design_size}
use Rattle.cx_rules.specs.Wellformed.{IsKind, IsExternal, IsDesign}
use Rattle.cx_net.specs.Nets.{PlainNetTarget, ToPort, ToRegister, ToWire, ToHole, ToDone, PlainNetDriver, PlainNetComponent, PlainNet}
use Rattle.cx_net.specs.NetMeaning.{drivers_to}
use Rattle.cx_net.specs.NetFits as fits
use Rattle.cx_net.specs.NetFits.{IsFitDriver, IsFitKind, IsFitComponent, IsExternalKind, IsFit}
use Rattle.cx_static.specs.Islands.{PlainLowered}
use Rattle.cx_static.specs.Lowering.{after, unlowered, lowered_component, lowered_of}
use Rattle.cx_wiring.specs.Counts.{wires_of, registers_of}
use Rattle.cx_wiring.specs.IslandDrivers.{island_wires}
use Rattle.cx_wiring.specs.Control.{control_drivers}
use Rattle.cx_wiring.specs.Assignments.{driven_assigns, assigns_wires, assigns_drivers}
use Rattle.cx_wiring.specs.Trees.{by_target, tree_widths}
use Rattle.cx_wiring.specs.Reached.{has_number, place_in, order}
use Rattle.cx_wiring.specs.Wiring.{groups, first_of_control, first_of_assigns, bits, plain_wires, component_registers, plain_drivers, component_driven, width_in_part, kind_width, port_width, known_width, target_width, kind_in, cell_in, net_of}
use Rattle.cx_wiring.specs.PartNets.{timer_cells, wired_in}
use Rattle.cx_wiring.specs.Bounds.{IsProper, AllDrive}
use Rattle.cx_wiring.specs.Fitting.{HasFrom, HasRowKind, CellFits, IslandFits, Drives}
use Rattle.cx_wiring.proofs.RoomLemmas.{drive_both, Room, Wires}
use Rattle.cx_wiring.proofs.ControlTargets.{control_drives}
use Rattle.cx_wiring.proofs.AssignTargets.{assigns_drive}
use Rattle.cx_wiring.proofs.TreeTargets.{by_target_drive, all_driven}
use Rattle.cx_wiring.proofs.NetTargets.{plain_wires_count, bit_wire}
use Rattle.std.proofs.lemmas.Bool.{ne_eqb}
use Rattle.cx_wiring.proofs.RankLemmas.{by_target_sorted}
use Rattle.cx_wiring.proofs.DrivenLemmas.{driven_entries}
use Rattle.cx_wiring.proofs.ComponentTakes.{IsPlain, plain_both, not_wires}
use Rattle.cx_wiring.proofs.TreeCounts.{trees_few}
use Rattle.cx_wiring.proofs.MainLaws.{order_main}
use Rattle.cx_wiring.proofs.NumberLemmas.{in_number}
use Rattle.cx_wiring.proofs.TimerCells.{cells-lowered_component}
use Rattle.cx_wiring.proofs.WayLemmas.{count_is, part_there, there, placed, net_long}
use Rattle.cx_wiring.proofs.DesignNames.{control_named, islands_named, assigns_named}
use Rattle.cx_wiring.proofs.FitLemmas.{are_at, are_each, are_more, slice_right, slice_replicate, from_whole}
use Rattle.cx_wiring.proofs.OrderHeights.{closed, cell_first, stands_at, no_timer}
use Rattle.cx_wiring.proofs.FitGuards.{IsBit, assigns_fit}
use Rattle.cx_wiring.proofs.FitControl.{control_fits}
use Rattle.cx_wiring.proofs.FitBundles.{are_driving, Fits, trees_fit}
use Rattle.cx_wiring.proofs.FitLowering.{IslandHolds, IslandsHold, IsShort, statement_holds, statement_lowers, lowered_few}
use Rattle.cx_wiring.proofs.FitPorts.{net, npart, part_back}
use Rattle.cx_wiring.proofs.FitRules.{statement_fine, groups_last, assigns_fine}
use Rattle.cx_text.proofs.ListLaws.{there_at, front}

-- the size of a component is no more than that of its design
pub size_among : (parts : List PlainComponent) (k : ℕ) (part : PlainComponent) → slice_get parts k ≡ Some part → size_of part < sizes_of parts
size_among [] k part e = absurd cc
size_among (x ∷ parts) zero part e =
    let same : x ≡ part = cc in
    let all : size_of x + 1 + sizes_of parts ≡ sizes_of (x ∷ parts) = refl in
    subst (λ y. size_of y < sizes_of (x ∷ parts)) same (omega (arith, all))
size_among (x ∷ parts) (suc k) part e =
    let later : size_of part < sizes_of parts = size_among parts k part e in
    let all : size_of x + 1 + sizes_of parts ≡ sizes_of (x ∷ parts) = refl in
    omega (arith, all)

module _ (d : PlainDesign) (rules : IsDesign d) (flat : IsFlat d) (accepted : IsAccepted d) (k : ℕ) (here : has_number k (order (lowered_of d)) ≡ true) where
  abbrev part : PlainComponent
  part = component_at d k

  abbrev low : PlainLowered
  low = lowered_component part

  abbrev N : PlainNet
  N = net d rules k here

  abbrev C : PlainNetComponent
  C = npart d rules k here

  within : k < length d.components
  within = there d rules k here

  abbrev wide_wires : List ℕ
  wide_wires = replicate (groups low) 32

  abbrev narrow_wires : List ℕ
  narrow_wires = replicate (bits low) 1

  abbrev inner : List ℕ
  inner = tree_widths (target_width (lowered_of d) low) (component_driven low)

  -- WIRES: of offsets, of one bit, of trees
  plain_bit : (n : ℕ) → groups low ≤ n → n < groups low + bits low → slice_get C.wires n ≡ Some 1
  plain_bit n from to = front (plain_wires low) inner n 1 (bit_wire (groups low) (bits low) n from to)

  offset_wire : (g : ℕ) → g < length part.groups → slice_get C.wires g ≡ Some 32
  offset_wire g less = front (plain_wires low) inner g 32 (front wide_wires narrow_wires g 32 (slice_replicate 32 (groups low) g less))

  inner_wire : HasFrom C.wires (length (plain_wires low)) inner
  inner_wire i w e = slice_right (plain_wires low) inner i ∙ e

  goes_there : (g : ℕ) → g < length part.groups → length part.groups + g < C.holes
  goes_there g less = omega arith

  -- ISLANDS AND CONTROL
  cell_fits : (cell : PlainCell) → In part.cells cell → CellFits cell
  cell_fits cell i = let is = (rules.components k within).cells cell i in record { row = row_of_kind cell.kind is.kind; memory = λ e. external_of_kind cell.kind (is.external e) }
    where
      row_of_kind : (kind : PlainKind) → IsKind d kind → HasRowKind kind
      row_of_kind (OfPrimitive primitive) is = is.0
      row_of_kind (OfComponent j) is = tt

      external_of_kind : (kind : PlainKind) → IsExternal d k kind → IsExternalKind kind
      external_of_kind (OfPrimitive primitive) is = is.1
      external_of_kind (OfComponent j) is = is

  islands_hold : IslandsHold N C part (after part part.control (unlowered part))
  islands_hold =
      statement_holds N C part (groups_last d rules flat accepted k here) part.control (unlowered part) (λ v i. statement_fine d rules flat accepted k here v i)
      (record { cells = are_each CellFits part.cells cell_fits; islands = tt })

  few_statements : length (visit Dynamic low.part.control) < 2 ^ 32
  few_statements =
      let lowered : length (visit Dynamic low.part.control) ≤ length (visit Dynamic part.control) = lowered_few part part.control (unlowered part) in
      let sized : size_of part < design_size d = size_among d.components k part (slice_get-get_or d.components k no_component within) in
      let small : design_size d < 2 ^ 32 = rules.few_parts in
      let all : length (visit Dynamic part.control) ≤ size_of part = omega arith in
      omega arith

  wires_all : bits low ≡ island_wires low.islands + wires_of low.part.control + assigns_wires (driven_assigns low)
  wires_all = refl

  plain_drive : Each (Drives N C) (plain_drivers low)
  plain_drive =
      let of_control : Wires (IsBit N C) (first_of_control low) (wires_of low.part.control) = record {
        among = λ n from to. let above : groups low ≤ n = omega arith in let below : n < groups low + bits low = omega (arith, wires_all) in plain_bit n above below;
      } in
      let of_assigns : Wires (IsBit N C) (first_of_assigns low) (assigns_wires (driven_assigns low)) = record {
        among = λ n from to. let above : groups low ≤ n = omega arith in let below : n < groups low + bits low = omega (arith, wires_all) in plain_bit n above below;
      } in
      each_append (Drives N C) (control_drivers (groups low) low.islands (first_of_control low) low.part.control) (assigns_drivers (groups low) (first_of_assigns low) (driven_assigns low))
      (control_fits N C (groups low) low.islands (order (lowered_of d)) low.part.cells refl offset_wire goes_there
      (λ n from to. let below : n < groups low + bits low = omega (arith, wires_all) in plain_bit n from below)
      (are_more (IslandHolds N C part low.part.cells) (IslandFits N C (groups low) low.part.cells) (λ island h. h.fits) low.islands islands_hold.islands)
      (first_of_control low) low.part.control (control_named d rules k within) (statement_lowers N C part part.control (unlowered part) (λ v i. statement_fine d rules flat accepted k here v i)) of_control
      (from_whole (component_registers low)) few_statements)
      (assigns_fit N C (groups low) offset_wire goes_there (driven_assigns low) (first_of_assigns low)
      (assigns_fine d rules flat accepted k here (are_more (IslandHolds N C part low.part.cells) (λ island. Each (IsShort N C part) island.occurrences) (λ island h. h.short) low.islands islands_hold.islands)) of_assigns)

  -- no driver of a component, without those of bundles, drives a wire of a tree
  abbrev pub IsBefore : PlainNetTarget → Type 0
  IsBefore (ToPort p) = Unit {0}
  IsBefore (ToRegister n) = Unit {0}
  IsBefore (ToWire n) = n < length (plain_wires low)
  IsBefore (ToHole n) = Unit {0}
  IsBefore ToDone = Unit {0}

  pub plain_before : AllDrive IsBefore (plain_drivers low)
  plain_before =
      let count : length (plain_wires low) ≡ groups low + bits low = plain_wires_count low in
      let of_control : Room IsBefore (first_of_control low) 0 (wires_of low.part.control) (suc (length (registers_of low.islands low.part.control))) = record {
        wire_in = λ n from to. let below : n < length (plain_wires low) = omega (arith, wires_all) in below;
        register_in = λ n from to. tt;
      } in
      let of_assigns : Wires IsBefore (first_of_assigns low) (assigns_wires (driven_assigns low)) = record { among = λ n from to. let below : n < length (plain_wires low) = omega (arith, wires_all) in below } in
      drive_both IsBefore _ _
      (control_drives IsBefore (λ p. tt) (groups low) low.islands (λ n less. let below : n < length (plain_wires low) = omega (arith, wires_all) in below) (λ g less. tt) (islands_named d rules k within) tt
      (first_of_control low) low.part.control (control_named d rules k within) of_control)
      (assigns_drive IsBefore (λ p. tt) (groups low) (λ g less. tt) (driven_assigns low) (first_of_assigns low) (assigns_named d rules k within) of_assigns)

  -- WIDTHS of targets are those that wires of trees have
  cell_component : (cell : PlainCell) (j : ℕ) → In low.part.cells cell → cell.kind ≡ OfComponent j → has_number j (order (lowered_of d)) ≡ true
  cell_component cell j i is =
      of_joined part.cells (timer_cells part) cell (subst (λ cells. In cells cell) (cells-lowered_component part) i)
      (λ m. closed d rules k here cell j m is) (λ m. absurd (no_timer d rules k j cell m is))

  kind_same : (kind : PlainKind) (p w : ℕ) → ((j : ℕ) → kind ≡ OfComponent j → has_number j (order (lowered_of d)) ≡ true) → fits.kind_width N (kind_in (order (lowered_of d)) kind) p ≡ Some w
      → kind_width (lowered_of d) low kind p ≡ Some w
  kind_same (OfPrimitive primitive) p w among e = e
  kind_same (OfComponent j) p w among e =
      let there_too = among j refl in
      ap (λ o. width_in_part (lowered_of d) low o p) (part_there d rules j (there d rules j there_too))
      ∙ part_back (component_at d j) p w (ap (λ x. slice_get (fits.signature_widths x) p) (sym (placed d rules j there_too)) ∙ e)

  cell_same : (found : Option PlainCell) (c p w : ℕ) → slice_get low.part.cells c ≡ found → option_and_then (λ cell. fits.kind_width N cell.kind p) (option_map (cell_in (order (lowered_of d))) found) ≡ Some w
      → port_width (lowered_of d) low found p ≡ Some w
  cell_same None c p w is e = absurd cc
  cell_same (Some cell) c p w is e = kind_same cell.kind p w (λ j same. cell_component cell j (in_at low.part.cells c cell is) same) e

  some_width : (o : Option ℕ) (w : ℕ) → o ≡ Some w → unwrap_or o 1 ≡ w
  some_width o w e = ap (λ x. unwrap_or x 1) e

  hole_width : (b : Bool) (w : ℕ) → (if b then Some 1 else None) ≡ Some w → 1 ≡ w
  hole_width true w e = cc
  hole_width false w e = absurd cc

  same_width : (t : PlainNetTarget) → IsProper t → IsBefore t → (w : ℕ) → fits.target_width N C t ≡ Some w → target_width (lowered_of d) low t ≡ w
  same_width (ToPort (ports.Cell c p)) proper before w e =
      some_width (port_width (lowered_of d) low (slice_get low.part.cells c) p) w
      (cell_same (slice_get low.part.cells c) c p w refl (ap (option_and_then (λ cell. fits.kind_width N cell.kind p)) (sym (slice_get-map (cell_in (order (lowered_of d))) low.part.cells c)) ∙ e))
  same_width (ToPort (ports.Output n)) proper before w e = some_width (known_width (lowered_of d) low (ToPort (ports.Output n))) w e
  same_width (ToPort (ports.Input n)) proper before w e = absurd proper
  same_width (ToPort (ports.Done g)) proper before w e = absurd proper
  same_width (ToPort (ports.Literal u v)) proper before w e = absurd proper
  same_width (ToRegister n) proper before w e = some_width (known_width (lowered_of d) low (ToRegister n)) w e
  same_width (ToWire n) proper before w e =
      let r = there_at (plain_wires low) n before in
      some_width (known_width (lowered_of d) low (ToWire n)) w (r.1 ∙ sym (front (plain_wires low) inner n r.0 r.1) ∙ e)
  same_width (ToHole n) proper before w e = hole_width (nat_lt n C.holes) w e
  same_width ToDone proper before w e = cc

  -- ALL DRIVERS of a component drive what is there and may be driven, at one width
  pub component_drives : Each (Drives N C) C.drivers
  component_drives =
      trees_fit N C (target_width (lowered_of d) low) (plain_drivers low) (length (plain_wires low))
      (are_driving (Drives N C) (Fits N C (target_width (lowered_of d) low)) IsBefore
      (λ driver a before.
      let same = same_width driver.target a.proper before a.width a.target in
      record {
        proper = a.proper;
        target = a.target ∙ ap Some (sym same);
        sourced = record { guard = a.guard; source = subst (λ w. fits.HasWidth N C driver.source w) (sym same) a.source };
      })
      (plain_drivers low) plain_drive plain_before)
      inner_wire

  -- the drivers without those of bundles drive what may be driven, and no wire of a tree
  plain_all : (ds : List PlainNetDriver) → Each (Drives N C) ds → AllDrive IsBefore ds → AllDrive (IsPlain (length (plain_wires low))) ds
  plain_all [] fit before = tt
  plain_all (driver ∷ ds) fit before = (plain_one driver.target fit.0.proper before.0, plain_all ds fit.1 before.1)
    where
      plain_one : (t : PlainNetTarget) → IsProper t → IsBefore t → IsPlain (length (plain_wires low)) t
      plain_one (ToPort (ports.Cell c p)) proper earlier = (tt, λ m from. refl)
      plain_one (ToPort (ports.Output n)) proper earlier = (tt, λ m from. refl)
      plain_one (ToPort (ports.Input n)) proper earlier = absurd proper
      plain_one (ToPort (ports.Done g)) proper earlier = absurd proper
      plain_one (ToPort (ports.Literal u v)) proper earlier = absurd proper
      plain_one (ToRegister n) proper earlier = (tt, λ m from. refl)
      plain_one (ToWire n) proper earlier = (tt, λ m from. ne_eqb n m (λ e. omega arith))
      plain_one (ToHole n) proper earlier = (tt, λ m from. refl)
      plain_one ToDone proper earlier = (tt, λ m from. refl)

  pub drivers_plain : AllDrive (IsPlain (length (plain_wires low))) (plain_drivers low)
  drivers_plain = plain_all (plain_drivers low) plain_drive plain_before

  all_proper : (ds : List PlainNetDriver) → Each (Drives N C) ds → AllDrive IsProper ds
  all_proper [] fit = tt
  all_proper (driver ∷ ds) fit = (fit.0.proper, all_proper ds fit.1)

  -- NO TARGET has more than 17 drivers
  pub targets_few : (t : PlainNetTarget) → length (drivers_to t C.drivers) ≤ 17
  targets_few =
      let proper = plain_both (length (plain_wires low)) (plain_drivers low) drivers_plain in
      trees_few (component_driven low) (length (plain_wires low))
      (driven_entries (by_target (plain_drivers low)) (by_target_drive IsProper (plain_drivers low) proper) (by_target_sorted (plain_drivers low))).0
      (not_wires (length (plain_wires low)) (component_driven low)
      (all_driven (IsPlain (length (plain_wires low))) (by_target (plain_drivers low)) (by_target_drive (IsPlain (length (plain_wires low))) (plain_drivers low) drivers_plain)))
      (all_proper C.drivers component_drives)

  -- CELLS
  kind_fits : (kind : PlainKind) → HasRowKind kind → (n : ℕ) → ((j : ℕ) → kind ≡ OfComponent j → place_in j (order (lowered_of d)) < n) → IsFitKind n (kind_in (order (lowered_of d)) kind)
  kind_fits (OfPrimitive primitive) row n below = row
  kind_fits (OfComponent j) row n below = below j refl

  external_in : (kind : PlainKind) → IsExternalKind kind → IsExternalKind (kind_in (order (lowered_of d)) kind)
  external_in (OfPrimitive primitive) is = is
  external_in (OfComponent j) is = is

  abbrev lowered_cell : ℕ → PlainCell → Type 0
  lowered_cell c cell = (x : PlainCell) × (slice_get low.part.cells c ≡ Some x) × (cell_in (order (lowered_of d)) x ≡ cell)

  cell_from : (c : ℕ) (cell : PlainCell) → slice_get C.cells c ≡ Some cell → lowered_cell c cell
  cell_from c cell e = by (slice_get low.part.cells c) refl (sym (slice_get-map (cell_in (order (lowered_of d))) low.part.cells c) ∙ e)
    where
      by : (found : Option PlainCell) → slice_get low.part.cells c ≡ found → option_map (cell_in (order (lowered_of d))) found ≡ Some cell → lowered_cell c cell
      by None is f = absurd cc
      by (Some x) is f = (x, is, some_same (cell_in (order (lowered_of d)) x) cell f)
        where
          some_same : (a b : PlainCell) → Some a ≡ Some b → a ≡ b
          some_same a b g = cc

  pub component_cells : (n : ℕ) → slice_get (order (lowered_of d)) n ≡ Some k → (c : ℕ) (cell : PlainCell) → slice_get C.cells c ≡ Some cell → IsFitKind n cell.kind
  component_cells n is c cell e =
      let r = cell_from c cell e in
      subst (λ (x : PlainCell). IsFitKind n x.kind) r.2
      (kind_fits r.0.kind (are_at CellFits low.part.cells islands_hold.cells c r.0 r.1).row n
      (λ j same. of_joined part.cells (timer_cells part) r.0 (subst (λ cells. In cells r.0) (cells-lowered_component part) (in_at low.part.cells c r.0 r.1))
      (λ m. cell_first d rules n k is r.0 j m same) (λ m. absurd (no_timer d rules k j r.0 m same))))

  pub component_externals : (c : ℕ) (cell : PlainCell) → slice_get C.cells c ≡ Some cell → cell.external ≡ true → IsExternalKind cell.kind
  component_externals c cell e external =
      let r = cell_from c cell e in
      subst (λ (x : PlainCell). IsExternalKind x.kind) r.2
      (external_in r.0.kind ((are_at CellFits low.part.cells islands_hold.cells c r.0 r.1).memory (ap (λ (x : PlainCell). x.external) r.2 ∙ external)))

place_below : (k : ℕ) (ns : List ℕ) → has_number k ns ≡ true → place_in k ns < length ns
place_below k [] h = absurd (never h)
  where
    never : false ≡ true → ⊥
    never e = cc
place_below k (n ∷ rest) h = by (nat_eq k n) (has_number k rest) (place_below k rest)
  where
    by : (same here : Bool) → (here ≡ true → place_in k rest < length rest) → (if same then 0 else (if here then suc (place_in k rest) else 0)) < suc (length rest)
    by true here later = omega arith
    by false true later = let less : place_in k rest < length rest = later refl in omega arith
    by false false later = omega arith

module _ (d : PlainDesign) (rules : IsDesign d) (flat : IsFlat d) (accepted : IsAccepted d) where
  main_here : has_number d.main (order (lowered_of d)) ≡ true
  main_here = order_main (lowered_of d) (subst (λ n. d.main < n) (sym (count_is d rules)) rules.main_there)

  component_fits : (n k : ℕ) → slice_get (order (lowered_of d)) n ≡ Some k → IsFitComponent (net_of (lowered_of d)) n
  component_fits n k is =
      let here = in_number k (order (lowered_of d)) (in_at (order (lowered_of d)) n k is) in
      let same = stands_at d rules n k is in
      record {
        drivers = subst (λ (c : PlainNetComponent). (m : ℕ) (driver : PlainNetDriver) → slice_get c.drivers m ≡ Some driver → IsFitDriver (net_of (lowered_of d)) c driver) (sym same)
            (λ m driver e.
            let a = are_at (Drives (net_of (lowered_of d)) (wired_in d (component_at d k))) (wired_in d (component_at d k)).drivers (component_drives d rules flat accepted k here) m driver e in
            record { guard = a.guard; source = λ w f. subst (λ v. fits.HasWidth (net_of (lowered_of d)) (wired_in d (component_at d k)) driver.source v) (some_same a.width w (sym a.target ∙ f)) a.source });
        cells = subst (λ (c : PlainNetComponent). (m : ℕ) (cell : PlainCell) → slice_get c.cells m ≡ Some cell → IsFitKind n cell.kind) (sym same) (component_cells d rules flat accepted k here n is);
      }
    where
      some_same : (v w : ℕ) → Some v ≡ Some w → v ≡ w
      some_same v w e = cc

  -- THE NET OF AN ACCEPTED DESIGN FITS
  pub net_fits : IsFit (net_of (lowered_of d))
  net_fits = record {
    has_main = subst (λ n. place_in d.main (order (lowered_of d)) < n) (sym (net_long d rules)) (place_below d.main (order (lowered_of d)) main_here);
    externals = subst (λ (c : PlainNetComponent). (m : ℕ) (cell : PlainCell) → slice_get c.cells m ≡ Some cell → cell.external ≡ true → IsExternalKind cell.kind) (sym (placed d rules d.main main_here))
        (component_externals d rules flat accepted d.main main_here);
    components = λ n less.
        let r = there_at (order (lowered_of d)) n (subst (λ m. n < m) (net_long d rules) less) in
        component_fits n r.0 r.1;
  }
