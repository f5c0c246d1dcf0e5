-- A net without holes can be written where the net can, if the wires that stand for its holes leave its nets few enough.
use Rattle.std.proofs.Common.{◌≡◌, ℕ, zero, suc, ◌+◌, ◌-◌, ◌<◌, ◌≤◌, Bool, true, false, if◌then◌else◌, List, [], ◌∷◌, ◌++◌, length, map, replicate, Some, slice_get, ⊎_elim, refl, sym, ap, ◌∙◌, subst, arith}
use Rattle.std.specs.Prelude.{All, ◌^◌}
use Rattle.std.proofs.lemmas.Bool.{cases_lt, ne_eqb}
use Rattle.std.proofs.lemmas.List.{length-map}
use Rattle.std.proofs.lemmas.List.Elements.{All-nil, All-cons, All-head, All-tail}
use Rattle.cx_prim.specs.Widths.{IsWidth}
use Rattle.cx_meaning.specs.declared.ports.PortRef.TheVariants as ports
use Rattle.cx_meaning.specs.Designs.{PlainCell}
use Rattle.cx_net.specs.Nets.{PlainNetExpr, OfPort, OfRegister, OfWire, OfHole, OfGo, Fixed, Inverse, AllOf, AnyOf, Sum, Compares, PlainNetExprs, no_exprs, an_expr, PlainNetTarget, ToPort, ToRegister, ToWire, ToHole, ToDone, PlainNetDriver, PlainNetComponent, PlainNet}
use Rattle.cx_net.specs.NetTree.{NetInstance, NetNode, NetCells, no_net_cells, a_row, a_child, net_component_at, net_tree}
use Rattle.cx_net.specs.NetMeaning.{same_target, drivers_to}
use Rattle.cx_net.specs.NetLimits.{StandsIn, AllStandIn, parts_of, IsWritableDriver, IsWritableComponent, IsWritableExternal, nets_below, instances_below, instances_in, words_below, words_in, IsWritable}
use Rattle.cx_holes.specs.Inlining.{inlined_expr, inlined_exprs, inlined_target, inlined_driver, inlined_component, inlined}
use Rattle.cx_holes.specs.Names.{TargetNames, DriversName, ComponentNames, NetNames, HasFewWires}
use Rattle.cx_holes.specs.Renamed.{inlined_tree, inlined_cells}
use Rattle.cx_holes.proofs.CellLemmas.{cells-inlined}
use Rattle.cx_holes.proofs.RenamedSteps.{drivers_same}
use Rattle.cx_holes.proofs.RenamedRuns.{counted, part_same, part_names, tree_same}

-- EXPRESSIONS nest as they did
parts_same : (first : ℕ) (es : PlainNetExprs) → parts_of (inlined_exprs first es) ≡ parts_of es
parts_same first no_exprs = refl
parts_same first (an_expr e es) = ap (λ n. suc n) (parts_same first es)

mutual
  stands : (first levels : ℕ) (e : PlainNetExpr) → StandsIn levels e → StandsIn levels (inlined_expr first e)
  stands first levels (OfPort p) h = h
  stands first levels (OfRegister n) h = tt
  stands first levels (OfWire n) h = tt
  stands first levels (OfHole n) h = tt
  stands first levels OfGo h = tt
  stands first levels (Fixed b) h = tt
  stands first levels (Inverse e) h = (h.0, stands first (levels - 1) e h.1)
  stands first levels (AllOf es) h = (h.0, h.1, h.2, subst (λ n. n ≤ 2 ^ h.0) (sym (parts_same first es)) h.3, all_stand first (levels - h.0) es h.4)
  stands first levels (AnyOf es) h = (h.0, h.1, h.2, subst (λ n. n ≤ 2 ^ h.0) (sym (parts_same first es)) h.3, all_stand first (levels - h.0) es h.4)
  stands first levels (Sum a b) h = (h.0, stands first (levels - 1) a h.1, stands first (levels - 1) b h.2)
  stands first levels (Compares c a b) h = (h.0, stands first (levels - 1) a h.1, stands first (levels - 1) b h.2)

  all_stand : (first levels : ℕ) (es : PlainNetExprs) → AllStandIn levels es → AllStandIn levels (inlined_exprs first es)
  all_stand first levels no_exprs h = tt
  all_stand first levels (an_expr e es) h = (stands first levels e h.0, all_stand first levels es h.1)

drivers_written : (first : ℕ) (ds : List PlainNetDriver) → All IsWritableDriver ds → All IsWritableDriver (map (inlined_driver first) ds)
drivers_written first [] h = All-nil IsWritableDriver
drivers_written first (d ∷ ds) h =
    let own = All-head IsWritableDriver d ds h in
    All-cons IsWritableDriver (inlined_driver first d) (map (inlined_driver first) ds) (record { guard = stands first 47 d.guard own.guard; source = stands first 47 d.source own.source })
    (drivers_written first ds (All-tail IsWritableDriver d ds h))

-- CHAINS: a wire that stands for a hole has the drivers of the hole
module _ (wires holes : ℕ) where
  -- none of these drives the target
  none_drives : (t : PlainNetTarget) (ds : List PlainNetDriver) → ((d : PlainNetDriver) → DriversName wires holes (d ∷ []) → same_target (inlined_target wires d.target) t ≡ false) → DriversName wires holes ds
      → drivers_to t (map (inlined_driver wires) ds) ≡ []
  none_drives t [] other names = refl
  none_drives t (d ∷ ds) other names =
      ap (λ b. if b then inlined_driver wires d ∷ drivers_to t (map (inlined_driver wires) ds) else drivers_to t (map (inlined_driver wires) ds)) (other d (names.0, tt)) ∙ none_drives t ds other names.1

  no_wire : (n : ℕ) → wires + holes ≤ n → (d : PlainNetDriver) → DriversName wires holes (d ∷ []) → same_target (inlined_target wires d.target) (ToWire n) ≡ false
  no_wire n over d names = by d.target names.0.target
    where
      by : (t : PlainNetTarget) → TargetNames wires holes t → same_target (inlined_target wires t) (ToWire n) ≡ false
      by (ToPort (ports.Cell c p)) h = refl
      by (ToPort (ports.Input m)) h = refl
      by (ToPort (ports.Output m)) h = refl
      by (ToPort (ports.Done g)) h = refl
      by (ToPort (ports.Literal w v)) h = refl
      by (ToRegister m) h = refl
      by (ToWire m) h = ne_eqb m n (λ e. let same : m ≡ n = e in let less : m < wires = h in absurd (omega arith))
      by (ToHole m) h = ne_eqb (wires + m) n (λ e. let same : wires + m ≡ n = e in let less : m < holes = h in absurd (omega arith))
      by ToDone h = refl

  no_hole : (n : ℕ) (d : PlainNetDriver) → DriversName wires holes (d ∷ []) → same_target (inlined_target wires d.target) (ToHole n) ≡ false
  no_hole n d names = by d.target
    where
      by : (t : PlainNetTarget) → same_target (inlined_target wires t) (ToHole n) ≡ false
      by (ToPort (ports.Cell c p)) = refl
      by (ToPort (ports.Input m)) = refl
      by (ToPort (ports.Output m)) = refl
      by (ToPort (ports.Done g)) = refl
      by (ToPort (ports.Literal w v)) = refl
      by (ToRegister m) = refl
      by (ToWire m) = refl
      by (ToHole m) = refl
      by ToDone = refl

  module _ (ds : List PlainNetDriver) (names : DriversName wires holes ds) (short : (t : PlainNetTarget) → length (drivers_to t ds) ≤ 17) where
    as_before : (t : PlainNetTarget) → TargetNames wires holes t → length (drivers_to (inlined_target wires t) (map (inlined_driver wires) ds)) ≤ 17
    as_before t h =
        let same : length (drivers_to (inlined_target wires t) (map (inlined_driver wires) ds)) ≡ length (drivers_to t ds) =
        ap length (drivers_same wires holes t ds h names) ∙ length-map (drivers_to t ds) (inlined_driver wires) in
        let few : length (drivers_to t ds) ≤ 17 = short t in
        omega arith

    none_there : (t : PlainNetTarget) → drivers_to t (map (inlined_driver wires) ds) ≡ [] → length (drivers_to t (map (inlined_driver wires) ds)) ≤ 17
    none_there t e = let none : length (drivers_to t (map (inlined_driver wires) ds)) ≡ 0 = ap length e in omega arith

    -- a wire of a number that is left by the component's own is that of a hole, or is not there
    behind : (n : ℕ) → wires ≤ n → length (drivers_to (ToWire n) (map (inlined_driver wires) ds)) ≤ 17
    behind n past =
        let at : wires + (n - wires) ≡ n = omega arith in
        ⊎_elim
        (λ less. subst (λ m. length (drivers_to (ToWire m) (map (inlined_driver wires) ds)) ≤ 17) at (as_before (ToHole (n - wires)) less))
        (λ over. none_there (ToWire n) (none_drives (ToWire n) ds (no_wire n (omega arith)) names))
        (cases_lt (n - wires) holes)

    pub chains_short : (t : PlainNetTarget) → length (drivers_to t (map (inlined_driver wires) ds)) ≤ 17
    chains_short (ToPort p) = as_before (ToPort p) tt
    chains_short (ToRegister n) = as_before (ToRegister n) tt
    chains_short (ToWire n) = ⊎_elim (λ less. as_before (ToWire n) less) (λ past. behind n past) (cases_lt n wires)
    chains_short (ToHole n) = none_there (ToHole n) (none_drives (ToHole n) ds (no_hole n) names)
    chains_short ToDone = as_before ToDone tt

-- COMPONENTS
bits_wide : (holes : ℕ) → All IsWidth (replicate holes 1)
bits_wide zero = All-nil IsWidth
bits_wide (suc holes) = All-cons IsWidth 1 (replicate holes 1) (record { some_bits = omega arith; few_bits = omega arith }) (bits_wide holes)

wires_wide : (wires : List ℕ) (holes : ℕ) → All IsWidth wires → All IsWidth (wires ++ replicate holes 1)
wires_wide [] holes h = bits_wide holes
wires_wide (w ∷ wires) holes h = All-cons IsWidth w (wires ++ replicate holes 1) (All-head IsWidth w wires h) (wires_wide wires holes (All-tail IsWidth w wires h))

component_written : (part : PlainNetComponent) → ComponentNames part → length part.wires + part.holes < 2 ^ 64 → IsWritableComponent part → IsWritableComponent (inlined_component part)
component_written part names few h = record {
  input_widths = h.input_widths;
  output_widths = h.output_widths;
  register_widths = h.register_widths;
  wire_widths = wires_wide part.wires part.holes h.wire_widths;
  few_ports = h.few_ports;
  few_registers = h.few_registers;
  few_wires = subst (λ n. n < 2 ^ 64) (sym (counted part)) few;
  few_cells = h.few_cells;
  chains = chains_short (length part.wires) part.holes part.drivers names h.chains;
  drivers = drivers_written (length part.wires) part.drivers h.drivers;
}

-- INSTANCES and words are as many
mutual
  instances_same : (tree : NetInstance) → instances_below (inlined_tree tree) ≡ instances_below tree
  instances_same (NetNode part cells) = ap (λ n. 1 + n) (instances_in_same cells)

  instances_in_same : (cells : NetCells) → instances_in (inlined_cells cells) ≡ instances_in cells
  instances_in_same no_net_cells = refl
  instances_in_same (a_row row rest) = ap (λ n. 1 + n) (instances_in_same rest)
  instances_in_same (a_child child rest) =
      let one : instances_below (inlined_tree child) ≡ instances_below child = instances_same child in
      let more : instances_in (inlined_cells rest) ≡ instances_in rest = instances_in_same rest in
      omega arith

mutual
  words_same : (tree : NetInstance) → words_below (inlined_tree tree) ≡ words_below tree
  words_same (NetNode part cells) = words_in_same cells

  words_in_same : (cells : NetCells) → words_in (inlined_cells cells) ≡ words_in cells
  words_in_same no_net_cells = refl
  words_in_same (a_row row rest) = let more : words_in (inlined_cells rest) ≡ words_in rest = words_in_same rest in omega arith
  words_in_same (a_child child rest) =
      let one : words_below (inlined_tree child) ≡ words_below child = words_same child in
      let more : words_in (inlined_cells rest) ≡ words_in rest = words_in_same rest in
      omega arith

abbrev ExternalsWritten : List PlainCell → Type 0
ExternalsWritten cells = (c : ℕ) (cell : PlainCell) → slice_get cells c ≡ Some cell → cell.external ≡ true → IsWritableExternal cell

abbrev ExternalsApart : List PlainCell → Type 0
ExternalsApart cells = (c e : ℕ) (cell other : PlainCell) → slice_get cells c ≡ Some cell → cell.external ≡ true → slice_get cells e ≡ Some other → other.external ≡ true → cell.name ≡ other.name → c ≡ e

-- THE NET WITHOUT HOLES
pub inlined_writable : (net : PlainNet) → NetNames net → HasFewWires net → nets_below (net_tree (inlined net)) ≤ 4194304 → IsWritable net → IsWritable (inlined net)
inlined_writable net names few nets h =
    let same : length (map inlined_component net.components) ≡ length net.components = length-map net.components inlined_component in
    let tree = tree_same net in
    record {
      few = subst (λ n. n < 2 ^ 64) (sym same) h.few;
      components = λ k within. (
          let own : k < length net.components = subst (λ n. k < n) same within in
          subst IsWritableComponent (sym (part_same net.components k)) (component_written (net_component_at net k) (part_names net.components k names) (few k own) (h.components k own)));
      main_last = h.main_last ∙ sym same;
      no_inputs = ap (λ (part : PlainNetComponent). part.inputs) (part_same net.components net.main) ∙ h.no_inputs;
      no_outputs = ap (λ (part : PlainNetComponent). part.outputs) (part_same net.components net.main) ∙ h.no_outputs;
      externals = subst ExternalsWritten (sym (cells-inlined net net.main)) h.externals;
      externals_apart = subst ExternalsApart (sym (cells-inlined net net.main)) h.externals_apart;
      nets = nets;
      instances = subst (λ n. n ≤ 131072) (sym (ap instances_below tree ∙ instances_same (net_tree net))) h.instances;
      words = subst (λ n. n ≤ 4194304) (sym (ap words_below tree ∙ words_same (net_tree net))) h.words;
    }
