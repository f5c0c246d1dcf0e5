-- The net that is written for an accepted design within the size can be emitted, where the names of its external memories are words; and it has few nets.
use Rattle.std.proofs.Common.{◌≡◌, ℕ, ◌+◌, ◌*◌, ◌<◌, ◌≤◌, true, List, [], ◌∷◌, length, refl, sym, ap, ap₂, ◌∙◌, subst, arith}
use Rattle.std.specs.Prelude.{◌^◌}
use Rattle.std.proofs.lemmas.List.{length-map}
use Rattle.std.proofs.lemmas.Option.{slice_get-get_or}
use Rattle.cx_text.proofs.MemberLaws.{image_in, in_at, in_at as in_slice}
use Rattle.cx_ast.specs.PlainTree.{PlainTree}
use Rattle.cx_prim.specs.Rows.{Row}
use Rattle.cx_meaning.specs.Designs.{PlainCell, PlainComponent, PlainDesign, no_component, component_at}
use Rattle.cx_meaning.specs.Instances as instances
use Rattle.cx_meaning.specs.Instances.{Instance, Cells, no_cells, a_primitive, an_instance, tree_of}
use Rattle.cx_text.specs.Members.{In}
use Rattle.cx_rules.specs.Flat.{IsFlat}
use Rattle.cx_rules.specs.Accepted.{IsAccepted}
use Rattle.cx_rules.specs.Sizes.{size_of, weight_of, design_size}
use Rattle.cx_rules.specs.Wellformed.{IsDesign}
use Rattle.cx_numbering.specs.DesignOf.{plain_cell_of, component_of, design_of}
use Rattle.cx_names.specs.Targets.{HasTargets}
use Rattle.cx_check.specs.Acceptance.{IsAcceptedTree}
use Rattle.cx_names.proofs.Base.{some_at}
use Rattle.cx_names.proofs.There.{component_is}
use Rattle.cx_vtree.specs.Layout.{is_word}
use Rattle.cx_net.specs.Nets.{PlainNetComponent, PlainNet}
use Rattle.cx_net.specs.NetLimits.{nets_below}
use Rattle.cx_net.specs.NetMeaning.{NetState}
use Rattle.cx_net.specs.NetTree.{NetNode, a_row, a_child, net_component_at, net_tree}
use Rattle.cx_static.specs.Lowering.{lowered_of}
use Rattle.cx_wiring.specs.PartNets.{timers_of, wired_in, rows_alone, net_of_instance, net_of_cells}
use Rattle.cx_wiring.specs.Reached.{order}
use Rattle.cx_wiring.specs.Wiring.{net_of}
use Rattle.cx_wiring.proofs.ComponentCounts.{PartsHold, component_few}
use Rattle.cx_wiring.proofs.FitNets.{size_among, net_fits}
use Rattle.cx_wiring.proofs.NetCounts.{OwnNets, whole_weighs, whole_nets, own_few}
use Rattle.cx_wiring.proofs.NetTrees.{net_tree-net_of}
use Rattle.cx_wiring.proofs.NumberLemmas.{in_number}
use Rattle.cx_wiring.proofs.OrderHeights.{stands_at}
use Rattle.cx_wiring.proofs.WayLemmas.{there, net_long}
use Rattle.cx_wiring.proofs.WritableNets.{CanBeWritten, net_writable}
use Rattle.cx_holes.specs.Inlining.{inlined_component, inlined}
use Rattle.cx_holes.specs.Names.{NetNames}
use Rattle.cx_holes.specs.Renamed.{inlined_tree, inlined_cells}
use Rattle.cx_holes.proofs.FitNames.{fit_names}
use Rattle.cx_holes.proofs.RenamedFits.{inlined_fits, inlined_targets, inlined_no_holes}
use Rattle.cx_holes.proofs.RenamedLimits.{inlined_writable}
use Rattle.cx_holes.proofs.RenamedRuns.{counted, tree_same}
use Rattle.cx_emit.specs.Emitted.{CanBeEmitted}
use Rattle.cx_emit.specs.Shapes.{HasFewNets}
use Rattle.cx_emit.proofs.Soundness.{emitted_sound}
use Rattle.cx_emit.proofs.SourceNets.{source_nets}
use Rattle.cx_commands.specs.Unread.{HasTree}
use Rattle.cx_compiler.specs.Words.{HasWords}
use Rattle.cx_compiler.specs.Texts.{IsDesignOf}
use Rattle.cx_compiler.specs.Compiled.{EmitsWithin, written_net, written_source}
use Rattle.cx_wiring.proofs.FitTargets.{targets_there}
use Rattle.cx_compiler.proofs.TextGuards.{guards_hold}
use Rattle.cx_compiler.proofs.TextLayers.{tree_rules}
use Rattle.cx_compiler.proofs.TextLemmas.{text_targets}
use Rattle.cx_text.proofs.ListLaws.{there_at}
use Rattle.cx_compiler.proofs.TextNames.{cells_named}

-- FROM THE TEXT: no part of a guard is Always, and external memories have words for names
pub design_parts : (tree : PlainTree) (d : PlainDesign) → d ≡ design_of tree → (k : ℕ) → k < length d.components → PartsHold (component_at d k)
design_parts tree d same = subst (λ (e : PlainDesign). (k : ℕ) → k < length e.components → PartsHold (component_at e k)) (sym same) (guards_hold tree)

cells_words : (text : List ℕ) (tree : PlainTree) → HasTree text tree → (k : ℕ) → k < length (design_of tree).components → (cell : PlainCell) → In (component_at (design_of tree) k).cells cell → is_word cell.name ≡ true
cells_words text tree has k within cell i =
    let many : length (design_of tree).components ≡ length tree.components = length-map tree.components (component_of tree) in
    let part = some_at tree.components k (omega (arith, within, many)) in
    let own : In (component_of tree part.0).cells cell = subst (λ (p : PlainComponent). In p.cells cell) (component_is tree k part.0 part.1) i in
    let found = image_in (plain_cell_of tree part.0) part.0.cells cell own in
    subst (λ (c : PlainCell). is_word c.name ≡ true) found.2 (cells_named text tree has part.0 (in_at tree.components k part.0 part.1) found.0 found.1)

pub design_words : (text : List ℕ) (d : PlainDesign) → IsDesignOf text d → (k : ℕ) → k < length d.components → (cell : PlainCell) → In (component_at d k).cells cell → is_word cell.name ≡ true
design_words text d h = subst (λ (e : PlainDesign). (k : ℕ) → k < length e.components → (cell : PlainCell) → In (component_at e k).cells cell → is_word cell.name ≡ true) (sym h.3) (cells_words text h.0 h.1)

-- THE TREE of the net without holes: the components of the design as they are wired, with wires in place of holes
abbrev no_numbers : Instance → NetState → ℕ → ℕ
no_numbers i s n = 0

abbrev made : PlainDesign → PlainComponent → PlainNetComponent
made d part = inlined_component (wired_in d part)

rows_made : (d : PlainDesign) (rows : List Row) → inlined_cells (rows_alone (wired_in d) timers_of no_numbers rows) ≡ rows_alone (made d) timers_of no_numbers rows
rows_made d [] = refl
rows_made d (row ∷ rows) = ap (a_row row) (rows_made d rows)

mutual
  tree_made : (d : PlainDesign) (i : Instance) → inlined_tree (net_of_instance (wired_in d) timers_of no_numbers i) ≡ net_of_instance (made d) timers_of no_numbers i
  tree_made d (instances.Node part cells) = ap (NetNode (made d part)) (cells_made d cells (timers_of part))

  cells_made : (d : PlainDesign) (cells : Cells) (rows : List Row) → inlined_cells (net_of_cells (wired_in d) timers_of no_numbers cells rows) ≡ net_of_cells (made d) timers_of no_numbers cells rows
  cells_made d no_cells rows = rows_made d rows
  cells_made d (a_primitive row rest) rows = ap (a_row row) (cells_made d rest rows)
  cells_made d (an_instance child rest) rows = ap₂ a_child (tree_made d child) (cells_made d rest rows)

module _ (d : PlainDesign) (rules : IsDesign d) (flat : IsFlat d) (accepted : IsAccepted d) (can : CanBeWritten d) where
  abbrev net : PlainNet
  net = net_of (lowered_of d)

  names : NetNames net
  names = fit_names net (net_fits d rules flat accepted) (targets_there d rules flat accepted)

  made_so : net_tree (inlined net) ≡ net_of_instance (made d) timers_of no_numbers (tree_of d)
  made_so = tree_same net ∙ ap inlined_tree (net_tree-net_of d rules no_numbers) ∙ tree_made d (tree_of d)

  own_nets : (k : ℕ) → k < length d.components → OwnNets d rules (made d) no_numbers k
  own_nets =
      own_few d rules can.parts no_numbers flat (made d) (λ k. refl)
      (λ k. let count : length (made d (component_at d k)).wires ≡ length (wired_in d (component_at d k)).wires + (wired_in d (component_at d k)).holes = counted (wired_in d (component_at d k)) in omega arith)
      (λ k. refl)

  few_nets : nets_below (net_tree (inlined net)) ≤ 4194304
  few_nets = subst (λ tree. nets_below tree ≤ 4194304) (sym made_so) (whole_nets d rules (made d) no_numbers flat accepted own_nets)

  -- the wires and holes of a component are few
  own_wires : (k : ℕ) → k < length d.components → length (wired_in d (component_at d k)).wires + (wired_in d (component_at d k)).holes < 2 ^ 64
  own_wires k within =
      let size : size_of (component_at d k) < design_size d = size_among d.components k (component_at d k) (slice_get-get_or d.components k no_component within) in
      let small : design_size d < 2 ^ 32 = rules.few_parts in
      let wired = component_few d rules k within (can.parts k within) (flat k within) in
      omega (arith, wired)

  few_wires : (n : ℕ) → n < length net.components → length (net_component_at net n).wires + (net_component_at net n).holes < 2 ^ 64
  few_wires n less =
      let r = there_at (order (lowered_of d)) n (subst (λ m. n < m) (net_long d rules) less) in
      let within : r.0 < length d.components = there d rules r.0 (in_number r.0 (order (lowered_of d)) (in_slice (order (lowered_of d)) n r.0 r.1)) in
      subst (λ (c : PlainNetComponent). length c.wires + c.holes < 2 ^ 64) (sym (stands_at d rules n r.0 r.1)) (own_wires r.0 within)

  pub net_emitted : CanBeEmitted (written_net d)
  net_emitted = record {
    fits = inlined_fits net names (net_fits d rules flat accepted);
    targets = inlined_targets net names (targets_there d rules flat accepted);
    no_holes = inlined_no_holes net;
    writable = inlined_writable net names few_wires few_nets (net_writable d rules flat accepted can);
  }

  -- its nets: 64 for each unit of weight at most
  pub nets_weigh : HasFewNets d (written_source d)
  nets_weigh =
      let weigh : nets_below (net_tree (inlined net)) ≤ 64 * weight_of d = subst (λ tree. nets_below tree ≤ 64 * weight_of d) (sym made_so) (whole_weighs d rules (made d) no_numbers own_nets) in
      let nets = source_nets (inlined net) (emitted_sound (inlined net) net_emitted) (record { fits = net_emitted.fits; no_holes = net_emitted.no_holes }) in
      omega (arith, weigh, nets)

-- THE NET of an accepted tree without static components within the size, whose external memories have words for names, can be emitted
pub tree_emitted : (tree : PlainTree) (d : PlainDesign) → HasTargets tree → IsAcceptedTree tree → d ≡ design_of tree → IsFlat d → HasWords d → EmitsWithin d
tree_emitted tree d targets accepted same flat words within =
    let rules = tree_rules tree d targets accepted same flat within in
    let small : design_size d ≤ 16384 = within in
    net_emitted d rules.0 rules.1 rules.2 (record { small = small; parts = design_parts tree d same; words = words })
