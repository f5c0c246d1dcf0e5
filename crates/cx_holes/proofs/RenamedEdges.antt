-- The edge, the start and the words of a net without holes.
use Rattle.std.proofs.Common.{◌≡◌, ℕ, zero, suc, Bool, true, false, if◌then◌else◌, List, [], ◌∷◌, length, map, Some, unwrap_or, refl, ap, ap₂, ◌∙◌, subst}
use Rattle.std.specs.Option.{option_map_or}
use Rattle.std.proofs.Math.Path.{fun_ext}
use Rattle.cx_prim.specs.CellStates.{CellState}
use Rattle.cx_prim.specs.declared.ports.PortRow.{PortRow}
use Rattle.cx_prim.specs.Rows.{Row}
use Rattle.cx_meaning.specs.declared.ports.PortRef.{PortRef}
use Rattle.cx_meaning.specs.declared.ports.PortRef.TheVariants as ports
use Rattle.cx_meaning.specs.Instances.{Path, loaded_at}
use Rattle.cx_net.specs.Nets.{PlainNetDriver, PlainNetComponent, ToRegister}
use Rattle.cx_net.specs.NetTree.{NetInstance, NetNode, NetCells, no_net_cells, a_row, a_child, net_part}
use Rattle.cx_net.specs.NetMeaning.{NetState, below_cell, APort, NetLook, NetAround, around_child, outside, drivers_to, is_true, registers_of}
use Rattle.cx_bits.specs.BitVector.{zero_of}
use Rattle.cx_net.specs.NetEdges.{inputs_from, row_after, cell_after, cell_below, taken, value_in, guard_in, own_register, register_after, register_below, net_after}
use Rattle.cx_net.specs.NetRuns.{net_start_at, net_start_below, net_externals, started, net_start, net_words}
use Rattle.cx_holes.specs.Inlining.{inlined_driver, inlined_component}
use Rattle.cx_holes.specs.Names.{DriversName}
use Rattle.cx_holes.specs.Renamed.{inlined_tree, inlined_cells, TreeNames, CellsName, Alike, AlikeAt, AlikeBelow}
use Rattle.cx_holes.proofs.RenamedSteps.{expr_same, drivers_same, drivers_name}
use Rattle.cx_holes.proofs.RenamedNodes.{around_same}

-- CELLS
module _ (look new : NetLook) (same : (p : PortRef) → new [] (APort p) ≡ look [] (APort p)) where
  inputs_same : (c p : ℕ) (rows : List PortRow) → inputs_from new c p rows ≡ inputs_from look c p rows
  inputs_same c p [] = refl
  inputs_same c p (port ∷ rest) = ap₂ (λ v l. Some (unwrap_or v (zero_of port.width)) ∷ l) (same (ports.Cell c p)) (inputs_same c (suc p) rest)

  row_same : (with_reset : Bool) (c : ℕ) (row : Row) (d : CellState) → row_after with_reset new c row d ≡ row_after with_reset look c row d
  row_same true c row d = refl
  row_same false c row d = ap (row.next d) (inputs_same c 0 row.ports)

mutual
  cell_same : (with_reset : Bool) (tree : NetInstance) (look new : NetLook) → AlikeAt tree look new → (path : Path) (d : CellState)
      → cell_after with_reset (inlined_tree tree) new path d ≡ cell_after with_reset tree look path d
  cell_same with_reset (NetNode part cells) look new a [] d = refl
  cell_same with_reset (NetNode part cells) look new a (c ∷ path) d =
      cells_same with_reset cells (λ k q. look (k ∷ q)) (λ k q. new (k ∷ q)) a.1 c c look new a.0.ports refl refl path d

  cells_same : (with_reset : Bool) (cells : NetCells) (looks news : ℕ → NetLook) → AlikeBelow cells looks news → (k c : ℕ) (look new : NetLook) → ((p : PortRef) → new [] (APort p) ≡ look [] (APort p))
      → looks k ≡ (λ q. look (c ∷ q)) → news k ≡ (λ q. new (c ∷ q)) → (path : Path) (d : CellState)
      → cell_below with_reset (inlined_cells cells) k c new path d ≡ cell_below with_reset cells k c look path d
  cells_same with_reset no_net_cells looks news a k c look new same e f path d = refl
  cells_same with_reset (a_row row rest) looks news a zero c look new same e f [] d = row_same look new same with_reset c row d
  cells_same with_reset (a_row row rest) looks news a zero c look new same e f (b ∷ path) d = refl
  cells_same with_reset (a_row row rest) looks news a (suc k) c look new same e f path d = cells_same with_reset rest (λ j. looks (suc j)) (λ j. news (suc j)) a k c look new same e f path d
  cells_same with_reset (a_child child rest) looks news a zero c look new same e f path d =
      cell_same with_reset child (λ q. look (c ∷ q)) (λ q. new (c ∷ q)) (subst (λ l. AlikeAt child l (λ q. new (c ∷ q))) e (subst (λ l. AlikeAt child (looks 0) l) f a.0)) path d
  cells_same with_reset (a_child child rest) looks news a (suc k) c look new same e f path d = cells_same with_reset rest (λ j. looks (suc j)) (λ j. news (suc j)) a.1 k c look new same e f path d

-- REGISTERS
module _ (part : PlainNetComponent) (cells : NetCells) (around : NetAround) (s : NetState) (look new : NetLook) (alike : Alike part (look []) (new [])) where
  taken_same : (old : ℕ) (ds : List PlainNetDriver) → DriversName (length part.wires) part.holes ds
      → taken (guard_in (inlined_component part) (inlined_cells cells) around s new) (value_in (inlined_component part) (inlined_cells cells) around s new) old (map (inlined_driver (length part.wires)) ds)
      ≡ taken (guard_in part cells around s look) (value_in part cells around s look) old ds
  taken_same old [] n = refl
  taken_same old (d ∷ ds) n =
      let registers = registers_of part cells around s (look []) (λ c. look (c ∷ [])) in
      let guard = expr_same part around registers (look []) (new []) alike d.guard n.0.guard in
      let source = expr_same part around registers (look []) (new []) alike d.source n.0.source in
      ap₂ (λ g rest. if option_map_or is_true g false then option_map_or (λ b. b.value) (value_in (inlined_component part) (inlined_cells cells) around s new (inlined_driver (length part.wires) d)) old else rest)
      guard (taken_same old ds n.1)
      ∙ ap (λ v. if option_map_or is_true (guard_in part cells around s look d) false then option_map_or (λ b. b.value) v old else taken (guard_in part cells around s look) (value_in part cells around s look) old ds) source

  own_same : (n : ℕ) → DriversName (length part.wires) part.holes part.drivers
      → own_register (inlined_component part) (inlined_cells cells) around s new n ≡ own_register part cells around s look n
  own_same n names =
      ap (λ ds. taken (guard_in (inlined_component part) (inlined_cells cells) around s new) (value_in (inlined_component part) (inlined_cells cells) around s new) (s.register [] n) ds)
      (drivers_same (length part.wires) part.holes (ToRegister n) part.drivers tt names)
      ∙ taken_same (s.register [] n) (drivers_to (ToRegister n) part.drivers) (drivers_name (length part.wires) part.holes (ToRegister n) part.drivers names)

mutual
  register_same : (tree : NetInstance) → TreeNames tree → (around : NetAround) (s : NetState) (look new : NetLook) → AlikeAt tree look new → (path : Path) (n : ℕ)
      → register_after (inlined_tree tree) around s new path n ≡ register_after tree around s look path n
  register_same (NetNode part cells) names around s look new a [] n = own_same part cells around s look new a.0 n names.0
  register_same (NetNode part cells) names around s look new a (c ∷ path) n =
      ap (λ x. register_below (inlined_cells cells) c x (below_cell c s) (λ q. new (c ∷ q)) path n) (around_same c part (look []) (new []) a.0)
      ∙ registers_same cells names.1 (around_child c (look [])) (below_cell c s) (λ k q. look (k ∷ q)) (λ k q. new (k ∷ q)) a.1 c path n

  registers_same : (cells : NetCells) → CellsName cells → (around : NetAround) (s : NetState) (look new : ℕ → NetLook) → AlikeBelow cells look new → (c : ℕ) (path : Path) (n : ℕ)
      → register_below (inlined_cells cells) c around s (new c) path n ≡ register_below cells c around s (look c) path n
  registers_same no_net_cells names around s look new a c path n = refl
  registers_same (a_row row rest) names around s look new a zero path n = refl
  registers_same (a_row row rest) names around s look new a (suc c) path n = registers_same rest names around s (λ k. look (suc k)) (λ k. new (suc k)) a c path n
  registers_same (a_child child rest) names around s look new a zero path n = register_same child names.0 around s (look 0) (new 0) a.0 path n
  registers_same (a_child child rest) names around s look new a (suc c) path n = registers_same rest names.1 around s (λ k. look (suc k)) (λ k. new (suc k)) a.1 c path n

-- THE EDGE
pub after_same : (tree : NetInstance) → TreeNames tree → (with_reset go : Bool) (s : NetState) (look new : NetLook) → AlikeAt tree look new
    → net_after (inlined_tree tree) with_reset go s new ≡ net_after tree with_reset go s look
after_same tree names with_reset go s look new a =
    ap₂ (λ cell register. record { cell = cell; register = register })
    (fun_ext (λ path. cell_same with_reset tree look new a path (s.cell path)))
    (fun_ext (λ path. fun_ext (λ n. ap (λ v. if with_reset then 0 else v) (register_same tree names (outside go) s look new a path n))))

-- THE START
mutual
  start_at_same : (tree : NetInstance) (path : Path) → net_start_at (inlined_tree tree) path ≡ net_start_at tree path
  start_at_same (NetNode part cells) [] = refl
  start_at_same (NetNode part cells) (c ∷ path) = start_below_same cells c path

  start_below_same : (cells : NetCells) (c : ℕ) (path : Path) → net_start_below (inlined_cells cells) c path ≡ net_start_below cells c path
  start_below_same no_net_cells c path = refl
  start_below_same (a_row row rest) zero path = refl
  start_below_same (a_row row rest) (suc c) path = start_below_same rest c path
  start_below_same (a_child child rest) zero path = start_at_same child path
  start_below_same (a_child child rest) (suc c) path = start_below_same rest c path

externals_same : (tree : NetInstance) → net_externals (net_part (inlined_tree tree)) ≡ net_externals (net_part tree)
externals_same (NetNode part cells) = refl

started_same : (tree : NetInstance) (words : List (List ℕ)) (path : Path) → started (inlined_tree tree) words path ≡ started tree words path
started_same tree words [] = refl
started_same tree words (c ∷ []) = ap₂ (λ es d. loaded_at es words c d) (externals_same tree) (start_at_same tree (c ∷ []))
started_same tree words (c ∷ e ∷ path) = start_at_same tree (c ∷ e ∷ path)

pub start_same : (tree : NetInstance) (words : List (List ℕ)) → net_start (inlined_tree tree) words ≡ net_start tree words
start_same tree words = ap (λ cell. record { cell = cell; register = λ path n. 0 }) (fun_ext (started_same tree words))

pub words_same : (tree : NetInstance) (s : NetState) → net_words (inlined_tree tree) s ≡ net_words tree s
words_same (NetNode part cells) s = refl
