-- The rule of each node of an instance, and of the node that stands for it.
use Rattle.std.proofs.Common.{◌≡◌, ℕ, zero, suc, ◌+◌, ◌<◌, if◌then◌else◌, List, [], ◌∷◌, ◌++◌, length, replicate, Option, Some, None, option_map, option_and_then, unwrap_or, slice_get, refl, sym, ap, ap₂, ◌∙◌, arith}
use Rattle.std.proofs.Math.Path.{fun_ext}
use Rattle.std.proofs.lemmas.Bool.{lt-ltb}
use Rattle.cx_bits.specs.BitVector.{BitVector, zero_of}
use Rattle.cx_prim.specs.Rows.{Row}
use Rattle.cx_prim.specs.declared.ports.Side.{Side}
use Rattle.cx_prim.specs.declared.ports.Side.TheVariants as sides
use Rattle.cx_meaning.specs.declared.ports.PortRef.{PortRef}
use Rattle.cx_meaning.specs.declared.ports.PortRef.TheVariants as ports
use Rattle.cx_meaning.specs.Rows.{side_of}
use Rattle.cx_meaning.specs.Sights.{PartPort, Go, AnInput, AnOutput, ItsDone}
use Rattle.cx_meaning.specs.Instances.{Path}
use Rattle.cx_net.specs.Nets.{PlainNetTarget, ToPort, ToWire, ToHole, ToDone, PlainNetComponent}
use Rattle.cx_net.specs.NetTree.{NetInstance, NetNode, NetCells, no_net_cells, a_row, a_child, NetAt, NoCell, ARow, AChild, net_part, net_cell_at}
use Rattle.cx_net.specs.NetMeaning.{chain, NetState, below_cell, Node, APort, AWire, AHole, TheDone, NetLook, NetAround, net_part_port, decl_width, net_at_width, gather_known, drivers_to, registers_of, driven_node, row_node, child_node, cell_node, own_step, around_child, net_step, child_step}
use Rattle.cx_holes.specs.Inlining.{inlined_target, inlined_component}
use Rattle.cx_holes.specs.Names.{TargetNames, ComponentNames}
use Rattle.cx_holes.specs.Renamed.{inlined_tree, inlined_cells, TreeNames, CellsName, renamed, IsInside, Alike, renamed_at, renamed_below, InsideAt, InsideBelow, AlikeAt, AlikeBelow}
use Rattle.cx_holes.proofs.RenamedSteps.{chain_same, drivers_same, drivers_name}
use Rattle.cx_text.proofs.ListLaws.{one_of}

-- the width of an own wire, and of the wire of a hole
pub own_wire : (wires : List ℕ) (more : List ℕ) (n : ℕ) → n < length wires → slice_get (wires ++ more) n ≡ slice_get wires n
own_wire [] more n h = absurd (omega arith)
own_wire (w ∷ wires) more zero h = refl
own_wire (w ∷ wires) more (suc n) h = own_wire wires more n (omega arith)

pub hole_wire : (wires : List ℕ) (holes n : ℕ) → n < holes → slice_get (wires ++ replicate holes 1) (length wires + n) ≡ Some 1
hole_wire [] holes n h = let at : 0 + n ≡ n = omega arith in ap (slice_get {X = ℕ} (replicate holes 1)) at ∙ one_of holes n h
hole_wire (w ∷ wires) holes n h = let at : suc (length wires) + n ≡ suc (length wires + n) = omega arith in ap (slice_get {X = ℕ} (w ∷ wires ++ replicate holes 1)) at ∙ hole_wire wires holes n h

-- what stands at a cell
abbrev pub inlined_at : NetAt → NetAt
inlined_at NoCell = NoCell
inlined_at (ARow row) = ARow row
inlined_at (AChild child) = AChild (inlined_tree child)

pub at_same : (cells : NetCells) (c : ℕ) → net_cell_at (inlined_cells cells) c ≡ inlined_at (net_cell_at cells c)
at_same no_net_cells c = refl
at_same (a_row row rest) zero = refl
at_same (a_row row rest) (suc c) = at_same rest c
at_same (a_child child rest) zero = refl
at_same (a_child child rest) (suc c) = at_same rest c

child_port : (child : NetInstance) (p : ℕ) → net_part_port (net_part (inlined_tree child)) p ≡ net_part_port (net_part child) p
child_port (NetNode part cells) p = refl

child_width : (child : NetInstance) (p : ℕ) → net_at_width (AChild (inlined_tree child)) p ≡ net_at_width (AChild child) p
child_width (NetNode part cells) p = refl

-- what the instance of a cell shows
abbrev ShownAlike : NetAt → (below other : Node → Option BitVector) → Type 0
ShownAlike NoCell below other = Unit {0}
ShownAlike (ARow row) below other = Unit {0}
ShownAlike (AChild child) below other = ((p : PortRef) → other (APort p) ≡ below (APort p)) × (other TheDone ≡ below TheDone)

module _ (part : PlainNetComponent) (cells : NetCells) (around : NetAround) (s : NetState) (look new : Node → Option BitVector) (below other : ℕ → Node → Option BitVector) (names : ComponentNames part)
    (alike : Alike part look new) (shown : (c : ℕ) → ShownAlike (net_cell_at cells c) (below c) (other c)) where
  driven_same : (w : ℕ) (t : PlainNetTarget) → TargetNames (length part.wires) part.holes t
      → driven_node (inlined_component part) (inlined_cells cells) around s new other w (inlined_target (length part.wires) t) ≡ driven_node part cells around s look below w t
  driven_same w t h =
      ap (λ ds. chain around (registers_of part cells around s look below) new (zero_of w) ds) (drivers_same (length part.wires) part.holes t part.drivers h names)
      ∙ chain_same part around (registers_of part cells around s look below) look new alike (zero_of w) (drivers_to t part.drivers) (drivers_name (length part.wires) part.holes t part.drivers names)

  row_same : (row : Row) (c p : ℕ) (side : Side) → row_node (inlined_component part) (inlined_cells cells) around s new other row c p side ≡ row_node part cells around s look below row c p side
  row_same row c p sides.Enable = driven_same (net_at_width (ARow row) p) (ToPort (ports.Cell c p)) tt
  row_same row c p sides.Plain = driven_same (net_at_width (ARow row) p) (ToPort (ports.Cell c p)) tt
  row_same row c p sides.Output =
      ap (λ seen. option_map (λ inputs. unwrap_or (row.output (s.cell (c ∷ [])) inputs p) (zero_of (net_at_width (ARow row) p))) (gather_known seen (row.reads p) 0 row.ports))
      (fun_ext (λ q. alike.ports (ports.Cell c q)))
  row_same row c p sides.Registered = refl

  part_same : (child : NetInstance) (c p : ℕ) (port : PartPort) → ShownAlike (AChild child) (below c) (other c) → child_node (inlined_component part) (inlined_cells cells) around s new other (inlined_tree child) c p port ≡ child_node part cells around s look below child c p port
  part_same child c p Go b = driven_same 1 (ToPort (ports.Cell c p)) tt
  part_same child c p (AnInput n) b =
      ap (λ w. driven_node (inlined_component part) (inlined_cells cells) around s new other w (ToPort (ports.Cell c p))) (child_width child p)
      ∙ driven_same (net_at_width (AChild child) p) (ToPort (ports.Cell c p)) tt
  part_same child c p (AnOutput n) b = b.0 (ports.Output n)
  part_same child c p ItsDone b = b.1

  cell_same : (c p : ℕ) (at : NetAt) → ShownAlike at (below c) (other c) → cell_node (inlined_component part) (inlined_cells cells) around s new other c p (inlined_at at) ≡ cell_node part cells around s look below c p at
  cell_same c p NoCell b = refl
  cell_same c p (ARow row) b = row_same row c p (side_of row p)
  cell_same c p (AChild child) b =
      ap (child_node (inlined_component part) (inlined_cells cells) around s new other (inlined_tree child) c p) (child_port child p) ∙ part_same child c p (net_part_port (net_part child) p) b

  pub own_same : (node : Node) → IsInside part node
      → own_step (inlined_component part) (inlined_cells cells) around s new other (renamed (length part.wires) node) ≡ own_step part cells around s look below node
  own_same (APort (ports.Cell c p)) h =
      ap (cell_node (inlined_component part) (inlined_cells cells) around s new other c p) (at_same cells c) ∙ cell_same c p (net_cell_at cells c) (shown c)
  own_same (APort (ports.Input n)) h = refl
  own_same (APort (ports.Output n)) h = driven_same (decl_width part.outputs n) (ToPort (ports.Output n)) tt
  own_same (APort (ports.Done g)) h = refl
  own_same (APort (ports.Literal w v)) h = refl
  own_same (AWire n) h =
      ap (option_and_then (λ w. driven_node (inlined_component part) (inlined_cells cells) around s new other w (ToWire n))) (own_wire part.wires (replicate part.holes 1) n h)
      ∙ ap (λ f. option_and_then f (slice_get part.wires n)) (fun_ext (λ w. driven_same w (ToWire n) h))
  own_same (AHole n) h =
      ap (option_and_then (λ w. driven_node (inlined_component part) (inlined_cells cells) around s new other w (ToWire (length part.wires + n)))) (hole_wire part.wires part.holes n h)
      ∙ driven_same 1 (ToHole n) h
      ∙ ap (λ b. if b then driven_node part cells around s look below 1 (ToHole n) else None) (sym (lt-ltb n part.holes h))
  own_same TheDone h = driven_same 1 ToDone tt

shown_of : (child : NetInstance) (look new : NetLook) → AlikeAt child look new → ShownAlike (AChild child) (look []) (new [])
shown_of (NetNode part cells) look new a = (a.0.ports, a.0.done)

shown_at : (cells : NetCells) (look new : ℕ → NetLook) → AlikeBelow cells look new → (c : ℕ) → ShownAlike (net_cell_at cells c) (look c []) (new c [])
shown_at no_net_cells look new a c = tt
shown_at (a_row row rest) look new a zero = tt
shown_at (a_row row rest) look new a (suc c) = shown_at rest (λ k. look (suc k)) (λ k. new (suc k)) a c
shown_at (a_child child rest) look new a zero = shown_of child (look 0) (new 0) a.0
shown_at (a_child child rest) look new a (suc c) = shown_at rest (λ k. look (suc k)) (λ k. new (suc k)) a.1 c

pub around_same : (c : ℕ) (part : PlainNetComponent) (look new : Node → Option BitVector) → Alike part look new → around_child c new ≡ around_child c look
around_same c part look new a = ap₂ (λ g i. record { go = g; input = i }) (a.ports (ports.Cell c 0)) (fun_ext (λ n. a.ports (ports.Cell c (suc n))))

mutual
  -- THE RULE of each node, and of the node that stands for it
  pub step_same : (tree : NetInstance) → TreeNames tree → (around : NetAround) (s : NetState) (look new : NetLook) → AlikeAt tree look new → (path : Path) (node : Node) → InsideAt tree path node
      → net_step (inlined_tree tree) around s new path (renamed_at tree path node) ≡ net_step tree around s look path node
  step_same (NetNode part cells) names around s look new a [] node h =
      own_same part cells around s (look []) (new []) (λ c. look (c ∷ [])) (λ c. new (c ∷ [])) names.0 a.0 (shown_at cells (λ c q. look (c ∷ q)) (λ c q. new (c ∷ q)) a.1) node h
  step_same (NetNode part cells) names around s look new a (c ∷ path) node h =
      ap (λ x. child_step (inlined_cells cells) c x (below_cell c s) (λ q. new (c ∷ q)) path (renamed_below cells c path node)) (around_same c part (look []) (new []) a.0)
      ∙ below_same cells names.1 (around_child c (look [])) (below_cell c s) (λ k q. look (k ∷ q)) (λ k q. new (k ∷ q)) a.1 c path node h

  below_same : (cells : NetCells) → CellsName cells → (around : NetAround) (s : NetState) (look new : ℕ → NetLook) → AlikeBelow cells look new → (c : ℕ) (path : Path) (node : Node) → InsideBelow cells c path node
      → child_step (inlined_cells cells) c around s (new c) path (renamed_below cells c path node) ≡ child_step cells c around s (look c) path node
  below_same no_net_cells names around s look new a c path node h = refl
  below_same (a_row row rest) names around s look new a zero path node h = refl
  below_same (a_row row rest) names around s look new a (suc c) path node h = below_same rest names around s (λ k. look (suc k)) (λ k. new (suc k)) a c path node h
  below_same (a_child child rest) names around s look new a zero path node h = step_same child names.0 around s (look 0) (new 0) a.0 path node h
  below_same (a_child child rest) names around s look new a (suc c) path node h = below_same rest names.1 around s (λ k. look (suc k)) (λ k. new (suc k)) a.1 c path node h
