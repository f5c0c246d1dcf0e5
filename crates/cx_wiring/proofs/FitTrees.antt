-- In the tree of a net that fits expressions name what is there, and each node of one bit is a node of that width on a path from main.
use Rattle.std.proofs.Common.{◌≡◌, ℕ, zero, suc, ◌+◌, ◌-◌, ◌<◌, ◌≤◌, ◌==◌, Bool, true, false, List, [], ◌∷◌, ◌++◌, length, map, Option, Some, None, option_map, option_and_then, unwrap_or, slice_get, nat_lt, if◌then◌else◌, append_assoc, length-append, IsSome, refl, sym, ap, ◌∙◌, arith}
use Rattle.std.specs.Option.{option_map_or}
use Rattle.std.proofs.lemmas.Bool.{eqb-true, lt-ltb, ltb-true, ltb-false}
use Rattle.std.proofs.lemmas.List.{length-map}
use Rattle.std.proofs.lemmas.Option.{slice_get-map, slice_get_within}
use Rattle.cx_bits.specs.BitVector.{BitVector}
use Rattle.cx_prim.specs.declared.ports.PortRow.{PortRow}
use Rattle.cx_prim.specs.Table.{row_of}
use Rattle.cx_meaning.specs.declared.kinds.PortDecl.{PortDecl}
use Rattle.cx_meaning.specs.declared.ports.PortRef.{PortRef}
use Rattle.cx_meaning.specs.declared.ports.PortRef.TheVariants as ports
use Rattle.cx_meaning.specs.Designs.{PlainKind, OfPrimitive, OfComponent, PlainCell}
use Rattle.cx_meaning.specs.Instances.{Path}
use Rattle.cx_meaning.specs.Sights.{AnInput, AnOutput, ItsDone, output_port}
use Rattle.cx_net.specs.Nets.{PlainNetExpr, OfPort, OfRegister, OfWire, OfHole, OfGo, Fixed, Inverse, AllOf, AnyOf, Sum, Compares, PlainNetExprs, no_exprs, an_expr, PlainNetDriver, PlainNetComponent, PlainNet}
use Rattle.cx_net.specs.NetTree.{NetInstance, NetCells, NetAt, NoCell, net_part, net_cell_at, net_component_at, add_net_cell, net_cells_for, net_within, net_tree}
use Rattle.cx_net.specs.NetMeaning.{NetState, Node, APort, AWire, AHole, TheDone, NetLook, NetHas, truth_bit, decl_width, child_port_width, net_at_width, net_part_port, is_port_of, is_own_node, is_node}
use Rattle.cx_net.specs.NetRuns.{IsWholeLook}
use Rattle.cx_net.specs.NetPaths.{LeadsTo, width_of_node}
use Rattle.cx_net.specs.NetHolds.{Holds, IsWide, RowsAreWide}
use Rattle.cx_net.specs.NetFits.{target_width, signature_widths, kind_width, HasPortWidth, HasWidth, AreBits, IsFit}
use Rattle.cx_net.proofs.DriverLemmas.{at_kind, cell-at, part-within, there-at}
use Rattle.cx_net.proofs.WidthLaws.{bit_is, values_wide, lower_child}
use Rattle.cx_wiring.specs.NetNames.{is_named_port, ExprNames, ExprsName, DriversName, TreeNames, CellsName}
use Rattle.cx_wiring.specs.NetBits.{own_bit, is_bit, is_bit_below}
use Rattle.cx_text.proofs.BoolLaws.{and_both}
use Rattle.cx_text.proofs.ListLaws.{there_at, append-front, append-back}
use Rattle.cx_text.proofs.OptionLaws.{some_value as some_of}

-- WHAT STANDS AT A CELL of a component
abbrev at_option : (ℕ → NetInstance) → Option PlainCell → NetAt
at_option child None = NoCell
at_option child (Some cell) = at_kind child cell.kind

cell_stands : (child : ℕ → NetInstance) (cells : List PlainCell) (c : ℕ) → net_cell_at (net_cells_for child cells) c ≡ at_option child (slice_get cells c)
cell_stands child [] c = refl
cell_stands child (x ∷ cells) zero = cell-at child (x ∷ cells) zero x refl
cell_stands child (x ∷ cells) (suc c) = by x.kind ∙ cell_stands child cells c
  where
    by : (k : PlainKind) → net_cell_at (add_net_cell child k (net_cells_for child cells)) (suc c) ≡ net_cell_at (net_cells_for child cells) c
    by (OfPrimitive primitive) = refl
    by (OfComponent k) = refl

-- THE SIGNATURE of a component, by the ports of its cells
module _ (part : PlainNetComponent) where
  abbrev widths : List PortDecl → List ℕ
  widths decls = map (λ (d : PortDecl). d.width) decls

  behind_go : (n : ℕ) → slice_get (signature_widths part) (suc n) ≡ slice_get (widths part.inputs ++ (widths part.outputs ++ 1 ∷ [])) n
  behind_go n = ap (λ l. slice_get l n) (append_assoc (widths part.inputs) (widths part.outputs) (1 ∷ []))

  declared : (decls : List PortDecl) (n : ℕ) → n < length decls → slice_get (widths decls) n ≡ Some (decl_width decls n)
  declared decls n less =
      let d = there_at decls n less in
      slice_get-map (λ (d : PortDecl). d.width) decls n ∙ ap (option_map (λ (d : PortDecl). d.width)) d.1 ∙ ap (λ o. Some (unwrap_or (option_map (λ (d : PortDecl). d.width) o) 1)) (sym d.1)

  of_input : (n : ℕ) → n < length part.inputs → slice_get (signature_widths part) (suc n) ≡ Some (decl_width part.inputs n)
  of_input n less =
      let long : length (widths part.inputs) ≡ length part.inputs = length-map part.inputs (λ (d : PortDecl). d.width) in
      behind_go n ∙ append-front (widths part.inputs) (widths part.outputs ++ 1 ∷ []) n (omega (arith, less, long)) ∙ declared part.inputs n less

  of_output : (n m : ℕ) → n ≡ length part.inputs + m → m < length part.outputs → slice_get (signature_widths part) (suc n) ≡ Some (decl_width part.outputs m)
  of_output n m is less =
      let long : length (widths part.inputs) ≡ length part.inputs = length-map part.inputs (λ (d : PortDecl). d.width) in
      let long_too : length (widths part.outputs) ≡ length part.outputs = length-map part.outputs (λ (d : PortDecl). d.width) in
      let there : n - length (widths part.inputs) ≡ m = omega (arith, is, long) in
      behind_go n ∙ append-back (widths part.inputs) (widths part.outputs ++ 1 ∷ []) n (omega (arith, is, long)) ∙ ap (slice_get (widths part.outputs ++ 1 ∷ [])) there
      ∙ append-front (widths part.outputs) (1 ∷ []) m (omega (arith, less, long_too)) ∙ declared part.outputs m less

  of_done : (n : ℕ) → n ≡ length part.inputs + length part.outputs → slice_get (signature_widths part) (suc n) ≡ Some 1
  of_done n is =
      let long : length (widths part.inputs) ≡ length part.inputs = length-map part.inputs (λ (d : PortDecl). d.width) in
      let long_too : length (widths part.outputs) ≡ length part.outputs = length-map part.outputs (λ (d : PortDecl). d.width) in
      let there : n - length (widths part.inputs) ≡ length part.outputs = omega (arith, is, long) in
      let last : length part.outputs - length (widths part.outputs) ≡ 0 = omega (arith, long_too) in
      behind_go n ∙ append-back (widths part.inputs) (widths part.outputs ++ 1 ∷ []) n (omega (arith, is, long)) ∙ ap (slice_get (widths part.outputs ++ 1 ∷ [])) there
      ∙ append-back (widths part.outputs) (1 ∷ []) (length part.outputs) (omega (arith, long_too)) ∙ ap (slice_get (1 ∷ [])) last

  pub signature_is : (p : ℕ) → p < 2 + length part.inputs + length part.outputs → slice_get (signature_widths part) p ≡ Some (child_port_width part (net_part_port part p))
  signature_is zero less = refl
  signature_is (suc n) less = by (nat_lt n (length part.inputs)) refl
    where
      later : (m : ℕ) → n ≡ length part.inputs + m → (b : Bool) → nat_lt m (length part.outputs) ≡ b → slice_get (signature_widths part) (suc n) ≡ Some (child_port_width part (if b then AnOutput m else ItsDone))
      later m is true e = of_output n m is (ltb-true m (length part.outputs) e)
      later m is false e = let over : length part.outputs ≤ m = ltb-false m (length part.outputs) e in of_done n (omega (arith, over, is, less))

      by : (b : Bool) → nat_lt n (length part.inputs) ≡ b → slice_get (signature_widths part) (suc n) ≡ Some (child_port_width part (if b then AnInput n else output_port (length part.outputs) (n - length part.inputs)))
      by true e = of_input n (ltb-true n (length part.inputs) e)
      by false e = let past : length part.inputs ≤ n = ltb-false n (length part.inputs) e in later (n - length part.inputs) (omega arith) (nat_lt (n - length part.inputs) (length part.outputs)) refl

  signature_long : length (signature_widths part) ≡ 2 + length part.inputs + length part.outputs
  signature_long =
      let long : length (widths part.inputs) ≡ length part.inputs = length-map part.inputs (λ (d : PortDecl). d.width) in
      let long_too : length (widths part.outputs) ≡ length part.outputs = length-map part.outputs (λ (d : PortDecl). d.width) in
      let both : length ((widths part.inputs ++ widths part.outputs) ++ 1 ∷ []) ≡ length (widths part.inputs ++ widths part.outputs) + 1 = length-append (widths part.inputs ++ widths part.outputs) (1 ∷ []) in
      let one : length (widths part.inputs ++ widths part.outputs) ≡ length (widths part.inputs) + length (widths part.outputs) = length-append (widths part.inputs) (widths part.outputs) in
      omega (arith, long, long_too, both, one)

module _ (net : PlainNet) (child : ℕ → NetInstance) (parts : (k : ℕ) → net_part (child k) ≡ net_component_at net k) where
  -- a port of a kind has a width, and one that has a width is there
  kind_there : (k : PlainKind) (p w : ℕ) → kind_width net k p ≡ Some w → is_port_of (at_kind child k) p ≡ true
  kind_there (OfPrimitive primitive) p w e =
      let d = map_some (slice_get (row_of primitive).ports p) e in lt-ltb p (length (row_of primitive).ports) (slice_get_within (row_of primitive).ports p d.0 d.1)
    where
      map_some : (o : Option PortRow) → option_map (λ (port : PortRow). port.width) o ≡ Some w → (x : PortRow) × (o ≡ Some x)
      map_some None f = absurd cc
      map_some (Some x) f = (x, refl)
  kind_there (OfComponent k) p w e =
      let within : p < length (signature_widths (net_component_at net k)) = slice_get_within (signature_widths (net_component_at net k)) p w e in
      let long : length (signature_widths (net_component_at net k)) ≡ 2 + length (net_component_at net k).inputs + length (net_component_at net k).outputs = signature_long (net_component_at net k) in
      ap (λ (x : PlainNetComponent). nat_lt p (2 + length x.inputs + length x.outputs)) (parts k) ∙ lt-ltb p (2 + length (net_component_at net k).inputs + length (net_component_at net k).outputs) (omega (arith, within, long))

  kind_bit : (k : PlainKind) (p : ℕ) → is_port_of (at_kind child k) p ≡ true → net_at_width (at_kind child k) p ≡ 1 → kind_width net k p ≡ Some 1
  kind_bit (OfPrimitive primitive) p there one =
      let d = there_at (row_of primitive).ports p (ltb-true p (length (row_of primitive).ports) there) in
      ap (option_map (λ (port : PortRow). port.width)) d.1 ∙ ap Some (sym (ap (λ o. unwrap_or (option_map (λ (port : PortRow). port.width) o) 1) d.1) ∙ one)
  kind_bit (OfComponent k) p there one =
      let less = ltb-true p (2 + length (net_component_at net k).inputs + length (net_component_at net k).outputs) (sym (ap (λ (x : PlainNetComponent). nat_lt p (2 + length x.inputs + length x.outputs)) (parts k)) ∙ there) in
      signature_is (net_component_at net k) p less ∙ ap Some (sym (ap (λ (x : PlainNetComponent). child_port_width x (net_part_port x p)) (parts k)) ∙ one)

  module _ (part : PlainNetComponent) where
    cell_there : (c p : ℕ) (o : Option PlainCell) → slice_get part.cells c ≡ o → (w : ℕ) → option_and_then (λ (cell : PlainCell). kind_width net cell.kind p) o ≡ Some w → is_port_of (net_cell_at (net_cells_for child part.cells) c) p ≡ true
    cell_there c p None is w e = absurd cc
    cell_there c p (Some cell) is w e = ap (λ x. is_port_of x p) (cell_stands child part.cells c ∙ ap (at_option child) is) ∙ kind_there cell.kind p w e

    cell_bit : (c p : ℕ) (o : Option PlainCell) → slice_get part.cells c ≡ o → is_port_of (net_cell_at (net_cells_for child part.cells) c) p ≡ true → net_at_width (net_cell_at (net_cells_for child part.cells) c) p ≡ 1
        → option_and_then (λ (cell : PlainCell). kind_width net cell.kind p) o ≡ Some 1
    cell_bit c p None is there one = let no = sym (ap (λ x. is_port_of x p) (cell_stands child part.cells c ∙ ap (at_option child) is)) ∙ there in absurd cc
    cell_bit c p (Some cell) is there one =
        let at = cell_stands child part.cells c ∙ ap (at_option child) is in
        kind_bit cell.kind p (sym (ap (λ x. is_port_of x p) at) ∙ there) (sym (ap (λ x. net_at_width x p) at) ∙ one)

    -- EXPRESSIONS that have a width name what is there
    decl_there : (decls : List PortDecl) (n w : ℕ) → option_map (λ (d : PortDecl). d.width) (slice_get decls n) ≡ Some w → nat_lt n (length decls) ≡ true
    decl_there decls n w e = by (slice_get decls n) refl e
      where
        by : (o : Option PortDecl) → slice_get decls n ≡ o → option_map (λ (d : PortDecl). d.width) o ≡ Some w → nat_lt n (length decls) ≡ true
        by None is f = absurd cc
        by (Some d) is f = lt-ltb n (length decls) (slice_get_within decls n d is)

    port_named : (p : PortRef) (w : ℕ) → HasPortWidth net part p w → is_named_port part (net_cells_for child part.cells) p ≡ true
    port_named (ports.Cell c p) w h = cell_there c p (slice_get part.cells c) refl w h
    port_named (ports.Input n) w h = decl_there part.inputs n w h
    port_named (ports.Output n) w h = decl_there part.outputs n w h
    port_named (ports.Done g) w h = absurd h
    port_named (ports.Literal u v) w h = refl

    mutual
      expr_named : (e : PlainNetExpr) (w : ℕ) → HasWidth net part e w → ExprNames part (net_cells_for child part.cells) e
      expr_named (OfPort p) w h = port_named p w h
      expr_named (OfRegister n) w h = tt
      expr_named (OfWire n) w h = lt-ltb n (length part.wires) (slice_get_within part.wires n w h)
      expr_named (OfHole n) w h = lt-ltb n part.holes h.0
      expr_named OfGo w h = tt
      expr_named (Fixed b) w h = tt
      expr_named (Inverse e) w h = expr_named e w h
      expr_named (AllOf es) w h = exprs_named es h.1
      expr_named (AnyOf es) w h = exprs_named es h.1
      expr_named (Sum a b) w h = (expr_named a w h.0, expr_named b w h.1)
      expr_named (Compares c a b) w h = (expr_named a h.1.0 h.1.1, expr_named b h.1.0 h.1.2)

      exprs_named : (es : PlainNetExprs) → AreBits net part es → ExprsName part (net_cells_for child part.cells) es
      exprs_named no_exprs h = tt
      exprs_named (an_expr e es) h = (expr_named e 1 h.0, exprs_named es h.1)

    -- A NODE OF ONE BIT has that width, and is there
    one_output : (decls : List PortDecl) (n : ℕ) → nat_lt n (length decls) ≡ true → decl_width decls n ≡ 1 → option_map (λ (d : PortDecl). d.width) (slice_get decls n) ≡ Some 1
    one_output decls n there one =
        let d = there_at decls n (ltb-true n (length decls) there) in
        ap (option_map (λ (x : PortDecl). x.width)) d.1 ∙ ap Some (sym (ap (λ o. unwrap_or (option_map (λ (x : PortDecl). x.width) o) 1) d.1) ∙ one)

    bit_wire : (o : Option ℕ) → option_map_or (λ w. w == 1) o false ≡ true → o ≡ Some 1
    bit_wire None e = absurd cc
    bit_wire (Some w) e = ap Some (eqb-true w 1 e)

    bit_node : (node : Node) → own_bit part (net_cells_for child part.cells) node ≡ true → (width_of_node net part node ≡ Some 1) × (is_own_node part (net_cells_for child part.cells) node ≡ true)
    bit_node (APort (ports.Cell c p)) e =
        let b = and_both (is_port_of (net_cell_at (net_cells_for child part.cells) c) p) (net_at_width (net_cell_at (net_cells_for child part.cells) c) p == 1) e in
        (cell_bit c p (slice_get part.cells c) refl b.0 (eqb-true (net_at_width (net_cell_at (net_cells_for child part.cells) c) p) 1 b.1), b.0)
    bit_node (APort (ports.Input n)) e = absurd cc
    bit_node (APort (ports.Output n)) e =
        let b = and_both (nat_lt n (length part.outputs)) (decl_width part.outputs n == 1) e in
        (one_output part.outputs n b.0 (eqb-true (decl_width part.outputs n) 1 b.1), b.0)
    bit_node (APort (ports.Done g)) e = absurd cc
    bit_node (APort (ports.Literal w v)) e = absurd cc
    bit_node (AWire n) e = let w = bit_wire (slice_get part.wires n) e in (w, lt-ltb n (length part.wires) (slice_get_within part.wires n 1 w))
    bit_node (AHole n) e = (ap (λ b. if b then Some 1 else None) e, e)
    bit_node TheDone e = (refl, refl)

-- OF ALL COMPONENTS of a tree
drivers_named : (part : PlainNetComponent) (cells : NetCells) (ds : List PlainNetDriver) → ((n : ℕ) (d : PlainNetDriver) → slice_get ds n ≡ Some d → ExprNames part cells d.guard × ExprNames part cells d.source) → DriversName part cells ds
drivers_named part cells [] each = tt
drivers_named part cells (d ∷ ds) each = (each 0 d refl, drivers_named part cells ds (λ n x e. each (suc n) x e))

cells_named : (child : ℕ → NetInstance) (cells : List PlainCell) → ((c : ℕ) (cell : PlainCell) → slice_get cells c ≡ Some cell → (k : ℕ) → cell.kind ≡ OfComponent k → TreeNames (child k)) → CellsName (net_cells_for child cells)
cells_named child [] each = tt
cells_named child (x ∷ cells) each = by x.kind refl (cells_named child cells (λ c cell e. each (suc c) cell e))
  where
    by : (k : PlainKind) → x.kind ≡ k → CellsName (net_cells_for child cells) → CellsName (add_net_cell child k (net_cells_for child cells))
    by (OfPrimitive p) is rest = rest
    by (OfComponent k) is rest = (each 0 x refl k is, rest)

bit_below : (child : ℕ → NetInstance) (cells : List PlainCell) (c : ℕ) (path : Path) (node : Node) → is_bit_below (net_cells_for child cells) c path node ≡ true
    → (cell : PlainCell) × (k : ℕ) × (slice_get cells c ≡ Some cell) × (cell.kind ≡ OfComponent k) × (is_bit (child k) path node ≡ true)
bit_below child [] c path node e = absurd cc
bit_below child (x ∷ cells) zero path node e = by x.kind refl e
  where
    by : (k : PlainKind) → x.kind ≡ k → is_bit_below (add_net_cell child k (net_cells_for child cells)) zero path node ≡ true
        → (cell : PlainCell) × (j : ℕ) × (slice_get (x ∷ cells) zero ≡ Some cell) × (cell.kind ≡ OfComponent j) × (is_bit (child j) path node ≡ true)
    by (OfPrimitive p) is f = absurd cc
    by (OfComponent k) is f = (x, k, refl, is, f)
bit_below child (x ∷ cells) (suc c) path node e = bit_below child cells c path node (sym (by x.kind) ∙ e)
  where
    by : (k : PlainKind) → is_bit_below (add_net_cell child k (net_cells_for child cells)) (suc c) path node ≡ is_bit_below (net_cells_for child cells) c path node
    by (OfPrimitive p) = refl
    by (OfComponent k) = refl

-- the target of each driver is there
abbrev pub TargetsThere : PlainNet → Type 0
TargetsThere net =
    (k : ℕ) → k < length net.components → (n : ℕ) (d : PlainNetDriver) → slice_get (net_component_at net k).drivers n ≡ Some d → IsSome (target_width net (net_component_at net k) d.target)

module _ (net : PlainNet) (fit : IsFit net) (targets : TargetsThere net) where
  driver_named : (levels k : ℕ) → k < length net.components → (n : ℕ) (d : PlainNetDriver) → slice_get (net_component_at net k).drivers n ≡ Some d
      → ExprNames (net_component_at net k) (net_cells_for (net_within net levels) (net_component_at net k).cells) d.guard × ExprNames (net_component_at net k) (net_cells_for (net_within net levels) (net_component_at net k).cells) d.source
  driver_named levels k here n d e =
      let f = (fit.components k here).drivers n d e in
      let w = some_of (target_width net (net_component_at net k) d.target) (targets k here n d e) in (
        expr_named net (net_within net levels) (part-within net levels) (net_component_at net k) d.guard 1 f.guard,
        expr_named net (net_within net levels) (part-within net levels) (net_component_at net k) d.source w.0 (f.source w.0 w.1),
      )

  -- EXPRESSIONS NAME what is there
  tree_named : (levels k : ℕ) → k < levels → k < length net.components → TreeNames (net_within net levels k)
  tree_named zero k lower here = absurd (omega arith)
  tree_named (suc levels) k lower here = (
    drivers_named (net_component_at net k) (net_cells_for (net_within net levels) (net_component_at net k).cells) (net_component_at net k).drivers (driver_named levels k here),
    cells_named (net_within net levels) (net_component_at net k).cells (λ c cell e j is.
        let less = lower_child net fit k c cell j here e is in
        tree_named levels j (omega (arith, less, lower)) (omega (arith, less, here))),
  )

  pub tree_names : TreeNames (net_tree net)
  tree_names = tree_named (length net.components) net.main fit.has_main fit.has_main

  -- NODES OF ONE BIT
  bit_within : (path : Path) (levels k : ℕ) → k < levels → k < length net.components → (node : Node) → is_bit (net_within net levels k) path node ≡ true
      → (h : ℕ) × LeadsTo net k path h × (width_of_node net (net_component_at net h) node ≡ Some 1) × (is_node (net_within net levels k) path node ≡ true)
  bit_within path zero k lower here node e = absurd (omega arith)
  bit_within [] (suc levels) k lower here node e =
      let b = bit_node net (net_within net levels) (part-within net levels) (net_component_at net k) node e in
      (k, refl, b.0, b.1)
  bit_within (c ∷ path) (suc levels) k lower here node e =
      let (cell, j, there, is, f) = bit_below (net_within net levels) (net_component_at net k).cells c path node e in
      let less = lower_child net fit k c cell j here there is in
      let (h, leads, width, stands) = bit_within path levels j (omega (arith, less, lower)) (omega (arith, less, here)) node f in
      (h, (cell, j, there, is, leads), width, there-at (net_within net levels) path (net_component_at net k).cells c cell j there is node ∙ stands)

  module _ (wide : IsWide net) (rows_wide : RowsAreWide) where
    -- A NODE OF ONE BIT has a bit
    pub bit_value : (go : Bool) (s : NetState) → Holds net net.main s → (path : Path) (node : Node) → is_bit (net_tree net) path node ≡ true → (v : BitVector) → NetHas (net_tree net) go s path node v → (b : Bool) × (v ≡ truth_bit b)
    bit_value go s holds path node e v has =
        let (h, leads, width, stands) = bit_within path (length net.components) net.main fit.has_main fit.has_main node e in
        bit_is v (values_wide net fit wide rows_wide go s holds path h 1 node v leads width has)

    -- also in a whole look
    pub bits_are : (go : Bool) (s : NetState) (look : NetLook) → Holds net net.main s → IsWholeLook (net_tree net) go s look → (path : Path) (node : Node) → is_bit (net_tree net) path node ≡ true
        → (b : Bool) × (look path node ≡ Some (truth_bit b))
    bits_are go s look holds whole path node e =
        let (h, leads, width, stands) = bit_within path (length net.components) net.main fit.has_main fit.has_main node e in
        let v = some_value (look path node) (whole.whole path node stands) in
        let b = bit_value go s holds path node e v.0 (whole.right path node v.0 v.1) in
        (b.0, v.1 ∙ ap Some b.1)
      where
        some_value : (o : Option BitVector) → IsSome o → (x : BitVector) × (o ≡ Some x)
        some_value None i = absurd cc
        some_value (Some x) i = (x, refl)
