-- What a rule of a net gives from some values it gives from more, whatever its expressions name.
use Rattle.std.proofs.Common.{ℕ, zero, suc, List, [], ◌∷◌, Option, slice_get, nat_lt, refl}
use Rattle.cx_bits.specs.BitVector.{BitVector}
use Rattle.cx_prim.specs.declared.ports.Side.{Side}
use Rattle.cx_prim.specs.declared.ports.Side.TheVariants as sides
use Rattle.cx_prim.specs.Rows.{Row}
use Rattle.cx_meaning.specs.declared.ports.PortRef.TheVariants as ports
use Rattle.cx_meaning.specs.Rows.{side_of}
use Rattle.cx_meaning.specs.Instances.{Path}
use Rattle.cx_meaning.specs.Sights.{PartPort, Go, AnInput, AnOutput, ItsDone}
use Rattle.cx_net.specs.Nets.{PlainNetExpr, OfPort, OfRegister, OfWire, OfHole, OfGo, Fixed, Inverse, AllOf, AnyOf, Sum, Compares, PlainNetExprs, no_exprs, an_expr, PlainNetTarget, ToWire, ToHole, ToDone, PlainNetDriver, PlainNetComponent}
use Rattle.cx_net.specs.NetTree.{NetInstance, NetNode, NetCells, no_net_cells, a_row, a_child, NetAt, NoCell, ARow, AChild, net_part, net_cell_at}
use Rattle.cx_net.specs.NetMeaning.{NetState, below_cell, Node, APort, AWire, AHole, TheDone, NetLook, NetAround, around_child, net_part_port, is_true, net_expr, all_expr, any_expr, chain, drivers_to, registers_of, driven_node, row_node, child_node, cell_node, own_step, net_step, child_step}
use Rattle.cx_wiring_runs.proofs.GrowLemmas.{Less, less_self, grows_map, grows_then, gather_grows, grows_both, grows_if}

-- what is known around an instance
pub record AroundRises (a b : NetAround) : Type 0 where
  pub go : Less a.go b.go
  pub input : (n : ℕ) → Less (a.input n) (b.input n)

module _ (a b : NetAround) (registers : ℕ → Option BitVector) (look more : Node → Option BitVector) (l : (n : Node) → Less (look n) (more n)) (m : AroundRises a b) where
  mutual
    expr_rises : (e : PlainNetExpr) → Less (net_expr a registers look e) (net_expr b registers more e)
    expr_rises (OfPort (ports.Cell c p)) = l (APort (ports.Cell c p))
    expr_rises (OfPort (ports.Input i)) = m.input i
    expr_rises (OfPort (ports.Output i)) = l (APort (ports.Output i))
    expr_rises (OfPort (ports.Done g)) = l (APort (ports.Done g))
    expr_rises (OfPort (ports.Literal w v)) = less_self _ _ refl
    expr_rises (OfRegister i) = less_self _ _ refl
    expr_rises (OfWire i) = l (AWire i)
    expr_rises (OfHole i) = l (AHole i)
    expr_rises OfGo = m.go
    expr_rises (Fixed v) = less_self _ _ refl
    expr_rises (Inverse e) = grows_map _ _ _ (expr_rises e)
    expr_rises (AllOf es) = all_rises es
    expr_rises (AnyOf es) = any_rises es
    expr_rises (Sum e f) = grows_both _ _ _ _ _ (expr_rises e) (expr_rises f)
    expr_rises (Compares c e f) = grows_both _ _ _ _ _ (expr_rises e) (expr_rises f)

    all_rises : (es : PlainNetExprs) → Less (all_expr a registers look es) (all_expr b registers more es)
    all_rises no_exprs = less_self _ _ refl
    all_rises (an_expr e es) = grows_both _ _ _ _ _ (expr_rises e) (all_rises es)

    any_rises : (es : PlainNetExprs) → Less (any_expr a registers look es) (any_expr b registers more es)
    any_rises no_exprs = less_self _ _ refl
    any_rises (an_expr e es) = grows_both _ _ _ _ _ (expr_rises e) (any_rises es)

  pub chain_rises : (undriven : BitVector) (ds : List PlainNetDriver) → Less (chain a registers look undriven ds) (chain b registers more undriven ds)
  chain_rises undriven [] = less_self _ _ refl
  chain_rises undriven (d ∷ ds) = grows_then _ _ _ _ (expr_rises d.guard) (λ g. grows_if (is_true g) _ _ _ _ (expr_rises d.source) (chain_rises undriven ds))

-- ONE RULE
module _ (part : PlainNetComponent) (cells : NetCells) (a b : NetAround) (s : NetState) (look more : Node → Option BitVector) (below beyond : ℕ → Node → Option BitVector)
    (around : AroundRises a b) (less : (n : Node) → Less (look n) (more n)) (under : (c : ℕ) (n : Node) → Less (below c n) (beyond c n)) where
  driven_rises : (w : ℕ) (t : PlainNetTarget) → Less (driven_node part cells a s look below w t) (driven_node part cells b s more beyond w t)
  driven_rises w t = chain_rises a b (registers_of part cells a s look below) look more less around (record { width = w; value = 0 }) (drivers_to t part.drivers)

  row_rises : (row : Row) (c p : ℕ) (side : Side) → Less (row_node part cells a s look below row c p side) (row_node part cells b s more beyond row c p side)
  row_rises row c p sides.Enable = driven_rises _ _
  row_rises row c p sides.Plain = driven_rises _ _
  row_rises row c p sides.Output = grows_map _ _ _ (gather_grows _ _ (row.reads p) 0 row.ports (λ q low high. less (APort (ports.Cell c q))))
  row_rises row c p sides.Registered = less_self _ _ refl

  child_rises : (child : NetInstance) (c p : ℕ) (port : PartPort) → Less (child_node part cells a s look below child c p port) (child_node part cells b s more beyond child c p port)
  child_rises child c p Go = driven_rises _ _
  child_rises child c p (AnInput n) = driven_rises _ _
  child_rises child c p (AnOutput n) = under c (APort (ports.Output n))
  child_rises child c p ItsDone = under c TheDone

  cell_rises : (c p : ℕ) (x : NetAt) → Less (cell_node part cells a s look below c p x) (cell_node part cells b s more beyond c p x)
  cell_rises c p NoCell = less_self _ _ refl
  cell_rises c p (ARow row) = row_rises row c p (side_of row p)
  cell_rises c p (AChild child) = child_rises child c p (net_part_port (net_part child) p)

  pub own_rises : (n : Node) → Less (own_step part cells a s look below n) (own_step part cells b s more beyond n)
  own_rises (APort (ports.Cell c p)) = cell_rises c p (net_cell_at cells c)
  own_rises (APort (ports.Input n)) = around.input n
  own_rises (APort (ports.Output n)) = driven_rises _ _
  own_rises (APort (ports.Done g)) = less_self _ _ refl
  own_rises (APort (ports.Literal w v)) = less_self _ _ refl
  own_rises (AWire n) = grows_then _ _ (slice_get part.wires n) (slice_get part.wires n) (less_self _ _ refl) (λ w. driven_rises w (ToWire n))
  own_rises (AHole n) = grows_if (nat_lt n part.holes) _ _ _ _ (driven_rises 1 (ToHole n)) (less_self _ _ refl)
  own_rises TheDone = driven_rises 1 ToDone

-- ALL RULES of a tree
mutual
  pub step_rises : (tree : NetInstance) (a b : NetAround) (s : NetState) (look more : NetLook) → AroundRises a b → ((q : Path) (n : Node) → Less (look q n) (more q n)) → (path : Path) (n : Node) → Less (net_step tree a s look path n) (net_step tree b s more path n)
  step_rises (NetNode part cells) a b s look more around less [] n = own_rises part cells a b s (look []) (more []) (λ c. look (c ∷ [])) (λ c. more (c ∷ [])) around (less []) (λ c. less (c ∷ [])) n
  step_rises (NetNode part cells) a b s look more around less (c ∷ path) n =
      below_rises cells c (around_child c (look [])) (around_child c (more [])) (below_cell c s) (λ q. look (c ∷ q)) (λ q. more (c ∷ q))
      (record { go = less [] (APort (ports.Cell c 0)); input = λ k. less [] (APort (ports.Cell c (suc k))) }) (λ q. less (c ∷ q)) path n

  below_rises : (cells : NetCells) (c : ℕ) (a b : NetAround) (s : NetState) (look more : NetLook) → AroundRises a b → ((q : Path) (n : Node) → Less (look q n) (more q n)) → (path : Path) (n : Node) → Less (child_step cells c a s look path n) (child_step cells c b s more path n)
  below_rises no_net_cells c a b s look more around less path n = less_self _ _ refl
  below_rises (a_row row rest) zero a b s look more around less path n = less_self _ _ refl
  below_rises (a_row row rest) (suc c) a b s look more around less path n = below_rises rest c a b s look more around less path n
  below_rises (a_child child rest) zero a b s look more around less path n = step_rises child a b s look more around less path n
  below_rises (a_child child rest) (suc c) a b s look more around less path n = below_rises rest c a b s look more around less path n
