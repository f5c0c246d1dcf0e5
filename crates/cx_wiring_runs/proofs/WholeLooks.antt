-- A node of a net has one value, and a whole look is a value of each node by the node's own rule.
use Rattle.std.proofs.Common.{◌≡◌, ℕ, zero, suc, ◌+◌, ◌-◌, ◌<◌, Bool, true, false, if◌then◌else◌, [], ◌∷◌, length, Option, Some, None, slice_get, nat_lt, IsSome, refl, sym, ap, ◌∙◌, subst, arith}
use Rattle.std.proofs.lemmas.Bool.{ltb-true, lt-ltb}
use Rattle.cx_bits.specs.BitVector.{BitVector}
use Rattle.cx_prim.specs.declared.ports.Side.{Side}
use Rattle.cx_prim.specs.declared.ports.Side.TheVariants as sides
use Rattle.cx_prim.specs.Rows.{Row}
use Rattle.cx_meaning.specs.declared.ports.PortRef.TheVariants as ports
use Rattle.cx_meaning.specs.Rows.{side_of}
use Rattle.cx_meaning.specs.Instances.{Path}
use Rattle.cx_meaning.specs.Sights.{PartPort, Go, AnInput, AnOutput, ItsDone, later_port, output_port}
use Rattle.cx_net.specs.Nets.{PlainNetTarget, ToWire, ToHole, ToDone, PlainNetComponent}
use Rattle.cx_net.specs.NetTree.{NetInstance, NetNode, NetCells, no_net_cells, a_row, a_child, NetAt, NoCell, ARow, AChild, net_part, net_cell_at}
use Rattle.cx_net.specs.NetMeaning.{NetState, below_cell, Node, APort, AWire, AHole, TheDone, NetLook, NetAround, around_child, net_part_port, drivers_to, registers_of, driven_node, row_node, child_node, cell_node, own_step, net_step, child_step, outside, NetHas, by_rule, is_port_of, is_own_node, is_node, is_node_below}
use Rattle.cx_net.specs.NetRuns.{IsWholeLook}
use Rattle.cx_wiring.specs.NetNames.{DriversName, TreeNames, CellsName}
use Rattle.cx_wiring_runs.proofs.GrowLemmas.{Less, less_self, none_is_some, grows_map, grows_then, gather_grows, AroundLess, chain_grows, names_to}
use Rattle.cx_net.proofs.NetTreeLemmas.{at_child}
use Rattle.cx_bits.proofs.BitVectorLemmas.{some_is}
use Rattle.cx_lockstep.specs.Machines.{first_some}

-- an output of a component cell is one of the component
output_there : (outputs n m : ℕ) → output_port outputs n ≡ AnOutput m → nat_lt m outputs ≡ true
output_there outputs n m e = choice (nat_lt n outputs) refl e
  where
    is_number : (k : ℕ) → AnOutput k ≡ AnOutput m → k ≡ m
    is_number k f = cc

    other : ItsDone ≡ AnOutput m → ⊥
    other f = cc

    choice : (t : Bool) → nat_lt n outputs ≡ t → (if t then AnOutput n else ItsDone) ≡ AnOutput m → nat_lt m outputs ≡ true
    choice true is f = ap (λ k. nat_lt k outputs) (sym (is_number n f)) ∙ is
    choice false is f = absurd (other f)

later_output : (inputs outputs n m : ℕ) → later_port inputs outputs n ≡ AnOutput m → nat_lt m outputs ≡ true
later_output inputs outputs n m e = choice (nat_lt n inputs) e
  where
    other : AnInput n ≡ AnOutput m → ⊥
    other f = cc

    choice : (t : Bool) → (if t then AnInput n else output_port outputs (n - inputs)) ≡ AnOutput m → nat_lt m outputs ≡ true
    choice true f = absurd (other f)
    choice false f = output_there outputs (n - inputs) m f

pub part_output : (part : PlainNetComponent) (p m : ℕ) → net_part_port part p ≡ AnOutput m → nat_lt m (length part.outputs) ≡ true
part_output part zero m e = absurd (other e)
  where
    other : Go ≡ AnOutput m → ⊥
    other f = cc
part_output part (suc p) m e = later_output (length part.inputs) (length part.outputs) p m e

-- ONE RULE gives from more what it gives from some
module _ (part : PlainNetComponent) (cells : NetCells) (names : DriversName part cells part.drivers) (a b : NetAround) (s : NetState) (look more : Node → Option BitVector) (below beyond : ℕ → Node → Option BitVector)
    (around : AroundLess part a b) (less : (n : Node) → is_own_node part cells n ≡ true → Less (look n) (more n))
    (under : (c : ℕ) (child : NetInstance) → net_cell_at cells c ≡ AChild child → (n : Node) → is_node child [] n ≡ true → Less (below c n) (beyond c n)) where
  driven_grows : (w : ℕ) (t : PlainNetTarget) → Less (driven_node part cells a s look below w t) (driven_node part cells b s more beyond w t)
  driven_grows w t = chain_grows part cells a b (registers_of part cells a s look below) look more less around (record { width = w; value = 0 }) (drivers_to t part.drivers) (names_to part cells t part.drivers names)

  row_grows : (row : Row) (c p : ℕ) → net_cell_at cells c ≡ ARow row → (side : Side) → Less (row_node part cells a s look below row c p side) (row_node part cells b s more beyond row c p side)
  row_grows row c p is sides.Enable = driven_grows _ _
  row_grows row c p is sides.Plain = driven_grows _ _
  row_grows row c p is sides.Output =
      grows_map _ _ _ (gather_grows _ _ (row.reads p) 0 row.ports (λ q low high. less (APort (ports.Cell c q)) (ap (λ x. is_port_of x q) is ∙ lt-ltb q (length row.ports) (omega arith))))
  row_grows row c p is sides.Registered = less_self _ _ refl

  child_grows : (child : NetInstance) (c p : ℕ) → net_cell_at cells c ≡ AChild child → (port : PartPort) → net_part_port (net_part child) p ≡ port
      → Less (child_node part cells a s look below child c p port) (child_node part cells b s more beyond child c p port)
  child_grows child c p is Go e = driven_grows _ _
  child_grows child c p is (AnInput n) e = driven_grows _ _
  child_grows child c p is (AnOutput n) e = under c child is (APort (ports.Output n)) (out child e)
    where
      out : (child : NetInstance) → net_part_port (net_part child) p ≡ AnOutput n → is_node child [] (APort (ports.Output n)) ≡ true
      out (NetNode q more) f = part_output q p n f
  child_grows child c p is ItsDone e = under c child is TheDone (done child)
    where
      done : (child : NetInstance) → is_node child [] TheDone ≡ true
      done (NetNode q more) = refl

  cell_grows : (c p : ℕ) (x : NetAt) → net_cell_at cells c ≡ x → Less (cell_node part cells a s look below c p x) (cell_node part cells b s more beyond c p x)
  cell_grows c p NoCell is = less_self _ _ refl
  cell_grows c p (ARow row) is = row_grows row c p is (side_of row p)
  cell_grows c p (AChild child) is = child_grows child c p is (net_part_port (net_part child) p) refl

  pub own_grows : (n : Node) → is_own_node part cells n ≡ true → Less (own_step part cells a s look below n) (own_step part cells b s more beyond n)
  own_grows (APort (ports.Cell c p)) t = cell_grows c p (net_cell_at cells c) refl
  own_grows (APort (ports.Input n)) t = absurd cc
  own_grows (APort (ports.Output n)) t = driven_grows _ _
  own_grows (APort (ports.Done g)) t = less_self _ _ refl
  own_grows (APort (ports.Literal w v)) t = less_self _ _ refl
  own_grows (AWire n) t = grows_then _ _ (slice_get part.wires n) (slice_get part.wires n) (less_self _ _ refl) (λ w. driven_grows w (ToWire n))
  own_grows (AHole n) t = subst (λ h. Less (if h then driven_node part cells a s look below 1 (ToHole n) else None) (if h then driven_node part cells b s more beyond 1 (ToHole n) else None)) (sym t) (driven_grows 1 (ToHole n))
  own_grows TheDone t = driven_grows 1 ToDone

-- all nodes of a tree that are known in the one look are known in the other
abbrev TreeLess : NetInstance → NetLook → NetLook → Type 0
TreeLess tree look more = (q : Path) (n : Node) → is_node tree q n ≡ true → Less (look q n) (more q n)

abbrev CellLess : NetCells → ℕ → NetLook → NetLook → Type 0
CellLess cells c look more = (q : Path) (n : Node) → is_node_below cells c q n ≡ true → Less (look q n) (more q n)

-- what stands around the child at a cell, where the ports of the cell are known
around_grows : (part : PlainNetComponent) (cells : NetCells) (c : ℕ) (child : NetInstance) (look more : Node → Option BitVector) → net_cell_at cells c ≡ AChild child
    → ((n : Node) → is_own_node part cells n ≡ true → Less (look n) (more n)) → AroundLess (net_part child) (around_child c look) (around_child c more)
around_grows part cells c child look more is less = record {
  go = less (APort (ports.Cell c 0)) (there 0 (omega arith));
  input = λ n e. let l : n < length (net_part child).inputs = ltb-true n (length (net_part child).inputs) e in less (APort (ports.Cell c (suc n))) (there (suc n) (omega arith));
}
  where
    there : (p : ℕ) → p < 2 + length (net_part child).inputs + length (net_part child).outputs → is_own_node part cells (APort (ports.Cell c p)) ≡ true
    there p l = ap (λ x. is_port_of x p) is ∙ lt-ltb p (2 + length (net_part child).inputs + length (net_part child).outputs) l

mutual
  step_grows : (tree : NetInstance) → TreeNames tree → (a b : NetAround) (s : NetState) (look more : NetLook) → AroundLess (net_part tree) a b → TreeLess tree look more
      → (path : Path) (n : Node) → is_node tree path n ≡ true → Less (net_step tree a s look path n) (net_step tree b s more path n)
  step_grows (NetNode part cells) names a b s look more around less [] n t =
      own_grows part cells names.0 a b s (look []) (more []) (λ c. look (c ∷ [])) (λ c. more (c ∷ [])) around (less [])
      (λ c child is m u. less (c ∷ []) m (at_child cells c child is [] m ∙ u)) n t
  step_grows (NetNode part cells) names a b s look more around less (c ∷ path) n t =
      below_grows cells names.1 c (around_child c (look [])) (around_child c (more [])) (below_cell c s) (λ q. look (c ∷ q)) (λ q. more (c ∷ q))
      (λ child is. around_grows part cells c child (look []) (more []) is (less [])) (λ q. less (c ∷ q)) path n t

  below_grows : (cells : NetCells) → CellsName cells → (c : ℕ) (a b : NetAround) (s : NetState) (look more : NetLook) → ((child : NetInstance) → net_cell_at cells c ≡ AChild child → AroundLess (net_part child) a b)
      → CellLess cells c look more → (path : Path) (n : Node) → is_node_below cells c path n ≡ true → Less (child_step cells c a s look path n) (child_step cells c b s more path n)
  below_grows no_net_cells names c a b s look more around less path n t = less_self _ _ refl
  below_grows (a_row row rest) names zero a b s look more around less path n t = less_self _ _ refl
  below_grows (a_row row rest) names (suc c) a b s look more around less path n t = below_grows rest names c a b s look more around less path n t
  below_grows (a_child child rest) names zero a b s look more around less path n t = step_grows child names.0 a b s look more (around child refl) less path n t
  below_grows (a_child child rest) names (suc c) a b s look more around less path n t = below_grows rest names.1 c a b s look more around less path n t

first_less : {A : Type 0} (a b : Option A) → Less a (first_some a b)
first_less None b x e = none_is_some x e
first_less (Some v) b x e = e

second_less : {A : Type 0} (a b : Option A) → ((x y : A) → a ≡ Some x → b ≡ Some y → x ≡ y) → Less b (first_some a b)
second_less None b h y e = e
second_less (Some x) b h y e = ap Some (h x y refl e)

abbrev joined : NetLook → NetLook → NetLook
joined look more q n = first_some (look q n) (more q n)

abbrev HasOne : Option BitVector → Type 0
HasOne o = (v : BitVector) × (o ≡ Some v)

module _ (tree : NetInstance) (names : TreeNames tree) (go : Bool) (s : NetState) where
  around_same : AroundLess (net_part tree) (outside go) (outside go)
  around_same = record { go = less_self _ _ refl; input = λ n e. less_self _ _ refl }

  -- A NODE HAS ONE VALUE
  pub one_value : (path : Path) (node : Node) (v w : BitVector) → NetHas tree go s path node v → NetHas tree go s path node w → is_node tree path node ≡ true → v ≡ w
  one_value path node v w (by_rule look from e) (by_rule more since f) t =
      some_is v w
      (sym (step_grows tree names (outside go) (outside go) s look (joined look more) around_same (λ q n u. first_less (look q n) (more q n)) path node t v e)
      ∙ step_grows tree names (outside go) (outside go) s more (joined look more) around_same
      (λ q n u. second_less (look q n) (more q n) (λ x y k l. one_value q n x y (from q n x k) (since q n y l) u)) path node t w f)

  -- A WHOLE LOOK SOLVES the rules of all nodes
  pub whole_solves : (look : NetLook) → IsWholeLook tree go s look → (path : Path) (n : Node) → is_node tree path n ≡ true → look path n ≡ net_step tree (outside go) s look path n
  whole_solves look is path n t = let k = known path n t in at k.0 k.1 (is.right path n k.0 k.1)
    where
      known : (q : Path) (m : Node) → is_node tree q m ≡ true → HasOne (look q m)
      known q m u = some_one (look q m) (is.whole q m u)
        where
          some_one : (o : Option BitVector) → IsSome o → HasOne o
          some_one None h = absurd cc
          some_one (Some v) h = (v, refl)

      at : (v : BitVector) → look path n ≡ Some v → NetHas tree go s path n v → look path n ≡ net_step tree (outside go) s look path n
      at v e (by_rule less from f) =
          e ∙ sym (step_grows tree names (outside go) (outside go) s less look around_same
          (λ q m u x g. let k = known q m u in k.1 ∙ ap Some (one_value q m k.0 x (is.right q m k.0 k.1) (from q m x g) u)) path n t v f)
