-- A look at the nodes of a net that has been filled by rules until no rule gives a value more: it solves the rules of all nodes, and
-- what it has is right. So a node has a value where no look that solves the rules can be without one.
use Rattle.std.proofs.Common.{◌≡◌, ℕ, zero, suc, ◌+◌, ◌≤◌, ◌<◌, ◌⊎◌, inl, inr, Bool, true, List, [], ◌∷◌, ◌++◌, length, map, Option, Some, None, refl, sym, ap, subst, arith, ⊎_elim}
use Rattle.std.proofs.lemmas.Bool.{ltb-true}
use Rattle.cx_text.proofs.MemberLaws.{in_image, in_left, in_right}
use Rattle.cx_bits.specs.BitVector.{BitVector}
use Rattle.cx_meaning.specs.declared.ports.PortRef.TheVariants as ports
use Rattle.cx_meaning.specs.Instances.{Path}
use Rattle.cx_text.specs.Members.{In}
use Rattle.cx_text.proofs.NumberLaws.{before_more}
use Rattle.cx_net.specs.Nets.{PlainNetComponent}
use Rattle.cx_net.specs.NetTree.{NetInstance, NetNode, NetCells, no_net_cells, a_row, a_child, net_part, net_cell_at}
use Rattle.cx_net.specs.NetMeaning.{NetState, Node, APort, AWire, AHole, TheDone, NetLook, net_step, outside, NetHas, by_rule, is_port_of, is_own_node, is_node, is_node_below}
use Rattle.cx_wiring_runs.proofs.GrowLemmas.{Less, less_self, none_is_some}
use Rattle.cx_wiring_runs.proofs.RiseLemmas.{step_rises}

-- THE NODES of a tree, each with its path
record NodeAt : Type 0 where
  path : Path
  node : Node

abbrev node_at : Path → Node → NodeAt
node_at path node = record { path = path; node = node }

abbrev first_nodes : ℕ → (ℕ → Node) → List Node
first_nodes zero f = []
first_nodes (suc n) f = f n ∷ first_nodes n f

first_in : (n : ℕ) (f : ℕ → Node) (k : ℕ) → k < n → In (first_nodes n f) (f k)
first_in zero f k less = absurd (omega arith)
first_in (suc n) f k less = ⊎_elim (λ l. inr (first_in n f k l)) (λ e. inl (ap f (sym e))) (before_more n k (omega (arith, less)))

abbrev port_nodes : NetCells → ℕ → List Node
port_nodes no_net_cells c = []
port_nodes (a_row row rest) c = first_nodes (length row.ports) (λ p. APort (ports.Cell c p)) ++ port_nodes rest (suc c)
port_nodes (a_child child rest) c = first_nodes (2 + length (net_part child).inputs + length (net_part child).outputs) (λ p. APort (ports.Cell c p)) ++ port_nodes rest (suc c)

port_in : (cells : NetCells) (k c p : ℕ) → is_port_of (net_cell_at cells c) p ≡ true → In (port_nodes cells k) (APort (ports.Cell (k + c) p))
port_in no_net_cells k c p e = absurd cc
port_in (a_row row rest) k zero p e =
    let same : k ≡ k + 0 = omega arith in
    subst (λ n. In (port_nodes (a_row row rest) k) (APort (ports.Cell n p))) same
    (in_left (first_nodes (length row.ports) (λ q. APort (ports.Cell k q))) (port_nodes rest (suc k)) _ (first_in (length row.ports) (λ q. APort (ports.Cell k q)) p (ltb-true p (length row.ports) e)))
port_in (a_row row rest) k (suc c) p e =
    let same : suc k + c ≡ k + suc c = omega arith in
    subst (λ n. In (port_nodes (a_row row rest) k) (APort (ports.Cell n p))) same (in_right (first_nodes (length row.ports) (λ q. APort (ports.Cell k q))) (port_nodes rest (suc k)) _ (port_in rest (suc k) c p e))
port_in (a_child child rest) k zero p e =
    let same : k ≡ k + 0 = omega arith in
    let count : ℕ = 2 + length (net_part child).inputs + length (net_part child).outputs in
    subst (λ n. In (port_nodes (a_child child rest) k) (APort (ports.Cell n p))) same
    (in_left (first_nodes (2 + length (net_part child).inputs + length (net_part child).outputs) (λ q. APort (ports.Cell k q))) (port_nodes rest (suc k)) _
    (first_in (2 + length (net_part child).inputs + length (net_part child).outputs) (λ q. APort (ports.Cell k q)) p (ltb-true p (2 + length (net_part child).inputs + length (net_part child).outputs) e)))
port_in (a_child child rest) k (suc c) p e =
    let same : suc k + c ≡ k + suc c = omega arith in
    subst (λ n. In (port_nodes (a_child child rest) k) (APort (ports.Cell n p))) same
    (in_right (first_nodes (2 + length (net_part child).inputs + length (net_part child).outputs) (λ q. APort (ports.Cell k q))) (port_nodes rest (suc k)) _ (port_in rest (suc k) c p e))

abbrev own_nodes : PlainNetComponent → NetCells → List Node
own_nodes part cells = port_nodes cells 0 ++ (first_nodes (length part.outputs) (λ n. APort (ports.Output n)) ++ (first_nodes (length part.wires) AWire ++ (first_nodes part.holes AHole ++ TheDone ∷ [])))

own_in : (part : PlainNetComponent) (cells : NetCells) (n : Node) → is_own_node part cells n ≡ true → In (own_nodes part cells) n
own_in part cells (APort (ports.Cell c p)) e =
    let same : 0 + c ≡ c = omega arith in in_left (port_nodes cells 0) _ _ (subst (λ k. In (port_nodes cells 0) (APort (ports.Cell k p))) same (port_in cells 0 c p e))
own_in part cells (APort (ports.Input n)) e = absurd cc
own_in part cells (APort (ports.Output n)) e = in_right (port_nodes cells 0) _ _ (in_left (first_nodes (length part.outputs) (λ k. APort (ports.Output k))) _ _ (first_in (length part.outputs) (λ k. APort (ports.Output k)) n (ltb-true n (length part.outputs) e)))
own_in part cells (APort (ports.Done g)) e = absurd cc
own_in part cells (APort (ports.Literal w v)) e = absurd cc
own_in part cells (AWire n) e =
    in_right (port_nodes cells 0) _ _ (in_right (first_nodes (length part.outputs) (λ k. APort (ports.Output k))) _ _
    (in_left (first_nodes (length part.wires) AWire) _ _ (first_in (length part.wires) AWire n (ltb-true n (length part.wires) e))))
own_in part cells (AHole n) e =
    in_right (port_nodes cells 0) _ _ (in_right (first_nodes (length part.outputs) (λ k. APort (ports.Output k))) _ _
    (in_right (first_nodes (length part.wires) AWire) _ _ (in_left (first_nodes part.holes AHole) _ _ (first_in part.holes AHole n (ltb-true n part.holes e)))))
own_in part cells TheDone e =
    in_right (port_nodes cells 0) _ _ (in_right (first_nodes (length part.outputs) (λ k. APort (ports.Output k))) _ _
    (in_right (first_nodes (length part.wires) AWire) _ _ (in_right (first_nodes part.holes AHole) _ _ (inl refl))))

abbrev behind_cell : ℕ → NodeAt → NodeAt
behind_cell c n = node_at (c ∷ n.path) n.node

abbrev mutual
  nodes_of : NetInstance → List NodeAt
  nodes_of (NetNode part cells) = map (node_at []) (own_nodes part cells) ++ nodes_below cells 0

  nodes_below : NetCells → ℕ → List NodeAt
  nodes_below no_net_cells c = []
  nodes_below (a_row row rest) c = nodes_below rest (suc c)
  nodes_below (a_child child rest) c = map (behind_cell c) (nodes_of child) ++ nodes_below rest (suc c)

mutual
  node_in : (tree : NetInstance) (path : Path) (n : Node) → is_node tree path n ≡ true → In (nodes_of tree) (node_at path n)
  node_in (NetNode part cells) [] n e = in_left (map (node_at []) (own_nodes part cells)) (nodes_below cells 0) _ (in_image (node_at []) (own_nodes part cells) n (own_in part cells n e))
  node_in (NetNode part cells) (c ∷ path) n e =
      let same : 0 + c ≡ c = omega arith in
      in_right (map (node_at []) (own_nodes part cells)) (nodes_below cells 0) _ (subst (λ k. In (nodes_below cells 0) (node_at (k ∷ path) n)) same (node_below cells 0 c path n e))

  node_below : (cells : NetCells) (k c : ℕ) (path : Path) (n : Node) → is_node_below cells c path n ≡ true → In (nodes_below cells k) (node_at ((k + c) ∷ path) n)
  node_below no_net_cells k c path n e = absurd cc
  node_below (a_row row rest) k zero path n e = absurd cc
  node_below (a_row row rest) k (suc c) path n e =
      let same : suc k + c ≡ k + suc c = omega arith in
      subst (λ m. In (nodes_below rest (suc k)) (node_at (m ∷ path) n)) same (node_below rest (suc k) c path n e)
  node_below (a_child child rest) k zero path n e =
      let same : k ≡ k + 0 = omega arith in
      subst (λ m. In (map (behind_cell k) (nodes_of child) ++ nodes_below rest (suc k)) (node_at (m ∷ path) n)) same
      (in_left (map (behind_cell k) (nodes_of child)) (nodes_below rest (suc k)) _ (in_image (behind_cell k) (nodes_of child) (node_at path n) (node_in child path n e)))
  node_below (a_child child rest) k (suc c) path n e =
      let same : suc k + c ≡ k + suc c = omega arith in
      subst (λ m. In (map (behind_cell k) (nodes_of child) ++ nodes_below rest (suc k)) (node_at (m ∷ path) n)) same
      (in_right (map (behind_cell k) (nodes_of child)) (nodes_below rest (suc k)) _ (node_below rest (suc k) c path n e))

-- HOW MANY of some nodes a look knows
abbrev one_if : Option BitVector → ℕ
one_if None = 0
one_if (Some b) = 1

abbrev counted : NetLook → List NodeAt → ℕ
counted look [] = 0
counted look (n ∷ ns) = one_if (look n.path n.node) + counted look ns

one_grows : (a b : Option BitVector) → Less a b → one_if a ≤ one_if b
one_grows None b l = omega arith
one_grows (Some x) None l = none_is_some x (l x refl)
one_grows (Some x) (Some y) l = omega arith

one_small : (a : Option BitVector) → one_if a ≤ 1
one_small None = omega arith
one_small (Some x) = omega arith

one_same : (a b : Option BitVector) → Less a b → one_if a ≡ one_if b → a ≡ b
one_same None None l e = refl
one_same None (Some y) l e = absurd (omega (arith, e))
one_same (Some x) None l e = none_is_some x (l x refl)
one_same (Some x) (Some y) l e = sym (l x refl)

module _ (look more : NetLook) (less : (q : Path) (n : Node) → Less (look q n) (more q n)) where
  count_grows : (ns : List NodeAt) → counted look ns ≤ counted more ns
  count_grows [] = omega arith
  count_grows (n ∷ ns) = let f = one_grows (look n.path n.node) (more n.path n.node) (less n.path n.node) in let r = count_grows ns in omega arith

  count_small : (ns : List NodeAt) → counted look ns ≤ length ns
  count_small [] = omega arith
  count_small (n ∷ ns) = let f = one_small (look n.path n.node) in let r = count_small ns in omega arith

  count_same : (ns : List NodeAt) → counted look ns ≡ counted more ns → (n : NodeAt) → In ns n → look n.path n.node ≡ more n.path n.node
  count_same [] e n i = absurd i
  count_same (m ∷ ns) e n i =
      let f = one_grows (look m.path m.node) (more m.path m.node) (less m.path m.node) in
      let r = count_grows ns in
      let same : one_if (look m.path m.node) ≡ one_if (more m.path m.node) = omega (arith, e) in
      let rest : counted look ns ≡ counted more ns = omega (arith, e) in
      choice (one_same (look m.path m.node) (more m.path m.node) (less m.path m.node) same) i (count_same ns rest n)
    where
      choice : look m.path m.node ≡ more m.path m.node → In (m ∷ ns) n → (In ns n → look n.path n.node ≡ more n.path n.node) → look n.path n.node ≡ more n.path n.node
      choice here (inl e) later = subst (λ x. look (NodeAt.path x) (NodeAt.node x) ≡ more (NodeAt.path x) (NodeAt.node x)) e here
      choice here (inr j) later = later j

-- A SETTLED LOOK is right, and each node has in it what its rule gives
pub record IsSettled (tree : NetInstance) (go : Bool) (s : NetState) (look : NetLook) : Type 0 where
  pub right : (path : Path) (n : Node) (v : BitVector) → look path n ≡ Some v → NetHas tree go s path n v
  pub solves : (path : Path) (n : Node) → is_node tree path n ≡ true → look path n ≡ net_step tree (outside go) s look path n

module _ (tree : NetInstance) (go : Bool) (s : NetState) where
  abbrev steps : ℕ → NetLook
  steps zero path n = None
  steps (suc k) path n = net_step tree (outside go) s (steps k) path n

  steps_right : (k : ℕ) (path : Path) (n : Node) (v : BitVector) → steps k path n ≡ Some v → NetHas tree go s path n v
  steps_right zero path n v e = none_is_some v e
  steps_right (suc k) path n v e = by_rule (steps k) (steps_right k) e

  steps_grow : (k : ℕ) (path : Path) (n : Node) → Less (steps k path n) (steps (suc k) path n)
  steps_grow zero path n v e = none_is_some v e
  steps_grow (suc k) path n v e = step_rises tree (outside go) (outside go) s (steps k) (steps (suc k)) (record { go = less_self _ _ refl; input = λ m. less_self _ _ refl }) (steps_grow k) path n v e

  search_from : (left k : ℕ) → length (nodes_of tree) ≤ left + counted (steps k) (nodes_of tree) → (m : ℕ) × (counted (steps m) (nodes_of tree) ≡ counted (steps (suc m)) (nodes_of tree))
  search_from zero k h =
      let up = count_grows (steps k) (steps (suc k)) (steps_grow k) (nodes_of tree) in
      let top = count_small (steps (suc k)) (steps (suc (suc k))) (steps_grow (suc k)) (nodes_of tree) in (k, omega arith)
  search_from (suc left) k h = choice (more (counted (steps k) (nodes_of tree)) (counted (steps (suc k)) (nodes_of tree)) (count_grows (steps k) (steps (suc k)) (steps_grow k) (nodes_of tree))) (λ l. search_from left (suc k) (omega arith))
    where
      more : (a b : ℕ) → a ≤ b → (a ≡ b) ⊎ (suc a ≤ b)
      more zero zero l = inl refl
      more zero (suc b) l = inr (omega arith)
      more (suc a) zero l = absurd (omega arith)
      more (suc a) (suc b) l = up (more a b (omega arith))
        where
          up : (a ≡ b) ⊎ (suc a ≤ b) → (suc a ≡ suc b) ⊎ (suc (suc a) ≤ suc b)
          up (inl e) = inl (ap suc e)
          up (inr l) = inr (omega arith)

      choice : (counted (steps k) (nodes_of tree) ≡ counted (steps (suc k)) (nodes_of tree)) ⊎ (suc (counted (steps k) (nodes_of tree)) ≤ counted (steps (suc k)) (nodes_of tree))
          → (suc (counted (steps k) (nodes_of tree)) ≤ counted (steps (suc k)) (nodes_of tree) → (m : ℕ) × (counted (steps m) (nodes_of tree) ≡ counted (steps (suc m)) (nodes_of tree)))
          → (m : ℕ) × (counted (steps m) (nodes_of tree) ≡ counted (steps (suc m)) (nodes_of tree))
      choice (inl e) later = (k, e)
      choice (inr l) later = later l

  -- THERE IS ONE
  pub settled_look : (look : NetLook) × IsSettled tree go s look
  settled_look =
      let found = search_from (length (nodes_of tree)) 0 (omega arith) in (
        steps found.0,
        record {
          right = steps_right found.0;
          solves = λ path n e. count_same (steps found.0) (steps (suc found.0)) (steps_grow found.0) (nodes_of tree) found.1 (node_at path n) (node_in tree path n e);
        },
      )
