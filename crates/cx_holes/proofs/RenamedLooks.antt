-- What is known of the nodes of a net, and of those that stand for them, either way.
use Rattle.std.proofs.Common.{◌≡◌, ℕ, zero, suc, ◌+◌, ◌-◌, ◌<◌, ◌≤◌, Bool, true, false, if◌then◌else◌, List, [], ◌∷◌, length, Option, Some, None, option_and_then, slice_get, nat_lt, refl, sym, ap, ◌∙◌, subst, arith}
use Rattle.std.proofs.lemmas.Bool.{lt-ltb, le-ltb, ltb-true, ltb-false}
use Rattle.cx_bits.specs.BitVector.{BitVector}
use Rattle.cx_meaning.specs.Instances.{Path}
use Rattle.cx_net.specs.Nets.{PlainNetComponent}
use Rattle.cx_net.specs.NetTree.{NetInstance, NetNode, NetCells, no_net_cells, a_row, a_child}
use Rattle.cx_net.specs.NetMeaning.{NetState, Node, APort, AWire, AHole, TheDone, NetLook, NetAround, outside, net_step, child_step, NetHas, by_rule}
use Rattle.cx_holes.specs.Renamed.{inlined_tree, TreeNames, renamed, IsInside, Alike, renamed_at, renamed_below, InsideAt, InsideBelow, AlikeAt, AlikeBelow}
use Rattle.cx_holes.proofs.RenamedNodes.{step_same}

nothing : {A : Type 0} (v : BitVector) → None ≡ Some v → A
nothing v e = absurd (cc)

-- FORTH: what is known of the wires of holes is what is known of the holes
module _ (part : PlainNetComponent) (look : Node → Option BitVector) where
  abbrev pub forth_node : Node → Option BitVector
  forth_node (APort p) = look (APort p)
  forth_node (AWire n) = if nat_lt n (length part.wires) then look (AWire n) else look (AHole (n - length part.wires))
  forth_node (AHole n) = None
  forth_node TheDone = look TheDone

  forth_node_alike : Alike part look forth_node
  forth_node_alike = record {
    ports = λ p. refl;
    wires = λ n h. ap (λ b. if b then look (AWire n) else look (AHole (n - length part.wires))) (lt-ltb n (length part.wires) h);
    holes = λ n h.
        let past : length part.wires ≤ length part.wires + n = omega arith in
        let same : length part.wires + n - length part.wires ≡ n = omega arith in
        ap (λ b. if b then look (AWire (length part.wires + n)) else look (AHole (length part.wires + n - length part.wires))) (le-ltb (length part.wires + n) (length part.wires) past) ∙ ap (λ k. look (AHole k)) same;
    done = refl;
  }

  from_forth : (n : Node) (v : BitVector) → forth_node n ≡ Some v → (m : Node) × (renamed (length part.wires) m ≡ n) × (look m ≡ Some v)
  from_forth (APort p) v e = (APort p, refl, e)
  from_forth (AWire n) v e = choice (nat_lt n (length part.wires)) refl e
    where
      choice : (b : Bool) → nat_lt n (length part.wires) ≡ b → (if b then look (AWire n) else look (AHole (n - length part.wires))) ≡ Some v
          → (m : Node) × (renamed (length part.wires) m ≡ AWire n) × (look m ≡ Some v)
      choice true is e = (AWire n, refl, e)
      choice false is e =
          let past : length part.wires ≤ n = ltb-false n (length part.wires) is in
          let same : length part.wires + (n - length part.wires) ≡ n = omega arith in
          (AHole (n - length part.wires), ap AWire same, e)
  from_forth (AHole n) v e = nothing v e
  from_forth TheDone v e = (TheDone, refl, e)

abbrev mutual
  pub forth : NetInstance → NetLook → NetLook
  forth (NetNode part cells) look [] node = forth_node part (look []) node
  forth (NetNode part cells) look (c ∷ path) node = forth_below cells c (λ q. look (c ∷ q)) path node

  pub forth_below : NetCells → ℕ → NetLook → NetLook
  forth_below no_net_cells c look path node = look path node
  forth_below (a_row row rest) zero look path node = look path node
  forth_below (a_row row rest) (suc c) look path node = forth_below rest c look path node
  forth_below (a_child child rest) zero look path node = forth child look path node
  forth_below (a_child child rest) (suc c) look path node = forth_below rest c look path node

mutual
  pub forth_alike : (tree : NetInstance) (look : NetLook) → AlikeAt tree look (forth tree look)
  forth_alike (NetNode part cells) look = (forth_node_alike part (look []), forth_alike_below cells (λ c q. look (c ∷ q)))

  forth_alike_below : (cells : NetCells) (look : ℕ → NetLook) → AlikeBelow cells look (λ c. forth_below cells c (look c))
  forth_alike_below no_net_cells look = tt
  forth_alike_below (a_row row rest) look = forth_alike_below rest (λ c. look (suc c))
  forth_alike_below (a_child child rest) look = (forth_alike child (look 0), forth_alike_below rest (λ c. look (suc c)))

mutual
  pub origin : (tree : NetInstance) (look : NetLook) (path : Path) (n : Node) (v : BitVector) → forth tree look path n ≡ Some v → (m : Node) × (renamed_at tree path m ≡ n) × (look path m ≡ Some v)
  origin (NetNode part cells) look [] n v e = from_forth part (look []) n v e
  origin (NetNode part cells) look (c ∷ path) n v e = origin_below cells c (λ q. look (c ∷ q)) path n v e

  origin_below : (cells : NetCells) (c : ℕ) (look : NetLook) (path : Path) (n : Node) (v : BitVector) → forth_below cells c look path n ≡ Some v
      → (m : Node) × (renamed_below cells c path m ≡ n) × (look path m ≡ Some v)
  origin_below no_net_cells c look path n v e = (n, refl, e)
  origin_below (a_row row rest) zero look path n v e = (n, refl, e)
  origin_below (a_row row rest) (suc c) look path n v e = origin_below rest c look path n v e
  origin_below (a_child child rest) zero look path n v e = origin child look path n v e
  origin_below (a_child child rest) (suc c) look path n v e = origin_below rest c look path n v e

-- BACK: what is known of holes is what is known of their wires
module _ (part : PlainNetComponent) (new : Node → Option BitVector) where
  abbrev pub back_node : Node → Option BitVector
  back_node (APort p) = new (APort p)
  back_node (AWire n) = if nat_lt n (length part.wires) then new (AWire n) else None
  back_node (AHole n) = if nat_lt n part.holes then new (AWire (length part.wires + n)) else None
  back_node TheDone = new TheDone

  back_node_alike : Alike part back_node new
  back_node_alike = record {
    ports = λ p. refl;
    wires = λ n h. sym (ap (λ b. if b then new (AWire n) else None) (lt-ltb n (length part.wires) h));
    holes = λ n h. sym (ap (λ b. if b then new (AWire (length part.wires + n)) else None) (lt-ltb n part.holes h));
    done = refl;
  }

  from_back : (m : Node) (v : BitVector) → back_node m ≡ Some v → IsInside part m × (new (renamed (length part.wires) m) ≡ Some v)
  from_back (APort p) v e = (tt, e)
  from_back (AWire n) v e = choice (nat_lt n (length part.wires)) refl e
    where
      choice : (b : Bool) → nat_lt n (length part.wires) ≡ b → (if b then new (AWire n) else None) ≡ Some v → (n < length part.wires) × (new (AWire n) ≡ Some v)
      choice true is e = (ltb-true n (length part.wires) is, e)
      choice false is e = nothing v e
  from_back (AHole n) v e = choice (nat_lt n part.holes) refl e
    where
      choice : (b : Bool) → nat_lt n part.holes ≡ b → (if b then new (AWire (length part.wires + n)) else None) ≡ Some v → (n < part.holes) × (new (AWire (length part.wires + n)) ≡ Some v)
      choice true is e = (ltb-true n part.holes is, e)
      choice false is e = nothing v e
  from_back TheDone v e = (tt, e)

abbrev mutual
  pub back : NetInstance → NetLook → NetLook
  back (NetNode part cells) new [] node = back_node part (new []) node
  back (NetNode part cells) new (c ∷ path) node = back_below cells c (λ q. new (c ∷ q)) path node

  pub back_below : NetCells → ℕ → NetLook → NetLook
  back_below no_net_cells c new path node = new path node
  back_below (a_row row rest) zero new path node = new path node
  back_below (a_row row rest) (suc c) new path node = back_below rest c new path node
  back_below (a_child child rest) zero new path node = back child new path node
  back_below (a_child child rest) (suc c) new path node = back_below rest c new path node

mutual
  pub back_alike : (tree : NetInstance) (new : NetLook) → AlikeAt tree (back tree new) new
  back_alike (NetNode part cells) new = (back_node_alike part (new []), back_alike_below cells (λ c q. new (c ∷ q)))

  back_alike_below : (cells : NetCells) (new : ℕ → NetLook) → AlikeBelow cells (λ c. back_below cells c (new c)) new
  back_alike_below no_net_cells new = tt
  back_alike_below (a_row row rest) new = back_alike_below rest (λ c. new (suc c))
  back_alike_below (a_child child rest) new = (back_alike child (new 0), back_alike_below rest (λ c. new (suc c)))

mutual
  pub goal_of : (tree : NetInstance) (new : NetLook) (path : Path) (m : Node) (v : BitVector) → back tree new path m ≡ Some v → InsideAt tree path m × (new path (renamed_at tree path m) ≡ Some v)
  goal_of (NetNode part cells) new [] m v e = from_back part (new []) m v e
  goal_of (NetNode part cells) new (c ∷ path) m v e = goal_below cells c (λ q. new (c ∷ q)) path m v e

  goal_below : (cells : NetCells) (c : ℕ) (new : NetLook) (path : Path) (m : Node) (v : BitVector) → back_below cells c new path m ≡ Some v
      → InsideBelow cells c path m × (new path (renamed_below cells c path m) ≡ Some v)
  goal_below no_net_cells c new path m v e = (tt, e)
  goal_below (a_row row rest) zero new path m v e = (tt, e)
  goal_below (a_row row rest) (suc c) new path m v e = goal_below rest c new path m v e
  goal_below (a_child child rest) zero new path m v e = goal_of child new path m v e
  goal_below (a_child child rest) (suc c) new path m v e = goal_below rest c new path m v e

-- a node with a value is there
wire_there : (wires : List ℕ) (n : ℕ) (f : ℕ → Option BitVector) (v : BitVector) → option_and_then f (slice_get wires n) ≡ Some v → n < length wires
wire_there [] n f v e = nothing v e
wire_there (w ∷ wires) zero f v e = omega arith
wire_there (w ∷ wires) (suc n) f v e = let h : n < length wires = wire_there wires n f v e in omega arith

hole_there : (n holes : ℕ) (x : Option BitVector) (v : BitVector) → (if nat_lt n holes then x else None) ≡ Some v → n < holes
hole_there n holes x v e = choice (nat_lt n holes) refl e
  where
    choice : (b : Bool) → nat_lt n holes ≡ b → (if b then x else None) ≡ Some v → n < holes
    choice true is e = ltb-true n holes is
    choice false is e = nothing v e

mutual
  inside_of : (tree : NetInstance) (around : NetAround) (s : NetState) (look : NetLook) (path : Path) (node : Node) (v : BitVector) → net_step tree around s look path node ≡ Some v → InsideAt tree path node
  inside_of (NetNode part cells) around s look [] (APort p) v e = tt
  inside_of (NetNode part cells) around s look [] (AWire n) v e = wire_there part.wires n _ v e
  inside_of (NetNode part cells) around s look [] (AHole n) v e = hole_there n part.holes _ v e
  inside_of (NetNode part cells) around s look [] TheDone v e = tt
  inside_of (NetNode part cells) around s look (c ∷ path) node v e = inside_below cells c _ _ (λ q. look (c ∷ q)) path node v e

  inside_below : (cells : NetCells) (c : ℕ) (around : NetAround) (s : NetState) (look : NetLook) (path : Path) (node : Node) (v : BitVector) → child_step cells c around s look path node ≡ Some v
      → InsideBelow cells c path node
  inside_below no_net_cells c around s look path node v e = tt
  inside_below (a_row row rest) zero around s look path node v e = tt
  inside_below (a_row row rest) (suc c) around s look path node v e = inside_below rest c around s look path node v e
  inside_below (a_child child rest) zero around s look path node v e = inside_of child around s look path node v e
  inside_below (a_child child rest) (suc c) around s look path node v e = inside_below rest c around s look path node v e

module _ (tree : NetInstance) (names : TreeNames tree) (go : Bool) (s : NetState) where
  -- A NODE HAS A VALUE exactly where the node has it that stands for it
  pub has_forth : (path : Path) (node : Node) (v : BitVector) → NetHas tree go s path node v → NetHas (inlined_tree tree) go s path (renamed_at tree path node) v
  has_forth path node v (by_rule look right e) =
      by_rule (forth tree look)
      (λ q n w given. let r = origin tree look q n w given in subst (λ m. NetHas (inlined_tree tree) go s q m w) r.1 (has_forth q r.0 w (right q r.0 w r.2)))
      (step_same tree names (outside go) s look (forth tree look) (forth_alike tree look) path node (inside_of tree (outside go) s look path node v e) ∙ e)

  pub has_back : (path : Path) (node new_node : Node) (v : BitVector) → InsideAt tree path node → renamed_at tree path node ≡ new_node → NetHas (inlined_tree tree) go s path new_node v → NetHas tree go s path node v
  has_back path node new_node v inside is (by_rule new right e) =
      by_rule (back tree new)
      (λ q n w given. let r = goal_of tree new q n w given in has_back q n (renamed_at tree q n) w r.0 refl (right q (renamed_at tree q n) w r.1))
      (sym (step_same tree names (outside go) s (back tree new) new (back_alike tree new) path node inside) ∙ ap (net_step (inlined_tree tree) (outside go) s new path) is ∙ e)
