-- The runs of a net without holes are those of the net.
use Rattle.std.proofs.Common.{◌≡◌, ◌↔◌, ℕ, zero, suc, ◌+◌, ◌-◌, ◌<◌, ◌≤◌, Bool, true, false, List, [], ◌∷◌, length, map, get_or, replicate, IsSome, nat_lt, refl, sym, ap, ap₂, ◌∙◌, subst, arith, length-append}
use Rattle.std.proofs.lemmas.Bool.{lt-ltb, ltb-true, ltb-false}
use Rattle.std.proofs.Math.Path.{fun_ext}
use Rattle.std.proofs.lemmas.List.{length-map, length-replicate}
use Rattle.cx_meaning.specs.declared.ports.PortRef.TheVariants as ports
use Rattle.cx_meaning.specs.Designs.{PlainKind, OfPrimitive, OfComponent, PlainCell}
use Rattle.cx_meaning.specs.Instances.{Path}
use Rattle.cx_vtree.specs.SimRun.{Outcome, DoneAt}
use Rattle.cx_net.specs.Nets.{PlainNetComponent, PlainNet}
use Rattle.cx_net.specs.NetTree.{NetInstance, NetNode, NetCells, no_net_cells, a_row, a_child, NetAt, NoCell, ARow, AChild, net_cell_at, no_net_component, net_component_at, add_net_cell, net_cells_for, net_within, net_tree}
use Rattle.cx_net.specs.NetMeaning.{NetState, Node, APort, AWire, AHole, TheDone, NetLook, NetHas, is_port_of, is_node, is_node_below}
use Rattle.cx_net.specs.NetEdges.{net_after}
use Rattle.cx_net.specs.NetRuns.{net_start, IsWholeLook, is_done, NetRunsFrom, ends, spent, goes_on, NetRun, after_reset, Comes, at_reset, at_first, at_next, IsGrounded}
use Rattle.cx_holes.specs.Inlining.{inlined_component, inlined}
use Rattle.cx_holes.specs.Names.{ComponentNames, ComponentsName, NetNames}
use Rattle.cx_holes.specs.Renamed.{inlined_tree, inlined_cells, TreeNames, CellsName, renamed_at, renamed_below, InsideAt, InsideBelow}
use Rattle.cx_holes.proofs.RenamedNodes.{at_same, inlined_at}
use Rattle.cx_holes.proofs.RenamedLooks.{forth, forth_below, forth_alike, origin, back, back_below, back_alike, goal_of, has_forth, has_back}
use Rattle.cx_holes.proofs.RenamedEdges.{after_same, start_same, words_same}
use Rattle.cx_text.proofs.NumberLaws.{never}

-- NODES: one that is there stands for one that is there
port_there : (at : NetAt) (p : ℕ) → is_port_of (inlined_at at) p ≡ is_port_of at p
port_there NoCell p = refl
port_there (ARow row) p = refl
port_there (AChild (NetNode part cells)) p = refl

-- as many wires as wires and holes
pub counted : (part : PlainNetComponent) → length (inlined_component part).wires ≡ length part.wires + part.holes
counted part = length-append part.wires (replicate part.holes 1) ∙ ap (λ n. length part.wires + n) (length-replicate part.holes 1)

-- a node of a net that stands for one of the net without holes
abbrev Source : NetInstance → Path → Node → Type 0
Source tree path n = (m : Node) × (renamed_at tree path m ≡ n) × (is_node tree path m ≡ true) × InsideAt tree path m

abbrev SourceBelow : NetCells → ℕ → Path → Node → Type 0
SourceBelow cells c path n = (m : Node) × (renamed_below cells c path m ≡ n) × (is_node_below cells c path m ≡ true) × InsideBelow cells c path m

mutual
  source_of : (tree : NetInstance) (path : Path) (n : Node) → is_node (inlined_tree tree) path n ≡ true → Source tree path n
  source_of (NetNode part cells) [] (APort (ports.Cell c p)) e = (APort (ports.Cell c p), refl, sym (ap (λ at. is_port_of at p) (at_same cells c) ∙ port_there (net_cell_at cells c) p) ∙ e, tt)
  source_of (NetNode part cells) [] (APort (ports.Input k)) e = never e
  source_of (NetNode part cells) [] (APort (ports.Output k)) e = (APort (ports.Output k), refl, e, tt)
  source_of (NetNode part cells) [] (APort (ports.Done g)) e = never e
  source_of (NetNode part cells) [] (APort (ports.Literal w v)) e = never e
  source_of (NetNode part cells) [] (AWire n) e = choice (nat_lt n (length part.wires)) refl
    where
      choice : (b : Bool) → nat_lt n (length part.wires) ≡ b → Source (NetNode part cells) [] (AWire n)
      choice true is = (AWire n, refl, is, ltb-true n (length part.wires) is)
      choice false is =
          let past : length part.wires ≤ n = ltb-false n (length part.wires) is in
          let all : length (inlined_component part).wires ≡ length part.wires + part.holes = counted part in
          let within : n < length (inlined_component part).wires = ltb-true n (length (inlined_component part).wires) e in
          let there : n - length part.wires < part.holes = omega arith in
          let same : length part.wires + (n - length part.wires) ≡ n = omega arith in
          (AHole (n - length part.wires), ap AWire same, lt-ltb (n - length part.wires) part.holes there, there)
  source_of (NetNode part cells) [] (AHole n) e = let h : n < 0 = ltb-true n 0 e in absurd (omega arith)
  source_of (NetNode part cells) [] TheDone e = (TheDone, refl, refl, tt)
  source_of (NetNode part cells) (c ∷ path) n e = source_below cells c path n e

  source_below : (cells : NetCells) (c : ℕ) (path : Path) (n : Node) → is_node_below (inlined_cells cells) c path n ≡ true → SourceBelow cells c path n
  source_below no_net_cells c path n e = never e
  source_below (a_row row rest) zero path n e = never e
  source_below (a_row row rest) (suc c) path n e = source_below rest c path n e
  source_below (a_child child rest) zero path n e = source_of child path n e
  source_below (a_child child rest) (suc c) path n e = source_below rest c path n e

mutual
  target_of : (tree : NetInstance) (path : Path) (m : Node) → is_node tree path m ≡ true → (is_node (inlined_tree tree) path (renamed_at tree path m) ≡ true) × InsideAt tree path m
  target_of (NetNode part cells) [] (APort (ports.Cell c p)) e = (ap (λ at. is_port_of at p) (at_same cells c) ∙ port_there (net_cell_at cells c) p ∙ e, tt)
  target_of (NetNode part cells) [] (APort (ports.Input k)) e = never e
  target_of (NetNode part cells) [] (APort (ports.Output k)) e = (e, tt)
  target_of (NetNode part cells) [] (APort (ports.Done g)) e = never e
  target_of (NetNode part cells) [] (APort (ports.Literal w v)) e = never e
  target_of (NetNode part cells) [] (AWire n) e =
      let all : length (inlined_component part).wires ≡ length part.wires + part.holes = counted part in
      let here : n < length part.wires = ltb-true n (length part.wires) e in
      let there : n < length (inlined_component part).wires = omega arith in
      (lt-ltb n (length (inlined_component part).wires) there, here)
  target_of (NetNode part cells) [] (AHole n) e =
      let all : length (inlined_component part).wires ≡ length part.wires + part.holes = counted part in
      let here : n < part.holes = ltb-true n part.holes e in
      let there : length part.wires + n < length (inlined_component part).wires = omega arith in
      (lt-ltb (length part.wires + n) (length (inlined_component part).wires) there, here)
  target_of (NetNode part cells) [] TheDone e = (refl, tt)
  target_of (NetNode part cells) (c ∷ path) m e = target_below cells c path m e

  target_below : (cells : NetCells) (c : ℕ) (path : Path) (m : Node) → is_node_below cells c path m ≡ true
      → (is_node_below (inlined_cells cells) c path (renamed_below cells c path m) ≡ true) × InsideBelow cells c path m
  target_below no_net_cells c path m e = never e
  target_below (a_row row rest) zero path m e = never e
  target_below (a_row row rest) (suc c) path m e = target_below rest c path m e
  target_below (a_child child rest) zero path m e = target_of child path m e
  target_below (a_child child rest) (suc c) path m e = target_below rest c path m e

-- what is known of a node that is there is known where it stands
mutual
  forth_at : (tree : NetInstance) (look : NetLook) (path : Path) (m : Node) → InsideAt tree path m → forth tree look path (renamed_at tree path m) ≡ look path m
  forth_at (NetNode part cells) look [] (APort p) h = refl
  forth_at (NetNode part cells) look [] (AWire n) h = (forth_alike (NetNode part cells) look).0.wires n h
  forth_at (NetNode part cells) look [] (AHole n) h = (forth_alike (NetNode part cells) look).0.holes n h
  forth_at (NetNode part cells) look [] TheDone h = refl
  forth_at (NetNode part cells) look (c ∷ path) m h = forth_at_below cells c (λ q. look (c ∷ q)) path m h

  forth_at_below : (cells : NetCells) (c : ℕ) (look : NetLook) (path : Path) (m : Node) → InsideBelow cells c path m → forth_below cells c look path (renamed_below cells c path m) ≡ look path m
  forth_at_below no_net_cells c look path m h = refl
  forth_at_below (a_row row rest) zero look path m h = refl
  forth_at_below (a_row row rest) (suc c) look path m h = forth_at_below rest c look path m h
  forth_at_below (a_child child rest) zero look path m h = forth_at child look path m h
  forth_at_below (a_child child rest) (suc c) look path m h = forth_at_below rest c look path m h

mutual
  back_at : (tree : NetInstance) (new : NetLook) (path : Path) (m : Node) → InsideAt tree path m → back tree new path m ≡ new path (renamed_at tree path m)
  back_at (NetNode part cells) new [] (APort p) h = refl
  back_at (NetNode part cells) new [] (AWire n) h = sym ((back_alike (NetNode part cells) new).0.wires n h)
  back_at (NetNode part cells) new [] (AHole n) h = sym ((back_alike (NetNode part cells) new).0.holes n h)
  back_at (NetNode part cells) new [] TheDone h = refl
  back_at (NetNode part cells) new (c ∷ path) m h = back_at_below cells c (λ q. new (c ∷ q)) path m h

  back_at_below : (cells : NetCells) (c : ℕ) (new : NetLook) (path : Path) (m : Node) → InsideBelow cells c path m → back_below cells c new path m ≡ new path (renamed_below cells c path m)
  back_at_below no_net_cells c new path m h = refl
  back_at_below (a_row row rest) zero new path m h = refl
  back_at_below (a_row row rest) (suc c) new path m h = back_at_below rest c new path m h
  back_at_below (a_child child rest) zero new path m h = back_at child new path m h
  back_at_below (a_child child rest) (suc c) new path m h = back_at_below rest c new path m h

pub forth_done : (tree : NetInstance) (look : NetLook) → is_done (forth tree look) ≡ is_done look
forth_done (NetNode part cells) look = refl

back_done : (tree : NetInstance) (new : NetLook) → is_done (back tree new) ≡ is_done new
back_done (NetNode part cells) new = refl

module _ (tree : NetInstance) (names : TreeNames tree) where
  pub whole_forth : (go : Bool) (s : NetState) (look : NetLook) → IsWholeLook tree go s look → IsWholeLook (inlined_tree tree) go s (forth tree look)
  whole_forth go s look w = record {
    right = λ path n v e. let r = origin tree look path n v e in subst (λ m. NetHas (inlined_tree tree) go s path m v) r.1 (has_forth tree names go s path r.0 v (w.right path r.0 v r.2));
    whole = λ path n e. let r = source_of tree path n e in
        subst (λ m. IsSome (forth tree look path m)) r.1 (subst IsSome (sym (forth_at tree look path r.0 r.3)) (w.whole path r.0 r.2));
  }

  whole_back : (go : Bool) (s : NetState) (new : NetLook) → IsWholeLook (inlined_tree tree) go s new → IsWholeLook tree go s (back tree new)
  whole_back go s new w = record {
    right = λ path n v e. let r = goal_of tree new path n v e in has_back tree names go s path n (renamed_at tree path n) v r.0 refl (w.right path (renamed_at tree path n) v r.1);
    whole = λ path n e. let r = target_of tree path n e in subst IsSome (sym (back_at tree new path n r.1)) (w.whole path (renamed_at tree path n) r.0);
  }

  runs_forth : (s : NetState) (cycle left : ℕ) (o : Outcome) → NetRunsFrom tree s cycle left o → NetRunsFrom (inlined_tree tree) s cycle left o
  runs_forth s cycle left o (ends look w e) =
      subst (λ l. NetRunsFrom (inlined_tree tree) s cycle left (DoneAt cycle l)) (words_same tree s) (ends (forth tree look) (whole_forth true s look w) (forth_done tree look ∙ e))
  runs_forth s cycle left o (spent look w e) = spent (forth tree look) (whole_forth true s look w) (forth_done tree look ∙ e)
  runs_forth s cycle left o (goes_on {left = more} look w e rest) =
      goes_on (forth tree look) (whole_forth true s look w) (forth_done tree look ∙ e)
      (subst (λ t. NetRunsFrom (inlined_tree tree) t (cycle + 1) more o) (sym (after_same tree names false true s look (forth tree look) (forth_alike tree look))) (runs_forth (net_after tree false true s look) (cycle + 1) more o rest))

  runs_back : (s : NetState) (cycle left : ℕ) (o : Outcome) → NetRunsFrom (inlined_tree tree) s cycle left o → NetRunsFrom tree s cycle left o
  runs_back s cycle left o (ends new w e) =
      subst (λ l. NetRunsFrom tree s cycle left (DoneAt cycle l)) (sym (words_same tree s)) (ends (back tree new) (whole_back true s new w) (back_done tree new ∙ e))
  runs_back s cycle left o (spent new w e) = spent (back tree new) (whole_back true s new w) (back_done tree new ∙ e)
  runs_back s cycle left o (goes_on {left = more} new w e rest) =
      goes_on (back tree new) (whole_back true s new w) (back_done tree new ∙ e)
      (subst (λ t. NetRunsFrom tree t (cycle + 1) more o) (after_same tree names false true s (back tree new) new (back_alike tree new)) (runs_back (net_after (inlined_tree tree) false true s new) (cycle + 1) more o rest))

  -- THE RUNS, either way
  pub run_forth : (loaded : List (List ℕ)) (last : ℕ) (o : Outcome) → NetRun tree loaded last o → NetRun (inlined_tree tree) loaded last o
  run_forth loaded last o (after_reset look w rest) =
      let start = start_same tree loaded in
      let new = forth tree look in
      after_reset new (subst (λ s. IsWholeLook (inlined_tree tree) false s new) (sym start) (whole_forth false (net_start tree loaded) look w))
      (subst (λ s. NetRunsFrom (inlined_tree tree) s 0 last o)
      (sym (ap (λ s. net_after (inlined_tree tree) true false s new) start ∙ after_same tree names true false (net_start tree loaded) look new (forth_alike tree look)))
      (runs_forth _ 0 last o rest))

  pub run_back : (loaded : List (List ℕ)) (last : ℕ) (o : Outcome) → NetRun (inlined_tree tree) loaded last o → NetRun tree loaded last o
  run_back loaded last o (after_reset new w rest) =
      let start = start_same tree loaded in
      let look = back tree new in
      after_reset look (whole_back false (net_start tree loaded) new (subst (λ s. IsWholeLook (inlined_tree tree) false s new) start w))
      (subst (λ s. NetRunsFrom tree s 0 last o)
      (ap (λ s. net_after (inlined_tree tree) true false s new) start ∙ after_same tree names true false (net_start tree loaded) look new (back_alike tree new))
      (runs_back _ 0 last o rest))

  comes_back : (loaded : List (List ℕ)) (go : Bool) (s : NetState) → Comes (inlined_tree tree) loaded go s → Comes tree loaded go s
  comes_back loaded go s at_reset = subst (Comes tree loaded false) (sym (start_same tree loaded)) at_reset
  comes_back loaded go s (at_first new w) =
      let start = start_same tree loaded in
      let look = back tree new in
      subst (Comes tree loaded true) (sym (ap (λ t. net_after (inlined_tree tree) true false t new) start ∙ after_same tree names true false (net_start tree loaded) look new (back_alike tree new)))
      (at_first look (whole_back false (net_start tree loaded) new (subst (λ t. IsWholeLook (inlined_tree tree) false t new) start w)))
  comes_back loaded go s (at_next {s = before} new c w) =
      let look = back tree new in
      subst (Comes tree loaded true) (sym (after_same tree names false true before look new (back_alike tree new))) (at_next look (comes_back loaded true before c) (whole_back true before new w))

  -- all of it has a value where all of the net has
  pub grounded_forth : (Fits : List (List ℕ) → Type 0) → IsGrounded Fits tree → IsGrounded Fits (inlined_tree tree)
  grounded_forth Fits grounded loaded fits go s comes path n e =
      let r = source_of tree path n e in
      let has = grounded loaded fits go s (comes_back loaded go s comes) path r.0 r.2 in
      (has.0, subst (λ m. NetHas (inlined_tree tree) go s path m has.0) r.1 (has_forth tree names go s path r.0 has.0 has.1))

-- THE TREE of a net without holes
pub part_same : (parts : List PlainNetComponent) (k : ℕ) → get_or (map inlined_component parts) k no_net_component ≡ inlined_component (get_or parts k no_net_component)
part_same [] k = refl
part_same (part ∷ parts) zero = refl
part_same (part ∷ parts) (suc k) = part_same parts k

cell_kind : (child : ℕ → NetInstance) (kind : PlainKind) (rest : NetCells) → add_net_cell (λ k. inlined_tree (child k)) kind (inlined_cells rest) ≡ inlined_cells (add_net_cell child kind rest)
cell_kind child (OfPrimitive primitive) rest = refl
cell_kind child (OfComponent k) rest = refl

cells_for : (child new : ℕ → NetInstance) → ((k : ℕ) → new k ≡ inlined_tree (child k)) → (cells : List PlainCell) → net_cells_for new cells ≡ inlined_cells (net_cells_for child cells)
cells_for child new same [] = refl
cells_for child new same (c ∷ cs) =
    ap₂ (λ (f : ℕ → NetInstance) (rest : NetCells). add_net_cell f c.kind rest) (fun_ext same) (cells_for child new same cs) ∙ cell_kind child c.kind (net_cells_for child cs)

within_same : (n : PlainNet) (levels k : ℕ) → net_within (inlined n) levels k ≡ inlined_tree (net_within n levels k)
within_same n zero k = ap (λ part. NetNode part no_net_cells) (part_same n.components k)
within_same n (suc levels) k =
    ap₂ NetNode (part_same n.components k)
    (ap (λ part. net_cells_for (net_within (inlined n) levels) part.cells) (part_same n.components k)
    ∙ cells_for (net_within n levels) (net_within (inlined n) levels) (within_same n levels) (net_component_at n k).cells)

pub tree_same : (n : PlainNet) → net_tree (inlined n) ≡ inlined_tree (net_tree n)
tree_same n = ap (λ levels. net_within (inlined n) levels n.main) (length-map n.components inlined_component) ∙ within_same n (length n.components) n.main

pub part_names : (parts : List PlainNetComponent) (k : ℕ) → ComponentsName parts → ComponentNames (get_or parts k no_net_component)
part_names [] k h = tt
part_names (part ∷ parts) zero h = h.0
part_names (part ∷ parts) (suc k) h = part_names parts k h.1

kind_names : (child : ℕ → NetInstance) → ((k : ℕ) → TreeNames (child k)) → (kind : PlainKind) (rest : NetCells) → CellsName rest → CellsName (add_net_cell child kind rest)
kind_names child h (OfPrimitive primitive) rest r = r
kind_names child h (OfComponent k) rest r = (h k, r)

cells_names : (child : ℕ → NetInstance) → ((k : ℕ) → TreeNames (child k)) → (cells : List PlainCell) → CellsName (net_cells_for child cells)
cells_names child h [] = tt
cells_names child h (c ∷ cs) = kind_names child h c.kind (net_cells_for child cs) (cells_names child h cs)

pub within_names : (n : PlainNet) → NetNames n → (levels k : ℕ) → TreeNames (net_within n levels k)
within_names n h zero k = (part_names n.components k h, tt)
within_names n h (suc levels) k = (part_names n.components k h, cells_names (net_within n levels) (within_names n h levels) (net_component_at n k).cells)

-- the runs of a net without holes are those of the net, and all of it has a value where all of the net has
pub inlined_runs : (n : PlainNet) → NetNames n → (loaded : List (List ℕ)) (last : ℕ) (o : Outcome) → NetRun (net_tree n) loaded last o ↔ NetRun (net_tree (inlined n)) loaded last o
inlined_runs n names loaded last o = (
  λ run. subst (λ t. NetRun t loaded last o) (sym (tree_same n)) (run_forth (net_tree n) (within_names n names (length n.components) n.main) loaded last o run),
  λ run. run_back (net_tree n) (within_names n names (length n.components) n.main) loaded last o (subst (λ t. NetRun t loaded last o) (tree_same n) run),
)

pub inlined_grounded : (n : PlainNet) → NetNames n → (Fits : List (List ℕ) → Type 0) → IsGrounded Fits (net_tree n) → IsGrounded Fits (net_tree (inlined n))
inlined_grounded n names Fits grounded =
    subst (IsGrounded Fits) (sym (tree_same n)) (grounded_forth (net_tree n) (within_names n names (length n.components) n.main) Fits grounded)
