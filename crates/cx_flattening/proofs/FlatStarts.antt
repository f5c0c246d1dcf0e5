-- THE START of the flat design's tree is that of the design's tree: every cell at its row's start, external memories with the same words.
use Rattle.std.proofs.Common.{◌≡◌, ℕ, zero, suc, ◌+◌, ◌<◌, ◌≤◌, inl, inr, Bool, true, false, List, [], ◌∷◌, ◌++◌, length, map, Option, Some, None, refl, sym, ap, ◌∙◌, subst, arith}
use Rattle.std.specs.Prelude.{if◌then◌else◌}
use Rattle.cx_prim.specs.CellStates.{CellState, with_words}
use Rattle.cx_prim.specs.Rows.{Row}
use Rattle.cx_meaning.specs.declared.kinds.PortDecl.{PortDecl}
use Rattle.cx_meaning.specs.Designs.{PlainKind, OfPrimitive, OfComponent, PlainCell, PlainComponent, PlainDesign, component_at}
use Rattle.cx_meaning.specs.Instances.{Instance, Node, Cells, no_cells, a_primitive, an_instance, OfRow, OfInstance, part_of, cells_of, cell_at, add_cell, cells_for, tree_within, tree_of, Path, State, under, just, start_below, if_external, externals_from, externals_of, loaded_at, start}
use Rattle.cx_text.specs.Members.{In}
use Rattle.cx_meaning.proofs.InstancesLemmas.{just_same, not_just, instance_is}
use Rattle.cx_meaning.proofs.DesignsLemmas.{same_part}
use Rattle.cx_rules.specs.Wellformed.{IsExternal, IsDesign}
use Rattle.cx_flattening.specs.Whole.{is_static}
use Rattle.cx_flattening.specs.Flattened.{Kids, kid_at, kid_if, kept, kept_at, block, blocks, inner_cell, wire_of, flat_cells, flat_part, flat_kids, start_of}
use Rattle.cx_flattening.specs.Embedded.{IsEmbedded, AreEmbedded, Stands, AllStand}
use Rattle.cx_flattening.specs.FlatDesign.{flat_of, renumbered_cell, flat_design}
use Rattle.cx_flattening.proofs.LevelSights.{kid-row}
use Rattle.cx_flattening.proofs.Standing.{embedded_row}
use Rattle.cx_flattening.proofs.Reached.{itself, flat_component_is}
use Rattle.cx_flattening.proofs.FlatTrees.{flat_tree}
use Rattle.cx_meaning.proofs.CyclesLemmas.{start_inside, start_row}

zero_plus : (a : ℕ) → 0 + a ≡ a
zero_plus a = omega arith

plus_zero : (a : ℕ) → a ≡ a + 0
plus_zero a = omega arith

next : (a b : ℕ) → suc a + b ≡ a + suc b
next a b = omega arith

-- STARTS of a row and below a child

start_child : (cells : Cells) (c : ℕ) (child : Instance) (e : ℕ) (path : Path) → cell_at cells c ≡ OfInstance child → start_below cells c (e ∷ path) ≡ start_below (cells_of child) e path
start_child no_cells c child e path is = absurd (cc)
start_child (a_primitive row rest) zero child e path is = absurd (cc)
start_child (a_primitive row rest) (suc c) child e path is = start_child rest c child e path is
start_child (an_instance other rest) zero child e path is = start_inside other e path ∙ ap (λ i. start_below (cells_of i) e path) (instance_is other child is)
start_child (an_instance other rest) (suc c) child e path is = start_child rest c child e path is

-- a state that starts every cell, below the instance itself
abbrev Starts : Instance → State → Type 0
Starts i s = (e : ℕ) (path : Path) → s (e ∷ path) ≡ start_below (cells_of i) e path

abbrev StartsFrom : ℕ → Cells → State → Type 0
StartsFrom first host z = (e : ℕ) (path : Path) → first ≤ e → z (e ∷ path) ≡ start_below host e path

-- AN INSTANCE that stands in a host, at the start of both
mutual
  starts : (i : Instance) (first : ℕ) (host : Cells) (s z : State) → IsEmbedded i first host → Starts i s → StartsFrom first host z → Stands i first s z
  starts (Node part cells) first host s z embedded own other =
      starts_all (flat_kids cells) part cells 0 first host s z embedded (λ e path. ap (λ k. s (k ∷ path)) (zero_plus e) ∙ own e path) other

  starts_all : (kids : Kids) (part : PlainComponent) (cells : Cells) (c first : ℕ) (host : Cells) (s z : State) → AreEmbedded kids part cells c first host
      → ((e : ℕ) (path : Path) → s ((c + e) ∷ path) ≡ start_below cells e path) → StartsFrom first host z → AllStand kids part cells c first s z
  starts_all kids part no_cells c first host s z h own other = tt
  starts_all kids part (a_primitive row rest) c first host s z h own other = (
    other (first + kept_at kids c) [] (omega arith) ∙ start_row host (first + kept_at kids c) row h.0 ∙ sym (ap (λ k. s (k ∷ [])) (plus_zero c) ∙ own 0 []),
    starts_all kids part rest (suc c) first host s z h.1 (λ e path. ap (λ k. s (k ∷ path)) (next c e) ∙ own (suc e) path) other,
  )
  starts_all kids part (an_instance child rest) c first host s z h own other = (
    λ static.
        starts child (first + start_of kids part c) host (under c s) z (h.0 static).0
        (λ e path. ap (λ k. s (k ∷ e ∷ path)) (plus_zero c) ∙ own 0 (e ∷ path) ∙ start_inside child e path)
        (λ e path less. other e path (omega (arith, less))),
    λ dynamic.
        let twin = h.1 dynamic in
        starts child 0 (cells_of twin.0) (under c s) (under (first + kept_at kids c) z) twin.3
        (λ e path. ap (λ k. s (k ∷ e ∷ path)) (plus_zero c) ∙ own 0 (e ∷ path) ∙ start_inside child e path)
        (λ e path less. other (first + kept_at kids c) (e ∷ path) (omega arith) ∙ start_child host (first + kept_at kids c) twin.0 e path twin.1),
    starts_all kids part rest (suc c) first host s z h.2 (λ e path. ap (λ k. s (k ∷ path)) (next c e) ∙ own (suc e) path) other,
  )

-- MAIN, whose own cells may have other words
main_stands : (kids : Kids) (part : PlainComponent) (cells : Cells) (c : ℕ) (host : Cells) (s z : State) → AreEmbedded kids part cells c 0 host
    → ((e : ℕ) (row : Row) → cell_at cells e ≡ OfRow row → z (kept_at kids (c + e) ∷ []) ≡ s ((c + e) ∷ []))
    → ((e f : ℕ) (path : Path) → s ((c + e) ∷ f ∷ path) ≡ start_below cells e (f ∷ path))
    → ((e f : ℕ) (path : Path) → z (e ∷ f ∷ path) ≡ start_below host e (f ∷ path))
    → StartsFrom (length (kept kids part.cells)) host z → AllStand kids part cells c 0 s z
main_stands kids part no_cells c host s z h rows own deep blocks = tt
main_stands kids part (a_primitive row rest) c host s z h rows own deep blocks = (
  ap (λ k. z (k ∷ [])) (zero_plus (kept_at kids c) ∙ ap (kept_at kids) (plus_zero c)) ∙ rows 0 row refl ∙ sym (ap (λ k. s (k ∷ [])) (plus_zero c)),
  main_stands kids part rest (suc c) host s z h.1
      (λ e other is. ap (λ k. z (kept_at kids k ∷ [])) (next c e) ∙ rows (suc e) other is ∙ sym (ap (λ k. s (k ∷ [])) (next c e)))
      (λ e f path. ap (λ k. s (k ∷ f ∷ path)) (next c e) ∙ own (suc e) f path) deep blocks,
)
main_stands kids part (an_instance child rest) c host s z h rows own deep blocks = (
  λ static.
      starts child (0 + start_of kids part c) host (under c s) z (h.0 static).0
      (λ e path. ap (λ k. s (k ∷ e ∷ path)) (plus_zero c) ∙ own 0 e path ∙ start_inside child e path)
      (λ e path less. blocks e path (omega (arith, less))),
  λ dynamic.
      let twin = h.1 dynamic in
      starts child 0 (cells_of twin.0) (under c s) (under (0 + kept_at kids c) z) twin.3
      (λ e path. ap (λ k. s (k ∷ e ∷ path)) (plus_zero c) ∙ own 0 e path ∙ start_inside child e path)
      (λ e path less. deep (0 + kept_at kids c) e path ∙ start_child host (0 + kept_at kids c) twin.0 e path twin.1),
  main_stands kids part rest (suc c) host s z h.2
      (λ e other is. ap (λ k. z (kept_at kids k ∷ [])) (next c e) ∙ rows (suc e) other is ∙ sym (ap (λ k. s (k ∷ [])) (next c e)))
      (λ e f path. ap (λ k. s (k ∷ f ∷ path)) (next c e) ∙ own (suc e) f path) deep blocks,
)

-- WORDS of external memories. What stands before the first external cell has none
abbrev loaded : ℕ → List PlainCell → List (List ℕ) → ℕ → CellState → CellState
loaded n cs = loaded_at (externals_from n cs)

none_before : (n : ℕ) (cs : List PlainCell) (words : List (List ℕ)) (c : ℕ) (x : CellState) → c < n → loaded n cs words c x ≡ x
none_before n [] words c x less = refl
none_before n (cell ∷ cs) words c x less = choice cell.external words (λ ws. none_before (suc n) cs ws c x (omega (arith, less)))
  where
    choice : (b : Bool) (ws : List (List ℕ)) → ((vs : List (List ℕ)) → loaded (suc n) cs vs c x ≡ x) → loaded_at (if_external b n (externals_from (suc n) cs)) ws c x ≡ x
    choice false ws rest = rest ws
    choice true [] rest = refl
    choice true (w ∷ ws) rest = ap (λ b. if b then with_words w x else loaded (suc n) cs ws c x) (not_just n c (λ e. omega (arith, less, e))) ∙ rest ws

-- nor has what stands behind the last cell
none_behind : (n : ℕ) (cs : List PlainCell) (words : List (List ℕ)) (c : ℕ) (x : CellState) → n + length cs ≤ c → loaded n cs words c x ≡ x
none_behind n [] words c x past = refl
none_behind n (cell ∷ cs) words c x past = choice cell.external words (λ ws. none_behind (suc n) cs ws c x (omega (arith, past)))
  where
    choice : (b : Bool) (ws : List (List ℕ)) → ((vs : List (List ℕ)) → loaded (suc n) cs vs c x ≡ x) → loaded_at (if_external b n (externals_from (suc n) cs)) ws c x ≡ x
    choice false ws rest = rest ws
    choice true [] rest = refl
    choice true (w ∷ ws) rest = ap (λ b. if b then with_words w x else loaded (suc n) cs ws c x) (not_just n c (λ e. omega (arith, past, e))) ∙ rest ws

-- the cell of a static child is no external memory
abbrev pub OwnExternal : Kids → List PlainCell → Type 0
OwnExternal [] cs = Unit {0}
OwnExternal (k ∷ ks) [] = Unit {0}
OwnExternal (None ∷ ks) (x ∷ xs) = OwnExternal ks xs
OwnExternal (Some child ∷ ks) (x ∷ xs) = (x.external ≡ false) × OwnExternal ks xs

-- one cell in front, in both lists
cell_front : (b : Bool) (n m a c : ℕ) (es fs : List ℕ) (x : CellState) → (just n a ≡ just m c)
    → ((ws : List (List ℕ)) → loaded_at es ws a x ≡ loaded_at fs ws c x) → (ws : List (List ℕ)) → loaded_at (if_external b n es) ws a x ≡ loaded_at (if_external b m fs) ws c x
cell_front false n m a c es fs x same rest ws = rest ws
cell_front true n m a c es fs x same rest [] = refl
cell_front true n m a c es fs x same rest (w ∷ ws) =
    ap (λ b. if b then with_words w x else loaded_at es ws a x) same ∙ ap (λ y. if just m c then with_words w x else y) (rest ws)

just_here : (n m : ℕ) → just n (n + 0) ≡ just m (m + 0)
just_here n m = ap (just n) (sym (plus_zero n)) ∙ just_same n ∙ sym (ap (just m) (sym (plus_zero m)) ∙ just_same m)

just_later : (n m a c : ℕ) → just n (n + suc a) ≡ just m (m + suc c)
just_later n m a c = not_just n (n + suc a) (λ e. omega (arith, e)) ∙ sym (not_just m (m + suc c) (λ e. omega (arith, e)))

-- A CELL THAT IS KEPT has the words that it had
kept_loaded : (kids : Kids) (cs : List PlainCell) (n m c : ℕ) (x : CellState) → OwnExternal kids cs → kid_at kids c ≡ None
    → (ws : List (List ℕ)) → loaded n (kept kids cs) ws (n + kept_at kids c) x ≡ loaded m cs ws (m + c) x
kept_loaded [] [] n m c x own none ws = refl
kept_loaded [] (y ∷ ys) n m zero x own none ws =
    cell_front y.external n m (n + 0) (m + 0) (externals_from (suc n) ys) (externals_from (suc m) ys) x (just_here n m)
    (λ vs. none_before (suc n) ys vs (n + 0) x (omega arith) ∙ sym (none_before (suc m) ys vs (m + 0) x (omega arith))) ws
kept_loaded [] (y ∷ ys) n m (suc c) x own none ws =
    cell_front y.external n m (n + suc c) (m + suc c) (externals_from (suc n) ys) (externals_from (suc m) ys) x (just_later n m c c)
    (λ vs. ap (λ k. loaded (suc n) ys vs k x) (sym (next n c)) ∙ kept_loaded [] ys (suc n) (suc m) c x own none vs ∙ ap (λ k. loaded (suc m) ys vs k x) (next m c)) ws
kept_loaded (k ∷ ks) [] n m c x own none ws = refl
kept_loaded (None ∷ ks) (y ∷ ys) n m zero x own none ws =
    cell_front y.external n m (n + 0) (m + 0) (externals_from (suc n) (kept ks ys)) (externals_from (suc m) ys) x (just_here n m)
    (λ vs. none_before (suc n) (kept ks ys) vs (n + 0) x (omega arith) ∙ sym (none_before (suc m) ys vs (m + 0) x (omega arith))) ws
kept_loaded (None ∷ ks) (y ∷ ys) n m (suc c) x own none ws =
    cell_front y.external n m (n + suc (kept_at ks c)) (m + suc c) (externals_from (suc n) (kept ks ys)) (externals_from (suc m) ys) x (just_later n m (kept_at ks c) c)
    (λ vs. ap (λ k. loaded (suc n) (kept ks ys) vs k x) (sym (next n (kept_at ks c))) ∙ kept_loaded ks ys (suc n) (suc m) c x own none vs ∙ ap (λ k. loaded (suc m) ys vs k x) (next m c)) ws
kept_loaded (Some child ∷ ks) (y ∷ ys) n m zero x own none ws = absurd (cc)
kept_loaded (Some child ∷ ks) (y ∷ ys) n m (suc c) x own none ws =
    kept_loaded ks ys n (suc m) c x own.1 none ws ∙ ap (λ k. loaded (suc m) ys ws k x) (next m c)
    ∙ ap (λ b. loaded_at (if_external b m (externals_from (suc m) ys)) ws (m + suc c) x) (sym own.0)

-- cells of blocks are no external memories
abbrev AllInner : List PlainCell → Type 0
AllInner [] = Unit {0}
AllInner (c ∷ cs) = (c.external ≡ false) × AllInner cs

inner_both : (xs ys : List PlainCell) → AllInner xs → AllInner ys → AllInner (xs ++ ys)
inner_both [] ys h g = g
inner_both (x ∷ xs) ys h g = (h.0, inner_both xs ys h.1 g)

cells_inner : (x : PlainCell) (cs : List PlainCell) → AllInner (map (inner_cell x) cs)
cells_inner x [] = tt
cells_inner x (c ∷ cs) = (refl, cells_inner x cs)

wires_inner : (x : PlainCell) (outputs : List PortDecl) → AllInner (map (wire_of x) outputs)
wires_inner x [] = tt
wires_inner x (o ∷ os) = (refl, wires_inner x os)

block_inner : (k : Option PlainComponent) (x : PlainCell) → AllInner (block k x)
block_inner None x = tt
block_inner (Some child) x = inner_both (map (inner_cell x) child.cells) (map (wire_of x) child.outputs) (cells_inner x child.cells) (wires_inner x child.outputs)

blocks_inner : (kids : Kids) (cs : List PlainCell) → AllInner (blocks kids cs)
blocks_inner [] cs = tt
blocks_inner (k ∷ ks) [] = tt
blocks_inner (k ∷ ks) (c ∷ cs) = inner_both (block k c) (blocks ks cs) (block_inner k c) (blocks_inner ks cs)

externals_none : (n : ℕ) (cs : List PlainCell) → AllInner cs → externals_from n cs ≡ []
externals_none n [] h = refl
externals_none n (c ∷ cs) h = ap (λ b. if_external b n (externals_from (suc n) cs)) h.0 ∙ externals_none (suc n) cs h.1

externals_front : (n : ℕ) (xs ys : List PlainCell) → AllInner ys → externals_from n (xs ++ ys) ≡ externals_from n xs
externals_front n [] ys h = externals_none n ys h
externals_front n (x ∷ xs) ys h = ap (if_external x.external n) (externals_front (suc n) xs ys h)

externals_renumbered : (d : PlainDesign) (n : ℕ) (cs : List PlainCell) → externals_from n (map (renumbered_cell d) cs) ≡ externals_from n cs
externals_renumbered d n [] = refl
externals_renumbered d n (c ∷ cs) = ap (if_external c.external n) (externals_renumbered d (suc n) cs)

-- a component's cell is no external memory
own_external : (trees : ℕ → Instance) (cs : List PlainCell) → ((c : PlainCell) (k : ℕ) → In cs c → c.kind ≡ OfComponent k → c.external ≡ false) → OwnExternal (flat_kids (cells_for trees cs)) cs
own_external trees [] none = tt
own_external trees (c ∷ cs) none = choice c.kind refl (own_external trees cs (λ x k i e. none x k (inr i) e))
  where
    choice : (kind : PlainKind) → c.kind ≡ kind → OwnExternal (flat_kids (cells_for trees cs)) cs → OwnExternal (flat_kids (add_cell trees kind (cells_for trees cs))) (c ∷ cs)
    choice (OfPrimitive primitive) e rest = rest
    choice (OfComponent k) e rest = by_static (is_static (trees k))
      where
        by_static : (b : Bool) → OwnExternal (kid_if b (flat_part (trees k)) ∷ flat_kids (cells_for trees cs)) (c ∷ cs)
        by_static true = (none c k (inl refl) e, rest)
        by_static false = rest

-- an instance whose component has these externals
start_own : (i : Instance) (words : List (List ℕ)) (c : ℕ) → start i words (c ∷ []) ≡ loaded_at (externals_of (part_of i)) words c (start_below (cells_of i) c [])
start_own i words c = ap (loaded_at (externals_of (part_of i)) words c) (start_inside i c [])

start_deep : (i : Instance) (words : List (List ℕ)) (c e : ℕ) (path : Path) → start i words (c ∷ e ∷ path) ≡ start_below (cells_of i) c (e ∷ path)
start_deep i words c e path = start_inside i c (e ∷ path)

module _ (part : PlainComponent) (cells : Cells) (flat : Instance) (words : List (List ℕ))
    (embedded : IsEmbedded (Node part cells) 0 (cells_of flat)) (externals : externals_of (part_of flat) ≡ externals_from 0 (kept (flat_kids cells) part.cells)) (own : OwnExternal (flat_kids cells) part.cells) where
  abbrev kids : Kids
  kids = flat_kids cells

  abbrev host : Cells
  host = cells_of flat

  start_flat : (c : ℕ) → start flat words (c ∷ []) ≡ loaded 0 (kept kids part.cells) words c (start_below host c [])
  start_flat c = start_own flat words c ∙ ap (λ es. loaded_at es words c (start_below host c [])) externals

  own_row : (e : ℕ) (row : Row) → cell_at cells e ≡ OfRow row → start flat words (kept_at kids (0 + e) ∷ []) ≡ start (Node part cells) words ((0 + e) ∷ [])
  own_row e row is =
      start_flat (kept_at kids (0 + e))
      ∙ ap (λ x. loaded 0 (kept kids part.cells) words (kept_at kids (0 + e)) x) (start_row host (kept_at kids (0 + e)) row at)
      ∙ ap (λ k. loaded 0 (kept kids part.cells) words k row.start) (sym (zero_plus (kept_at kids (0 + e))))
      ∙ kept_loaded kids part.cells 0 0 (0 + e) row.start own (ap (kid_at kids) (zero_plus e) ∙ kid-row cells e row is) words
      ∙ ap (λ k. loaded 0 part.cells words k row.start) (zero_plus (0 + e))
      ∙ ap (loaded 0 part.cells words (0 + e)) (sym (ap (λ k. start_below cells k []) (zero_plus e) ∙ start_row cells e row is))
    where
      at : cell_at host (kept_at kids (0 + e)) ≡ OfRow row
      at = ap (cell_at host) (sym (zero_plus (kept_at kids (0 + e)))) ∙ embedded_row kids part 0 host cells 0 e row embedded is

  in_blocks : StartsFrom (length (kept kids part.cells)) host (start flat words)
  in_blocks e [] less = start_flat e ∙ none_behind 0 (kept kids part.cells) words e (start_below host e []) (omega (arith, less))
  in_blocks e (f ∷ path) less = start_deep flat words e f path

  main_starts : Stands (Node part cells) 0 (start (Node part cells) words) (start flat words)
  main_starts =
      main_stands kids part cells 0 host (start (Node part cells) words) (start flat words) embedded own_row
      (λ e f path. ap (λ k. start (Node part cells) words (k ∷ f ∷ path)) (zero_plus e)) (λ e f path. start_deep flat words e f path) in_blocks

-- any instance, by its component and cells
starts_in : (i flat : Instance) (words : List (List ℕ)) → IsEmbedded i 0 (cells_of flat) → externals_of (part_of flat) ≡ externals_from 0 (kept (flat_kids (cells_of i)) (part_of i).cells)
    → OwnExternal (flat_kids (cells_of i)) (part_of i).cells → Stands i 0 (start i words) (start flat words)
starts_in (Node part cells) flat words embedded externals own = main_starts part cells flat words embedded externals own

flat_cells_are : (i : Instance) → (flat_part i).cells ≡ flat_cells (flat_kids (cells_of i)) (part_of i).cells
flat_cells_are (Node part cells) = refl

module _ (d : PlainDesign) (design : IsDesign d) where
  pub none_external : (c : PlainCell) (k : ℕ) → In (component_at d d.main).cells c → c.kind ≡ OfComponent k → c.external ≡ false
  none_external c k i e = choice c.external refl
    where
      choice : (b : Bool) → c.external ≡ b → b ≡ false
      choice false f = refl
      choice true f = absurd (subst (IsExternal d d.main) e (((design.components d.main design.main_there).cells c i).external f))

  pub own_within : (n : ℕ) → OwnExternal (flat_kids (cells_of (tree_within d n d.main))) (part_of (tree_within d n d.main)).cells
  own_within zero = tt
  own_within (suc n) = own_external (tree_within d n) (component_at d d.main).cells none_external

  pub externals_are : externals_of (part_of (tree_of (flat_design d))) ≡ externals_from 0 (kept (flat_kids (cells_of (tree_of d))) (part_of (tree_of d)).cells)
  externals_are =
      ap externals_of (same_part (flat_design d) (length (flat_design d).components) (flat_design d).main ∙ flat_component_is d d.main design.main_there (itself d (length d.components) d.main))
      ∙ externals_renumbered d 0 (flat_of d d.main).cells
      ∙ ap (externals_from 0) (flat_cells_are (tree_of d))
      ∙ externals_front 0 (kept (flat_kids (cells_of (tree_of d))) (part_of (tree_of d)).cells) (blocks (flat_kids (cells_of (tree_of d))) (part_of (tree_of d)).cells)
      (blocks_inner (flat_kids (cells_of (tree_of d))) (part_of (tree_of d)).cells)

  -- THE START
  pub flat_start : (words : List (List ℕ)) → Stands (tree_of d) 0 (start (tree_of d) words) (start (tree_of (flat_design d)) words)
  flat_start words = starts_in (tree_of d) (tree_of (flat_design d)) words (flat_tree d design).1 externals_are (own_within (length d.components))
