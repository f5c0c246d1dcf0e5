-- What stands at a cell of an instance, where its cells are embedded in a host; and what is known of its children.
use Rattle.std.proofs.Common.{◌≡◌, ℕ, zero, suc, ◌+◌, ◌<◌, ◌≤◌, true, false, List, [], ◌∷◌, length, map, Option, Some, None, refl, sym, ap, ◌∙◌, subst, arith}
use Rattle.std.proofs.lemmas.List.{length-append, length-map}
use Rattle.cx_prim.specs.Rows.{Row}
use Rattle.cx_meaning.specs.declared.kinds.PortDecl.{PortDecl}
use Rattle.cx_meaning.specs.Designs.{PlainCell, PlainComponent}
use Rattle.cx_meaning.specs.Instances.{Instance, Node, Cells, no_cells, a_primitive, an_instance, OfRow, OfInstance, part_of, cells_of, cell_at, cell_count, State, under}
use Rattle.cx_meaning.proofs.InstancesLemmas.{nothing_instance, nothing_row, instance_is}
use Rattle.cx_rules.specs.Circles.{AreAcyclic, AcyclicBelow}
use Rattle.cx_flattening.specs.Whole.{is_static}
use Rattle.cx_flattening.specs.Flattened.{Kids, kid_at, kept, block, blocks, flat_cells, block_size, block_at, inner_cell, wire_of, flat_part, kept_at, start_of, wire_at}
use Rattle.cx_flattening.specs.Embedded.{IsLike, wire_row, HasWires, IsEmbedded, AreEmbedded, Stands, AllStand}
use Rattle.cx_flattening.specs.Fair.{IsFair, AllFair}

plus : (a b : ℕ) → suc a + b ≡ a + suc b
plus a b = omega arith

plus_zero : (a : ℕ) → a ≡ a + 0
plus_zero a = omega arith

module _ (kids : Kids) (part : PlainComponent) (first : ℕ) (host : Cells) where
  pub embedded_row : (cells : Cells) (c n : ℕ) (row : Row) → AreEmbedded kids part cells c first host → cell_at cells n ≡ OfRow row → cell_at host (first + kept_at kids (c + n)) ≡ OfRow row
  embedded_row no_cells c n row h e = absurd (cc)
  embedded_row (a_primitive other rest) c zero row h e =
      let same : other ≡ row = cc in
      ap (λ k. cell_at host (first + kept_at kids k)) (sym (plus_zero c)) ∙ h.0 ∙ ap OfRow same
  embedded_row (a_primitive other rest) c (suc n) row h e = ap (λ k. cell_at host (first + kept_at kids k)) (sym (plus c n)) ∙ embedded_row rest (suc c) n row h.1 e
  embedded_row (an_instance child rest) c zero row h e = absurd (cc)
  embedded_row (an_instance child rest) c (suc n) row h e = ap (λ k. cell_at host (first + kept_at kids k)) (sym (plus c n)) ∙ embedded_row rest (suc c) n row h.2 e

  pub embedded_static : (cells : Cells) (c n : ℕ) (child : Instance) → AreEmbedded kids part cells c first host → cell_at cells n ≡ OfInstance child → is_static child ≡ true
      → IsEmbedded child (first + start_of kids part (c + n)) host × HasWires (part_of child).outputs (first + wire_at kids part (flat_part child) (c + n) 0) host
  embedded_static no_cells c n child h e static = absurd (cc)
  embedded_static (a_primitive row rest) c zero child h e static = absurd (cc)
  embedded_static (a_primitive row rest) c (suc n) child h e static =
      subst (λ k. IsEmbedded child (first + start_of kids part k) host × HasWires (part_of child).outputs (first + wire_at kids part (flat_part child) k 0) host) (plus c n) (embedded_static rest (suc c) n child h.1 e static)
  embedded_static (an_instance other rest) c zero child h e static =
      subst (λ k. IsEmbedded child (first + start_of kids part k) host × HasWires (part_of child).outputs (first + wire_at kids part (flat_part child) k 0) host) (plus_zero c)
      (subst (λ j. is_static j ≡ true → IsEmbedded j (first + start_of kids part c) host × HasWires (part_of j).outputs (first + wire_at kids part (flat_part j) c 0) host) (instance_is other child e) h.0 static)
  embedded_static (an_instance other rest) c (suc n) child h e static =
      subst (λ k. IsEmbedded child (first + start_of kids part k) host × HasWires (part_of child).outputs (first + wire_at kids part (flat_part child) k 0) host) (plus c n) (embedded_static rest (suc c) n child h.2 e static)

  abbrev pub TwinAt : Instance → ℕ → Type 0
  TwinAt child k = (twin : Instance) × (cell_at host (first + kept_at kids k) ≡ OfInstance twin) × IsLike (part_of twin) (flat_part child) × IsEmbedded child 0 (cells_of twin) × (cell_count (cells_of twin) ≡ length (flat_part child).cells)

  pub embedded_dynamic : (cells : Cells) (c n : ℕ) (child : Instance) → AreEmbedded kids part cells c first host → cell_at cells n ≡ OfInstance child → is_static child ≡ false → TwinAt child (c + n)
  embedded_dynamic no_cells c n child h e dynamic = absurd (cc)
  embedded_dynamic (a_primitive row rest) c zero child h e dynamic = absurd (cc)
  embedded_dynamic (a_primitive row rest) c (suc n) child h e dynamic = subst (TwinAt child) (plus c n) (embedded_dynamic rest (suc c) n child h.1 e dynamic)
  embedded_dynamic (an_instance other rest) c zero child h e dynamic =
      subst (TwinAt child) (plus_zero c) (subst (λ j. is_static j ≡ false → TwinAt j c) (instance_is other child e) h.1 dynamic)
  embedded_dynamic (an_instance other rest) c (suc n) child h e dynamic = subst (TwinAt child) (plus c n) (embedded_dynamic rest (suc c) n child h.2 e dynamic)

module _ (kids : Kids) (part : PlainComponent) (first : ℕ) (s z : State) where
  pub stands_row : (cells : Cells) (c n : ℕ) (row : Row) → AllStand kids part cells c first s z → cell_at cells n ≡ OfRow row → z ((first + kept_at kids (c + n)) ∷ []) ≡ s ((c + n) ∷ [])
  stands_row no_cells c n row h e = absurd (cc)
  stands_row (a_primitive other rest) c zero row h e = subst (λ k. z ((first + kept_at kids k) ∷ []) ≡ s (k ∷ [])) (plus_zero c) h.0
  stands_row (a_primitive other rest) c (suc n) row h e = subst (λ k. z ((first + kept_at kids k) ∷ []) ≡ s (k ∷ [])) (plus c n) (stands_row rest (suc c) n row h.1 e)
  stands_row (an_instance child rest) c zero row h e = absurd (cc)
  stands_row (an_instance child rest) c (suc n) row h e = subst (λ k. z ((first + kept_at kids k) ∷ []) ≡ s (k ∷ [])) (plus c n) (stands_row rest (suc c) n row h.2 e)

  pub stands_static : (cells : Cells) (c n : ℕ) (child : Instance) → AllStand kids part cells c first s z → cell_at cells n ≡ OfInstance child → is_static child ≡ true → Stands child (first + start_of kids part (c + n)) (under (c + n) s) z
  stands_static no_cells c n child h e static = absurd (cc)
  stands_static (a_primitive row rest) c zero child h e static = absurd (cc)
  stands_static (a_primitive row rest) c (suc n) child h e static = subst (λ k. Stands child (first + start_of kids part k) (under k s) z) (plus c n) (stands_static rest (suc c) n child h.1 e static)
  stands_static (an_instance other rest) c zero child h e static =
      subst (λ k. Stands child (first + start_of kids part k) (under k s) z) (plus_zero c) (subst (λ j. is_static j ≡ true → Stands j (first + start_of kids part c) (under c s) z) (instance_is other child e) h.0 static)
  stands_static (an_instance other rest) c (suc n) child h e static = subst (λ k. Stands child (first + start_of kids part k) (under k s) z) (plus c n) (stands_static rest (suc c) n child h.2 e static)

  pub stands_dynamic : (cells : Cells) (c n : ℕ) (child : Instance) → AllStand kids part cells c first s z → cell_at cells n ≡ OfInstance child → is_static child ≡ false → Stands child 0 (under (c + n) s) (under (first + kept_at kids (c + n)) z)
  stands_dynamic no_cells c n child h e dynamic = absurd (cc)
  stands_dynamic (a_primitive row rest) c zero child h e dynamic = absurd (cc)
  stands_dynamic (a_primitive row rest) c (suc n) child h e dynamic = subst (λ k. Stands child 0 (under k s) (under (first + kept_at kids k) z)) (plus c n) (stands_dynamic rest (suc c) n child h.1 e dynamic)
  stands_dynamic (an_instance other rest) c zero child h e dynamic =
      subst (λ k. Stands child 0 (under k s) (under (first + kept_at kids k) z)) (plus_zero c) (subst (λ j. is_static j ≡ false → Stands j 0 (under c s) (under (first + kept_at kids c) z)) (instance_is other child e) h.1 dynamic)
  stands_dynamic (an_instance other rest) c (suc n) child h e dynamic = subst (λ k. Stands child 0 (under k s) (under (first + kept_at kids k) z)) (plus c n) (stands_dynamic rest (suc c) n child h.2 e dynamic)

-- the wire of an output
pub wire_there : (outputs : List PortDecl) (e n : ℕ) (host : Cells) → HasWires outputs e host → n < length outputs → (width : ℕ) × (cell_at host (e + n) ≡ OfRow (wire_row width))
wire_there [] e n host h less = absurd (omega (arith, less))
wire_there (output ∷ outputs) e zero host h less = (output.width, ap (cell_at host) (sym (plus_zero e)) ∙ h.0)
wire_there (output ∷ outputs) e (suc n) host h less =
    let r = wire_there outputs (suc e) n host h.1 (omega (arith, less)) in
    (r.0, ap (cell_at host) (sym (plus e n)) ∙ r.1)

-- a block ends among the flat cells
pub length-block : (k : Option PlainComponent) (x : PlainCell) → length (block k x) ≡ block_size k
length-block None x = refl
length-block (Some child) x =
    length-append (map (inner_cell x) child.cells) (map (wire_of x) child.outputs)
    ∙ ap (λ n. n + length (map (wire_of x) child.outputs)) (length-map child.cells (inner_cell x)) ∙ ap (λ n. length child.cells + n) (length-map child.outputs (wire_of x))

block_within : (kids : Kids) (cells : List PlainCell) (c : ℕ) (child : PlainComponent) → c < length cells → kid_at kids c ≡ Some child → block_at kids c + block_size (Some child) ≤ length (blocks kids cells)
block_within [] cells c child less e = absurd (cc)
block_within (k ∷ ks) [] c child less e = absurd (omega (arith, less))
block_within (k ∷ ks) (x ∷ xs) zero child less e =
    let here = length-append (block k x) (blocks ks xs) in
    let size : length (block k x) ≡ block_size (Some child) = length-block k x ∙ ap block_size e in
    omega (arith, here, size)
block_within (k ∷ ks) (x ∷ xs) (suc c) child less e =
    let here = length-append (block k x) (blocks ks xs) in
    let size = length-block k x in
    let ih = block_within ks xs c child (omega (arith, less)) e in
    omega (arith, here, size, ih)

pub in_flat_cells : (kids : Kids) (part : PlainComponent) (c m : ℕ) (child : PlainComponent) → c < length part.cells → kid_at kids c ≡ Some child → m < block_size (Some child) → start_of kids part c + m < length (flat_cells kids part.cells)
in_flat_cells kids part c m child less e inside =
    let all = length-append (kept kids part.cells) (blocks kids part.cells) in
    let within = block_within kids part.cells c child less e in
    omega (arith, all, within, inside)

-- children
pub fair_own : (i : Instance) → AllFair i → IsFair i
fair_own (Node part cells) h = h.0

pub within_child : (i : Instance) → IsFair i → (c : ℕ) (child : Instance) → cell_at (cells_of i) c ≡ OfInstance child → c < length (part_of i).cells
within_child i fair c child at = fair.within c (λ none. nothing_instance child (sym none ∙ at))

pub within_row : (i : Instance) → IsFair i → (c : ℕ) (row : Row) → cell_at (cells_of i) c ≡ OfRow row → c < length (part_of i).cells
within_row i fair c row at = fair.within c (λ none. nothing_row row (sym none ∙ at))

pub acyclic_child : (cells : Cells) (c : ℕ) (child : Instance) → AcyclicBelow cells → cell_at cells c ≡ OfInstance child → AreAcyclic child
acyclic_child no_cells c child h e = absurd (cc)
acyclic_child (a_primitive row rest) zero child h e = absurd (cc)
acyclic_child (a_primitive row rest) (suc c) child h e = acyclic_child rest c child h e
acyclic_child (an_instance other rest) zero child h e = subst AreAcyclic (instance_is other child e) h.0
acyclic_child (an_instance other rest) (suc c) child h e = acyclic_child rest c child h.1 e
