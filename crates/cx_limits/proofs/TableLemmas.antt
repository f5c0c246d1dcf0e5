-- The table of components: where the rows of the components of its cells are right, so is the row of a component.
use Rattle.std.proofs.Common.{◌≡◌, ℕ, zero, suc, ◌+◌, ◌<◌, ◌≤◌, max, inl, inr, ◌⊎◌, ⊎_elim, List, [], ◌∷◌, Option, Some, None, option_map, length, set, get_or, refl, sym, ap, ◌∙◌, subst, arith}
use Rattle.std.specs.Prelude.{slice_get}
use Rattle.std.proofs.lemmas.Bool.{cases_eq, cases_lt}
use Rattle.std.proofs.lemmas.List.{get_or-set_same, get_or-set_other, length-set}
use Rattle.cx_text.proofs.MemberLaws.{in_at, number_in}
use Rattle.cx_graphs.specs.Ways.{IsOrder}
use Rattle.cx_meaning.specs.Designs.{PlainKind, OfPrimitive, OfComponent, PlainCell, PlainComponent, PlainDesign, component_at}
use Rattle.cx_meaning.specs.Instances.{Instance, Node, Cells, an_instance, add_cell, cells_for, part_of, tree_within}
use Rattle.cx_text.specs.Members.{In}
use Rattle.cx_meaning.proofs.DesignsLemmas.{same_part}
use Rattle.cx_text.proofs.ListLaws.{there_below}
use Rattle.cx_rules.specs.Counts.{Inner, if_static, inner, inners_of, size_with, unless_static, weight_within, instances_within, depth_within}
use Rattle.cx_rules.specs.Ports.{component_of}
use Rattle.cx_rules.specs.Sizes.{words_below}
use Rattle.cx_design_sizes.specs.Capped.{capped}
use Rattle.cx_design_sizes.specs.declared.tallies.LimitTally.{LimitTally}
use Rattle.cx_design_sizes.proofs.TalliesLemmas.{tally_eq}
use Rattle.cx_limits.specs.Order.{component_edges}
use Rattle.cx_limits.specs.Inners.{capped_inner, capped_inners, below_of, below_at}
use Rattle.cx_limits.specs.declared.rows.Row.{Row}
use Rattle.cx_limits.specs.declared.rows.TreeCounts.{TreeCounts}
use Rattle.cx_limits.specs.Rows.{plain_inner, no_row, inner_by, inners_by, beside, tree_above, tree_at, tree_by, trees_by, trees_in, IsRowWith, IsRowOf, IsTable, AreRows, counts_of}
use Rattle.cx_limits.proofs.InnerCaps.{inner_capped, size_capped}
use Rattle.cx_limits.proofs.OrderLemmas.{of_graph, to_graph, edge_to, edge_count, few}

-- WHAT STANDS AT CELLS, by rows, is what stands there in the tree, under caps
static_capped : (l : Option ℕ) (x y : Inner) → x ≡ capped_inner y → if_static l x ≡ option_map capped_inner (if_static l y)
static_capped None x y e = refl
static_capped (Some latency) x y e = ap Some e

child_inner : (i : Instance) (l : Option ℕ) (row : Row) (rest : Cells) → (part_of i).latency ≡ l → IsRowOf i row
    → if_static l (plain_inner row.inner) ∷ capped_inners (inners_of rest) ≡ capped_inners (inners_of (an_instance i rest))
child_inner (Node part cells) l row rest e h =
    ap (λ k. if_static k (plain_inner row.inner) ∷ capped_inners (inners_of rest)) (sym e)
    ∙ ap (λ x. x ∷ capped_inners (inners_of rest)) (static_capped part.latency (plain_inner row.inner) (inner part (inners_of cells)) h.inner_is)

kind_inner : (d : PlainDesign) (m : ℕ) (rows : List Row) (kind : PlainKind) (rest : Cells) → ((j : ℕ) → kind ≡ OfComponent j → IsRowOf (tree_within d m j) (get_or rows j no_row))
    → inner_by d rows kind ∷ capped_inners (inners_of rest) ≡ capped_inners (inners_of (add_cell (tree_within d m) kind rest))
kind_inner d m rows (OfPrimitive p) rest h = refl
kind_inner d m rows (OfComponent k) rest h =
    child_inner (tree_within d m k) (component_at d k).latency (get_or rows k no_row) rest (ap (λ (part : PlainComponent). part.latency) (same_part d m k)) (h k refl)

abbrev pub AreKnown : PlainDesign → ℕ → List Row → List PlainCell → Type 0
AreKnown d m rows cells = (cell : PlainCell) (j : ℕ) → In cells cell → cell.kind ≡ OfComponent j → IsRowOf (tree_within d m j) (get_or rows j no_row)

pub inners_right : (d : PlainDesign) (m : ℕ) (rows : List Row) (cells : List PlainCell) → AreKnown d m rows cells
    → inners_by d rows cells ≡ capped_inners (inners_of (cells_for (tree_within d m) cells))
inners_right d m rows [] h = refl
inners_right d m rows (c ∷ cs) h =
    ap (λ l. inner_by d rows c.kind ∷ l) (inners_right d m rows cs (λ cell j i. h cell j (inr i)))
    ∙ kind_inner d m rows c.kind (cells_for (tree_within d m) cs) (λ j e. h c j (inl refl) e)

-- THE TREES at cells
abbrev three : ℕ → ℕ → ℕ → TreeCounts
three i d w = record { instances = i; depth = d; weight = w }

beside_rest : (l : Option ℕ) (row : Row) (ai ad aw s ri rd rw : ℕ) → row.trees ≡ three (capped ai) (capped ad) (capped aw) → row.size ≡ capped s
    → beside (tree_at l row) (three (capped ri) (capped rd) (capped rw))
    ≡ three (capped (unless_static l 1 + ai + ri)) (capped (max (unless_static l 1 + ad) rd)) (capped (unless_static l (s + 1) + aw + rw))
beside_rest None row ai ad aw s ri rd rw et es =
    let ei : row.trees.instances ≡ capped ai = ap (λ (t : TreeCounts). t.instances) et in
    let ed : row.trees.depth ≡ capped ad = ap (λ (t : TreeCounts). t.depth) et in
    let ew : row.trees.weight ≡ capped aw = ap (λ (t : TreeCounts). t.weight) et in
    let i : capped (capped (row.trees.instances + 1) + capped ri) ≡ capped (1 + ai + ri) = omega (arith, ei) in
    let d : max (capped (row.trees.depth + 1)) (capped rd) ≡ capped (max (1 + ad) rd) = omega (arith, ed) in
    let w : capped (capped (capped (row.size + 1) + row.trees.weight) + capped rw) ≡ capped (s + 1 + aw + rw) = omega (arith, ew, es) in
    λ t. three (i t) (d t) (w t)
beside_rest (Some latency) row ai ad aw s ri rd rw et es =
    let ei : row.trees.instances ≡ capped ai = ap (λ (t : TreeCounts). t.instances) et in
    let ed : row.trees.depth ≡ capped ad = ap (λ (t : TreeCounts). t.depth) et in
    let ew : row.trees.weight ≡ capped aw = ap (λ (t : TreeCounts). t.weight) et in
    let i : capped (row.trees.instances + capped ri) ≡ capped (0 + ai + ri) = omega (arith, ei) in
    let d : max row.trees.depth (capped rd) ≡ capped (max (0 + ad) rd) = omega (arith, ed) in
    let w : capped (row.trees.weight + capped rw) ≡ capped (0 + aw + rw) = omega (arith, ew) in
    λ t. three (i t) (d t) (w t)

child_trees : (i : Instance) (l : Option ℕ) (row : Row) (rest : Cells) → (part_of i).latency ≡ l → IsRowOf i row
    → beside (tree_at l row) (trees_in rest) ≡ trees_in (an_instance i rest)
child_trees (Node part cells) l row rest e h =
    ap (λ k. beside (tree_at k row) (trees_in rest)) (sym e)
    ∙ beside_rest part.latency row (instances_within cells) (depth_within cells) (weight_within cells) (size_with part (inners_of cells))
    (instances_within rest) (depth_within rest) (weight_within rest) h.trees_are h.size

kind_trees : (d : PlainDesign) (m : ℕ) (rows : List Row) (kind : PlainKind) (rest : Cells) → ((j : ℕ) → kind ≡ OfComponent j → IsRowOf (tree_within d m j) (get_or rows j no_row))
    → beside (tree_by d rows kind) (trees_in rest) ≡ trees_in (add_cell (tree_within d m) kind rest)
kind_trees d m rows (OfPrimitive p) rest h =
    let i : capped (0 + capped (instances_within rest)) ≡ capped (instances_within rest) = omega arith in
    let e : max 0 (capped (depth_within rest)) ≡ capped (depth_within rest) = omega arith in
    let w : capped (0 + capped (weight_within rest)) ≡ capped (weight_within rest) = omega arith in
    λ t. three (i t) (e t) (w t)
kind_trees d m rows (OfComponent k) rest h =
    child_trees (tree_within d m k) (component_at d k).latency (get_or rows k no_row) rest (ap (λ (part : PlainComponent). part.latency) (same_part d m k)) (h k refl)

pub trees_right : (d : PlainDesign) (m : ℕ) (rows : List Row) (cells : List PlainCell) → AreKnown d m rows cells → trees_by d rows cells ≡ trees_in (cells_for (tree_within d m) cells)
trees_right d m rows [] h = refl
trees_right d m rows (c ∷ cs) h =
    ap (beside (tree_by d rows c.kind)) (trees_right d m rows cs (λ cell j i. h cell j (inr i)))
    ∙ kind_trees d m rows c.kind (cells_for (tree_within d m) cs) (λ j e. h c j (inl refl) e)

-- THE ROW of a component, one level further down
row_right : (d : PlainDesign) (m k : ℕ) (rows : List Row) (row : Row) → AreKnown d m rows (component_at d k).cells
    → IsRowWith (component_at d k) (inners_by d rows (component_at d k).cells) (trees_by d rows (component_at d k).cells) row → IsRowOf (tree_within d (suc m) k) row
row_right d m k rows row known h =
    let part = component_at d k in
    let below = inners_of (cells_for (tree_within d m) part.cells) in
    let right : inners_by d rows part.cells ≡ capped_inners below = inners_right d m rows part.cells known in
    record {
      inner_is = h.inner_is ∙ ap (λ x. capped_inner (inner part x)) right ∙ inner_capped part below;
      size = h.size ∙ ap (λ x. capped (size_with part x)) right ∙ size_capped part below;
      trees_are = h.trees_are ∙ trees_right d m rows part.cells known;
    }

module _ (d : PlainDesign) (order : List ℕ) (is : IsOrder (component_edges d) order) where
  -- the components of cells stand before
  known_at : (i k m done : ℕ) (rows : List Row) → slice_get order i ≡ Some k → i ≤ m → i ≤ done → IsTable d order done rows → AreKnown d m rows (component_at d k).cells
  known_at i k m done rows at low less table cell j stands e =
      let r = is.earlier i k j at (edge_to d k j cell stands e) in
      table.known r.0 j m (let lt : r.0 < i = r.1 in omega arith) r.2 (let lt : r.0 < i = r.1 in omega arith)

  pub table_there : (i k : ℕ) → slice_get order i ≡ Some k → k < length d.components
  table_there i k at = subst (λ n. k < n) (edge_count d) (is.within k (to_graph order k (in_at order i k at)))

  pub table_turn : (i k : ℕ) (rows : List Row) (row : Row) → slice_get order i ≡ Some k → IsTable d order i rows
      → IsRowWith (component_at d k) (inners_by d rows (component_at d k).cells) (trees_by d rows (component_at d k).cells) row → IsTable d order (i + 1) (set rows k row)
  table_turn i k rows row at table h = record { sized = length-set rows k row ∙ table.sized; known = λ j c m less at_j low. known j c m less at_j low (cases_eq i j) }
    where
      within : k < length rows
      within = subst (λ n. k < n) (sym table.sized) (table_there i k at)

      own : (m : ℕ) → i < m → IsRowOf (tree_within d m k) row
      own zero low = absurd (omega arith)
      own (suc m) low = row_right d m k rows row (known_at i k m i rows at (omega arith) (omega arith) table) h

      known : (j c m : ℕ) → j < i + 1 → slice_get order j ≡ Some c → j < m → (i ≡ j) ⊎ (i ≡ j → ⊥) → IsRowOf (tree_within d m c) (get_or (set rows k row) c no_row)
      known j c m less at_j low (inl same) =
          let both : Some k ≡ Some c = sym at ∙ ap (slice_get order) same ∙ at_j in
          let e : k ≡ c = cc in
          subst (λ x. IsRowOf (tree_within d m x) (get_or (set rows k row) x no_row)) e
          (subst (IsRowOf (tree_within d m k)) (sym (get_or-set_same rows k row no_row within)) (own m (omega arith)))
      known j c m less at_j low (inr other) =
          subst (IsRowOf (tree_within d m c)) (sym (get_or-set_other rows k c row no_row (λ e. other (is.once i j c (at ∙ ap Some (sym e)) at_j))))
          (table.known j c m (let n : i ≡ j → ⊥ = other in ⊎_elim (λ (lt : j < i). lt) (λ (ge : i ≤ j). absurd (n (omega arith))) (cases_lt j i)) at_j low)

  -- all rows
  pub table_end : (rows : List Row) → IsTable d order (length order) rows → AreRows d rows
  table_end rows table = record { sized = table.sized; own = own; below = below }
    where
      some : length order ≤ length d.components
      some = few d order is

      place : (k : ℕ) → k < length d.components → (i : ℕ) × (slice_get order i ≡ Some k)
      place k lt = number_in order k (of_graph order k (is.all k (subst (λ n. k < n) (sym (edge_count d)) lt)))

      own : (k : ℕ) → k < length d.components → IsRowOf (component_of d k) (get_or rows k no_row)
      own k lt =
          let r = place k lt in
          let there : r.0 < length order = there_below order r.0 k r.1 in
          table.known r.0 k (length d.components) there r.1 (omega (arith, some))

      below_within : (n k : ℕ) → length d.components ≡ n → k < length d.components → inners_by d rows (component_at d k).cells ≡ capped_inners (below_of (tree_within d n k))
      below_within zero k e lt = absurd (omega arith)
      below_within (suc m) k e lt =
          let r = place k lt in
          let there : r.0 < length order = there_below order r.0 k r.1 in
          inners_right d m rows (component_at d k).cells (known_at r.0 k m (length order) rows r.1 (omega (arith, some)) (omega arith) table)

      below : (k : ℕ) → k < length d.components → inners_by d rows (component_at d k).cells ≡ below_at d k
      below k lt = below_within (length d.components) k refl lt

-- THE COUNTS over the tree of an instance, by its row
pub counts_are : (i : Instance) (row : Row) (trees : TreeCounts) (tally : LimitTally) → IsRowOf i row → trees ≡ tree_above row → tally.instances ≡ trees.instances → tally.depth ≡ trees.depth
    → tally.words ≡ capped (words_below i) → tally.weight ≡ trees.weight → tally ≡ counts_of i
counts_are (Node part cells) row trees tally h above ei ed ew eg =
    let own : trees ≡ tree_above row = above in
    let ri : row.trees.instances ≡ capped (instances_within cells) = ap (λ (t : TreeCounts). t.instances) h.trees_are in
    let rd : row.trees.depth ≡ capped (depth_within cells) = ap (λ (t : TreeCounts). t.depth) h.trees_are in
    let rw : row.trees.weight ≡ capped (weight_within cells) = ap (λ (t : TreeCounts). t.weight) h.trees_are in
    let ti : trees.instances ≡ capped (row.trees.instances + 1) = ap (λ (t : TreeCounts). t.instances) own in
    let td : trees.depth ≡ capped (row.trees.depth + 1) = ap (λ (t : TreeCounts). t.depth) own in
    let tw : trees.weight ≡ capped (capped (row.size + 1) + row.trees.weight) = ap (λ (t : TreeCounts). t.weight) own in
    let instances : tally.instances ≡ capped (1 + instances_within cells) = omega (arith, ei, ti, ri) in
    let depth : tally.depth ≡ capped (1 + depth_within cells) = omega (arith, ed, td, rd) in
    let weight : tally.weight ≡ capped (size_with part (inners_of cells) + 1 + weight_within cells) = omega (arith, eg, tw, rw, h.size) in
    tally_eq tally (counts_of (Node part cells)) instances depth ew weight
