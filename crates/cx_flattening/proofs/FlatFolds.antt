-- COUNTS OVER TREES: what is put together of all that stands below a flat instance is that of all below the instance, where static
-- components have nothing of their own.
use Rattle.std.proofs.Common.{◌≡◌, ℕ, zero, suc, ◌+◌, Bool, true, false, is_some, List, [], ◌∷◌, length, map, Option, Some, None, refl, sym, ap, ◌∙◌, subst, arith}
use Rattle.std.proofs.lemmas.List.{length-append, length-map}
use Rattle.cx_prim.specs.Rows.{Row}
use Rattle.cx_meaning.specs.declared.kinds.PortDecl.{PortDecl}
use Rattle.cx_meaning.specs.Designs.{PlainCell, PlainComponent}
use Rattle.cx_meaning.specs.Instances.{Instance, Node, Cells, no_cells, a_primitive, an_instance, At, Nothing, OfRow, OfInstance, part_of, cells_of, cell_at, cell_count}
use Rattle.cx_flattening.specs.Whole.{is_static}
use Rattle.cx_flattening.specs.Flattened.{Kids, kid_if, kept, block, blocks, block_at, inner_cell, wire_of, flat_part, flat_kids, kept_at, start_of, wire_at}
use Rattle.cx_flattening.specs.Embedded.{wire_row, HasWires, IsEmbedded, IsFlattened}
use Rattle.cx_flattening.proofs.Standing.{TwinAt, embedded_row, embedded_static, embedded_dynamic}

-- as many cells as the component says, at every depth
abbrev mutual
  pub AllFit : Instance → Type 0
  AllFit (Node part cells) = (cell_count cells ≡ length part.cells) × FitBelow cells

  pub FitBelow : Cells → Type 0
  FitBelow no_cells = Unit {0}
  FitBelow (a_primitive row rest) = FitBelow rest
  FitBelow (an_instance child rest) = AllFit child × FitBelow rest

fit_child : (cells : Cells) (c : ℕ) (child : Instance) → FitBelow cells → cell_at cells c ≡ OfInstance child → AllFit child
fit_child no_cells c child h at = absurd (cc)
fit_child (a_primitive row rest) zero child h at = absurd (cc)
fit_child (a_primitive row rest) (suc c) child h at = fit_child rest c child h at
fit_child (an_instance other rest) zero child h at = let same : other ≡ child = cc in subst AllFit same h.0
fit_child (an_instance other rest) (suc c) child h at = fit_child rest c child h.1 at

next : (a b : ℕ) → suc a + b ≡ a + suc b
next a b = omega arith

plus_zero : (a : ℕ) → a + 0 ≡ a
plus_zero a = omega arith

zero_plus : (a : ℕ) → 0 + a ≡ a
zero_plus a = omega arith

-- how things are put together, what a row has, and an instance by what its cells have together: in the flat tree and in the tree
module _ (op : ℕ → ℕ → ℕ) (unit : (a : ℕ) → op 0 a ≡ a) (comm : (a b : ℕ) → op a b ≡ op b a) (assoc : (a b c : ℕ) → op (op a b) c ≡ op a (op b c))
    (rows : Row → ℕ) (no_wires : (w : ℕ) → rows (wire_row w) ≡ 0) (node own : Instance → ℕ → ℕ) (alike : (i flat : Instance) (n : ℕ) → IsFlattened i flat → node flat n ≡ own i n) where
  abbrev mutual
    -- IN A TREE without static components
    pub value : Instance → ℕ
    value (Node part cells) = node (Node part cells) (fold cells)

    pub fold : Cells → ℕ
    fold no_cells = 0
    fold (a_primitive row rest) = op (rows row) (fold rest)
    fold (an_instance child rest) = op (value child) (fold rest)

  abbrev if_dynamic : Bool → (ℕ → ℕ) → ℕ → ℕ
  if_dynamic true f n = n
  if_dynamic false f n = f n

  -- IN A TREE with static components
  abbrev mutual
    pub counted : Instance → ℕ
    counted (Node part cells) = counted_in cells

    pub counted_in : Cells → ℕ
    counted_in no_cells = 0
    counted_in (a_primitive row rest) = op (rows row) (counted_in rest)
    counted_in (an_instance child rest) = op (if_dynamic (is_static child) (own child) (counted child)) (counted_in rest)

  abbrev value_at : At → ℕ
  value_at Nothing = 0
  value_at (OfRow row) = rows row
  value_at (OfInstance child) = value child

  -- n cells from cell a on
  abbrev range : Cells → ℕ → ℕ → ℕ
  range host a zero = 0
  range host a (suc n) = op (value_at (cell_at host a)) (range host (suc a) n)

  range_none : (a n : ℕ) → range no_cells a n ≡ 0
  range_none a zero = refl
  range_none a (suc n) = unit (range no_cells (suc a) n) ∙ range_none (suc a) n

  range_shift_row : (row : Row) (rest : Cells) (a n : ℕ) → range (a_primitive row rest) (suc a) n ≡ range rest a n
  range_shift_row row rest a zero = refl
  range_shift_row row rest a (suc n) = ap (op (value_at (cell_at rest a))) (range_shift_row row rest (suc a) n)

  range_shift_instance : (child : Instance) (rest : Cells) (a n : ℕ) → range (an_instance child rest) (suc a) n ≡ range rest a n
  range_shift_instance child rest a zero = refl
  range_shift_instance child rest a (suc n) = ap (op (value_at (cell_at rest a))) (range_shift_instance child rest (suc a) n)

  range_whole : (cells : Cells) → range cells 0 (cell_count cells) ≡ fold cells
  range_whole no_cells = refl
  range_whole (a_primitive row rest) = ap (op (rows row)) (range_shift_row row rest 0 (cell_count rest) ∙ range_whole rest)
  range_whole (an_instance child rest) = ap (op (value child)) (range_shift_instance child rest 0 (cell_count rest) ∙ range_whole rest)

  range_split : (host : Cells) (a n m : ℕ) → range host a (n + m) ≡ op (range host a n) (range host (a + n) m)
  range_split host a zero m = ap (range host a) (zero_plus m) ∙ ap (λ k. range host k m) (sym (plus_zero a)) ∙ sym (unit (range host (a + 0) m))
  range_split host a (suc n) m =
      ap (range host a) (let e : suc n + m ≡ suc (n + m) = omega arith in e) ∙ ap (op (value_at (cell_at host a))) (range_split host (suc a) n m ∙ ap (λ k. op (range host (suc a) n) (range host k m)) (next a n))
      ∙ sym (assoc (value_at (cell_at host a)) (range host (suc a) n) (range host (a + suc n) m))

  wires_nothing : (outputs : List PortDecl) (e : ℕ) (host : Cells) → HasWires outputs e host → range host e (length outputs) ≡ 0
  wires_nothing [] e host h = refl
  wires_nothing (o ∷ os) e host h = ap (λ x. op (value_at x) (range host (suc e) (length os))) h.0 ∙ ap (λ n. op n (range host (suc e) (length os))) (no_wires o.width) ∙ unit (range host (suc e) (length os)) ∙ wires_nothing os (suc e) host h.1

  -- what is kept, and the blocks
  abbrev kept_if_dynamic : Bool → ℕ → ℕ → ℕ
  kept_if_dynamic true n rest = rest
  kept_if_dynamic false n rest = op n rest

  abbrev block_if_static : Bool → ℕ → ℕ → ℕ
  block_if_static true n rest = op n rest
  block_if_static false n rest = rest

  abbrev kept_in : Cells → ℕ
  kept_in no_cells = 0
  kept_in (a_primitive row rest) = op (rows row) (kept_in rest)
  kept_in (an_instance child rest) = kept_if_dynamic (is_static child) (own child (counted child)) (kept_in rest)

  abbrev blocks_in : Cells → ℕ
  blocks_in no_cells = 0
  blocks_in (a_primitive row rest) = blocks_in rest
  blocks_in (an_instance child rest) = block_if_static (is_static child) (counted child) (blocks_in rest)

  swap : (a b c : ℕ) → op b (op a c) ≡ op a (op b c)
  swap a b c = sym (assoc b a c) ∙ ap (λ n. op n c) (comm b a) ∙ assoc a b c

  together : (cells : Cells) → op (kept_in cells) (blocks_in cells) ≡ counted_in cells
  together no_cells = unit 0
  together (a_primitive row rest) = assoc (rows row) (kept_in rest) (blocks_in rest) ∙ ap (op (rows row)) (together rest)
  together (an_instance child rest) = by (is_static child) (together rest)
    where
      by : (b : Bool) → op (kept_in rest) (blocks_in rest) ≡ counted_in rest
          → op (kept_if_dynamic b (own child (counted child)) (kept_in rest)) (block_if_static b (counted child) (blocks_in rest)) ≡ op (if_dynamic b (own child) (counted child)) (counted_in rest)
      by true later = swap (counted child) (kept_in rest) (blocks_in rest) ∙ ap (op (counted child)) later
      by false later = assoc (own child (counted child)) (kept_in rest) (blocks_in rest) ∙ ap (op (own child (counted child))) later

  module _ (host : Cells) where
    -- KEPT cells, by where they stand
    abbrev KeptAt : Cells → ℕ → Type 0
    KeptAt cells a =
        ((c : ℕ) (row : Row) → cell_at cells c ≡ OfRow row → value_at (cell_at host (a + kept_at (flat_kids cells) c)) ≡ rows row)
        × ((c : ℕ) (child : Instance) → cell_at cells c ≡ OfInstance child → is_static child ≡ false → value_at (cell_at host (a + kept_at (flat_kids cells) c)) ≡ own child (counted child))

    kept_range : (cells : Cells) (cs : List PlainCell) (a : ℕ) → cell_count cells ≡ length cs → KeptAt cells a → range host a (length (kept (flat_kids cells) cs)) ≡ kept_in cells
    kept_range no_cells [] a fit h = refl
    kept_range no_cells (c ∷ cs) a fit h = absurd (omega (arith, fit))
    kept_range (a_primitive row rest) [] a fit h = absurd (omega (arith, fit))
    kept_range (a_primitive row rest) (c ∷ cs) a fit h =
        ap (λ n. op n (range host (suc a) (length (kept (flat_kids rest) cs)))) (ap (λ k. value_at (cell_at host k)) (sym (plus_zero a)) ∙ h.0 0 row refl)
        ∙ ap (op (rows row)) (kept_range rest cs (suc a) (omega (arith, fit))
        (λ e r at. ap (λ k. value_at (cell_at host k)) (next a (kept_at (flat_kids rest) e)) ∙ h.0 (suc e) r at, λ e child at dynamic. ap (λ k. value_at (cell_at host k)) (next a (kept_at (flat_kids rest) e)) ∙ h.1 (suc e) child at dynamic))
    kept_range (an_instance child rest) [] a fit h = absurd (omega (arith, fit))
    kept_range (an_instance child rest) (c ∷ cs) a fit h = by (is_static child) refl h (λ b g. kept_range rest cs b (omega (arith, fit)) g)
      where
        by : (b : Bool) → is_static child ≡ b
            → ((e : ℕ) (row : Row) → cell_at (an_instance child rest) e ≡ OfRow row → value_at (cell_at host (a + kept_at (kid_if b (flat_part child) ∷ flat_kids rest) e)) ≡ rows row)
            × ((e : ℕ) (other : Instance) → cell_at (an_instance child rest) e ≡ OfInstance other → is_static other ≡ false → value_at (cell_at host (a + kept_at (kid_if b (flat_part child) ∷ flat_kids rest) e)) ≡ own other (counted other))
            → ((n : ℕ) → KeptAt rest n → range host n (length (kept (flat_kids rest) cs)) ≡ kept_in rest)
            → range host a (length (kept (kid_if b (flat_part child) ∷ flat_kids rest) (c ∷ cs))) ≡ kept_if_dynamic b (own child (counted child)) (kept_in rest)
        by true is g later = later a (λ e r at. g.0 (suc e) r at, λ e other at dynamic. g.1 (suc e) other at dynamic)
        by false is g later =
            ap (λ n. op n (range host (suc a) (length (kept (flat_kids rest) cs)))) (ap (λ k. value_at (cell_at host k)) (sym (plus_zero a)) ∙ g.1 0 child refl is)
            ∙ ap (op (own child (counted child))) (later (suc a)
            (λ e r at. ap (λ k. value_at (cell_at host k)) (next a (kept_at (flat_kids rest) e)) ∙ g.0 (suc e) r at, λ e other at dynamic. ap (λ k. value_at (cell_at host k)) (next a (kept_at (flat_kids rest) e)) ∙ g.1 (suc e) other at dynamic))

    -- BLOCKS, by where they begin
    abbrev BlockAt : Instance → ℕ → Type 0
    BlockAt child a = (range host a (length (flat_part child).cells) ≡ counted child) × (range host (a + length (flat_part child).cells) (length (flat_part child).outputs) ≡ 0)

    abbrev BlocksAt : Cells → ℕ → Type 0
    BlocksAt cells a = (c : ℕ) (child : Instance) → cell_at cells c ≡ OfInstance child → is_static child ≡ true → BlockAt child (a + block_at (flat_kids cells) c)

    block_range : (child : Instance) (a : ℕ) → BlockAt child a → range host a (length (flat_part child).cells + length (flat_part child).outputs) ≡ counted child
    block_range child a h = range_split host a (length (flat_part child).cells) (length (flat_part child).outputs) ∙ ap (λ n. op n (range host (a + length (flat_part child).cells) (length (flat_part child).outputs))) h.0 ∙ ap (op (counted child)) h.1 ∙ comm (counted child) 0 ∙ unit (counted child)

    block_length : (child : PlainComponent) (c : PlainCell) → length (block (Some child) c) ≡ length child.cells + length child.outputs
    block_length child c =
        length-append (map (inner_cell c) child.cells) (map (wire_of c) child.outputs) ∙ ap (λ n. n + length (map (wire_of c) child.outputs)) (length-map child.cells (inner_cell c))
        ∙ ap (λ n. length child.cells + n) (length-map child.outputs (wire_of c))

    blocks_range : (cells : Cells) (cs : List PlainCell) (a : ℕ) → cell_count cells ≡ length cs → BlocksAt cells a → range host a (length (blocks (flat_kids cells) cs)) ≡ blocks_in cells
    blocks_range no_cells cs a fit h = refl
    blocks_range (a_primitive row rest) [] a fit h = absurd (omega (arith, fit))
    blocks_range (a_primitive row rest) (c ∷ cs) a fit h = blocks_range rest cs a (omega (arith, fit)) (λ e child at static. subst (BlockAt child) (ap (λ n. a + n) (zero_plus (block_at (flat_kids rest) e))) (h (suc e) child at static))
    blocks_range (an_instance child rest) [] a fit h = absurd (omega (arith, fit))
    blocks_range (an_instance child rest) (c ∷ cs) a fit h = by (is_static child) refl h (λ b g. blocks_range rest cs b (omega (arith, fit)) g)
      where
        by : (b : Bool) → is_static child ≡ b
            → ((e : ℕ) (other : Instance) → cell_at (an_instance child rest) e ≡ OfInstance other → is_static other ≡ true → BlockAt other (a + block_at (kid_if b (flat_part child) ∷ flat_kids rest) e))
            → ((n : ℕ) → BlocksAt rest n → range host n (length (blocks (flat_kids rest) cs)) ≡ blocks_in rest)
            → range host a (length (blocks (kid_if b (flat_part child) ∷ flat_kids rest) (c ∷ cs))) ≡ block_if_static b (counted child) (blocks_in rest)
        by false is g later = later a (λ e other at static. subst (BlockAt other) (ap (λ n. a + n) (zero_plus (block_at (flat_kids rest) e))) (g (suc e) other at static))
        by true is g later =
            let size = length (flat_part child).cells + length (flat_part child).outputs in
            ap (range host a) (length-append (block (Some (flat_part child)) c) (blocks (flat_kids rest) cs) ∙ ap (λ n. n + length (blocks (flat_kids rest) cs)) (block_length (flat_part child) c))
            ∙ range_split host a size (length (blocks (flat_kids rest) cs))
            ∙ ap (λ n. op n (range host (a + size) (length (blocks (flat_kids rest) cs)))) (block_range child a (subst (BlockAt child) (plus_zero a) (g 0 child refl is)))
            ∙ ap (op (counted child)) (later (a + size) (λ e other at static. subst (BlockAt other) (let same : a + (size + block_at (flat_kids rest) e) ≡ a + size + block_at (flat_kids rest) e = omega arith in same) (g (suc e) other at static)))

  -- AN INSTANCE that stands in a host
  abbrev Counts : Instance → Type 0
  Counts i = (first : ℕ) (host : Cells) → AllFit i → IsEmbedded i first host → range host first (length (flat_part i).cells) ≡ counted i

  module _ (part : PlainComponent) (cells : Cells) (below : (c : ℕ) (child : Instance) → cell_at cells c ≡ OfInstance child → Counts child) (first : ℕ) (host : Cells) (fit : AllFit (Node part cells)) (embedded : IsEmbedded (Node part cells) first host) where
    abbrev kids : Kids
    kids = flat_kids cells

    kept_row : (c : ℕ) (row : Row) → cell_at cells c ≡ OfRow row → value_at (cell_at host (first + kept_at kids c)) ≡ rows row
    kept_row c row at = ap value_at (ap (λ k. cell_at host (first + kept_at kids k)) (sym (zero_plus c)) ∙ embedded_row kids part first host cells 0 c row embedded at)

    kept_child : (c : ℕ) (child : Instance) → cell_at cells c ≡ OfInstance child → is_static child ≡ false → value_at (cell_at host (first + kept_at kids c)) ≡ own child (counted child)
    kept_child c child at dynamic =
        let r = subst (TwinAt kids part first host child) (zero_plus c) (embedded_dynamic kids part first host cells 0 c child embedded at dynamic) in
        ap value_at r.1 ∙ twin_value r.0
        (sym (range_whole (cells_of r.0)) ∙ ap (range (cells_of r.0) 0) r.4 ∙ below c child at 0 (cells_of r.0) (fit_child cells c child fit.1 at) r.3) ∙ alike child r.0 (counted child) (r.2, r.3, r.4)
      where
        twin_value : (twin : Instance) → fold (cells_of twin) ≡ counted child → value twin ≡ node twin (counted child)
        twin_value (Node p cs) e = ap (node (Node p cs)) e

    block_there : (c : ℕ) (child : Instance) → cell_at cells c ≡ OfInstance child → is_static child ≡ true → BlockAt host child (first + length (kept kids part.cells) + block_at kids c)
    block_there c child at static =
        let r = subst (λ k. IsEmbedded child (first + start_of kids part k) host × HasWires (part_of child).outputs (first + wire_at kids part (flat_part child) k 0) host) (zero_plus c) (embedded_static kids part first host cells 0 c child embedded at static) in (
          ap (λ k. range host k (length (flat_part child).cells)) (let e : first + length (kept kids part.cells) + block_at kids c ≡ first + start_of kids part c = omega arith in e)
              ∙ below c child at (first + start_of kids part c) host (fit_child cells c child fit.1 at) r.0,
          ap (λ k. range host k (length (flat_part child).outputs)) (let e : first + length (kept kids part.cells) + block_at kids c + length (flat_part child).cells ≡ first + wire_at kids part (flat_part child) c 0 = omega arith in e)
              ∙ ap (λ l. range host (first + wire_at kids part (flat_part child) c 0) (length l)) (outputs_are child) ∙ wires_nothing (part_of child).outputs (first + wire_at kids part (flat_part child) c 0) host r.1,
        )
      where
        outputs_are : (i : Instance) → (flat_part i).outputs ≡ (part_of i).outputs
        outputs_are (Node p cs) = refl

    node_counts : range host first (length (flat_part (Node part cells)).cells) ≡ counted_in cells
    node_counts =
        ap (range host first) (length-append (kept kids part.cells) (blocks kids part.cells))
        ∙ range_split host first (length (kept kids part.cells)) (length (blocks kids part.cells))
        ∙ ap (λ n. op n (range host (first + length (kept kids part.cells)) (length (blocks kids part.cells)))) (kept_range host cells part.cells first fit.0 (kept_row, kept_child))
        ∙ ap (op (kept_in cells)) (blocks_range host cells part.cells (first + length (kept kids part.cells)) fit.0 block_there)
        ∙ together cells

  mutual
    counts : (i : Instance) → Counts i
    counts (Node part cells) first host fit embedded = node_counts part cells (λ c child at. counts_below cells c child at) first host fit embedded

    counts_below : (cells : Cells) (c : ℕ) (child : Instance) → cell_at cells c ≡ OfInstance child → Counts child
    counts_below no_cells c child at = absurd (cc)
    counts_below (a_primitive row rest) zero child at = absurd (cc)
    counts_below (a_primitive row rest) (suc c) child at = counts_below rest c child at
    counts_below (an_instance other rest) zero child at = let same : other ≡ child = cc in subst Counts same (counts other)
    counts_below (an_instance other rest) (suc c) child at = counts_below rest c child at

  -- A FLAT INSTANCE has what is counted in the instance
  pub flat_value : (i flat : Instance) → AllFit i → IsFlattened i flat → value flat ≡ own i (counted i)
  flat_value i (Node part cells) fit flattened =
      ap (node (Node part cells)) (sym (range_whole cells) ∙ ap (range cells 0) flattened.2 ∙ counts i 0 cells fit flattened.1) ∙ alike i (Node part cells) (counted i) flattened

  -- what is counted in other words
  module _ (below : Instance → ℕ) (inside within : Cells → ℕ) (node_is : (part : PlainComponent) (cells : Cells) → below (Node part cells) ≡ node (Node part cells) (inside cells))
      (none_is : inside no_cells ≡ 0) (row_is : (row : Row) (rest : Cells) → inside (a_primitive row rest) ≡ op (rows row) (inside rest))
      (child_is : (child : Instance) (rest : Cells) → inside (an_instance child rest) ≡ op (below child) (inside rest))
      (none_within : within no_cells ≡ 0) (row_within : (row : Row) (rest : Cells) → within (a_primitive row rest) ≡ op (rows row) (within rest))
      (static_within : (part : PlainComponent) (cells rest : Cells) (n : ℕ) → part.latency ≡ Some n → within (an_instance (Node part cells) rest) ≡ op (within cells) (within rest))
      (dynamic_within : (part : PlainComponent) (cells rest : Cells) → part.latency ≡ None → within (an_instance (Node part cells) rest) ≡ op (own (Node part cells) (within cells)) (within rest)) where
    mutual
      value_is : (i : Instance) → value i ≡ below i
      value_is (Node part cells) = ap (node (Node part cells)) (fold_is cells) ∙ sym (node_is part cells)

      fold_is : (cells : Cells) → fold cells ≡ inside cells
      fold_is no_cells = sym none_is
      fold_is (a_primitive row rest) = ap (op (rows row)) (fold_is rest) ∙ sym (row_is row rest)
      fold_is (an_instance child rest) = ap (λ n. op n (fold rest)) (value_is child) ∙ ap (op (below child)) (fold_is rest) ∙ sym (child_is child rest)

    counted_is : (cells : Cells) → counted_in cells ≡ within cells
    counted_is no_cells = sym none_within
    counted_is (a_primitive row rest) = ap (op (rows row)) (counted_is rest) ∙ sym (row_within row rest)
    counted_is (an_instance (Node part cells) rest) = by part.latency refl (counted_is cells) (counted_is rest)
      where
        by : (o : Option ℕ) → part.latency ≡ o → counted_in cells ≡ within cells → counted_in rest ≡ within rest
            → op (if_dynamic (is_some o) (own (Node part cells)) (counted_in cells)) (counted_in rest) ≡ within (an_instance (Node part cells) rest)
        by None e a b = ap (λ n. op (own (Node part cells) n) (counted_in rest)) a ∙ ap (op (own (Node part cells) (within cells))) b ∙ sym (dynamic_within part cells rest e)
        by (Some n) e a b = ap (λ m. op m (counted_in rest)) a ∙ ap (op (within cells)) b ∙ sym (static_within part cells rest n e)

    own_counted : (i : Instance) → counted i ≡ within (cells_of i)
    own_counted (Node part cells) = counted_is cells

    pub flat_below : (i flat : Instance) → AllFit i → IsFlattened i flat → below flat ≡ own i (within (cells_of i))
    flat_below i flat fit flattened = sym (value_is flat) ∙ flat_value i flat fit flattened ∙ ap (own i) (own_counted i)
