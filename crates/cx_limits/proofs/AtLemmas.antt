-- What a scan tries at a component, by what stands at its cells under caps, is what the rules count.
use Rattle.std.proofs.Common.{◌≡◌, ℕ, zero, suc, ◌+◌, ◌-◌, ◌^◌, ◌<◌, ◌≤◌, nat_lt, ◌&&◌, List, [], ◌∷◌, option_map, length, refl, sym, ap, ap₂, ◌∙◌, arith}
use Rattle.std.specs.Prelude.{nat_le}
use Rattle.std.proofs.lemmas.Bool.{ltb-true, lt-ltb, leb-true, le-leb}
use Rattle.std.proofs.lemmas.List.{length-map}
use Rattle.cx_text.specs.declared.limits.TheConstants.{OCCURRENCES, REPETITIONS}
use Rattle.cx_meaning.specs.Designs.{PlainKind, OfPrimitive, OfComponent, PlainCell, PlainComponent, PlainDesign, component_at}
use Rattle.cx_meaning.specs.Instances.{Instance, Node, Cells, no_cells, an_instance, add_cell, cells_for, tree_within}
use Rattle.cx_rules.specs.Items.{Visited}
use Rattle.cx_rules.specs.Invokes.{form_lasts}
use Rattle.cx_rules.specs.Counts.{form_counted, is_any_island, inners_of, groups_for, counted_cells, counted_groups}
use Rattle.cx_rules.specs.LimitRule.{count_in, is_too_many, statement_limit}
use Rattle.cx_rules.specs.Ports.{component_of}
use Rattle.cx_rules.proofs.LimitRuleLemmas.{first_of}
use Rattle.cx_design_sizes.specs.Capped.{capped}
use Rattle.cx_limits.specs.Inners.{capped_inner, capped_inners, cell_counts, below_of, below_at, limit_at}
use Rattle.cx_limits.proofs.InnerCaps.{cells_counted, cells_capped, groups_capped, form_capped}
use Rattle.cx_text.proofs.BoolLaws.{bools_same}

-- a limit below the caps is exceeded under caps where it is exceeded
over_same : (limit m n : ℕ) → limit < 2 ^ 64 - 1 → capped m ≡ capped n → nat_lt limit (capped m) ≡ nat_lt limit n
over_same limit m n small e =
    bools_same (nat_lt limit (capped m)) (nat_lt limit n)
    (λ h. let less : limit < capped m = ltb-true limit (capped m) h in lt-ltb limit n (omega (arith, e)))
    (λ h. let less : limit < n = ltb-true limit n h in lt-ltb limit (capped m) (omega (arith, e)))

least_same : (limit n : ℕ) → limit ≤ 2 ^ 64 - 1 → nat_le limit (capped n) ≡ nat_le limit n
least_same limit n small =
    bools_same (nat_le limit (capped n)) (nat_le limit n)
    (λ h. let less : limit ≤ capped n = leb-true limit (capped n) h in le-leb limit n (omega arith))
    (λ h. let less : limit ≤ n = leb-true limit n h in le-leb limit (capped n) (omega arith))

-- AT STATEMENTS
limit_node : (part : PlainComponent) (cells : Cells) (v : Visited) → limit_at part (capped_inners (inners_of cells)) v ≡ statement_limit (Node part cells) v
limit_node part cells v =
    ap₂ (λ x y. first_of (is_too_many (count_in v.form)) (is_any_island part v && x) (is_any_island part v && y))
    (over_same OCCURRENCES (form_counted part (capped_inners (inners_of cells)) v.form) (form_counted part (inners_of cells) v.form) (omega arith) (form_capped part (inners_of cells) v.form))
    (least_same REPETITIONS (form_lasts part v.form) (omega arith))

limit_within : (d : PlainDesign) (n k : ℕ) (v : Visited) → limit_at (component_at d k) (capped_inners (below_of (tree_within d n k))) v ≡ statement_limit (tree_within d n k) v
limit_within d zero k v = limit_node (component_at d k) no_cells v
limit_within d (suc n) k v = limit_node (component_at d k) (cells_for (tree_within d n) (component_at d k).cells) v

pub limit_there : (d : PlainDesign) (k : ℕ) (v : Visited) → limit_at (component_at d k) (below_at d k) v ≡ statement_limit (component_of d k) v
limit_there d k v = limit_within d (length d.components) k v

-- CELLS
instance_count : (i : Instance) (rest : Cells) → length (inners_of (an_instance i rest)) ≡ suc (length (inners_of rest))
instance_count (Node part cells) rest = refl

kind_count : (d : PlainDesign) (n : ℕ) (kind : PlainKind) (rest : Cells) → length (inners_of (add_cell (tree_within d n) kind rest)) ≡ suc (length (inners_of rest))
kind_count d n (OfPrimitive p) rest = refl
kind_count d n (OfComponent k) rest = instance_count (tree_within d n k) rest

pub cells_count : (d : PlainDesign) (n : ℕ) (cells : List PlainCell) → length (inners_of (cells_for (tree_within d n) cells)) ≡ length cells
cells_count d n [] = refl
cells_count d n (c ∷ cs) = kind_count d n c.kind (cells_for (tree_within d n) cs) ∙ ap suc (cells_count d n cs)

cells_within : (d : PlainDesign) (n k : ℕ) → k < n → capped (cell_counts (capped_inners (below_of (tree_within d n k)))) ≡ capped (counted_cells (tree_within d n k))
cells_within d zero k lt = absurd (omega arith)
cells_within d (suc n) k lt =
    let cells = (component_at d k).cells in
    let below = inners_of (cells_for (tree_within d n) cells) in
    let sized : length cells ≡ length (capped_inners below) = sym (length-map below (option_map capped_inner) ∙ cells_count d n cells) in
    ap capped (sym (cells_counted cells (capped_inners below) sized)) ∙ cells_capped cells below

pub cells_there : (d : PlainDesign) (k : ℕ) → k < length d.components → capped (cell_counts (below_at d k)) ≡ capped (counted_cells (component_of d k))
cells_there d k lt = cells_within d (length d.components) k lt

-- GROUPS
groups_within : (d : PlainDesign) (n k : ℕ) → capped (length (component_at d k).groups + groups_for (capped_inners (below_of (tree_within d n k))) (component_at d k).invokes) ≡ capped (counted_groups (tree_within d n k))
groups_within d zero k = let e = groups_capped [] (component_at d k).invokes in omega (arith, e)
groups_within d (suc n) k = let e = groups_capped (inners_of (cells_for (tree_within d n) (component_at d k).cells)) (component_at d k).invokes in omega (arith, e)

pub groups_there : (d : PlainDesign) (k : ℕ) → capped (length (component_at d k).groups + groups_for (below_at d k) (component_at d k).invokes) ≡ capped (counted_groups (component_of d k))
groups_there d k = groups_within d (length d.components) k
