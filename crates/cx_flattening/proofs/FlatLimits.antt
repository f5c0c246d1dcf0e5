-- LIMITS: over the tree of the flat design there are as many instances, levels and words as are counted in that of the design; so the flat
-- design keeps the limits on these and on cells.
use Rattle.std.proofs.Common.{◌≡◌, ℕ, zero, suc, ◌+◌, ◌<◌, ◌≤◌, inl, inr, List, [], ◌∷◌, length, refl, sym, ap, ◌∙◌, subst, arith}
use Rattle.std.specs.Prelude.{max}
use Rattle.std.proofs.lemmas.List.{length-map}
use Rattle.cx_text.specs.declared.places.Place.{Place}
use Rattle.cx_text.specs.declared.rules.Rule.TheVariants as rules
use Rattle.cx_text.specs.declared.limits.TheConstants.{CELLS, INSTANCES, INSTANCE_DEPTH, MEMORY_WORDS}
use Rattle.cx_prim.specs.Rows.{Row}
use Rattle.cx_meaning.specs.Designs.{PlainKind, OfPrimitive, OfComponent, PlainCell, PlainComponent, PlainDesign, component_at}
use Rattle.cx_meaning.specs.Instances.{Instance, Node, Cells, cells_of, add_cell, cells_for, tree_within, tree_of}
use Rattle.cx_text.specs.Members.{In}
use Rattle.cx_rules.specs.Accepted.{IsAccepted}
use Rattle.cx_rules.specs.Wellformed.{IsDesign}
use Rattle.cx_rules.specs.Ports.{component_of}
use Rattle.cx_rules.specs.Counts.{unless_static, instances_within, depth_within, counted_instances, counted_depth}
use Rattle.cx_rules.specs.Sizes.{instances_below, instances_in, depth_below, depth_in, shape_words, words_below, words_in}
use Rattle.cx_rules.specs.Spots.{Itself, Whole, Spot}
use Rattle.cx_rules.specs.LimitRule.{Limited, OnCells, OnInstances, OnDepth, OnWords, order_of, word_of, BreaksTree, BreaksWords}
use Rattle.cx_rewrites.specs.FlatRules.{BreaksCells, BreaksInstances, BreaksDepth}
use Rattle.cx_flattening.specs.Embedded.{IsFlattened}
use Rattle.cx_flattening.specs.Flattened.{flat_part}
use Rattle.cx_flattening.specs.FlatDesign.{renumbered_cell, flat_design}
use Rattle.cx_flattening.proofs.CellLayout.{count_for}
use Rattle.cx_flattening.proofs.TreeLevels.{IsWay, no_way, further, way_is_short}
use Rattle.cx_flattening.proofs.FlatTrees.{flat_tree}
use Rattle.cx_flattening.proofs.FlatNumbers.{made}
use Rattle.cx_flattening.proofs.FlatSizes.{flat_count}
use Rattle.cx_flattening.proofs.FlatFolds.{AllFit, FitBelow, flat_below}

-- SUMS AND GREATEST ONES
pub zero_plus : (a : ℕ) → 0 + a ≡ a
zero_plus a = omega arith

pub plus_comm : (a b : ℕ) → a + b ≡ b + a
plus_comm a b = omega arith

pub plus_assoc : (a b c : ℕ) → a + b + c ≡ a + (b + c)
plus_assoc a b c = omega arith

max_zero : (a : ℕ) → max 0 a ≡ a
max_zero a = omega arith

max_comm : (a b : ℕ) → max a b ≡ max b a
max_comm a b = omega arith

max_assoc : (a b c : ℕ) → max (max a b) c ≡ max a (max b c)
max_assoc a b c = omega arith

abbrev one_and : Instance → ℕ → ℕ
one_and i n = 1 + n

abbrev as_much : Instance → ℕ → ℕ
as_much i n = n

abbrev row_words : Row → ℕ
row_words row = shape_words row.shape

abbrev pub nothing_of : Row → ℕ
nothing_of row = 0

cells_below : (i : Instance) → 1 + instances_within (cells_of i) ≡ counted_instances i
cells_below (Node part cells) = refl

levels_below : (i : Instance) → 1 + depth_within (cells_of i) ≡ counted_depth i
levels_below (Node part cells) = refl

words_there : (i : Instance) → words_in (cells_of i) ≡ words_below i
words_there (Node part cells) = refl

-- EACH COUNT
pub flat_instances : (i flat : Instance) → AllFit i → IsFlattened i flat → instances_below flat ≡ counted_instances i
flat_instances i flat fit flattened =
    flat_below (λ a b. a + b) zero_plus plus_comm plus_assoc nothing_of (λ w. refl) one_and one_and (λ j other n its. refl) instances_below instances_in instances_within (λ part cells. refl) refl (λ row rest. sym (zero_plus (instances_in rest)))
    (λ child rest. refl) refl (λ row rest. sym (zero_plus (instances_within rest)))
    (λ part cells rest n e. ap (λ o. unless_static o 1 + instances_within cells + instances_within rest) e ∙ ap (λ m. m + instances_within rest) (zero_plus (instances_within cells)))
    (λ part cells rest e. ap (λ o. unless_static o 1 + instances_within cells + instances_within rest) e) i flat fit flattened
    ∙ cells_below i

pub flat_depth : (i flat : Instance) → AllFit i → IsFlattened i flat → depth_below flat ≡ counted_depth i
flat_depth i flat fit flattened =
    flat_below max max_zero max_comm max_assoc nothing_of (λ w. refl) one_and one_and (λ j other n its. refl) depth_below depth_in depth_within (λ part cells. refl) refl (λ row rest. sym (max_zero (depth_in rest)))
    (λ child rest. refl) refl (λ row rest. sym (max_zero (depth_within rest)))
    (λ part cells rest n e. ap (λ o. max (unless_static o 1 + depth_within cells) (depth_within rest)) e ∙ ap (λ m. max m (depth_within rest)) (zero_plus (depth_within cells)))
    (λ part cells rest e. ap (λ o. max (unless_static o 1 + depth_within cells) (depth_within rest)) e) i flat fit flattened
    ∙ levels_below i

pub flat_words : (i flat : Instance) → AllFit i → IsFlattened i flat → words_below flat ≡ words_below i
flat_words i flat fit flattened =
    flat_below (λ a b. a + b) zero_plus plus_comm plus_assoc row_words (λ w. refl) as_much as_much (λ j other n its. refl) words_below words_in words_in (λ part cells. refl) refl (λ row rest. refl) (λ child rest. refl) refl (λ row rest. refl)
    (λ part cells rest n e. refl) (λ part cells rest e. refl) i flat fit flattened
    ∙ words_there i

-- TREES have as many cells as their components say
fit_kind : (trees : ℕ → Instance) (kind : PlainKind) (rest : Cells) → ((j : ℕ) → kind ≡ OfComponent j → AllFit (trees j)) → FitBelow rest → FitBelow (add_cell trees kind rest)
fit_kind trees (OfPrimitive p) rest each h = h
fit_kind trees (OfComponent k) rest each h = (each k refl, h)

fit_cells : (trees : ℕ → Instance) (cs : List PlainCell) → ((cell : PlainCell) (j : ℕ) → In cs cell → cell.kind ≡ OfComponent j → AllFit (trees j)) → FitBelow (cells_for trees cs)
fit_cells trees [] each = tt
fit_cells trees (c ∷ cs) each = fit_kind trees c.kind (cells_for trees cs) (λ j e. each c j (inl refl) e) (fit_cells trees cs (λ cell j i e. each cell j (inr i) e))

module _ (d : PlainDesign) (design : IsDesign d) where
  fits : (m : ℕ) (path : List ℕ) (k : ℕ) → IsWay d design path k → length d.components ≤ m + length path → AllFit (tree_within d m k)
  fits zero path k way many = absurd (let short : length path < length d.components = way_is_short d design path k way in omega (arith, short, many))
  fits (suc m) path k way many = (
    count_for (tree_within d m) (component_at d k).cells,
    fit_cells (tree_within d m) (component_at d k).cells (λ cell j i e. fits m (k ∷ path) j (further d design path k j cell way i e) (omega (arith, many))),
  )

  pub tree_fits : AllFit (tree_of d)
  tree_fits = fits (length d.components) [] d.main (no_way d design d.main design.main_there) (omega arith)

  pub design_instances : instances_below (tree_of (flat_design d)) ≡ counted_instances (tree_of d)
  design_instances = flat_instances (tree_of d) (tree_of (flat_design d)) tree_fits (flat_tree d design)

  pub design_depth : depth_below (tree_of (flat_design d)) ≡ counted_depth (tree_of d)
  design_depth = flat_depth (tree_of d) (tree_of (flat_design d)) tree_fits (flat_tree d design)

  pub design_words : words_below (tree_of (flat_design d)) ≡ words_below (tree_of d)
  design_words = flat_words (tree_of d) (tree_of (flat_design d)) tree_fits (flat_tree d design)

  -- THE LIMITS of an accepted design
  module _ (accepted : IsAccepted d) where
    pub keeps_tree : (limited : Limited) (count limit many : ℕ) (spot : Spot) (place : Place) (name : List ℕ) → many ≡ count → BreaksTree (flat_design d) limited many limit spot place name
        → BreaksTree d limited count limit (record { component = d.main; part = Whole (order_of limited) }) (component_at d d.main).place (word_of limited)
    keeps_tree limited count limit many spot place name same b = record { at_main = refl; is = refl; exceeds = subst (λ n. limit < n) same b.exceeds; tells = (refl, refl) }

    pub keeps_instances : (spot : Spot) (place : Place) (name : List ℕ) → BreaksInstances (flat_design d) spot place name → ⊥
    keeps_instances spot place name b =
        accepted.limits rules.Limit (record { component = d.main; part = Whole (order_of OnInstances) }) (component_at d d.main).place (word_of OnInstances) refl
        (inr (inr (inr (inl (keeps_tree OnInstances (counted_instances (tree_of d)) INSTANCES (instances_below (tree_of (flat_design d))) spot place name design_instances b)))))

    pub keeps_depth : (spot : Spot) (place : Place) (name : List ℕ) → BreaksDepth (flat_design d) spot place name → ⊥
    keeps_depth spot place name b =
        accepted.limits rules.Limit (record { component = d.main; part = Whole (order_of OnDepth) }) (component_at d d.main).place (word_of OnDepth) refl
        (inr (inr (inr (inr (inl (keeps_tree OnDepth (counted_depth (tree_of d)) INSTANCE_DEPTH (depth_below (tree_of (flat_design d))) spot place name design_depth b))))))

    pub keeps_words : (spot : Spot) (place : Place) (name : List ℕ) → BreaksWords (flat_design d) spot place name → ⊥
    keeps_words spot place name b =
        accepted.limits rules.Limit (record { component = d.main; part = Whole (order_of OnWords) }) (component_at d d.main).place (word_of OnWords) refl
        (inr (inr (inr (inr (inr (inl (keeps_tree OnWords (words_below (tree_of d)) MEMORY_WORDS (words_below (tree_of (flat_design d))) spot place name design_words b)))))))

    pub keeps_cells : (spot : Spot) (place : Place) (name : List ℕ) → BreaksCells (flat_design d) spot place name → ⊥
    keeps_cells spot place name b =
        let m = made d design spot.component b.within in
        accepted.limits rules.Limit (record { component = m.old; part = Itself (order_of OnCells) }) (component_at d m.old).place (word_of OnCells) refl
        (inl (record {
          within = m.less;
          is = refl;
          exceeds = subst (λ n. CELLS < n)
              (ap (λ (p : PlainComponent). length p.cells) m.part ∙ length-map (flat_part (component_of d m.old)).cells (renumbered_cell d) ∙ flat_count (component_of d m.old)) b.exceeds;
          tells = (refl, refl);
        }))
