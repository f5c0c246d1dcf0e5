-- WEIGHT: a flat component is as large as is counted with its static components written out, and over the tree of the flat design sizes are
-- together those counted over that of the design.
use Rattle.std.proofs.Common.{◌≡◌, ℕ, ◌+◌, ◌≤◌, inr, ⊎_elim, List, length, get_or, refl, sym, ap, ap₂, ◌∙◌, arith}
use Rattle.std.proofs.lemmas.Bool.{cases_lt}
use Rattle.cx_text.specs.declared.places.Place.{Place}
use Rattle.cx_text.specs.declared.rules.Rule.TheVariants as rules
use Rattle.cx_text.specs.declared.limits.TheConstants.{WEIGHT}
use Rattle.cx_meaning.specs.Designs.{PlainGroup, no_group, PlainDesign, component_at}
use Rattle.cx_meaning.specs.Instances.{Instance, Node, Cells, no_cells, a_primitive, an_instance, part_of, cells_of, tree_of}
use Rattle.cx_meaning.specs.Islands.{kind_length}
use Rattle.cx_rules.specs.Accepted.{IsAccepted}
use Rattle.cx_rules.specs.Counts.{inners_of, counted_size, unless_static, weight_within, counted_weight, cells_in, copies_for, always_in, statements_counted, occurrences_counted}
use Rattle.cx_rules.specs.Items.{statements_in}
use Rattle.cx_rules.specs.Sizes.{assigns_size, groups_size, size_of, weight_below, weight_in}
use Rattle.cx_rules.specs.StaticControl.{occurrences_of}
use Rattle.cx_rules.specs.LimitRule.{OnWeight, order_of, word_of}
use Rattle.cx_rules.specs.Spots.{Whole, Spot}
use Rattle.cx_rules.specs.Wellformed.{IsDesign}
use Rattle.cx_rewrites.specs.FlatRules.{BreaksWeight}
use Rattle.cx_flattening.specs.Embedded.{IsFlattened}
use Rattle.cx_flattening.specs.Ends.{NoneNamesDone}
use Rattle.cx_flattening.specs.Flattened.{flat_part}
use Rattle.cx_flattening.specs.FlatDesign.{flat_design}
use Rattle.cx_flattening.specs.Fair.{AllFair, AllFairBelow}
use Rattle.cx_flattening.specs.Controlled.{AllControlled, AllControlledBelow}
use Rattle.cx_flattening.proofs.AcceptedTrees.{IsGood, good}
use Rattle.cx_flattening.proofs.CopiedSizes.{size_alike}
use Rattle.cx_flattening.proofs.FlatCopies.{flat_always, flat_groups_size}
use Rattle.cx_flattening.proofs.FlatFolds.{AllFit, flat_below}
use Rattle.cx_flattening.proofs.FlatLengths.{kids_last}
use Rattle.cx_flattening.proofs.FlatLimits.{tree_fits, keeps_tree, zero_plus, plus_comm, plus_assoc, nothing_of}
use Rattle.cx_flattening.proofs.FlatOccurrences.{counted_below, node_visits, node_islands}
use Rattle.cx_flattening.proofs.FlatSizes.{flat_count}
use Rattle.cx_flattening.proofs.FlatStands.{kids_may}
use Rattle.cx_flattening.proofs.FlatTrees.{flat_tree}
use Rattle.cx_flattening.proofs.Ruled.{AllRuled, AllRuledBelow}

-- THE SIZE of a flat component
pub flat_size : (i : Instance) → AllRuled i → AllFair i → AllControlled i → size_of (flat_part i) ≡ counted_size i
flat_size (Node part cells) ruled fair controlled =
    let counted = counted_below cells ruled.1 fair.1 controlled.1 in
    let lasting = kids_last cells fair.1 controlled.1 in
    let may = kids_may cells ruled.1 fair.1 controlled.1 in
    let many : length (flat_part (Node part cells)).cells ≡ cells_in part.cells (inners_of cells) = flat_count (Node part cells) in
    let groups : groups_size (flat_part (Node part cells)).groups ≡ groups_size part.groups + copies_for (inners_of cells) part.invokes = flat_groups_size part cells ruled controlled in
    let always : assigns_size (flat_part (Node part cells)).always ≡ assigns_size part.always + always_in (inners_of cells) = flat_always part cells in
    let statements : length (statements_in (flat_part (Node part cells))) ≡ statements_counted part (inners_of cells) (statements_in part) = node_visits part cells fair.0 controlled.0 lasting may counted in
    let islands : occurrences_of (flat_part (Node part cells)) (statements_in (flat_part (Node part cells))) ≡ occurrences_counted part (inners_of cells) (statements_in part) = node_islands part cells fair.0 controlled.0 lasting may counted in
    sum (length part.inputs) (length part.outputs) many groups always statements islands
  where
    sum : (a b : ℕ) {c d g h u v s t o p : ℕ} → c ≡ d → g ≡ h → u ≡ v → s ≡ t → o ≡ p → a + b + c + g + u + s + o ≡ a + b + d + h + v + t + p
    sum a b e1 e2 e3 e4 e5 = omega (arith, e1, e2, e3, e4, e5)

-- OVER TREES
abbrev flat_weight_in : Cells → ℕ
flat_weight_in no_cells = 0
flat_weight_in (a_primitive row rest) = flat_weight_in rest
flat_weight_in (an_instance (Node part cells) rest) = unless_static part.latency (size_of (flat_part (Node part cells)) + 1) + flat_weight_in cells + flat_weight_in rest

weights_in : (cells : Cells) → AllRuledBelow cells → AllFairBelow cells → AllControlledBelow cells → flat_weight_in cells ≡ weight_within cells
weights_in no_cells ruled fair controlled = refl
weights_in (a_primitive row rest) ruled fair controlled = weights_in rest ruled fair controlled
weights_in (an_instance (Node part cells) rest) ruled fair controlled =
    ap₂ (λ n m. n + m)
    (ap₂ (λ n m. unless_static part.latency (n + 1) + m) (flat_size (Node part cells) ruled.0 fair.0 controlled.0) (weights_in cells ruled.0.1 fair.0.1 controlled.0.1))
    (weights_in rest ruled.1 fair.1 controlled.1)

abbrev own_weight : Instance → ℕ → ℕ
own_weight i n = size_of (part_of i) + 1 + n

abbrev flat_weight : Instance → ℕ → ℕ
flat_weight i n = size_of (flat_part i) + 1 + n

weights_alike : (i flat : Instance) (n : ℕ) → IsFlattened i flat → own_weight flat n ≡ flat_weight i n
weights_alike i flat n flattened =
    let like = flattened.0 in
    ap (λ m. m + 1 + n)
    (size_alike (part_of flat) (flat_part i) (λ g. ap (λ (l : List PlainGroup). kind_length (get_or l g no_group).kind) like.groups) (ap length like.inputs) (ap length like.outputs) like.count
    (ap groups_size like.groups) (ap assigns_size like.always) like.control)

weight_there : (i : Instance) → AllRuled i → AllFair i → AllControlled i → flat_weight i (flat_weight_in (cells_of i)) ≡ counted_weight i
weight_there (Node part cells) ruled fair controlled =
    ap₂ (λ n m. n + 1 + m) (flat_size (Node part cells) ruled fair controlled) (weights_in cells ruled.1 fair.1 controlled.1)

pub flat_weights : (i flat : Instance) → AllFit i → AllRuled i → AllFair i → AllControlled i → IsFlattened i flat → weight_below flat ≡ counted_weight i
flat_weights i flat fit ruled fair controlled flattened =
    flat_below (λ a b. a + b) zero_plus plus_comm plus_assoc nothing_of (λ w. refl) own_weight flat_weight weights_alike weight_below weight_in flat_weight_in (λ part cells. refl) refl
    (λ row rest. sym (zero_plus (weight_in rest))) (λ child rest. refl) refl (λ row rest. sym (zero_plus (flat_weight_in rest)))
    (λ part cells rest n e. ap (λ o. unless_static o (size_of (flat_part (Node part cells)) + 1) + flat_weight_in cells + flat_weight_in rest) e ∙ ap (λ m. m + flat_weight_in rest) (zero_plus (flat_weight_in cells)))
    (λ part cells rest e. ap (λ o. unless_static o (size_of (flat_part (Node part cells)) + 1) + flat_weight_in cells + flat_weight_in rest) e) i flat fit flattened
    ∙ weight_there i ruled fair controlled

-- OF AN ACCEPTED DESIGN
module _ (d : PlainDesign) (design : IsDesign d) (accepted : IsAccepted d) (undone : NoneNamesDone d) where
  pub design_weight : weight_below (tree_of (flat_design d)) ≡ counted_weight (tree_of d)
  design_weight =
      let g : IsGood (tree_of d) = good d design accepted undone in
      flat_weights (tree_of d) (tree_of (flat_design d)) (tree_fits d design) g.rules g.fair g.controlled (flat_tree d design)

  pub keeps_weight : (spot : Spot) (place : Place) (name : List ℕ) → BreaksWeight (flat_design d) spot place name → ⊥
  keeps_weight spot place name b =
      accepted.limits rules.Limit (record { component = d.main; part = Whole (order_of OnWeight) }) (component_at d d.main).place (word_of OnWeight) refl
      (inr (inr (inr (inr (inr (inr (keeps_tree d design accepted OnWeight (counted_weight (tree_of d)) WEIGHT (weight_below (tree_of (flat_design d))) spot place name design_weight b)))))))

  -- so the flat tree weighs no more than the limit
  pub design_light : weight_below (tree_of (flat_design d)) ≤ WEIGHT
  design_light =
      ⊎_elim
      (λ over. absurd (keeps_weight (record { component = (flat_design d).main; part = Whole (order_of OnWeight) }) (component_at (flat_design d) (flat_design d).main).place (word_of OnWeight)
      (record { at_main = refl; is = refl; exceeds = over; tells = (refl, refl) })))
      (λ light. light) (cases_lt WEIGHT (weight_below (tree_of (flat_design d))))
