-- THE PROMOTED TREE IS ACCEPTED, where the tree is, and its run is quicker.
use Rattle.std.proofs.Common.{◌≡◌, inl, inr, List, sym, subst}
use Rattle.cx_ast.specs.PlainTree.{PlainTree}
use Rattle.cx_meaning.specs.Instances.{State, tree_of, words_of}
use Rattle.cx_rules.specs.Flat.{IsFlat}
use Rattle.cx_rules.specs.Wellformed.{IsDesign}
use Rattle.cx_numbering.specs.DesignOf.{design_of}
use Rattle.cx_check.specs.Acceptance.{IsAcceptedTree}
use Rattle.cx_rewrites.specs.Places.{SameDesign}
use Rattle.cx_promotion.specs.declared.rows.PromotedRow.{PromotedRow}
use Rattle.cx_flattening.specs.Ends.{NoneNamesDone}
use Rattle.cx_promotion.specs.Made.{WholeQuickens}
use Rattle.cx_promotion.specs.Rewriting.{made_tree, IsPromotedTree}
use Rattle.cx_promotion.proofs.Trees.{made_is_flat}
use Rattle.cx_promotion.proofs.RulesMade.{design_is_accepted}
use Rattle.cx_promotion.proofs.WholeDesigns.{design_quickens, again_quickens, words_stay}
use Rattle.cx_promote.proofs.DesignPromoted.{design_made, promoted_design}
use Rattle.cx_promote.proofs.NamesPromoted.{names_made}

-- ACCEPTED; and without static components where the tree has none
pub promoted_tree_flat : (tree new : PlainTree) (rows : List PromotedRow) → IsFlat (design_of tree) → IsPromotedTree tree new rows → IsFlat (design_of new)
promoted_tree_flat tree new rows flat is = made_is_flat (design_of tree) (design_of new) (promoted_design tree new rows is) flat

pub promoted_tree_accepted : (tree new : PlainTree) (rows : List PromotedRow) → IsDesign (design_of tree) → IsAcceptedTree tree → IsPromotedTree tree new rows → IsAcceptedTree new
promoted_tree_accepted tree new rows design h (inl (keeps, made, told)) =
    subst IsAcceptedTree (sym made)
    (record {
      named = names_made tree h.named;
      accepted = design_is_accepted (design_of tree) (design_of (made_tree tree)) design h.accepted (design_made tree) keeps;
    })
promoted_tree_accepted tree new rows design h (inr (breaks, stays, told)) = subst IsAcceptedTree (sym stays) h

-- QUICKER
module _ (tree new : PlainTree) (rows : List PromotedRow) (design : IsDesign (design_of tree)) (h : IsAcceptedTree tree) (is : IsPromotedTree tree new rows) where
  pub tree_quickens : NoneNamesDone (design_of tree) → WholeQuickens (design_of tree) (design_of new)
  tree_quickens undone = design_quickens (design_of tree) (design_of new) design h.accepted (promoted_design tree new rows is) undone

  pub again_tree_quickens : NoneNamesDone (design_of tree) → (again : PlainTree) → SameDesign (design_of new) (design_of again) → WholeQuickens (design_of tree) (design_of again)
  again_tree_quickens undone again same = again_quickens (design_of tree) (design_of new) design h.accepted (promoted_design tree new rows is) undone (design_of again) same

  pub tree_words_stay : (s : State) → words_of (tree_of (design_of new)) s ≡ words_of (tree_of (design_of tree)) s
  tree_words_stay s = words_stay (design_of tree) (design_of new) design h.accepted (promoted_design tree new rows is) s
