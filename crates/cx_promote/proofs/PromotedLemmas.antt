-- The promoted tree, by what was asked of the tree that was made.
use Rattle.std.proofs.Common.{◌≡◌, ◌<◌, ◌^◌, inl, inr, List, [], None, refl, sym, ap, ◌∙◌, subst}
use Rattle.std.proofs.Math.Logic.{∥∥₁_elim}
use denote.Struct.Props.{props}
use Rattle.cx_text.specs.declared.diagnostics.Diagnostic.{Diagnostic}
use Rattle.cx_ast.specs.PlainTree.{PlainTree}
use Rattle.cx_meaning.specs.Designs.{PlainDesign}
use Rattle.cx_rules.specs.Accepted.{KeepsStage, IsFirstOf}
use Rattle.cx_rules.specs.Sizes.{design_size}
use Rattle.cx_rules.specs.Wellformed.{IsDesign}
use Rattle.cx_numbering.specs.DesignOf.{design_of}
use Rattle.cx_numbering.specs.NameRules.{names_break}
use Rattle.cx_names.specs.Targets.{HasTargets}
use Rattle.cx_names.proofs.Whole.{is_design}
use Rattle.cx_check.specs.Acceptance.{IsAcceptedTree}
use Rattle.cx_promotion.specs.declared.rows.PromotedRow.{PromotedRow}
use Rattle.cx_promotion.specs.Rewriting.{IsPromotedTree, made_rows, made_tree}
use Rattle.cx_promote.proofs.AcceptedPromoted.{promoted_tree_accepted}
use Rattle.cx_promote.proofs.NamesPromoted.{names_made}
use Rattle.cx_promote.proofs.TargetsPromoted.{made_tree_has_targets}

-- the design of an accepted tree keeps what each design keeps
pub tree_design : (tree : PlainTree) (d : PlainDesign) → HasTargets tree → IsAcceptedTree tree → d ≡ design_of tree → ∥ IsDesign d ∥₁ → IsDesign (design_of tree)
tree_design tree d targets accepted same keeps =
    let small : design_size d < 2 ^ 32 = ∥∥₁_elim keeps (hlevel props) (λ design. design.few_parts) in
    is_design tree targets accepted.named (subst (λ e. design_size e < 2 ^ 32) same small)

module _ (tree made : PlainTree) (is : made ≡ made_tree tree) where
  pub promoted_made : (rows : List PromotedRow) → rows ≡ made_rows tree → KeepsStage 7 (design_of made) → IsPromotedTree tree made rows
  promoted_made rows e keeps = inl (subst (λ t. KeepsStage 7 (design_of t)) is keeps, is, e)

  pub promoted_not : (new : PlainTree) → new ≡ tree → (KeepsStage 7 (design_of made) → ⊥) → IsPromotedTree tree new []
  promoted_not new same breaks = inr (λ keeps. breaks (subst (λ t. KeepsStage 7 (design_of t)) (sym is) keeps), same, refl)

  pub made_has_targets : HasTargets tree → HasTargets made
  made_has_targets all = subst HasTargets (sym is) (made_tree_has_targets tree all)

  pub made_is_named : names_break tree ≡ None → names_break made ≡ None
  made_is_named none = ap names_break is ∙ names_made tree none

  -- by the rows of the tree that is made, since acceptance hangs on no row
  pub made_is_accepted : (d : PlainDesign) → HasTargets tree → IsAcceptedTree tree → d ≡ design_of tree → ∥ IsDesign d ∥₁ → KeepsStage 7 (design_of made) → IsAcceptedTree made
  made_is_accepted d targets accepted same design keeps =
      promoted_tree_accepted tree made (made_rows tree) (tree_design tree d targets accepted same design) accepted (promoted_made (made_rows tree) refl keeps)

pub breaks_limit : (d : PlainDesign) (told : Diagnostic) → IsFirstOf 7 d told → KeepsStage 7 d → ⊥
breaks_limit d told first keeps = keeps told.rule first.spot told.place told.name first.in_stage first.breaks
