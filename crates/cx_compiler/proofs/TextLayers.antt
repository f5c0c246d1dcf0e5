-- The design of an accepted tree within the size keeps what every design keeps and breaks no rule; that of an accepted text can be flattened.
use Rattle.std.proofs.Common.{◌≡◌, ◌≤◌, ◌<◌, ◌^◌, ℕ, List, sym, subst, arith}
use Rattle.std.proofs.Math.Logic.{∥∥₁_elim}
use denote.Struct.Props.{props}
use Rattle.cx_text.specs.declared.limits.TheConstants.{COMPILE_SIZE}
use Rattle.cx_meaning.specs.Designs.{PlainDesign}
use Rattle.cx_rules.specs.Accepted.{IsAccepted}
use Rattle.cx_rules.specs.Flat.{IsFlat}
use Rattle.cx_rules.specs.Sizes.{design_size}
use Rattle.cx_rules.specs.Wellformed.{IsDesign}
use Rattle.cx_ast.specs.PlainTree.{PlainTree}
use Rattle.cx_numbering.specs.DesignOf.{design_of}
use Rattle.cx_names.specs.Targets.{HasTargets}
use Rattle.cx_names.proofs.Whole.{is_design}
use Rattle.cx_check.specs.Acceptance.{IsAcceptedTree}
use Rattle.cx_compiler.specs.Runnable.{CanBeFlattened}
use Rattle.cx_compiler.proofs.RunDesigns.{text_can_be_flattened}
use Rattle.cx_compiler.specs.Texts.{IsDesignOf}

-- of a tree without static components
pub tree_rules : (tree : PlainTree) (d : PlainDesign) → HasTargets tree → IsAcceptedTree tree → d ≡ design_of tree → IsFlat d → design_size d ≤ COMPILE_SIZE → IsDesign d × IsFlat d × IsAccepted d
tree_rules tree d targets accepted same flat within =
    let small : design_size d < 2 ^ 32 = omega (arith, within) in
    (subst IsDesign (sym same) (is_design tree targets accepted.named (subst (λ (e : PlainDesign). design_size e < 2 ^ 32) same small)), flat, subst IsAccepted (sym same) accepted.accepted)

-- a design that is there has few parts
pub few_parts : (d : PlainDesign) → ∥ IsDesign d ∥₁ → design_size d < 2 ^ 32
few_parts d keeps = ∥∥₁_elim keeps (hlevel props) (λ k. k.few_parts)

-- of a text with few parts
pub text_flattens : (text : List ℕ) (d : PlainDesign) → IsDesignOf text d → design_size d < 2 ^ 32 → CanBeFlattened d
text_flattens text d h few =
    subst CanBeFlattened (sym h.3) (text_can_be_flattened text h.0 h.1 h.2.named h.2.accepted (subst (λ (e : PlainDesign). design_size e < 2 ^ 32) h.3 few))
