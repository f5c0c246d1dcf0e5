use Rattle.std.proofs.Common.{◌<◌, ◌^◌, sym, subst}
use Rattle.cx_ast.specs.PlainTree.{plain_tree}
use Rattle.cx_rules.specs.Sizes.{design_size}
use Rattle.cx_rules.specs.Wellformed.{IsDesign}
use Rattle.cx_names.proofs.Whole.{is_design}
use Rattle.cx_names.proofs.resolving.kept_design.Goals as goal

pub counted-requires : goal.counted-requires
counted-requires c =
    subst (λ d. design_size d < 2 ^ 32 → IsDesign d) (sym c.in_ok-parts.ensures.value) (is_design (plain_tree c.args.tree.now) c.requires.targets c.requires.kept)
