-- The design that is run of one that can be flattened keeps what every design keeps, breaks no rule, and is as large as is counted at most.
use Rattle.std.proofs.Common.{◌≡◌, ℕ, ◌≤◌, ◌<◌, ◌^◌, List, None, arith}
use Rattle.cx_ast.specs.PlainTree.{PlainTree}
use Rattle.cx_meaning.specs.Designs.{PlainDesign}
use Rattle.cx_rules.specs.Accepted.{IsAccepted}
use Rattle.cx_rules.specs.Counts.{counted_design_size}
use Rattle.cx_rules.specs.Flat.{ArePlainNames}
use Rattle.cx_rules.specs.Sizes.{design_size}
use Rattle.cx_rules.specs.Wellformed.{IsDesign}
use Rattle.cx_numbering.specs.DesignOf.{design_of}
use Rattle.cx_numbering.specs.NameRules.{names_break}
use Rattle.cx_names.proofs.TargetLemmas.{targets_in_text}
use Rattle.cx_names.proofs.Whole.{is_design}
use Rattle.cx_flattening.specs.Ends.{NoneNamesDone}
use Rattle.cx_flattening.specs.FlatDesign.{flat_design}
use Rattle.cx_commands.specs.Unread.{HasTree}
use Rattle.cx_compiler.specs.Runnable.{CanBeFlattened, runnable}
use Rattle.cx_compiler.proofs.CountedSizes.{counted_design_size-flat}
use Rattle.cx_compiler.proofs.PlainNames.{are_plain_names}
use Rattle.cx_compiler.proofs.RunnableLemmas.{by_static}
use Rattle.cx_compiler.proofs.StaticEnds.{names_no_done}

-- the design of an accepted text
pub text_can_be_flattened : (text : List ℕ) (tree : PlainTree) → HasTree text tree → names_break tree ≡ None → IsAccepted (design_of tree) → design_size (design_of tree) < 2 ^ 32 → CanBeFlattened (design_of tree)
text_can_be_flattened text tree has named accepted few = record {
  design = is_design tree (targets_in_text has.0 tree has.2) named few;
  accepted = accepted;
  undone = names_no_done tree named;
  plain = are_plain_names text tree has;
}

-- the laws of cx_flattening
abbrev pub FlatDesignsAreDesigns : Type 0
FlatDesignsAreDesigns = (d : PlainDesign) → IsDesign d → IsAccepted d → NoneNamesDone d → ArePlainNames d → IsDesign (flat_design d)

abbrev pub FlatDesignsAreAccepted : Type 0
FlatDesignsAreAccepted = (d : PlainDesign) → IsDesign d → IsAccepted d → NoneNamesDone d → IsAccepted (flat_design d)

abbrev pub FlatSizesAreCounted : Type 0
FlatSizesAreCounted = (d : PlainDesign) → IsDesign d → IsAccepted d → NoneNamesDone d → design_size (flat_design d) ≤ counted_design_size d

module _ (d : PlainDesign) (can : CanBeFlattened d) where
  pub run_is_design : FlatDesignsAreDesigns → IsDesign (runnable d)
  run_is_design law = by_static d IsDesign (law d can.design can.accepted can.undone can.plain) (λ flat. can.design)

  pub run_is_accepted : FlatDesignsAreAccepted → IsAccepted (runnable d)
  run_is_accepted law = by_static d IsAccepted (law d can.design can.accepted can.undone) (λ flat. can.accepted)

  pub run_is_counted : FlatSizesAreCounted → design_size (runnable d) ≤ counted_design_size d
  run_is_counted law =
      by_static d (λ e. design_size e ≤ counted_design_size d) (law d can.design can.accepted can.undone)
      (λ flat. let same = counted_design_size-flat d flat in omega (arith, same))
