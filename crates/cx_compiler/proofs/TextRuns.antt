-- The design that is run of an accepted text tells of each run what the design of the text tells.
use Rattle.std.proofs.Common.{◌≡◌, ℕ, ◌<◌, ◌^◌, List, None}
use Rattle.cx_ast.specs.PlainTree.{PlainTree}
use Rattle.cx_rules.specs.Accepted.{IsAccepted}
use Rattle.cx_rules.specs.Sizes.{design_size}
use Rattle.cx_numbering.specs.DesignOf.{design_of}
use Rattle.cx_numbering.specs.NameRules.{names_break}
use Rattle.cx_names.proofs.TargetLemmas.{targets_in_text}
use Rattle.cx_names.proofs.Whole.{is_design}
use Rattle.cx_flattening.specs.Told.{KeepsRuns}
use Rattle.cx_commands.specs.Unread.{HasTree}
use Rattle.cx_compiler.specs.Runnable.{RunsAsMeant}
use Rattle.cx_compiler.proofs.PlainNames.{are_plain_names}
use Rattle.cx_compiler.proofs.RunnableLemmas.{Keeps, MeansTheSame, runs_as_meant}
use Rattle.cx_compiler.proofs.StaticEnds.{names_no_done}

module _ (text : List ℕ) (tree : PlainTree) (has : HasTree text tree) (named : names_break tree ≡ None) (accepted : IsAccepted (design_of tree)) (few : design_size (design_of tree) < 2 ^ 32) where
  pub text_keeps_runs : Keeps → KeepsRuns (design_of tree)
  text_keeps_runs keeps = keeps (design_of tree) (is_design tree (targets_in_text has.0 tree has.2) named few) accepted (names_no_done tree named) (are_plain_names text tree has)

  pub text_runs_as_meant : Keeps → MeansTheSame → RunsAsMeant (design_of tree)
  text_runs_as_meant keeps same =
      runs_as_meant keeps same (design_of tree) (is_design tree (targets_in_text has.0 tree has.2) named few) accepted (names_no_done tree named) (are_plain_names text tree has)
