-- When a text is accepted, and what it is refused for where it is not.
use Rattle.std.specs.Prelude.{◌≡◌, ◌⊎◌, ◌<◌, ◌^◌, ℕ, List}
use Rattle.cx_text.specs.declared.diagnostics.Diagnostic.{Diagnostic}
use Rattle.cx_ast.specs.PlainTree.{PlainTree}
use Rattle.cx_meaning.specs.Designs.{PlainDesign}
use Rattle.cx_rules.specs.Flat.{IsFlat}
use Rattle.cx_rules.specs.Sizes.{design_size}
use Rattle.cx_numbering.specs.DesignOf.{design_of}
use Rattle.cx_check.specs.Acceptance.{IsAcceptedTree, TreeBreak}
use Rattle.cx_design.specs.declared.refusals.Refusal.{Refusal}
use Rattle.cx_design.specs.declared.refusals.Refusal.TheVariants as refusals
use Rattle.cx_compiler.specs.Runnable.{runnable, RunsAsMeant}
use Rattle.cx_commands.specs.Unread.{StageOneFault, HasTree}
use Rattle.cx_commands.specs.declared.stops.Stop.{Stop}
use Rattle.cx_commands.specs.declared.stops.Stop.TheVariants as stops
use Rattle.cx_commands.specs.Stopping.{TellsBreak}

-- ACCEPTED: the text has a tree, and the tree is accepted
abbrev pub IsAcceptedText : List ℕ → Type 0
IsAcceptedText text = (tree : PlainTree) × HasTree text tree × IsAcceptedTree tree

-- the text is accepted, and this is the design that its tree stands for
abbrev pub IsDesignOf : List ℕ → PlainDesign → Type 0
IsDesignOf text d = (tree : PlainTree) × HasTree text tree × IsAcceptedTree tree × (d ≡ design_of tree)

-- WHAT IS RUN of a text: the text is accepted, 32 bits count the parts of its design, and this is the design that is
-- run, which has no static component, and tells of each run what the text's design means
pub record IsRunOf (text : List ℕ) (run : PlainDesign) : Type 0 where
  pub design : PlainDesign
  pub stands : IsDesignOf text design
  pub few : design_size design < 2 ^ 32
  pub is : run ≡ runnable design
  pub flat : IsFlat run
  pub runs : RunsAsMeant design

-- REFUSED: the text has no tree for this reason, or its tree is refused for it
abbrev pub TextBreak : List ℕ → Diagnostic → Type 0
TextBreak text told = StageOneFault text told ⊎ ((tree : PlainTree) × HasTree text tree × TreeBreak tree told)

-- what is told of a tree that is refused, unless memory is wanting
abbrev pub IsTreeStop : PlainTree → Stop → Type 0
IsTreeStop tree stop = TellsBreak (TreeBreak tree) stop

-- a refusal of a tree as it is told
abbrev pub tree_stop : Refusal → Stop
tree_stop (refusals.Rule told) = stops.Rule told
tree_stop refusals.Memory = stops.Memory

-- what is told of a text that is refused, unless memory is wanting
abbrev pub IsTextRefusal : List ℕ → Stop → Type 0
IsTextRefusal text stop = TellsBreak (TextBreak text) stop
