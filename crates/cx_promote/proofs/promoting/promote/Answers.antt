use Rattle.cx_ast.specs.PlainTree.{plain_tree}
use Rattle.cx_design.specs.PlainDesigns.{plain_design}
use Rattle.cx_promote.proofs.PromotedLemmas.{made_has_targets, made_is_accepted, made_is_named}
use Rattle.cx_promote.proofs.promoting.promote.Goals as goal

pub keeps_limits-requires : goal.keeps_limits-requires
keeps_limits-requires c = record {
  targets = made_has_targets (plain_tree c.args.tree.now) (plain_tree c.in_ok-made.made.tree) c.in_ok-made.ensures.tree c.requires.targets;
  named = made_is_named (plain_tree c.args.tree.now) (plain_tree c.in_ok-made.made.tree) c.in_ok-made.ensures.tree c.requires.accepted.named;
}

pub returns-then-branch-clause-targets : goal.returns-then-branch-clause-targets
returns-then-branch-clause-targets c = made_has_targets (plain_tree c.args.tree.now) (plain_tree c.in_ok-made.made.tree) c.in_ok-made.ensures.tree c.requires.targets

pub returns-then-branch-clause-accepted : goal.returns-then-branch-clause-accepted
returns-then-branch-clause-accepted c =
    made_is_accepted (plain_tree c.args.tree.now) (plain_tree c.in_ok-made.made.tree) c.in_ok-made.ensures.tree (plain_design c.args.design.now)
    c.requires.targets c.requires.accepted c.requires.its c.args.design.now.keeps (c.in_ok-keeps_limits.ensures.keeps c.if-branch.true)
