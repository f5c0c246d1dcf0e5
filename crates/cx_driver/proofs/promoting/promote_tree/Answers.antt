use Rattle.cx_ast.specs.PlainTree.{plain_tree}
use Rattle.cx_names.proofs.TargetLemmas.{targets_in_text}
use Rattle.cx_driver.proofs.promoting.promote_tree.Goals as goal

pub tried-requires : goal.tried-requires
tried-requires c = record { targets = targets_in_text c.requires.source.1 (plain_tree c.args.tree.now) c.requires.source.3 }
