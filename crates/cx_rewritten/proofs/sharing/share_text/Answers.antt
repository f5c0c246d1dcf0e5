use Rattle.cx_ast.specs.PlainTree.{plain_tree}
use Rattle.cx_design.specs.PlainDesigns.{plain_design}
use Rattle.cx_print.proofs.FileGiven.{tree_of_text}
use Rattle.cx_rewritten.proofs.AlikeLemmas.{held_runs}
use Rattle.cx_rewritten.proofs.sharing.share_text.Goals as goal

pub written-requires : goal.written-requires
written-requires c = record { design = c.requires.design; printable = tree_of_text c.requires.source.0 c.requires.source.1 (plain_tree c.args.tree.now) c.requires.source.2 c.requires.source.3 }

pub returns-clause-runs : goal.returns-clause-runs
returns-clause-runs c =
    held_runs (plain_tree c.args.tree.now) (plain_design c.args.design.now) c.in_ok-text.text.items c.requires.source c.requires.accepted c.requires.design c.args.design.now.keeps c.in_ok-text.ensures
