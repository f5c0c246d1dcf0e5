use Rattle.std.proofs.Common.{◌∙◌}
use Rattle.cx_ast.specs.PlainTree.{plain_tree}
use Rattle.cx_numbering.specs.NameRules.{name_breaks}
use Rattle.cx_names_rules.proofs.OrderLemmas.{first_of_all}
use Rattle.cx_names_parts.proofs.first.first_name_break.Goals as goal

pub returns : goal.returns
returns c = record { value = c.in_ok-all_breaks.ensures ∙ first_of_all (name_breaks (plain_tree c.args.tree.now)) }
