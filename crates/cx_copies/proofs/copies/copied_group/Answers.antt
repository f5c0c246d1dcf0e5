use Rattle.std.proofs.Common.{◌∙◌}
use Rattle.cx_ast.specs.PlainTree.{plain_group}
use Rattle.cx_copies.proofs.NamingLemmas.{same_group}
use Rattle.cx_copies.proofs.copies.copied_group.Goals as goal

pub returns : goal.returns
returns c = record { value = c.in_ok-copy.ensures.value ∙ same_group (plain_group c.args.group.now) }
