use Rattle.std.proofs.Common.{◌∙◌}
use Rattle.cx_ast.specs.PlainTree.{plain_assign}
use Rattle.cx_copies.proofs.NamingLemmas.{same_assign}
use Rattle.cx_copies.proofs.copies.copied_assign.Goals as goal

pub returns : goal.returns
returns c = record { value = c.in_ok-copy.ensures.value ∙ same_assign (plain_assign c.args.assign.now) }
