use Rattle.std.proofs.Common.{◌∙◌, map}
use Rattle.cx_ast.specs.PlainTree.{plain_wire}
use Rattle.cx_copies.proofs.NamingLemmas.{same_wires}
use Rattle.cx_copies.proofs.copies.copied_wires.Goals as goal

pub returns : goal.returns
returns c = record { value = c.in_ok-copies.ensures.value ∙ same_wires (map plain_wire c.args.wires.now) }
