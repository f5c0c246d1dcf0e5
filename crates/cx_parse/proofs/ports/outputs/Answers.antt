use Rattle.std.proofs.Common.{List, Some, map, ap, refl, sym, ◌∙◌}
use Rattle.cx_ast.specs.declared.components.PortItem.{PortItem}
use Rattle.cx_ast.specs.PlainTree.{plain_port}
use Rattle.cx_grammar.specs.Calyx.{outputs}
use Rattle.cx_parse.proofs.Steps.{empty, first, second, moved, pair}
use Rattle.cx_parse.proofs.ports.outputs.Goals as goal

pub returns-then-not-next_is : goal.returns-then-not-next_is
unfolding outputs
returns-then-not-next_is c = record { value = λ levels. moved (second (sym c.next_is.ensures.value ∙ c.if-not-next_is.true) empty) refl (ap (λ (xs : List PortItem). Some (map plain_port xs)) c.new.ensures.items) }

pub returns : goal.returns
unfolding outputs
returns c = record { value = λ levels. first (sym c.next_is.ensures.value ∙ c.if-not-next_is.false) (pair (c.sign.ensures.value levels) (c.ports.ensures.value levels)) }
