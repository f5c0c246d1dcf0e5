use Rattle.std.proofs.Common.{List, Some, map, ap, refl, sym, ◌∙◌}
use Rattle.cx_ast.specs.declared.components.PortItem.{PortItem}
use Rattle.cx_ast.specs.PlainTree.{plain_port}
use Rattle.cx_grammar.specs.Calyx.{some_ports, port, attributes, attribute}
use Rattle.cx_parse.proofs.Steps.{empty, first, second, moved}
use Rattle.cx_parse.proofs.Commas.{commas, no_commas}
use Rattle.cx_parse.proofs.ports.some_ports.Goals as goal

pub returns-then-not-next_in : goal.returns-then-not-next_in
unfolding some_ports port attributes attribute
returns-then-not-next_in c = record { value = λ levels. moved (second (sym c.next_in.ensures.value ∙ c.if-not-next_in.true) empty) refl (ap (λ (xs : List PortItem). Some (map plain_port xs)) c.new.ensures.items) }

pub returns-in-Some : goal.returns-in-Some
unfolding some_ports port attributes attribute
returns-in-Some c = record { value = λ levels. first (sym c.next_in.ensures.value ∙ c.if-not-next_in.false) (commas levels port refl (c.in-Some.ensures.value levels) (c.more_ports.ensures.value levels)) }

pub returns-in-None : goal.returns-in-None
unfolding some_ports port attributes attribute
returns-in-None c = record { value = λ levels. first (sym c.next_in.ensures.value ∙ c.if-not-next_in.false) (no_commas levels port refl (c.in-None.ensures.value levels)) }
