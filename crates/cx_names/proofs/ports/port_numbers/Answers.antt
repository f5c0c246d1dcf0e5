use Rattle.std.proofs.Common.{arith, subst, map}
use Rattle.cx_ast.specs.PlainTree.{plain_port}
use Rattle.cx_numbering.specs.Names.{port_names}
use Rattle.cx_names_scopes.specs.Numbered.{IsAddedTo}
use Rattle.cx_names.specs.Sites.{AddsNames}
use Rattle.cx_names.proofs.PortLemmas.{all_ports, few_ports}
use Rattle.cx_names.proofs.ports.port_numbers.Goals as goal

pub add_ports-requires-2 : goal.add_ports-requires-2
add_ports-requires-2 c =
    let few = few_ports c.deref.result.now in
    omega (arith, few, c.in_ok-outputs.ensures.behind_all, c.deref.ensures.len, c.args.part.now.inputs.ok, c.args.part.now.inputs.small, c.deref-2.ensures.len, c.args.part.now.outputs.ok, c.args.part.now.outputs.small)

pub returns : goal.returns
returns c =
    all_ports (port_names (map plain_port c.args.part.now.inputs.items)) (port_names (map plain_port c.args.part.now.outputs.items))
    c.new-numbers.result c.add.new.self c.add_ports.new.numbers c.add_ports-2.new.numbers c.add-2.new.self c.in_ok-outputs.outputs c.in_ok-last.last
    c.new-numbers.ensures
    (subst (λ name. IsAddedTo c.new-numbers.result name 0 c.add.new.self) c.in_ok-go.ensures.value c.in_ok-add.ensures)
    (subst (λ xs. AddsNames 1 c.add.new.self (port_names (map plain_port xs)) c.in_ok-outputs.outputs c.add_ports.new.numbers) c.deref.ensures.value c.in_ok-outputs.ensures)
    (subst (λ xs. AddsNames c.in_ok-outputs.outputs c.add_ports.new.numbers (port_names (map plain_port xs)) c.in_ok-last.last c.add_ports-2.new.numbers) c.deref-2.ensures.value c.in_ok-last.ensures)
    (subst (λ name. IsAddedTo c.add_ports-2.new.numbers name c.in_ok-last.last c.add-2.new.self) c.in_ok-done.ensures.value c.in_ok-add-2.ensures)
