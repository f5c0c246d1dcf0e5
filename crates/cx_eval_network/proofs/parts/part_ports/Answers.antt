use Rattle.std.proofs.Common.{rules, ◌≡◌, ◌+◌, suc, length, refl, ap, ◌∙◌, subst, arith}
use Rattle.cx_meaning.specs.Instances.{cells_of, cell_at, part_of, cell_count}
use Rattle.cx_rules.specs.Ports.{component_of}
use Rattle.cx_rules.specs.Wellformed.{port_count}
use Rattle.cx_design.specs.PlainDesigns.{plain_design}
use Rattle.cx_design_leads.specs.Nodes.{below, first_done, first_input, first_output, ports_before}
use Rattle.cx_design_leads.proofs.NodeLemmas.{cells_of_part}
use Rattle.cx_eval_network.specs.Parts.{ArePorts}
use Rattle.cx_eval_network.proofs.parts.part_ports.Goals as goal

pub loop-cell-preserved : goal.loop-cell-preserved
loop-cell-preserved c =
    let i = component_of (plain_design c.args.design.now) c.args.number in
    let n = c.loop-cell.cell in
    let same : c.in_ok-cell_number.cell_number ≡ n = c.in_ok-cell_number.ensures.value in
    let one : suc n ≡ n + 1 = omega arith in
    subst (λ k. ArePorts i (ports_before (cells_of i) k) c.add_ports.new.ports.items) one
    (c.in_ok-add_ports.ensures.value i (port_count (cell_at (cells_of i) n)) (ports_before (cells_of i) n) c.requires.numbers
    (λ m. ap (λ k. below (port_count (cell_at (cells_of i) k)) (ports_before (cells_of i) k) m) same) c.loop-cell.invariant)

pub returns : goal.returns
returns c =
    let design = c.args.design.now in
    let part = c.component.result.now in
    let i = component_of (plain_design design) c.args.number in
    let end : c.loop-cell.cell ≡ length part.cells.items = search rules in
    let few : length part.cells.items ≡ cell_count (cells_of i) = cells_of_part design.components.items design.main c.args.number part c.requires.within c.component.ensures.value in
    let cells : ArePorts i (first_input i) c.loop-cell.ports.items = subst (λ k. ArePorts i (ports_before (cells_of i) k) c.loop-cell.ports.items) (end ∙ few) c.loop-cell.invariant in
    let inputs = c.in_ok-add_ports-2.ensures.value i (length (part_of i).inputs) (first_input i) c.requires.numbers (λ m. refl) cells in
    let outputs = c.in_ok-add_ports-3.ensures.value i (length (part_of i).outputs) (first_output i) c.requires.numbers (λ m. refl) inputs in
    record { value = c.in_ok-add_ports-4.ensures.value i (length (part_of i).groups) (first_done i) c.requires.numbers (λ m. refl) outputs }
