use Rattle.std.proofs.Common.{rules, ◌≡◌, ◌+◌, length, sym, ap, ◌∙◌, arith}
use Rattle.std.specs.Prelude.{slice_index}
use Rattle.std.proofs.lemmas.List.{length-map}
use Rattle.cx_meaning.specs.Designs.{PlainComponent}
use Rattle.cx_meaning.specs.Instances.{cells_of, part_of, cell_count}
use Rattle.cx_rules.specs.Ports.{component_of}
use Rattle.cx_design.specs.PlainDesigns.{plain_design}
use Rattle.cx_design.specs.PlainForms.{plain_group}
use Rattle.cx_design_leads.specs.Nodes.{ports_before, first_input, first_output, first_done}
use Rattle.cx_design_leads.proofs.NodeLemmas.{cells_of_part, part_is}
use Rattle.cx_design_leads.proofs.numbering.Nodes.new.Goals as goal

pub start-inputs-requires : goal.start-inputs-requires
start-inputs-requires c =
    let part = c.component-part.result.now in
    let design = c.args.design.now in
    let few : length part.cells.items ≡ cell_count (cells_of (component_of (plain_design design) c.args.number)) = cells_of_part design.components.items design.main c.args.number part c.requires.within c.component-part.ensures.value in
    let long = c.in_ok-cells.ensures.len in
    let same = ap length c.as_slice.ensures.value in
    let lens : c.len.result ≡ length part.cells.items = search rules in
    record { within = omega (arith, few, long, same, lens) }

pub returns : goal.returns
returns c =
    let part = c.component-part.result.now in
    let design = c.args.design.now in
    let i = component_of (plain_design design) c.args.number in
    let few : length part.cells.items ≡ cell_count (cells_of i) = cells_of_part design.components.items design.main c.args.number part c.requires.within c.component-part.ensures.value in
    let long = c.in_ok-cells.ensures.len in
    let lens : c.len.result ≡ length part.cells.items = search rules in
    let inputs_len : c.len-2.result ≡ length part.inputs.items = search rules in
    let outputs_len : c.len-3.result ≡ length part.outputs.items = search rules in
    let groups_len : c.len-4.result ≡ length part.groups.items = search rules in
    let is = part_is design.components.items design.main c.args.number part c.component-part.ensures.value in
    let inputs_is : length part.inputs.items ≡ length (part_of i).inputs = ap (λ (p : PlainComponent). length p.inputs) is in
    let outputs_is : length part.outputs.items ≡ length (part_of i).outputs = ap (λ (p : PlainComponent). length p.outputs) is in
    let groups_is : length part.groups.items ≡ length (part_of i).groups = sym (length-map part.groups.items plain_group) ∙ ap (λ (p : PlainComponent). length p.groups) is in
    let last : c.len.result ≡ cell_count (cells_of i) = lens ∙ few in
    let inputs : c.start-inputs.result ≡ first_input i =
    c.start-inputs.ensures.value ∙ ap (λ l. slice_index l c.len.result) c.as_slice.ensures.value ∙ c.in_ok-cells.ensures.value c.len.result (omega (arith, last, long)) ∙ ap (ports_before (cells_of i)) last in
    let outputs : c.in_ok-outputs.outputs ≡ first_output i = c.in_ok-outputs.ensures.value ∙ ap (λ k. k + c.len-2.result) inputs ∙ ap (λ k. first_input i + k) (inputs_len ∙ inputs_is) in
    let dones : c.in_ok-dones.dones ≡ first_done i = c.in_ok-dones.ensures.value ∙ ap (λ k. k + c.len-3.result) outputs ∙ ap (λ k. first_output i + k) (outputs_len ∙ outputs_is) in
    record {
      value = record {
        same_length = long;
        starts = λ cell h. c.in_ok-cells.ensures.value cell (omega (arith, h, long));
        inputs = inputs;
        outputs = outputs;
        dones = dones;
        count = c.in_ok-count.ensures.value ∙ ap (λ k. k + c.len-4.result) dones ∙ ap (λ k. first_done i + k) (groups_len ∙ groups_is);
      };
    }
