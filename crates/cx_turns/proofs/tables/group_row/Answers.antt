use Rattle.std.proofs.Common.{◌≡◌, ℕ, ◌<◌, ap, ◌∙◌, length, sym, subst}
use Rattle.std.proofs.lemmas.List.{length-map}
use Rattle.cx_meaning.specs.Designs.{group_at}
use Rattle.cx_meaning.specs.Instances.{part_of, cells_of}
use Rattle.cx_meaning.specs.Control.{assigns_drive, group_drives}
use Rattle.cx_meaning.specs.Calls.{called_in, captures_in}
use Rattle.cx_meaning.specs.Islands.{kind_length}
use Rattle.cx_rules.specs.Ports.{component_of}
use Rattle.cx_design.specs.PlainForms.{plain_assigns, plain_component}
use Rattle.cx_design.specs.PlainDesigns.{plain_design}
use Rattle.cx_eval_cycle.specs.Passes.{listed_in}
use Rattle.cx_turns.proofs.WithinLemmas.{all_within}
use Rattle.cx_turns.proofs.tables.group_row.Goals as goal

pub returns : goal.returns
returns c =
    let d = plain_design c.args.design.now in
    let i = component_of d c.args.number in
    let listed = c.in_ok-driven_cells.field-0.items in
    let group = c.group_of-found.ensures.value in
    let assigns : plain_assigns c.as_slice-assigns.result.now ≡ (group_at (part_of i) c.args.group).assigns = ap plain_assigns c.as_slice-assigns.ensures.value ∙ ap (λ found. found.assigns) group in
    let within : c.args.number < length d.components = subst (λ n. c.args.number < n) (sym (length-map c.args.design.now.components.items plain_component)) c.requires.within in
    let cells : (q : ℕ) → listed_in listed q ≡ group_drives (part_of i) c.args.group q = λ q. c.in_ok-driven_cells.ensures.cells q ∙ ap (λ found. assigns_drive found q) assigns in
    record {
      value = record {
        cells = cells;
        ascending = c.in_ok-driven_cells.ensures.ascending;
        within = all_within d c.args.number c.args.group listed c.args.design.now.keeps within c.requires.there cells;
        callee = c.first_callee.ensures.value ∙ ap (called_in (cells_of i)) assigns;
        captures = c.drive_enables.ensures.value ∙ ap (captures_in (cells_of i)) assigns;
        length = c.timed_length.ensures ∙ ap (λ found. kind_length found.kind) group;
      };
    }
