use Rattle.std.proofs.Common.{◌≡◌, ◌∙◌, ap, sym, map, length, replicate, false, arith}
use Rattle.std.proofs.lemmas.List.{length-map}
use Rattle.cx_design.specs.PlainForms.{plain_cell, plain_component}
use Rattle.cx_design_parts.specs.Items.{plain_visited}
use Rattle.cx_share.proofs.MeetLemmas.{meeting_made}
use Rattle.cx_share.proofs.meeting.meeting.Goals as goal

pub returns : goal.returns
returns c =
    let part = plain_component c.args.part.now in
    let wide : c.len.result ≡ length c.args.part.now.cells.items = omega (arith, c.len.ensures, c.args.part.now.cells.ok.0) in
    let blank : c.in_ok-table.table.items ≡ replicate (length part.cells) (replicate (length part.cells) false) =
    c.in_ok-table.ensures.value ∙ ap (λ n. replicate n (replicate n false)) (wide ∙ sym (length-map c.args.part.now.cells.items plain_cell)) in
    record {
      value = meeting_made part (map plain_visited c.in_ok-statements.statements.items) c.in_ok-table.table.items c.add_groups.new.table.items c.add_forms.new.table.items
          blank c.in_ok-statements.ensures.value c.add_groups.ensures.value (rw c.as_slice-3.ensures.value at c.in_ok-add_forms.ensures.value);
    }
