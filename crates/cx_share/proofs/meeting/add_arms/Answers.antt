use Rattle.std.proofs.Common.{◌≡◌, ◌∙◌, map, length, sym, subst, arith}
use Rattle.std.proofs.lemmas.List.{length-map}
use Rattle.cx_meaning.proofs.DesignsLemmas.{list_again}
use Rattle.cx_design.specs.PlainForms.{plain_cell, plain_component, plain_statement}
use Rattle.cx_share.specs.Tables.{IsTable}
use Rattle.cx_share.proofs.MeetLemmas.{arms_joined}
use Rattle.cx_share.proofs.UseLemmas.{arms_wide}
use Rattle.cx_share.proofs.meeting.add_arms.Goals as goal

pub add_later-requires-clause-sets : goal.add_later-requires-clause-sets
add_later-requires-clause-sets c =
    let wide : c.len.result ≡ length c.args.part.now.cells.items = omega (arith, c.len.ensures, c.args.part.now.cells.ok.0) in
    arms_wide (plain_component c.args.part.now) (map plain_statement c.args.arms.now) c.len.result c.as_slice.result.now (wide ∙ sym (length-map c.args.part.now.cells.items plain_cell)) (c.as_slice.ensures.value ∙ c.in_ok-cells.ensures.value)

pub add_earlier-requires-clause-sets : goal.add_earlier-requires-clause-sets
add_earlier-requires-clause-sets c =
    let wide : c.len-2.result ≡ length c.args.part.now.cells.items = omega (arith, c.len-2.ensures, c.args.part.now.cells.ok.0) in
    arms_wide (plain_component c.args.part.now) (map plain_statement c.args.arms.now) c.len-2.result c.as_slice-2.result.now (wide ∙ sym (length-map c.args.part.now.cells.items plain_cell)) (c.as_slice-2.ensures.value ∙ c.in_ok-cells.ensures.value)

pub returns : goal.returns
returns c =
    let part = plain_component c.args.part.now in
    let a = c.args.table.now.items in
    record {
      value = rw (list_again (map plain_statement c.args.arms.now))
          (arms_joined part (map plain_statement c.args.arms.now) c.as_slice.result.now c.as_slice-2.result.now a c.add_later.new.table.items c.add_earlier.new.table.items (c.as_slice.ensures.value ∙ c.in_ok-cells.ensures.value)
          (c.as_slice-2.ensures.value ∙ c.in_ok-cells.ensures.value) (subst (λ n. IsTable n a) (sym (length-map c.args.part.now.cells.items plain_cell)) c.requires.table) c.in_ok-add_later.ensures.value c.in_ok-add_earlier.ensures.value);
    }
