use Rattle.std.proofs.Common.{◌≡◌, ◌∙◌, false, length, replicate, arith}
use Rattle.cx_design.specs.PlainForms.{plain_component, plain_statement}
use Rattle.cx_sharing.specs.Uses.{group_uses}
use Rattle.cx_share.specs.Marks.{Adds, any_of}
use Rattle.cx_share.proofs.UseLemmas.{statement_used}
use Rattle.cx_share.proofs.using.used_by_statement.Goals as goal

pub returns : goal.returns
returns c =
    let wide : c.len.result ≡ length c.args.part.now.cells.items = omega (arith, c.len.ensures, c.args.part.now.cells.ok.0) in
    let first : Adds (replicate (length c.args.part.now.cells.items) false) c.add_groups.new.marks (any_of (group_uses (plain_component c.args.part.now)) c.as_slice.result.now) =
    rw (c.in_ok-marks.ensures.value, wide) at c.add_groups.ensures.value in
    record {
      value = statement_used (plain_component c.args.part.now) (plain_statement c.args.statement.now) c.as_slice.result.now c.as_slice-2.result.now (length c.args.part.now.cells.items) c.add_groups.new.marks c.add_tested.new.marks
          (c.as_slice.ensures.value ∙ c.in_ok-groups.ensures.value) (c.as_slice-2.ensures.value ∙ c.in_ok-tested.ensures.value) first c.add_tested.ensures.value;
    }
