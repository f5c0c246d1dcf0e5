use Rattle.std.proofs.Common.{◌≡◌, ◌∙◌, length, map, sym, arith}
use Rattle.std.proofs.lemmas.List.{length-map}
use Rattle.cx_design.specs.PlainForms.{plain_cell, plain_component}
use Rattle.cx_share.specs.Givings.{plain_kept}
use Rattle.cx_share.proofs.GiveLemmas.{keepers_made}
use Rattle.cx_share.proofs.giving.keepers.Goals as goal

pub returns : goal.returns
returns c =
    let wide : c.len.result ≡ length c.args.part.now.cells.items = omega (arith, c.len.ensures, c.args.part.now.cells.ok.0) in
    record {
      value = keepers_made (plain_component c.args.part.now) c.len.result (map plain_kept c.in_ok-kept.kept.items) c.in_ok-keepers.keepers.items (wide ∙ sym (length-map c.args.part.now.cells.items plain_cell))
          c.in_ok-kept.ensures.value (rw c.as_slice-3.ensures.value at c.in_ok-keepers.ensures.value);
    }
