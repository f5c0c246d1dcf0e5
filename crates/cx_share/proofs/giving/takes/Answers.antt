use Rattle.std.proofs.Common.{◌<◌, ◌∙◌, length, map, ap}
use Rattle.std.proofs.lemmas.List.{length-map}
use Rattle.cx_design.specs.PlainForms.{plain_cell, plain_component, plain_kind}
use Rattle.cx_sharing.specs.Uses.{kind_in}
use Rattle.cx_sharing.specs.Giving.{same_kind}
use Rattle.cx_share.proofs.GiveLemmas.{takes_alike, takes_none}
use Rattle.cx_share.proofs.giving.takes.Goals as goal

pub returns-then-has : goal.returns-then-has
returns-then-has c =
    let lt : c.args.cell < length (map plain_cell c.args.part.now.cells.items) = rw (length-map c.args.part.now.cells.items plain_cell) c.requires.cell in
    record { value = takes_none (plain_component c.args.part.now) c.args.cell c.args.kept.now c.has.result c.requires.near lt c.has.ensures.value c.if-has.true }

pub returns : goal.returns
returns c =
    let lt : c.args.cell < length (map plain_cell c.args.part.now.cells.items) = rw (length-map c.args.part.now.cells.items plain_cell) c.requires.cell in
    record {
      value = c.is_same_kind.ensures.value ∙ ap (λ k. same_kind k (plain_kind c.kind_at-2.result.now)) c.kind_at.ensures.value
          ∙ ap (same_kind (kind_in (plain_component c.args.part.now).cells c.args.kept.now.cell)) c.kind_at-2.ensures.value
          ∙ takes_alike (plain_component c.args.part.now) c.args.cell c.args.kept.now c.has.result c.requires.near lt c.has.ensures.value c.if-has.false;
    }
