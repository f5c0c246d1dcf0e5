use Rattle.std.proofs.Common.{◌≡◌, sym, ap, ◌∙◌}
use Rattle.cx_design.specs.PlainForms.{plain_statement}
use Rattle.cx_weave.specs.declared.strands.Strand.TheVariants as strands
use Rattle.cx_weave.specs.Strands.{ALoop, plain_strand, test_of}
use Rattle.cx_weave.proofs.Amounts.{amount_test}
use Rattle.cx_weave.proofs.PartLedgers.{leaf_behind, one_place}
use Rattle.cx_weave.proofs.StrandFolds.{is_loop, is_test}
use Rattle.cx_weave.proofs.parts.loop_ended.Goals as goal

pub give_box-requires : goal.give_box-requires
give_box-requires c = record { place = one_place c.args.spares.now c.requires.places }

pub returns-clause-tests : goal.returns-clause-tests
returns-clause-tests c =
    let whole : plain_strand c.args.strand.now ≡ ALoop (plain_strand c.in-InLoop.run'.value) c.in-InLoop.port c.in-InLoop.comb (plain_statement c.in-InLoop.body.now) = ap plain_strand (sym c.replace.ensures.value ∙ c.in-InLoop.is) ∙ is_loop c.in-InLoop.run' c.in-InLoop.port c.in-InLoop.comb c.in-InLoop.body in
    is_test c.in-InLoop.port c.in-InLoop.comb c.in-InLoop.body ∙ sym (ap test_of whole)

pub returns-clause-ledger : goal.returns-clause-ledger
returns-clause-ledger c =
    leaf_behind c.args.spares.now c.give_box.new.spares (strands.Testing c.in-InLoop.port c.in-InLoop.comb c.in-InLoop.body) c.give_box.ensures.ledger (λ x. amount_test x c.in-InLoop.port c.in-InLoop.comb c.in-InLoop.body)
