use Rattle.std.proofs.Common.{Some, None, ap, sym, ◌∙◌, if◌then◌else◌}
use Rattle.std.specs.Option.{option_or}
use Rattle.cx_vtree.specs.InstanceTree.{same_name}
use Rattle.cx_vtree.specs.NameNumbers.{number_by}
use Rattle.cx_vsound.proofs.FirstLemmas.{instances_next}
use Rattle.cx_vsound.proofs.earlier.instance_numbers.Goals as goal

pub loop-i-preserved : goal.loop-i-preserved
loop-i-preserved c =
    instances_next c.loop-i.first c.enter.new.first c.args.list.now c.loop-i.i c.index-list-i.result c.loop-i.invariant
    (λ q. c.in_ok-enter.ensures.entered q ∙ ap (λ x. option_or (number_by c.loop-i.first q) (if same_name x.name q then Some c.loop-i.i else None)) (sym c.index-list-i.is))
    c.loop-i-test.true c.index-list-i.is
