use Rattle.std.proofs.Common.{◌+◌, ◌<◌, [], ◌∷◌, map, drop, length, ap, arith}
use Rattle.cx_vtree.specs.PlainParts.{plain_expr, plain_assign}
use Rattle.cx_vnets.specs.ModuleCodes.{IsCode}
use Rattle.cx_vnets.specs.Numberings.{nets_by, arrays_by}
use Rattle.cx_velab.specs.Coded.{values_of}
use Rattle.cx_velab.proofs.AddedLemmas.{rest_at, done_more}
use Rattle.cx_text.proofs.ListLaws.{item_at}
use Rattle.cx_velab.proofs.coding.push_assigns.Goals as goal

pub push_code-requires : goal.push_code-requires
push_code-requires c =
    let lt : c.loop-assign.assign-index < length c.args.assigns.now = omega arith in
    c.requires c.loop-assign.assign-index (plain_assign c.assign-item.result) (item_at plain_assign c.args.assigns.now c.loop-assign.assign-index c.assign-item.result lt c.assign-item.is)

pub loop-assign-preserved : goal.loop-assign-preserved
loop-assign-preserved c =
    let lt : c.loop-assign.assign-index < length c.args.assigns.now = omega arith in
    done_more (IsCode (nets_by c.args.numbers.now) (arrays_by c.args.numbers.now)) c.args.codes.now.items c.loop-assign.codes.items c.push_code.new.codes.items
    (plain_expr c.assign-item.result.value ∷ []) (values_of (map plain_assign (drop c.loop-assign.assign-index c.args.assigns.now)))
    (values_of (map plain_assign (drop (c.loop-assign.assign-index + 1) c.args.assigns.now))) (values_of (map plain_assign c.args.assigns.now))
    c.loop-assign.invariant c.in_ok-push_code.ensures
    (ap values_of (rest_at plain_assign c.args.assigns.now c.loop-assign.assign-index c.assign-item.result lt c.assign-item.is))
