use Rattle.std.proofs.Common.{◌+◌, ◌<◌, [], ◌∷◌, map, drop, length, ap, refl, arith}
use Rattle.cx_vtree.specs.PlainParts.{plain_assign}
use Rattle.cx_vnets.specs.Numberings.{nets_by}
use Rattle.cx_velab.specs.Changes.{numbered, IsSet}
use Rattle.cx_velab.proofs.AddedLemmas.{rest_at, adds_one, done_more}
use Rattle.cx_text.proofs.ListLaws.{item_at}
use Rattle.cx_velab.proofs.changes.push_sets.Goals as goal

pub set_of-requires-clause-named : goal.set_of-requires-clause-named
set_of-requires-clause-named c =
    let lt : c.loop-assign.assign-index < length c.args.assigns.now = omega arith in
    c.requires.named c.loop-assign.assign-index (plain_assign c.assign-item.result) (item_at plain_assign c.args.assigns.now c.loop-assign.assign-index c.assign-item.result lt c.assign-item.is)

pub loop-assign-preserved : goal.loop-assign-preserved
loop-assign-preserved c =
    let lt : c.loop-assign.assign-index < length c.args.assigns.now = omega arith in
    let a = plain_assign c.assign-item.result in
    record {
      code = omega (arith, c.loop-assign.invariant.code);
      added = done_more (IsSet (nets_by c.args.numbers.now) c.args.place) c.args.sets.now.items c.loop-assign.sets.items c.push.new.self.items
          ((c.loop-assign.code, a) ∷ []) (numbered c.loop-assign.code (map plain_assign (drop c.loop-assign.assign-index c.args.assigns.now)))
          (numbered (c.loop-assign.code + 1) (map plain_assign (drop (c.loop-assign.assign-index + 1) c.args.assigns.now))) (numbered c.args.first (map plain_assign c.args.assigns.now))
          c.loop-assign.invariant.added
          (adds_one (IsSet (nets_by c.args.numbers.now) c.args.place) c.loop-assign.sets.items c.push.new.self.items c.set_of.result (c.loop-assign.code, a) c.in_ok-push.ensures.items (c.set_of.ensures a refl))
          (ap (numbered c.loop-assign.code) (rest_at plain_assign c.args.assigns.now c.loop-assign.assign-index c.assign-item.result lt c.assign-item.is));
    }
