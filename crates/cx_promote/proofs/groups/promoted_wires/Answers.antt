use Rattle.std.proofs.Common.{◌<◌, ◌+◌, ◌++◌, drop, length, map, sym, ap, ◌∙◌, subst}
use Rattle.cx_text.proofs.ListLaws.{drop_item, item_at, length-map}
use Rattle.cx_ast.specs.declared.wiring.WireItem.TheVariants as wire_items
use Rattle.cx_ast.specs.PlainTree as written
use Rattle.cx_numbering.specs.DesignOf.{group_of}
use Rattle.cx_numbering.specs.Names.{groups_in}
use Rattle.cx_design.specs.PlainForms.{plain_group}
use Rattle.cx_promotion.specs.Rewriting.{enables, length_of, promote_group, promote_wire}
use Rattle.cx_promote.specs.Lengths.{Begins}
use Rattle.cx_promote.specs.Sites.{instance_at, part_at, tree_at}
use Rattle.cx_promote.proofs.ListLemmas.{begins_item, begins_next, begins_within, read_got, same_at}
use Rattle.cx_promote.proofs.GroupLemmas.{begins_assign, begins_group, wires_next}
use Rattle.cx_promote.proofs.groups.promoted_wires.Goals.{in-Group+in_ok-group-in-Group+in_ok-push-in-Group, in-Assign+in_ok-copied_assign-in-Assign+in_ok-push-in-Assign}
use Rattle.cx_promote.proofs.groups.promoted_wires.Goals as goal

pub by_length-requires-clause-its : goal.by_length-requires-clause-its
by_length-requires-clause-its c =
    let tree = tree_at c.args.site in
    let part = part_at c.args.site in
    let items = c.deref-wire-items.result.now in
    let index = c.loop-wire.wire-index in
    let groups = c.as_slice-groups.result.now in
    let rest = drop (index + 1) items in
    let there = drop_item items index c.wire-item.result c.wire-item.is c.loop-wire-test.true in
    let b = begins_group (group_of tree part) (drop c.loop-wire.place (map plain_group groups)) (drop index items) rest c.wire-item.result there c.in-Group.item c.in-Group.is c.loop-wire.invariant.groups in
    let left = groups_in (map written.plain_wire rest) in
    let within : c.loop-wire.place < length groups =
    subst (λ n. c.loop-wire.place < n) (length-map plain_group groups) (begins_within (group_of tree part) (map plain_group groups) c.loop-wire.place (written.plain_group c.in-Group.item) left b) in
    same_at (map plain_group groups) c.loop-wire.place _ _
    (item_at plain_group groups c.loop-wire.place c.index-groups-place.result within c.index-groups-place.is)
    (begins_item (group_of tree part) (map plain_group groups) c.loop-wire.place (written.plain_group c.in-Group.item) left b)

pub loop-wire-preserved : goal.loop-wire-preserved
loop-wire-preserved c =
    let tree = tree_at c.args.site in
    let part = part_at c.args.site in
    let i = instance_at c.args.site in
    let items = c.deref-wire-items.result.now in
    let index = c.loop-wire.wire-index in
    let groups = map plain_group c.as_slice-groups.result.now in
    let lengths = c.args.lengths.now in
    let place = c.loop-wire.place in
    let wire = c.wire-item.result in
    let left = drop index items in
    let rest = drop (index + 1) items in
    let after = groups_in (map written.plain_wire rest) in
    let there = drop_item items index wire c.wire-item.is c.loop-wire-test.true in
    elim c.match-wire.branch [
      | in-Group+in_ok-group-in-Group+in_ok-push-in-Group w ↦
          let item = written.plain_group w.in-Group.item in
          let timed = begins_group (length_of tree part i) (drop place lengths) left rest wire there w.in-Group.item w.in-Group.is c.loop-wire.invariant.lengths in
          let numbered = begins_group (group_of tree part) (drop place groups) left rest wire there w.in-Group.item w.in-Group.is c.loop-wire.invariant.groups in
          let length_is = read_got lengths place (length_of tree part i item) _ (begins_item (length_of tree part i) lengths place item after timed) in
          record {
            made = ap (λ list. map written.plain_wire list.items ++ map (promote_wire tree part i) (map written.plain_wire rest)) w.promoted-is
                ∙ wires_next (promote_wire tree part i) w.push.new.self.items c.loop-wire.promoted.items left rest wire (wire_items.Group w.in_ok-group-in-Group.group) _
                w.in_ok-push-in-Group.ensures.items there
                (ap written.Group (w.in_ok-group-in-Group.ensures.value ∙ ap (λ length. promote_group (enables tree part i) length item) length_is)
                ∙ sym (ap (λ x. promote_wire tree part i (written.plain_wire x)) w.in-Group.is))
                c.loop-wire.invariant.made;
            lengths = subst (λ k. Begins (length_of tree part i) (drop k lengths) after) (sym w.place-is) (begins_next (length_of tree part i) lengths place item after timed);
            groups = subst (λ k. Begins (group_of tree part) (drop k groups) after) (sym w.place-is) (begins_next (group_of tree part) groups place item after numbered);
          }
      | in-Assign+in_ok-copied_assign-in-Assign+in_ok-push-in-Assign w ↦
          record {
            made = ap (λ list. map written.plain_wire list.items ++ map (promote_wire tree part i) (map written.plain_wire rest)) w.promoted-is
                ∙ wires_next (promote_wire tree part i) w.push-in-Assign.new.self.items c.loop-wire.promoted.items left rest wire (wire_items.Assign w.in_ok-copied_assign-in-Assign.field-0) _
                w.in_ok-push-in-Assign.ensures.items there
                (ap written.Assign w.in_ok-copied_assign-in-Assign.ensures.value ∙ sym (ap (λ x. promote_wire tree part i (written.plain_wire x)) w.in-Assign.is))
                c.loop-wire.invariant.made;
            lengths = subst (λ k. Begins (length_of tree part i) (drop k lengths) after) (sym w.place-is) (begins_assign (length_of tree part i) (drop place lengths) left rest wire there w.in-Assign.item w.in-Assign.is c.loop-wire.invariant.lengths);
            groups = subst (λ k. Begins (group_of tree part) (drop k groups) after) (sym w.place-is) (begins_assign (group_of tree part) (drop place groups) left rest wire there w.in-Assign.item w.in-Assign.is c.loop-wire.invariant.groups);
          }
    ]
