use Rattle.std.proofs.Common.{◌≡◌, ◌+◌, length, drop, sym, subst, arith}
use Rattle.std.proofs.lemmas.List.{length-map}
use Rattle.cx_velab.specs.Rows.{placed_of}
use Rattle.cx_velab.specs.Driven.{KeepsRight}
use Rattle.cx_vsim.specs.Tables.{tree_of}
use Rattle.cx_vsim.specs.Passes.{DrivenBelow}
use Rattle.cx_vsim.proofs.PassLemmas.{driven_none, driven_more, all_driven}
use Rattle.cx_text.proofs.ListLaws.{written_back}
use Rattle.cx_vsim.proofs.driving.drivers.Goals as goal

pub loop-i-init : goal.loop-i-init
loop-i-init c =
    let t = c.args.table.now in
    subst (DrivenBelow (tree_of t) t.codes.items 0) (sym (c.in_ok-drivers.ensures.items_if_clones_equal (λ y h. h)))
    (driven_none (tree_of t) t.codes.items c.args.count c.requires.tree.tidy c.requires.count)

pub loop-i-preserved : goal.loop-i-preserved
loop-i-preserved c =
    let t = c.args.table.now in
    let tree = tree_of t in
    let codes = t.codes.items in
    let old = c.loop-i.drivers.items in
    let new = c.drive_row.new.drivers in
    let was = c.loop-i.invariant.whole in
    let is = c.drive_row.ensures.whole in
    let long : c.loop-i.drivers.len ≡ length new = omega (arith, was, is, c.loop-i.drivers.ok.0) in
    let keeps = subst (λ l. KeepsRight tree codes l new) c.deref_mut.ensures.value c.drive_row.ensures.kept in
    subst (DrivenBelow tree codes (c.loop-i.i + 1)) (sym (written_back new (drop (length new) old) c.loop-i.drivers.len long))
    (driven_more tree codes c.loop-i.i old new c.loop-i.invariant keeps c.drive_row.ensures.whole c.drive_row.ensures.tied c.drive_row.ensures.given)

pub returns : goal.returns
returns c =
    let t = c.args.table.now in
    let tree = tree_of t in
    let long = length-map t.rows.items placed_of in
    let end : c.loop-i.i ≡ length tree = omega (arith, long, c.loop-i-test.false, c.loop-i.auto.i-end, c.len-i-end.ensures, t.rows.ok.0) in
    all_driven tree t.codes.items c.loop-i.drivers.items (subst (λ n. DrivenBelow tree t.codes.items n c.loop-i.drivers.items) end c.loop-i.invariant)
