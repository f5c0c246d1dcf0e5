use Rattle.std.proofs.Common.{◌≡◌, ◌+◌, Bool, drop, sym, ap, ◌∙◌, None, if◌then◌else◌}
use Rattle.cx_text.proofs.ListLaws.{drop_item}
use Rattle.cx_ast.specs.PlainTree.{plain_assign}
use Rattle.cx_rules.specs.Ports.{is_primitive_enable}
use Rattle.cx_numbering.specs.DesignOf.{assign_of}
use Rattle.cx_design.specs.declared.groups.Assign.{Assign}
use Rattle.cx_design.specs.PlainForms as design
use Rattle.cx_promotion.specs.Rewriting.{enables}
use Rattle.cx_promote.specs.Sites.{instance_at, part_at, tree_at}
use Rattle.cx_promote.proofs.ListLemmas.{found_at, map-map}
use Rattle.cx_promote.proofs.GroupLemmas.{kept_next}
use Rattle.cx_promote.proofs.groups.static_assigns.Goals as goal

pub loop-place-preserved : goal.loop-place-preserved
loop-place-preserved c =
    let tree = tree_at c.args.site in
    let part = part_at c.args.site in
    let i = instance_at c.args.site in
    let items = c.args.items.now in
    let item = c.index-items-place.result in
    let assign = c.index-assigns-place.result in
    let place = c.loop-place.place in
    let same = c.requires.its ∙ map-map (assign_of tree part) plain_assign items in
    let made : design.plain_assign assign ≡ assign_of tree part (plain_assign item) =
    found_at design.plain_assign (λ a. assign_of tree part (plain_assign a)) c.args.assigns.now items place assign item same c.index-assigns-place.is c.loop-place-test.true c.index-items-place.is in
    kept_next (enables tree part i) c.push.new.self.items c.loop-place.kept.items (drop place items) (drop (place + 1) items) item c.in_ok-kept_assign.field-0 _
    c.in_ok-push.ensures.items (drop_item items place item c.index-items-place.is c.loop-place-test.true) (sym c.is_hole_item.ensures.value ∙ c.if-is_hole_item.false)
    (c.in_ok-kept_assign.ensures.value
    ∙ ap (λ (bare : Bool). if bare then record (plain_assign item) { guard = None } else plain_assign item)
    (c.is_primitive_enable-enables.ensures.value ∙ ap (λ (a : Assign). is_primitive_enable i a.target) (sym c.index-assigns-place.is) ∙ ap (λ a. is_primitive_enable i a.target) made))
    c.loop-place.invariant
