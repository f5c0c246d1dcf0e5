use Rattle.std.proofs.Common.{◌≡◌, ◌<◌, ◌+◌, ◌∷◌, [], ◌∙◌, false, ap, length, map, replicate, arith}
use Rattle.std.proofs.lemmas.List.{length-append}
use Rattle.cx_meaning.specs.Designs.{PlainGroup}
use Rattle.cx_meaning.specs.Control.{assigns_drive}
use Rattle.cx_sharing.specs.Uses.{assigns_use, is_candidate}
use Rattle.cx_design.specs.PlainForms.{plain_assigns, plain_component, plain_group, plain_kind}
use Rattle.cx_share.specs.Marks.{Adds, any_of}
use Rattle.cx_share.proofs.MarkLemmas.{filled_at, marks_next}
use Rattle.cx_share.proofs.GiveLemmas.{free_is, kind_there}
use Rattle.cx_share.proofs.candidates.candidates.Goals as goal

pub loop-number-preserved : goal.loop-number-preserved
loop-number-preserved c =
    let part = plain_component c.args.part.now in
    let cells = c.args.part.now.cells.items in
    let n = c.loop-number.number in
    let cell = c.index-cells-number.result in
    let inv = c.loop-number.invariant in
    let first : c.len.result ≡ length cells = omega (arith, c.len.ensures, c.args.part.now.cells.ok.0) in
    let second : c.len-2.result ≡ length cells = omega (arith, c.len-2.ensures, c.args.part.now.cells.ok.0) in
    let inside : n < length cells = rw c.as_slice-cells.ensures.value at c.loop-number-test.true in
    let drives = λ (g : PlainGroup). assigns_drive g.assigns in
    let driven : Adds (replicate c.len.result false) c.add_driven.new.marks (any_of drives (map plain_group c.as_slice.result.now)) = rw c.in_ok-driven.ensures.value at c.add_driven.ensures.value in
    let named : Adds (replicate c.len-2.result false) c.add_assigns.new.marks (assigns_use (plain_assigns c.as_slice-2.result.now)) = rw c.in_ok-named.ensures.value at c.in_ok-add_assigns.ensures.value in
    let is_driven =
    c.has-is_driven.ensures.value
    ∙ filled_at c.len.result c.add_driven.new.marks (any_of drives (map plain_group c.as_slice.result.now)) driven n (omega (arith, first, inside))
    ∙ ap (λ xs. any_of drives (map plain_group xs) n) c.as_slice.ensures.value in
    let is_named =
    c.has-is_named.ensures.value
    ∙ filled_at c.len-2.result c.add_assigns.new.marks (assigns_use (plain_assigns c.as_slice-2.result.now)) named n (omega (arith, second, inside))
    ∙ ap (λ xs. assigns_use (plain_assigns xs) n) c.as_slice-2.ensures.value in
    let free : c.is_free.result ≡ is_candidate part n =
    free_is part n (plain_kind cell.kind) c.has-is_driven.result c.has-is_named.result c.is_free.result (kind_there cells n cell inside (rw c.as_slice-cells.ensures.value at c.index-cells-number.is)) is_driven is_named c.is_free.ensures.value in
    record {
      count = ap length c.in_ok-push.ensures.items ∙ length-append c.loop-number.marks.items (c.is_free.result ∷ []) ∙ ap (λ k. k + 1) inv.count;
      each = rw c.in_ok-push.ensures.items (marks_next (is_candidate part) c.loop-number.marks.items n c.is_free.result inv.count inv.each free);
    }
