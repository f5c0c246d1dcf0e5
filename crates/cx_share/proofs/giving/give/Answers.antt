use Rattle.std.proofs.Common.{◌≡◌, ◌∙◌, ◌<◌, ℕ, List, true, false, refl, ap, subst, sym, map, length, get_or}
use Rattle.std.proofs.lemmas.List.{length-map}
use Rattle.cx_share.specs.declared.giving.Kept.{Kept}
use Rattle.cx_sharing.specs.Giving as giving
use Rattle.cx_design.specs.PlainForms.{plain_cell, plain_component}
use Rattle.cx_share.specs.Givings.{IsNear, no_kept, plain_kept}
use Rattle.cx_share.proofs.GiveLemmas.{given_more, kept_more, near_at, near_given, near_kept, near_push, near_set}
use Rattle.cx_share.proofs.RefusedLemmas.{refused_push, refused_set, within_adds}
use Rattle.cx_share.proofs.giving.give.Goals as goal

pub add_given-requires : goal.add_given-requires
add_given-requires c =
    let part = plain_component c.args.part.now in
    let kept = c.args.kept.now.items in
    let taker = c.in-Some.taker in
    let inside : List Kept → Type 0 = λ xs. taker < length xs in
    let near : IsNear part c.index_mut.result.now = near_at part kept taker c.index_mut.result.now (subst inside c.as_slice.ensures.value c.in-Some.ensures.within) c.index_mut.ensures.value c.requires.near in
    record { count = c.requires.count ∙ sym (near.count ∙ length-map c.args.part.now.cells.items plain_cell) }

pub returns-in_ok-add_given-in-Some-clause-value : goal.returns-in_ok-add_given-in-Some-clause-value
returns-in_ok-add_given-in-Some-clause-value c =
    let e = c.as_slice.ensures.value in
    let part = plain_component c.args.part.now in
    let taker = c.in-Some.taker in
    let inside : List Kept → Type 0 = λ xs. taker < length xs in
    let first : List Kept → Type 0 = λ xs. (k : ℕ) → k < taker → giving.takes part c.args.cell (get_or (map plain_kept xs) k no_kept) ≡ false in
    let taken : List Kept → Type 0 = λ xs. giving.takes part c.args.cell (get_or (map plain_kept xs) taker no_kept) ≡ true in
    given_more part c.args.cell c.args.kept.now.items taker c.index_mut.result.now c.add_given.new.kept (subst inside e c.in-Some.ensures.within) c.index_mut.ensures.value c.in_ok-add_given-in-Some.ensures.cell
    c.in_ok-add_given-in-Some.ensures.given (subst first e c.in-Some.ensures.first) (subst taken e c.in-Some.ensures.takes)

pub returns-in_ok-add_given-in-Some-clause-near : goal.returns-in_ok-add_given-in-Some-clause-near
returns-in_ok-add_given-in-Some-clause-near c =
    let part = plain_component c.args.part.now in
    let kept = c.args.kept.now.items in
    let taker = c.in-Some.taker in
    let inside : List Kept → Type 0 = λ xs. taker < length xs in
    let near : IsNear part c.index_mut.result.now = near_at part kept taker c.index_mut.result.now (subst inside c.as_slice.ensures.value c.in-Some.ensures.within) c.index_mut.ensures.value c.requires.near in
    let now = c.in_ok-add_given-in-Some.ensures in
    near_set part kept taker c.add_given.new.kept c.requires.near
    (near_given part c.args.cell c.index_mut.result.now c.add_given.new.kept c.args.row.now now.cell now.given now.near (c.requires.count ∙ sym (length-map c.args.part.now.cells.items plain_cell)) c.requires.row near)

pub returns-in_ok-push-in-None-clause-value : goal.returns-in_ok-push-in-None-clause-value
returns-in_ok-push-in-None-clause-value c =
    let e = c.as_slice.ensures.value in
    let part = plain_component c.args.part.now in
    let none : List Kept → Type 0 = λ xs. (k : ℕ) → k < length xs → giving.takes part c.args.cell (get_or (map plain_kept xs) k no_kept) ≡ false in
    ap (map plain_kept) c.in_ok-push-in-None.ensures.items ∙ kept_more part c.args.cell c.args.kept.now.items _ refl c.new.ensures.items (subst none e c.in-None.ensures.none)

pub returns-in_ok-push-in-None-clause-near : goal.returns-in_ok-push-in-None-clause-near
returns-in_ok-push-in-None-clause-near c =
    let part = plain_component c.args.part.now in
    rw c.in_ok-push-in-None.ensures.items
    (near_push part c.args.kept.now.items _ c.requires.near
    (near_kept part c.args.cell _ c.args.row.now refl c.new.ensures.items c.in_ok-copied-in-None.ensures.value (c.requires.count ∙ sym (length-map c.args.part.now.cells.items plain_cell)) c.requires.row))

pub returns-in_ok-add_given-in-Some-clause-refused : goal.returns-in_ok-add_given-in-Some-clause-refused
returns-in_ok-add_given-in-Some-clause-refused c =
    let e = c.as_slice.ensures.value in
    let taker = c.in-Some.taker in
    let inside : List Kept → Type 0 = λ xs. taker < length xs in
    refused_set c.args.kept.now.items c.args.refused.now taker c.index_mut.result.now c.add_given.new.kept (subst inside e c.in-Some.ensures.within) c.index_mut.ensures.value
    (within_adds c.index_mut.result.now.near c.add_given.new.kept.near _ c.in_ok-add_given-in-Some.ensures.near) c.requires.refused

pub returns-in_ok-push-in-None-clause-refused : goal.returns-in_ok-push-in-None-clause-refused
returns-in_ok-push-in-None-clause-refused c =
    rw c.in_ok-push-in-None.ensures.items (refused_push c.args.kept.now.items c.args.refused.now _ c.requires.refused)
