use Rattle.std.proofs.Common.{rules, tests, ◌≡◌, ◌<◌, ℕ, Bor, List, length, map, get_or, sym, ap, ◌∙◌, subst}
use Rattle.std.specs.Str.Parse.{digits_value}
use Rattle.std.proofs.lemmas.Iterator.Consumers.{YieldsList-at}
use Rattle.std.proofs.lemmas.Iterator.Splits.{YieldsList-from_slice_split}
use Rattle.std.proofs.lemmas.Simd.{map-map}
use Rattle.std.proofs.lemmas.List.Elements.{All-get_or}
use Rattle.cx_commands.specs.Lists.{IsChoice, parts_of}
use Rattle.cx_commands.proofs.Yielded.{seen_all, sees_next, some_number}
use Rattle.cx_commands.proofs.lists.numbers.Goals as goal

pub loop-part-preserved : goal.loop-part-preserved
loop-part-preserved c =
    let next : (length c.loop-part.yielded < length (parts_of c.args.word.now)) × (c.in-Some.part.now ≡ get_or (parts_of c.args.word.now) (length c.loop-part.yielded) c.in-Some.part.now) =
    sees_next {v = λ (x : Bor (List ℕ)). x.now} c.loop-part.yielded _ _ _ c.in-Some.part c.loop-part.yielded_by c.in-Some.is c.next.ensures.steps
    (YieldsList-at c.into_iter-part-iterator.ensures.into_iter_gives
    (YieldsList-from_slice_split _ _ c.args.word.now c.split-part-items.ensures.rest c.split-part-items.ensures.done c.split-part-items.ensures.closure (λ x r q k. search (rules, tests)))) in
    let one : IsChoice c.in-Some.part.now = subst IsChoice (sym next.1) (All-get_or IsChoice (parts_of c.args.word.now) (length c.loop-part.yielded) c.in-Some.part.now next.0 c.requires.list.each) in
    absurd (some_number c.choice.result (IsChoice c.in-Some.part.now) _ c.choice.ensures one c.in_default.is)

pub returns : goal.returns
returns c =
    let whole : (map (λ (x : Bor (List ℕ)). x.now) c.loop-part.yielded ≡ parts_of c.args.word.now) × (length c.loop-part.yielded ≡ length (parts_of c.args.word.now)) =
    seen_all {v = λ (x : Bor (List ℕ)). x.now} c.loop-part.yielded _ _ _ c.loop-part.yielded_by c.in-None.is c.next.ensures.steps
    (YieldsList-at c.into_iter-part-iterator.ensures.into_iter_gives
    (YieldsList-from_slice_split _ _ c.args.word.now c.split-part-items.ensures.rest c.split-part-items.ensures.done c.split-part-items.ensures.closure (λ x r q k. search (rules, tests)))) in
    record { numbers = c.loop-part.invariant ∙ sym (map-map (digits_value 10) (λ (x : Bor (List ℕ)). x.now) c.loop-part.yielded) ∙ ap (λ xs. map (digits_value 10) xs) whole.0 }
