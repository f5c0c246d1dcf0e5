use Rattle.std.proofs.Common.{rules, tests, not, ◌≡◌, ◌<◌, ℕ, Bor, All, List, length, map, get_or, sym, ap, ◌∙◌, subst, arith}
use Rattle.std.proofs.lemmas.Iterator.Consumers.{YieldsList-at}
use Rattle.std.proofs.lemmas.Iterator.Splits.{YieldsList-from_slice_split}
use Rattle.std.proofs.lemmas.List.Elements.{All-map, All-get_or}
use Rattle.cx_commands.specs.Lists.{IsChoice, parts_of}
use Rattle.cx_commands.proofs.Yielded.{seen_all, sees_next, is_some_number}
use Rattle.cx_commands.proofs.lists.is_list.Goals as goal
use Rattle.cx_commands.proofs.lists.is_list.Goals.{then-count-eq-CHOICES-via-then-count-eq-CHOICES, then-count-eq-CHOICES-via-else-count-eq-CHOICES+then-is_none}

pub returns-then-count-eq-CHOICES : goal.returns-then-count-eq-CHOICES
returns-then-count-eq-CHOICES c = λ list.
    let next : (length c.loop-part.yielded < length (parts_of c.args.word.now)) × (c.in-Some.part.now ≡ get_or (parts_of c.args.word.now) (length c.loop-part.yielded) c.in-Some.part.now) =
    sees_next {v = λ (x : Bor (List ℕ)). x.now} c.loop-part.yielded _ _ _ c.in-Some.part c.loop-part.yielded_by c.in-Some.is c.next.ensures.steps
    (YieldsList-at c.into_iter-part-iterator.ensures.into_iter_gives
    (YieldsList-from_slice_split _ _ c.args.word.now c.split-part-items.ensures.rest c.split-part-items.ensures.done c.split-part-items.ensures.closure (λ x r q k. search (rules, tests)))) in
    let one : IsChoice c.in-Some.part.now = subst IsChoice (sym next.1) (All-get_or IsChoice (parts_of c.args.word.now) (length c.loop-part.yielded) c.in-Some.part.now next.0 list.each) in
    elim c.then-count-eq-CHOICES.branch [
      | then-count-eq-CHOICES-via-then-count-eq-CHOICES w ↦ (let m = list.most in let n = next.0 in let i = c.loop-part.invariant.0 in let e = w.if-count-eq-CHOICES.true in omega (arith, m, n, i, e))
      | then-count-eq-CHOICES-via-else-count-eq-CHOICES+then-is_none w ↦ is_some_number w.choice.result (IsChoice c.in-Some.part.now) _ w.choice.ensures one (w.is_none.ensures ∙ ap not w.if-is_none.true)
    ]

pub returns : goal.returns
returns c =
    let whole : (map (λ (x : Bor (List ℕ)). x.now) c.loop-part.yielded ≡ parts_of c.args.word.now) × (length c.loop-part.yielded ≡ length (parts_of c.args.word.now)) =
    seen_all {v = λ (x : Bor (List ℕ)). x.now} c.loop-part.yielded _ _ _ c.loop-part.yielded_by c.in-None.is c.next.ensures.steps
    (YieldsList-at c.into_iter-part-iterator.ensures.into_iter_gives
    (YieldsList-from_slice_split _ _ c.args.word.now c.split-part-items.ensures.rest c.split-part-items.ensures.done c.split-part-items.ensures.closure (λ x r q k. search (rules, tests)))) in
    record {
      each = subst (All IsChoice) whole.0 (All-map IsChoice (λ (x : Bor (List ℕ)). x.now) c.loop-part.yielded c.loop-part.invariant.2);
      most = (let m = c.loop-part.invariant in omega (arith, m, whole));
    }
