use Rattle.std.proofs.Common.{◌≡◌, ◌+◌, ◌%◌, ◌^◌, ◌∷◌, ◌++◌, ◌∙◌, [], ap, ap₂, sym, sum_by, take}
use Rattle.std.proofs.Math.Nat.{mod-add-mod}
use Rattle.std.proofs.lemmas.List.{take_more, map-append}
use Rattle.std.proofs.lemmas.List.Sums.{sum_by_push}
use Rattle.cx_interp.specs.Counts.{count_at, plain_counts}
use Rattle.cx_flat.specs.Placing.{plain_place, plain_places}
use Rattle.cx_driver.specs.Placing.{count_of, number_along, total_in}
use Rattle.cx_driver.proofs.totals.total.Goals as goal

pub loop-place-preserved : goal.loop-place-preserved
loop-place-preserved c =
    let x = c.place-item.result in
    let k = c.loop-place.place-index in
    let places = c.args.places.now in
    let rows = c.args.table.now.rows.items in
    let children = c.args.table.now.children.items in
    let counts = plain_counts c.args.counts.now in
    let xs = plain_places (take k places) in
    let here : c.count-total.result ≡ count_of rows children counts (plain_place x) =
    c.count-total.ensures ∙ ap (λ n. count_at counts n x.group) (c.instance_along-instance.ensures.value ∙ ap (number_along rows children 0) c.as_slice.ensures.value) in
    let more : plain_places (take k places) ++ plain_place x ∷ [] ≡ plain_places (take (k + 1) places) =
    sym (ap plain_places (take_more places k x c.loop-place-test.true ∙ ap (λ y. take k places ++ y ∷ []) (sym c.place-item.is)) ∙ map-append plain_place (take k places) (x ∷ [])) in
    ap₂ (λ t v. (t + v) % 2 ^ 64) c.loop-place.invariant here
    ∙ mod-add-mod (sum_by (count_of rows children counts) xs) (2 ^ 64) (count_of rows children counts (plain_place x))
    ∙ ap (λ v. v % 2 ^ 64) (sym (sum_by_push (count_of rows children counts) xs (plain_place x)))
    ∙ ap (total_in rows children counts) more
