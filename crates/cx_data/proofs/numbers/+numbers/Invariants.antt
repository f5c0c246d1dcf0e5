use Rattle.std.proofs.Common.{◌≡◌, ◌++◌, ◌+◌, ◌*◌, drop, length, map, option_map}
use Rattle.serde_json.specs.View.{items_view, number_view}
use Rattle.cx_data.specs.Numbers.{numbers_of, numbers_of_each}
use Rattle.cx_data.proofs.numbers.+numbers.Given as goal

abbrev pub decreases-push_numbers : goal.decreases-push_numbers
decreases-push_numbers l = 3 * length l.sizes.now

abbrev pub decreases-push_each : goal.decreases-push_each
decreases-push_each l = 3 * length l.sizes.now + 1

abbrev pub decreases-push_items : goal.decreases-push_items
decreases-push_items l = 3 * length l.sizes.now + 2

abbrev pub invariant-push_each-loop-item : goal.invariant-push_each-loop-item
invariant-push_each-loop-item l =
    option_map (λ ns. map number_view l.numbers.items ++ ns) (numbers_of_each (numbers_of l.sizes) (items_view (drop l.item-index l.items)))
    ≡ option_map (λ ns. map number_view l.initial.numbers.items ++ ns) (numbers_of_each (numbers_of l.sizes) (items_view l.items))
