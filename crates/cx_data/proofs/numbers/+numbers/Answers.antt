use Rattle.std.proofs.Common.{◌≡◌, ◌∙◌, eqb, true, false, eq-eqb, ne_eqb}
use Rattle.serde_json.proofs.Views.{items_len-items_view}
use Rattle.serde_json.specs.Events.{items_len}
use Rattle.serde_json.specs.View.{items_view}
use Rattle.cx_data.proofs.numbers.+numbers.Goals as goal

pub push_items-returns-then-items-size : goal.push_items-returns-then-items-size
push_items-returns-then-items-size t c =
    let many : eqb (items_len (items_view c.args.items.now)) c.args.size ≡ true =
    eq-eqb _ _ (items_len-items_view c.args.items.now ∙ c.if-items-size.true) in
    record { value = rw many c.push_each.ensures.value }

pub push_items-returns-else-items-size : goal.push_items-returns-else-items-size
push_items-returns-else-items-size t c =
    let other : eqb (items_len (items_view c.args.items.now)) c.args.size ≡ false =
    ne_eqb _ _ (rw (items_len-items_view c.args.items.now) c.if-items-size.false) in
    record { value = rw other }
