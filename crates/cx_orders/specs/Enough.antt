-- Woven runs that end whatever the order.
use Rattle.std.specs.Prelude.{◌≡◌, ◌≤◌, ℕ, List}
use Rattle.cx_meaning.specs.Designs.{PlainDesign}
use Rattle.cx_meaning.specs.Instances.{State}
use Rattle.cx_orders.specs.Woven.{Choices, Ends, woven}

-- ALL ORDERS END in this state, after so many choices, with as many or more to make
abbrev pub AllEnd : PlainDesign → List (List ℕ) → State → Type 0
AllEnd d words after =
    (enough : ℕ) ×
    ((choice : Choices) (n : ℕ) → enough ≤ n → (sum : ℕ) × (woven d words choice n ≡ Ends after enough sum))
