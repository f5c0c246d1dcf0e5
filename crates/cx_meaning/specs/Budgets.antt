-- What holds of answers under every budget.
use Rattle.std.specs.Prelude.{◌≡◌, ℕ, ◌<◌, ◌≤◌}
use Rattle.cx_meaning.specs.Answers.{Answer, End, Fault, More, Meaning}

-- an answer for a greater budget than n, where a run has not ended within n
abbrev pub Beyond : {S F : Type 0} → ℕ → Answer S F → Type 0
Beyond n (End s t) = n < t
Beyond n (Fault f t) = n ≤ t
Beyond n More = Unit {0}

-- an answer for budget n, and one for a greater budget: an end is within the budget and stays, so is a fault, and what has
-- not ended or faulted does so later
abbrev pub Grows : {S F : Type 0} → ℕ → Answer S F → Answer S F → Type 0
Grows n (End s t) later = (t ≤ n) × (later ≡ End s t)
Grows n (Fault f t) later = (t < n) × (later ≡ Fault f t)
Grows n More later = Beyond n later

-- a greater budget changes nothing but that more may be seen
abbrev pub IsSteady : {S F : Type 0} → Meaning S F → Type 0
IsSteady {S} meaning = (s : S) (n m : ℕ) → n ≤ m → Grows n (meaning s n) (meaning s m)

-- an end takes at least one turn
abbrev pub TakesTurns : {S F : Type 0} → Answer S F → Type 0
TakesTurns (End s t) = 1 ≤ t
TakesTurns (Fault f t) = Unit {0}
TakesTurns More = Unit {0}

-- where a run ends, this holds of the state that it leaves
abbrev pub Leaves : {S F : Type 0} → (S → Type 0) → Answer S F → Type 0
Leaves P (End s t) = P s
Leaves P (Fault f t) = Unit {0}
Leaves P More = Unit {0}
