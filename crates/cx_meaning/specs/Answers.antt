-- How runs end, and how the answers of parts make one: turns, budgets and faults. Nothing here knows a leaf of control,
-- a state or a fault.
use Rattle.std.specs.Prelude.{ℕ, zero, suc, ◌+◌, ◌-◌, max, nat_le, if◌then◌else◌}

-- within a budget of turns: the state in which the run ends and the turns that it took, or the fault and its turn,
-- counted from 0, or not yet ended
pub data Answer (S F : Type 0) : Type 0 where
  End : (after : S) (turns : ℕ) → Answer S F
  Fault : (fault : F) (turn : ℕ) → Answer S F
  More : Answer S F

-- what a statement means: its answer from a state, for a budget
abbrev pub Meaning : Type 0 → Type 0 → Type 0
Meaning S F = S → ℕ → Answer S F

-- so many turns later
abbrev pub after_turns : {S F : Type 0} → ℕ → Answer S F → Answer S F
after_turns k (End s t) = End s (k + t)
after_turns k (Fault f t) = Fault f (k + t)
after_turns k More = More

-- goes on from where a run with budget n ended, with what is left of it
abbrev pub then_do : {S F : Type 0} → Answer S F → ℕ → Meaning S F → Answer S F
then_do (End s t) n go = after_turns t (go s (n - t))
then_do (Fault f t) n go = Fault f t
then_do More n go = More

-- no turn
abbrev pub stay : {S F : Type 0} → Meaning S F
stay s n = End s 0

-- one turn in which every cell is idle
abbrev pub idle_turn : {S F : Type 0} → (S → S) → Meaning S F
idle_turn rest s zero = More
idle_turn rest s (suc n) = End (rest s) 1

-- what one turn comes to
pub data Turn (S F : Type 0) : Type 0 where
  -- it is idle, and the last
  Ends : Turn S F
  Goes : (after : S) → Turn S F
  Faults : (fault : F) → Turn S F

-- a turn, and then the rest with what is left of the budget
abbrev pub turn_then : {S F : Type 0} → (S → S) → S → Turn S F → (S → Answer S F) → Answer S F
turn_then rest s Ends go = End (rest s) 1
turn_then rest s (Goes after) go = after_turns 1 (go after)
turn_then rest s (Faults fault) go = Fault fault 0

-- one turn, and then the rest
abbrev pub one_turn : {S F : Type 0} → (S → S) → (S → Turn S F) → Meaning S F → Meaning S F
one_turn rest turn go s zero = More
one_turn rest turn go s (suc n) = turn_then rest s (turn s) (λ after. go after n)

-- one kind of turn again and again, until it is the last
abbrev pub turns_of : {S F : Type 0} → (S → S) → (S → Turn S F) → Meaning S F
turns_of rest turn s zero = More
turns_of rest turn s (suc n) = turn_then rest s (turn s) (λ after. turns_of rest turn after n)

-- what a test says
pub data Test (F : Type 0) : Type 0 where
  Holds : Test F
  Fails : Test F
  Unclear : (fault : F) → Test F

abbrev pub chosen : {S F : Type 0} → Test F → Answer S F → Answer S F → Answer S F
chosen Holds first second = after_turns 1 first
chosen Fails first second = after_turns 1 second
chosen (Unclear fault) first second = Fault fault 0

-- an idle turn for a test, and then one of two
abbrev pub test_turn : {S F : Type 0} → (S → S) → (S → Test F) → Meaning S F → Meaning S F → Meaning S F
test_turn rest test first second s zero = More
test_turn rest test first second s (suc n) = chosen (test s) (first (rest s) n) (second (rest s) n)

-- at most so many tests, each but the last with a run of the body after it
abbrev pub loop : {S F : Type 0} → ℕ → (S → S) → (S → Test F) → Meaning S F → Meaning S F
loop zero rest test body s n = More
loop (suc tests) rest test body s n =
    test_turn rest test (λ s1 m. then_do (body s1 m) m (loop tests rest test body)) stay s n

-- each test takes a turn, so a loop makes no more tests than its budget has turns
abbrev pub loop_of : {S F : Type 0} → (S → S) → (S → Test F) → Meaning S F → Meaning S F
loop_of rest test body s n = loop (suc n) rest test body s n

-- so many runs, one after the other
abbrev pub rounds : {S F : Type 0} → ℕ → Meaning S F → Meaning S F
rounds zero body s n = End s 0
rounds (suc k) body s n = then_do (body s n) n (rounds k body)

-- an arm beside the arms after it, each run alone with the same budget: the fault of the least turn, and of one turn that
-- of the first arm; else not yet ended where one has not; else the later end, with the state that the two make
abbrev pub both : {S F : Type 0} → (S → S → S) → Answer S F → Answer S F → Answer S F
both merged (End a t) (End b u) = End (merged a b) (max t u)
both merged (End a t) (Fault g u) = Fault g u
both merged (End a t) More = More
both merged (Fault f t) (End b u) = Fault f t
both merged (Fault f t) (Fault g u) = if nat_le t u then Fault f t else Fault g u
both merged (Fault f t) More = Fault f t
both merged More (End b u) = More
both merged More (Fault g u) = Fault g u
both merged More More = More
