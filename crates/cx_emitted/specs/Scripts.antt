-- SCRIPTS of waiting and running, for whatever makes cycles.
use Rattle.std.specs.Prelude.{ℕ, suc, Bool, true, false, List, [], ◌∷◌}

-- what is done with go: it is 0 in one cycle; or it is 1 up to the cycle of this number, in which done comes for the first time
pub data Stay : Type 0 where
  Wait : Stay
  Run : (turns : ℕ) → Stay

-- cycle go s done t: in a cycle with this go that begins in state s, done is this, and the edge at its end leads to state t.
-- UNDONE: in so many cycles with go, one behind the other, done is 0
pub data Undone {S : Type 0} (cycle : Bool → S → Bool → S → Type 0) : S → ℕ → S → Type 0 where
  here : {s : S} → Undone cycle s 0 s
  further : {s t u : S} {n : ℕ} → cycle true s false t → Undone cycle t n u → Undone cycle s (suc n) u

-- THE CYCLES OF A SCRIPT: done is 0 in each that waits, and of each run it is 1 in the last cycle and in no other
pub data Passes {S : Type 0} (cycle : Bool → S → Bool → S → Type 0) : S → List Stay → S → Type 0 where
  over : {s : S} → Passes cycle s [] s
  waits : {s t u : S} {later : List Stay} → cycle false s false t → Passes cycle t later u
      → Passes cycle s (Wait ∷ later) u
  runs : {s last t u : S} {turns : ℕ} {later : List Stay} → Undone cycle s turns last
      → cycle true last true t → Passes cycle t later u → Passes cycle s (Run turns ∷ later) u
