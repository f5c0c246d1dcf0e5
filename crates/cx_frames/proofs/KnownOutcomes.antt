-- Worked outcomes of two arms, each from the sentence above it.
use Rattle.std.specs.Prelude.{◌≡◌, refl}
use Rattle.cx_meaning.specs.Cycles.{Fault}
use Rattle.cx_frames.specs.Ran.{Ended, Faulted, Unfinished, limit, joined}

-- one arm of 3 turns beside one of 5: 5 turns
pub known_ends : joined (Ended 3) (Ended 5) ≡ Ended 5
known_ends = refl

-- the first arm has a fault in turn 4, so the second runs for 4 turns, and its fault in turn 2 is that of both
pub known_limit : (f : Fault) → limit 9 (Faulted f 4) ≡ 4
known_limit f = refl

pub known_earlier : (f g : Fault) → joined (Faulted f 4) (Faulted g 2) ≡ Faulted g 2
known_earlier f g = refl

-- and where the second has none before turn 4, that of the first is
pub known_first : (f : Fault) → joined (Faulted f 4) Unfinished ≡ Faulted f 4
known_first f = refl

-- an arm that has not ended beside one that has a fault
pub known_later : (g : Fault) → joined Unfinished (Faulted g 7) ≡ Faulted g 7
known_later g = refl
