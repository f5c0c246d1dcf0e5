-- The run of an island that keeps nothing of earlier cycles but its samples, and unrolls nothing.
use Rattle.std.specs.Prelude.{ℕ, zero, suc}
use Rattle.cx_meaning.specs.Designs.{PlainForm}
use Rattle.cx_meaning.specs.Instances.{Instance, part_of, State, idle}
use Rattle.cx_meaning.specs.Active.{nothing, entries}
use Rattle.cx_meaning.specs.Sights.{Held, seen}
use Rattle.cx_meaning.specs.Cycles.{Fault, cycle}
use Rattle.cx_meaning.specs.Answers.{More, Meaning, idle_turn, Turn, turn_then}
use Rattle.cx_meaning.specs.Islands.{form_length, first_unclear, unless_unclear}
use Rattle.cx_laws.specs.Samples.{Samples, says, active_by, begun_by, samples_after}

-- cycle t: the ports of the static ifs that begin are seen, and then the cycle is made with the groups that run by the samples,
-- those of this cycle included
abbrev pub sampled_turn : Instance → Held → PlainForm → ℕ → Samples → State → Turn State Fault
sampled_turn i held form t kept s =
    unless_unclear (first_unclear (seen i held nothing s) (begun_by (part_of i) kept t form))
    (cycle i held (entries (active_by (part_of i) kept t form)) s)

-- from cycle t on, with so many cycles left, and after them one idle turn
abbrev pub sampled_from : Instance → Held → PlainForm → ℕ → ℕ → Samples → Meaning State Fault
sampled_from i held form zero t kept s n = idle_turn (idle i) s n
sampled_from i held form (suc left) t kept s zero = More
sampled_from i held form (suc left) t kept s (suc n) =
    turn_then (idle i) s
    (sampled_turn i held form t (samples_after (part_of i) (says (seen i held nothing s)) t form kept) s)
    (λ after. sampled_from i held form left (suc t)
    (samples_after (part_of i) (says (seen i held nothing s)) t form kept) after n)

-- AN ISLAND BY ITS SAMPLES, whatever they are at first
abbrev pub sampled_island : Instance → Held → PlainForm → Samples → Meaning State Fault
sampled_island i held form kept s n = sampled_from i held form (form_length (part_of i) form) 0 kept s n
