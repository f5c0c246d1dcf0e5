-- What parts of control count in an instance, with its inputs held, and what an island counts that keeps nothing but its samples.
use Rattle.std.specs.Prelude.{ℕ, zero, suc, List}
use Rattle.cx_meaning.specs.Designs.{PlainForm, PlainStatement, PlainStatements, statements_of}
use Rattle.cx_meaning.specs.Instances.{Instance, cells_of, part_of, State}
use Rattle.cx_meaning.specs.Active.{nothing, entries}
use Rattle.cx_meaning.specs.Sights.{Held, seen}
use Rattle.cx_meaning.specs.Islands.{form_length}
use Rattle.cx_meaning.specs.Running.{leaves, control_below}
use Rattle.cx_laws.specs.Samples.{Samples, says, active_by, samples_after}
use Rattle.cx_laws.specs.SampledIslands.{sampled_turn}
use Rattle.cx_rewrites.specs.Tallies.{none, plus, Counted, turn_count, Counting, count_form, count, count_parts, count_arms}
use Rattle.cx_profiling.specs.Counting.{made_with, counting, count_below}

-- what the leaves of control count in an instance of the tree
abbrev pub counting_in : Instance → Held → Counting State
counting_in i held = counting i (count_below (cells_of i)) held

abbrev pub count_statement : Instance → Held → PlainStatement → Counted State
count_statement i held statement s n =
    count (leaves i (control_below (cells_of i)) held) (counting_in i held) statement s n

-- a form, the parts of a seq that are left, and some of the arms of a par, each from the same state
abbrev pub count_of_form : Instance → Held → PlainForm → Counted State
count_of_form i held form s n = count_form (leaves i (control_below (cells_of i)) held) (counting_in i held) form s n

abbrev pub count_of_parts : Instance → Held → PlainStatements → Counted State
count_of_parts i held parts s n =
    count_parts (leaves i (control_below (cells_of i)) held) (counting_in i held) parts s n

abbrev pub count_of_arms : Instance → Held → List PlainStatement → Counted State
count_of_arms i held arms s n =
    count_arms (leaves i (control_below (cells_of i)) held) (counting_in i held) (statements_of arms) s n

-- cycle t of an island and those after it, with so many left: each that goes on counts once each group that runs by the samples,
-- those of the cycle included
abbrev pub sampled_count_from : Instance → Held → PlainForm → ℕ → ℕ → Samples → Counted State
sampled_count_from i held form zero t kept s n = none
sampled_count_from i held form (suc left) t kept s zero = none
sampled_count_from i held form (suc left) t kept s (suc n) =
    let now : Samples = samples_after (part_of i) (says (seen i held nothing s)) t form kept in
    turn_count (sampled_turn i held form t now s)
    (λ after. plus (made_with (entries (active_by (part_of i) now t form)))
    (sampled_count_from i held form left (suc t) now after n))

-- WHAT AN ISLAND COUNTS BY ITS SAMPLES, whatever they are at first
abbrev pub sampled_count : Instance → Held → PlainForm → Samples → Counted State
sampled_count i held form kept s n = sampled_count_from i held form (form_length (part_of i) form) 0 kept s n
