-- The samples of an island as hardware takes them: a static if that begins takes its port, where those around it go to it, and
-- keeps it until it begins again.
use Rattle.std.specs.Prelude.{ℕ, zero, suc, ◌+◌, ◌-◌, ◌%◌, nat_lt, nat_eq, Bool, false, not, Option, Some, None, option_and_then, option_map, if◌then◌else◌}
use Rattle.cx_meaning.specs.declared.ports.PortRef.{PortRef}
use Rattle.cx_meaning.specs.Designs.{PlainComponent, PlainForm, Empty, Enable, Seq, Par, If, While, Repeat, StaticSeq, StaticPar, StaticIf, StaticRepeat, Timed, PlainStatement, Placed, PlainStatements, no_statements, a_statement}
use Rattle.cx_meaning.specs.Islands.{length_of}
use Rattle.cx_laws.specs.Samples.{Samples, ifs_of}

-- an offset in a part that begins at once
abbrev pub within_length : ℕ → ℕ → Option ℕ
within_length length j = if nat_lt j length then Some j else None

-- an offset in a part that begins after a part
abbrev pub behind_length : ℕ → ℕ → Option ℕ
behind_length length j = if nat_lt j length then None else Some (j - length)

-- a static if takes its port where it begins
abbrev pub taken : Bool → Bool → Option ℕ → Bool
taken now kept None = kept
taken now kept (Some zero) = now
taken now kept (Some (suc j)) = kept

-- a branch is live where its static if goes to it
abbrev pub where_so : Bool → Option ℕ → Option ℕ
where_so so live = if so then live else None

module _ (part : PlainComponent) (now : PortRef → Bool) (kept : Samples) where
  abbrev mutual
    -- sample m, of a statement whose first static if has number n and which is at an offset, where it is live
    pub form_now : PlainForm → ℕ → Option ℕ → ℕ → Bool
    form_now Empty n live m = false
    form_now (Enable g) n live m = false
    form_now (Seq parts) n live m = false
    form_now (Par arms) n live m = false
    form_now (If test comb a b) n live m = false
    form_now (While test comb a) n live m = false
    form_now (Repeat count a) n live m = false
    form_now (StaticSeq length parts) n live m = parts_now parts n live m
    form_now (StaticPar length arms) n live m = arms_now arms n live m
    form_now (StaticIf length test a b) n live m =
        if nat_eq m n then taken (now test.port) (kept n) live
        else if nat_lt m (suc n + ifs_of a)
        then statement_now a (suc n) (where_so (taken (now test.port) (kept n) live) live) m
        else statement_now b (suc n + ifs_of a) (where_so (not (taken (now test.port) (kept n) live)) live) m
    form_now (StaticRepeat length count a) n live m = statement_now a n (option_map (λ j. j % length_of part a) live) m
    form_now (Timed k) n live m = false

    -- within its length
    pub statement_now : PlainStatement → ℕ → Option ℕ → ℕ → Bool
    statement_now (Placed form place) n live m =
        form_now form n (option_and_then (within_length (length_of part (Placed form place))) live) m

    pub parts_now : PlainStatements → ℕ → Option ℕ → ℕ → Bool
    parts_now no_statements n live m = false
    parts_now (a_statement s ss) n live m =
        if nat_lt m (n + ifs_of s) then statement_now s n live m
        else parts_now ss (n + ifs_of s) (option_and_then (behind_length (length_of part s)) live) m

    pub arms_now : PlainStatements → ℕ → Option ℕ → ℕ → Bool
    arms_now no_statements n live m = false
    arms_now (a_statement s ss) n live m =
        if nat_lt m (n + ifs_of s) then statement_now s n live m else arms_now ss (n + ifs_of s) live m

-- the samples in cycle t of an island, from those of the cycle before
abbrev pub samples_now : PlainComponent → (PortRef → Bool) → ℕ → PlainForm → Samples → Samples
samples_now part now t form kept = form_now part now kept form 0 (Some t)
