use Rattle.std.proofs.Common.{None}
use Rattle.cx_design.specs.PlainDesigns.{plain_design}
use Rattle.cx_race.specs.RaceBreaks.{IsBeforeOf, Looked}
use Rattle.cx_race.proofs.checking.first_break.Given as goal

-- the components so far are looked at
abbrev pub invariant-loop-number : goal.invariant-loop-number
invariant-loop-number l = Looked (plain_design l.design) (IsBeforeOf l.number) None l.first
