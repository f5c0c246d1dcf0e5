use Rattle.cx_design.specs.PlainDesigns.{plain_design}
use Rattle.cx_comb.proofs.BreakLemmas.{FirstSo}
use Rattle.cx_comb.proofs.checking.first_break.Given as goal

-- the first of the components so far
abbrev pub invariant-loop-number : goal.invariant-loop-number
invariant-loop-number l = FirstSo (plain_design l.design) l.number l.first
