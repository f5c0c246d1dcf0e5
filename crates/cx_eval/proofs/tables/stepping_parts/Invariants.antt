use Rattle.cx_design.specs.PlainDesigns.{plain_design}
use Rattle.cx_eval.proofs.MakingLemmas.{AreFirstParts}
use Rattle.cx_eval.proofs.tables.stepping_parts.Given as goal

-- the components so far
abbrev pub invariant-loop-number : goal.invariant-loop-number
invariant-loop-number l = AreFirstParts (plain_design l.design) l.number l.parts.items
