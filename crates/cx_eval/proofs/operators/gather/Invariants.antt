use Rattle.std.proofs.Common.{◌≡◌, ◌≤◌, ℕ, None, get_or, length, nat_lt}
use Rattle.cx_meaning.specs.declared.sights.Seen.{Seen}
use Rattle.cx_eval_drives.proofs.GatherLemmas.{IsSoFar}
use Rattle.cx_eval_network.specs.Askings.{asked_of}
use Rattle.cx_eval.specs.Shown.{ShowLook}
use Rattle.cx_eval.proofs.operators.gather.Given as goal

-- what the first sources are seen as is gathered, and nothing stands in the slots behind
abbrev pub invariant-loop-port : goal.invariant-loop-port
invariant-loop-port l = record {
  sized : length l.inputs ≡ length l.fn.inputs;
  far : (look : ℕ → Seen) → ShowLook (asked_of l.asking) l.slots l.sources look → IsSoFar look (λ q. nat_lt q (length l.sources)) (length l.fn.inputs) l.inputs l.port;
  bare : (n : ℕ) → l.port ≤ n → get_or l.inputs n None ≡ None;
}
