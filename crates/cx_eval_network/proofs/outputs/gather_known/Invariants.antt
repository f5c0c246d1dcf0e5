use Rattle.std.proofs.Common.{◌≡◌, ◌≤◌, ℕ, None, get_or, length, nat_lt}
use Rattle.cx_meaning.specs.declared.sights.Seen.{Seen}
use Rattle.cx_eval_drives.proofs.GatherLemmas.{IsSoFar}
use Rattle.cx_eval_network.specs.Evaluated.{InputsAgree}
use Rattle.cx_eval_network.proofs.outputs.gather_known.Given as goal

-- the first ports are gathered, and nothing stands in the slots behind
abbrev pub invariant-loop-port : goal.invariant-loop-port
invariant-loop-port l = record {
  sized : length l.inputs ≡ length l.fn.inputs;
  far : (look : ℕ → Seen) → InputsAgree l.own l.first l.reads look → IsSoFar look (λ q. nat_lt q l.reads) (length l.fn.inputs) l.inputs l.port;
  bare : (n : ℕ) → l.port ≤ n → get_or l.inputs n None ≡ None;
}
