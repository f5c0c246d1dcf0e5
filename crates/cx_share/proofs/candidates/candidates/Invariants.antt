use Rattle.std.proofs.Common.{◌≡◌, ℕ, ◌<◌, false, get_or, length}
use Rattle.cx_design.specs.PlainForms.{plain_component}
use Rattle.cx_sharing.specs.Uses.{is_candidate}
use Rattle.cx_share.proofs.candidates.candidates.Given as goal

-- the marks so far
abbrev pub invariant-loop-number : goal.invariant-loop-number
invariant-loop-number l = record {
  count : length l.marks.items ≡ l.number;
  each : (c : ℕ) → c < l.number → get_or l.marks.items c false ≡ is_candidate (plain_component l.part) c;
}
