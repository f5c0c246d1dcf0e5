use Rattle.std.proofs.Common.{◌≡◌, ℕ, ◌+◌, ◌^◌}
use Rattle.cx_profiling.specs.Instrumented as instrumented
use Rattle.cx_profile.proofs.stores.address_width.Given as goal

-- no width below names all words, and so many steps are left
abbrev pub invariant-loop-step : goal.invariant-loop-step
invariant-loop-step l = record {
  named : l.named ≡ 2 ^ l.width;
  left : (more : ℕ) → more + l.step ≡ l.words → instrumented.width_from more l.width l.words ≡ instrumented.address_width l.words;
}
