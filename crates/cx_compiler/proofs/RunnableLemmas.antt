-- The design that is run runs as the design means.
use Rattle.std.proofs.Common.{◌≡◌, ℕ, List, refl, sym, ap}
use Rattle.cx_meaning.specs.Designs.{PlainDesign}
use Rattle.cx_meaning.specs.Running.{run_main}
use Rattle.cx_rules.specs.Accepted.{IsAccepted}
use Rattle.cx_rules.specs.Externals.{external_rows}
use Rattle.cx_rules.specs.Flat.{IsFlat, ArePlainNames}
use Rattle.cx_rules.specs.Wellformed.{IsDesign}
use Rattle.cx_flattening.specs.Ends.{NoneNamesDone}
use Rattle.cx_flattening.specs.Told.{KeepsRuns, told}
use Rattle.cx_flattening.specs.Whole.{whole_main}
pub use Rattle.cx_flattening.proofs.RunnableLemmas.{by_static, runnable_flat, without_static}
use Rattle.cx_compiler.specs.Runnable.{RunsAsMeant}

-- THE RUN
abbrev pub Keeps : Type 0
Keeps = (d : PlainDesign) → IsDesign d → IsAccepted d → NoneNamesDone d → ArePlainNames d → KeepsRuns d

abbrev pub MeansTheSame : Type 0
MeansTheSame = (d : PlainDesign) (words : List (List ℕ)) (n : ℕ) → IsDesign d → IsFlat d → whole_main d words n ≡ run_main d words n

pub runs_as_meant : Keeps → MeansTheSame → (d : PlainDesign) → IsDesign d → IsAccepted d → NoneNamesDone d → ArePlainNames d → RunsAsMeant d
runs_as_meant keeps same d design accepted undone plain = record {
  rows = by_static d (λ e. external_rows e ≡ external_rows d) kept.rows (λ flat. refl);
  runs = λ words budget. by_static d (λ e. told e (run_main e words budget) ≡ told d (whole_main d words budget)) (kept.runs words budget) (λ flat. ap (told d) (sym (same d words budget design flat)));
}
  where
    kept : KeepsRuns d
    kept = keeps d design accepted undone plain
