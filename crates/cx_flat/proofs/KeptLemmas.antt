-- What is answered tells what the design tells, and has its external memories.
use Rattle.std.proofs.Common.{◌≡◌, ◌∙◌, ℕ, List, false, sym, ap, subst}
use Rattle.std.specs.Prelude.{if◌then◌else◌}
use Rattle.std.proofs.Props.{props}
use Rattle.std.proofs.Math.Logic.{∥∥₁_elim}
use Rattle.cx_text.specs.Loading.{PlainRow}
use Rattle.cx_meaning.specs.Designs.{PlainDesign}
use Rattle.cx_meaning.specs.Running.{run_main}
use Rattle.cx_rules.specs.Externals.{external_rows}
use Rattle.cx_rules.specs.Flat.{IsFlat}
use Rattle.cx_rules.specs.Wellformed.{IsDesign}
use Rattle.cx_flattening.specs.FlatDesign.{flat_design}
use Rattle.cx_flattening.specs.Runnable.{has_static}
use Rattle.cx_flattening.specs.Told.{Told, KeepsRuns, told}
use Rattle.cx_flattening.specs.Whole.{whole_main}
use Rattle.cx_flattening.proofs.RunnableLemmas.{runnable_flat}
use Rattle.cx_flat.specs.Keeping.{TellsAs}

-- that two are the same has one proof at most
same_rows : (rows others : List PlainRow) → IsProp (rows ≡ others)
same_rows rows others = hlevel props

same_told : (a b : Told) → IsProp (a ≡ b)
same_told a b = hlevel props

module _ (d : PlainDesign) (keeps : ∥ IsDesign d ∥₁) where
  -- THE FLAT DESIGN
  pub rows_kept : (IsDesign d → KeepsRuns d) → (made : PlainDesign) → made ≡ flat_design d → external_rows made ≡ external_rows d
  rows_kept kept made is =
      ap external_rows is ∙ ∥∥₁_elim keeps (same_rows (external_rows (flat_design d)) (external_rows d)) (λ rules. (kept rules).rows)

  pub runs_kept : (IsDesign d → KeepsRuns d) → (made : PlainDesign) → made ≡ flat_design d → TellsAs made d
  runs_kept kept made is words budget =
      ap (λ e. told e (run_main e words budget)) is
      ∙ ∥∥₁_elim keeps (same_told (told (flat_design d) (run_main (flat_design d) words budget)) (told d (whole_main d words budget))) (λ rules. (kept rules).runs words budget)

  -- A DESIGN WITHOUT STATIC COMPONENTS is told by its own meaning
  pub tells_itself : ((words : List (List ℕ)) (n : ℕ) → IsDesign d → IsFlat d → whole_main d words n ≡ run_main d words n) → IsFlat d → TellsAs d d
  tells_itself same flat words budget =
      ∥∥₁_elim keeps (same_told (told d (run_main d words budget)) (told d (whole_main d words budget))) (λ rules. ap (told d) (sym (same words budget rules flat)))

-- one in which none is found has none
pub none_found : ((d : PlainDesign) → IsFlat (flat_design d)) → (d : PlainDesign) → has_static d ≡ false → IsFlat d
none_found flat d none = subst IsFlat (ap (λ b. if b then flat_design d else d) none) (runnable_flat flat d)
