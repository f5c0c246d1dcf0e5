-- An instrumented design has no static component, and no static invoke, where its design has none.
use Rattle.std.proofs.Common.{◌≡◌, ℕ, ◌<◌, Bool, true, false, if◌then◌else◌, [], length, map, sym, ap, subst}
use Rattle.std.specs.Prelude.{nat_eq}
use Rattle.cx_meaning.specs.Designs.{PlainDesign, component_at}
use Rattle.cx_rules.specs.Flat.{IsFlat, IsFlatPart}
use Rattle.cx_profiling.specs.Counters.{entry_count}
use Rattle.cx_profiling.specs.Instrumented.{moved_invoke, instrumented, with_counts}
use Rattle.cx_profiling.proofs.GainedLemmas.{components-length}
use Rattle.cx_profiling.proofs.RoleLemmas.{Role, as_main, as_child, as_kept, role}

module _ (d : PlainDesign) (flat : IsFlat d) where
  part_flat : (k : ℕ) → k < length d.components → IsFlatPart (component_at (with_counts d) k)
  part_flat k within = by (role d k within)
    where
      part : IsFlatPart (component_at d k)
      part = flat k within

      none : map (moved_invoke d (component_at d k)) (component_at d k).invokes ≡ []
      none = ap (map (moved_invoke d (component_at d k))) part.no_invoke

      by : Role d k → IsFlatPart (component_at (with_counts d) k)
      by (as_main names is e) = subst IsFlatPart (sym e) (record { dynamic = part.dynamic; no_invoke = none })
      by (as_child names is reached e) = subst IsFlatPart (sym e) (record { dynamic = part.dynamic; no_invoke = none })
      by (as_kept is unreached e) = subst IsFlatPart (sym e) (record { dynamic = part.dynamic; no_invoke = none })

  pub with_counts_flat : IsFlat (with_counts d)
  with_counts_flat k less = part_flat k (subst (λ n. k < n) (components-length d) less)

  pub instrumented_flat : IsFlat (instrumented d)
  instrumented_flat = by (nat_eq (entry_count d) 0)
    where
      by : (b : Bool) → IsFlat (if b then d else with_counts d)
      by true = flat
      by false = with_counts_flat
