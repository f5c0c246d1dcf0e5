-- The instrumented design, and the place of its memory.
use Rattle.std.proofs.Common.{◌≡◌, ◌≢◌, ℕ, suc, ◌+◌, ◌<◌, ◌^◌, Bool, true, false, List, [], ◌∷◌, length, Some, None, refl, sym, ap, ◌∙◌, subst, arith}
use Rattle.std.specs.Prelude.{nat_eq, if◌then◌else◌}
use Rattle.std.proofs.Math.Logic.{∥∥₁_map}
use Rattle.std.proofs.lemmas.Bool.{eqb-true, eq-eqb}
use Rattle.cx_meaning.specs.Designs.{PlainCell, PlainComponent, PlainDesign, component_at}
use Rattle.cx_meaning.specs.Instances.{externals_from, if_external, externals_of}
use Rattle.cx_rules.specs.Sizes.{design_size, sizes_of}
use Rattle.cx_rules.specs.Wellformed.{IsDesign}
use Rattle.cx_design_sizes.specs.Capped.{capped}
use Rattle.cx_profiling.specs.Counters.{entry_count}
use Rattle.cx_profiling.specs.Instrumented.{with_counts, instrumented}
use Rattle.cx_profiling.proofs.DesignLemmas.{instrumented_keeps}
use Rattle.cx_profile.specs.Profiles.{memory_place}

-- EXTERNAL CELLS are as many from any number on
externals-length : (c e : ℕ) (cells : List PlainCell) → length (externals_from c cells) ≡ length (externals_from e cells)
externals-length c e [] = refl
externals-length c e (cell ∷ cells) = by cell.external (externals-length (suc c) (suc e) cells)
  where
    by : (b : Bool) → length (externals_from (suc c) cells) ≡ length (externals_from (suc e) cells) → length (if_external b c (externals_from (suc c) cells)) ≡ length (if_external b e (externals_from (suc e) cells))
    by true more = ap suc more
    by false more = more

pub external_counts : (cell : PlainCell) (cells : List PlainCell) → cell.external ≡ true → length (externals_from 0 (cell ∷ cells)) ≡ 1 + length (externals_from 0 cells)
external_counts cell cells e =
    ap (λ b. length (if_external b 0 (externals_from 1 cells))) e ∙ ap suc (externals-length 1 0 cells) ∙ let z : suc (length (externals_from 0 cells)) ≡ 1 + length (externals_from 0 cells) = omega arith in z

pub other_counts : (cell : PlainCell) (cells : List PlainCell) → cell.external ≡ false → length (externals_from 0 (cell ∷ cells)) ≡ length (externals_from 0 cells)
other_counts cell cells e = ap (λ b. length (if_external b 0 (externals_from 1 cells))) e ∙ externals-length 1 0 cells

module _ (d : PlainDesign) where
  none : (b : Bool) → b ≡ true → {A : Type 0} (x y : A) → (if b then x else y) ≡ x
  none true e x y = refl
  none false e x y = absurd cc

  some : (b : Bool) → b ≡ false → {A : Type 0} (x y : A) → (if b then x else y) ≡ y
  some true e x y = absurd cc
  some false e x y = refl

  no_entry : entry_count d ≡ 0 → nat_eq (entry_count d) 0 ≡ true
  no_entry e = eq-eqb (entry_count d) 0 e

  an_entry : entry_count d ≢ 0 → nat_eq (entry_count d) 0 ≡ false
  an_entry other = by (nat_eq (entry_count d) 0) refl
    where
      by : (b : Bool) → nat_eq (entry_count d) 0 ≡ b → b ≡ false
      by true e = absurd (other (eqb-true (entry_count d) 0 e))
      by false e = refl

  -- A DESIGN WITHOUT ENTRIES stays as it is
  pub stays : entry_count d ≡ 0 → instrumented d ≡ d
  stays e = none (nat_eq (entry_count d) 0) (no_entry e) d (with_counts d)

  pub counts : entry_count d ≢ 0 → instrumented d ≡ with_counts d
  counts other = some (nat_eq (entry_count d) 0) (an_entry other) d (with_counts d)

  pub no_place : entry_count d ≡ 0 → memory_place d ≡ None
  no_place e = none (nat_eq (entry_count d) 0) (no_entry e) None (Some (length (externals_of (component_at d d.main))))

  -- main stays main
  main-same : (b : Bool) → (if b then d else with_counts d).main ≡ d.main
  main-same true = refl
  main-same false = refl

  -- THE DESIGN of its components
  pub made_is : (made : List PlainComponent) (main : ℕ) → made ≡ (instrumented d).components → main ≡ d.main → record { components = made; main = main } ≡ instrumented d
  made_is made main is same =
      ap (λ cs. record { components = cs; main = main }) is ∙ ap (λ m. record { components = (instrumented d).components; main = m }) (same ∙ sym (main-same (nat_eq (entry_count d) 0)))

  -- keeps what every design keeps, where 32 bits count its size
  pub made_keeps : ∥ IsDesign d ∥₁ → (made : PlainDesign) → made ≡ instrumented d → (size : ℕ) → size ≡ capped (sizes_of made.components) → size < 2 ^ 32 → ∥ IsDesign made ∥₁
  made_keeps keeps made is size total less =
      let small : sizes_of made.components < 2 ^ 32 = omega arith in
      ∥∥₁_map keeps (λ rules. subst IsDesign (sym is) (instrumented_keeps d rules (subst (λ x. design_size x < 2 ^ 32) is small)))
