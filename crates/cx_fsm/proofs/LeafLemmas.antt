-- The drivers of targets, driver by driver.
use Rattle.std.proofs.Common.{◌≡◌, Bool, true, false, if◌then◌else◌, List, [], ◌∷◌, refl, sym, ap, ap₂, ◌∙◌, eq-eqb}
use Rattle.std.proofs.lemmas.Bool.{false_from_ne_true}
use Rattle.cx_net.specs.Nets.{PlainNetTarget, ToPort, ToRegister, ToWire, ToHole, ToDone, PlainNetDriver}
use Rattle.cx_net.specs.PlainNets.{plain_net_target}
use Rattle.cx_net.specs.declared.drivers.NetTarget.{NetTarget}
use Rattle.cx_net.specs.declared.drivers.NetTarget.TheVariants as targets
use Rattle.cx_wiring.specs.Trees.{is_same, Driven, with_driver, driven}
use Rattle.cx_fsm.specs.Leaves.{first_drivers, later_groups}
use Rattle.cx_meaning.proofs.PortsLemmas.{same_self}
use Rattle.cx_wiring.proofs.FitBundles.{same_is_target}

target_itself : (t : PlainNetTarget) → is_same t t ≡ true
target_itself (ToPort p) = same_self p
target_itself (ToRegister n) = eq-eqb n n refl
target_itself (ToWire n) = eq-eqb n n refl
target_itself (ToHole n) = eq-eqb n n refl
target_itself ToDone = refl

-- two targets that stand for one are one
pub one_target : (a b : NetTarget) → plain_net_target a ≡ plain_net_target b → a ≡ b
one_target (targets.Port p) (targets.Port q) e = cc
one_target (targets.Port p) (targets.Register m) e = cc
one_target (targets.Port p) (targets.Wire m) e = cc
one_target (targets.Port p) (targets.Hole m) e = cc
one_target (targets.Port p) targets.Done e = cc
one_target (targets.Register n) (targets.Port q) e = cc
one_target (targets.Register n) (targets.Register m) e = cc
one_target (targets.Register n) (targets.Wire m) e = cc
one_target (targets.Register n) (targets.Hole m) e = cc
one_target (targets.Register n) targets.Done e = cc
one_target (targets.Wire n) (targets.Port q) e = cc
one_target (targets.Wire n) (targets.Register m) e = cc
one_target (targets.Wire n) (targets.Wire m) e = cc
one_target (targets.Wire n) (targets.Hole m) e = cc
one_target (targets.Wire n) targets.Done e = cc
one_target (targets.Hole n) (targets.Port q) e = cc
one_target (targets.Hole n) (targets.Register m) e = cc
one_target (targets.Hole n) (targets.Wire m) e = cc
one_target (targets.Hole n) (targets.Hole m) e = cc
one_target (targets.Hole n) targets.Done e = cc
one_target targets.Done (targets.Port q) e = cc
one_target targets.Done (targets.Register m) e = cc
one_target targets.Done (targets.Wire m) e = cc
one_target targets.Done (targets.Hole m) e = cc
one_target targets.Done targets.Done e = cc

-- the first group of drivers begins with the first driver
pub with_driver_is : (d : PlainNetDriver) (gs : List Driven) → with_driver d gs ≡ record { target = d.target; drivers = d ∷ first_drivers d.target gs } ∷ later_groups d.target gs
with_driver_is d [] = refl
with_driver_is d (g ∷ gs) = choice (is_same d.target g.target)
  where
    choice : (same : Bool)
        → (if same then record { target = d.target; drivers = d ∷ g.drivers } ∷ gs else record { target = d.target; drivers = d ∷ [] } ∷ g ∷ gs)
        ≡ record { target = d.target; drivers = d ∷ (if same then g.drivers else []) } ∷ (if same then gs else g ∷ gs)
    choice true = refl
    choice false = refl

module _ (d : PlainNetDriver) (ds : List PlainNetDriver) where
  -- of drivers of which the first is of a target that one goes on with the target
  pub first_same : first_drivers d.target (driven (d ∷ ds)) ≡ d ∷ first_drivers d.target (driven ds)
  first_same =
      ap (first_drivers d.target) (with_driver_is d (driven ds))
      ∙ ap (λ b. if b then d ∷ first_drivers d.target (driven ds) else []) (target_itself d.target)

  pub later_same : later_groups d.target (driven (d ∷ ds)) ≡ later_groups d.target (driven ds)
  later_same =
      ap (later_groups d.target) (with_driver_is d (driven ds))
      ∙ ap (λ b. if b then later_groups d.target (driven ds) else record { target = d.target; drivers = d ∷ first_drivers d.target (driven ds) } ∷ later_groups d.target (driven ds)) (target_itself d.target)

  -- of another target none goes on
  pub first_other : (t : PlainNetTarget) → (t ≡ d.target → ⊥) → first_drivers t (driven (d ∷ ds)) ≡ []
  first_other t other =
      ap (first_drivers t) (with_driver_is d (driven ds))
      ∙ ap (λ b. if b then d ∷ first_drivers d.target (driven ds) else []) (false_from_ne_true (is_same t d.target) (λ e. other (same_is_target t d.target e)))

  pub later_other : (t : PlainNetTarget) → (t ≡ d.target → ⊥) → later_groups t (driven (d ∷ ds)) ≡ driven (d ∷ ds)
  later_other t other =
      ap (later_groups t) (with_driver_is d (driven ds))
      ∙ ap (λ b. if b then later_groups d.target (driven ds) else record { target = d.target; drivers = d ∷ first_drivers d.target (driven ds) } ∷ later_groups d.target (driven ds))
      (false_from_ne_true (is_same t d.target) (λ e. other (same_is_target t d.target e)))
      ∙ sym (with_driver_is d (driven ds))
