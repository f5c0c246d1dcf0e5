-- WHAT DRIVES A NEW OUTPUT: the one assignment that shows its count.
use Rattle.std.proofs.Common.{◌≡◌, ℕ, zero, suc, ◌+◌, ◌<◌, ◌≤◌, inr, List, [], ◌∷◌, ◌++◌, length, Some, None, slice_get, refl, sym, ap, ◌∙◌, subst, arith}
use Rattle.cx_text.proofs.MemberLaws.{in_left, in_right}
use Rattle.cx_text.specs.declared.places.Place.{Place}
use Rattle.cx_meaning.specs.declared.ports.PortRef.TheVariants as ports
use Rattle.cx_meaning.specs.Designs.{PlainComponent, PlainDesign, component_at}
use Rattle.cx_meaning.specs.Instances.{cells_of}
use Rattle.cx_meaning.specs.Active.{Active, Owned, owned, owned_by_groups, drivers}
use Rattle.cx_text.specs.Members.{In}
use Rattle.cx_meaning.proofs.PortsLemmas.{same_self}
use Rattle.cx_rules.specs.Ports.{component_of}
use Rattle.cx_rewrites.specs.Driving.{assigns_of}
use Rattle.cx_profiling.specs.Counters.{Shown, shown_in}
use Rattle.cx_profiling.specs.Instrumented.{drive, moved_assigns, counted_groups, output_assigns, child_component, with_counts}
use Rattle.cx_profiling.proofs.PortLemmas.{IsInside}
use Rattle.cx_profiling.proofs.LoneDrivers.{other_port, AllSilent, silent_joined, Lone, here, later, lone_after, lone_before, lone_drives, silent_drives}
use Rattle.cx_profiling.proofs.WalkLemmas.{owned_joined}
use Rattle.cx_profiling.proofs.CounterDrives.{old_silent, counted_silent}

output_number : (n m : ℕ) → ports.Output n ≡ ports.Output m → n ≡ m
output_number n m e = cc

outputs_apart : (act : Active) (place : Place) (q n : ℕ) (list : List Shown) → q < n → AllSilent act (ports.Output q) (owned None (output_assigns place n list))
outputs_apart act place q n [] less = tt
outputs_apart act place q n (x ∷ xs) less =
    (inr (other_port (ports.Output n) (ports.Output q) (λ e. let same : n ≡ q = output_number n q e in omega (arith, less, same))), outputs_apart act place q (suc n) xs (omega (arith, less)))

outputs_past : (act : Active) (place : Place) (q n : ℕ) (list : List Shown) → n + length list ≤ q → AllSilent act (ports.Output q) (owned None (output_assigns place n list))
outputs_past act place q n [] past = tt
outputs_past act place q n (x ∷ xs) past =
    (inr (other_port (ports.Output n) (ports.Output q) (λ e. let same : n ≡ q = output_number n q e in omega (arith, past, same))), outputs_past act place q (suc n) xs (omega (arith, past)))

abbrev shows : Place → ℕ → Shown → Owned
shows place q x = record { owner = None; assign = drive place (ports.Output q) x.port }

lone_output : (act : Active) (place : Place) (n m q : ℕ) (list : List Shown) (x : Shown) → n + m ≡ q → slice_get list m ≡ Some x → Lone act (ports.Output q) (shows place q x) (owned None (output_assigns place n list))
lone_output act place n m q [] x number at = absurd (cc)
lone_output act place n zero q (y ∷ ys) x number at =
    let same : n ≡ q = omega (arith, number) in
    let is : y ≡ x = cc in
    subst (λ z. Lone act (ports.Output q) (shows place q x) (shows place z y ∷ owned None (output_assigns place (suc z) ys))) (sym same)
    (subst (λ z. Lone act (ports.Output q) (shows place q z) (shows place q y ∷ owned None (output_assigns place (suc q) ys))) is
    (here (same_self (ports.Output q)) (outputs_apart act place q (suc q) ys (omega arith))))
lone_output act place n (suc m) q (y ∷ ys) x number at =
    later (inr (other_port (ports.Output n) (ports.Output q) (λ e. let same : n ≡ q = output_number n q e in omega (arith, number, same))))
    (lone_output act place (suc n) m q ys x (omega (arith, number)) at)

module _ (d : PlainDesign) (k : ℕ) (names : List (List ℕ)) (is : component_at (with_counts d) k ≡ child_component d k names)
    (inside : (o : Owned) → In (assigns_of (component_at d k)) o → IsInside d (component_at d k) o.assign.target) (act : Active) where
  abbrev part : PlainComponent
  part = component_at d k

  always_silent : (q : ℕ) → length part.outputs ≤ q → AllSilent act (ports.Output q) (owned None (moved_assigns d part part.always))
  always_silent q past = old_silent d part act (ports.Output q) past None part.always (λ o i. inside o (in_left (owned None part.always) (owned_by_groups 0 part.groups) o i))

  groups_silent : (q : ℕ) → length part.outputs ≤ q → AllSilent act (ports.Output q) (owned_by_groups 0 (counted_groups d part (cells_of (component_of d k)) (length part.cells) part.groups))
  groups_silent q past =
      counted_silent d part act (cells_of (component_of d k)) (ports.Output q) past (length part.cells) 0 part.groups
      (λ o i. inside o (in_right (owned None part.always) (owned_by_groups 0 part.groups) o i)) tt

  -- THE OUTPUT OF A COUNT
  pub output_driven : (m : ℕ) (x : Shown) → slice_get (shown_in (component_of d k)) m ≡ Some x
      → drivers (component_at (with_counts d) k) act (ports.Output (length part.outputs + m)) ≡ record { offset = 0; assign = drive part.place (ports.Output (length part.outputs + m)) x.port } ∷ []
  output_driven m x at =
      let q = length part.outputs + m in
      let past : length part.outputs ≤ q = omega arith in
      ap (λ other. drivers other act (ports.Output q)) is
      ∙ lone_drives act (ports.Output q) (child_component d k names) (shows part.place q x)
      (lone_before act (ports.Output q) (shows part.place q x) (owned_by_groups 0 (counted_groups d part (cells_of (component_of d k)) (length part.cells) part.groups))
      (subst (Lone act (ports.Output q) (shows part.place q x)) (sym (owned_joined None (moved_assigns d part part.always) (output_assigns part.place (length part.outputs) (shown_in (component_of d k)))))
      (lone_after act (ports.Output q) (shows part.place q x) (owned None (moved_assigns d part part.always)) (always_silent q past)
      (lone_output act part.place (length part.outputs) m q (shown_in (component_of d k)) x refl at)))
      (groups_silent q past))

  -- and behind the outputs nothing
  pub no_output_driven : (q : ℕ) → length part.outputs + length (shown_in (component_of d k)) ≤ q → drivers (component_at (with_counts d) k) act (ports.Output q) ≡ []
  no_output_driven q far =
      let past : length part.outputs ≤ q = omega (arith, far) in
      ap (λ other. drivers other act (ports.Output q)) is
      ∙ silent_drives act (ports.Output q) (child_component d k names)
      (silent_joined act (ports.Output q) (owned None (moved_assigns d part part.always ++ output_assigns part.place (length part.outputs) (shown_in (component_of d k)))) (owned_by_groups 0 (counted_groups d part (cells_of (component_of d k)) (length part.cells) part.groups))
      (subst (AllSilent act (ports.Output q)) (sym (owned_joined None (moved_assigns d part part.always) (output_assigns part.place (length part.outputs) (shown_in (component_of d k)))))
      (silent_joined act (ports.Output q) (owned None (moved_assigns d part part.always)) (owned None (output_assigns part.place (length part.outputs) (shown_in (component_of d k)))) (always_silent q past)
      (outputs_past act part.place q (length part.outputs) (shown_in (component_of d k)) far)))
      (groups_silent q past))
