-- In an accepted design what an assignment of an output names is no input of the signature and leads to none, in each instance.
use Rattle.std.proofs.Common.{◌≡◌, ◌⊎◌, inl, inr, ℕ, ◌<◌, length, refl, ◌∙◌, subst}
use Rattle.cx_text.proofs.MemberLaws.{number_in}
use Rattle.cx_text.specs.declared.rules.Rule.TheVariants as rules
use Rattle.cx_meaning.specs.declared.ports.PortRef.{PortRef}
use Rattle.cx_meaning.specs.declared.ports.PortRef.TheVariants as ports
use Rattle.cx_meaning.specs.Designs.{PlainComponent, PlainDesign, component_at}
use Rattle.cx_meaning.specs.Instances.{Instance, part_of, tree_of, Path, instance_at}
use Rattle.cx_meaning.specs.Active.{nothing, Owned, source_order}
use Rattle.cx_text.specs.Members.{In}
use Rattle.cx_rules.specs.Ports.{component_of, path_of}
use Rattle.cx_rules.specs.Footprints.{AssignNames, Depends}
use Rattle.cx_rules.specs.ShapeRules.{LeadsToInput}
use Rattle.cx_rules.specs.Spots.{AnAssign}
use Rattle.cx_rules.specs.Accepted.{IsAccepted}
use Rattle.cx_control.proofs.BesideLemmas.{IsBeside, StandsFor, of_component, of_nothing, instance_stands, depends_too}
use Rattle.cx_meaning.proofs.DesignsLemmas.{same_part}

abbrev pub OutputsFree : Instance → Type 0
OutputsFree i = (o : Owned) (n : ℕ) (q : PortRef) → In (source_order (part_of i)) o → o.assign.target ≡ ports.Output n → AssignNames o.assign q → (m : ℕ) → (q ≡ ports.Input m) ⊎ Depends i nothing q (ports.Input m) → ⊥

module _ (d : PlainDesign) (accepted : IsAccepted d) where
  component_free : (k : ℕ) → k < length d.components → (o : Owned) → In (source_order (component_at d k)) o → (n : ℕ) (q : PortRef) → o.assign.target ≡ ports.Output n → AssignNames o.assign q → LeadsToInput (component_of d k) q → ⊥
  component_free k within o i n q target names leads =
      let at = number_in (source_order (component_at d k)) o i in
      accepted.shapes rules.OutputNotState (record { component = k; part = AnAssign at.0 }) o.assign.place (path_of (component_of d k) o.assign.target) refl
      (inl (record { within = within; number = at.0; is = refl; assign = o; stands = at.1; breaks = (n, target, (q, names, inr leads), (refl, refl)) }))

  free_of : {i : Instance} → StandsFor d i → OutputsFree i
  free_of {i} (of_component k within beside) o n q at target names m leads =
      component_free k within o (subst (λ (part : PlainComponent). In (source_order part) o) (IsBeside.same beside ∙ same_part d (length d.components) k) at) n q target names (m, by leads)
    where
      by : (q ≡ ports.Input m) ⊎ Depends i nothing q (ports.Input m) → (q ≡ ports.Input m) ⊎ Depends (component_of d k) nothing q (ports.Input m)
      by (inl e) = inl e
      by (inr dep) = inr (depends_too i (component_of d k) beside nothing dep)
  free_of (of_nothing e) o n q at target names m leads = absurd (subst (λ (part : PlainComponent). In (source_order part) o) e at)

  -- EVERY INSTANCE
  pub outputs_free : (path : Path) → OutputsFree (instance_at (tree_of d) path)
  outputs_free path = free_of (instance_stands d path)
