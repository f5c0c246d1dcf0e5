-- In an accepted design nothing names an output of the signature or a hole.
use Rattle.std.proofs.Common.{◌≡◌, ℕ, ◌<◌, inl, true, false, length, refl, sym, subst}
use Rattle.cx_text.proofs.MemberLaws.{number_in}
use Rattle.cx_text.specs.declared.rules.Rule.TheVariants.{NotASource}
use Rattle.cx_meaning.specs.declared.ports.PortRef.{PortRef}
use Rattle.cx_meaning.specs.declared.ports.PortRef.TheVariants as ports
use Rattle.cx_meaning.specs.declared.ports.PlacedPort.{PlacedPort}
use Rattle.cx_meaning.specs.Designs.{PlainDesign, component_at}
use Rattle.cx_meaning.specs.Active.{Owned, source_order}
use Rattle.cx_text.specs.Members.{In}
use Rattle.cx_rules.specs.Ports.{component_of, is_target_only, path_of}
use Rattle.cx_rules.specs.Items.{sources_of}
use Rattle.cx_rules.specs.Footprints.{AssignNames}
use Rattle.cx_rules.specs.ShapeRules.{is_hole}
use Rattle.cx_rules.specs.Spots.{AnAssign}
use Rattle.cx_rules.specs.Accepted.{IsAccepted}
use Rattle.cx_rules.specs.Wellformed.{IsDesign, StandsIn}
use Rattle.cx_laws.proofs.EdgeLemmas.{IsFit}
use Rattle.cx_meaning.proofs.DesignsLemmas.{group_there}
use Rattle.cx_rules.proofs.FoundLemmas.{source_in}
use Rattle.cx_rules.proofs.ForeignLemmas.{OwnerOf, continuous, of_group, owner_of}

module _ (d : PlainDesign) (design : IsDesign d) (accepted : IsAccepted d) (k : ℕ) (within : k < length d.components) where
  stands_in : (o : Owned) → OwnerOf (component_at d k) o → StandsIn (component_at d k) o.owner o.assign
  stands_in o (continuous e i) = subst (λ x. StandsIn (component_at d k) x o.assign) (sym e) i
  stands_in o (of_group g e i) = subst (λ x. StandsIn (component_at d k) x o.assign) (sym e) (group_there (component_at d k) g o.assign i, i)

  no_hole : (o : Owned) → In (source_order (component_at d k)) o → (p : PlacedPort) → In (sources_of o.assign) p → is_hole p.port ≡ false
  no_hole o i p j = ((design.components k within).assigns o.owner o.assign (stands_in o (owner_of (component_at d k) o i))).no_hole p j

  no_sink : (o : Owned) → In (source_order (component_at d k)) o → (p : PlacedPort) → In (sources_of o.assign) p → is_target_only (component_of d k) p.port ≡ true → ⊥
  no_sink o i p j sink =
      let n = number_in (source_order (component_at d k)) o i in
      accepted.widths NotASource (record { component = k; part = AnAssign n.0 }) p.place (path_of (component_of d k) p.port) refl
      (inl (record { within = within; number = n.0; is = refl; assign = o; stands = n.1; breaks = (p, j, sink, (refl, refl)) }))

  fit : (q : PortRef) → is_hole q ≡ false → (is_target_only (component_of d k) q ≡ true → ⊥) → IsFit q
  fit (ports.Cell c p) h s = tt
  fit (ports.Input n) h s = tt
  fit (ports.Output n) h s = s refl
  fit (ports.Done g) h s = true_false h
    where
      true_false : true ≡ false → ⊥
      true_false e = cc
  fit (ports.Literal w v) h s = tt

  pub fit_source : (o : Owned) → In (source_order (component_at d k)) o → (q : PortRef) → AssignNames o.assign q → IsFit q
  fit_source o i q n =
      let r = source_in o.assign q n in
      subst IsFit r.2 (fit r.0.port (no_hole o i r.0 r.1) (no_sink o i r.0 r.1))
