-- What is found to rest on state, in a component of a design.
use Rattle.std.proofs.Common.{◌≡◌, ℕ, true, false, length, ⊎_elim, sym, ◌∙◌, true≢false}
use Rattle.cx_meaning.specs.declared.ports.PortRef.{PortRef}
use Rattle.cx_meaning.specs.Designs.{PlainDesign}
use Rattle.cx_rules.specs.Ports.{component_of}
use Rattle.cx_rules.specs.Footprints.{Rests}
use Rattle.cx_rules.specs.ShapeRules.{LeadsToInput}
use Rattle.cx_shape_state.specs.Resting.{rests_at}
use Rattle.cx_design_parts.proofs.ReadLemmas.{AllRead, all_read}
use Rattle.cx_shape_state.proofs.RestLemmas.{to_rests, from_rests, true_rests, rests_true}
use Rattle.cx_shape_state.proofs.InnerLemmas.{inner_leads, inner_or_leads}
use Rattle.cx_meaning.specs.Instances.{cells_of}

module _ (d : PlainDesign) (k : ℕ) (q : PortRef) where
  reads : AllRead (cells_of (component_of d k))
  reads = all_read d (length d.components) k

  pub found_rests : rests_at (component_of d k) true q ≡ true → Rests (component_of d k) q
  found_rests e = to_rests (true_rests (component_of d k) true reads q e)

  pub rests_found : Rests (component_of d k) q → rests_at (component_of d k) true q ≡ true
  rests_found r = rests_true (component_of d k) true reads q (from_rests r)

  pub inner_rests : rests_at (component_of d k) false q ≡ true → Rests (component_of d k) q
  inner_rests e = to_rests (true_rests (component_of d k) false reads q e)

  pub inner_apart : rests_at (component_of d k) false q ≡ true → LeadsToInput (component_of d k) q → ⊥
  inner_apart e l = inner_leads (component_of d k) reads q (true_rests (component_of d k) false reads q e) l

  pub leads_found : Rests (component_of d k) q → rests_at (component_of d k) false q ≡ false → LeadsToInput (component_of d k) q
  leads_found r e = ⊎_elim (λ h. absurd (true≢false (sym (rests_true (component_of d k) false reads q h) ∙ e))) (λ l. l) (inner_or_leads (component_of d k) reads r)
