-- RULES ON STATIC COMPONENTS AND INVOKES: a flat design has neither, so it breaks none of them.
use Rattle.std.proofs.Common.{◌≡◌, ℕ, ◌<◌, ◌≤◌, ⊎_elim, true, false, is_some, List, length, Option, Some, None, refl, sym, ap, ◌∙◌}
use Rattle.std.specs.Prelude.{slice_get}
use Rattle.std.proofs.lemmas.Bool.{cases_lt}
use Rattle.std.proofs.lemmas.List.{get_or_past}
use Rattle.cx_text.specs.declared.places.Place.{Place}
use Rattle.cx_meaning.specs.declared.ports.PortRef.{PortRef}
use Rattle.cx_meaning.specs.declared.ports.PortRef.TheVariants as ports
use Rattle.cx_meaning.specs.Designs.{PlainKind, OfPrimitive, OfComponent, PlainComponent, PlainDesign, component_at, no_component}
use Rattle.cx_meaning.specs.Instances.{part_of, tree_within}
use Rattle.cx_meaning.proofs.DesignsLemmas.{same_part}
use Rattle.cx_rules.specs.Flat.{IsFlat}
use Rattle.cx_rules.specs.Invokes.{invoke_at}
use Rattle.cx_rules.specs.InvokeShape.{latency_at, is_static_port, BreaksStaticCell, BreaksInvoke}
use Rattle.cx_rules.specs.Ports.{component_of}
use Rattle.cx_rules.specs.ShapeRules.{BreaksInvokeLength, BreaksPartLength, BreaksKept}
use Rattle.cx_rules.specs.Spots.{Spot, OnAssign, OnStatement}
use Rattle.cx_rewrites.proofs.FlatRulesLemmas.{tree_latency}
use Rattle.cx_flattening.proofs.CellLayout.{at_kind}

module _ (d : PlainDesign) (flat : IsFlat d) where
  no_latency : (k : ℕ) → (component_at d k).latency ≡ None
  no_latency k =
      ⊎_elim (λ (l : k < length d.components). (flat k l).dynamic) (λ (l : length d.components ≤ k). ap (λ (p : PlainComponent). p.latency) (get_or_past d.components k no_component l)) (cases_lt k (length d.components))

  kind_latency : (n : ℕ) (kind : Option PlainKind) → latency_at (at_kind (tree_within d n) kind) ≡ None
  kind_latency n None = refl
  kind_latency n (Some (OfPrimitive p)) = refl
  kind_latency n (Some (OfComponent k)) = ap (λ (p : PlainComponent). p.latency) (same_part d n k) ∙ no_latency k

  dynamic_port : (k : ℕ) (q : PortRef) → is_static_port (component_of d k) q ≡ false
  dynamic_port k (ports.Cell c p) = ap is_some (tree_latency d flat (length d.components) k c)
  dynamic_port k (ports.Input n) = refl
  dynamic_port k (ports.Output n) = refl
  dynamic_port k (ports.Done g) = refl
  dynamic_port k (ports.Literal w v) = refl

  no_invoke_at : (k j : ℕ) → k < length d.components → invoke_at (part_of (component_of d k)) j ≡ None
  no_invoke_at k j less = ap (λ l. slice_get l j) (ap (λ (p : PlainComponent). p.invokes) (same_part d (length d.components) k) ∙ (flat k less).no_invoke)

  -- of calls
  pub no_static_cell : (spot : Spot) (place : Place) (name : List ℕ) → OnAssign BreaksStaticCell d spot place name → ⊥
  no_static_cell spot place name b =
      let bad = b.breaks in
      let clash : true ≡ false = sym bad.0 ∙ dynamic_port spot.component b.assign.assign.target in cc

  pub no_bad_invoke : (spot : Spot) (place : Place) (name : List ℕ) → OnStatement BreaksInvoke d spot place name → ⊥
  no_bad_invoke spot place name b =
      let bad = b.breaks in
      let clash : None ≡ Some bad.1 = sym (no_invoke_at spot.component bad.0 b.within) ∙ bad.3 in cc

  -- of static control
  pub no_invoke_length : (spot : Spot) (place : Place) (name : List ℕ) → OnStatement BreaksInvokeLength d spot place name → ⊥
  no_invoke_length spot place name b =
      let bad = b.breaks in
      let clash : None ≡ Some bad.1 = sym (no_invoke_at spot.component bad.0 b.within) ∙ bad.3 in cc

  pub no_part_length : (spot : Spot) (place : Place) (name : List ℕ) → BreaksPartLength d spot place name → ⊥
  no_part_length spot place name b = let clash : None ≡ Some b.latency = sym (no_latency spot.component) ∙ b.static in cc

  -- of outputs
  pub no_kept : (spot : Spot) (place : Place) (name : List ℕ) → OnAssign BreaksKept d spot place name → ⊥
  no_kept spot place name b =
      let bad = b.breaks in
      let clash : None ≡ Some bad.0 = sym (ap (λ (p : PlainComponent). p.latency) (same_part d (length d.components) spot.component) ∙ no_latency spot.component) ∙ bad.1 in cc
