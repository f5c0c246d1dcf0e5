-- RULES ON STATE AT REST: the flat design of an accepted design keeps those on done assignments, on conditions of static ifs, on outputs.
use Rattle.std.proofs.Common.{◌≡◌, ℕ, ◌+◌, ◌<◌, inl, inr, ⊎_elim, List, length, map, Option, Some, None, refl, sym, ap, ◌∙◌, subst}
use Rattle.std.specs.Prelude.{flat_map, slice_get}
use Rattle.cx_text.proofs.MemberLaws.{image_in, in_either, number_in}
use Rattle.cx_text.specs.declared.places.Place.{Place}
use Rattle.cx_text.specs.declared.rules.Rule.TheVariants as rules
use Rattle.cx_meaning.specs.declared.ports.PortRef.{PortRef}
use Rattle.cx_meaning.specs.declared.ports.PortRef.TheVariants as ports
use Rattle.cx_meaning.specs.Designs.{PlainAssign, PlainGroup, PlainComponent, PlainDesign, component_at, group_at}
use Rattle.cx_meaning.specs.Instances.{Instance, Node, Cells, part_of, cells_of}
use Rattle.cx_meaning.specs.Active.{Owned, source_order}
use Rattle.cx_text.specs.Members.{In}
use Rattle.cx_meaning.proofs.DesignsLemmas.{same_part}
use Rattle.cx_rules.specs.Accepted.{IsAccepted}
use Rattle.cx_rules.specs.Circles.{AreAcyclic}
use Rattle.cx_rules.specs.Footprints.{AssignNames}
use Rattle.cx_rules.specs.Items.{Dynamic, statements_in}
use Rattle.cx_rules.specs.Ports.{component_of}
use Rattle.cx_rules.specs.ShapeRules.{BreaksDoneNotState, BreaksStaticTest, BreaksOutputNotState, LeadsToInput}
use Rattle.cx_rules.specs.Spots.{AnAssign, Spot, OnAssign, OnStatement}
use Rattle.cx_rules.specs.Wellformed.{StandsIn, IsDesign}
use Rattle.cx_rewrites.specs.Moving.{moved_assign, moved_group}
use Rattle.cx_rewrites.proofs.ReflectLemmas.{names_back}
use Rattle.cx_flattening.specs.Ends.{NoneNamesDone}
use Rattle.cx_flattening.specs.Flattened.{Kids, kid_at, own_port, port_if, always_from, copies, flat_kids, flat_part}
use Rattle.cx_flattening.specs.FlatDesign.{flat_design}
use Rattle.cx_flattening.specs.Events.{source_to}
use Rattle.cx_flattening.specs.Embedded.{IsFlattened}
use Rattle.cx_flattening.specs.Levels.{own_of}
use Rattle.cx_flattening.specs.Fair.{IsAssignOf, IsAtRest, AllFair}
use Rattle.cx_flattening.proofs.DryPorts.{leads_to_none}
use Rattle.cx_flattening.proofs.FlatBlocks.{kid_always}
use Rattle.cx_flattening.proofs.FlatKinds.{top_fair}
use Rattle.cx_flattening.proofs.FlatNumbers.{made}
use Rattle.cx_flattening.proofs.FlatRanges.{slice_in}
use Rattle.cx_flattening.proofs.FlatSights.{assign_of}
use Rattle.cx_flattening.proofs.FlatStages.{good_component}
use Rattle.cx_flattening.proofs.PortLemmas.{in_block}
use Rattle.cx_flattening.proofs.RestingSeats.{flat_at_rest}
use Rattle.cx_flattening.proofs.RestingTests.{one_visits, flat_tests_rest}
use Rattle.cx_flattening.proofs.Ruled.{in_order, owner_is, AllRuled}
use Rattle.cx_flattening.proofs.StillPorts.{all_copied}

-- AN ASSIGNMENT of a flat component is one of the component's own, or drives a cell of a block
pub data Moved (i : Instance) (a : PlainAssign) : Type 0 where
  an_own : (b : PlainAssign) → IsAssignOf (part_of i) b → moved_assign (own_of i) b ≡ a → Moved i a
  of_block : (e p : ℕ) → a.target ≡ ports.Cell e p → Moved i a

module _ (part : PlainComponent) (cells : Cells) (fair : AllFair (Node part cells)) where
  abbrev kids : Kids
  kids = flat_kids cells

  always_origin : (a : PlainAssign) → In (flat_part (Node part cells)).always a → Moved (Node part cells) a
  always_origin a j =
      ⊎_elim
      (λ k. let r = image_in (moved_assign (own_port kids part)) part.always a k in an_own r.0 (inl r.1) r.2)
      (λ k.
      let h = kid_always kids part 0 kids a k in
      let inside = in_block kids part h.child (0 + h.cell) (λ n. ports.Input n) h.assign.target ((fair.0.targets.blocks h.cell h.child h.its).always h.assign h.among) in
      of_block _ _ (ap (λ (x : PlainAssign). x.target) (sym h.is) ∙ inside.is))
      (in_either (map (moved_assign (own_port kids part)) part.always) (always_from kids part 0 kids) a j)

  group_origin : (x : PlainGroup) (a : PlainAssign) → In (flat_part (Node part cells)).groups x → In x.assigns a → Moved (Node part cells) a
  group_origin x a j m =
      ⊎_elim
      (λ k.
      let r = image_in (moved_group (own_port kids part)) part.groups x k in
      let q = image_in (moved_assign (own_port kids part)) r.0.assigns a (subst (λ (z : PlainGroup). In z.assigns a) (sym r.2) m) in
      an_own q.0 (inr (r.0, r.1, q.1)) q.2)
      (λ k.
      let c = all_copied kids part fair.0.targets part.invokes a x k m in
      let inside = in_block kids part c.child c.invoke.cell (λ n. own_port kids part (source_to c.invoke.cell c.invoke.inputs n)) c.assign.target c.target in
      of_block _ _ (c.is ∙ inside.is))
      (in_either (map (moved_group (own_port kids part)) part.groups) (flat_map (copies kids part) part.invokes) x j)

pub origin : (i : Instance) → AllFair i → (a : PlainAssign) → IsAssignOf (flat_part i) a → Moved i a
origin (Node part cells) fair a (inl j) = always_origin part cells fair a j
origin (Node part cells) fair a (inr (x, j, m)) = group_origin part cells fair x a j m

-- holes and outputs of the signature stay
pub own_hole : (kids : Kids) (part : PlainComponent) (t : PortRef) (g : ℕ) → own_port kids part t ≡ ports.Done g → t ≡ ports.Done g
own_hole kids part (ports.Cell c p) g e = by (kid_at kids c) e
  where
    by : (k : Option PlainComponent) → port_if kids part k c p ≡ ports.Done g → ports.Cell c p ≡ ports.Done g
    by None f = absurd (cc)
    by (Some kid) f = absurd (cc)
own_hole kids part (ports.Input n) g e = absurd (cc)
own_hole kids part (ports.Output n) g e = absurd (cc)
own_hole kids part (ports.Done h) g e = e
own_hole kids part (ports.Literal w v) g e = absurd (cc)

pub own_output : (kids : Kids) (part : PlainComponent) (t : PortRef) (n : ℕ) → own_port kids part t ≡ ports.Output n → t ≡ ports.Output n
own_output kids part (ports.Cell c p) n e = by (kid_at kids c) e
  where
    by : (k : Option PlainComponent) → port_if kids part k c p ≡ ports.Output n → ports.Cell c p ≡ ports.Output n
    by None f = absurd (cc)
    by (Some kid) f = absurd (cc)
own_output kids part (ports.Input m) n e = absurd (cc)
own_output kids part (ports.Output m) n e = e
own_output kids part (ports.Done h) n e = absurd (cc)
own_output kids part (ports.Literal w v) n e = absurd (cc)

module _ (i flat : Instance) (flattened : IsFlattened i flat) (fair : AllFair i) (calm : AreAcyclic i) where
  -- what a done assignment of the flat component names rests
  pub done_rests : ((b : PlainAssign) (g : ℕ) (q : PortRef) → IsAssignOf (part_of i) b → b.target ≡ ports.Done g → AssignNames b q → IsAtRest i q)
      → (a : PlainAssign) (g : ℕ) (q : PortRef) → IsAssignOf (flat_part i) a → a.target ≡ ports.Done g → AssignNames a q → IsAtRest flat q
  done_rests tree a g q j e names = by (origin i fair a j)
    where
      by : Moved i a → IsAtRest flat q
      by (an_own b k same) =
          let n = names_back (own_of i) b q (subst (λ x. AssignNames x q) (sym same) names) in
          let target = own_hole (flat_kids (cells_of i)) (part_of i) b.target g (ap (λ (x : PlainAssign). x.target) same ∙ e) in
          subst (IsAtRest flat) n.1 (flat_at_rest i flat flattened fair calm n.0 (tree b g n.0 k target n.2) ((top_fair i fair).names b n.0 k n.2))
      by (of_block c p f) = absurd (let clash : ports.Done g ≡ ports.Cell c p = sym e ∙ f in cc)

-- and what one of an output names, which leads to no input
output_rests : (i flat : Instance) → IsFlattened i flat → AllFair i → AreAcyclic i → AllRuled i → (a : PlainAssign) (n : ℕ) (q : PortRef) → IsAssignOf (flat_part i) a → a.target ≡ ports.Output n → AssignNames a q
    → IsAtRest flat q × (LeadsToInput flat q → ⊥)
output_rests (Node part cells) flat flattened fair calm rules a n q j e names = by (origin (Node part cells) fair a j)
  where
    by : Moved (Node part cells) a → IsAtRest flat q × (LeadsToInput flat q → ⊥)
    by (an_own b k same) =
        let r = names_back (own_port (flat_kids cells) part) b q (subst (λ x. AssignNames x q) (sym same) names) in
        let target = own_output (flat_kids cells) part b.target n (ap (λ (x : PlainAssign). x.target) same ∙ e) in
        let o = owner_is part b k in
        let named = fair.0.names b r.0 k r.2 in (
          subst (IsAtRest flat) r.1 (flat_at_rest (Node part cells) flat flattened fair calm r.0 (rules.0.outputs_rest o.0 b n r.0 o.1 target r.2) named),
          subst (λ x. LeadsToInput flat x → ⊥) r.1 (leads_to_none part cells fair.0 rules.0 flat flattened r.0 named (rules.0.outputs_lead o.0 b n r.0 o.1 target r.2)),
        )
    by (of_block c p f) = absurd (let clash : ports.Output n ≡ ports.Cell c p = sym e ∙ f in cc)

-- what a done assignment of the design names rests
part_dones : (d : PlainDesign) → IsAccepted d → (k : ℕ) → k < length d.components → (b : PlainAssign) (g : ℕ) (q : PortRef) → IsAssignOf (part_of (component_of d k)) b → b.target ≡ ports.Done g → AssignNames b q
    → IsAtRest (component_of d k) q
part_dones d accepted k within b g q j e names never =
    accepted.shapes rules.DoneNotState (record { component = k; part = AnAssign n.0 }) b.place (group_at (part_of (component_of d k)) g).name refl
    (record { within = within; number = n.0; is = refl; assign = o; stands = n.1; breaks = (g, e, (q, names, never), (refl, refl)) })
  where
    its : (owner : Option ℕ) × StandsIn (component_at d k) owner b
    its = owner_is (component_at d k) b (subst (λ p. IsAssignOf p b) (same_part d (length d.components) k) j)

    o : Owned
    o = record { owner = its.0; assign = b }

    n : (m : ℕ) × ◌≡◌ {A = Option Owned} (slice_get (source_order (component_at d k)) m) (Some o)
    n = number_in (source_order (component_at d k)) o (in_order (component_at d k) its.0 b its.1)

module _ (d : PlainDesign) (design : IsDesign d) (accepted : IsAccepted d) (undone : NoneNamesDone d) where
  -- RULE done-not-state
  pub keeps_done_states : (spot : Spot) (place : Place) (name : List ℕ) → OnAssign BreaksDoneNotState (flat_design d) spot place name → ⊥
  keeps_done_states spot place name b =
      let m = made d design spot.component b.within in
      let g = good_component d design accepted undone m.old m.less in
      let bad = b.breaks in
      done_rests (component_of d m.old) (component_of (flat_design d) spot.component) m.flattened g.fair g.calm (part_dones d accepted m.old m.less) b.assign.assign bad.0 bad.2.0
      (subst (λ p. IsAssignOf p b.assign.assign) m.part (assign_of (component_at (flat_design d) spot.component) b.assign (slice_in (source_order (component_at (flat_design d) spot.component)) b.number b.assign b.stands)))
      bad.1 bad.2.1 bad.2.2

  -- RULE static-shape, of the conditions of static ifs
  pub keeps_static_tests : (spot : Spot) (place : Place) (name : List ℕ) → OnStatement BreaksStaticTest (flat_design d) spot place name → ⊥
  keeps_static_tests spot place name b =
      let m = made d design spot.component b.within in
      let g = good_component d design accepted undone m.old m.less in
      let flat = component_of (flat_design d) spot.component in
      let bad = b.breaks in
      one_visits (λ p. IsAtRest flat p) Dynamic (flat_part (component_of d m.old)).control (flat_tests_rest (component_of d m.old) flat m.flattened g.rules g.has g.fair g.calm) b.statement
      (subst (λ p. In (statements_in p) b.statement) m.part (slice_in (statements_in (component_at (flat_design d) spot.component)) b.number b.statement b.stands))
      bad.0 bad.1 bad.2 bad.3 bad.4 bad.5

  -- RULE output-not-state, of what outputs rest on
  pub keeps_outputs : (spot : Spot) (place : Place) (name : List ℕ) → OnAssign BreaksOutputNotState (flat_design d) spot place name → ⊥
  keeps_outputs spot place name b =
      let m = made d design spot.component b.within in
      let g = good_component d design accepted undone m.old m.less in
      let bad = b.breaks in
      let h =
      output_rests (component_of d m.old) (component_of (flat_design d) spot.component) m.flattened g.fair g.calm g.rules b.assign.assign bad.0 bad.2.0
      (subst (λ p. IsAssignOf p b.assign.assign) m.part (assign_of (component_at (flat_design d) spot.component) b.assign (slice_in (source_order (component_at (flat_design d) spot.component)) b.number b.assign b.stands)))
      bad.1 bad.2.1 in
      ⊎_elim h.0 h.1 bad.2.2
