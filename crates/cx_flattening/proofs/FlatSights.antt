-- WHAT IS SEEN where the flat component acts as the instance does: each port of the caller as in the instance.
use Rattle.std.proofs.Common.{◌≡◌, ℕ, ◌⊎◌, inl, inr, ⊎_elim, map, None, refl, sym, ap, ◌∙◌, subst}
use Rattle.cx_text.specs.Members.{In}
use Rattle.cx_meaning.specs.declared.ports.PortRef.{PortRef}
use Rattle.cx_meaning.specs.declared.ports.PortRef.TheVariants as ports
use Rattle.cx_meaning.specs.declared.sights.Seen.{Seen}
use Rattle.cx_meaning.specs.Designs.{PlainComponent, group_at}
use Rattle.cx_meaning.specs.Instances.{Instance, Node, Cells, OfInstance, cells_of, cell_at, State}
use Rattle.cx_meaning.specs.Active.{Active, nothing, Owned, source_order, offset_of, drivers}
use Rattle.cx_meaning.specs.Sights.{Held, Sees, seen}
use Rattle.cx_meaning.proofs.InstancesLemmas.{row_instance}
use Rattle.cx_rules.specs.Circles.{IsAcyclic, AcyclicBelow}
use Rattle.cx_rules.specs.Footprints.{AssignNames}
use Rattle.cx_rules.proofs.FoundLemmas.{seen_found}
use Rattle.cx_rules.proofs.FrameLemmas.{acting_alike}
use Rattle.cx_rewrites.specs.Moving.{moved_acting}
use Rattle.cx_rewrites.proofs.ClosedLemmas.{is_closed}
use Rattle.cx_flattening.specs.Flattened.{Kids, flat_part, flat_kids, own_port}
use Rattle.cx_flattening.specs.Targets.{OwnTarget, BlockTarget}
use Rattle.cx_flattening.specs.Levels.{OutputsSeen, IsKnown, IsLevel, IsStill, IsBase, InFlat, Asked, IsPlayed}
use Rattle.cx_flattening.specs.Fair.{IsAssignOf, IsNamed, IsFair}
use Rattle.cx_flattening.proofs.PortLemmas.{own-kept}
use Rattle.cx_flattening.proofs.FlatDrivers.{own_drivers}
use Rattle.cx_flattening.proofs.Standing.{within_child}
use Rattle.cx_flattening.proofs.RestingPorts.{OfOne, owner_of}
use Rattle.cx_flattening.proofs.LevelSights.{kid-static, level_seen}
use Rattle.cx_flattening.proofs.FlatOutputs.{rows_there, states_there, twins_there, kept_inside, outputs_there, wire_seen}

-- what no group drives is driven alike whatever acts
pub still_drivers : (part : PlainComponent) (act : Active) (q : PortRef) → IsStill part q → drivers part act q ≡ drivers part nothing q
still_drivers part act q still = acting_alike act nothing q (source_order part) (λ o j e. one o e (owner_of part o j))
  where
    one : (o : Owned) → o.assign.target ≡ q → ((o.owner ≡ None) × In part.always o.assign) ⊎ OfOne part o → offset_of act o.owner ≡ offset_of nothing o.owner
    one o e (inl h) = ap (offset_of act) h.0 ∙ sym (ap (offset_of nothing) h.0)
    one o e (inr h) = absurd (still (group_at part h.number) o.assign h.is_there h.stands e)

-- an assignment among all of a component
pub assign_of : (part : PlainComponent) (o : Owned) → In (source_order part) o → IsAssignOf part o.assign
assign_of part o j = ⊎_elim (λ h. inl h.1) (λ (h : OfOne part o). inr (group_at part h.number, h.is_there, h.stands)) (owner_of part o j)

module _ (part : PlainComponent) (cells : Cells) (fair : IsFair (Node part cells)) (below : (c : ℕ) (child : Instance) → cell_at cells c ≡ OfInstance child → OutputsSeen child)
    (host : Instance) (host_held : Held) (more : Active) (z : State) (acyclic : IsAcyclic host more) (deeper : AcyclicBelow (cells_of host))
    (first : ℕ) (f : PortRef → PortRef) (held : Held) (act inner : Active) (s : State) (inputs outputs holes : ℕ → Type 0)
    (played : IsPlayed host host_held more z (Node part cells) first f held act inner s inputs outputs holes) where
  abbrev kids : Kids
  kids = flat_kids cells

  abbrev flat : PlainComponent
  flat = flat_part (Node part cells)

  abbrev asked : PortRef → Type 0
  asked = Asked (Node part cells) inputs outputs holes

  in_flat : (q : PortRef) → BlockTarget flat q → InFlat flat outputs holes q
  in_flat (ports.Cell e p) h = h
  in_flat (ports.Input n) h = h
  in_flat (ports.Output n) h = played.all_outputs n h
  in_flat (ports.Done g) h = absurd h
  in_flat (ports.Literal w v) h = h

  pub played_base : IsBase host host_held more z (Node part cells) first f s
  played_base = record {
    cells = played.cells;
    literals = played.literals;
    drives = λ q target still. played.drives q (in_flat q target) ∙ ap (map (moved_acting f)) (still_drivers flat inner q still);
    embedded = played.embedded;
    stands = played.stands;
  }

  pub asked_of : (q : PortRef) → IsNamed (Node part cells) q → ((n : ℕ) → q ≡ ports.Input n → inputs n) → asked q
  asked_of (ports.Cell c p) named input = named
  asked_of (ports.Input n) named input = input n refl
  asked_of (ports.Output n) named input = absurd named
  asked_of (ports.Done g) named input = absurd named
  asked_of (ports.Literal w v) named input = tt

  known_of : (q : PortRef) → asked q → IsKnown (Node part cells) q
  known_of (ports.Cell c p) h = h
  known_of (ports.Input n) h = tt
  known_of (ports.Output n) h = tt
  known_of (ports.Done g) h = tt
  known_of (ports.Literal w v) h = tt

  own_in_flat : (p : PortRef) → asked p → OwnTarget kids part p → InFlat flat outputs holes (own_port kids part p)
  own_in_flat (ports.Cell c p) h own = subst (InFlat flat outputs holes) (sym (own-kept kids part c p own.1)) (kept_inside part cells fair below host host_held more z acyclic deeper first f s played_base c own.0 own.1)
  own_in_flat (ports.Input n) h own = absurd own
  own_in_flat (ports.Output n) h own = h
  own_in_flat (ports.Done g) h own = h
  own_in_flat (ports.Literal w v) h own = absurd own

  level : IsLevel host host_held more z (Node part cells) first f held act s asked
  level = record {
    counts = fair.counts;
    known = known_of;
    closed = λ p q here lead. is_closed (Node part cells) act asked
        (λ o k r j active there names. asked_of r (fair.names o.assign r (assign_of part o j) names) (λ n e. played.named o k n j active (subst (AssignNames o.assign) e names)))
        (λ c p m row at side reads known. (known.0, λ child e static. absurd (row_instance row child (sym at ∙ e))))
        p q here lead;
    cells = played.cells;
    literals = played.literals;
    drives = λ p here own.
        played.drives (own_port kids part p) (own_in_flat p here own)
        ∙ ap (map (moved_acting f)) (own_drivers kids part fair.targets inner flat refl refl act p own played.acts);
    inputs = played.held_there;
    outputs = played.given;
    holes = played.ended;
    rows = rows_there part cells fair below host host_held more z acyclic deeper first f s played_base;
    states = states_there part cells fair below host host_held more z acyclic deeper first f s played_base;
    children = twins_there part cells fair below host host_held more z acyclic deeper first f s played_base;
    gives = λ c n child x at dynamic less sees. outputs_there part cells fair below host host_held more z acyclic deeper first f s played_base c n child at dynamic less x sees;
    dones = played.dones;
    wires = λ c n child x at static less sees.
        wire_seen part cells fair below host host_held more z acyclic deeper first f s played_base c child at static (within_child (Node part cells) fair c child at)
        (λ e inside. played.quiet c e (flat_part child) (kid-static cells c child at static) inside) n x less sees;
  }

  -- EACH PORT IS SEEN as in the instance
  pub played_seen : (p : PortRef) (x : Seen) → asked p → Sees (Node part cells) held act s p x → seen host host_held more z (f (own_port kids part p)) ≡ x
  played_seen p x here sees = level_seen host host_held more z acyclic deeper (Node part cells) first f held act s asked level p x here sees

  pub played_found : IsAcyclic (Node part cells) act → AcyclicBelow cells → (p : PortRef) → asked p → seen host host_held more z (f (own_port kids part p)) ≡ seen (Node part cells) held act s p
  played_found calm calmer p here = played_seen p (seen (Node part cells) held act s p) here (seen_found (Node part cells) held act s calm calmer p)
