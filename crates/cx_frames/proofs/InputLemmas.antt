-- What an instance does depends on the inputs alone that its component has: what is seen, its cycles, and the leaves of its control.
use Rattle.std.proofs.Common.{◌≡◌, ℕ, suc, ◌<◌, Bool, true, false, [], ◌∷◌, length, Option, Some, None, refl, sym, ap, ◌∙◌, subst}
use Rattle.std.proofs.Math.Path.{fun_ext}
use Rattle.cx_text.specs.Members.{In}
use Rattle.cx_prim.specs.CellStates.{CellState}
use Rattle.cx_prim.specs.Rows.{Row}
use Rattle.cx_prim.specs.declared.ports.Side.{Side}
use Rattle.cx_prim.specs.declared.ports.Side.TheVariants as sides
use Rattle.cx_meaning.specs.declared.ports.PortRef.{PortRef}
use Rattle.cx_meaning.specs.declared.ports.PortRef.TheVariants as ports
use Rattle.cx_meaning.specs.declared.sights.Seen.{Seen}
use Rattle.cx_meaning.specs.declared.kinds.GroupKind.{GroupKind}
use Rattle.cx_meaning.specs.declared.kinds.GroupKind.TheVariants as kinds
use Rattle.cx_meaning.specs.Rows.{side_of}
use Rattle.cx_meaning.specs.Designs.{Enable, group_at}
use Rattle.cx_meaning.specs.Instances.{Instance, At, Nothing, OfRow, OfInstance, cell_at, cells_of, part_of, State, idle, under}
use Rattle.cx_meaning.specs.Active.{Active, nothing, group, capture, Owned, source_order, drivers}
use Rattle.cx_meaning.specs.Truths.{truth_of}
use Rattle.cx_meaning.specs.Sights.{Look, Below, Held, PartPort, Go, AnInput, AnOutput, ItsDone, part_port, gather, step, Sees, by_step, seen}
use Rattle.cx_meaning.specs.Cycles.{enables, after_enabling, cell_outcome, every_cell, cycle}
use Rattle.cx_meaning.specs.Answers.{then_do, one_turn, turns_of, idle_turn}
use Rattle.cx_meaning.specs.Islands.{island, turn_of}
use Rattle.cx_meaning.specs.Calls.{hole_turn, group_turn, test_of, test, called, captures, lift_answer, inputs_of_call, after_child, call, call_or_turns, enable_kind, enable}
use Rattle.cx_meaning.specs.Running.{Children}
use Rattle.cx_meaning.proofs.CycleLemmas.{cycles_same}
use Rattle.cx_meaning.proofs.SightsLemmas.{one_sight}
use Rattle.cx_rules.specs.Footprints.{AssignNames, Mentions, SideLeads, PartLeads, CellLeads, Leads}
use Rattle.cx_rules.specs.Circles.{IsAcyclic, AcyclicBelow}
use Rattle.cx_rules.specs.Wellformed.{IsThere}
use Rattle.cx_rules.proofs.FoundLemmas.{needs_leads, seen_found, acting_in}
use Rattle.cx_frames.proofs.CircleFrames.{capture_acyclic}

-- no input but those of the component
abbrev pub Own : Instance → PortRef → Type 0
Own i (ports.Cell c p) = Unit {0}
Own i (ports.Input n) = n < length (part_of i).inputs
Own i (ports.Output n) = Unit {0}
Own i (ports.Done g) = Unit {0}
Own i (ports.Literal w v) = Unit {0}

pub own_there : (i : Instance) (q : PortRef) → IsThere i q → Own i q
own_there i (ports.Cell c p) h = tt
own_there i (ports.Input n) h = h
own_there i (ports.Output n) h = tt
own_there i (ports.Done g) h = tt
own_there i (ports.Literal w v) h = tt

-- a cell comes to what its ports are seen as
outcome_same : (look more : Look) → ((c p : ℕ) → look (ports.Cell c p) ≡ more (ports.Cell c p)) → (c : ℕ) (row : Row) (d : CellState) → cell_outcome look c row d ≡ cell_outcome more c row d
outcome_same look more same c row d = ap (λ l. after_enabling l row d (gather l (enables row) 0 row.ports)) (fun_ext (λ p. same c p))

module _ (i : Instance) (held other : Held) (same : (input : ℕ) → input < length (part_of i).inputs → held input ≡ other input)
    (own : (o : Owned) (q : PortRef) → In (source_order (part_of i)) o → AssignNames o.assign q → Own i q) (deeper : AcyclicBelow (cells_of i)) where
  module _ (act : Active) where
    mention_own : (p q : PortRef) → Mentions (drivers (part_of i) act p) q → Own i q
    mention_own p q (b, j, names) = let r = acting_in act p (source_order (part_of i)) b j in own r.0 q r.1 (subst (λ a. AssignNames a q) r.2 names)

    side_own : (c p : ℕ) (q : PortRef) (row : Row) (side : Side) → SideLeads (part_of i) act row c p side q → Own i q
    side_own c p q row sides.Enable l = mention_own (ports.Cell c p) q l
    side_own c p q row sides.Plain l = mention_own (ports.Cell c p) q l
    side_own c p q row sides.Output (m, reads, is) = subst (Own i) is tt
    side_own c p q row sides.Registered l = absurd l

    part_own : (c p : ℕ) (q : PortRef) (port : PartPort) → PartLeads (part_of i) act c p port q → Own i q
    part_own c p q Go l = mention_own (ports.Cell c p) q l
    part_own c p q (AnInput n) l = mention_own (ports.Cell c p) q l
    part_own c p q (AnOutput n) l = absurd l
    part_own c p q ItsDone l = absurd l

    cell_own : (c p : ℕ) (q : PortRef) (at : At) → CellLeads (part_of i) act c p at q → Own i q
    cell_own c p q Nothing l = absurd l
    cell_own c p q (OfRow row) l = side_own c p q row (side_of row p) l
    cell_own c p q (OfInstance child) l = part_own c p q (part_port (part_of child) p) l

    leads_own : (p q : PortRef) → Leads i act p q → Own i q
    leads_own (ports.Cell c p) q l = cell_own c p q (cell_at (cells_of i) c) l
    leads_own (ports.Input n) q l = absurd l
    leads_own (ports.Output n) q l = mention_own (ports.Output n) q l
    leads_own (ports.Done g) q l = mention_own (ports.Done g) q l
    leads_own (ports.Literal w v) q l = absurd l

    step_same : (s : State) (look : Look) (below : Below) (p : PortRef) → Own i p → step i other act s look below p ≡ step i held act s look below p
    step_same s look below (ports.Cell c p) h = refl
    step_same s look below (ports.Input n) h = sym (same n h)
    step_same s look below (ports.Output n) h = refl
    step_same s look below (ports.Done g) h = refl
    step_same s look below (ports.Literal w v) h = refl

    carried : {s : State} {p : PortRef} {x : Seen} → Own i p → Sees i held act s p x → Sees i other act s p x
    carried {s} {p} {x} h (by_step look below needed children e) =
        by_step look below (λ q need. carried (leads_own p q (needs_leads i act look p q need)) (needed q need)) children (step_same s look below p h ∙ e)

    module _ (acyclic : IsAcyclic i act) where
      pub seen_own : (s : State) (p : PortRef) → Own i p → seen i held act s p ≡ seen i other act s p
      seen_own s p h = one_sight (carried h (seen_found i held act s acyclic deeper p)) (seen_found i other act s acyclic deeper p)

      pub cycle_own : (s : State) → cycle i held act s ≡ cycle i other act s
      cycle_own s =
          cycles_same every_cell (seen i held act s) (seen i other act s) (cells_of i) s
          (λ c row at on. outcome_same (seen i held act s) (seen i other act s) (λ d p. seen_own s (ports.Cell d p) tt) c row (s (c ∷ [])))

  -- the leaves of control
  pub turn_own : (g : ℕ) → IsAcyclic i (group g) → (s : State) → group_turn i held g s ≡ group_turn i other g s
  turn_own g acyclic s =
      ap (λ x. hole_turn g x (truth_of (seen i held (group g) s (ports.Done g)))) (cycle_own (group g) acyclic s) ∙ ap (λ x. hole_turn g (cycle i other (group g) s) (truth_of x)) (seen_own (group g) acyclic s (ports.Done g) tt)

  pub test_own : IsAcyclic i nothing → ((g : ℕ) → IsAcyclic i (group g)) → (port : PortRef) → Own i port → (comb : Option ℕ) (s : State) → test i held port comb s ≡ test i other port comb s
  test_own bare groups port h None s = ap (λ x. test_of port (truth_of x)) (seen_own nothing bare s port h)
  test_own bare groups port h (Some g) s = ap (λ x. test_of port (truth_of x)) (seen_own (group g) (groups g) s port h)

  module _ (children : Children) (g : ℕ) (acyclic : IsAcyclic i (group g)) where
    after_own : (c : ℕ) (b : Bool) (s : State) (n : ℕ) → after_child i held g c b s n ≡ after_child i other g c b s n
    after_own c true s n =
        let turns : (λ s1. turn_of (cycle i held (capture g c) s1)) ≡ (λ s1. turn_of (cycle i other (capture g c) s1)) = fun_ext (λ s1. ap turn_of (cycle_own (capture g c) (capture_acyclic i g c acyclic) s1)) in
        ap (λ t. one_turn (idle i) t (idle_turn (idle i)) s n) turns
    after_own c false s n = refl

    call_own : (c : ℕ) (s : State) (n : ℕ) → call i children held g c s n ≡ call i children other g c s n
    call_own c s n =
        let inputs : inputs_of_call i held g c s ≡ inputs_of_call i other g c s = fun_ext (λ input. seen_own (group g) acyclic s (ports.Cell c (suc input)) tt) in
        let after : (λ s1 m. after_child i held g c (captures i g) s1 m) ≡ (λ s1 m. after_child i other g c (captures i g) s1 m) = fun_ext (λ s1. fun_ext (λ m. after_own c (captures i g) s1 m)) in
        ap (λ x. then_do (lift_answer c s (children c x (under c s) n)) n (after_child i held g c (captures i g))) inputs
        ∙ ap (λ f. then_do (lift_answer c s (children c (inputs_of_call i other g c s) (under c s) n)) n f) after

    called_own : (o : Option ℕ) (s : State) (n : ℕ) → call_or_turns i children held g o s n ≡ call_or_turns i children other g o s n
    called_own None s n =
        let turns : group_turn i held g ≡ group_turn i other g = fun_ext (turn_own g acyclic) in
        ap (λ t. turns_of (idle i) t s n) turns
    called_own (Some c) s n = call_own c s n

    kind_own : (kind : GroupKind) (s : State) (n : ℕ) → island i held (Enable g) s n ≡ island i other (Enable g) s n → enable_kind i children held g kind s n ≡ enable_kind i children other g kind s n
    kind_own kinds.Plain s n e = called_own (called i g) s n
    kind_own kinds.Comb s n e = called_own (called i g) s n
    kind_own (kinds.Timed length) s n e = e

    pub enable_own : (s : State) (n : ℕ) → island i held (Enable g) s n ≡ island i other (Enable g) s n → enable i children held g s n ≡ enable i children other g s n
    enable_own s n e = kind_own (group_at (part_of i) g).kind s n e
