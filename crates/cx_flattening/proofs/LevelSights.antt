-- EACH PORT IS SEEN IN THE HOST as in the instance whose port it stands for.
use Rattle.std.proofs.Common.{◌≡◌, ℕ, zero, suc, ◌+◌, ◌-◌, ◌<◌, Bool, true, false, [], ◌∷◌, length, map, Some, None, refl, sym, ap, ◌∙◌, arith}
use Rattle.std.specs.Prelude.{nat_lt, if◌then◌else◌}
use Rattle.std.proofs.Math.Path.{fun_ext}
use Rattle.cx_prim.specs.declared.ports.Side.{Side}
use Rattle.cx_prim.specs.declared.ports.Side.TheVariants as sides
use Rattle.cx_prim.specs.Rows.{Row}
use Rattle.cx_meaning.specs.declared.ports.PortRef.{PortRef}
use Rattle.cx_meaning.specs.declared.ports.PortRef.TheVariants as ports
use Rattle.cx_meaning.specs.declared.sights.Seen.{Seen}
use Rattle.cx_meaning.specs.declared.sights.Seen.TheVariants.{Undefined}
use Rattle.cx_meaning.specs.Rows.{side_of}
use Rattle.cx_meaning.specs.Designs.{PlainComponent}
use Rattle.cx_meaning.specs.Instances.{Instance, Node, Cells, no_cells, a_primitive, an_instance, At, Nothing, OfRow, OfInstance, part_of, cells_of, cell_at, State, under}
use Rattle.cx_meaning.specs.Active.{Active, drivers}
use Rattle.cx_meaning.specs.Sights.{Look, Below, Held, bit_of, target_seen, gather, output_seen, of_option, PartPort, Go, AnInput, AnOutput, ItsDone, output_port, part_port, side_step, part_step, cell_step, step, Sees, seen, outputs_below}
use Rattle.cx_meaning.proofs.InstancesLemmas.{literal_is}
use Rattle.cx_rules.specs.Circles.{IsAcyclic, AcyclicBelow}
use Rattle.cx_rules.proofs.FoundLemmas.{seen_solves}
use Rattle.cx_laws.proofs.TreeLemmas.{output_there}
use Rattle.cx_rewrites.specs.Moving.{moved_acting}
use Rattle.cx_rewrites.specs.Solving.{IsSeenBelow, Solves}
use Rattle.cx_rewrites.proofs.SolvedLemmas.{solved_is_seen}
use Rattle.cx_rewrites.proofs.TargetLemmas.{target_seen-moved}
use Rattle.cx_flattening.specs.Whole.{is_static}
use Rattle.cx_flattening.specs.Flattened.{kid_at, kid_if, flat_part, flat_kids, kept_at, wire_at, port_if}
use Rattle.cx_flattening.specs.Targets.{OwnTarget}
use Rattle.cx_flattening.specs.Levels.{own_of, IsLevel}

-- the flat component of the static child at a cell
pub kid-row : (cells : Cells) (c : ℕ) (row : Row) → cell_at cells c ≡ OfRow row → kid_at (flat_kids cells) c ≡ None
kid-row no_cells c row e = absurd (cc)
kid-row (a_primitive other rest) zero row e = refl
kid-row (a_primitive other rest) (suc c) row e = kid-row rest c row e
kid-row (an_instance child rest) zero row e = absurd (cc)
kid-row (an_instance child rest) (suc c) row e = kid-row rest c row e

pub kid-child : (cells : Cells) (c : ℕ) (child : Instance) → cell_at cells c ≡ OfInstance child → kid_at (flat_kids cells) c ≡ kid_if (is_static child) (flat_part child)
kid-child no_cells c child e = absurd (cc)
kid-child (a_primitive other rest) zero child e = absurd (cc)
kid-child (a_primitive other rest) (suc c) child e = kid-child rest c child e
kid-child (an_instance other rest) zero child e = let same : other ≡ child = cc in ap (λ x. kid_if (is_static x) (flat_part x)) same
kid-child (an_instance other rest) (suc c) child e = kid-child rest c child e

pub kid-static : (cells : Cells) (c : ℕ) (child : Instance) → cell_at cells c ≡ OfInstance child → is_static child ≡ true → kid_at (flat_kids cells) c ≡ Some (flat_part child)
kid-static cells c child e static = kid-child cells c child e ∙ ap (λ b. kid_if b (flat_part child)) static

pub kid-dynamic : (cells : Cells) (c : ℕ) (child : Instance) → cell_at cells c ≡ OfInstance child → is_static child ≡ false → kid_at (flat_kids cells) c ≡ None
kid-dynamic cells c child e dynamic = kid-child cells c child e ∙ ap (λ b. kid_if b (flat_part child)) dynamic

-- the number of an output among the ports of a cell
pub output_number : (part : PlainComponent) (p n : ℕ) → part_port part p ≡ AnOutput n → p - 1 - length part.inputs ≡ n
output_number part zero n e = absurd (cc)
output_number part (suc m) n e = by (nat_lt m (length part.inputs)) e
  where
    one : (k : ℕ) → suc m - 1 - k ≡ m - k
    one k = omega arith

    is_output : (outputs k : ℕ) → output_port outputs k ≡ AnOutput n → k ≡ n
    is_output outputs k f = inner (nat_lt k outputs) f
      where
        inner : (t : Bool) → (if t then AnOutput k else ItsDone) ≡ AnOutput n → k ≡ n
        inner true g = cc
        inner false g = absurd (cc)

    by : (t : Bool) → (if t then AnInput m else output_port (length part.outputs) (m - length part.inputs)) ≡ AnOutput n → suc m - 1 - length part.inputs ≡ n
    by true f = absurd (cc)
    by false f = one (length part.inputs) ∙ is_output (length part.outputs) (m - length part.inputs) f

pub flat-inputs : (i : Instance) → (flat_part i).inputs ≡ (part_of i).inputs
flat-inputs (Node part cells) = refl

pub flat-outputs : (i : Instance) → (flat_part i).outputs ≡ (part_of i).outputs
flat-outputs (Node part cells) = refl

module _ (host : Instance) (host_held : Held) (more : Active) (z : State) (acyclic : IsAcyclic host more) (deeper : AcyclicBelow (cells_of host))
    (i : Instance) (first : ℕ) (f : PortRef → PortRef) (held : Held) (act : Active) (s : State) (asked : PortRef → Type 0) (level : IsLevel host host_held more z i first f held act s asked) where
  abbrev twin : Look
  twin = seen host host_held more z

  abbrev there : Below
  there = outputs_below (cells_of host) (λ k. under k z)

  abbrev back : Look
  back q = twin (f (own_of i q))

  solves : (p : PortRef) → twin p ≡ step host host_held more z twin there p
  solves p = seen_solves host host_held more z acyclic deeper p

  -- the assignments of a port give what they give in the instance
  driven : (p : PortRef) (undriven : Seen) → asked p → OwnTarget (flat_kids (cells_of i)) (part_of i) p
      → target_seen undriven twin (drivers (part_of host) more (f (own_of i p))) ≡ target_seen undriven back (drivers (part_of i) act p)
  driven p undriven here own =
      ap (target_seen undriven twin) (level.drives p here own)
      ∙ target_seen-moved f twin undriven (map (moved_acting (own_of i)) (drivers (part_of i) act p))
      ∙ target_seen-moved (own_of i) (λ q. twin (f q)) undriven (drivers (part_of i) act p)

  -- where a cell is kept
  kept-is : (c p : ℕ) → kid_at (flat_kids (cells_of i)) c ≡ None → f (own_of i (ports.Cell c p)) ≡ ports.Cell (first + kept_at (flat_kids (cells_of i)) c) p
  kept-is c p e = ap (λ k. f (port_if (flat_kids (cells_of i)) (part_of i) k c p)) e ∙ level.cells (kept_at (flat_kids (cells_of i)) c) p

  driven_there : (c p : ℕ) (undriven : Seen) → asked (ports.Cell c p) → kid_at (flat_kids (cells_of i)) c ≡ None
      → target_seen undriven twin (drivers (part_of host) more (ports.Cell (first + kept_at (flat_kids (cells_of i)) c) p)) ≡ target_seen undriven back (drivers (part_of i) act (ports.Cell c p))
  driven_there c p undriven here e =
      ap (λ x. target_seen undriven twin (drivers (part_of host) more x)) (sym (kept-is c p e)) ∙ driven (ports.Cell c p) undriven here ((level.known (ports.Cell c p) here).0, e)

  side_there : (below : Below) (row : Row) (c p : ℕ) (side : Side) → asked (ports.Cell c p) → cell_at (cells_of i) c ≡ OfRow row
      → side_step (part_of host) more z twin there row (first + kept_at (flat_kids (cells_of i)) c) p side ≡ side_step (part_of i) act s back below row c p side
  side_there below row c p sides.Enable here at = driven_there c p (bit_of false) here (kid-row (cells_of i) c row at)
  side_there below row c p sides.Plain here at = driven_there c p Undefined here (kid-row (cells_of i) c row at)
  side_there below row c p sides.Output here at =
      ap (λ d. output_seen (λ inputs. row.output d inputs p) (gather (λ q. twin (ports.Cell (first + kept_at (flat_kids (cells_of i)) c) q)) (row.reads p) 0 row.ports)) (level.states c row at)
      ∙ ap (λ look. output_seen (λ inputs. row.output (s (c ∷ [])) inputs p) (gather look (row.reads p) 0 row.ports)) (fun_ext (λ q. ap twin (sym (kept-is c q (kid-row (cells_of i) c row at)))))
  side_there below row c p sides.Registered here at = ap (λ d. of_option (row.output d [] p)) (level.states c row at)

  part_there : (below : Below) (c p : ℕ) (child : Instance) (port : PartPort) → asked (ports.Cell c p) → cell_at (cells_of i) c ≡ OfInstance child → is_static child ≡ false
      → part_port (part_of child) p ≡ port → ((n : ℕ) → n < length (part_of child).outputs → there (first + kept_at (flat_kids (cells_of i)) c) n ≡ below c n)
      → part_step (part_of host) more z twin there (first + kept_at (flat_kids (cells_of i)) c) p port ≡ part_step (part_of i) act s back below c p port
  part_there below c p child Go here at dynamic its outs = driven_there c p (bit_of false) here (kid-dynamic (cells_of i) c child at dynamic)
  part_there below c p child (AnInput n) here at dynamic its outs = driven_there c p Undefined here (kid-dynamic (cells_of i) c child at dynamic)
  part_there below c p child (AnOutput n) here at dynamic its outs = outs n (output_there (part_of child) p n its)
  part_there below c p child ItsDone here at dynamic its outs = ap bit_of (level.dones c child at dynamic)

  child_there : (below : Below) (c p : ℕ) (child : Instance) (static : Bool) → is_static child ≡ static → asked (ports.Cell c p) → cell_at (cells_of i) c ≡ OfInstance child → IsSeenBelow i s (ports.Cell c p) below
      → back (ports.Cell c p) ≡ part_step (part_of i) act s back below c p (part_port (part_of child) p)
  child_there below c p child false e here at known =
      let r = level.children c child at e in
      ap twin (kept-is c p (kid-dynamic (cells_of i) c child at e)) ∙ solves (ports.Cell (first + kept_at (flat_kids (cells_of i)) c) p)
      ∙ ap (cell_step (part_of host) more z twin there (first + kept_at (flat_kids (cells_of i)) c) p) r.1
      ∙ ap (part_step (part_of host) more z twin there (first + kept_at (flat_kids (cells_of i)) c) p) (sym (r.2 p))
      ∙ part_there below c p child (part_port (part_of child) p) here at e refl (λ n less. level.gives c n child (below c n) at e less (known c p n child refl at))
  child_there below c p child true e here at known =
      let r = (level.known (ports.Cell c p) here).1 child at e in
      ap (λ k. twin (f (port_if (flat_kids (cells_of i)) (part_of i) k c p))) (kid-static (cells_of i) c child at e)
      ∙ ap twin (level.cells (wire_at (flat_kids (cells_of i)) (part_of i) (flat_part child) c (p - 1 - length (flat_part child).inputs)) 1)
      ∙ ap (λ n. twin (ports.Cell (first + wire_at (flat_kids (cells_of i)) (part_of i) (flat_part child) c n) 1)) (ap (λ k. p - 1 - length k) (flat-inputs child) ∙ output_number (part_of child) p r.0 r.1)
      ∙ level.wires c r.0 child (below c r.0) at e (output_there (part_of child) p r.0 r.1) (known c p r.0 child refl at)
      ∙ ap (part_step (part_of i) act s back below c p) (sym r.1)

  cell_there : (below : Below) (c p : ℕ) (at : At) → cell_at (cells_of i) c ≡ at → asked (ports.Cell c p) → IsSeenBelow i s (ports.Cell c p) below
      → back (ports.Cell c p) ≡ cell_step (part_of i) act s back below c p at
  cell_there below c p Nothing e here known = absurd (level.counts c (level.known (ports.Cell c p) here).0 e)
  cell_there below c p (OfRow row) e here known =
      ap twin (kept-is c p (kid-row (cells_of i) c row e)) ∙ solves (ports.Cell (first + kept_at (flat_kids (cells_of i)) c) p)
      ∙ ap (cell_step (part_of host) more z twin there (first + kept_at (flat_kids (cells_of i)) c) p) (level.rows c row e)
      ∙ side_there below row c p (side_of row p) here e
  cell_there below c p (OfInstance child) e here known = child_there below c p child (is_static child) refl here e known

  step_there : (p : PortRef) (below : Below) → asked p → IsSeenBelow i s p below → back p ≡ step i held act s back below p
  step_there (ports.Cell c p) below here known = cell_there below c p (cell_at (cells_of i) c) refl here known
  step_there (ports.Input n) below here known = level.inputs n here
  step_there (ports.Output n) below here known = level.outputs n here ∙ driven (ports.Output n) Undefined here tt
  step_there (ports.Done g) below here known = level.holes g here ∙ driven (ports.Done g) (bit_of false) here tt
  step_there (ports.Literal w v) below here known = ap twin (level.literals w v) ∙ literal_is host host_held more z w v

  pub level_solves : Solves i held act s asked back
  level_solves = record { closed = level.closed; steps = step_there }

  -- what a port is seen as, its port in the host is seen as
  pub level_seen : (p : PortRef) (x : Seen) → asked p → Sees i held act s p x → seen host host_held more z (f (own_of i p)) ≡ x
  level_seen p x here sees = solved_is_seen level_solves here sees
