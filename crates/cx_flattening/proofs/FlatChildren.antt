-- A STATIC CHILD ACTS IN THE HOST as what it does, where the instance that holds it acts there.
use Rattle.std.proofs.Common.{◌≡◌, ℕ, zero, suc, ◌+◌, ◌<◌, ⊎_elim, Bool, true, false, List, [], ◌∷◌, length, map, Some, None, nat_eq, refl, sym, ap, ◌∙◌, subst, arith}
use Rattle.std.proofs.lemmas.List.{length-append}
use Rattle.cx_text.specs.Members.{In}
use Rattle.cx_meaning.specs.declared.ports.PortRef.{PortRef}
use Rattle.cx_meaning.specs.declared.ports.PortRef.TheVariants as ports
use Rattle.cx_meaning.specs.declared.sights.Seen.TheVariants.{Undefined}
use Rattle.cx_meaning.specs.Designs.{PlainAssign, PlainInvoke, PlainComponent}
use Rattle.cx_meaning.specs.Instances.{Instance, Node, Cells, no_cells, a_primitive, an_instance, OfInstance, part_of, cells_of, cell_at, State, under}
use Rattle.cx_meaning.specs.Active.{Active, entries, Owned, source_order, offset_of, drivers}
use Rattle.cx_meaning.specs.Sights.{Look, Held, is_done_cell, target_seen, seen}
use Rattle.cx_meaning.proofs.DesignsLemmas.{group_there}
use Rattle.cx_rules.specs.Circles.{IsAcyclic, AcyclicBelow}
use Rattle.cx_rules.specs.Footprints.{AssignNames}
use Rattle.cx_rewrites.specs.Moving.{moved_acting}
use Rattle.std.specs.Prelude.{◌⊎◌, if◌then◌else◌}
use Rattle.cx_flattening.specs.Events.{the_invoke, source_to}
use Rattle.cx_flattening.specs.Deeds.{Deed, Acts, Fed, own_entries, deeds_below, held_if, held_below}
use Rattle.cx_flattening.specs.Whole.{is_static}
use Rattle.cx_flattening.specs.Flattened.{Kids, kid_at, kept_at, block_size, start_of, wire_at, flat_part, flat_kids, own_port, child_port, invoke_port}
use Rattle.cx_flattening.specs.Targets.{BlockTarget}
use Rattle.cx_flattening.specs.Acting.{fed_by, IsIdle, IsFed, ActsAs}
use Rattle.cx_flattening.specs.Levels.{OutputsSeen, InFlat, Asked, IsHosted, IsPlayed}
use Rattle.cx_flattening.specs.Fair.{IsNamed, IsFair}
use Rattle.cx_flattening.proofs.FlatDrivers.{fed_drivers, idle_drivers}
use Rattle.cx_flattening.specs.Flattened.{kept, blocks}
use Rattle.cx_flattening.proofs.MovedTwice.{moved_twice}
use Rattle.cx_flattening.proofs.Placing.{kept_less}
use Rattle.cx_flattening.proofs.Standing.{in_flat_cells, within_child}
use Rattle.cx_flattening.proofs.RestingPorts.{OfOne, owner_of}
use Rattle.cx_flattening.proofs.LevelSights.{kid-static, kid-dynamic, flat-outputs}
use Rattle.cx_flattening.proofs.FlatOutputs.{child_hosted}
use Rattle.cx_flattening.proofs.FlatSights.{assign_of, played_base, asked_of, played_found}

-- the inputs of a child that is fed are its sources as they are seen
pub held-fed : (look : Look) (c : ℕ) (deeds : List Deed) (inputs : List PlainAssign) (n : ℕ) → fed_by c deeds ≡ Some inputs → held_below look c deeds n ≡ look (source_to c inputs n)
held-fed look c [] inputs n e = absurd (cc)
held-fed look c (Acts at x ∷ rest) inputs n e = held-fed look c rest inputs n e
held-fed look c (Fed [] d others ∷ rest) inputs n e = choice (nat_eq d c) e (held-fed look c rest inputs n)
  where
    choice : (b : Bool) → (if b then Some others else fed_by c rest) ≡ Some inputs → (fed_by c rest ≡ Some inputs → held_below look c rest n ≡ look (source_to c inputs n))
        → held_if b (λ m. look (source_to c others m)) (held_below look c rest) n ≡ look (source_to c inputs n)
    choice true f later = let same : others ≡ inputs = cc in ap (λ l. look (source_to c l n)) same
    choice false f later = later f
held-fed look c (Fed (d ∷ at) x others ∷ rest) inputs n e = held-fed look c rest inputs n e

pub own_acts : (i : Instance) (act : Active) (deeds : List Deed) (more : Active) → ActsAs i act deeds more → (g : ℕ) → g < length (part_of i).groups → more.offset g ≡ act.offset g
own_acts (Node part cells) act deeds more h = h.0

-- a cell has a flat child only where a static child is
pub kid_is : (cells : Cells) (c : ℕ) (kid : PlainComponent) → kid_at (flat_kids cells) c ≡ Some kid → (child : Instance) × (cell_at cells c ≡ OfInstance child)
kid_is no_cells c kid e = absurd (cc)
kid_is (a_primitive row rest) zero kid e = absurd (cc)
kid_is (a_primitive row rest) (suc c) kid e = kid_is rest c kid e
kid_is (an_instance child rest) zero kid e = (child, refl)
kid_is (an_instance child rest) (suc c) kid e = kid_is rest c kid e

-- its own cells and its blocks stand in its own block
pub kept_of : (i : Instance) → IsFair i → (d : ℕ) (child : Instance) → cell_at (cells_of i) d ≡ OfInstance child → is_static child ≡ false → kept_at (flat_kids (cells_of i)) d < block_size (Some (flat_part i))
kept_of (Node part cells) fair d child at dynamic =
    let inside = kept_less (flat_kids cells) part.cells d (within_child (Node part cells) fair d child at) (kid-dynamic cells d child at dynamic) in
    let all = length-append (kept (flat_kids cells) part.cells) (blocks (flat_kids cells) part.cells) in
    omega (arith, inside, all)

pub start_in : (i : Instance) → IsFair i → (d e : ℕ) (kid : PlainComponent) → kid_at (flat_kids (cells_of i)) d ≡ Some kid → e < block_size (Some kid) → start_of (flat_kids (cells_of i)) (part_of i) d + e < block_size (Some (flat_part i))
start_in (Node part cells) fair d e kid its inside =
    let r = kid_is cells d kid its in
    let all = in_flat_cells (flat_kids cells) part d e kid (within_child (Node part cells) fair d r.0 r.1) its inside in
    omega (arith, all)

-- what a static child is, as what it does
abbrev pub ChildActs : Kids → PlainComponent → Instance → ℕ → List Deed → Active → Type 0
ChildActs kids part child c deeds more =
    (inner : Active) × (inner.done_cell ≡ None) × ActsAs child (entries (own_entries (deeds_below c deeds))) (deeds_below c deeds) inner
    × (IsIdle kids part c (flat_part child) deeds inner more ⊎ IsFed kids part c (flat_part child) deeds inner more)

module _ (part : PlainComponent) (cells : Cells) (fair : IsFair (Node part cells)) (below : (c : ℕ) (child : Instance) → cell_at cells c ≡ OfInstance child → OutputsSeen child)
    (host : Instance) (host_held : Held) (more : Active) (z : State) (acyclic : IsAcyclic host more) (deeper : AcyclicBelow (cells_of host))
    (first : ℕ) (f : PortRef → PortRef) (held : Held) (act inner : Active) (s : State) (inputs outputs holes : ℕ → Type 0)
    (played : IsPlayed host host_held more z (Node part cells) first f held act inner s inputs outputs holes)
    (c : ℕ) (child : Instance) (at : cell_at cells c ≡ OfInstance child) (static : is_static child ≡ true) (child_fair : IsFair child) where
  abbrev kids : Kids
  kids = flat_kids cells

  abbrev kid : PlainComponent
  kid = flat_part child

  there : c < length part.cells
  there = within_child (Node part cells) fair c child at

  its : kid_at kids c ≡ Some kid
  its = kid-static cells c child at static

  hosted : IsHosted host host_held more z child (first + start_of kids part c) (λ q. f (child_port kids part kid c (λ n. ports.Input n) q)) (under c s)
  hosted =
      child_hosted part cells fair below host host_held more z acyclic deeper first f s (played_base part cells fair below host host_held more z acyclic deeper first f held act inner s inputs outputs holes played)
      c child at static there (λ e inside. played.quiet c e kid its inside)

  sum : (a b d : ℕ) → a + (b + d) ≡ a + b + d
  sum a b d = omega arith

  abbrev its_outputs : ℕ → Type 0
  its_outputs n = n < length (part_of child).outputs

  abbrev no_holes : ℕ → Type 0
  no_holes g = ⊥

  -- by any map of its ports that is one of its block
  module _ (move : PortRef → PortRef) (deed : Active) (its_held : Held) (its_act : Active) (its_inputs : ℕ → Type 0)
      (moves_cells : (e p : ℕ) → move (ports.Cell e p) ≡ ports.Cell (start_of kids part c + e) p) (moves_literals : (w v : ℕ) → move (ports.Literal w v) ≡ ports.Literal w v)
      (moves_outputs : (n : ℕ) → move (ports.Output n) ≡ ports.Cell (wire_at kids part kid c n) 0)
      (drives : (q : PortRef) → BlockTarget kid q → drivers (flat_part (Node part cells)) inner (move q) ≡ map (moved_acting move) (drivers kid deed q))
      (acts : (g : ℕ) → g < length (part_of child).groups → deed.offset g ≡ its_act.offset g) (no_done : its_act.done_cell ≡ None)
      (held_there : (n : ℕ) → its_inputs n → seen host host_held more z (f (move (ports.Input n))) ≡ its_held n)
      (named : (o : Owned) (k n : ℕ) → In (source_order (part_of child)) o → offset_of its_act o.owner ≡ Some k → AssignNames o.assign (ports.Input n) → its_inputs n) where
    target_of : (q : PortRef) → InFlat kid its_outputs no_holes q → BlockTarget kid q
    target_of (ports.Cell e p) h = h
    target_of (ports.Input n) h = h
    target_of (ports.Output n) h = subst (λ l. n < length l) (sym (flat-outputs child)) h
    target_of (ports.Done g) h = h
    target_of (ports.Literal w v) h = h

    flat_of : (q : PortRef) → BlockTarget kid q → InFlat (flat_part (Node part cells)) outputs holes (move q)
    flat_of (ports.Cell e p) less = subst (InFlat (flat_part (Node part cells)) outputs holes) (sym (moves_cells e p)) (in_flat_cells kids part c e kid there its (omega (arith, less)))
    flat_of (ports.Input n) less = absurd less
    flat_of (ports.Output n) less =
        subst (InFlat (flat_part (Node part cells)) outputs holes) (sym (moves_outputs n))
        (let all = in_flat_cells kids part c (length kid.cells + n) kid there its (omega (arith, less)) in omega (arith, all))
    flat_of (ports.Done g) less = absurd less
    flat_of (ports.Literal w v) less = absurd less

    quiet_at : (e : ℕ) → e < block_size (Some kid) → is_done_cell more.done_cell (first + start_of kids part c + e) ≡ false
    quiet_at e less = ap (is_done_cell more.done_cell) (sym (sum first (start_of kids part c) e)) ∙ played.quiet c e kid its less

    pub child_played : IsPlayed host host_held more z child (first + start_of kids part c) (λ q. f (move q)) its_held its_act deed (under c s) its_inputs its_outputs no_holes
    child_played = record {
      cells = λ e p. ap f (moves_cells e p) ∙ played.cells (start_of kids part c + e) p ∙ ap (λ k. ports.Cell k p) (sum first (start_of kids part c) e);
      literals = λ w v. ap f (moves_literals w v) ∙ played.literals w v;
      drives = λ q h.
          played.drives (move q) (flat_of q (target_of q h)) ∙ ap (map (moved_acting f)) (drives q (target_of q h)) ∙ moved_twice f move (drivers kid deed q);
      acts = acts;
      held_there = held_there;
      given = λ n less.
          subst (λ q. seen host host_held more z (f q) ≡ target_seen Undefined (seen host host_held more z) (drivers (part_of host) more (f q))) (sym (moves_outputs n)) (hosted.outputs n less);
      ended = λ g none. absurd none;
      all_outputs = λ n less. less;
      named = named;
      dones = λ d grandchild d_at dynamic.
          quiet_at (kept_at (flat_kids (cells_of child)) d) (kept_of child child_fair d grandchild d_at dynamic)
          ∙ ap (λ o. is_done_cell o d) (sym no_done);
      quiet = λ d e grandkid d_its inside.
          quiet_at (start_of (flat_kids (cells_of child)) (part_of child) d + e) (start_in child child_fair d e grandkid d_its inside);
      embedded = hosted.base.embedded;
      stands = hosted.base.stands;
    }

  -- what it is where it is idle, and where it is fed
  module _ (deeds : List Deed) (calm : IsAcyclic (Node part cells) act) (calmer : AcyclicBelow cells)
      (alive : (d : ℕ) (sources : List PlainAssign) → fed_by d deeds ≡ Some sources → (n : ℕ) → n < length part.inputs → inputs n) (deed : Active)
      (does : ActsAs child (entries (own_entries (deeds_below c deeds))) (deeds_below c deeds) deed) where
    abbrev its_deed : Active
    its_deed = entries (own_entries (deeds_below c deeds))

    abbrev its_held : Held
    its_held = held_below (seen (Node part cells) held act s) c deeds

    abbrev nowhere : ℕ → Type 0
    nowhere n = ⊥

    still_named : IsIdle kids part c kid deeds deed inner → (o : Owned) (k n : ℕ) → In (source_order (part_of child)) o → offset_of its_deed o.owner ≡ Some k → AssignNames o.assign (ports.Input n) → ⊥
    still_named idle o k n j active names = ⊎_elim (λ h. child_fair.kept static o.assign n h.1 names) of_group (owner_of (part_of child) o j)
      where
        of_group : OfOne (part_of child) o → ⊥
        of_group h =
            let less = group_there (part_of child) h.number o.assign h.stands in
            let none : None ≡ Some k = sym (idle.still h.number) ∙ own_acts child its_deed (deeds_below c deeds) deed does h.number less ∙ ap (offset_of its_deed) (sym h.owner) ∙ active in
            cc

    pub idle_played : IsIdle kids part c kid deeds deed inner
        → IsPlayed host host_held more z child (first + start_of kids part c) (λ q. f (child_port kids part kid c (λ n. ports.Input n) q)) its_held its_deed deed (under c s) nowhere its_outputs no_holes
    idle_played idle =
        child_played (child_port kids part kid c (λ n. ports.Input n)) deed its_held its_deed nowhere (λ e p. refl) (λ w v. refl) (λ n. refl)
        (λ q target. idle_drivers kids part fair.targets inner (flat_part (Node part cells)) refl refl c kid its deeds deed idle (λ n. ports.Input n) q target)
        (λ g less. own_acts child its_deed (deeds_below c deeds) deed does g less) refl (λ n none. absurd none) (still_named idle)

    module _ (fed : IsFed kids part c kid deeds deed inner) where
      abbrev v : PlainInvoke
      v = the_invoke part fed.invoke

      abbrev its_inputs : ℕ → Type 0
      its_inputs n = n < length (part_of child).inputs

      source_named : (n : ℕ) → n < length (part_of child).inputs → IsNamed (Node part cells) (source_to v.cell v.inputs n)
      source_named n less = fair.sources fed.invoke n child fed.its.there (ap (cell_at cells) fed.its.cell ∙ at) less

      source_asked : (n : ℕ) → n < length (part_of child).inputs → Asked (Node part cells) inputs outputs holes (source_to v.cell v.inputs n)
      source_asked n less =
          asked_of part cells fair below host host_held more z acyclic deeper first f held act inner s inputs outputs holes played (source_to v.cell v.inputs n) (source_named n less)
          (λ m e. alive c v.inputs fed.fed m (subst (IsNamed (Node part cells)) e (source_named n less)))

      input_there : (n : ℕ) → n < length (part_of child).inputs → seen host host_held more z (f (own_port kids part (source_to v.cell v.inputs n))) ≡ its_held n
      input_there n less =
          played_found part cells fair below host host_held more z acyclic deeper first f held act inner s inputs outputs holes played calm calmer (source_to v.cell v.inputs n) (source_asked n less)
          ∙ ap (λ d. seen (Node part cells) held act s (source_to d v.inputs n)) fed.its.cell
          ∙ sym (held-fed (seen (Node part cells) held act s) c deeds v.inputs n fed.fed)

      pub fed_played : IsPlayed host host_held more z child (first + start_of kids part c) (λ q. f (invoke_port kids part kid v q)) its_held its_deed deed (under c s) its_inputs its_outputs no_holes
      fed_played =
          child_played (invoke_port kids part kid v) deed its_held its_deed its_inputs
          (λ e p. ap (λ d. ports.Cell (start_of kids part d + e) p) fed.its.cell) (λ w x. refl) (λ n. ap (λ d. ports.Cell (wire_at kids part kid d n) 0) fed.its.cell)
          (λ q target. fed_drivers kids part fair.targets inner (flat_part (Node part cells)) refl refl c kid its deeds deed fed q target)
          (λ g less. own_acts child its_deed (deeds_below c deeds) deed does g less) refl input_there
          (λ o k n j active names. child_fair.names o.assign (ports.Input n) (assign_of (part_of child) o j) names)
