-- NOTHING LEADS IN A CIRCLE in a flat instance, where nothing does so in the tree.
use Rattle.std.proofs.Common.{◌≡◌, ℕ, zero, suc, ◌+◌, ◌-◌, ◌<◌, ◌≤◌, ⊎_elim, Bool, true, false, List, [], ◌∷◌, length, map, Some, None, refl, sym, ap, ◌∙◌, subst, arith}
use Rattle.std.proofs.lemmas.Bool.{cases_lt}
use Rattle.std.proofs.lemmas.List.{length-append}
use Rattle.cx_meaning.specs.declared.ports.PortRef.{PortRef}
use Rattle.cx_meaning.specs.declared.ports.PortRef.TheVariants as ports
use Rattle.cx_meaning.specs.Designs.{PlainCell, PlainInvoke, PlainComponent}
use Rattle.cx_meaning.specs.Instances.{Instance, Node, Cells, no_cells, a_primitive, an_instance, OfInstance, part_of, cells_of, cell_at}
use Rattle.cx_meaning.specs.Active.{Active, entries, Owned, source_order, offset_of, drivers}
use Rattle.cx_text.specs.Members.{In}
use Rattle.cx_meaning.proofs.InstancesLemmas.{row_instance}
use Rattle.cx_meaning.proofs.DesignsLemmas.{group_there}
use Rattle.cx_rules.specs.Footprints.{AssignNames, Mentions, CellLeads, Leads}
use Rattle.cx_rules.specs.Circles.{IsAcyclic}
use Rattle.cx_rewrites.specs.Moving.{moved_acting}
use Rattle.cx_rewrites.proofs.ClosedLemmas.{is_closed}
use Rattle.cx_flattening.specs.Events.{the_invoke, source_to}
use Rattle.cx_flattening.specs.Deeds.{Deed, own_entries, deeds_below}
use Rattle.cx_flattening.specs.Whole.{is_static}
use Rattle.cx_flattening.specs.Flattened.{Kids, kid_at, kid_if, kept, block, blocks, block_size, block_at, kept_at, start_of, wire_at, flat_part, flat_kids, flat_cells, own_port, child_port, invoke_port}
use Rattle.cx_flattening.specs.Targets.{OwnTarget, BlockTarget}
use Rattle.cx_flattening.specs.Acting.{IsIdle, IsFed, ActsAs, AllActAs}
use Rattle.cx_flattening.specs.Embedded.{IsEmbedded, IsFlattened}
use Rattle.cx_flattening.specs.Levels.{IsKnown, InFlat, Asked}
use Rattle.cx_flattening.specs.Seeing.{NoCircle, NoneBelow}
use Rattle.cx_flattening.specs.Fair.{IsNamed, IsFair, AllFair, AllFairBelow}
use Rattle.cx_flattening.proofs.MovedTwice.{moved_twice, moved_still}
use Rattle.cx_flattening.proofs.PortLemmas.{own-kept}
use Rattle.cx_flattening.proofs.CellLayout.{kept_inside}
use Rattle.cx_flattening.proofs.Standing.{in_flat_cells, within_child, length-block, fair_own}
use Rattle.cx_flattening.proofs.FlatDrivers.{own_drivers, fed_drivers, idle_drivers}
use Rattle.cx_flattening.proofs.RestingPorts.{OfOne, owner_of}
use Rattle.cx_flattening.proofs.LevelSights.{kid-static, flat-outputs}
use Rattle.cx_flattening.proofs.FlatOutputs.{drivers_like}
use Rattle.cx_flattening.proofs.FlatSights.{still_drivers, assign_of}
use Rattle.cx_flattening.proofs.FlatChildren.{own_acts}
use Rattle.cx_flattening.proofs.FlatSeen.{Alive, none_fed}
use Rattle.cx_flattening.proofs.Safe.{Safe, safe, acyclic_safe, safe_acyclic}
use Rattle.cx_flattening.proofs.SafeLevels.{IsSafeLevel, level_safe}
use Rattle.cx_flattening.proofs.SafeOutputs.{IsSeat, OutputLeads, OutputsSafe, wire_beyond, seat_row, seat_twin, seat_wire, child_seat, child_leads, wire_input_safe, wire_safe, kids_safe}
use Rattle.cx_meaning.proofs.CycleLemmas.{cell_beyond}

-- IT ACTS THERE as the instance does: inner acts of the flat component, as act does of the instance
pub record IsPlace (host : Instance) (more : Active) (i : Instance) (first : ℕ) (f : PortRef → PortRef) (act inner : Active) (inputs outputs holes : ℕ → Type 0) : Type 0 where
  pub cells : (e p : ℕ) → f (ports.Cell e p) ≡ ports.Cell (first + e) p
  pub literals : (w v : ℕ) → f (ports.Literal w v) ≡ ports.Literal w v
  pub drives : (q : PortRef) → InFlat (flat_part i) outputs holes q → drivers (part_of host) more (f q) ≡ map (moved_acting f) (drivers (flat_part i) inner q)
  pub acts : (g : ℕ) → g < length (part_of i).groups → inner.offset g ≡ act.offset g
  pub safe_inputs : (n : ℕ) → inputs n → Safe host more (f (ports.Input n))
  pub given : (n : ℕ) → outputs n → OutputLeads host more f n
  pub ended : (g : ℕ) → holes g → (q : PortRef) → Leads host more (f (ports.Done g)) q → Mentions (drivers (part_of host) more (f (ports.Done g))) q
  pub all_outputs : (n : ℕ) → n < length (part_of i).outputs → outputs n
  pub named : (o : Owned) (k n : ℕ) → In (source_order (part_of i)) o → offset_of act o.owner ≡ Some k → AssignNames o.assign (ports.Input n) → inputs n
  pub embedded : IsEmbedded i first (cells_of host)

module _ (part : PlainComponent) (cells : Cells) (fair : IsFair (Node part cells)) (below : (c : ℕ) (child : Instance) → cell_at cells c ≡ OfInstance child → OutputsSafe child)
    (host : Instance) (more : Active) (first : ℕ) (f : PortRef → PortRef) (act inner : Active) (inputs outputs holes : ℕ → Type 0)
    (place : IsPlace host more (Node part cells) first f act inner inputs outputs holes) where
  abbrev kids : Kids
  kids = flat_kids cells

  abbrev flat : PlainComponent
  flat = flat_part (Node part cells)

  abbrev asked : PortRef → Type 0
  asked = Asked (Node part cells) inputs outputs holes

  in_flat : (q : PortRef) → BlockTarget flat q → InFlat flat outputs holes q
  in_flat (ports.Cell e p) h = h
  in_flat (ports.Input n) h = h
  in_flat (ports.Output n) h = place.all_outputs n h
  in_flat (ports.Done g) h = absurd h
  in_flat (ports.Literal w v) h = h

  pub seat : IsSeat host more (Node part cells) first f
  seat = record {
    cells = place.cells;
    literals = place.literals;
    drives = λ q target still. place.drives q (in_flat q target) ∙ ap (map (moved_acting f)) (still_drivers flat inner q still);
    embedded = place.embedded;
  }

  asked_of : (q : PortRef) → IsNamed (Node part cells) q → ((n : ℕ) → q ≡ ports.Input n → inputs n) → asked q
  asked_of (ports.Cell c p) named input = named
  asked_of (ports.Input n) named input = input n refl
  asked_of (ports.Output n) named input = absurd named
  asked_of (ports.Done g) named input = absurd named
  asked_of (ports.Literal w v) named input = tt

  known_of : (q : PortRef) → asked q → IsKnown (Node part cells) q
  known_of (ports.Cell c p) h = h
  known_of (ports.Input n) h = tt
  known_of (ports.Output n) h = tt
  known_of (ports.Done g) h = tt
  known_of (ports.Literal w v) h = tt

  own_in_flat : (p : PortRef) → asked p → OwnTarget kids part p → InFlat flat outputs holes (own_port kids part p)
  own_in_flat (ports.Cell c p) h own = subst (InFlat flat outputs holes) (sym (own-kept kids part c p own.1)) (kept_inside kids part.cells c own.0 own.1)
  own_in_flat (ports.Input n) h own = absurd own
  own_in_flat (ports.Output n) h own = h
  own_in_flat (ports.Done g) h own = h
  own_in_flat (ports.Literal w v) h own = absurd own

  level : IsSafeLevel host more (Node part cells) first f act asked
  level = record {
    counts = fair.counts;
    known = known_of;
    closed = λ p q here lead. is_closed (Node part cells) act asked
        (λ o k r j active there names. asked_of r (fair.names o.assign r (assign_of part o j) names) (λ n e. place.named o k n j active (subst (AssignNames o.assign) e names)))
        (λ c p m row at side reads known. (known.0, λ child e static. absurd (row_instance row child (sym at ∙ e))))
        p q here lead;
    cells = place.cells;
    literals = place.literals;
    drives = λ p here own.
        place.drives (own_port kids part p) (own_in_flat p here own)
        ∙ ap (map (moved_acting f)) (own_drivers kids part fair.targets inner flat refl refl act p own place.acts);
    inputs = place.safe_inputs;
    outputs = λ n q here lead. place.given n here q lead;
    holes = λ g q here lead. place.ended g here q lead;
    rows = seat_row part cells fair below host more first f seat;
    children = seat_twin part cells fair below host more first f seat;
    wires = λ c n child at static less. wire_safe part cells fair below host more first f seat c child at static n less;
  }

  -- EACH PORT OF THE INSTANCE IS SAFE where it stands
  pub place_safe : IsAcyclic (Node part cells) act → (p : PortRef) → asked p → Safe host more (f (own_port kids part p))
  place_safe calm p here = level_safe host more (Node part cells) first f act asked level p here (acyclic_safe (Node part cells) act calm p)

  -- and each port of a cell that is kept
  pub kept_safe : IsAcyclic (Node part cells) act → (c p : ℕ) → c < length part.cells → kid_at kids c ≡ None → Safe host more (ports.Cell (first + kept_at kids c) p)
  kept_safe calm c p less none =
      subst (Safe host more) (ap f (own-kept kids part c p none) ∙ place.cells (kept_at kids c) p)
      (place_safe calm (ports.Cell c p) (less, λ child at static. absurd (let not_kept : None ≡ Some (flat_part child) = sym none ∙ kid-static cells c child at static in cc)))

  -- A STATIC CHILD, by a map of its ports that is one of its block
  module _ (c : ℕ) (child : Instance) (at : cell_at cells c ≡ OfInstance child) (static : is_static child ≡ true) (child_fair : IsFair child) where
    abbrev kid : PlainComponent
    kid = flat_part child

    there : c < length part.cells
    there = within_child (Node part cells) fair c child at

    its : kid_at kids c ≡ Some kid
    its = kid-static cells c child at static

    sum : (a b d : ℕ) → a + (b + d) ≡ a + b + d
    sum a b d = omega arith

    abbrev its_outputs : ℕ → Type 0
    its_outputs n = n < length (part_of child).outputs

    abbrev no_holes : ℕ → Type 0
    no_holes g = ⊥

    module _ (move : PortRef → PortRef) (deed its_act : Active) (its_inputs : ℕ → Type 0)
        (moves_cells : (e p : ℕ) → move (ports.Cell e p) ≡ ports.Cell (start_of kids part c + e) p) (moves_literals : (w v : ℕ) → move (ports.Literal w v) ≡ ports.Literal w v)
        (moves_outputs : (n : ℕ) → move (ports.Output n) ≡ ports.Cell (wire_at kids part kid c n) 0)
        (drives : (q : PortRef) → BlockTarget kid q → drivers flat inner (move q) ≡ map (moved_acting move) (drivers kid deed q))
        (acts : (g : ℕ) → g < length (part_of child).groups → deed.offset g ≡ its_act.offset g)
        (inputs_safe : (n : ℕ) → its_inputs n → Safe host more (f (move (ports.Input n))))
        (named : (o : Owned) (k n : ℕ) → In (source_order (part_of child)) o → offset_of its_act o.owner ≡ Some k → AssignNames o.assign (ports.Input n) → its_inputs n) where
      target_of : (q : PortRef) → InFlat kid its_outputs no_holes q → BlockTarget kid q
      target_of (ports.Cell e p) h = h
      target_of (ports.Input n) h = h
      target_of (ports.Output n) h = subst (λ l. n < length l) (sym (flat-outputs child)) h
      target_of (ports.Done g) h = h
      target_of (ports.Literal w v) h = h

      flat_of : (q : PortRef) → BlockTarget kid q → InFlat flat outputs holes (move q)
      flat_of (ports.Cell e p) less = subst (InFlat flat outputs holes) (sym (moves_cells e p)) (in_flat_cells kids part c e kid there its (omega (arith, less)))
      flat_of (ports.Input n) less = absurd less
      flat_of (ports.Output n) less =
          subst (InFlat flat outputs holes) (sym (moves_outputs n))
          (let all = in_flat_cells kids part c (length kid.cells + n) kid there its (omega (arith, less)) in omega (arith, all))
      flat_of (ports.Done g) less = absurd less
      flat_of (ports.Literal w v) less = absurd less

      child_place : IsPlace host more child (first + start_of kids part c) (λ q. f (move q)) its_act deed its_inputs its_outputs no_holes
      child_place = record {
        cells = λ e p. ap f (moves_cells e p) ∙ place.cells (start_of kids part c + e) p ∙ ap (λ k. ports.Cell k p) (sum first (start_of kids part c) e);
        literals = λ w v. ap f (moves_literals w v) ∙ place.literals w v;
        drives = λ q h.
            place.drives (move q) (flat_of q (target_of q h)) ∙ ap (map (moved_acting f)) (drives q (target_of q h)) ∙ moved_twice f move (drivers kid deed q);
        acts = acts;
        safe_inputs = inputs_safe;
        given = λ n less q lead.
            subst (λ x. Mentions (drivers (part_of host) more (f x)) q) (sym (moves_outputs n))
            (child_leads part cells fair below host more first f seat c child at static n less q (subst (λ x. Leads host more (f x) q) (moves_outputs n) lead));
        ended = λ g none. absurd none;
        all_outputs = λ n less. less;
        named = named;
        embedded = (child_seat part cells fair below host more first f seat c child at static).embedded;
      }

    -- what it is where it is idle, and where it is fed
    module _ (deeds : List Deed) (calm : IsAcyclic (Node part cells) act) (alive : Alive (Node part cells) deeds inputs) (deed : Active)
        (does : ActsAs child (entries (own_entries (deeds_below c deeds))) (deeds_below c deeds) deed) where
      abbrev its_deed : Active
      its_deed = entries (own_entries (deeds_below c deeds))

      abbrev nowhere : ℕ → Type 0
      nowhere n = ⊥

      still_named : IsIdle kids part c kid deeds deed inner → (o : Owned) (k n : ℕ) → In (source_order (part_of child)) o → offset_of its_deed o.owner ≡ Some k → AssignNames o.assign (ports.Input n) → ⊥
      still_named idle o k n j active names = ⊎_elim (λ h. child_fair.kept static o.assign n h.1 names) of_group (owner_of (part_of child) o j)
        where
          of_group : OfOne (part_of child) o → ⊥
          of_group h =
              let less = group_there (part_of child) h.number o.assign h.stands in
              let none : None ≡ Some k = sym (idle.still h.number) ∙ own_acts child its_deed (deeds_below c deeds) deed does h.number less ∙ ap (offset_of its_deed) (sym h.owner) ∙ active in
              cc

      pub idle_place : IsIdle kids part c kid deeds deed inner → IsPlace host more child (first + start_of kids part c) (λ q. f (child_port kids part kid c (λ n. ports.Input n) q)) its_deed deed nowhere its_outputs no_holes
      idle_place idle =
          child_place (child_port kids part kid c (λ n. ports.Input n)) deed its_deed nowhere (λ e p. refl) (λ w v. refl) (λ n. refl)
          (λ q target. idle_drivers kids part fair.targets inner flat refl refl c kid its deeds deed idle (λ n. ports.Input n) q target)
          (λ g less. own_acts child its_deed (deeds_below c deeds) deed does g less) (λ n none. absurd none) (still_named idle)

      module _ (fed : IsFed kids part c kid deeds deed inner) where
        abbrev v : PlainInvoke
        v = the_invoke part fed.invoke

        abbrev its_inputs : ℕ → Type 0
        its_inputs n = n < length (part_of child).inputs

        source_named : (n : ℕ) → n < length (part_of child).inputs → IsNamed (Node part cells) (source_to v.cell v.inputs n)
        source_named n less = fair.sources fed.invoke n child fed.its.there (ap (cell_at cells) fed.its.cell ∙ at) less

        source_safe : (n : ℕ) → n < length (part_of child).inputs → Safe host more (f (own_port kids part (source_to v.cell v.inputs n)))
        source_safe n less =
            place_safe calm (source_to v.cell v.inputs n)
            (asked_of (source_to v.cell v.inputs n) (source_named n less) (λ m e. alive c v.inputs fed.fed m (subst (IsNamed (Node part cells)) e (source_named n less))))

        pub fed_place : IsPlace host more child (first + start_of kids part c) (λ q. f (invoke_port kids part kid v q)) its_deed deed its_inputs its_outputs no_holes
        fed_place =
            child_place (invoke_port kids part kid v) deed its_deed its_inputs
            (λ e p. ap (λ d. ports.Cell (start_of kids part d + e) p) fed.its.cell) (λ w x. refl) (λ n. ap (λ d. ports.Cell (wire_at kids part kid d n) 0) fed.its.cell)
            (λ q target. fed_drivers kids part fair.targets inner flat refl refl c kid its deeds deed fed q target)
            (λ g less. own_acts child its_deed (deeds_below c deeds) deed does g less) source_safe
            (λ o k n j active names. child_fair.names o.assign (ports.Input n) (assign_of (part_of child) o j) names)

-- WHICH CELL a flat cell is: one that is kept, or one of a block
pub data Which (kids : Kids) (cs : List PlainCell) (e : ℕ) : Type 0 where
  a_kept : (c : ℕ) → c < length cs → kid_at kids c ≡ None → e ≡ kept_at kids c → Which kids cs e
  of_block : (c n : ℕ) (child : PlainComponent) → c < length cs → kid_at kids c ≡ Some child → n < block_size (Some child) → e ≡ length (kept kids cs) + (block_at kids c + n) → Which kids cs e

kept_which : (kids : Kids) (cs : List PlainCell) (e : ℕ) → e < length (kept kids cs) → (c : ℕ) × (c < length cs) × (kid_at kids c ≡ None) × (e ≡ kept_at kids c)
kept_which [] cs e less = (e, less, refl, refl)
kept_which (k ∷ ks) [] e less = absurd (omega (arith, less))
kept_which (None ∷ ks) (x ∷ xs) zero less = (0, omega arith, refl, refl)
kept_which (None ∷ ks) (x ∷ xs) (suc e) less = let r = kept_which ks xs e (omega (arith, less)) in (suc r.0, (let l = r.1 in omega (arith, l)), r.2, ap suc r.3)
kept_which (Some child ∷ ks) (x ∷ xs) e less = let r = kept_which ks xs e less in (suc r.0, (let l = r.1 in omega (arith, l)), r.2, r.3)

record InBlocks (kids : Kids) (cs : List PlainCell) (e : ℕ) : Type 0 where
  cell : ℕ
  number : ℕ
  child : PlainComponent
  less : cell < length cs
  its : kid_at kids cell ≡ Some child
  inside : number < block_size (Some child)
  is : e ≡ block_at kids cell + number

blocks_which : (kids : Kids) (cs : List PlainCell) (e : ℕ) → e < length (blocks kids cs) → InBlocks kids cs e
blocks_which [] cs e less = absurd (omega (arith, less))
blocks_which (k ∷ ks) [] e less = absurd (omega (arith, less))
blocks_which (None ∷ ks) (x ∷ xs) e less =
    let r = blocks_which ks xs e less in
    record { cell = suc r.cell; number = r.number; child = r.child; less = (let l = r.less in omega (arith, l)); its = r.its; inside = r.inside; is = (let s = r.is in omega (arith, s)) }
blocks_which (Some child ∷ ks) (x ∷ xs) e less =
    ⊎_elim
    (λ (l : e < block_size (Some child)). record { cell = 0; number = e; child = child; less = omega arith; its = refl; inside = l; is = omega arith })
    (λ (l : block_size (Some child) ≤ e).
    let size = length-block (Some child) x in
    let all = length-append (block (Some child) x) (blocks ks xs) in
    let r = blocks_which ks xs (e - block_size (Some child)) (omega (arith, less, size, all, l)) in
    record { cell = suc r.cell; number = r.number; child = r.child; less = (let m = r.less in omega (arith, m)); its = r.its; inside = r.inside; is = (let s = r.is in omega (arith, s, l)) })
    (cases_lt e (block_size (Some child)))

pub which : (kids : Kids) (cs : List PlainCell) (e : ℕ) → e < length (flat_cells kids cs) → Which kids cs e
which kids cs e less =
    ⊎_elim
    (λ (l : e < length (kept kids cs)). let r = kept_which kids cs e l in a_kept r.0 r.1 r.2 r.3)
    (λ (l : length (kept kids cs) ≤ e).
    let all = length-append (kept kids cs) (blocks kids cs) in
    let r = blocks_which kids cs (e - length (kept kids cs)) (omega (arith, less, all, l)) in
    of_block r.cell r.number r.child r.less r.its r.inside (let s = r.is in omega (arith, s, l)))
    (cases_lt e (length (kept kids cs)))

-- a flat child is that of a static child
pub kid_from : (cells : Cells) (c : ℕ) (kid : PlainComponent) → kid_at (flat_kids cells) c ≡ Some kid → (child : Instance) × (cell_at cells c ≡ OfInstance child) × (is_static child ≡ true) × (flat_part child ≡ kid)
kid_from no_cells c kid e = absurd (cc)
kid_from (a_primitive row rest) zero kid e = absurd (cc)
kid_from (a_primitive row rest) (suc c) kid e = kid_from rest c kid e
kid_from (an_instance child rest) zero kid e = by (is_static child) refl e
  where
    by : (b : Bool) → is_static child ≡ b → kid_if b (flat_part child) ≡ Some kid → (i : Instance) × (OfInstance child ≡ OfInstance i) × (is_static i ≡ true) × (flat_part i ≡ kid)
    by true static f = (child, refl, static, cc)
    by false static f = absurd (cc)
kid_from (an_instance child rest) (suc c) kid e = kid_from rest c kid e

module _ (host : Instance) (more : Active) where
  abbrev pub CellsSafe : Instance → ℕ → Type 0
  CellsSafe i first = (e p : ℕ) → e < length (flat_part i).cells → Safe host more (ports.Cell (first + e) p)

  mutual
    -- EACH PORT OF EACH FLAT CELL IS SAFE
    pub cells_safe : (i : Instance) → AllFair i → (first : ℕ) (f : PortRef → PortRef) (act inner : Active) (inputs outputs holes : ℕ → Type 0) → IsPlace host more i first f act inner inputs outputs holes
        → (deeds : List Deed) → ActsAs i act deeds inner → NoCircle i act deeds → Alive i deeds inputs → CellsSafe i first
    cells_safe (Node part cells) fair first f act inner inputs outputs holes place deeds does calm alive e p less =
        by (which (flat_kids cells) part.cells e less)
        (blocks_safe cells part cells 0 (λ n. ap (cell_at cells) (plus n)) fair fair.1 first f act inner inputs outputs holes place deeds does.1 calm calm.2 alive)
      where
        plus : (a : ℕ) → a ≡ 0 + a
        plus a = omega arith

        by : Which (flat_kids cells) part.cells e → ((n : ℕ) (child : Instance) → cell_at cells n ≡ OfInstance child → is_static child ≡ true → CellsSafe child (first + start_of (flat_kids cells) part (0 + n)))
            → Safe host more (ports.Cell (first + e) p)
        by (a_kept c there none is) blocks =
            subst (λ k. Safe host more (ports.Cell (first + k) p)) (sym is)
            (kept_safe part cells fair.0 (kids_safe cells fair.1 calm.1) host more first f act inner inputs outputs holes place calm.0 c p there none)
        by (of_block c n kid there its inside is) blocks =
            let k = kid_from cells c kid its in
            in_block c n k.0 k.1 k.2 (subst (λ x. n < block_size (Some x)) (sym k.3) inside) is (blocks c k.0 k.1 k.2)
          where
            in_block : (c n : ℕ) (child : Instance) → cell_at cells c ≡ OfInstance child → is_static child ≡ true → n < block_size (Some (flat_part child))
                → e ≡ length (kept (flat_kids cells) part.cells) + (block_at (flat_kids cells) c + n) → CellsSafe child (first + start_of (flat_kids cells) part (0 + c)) → Safe host more (ports.Cell (first + e) p)
            in_block c n child at static within is inner_safe =
                ⊎_elim
                (λ (l : n < length (flat_part child).cells).
                subst (λ k. Safe host more (ports.Cell k p)) (let z : start_of (flat_kids cells) part (0 + c) ≡ start_of (flat_kids cells) part c = ap (start_of (flat_kids cells) part) (sym (plus c)) in omega (arith, is, z)) (inner_safe n p l))
                (λ (l : length (flat_part child).cells ≤ n).
                let m = n - length (flat_part child).cells in
                let few : m < length (part_of child).outputs = subst (λ list. m < length list) (flat-outputs child) (omega (arith, within, l)) in
                let w = seat_wire part cells fair.0 (kids_safe cells fair.1 calm.1) host more first f (seat part cells fair.0 (kids_safe cells fair.1 calm.1) host more first f act inner inputs outputs holes place) c child at static m few in
                subst (λ k. Safe host more (ports.Cell k p)) (omega (arith, is, l))
                (wire_beyond host more (first + wire_at (flat_kids cells) part (flat_part child) c m) w.0 p w.1
                (wire_input_safe part cells fair.0 (kids_safe cells fair.1 calm.1) host more first f (seat part cells fair.0 (kids_safe cells fair.1 calm.1) host more first f act inner inputs outputs holes place) c child at static m few)))
                (cases_lt n (length (flat_part child).cells))

    blocks_safe : (rest : Cells) (part : PlainComponent) (cells : Cells) (c : ℕ) → ((n : ℕ) → cell_at rest n ≡ cell_at cells (c + n)) → AllFair (Node part cells) → AllFairBelow rest
        → (first : ℕ) (f : PortRef → PortRef) (act inner : Active) (inputs outputs holes : ℕ → Type 0) → IsPlace host more (Node part cells) first f act inner inputs outputs holes
        → (deeds : List Deed) → AllActAs (flat_kids cells) part rest c deeds inner → NoCircle (Node part cells) act deeds → NoneBelow rest c deeds → Alive (Node part cells) deeds inputs
        → (n : ℕ) (child : Instance) → cell_at rest n ≡ OfInstance child → is_static child ≡ true → CellsSafe child (first + start_of (flat_kids cells) part (c + n))
    blocks_safe no_cells part cells c tail fair fair_rest first f act inner inputs outputs holes place deeds does calm calm_rest alive n child e static = absurd (cc)
    blocks_safe (a_primitive row rest) part cells c tail fair fair_rest first f act inner inputs outputs holes place deeds does calm calm_rest alive zero child e static = absurd (cc)
    blocks_safe (a_primitive row rest) part cells c tail fair fair_rest first f act inner inputs outputs holes place deeds does calm calm_rest alive (suc n) child e static =
        subst (λ k. CellsSafe child (first + start_of (flat_kids cells) part k)) (plus c n)
        (blocks_safe rest part cells (suc c) (λ m. tail (suc m) ∙ ap (cell_at cells) (sym (plus c m))) fair fair_rest first f act inner inputs outputs holes place deeds does calm calm_rest alive n child e static)
      where
        plus : (a b : ℕ) → suc a + b ≡ a + suc b
        plus a b = omega arith
    blocks_safe (an_instance other rest) part cells c tail fair fair_rest first f act inner inputs outputs holes place deeds does calm calm_rest alive zero child e static =
        subst (λ k. CellsSafe child (first + start_of (flat_kids cells) part k)) (sym (zero_plus c))
        (subst (λ k. CellsSafe k (first + start_of (flat_kids cells) part c)) same
        (let is : is_static other ≡ true = ap is_static same ∙ static in
        let h = does.0 is in
        ⊎_elim
        (λ idle. cells_safe other fair_rest.0 _ _ _ _ _ _ _
        (idle_place part cells fair.0 (kids_safe cells fair.1 calm.1) host more first f act inner inputs outputs holes place c other at is (fair_own other fair_rest.0) deeds calm.0 alive h.0 h.2 idle)
        (deeds_below c deeds) h.2 (calm_rest.0 is) (λ d sources e n less. none_fed d (deeds_below c deeds) sources idle.none_below e))
        (λ fed. cells_safe other fair_rest.0 _ _ _ _ _ _ _
        (fed_place part cells fair.0 (kids_safe cells fair.1 calm.1) host more first f act inner inputs outputs holes place c other at is (fair_own other fair_rest.0) deeds calm.0 alive h.0 h.2 fed)
        (deeds_below c deeds) h.2 (calm_rest.0 is) (λ d sources e n less. less))
        h.3))
      where
        zero_plus : (a : ℕ) → a + 0 ≡ a
        zero_plus a = omega arith

        same : other ≡ child
        same = cc

        at : cell_at cells c ≡ OfInstance other
        at = ap (cell_at cells) (sym (zero_plus c)) ∙ sym (tail 0)
    blocks_safe (an_instance other rest) part cells c tail fair fair_rest first f act inner inputs outputs holes place deeds does calm calm_rest alive (suc n) child e static =
        subst (λ k. CellsSafe child (first + start_of (flat_kids cells) part k)) (plus c n)
        (blocks_safe rest part cells (suc c) (λ m. tail (suc m) ∙ ap (cell_at cells) (sym (plus c m))) fair fair_rest.1 first f act inner inputs outputs holes place deeds does.1 calm calm_rest.1 alive n child e static)
      where
        plus : (a b : ℕ) → suc a + b ≡ a + suc b
        plus a b = omega arith

abbrev all_numbers : ℕ → Type 0
all_numbers n = Unit {0}

module _ (part : PlainComponent) (cells : Cells) (flat : Instance) (flattened : IsFlattened (Node part cells) flat) (fair : AllFair (Node part cells)) (act more : Active) (deeds : List Deed)
    (does : ActsAs (Node part cells) act deeds more) (calm : NoCircle (Node part cells) act deeds) where
  top : IsPlace flat more (Node part cells) 0 (λ q. q) act more all_numbers all_numbers all_numbers
  top = record {
    cells = λ e p. ap (λ k. ports.Cell k p) (zero_plus e);
    literals = λ w v. refl;
    drives = λ q h. drivers_like (part_of flat) (flat_part (Node part cells)) flattened.0 more q ∙ sym (moved_still (drivers (flat_part (Node part cells)) more q));
    acts = own_acts (Node part cells) act deeds more does;
    safe_inputs = λ n h. safe (λ q lead. absurd lead);
    given = λ n h q lead. lead;
    ended = λ g h q lead. lead;
    all_outputs = λ n h. tt;
    named = λ o k n j active names. tt;
    embedded = flattened.1;
  }
    where
      zero_plus : (a : ℕ) → a ≡ 0 + a
      zero_plus a = omega arith

  all_safe : (p : PortRef) → Safe flat more p
  all_safe (ports.Cell e p) =
      ⊎_elim
      (λ (l : e < length (flat_part (Node part cells)).cells).
      subst (λ k. Safe flat more (ports.Cell k p)) (zero_plus e)
      (cells_safe flat more (Node part cells) fair 0 (λ q. q) act more all_numbers all_numbers all_numbers top deeds does calm (λ d sources f n less. tt) e p l))
      (λ (l : length (flat_part (Node part cells)).cells ≤ e).
      safe (λ q lead. absurd (subst (λ x. CellLeads (part_of flat) more e p x q) (cell_beyond (cells_of flat) e (let count = flattened.2 in omega (arith, l, count))) lead)))
      (cases_lt e (length (flat_part (Node part cells)).cells))
    where
      zero_plus : (a : ℕ) → 0 + a ≡ a
      zero_plus a = omega arith
  all_safe (ports.Input n) = safe (λ q lead. absurd lead)
  all_safe (ports.Output n) = place_safe part cells fair.0 (kids_safe cells fair.1 calm.1) flat more 0 (λ q. q) act more all_numbers all_numbers all_numbers top calm.0 (ports.Output n) tt
  all_safe (ports.Done g) = place_safe part cells fair.0 (kids_safe cells fair.1 calm.1) flat more 0 (λ q. q) act more all_numbers all_numbers all_numbers top calm.0 (ports.Done g) tt
  all_safe (ports.Literal w v) = safe (λ q lead. absurd lead)

-- NO CIRCLE in the flat instance
pub flat_acyclic : (i flat : Instance) → IsFlattened i flat → AllFair i → (act more : Active) (deeds : List Deed) → ActsAs i act deeds more → NoCircle i act deeds → IsAcyclic flat more
flat_acyclic (Node part cells) flat flattened fair act more deeds does calm = safe_acyclic flat more (all_safe part cells flat flattened fair act more deeds does calm)
