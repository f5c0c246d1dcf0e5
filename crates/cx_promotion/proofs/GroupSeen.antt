-- WHAT A PROMOTED GROUP SEES in a cycle of the new design: all but dones as the old group sees it, and its enabling ports too.
use Rattle.std.specs.Prelude.{◌≡◌, ◌⊎◌, ◌<◌, ℕ, zero, suc, true, false, not, List, [], ◌∷◌, Option, Some, None, length, refl}
use Rattle.std.proofs.Common.{sym, ap, ◌∙◌, subst, inl, inr, arith}
use Rattle.std.proofs.lemmas.Bool.{false_from_ne_true}
use Rattle.cx_text.specs.Members.{In}
use Rattle.cx_prim.specs.declared.ports.PortName.TheVariants as names
use Rattle.cx_prim.specs.declared.ports.PortRow.{PortRow}
use Rattle.cx_prim.specs.declared.ports.Side.{Side}
use Rattle.cx_prim.specs.declared.ports.Side.TheVariants as sides
use Rattle.cx_prim.specs.Rows.{Inputs, Row, is_enable_side, is_output_side}
use Rattle.cx_prim.proofs.PortsLemmas.{is_enable_side-Enable}
use Rattle.cx_meaning.specs.declared.ports.PortRef.{PortRef}
use Rattle.cx_meaning.specs.declared.ports.PortRef.TheVariants as ports
use Rattle.cx_meaning.specs.declared.ports.PlacedPort.{PlacedPort}
use Rattle.cx_meaning.specs.declared.sights.Seen.{Seen}
use Rattle.cx_meaning.specs.declared.sights.Seen.TheVariants as sights
use Rattle.cx_meaning.specs.Rows.{side_from, side_of}
use Rattle.cx_meaning.specs.Designs.{PlainGuard, Always, PlainAssign, PlainGroup, group_at}
use Rattle.cx_meaning.specs.Instances.{Instance, At, Nothing, OfRow, OfInstance, part_of, cells_of, cell_at, State, under}
use Rattle.cx_meaning.specs.Active.{Active, nothing, group, entries, Acting, Owned, offset_of, same_port, source_order, drivers}
use Rattle.cx_meaning.specs.Truths.{One, truth_of, not_truth}
use Rattle.cx_meaning.specs.Sights.{Look, Held, unheld, Sees, bit_of, of_option, guard_truth, target_seen, side_step, cell_step, seen, outputs_below}
use Rattle.cx_meaning.specs.Cycles.{enables}
use Rattle.cx_meaning.proofs.ActiveLemmas.{only_self, acting_has, group_stands}
use Rattle.cx_meaning.proofs.DesignsLemmas.{group_there}
use Rattle.cx_meaning.proofs.InstancesLemmas.{literal_is}
use Rattle.cx_meaning.proofs.PortsLemmas.{same_self}
use Rattle.cx_rules.specs.Circles.{IsAcyclic}
use Rattle.cx_rules.specs.Footprints.{AssignNames, Mentions, Leads}
use Rattle.cx_rules.specs.Items.{sources_of, ranges_of}
use Rattle.cx_rules.specs.Ports.{is_primitive_enable, is_cell_output, is_target_only}
use Rattle.cx_meaning.specs.Calls.{enables_at}
use Rattle.cx_rules.specs.ShapeRules.{is_hole, owner_length}
use Rattle.cx_rules.specs.CallShape.{one}
use Rattle.cx_rules.specs.Wellformed.{port_count, IsThere}
use Rattle.cx_rules.proofs.FoundLemmas.{seen_solves, source_in}
use Rattle.cx_rewrites.proofs.ClosedLemmas.{is_closed}
use Rattle.cx_promotion.specs.Promotable.{is_named, is_done_at, is_done, looks_at_done, promoted_assigns}
use Rattle.cx_promotion.specs.Made.{IsPromoted}
use Rattle.cx_promotion.proofs.RowSides.{IsPlainPort, LooksAtPlain, row_sides}
use Rattle.cx_promotion.proofs.Orders.{Both, acting_same, From, acting_from, CameFrom, came_from, went_to}
use Rattle.cx_promotion.proofs.Sources.{target_same, IsFrom, target_from, target_some}
use Rattle.cx_promotion.proofs.SeenAlike.{IsAlike, seen_inside}
use Rattle.cx_promotion.proofs.Twins.{Twins, beside_each, twin_cells, TwinAt, none_there, a_row_there, a_child_there, twins_at}
use Rattle.cx_promotion.proofs.MadeBeside.{KindAt, no_cell, a_row, a_part, MadeBeside}
use Rattle.cx_promotion.proofs.Stays.{same_cells, circle_back, leads_back, deeper, still_deeper, children_stay}
use Rattle.cx_promotion.proofs.Shapes.{none_pass, IsOpen, RightAssign, of_done, of_enable, of_other, Shape, shape_of}
use Rattle.cx_promotion.proofs.Members.{plain_length, one_offset, is_owner, promoted_bare}
use Rattle.cx_promotion.proofs.Near.{Near, child_near}
use Rattle.cx_promotion.proofs.Runs.{entry}
use Rattle.cx_text.proofs.BoolLaws.{not_both}
use Rattle.cx_text.proofs.OptionLaws.{same_some}
use Rattle.cx_promotion.proofs.Impossible.{no_true, no_some}
use Rattle.cx_rules.proofs.ForeignLemmas.{OwnerOf, continuous, of_group, owner_of}

-- ports
cell_same : (c p d q : ℕ) → ports.Cell c p ≡ ports.Cell d q → c ≡ d
cell_same c p d q e = cc

hole_is : (p : PortRef) → is_hole p ≡ true → (g : ℕ) × (p ≡ ports.Done g)
hole_is (ports.Cell c p) e = no_true e
hole_is (ports.Input n) e = no_true e
hole_is (ports.Output n) e = no_true e
hole_is (ports.Done g) e = (g, refl)
hole_is (ports.Literal w v) e = no_true e

at_row : (at other : At) (row : Row) → KindAt at other → at ≡ OfRow row → other ≡ OfRow row
at_row at other row (no_cell x) e = absurd (cc)
at_row at other row a_row e = e
at_row at other row a_part e = absurd (cc)

twin_row : (at other : At) (row : Row) → TwinAt MadeBeside at other → at ≡ OfRow row → other ≡ OfRow row
twin_row at other row none_there e = e
twin_row at other row a_row_there e = e
twin_row at other row (a_child_there t) e = absurd (cc)

side_sink : (side : Side) → is_enable_side side ≡ true → not (is_output_side side) ≡ true
side_sink sides.Enable e = refl
side_sink sides.Plain e = no_true e
side_sink sides.Output e = no_true e
side_sink sides.Registered e = no_true e

cell_sink : (i : Instance) (c n : ℕ) (at : At) → cell_at (cells_of i) c ≡ at → enables_at at n ≡ true → is_target_only i (ports.Cell c n) ≡ true
cell_sink i c n Nothing is e = no_true e
cell_sink i c n (OfRow row) is e = ap (λ a. not (is_cell_output a n)) is ∙ side_sink (side_of row n) e
cell_sink i c n (OfInstance child) is e = no_true e

enable_sink : (i : Instance) (p : PortRef) → is_primitive_enable i p ≡ true → is_target_only i p ≡ true
enable_sink i (ports.Cell c n) e = cell_sink i c n (cell_at (cells_of i) c) refl e
enable_sink i (ports.Input n) e = no_true e
enable_sink i (ports.Output n) e = no_true e
enable_sink i (ports.Done g) e = no_true e
enable_sink i (ports.Literal w v) e = no_true e

plain_there : (list : List PortRow) (n : ℕ) → side_from list n ≡ sides.Plain → n < length list
plain_there [] n e = absurd (cc)
plain_there (port ∷ list) zero e = omega arith
plain_there (port ∷ list) (suc n) e = let h = plain_there list n e in omega (arith, h)

-- the port of a cell is one of its row
abbrev InRange : Instance → PortRef → Type 0
InRange i (ports.Cell c n) = n < port_count (cell_at (cells_of i) c)
InRange i (ports.Input n) = Unit {0}
InRange i (ports.Output n) = Unit {0}
InRange i (ports.Done g) = Unit {0}
InRange i (ports.Literal w v) = Unit {0}

in_range : (i : Instance) (p : PortRef) → IsThere i p → InRange i p
in_range i (ports.Cell c n) h = h.1
in_range i (ports.Input n) h = tt
in_range i (ports.Output n) h = tt
in_range i (ports.Done g) h = tt
in_range i (ports.Literal w v) h = tt

-- a port that is no done, no hole and no enabling port
record IsInside (i : Instance) (p : PortRef) : Type 0 where
  no_hole : is_hole p ≡ false
  no_enable : is_primitive_enable i p ≡ false
  no_done : is_done i p ≡ false
  there : InRange i p

module _ (i j : Instance) (t : Twins MadeBeside i j) (held : Held) (g o : ℕ) (promoted : IsPromoted (beside_each MadeBeside i j t).whole (part_of i) (part_of j) g) where
  abbrev h : MadeBeside i j
  h = beside_each MadeBeside i j t

  abbrev whole : Instance
  whole = h.whole

  abbrev x : PlainGroup
  x = group_at (part_of i) g

  abbrev act : Active
  act = group g

  abbrev more : Active
  more = entries (entry (λ k. k) g o ∷ [])

  abbrev os : List Owned
  os = source_order (part_of i)

  abbrev ps : List Owned
  ps = source_order (part_of j)

  abbrev pub shape : Shape whole x promoted.0
  shape = shape_of whole x promoted.0 promoted.1

  pub acyclic : IsAcyclic i act
  acyclic = h.groups g (group_there (part_of i) g shape.done shape.done_stands)

  row_whole : (c : ℕ) (row : Row) → cell_at (cells_of i) c ≡ OfRow row → cell_at (cells_of whole) c ≡ OfRow row
  row_whole c row at = at_row (cell_at (cells_of i) c) (cell_at (cells_of whole) c) row (h.cells c) at

  pub row_twin : (c : ℕ) (row : Row) → cell_at (cells_of i) c ≡ OfRow row → cell_at (cells_of j) c ≡ OfRow row
  row_twin c row at = twin_row (cell_at (cells_of i) c) (cell_at (cells_of j) c) row (twins_at MadeBeside (cells_of i) (cells_of j) (twin_cells MadeBeside i j t) c) at

  pub row_looks : (c : ℕ) (row : Row) → cell_at (cells_of i) c ≡ OfRow row → LooksAtPlain row
  row_looks c row at = let r = h.rows c row at in subst LooksAtPlain r.1 (row_sides r.0)

  -- the active assignments of the old design
  abbrev OldKind : Owned → Type 0
  OldKind a = ((a.owner ≡ None) × In (part_of i).always a.assign) ⊎ ((a.owner ≡ Some g) × In x.assigns a.assign)

  old_kind : (a : Owned) (k : ℕ) → In os a → offset_of act a.owner ≡ Some k → OldKind a
  old_kind a k stands active = by (owner_of (part_of i) a stands) (is_owner g o a.owner k active)
    where
      by : OwnerOf (part_of i) a → (a.owner ≡ None) ⊎ (a.owner ≡ Some g) → OldKind a
      by (continuous e m) which = inl (e, m)
      by (of_group n e m) (inl none) = no_some n (sym none ∙ e)
      by (of_group n e m) (inr own) = inr (own, subst (λ k. In (group_at (part_of i) k).assigns a.assign) (same_some n g (sym e ∙ own)) m)

  -- what is active in the new one is so in the old one, and the other way round
  active_old : (w : Option ℕ) (k : ℕ) → offset_of more w ≡ Some k → (m : ℕ) × (offset_of act w ≡ Some m)
  active_old w k e = by (offset_of act w) (offset_of more w) refl (one_offset g o w) e
    where
      by : (a b : Option ℕ) → offset_of act w ≡ a → Both a b → b ≡ Some k → (m : ℕ) × (offset_of act w ≡ Some m)
      by None None is both f = no_some k f
      by (Some m) (Some n) is both f = (m, is)
      by None (Some n) is both f = absurd both
      by (Some m) None is both f = absurd both

  active_new : (w : Option ℕ) (k : ℕ) → offset_of act w ≡ Some k → (m : ℕ) × (offset_of more w ≡ Some m)
  active_new w k e = by (offset_of act w) (offset_of more w) refl (one_offset g o w) e
    where
      by : (a b : Option ℕ) → offset_of more w ≡ b → Both a b → a ≡ Some k → (m : ℕ) × (offset_of more w ≡ Some m)
      by None None is both f = no_some k f
      by (Some m) (Some n) is both f = (n, is)
      by None (Some n) is both f = absurd both
      by (Some m) None is both f = absurd both

  origin : (q : Owned) → In ps q → CameFrom os q
  origin q stands = came_from whole (IsPromoted whole (part_of i) (part_of j)) h.made.order q stands

  -- NOTHING LEADS IN A CIRCLE in the new cycle
  mentions_back : (p q : PortRef) → Mentions (drivers (part_of j) more p) q → Mentions (drivers (part_of i) act p) q
  mentions_back p q (a, inside, names) =
      let f = acting_from more p ps a inside in
      let m = origin f.owned f.stands in
      let k = active_old m.owned.owner a.offset (ap (offset_of more) m.owner ∙ f.active) in (
        record { offset = k.0; assign = m.owned.assign },
        acting_has act p os m.owned k.0 m.stands (ap (λ r. same_port r p) (m.target ∙ f.target) ∙ same_self p) k.1,
        m.names q (subst (λ (b : PlainAssign). AssignNames b q) f.same names),
      )

  pub new_acyclic : IsAcyclic j more
  new_acyclic = circle_back i j act more (leads_back i j act more (same_cells i j t) mentions_back) acyclic

  -- THE HOLE is seen as the done of the cell
  done_target : shape.done.target ≡ ports.Done g
  done_target =
      let r = hole_is shape.done.target shape.done_hole in
      let own : Some g ≡ Some r.0 = (h.assigns (record { owner = Some g; assign = shape.done }) (group_stands (part_of i) g shape.done shape.done_stands)).own_hole r.0 r.1 in
      r.1 ∙ ap ports.Done (sym (same_some g r.0 own))

  module _ (s : State) where
    abbrev look : Look
    look = seen i held act s

    from_done : (a : Acting) → In (drivers (part_of i) act (ports.Done g)) a → IsFrom look (ports.Cell shape.cell shape.port) a
    from_done a inside = by (old_kind f.owned a.offset f.stands f.active)
      where
        f : From act (ports.Done g) os a
        f = acting_from act (ports.Done g) os a inside

        by : OldKind f.owned → IsFrom look (ports.Cell shape.cell shape.port) a
        by (inl (none, m)) = absurd (h.kept.holes f.owned.assign g m f.target)
        by (inr (own, m)) =
            let same : a.assign ≡ shape.done = f.same ∙ shape.only_done f.owned.assign m (ap is_hole f.target) in
            (ap (λ (b : PlainAssign). guard_truth look a.offset b.guard) same ∙ ap (guard_truth look a.offset) shape.done_bare, ap (λ (b : PlainAssign). b.source.port) same ∙ shape.done_source)

    pub hole_seen : look (ports.Done g) ≡ look (ports.Cell shape.cell shape.port)
    hole_seen =
        seen_solves i held act s acyclic (deeper i j t) (ports.Done g)
        ∙ target_some (bit_of false) look (ports.Cell shape.cell shape.port) (drivers (part_of i) act (ports.Done g)) (record { offset = 0; assign = shape.done })
        (acting_has act (ports.Done g) os (record { owner = Some g; assign = shape.done }) 0 (group_stands (part_of i) g shape.done shape.done_stands)
        (ap (λ r. same_port r (ports.Done g)) done_target ∙ same_self (ports.Done g)) (only_self g))
        from_done

    -- the done of a primitive cell, and that of none
    pub done_seen : (row : Row) (p : ℕ) → cell_at (cells_of i) shape.cell ≡ OfRow row → is_named names.Done row.ports p ≡ true → look (ports.Cell shape.cell p) ≡ of_option (row.output (s (shape.cell ∷ [])) [] p)
    done_seen row p at named =
        seen_solves i held act s acyclic (deeper i j t) (ports.Cell shape.cell p)
        ∙ ap (cell_step (part_of i) act s look (outputs_below (cells_of i) (λ c. under c s)) shape.cell p) at
        ∙ ap (side_step (part_of i) act s look (outputs_below (cells_of i) (λ c. under c s)) row shape.cell p) ((row_looks shape.cell row at).done p named)

    pub none_seen : (p : ℕ) → cell_at (cells_of i) shape.cell ≡ Nothing → look (ports.Cell shape.cell p) ≡ sights.Undefined
    none_seen p at =
        seen_solves i held act s acyclic (deeper i j t) (ports.Cell shape.cell p)
        ∙ ap (cell_step (part_of i) act s look (outputs_below (cells_of i) (λ c. under c s)) shape.cell p) at

  -- AN ENABLING PORT of a primitive cell
  module _ (c q : ℕ) (row : Row) (at : cell_at (cells_of i) c ≡ OfRow row) (enabling : enables row q ≡ true) where
    abbrev the_port : PortRef
    the_port = ports.Cell c q

    side_is : side_of row q ≡ sides.Enable
    side_is = is_enable_side-Enable (side_of row q) enabling

    enable_whole : is_primitive_enable whole the_port ≡ true
    enable_whole = ap (λ a. enables_at a q) (row_whole c row at) ∙ enabling

    enable_target : (p : PortRef) → p ≡ the_port → is_primitive_enable whole p ≡ true
    enable_target p e = ap (is_primitive_enable whole) e ∙ enable_whole

    -- an assignment of it in the old group
    record Drives (a : PlainAssign) : Type 0 where
      same : c ≡ shape.cell
      source : a.source.port ≡ one
      guard : IsOpen (ports.Cell shape.cell shape.port) a.guard

    drives : (a : PlainAssign) → In x.assigns a → a.target ≡ the_port → Drives a
    drives a stands target = by (shape.right a stands)
      where
        by : RightAssign whole shape.cell shape.port a → Drives a
        by (of_done hole) = no_true (sym (ap is_hole target) ∙ hole)
        by (of_enable p enable is source guard) = record { same = cell_same c q shape.cell p (sym target ∙ is); source = source; guard = guard }
        by (of_other no_hole no_enable quiet) = absurd (not_both (is_primitive_enable whole a.target) (enable_target a.target target) no_enable)

    old_drives : (a : Owned) (k : ℕ) → In os a → offset_of act a.owner ≡ Some k → a.assign.target ≡ the_port → Drives a.assign × (a.owner ≡ Some g)
    old_drives a k stands active target = by (old_kind a k stands active)
      where
        by : OldKind a → Drives a.assign × (a.owner ≡ Some g)
        by (inl (none, m)) = absurd (h.kept.quiet a c q row stands none target at side_is)
        by (inr (own, m)) = (drives a.assign m target, own)

    -- in the old cycle it is taken, where the done of the cell is 0
    module _ (s : State) (zero_done : seen i held act s (ports.Cell shape.cell shape.port) ≡ bit_of false) where
      open_taken : (m : ℕ) (guard : PlainGuard) → IsOpen (ports.Cell shape.cell shape.port) guard → guard_truth (seen i held act s) m guard ≡ One
      open_taken m guard (inl e) = ap (guard_truth (seen i held act s) m) e
      open_taken m guard (inr (p, e, is)) = ap (guard_truth (seen i held act s) m) e ∙ ap (λ r. not_truth (truth_of (seen i held act s r))) is ∙ ap (λ v. not_truth (truth_of v)) zero_done

      old_from : (a : Acting) → In (drivers (part_of i) act the_port) a → IsFrom (seen i held act s) one a
      old_from a inside =
          let f = acting_from act the_port os a inside in
          let d = (old_drives f.owned a.offset f.stands f.active f.target).0 in (
            ap (λ (b : PlainAssign). guard_truth (seen i held act s) a.offset b.guard) f.same ∙ open_taken a.offset f.owned.assign.guard d.guard,
            ap (λ (b : PlainAssign). b.source.port) f.same ∙ d.source,
          )

    -- and in the new one, whatever its done is
    new_from : (look : Look) (a : Acting) → In (drivers (part_of j) more the_port) a → IsFrom look one a
    new_from look a inside = (ap (λ (b : PlainAssign). guard_truth look a.offset b.guard) f.same ∙ ap (guard_truth look a.offset) bare, ap (λ (b : PlainAssign). b.source.port) f.same ∙ sym m.source ∙ d.0.source)
      where
        f : From more the_port ps a
        f = acting_from more the_port ps a inside

        m : CameFrom os f.owned
        m = origin f.owned f.stands

        d : Drives m.owned.assign × (m.owned.owner ≡ Some g)
        d = let k = active_old m.owned.owner a.offset (ap (offset_of more) m.owner ∙ f.active) in old_drives m.owned k.0 m.stands k.1 (m.target ∙ f.target)

        bare : f.owned.assign.guard ≡ Always
        bare = by (owner_of (part_of j) f.owned f.stands)
          where
            own : f.owned.owner ≡ Some g
            own = sym m.owner ∙ d.1

            by : OwnerOf (part_of j) f.owned → f.owned.assign.guard ≡ Always
            by (continuous e inside_always) = no_some g (sym e ∙ own)
            by (of_group n e stands) =
                let same : n ≡ g = same_some n g (sym e ∙ own) in
                let mine : In (group_at (part_of j) g).assigns f.owned.assign = subst (λ k. In (group_at (part_of j) k).assigns f.owned.assign) same stands in
                let made : In (promoted_assigns whole x.assigns) f.owned.assign = subst (λ (y : PlainGroup). In y.assigns f.owned.assign) promoted.2 mine in
                promoted_bare whole x x.assigns f.owned.assign made (enable_target f.owned.assign.target f.target)

    -- one has an active assignment of it where the other has one
    to_new : (a : Acting) → In (drivers (part_of i) act the_port) a → (b : Acting) × In (drivers (part_of j) more the_port) b
    to_new a inside =
        let f = acting_from act the_port os a inside in
        let m = went_to whole (IsPromoted whole (part_of i) (part_of j)) h.made.order f.owned f.stands (ap is_hole f.target) in
        let k = active_new m.owned.owner a.offset (ap (offset_of act) m.owner ∙ f.active) in
        (record { offset = k.0; assign = m.owned.assign }, acting_has more the_port ps m.owned k.0 m.stands (ap (λ r. same_port r the_port) (m.target ∙ f.target) ∙ same_self the_port) k.1)

    to_old : (b : Acting) → In (drivers (part_of j) more the_port) b → (a : Acting) × In (drivers (part_of i) act the_port) a
    to_old b inside =
        let f = acting_from more the_port ps b inside in
        let m = origin f.owned f.stands in
        let k = active_old m.owned.owner b.offset (ap (offset_of more) m.owner ∙ f.active) in
        (record { offset = k.0; assign = m.owned.assign }, acting_has act the_port os m.owned k.0 m.stands (ap (λ r. same_port r the_port) (m.target ∙ f.target) ∙ same_self the_port) k.1)

    old_step : (s : State) → seen i held act s the_port ≡ target_seen (bit_of false) (seen i held act s) (drivers (part_of i) act the_port)
    old_step s =
        seen_solves i held act s acyclic (deeper i j t) the_port
        ∙ ap (cell_step (part_of i) act s (seen i held act s) (outputs_below (cells_of i) (λ k. under k s)) c q) at
        ∙ ap (side_step (part_of i) act s (seen i held act s) (outputs_below (cells_of i) (λ k. under k s)) row c q) side_is

    new_step : (u : State) → seen j held more u the_port ≡ target_seen (bit_of false) (seen j held more u) (drivers (part_of j) more the_port)
    new_step u =
        seen_solves j held more u new_acyclic (still_deeper i j t) the_port
        ∙ ap (cell_step (part_of j) more u (seen j held more u) (outputs_below (cells_of j) (λ k. under k u)) c q) (row_twin c row at)
        ∙ ap (side_step (part_of j) more u (seen j held more u) (outputs_below (cells_of j) (λ k. under k u)) row c q) side_is

    -- ENABLING PORTS are seen alike, where the done of the cell is 0 in the old state
    pub enables_alike : (s u : State) → seen i held act s (ports.Cell shape.cell shape.port) ≡ bit_of false → seen j held more u the_port ≡ seen i held act s the_port
    enables_alike s u zero_done =
        new_step u
        ∙ by (drivers (part_of i) act the_port) (drivers (part_of j) more the_port) to_new to_old (old_from s zero_done) (new_from (seen j held more u))
        ∙ sym (old_step s)
      where
        by : (acts others : List Acting) → ((a : Acting) → In acts a → (b : Acting) × In others b) → ((b : Acting) → In others b → (a : Acting) × In acts a)
            → ((a : Acting) → In acts a → IsFrom (seen i held act s) one a) → ((b : Acting) → In others b → IsFrom (seen j held more u) one b)
            → target_seen (bit_of false) (seen j held more u) others ≡ target_seen (bit_of false) (seen i held act s) acts
        by [] [] to from all each = refl
        by [] (b ∷ others) to from all each = absurd ((from b (inl refl)).1)
        by (a ∷ acts) [] to from all each = absurd ((to a (inl refl)).1)
        by (a ∷ acts) (b ∷ others) to from all each =
            target_from (bit_of false) (seen j held more u) one b others each
            ∙ literal_is j held more u 1 1
            ∙ sym (literal_is i held act s 1 1)
            ∙ sym (target_from (bit_of false) (seen i held act s) one a acts all)

    -- an enabling port of another cell is 0
    pub foreign_zero : (s : State) → (c ≡ shape.cell → ⊥) → seen i held act s the_port ≡ bit_of false
    foreign_zero s other = old_step s ∙ by (drivers (part_of i) act the_port) (λ a inside. let f = acting_from act the_port os a inside in other (old_drives f.owned a.offset f.stands f.active f.target).0.same)
      where
        by : (acts : List Acting) → ((a : Acting) → In acts a → ⊥) → target_seen (bit_of false) (seen i held act s) acts ≡ bit_of false
        by [] none = refl
        by (a ∷ acts) none = absurd (none a (inl refl))

    -- and the one that starts the cell is 1, where its done is 0
    pub started : (s : State) → seen i held act s (ports.Cell shape.cell shape.port) ≡ bit_of false → the_port ≡ ports.Cell shape.cell shape.start → seen i held act s the_port ≡ bit_of true
    started s zero_done is =
        let first = shape.starts in
        let target : first.0.target ≡ the_port = first.2 ∙ sym is in
        old_step s
        ∙ target_some (bit_of false) (seen i held act s) one (drivers (part_of i) act the_port) (record { offset = 0; assign = first.0 })
        (acting_has act the_port os (record { owner = Some g; assign = first.0 }) 0 (group_stands (part_of i) g first.0 first.1) (ap (λ r. same_port r the_port) target ∙ same_self the_port) (only_self g))
        (old_from s zero_done)
        ∙ literal_is i held act s 1 1

  -- A PORT THAT IS NO DONE, no hole and no enabling port
  named_inside : (a : Owned) (k : ℕ) (q : PortRef) → In os a → offset_of act a.owner ≡ Some k → IsInside whole a.assign.target → AssignNames a.assign q → IsInside whole q
  named_inside a k q stands active inside names = subst (IsInside whole) p.2 (record {
    no_hole = (h.assigns a stands).no_hole p.0 p.1;
    no_enable = false_from_ne_true (is_primitive_enable whole p.0.port) (λ e. h.no_sink a stands p.0 p.1 (enable_sink whole p.0.port e));
    no_done = none_pass (λ (r : PlacedPort). is_done whole r.port) (sources_of a.assign) p.0 (by (old_kind a k stands active)) p.1;
    there = in_range whole p.0.port ((h.assigns a stands).sources p.0 p.1);
  })
    where
      p : (p : PlacedPort) × In (sources_of a.assign) p × (p.port ≡ q)
      p = source_in a.assign q names

      right : RightAssign whole shape.cell shape.port a.assign → looks_at_done whole a.assign ≡ false
      right (of_done hole) = absurd (not_both (is_hole a.assign.target) hole inside.no_hole)
      right (of_enable n enable is source guard) = absurd (not_both (is_primitive_enable whole a.assign.target) enable inside.no_enable)
      right (of_other no_hole no_enable quiet) = quiet

      by : OldKind a → looks_at_done whole a.assign ≡ false
      by (inl (none, m)) = shape.quiet a.assign (subst (λ part. In part.always a.assign) (sym h.same) m)
      by (inr (own, m)) = right (shape.right a.assign m)

  plain_inside : (c n : ℕ) (row : Row) → cell_at (cells_of i) c ≡ OfRow row → IsPlainPort row n → IsInside whole (ports.Cell c n)
  plain_inside c n row at plain = record {
    no_hole = refl;
    no_enable = ap (λ a. enables_at a n) (row_whole c row at) ∙ ap is_enable_side plain.0;
    no_done = ap (λ a. is_done_at a n) (row_whole c row at) ∙ plain.1;
    there = subst (λ a. n < port_count a) (sym (row_whole c row at)) (plain_there row.ports n plain.0);
  }

  inside_closed : (p q : PortRef) → IsInside whole p → Leads i act p q → IsInside whole q
  inside_closed p q inside leads =
      is_closed i act (IsInside whole) named_inside (λ c n m row at side reads here. plain_inside c m row at ((row_looks c row at).reads n m reads)) p q inside leads

  quiet_ranges : (a : Owned) (k : ℕ) → In os a → offset_of act a.owner ≡ Some k → ranges_of a.assign.guard ≡ []
  quiet_ranges a k stands active = h.ranges a stands (by (old_kind a k stands active))
    where
      by : OldKind a → owner_length (part_of i) a.owner ≡ None
      by (inl (none, m)) = ap (owner_length (part_of i)) none
      by (inr (own, m)) = ap (owner_length (part_of i)) own ∙ plain_length x.kind shape.plain

  module _ (s u : State) (near : Near i s u) where
    abbrev new_look : Look
    new_look = seen j held more u

    outputs_alike : (c n : ℕ) (row : Row) (inputs : Inputs) → IsInside whole (ports.Cell c n) → cell_at (cells_of i) c ≡ OfRow row → is_output_side (side_of row n) ≡ true
        → row.output (s (c ∷ [])) inputs n ≡ row.output (u (c ∷ [])) inputs n
    outputs_alike c n row inputs inside at out =
        sym ((near.cells c row at).output inputs n (record {
          there = subst (λ a. n < port_count a) (row_whole c row at) inside.there;
          out = out;
          other = sym (ap (λ a. is_done_at a n) (row_whole c row at)) ∙ inside.no_done;
        }))

    alike : (p : PortRef) → IsInside whole p → IsAlike i j held act more s u new_look (outputs_below (cells_of j) (λ c. under c u)) p
    alike p inside = record {
      target = λ undriven.
          target_same undriven new_look
          (acting_same whole (IsPromoted whole (part_of i) (part_of j)) act more p inside.no_hole inside.no_enable (one_offset g o) h.made.order quiet_ranges);
      cells = λ c n is. same_cells i j t c;
      output = λ c n row inputs is at out. outputs_alike c n row inputs (subst (IsInside whole) is inside) at out;
      dones = λ c n is. refl;
    }

    children_alike : (c n : ℕ) (child : Instance) (v : Seen) → cell_at (cells_of i) c ≡ OfInstance child → Sees child unheld nothing (under c s) (ports.Output n) v
        → outputs_below (cells_of j) (λ k. under k u) c n ≡ v
    children_alike c n child v at sees =
        children_stay (cells_of i) (cells_of j) (twin_cells MadeBeside i j t) (deeper i j t) (λ k. under k u) c n child v at
        (subst (λ z. Sees child unheld nothing z (ports.Output n) v) (sym (child_near i s u near c child at)) sees)

    -- is seen as the old group sees it
    pub plain_seen : (c n : ℕ) (row : Row) → cell_at (cells_of i) c ≡ OfRow row → IsPlainPort row n → seen j held more u (ports.Cell c n) ≡ seen i held act s (ports.Cell c n)
    plain_seen c n row at plain =
        seen_inside i j held act more s u (IsInside whole) inside_closed alike children_alike acyclic (deeper i j t) new_acyclic (still_deeper i j t) (ports.Cell c n) (plain_inside c n row at plain)
