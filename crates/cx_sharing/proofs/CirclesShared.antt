-- A CIRCLE of an instance of the shared design is a circle of the instance of the design.
use Rattle.std.proofs.Common.{◌≡◌, ℕ, ◌<◌, ◌≤◌, inl, ⊎_elim, Bool, true, false, Option, Some, None, refl, sym, ap, ◌∙◌, subst}
use Rattle.std.proofs.lemmas.Bool.{cases_lt, both_ways}
use Rattle.cx_text.proofs.MemberLaws.{image_in}
use Rattle.cx_prim.specs.Table.{PrimitiveRow, row_of}
use Rattle.cx_prim.specs.declared.ports.Side.{Side}
use Rattle.cx_prim.specs.declared.ports.Side.TheVariants as sides
use Rattle.cx_meaning.specs.Rows.{side_of}
use Rattle.cx_meaning.specs.declared.ports.PortRef.{PortRef}
use Rattle.cx_meaning.specs.declared.ports.PortRef.TheVariants as ports
use Rattle.cx_meaning.specs.Designs.{PlainComponent}
use Rattle.cx_meaning.specs.Instances.{Instance, At, OfRow, part_of, cells_of, cell_at, cell_count}
use Rattle.cx_meaning.specs.Active.{Active, nothing, group, Owned, source_order, offset_of, drivers}
use Rattle.cx_text.specs.Members.{In}
use Rattle.cx_rules.specs.Footprints.{Mentions, SideLeads, CellLeads, Leads, Depends, at_once, by_way_of}
use Rattle.cx_rules.specs.RaceRule.{HasCycle}
use Rattle.cx_rules.proofs.ForeignLemmas.{sorted_among}
use Rattle.cx_text.proofs.OptionLaws.{none_some}
use Rattle.cx_rewrites.specs.Moving.{moved_owned}
use Rattle.cx_rewrites.specs.Renaming.{renamed, IsRenamed}
use Rattle.cx_rewrites.specs.Driving.{assigns_of}
use Rattle.cx_rewrites.proofs.DriverLemmas.{driven_moved}
use Rattle.cx_rewrites.proofs.ClosedLemmas.{mention_of}
use Rattle.cx_rewrites.proofs.ReflectLemmas.{depends_back, circle_back}
use Rattle.cx_sharing.specs.Uses.{is_stateless, group_uses, is_candidate}
use Rattle.cx_sharing.specs.Giving.{stays, staying, new_cell}
use Rattle.cx_sharing.proofs.KeptLemmas.{new_apart}
use Rattle.cx_sharing.proofs.RowLemmas.{stateless_row}
use Rattle.cx_sharing.proofs.UsedLemmas.{target_used, Inside, Covers, UsedMeet, active_uses, inside_closed, one_port, inside_apart}
use Rattle.cx_sharing.proofs.MeetLemmas.{group_covers, group_used_meet}
use Rattle.cx_sharing.proofs.TwinLemmas.{candidate_holds_nothing, part_other, stays_is}
use Rattle.cx_sharing.proofs.RemainingLemmas.{stands_at}
use Rattle.cx_sharing.proofs.SharedParts.{Shares, new_port, cells_alike, source_order-shared, AtShared, no_cell, a_row, a_part}
use Rattle.cx_sharing.proofs.RestsShared.{stands_for}
use Rattle.cx_sharing.proofs.SharedParts.{own_always, own_groups}
use Rattle.cx_rules.proofs.CircleLemmas.{depends_then}

module _ (i j : Instance) (shares : Shares i j) where
  abbrev part : PlainComponent
  part = part_of i

  abbrev number : ℕ → ℕ
  number = new_cell (part_of i)

  module _ (act more : Active) (offsets : (g : ℕ) → more.offset g ≡ act.offset g) (used : ℕ → Type 0) (covers : Covers part used act) (meets : UsedMeet part used) where
    pub is_renamed : IsRenamed i j number act more (Inside part used)
    is_renamed = record {
      closed = λ p q here leads. inside_closed part used i act covers refl p q here leads;
      drives = λ p here. driven_moved (renamed number) act more p offsets part (part_of j) (own_always shares) (own_groups shares) (inside_apart part used number (new_apart part) meets act covers p here);
      cells = λ c n here. cells_alike shares c;
    }

    -- what depends on what comes back, from the ports of cells that are no candidates too
    pub depends_comes_back : (p q : PortRef) → Inside part used p → Depends j more (renamed number p) q → (r : PortRef) × (renamed number r ≡ q) × Depends i act p r × Inside part used r
    depends_comes_back p q here d = depends_back i j number act more (Inside part used) is_renamed p q (renamed number p) here refl d

    same_offset : (owner : Option ℕ) → offset_of more owner ≡ offset_of act owner
    same_offset None = refl
    same_offset (Some g) = offsets g

    -- a port that stands for one inside
    abbrev StandsInside : PortRef → Type 0
    StandsInside q = (p : PortRef) × (renamed number p ≡ q) × Inside part used p

    -- what is driven does
    driven_inside : (e n : ℕ) (q : PortRef) → Mentions (drivers (part_of j) more (ports.Cell e n)) q → StandsInside (ports.Cell e n)
    driven_inside e n q m =
        let found = mention_of more (source_order (part_of j)) (ports.Cell e n) q m in
        let x = image_in (moved_owned (new_port shares)) (source_order part) found.owned (subst (λ list. In list found.owned) (source_order-shared shares) found.stands) in
        let t = stands_for number x.0.assign.target e n (ap (λ (z : Owned). z.assign.target) x.2 ∙ found.target) in (
          ports.Cell t.own n,
          ap (λ c. ports.Cell c n) t.number,
          active_uses part used act covers x.0 found.offset t.own (sorted_among (assigns_of part) x.0 x.1) (sym (same_offset x.0.owner) ∙ ap (λ (z : Owned). offset_of more z.owner) x.2 ∙ found.active) (target_used x.0.assign t.own n t.is),
        )

    -- a circle through a port of a cell without a state passes an input of it that is driven
    module _ (e : ℕ) (p : PrimitiveRow) (there : cell_at (cells_of j) e ≡ OfRow (row_of p)) (none : is_stateless (row_of p).shape ≡ true) where
      plain_inside : (n : ℕ) (side : Side) → side_of (row_of p) n ≡ side → side ≡ sides.Plain → (q : PortRef) → SideLeads (part_of j) more (row_of p) e n side q → StandsInside (ports.Cell e n)
      plain_inside n sides.Enable is e1 q l = absurd (cc)
      plain_inside n sides.Plain is e1 q l = driven_inside e n q l
      plain_inside n sides.Output is e1 q l = absurd (cc)
      plain_inside n sides.Registered is e1 q l = absurd (cc)

      leads_row : (n : ℕ) (q : PortRef) → Leads j more (ports.Cell e n) q → SideLeads (part_of j) more (row_of p) e n (side_of (row_of p) n) q
      leads_row n q l = subst (λ at. CellLeads (part_of j) more e n at q) there l

      input_inside : (n : ℕ) → side_of (row_of p) n ≡ sides.Plain → (q : PortRef) → Depends j more (ports.Cell e n) q → StandsInside (ports.Cell e n)
      input_inside n is q (at_once l) = plain_inside n (side_of (row_of p) n) refl is q (leads_row n q l)
      input_inside n is q (by_way_of r l d) = plain_inside n (side_of (row_of p) n) refl is r (leads_row n r l)

      abbrev CircleInside : Type 0
      CircleInside = (q : PortRef) × StandsInside q × Depends j more q q

      by_side : (n : ℕ) (side : Side) → side_of (row_of p) n ≡ side → (r : PortRef) → SideLeads (part_of j) more (row_of p) e n side r
          → Depends j more (ports.Cell e n) (ports.Cell e n) → ((m : ℕ) → ports.Cell e m ≡ r → Depends j more (ports.Cell e m) (ports.Cell e m)) → CircleInside
      by_side n sides.Enable is r l circle turned = (ports.Cell e n, driven_inside e n r l, circle)
      by_side n sides.Plain is r l circle turned = (ports.Cell e n, driven_inside e n r l, circle)
      by_side n sides.Output is r (m, reads, same) circle turned =
          (ports.Cell e m, input_inside m ((stateless_row p none).reads n m reads) (ports.Cell e m) (turned m same), turned m same)
      by_side n sides.Registered is r l circle turned = absurd l

      row_circle : (n : ℕ) → Depends j more (ports.Cell e n) (ports.Cell e n) → CircleInside
      row_circle n (at_once l) =
          by_side n (side_of (row_of p) n) refl (ports.Cell e n) (leads_row n (ports.Cell e n) l) (at_once l) (λ m same. subst (λ q. Depends j more q q) (sym same) (at_once l))
      row_circle n (by_way_of r l d) =
          by_side n (side_of (row_of p) n) refl r (leads_row n r l) (by_way_of r l d) (λ m same. subst (λ q. Depends j more q q) (sym same) (depends_then d l))

    -- no circle leads through a port that leads nowhere
    leads_somewhere : (q r : PortRef) → Depends j more q r → (s : PortRef) × Leads j more q s
    leads_somewhere q r (at_once l) = (r, l)
    leads_somewhere q r (by_way_of s l d) = (s, l)

    -- a circle through a cell, by a cell of its number that stays
    cell_circle : (c n : ℕ) → Depends j more (ports.Cell (number c) n) (ports.Cell (number c) n) → (q : PortRef) × StandsInside q × Depends j more q q
    cell_circle c n circle = by (is_candidate part c) refl
      where
        of_row : (at to : At) → cell_at (cells_of j) (number c) ≡ to → AtShared part c at to → is_candidate part c ≡ true → (q : PortRef) × StandsInside q × Depends j more q q
        of_row at to there no_cell on = let s = leads_somewhere (ports.Cell (number c) n) (ports.Cell (number c) n) circle in absurd (subst (λ x. CellLeads (part_of j) more (number c) n x s.0) there s.1)
        of_row at to there (a_row p kind) on = row_circle (number c) p there (candidate_holds_nothing part c p kind on) n circle
        of_row at to there (a_part k child twin kind e) on = absurd (both_ways (is_candidate part c) (part_other part c k kind) on)

        by : (b : Bool) → is_candidate part c ≡ b → (q : PortRef) × StandsInside q × Depends j more q q
        by false none = (ports.Cell (number c) n, (ports.Cell c n, refl, inl none), circle)
        by true on = of_row (cell_at (cells_of i) c) (cell_at (cells_of j) (number c)) refl (shares.cells c) on

    circle_inside : (q : PortRef) → Depends j more q q → (r : PortRef) × StandsInside r × Depends j more r r
    circle_inside (ports.Cell e n) circle = ⊎_elim there past (cases_lt e (staying (stays part) (cell_count (cells_of i))))
      where
        there : e < staying (stays part) (cell_count (cells_of i)) → (r : PortRef) × StandsInside r × Depends j more r r
        there lt =
            let s = stands_at (stays part) (cell_count (cells_of i)) e lt in
            let same : number s.cell ≡ e = stays_is part s.cell s.on ∙ s.number in
            cell_circle s.cell n (subst (λ x. Depends j more (ports.Cell x n) (ports.Cell x n)) (sym same) circle)

        past : staying (stays part) (cell_count (cells_of i)) ≤ e → (r : PortRef) × StandsInside r × Depends j more r r
        past le =
            let s = leads_somewhere (ports.Cell e n) (ports.Cell e n) circle in
            absurd (subst (λ x. CellLeads (part_of j) more e n x s.0) (shares.past e le) s.1)
    circle_inside (ports.Input n) circle = let s = leads_somewhere (ports.Input n) (ports.Input n) circle in absurd s.1
    circle_inside (ports.Output n) circle = (ports.Output n, (ports.Output n, refl, tt), circle)
    circle_inside (ports.Done g) circle = (ports.Done g, (ports.Done g, refl, tt), circle)
    circle_inside (ports.Literal w v) circle = let s = leads_somewhere (ports.Literal w v) (ports.Literal w v) circle in absurd s.1

    pub cycle_comes_back : HasCycle j more → HasCycle i act
    cycle_comes_back (q, circle) =
        let r = circle_inside q circle in
        let p = r.1 in
        circle_back i j number act more (Inside part used) is_renamed (λ x y a b e. one_port part used number (new_apart part) meets x y a b e) p.0 p.2
        (subst (λ x. Depends j more x x) (sym p.1) r.2)

  -- under the continuous assignments, and with one group
  pub nothing_covers : (used : ℕ → Type 0) → Covers part used nothing
  nothing_covers used g k c e u = absurd (none_some k e)

  abbrev NoneUsed : ℕ → Type 0
  NoneUsed c = ⊥

  pub cycle_back : HasCycle j nothing → HasCycle i nothing
  cycle_back h = cycle_comes_back nothing nothing (λ g. refl) NoneUsed (nothing_covers NoneUsed) (λ x y first second a b. absurd a) h

  pub group_cycle_back : (g : ℕ) → HasCycle j (group g) → HasCycle i (group g)
  group_cycle_back g h = cycle_comes_back (group g) (group g) (λ n. refl) (λ c. group_uses part g c ≡ true) (group_covers part g) (group_used_meet part g) h

  -- what the input of a component's cell depends on, with one group
  pub group_depends_back : (g : ℕ) (p q : PortRef) → Inside part (λ c. group_uses part g c ≡ true) p → Depends j (group g) (renamed number p) q
      → (r : PortRef) × (renamed number r ≡ q) × Depends i (group g) p r × Inside part (λ c. group_uses part g c ≡ true) r
  group_depends_back g p q here d = depends_comes_back (group g) (group g) (λ n. refl) (λ c. group_uses part g c ≡ true) (group_covers part g) (group_used_meet part g) p q here d
