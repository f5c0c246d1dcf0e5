-- RULES ON GROUPS: where a group of the new design breaks a rule, so does the same group of the old one.
use Rattle.std.proofs.Common.{◌≡◌, ℕ, suc, ◌+◌, ◌≤◌, ◌⊎◌, inl, inr, Bool, true, false, ◌&&◌, ◌||◌, List, [], ◌∷◌, length, Some, refl, sym, ap, ◌∙◌, subst, arith}
use Rattle.std.specs.Prelude.{nat_eq, slice_get, if◌then◌else◌}
use Rattle.std.proofs.lemmas.Bool.Decides.{nat_tests}
use Rattle.cx_text.specs.declared.places.Place.{Place}
use Rattle.cx_text.proofs.BoolLaws.{not_both}
use Rattle.cx_text.proofs.OptionLaws.{same_some}
use Rattle.cx_prim.specs.Rows.{Row}
use Rattle.cx_prim.specs.Table.{PrimitiveRow, row_of}
use Rattle.cx_meaning.specs.declared.kinds.GroupKind.{GroupKind}
use Rattle.cx_meaning.specs.declared.kinds.GroupKind.TheVariants as kinds
use Rattle.cx_meaning.specs.declared.kinds.PortDecl.{PortDecl}
use Rattle.cx_meaning.specs.declared.ports.PortRef.{PortRef}
use Rattle.cx_meaning.specs.declared.ports.PortRef.TheVariants as ports
use Rattle.cx_meaning.specs.Designs.{Always, PlainAssign, PlainGroup, PlainCell, group_at}
use Rattle.cx_meaning.specs.Instances.{Instance, OfRow, part_of, cells_of, cell_at}
use Rattle.cx_meaning.specs.Active.{group, Owned, same_port, source_order}
use Rattle.cx_text.specs.Members.{In}
use Rattle.cx_meaning.specs.Islands.{kind_length}
use Rattle.cx_rules.specs.Items.{is_plain}
use Rattle.cx_rules.specs.Ports.{is_primitive_enable, is_part_port, path_of}
use Rattle.cx_rules.specs.ShapeRules.{is_hole, is_hole_of, some_target, BreaksNoDone, GroupBreaksStaticShape}
use Rattle.cx_rules.specs.CallShape.{is_port_of, Calls, go_port, done_port, is_register_enable, is_register_cell, captured_from, captured, wanted_dones, with_target, is_right_go, is_right_enable, is_right_done, assigns_of, IsOutputOrDone, CallsAnother, has_right_go, IsFedBack, has_right_enable, has_right_done, CallBreak, another_cell, wrong_go, input_by_output, wrong_enable, wrong_done, IsOutside, IsMisshapen, BreaksCallShape, GroupBreaksCallShape}
use Rattle.cx_promotion.specs.Promotable.{bare_enable, promoted_assigns}
use Rattle.cx_promotion.specs.Made.{without_guard, IsPromoted, PartMade}
use Rattle.cx_promotion.proofs.Impossible.{no_true, no_some}
use Rattle.cx_promotion.proofs.RowCounts.{RowCounts, row_counts}
use Rattle.cx_promotion.proofs.Twins.{Twins}
use Rattle.cx_promotion.proofs.Shapes.{no_target, shape_of}
use Rattle.cx_promotion.proofs.Members.{group_made}
use Rattle.cx_promotion.proofs.PortsMade.{SameSignature, port_same, OldChild, old_child, enable_same, part_port_same}
use Rattle.cx_promotion.proofs.LeadsMade.{depends_made}
use Rattle.cx_promotion.proofs.AssignsMade.{kept, freed, From, OldBreak}
use Rattle.cx_rules.proofs.ForeignLemmas.{OwnerOf, continuous, of_group, owner_of}

plain_timed : (kind : GroupKind) (n : ℕ) → kind ≡ kinds.Timed n → is_plain kind ≡ true → ⊥
plain_timed kinds.Plain n e p = absurd (cc)
plain_timed kinds.Comb n e p = no_true p
plain_timed (kinds.Timed m) n e p = no_true p

-- a promoted group drives no done
no_holes : (i : Instance) (list : List PlainAssign) → some_target is_hole (promoted_assigns i list) ≡ false
no_holes i [] = refl
no_holes i (a ∷ rest) = by (is_hole a.target) refl (no_holes i rest)
  where
    bare : (b : Bool) → is_hole a.target ≡ false → is_hole (if b then record a { guard = Always } else a).target ≡ false
    bare true e = e
    bare false e = e

    by : (b : Bool) → is_hole a.target ≡ b → some_target is_hole (promoted_assigns i rest) ≡ false → some_target is_hole (if b then promoted_assigns i rest else bare_enable i a ∷ promoted_assigns i rest) ≡ false
    by true e later = later
    by false e later = ap (λ b. b || some_target is_hole (promoted_assigns i rest)) (bare (is_primitive_enable i a.target) e) ∙ later

some_not_zero : (n : ℕ) → 1 ≤ n → nat_eq n 0 ≡ false
some_not_zero n some = grind (arith, nat_tests)

module _ (i j : Instance) (t : Twins SameSignature i j) (made : PartMade i (part_of i) (part_of j)) (rows : (c : ℕ) (row : Row) → cell_at (cells_of i) c ≡ OfRow row → (p : PrimitiveRow) × (row_of p ≡ row)) where
  abbrev P : ℕ → Type 0
  P g = IsPromoted i (part_of i) (part_of j) g

  abbrev OldGroupBreak : (rule : Instance → ℕ → Place → List ℕ → Type 0) → ℕ → Type 0
  OldGroupBreak rule g = (at : Place) × (called : List ℕ) × rule i g at called

  -- a plain group is the old one
  pub plain_stays : (g : ℕ) → is_plain (group_at (part_of j) g).kind ≡ true → group_at (part_of j) g ≡ group_at (part_of i) g
  plain_stays g plain = by (group_made i made.groups g)
    where
      by : (group_at (part_of j) g ≡ group_at (part_of i) g) ⊎ P g → group_at (part_of j) g ≡ group_at (part_of i) g
      by (inl stays) = stays
      by (inr promoted) = absurd (plain_timed (group_at (part_of j) g).kind promoted.0 (ap (λ (x : PlainGroup). x.kind) promoted.2) plain)

  pub no_done_back : (g : ℕ) (place : Place) (name : List ℕ) → BreaksNoDone j g place name → OldGroupBreak BreaksNoDone g
  no_done_back g place name (plain, none, tells) =
      let stays = plain_stays g plain in (
        (group_at (part_of i) g).place,
        (group_at (part_of i) g).name,
        (subst (λ (x : PlainGroup). is_plain x.kind ≡ true) stays plain, subst (λ (x : PlainGroup). some_target (is_hole_of g) x.assigns ≡ false) stays none, (refl, refl)),
      )

  -- the length of a promoted group is not 0
  pub some_length : (g : ℕ) (is : P g) → 1 ≤ is.0
  some_length g is =
      let shape = shape_of i (group_at (part_of i) g) is.0 is.1 in
      let r = rows shape.cell shape.row shape.at in
      (subst RowCounts r.1 (row_counts r.0) shape.start shape.port is.0 shape.named shape.starting shape.length).some

  pub static_shape_back : (g : ℕ) (place : Place) (name : List ℕ) → GroupBreaksStaticShape j g place name → OldGroupBreak GroupBreaksStaticShape g
  static_shape_back g place name (n, length_is, bad, tells) = by (group_made i made.groups g)
    where
      by : (group_at (part_of j) g ≡ group_at (part_of i) g) ⊎ P g → OldGroupBreak GroupBreaksStaticShape g
      by (inl stays) = (
        (group_at (part_of i) g).place,
        (group_at (part_of i) g).name,
        (
          n,
          subst (λ (x : PlainGroup). kind_length x.kind ≡ Some n) stays length_is,
          subst (λ (x : PlainGroup). (some_target is_hole x.assigns || nat_eq n 0) ≡ true) stays bad,
          (refl, refl),
        ),
      )
      by (inr promoted) =
          let same : promoted.0 ≡ n = same_some promoted.0 n (sym (ap (λ (x : PlainGroup). kind_length x.kind) promoted.2) ∙ length_is) in
          let some : 1 ≤ n = subst (λ k. 1 ≤ k) same (some_length g promoted) in
          let holes : some_target is_hole (group_at (part_of j) g).assigns ≡ false = ap (λ (x : PlainGroup). some_target is_hole x.assigns) promoted.2 ∙ no_holes i (group_at (part_of i) g).assigns in
          no_true (sym (ap (λ b. b || nat_eq n 0) holes ∙ some_not_zero n some) ∙ bad)

  -- CALLS
  done_port_same : (c : ℕ) (child kid : Instance) → SameSignature child kid → done_port c kid ≡ done_port c child
  done_port_same c child kid same =
      ap (λ (list : List PortDecl). ports.Cell c (suc (length list + length (part_of kid).outputs))) (sym same.inputs)
      ∙ ap (λ (list : List PortDecl). ports.Cell c (suc (length (part_of child).inputs + length list))) (sym same.outputs)

  module _ (g : ℕ) (stays : group_at (part_of j) g ≡ group_at (part_of i) g) where
    assigns_same : assigns_of j g ≡ assigns_of i g
    assigns_same = ap (λ (x : PlainGroup). x.assigns) stays

    calls_by : (c : ℕ) (calls : Calls j (assigns_of j g) c) → OldChild i c calls.child → Calls i (assigns_of i g) c
    calls_by c calls r =
        record { child = r.child; is_component = r.at; dynamic = r.same.latency ∙ calls.dynamic; driven = subst (λ list. some_target (is_port_of c) list ≡ true) assigns_same calls.driven }

    calls_back : (c : ℕ) → Calls j (assigns_of j g) c → Calls i (assigns_of i g) c
    calls_back c calls = calls_by c calls (old_child i j t c calls.child calls.is_component)

    another_back : (c : ℕ) (target : PortRef) → CallsAnother j g c target → CallsAnother i g c target
    another_back c target ((e, calls, other), is) = ((e, calls_back e calls, other), sym (part_port_same i j t target) ∙ is)

    module _ (c : ℕ) (child kid : Instance) (same : SameSignature child kid) where
      right_go_same : has_right_go j g c kid ≡ has_right_go i g c child
      right_go_same = ap (λ p. is_right_go p (with_target (go_port c) (assigns_of j g))) (done_port_same c child kid same) ∙ ap (λ list. is_right_go (done_port c child) (with_target (go_port c) list)) assigns_same

      fed_back : (p : ℕ) → IsFedBack j g c kid p → IsFedBack i g c child p
      fed_back p ((n, input), (q, which, depends)) = ((n, port_same child kid same p ∙ input), (q, output which, depends_made i i j t made (group g) depends))
        where
          output : IsOutputOrDone kid q → IsOutputOrDone child q
          output (inl (m, e)) = inl (m, port_same child kid same q ∙ e)
          output (inr e) = inr (port_same child kid same q ∙ e)

      register_enable_same : (port : PortRef) → is_register_enable (part_of j) port ≡ is_register_enable (part_of i) port
      register_enable_same (ports.Cell r p) = ap (λ (cells : List PlainCell). is_register_cell (slice_get cells r) && nat_eq p 1) (sym made.cells)
      register_enable_same (ports.Input n) = refl
      register_enable_same (ports.Output n) = refl
      register_enable_same (ports.Done h) = refl
      register_enable_same (ports.Literal w v) = refl

      right_enable_same : (port : PortRef) → has_right_enable j g c kid port ≡ has_right_enable i g c child port
      right_enable_same port =
          ap (λ b. b && is_right_enable (done_port c kid) (with_target port (assigns_of j g))) (register_enable_same port)
          ∙ ap (λ p. is_register_enable (part_of i) port && is_right_enable p (with_target port (assigns_of j g))) (done_port_same c child kid same)
          ∙ ap (λ list. is_register_enable (part_of i) port && is_right_enable (done_port c child) (with_target port list)) assigns_same

      right_done_same : has_right_done j g c kid ≡ has_right_done i g c child
      right_done_same =
          ap (λ p. is_right_done (wanted_dones p (captured (part_of j) (assigns_of j g))) (with_target (ports.Done g) (assigns_of j g))) (done_port_same c child kid same)
          ∙ ap (λ (cells : List PlainCell). is_right_done (wanted_dones (done_port c child) (captured_from (assigns_of j g) 0 cells)) (with_target (ports.Done g) (assigns_of j g))) (sym made.cells)
          ∙ ap (λ list. is_right_done (wanted_dones (done_port c child) (captured (part_of i) list)) (with_target (ports.Done g) list)) assigns_same

      break_back : {target : PortRef} → CallBreak j g c kid target → CallBreak i g c child target
      break_back {target} (another_cell is) = another_cell (another_back c target is)
      break_back (wrong_go is) = wrong_go (sym right_go_same ∙ is)
      break_back (input_by_output p is) = input_by_output p (fed_back p is)
      break_back {target} (wrong_enable enable is) = wrong_enable (sym (enable_same i j t target) ∙ enable) (sym (right_enable_same target) ∙ is)
      break_back (wrong_done is) = wrong_done (sym right_done_same ∙ is)

  -- an assignment outside of plain groups
  outside_back : (o : Owned) → In (source_order (part_of i)) o → IsOutside j o → IsOutside i o
  outside_back o inside (is, inl none) = (sym (part_port_same i j t o.assign.target) ∙ is, inl none)
  outside_back o inside (is, inr (g, owner, plain)) = by (group_made i made.groups g)
    where
      part : is_part_port i o.assign.target ≡ true
      part = sym (part_port_same i j t o.assign.target) ∙ is

      mine : OwnerOf (part_of i) o → In (group_at (part_of i) g).assigns o.assign
      mine (continuous none m) = no_some g (sym none ∙ owner)
      mine (of_group n e m) = subst (λ k. In (group_at (part_of i) k).assigns o.assign) (same_some n g (sym e ∙ owner)) m

      by : (group_at (part_of j) g ≡ group_at (part_of i) g) ⊎ P g → IsOutside i o
      by (inl stays) = (part, inr (g, owner, subst (λ (x : PlainGroup). is_plain x.kind ≡ false) stays plain))
      by (inr promoted) =
          let shape = shape_of i (group_at (part_of i) g) promoted.0 promoted.1 in
          absurd (not_both (is_part_port i o.assign.target) part (no_target (is_part_port i) (group_at (part_of i) g).assigns o.assign shape.no_part (mine (owner_of (part_of i) o inside))))

  misshapen_back : (o : Owned) → IsMisshapen j o → IsMisshapen i o
  unfolding calls_by
  misshapen_back o m =
      let stays = plain_stays m.group m.plain in
      let r = old_child i j t m.cell m.calls.child m.calls.is_component in
      record {
        group = m.group;
        owner = m.owner;
        plain = subst (λ (x : PlainGroup). is_plain x.kind ≡ true) stays m.plain;
        cell = m.cell;
        calls = calls_by m.group stays m.cell m.calls r;
        breaks = break_back m.group stays m.cell r.child m.calls.child r.same m.breaks;
      }

  call_why : (o : Owned) → In (source_order (part_of i)) o → IsOutside j o ⊎ IsMisshapen j o → IsOutside i o ⊎ IsMisshapen i o
  call_why o inside (inl is) = inl (outside_back o inside is)
  call_why o inside (inr is) = inr (misshapen_back o is)

  -- one whose guard is gone is of a group that is not plain, and drives no port of a component cell
  freed_why : (o : Owned) (g : ℕ) → In (source_order (part_of i)) o → o.owner ≡ Some g → P g → IsOutside j (without_guard o) ⊎ IsMisshapen j (without_guard o) → IsOutside i o
  freed_why o g inside owner promoted (inl is) = outside_back o inside is
  freed_why o g inside owner promoted (inr m) =
      let same : g ≡ m.group = same_some g m.group (sym owner ∙ m.owner) in
      absurd (plain_timed (group_at (part_of j) g).kind promoted.0 (ap (λ (x : PlainGroup). x.kind) promoted.2) (subst (λ k. is_plain (group_at (part_of j) k).kind ≡ true) (sym same) m.plain))

  pub call_back : (q : Owned) (place : Place) (name : List ℕ) → From i j t made q → BreaksCallShape j q place name → OldBreak i j t made BreaksCallShape
  call_back q place name (kept inside) (why, tells) = (q, inside, q.assign.place, path_of i q.assign.target, (call_why q inside why, (refl, refl)))
  call_back q place name (freed o g inside owner promoted enable) (why, tells) =
      (o, inside, o.assign.place, path_of i o.assign.target, (inl (freed_why o g inside owner promoted why), (refl, refl)))

  pub group_call_back : (g : ℕ) (place : Place) (name : List ℕ) → GroupBreaksCallShape j g place name → OldGroupBreak GroupBreaksCallShape g
  group_call_back g place name (plain, (c, calls, undriven), tells) =
      let stays = plain_stays g plain in (
        (group_at (part_of i) g).place,
        (group_at (part_of i) g).name,
        (
          subst (λ (x : PlainGroup). is_plain x.kind ≡ true) stays plain,
          (c, calls_back g stays c calls, subst (λ list. (some_target (same_port (go_port c)) list && some_target (is_hole_of g) list) ≡ false) (assigns_same g stays) undriven),
          (refl, refl),
        ),
      )
