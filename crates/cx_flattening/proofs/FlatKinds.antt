-- KINDS OF GROUPS in a flat component: each is one of the component itself, or a copy, and each copy is of a group with a length. So the
-- flat design keeps the rules on plain and on comb groups.
use Rattle.std.proofs.Common.{◌≡◌, ℕ, zero, suc, ◌+◌, ◌<◌, ◌⊎◌, inl, inr, ⊎_elim, Bool, true, false, ◌||◌, List, [], ◌∷◌, ◌++◌, length, map, get_or, Option, Some, None, refl, sym, ap, ◌∙◌, subst, arith}
use Rattle.std.specs.Prelude.{flat_map, is_some}
use Rattle.std.proofs.lemmas.List.{get_or_append_left, get_or-map, length-map}
use Rattle.cx_text.proofs.MemberLaws.{image_in, number_in}
use Rattle.cx_text.specs.declared.places.Place.{Place}
use Rattle.cx_text.specs.declared.rules.Rule.TheVariants as rules
use Rattle.cx_meaning.specs.declared.ports.PortRef.{PortRef}
use Rattle.cx_meaning.specs.declared.ports.PortRef.TheVariants as ports
use Rattle.cx_meaning.specs.declared.kinds.GroupKind.{GroupKind}
use Rattle.cx_meaning.specs.declared.kinds.GroupKind.TheVariants as kinds
use Rattle.cx_meaning.specs.Designs.{PlainAssign, PlainGroup, PlainInvoke, PlainComponent, PlainDesign, component_at, group_at, no_group}
use Rattle.cx_meaning.specs.Instances.{Instance, Node, Cells, no_cells, a_primitive, an_instance, At, Nothing, OfRow, OfInstance, part_of, cells_of, cell_at}
use Rattle.cx_meaning.specs.Active.{Owned, source_order}
use Rattle.cx_meaning.specs.Control.{groups_of}
use Rattle.cx_meaning.specs.Islands.{kind_length, group_length}
use Rattle.cx_text.specs.Members.{In}
use Rattle.cx_meaning.proofs.DesignsLemmas.{same_part}
use Rattle.cx_rules.specs.Accepted.{IsAccepted}
use Rattle.cx_rules.specs.Counts.{is_one_of, group_if}
use Rattle.cx_rules.specs.Items.{is_plain, is_comb, InStatic}
use Rattle.cx_rules.specs.Ports.{component_of, path_of, is_instance, is_primitive_enable, is_part_port}
use Rattle.cx_meaning.specs.Calls.{enables_at}
use Rattle.cx_rules.specs.ShapeRules.{is_hole, is_hole_of, some_target, BreaksNoDone, BreaksCombEnable}
use Rattle.cx_rules.specs.Spots.{AnAssign, AGroup, Spot, OnAssign, OnGroup}
use Rattle.cx_rules.specs.Wellformed.{IsDesign}
use Rattle.cx_rewrites.specs.Moving.{moved_assign, moved_group}
use Rattle.cx_flattening.specs.Whole.{is_static}
use Rattle.cx_flattening.specs.Copies.{copied_group, enabled_groups}
use Rattle.cx_flattening.specs.Flattened.{Kids, kid_at, kept_at, port_if, own_port, invoke_port, copies_if, copies, flat_kids, flat_part}
use Rattle.cx_flattening.specs.FlatDesign.{flat_design}
use Rattle.cx_flattening.specs.Targets.{OwnTarget}
use Rattle.cx_flattening.specs.Embedded.{IsFlattened}
use Rattle.cx_flattening.specs.Fair.{IsFair, AllFair}
use Rattle.cx_flattening.specs.Controlled.{timed_of, IsControlled, AllControlled, AllControlledBelow}
use Rattle.cx_flattening.specs.Ends.{NoneNamesDone}
use Rattle.cx_flattening.proofs.PortLemmas.{own-kept}
use Rattle.cx_flattening.proofs.Standing.{embedded_row, embedded_dynamic}
use Rattle.cx_flattening.proofs.LevelSights.{kid-static}
use Rattle.cx_flattening.proofs.RestingPorts.{OfOne, owner_of}
use Rattle.cx_flattening.proofs.FlatGroups.{one_of_in, own-length}
use Rattle.cx_flattening.proofs.FlatOrigins.{Origin, of_own, capturing, copied, origin}
use Rattle.cx_flattening.proofs.FlatSafe.{kid_from}
use Rattle.cx_flattening.proofs.AcceptedTrees.{IsGood}
use Rattle.cx_flattening.proofs.FairParts.{HasCells, AllHave, AllHaveBelow, control_long, one_timed, some_of}
use Rattle.cx_flattening.proofs.FlatKeeps.{copied_from}
use Rattle.cx_flattening.proofs.FlatNumbers.{IsMade, made}
use Rattle.cx_flattening.proofs.FlatRanges.{slice_in}
use Rattle.cx_flattening.proofs.FlatStages.{good_component}
use Rattle.cx_flattening.proofs.Ruled.{in_order, IsRuled, AllRuled, AllRuledBelow}
use Rattle.cx_rules.proofs.ItemsLemmas.{plain_untimed}

zero_plus : (a : ℕ) → 0 + a ≡ a
zero_plus a = omega arith

-- a group with a length
abbrev pub IsTimed : PlainGroup → Type 0
IsTimed x = is_some (kind_length x.kind) ≡ true

-- the number of an enabled one
abbrev EnabledOne : List ℕ → ℕ → List PlainGroup → PlainGroup → Type 0
EnabledOne used g xs x = (n : ℕ) × (n < length xs) × (is_one_of (g + n) used ≡ true) × (get_or xs n no_group ≡ x)

enabled_number : (used : List ℕ) (g : ℕ) (xs : List PlainGroup) (x : PlainGroup) → In (enabled_groups used g xs) x → EnabledOne used g xs x
enabled_number used g [] x i = absurd i
enabled_number used g (y ∷ ys) x i = by (is_one_of g used) refl i (λ j. enabled_number used (suc g) ys x j)
  where
    next : (a b : ℕ) → suc a + b ≡ a + suc b
    next a b = omega arith

    plus_zero : (a : ℕ) → a ≡ a + 0
    plus_zero a = omega arith

    on : EnabledOne used (suc g) ys x → EnabledOne used g (y ∷ ys) x
    on r = (suc r.0, (let h = r.1 in omega (arith, h)), subst (λ a. is_one_of a used ≡ true) (next g r.0) r.2, r.3)

    by : (b : Bool) → is_one_of g used ≡ b → In (group_if b y (enabled_groups used (suc g) ys)) x → (In (enabled_groups used (suc g) ys) x → EnabledOne used (suc g) ys x) → EnabledOne used g (y ∷ ys) x
    by true is (inl e) later = (0, omega arith, subst (λ a. is_one_of a used ≡ true) (plus_zero g) is, e)
    by true is (inr j) later = on (later j)
    by false is j later = on (later j)

-- one of two lists
pub in_groups : (xs : List PlainGroup) (n : ℕ) → n < length xs → In xs (get_or xs n no_group)
in_groups [] n less = absurd (omega (arith, less))
in_groups (x ∷ xs) zero less = inl refl
in_groups (x ∷ xs) (suc n) less = inr (in_groups xs n (omega (arith, less)))

pub first_or_second : (xs ys : List PlainGroup) (n : ℕ) → n < length (xs ++ ys) → (n < length xs) ⊎ In ys (get_or (xs ++ ys) n no_group)
first_or_second [] ys n less = inr (in_groups ys n less)
first_or_second (x ∷ xs) ys zero less = inl (omega arith)
first_or_second (x ∷ xs) ys (suc n) less = ⊎_elim (λ h. inl (omega (arith, h))) (λ h. inr h) (first_or_second xs ys n (omega (arith, less)))

-- the groups that flat control of a static component enables
abbrev UsedTimed : Instance → Type 0
UsedTimed i = (x : PlainGroup) → In (enabled_groups (groups_of (flat_part i).control) 0 (flat_part i).groups) x → IsTimed x

module _ (part : PlainComponent) (cells : Cells) (ruled : IsRuled part (Node part cells)) (has : HasCells part cells) (controlled : IsControlled (Node part cells))
    (below : (c : ℕ) (child : Instance) → cell_at cells c ≡ OfInstance child → is_static child ≡ true → UsedTimed child) where
  abbrev kids : Kids
  kids = flat_kids cells

  copy_timed : (x : PlainGroup) (v : PlainInvoke) (k : Option PlainComponent) → kid_at kids v.cell ≡ k → In (copies_if kids part k v) x → IsTimed x
  copy_timed x v None its j = absurd j
  copy_timed x v (Some kid) its j =
      let r = image_in (copied_group (invoke_port kids part kid v)) (enabled_groups (groups_of kid.control) 0 kid.groups) x j in
      let k = kid_from cells v.cell kid its in
      subst IsTimed r.2 (below v.cell k.0 k.1 k.2 r.0 (subst (λ (y : PlainComponent). In (enabled_groups (groups_of y.control) 0 y.groups) r.0) (sym k.3) r.1))

  -- COPIES have lengths
  pub copies_timed : (x : PlainGroup) → In (flat_map (copies kids part) part.invokes) x → IsTimed x
  copies_timed x i = let r = copied_from kids part part.invokes x i in copy_timed x r.0 (kid_at kids r.0.cell) refl r.1

  own_timed : (n : ℕ) → part.latency ≡ Some n → (g : ℕ) → g < length part.groups → Origin kids part g (groups_of part.control) (timed_of part.control) → is_some (group_length part g) ≡ true
  own_timed n static g less (of_own j) = one_timed part cells ruled has InStatic part.control g (control_long part cells ruled has n static) j
  own_timed n static g less (capturing j child t its e) = ap is_some ((controlled.invokes j (controlled.timed j t)).captures g e).1
  own_timed n static g less (copied j h child t its k e) = absurd (omega (arith, less, e))

  used_timed : (n : ℕ) → part.latency ≡ Some n → UsedTimed (Node part cells)
  used_timed n static x i =
      let flat = flat_part (Node part cells) in
      let r = enabled_number (groups_of flat.control) 0 flat.groups x i in
      ⊎_elim
      (λ l.
      let same = length-map part.groups (moved_group (own_port kids part)) in
      let less : r.0 < length part.groups = omega (arith, l, same) in
      subst IsTimed r.3
      (ap is_some (own-length kids part r.0 less)
      ∙ own_timed n static r.0 less (origin kids part r.0 part.control (one_of_in r.0 (groups_of flat.control) (subst (λ a. is_one_of a (groups_of flat.control) ≡ true) (zero_plus r.0) r.2)))))
      (λ h. subst IsTimed r.3 (copies_timed (get_or flat.groups r.0 no_group) h))
      (first_or_second (map (moved_group (own_port kids part)) part.groups) (flat_map (copies kids part) part.invokes) r.0 r.1)

mutual
  all_timed : (i : Instance) → AllRuled i → AllHave i → AllControlled i → is_static i ≡ true → UsedTimed i
  all_timed (Node part cells) ruled has controlled static =
      let n = some_of part.latency static in
      used_timed part cells ruled.0 has.0 controlled.0 (λ c child at is. timed_below cells ruled.1 has.1 controlled.1 c child at is) n.0 n.1

  timed_below : (cells : Cells) → AllRuledBelow cells → AllHaveBelow cells → AllControlledBelow cells → (c : ℕ) (child : Instance) → cell_at cells c ≡ OfInstance child → is_static child ≡ true → UsedTimed child
  timed_below no_cells ruled has controlled c child at static = absurd (cc)
  timed_below (a_primitive row rest) ruled has controlled zero child at static = absurd (cc)
  timed_below (a_primitive row rest) ruled has controlled (suc c) child at static = timed_below rest ruled has controlled c child at static
  timed_below (an_instance other rest) ruled has controlled zero child at static =
      let same : other ≡ child = cc in subst UsedTimed same (all_timed other ruled.0 has.0 controlled.0 (ap is_static same ∙ static))
  timed_below (an_instance other rest) ruled has controlled (suc c) child at static = timed_below rest ruled.1 has.1 controlled.1 c child at static

-- EACH GROUP of a flat component: one of its own, or one with a length
abbrev pub OwnGroup : Instance → ℕ → Type 0
OwnGroup i g = (g < length (part_of i).groups) × (group_at (flat_part i) g ≡ moved_group (own_port (flat_kids (cells_of i)) (part_of i)) (group_at (part_of i) g))

pub own_or_timed : (i : Instance) → AllRuled i → AllHave i → AllControlled i → (g : ℕ) → g < length (flat_part i).groups → OwnGroup i g ⊎ IsTimed (group_at (flat_part i) g)
own_or_timed (Node part cells) ruled has controlled g less =
    let kids = flat_kids cells in
    ⊎_elim
    (λ l.
    let same = length-map part.groups (moved_group (own_port kids part)) in
    let there : g < length part.groups = omega (arith, l, same) in
    inl (there, get_or_append_left (map (moved_group (own_port kids part)) part.groups) (flat_map (copies kids part) part.invokes) no_group g l ∙ get_or-map (moved_group (own_port kids part)) part.groups g no_group no_group there))
    (λ h. inr (copies_timed part cells ruled.0 has.0 controlled.0 (λ c child at is. timed_below cells ruled.1 has.1 controlled.1 c child at is) (group_at (flat_part (Node part cells)) g) h))
    (first_or_second (map (moved_group (own_port kids part)) part.groups) (flat_map (copies kids part) part.invokes) g less)

comb_untimed : (kind : GroupKind) → is_comb kind ≡ true → is_some (kind_length kind) ≡ true → ⊥
comb_untimed kinds.Plain e f = absurd (let clash : false ≡ true = f in cc)
comb_untimed kinds.Comb e f = absurd (let clash : false ≡ true = f in cc)
comb_untimed (kinds.Timed n) e f = absurd (let clash : false ≡ true = e in cc)

-- HOLES stay
pub hole_stays : (among : Kids) (part : PlainComponent) (g : ℕ) (q : PortRef) → is_hole_of g (own_port among part q) ≡ is_hole_of g q
hole_stays among part g (ports.Cell c p) = by (kid_at among c)
  where
    by : (k : Option PlainComponent) → is_hole_of g (port_if among part k c p) ≡ false
    by None = refl
    by (Some kid) = refl
hole_stays among part g (ports.Input n) = refl
hole_stays among part g (ports.Output n) = refl
hole_stays among part g (ports.Done h) = refl
hole_stays among part g (ports.Literal w v) = refl

pub targets_stay : (test : PortRef → Bool) (f : PortRef → PortRef) → ((q : PortRef) → test (f q) ≡ test q) → (list : List PlainAssign) → some_target test (map (moved_assign f) list) ≡ some_target test list
targets_stay test f same [] = refl
targets_stay test f same (a ∷ rest) = ap (λ b. b || some_target test (map (moved_assign f) rest)) (same a.target) ∙ ap (λ b. test a.target || b) (targets_stay test f same rest)

-- WHAT A COMB GROUP may not drive
abbrev Enables : Instance → PortRef → Bool
Enables i q = is_primitive_enable i q || is_part_port i q || is_hole q

enables_alike : (i flat : Instance) → IsFlattened i flat → AllFair i → (q : PortRef) → OwnTarget (flat_kids (cells_of i)) (part_of i) q → Enables flat (own_port (flat_kids (cells_of i)) (part_of i) q) ≡ Enables i q
enables_alike (Node part cells) flat flattened fair (ports.Cell c p) own = ap (Enables flat) (own-kept (flat_kids cells) part c p own.1) ∙ by (cell_at cells c) refl
  where
    host : Cells
    host = cells_of flat

    of_at : At → Bool
    of_at x = enables_at x p || is_instance x || false

    there : (x : At) → cell_at host (0 + kept_at (flat_kids cells) (0 + c)) ≡ x → cell_at host (kept_at (flat_kids cells) c) ≡ x
    there x e = ap (cell_at host) (sym (zero_plus (kept_at (flat_kids cells) c))) ∙ ap (λ k. cell_at host (0 + kept_at (flat_kids cells) k)) (sym (zero_plus c)) ∙ e

    by : (x : At) → cell_at cells c ≡ x → of_at (cell_at host (kept_at (flat_kids cells) c)) ≡ of_at (cell_at cells c)
    by Nothing at = absurd (fair.0.counts c own.0 at)
    by (OfRow row) at = ap of_at (there (OfRow row) (embedded_row (flat_kids cells) part 0 host cells 0 c row flattened.1 at)) ∙ sym (ap of_at at)
    by (OfInstance child) at = of_child (is_static child) refl
      where
        of_child : (b : Bool) → is_static child ≡ b → of_at (cell_at host (kept_at (flat_kids cells) c)) ≡ of_at (cell_at cells c)
        of_child true static = absurd (let not_kept : None ≡ Some (flat_part child) = sym own.1 ∙ kid-static cells c child at static in cc)
        of_child false dynamic = let r = embedded_dynamic (flat_kids cells) part 0 host cells 0 c child flattened.1 at dynamic in ap of_at (there (OfInstance r.0) r.1) ∙ sym (ap of_at at)
enables_alike (Node part cells) flat flattened fair (ports.Input n) own = absurd own
enables_alike (Node part cells) flat flattened fair (ports.Output n) own = refl
enables_alike (Node part cells) flat flattened fair (ports.Done g) own = refl
enables_alike (Node part cells) flat flattened fair (ports.Literal w v) own = absurd own

pub top_fair : (i : Instance) → AllFair i → IsFair i
top_fair (Node part cells) h = h.0

pub assigned_less : (xs : List PlainGroup) (n : ℕ) (a : PlainAssign) → In (get_or xs n no_group).assigns a → n < length xs
assigned_less [] n a i = absurd i
assigned_less (x ∷ xs) zero a i = omega arith
assigned_less (x ∷ xs) (suc n) a i = let h = assigned_less xs n a i in omega (arith, h)

module _ (d : PlainDesign) (design : IsDesign d) (accepted : IsAccepted d) (undone : NoneNamesDone d) where
  -- RULE no-done
  pub keeps_dones : (spot : Spot) (place : Place) (name : List ℕ) → OnGroup BreaksNoDone (flat_design d) spot place name → ⊥
  keeps_dones spot place name b =
      ⊎_elim
      (λ (h : OwnGroup i n).
      let f = own_port (flat_kids (cells_of i)) (part_of i) in
      accepted.shapes rules.NoDone (record { component = m.old; part = AGroup n }) (group_at (part_of i) n).place (group_at (part_of i) n).name refl
      (record {
        within = m.less;
        number = n;
        is = refl;
        stands = subst (λ (p : PlainComponent). n < length p.groups) (same_part d (length d.components) m.old) h.0;
        breaks = (
          sym (ap (λ (x : PlainGroup). is_plain x.kind) (same ∙ h.1)) ∙ bad.0,
          sym (targets_stay (is_hole_of n) f (hole_stays (flat_kids (cells_of i)) (part_of i) n) (group_at (part_of i) n).assigns) ∙ sym (ap (λ (x : PlainGroup). some_target (is_hole_of n) x.assigns) (same ∙ h.1)) ∙ bad.1,
          (refl, refl),
        );
      }))
      (λ (h : IsTimed (group_at (flat_part i) n)). plain_untimed (group_at (flat_part i) n).kind (sym (ap (λ (x : PlainGroup). is_plain x.kind) same) ∙ bad.0) h)
      (own_or_timed i g.rules g.has g.controlled n (subst (λ (p : PlainComponent). n < length p.groups) m.part b.stands))
    where
      n : ℕ
      n = b.number

      m : IsMade d spot.component
      m = made d design spot.component b.within

      i : Instance
      i = component_of d m.old

      g : IsGood i
      g = good_component d design accepted undone m.old m.less

      bad : BreaksNoDone (component_of (flat_design d) spot.component) n place name
      bad = b.breaks

      same : group_at (part_of (component_of (flat_design d) spot.component)) n ≡ group_at (flat_part i) n
      same = ap (λ p. group_at p n) (same_part (flat_design d) (length (flat_design d).components) spot.component ∙ m.part)

  -- RULE comb-enable
  pub keeps_combs : (spot : Spot) (place : Place) (name : List ℕ) → OnAssign BreaksCombEnable (flat_design d) spot place name → ⊥
  keeps_combs spot place name b =
      ⊎_elim
      (λ h. absurd (let clash : None ≡ Some bad.0 = sym h.0 ∙ bad.1 in cc))
      (λ (h : OfOne (component_at (flat_design d) spot.component) b.assign). of_group (let e : Some h.number ≡ Some bad.0 = sym h.owner ∙ bad.1 in let k : h.number ≡ bad.0 = cc in subst (λ x. In (group_at (component_at (flat_design d) spot.component) x).assigns b.assign.assign) k h.stands))
      (owner_of (component_at (flat_design d) spot.component) b.assign (slice_in (source_order (component_at (flat_design d) spot.component)) b.number b.assign b.stands))
    where
      m : IsMade d spot.component
      m = made d design spot.component b.within

      i : Instance
      i = component_of d m.old

      g : IsGood i
      g = good_component d design accepted undone m.old m.less

      flat : Instance
      flat = component_of (flat_design d) spot.component

      bad : BreaksCombEnable flat b.assign place name
      bad = b.breaks

      n : ℕ
      n = bad.0

      same : group_at (part_of flat) n ≡ group_at (flat_part i) n
      same = ap (λ p. group_at p n) (same_part (flat_design d) (length (flat_design d).components) spot.component ∙ m.part)

      of_group : In (group_at (component_at (flat_design d) spot.component) n).assigns b.assign.assign → ⊥
      of_group stands =
          ⊎_elim
          of_own_group
          (λ (h : IsTimed (group_at (flat_part i) n)). comb_untimed (group_at (flat_part i) n).kind (sym (ap (λ (x : PlainGroup). is_comb x.kind) same) ∙ bad.2) h)
          (own_or_timed i g.rules g.has g.controlled n (assigned_less (flat_part i).groups n b.assign.assign there))
        where
          there : In (group_at (flat_part i) n).assigns b.assign.assign
          there = subst (λ (p : PlainComponent). In (group_at p n).assigns b.assign.assign) m.part stands

          of_own_group : OwnGroup i n → ⊥
          of_own_group h =
              let f = own_port (flat_kids (cells_of i)) (part_of i) in
              let r = image_in (moved_assign f) (group_at (part_of i) n).assigns b.assign.assign (subst (λ (x : PlainGroup). In x.assigns b.assign.assign) h.1 there) in
              let target = (top_fair i g.fair).targets.groups (group_at (part_of i) n) r.0 (in_groups (part_of i).groups n h.0) r.1 in
              let drives : Enables i r.0.target ≡ true = sym (enables_alike i flat m.flattened g.fair r.0.target target) ∙ ap (λ (a : PlainAssign). Enables flat a.target) r.2 ∙ bad.3 in
              let there_is = same_part d (length d.components) m.old in
              let o : Owned = record { owner = Some n; assign = r.0 } in
              let at = number_in (source_order (component_at d m.old)) o (in_order (component_at d m.old) (Some n) r.0
              (subst (λ (p : PlainComponent). n < length p.groups) there_is h.0, subst (λ (p : PlainComponent). In (group_at p n).assigns r.0) there_is r.1)) in
              accepted.shapes rules.CombEnable (record { component = m.old; part = AnAssign at.0 }) r.0.place (path_of i r.0.target) refl
              (record { within = m.less; number = at.0; is = refl; assign = o; stands = at.1; breaks = (n, refl, sym (ap (λ (x : PlainGroup). is_comb x.kind) (same ∙ h.1)) ∙ bad.2, drives, (refl, refl)) })
