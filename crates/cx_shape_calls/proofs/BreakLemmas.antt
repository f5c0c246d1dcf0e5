-- The list of a component's breaks has those of the rule, and no others.
use Rattle.std.proofs.Common.{◌≡◌, ◌+◌, ◌<◌, ℕ, zero, suc, Bool, true, false, ◌&&◌, ◌||◌, not, nat_eq, List, [], ◌∷◌, ◌++◌, Option, Some, None, length, get_or, slice_get, ◌⊎◌, inl, inr, ⊎_elim, refl, sym, ap, ◌∙◌, subst, arith, true≢false}
use Rattle.cx_text.proofs.MemberLaws.{in_at, in_either, in_left, in_right}
use Rattle.cx_text.specs.declared.places.Place.{Place}
use Rattle.cx_text.specs.declared.rules.Rule.{Rule}
use Rattle.cx_text.specs.declared.rules.Rule.TheVariants as rules
use Rattle.cx_meaning.specs.Designs.{PlainAssign, PlainGroup, PlainDesign, component_at, group_at, no_group}
use Rattle.cx_meaning.specs.Instances.{Instance, part_of}
use Rattle.cx_meaning.specs.Active.{Owned, owned, owned_by_groups, same_port, source_order}
use Rattle.cx_text.specs.Members.{In}
use Rattle.cx_rules.specs.Ports.{component_of, is_part_port, path_of}
use Rattle.cx_rules.specs.Items.{is_plain}
use Rattle.cx_rules.specs.ShapeRules.{is_hole_of, some_target}
use Rattle.cx_rules.specs.CallShape.{Calls, go_port, IsOutside, IsMisshapen, BreaksCallShape, GroupBreaksCallShape}
use Rattle.cx_rules.specs.InvokeShape.{is_static_port, BreaksStaticCell}
use Rattle.cx_rules.specs.Spots.{Part, AnAssign, AGroup, Spot, Tells, OnGroup}
use Rattle.cx_rules.specs.Accepted.{key_of, comes_before}
use Rattle.cx_rules.proofs.ForeignLemmas.{sorted_among, owned_among, split, groups_among}
use Rattle.cx_design_parts.specs.Breaks.{Broken, key, first_of}
use Rattle.cx_design_parts.specs.Numbered.{numbered}
use Rattle.cx_design_parts.specs.Answers.{AreBreaksBy}
use Rattle.cx_design_parts.proofs.Lists.{first_append, in_numbered, numbered_in}
use Rattle.cx_design_parts.proofs.Families.{Either, breaks_of_either, breaks_of_same}
use Rattle.cx_callees.specs.Callees.{PlainCallee, called_of}
use Rattle.cx_shape_calls.specs.Forms.{times, is_none, is_calling}
use Rattle.cx_shape_calls.specs.declared.groups.GroupShape.{GroupShape}
use Rattle.cx_shape_calls.specs.CallBreaks.{CallShapeBreaks, InComponent, ShapesIn, InvokesIn, Before}
use Rattle.cx_shape_calls.specs.Decisions.{is_wrong, is_wrong_by, is_wrong_in, is_refused, or_none, shape_at, lacks_by, told_if, assign_breaks_at, group_breaks_at, component_breaks, IsShapeOf, AreShapesOf}
use Rattle.cx_shape_calls.proofs.BoolLemmas.{any_in, any_has}
use Rattle.cx_callees.proofs.TargetLemmas.{callee, target_of, is_dynamic}
use Rattle.cx_callees.proofs.CalledLemmas.{called_sound, called_all, driven_by, part_callee}
use Rattle.cx_shape_calls.proofs.WrongLemmas.{IsBroken, sound, complete}
use Rattle.cx_text.proofs.OptionLaws.{some_is, none_some, same_some}
use Rattle.cx_text.proofs.ListLaws.{front, get_end}
use Rattle.cx_text.proofs.NumberLaws.{before_more}
use Rattle.cx_meaning.proofs.DesignsLemmas.{there_below, same_part as part_is}
use Rattle.cx_rules.proofs.KeyOrder.{before_irreflexive}
use Rattle.cx_text.proofs.BoolLaws.{from_not, or_left, or_right, and_both}
use Rattle.std.proofs.lemmas.Bool.{not_from_false}

get_is : (groups : List PlainGroup) (n : ℕ) (group : PlainGroup) → slice_get groups n ≡ Some group → (get_or groups n no_group ≡ group) × (n < length groups)
get_is [] n group e = absurd (cc)
get_is (x ∷ xs) zero group e = (same_some x group e, omega arith)
get_is (x ∷ xs) (suc n) group e = let r = get_is xs n group e in (r.0, omega (arith, r.1))

there_in : (groups : List PlainGroup) (g : ℕ) (a : PlainAssign) → In (get_or groups g no_group).assigns a → g < length groups
there_in [] g a h = absurd h
there_in (x ∷ xs) zero a h = omega arith
there_in (x ∷ xs) (suc g) a h = let r = there_in xs g a h in omega (arith, r)

-- one more group is looked at
pub shapes_more : (i : Instance) (n : ℕ) (list : List (Option GroupShape)) (s : Option GroupShape) → length list ≡ n → AreShapesOf i n list → IsShapeOf i n (group_at (part_of i) n) s
    → AreShapesOf i (n + 1) (list ++ s ∷ [])
shapes_more i n list s long so_far is g h = choice (nat_eq g n) refl
  where
    from_eq : (x y : ℕ) → nat_eq x y ≡ true → x ≡ y
    from_eq x y e = grind arith

    less : (x y : ℕ) → nat_eq x y ≡ false → x < y + 1 → x < y
    less x y e l = grind arith

    choice : (b : Bool) → nat_eq g n ≡ b → (x : Option GroupShape) × (slice_get (list ++ s ∷ []) g ≡ Some x) × IsShapeOf i g (group_at (part_of i) g) x
    choice true e =
        let same : g ≡ n = from_eq g n e in
        (s, subst (λ m. slice_get (list ++ s ∷ []) m ≡ Some s) (long ∙ sym same) (get_end list s), subst (λ m. IsShapeOf i m (group_at (part_of i) m) s) (sym same) is)
    choice false e = let r = so_far g (less g n e h) in (r.0, front list (s ∷ []) g r.0 r.1, r.2)

in_some : (ks : List PlainCallee) (k : PlainCallee) → In ks k → is_none ks ≡ false
in_some [] k h = absurd h
in_some (x ∷ ks) k h = refl

calls_some : (i : Instance) (assigns : List PlainAssign) (c : ℕ) → Calls i assigns c → is_none (called_of i assigns) ≡ false
calls_some i assigns c calls = in_some (called_of i assigns) (callee c calls.child) (called_all i assigns c calls.child calls.is_component calls.dynamic calls.driven)

is_called : (i : Instance) (group : PlainGroup) (c : ℕ) → is_plain group.kind ≡ true → Calls i group.assigns c → is_calling i group ≡ true
is_called i group c plain calls = ap (λ b. b && not (is_none (called_of i group.assigns))) plain ∙ not_from_false (is_none (called_of i group.assigns)) (calls_some i group.assigns c calls)

-- TOLD
pub told_in : (b : Bool) (spot : Spot) (place : Place) (name : List ℕ) (x : Broken) → In (told_if b spot place name) x → (b ≡ true) × (record { rule = rules.CallShape; spot = spot; place = place; name = name } ≡ x)
told_in true spot place name x (inl e) = (refl, e)
told_in true spot place name x (inr j) = absurd j
told_in false spot place name x j = absurd j

pub told_has : (b : Bool) (spot : Spot) (at place : Place) (called name : List ℕ) → b ≡ true → place ≡ at → name ≡ called → In (told_if b spot at called) (record { rule = rules.CallShape; spot = spot; place = place; name = name })
told_has b spot at place called name e p n =
    subst (λ t. In (told_if t spot at called) (record { rule = rules.CallShape; spot = spot; place = place; name = name })) (sym e)
    (inl (ap (λ q. record { rule = rules.CallShape; spot = spot; place = q; name = called }) (sym p) ∙ ap (λ m. record { rule = rules.CallShape; spot = spot; place = place; name = m }) (sym n)))

abbrev pub told : Spot → Place → List ℕ → Broken
told spot place name = record { rule = rules.CallShape; spot = spot; place = place; name = name }

-- a break that is in a list, told at its own spot
pub itself : (found : List Broken) (rule : Rule) (spot own : Spot) (place : Place) (name : List ℕ) → rule ≡ rules.CallShape → spot ≡ own → In found (told own place name)
    → (b : Broken) × In found b × (comes_before (key_of rule spot place) (key b) ≡ false)
itself found rule spot own place name e f h = (
  told own place name,
  h,
  subst (λ r. comes_before (key_of r spot place) (key (told own place name)) ≡ false) (sym e)
      (subst (λ s. comes_before (key_of rules.CallShape s place) (key (told own place name)) ≡ false) (sym f) (before_irreflexive (key_of rules.CallShape own place))),
)

pub same_spot : (k : ℕ) (spot : Spot) (part : Part) → spot.component ≡ k → spot.part ≡ part → spot ≡ record { component = k; part = part }
same_spot k spot part e f = ap (λ c. record { component = c; part = spot.part }) e ∙ ap (λ p. record { component = k; part = p }) f

module _ (d : PlainDesign) (k : ℕ) (within : k < length d.components) (shapes : List (Option GroupShape))
    (are : AreShapesOf (component_of d k) (length (component_at d k).groups) shapes) where
  abbrev i : Instance
  i = component_of d k

  same_part : part_of i ≡ component_at d k
  same_part = part_is d (length d.components) k

  abbrev OfOwner : Owned → Type 0
  OfOwner o = (o.owner ≡ None) ⊎ ((g : ℕ) × (o.owner ≡ Some g) × In (group_at (part_of i) g).assigns o.assign × (g < length (component_at d k).groups))

  owner_of : (o : Owned) → In (source_order (component_at d k)) o → OfOwner o
  owner_of o h =
      let part = component_at d k in
      ⊎_elim
      (λ l. let r = owned_among None part.always o l in inl r.0)
      (λ l. let r = groups_among 0 part.groups o l in
      let e : 0 + r.number ≡ r.number = omega arith in
      inr (r.number, r.owner ∙ ap Some e, subst (λ p. In (group_at p r.number).assigns o.assign) (sym same_part) r.stands, there_in part.groups r.number o.assign r.stands))
      (split (owned None part.always) (owned_by_groups 0 part.groups) o (sorted_among (owned None part.always ++ owned_by_groups 0 part.groups) o h))

  shape_of : (g : ℕ) → g < length (component_at d k).groups → (s : Option GroupShape) × (shape_at shapes g ≡ s) × IsShapeOf i g (group_at (part_of i) g) s
  shape_of g h = let r = are g h in (r.0, ap or_none r.1, r.2)

  plain_calling : (group : PlainGroup) → is_calling i group ≡ true → is_plain group.kind ≡ true
  plain_calling group h = (and_both (is_plain group.kind) (not (is_none (called_of i group.assigns))) h).0

  group_sound : (o : Owned) (g : ℕ) → is_static_port i o.assign.target ≡ false → o.owner ≡ Some g → In (group_at (part_of i) g).assigns o.assign → (s : Option GroupShape) → IsShapeOf i g (group_at (part_of i) g) s
      → is_wrong_by i g o.assign s ≡ true → IsOutside i o ⊎ IsMisshapen i o
  group_sound o g dynamic e there None idle h = choice (is_plain (group_at (part_of i) g).kind) refl
    where
      choice : (b : Bool) → is_plain (group_at (part_of i) g).kind ≡ b → IsOutside i o ⊎ IsMisshapen i o
      choice true plain =
          let r = part_callee i o.assign.target h in
          let t = target_of i o.assign.target r.0 r.1 in
          let calls : Calls i (group_at (part_of i) g).assigns r.0.cell = record {
            child = t.child;
            is_component = t.stands;
            dynamic = is_dynamic i o.assign.target r.0.cell t.port t.child t.is t.stands dynamic;
            driven = driven_by i (group_at (part_of i) g).assigns o.assign r.0.cell t.port there t.is;
          } in
          absurd (true≢false (sym (is_called i (group_at (part_of i) g) r.0.cell plain calls) ∙ idle))
      choice false other = inl (h, inr (g, e, other))
  group_sound o g dynamic e there (Some s) is h =
      let f = is.0 in
      let b = sound i g (times s.form.driven) (times s.dependent) s.form.wrong_done o.assign there f.driven f.wrong_done is.1 dynamic
      (subst (λ ks. is_wrong i g ks (times s.form.driven) (times s.dependent) s.form.wrong_done o.assign o.assign.target ≡ true) f.called h) in
      inr (record { group = g; owner = e; plain = plain_calling (group_at (part_of i) g) f.calling; cell = b.cell; calls = b.calls; breaks = b.breaks })

  owned_sound : (o : Owned) → is_static_port i o.assign.target ≡ false → In (source_order (component_at d k)) o → is_wrong_in i shapes o.owner o.assign ≡ true → IsOutside i o ⊎ IsMisshapen i o
  owned_sound o dynamic h w =
      ⊎_elim
      (λ none. inl (ap (λ owner. is_wrong_in i shapes owner o.assign) (sym none) ∙ w, inl none))
      (λ r. let s = shape_of r.0 r.3 in
      group_sound o r.0 dynamic r.1 r.2 s.0 s.2 (ap (is_wrong_by i r.0 o.assign) (sym s.1) ∙ ap (λ owner. is_wrong_in i shapes owner o.assign) (sym r.1) ∙ w))
      (owner_of o h)

  group_complete : (o : Owned) (g : ℕ) → o.owner ≡ Some g → In (group_at (part_of i) g).assigns o.assign → (s : Option GroupShape) → IsShapeOf i g (group_at (part_of i) g) s
      → IsOutside i o ⊎ IsMisshapen i o → is_wrong_by i g o.assign s ≡ true
  group_complete o g e there None idle (inl outside) = outside.0
  group_complete o g e there None idle (inr m) =
      let same : m.group ≡ g = some_is m.group g (sym m.owner ∙ e) in
      let plain : is_plain (group_at (part_of i) g).kind ≡ true = subst (λ n. is_plain (group_at (part_of i) n).kind ≡ true) same m.plain in
      let calls : Calls i (group_at (part_of i) g).assigns m.cell = subst (λ n. Calls i (group_at (part_of i) n).assigns m.cell) same m.calls in
      absurd (true≢false (sym (is_called i (group_at (part_of i) g) m.cell plain calls) ∙ idle))
  group_complete o g e there (Some s) is (inl (part, inl none)) = absurd (none_some g (sym none ∙ e))
  group_complete o g e there (Some s) is (inl (part, inr other)) =
      let same : other.0 ≡ g = some_is other.0 g (sym other.1 ∙ e) in
      absurd (true≢false (sym (plain_calling (group_at (part_of i) g) is.0.calling) ∙ subst (λ n. is_plain (group_at (part_of i) n).kind ≡ false) same other.2))
  group_complete o g e there (Some s) is (inr m) =
      let f = is.0 in
      let same : m.group ≡ g = some_is m.group g (sym m.owner ∙ e) in
      let b : IsBroken i g o.assign.target = subst (λ n. IsBroken i n o.assign.target) same (record { cell = m.cell; calls = m.calls; breaks = m.breaks }) in
      subst (λ ks. is_wrong i g ks (times s.form.driven) (times s.dependent) s.form.wrong_done o.assign o.assign.target ≡ true) (sym f.called)
      (complete i g (times s.form.driven) (times s.dependent) s.form.wrong_done o.assign there f.driven f.wrong_done is.1 b.cell b.calls refl b.breaks)

  owned_complete : (o : Owned) → In (source_order (component_at d k)) o → IsOutside i o ⊎ IsMisshapen i o → is_wrong_in i shapes o.owner o.assign ≡ true
  owned_complete o h b =
      ⊎_elim
      (λ none. ap (λ owner. is_wrong_in i shapes owner o.assign) none ∙ bare none b)
      (λ r. let s = shape_of r.0 r.3 in
      ap (λ owner. is_wrong_in i shapes owner o.assign) r.1 ∙ ap (is_wrong_by i r.0 o.assign) s.1 ∙ group_complete o r.0 r.1 r.2 s.0 s.2 b)
      (owner_of o h)
    where
      bare : o.owner ≡ None → IsOutside i o ⊎ IsMisshapen i o → is_part_port i o.assign.target ≡ true
      bare none (inl outside) = outside.0
      bare none (inr m) = absurd (none_some m.group (sym none ∙ m.owner))

  -- AN ASSIGNMENT breaks the rule on calls or that on static cells, as is told
  bad_sound : (o : Owned) → In (source_order (component_at d k)) o → is_refused i shapes o ≡ true
      → (IsOutside i o ⊎ IsMisshapen i o) ⊎ (is_static_port i o.assign.target ≡ true)
  bad_sound o h w = choice (is_static_port i o.assign.target) refl w
    where
      choice : (b : Bool) → is_static_port i o.assign.target ≡ b → b || is_wrong_in i shapes o.owner o.assign ≡ true
          → (IsOutside i o ⊎ IsMisshapen i o) ⊎ (is_static_port i o.assign.target ≡ true)
      choice true e u = inr e
      choice false e u = inl (owned_sound o e h u)

  bad_complete : (o : Owned) → In (source_order (component_at d k)) o → (IsOutside i o ⊎ IsMisshapen i o) ⊎ (is_static_port i o.assign.target ≡ true)
      → is_refused i shapes o ≡ true
  bad_complete o h (inl b) = or_right (is_static_port i o.assign.target) (is_wrong_in i shapes o.owner o.assign) (owned_complete o h b)
  bad_complete o h (inr s) = or_left (is_static_port i o.assign.target) (is_wrong_in i shapes o.owner o.assign) s

  -- the rule on a group
  abbrev Lacks : ℕ → Type 0
  Lacks g =
      (is_plain (group_at (part_of i) g).kind ≡ true)
      × ((c : ℕ) × Calls i (group_at (part_of i) g).assigns c
      × ((some_target (same_port (go_port c)) (group_at (part_of i) g).assigns && some_target (is_hole_of g) (group_at (part_of i) g).assigns) ≡ false))

  abbrev lack : ℕ → PlainCallee → Bool
  lack g l = not (some_target (same_port (go_port l.cell)) (group_at (part_of i) g).assigns && some_target (is_hole_of g) (group_at (part_of i) g).assigns)

  lacks_sound : (g : ℕ) → (s : Option GroupShape) → IsShapeOf i g (group_at (part_of i) g) s → lacks_by s ≡ true → Lacks g
  lacks_sound g None idle h = absurd (true≢false (sym h))
  lacks_sound g (Some s) is h =
      let f = is.0 in
      let r = any_in (lack g) (called_of i (group_at (part_of i) g).assigns) (sym f.lacks ∙ h) in
      let c = called_sound i (group_at (part_of i) g).assigns r.0 r.1 in
      (plain_calling (group_at (part_of i) g) f.calling, (r.0.cell, c.calls, from_not (some_target (same_port (go_port r.0.cell)) (group_at (part_of i) g).assigns && some_target (is_hole_of g) (group_at (part_of i) g).assigns) r.2))

  lacks_complete : (g : ℕ) → (s : Option GroupShape) → IsShapeOf i g (group_at (part_of i) g) s → Lacks g → lacks_by s ≡ true
  lacks_complete g None idle (plain, r) = absurd (true≢false (sym (is_called i (group_at (part_of i) g) r.0 plain r.1) ∙ idle))
  lacks_complete g (Some s) is (plain, r) =
      is.0.lacks
      ∙ any_has (lack g) (called_of i (group_at (part_of i) g).assigns) (callee r.0 r.1.child) (called_all i (group_at (part_of i) g).assigns r.0 r.1.child r.1.is_component r.1.dynamic r.1.driven)
      (not_from_false (some_target (same_port (go_port r.0)) (group_at (part_of i) g).assigns && some_target (is_hole_of g) (group_at (part_of i) g).assigns) r.2)

  -- THE LIST
  abbrev found : List Broken
  found = component_breaks d k shapes

  abbrev Holds : Broken → Type 0
  Holds b = ShapesIn d k b.rule b.spot b.place b.name

  assign_holds : (m : ℕ) (o : Owned) (b : Broken) → slice_get (source_order (component_at d k)) m ≡ Some o → In (assign_breaks_at d k shapes m o) b → Holds b
  assign_holds m o b stands h =
      let spot : Spot = record { component = k; part = AnAssign m } in
      let t = told_in (is_refused i shapes o) spot o.assign.place (path_of i o.assign.target) b h in
      subst Holds t.1 (⊎_elim
      (λ call. ((refl, inl (record { within = within; number = m; is = refl; assign = o; stands = stands; breaks = (call, (refl, refl)) })), refl))
      (λ static. ((refl, inr (inr (record { within = within; number = m; is = refl; assign = o; stands = stands; breaks = (static, (refl, refl)) }))), refl))
      (bad_sound o (in_at (source_order (component_at d k)) m o stands) t.0))

  group_holds : (g : ℕ) (group : PlainGroup) (b : Broken) → slice_get (component_at d k).groups g ≡ Some group → In (group_breaks_at k shapes g group) b → Holds b
  group_holds g group b stands h =
      let spot : Spot = record { component = k; part = AGroup g } in
      let is = get_is (component_at d k).groups g group stands in
      let same : group_at (part_of i) g ≡ group = ap (λ p. group_at p g) same_part ∙ is.0 in
      let t = told_in (lacks_by (shape_at shapes g)) spot group.place group.name b h in
      let s = shape_of g is.1 in
      let l = lacks_sound g s.0 s.2 (ap lacks_by (sym s.1) ∙ t.0) in
      let on : OnGroup GroupBreaksCallShape d spot group.place group.name =
      record { within = within; number = g; is = refl; stands = is.1; breaks = (l.0, l.1, (ap (λ x. x.place) (sym same), ap (λ x. x.name) (sym same))) } in
      subst Holds t.1 ((refl, inr (inl on)), refl)

  all_hold : (b : Broken) → In found b → Holds b
  all_hold b h =
      let assigns = numbered (assign_breaks_at d k shapes) 0 (source_order (component_at d k)) in
      let groups = numbered (group_breaks_at k shapes) 0 (component_at d k).groups in
      ⊎_elim
      (λ l. let r = numbered_in (assign_breaks_at d k shapes) 0 (source_order (component_at d k)) b l in
      let e : 0 + r.0 ≡ r.0 = omega arith in
      assign_holds r.0 r.1 b r.2 (subst (λ n. In (assign_breaks_at d k shapes n r.1) b) e r.3))
      (λ l. let r = numbered_in (group_breaks_at k shapes) 0 (component_at d k).groups b l in
      let e : 0 + r.0 ≡ r.0 = omega arith in
      group_holds r.0 r.1 b r.2 (subst (λ n. In (group_breaks_at k shapes n r.1) b) e r.3))
      (in_either assigns groups b h)

  assign_has : (m : ℕ) (o : Owned) (place : Place) (name : List ℕ) → slice_get (source_order (component_at d k)) m ≡ Some o → BreaksCallShape i o place name ⊎ BreaksStaticCell i o place name
      → In found (told (record { component = k; part = AnAssign m }) place name)
  assign_has m o place name stands b =
      let spot : Spot = record { component = k; part = AnAssign m } in
      let e : m ≡ 0 + m = omega arith in
      in_left (numbered (assign_breaks_at d k shapes) 0 (source_order (component_at d k))) (numbered (group_breaks_at k shapes) 0 (component_at d k).groups) (told spot place name)
      (in_numbered (assign_breaks_at d k shapes) 0 (source_order (component_at d k)) m o (told spot place name) stands
      (subst (λ n. In (assign_breaks_at d k shapes n o) (told spot place name)) e
      (told_has (is_refused i shapes o) spot o.assign.place place (path_of i o.assign.target) name
      (bad_complete o (in_at (source_order (component_at d k)) m o stands) (⊎_elim (λ c. inl c.0) (λ s. inr s.0) b)) (tells b).0 (tells b).1)))
    where
      tells : BreaksCallShape i o place name ⊎ BreaksStaticCell i o place name → Tells place name o.assign.place (path_of i o.assign.target)
      tells (inl c) = c.1
      tells (inr s) = s.1

  group_has : (g : ℕ) (place : Place) (name : List ℕ) → g < length (component_at d k).groups → GroupBreaksCallShape i g place name → In found (told (record { component = k; part = AGroup g }) place name)
  group_has g place name h (plain, r, at) =
      let spot : Spot = record { component = k; part = AGroup g } in
      let group = group_at (component_at d k) g in
      let same : group_at (part_of i) g ≡ group = ap (λ p. group_at p g) same_part in
      let s = shape_of g h in
      let e : g ≡ 0 + g = omega arith in
      in_right (numbered (assign_breaks_at d k shapes) 0 (source_order (component_at d k))) (numbered (group_breaks_at k shapes) 0 (component_at d k).groups) (told spot place name)
      (in_numbered (group_breaks_at k shapes) 0 (component_at d k).groups g group (told spot place name) (there_below (component_at d k).groups g h)
      (subst (λ n. In (group_breaks_at k shapes n group) (told spot place name)) e
      (told_has (lacks_by (shape_at shapes g)) spot group.place place group.name name (ap lacks_by s.1 ∙ lacks_complete g s.0 s.2 (plain, r)) (at.0 ∙ ap (λ x. x.place) same) (at.1 ∙ ap (λ x. x.name) same))))

  pub are_shapes : AreBreaksBy (ShapesIn d k) found
  are_shapes = record {
    by_family = all_hold;
    all_family = λ rule spot place name h. ⊎_elim
        (λ o. itself found rule spot (record { component = k; part = AnAssign o.number }) place name h.0.0 (same_spot k spot (AnAssign o.number) h.1 o.is)
        (assign_has o.number o.assign place name (subst (λ c. slice_get (source_order (component_at d c)) o.number ≡ Some o.assign) h.1 o.stands)
        (inl (subst (λ c. BreaksCallShape (component_of d c) o.assign place name) h.1 o.breaks))))
        (λ rest. ⊎_elim
        (λ o. itself found rule spot (record { component = k; part = AGroup o.number }) place name h.0.0 (same_spot k spot (AGroup o.number) h.1 o.is)
        (group_has o.number place name (subst (λ c. o.number < length (component_at d c).groups) h.1 o.stands)
        (subst (λ c. GroupBreaksCallShape (component_of d c) o.number place name) h.1 o.breaks)))
        (λ o. itself found rule spot (record { component = k; part = AnAssign o.number }) place name h.0.0 (same_spot k spot (AnAssign o.number) h.1 o.is)
        (assign_has o.number o.assign place name (subst (λ c. slice_get (source_order (component_at d c)) o.number ≡ Some o.assign) h.1 o.stands)
        (inr (subst (λ c. BreaksStaticCell (component_of d c) o.assign place name) h.1 o.breaks))))
        rest)
        h.0.1;
  }

-- COMPONENTS
pub both_kinds : (d : PlainDesign) (k : ℕ) (found more : List Broken) → AreBreaksBy (ShapesIn d k) found → AreBreaksBy (InvokesIn d k) more → AreBreaksBy (InComponent d k) (found ++ more)
both_kinds d k found more a b =
    breaks_of_same (Either (ShapesIn d k) (InvokesIn d k)) (InComponent d k) (found ++ more)
    (λ rule spot place name h. ⊎_elim
    (λ s. ((s.0.0, ⊎_elim (λ o. inl o) (λ r. ⊎_elim (λ g. inr (inl g)) (λ c. inr (inr (inl c))) r) s.0.1), s.1))
    (λ v. ((v.0.0, inr (inr (inr v.0.1))), v.1))
    h)
    (λ rule spot place name h. ⊎_elim
    (λ o. inl ((h.0.0, inl o), h.1))
    (λ r. ⊎_elim (λ g. inl ((h.0.0, inr (inl g)), h.1)) (λ q. ⊎_elim (λ c. inl ((h.0.0, inr (inr c)), h.1)) (λ v. inr ((h.0.0, v), h.1)) q) r)
    h.0.1)
    (breaks_of_either (ShapesIn d k) (InvokesIn d k) found more a b)

pub none_before : (d : PlainDesign) → AreBreaksBy (Before d 0) []
none_before d = record { by_family = λ b h. absurd h; all_family = λ rule spot place name h. absurd (omega (arith, h.1)) }

pub one_more : (d : PlainDesign) (n : ℕ) (found more : List Broken) → AreBreaksBy (Before d n) found → AreBreaksBy (InComponent d n) more → AreBreaksBy (Before d (n + 1)) (found ++ more)
one_more d n found more a b =
    breaks_of_same (Either (Before d n) (InComponent d n)) (Before d (n + 1)) (found ++ more)
    (λ rule spot place name h. ⊎_elim (λ p. (p.0, omega (arith, p.1))) (λ p. (p.0, omega (arith, p.1))) h)
    (λ rule spot place name h. ⊎_elim (λ l. inl (h.0, l)) (λ e. inr (h.0, e)) (before_more n spot.component h.1))
    (breaks_of_either (Before d n) (InComponent d n) found more a b)

pub all_before : (d : PlainDesign) (found : List Broken) → AreBreaksBy (Before d (length d.components)) found → AreBreaksBy (CallShapeBreaks d) found
all_before d found a =
    breaks_of_same (Before d (length d.components)) (CallShapeBreaks d) found (λ rule spot place name h. h.0)
    (λ rule spot place name h. (h, ⊎_elim (λ o. o.within) (λ r. ⊎_elim (λ g. g.within) (λ q. ⊎_elim (λ o. o.within) (λ v. v.within) q) r) h.1)) a

pub first_more : (best mid next : Option Broken) (found more : List Broken) → mid ≡ first_of best found → next ≡ first_of mid more → next ≡ first_of best (found ++ more)
first_more best mid next found more e f = f ∙ ap (λ b. first_of b more) e ∙ sym (first_append best found more)
