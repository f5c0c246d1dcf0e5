-- The list of breaks has the breaks of the rules on shapes, and no others.
use Rattle.std.proofs.Common.{◌≡◌, ◌≢◌, ◌+◌, ◌-◌, ◌<◌, ◌≤◌, ℕ, zero, suc, nat_eq, Bool, true, false, not, ◌&&◌, ◌||◌, is_none, List, [], ◌∷◌, ◌++◌, Option, Some, None, length, slice_get, ◌⊎◌, inl, inr, ⊎_elim, refl, sym, ap, ◌∙◌, subst, arith, tests, true≢false, add-one}
use Rattle.cx_text.proofs.MemberLaws.{in_either, in_left, in_right}
use Rattle.cx_text.specs.declared.places.Place.{Place}
use Rattle.cx_text.specs.declared.rules.Rule.{Rule}
use Rattle.cx_text.specs.declared.rules.Rule.TheVariants as rules
use Rattle.cx_meaning.specs.Designs.{PlainGroup, PlainInvoke, PlainComponent, PlainDesign, PlainForm, Empty, Enable, Seq, Par, If, While, Repeat, StaticSeq, StaticPar, StaticIf, StaticRepeat, Timed, PlainStatement, Placed, component_at, form_of, group_at}
use Rattle.cx_meaning.specs.Instances.{Instance, part_of}
use Rattle.cx_meaning.specs.Active.{Owned, source_order}
use Rattle.cx_meaning.specs.Islands.{kind_length}
use Rattle.cx_text.specs.Members.{In}
use Rattle.cx_rules.specs.Ports.{component_of, is_primitive_enable, is_part_port, path_of}
use Rattle.cx_rules.specs.Items.{Range, ranges_of, Context, InStatic, Visited, statements_in, is_plain, is_comb}
use Rattle.cx_rules.specs.StaticControl.{is_static, is_in_static, may_stand, is_timed, form_has_length, has_length, written_length}
use Rattle.cx_rules.specs.Invokes.{invoke_at, invoke_length, form_lasts, lasts}
use Rattle.cx_rules.specs.Spots.{Itself, AnAssign, AStatement, AGroup, Spot, Tells, OnAssign, OnStatement, OnGroup, AssignRule, StatementRule, GroupRule}
use Rattle.cx_rules.specs.ShapeRules.{is_hole, is_hole_of, some_target, owner_length, is_bad_range, enabled_name, BreaksNoDone, BreaksAlwaysEnable, BreaksCombEnable, BreaksStaticGuard, GroupBreaksStaticShape, BreaksStaticControl, BreaksLength, BreaksInvokeLength, IsWrongControl, BreaksPartLength}
use Rattle.cx_rules.specs.Accepted.{key_of}
use Rattle.cx_design_parts.specs.Breaks.{Broken, first_of}
use Rattle.cx_design_parts.specs.Answers.{AreBreaksBy}
use Rattle.cx_design_parts.specs.Numbered.{counted}
use Rattle.cx_design_parts.proofs.Lists.{first_append, in_numbered, numbered_in, broken, in_all, all_hold, next_counted}
use Rattle.cx_shape_rules.specs.ShapeBreaks.{ShapeFamily, told_if, lacks_done, is_bad_length, is_bad_static, group_breaks, is_always_enable, is_owned_by_comb, is_comb_enable, some_bad, is_bad_guard, assign_break, assign_breaks, is_amiss, is_other, is_wrong, has_wrong_length, is_wrong_invoke, has_wrong_invoke, statement_breaks, is_wrong_control, has_wrong_control, control_breaks, group_breaks_at, assign_breaks_at, statement_breaks_at, groups_breaks, assigns_breaks, statements_breaks, parts_breaks, control_breaks_at, component_breaks, shape_breaks}
use Rattle.cx_shape_rules.proofs.PartLemmas.{group_there, below_there}
use Rattle.cx_rules.proofs.KeyOrder.{before_irreflexive}
use Rattle.cx_meaning.proofs.DesignsLemmas.{there_below, same_part}
use Rattle.cx_text.proofs.BoolLaws.{and_both, and_true, or_either, or_left, or_right, from_not}

-- what the list tells is a break
abbrev Holds : PlainDesign → Broken → Type 0
Holds d b = ShapeFamily d b.rule b.spot b.place b.name

told_in : (t : Bool) (r : Rule) (spot : Spot) (place : Place) (name : List ℕ) (b : Broken) → In (told_if t r spot place name) b → (t ≡ true) × (broken r spot place name ≡ b)
told_in true r spot place name b (inl e) = (refl, e)
told_in true r spot place name b (inr h) = absurd h
told_in false r spot place name b h = absurd h

told_has : (t : Bool) (r : Rule) (spot : Spot) (at : Place) (called : List ℕ) (place : Place) (name : List ℕ) → t ≡ true → Tells place name at called
    → In (told_if t r spot at called) (broken r spot place name)
told_has true r spot at called place name e t = inl (ap (λ q. broken r spot q called) (sym t.0) ∙ ap (λ n. broken r spot place n) (sym t.1))
told_has false r spot at called place name e t = absurd (true≢false (sym e))

-- GROUPS
bad_length : (o : Option ℕ) (drives : Bool) → is_bad_length o drives ≡ true → (n : ℕ) × (o ≡ Some n) × ((drives || nat_eq n 0) ≡ true)
bad_length None drives h = absurd (true≢false (sym h))
bad_length (Some n) drives h = (n, refl, h)

has_bad_length : (o : Option ℕ) (drives : Bool) (n : ℕ) → o ≡ Some n → (drives || nat_eq n 0) ≡ true → is_bad_length o drives ≡ true
has_bad_length o drives n e h = ap (λ x. is_bad_length x drives) e ∙ h

-- the group of a number, as a rule sees it
group_is : (d : PlainDesign) (k n : ℕ) → group_at (part_of (component_of d k)) n ≡ group_at (component_at d k) n
group_is d k n = ap (λ part. group_at part n) (same_part d (length d.components) k)

module _ (d : PlainDesign) (k n : ℕ) (g : PlainGroup) (within : k < length d.components) (stands : slice_get (component_at d k).groups n ≡ Some g) where
  abbrev there : Spot
  there = record { component = k; part = AGroup n }

  seen : group_at (part_of (component_of d k)) n ≡ g
  seen = group_is d k n ∙ group_there (component_at d k).groups n g stands

  on_group : (r : GroupRule) (place : Place) (name : List ℕ) → r (component_of d k) n place name → OnGroup r d there place name
  on_group r place name b = record { within = within; number = n; is = refl; stands = below_there (component_at d k).groups n g stands; breaks = b }

  no_done : lacks_done n g ≡ true → BreaksNoDone (component_of d k) n g.place g.name
  no_done h =
      let two = and_both (is_plain g.kind) (not (some_target (is_hole_of n) g.assigns)) h in
      subst (λ x. (is_plain x.kind ≡ true) × (some_target (is_hole_of n) x.assigns ≡ false) × Tells g.place g.name x.place x.name) (sym seen)
      (two.0, from_not (some_target (is_hole_of n) g.assigns) two.1, (refl, refl))

  static_shape : is_bad_static g ≡ true → GroupBreaksStaticShape (component_of d k) n g.place g.name
  static_shape h =
      let found = bad_length (kind_length g.kind) (some_target is_hole g.assigns) h in
      let rest : ((some_target is_hole (group_at (part_of (component_of d k)) n).assigns || nat_eq found.0 0) ≡ true) × Tells g.place g.name (group_at (part_of (component_of d k)) n).place (group_at (part_of (component_of d k)) n).name =
      subst (λ x. ((some_target is_hole x.assigns || nat_eq found.0 0) ≡ true) × Tells g.place g.name x.place x.name) (sym seen) (found.2, (refl, refl)) in
      (found.0, ap (λ x. kind_length x.kind) seen ∙ found.1, rest.0, rest.1)

  group_holds : (b : Broken) → In (group_breaks there n g) b → Holds d b
  group_holds b h =
      ⊎_elim
      (λ p. let found = told_in (lacks_done n g) rules.NoDone there g.place g.name b p in
      subst (Holds d) found.1 (inl (refl, on_group BreaksNoDone g.place g.name (no_done found.0))))
      (λ p. let found = told_in (is_bad_static g) rules.StaticShape there g.place g.name b p in
      subst (Holds d) found.1 (inr (inl (refl, on_group GroupBreaksStaticShape g.place g.name (static_shape found.0)))))
      (in_either (told_if (lacks_done n g) rules.NoDone there g.place g.name) (told_if (is_bad_static g) rules.StaticShape there g.place g.name) b h)

-- ASSIGNMENTS
owner_none : (o : Option ℕ) → is_none o ≡ true → o ≡ None
owner_none None h = refl
owner_none (Some g) h = absurd (true≢false (sym h))

comb_owner : (part : PlainComponent) (o : Option ℕ) → is_owned_by_comb part o ≡ true → (g : ℕ) × (o ≡ Some g) × (is_comb (group_at part g).kind ≡ true)
comb_owner part None h = absurd (true≢false (sym h))
comb_owner part (Some g) h = (g, refl, h)

bad_among : (n : Option ℕ) (rs : List Range) → some_bad n rs ≡ true → (r : Range) × In rs r × (is_bad_range n r ≡ true)
bad_among n [] h = absurd (true≢false (sym h))
bad_among n (r ∷ rs) h =
    ⊎_elim (λ p. (r, inl refl, p)) (λ p. let rest = bad_among n rs p in (rest.0, inr rest.1, rest.2)) (or_either (is_bad_range n r) (some_bad n rs) h)

among_bad : (n : Option ℕ) (rs : List Range) (r : Range) → In rs r → is_bad_range n r ≡ true → some_bad n rs ≡ true
among_bad n [] r i h = absurd i
among_bad n (x ∷ rs) r (inl e) h = or_left (is_bad_range n x) (some_bad n rs) (ap (is_bad_range n) e ∙ h)
among_bad n (x ∷ rs) r (inr i) h = or_right (is_bad_range n x) (some_bad n rs) (among_bad n rs r i h)

module _ (d : PlainDesign) (k n : ℕ) (a : Owned) (within : k < length d.components) (stands : slice_get (source_order (component_at d k)) n ≡ Some a) where
  abbrev here : Spot
  here = record { component = k; part = AnAssign n }

  abbrev at : Instance
  at = component_of d k

  abbrev called : List ℕ
  called = path_of at a.assign.target

  on_assign : (r : AssignRule) → r at a a.assign.place called → OnAssign r d here a.assign.place called
  on_assign r b = record { within = within; number = n; is = refl; assign = a; stands = stands; breaks = b }

  abbrev always : List Broken
  always = assign_break (is_always_enable at a) rules.AlwaysEnable at here a

  abbrev comb : List Broken
  comb = assign_break (is_comb_enable at a) rules.CombEnable at here a

  abbrev guards : List Broken
  guards = assign_break (is_bad_guard at a) rules.StaticGuard at here a

  abbrev enables : Bool
  enables = is_primitive_enable at a.assign.target || is_part_port at a.assign.target || is_hole a.assign.target

  always_holds : (b : Broken) → In always b → Holds d b
  always_holds b h =
      let found = told_in (is_always_enable at a) rules.AlwaysEnable here a.assign.place called b h in
      let two = and_both (is_none a.owner) (is_primitive_enable at a.assign.target) found.0 in
      subst (Holds d) found.1 (inr (inr (inl (refl, on_assign BreaksAlwaysEnable (owner_none a.owner two.0, two.1, (refl, refl))))))

  comb_holds : (b : Broken) → In comb b → Holds d b
  comb_holds b h =
      let found = told_in (is_comb_enable at a) rules.CombEnable here a.assign.place called b h in
      let two = and_both (is_owned_by_comb (part_of at) a.owner) enables found.0 in
      let owner = comb_owner (part_of at) a.owner two.0 in
      subst (Holds d) found.1 (inr (inr (inr (inl (refl, on_assign BreaksCombEnable (owner.0, owner.1, owner.2, two.1, (refl, refl)))))))

  guards_hold : (b : Broken) → In guards b → Holds d b
  guards_hold b h =
      let found = told_in (is_bad_guard at a) rules.StaticGuard here a.assign.place called b h in
      let range = bad_among (owner_length (part_of at) a.owner) (ranges_of a.assign.guard) found.0 in
      subst (Holds d) found.1 (inr (inr (inr (inr (inl (refl, on_assign BreaksStaticGuard (range.0, range.1, range.2, (refl, refl))))))))

  assign_holds : (b : Broken) → In (assign_breaks at here a) b → Holds d b
  assign_holds b h =
      ⊎_elim
      (λ p. ⊎_elim (always_holds b) (comb_holds b) (in_either always comb b p))
      (guards_hold b)
      (in_either (always ++ comb) guards b h)

-- STATEMENTS
other_length : (o : Option ℕ) (n : ℕ) → is_other o n ≡ true → (w : ℕ) × (o ≡ Some w) × (w ≢ n)
other_length None n h = absurd (true≢false (sym h))
other_length (Some w) n h = (w, refl, grind (arith, tests))

is_other_length : (o : Option ℕ) (n w : ℕ) → o ≡ Some w → w ≢ n → is_other o n ≡ true
is_other_length o n w e h = ap (λ x. is_other x n) e ∙ unequal w n h
  where
    unequal : (w n : ℕ) → w ≢ n → not (nat_eq w n) ≡ true
    unequal w n h = grind (arith, tests)

is_zero : (n : ℕ) → nat_eq n 0 ≡ true → n ≡ 0
is_zero n h = grind (arith, tests)

zero_is : (n : ℕ) → n ≡ 0 → nat_eq n 0 ≡ true
zero_is n h = grind (arith, tests)

wrong_length : (o : Option ℕ) (n : ℕ) → is_wrong o n ≡ true → ((w : ℕ) × (o ≡ Some w) × (w ≢ n)) ⊎ (n ≡ 0)
wrong_length o n h = ⊎_elim (λ p. inl (other_length o n p)) (λ p. inr (is_zero n p)) (or_either (is_other o n) (nat_eq n 0) h)

is_wrong_length : (o : Option ℕ) (n : ℕ) → ((w : ℕ) × (o ≡ Some w) × (w ≢ n)) ⊎ (n ≡ 0) → is_wrong o n ≡ true
is_wrong_length o n (inl p) = or_left (is_other o n) (nat_eq n 0) (is_other_length o n p.0 p.1 p.2)
is_wrong_length o n (inr p) = or_right (is_other o n) (nat_eq n 0) (zero_is n p)

amiss_breaks : (i : Instance) (v : Visited) → is_amiss (part_of i) v ≡ true → BreaksStaticControl i v v.place (enabled_name (part_of i) v.form)
amiss_breaks i v h =
    let two = and_both (is_in_static v.context) (not (may_stand (part_of i) v.context v.form)) h in
    (two.0, from_not (may_stand (part_of i) v.context v.form) two.1, (refl, refl))

length_breaks : (i : Instance) (v : Visited) → has_wrong_length (part_of i) v ≡ true → BreaksLength i v v.place []
length_breaks i v h =
    let part = part_of i in
    let two = and_both (is_static v.form && form_has_length part v.context v.form) (is_wrong (written_length v.form) (form_lasts part v.form)) h in
    let one = and_both (is_static v.form) (form_has_length part v.context v.form) two.0 in
    (one.0, one.1, wrong_length (written_length v.form) (form_lasts part v.form) two.1, (refl, refl))

wrong_invoke : (o : Option PlainInvoke) → is_wrong_invoke o ≡ true
    → (w : PlainInvoke) × (o ≡ Some w) × (is_timed (Some w) ≡ true) × (((n : ℕ) × (w.length ≡ Some n) × (n ≢ invoke_length (Some w))) ⊎ (invoke_length (Some w) ≡ 0))
wrong_invoke None h = absurd (true≢false (sym h))
wrong_invoke (Some w) h =
    let two = and_both (is_timed (Some w)) (is_wrong w.length (invoke_length (Some w))) h in
    (w, refl, two.0, wrong_length w.length (invoke_length (Some w)) two.1)

-- a form of which a static invoke is told is one
timed_form : (part : PlainComponent) (form : PlainForm) → has_wrong_invoke part form ≡ true → (k : ℕ) × (form ≡ Timed k) × (is_wrong_invoke (invoke_at part k) ≡ true)
timed_form part Empty h = absurd (true≢false (sym h))
timed_form part (Enable g) h = absurd (true≢false (sym h))
timed_form part (Seq parts) h = absurd (true≢false (sym h))
timed_form part (Par arms) h = absurd (true≢false (sym h))
timed_form part (If test group a b) h = absurd (true≢false (sym h))
timed_form part (While test group a) h = absurd (true≢false (sym h))
timed_form part (Repeat count a) h = absurd (true≢false (sym h))
timed_form part (StaticSeq length parts) h = absurd (true≢false (sym h))
timed_form part (StaticPar length arms) h = absurd (true≢false (sym h))
timed_form part (StaticIf length test a b) h = absurd (true≢false (sym h))
timed_form part (StaticRepeat length count a) h = absurd (true≢false (sym h))
timed_form part (Timed k) h = (k, refl, h)

invoke_breaks : (i : Instance) (v : Visited) → has_wrong_invoke (part_of i) v.form ≡ true → BreaksInvokeLength i v v.place []
invoke_breaks i v h =
    let found = timed_form (part_of i) v.form h in
    let wrong = wrong_invoke (invoke_at (part_of i) found.0) found.2 in
    (found.0, wrong.0, found.1, wrong.1, wrong.2, wrong.3, (refl, refl))

breaks_invoke : (i : Instance) (v : Visited) (place : Place) (name : List ℕ) → BreaksInvokeLength i v place name → has_wrong_invoke (part_of i) v.form ≡ true
breaks_invoke i v place name o =
    let w = o.1 in
    ap (has_wrong_invoke (part_of i)) o.2 ∙ ap is_wrong_invoke o.3
    ∙ and_true (is_timed (Some w)) (is_wrong w.length (invoke_length (Some w))) o.4 (is_wrong_length w.length (invoke_length (Some w)) o.5)

module _ (d : PlainDesign) (k n : ℕ) (v : Visited) (within : k < length d.components) (stands : slice_get (statements_in (component_at d k)) n ≡ Some v) where
  abbrev own : Spot
  own = record { component = k; part = AStatement n }

  abbrev inside : Instance
  inside = component_of d k

  on_statement : (r : StatementRule) (place : Place) (name : List ℕ) → r inside v place name → OnStatement r d own place name
  on_statement r place name b = record { within = within; number = n; is = refl; statement = v; stands = stands; breaks = b }

  abbrev amiss : List Broken
  amiss = told_if (is_amiss (part_of inside) v) rules.StaticShape own v.place (enabled_name (part_of inside) v.form)

  abbrev lengths : List Broken
  lengths = told_if (has_wrong_length (part_of inside) v) rules.StaticShape own v.place []

  abbrev invokes : List Broken
  invokes = told_if (has_wrong_invoke (part_of inside) v.form) rules.StaticShape own v.place []

  amiss_holds : (b : Broken) → In amiss b → Holds d b
  amiss_holds b p =
      let found = told_in (is_amiss (part_of inside) v) rules.StaticShape own v.place (enabled_name (part_of inside) v.form) b p in
      subst (Holds d) found.1 (inr (inr (inr (inr (inr (inl (refl, on_statement BreaksStaticControl v.place (enabled_name (part_of inside) v.form) (amiss_breaks inside v found.0))))))))

  lengths_hold : (b : Broken) → In lengths b → Holds d b
  lengths_hold b p =
      let found = told_in (has_wrong_length (part_of inside) v) rules.StaticShape own v.place [] b p in
      subst (Holds d) found.1 (inr (inr (inr (inr (inr (inr (inl (refl, on_statement BreaksLength v.place [] (length_breaks inside v found.0)))))))))

  invokes_hold : (b : Broken) → In invokes b → Holds d b
  invokes_hold b p =
      let found = told_in (has_wrong_invoke (part_of inside) v.form) rules.StaticShape own v.place [] b p in
      subst (Holds d) found.1 (inr (inr (inr (inr (inr (inr (inr (inl (refl, on_statement BreaksInvokeLength v.place [] (invoke_breaks inside v found.0))))))))))

  inside_holds : (b : Broken) → In (statement_breaks (part_of inside) own v) b → Holds d b
  inside_holds b h =
      ⊎_elim
      (λ p. ⊎_elim (amiss_holds b) (lengths_hold b) (in_either amiss lengths b p))
      (invokes_hold b)
      (in_either (amiss ++ lengths) invokes b h)

  statement_holds : (b : Broken) → In (statement_breaks (component_at d k) own v) b → Holds d b
  statement_holds b h = inside_holds b (subst (λ part. In (statement_breaks part own v) b) (sym (same_part d (length d.components) k)) h)

-- COMPONENTS
has_length_of : (part : PlainComponent) (context : Context) (s : PlainStatement) → has_length part context s ≡ form_has_length part context (form_of s)
has_length_of part context (Placed form place) = refl

lasts_of : (part : PlainComponent) (s : PlainStatement) → lasts part s ≡ form_lasts part (form_of s)
lasts_of part (Placed form place) = refl

other_than : (n m : ℕ) → is_other (Some n) m ≡ true → n ≢ m
other_than n m h = grind (arith, tests)

module _ (part : PlainComponent) where
  abbrev body : PlainForm
  body = form_of part.control

  abbrev is_misplaced : Bool
  is_misplaced = not (may_stand part InStatic body)

  abbrev is_unlike : ℕ → Bool
  is_unlike latency = form_has_length part InStatic body && is_other (Some latency) (form_lasts part body)

  wrong_control : (o : Option ℕ) → is_wrong_control part o ≡ true → (latency : ℕ) × (o ≡ Some latency) × IsWrongControl part latency
  wrong_control None h = absurd (true≢false (sym h))
  wrong_control (Some latency) h = (latency, refl, ⊎_elim (λ p. inl (from_not (may_stand part InStatic body) p)) unlike (or_either is_misplaced (is_unlike latency) h))
    where
      unlike : is_unlike latency ≡ true → IsWrongControl part latency
      unlike p =
          let two = and_both (form_has_length part InStatic body) (is_other (Some latency) (form_lasts part body)) p in
          inr (has_length_of part InStatic part.control ∙ two.0, λ e. other_than latency (form_lasts part body) two.1 (sym e ∙ lasts_of part part.control))

  control_is_wrong : (latency : ℕ) → IsWrongControl part latency → is_wrong_control part (Some latency) ≡ true
  control_is_wrong latency (inl p) = or_left is_misplaced (is_unlike latency) (ap not p)
  control_is_wrong latency (inr p) =
      or_right is_misplaced (is_unlike latency)
      (and_true (form_has_length part InStatic body) (is_other (Some latency) (form_lasts part body)) (sym (has_length_of part InStatic part.control) ∙ p.0)
      (is_other_length (Some latency) (form_lasts part body) latency refl (λ e. p.1 (lasts_of part part.control ∙ sym e))))

control_holds : (d : PlainDesign) (k : ℕ) (b : Broken) → k < length d.components → In (control_breaks_at d k) b → Holds d b
control_holds d k b within h =
    let part = component_at d k in
    let found = told_in (has_wrong_control part) rules.StaticShape (record { component = k; part = Itself 0 }) part.place part.name b h in
    let wrong = wrong_control part part.latency found.0 in
    subst (Holds d) found.1
    (inr (inr (inr (inr (inr (inr (inr (inr (refl, record { within = within; is = refl; latency = wrong.0; static = wrong.1; control = wrong.2; tells = (refl, refl) })))))))))

-- THE WHOLE DESIGN
parts_hold : (d : PlainDesign) (k : ℕ) (b : Broken) → k < length d.components → In (parts_breaks d k) b → Holds d b
parts_hold d k b within h =
    ⊎_elim
    (λ p. ⊎_elim
    (λ q. let found = numbered_in (group_breaks_at k) 0 (component_at d k).groups b q in
    let same : 0 + found.0 ≡ found.0 = omega arith in
    group_holds d k found.0 found.1 within found.2 b (subst (λ n. In (group_breaks_at k n found.1) b) same found.3))
    (λ q. let found = numbered_in (assign_breaks_at d k) 0 (source_order (component_at d k)) b q in
    let same : 0 + found.0 ≡ found.0 = omega arith in
    assign_holds d k found.0 found.1 within found.2 b (subst (λ n. In (assign_breaks_at d k n found.1) b) same found.3))
    (in_either (groups_breaks d k) (assigns_breaks d k) b p))
    (λ q. let found = numbered_in (statement_breaks_at d k) 0 (statements_in (component_at d k)) b q in
    let same : 0 + found.0 ≡ found.0 = omega arith in
    statement_holds d k found.0 found.1 within found.2 b (subst (λ n. In (statement_breaks_at d k n found.1) b) same found.3))
    (in_either (groups_breaks d k ++ assigns_breaks d k) (statements_breaks d k) b h)

component_holds : (d : PlainDesign) (k : ℕ) (b : Broken) → k < length d.components → In (component_breaks d k) b → Holds d b
component_holds d k b within h = ⊎_elim (parts_hold d k b within) (control_holds d k b within) (in_either (parts_breaks d k) (control_breaks_at d k) b h)

in_parts : (d : PlainDesign) (k : ℕ) (b : Broken) → k < length d.components → In (parts_breaks d k) b → In (shape_breaks d) b
in_parts d k b within h = in_all (component_breaks d) (length d.components) k b within (in_left (parts_breaks d k) (control_breaks_at d k) b h)

-- where the breaks of a part stand
group_in : (d : PlainDesign) (spot : Spot) (place : Place) (name : List ℕ) (r : GroupRule) (o : OnGroup r d spot place name) (b : Broken)
    → In (group_breaks spot o.number (group_at (component_at d spot.component) o.number)) b → In (shape_breaks d) b
group_in d spot place name r o b has =
    let k = spot.component in
    let groups = (component_at d k).groups in
    let g = group_at (component_at d k) o.number in
    let same : o.number ≡ 0 + o.number = omega arith in
    let spot_is : record { component = k; part = AGroup o.number } ≡ spot = ap (λ part. record { component = k; part = part }) (sym o.is) in
    in_parts d k b o.within
    (in_left (groups_breaks d k ++ assigns_breaks d k) (statements_breaks d k) b
    (in_left (groups_breaks d k) (assigns_breaks d k) b
    (in_numbered (group_breaks_at k) 0 groups o.number g b (there_below groups o.number o.stands)
    (subst (λ n. In (group_breaks_at k n g) b) same
    (subst (λ s. In (group_breaks s o.number g) b) (sym spot_is) has)))))

assign_in : (d : PlainDesign) (spot : Spot) (place : Place) (name : List ℕ) (r : AssignRule) (o : OnAssign r d spot place name) (b : Broken)
    → In (assign_breaks (component_of d spot.component) spot o.assign) b → In (shape_breaks d) b
assign_in d spot place name r o b has =
    let k = spot.component in
    let order = source_order (component_at d k) in
    let same : o.number ≡ 0 + o.number = omega arith in
    let spot_is : record { component = k; part = AnAssign o.number } ≡ spot = ap (λ part. record { component = k; part = part }) (sym o.is) in
    in_parts d k b o.within
    (in_left (groups_breaks d k ++ assigns_breaks d k) (statements_breaks d k) b
    (in_right (groups_breaks d k) (assigns_breaks d k) b
    (in_numbered (assign_breaks_at d k) 0 order o.number o.assign b o.stands
    (subst (λ n. In (assign_breaks_at d k n o.assign) b) same
    (subst (λ s. In (assign_breaks (component_of d k) s o.assign) b) (sym spot_is) has)))))

statement_in : (d : PlainDesign) (spot : Spot) (place : Place) (name : List ℕ) (r : StatementRule) (o : OnStatement r d spot place name) (b : Broken)
    → In (statement_breaks (part_of (component_of d spot.component)) spot o.statement) b → In (shape_breaks d) b
statement_in d spot place name r o b has =
    let k = spot.component in
    let list = statements_in (component_at d k) in
    let same : o.number ≡ 0 + o.number = omega arith in
    let spot_is : record { component = k; part = AStatement o.number } ≡ spot = ap (λ part. record { component = k; part = part }) (sym o.is) in
    in_parts d k b o.within
    (in_right (groups_breaks d k ++ assigns_breaks d k) (statements_breaks d k) b
    (in_numbered (statement_breaks_at d k) 0 list o.number o.statement b o.stands
    (subst (λ n. In (statement_breaks_at d k n o.statement) b) same
    (subst (λ s. In (statement_breaks (component_at d k) s o.statement) b) (sym spot_is)
    (subst (λ part. In (statement_breaks part spot o.statement) b) (same_part d (length d.components) k) has)))))

no_done_in : (d : PlainDesign) (spot : Spot) (place : Place) (name : List ℕ) → OnGroup BreaksNoDone d spot place name → In (shape_breaks d) (broken rules.NoDone spot place name)
no_done_in d spot place name o =
    let n = o.number in
    let g = group_at (component_at d spot.component) n in
    let b : (is_plain g.kind ≡ true) × (some_target (is_hole_of n) g.assigns ≡ false) × Tells place name g.place g.name =
    subst (λ x. (is_plain x.kind ≡ true) × (some_target (is_hole_of n) x.assigns ≡ false) × Tells place name x.place x.name) (group_is d spot.component n) o.breaks in
    group_in d spot place name BreaksNoDone o (broken rules.NoDone spot place name)
    (in_left (told_if (lacks_done n g) rules.NoDone spot g.place g.name) (told_if (is_bad_static g) rules.StaticShape spot g.place g.name) (broken rules.NoDone spot place name)
    (told_has (lacks_done n g) rules.NoDone spot g.place g.name place name (and_true (is_plain g.kind) (not (some_target (is_hole_of n) g.assigns)) b.0 (ap not b.1)) b.2))

static_shape_in : (d : PlainDesign) (spot : Spot) (place : Place) (name : List ℕ) → OnGroup GroupBreaksStaticShape d spot place name → In (shape_breaks d) (broken rules.StaticShape spot place name)
static_shape_in d spot place name o =
    let n = o.number in
    let g = group_at (component_at d spot.component) n in
    let same = group_is d spot.component n in
    let length = o.breaks.0 in
    let b : ((some_target is_hole g.assigns || nat_eq length 0) ≡ true) × Tells place name g.place g.name =
    subst (λ x. ((some_target is_hole x.assigns || nat_eq length 0) ≡ true) × Tells place name x.place x.name) same (o.breaks.2, o.breaks.3) in
    let is : kind_length g.kind ≡ Some length = ap (λ x. kind_length x.kind) (sym same) ∙ o.breaks.1 in
    group_in d spot place name GroupBreaksStaticShape o (broken rules.StaticShape spot place name)
    (in_right (told_if (lacks_done n g) rules.NoDone spot g.place g.name) (told_if (is_bad_static g) rules.StaticShape spot g.place g.name) (broken rules.StaticShape spot place name)
    (told_has (is_bad_static g) rules.StaticShape spot g.place g.name place name (has_bad_length (kind_length g.kind) (some_target is_hole g.assigns) length is b.0) b.1))

module _ (d : PlainDesign) (spot : Spot) (place : Place) (name : List ℕ) where
  abbrev of_spot : Instance
  of_spot = component_of d spot.component

  abbrev listed : (Owned → Bool) → Rule → Owned → List Broken
  listed test r a = assign_break (test a) r of_spot spot a

  abbrev first_two : Owned → List Broken
  first_two a = listed (is_always_enable of_spot) rules.AlwaysEnable a ++ listed (is_comb_enable of_spot) rules.CombEnable a

  always_in : OnAssign BreaksAlwaysEnable d spot place name → In (shape_breaks d) (broken rules.AlwaysEnable spot place name)
  always_in o =
      let a = o.assign in
      let is : is_always_enable of_spot a ≡ true = and_true (is_none a.owner) (is_primitive_enable of_spot a.assign.target) (ap is_none o.breaks.0) o.breaks.1 in
      assign_in d spot place name BreaksAlwaysEnable o (broken rules.AlwaysEnable spot place name)
      (in_left (first_two a) (listed (is_bad_guard of_spot) rules.StaticGuard a) (broken rules.AlwaysEnable spot place name)
      (in_left (listed (is_always_enable of_spot) rules.AlwaysEnable a) (listed (is_comb_enable of_spot) rules.CombEnable a) (broken rules.AlwaysEnable spot place name)
      (told_has (is_always_enable of_spot a) rules.AlwaysEnable spot a.assign.place (path_of of_spot a.assign.target) place name is o.breaks.2)))

  comb_in : OnAssign BreaksCombEnable d spot place name → In (shape_breaks d) (broken rules.CombEnable spot place name)
  comb_in o =
      let a = o.assign in
      let owned : is_owned_by_comb (part_of of_spot) a.owner ≡ true = ap (is_owned_by_comb (part_of of_spot)) o.breaks.1 ∙ o.breaks.2 in
      let is : is_comb_enable of_spot a ≡ true =
      and_true (is_owned_by_comb (part_of of_spot) a.owner) (is_primitive_enable of_spot a.assign.target || is_part_port of_spot a.assign.target || is_hole a.assign.target) owned o.breaks.3 in
      assign_in d spot place name BreaksCombEnable o (broken rules.CombEnable spot place name)
      (in_left (first_two a) (listed (is_bad_guard of_spot) rules.StaticGuard a) (broken rules.CombEnable spot place name)
      (in_right (listed (is_always_enable of_spot) rules.AlwaysEnable a) (listed (is_comb_enable of_spot) rules.CombEnable a) (broken rules.CombEnable spot place name)
      (told_has (is_comb_enable of_spot a) rules.CombEnable spot a.assign.place (path_of of_spot a.assign.target) place name is o.breaks.4)))

  guards_in : OnAssign BreaksStaticGuard d spot place name → In (shape_breaks d) (broken rules.StaticGuard spot place name)
  guards_in o =
      let a = o.assign in
      let is : is_bad_guard of_spot a ≡ true = among_bad (owner_length (part_of of_spot) a.owner) (ranges_of a.assign.guard) o.breaks.0 o.breaks.1 o.breaks.2 in
      assign_in d spot place name BreaksStaticGuard o (broken rules.StaticGuard spot place name)
      (in_right (first_two a) (listed (is_bad_guard of_spot) rules.StaticGuard a) (broken rules.StaticGuard spot place name)
      (told_has (is_bad_guard of_spot a) rules.StaticGuard spot a.assign.place (path_of of_spot a.assign.target) place name is o.breaks.3))

  abbrev amiss_list : Visited → List Broken
  amiss_list v = told_if (is_amiss (part_of of_spot) v) rules.StaticShape spot v.place (enabled_name (part_of of_spot) v.form)

  abbrev length_list : Visited → List Broken
  length_list v = told_if (has_wrong_length (part_of of_spot) v) rules.StaticShape spot v.place []

  abbrev invoke_list : Visited → List Broken
  invoke_list v = told_if (has_wrong_invoke (part_of of_spot) v.form) rules.StaticShape spot v.place []

  control_in : OnStatement BreaksStaticControl d spot place name → In (shape_breaks d) (broken rules.StaticShape spot place name)
  control_in o =
      let v = o.statement in
      let part = part_of of_spot in
      let is : is_amiss part v ≡ true = and_true (is_in_static v.context) (not (may_stand part v.context v.form)) o.breaks.0 (ap not o.breaks.1) in
      statement_in d spot place name BreaksStaticControl o (broken rules.StaticShape spot place name)
      (in_left (amiss_list v ++ length_list v) (invoke_list v) (broken rules.StaticShape spot place name)
      (in_left (amiss_list v) (length_list v) (broken rules.StaticShape spot place name)
      (told_has (is_amiss part v) rules.StaticShape spot v.place (enabled_name part v.form) place name is o.breaks.2)))

  length_in : OnStatement BreaksLength d spot place name → In (shape_breaks d) (broken rules.StaticShape spot place name)
  length_in o =
      let v = o.statement in
      let part = part_of of_spot in
      let is : has_wrong_length part v ≡ true =
      and_true (is_static v.form && form_has_length part v.context v.form) (is_wrong (written_length v.form) (form_lasts part v.form))
      (and_true (is_static v.form) (form_has_length part v.context v.form) o.breaks.0 o.breaks.1)
      (is_wrong_length (written_length v.form) (form_lasts part v.form) o.breaks.2) in
      statement_in d spot place name BreaksLength o (broken rules.StaticShape spot place name)
      (in_left (amiss_list v ++ length_list v) (invoke_list v) (broken rules.StaticShape spot place name)
      (in_right (amiss_list v) (length_list v) (broken rules.StaticShape spot place name)
      (told_has (has_wrong_length part v) rules.StaticShape spot v.place [] place name is o.breaks.3)))

  timed_in : OnStatement BreaksInvokeLength d spot place name → In (shape_breaks d) (broken rules.StaticShape spot place name)
  timed_in o =
      let v = o.statement in
      statement_in d spot place name BreaksInvokeLength o (broken rules.StaticShape spot place name)
      (in_right (amiss_list v ++ length_list v) (invoke_list v) (broken rules.StaticShape spot place name)
      (told_has (has_wrong_invoke (part_of of_spot) v.form) rules.StaticShape spot v.place [] place name (breaks_invoke of_spot v place name o.breaks) o.breaks.6))

  part_length_in : BreaksPartLength d spot place name → In (shape_breaks d) (broken rules.StaticShape spot place name)
  part_length_in o =
      let k = spot.component in
      let part = component_at d k in
      let b = broken rules.StaticShape spot place name in
      let spot_is : record { component = k; part = Itself 0 } ≡ spot = ap (λ p. record { component = k; part = p }) (sym o.is) in
      let is : has_wrong_control part ≡ true = ap (is_wrong_control part) o.static ∙ control_is_wrong part o.latency o.control in
      in_all (component_breaks d) (length d.components) k b o.within
      (in_right (parts_breaks d k) (control_breaks_at d k) b
      (subst (λ s. In (control_breaks s part) b) (sym spot_is) (told_has (has_wrong_control part) rules.StaticShape spot part.place part.name place name is o.tells)))

under_rule : (d : PlainDesign) (rule is : Rule) (spot : Spot) (place : Place) (name : List ℕ) → rule ≡ is → In (shape_breaks d) (broken is spot place name) → In (shape_breaks d) (broken rule spot place name)
under_rule d rule is spot place name e h = subst (λ r. In (shape_breaks d) (broken r spot place name)) (sym e) h

all_breaks : (d : PlainDesign) (rule : Rule) (spot : Spot) (place : Place) (name : List ℕ) → ShapeFamily d rule spot place name → In (shape_breaks d) (broken rule spot place name)
all_breaks d rule spot place name (inl o) = under_rule d rule rules.NoDone spot place name o.0 (no_done_in d spot place name o.1)
all_breaks d rule spot place name (inr (inl o)) = under_rule d rule rules.StaticShape spot place name o.0 (static_shape_in d spot place name o.1)
all_breaks d rule spot place name (inr (inr (inl o))) = under_rule d rule rules.AlwaysEnable spot place name o.0 (always_in d spot place name o.1)
all_breaks d rule spot place name (inr (inr (inr (inl o)))) = under_rule d rule rules.CombEnable spot place name o.0 (comb_in d spot place name o.1)
all_breaks d rule spot place name (inr (inr (inr (inr (inl o))))) = under_rule d rule rules.StaticGuard spot place name o.0 (guards_in d spot place name o.1)
all_breaks d rule spot place name (inr (inr (inr (inr (inr (inl o)))))) = under_rule d rule rules.StaticShape spot place name o.0 (control_in d spot place name o.1)
all_breaks d rule spot place name (inr (inr (inr (inr (inr (inr (inl o))))))) = under_rule d rule rules.StaticShape spot place name o.0 (length_in d spot place name o.1)
all_breaks d rule spot place name (inr (inr (inr (inr (inr (inr (inr (inl o)))))))) = under_rule d rule rules.StaticShape spot place name o.0 (timed_in d spot place name o.1)
all_breaks d rule spot place name (inr (inr (inr (inr (inr (inr (inr (inr o)))))))) = under_rule d rule rules.StaticShape spot place name o.0 (part_length_in d spot place name o.1)

-- the list is that of the rules
pub are_breaks : (d : PlainDesign) → AreBreaksBy (ShapeFamily d) (shape_breaks d)
are_breaks d = record {
  by_family = λ b h. all_hold (component_breaks d) (Holds d) (length d.components) b (λ k. component_holds d k b) h;
  all_family = λ rule spot place name o. (broken rule spot place name, all_breaks d rule spot place name o, before_irreflexive (key_of rule spot place));
}

-- one more component is looked at
pub next_component : (d : PlainDesign) (n count : ℕ) (best one two three next rest : Option Broken) → n < count
    → one ≡ first_of best (groups_breaks d n) → two ≡ first_of one (assigns_breaks d n) → three ≡ first_of two (statements_breaks d n)
    → next ≡ first_of three (control_breaks_at d n)
    → first_of best (counted (component_breaks d) n (count - n)) ≡ rest → first_of next (counted (component_breaks d) (n + 1) (count - (n + 1))) ≡ rest
next_component d n count best one two three next rest few e f g h so_far =
    let parts : three ≡ first_of best (parts_breaks d n) =
    g ∙ ap (λ b. first_of b (statements_breaks d n)) (f ∙ ap (λ b. first_of b (assigns_breaks d n)) e ∙ sym (first_append best (groups_breaks d n) (assigns_breaks d n)))
    ∙ sym (first_append best (groups_breaks d n ++ assigns_breaks d n) (statements_breaks d n)) in
    let joined : next ≡ first_of best (component_breaks d n) =
    h ∙ ap (λ b. first_of b (control_breaks_at d n)) parts ∙ sym (first_append best (parts_breaks d n) (control_breaks_at d n)) in
    next_counted (component_breaks d) n count best next rest few joined so_far
