-- An instrumented design keeps the rule on races: what two arms share is a cell that they shared before, or one of a counter, whose group both
-- enable; static invokes drive and read what they did, for the groups that capture are not counted.
use Rattle.std.proofs.Common.{◌≡◌, ℕ, suc, ◌+◌, ◌*◌, ◌<◌, ◌≤◌, inl, inr, ◌⊎◌, ⊎_elim, true, ◌||◌, List, [], ◌∷◌, length, Some, None, slice_get, refl, sym, ap, ◌∙◌, subst, arith}
use Rattle.std.proofs.lemmas.Bool.{both_ways, or_cases, or_right}
use Rattle.cx_text.proofs.MemberLaws.{image_in}
use Rattle.cx_text.specs.Members.{In}
use Rattle.cx_text.specs.declared.places.Place.{Place}
use Rattle.cx_meaning.specs.declared.ports.PortRef.{PortRef}
use Rattle.cx_meaning.specs.declared.ports.PortRef.TheVariants as ports
use Rattle.cx_meaning.specs.declared.ports.PlacedPort.{PlacedPort}
use Rattle.cx_meaning.specs.Designs.{Always, PlainAssign, PlainInvoke, PlainComponent, PlainDesign, component_at, group_at, PlainStatement}
use Rattle.cx_meaning.specs.Instances.{Cells, cells_of, tree_within}
use Rattle.cx_meaning.specs.Control.{targets_cell, assigns_drive, groups_drive, groups_of, drives}
use Rattle.cx_meaning.specs.Active.{Owned, source_order}
use Rattle.cx_meaning.specs.Sights.{GuardNames}
use Rattle.cx_meaning.proofs.ControlLaws.{groups_drive_in, driver}
use Rattle.cx_meaning.proofs.DesignsLemmas.{same_part}
use Rattle.cx_meaning.proofs.InstancesLemmas.{just_true}
use Rattle.cx_rules.specs.Accepted.{IsAccepted}
use Rattle.cx_rules.specs.Footprints.{AssignNames}
use Rattle.cx_rules.specs.Invokes.{invoke_at, invokes_of, captures_of, invokes_cell, drives_all, IsFed, ReadsAll, driven, named, captured, fed, tested, through}
use Rattle.cx_rules.specs.Items.{Context, Dynamic, Visited, visit, statements_in, tests_of}
use Rattle.cx_rules.specs.Ports.{component_of}
use Rattle.cx_rules.specs.RaceRule.{Arms, arms_of, enabled_in, IsShared, IsEnabledTwice, BreaksRace}
use Rattle.cx_rules.specs.Wellformed.{IsBind, IsDesign, IsForm, IsThere}
use Rattle.cx_rules.proofs.ForeignLemmas.{assigns_drive_in}
use Rattle.cx_laws.proofs.RaceLemmas.{unshared, not_twice}
use Rattle.cx_laws.proofs.VisitLemmas.{visited}
use Rattle.cx_rewrites.specs.Moving.{moved_port, moved_assign, moved_form, moved_statement}
use Rattle.cx_rewrites.proofs.ReflectLemmas.{names_back}
use Rattle.cx_rewrites.proofs.MovedLists.{groups_of-moved, tests_of-moved, arms_of-moved, enabled_in-moved, moved_visited}
use Rattle.cx_profiling.specs.Counters.{is_counted, counters, counters_from}
use Rattle.cx_profiling.specs.Instrumented.{is_reached, counter_assigns, moved_in, moved_invoke, with_counts}
use Rattle.cx_profiling.proofs.ArmLemmas.{counted_kind}
use Rattle.cx_profiling.proofs.EnabledLemmas.{AreForms, statement_known, is_enabled}
use Rattle.cx_profiling.proofs.GroupLemmas.{register_past, same_register}
use Rattle.cx_profiling.proofs.InvokesKept.{uncounted}
use Rattle.cx_profiling.proofs.InvokesMade.{invoke_back, invokes_of-moved, captures_kept, cells_kept, captures_there, invoked_there, own_invoke}
use Rattle.cx_profiling.proofs.PartTable.{AlwaysMade, old_always, showing_always, always_made, InGroup, old_in, counting_in, storing_in, in_group}
use Rattle.cx_profiling.proofs.PortLemmas.{IsInside, there_inside}
use Rattle.cx_profiling.proofs.PortsKept.{counter_target, counter_names, cell_back}
use Rattle.cx_profiling.proofs.RoleLemmas.{own_counters, counter_number}
use Rattle.cx_profiling.proofs.ShapesKept as shapes
use Rattle.cx_profiling.proofs.VisitedForms.{tested_form, arm_visits}
use Rattle.cx_flattening.proofs.Ruled.{in_order}
use Rattle.cx_text.proofs.ListLaws.{at_map}

-- an assignment that drives a cell
targeted : (list : List PlainAssign) (c : ℕ) → assigns_drive list c ≡ true → (a : PlainAssign) × In list a × ((p : ℕ) × (a.target ≡ ports.Cell c p))
targeted [] c e = absurd (cc)
targeted (a ∷ rest) c e =
    ⊎_elim (λ x. (a, inl refl, at_target a.target c x)) (λ y. let r = targeted rest c y in (r.0, inr r.1, r.2)) (or_cases (targets_cell a.target c) (assigns_drive rest c) e)
  where
    at_target : (p : PortRef) (c : ℕ) → targets_cell p c ≡ true → (q : ℕ) × (p ≡ ports.Cell c q)
    at_target (ports.Cell e q) c h = (q, ap (λ n. ports.Cell n q) (just_true e c h))
    at_target (ports.Input n) c h = absurd (cc)
    at_target (ports.Output n) c h = absurd (cc)
    at_target (ports.Done g) c h = absurd (cc)
    at_target (ports.Literal w v) c h = absurd (cc)

module _ (d : PlainDesign) (design : IsDesign d) (accepted : IsAccepted d) (m k : ℕ) (count : length d.components ≡ suc m) (within : k < length d.components) where
  abbrev part : PlainComponent
  part = component_at d k

  abbrev other : PlainComponent
  other = component_at (with_counts d) k

  abbrev cells : Cells
  cells = cells_of (component_of d k)

  abbrev mv : PortRef → PortRef
  mv p = moved_in d part p

  -- a statement of the component, by what it visits in some context
  abbrev IsOurs : Context → PlainStatement → Type 0
  IsOurs c s = (u : Visited) → In (visit c s) u → In (statements_in part) u

  our_forms : (c : Context) (s : PlainStatement) → IsOurs c s → AreForms part (visit c s)
  our_forms c s ours v i = subst (λ x. IsForm x v.form) (same_part d (length d.components) k) ((design.components k within).statements v (ours v i)).form

  our_test : (c : Context) (s : PlainStatement) → IsOurs c s → (p : PlacedPort) → In (tests_of s) p → IsInside d part p.port
  our_test c s ours p i = let r = tested_form c s p i in there_inside d k within p.port (((design.components k within).statements r.0 (ours r.0 r.1)).test p r.2)

  -- what a static invoke binds names ports of the component
  bound_inside : (b : PlainAssign) (c : ℕ) → IsBind (component_of d k) c b → (q : PortRef) → AssignNames b q → IsInside d part q
  bound_inside b c bind q (inl n) = absurd (let none : GuardNames Always q = subst (λ g. GuardNames g q) bind.no_guard n in none)
  bound_inside b c bind q (inr e) = there_inside d k within q (subst (IsThere (component_of d k)) e bind.source)

  groups_same : (x : PlainComponent) (gs hs : List ℕ) (c : ℕ) → gs ≡ hs → groups_drive x gs c ≡ true → groups_drive x hs c ≡ true
  groups_same x gs hs c e h = subst (λ list. groups_drive x list c ≡ true) e h

  -- A CELL OF A COUNTER whose group stands in the statement
  record CounterOf (s : PlainStatement) (c : ℕ) : Type 0 where
    group : ℕ
    register : ℕ
    stands : In (groups_of s) group
    own : In (counters (component_of d k)) (record { group = group; register = register })
    reached : is_reached d k ≡ true
    at : (c ≡ register) ⊎ (c ≡ suc register)
    counted : is_counted cells (group_at part group) ≡ true

  counter_past : (s : PlainStatement) (c : ℕ) → CounterOf s c → length part.cells ≤ c
  counter_past s c x =
      let past : length part.cells ≤ x.register = register_past d k within x.reached (record { group = x.group; register = x.register }) x.own in
      ⊎_elim (λ (e : c ≡ x.register). omega (arith, past, e)) (λ (e : c ≡ suc x.register). omega (arith, past, e)) x.at

  -- a statement of the component
  module _ (c : Context) (s : PlainStatement) (ours : IsOurs c s) where
    group_few : (g : ℕ) → In (groups_of s) g → g < length part.groups
    group_few g i = (statement_known part c c s g (our_forms c s ours) i).there

    old_group_here : (g : ℕ) → In (groups_of (moved_statement mv s)) g → In (groups_of s) g
    old_group_here g i = subst (λ gs. In gs g) (groups_of-moved mv s) i

    -- a group that captures is old, and no counter's
    captures_here : (g : ℕ) → In (captures_of other (invokes_of (moved_statement mv s))) g → In (captures_of part (invokes_of s)) g
    captures_here g i = subst (λ gs. In gs g) (captures_kept d design k within (invokes_of (moved_statement mv s)) ∙ ap (captures_of part) (invokes_of-moved d design k within s)) i

    -- AN ASSIGNMENT OF A GROUP of the statement, enabled or capturing
    data Stands (g : ℕ) : Type 0 where
      enabled : In (groups_of s) g → Stands g
      capturing : In (captures_of part (invokes_of s)) g → Stands g

    abbrev OldOrCounter : ℕ → PlainAssign → Type 0
    OldOrCounter g a =
        ((b : PlainAssign) × In (group_at part g).assigns b × (moved_assign mv b ≡ a) × In (source_order part) (record { owner = Some g; assign = b }))
        ⊎ ((r : ℕ) × In (groups_of s) g × In (counters (component_of d k)) (record { group = g; register = r }) × (is_reached d k ≡ true) × (is_counted cells (group_at part g) ≡ true) × In (counter_assigns part.place r) a)

    of_group : (g : ℕ) (a : PlainAssign) → Stands g → In (group_at other g).assigns a → OldOrCounter g a
    of_group g a here i = by here (in_group d design k within g a i)
      where
        few : Stands g → g < length part.groups
        few (enabled h) = group_few g h
        few (capturing h) = (captures_there d design k within (invokes_of s) g h).there

        by : Stands g → InGroup d design k within g a → OldOrCounter g a
        by here (old_in b less h is) = inl (b, h, is, in_order part (Some g) b (less, h))
        by (enabled x) (counting_in r own reached less is h) = inr (r, x, own, reached, is, h)
        by (capturing x) (counting_in r own reached less is h) =
            absurd (both_ways (is_counted cells (group_at part g)) (uncounted d k cells (group_at part g) (captures_there d design k within (invokes_of s) g x).unnamed) is)
        by here (storing_in n x main at number h) = let less : g < length part.groups = few here in absurd (omega (arith, less, number))

    old_target : (g e p : ℕ) (b a : PlainAssign) → In (source_order part) (record { owner = Some g; assign = b }) → moved_assign mv b ≡ a → a.target ≡ ports.Cell e p → (q : ℕ) × (b.target ≡ ports.Cell e q) × (e < length part.cells)
    old_target g e p b a stands is target =
        let q = cell_back d design 0 k within b.target e p (ap (λ (x : PlainAssign). x.target) is ∙ target) in
        let inside : IsInside d part (ports.Cell e q.0) = subst (IsInside d part) q.1 (shapes.target_inside d design accepted m k count within (record { owner = Some g; assign = b }) stands) in
        (q.0, q.1, inside.0)

    abbrev DrivesBack : ℕ → Type 0
    DrivesBack e = ((e < length part.cells) × (drives_all part s e ≡ true)) ⊎ CounterOf s e

    groups_back : (gs : List ℕ) (e : ℕ) → ((g : ℕ) → In gs g → Stands g) → groups_drive other gs e ≡ true → ((e < length part.cells) × (groups_drive part gs e ≡ true)) ⊎ CounterOf s e
    groups_back gs e stands h =
        let g = driver other gs e h in
        let a = targeted (group_at other g.0).assigns e g.2 in
        by g.0 g.1 a.0 a.2.0 a.2.1 (of_group g.0 a.0 (stands g.0 g.1) a.1)
      where
        by : (g : ℕ) → In gs g → (a : PlainAssign) (p : ℕ) → a.target ≡ ports.Cell e p → OldOrCounter g a → ((e < length part.cells) × (groups_drive part gs e ≡ true)) ⊎ CounterOf s e
        by g here a p target (inl (b, i, is, inside)) =
            let q = old_target g e p b a inside is target in
            inl (q.2, groups_drive_in part gs g e here (assigns_drive_in (group_at part g).assigns b e q.0 i q.1))
        by g here a p target (inr (r, x, own, reached, is, i)) =
            let t = counter_target part.place r a i in
            let same : t.0 ≡ e = (let both : ports.Cell t.0 t.1 ≡ ports.Cell e p = sym t.2 ∙ target in cc) in
            inr (record { group = g; register = r; stands = x; own = own; reached = reached; at = subst (λ z. (z ≡ r) ⊎ (z ≡ suc r)) same t.3; counted = is })

    drives_from : (ns : List ℕ) → ns ≡ invokes_of s → (e : ℕ) → (drives other (moved_statement mv s) e || (invokes_cell other ns e || groups_drive other (captures_of other ns) e)) ≡ true → DrivesBack e
    drives_from ns same e h = by (or_cases (drives other (moved_statement mv s) e) (invokes_cell other ns e || groups_drive other (captures_of other ns) e) h)
      where
        enables : (e < length part.cells) × (drives part s e ≡ true) → DrivesBack e
        enables (few, is) = inl (few, ap (λ b. b || (invokes_cell part (invokes_of s) e || groups_drive part (captures_of part (invokes_of s)) e)) is)

        invokes : invokes_cell part (invokes_of s) e ≡ true → DrivesBack e
        invokes is =
            inl (
              invoked_there d design k within (invokes_of s) e is,
              or_right (drives part s e) (invokes_cell part (invokes_of s) e || groups_drive part (captures_of part (invokes_of s)) e)
                  (ap (λ b. b || groups_drive part (captures_of part (invokes_of s)) e) is),
            )

        captures : (e < length part.cells) × (groups_drive part (captures_of part (invokes_of s)) e ≡ true) → DrivesBack e
        captures (few, is) =
            inl (
              few,
              or_right (drives part s e) (invokes_cell part (invokes_of s) e || groups_drive part (captures_of part (invokes_of s)) e)
                  (or_right (invokes_cell part (invokes_of s) e) (groups_drive part (captures_of part (invokes_of s)) e) is),
            )

        later : (invokes_cell other ns e ≡ true) ⊎ (groups_drive other (captures_of other ns) e ≡ true) → DrivesBack e
        later (inl x) = invokes (ap (λ list. invokes_cell part list e) (sym same) ∙ sym (cells_kept d design k within ns e) ∙ x)
        later (inr x) =
            ⊎_elim captures (λ y. inr y) (groups_back (captures_of part (invokes_of s)) e (λ g i. capturing i)
            (groups_same other (captures_of other ns) (captures_of part (invokes_of s)) e (captures_kept d design k within ns ∙ ap (captures_of part) same) x))

        by : (drives other (moved_statement mv s) e ≡ true) ⊎ ((invokes_cell other ns e || groups_drive other (captures_of other ns) e) ≡ true) → DrivesBack e
        by (inl x) = ⊎_elim enables (λ y. inr y) (groups_back (groups_of s) e (λ g i. enabled i) (groups_same other (groups_of (moved_statement mv s)) (groups_of s) e (groups_of-moved mv s) x))
        by (inr x) = later (or_cases (invokes_cell other ns e) (groups_drive other (captures_of other ns) e) x)

    drives_back : (e : ℕ) → drives_all other (moved_statement mv s) e ≡ true → DrivesBack e
    drives_back e h = drives_from (invokes_of (moved_statement mv s)) (invokes_of-moved d design k within s) e h

    abbrev ReadsBack : ℕ → Type 0
    ReadsBack e = ((e < length part.cells) × ReadsAll part s e) ⊎ CounterOf s e

    -- what an old assignment of the component, moved, names
    named_there : (o : Owned) → In (source_order part) o → (e p : ℕ) (a : PlainAssign) → moved_assign mv o.assign ≡ a → AssignNames a (ports.Cell e p) → (q : ℕ) × AssignNames o.assign (ports.Cell e q) × (e < length part.cells)
    named_there o stands e p a is names =
        let y = names_back mv o.assign (ports.Cell e p) (subst (λ (x : PlainAssign). AssignNames x (ports.Cell e p)) (sym is) names) in
        let q = cell_back d design 0 k within y.0 e p y.1 in
        let inside : IsInside d part (ports.Cell e q.0) = subst (IsInside d part) q.1 (shapes.named_inside d design accepted m k count within o stands y.0 y.2) in
        (q.0, subst (AssignNames o.assign) q.1 y.2, inside.0)

    group_reads : (e p g : ℕ) (a : PlainAssign) → Stands g → AssignNames a (ports.Cell e p) → OldOrCounter g a → ReadsBack e
    group_reads e p g a here names (inl (b, i, is, inside)) =
        let q = named_there (record { owner = Some g; assign = b }) inside e p a is names in
        inl (q.2, by here q.0 q.1)
      where
        by : Stands g → (q : ℕ) → AssignNames b (ports.Cell e q) → ReadsAll part s e
        by (enabled x) q n = named q g b x i n
        by (capturing x) q n = captured q g b x i n
    group_reads e p g a here names (inr (r, x, own, reached, is, i)) =
        inr (record { group = g; register = r; stands = x; own = own; reached = reached; at = counter_names part.place r a e p i names; counted = is })

    -- an input of a static invoke of the statement
    fed_back : (e p : ℕ) (a : PlainAssign) → IsFed other (moved_statement mv s) a → AssignNames a (ports.Cell e p) → ReadsBack e
    fed_back e p a f names = by (invoke_back d design k within f.number f.invoke f.is)
      where
        stands : In (invokes_of s) f.number
        stands = subst (λ list. In list f.number) (invokes_of-moved d design k within s) f.stands

        of_bind : (v : PlainInvoke) → invoke_at part f.number ≡ Some v → (b : PlainAssign) × In v.inputs b × (moved_assign mv b ≡ a) → ReadsBack e
        of_bind v at (b, i, is) =
            let bind = (own_invoke d design k within f.number v at).inputs b i in
            let y = names_back mv b (ports.Cell e p) (subst (λ (x : PlainAssign). AssignNames x (ports.Cell e p)) (sym is) names) in
            let q = cell_back d design 0 k within y.0 e p y.1 in
            let inside : IsInside d part (ports.Cell e q.0) = subst (IsInside d part) q.1 (bound_inside b v.cell bind y.0 y.2) in
            inl (inside.0, fed q.0 b (record { number = f.number; stands = stands; invoke = v; is = at; input = i }) (subst (AssignNames b) q.1 y.2))

        by : (v : PlainInvoke) × (invoke_at part f.number ≡ Some v) × (moved_invoke d part v ≡ f.invoke) → ReadsBack e
        by (v, at, is) = of_bind v at (image_in (moved_assign mv) v.inputs a (subst (λ (x : PlainInvoke). In x.inputs a) (sym is) f.input))

    reads_back : (e : ℕ) → ReadsAll other (moved_statement mv s) e → ReadsBack e
    reads_back e (driven h) = ⊎_elim (λ x. inl (x.0, driven x.1)) (λ x. inr x) (drives_back e h)
    reads_back e (named p g a i l names) = let here : Stands g = enabled (old_group_here g i) in group_reads e p g a here names (of_group g a here l)
    reads_back e (captured p g a i l names) = let here : Stands g = capturing (captures_here g i) in group_reads e p g a here names (of_group g a here l)
    reads_back e (fed p a f names) = fed_back e p a f names
    reads_back e (tested p test i is) =
        let x = image_in (moved_port mv) (tests_of s) test (subst (λ list. In list test) (tests_of-moved mv s) i) in
        let q = cell_back d design 0 k within x.0.port e p (ap (λ (z : PlacedPort). z.port) x.2 ∙ is) in
        let inside : IsInside d part (ports.Cell e q.0) = subst (IsInside d part) q.1 (our_test c s ours x.0 x.1) in
        inl (inside.0, tested q.0 x.0 x.1 q.1)
    reads_back e (through c1 p q a reads i target names) = by (reads_back c1 reads) (always_made d design k within a i)
      where
        by : ReadsBack c1 → AlwaysMade d design k within a → ReadsBack e
        by (inl (few, r)) (old_always b h is) =
            let t = cell_back d design 0 k within b.target c1 p (ap (λ (x : PlainAssign). x.target) is ∙ target) in
            let y = names_back mv b (ports.Cell e q) (subst (λ (x : PlainAssign). AssignNames x (ports.Cell e q)) (sym is) names) in
            let u = cell_back d design 0 k within y.0 e q y.1 in
            let inside : IsInside d part (ports.Cell e u.0) = subst (IsInside d part) u.1 (shapes.named_inside d design accepted m k count within (record { owner = None; assign = b }) (in_order part None b h) y.0 y.2) in
            inl (inside.0, through c1 t.0 u.0 b r h t.1 (subst (AssignNames b) u.1 y.2))
        by (inr x) (old_always b h is) =
            let t = cell_back d design 0 k within b.target c1 p (ap (λ (y : PlainAssign). y.target) is ∙ target) in
            let inside : IsInside d part (ports.Cell c1 t.0) = subst (IsInside d part) t.1 (shapes.target_inside d design accepted m k count within (record { owner = None; assign = b }) (in_order part None b h)) in
            let past : length part.cells ≤ c1 = counter_past s c1 x in
            let few : c1 < length part.cells = inside.0 in
            absurd (omega (arith, past, few))
        by back (showing_always n x main reached at is) = absurd (let clash : ports.Output (length part.outputs + n) ≡ ports.Cell c1 p = ap (λ (y : PlainAssign). y.target) is ∙ target in cc)

  -- COUNTERS WITH ONE CELL are of one group
  one_group : (s t : PlainStatement) (c : ℕ) (x : CounterOf s c) (y : CounterOf t c) → x.group ≡ y.group
  one_group s t c x y =
      let listed : (g r : ℕ) → In (counters (component_of d k)) (record { group = g; register = r }) → In (counters_from cells (length part.cells) 0 part.groups) (record { group = g; register = r }) =
      λ g r i. subst (λ list. In list (record { group = g; register = r })) (own_counters d k) i in
      same_register d part cells (length part.cells) 0 part.groups (record { group = x.group; register = x.register }) (record { group = y.group; register = y.register }) (listed x.group x.register x.own) (listed y.group y.register y.own) registers
    where
      registers : x.register ≡ y.register
      registers =
          let a = counter_number d k within x.reached (record { group = x.group; register = x.register }) x.own in
          let b = counter_number d k within y.reached (record { group = y.group; register = y.register }) y.own in
          let first : x.register ≡ length part.cells + 2 * a.0 = a.2 in
          let second : y.register ≡ length part.cells + 2 * b.0 = b.2 in
          ⊎_elim
          (λ (e : c ≡ x.register). ⊎_elim (λ (h : c ≡ y.register). omega (arith, e, h)) (λ (h : c ≡ suc y.register). omega (arith, first, second, e, h)) y.at)
          (λ (e : c ≡ suc x.register). ⊎_elim (λ (h : c ≡ y.register). omega (arith, first, second, e, h)) (λ (h : c ≡ suc y.register). omega (arith, e, h)) y.at) x.at

  module _ (w : Visited) (stands : In (statements_in part) w) where
    record OldArms (two : Arms (arms_of (moved_form mv w.form))) : Type 0 where
      old : Arms (arms_of w.form)
      first : moved_statement mv old.first ≡ two.first
      second : moved_statement mv old.second ≡ two.second

    old_arms : (two : Arms (arms_of (moved_form mv w.form))) → OldArms two
    old_arms two =
        let f = at_map (moved_statement mv) (arms_of w.form) two.one two.first (ap (λ list. slice_get list two.one) (sym (arms_of-moved mv w.form)) ∙ two.first_stands) in
        let s = at_map (moved_statement mv) (arms_of w.form) two.other two.second (ap (λ list. slice_get list two.other) (sym (arms_of-moved mv w.form)) ∙ two.second_stands) in
        record {
          old = record { one = two.one; other = two.other; differ = two.differ; first = f.0; second = s.0; first_stands = f.1; second_stands = s.1 };
          first = f.2;
          second = s.2;
        }

    arm_ours : (n : ℕ) (s : PlainStatement) → slice_get (arms_of w.form) n ≡ Some s → (c : Context) × IsOurs c s
    arm_ours n s at = let r = arm_visits w n s at in (r.0, λ u i. visited Dynamic part.control w u stands (inr (r.1 u i)))

    twice_never : (two : Arms (arms_of w.form)) (g : ℕ) → In (enabled_in two.first) g → In (enabled_in two.second) g → ⊥
    twice_never two g a b = not_twice d accepted k within w stands g (two, a, b)

    counters_never : (two : Arms (arms_of w.form)) (c : ℕ) → CounterOf two.first c → CounterOf two.second c → ⊥
    counters_never two c x y =
        let a = arm_ours two.one two.first two.first_stands in
        let b = arm_ours two.other two.second two.second_stands in
        let same : x.group ≡ y.group = one_group two.first two.second c x y in
        twice_never two x.group
        (is_enabled part a.0 two.first x.group (our_forms a.0 two.first a.1) x.stands (counted_kind cells (group_at part x.group) x.counted))
        (subst (In (enabled_in two.second)) (sym same) (is_enabled part b.0 two.second y.group (our_forms b.0 two.second b.1) y.stands (counted_kind cells (group_at part y.group) y.counted)))

    shared_never : (c : ℕ) → IsShared other (arms_of (moved_form mv w.form)) c → ⊥
    shared_never c (two, drives_it, reads_it) = by (old_arms two)
      where
        by : OldArms two → ⊥
        by arms = both (drives_back a.0 arms.old.first a.1 c (subst (λ s. drives_all other s c ≡ true) (sym arms.first) drives_it)) (reads_back b.0 arms.old.second b.1 c (subst (λ s. ReadsAll other s c) (sym arms.second) reads_it))
          where
            a : (c : Context) × IsOurs c arms.old.first
            a = arm_ours arms.old.one arms.old.first arms.old.first_stands

            b : (c : Context) × IsOurs c arms.old.second
            b = arm_ours arms.old.other arms.old.second arms.old.second_stands

            both : ((c < length part.cells) × (drives_all part arms.old.first c ≡ true)) ⊎ CounterOf arms.old.first c → ((c < length part.cells) × ReadsAll part arms.old.second c) ⊎ CounterOf arms.old.second c → ⊥
            both (inl (few, d1)) (inl (less, r1)) =
                unshared d accepted k within w stands c (arms.old, d1, r1)
            both (inl (few, d1)) (inr y) = let past : length part.cells ≤ c = counter_past arms.old.second c y in omega (arith, few, past)
            both (inr x) (inl (less, r1)) = let past : length part.cells ≤ c = counter_past arms.old.first c x in omega (arith, less, past)
            both (inr x) (inr y) = counters_never arms.old c x y

    twice_back : (g : ℕ) → IsEnabledTwice (arms_of (moved_form mv w.form)) g → ⊥
    twice_back g (two, a, b) =
        let arms = old_arms two in
        twice_never arms.old g (subst (λ gs. In gs g) (ap enabled_in (sym arms.first) ∙ enabled_in-moved mv arms.old.first) a) (subst (λ gs. In gs g) (ap enabled_in (sym arms.second) ∙ enabled_in-moved mv arms.old.second) b)

  -- RULE race
  race_old : (w : Visited) → In (statements_in part) w → (place : Place) (name : List ℕ) → BreaksRace (tree_within (with_counts d) (suc m) k) (moved_visited mv w) place name → ⊥
  race_old w stands place name (inl (c, shared, least, told)) = shared_never w stands c shared
  race_old w stands place name (inr (none, (g, twice, least, told))) = twice_back w stands g twice

  no_arms : (v : Visited) → arms_of v.form ≡ [] → Arms (arms_of v.form) → ⊥
  no_arms v none two = let wrong : None ≡ Some two.first = sym (ap (λ list. slice_get list two.one) none) ∙ two.first_stands in absurd (cc)

  race_new : (v : Visited) → arms_of v.form ≡ [] → (place : Place) (name : List ℕ) → BreaksRace (tree_within (with_counts d) (suc m) k) v place name → ⊥
  race_new v none place name (inl (c, shared, least, told)) = no_arms v none shared.0
  race_new v none place name (inr (unshared_ones, (g, twice, least, told))) = no_arms v none twice.0

  pub race_never : (v : Visited) → In (statements_in other) v → (place : Place) (name : List ℕ) → BreaksRace (tree_within (with_counts d) (suc m) k) v place name → ⊥
  race_never = shapes.no_visited d design accepted m k count within BreaksRace (λ v place name n breaks. race_new v n.alone place name breaks) race_old
