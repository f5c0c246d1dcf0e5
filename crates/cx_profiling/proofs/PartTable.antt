-- THE PARTS OF AN INSTRUMENTED COMPONENT: each group, assignment and statement of it is an old one, moved, or a new one: of a counter, of an
-- output that shows a count, or of a store.
use Rattle.std.proofs.Common.{◌≡◌, ℕ, zero, suc, ◌+◌, ◌-◌, ◌*◌, ◌<◌, ◌≤◌, inl, inr, ◌⊎◌, ⊎_elim, true, false, List, [], ◌∷◌, ◌++◌, length, map, Some, None, slice_get, get_or, refl, sym, ap, ◌∙◌, subst, arith}
use Rattle.std.proofs.lemmas.Bool.{cases_lt}
use Rattle.std.proofs.lemmas.List.{get_or_past, length-append}
use Rattle.cx_text.proofs.MemberLaws.{image_in, in_either}
use Rattle.cx_text.specs.declared.places.Place.{Place}
use Rattle.cx_text.proofs.ListLaws.{there_at, length-map}
use Rattle.cx_meaning.specs.declared.kinds.GroupKind.TheVariants as kinds
use Rattle.cx_meaning.specs.declared.ports.PortRef.{PortRef}
use Rattle.cx_meaning.specs.declared.ports.PortRef.TheVariants as ports
use Rattle.cx_meaning.specs.Designs.{PlainAssign, PlainGroup, PlainComponent, PlainDesign, component_at, group_at, no_group, Seq, statements_of, a_statement}
use Rattle.cx_meaning.specs.Instances.{Cells, cells_of}
use Rattle.cx_meaning.specs.Active.{Owned, source_order}
use Rattle.cx_meaning.specs.Islands.{kind_length, group_length}
use Rattle.cx_text.specs.Members.{In}
use Rattle.cx_rules.specs.Ports.{component_of}
use Rattle.cx_rules.specs.Invokes.{invoke_in}
use Rattle.cx_rules.specs.Items.{Dynamic, Visited, visit, visit_all, statements_in, test_in}
use Rattle.cx_rules.specs.RaceRule.{arms_of}
use Rattle.cx_rules.specs.StaticControl.{is_static, is_in_static}
use Rattle.cx_rules.specs.Wellformed.{IsDesign}
use Rattle.cx_rewrites.specs.Moving.{moved_assign, moved_owned, moved_statement}
use Rattle.cx_rewrites.proofs.MovedLists.{moved_visited, visit-moved}
use Rattle.cx_profiling.specs.Counters.{is_counted, counters, Shown, shown_in}
use Rattle.cx_profiling.specs.Instrumented.{is_reached, drive, counter_assigns, output_assigns, address_width, store_assigns, store_enables, moved_in, moved_assigns, group_with, counted_groups, main_component, with_counts}
use Rattle.cx_profiling.proofs.ReachedLemmas.{is_reached-from}
use Rattle.cx_profiling.proofs.GainedLemmas.{counted_groups-length, store_groups-length}
use Rattle.cx_profiling.proofs.RoleLemmas.{Role, as_main, as_child, as_kept, role}
use Rattle.cx_profiling.proofs.GroupLemmas.{GroupOf, counted_group, plain_group, group_is}
use Rattle.cx_profiling.proofs.PairLemmas.{stored}
use Rattle.cx_profiling.proofs.StoreDrives.{store_group}
use Rattle.cx_flattening.proofs.Ruled.{in_order}
use Rattle.cx_rules.proofs.ForeignLemmas.{OwnerOf, continuous, of_group, owner_of}

pub in_output_assigns : (place : Place) (n : ℕ) (xs : List Shown) (a : PlainAssign) → In (output_assigns place n xs) a → (m : ℕ) × (x : Shown) × (slice_get xs m ≡ Some x) × (drive place (ports.Output (n + m)) x.port ≡ a)
in_output_assigns place n [] a i = absurd i
in_output_assigns place n (x ∷ xs) a (inl e) = let z : n ≡ n + 0 = omega arith in (0, x, refl, subst (λ m. drive place (ports.Output m) x.port ≡ a) z e)
in_output_assigns place n (x ∷ xs) a (inr i) =
    let r = in_output_assigns place (suc n) xs a i in
    let z : suc n + r.0 ≡ n + suc r.0 = omega arith in
    (suc r.0, r.1, r.2, subst (λ m. drive place (ports.Output m) r.1.port ≡ a) z r.3)

module _ (d : PlainDesign) (design : IsDesign d) (k : ℕ) (within : k < length d.components) where
  abbrev part : PlainComponent
  part = component_at d k

  abbrev other : PlainComponent
  other = component_at (with_counts d) k

  abbrev cells : Cells
  cells = cells_of (component_of d k)

  abbrev shown : List Shown
  shown = shown_in (component_of d k)

  abbrev own : ℕ
  own = length (counters (component_of d k))

  abbrev mv : PortRef → PortRef
  mv p = moved_in d part p

  -- what a group stores as word n
  abbrev pub StoreOf : ℕ → Shown → List PlainAssign
  StoreOf n x = store_assigns part.place (length part.cells + 2 * own) (address_width (length shown)) (length part.groups + n) n x.port

  -- A GROUP: an old one, with the assignments of its counter or without, one that stores a count, or none
  pub data GroupMade (g : ℕ) : Type 0 where
    bare_group : g < length part.groups → group_at other g ≡ group_with d part (group_at part g) [] → GroupMade g
    counting_group : (r : ℕ) → In (counters (component_of d k)) (record { group = g; register = r }) → is_reached d k ≡ true → g < length part.groups → is_counted cells (group_at part g) ≡ true
        → group_at other g ≡ group_with d part (group_at part g) (counter_assigns part.place r) → GroupMade g
    storing_group : (n : ℕ) (x : Shown) (name : List ℕ) → k ≡ d.main → slice_get shown n ≡ Some x → g ≡ length part.groups + n
        → group_at other g ≡ record { name = name; kind = kinds.Plain; assigns = StoreOf n x; place = part.place } → GroupMade g
    no_group_there : length part.groups ≤ g → length other.groups ≤ g → group_at other g ≡ no_group → GroupMade g

  reached_main : k ≡ d.main → is_reached d k ≡ true
  reached_main e = is_reached-from d design k (inl (sym e))

  of_old : (g : ℕ) → g < length part.groups → GroupOf d part cells (counters (component_of d k)) g (group_at part g) (group_at other g) → is_reached d k ≡ true → GroupMade g
  of_old g few (counted_group r i is e) reached = counting_group r i reached few is e
  of_old g few (plain_group is e) reached = bare_group few e

  pub group_made : (g : ℕ) → GroupMade g
  group_made g = by (role d k within) (cases_lt g (length part.groups))
    where
      old_count : length (counted_groups d part cells (length part.cells) part.groups) ≡ length part.groups
      old_count = counted_groups-length d part cells (length part.cells) part.groups

      kept_there : (gs : List PlainGroup) (n : ℕ) → n < length gs → get_or (map (λ x. group_with d part x []) gs) n no_group ≡ group_with d part (get_or gs n no_group) []
      kept_there [] n few = absurd (omega (arith, few))
      kept_there (x ∷ gs) zero few = refl
      kept_there (x ∷ gs) (suc n) few = kept_there gs n (omega (arith, few))

      store : (names : List (List ℕ)) → k ≡ d.main → length part.groups ≤ g
          → (e : other ≡ main_component d k names) → (g - length part.groups < length shown) ⊎ (length shown ≤ g - length part.groups) → GroupMade g
      store names main past e (inl less) =
          let number : length part.groups + (g - length part.groups) ≡ g = omega (arith, past) in
          let x = there_at shown (g - length part.groups) less in
          let s = store_group d design k within names e (g - length part.groups) x.0 x.1 in
          storing_group (g - length part.groups) x.0 s.0 main x.1 (sym number) (ap (group_at other) (sym number) ∙ s.1)
      store names main past e (inr far) =
          let count : length (stored d design k within names) ≡ length shown =
          store_groups-length part.place names (length part.cells + 2 * own) (address_width (length shown)) (suc (2 * own)) (length part.groups) 0 shown in
          let whole : length other.groups ≡ length (counted_groups d part cells (length part.cells) part.groups) + length (stored d design k within names) =
          ap (λ (x : PlainComponent). length x.groups) e ∙ length-append (counted_groups d part cells (length part.cells) part.groups) (stored d design k within names) in
          let gone : length other.groups ≤ g = omega (arith, count, whole, old_count, past, far) in
          no_group_there past gone (get_or_past other.groups g no_group gone)

      by : Role d k → (g < length part.groups) ⊎ (length part.groups ≤ g) → GroupMade g
      by (as_main names is e) (inl few) = of_old g few (group_is d k within (reached_main is) g few) (reached_main is)
      by (as_main names is e) (inr past) = store names is past e (cases_lt (g - length part.groups) (length shown))
      by (as_child names is r e) (inl few) = of_old g few (group_is d k within r g few) r
      by (as_child names is r e) (inr past) =
          let whole : length other.groups ≡ length (counted_groups d part cells (length part.cells) part.groups) = ap (λ (x : PlainComponent). length x.groups) e in
          let gone : length other.groups ≤ g = omega (arith, whole, old_count, past) in
          no_group_there past gone (get_or_past other.groups g no_group gone)
      by (as_kept is r e) (inl few) = bare_group few (ap (λ (x : PlainComponent). group_at x g) e ∙ kept_there part.groups g few)
      by (as_kept is r e) (inr past) =
          let whole : length other.groups ≡ length (map (λ x. group_with d part x []) part.groups) = ap (λ (x : PlainComponent). length x.groups) e in
          let count : length (map (λ x. group_with d part x []) part.groups) ≡ length part.groups = length-map (λ x. group_with d part x []) part.groups in
          let gone : length other.groups ≤ g = omega (arith, whole, count, past) in
          no_group_there past gone (get_or_past other.groups g no_group gone)

  -- A GROUP'S KIND stays
  pub kind_kept : (g : ℕ) → (group_at other g).kind ≡ (group_at part g).kind
  kind_kept g = by (group_made g)
    where
      past_end : length part.groups ≤ g → kinds.Plain ≡ (group_at part g).kind
      past_end past = ap (λ (x : PlainGroup). x.kind) (sym (get_or_past part.groups g no_group past))

      by : GroupMade g → (group_at other g).kind ≡ (group_at part g).kind
      by (bare_group few e) = ap (λ (x : PlainGroup). x.kind) e
      by (counting_group r own reached few is e) = ap (λ (x : PlainGroup). x.kind) e
      by (storing_group n x name main at number e) = ap (λ (x : PlainGroup). x.kind) e ∙ past_end (omega (arith, number))
      by (no_group_there past gone e) = ap (λ (x : PlainGroup). x.kind) e ∙ past_end past

  pub length_kept : (g : ℕ) → group_length other g ≡ group_length part g
  length_kept g = ap kind_length (kind_kept g)

  -- A CONTINUOUS ASSIGNMENT: an old one, or one that shows a count
  pub data AlwaysMade (a : PlainAssign) : Type 0 where
    old_always : (b : PlainAssign) → In part.always b → moved_assign mv b ≡ a → AlwaysMade a
    showing_always : (n : ℕ) (x : Shown) → (k ≡ d.main → ⊥) → is_reached d k ≡ true → slice_get shown n ≡ Some x → drive part.place (ports.Output (length part.outputs + n)) x.port ≡ a → AlwaysMade a

  pub always_made : (a : PlainAssign) → In other.always a → AlwaysMade a
  always_made a i = by (role d k within)
    where
      old : In (moved_assigns d part part.always) a → AlwaysMade a
      old j = let r = image_in (moved_assign mv) part.always a j in old_always r.0 r.1 r.2

      both : (k ≡ d.main → ⊥) → is_reached d k ≡ true → In (moved_assigns d part part.always) a ⊎ In (output_assigns part.place (length part.outputs) shown) a → AlwaysMade a
      both is r (inl j) = old j
      both is r (inr j) = let s = in_output_assigns part.place (length part.outputs) shown a j in showing_always s.0 s.1 is r s.2 s.3

      by : Role d k → AlwaysMade a
      by (as_main names is e) = old (subst (λ (x : PlainComponent). In x.always a) e i)
      by (as_child names is r e) = both is r (in_either (moved_assigns d part part.always) (output_assigns part.place (length part.outputs) shown) a (subst (λ (x : PlainComponent). In x.always a) e i))
      by (as_kept is r e) = old (subst (λ (x : PlainComponent). In x.always a) e i)

  -- AN ASSIGNMENT of a group
  pub data InGroup (g : ℕ) (a : PlainAssign) : Type 0 where
    old_in : (b : PlainAssign) → g < length part.groups → In (group_at part g).assigns b → moved_assign mv b ≡ a → InGroup g a
    counting_in : (r : ℕ) → In (counters (component_of d k)) (record { group = g; register = r }) → is_reached d k ≡ true → g < length part.groups → is_counted cells (group_at part g) ≡ true
        → In (counter_assigns part.place r) a → InGroup g a
    storing_in : (n : ℕ) (x : Shown) → k ≡ d.main → slice_get shown n ≡ Some x → g ≡ length part.groups + n → In (StoreOf n x) a → InGroup g a

  pub in_group : (g : ℕ) (a : PlainAssign) → In (group_at other g).assigns a → InGroup g a
  in_group g a i = by (group_made g)
    where
      old : g < length part.groups → In (moved_assigns d part (group_at part g).assigns) a → InGroup g a
      old few j = let r = image_in (moved_assign mv) (group_at part g).assigns a j in old_in r.0 few r.1 r.2

      by : GroupMade g → InGroup g a
      by (bare_group few e) =
          ⊎_elim (λ j. old few j) (λ none. absurd none) (in_either (moved_assigns d part (group_at part g).assigns) [] a (subst (λ (x : PlainGroup). In x.assigns a) e i))
      by (counting_group r own reached few is e) =
          ⊎_elim (λ j. old few j) (λ j. counting_in r own reached few is j)
          (in_either (moved_assigns d part (group_at part g).assigns) (counter_assigns part.place r) a (subst (λ (x : PlainGroup). In x.assigns a) e i))
      by (storing_group n x name main at number e) = storing_in n x main at number (subst (λ (y : PlainGroup). In y.assigns a) e i)
      by (no_group_there past gone e) = absurd (let none : In no_group.assigns a = subst (λ (x : PlainGroup). In x.assigns a) e i in none)

  -- AN ASSIGNMENT with the group in which it stands
  pub data OwnedMade (o : Owned) : Type 0 where
    old_owned : (w : Owned) → In (source_order part) w → moved_owned mv w ≡ o → OwnedMade o
    showing : o.owner ≡ None → (n : ℕ) (x : Shown) → (k ≡ d.main → ⊥) → is_reached d k ≡ true → slice_get shown n ≡ Some x → drive part.place (ports.Output (length part.outputs + n)) x.port ≡ o.assign → OwnedMade o
    counting : (g r : ℕ) → o.owner ≡ Some g → In (counters (component_of d k)) (record { group = g; register = r }) → is_reached d k ≡ true → g < length part.groups → is_counted cells (group_at part g) ≡ true
        → In (counter_assigns part.place r) o.assign → OwnedMade o
    storing : (n : ℕ) (x : Shown) → k ≡ d.main → slice_get shown n ≡ Some x → o.owner ≡ Some (length part.groups + n) → In (StoreOf n x) o.assign → OwnedMade o

  pub owned_made : (o : Owned) → In (source_order other) o → OwnedMade o
  owned_made o i = by (owner_of other o i)
    where
      of_always : o.owner ≡ None → AlwaysMade o.assign → OwnedMade o
      of_always e (old_always b j is) =
          old_owned (record { owner = None; assign = b }) (in_order part None b j) (ap (λ w. record { owner = w; assign = moved_assign mv b }) (sym e) ∙ ap (λ a. record { owner = o.owner; assign = a }) is)
      of_always e (showing_always n x main reached at is) = showing e n x main reached at is

      of_one : (g : ℕ) → o.owner ≡ Some g → InGroup g o.assign → OwnedMade o
      of_one g e (old_in b few j is) =
          old_owned (record { owner = Some g; assign = b }) (in_order part (Some g) b (few, j)) (ap (λ w. record { owner = w; assign = moved_assign mv b }) (sym e) ∙ ap (λ a. record { owner = o.owner; assign = a }) is)
      of_one g e (counting_in r own reached few is j) = counting g r e own reached few is j
      of_one g e (storing_in n x main at number j) = storing n x main at (e ∙ ap Some number) j

      by : OwnerOf other o → OwnedMade o
      by (continuous e j) = of_always e (always_made o.assign j)
      by (of_group g e j) = of_one g e (in_group g o.assign j)

  -- A STATEMENT: an old one, or one that says nothing of ports, arms, cycles or static invokes
  pub record IsNewStatement (v : Visited) : Type 0 where
    pub tested : test_in v.form ≡ None
    pub dynamic : is_in_static v.context ≡ false
    pub bare : is_static v.form ≡ false
    pub alone : arms_of v.form ≡ []
    pub untimed : invoke_in v.form ≡ []

  pub data StatementMade (v : Visited) : Type 0 where
    old_statement : (w : Visited) → In (statements_in part) w → moved_visited mv w ≡ v → StatementMade v
    new_statement : IsNewStatement v → StatementMade v

  pub statement_made : (v : Visited) → In (statements_in other) v → StatementMade v
  statement_made v i = by (role d k within)
    where
      old : In (visit Dynamic (moved_statement mv part.control)) v → StatementMade v
      old j = let r = image_in (moved_visited mv) (statements_in part) v (subst (λ list. In list v) (visit-moved mv Dynamic part.control) j) in old_statement r.0 r.1 r.2

      enables : (g : ℕ) (xs : List Shown) → In (visit_all Dynamic (statements_of (store_enables part.place g xs))) v → IsNewStatement v
      enables g [] j = absurd j
      enables g (x ∷ xs) (inl e) = subst IsNewStatement e (record { tested = refl; dynamic = refl; bare = refl; alone = refl; untimed = refl })
      enables g (x ∷ xs) (inr j) = enables (suc g) xs j

      main : In (record { context = Dynamic; form = Seq (a_statement (moved_statement mv part.control) (statements_of (store_enables part.place (length part.groups) shown))); place = part.place }
          ∷ (visit Dynamic (moved_statement mv part.control) ++ visit_all Dynamic (statements_of (store_enables part.place (length part.groups) shown)))) v → StatementMade v
      main (inl e) = new_statement (subst IsNewStatement e (record { tested = refl; dynamic = refl; bare = refl; alone = refl; untimed = refl }))
      main (inr j) =
          ⊎_elim (λ h. old h) (λ h. new_statement (enables (length part.groups) shown h))
          (in_either (visit Dynamic (moved_statement mv part.control)) (visit_all Dynamic (statements_of (store_enables part.place (length part.groups) shown))) v j)

      by : Role d k → StatementMade v
      by (as_main names is e) = main (subst (λ x. In (statements_in x) v) e i)
      by (as_child names is r e) = old (subst (λ x. In (statements_in x) v) e i)
      by (as_kept is r e) = old (subst (λ x. In (statements_in x) v) e i)
