-- THE ORDER OF ASSIGNMENTS follows from the groups: where each group stays or is promoted, so does each assignment in source order.
use Rattle.std.proofs.Common.{◌≡◌, ℕ, suc, ◌+◌, inl, inr, Bool, true, false, List, [], ◌∷◌, ◌++◌, Option, Some, None, refl, sym, ap, ◌∙◌, subst, arith}
use Rattle.std.specs.Prelude.{if◌then◌else◌, slice_get}
use Rattle.std.proofs.lemmas.Option.{get_or_from_slice_get}
use Rattle.cx_meaning.specs.Designs.{Always, PlainAssign, PlainGroup, PlainComponent, group_at, no_group}
use Rattle.cx_meaning.specs.Instances.{Instance}
use Rattle.cx_meaning.specs.Active.{Owned, owned, owned_by_groups, no_later, placed_in, by_place, source_order}
use Rattle.cx_rules.specs.Ports.{is_primitive_enable}
use Rattle.cx_rules.specs.ShapeRules.{is_hole}
use Rattle.cx_promotion.specs.Promotable.{promotable, bare_enable, promoted_assigns, promoted_group}
use Rattle.cx_promotion.specs.Made.{GroupMade, GroupsMade, no_groups, a_group, IsPromoted, without_guard, OrderMade, no_assigns, stands, bared, dropped}
use Rattle.cx_rewrites.proofs.OrderLemmas.{AllAfter, IsSorted, all_later, by_place_sorted, placed_front}

module _ (i : Instance) (promoted : ℕ → Type 0) where
  abbrev Made : List Owned → List Owned → Type 0
  Made os ps = OrderMade i promoted os ps

  -- what is made stands no earlier either
  after_made : (a : Owned) {os ps : List Owned} → Made os ps → AllAfter a os → AllAfter a ps
  after_made a no_assigns h = tt
  after_made a (stands rest) (e, h) = (e, after_made a rest h)
  after_made a (bared g owner is enable rest) (e, h) = (e, after_made a rest h)
  after_made a (dropped g owner is hole rest) (e, h) = after_made a rest h

  -- an assignment that stands, and one at its place that was made of it
  abbrev Joins : Owned → Owned → Type 0
  Joins a b = (os ps : List Owned) → Made os ps → Made (a ∷ os) (b ∷ ps)

  placed_made : (a b : Owned) → b.assign.place ≡ a.assign.place → Joins a b → {os ps : List Owned} → Made os ps → IsSorted os → Made (placed_in a os) (placed_in b ps)
  placed_made a b same joins no_assigns sorted = joins [] [] no_assigns
  placed_made a b same joins (stands {o = o} {os = os} {ps = ps} rest) (after, sorted) =
      subst (λ t. Made (placed_in a (o ∷ os)) (if t then b ∷ o ∷ ps else o ∷ placed_in b ps)) (ap (λ x. no_later x o.assign.place) (sym same))
      (choice (no_later a.assign.place o.assign.place) (placed_made a b same joins rest sorted))
    where
      choice : (t : Bool) → Made (placed_in a os) (placed_in b ps) → Made (if t then a ∷ o ∷ os else o ∷ placed_in a os) (if t then b ∷ o ∷ ps else o ∷ placed_in b ps)
      choice true k = joins (o ∷ os) (o ∷ ps) (stands rest)
      choice false k = stands k
  placed_made a b same joins (bared {o = o} {os = os} {ps = ps} g owner is enable rest) (after, sorted) =
      subst (λ t. Made (placed_in a (o ∷ os)) (if t then b ∷ without_guard o ∷ ps else without_guard o ∷ placed_in b ps)) (ap (λ x. no_later x o.assign.place) (sym same))
      (choice (no_later a.assign.place o.assign.place) (placed_made a b same joins rest sorted))
    where
      choice : (t : Bool) → Made (placed_in a os) (placed_in b ps) → Made (if t then a ∷ o ∷ os else o ∷ placed_in a os) (if t then b ∷ without_guard o ∷ ps else without_guard o ∷ placed_in b ps)
      choice true k = joins (o ∷ os) (without_guard o ∷ ps) (bared g owner is enable rest)
      choice false k = bared g owner is enable k
  placed_made a b same joins (dropped {o = o} {os = os} {ps = ps} g owner is hole rest) (after, sorted) =
      choice (no_later a.assign.place o.assign.place) refl (placed_made a b same joins rest sorted)
    where
      front : no_later a.assign.place o.assign.place ≡ true → placed_in b ps ≡ b ∷ ps
      front e =
          placed_front b ps (after_made b rest (all_later b o os (ap (λ x. no_later x o.assign.place) same ∙ e) after))

      choice : (t : Bool) → no_later a.assign.place o.assign.place ≡ t → Made (placed_in a os) (placed_in b ps) → Made (if t then a ∷ o ∷ os else o ∷ placed_in a os) (placed_in b ps)
      choice true e k = subst (λ list. Made (a ∷ o ∷ os) list) (sym (front e)) (joins (o ∷ os) ps (dropped g owner is hole rest))
      choice false e k = dropped g owner is hole k

  -- one that is dropped, wherever it stands
  placed_dropped : (a : Owned) (g : ℕ) → a.owner ≡ Some g → promoted g → is_hole a.assign.target ≡ true → (os ps : List Owned) → Made os ps → Made (placed_in a os) ps
  placed_dropped a g owner is hole os ps no_assigns = dropped g owner is hole no_assigns
  placed_dropped a g owner is hole os ps (stands {o = o} {os = os'} {ps = ps'} rest) =
      choice (no_later a.assign.place o.assign.place) (placed_dropped a g owner is hole os' ps' rest)
    where
      choice : (t : Bool) → Made (placed_in a os') ps' → Made (if t then a ∷ o ∷ os' else o ∷ placed_in a os') (o ∷ ps')
      choice true k = dropped g owner is hole (stands rest)
      choice false k = stands k
  placed_dropped a g owner is hole os ps (bared {o = o} {os = os'} {ps = ps'} f own was enable rest) =
      choice (no_later a.assign.place o.assign.place) (placed_dropped a g owner is hole os' ps' rest)
    where
      choice : (t : Bool) → Made (placed_in a os') ps' → Made (if t then a ∷ o ∷ os' else o ∷ placed_in a os') (without_guard o ∷ ps')
      choice true k = dropped g owner is hole (bared f own was enable rest)
      choice false k = bared f own was enable k
  placed_dropped a g owner is hole os ps (dropped {o = o} {os = os'} f own was gone rest) =
      choice (no_later a.assign.place o.assign.place) (placed_dropped a g owner is hole os' ps rest)
    where
      choice : (t : Bool) → Made (placed_in a os') ps → Made (if t then a ∷ o ∷ os' else o ∷ placed_in a os') ps
      choice true k = dropped g owner is hole (dropped f own was gone rest)
      choice false k = dropped f own was gone k

  -- BY PLACE
  pub sorted_made : {os ps : List Owned} → Made os ps → Made (by_place os) (by_place ps)
  sorted_made no_assigns = no_assigns
  sorted_made (stands {o = o} {os = os} {ps = ps} rest) = placed_made o o refl (λ os ps rest. stands rest) (sorted_made rest) (by_place_sorted os)
  sorted_made (bared {o = o} {os = os} {ps = ps} g owner is enable rest) =
      placed_made o (without_guard o) refl (λ os ps rest. bared g owner is enable rest) (sorted_made rest) (by_place_sorted os)
  sorted_made (dropped {o = o} {os = os} {ps = ps} g owner is hole rest) = placed_dropped o g owner is hole (by_place os) (by_place ps) (sorted_made rest)

  -- the assignments of a group that stays, and of one that is promoted
  all_stand : (owner : Option ℕ) (list : List PlainAssign) (os ps : List Owned) → Made os ps → Made (owned owner list ++ os) (owned owner list ++ ps)
  all_stand owner [] os ps rest = rest
  all_stand owner (a ∷ list) os ps rest = stands (all_stand owner list os ps rest)

  all_promoted : (g : ℕ) → promoted g → (list : List PlainAssign) (os ps : List Owned) → Made os ps → Made (owned (Some g) list ++ os) (owned (Some g) (promoted_assigns i list) ++ ps)
  all_promoted g is [] os ps rest = rest
  all_promoted g is (a ∷ list) os ps rest = by (is_hole a.target) refl (all_promoted g is list os ps rest)
    where
      bare : (b : Bool) → is_primitive_enable i a.target ≡ b → Made (owned (Some g) list ++ os) (owned (Some g) (promoted_assigns i list) ++ ps)
          → Made (record { owner = Some g; assign = a } ∷ (owned (Some g) list ++ os)) (record { owner = Some g; assign = if b then record a { guard = Always } else a } ∷ (owned (Some g) (promoted_assigns i list) ++ ps))
      bare true e k = bared g refl is e k
      bare false e k = stands k

      by : (b : Bool) → is_hole a.target ≡ b → Made (owned (Some g) list ++ os) (owned (Some g) (promoted_assigns i list) ++ ps)
          → Made (record { owner = Some g; assign = a } ∷ (owned (Some g) list ++ os)) (owned (Some g) (if b then promoted_assigns i list else bare_enable i a ∷ promoted_assigns i list) ++ ps)
      by true e k = dropped g refl is e k
      by false e k = bare (is_primitive_enable i a.target) refl k

-- A COMPONENT whose groups were made
module _ (i : Instance) (old new : PlainComponent) where
  -- the groups of both lists are those of the components, from number m on
  abbrev Numbered : ℕ → List PlainGroup → List PlainGroup → Type 0
  Numbered m xs ys = (k : ℕ) (x y : PlainGroup) → slice_get xs k ≡ Some x → slice_get ys k ≡ Some y → (group_at old (m + k) ≡ x) × (group_at new (m + k) ≡ y)

  next : (m k : ℕ) → m + suc k ≡ suc m + k
  next m k = omega arith

  none : (m : ℕ) → m + 0 ≡ m
  none m = omega arith

  groups_stand : (m : ℕ) {xs ys : List PlainGroup} → GroupsMade i xs ys → Numbered m xs ys → OrderMade i (IsPromoted i old new) (owned_by_groups m xs) (owned_by_groups m ys)
  groups_stand m no_groups numbered = no_assigns
  groups_stand m (a_group {x = x} {y = y} {xs = xs} {ys = ys} one more) numbered = by one (groups_stand (suc m) more later)
    where
      later : Numbered (suc m) xs ys
      later k a b e f = let r = numbered (suc k) a b e f in (sym (ap (group_at old) (next m k)) ∙ r.0, sym (ap (group_at new) (next m k)) ∙ r.1)

      here : (group_at old m ≡ x) × (group_at new m ≡ y)
      here = let r = numbered 0 x y refl refl in (sym (ap (group_at old) (none m)) ∙ r.0, sym (ap (group_at new) (none m)) ∙ r.1)

      by : GroupMade i x y → OrderMade i (IsPromoted i old new) (owned_by_groups (suc m) xs) (owned_by_groups (suc m) ys)
          → OrderMade i (IsPromoted i old new) (owned (Some m) x.assigns ++ owned_by_groups (suc m) xs) (owned (Some m) y.assigns ++ owned_by_groups (suc m) ys)
      by (inl same) rest =
          subst (λ (z : PlainGroup). OrderMade i (IsPromoted i old new) (owned (Some m) x.assigns ++ owned_by_groups (suc m) xs) (owned (Some m) z.assigns ++ owned_by_groups (suc m) ys)) (sym same)
          (all_stand i (IsPromoted i old new) (Some m) x.assigns (owned_by_groups (suc m) xs) (owned_by_groups (suc m) ys) rest)
      by (inr (n, long, is)) rest =
          subst (λ (z : PlainGroup). OrderMade i (IsPromoted i old new) (owned (Some m) x.assigns ++ owned_by_groups (suc m) xs) (owned (Some m) z.assigns ++ owned_by_groups (suc m) ys)) (sym is)
          (all_promoted i (IsPromoted i old new) m
          (n, ap (promotable i) here.0 ∙ long, here.1 ∙ is ∙ ap (promoted_group i n) (sym here.0))
          x.assigns (owned_by_groups (suc m) xs) (owned_by_groups (suc m) ys) rest)

  pub order_made : old.always ≡ new.always → GroupsMade i old.groups new.groups → OrderMade i (IsPromoted i old new) (source_order old) (source_order new)
  order_made always groups =
      subst (λ list. OrderMade i (IsPromoted i old new) (source_order old) (by_place (owned None list ++ owned_by_groups 0 new.groups))) always
      (sorted_made i (IsPromoted i old new)
      (all_stand i (IsPromoted i old new) None old.always (owned_by_groups 0 old.groups) (owned_by_groups 0 new.groups) (groups_stand 0 groups numbered)))
    where
      zero_on : (k : ℕ) → 0 + k ≡ k
      zero_on k = omega arith

      numbered : Numbered 0 old.groups new.groups
      numbered k x y e f = (
        ap (group_at old) (zero_on k) ∙ get_or_from_slice_get old.groups k x no_group e,
        ap (group_at new) (zero_on k) ∙ get_or_from_slice_get new.groups k y no_group f,
      )
