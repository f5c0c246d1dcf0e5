-- EACH RULE on widths, shapes and static control that an instance of the shared design breaks, the instance of the design breaks at the same part.
use Rattle.std.proofs.Common.{◌≡◌, ◌≢◌, ℕ, inl, inr, ◌⊎◌, Bool, true, false, ◌||◌, List, [], ◌∷◌, map, Option, Some, option_map, refl, sym, ap, ap₂, ◌∙◌, subst}
use Rattle.std.specs.Prelude.{nat_eq, if◌then◌else◌, is_some}
use Rattle.cx_text.proofs.MemberLaws.{image_in}
use Rattle.cx_text.specs.declared.places.Place.{Place}
use Rattle.cx_meaning.specs.declared.ports.PortRef.{PortRef}
use Rattle.cx_meaning.specs.declared.ports.PortRef.TheVariants as ports
use Rattle.cx_meaning.specs.declared.ports.PlacedPort.{PlacedPort}
use Rattle.cx_meaning.specs.Designs.{PlainGroup, PlainInvoke, PlainForm, group_at}
use Rattle.cx_meaning.specs.Instances.{Instance, part_of}
use Rattle.cx_meaning.specs.Active.{Owned}
use Rattle.cx_text.specs.Members.{In}
use Rattle.cx_rules.specs.Ports.{width_of, is_target_only, is_primitive_enable, is_part_port}
use Rattle.cx_rules.specs.Items.{Pair, atoms_of, sources_of, Visited, test_in, is_plain, is_comb}
use Rattle.cx_rules.specs.WidthRules.{differ, pairs_of, first_unequal, BreaksWidth, is_wide, first_wide, BreaksGuardWidth, TestBreaksGuardWidth, IsBadLiteral, BreaksLiteral, TestBreaksLiteral, BreaksNotATarget, BreaksNotASource, TestBreaksNotASource}
use Rattle.cx_rules.specs.ShapeRules.{is_hole, is_hole_of, some_target, BreaksNoDone, BreaksAlwaysEnable, BreaksCombEnable, is_bad_range, BreaksStaticGuard, GroupBreaksStaticShape, BreaksStaticControl, BreaksLength, BreaksInvokeLength}
use Rattle.cx_rules.specs.InvokeShape.{BreaksStaticCell}
use Rattle.cx_rules.specs.Invokes.{invoke_length, form_lasts}
use Rattle.cx_rules.specs.Counts.{is_any_island, occurrences_at}
use Rattle.cx_rules.specs.StaticControl.{is_timed, written_length}
use Rattle.cx_rules.specs.LimitRule.{is_too_many, count_in, first_limit, statement_limit, BreaksStatement}
use Rattle.cx_rules.proofs.ShapeRulesLemmas.{owner_length-same}
use Rattle.cx_rewrites.specs.Moving.{moved_port, moved_assign, moved_owned, moved_form}
use Rattle.cx_rewrites.specs.Renaming.{renamed}
use Rattle.cx_rewrites.proofs.MovedInvokes.{timed_back, form_lasts-moved, is_any_island-moved}
use Rattle.cx_sharing.specs.Giving.{new_cell}
use Rattle.cx_sharing.specs.SharedDesign.{shared_invoke}
use Rattle.cx_rewrites.proofs.MovedLists as lists
use Rattle.cx_rewrites.proofs.MovedLists.{moved_pair, moved_visited}
use Rattle.cx_rewrites.proofs.PlaceRules.{ByAssign, ByStatement, ByGroup}
use Rattle.cx_sharing.proofs.SharedParts.{Shares, new_port, width_of-shared, written_width-shared, is_source_only-shared, is_target_only-shared, is_primitive_enable-shared, is_part_port-shared, is_static_port-shared, group_at-shared, group_length-shared, of_invokes, words-shared, invoke_back}
use Rattle.cx_text.proofs.OptionLaws.{map_some}

bad_literal : (cell : ℕ → ℕ) (p : PortRef) → IsBadLiteral (renamed cell p) → IsBadLiteral p
bad_literal cell (ports.Cell c n) (w, v, e, bad) = absurd (cc)
bad_literal cell (ports.Input n) (w, v, e, bad) = absurd (cc)
bad_literal cell (ports.Output n) (w, v, e, bad) = absurd (cc)
bad_literal cell (ports.Done g) (w, v, e, bad) = absurd (cc)
bad_literal cell (ports.Literal x u) (w, v, e, bad) = (w, v, e, bad)

hole_kept : (cell : ℕ → ℕ) (p : PortRef) → is_hole (renamed cell p) ≡ is_hole p
hole_kept cell (ports.Cell c n) = refl
hole_kept cell (ports.Input n) = refl
hole_kept cell (ports.Output n) = refl
hole_kept cell (ports.Done g) = refl
hole_kept cell (ports.Literal w v) = refl

pub hole_of_kept : (cell : ℕ → ℕ) (g : ℕ) (p : PortRef) → is_hole_of g (renamed cell p) ≡ is_hole_of g p
hole_of_kept cell g (ports.Cell c n) = refl
hole_of_kept cell g (ports.Input n) = refl
hole_of_kept cell g (ports.Output n) = refl
hole_of_kept cell g (ports.Done h) = refl
hole_of_kept cell g (ports.Literal w v) = refl

module _ (i j : Instance) (shares : Shares i j) where
  abbrev move : PortRef → PortRef
  move = new_port shares

  -- WIDTHS
  differ_is : {a b c d : Option ℕ} → a ≡ b → c ≡ d → differ a c ≡ differ b d
  differ_is e f = ap₂ differ e f

  first_unequal-shared : (list : List Pair) → first_unequal j (map (moved_pair move) list) ≡ option_map move (first_unequal i list)
  first_unequal-shared [] = refl
  first_unequal-shared (pair ∷ rest) =
      ap₂ (λ b o. if b then Some (move pair.first) else o) (differ_is (width_of-shared shares pair.first) (width_of-shared shares pair.second)) (first_unequal-shared rest)
      ∙ by (differ (width_of i pair.first) (width_of i pair.second))
    where
      by : (b : Bool) → (if b then Some (move pair.first) else option_map move (first_unequal i rest)) ≡ option_map move (if b then Some pair.first else first_unequal i rest)
      by true = refl
      by false = refl

  wide-shared : (p : PortRef) → is_wide j (move p) ≡ is_wide i p
  wide-shared p = ap (λ w. differ w (Some 1)) (written_width-shared shares p)

  first_wide-shared : (list : List PlacedPort) → first_wide j (map (moved_port move) list) ≡ option_map move (first_wide i list)
  first_wide-shared [] = refl
  first_wide-shared (p ∷ rest) = ap₂ (λ b o. if b then Some (move p.port) else o) (wide-shared p.port) (first_wide-shared rest) ∙ by (is_wide i p.port)
    where
      by : (b : Bool) → (if b then Some (move p.port) else option_map move (first_wide i rest)) ≡ option_map move (if b then Some p.port else first_wide i rest)
      by true = refl
      by false = refl

  -- ASSIGNMENTS
  module _ (o : Owned) where
    pub width_back : (place : Place) (name : List ℕ) → BreaksWidth j (moved_owned move o) place name → ByAssign BreaksWidth i o
    width_back place name (port, is, told) =
        let r = map_some move (first_unequal i (pairs_of o.assign)) port (sym (first_unequal-shared (pairs_of o.assign)) ∙ ap (first_unequal j) (sym (lists.pairs_of-moved move o.assign)) ∙ is) in
        (_, _, (r.0, r.1, (refl, refl)))

    pub guard_width_back : (place : Place) (name : List ℕ) → BreaksGuardWidth j (moved_owned move o) place name → ByAssign BreaksGuardWidth i o
    guard_width_back place name (port, is, told) =
        let r = map_some move (first_wide i (atoms_of o.assign.guard)) port (sym (first_wide-shared (atoms_of o.assign.guard)) ∙ ap (first_wide j) (sym (lists.atoms_of-moved move o.assign.guard)) ∙ is) in
        (_, _, (r.0, r.1, (refl, refl)))

    pub source_back : (p : PlacedPort) → In (sources_of (moved_assign move o.assign)) p → (q : PlacedPort) × In (sources_of o.assign) q × (moved_port move q ≡ p)
    source_back p stands = image_in (moved_port move) (sources_of o.assign) p (subst (λ list. In list p) (lists.sources_of-moved move o.assign) stands)

    pub literal_back : (place : Place) (name : List ℕ) → BreaksLiteral j (moved_owned move o) place name → ByAssign BreaksLiteral i o
    literal_back place name (p, stands, bad, told) =
        let r = source_back p stands in
        (_, _, (r.0, r.1, bad_literal (new_cell (part_of i)) r.0.port (subst (λ (x : PlacedPort). IsBadLiteral x.port) (sym r.2) bad), (refl, refl)))

    pub not_a_target_back : (place : Place) (name : List ℕ) → BreaksNotATarget j (moved_owned move o) place name → ByAssign BreaksNotATarget i o
    not_a_target_back place name (is, told) = (_, _, (sym (is_source_only-shared shares o.assign.target) ∙ is, (refl, refl)))

    pub not_a_source_back : (place : Place) (name : List ℕ) → BreaksNotASource j (moved_owned move o) place name → ByAssign BreaksNotASource i o
    not_a_source_back place name (p, stands, is, told) =
        let r = source_back p stands in
        (_, _, (r.0, r.1, sym (is_target_only-shared shares r.0.port) ∙ ap (λ (x : PlacedPort). is_target_only j x.port) r.2 ∙ is, (refl, refl)))

    pub always_enable_back : (place : Place) (name : List ℕ) → BreaksAlwaysEnable j (moved_owned move o) place name → ByAssign BreaksAlwaysEnable i o
    always_enable_back place name (owner, is, told) = (_, _, (owner, sym (is_primitive_enable-shared shares o.assign.target) ∙ is, (refl, refl)))

    pub comb_enable_back : (place : Place) (name : List ℕ) → BreaksCombEnable j (moved_owned move o) place name → ByAssign BreaksCombEnable i o
    comb_enable_back place name (g, owner, comb, is, told) = (
      _,
      _,
      (
        g,
        owner,
        ap (λ (x : PlainGroup). is_comb x.kind) (sym (group_at-shared shares g)) ∙ comb,
        ap₂ (λ a b. a || b || is_hole o.assign.target) (sym (is_primitive_enable-shared shares o.assign.target)) (sym (is_part_port-shared shares o.assign.target))
            ∙ ap (λ b. is_primitive_enable j (move o.assign.target) || is_part_port j (move o.assign.target) || b) (sym (hole_kept (new_cell (part_of i)) o.assign.target)) ∙ is,
        (refl, refl),
      ),
    )

    pub static_guard_back : (place : Place) (name : List ℕ) → BreaksStaticGuard j (moved_owned move o) place name → ByAssign BreaksStaticGuard i o
    static_guard_back place name (r, stands, bad, told) =
        (_, _, (r, subst (λ list. In list r) (lists.ranges_of-moved move o.assign.guard) stands, ap (λ x. is_bad_range x r) (sym (owner_length-same (part_of i) (part_of j) (group_length-shared shares) o.owner)) ∙ bad, (refl, refl)))

    pub static_cell_back : (place : Place) (name : List ℕ) → BreaksStaticCell j (moved_owned move o) place name → ByAssign BreaksStaticCell i o
    static_cell_back place name (is, told) = (_, _, (sym (is_static_port-shared shares o.assign.target) ∙ is, (refl, refl)))

  -- GROUPS
  some_target-shared : (test : PortRef → Bool) → ((p : PortRef) → test (move p) ≡ test p) → (g : ℕ) → some_target test (group_at (part_of j) g).assigns ≡ some_target test (group_at (part_of i) g).assigns
  some_target-shared test same g = ap (λ (x : PlainGroup). some_target test x.assigns) (group_at-shared shares g) ∙ lists.some_target-moved move test test same (group_at (part_of i) g).assigns

  pub no_done_back : (g : ℕ) (place : Place) (name : List ℕ) → BreaksNoDone j g place name → ByGroup BreaksNoDone i g
  no_done_back g place name (plain, none, told) = (
    _,
    _,
    (ap (λ (x : PlainGroup). is_plain x.kind) (sym (group_at-shared shares g)) ∙ plain, sym (some_target-shared (is_hole_of g) (hole_of_kept (new_cell (part_of i)) g) g) ∙ none, (refl, refl)),
  )

  pub static_group_back : (g : ℕ) (place : Place) (name : List ℕ) → GroupBreaksStaticShape j g place name → ByGroup GroupBreaksStaticShape i g
  static_group_back g place name (n, is, bad, told) =
      (_, _, (n, sym (group_length-shared shares g) ∙ is, ap (λ b. b || nat_eq n 0) (sym (some_target-shared is_hole (hole_kept (new_cell (part_of i))) g)) ∙ bad, (refl, refl)))

  -- STATEMENTS
  module _ (v : Visited) where
    pub test_back : (p : PlacedPort) → test_in (moved_form move v.form) ≡ Some p → (q : PlacedPort) × (test_in v.form ≡ Some q) × (moved_port move q ≡ p)
    test_back p e = map_some (moved_port move) (test_in v.form) p (sym (lists.test_in-moved move v.form) ∙ e)

    pub test_width_back : (place : Place) (name : List ℕ) → TestBreaksGuardWidth j (moved_visited move v) place name → ByStatement TestBreaksGuardWidth i v
    test_width_back place name (p, stands, wide, told) =
        let r = test_back p stands in (_, _, (r.0, r.1, sym (wide-shared r.0.port) ∙ ap (λ (x : PlacedPort). is_wide j x.port) r.2 ∙ wide, (refl, refl)))

    pub test_literal_back : (place : Place) (name : List ℕ) → TestBreaksLiteral j (moved_visited move v) place name → ByStatement TestBreaksLiteral i v
    test_literal_back place name (p, stands, bad, told) =
        let r = test_back p stands in (_, _, (r.0, r.1, bad_literal (new_cell (part_of i)) r.0.port (subst (λ (x : PlacedPort). IsBadLiteral x.port) (sym r.2) bad), (refl, refl)))

    pub test_source_back : (place : Place) (name : List ℕ) → TestBreaksNotASource j (moved_visited move v) place name → ByStatement TestBreaksNotASource i v
    test_source_back place name (p, stands, is, told) =
        let r = test_back p stands in (_, _, (r.0, r.1, sym (is_target_only-shared shares r.0.port) ∙ ap (λ (x : PlacedPort). is_target_only j x.port) r.2 ∙ is, (refl, refl)))

    pub static_control_back : (place : Place) (name : List ℕ) → BreaksStaticControl j (moved_visited move v) place name → ByStatement BreaksStaticControl i v
    static_control_back place name (inside, bad, told) =
        (_, _, (inside, sym (lists.may_stand-moved move (part_of i) (part_of j) (group_length-shared shares) (words-shared shares) v.context v.form) ∙ bad, (refl, refl)))

    length_is : form_lasts (part_of j) (moved_form move v.form) ≡ form_lasts (part_of i) v.form
    length_is = form_lasts-moved move (part_of i) (part_of j) (group_length-shared shares) (of_invokes shares invoke_length (λ w. refl)) v.form

    pub length_back : (place : Place) (name : List ℕ) → BreaksLength j (moved_visited move v) place name → ByStatement BreaksLength i v
    length_back place name (static, has, bad, told) = (
      _,
      _,
      (sym (lists.is_static-moved move v.form) ∙ static, sym (lists.form_has_length-moved move (part_of i) (part_of j) (group_length-shared shares) (words-shared shares) v.context v.form) ∙ has, one bad, (refl, refl)),
    )
      where
        one : ((n : ℕ) × (written_length (moved_form move v.form) ≡ Some n) × (n ≢ form_lasts (part_of j) (moved_form move v.form))) ⊎ (form_lasts (part_of j) (moved_form move v.form) ≡ 0)
            → ((n : ℕ) × (written_length v.form ≡ Some n) × (n ≢ form_lasts (part_of i) v.form)) ⊎ (form_lasts (part_of i) v.form ≡ 0)
        one (inl (n, written, differs)) = inl (n, sym (lists.written_length-moved move v.form) ∙ written, λ is. differs (is ∙ sym length_is))
        one (inr none) = inr (sym length_is ∙ none)

    pub invoke_length_back : (place : Place) (name : List ℕ) → BreaksInvokeLength j (moved_visited move v) place name → ByStatement BreaksInvokeLength i v
    invoke_length_back place name (k, w, is, at, timed, bad, told) =
        let x = invoke_back shares k w at in
        (_, _, (k, x.0, timed_back move v.form k is, x.1, ap (λ z. is_timed (Some z)) x.2 ∙ timed, one x.0 x.2 bad, (refl, refl)))
      where
        one : (x : PlainInvoke) → shared_invoke (new_cell (part_of i)) x ≡ w → ((n : ℕ) × (w.length ≡ Some n) × (n ≢ invoke_length (Some w))) ⊎ (invoke_length (Some w) ≡ 0)
            → ((n : ℕ) × (x.length ≡ Some n) × (n ≢ invoke_length (Some x))) ⊎ (invoke_length (Some x) ≡ 0)
        one x e (inl (n, written, differs)) = inl (n, ap (λ (z : PlainInvoke). z.length) e ∙ written, λ same. differs (same ∙ ap (λ z. invoke_length (Some z)) e))
        one x e (inr none) = inr (ap (λ z. invoke_length (Some z)) e ∙ none)

    -- a limit, where as much occurs
    module _ (occurs : (form : PlainForm) → occurrences_at j (moved_form move form) ≡ occurrences_at i form) where
      limit_is : statement_limit j (moved_visited move v) ≡ statement_limit i v
      limit_is =
          ap₂ (λ o b. first_limit (is_too_many o) b (occurrences_at j (moved_form move v.form)) (form_lasts (part_of j) (moved_form move v.form))) (lists.count_in-moved move v.form)
          (is_any_island-moved move (part_of i) (part_of j) (group_length-shared shares) (of_invokes shares is_some (λ w. refl)) v)
          ∙ ap₂ (first_limit (is_too_many (count_in v.form)) (is_any_island (part_of i) v)) (occurs v.form) length_is

      pub statement_limit_back : (place : Place) (name : List ℕ) → BreaksStatement j (moved_visited move v) place name → ByStatement BreaksStatement i v
      statement_limit_back place name (limited, is, told) = (_, _, (limited, sym limit_is ∙ is, (refl, refl)))
