-- PARTS WHOSE PORTS ARE MOVED name the moved ports of what the parts name, in the same order; of shapes and counts they keep all.
use Rattle.std.proofs.Common.{◌≡◌, inl, inr, ℕ, zero, suc, ◌+◌, Bool, true, false, ◌||◌, ◌&&◌, List, [], ◌∷◌, ◌++◌, map, Option, Some, None, option_map, slice_get, refl, sym, ap, ap₂, ◌∙◌}
use Rattle.std.specs.Prelude.{flat_map, is_some, get_or}
use Rattle.std.proofs.lemmas.List.{map-append}
use Rattle.cx_text.specs.Members.{In}
use Rattle.cx_meaning.specs.declared.ports.PortRef.{PortRef}
use Rattle.cx_meaning.specs.declared.ports.PlacedPort.{PlacedPort}
use Rattle.cx_meaning.specs.Designs.{PlainGuard, Always, Atom, Negation, All, Any, Compared, Within, PlainGuards, no_guards, a_guard, PlainAssign, PlainGroup, PlainComponent, no_group, PlainForm, Empty, Enable, Seq, Par, If, While, Repeat, StaticSeq, StaticPar, StaticIf, StaticRepeat, Timed, PlainStatement, Placed, PlainStatements, no_statements, a_statement, list_of}
use Rattle.cx_meaning.specs.Control.{with_comb, groups_in, groups_of, groups_in_all}
use Rattle.cx_meaning.specs.Islands.{group_length}
use Rattle.cx_rules.specs.Items.{Pair, atoms_of, atoms_in, comparisons_of, comparisons_in, operands_of, operands_in, ranges_of, ranges_in, guard_nodes, nodes_in, sources_of, Context, Dynamic, InStatic, Branch, below_dynamic, Visited, visit, visit_parts, visit_all, test_in, option_list, tests_of}
use Rattle.cx_rules.specs.WidthRules.{pairs_of}
use Rattle.cx_rules.specs.StaticControl.{is_static, is_written, is_timed, may_stand, form_has_length, has_length, all_have_length, written_length, is_island_form, is_island, one_if, form_occurrences, occurrences, occurrences_in, island_occurrences, occurrences_of, is_dynamic}
use Rattle.cx_rules.specs.RaceRule.{arms_of, enabled_group, enabled_in}
use Rattle.cx_rules.specs.ShapeRules.{some_target}
use Rattle.cx_rules.specs.LimitRule.{count_in}
use Rattle.cx_rules.specs.Sizes.{assigns_size, groups_size}
use Rattle.cx_rewrites.specs.Moving.{moved_port, moved_guard, moved_guards, moved_assign, moved_group, moved_form, moved_statement, moved_statements}

module _ (move : PortRef → PortRef) where
  abbrev pub moved_pair : Pair → Pair
  moved_pair p = record { first = move p.first; second = move p.second }

  abbrev pub moved_visited : Visited → Visited
  moved_visited v = record { context = v.context; form = moved_form move v.form; place = v.place }

  -- GUARDS
  mutual
    pub atoms_of-moved : (g : PlainGuard) → atoms_of (moved_guard move g) ≡ map (moved_port move) (atoms_of g)
    atoms_of-moved Always = refl
    atoms_of-moved (Atom p) = refl
    atoms_of-moved (Negation g) = atoms_of-moved g
    atoms_of-moved (All gs) = atoms_in-moved gs
    atoms_of-moved (Any gs) = atoms_in-moved gs
    atoms_of-moved (Compared c a b) = refl
    atoms_of-moved (Within from to) = refl

    atoms_in-moved : (gs : PlainGuards) → atoms_in (moved_guards move gs) ≡ map (moved_port move) (atoms_in gs)
    atoms_in-moved no_guards = refl
    atoms_in-moved (a_guard g gs) = ap₂ ◌++◌ (atoms_of-moved g) (atoms_in-moved gs) ∙ sym (map-append (moved_port move) (atoms_of g) (atoms_in gs))

  mutual
    pub comparisons_of-moved : (g : PlainGuard) → comparisons_of (moved_guard move g) ≡ map moved_pair (comparisons_of g)
    comparisons_of-moved Always = refl
    comparisons_of-moved (Atom p) = refl
    comparisons_of-moved (Negation g) = comparisons_of-moved g
    comparisons_of-moved (All gs) = comparisons_in-moved gs
    comparisons_of-moved (Any gs) = comparisons_in-moved gs
    comparisons_of-moved (Compared c a b) = refl
    comparisons_of-moved (Within from to) = refl

    comparisons_in-moved : (gs : PlainGuards) → comparisons_in (moved_guards move gs) ≡ map moved_pair (comparisons_in gs)
    comparisons_in-moved no_guards = refl
    comparisons_in-moved (a_guard g gs) = ap₂ ◌++◌ (comparisons_of-moved g) (comparisons_in-moved gs) ∙ sym (map-append moved_pair (comparisons_of g) (comparisons_in gs))

  pub pairs_of-moved : (a : PlainAssign) → pairs_of (moved_assign move a) ≡ map moved_pair (pairs_of a)
  pairs_of-moved a = ap (λ list. record { first = move a.target; second = move a.source.port } ∷ list) (comparisons_of-moved a.guard)

  mutual
    operands_of-moved : (g : PlainGuard) → operands_of (moved_guard move g) ≡ map (moved_port move) (operands_of g)
    operands_of-moved Always = refl
    operands_of-moved (Atom p) = refl
    operands_of-moved (Negation g) = operands_of-moved g
    operands_of-moved (All gs) = operands_in-moved gs
    operands_of-moved (Any gs) = operands_in-moved gs
    operands_of-moved (Compared c a b) = refl
    operands_of-moved (Within from to) = refl

    operands_in-moved : (gs : PlainGuards) → operands_in (moved_guards move gs) ≡ map (moved_port move) (operands_in gs)
    operands_in-moved no_guards = refl
    operands_in-moved (a_guard g gs) = ap₂ ◌++◌ (operands_of-moved g) (operands_in-moved gs) ∙ sym (map-append (moved_port move) (operands_of g) (operands_in gs))

  pub sources_of-moved : (a : PlainAssign) → sources_of (moved_assign move a) ≡ map (moved_port move) (sources_of a)
  sources_of-moved a = ap (λ list. moved_port move a.source ∷ list) (operands_of-moved a.guard)

  mutual
    pub ranges_of-moved : (g : PlainGuard) → ranges_of (moved_guard move g) ≡ ranges_of g
    ranges_of-moved Always = refl
    ranges_of-moved (Atom p) = refl
    ranges_of-moved (Negation g) = ranges_of-moved g
    ranges_of-moved (All gs) = ranges_in-moved gs
    ranges_of-moved (Any gs) = ranges_in-moved gs
    ranges_of-moved (Compared c a b) = refl
    ranges_of-moved (Within from to) = refl

    ranges_in-moved : (gs : PlainGuards) → ranges_in (moved_guards move gs) ≡ ranges_in gs
    ranges_in-moved no_guards = refl
    ranges_in-moved (a_guard g gs) = ap₂ ◌++◌ (ranges_of-moved g) (ranges_in-moved gs)

  mutual
    guard_nodes-moved : (g : PlainGuard) → guard_nodes (moved_guard move g) ≡ guard_nodes g
    guard_nodes-moved Always = refl
    guard_nodes-moved (Atom p) = refl
    guard_nodes-moved (Negation g) = ap (λ n. 1 + n) (guard_nodes-moved g)
    guard_nodes-moved (All gs) = ap (λ n. 1 + n) (nodes_in-moved gs)
    guard_nodes-moved (Any gs) = ap (λ n. 1 + n) (nodes_in-moved gs)
    guard_nodes-moved (Compared c a b) = refl
    guard_nodes-moved (Within from to) = refl

    nodes_in-moved : (gs : PlainGuards) → nodes_in (moved_guards move gs) ≡ nodes_in gs
    nodes_in-moved no_guards = refl
    nodes_in-moved (a_guard g gs) = ap₂ ◌+◌ (guard_nodes-moved g) (nodes_in-moved gs)

  -- SIZES
  pub assigns_size-moved : (list : List PlainAssign) → assigns_size (map (moved_assign move) list) ≡ assigns_size list
  assigns_size-moved [] = refl
  assigns_size-moved (a ∷ rest) = ap₂ (λ n m. 1 + n + m) (guard_nodes-moved a.guard) (assigns_size-moved rest)

  pub groups_size-moved : (list : List PlainGroup) → groups_size (map (moved_group move) list) ≡ groups_size list
  groups_size-moved [] = refl
  groups_size-moved (g ∷ rest) = ap₂ (λ n m. 1 + n + m) (assigns_size-moved g.assigns) (groups_size-moved rest)

  -- GROUPS
  pub moved_group_at : (list : List PlainGroup) (g : ℕ) → get_or (map (moved_group move) list) g no_group ≡ moved_group move (get_or list g no_group)
  moved_group_at [] g = refl
  moved_group_at (x ∷ xs) zero = refl
  moved_group_at (x ∷ xs) (suc g) = moved_group_at xs g

  pub some_moved : (test other : PortRef → Bool) (list : List PlainAssign) → ((a : PlainAssign) → In list a → other (move a.target) ≡ test a.target) → some_target other (map (moved_assign move) list) ≡ some_target test list
  some_moved test other [] same = refl
  some_moved test other (a ∷ rest) same = ap₂ ◌||◌ (same a (inl refl)) (some_moved test other rest (λ b i. same b (inr i)))

  pub some_target-moved : (test other : PortRef → Bool) → ((p : PortRef) → other (move p) ≡ test p) → (list : List PlainAssign) → some_target other (map (moved_assign move) list) ≡ some_target test list
  some_target-moved test other same list = some_moved test other list (λ a i. same a.target)

  -- STATEMENTS
  two_visited : (xs ys us vs : List Visited) → us ≡ map moved_visited xs → vs ≡ map moved_visited ys → us ++ vs ≡ map moved_visited (xs ++ ys)
  two_visited xs ys us vs e h = ap₂ ◌++◌ e h ∙ sym (map-append moved_visited xs ys)

  mutual
    visit_parts-moved : (context : Context) (form : PlainForm) → visit_parts context (moved_form move form) ≡ map moved_visited (visit_parts context form)
    visit_parts-moved context Empty = refl
    visit_parts-moved context (Enable g) = refl
    visit_parts-moved context (Seq parts) = visit_all-moved (below_dynamic context) parts
    visit_parts-moved context (Par arms) = visit_all-moved (below_dynamic context) arms
    visit_parts-moved context (If test comb a b) = two_visited (visit (below_dynamic context) a) (visit (below_dynamic context) b) _ _ (visit-moved (below_dynamic context) a) (visit-moved (below_dynamic context) b)
    visit_parts-moved context (While test comb a) = visit-moved (below_dynamic context) a
    visit_parts-moved context (Repeat count a) = visit-moved (below_dynamic context) a
    visit_parts-moved context (StaticSeq written parts) = visit_all-moved InStatic parts
    visit_parts-moved context (StaticPar written arms) = visit_all-moved InStatic arms
    visit_parts-moved context (StaticIf written test a b) = two_visited (visit Branch a) (visit Branch b) _ _ (visit-moved Branch a) (visit-moved Branch b)
    visit_parts-moved context (StaticRepeat written count a) = visit-moved InStatic a
    visit_parts-moved context (Timed k) = refl

    pub visit-moved : (context : Context) (s : PlainStatement) → visit context (moved_statement move s) ≡ map moved_visited (visit context s)
    visit-moved context (Placed form place) = ap (λ z. record { context = context; form = moved_form move form; place = place } ∷ z) (visit_parts-moved context form)

    visit_all-moved : (context : Context) (ss : PlainStatements) → visit_all context (moved_statements move ss) ≡ map moved_visited (visit_all context ss)
    visit_all-moved context no_statements = refl
    visit_all-moved context (a_statement s ss) = two_visited (visit context s) (visit_all context ss) _ _ (visit-moved context s) (visit_all-moved context ss)

  mutual
    groups_in-moved : (form : PlainForm) → groups_in (moved_form move form) ≡ groups_in form
    groups_in-moved Empty = refl
    groups_in-moved (Enable g) = refl
    groups_in-moved (Seq parts) = groups_in_all-moved parts
    groups_in-moved (Par arms) = groups_in_all-moved arms
    groups_in-moved (If test comb a b) = ap₂ (λ x y. with_comb comb (x ++ y)) (groups_of-moved a) (groups_of-moved b)
    groups_in-moved (While test comb a) = ap (with_comb comb) (groups_of-moved a)
    groups_in-moved (Repeat count a) = groups_of-moved a
    groups_in-moved (StaticSeq written parts) = groups_in_all-moved parts
    groups_in-moved (StaticPar written arms) = groups_in_all-moved arms
    groups_in-moved (StaticIf written test a b) = ap₂ ◌++◌ (groups_of-moved a) (groups_of-moved b)
    groups_in-moved (StaticRepeat written count a) = groups_of-moved a
    groups_in-moved (Timed k) = refl

    pub groups_of-moved : (s : PlainStatement) → groups_of (moved_statement move s) ≡ groups_of s
    groups_of-moved (Placed form place) = groups_in-moved form

    groups_in_all-moved : (ss : PlainStatements) → groups_in_all (moved_statements move ss) ≡ groups_in_all ss
    groups_in_all-moved no_statements = refl
    groups_in_all-moved (a_statement s ss) = ap₂ ◌++◌ (groups_of-moved s) (groups_in_all-moved ss)

  pub test_in-moved : (form : PlainForm) → test_in (moved_form move form) ≡ option_map (moved_port move) (test_in form)
  test_in-moved Empty = refl
  test_in-moved (Enable g) = refl
  test_in-moved (Seq parts) = refl
  test_in-moved (Par arms) = refl
  test_in-moved (If test comb a b) = refl
  test_in-moved (While test comb a) = refl
  test_in-moved (Repeat count a) = refl
  test_in-moved (StaticSeq written parts) = refl
  test_in-moved (StaticPar written arms) = refl
  test_in-moved (StaticIf written test a b) = refl
  test_in-moved (StaticRepeat written count a) = refl
  test_in-moved (Timed k) = refl

  tests_in-moved : (vs : List Visited) → flat_map (λ (v : Visited). option_list (test_in v.form)) (map moved_visited vs) ≡ map (moved_port move) (flat_map (λ (v : Visited). option_list (test_in v.form)) vs)
  tests_in-moved [] = refl
  tests_in-moved (v ∷ vs) =
      ap₂ ◌++◌ (ap option_list (test_in-moved v.form) ∙ one (test_in v.form)) (tests_in-moved vs)
      ∙ sym (map-append (moved_port move) (option_list (test_in v.form)) (flat_map (λ (w : Visited). option_list (test_in w.form)) vs))
    where
      one : (o : Option PlacedPort) → option_list (option_map (moved_port move) o) ≡ map (moved_port move) (option_list o)
      one None = refl
      one (Some p) = refl

  pub tests_of-moved : (s : PlainStatement) → tests_of (moved_statement move s) ≡ map (moved_port move) (tests_of s)
  tests_of-moved s = ap (flat_map (λ (v : Visited). option_list (test_in v.form))) (visit-moved Dynamic s) ∙ tests_in-moved (visit Dynamic s)

  list_of-moved : (ss : PlainStatements) → list_of (moved_statements move ss) ≡ map (moved_statement move) (list_of ss)
  list_of-moved no_statements = refl
  list_of-moved (a_statement s ss) = ap (λ z. moved_statement move s ∷ z) (list_of-moved ss)

  pub arms_of-moved : (form : PlainForm) → arms_of (moved_form move form) ≡ map (moved_statement move) (arms_of form)
  arms_of-moved Empty = refl
  arms_of-moved (Enable g) = refl
  arms_of-moved (Seq parts) = refl
  arms_of-moved (Par arms) = list_of-moved arms
  arms_of-moved (If test comb a b) = refl
  arms_of-moved (While test comb a) = refl
  arms_of-moved (Repeat count a) = refl
  arms_of-moved (StaticSeq written parts) = refl
  arms_of-moved (StaticPar written arms) = list_of-moved arms
  arms_of-moved (StaticIf written test a b) = refl
  arms_of-moved (StaticRepeat written count a) = refl
  arms_of-moved (Timed k) = refl

  enabled_group-moved : (form : PlainForm) → enabled_group (moved_form move form) ≡ enabled_group form
  enabled_group-moved Empty = refl
  enabled_group-moved (Enable g) = refl
  enabled_group-moved (Seq parts) = refl
  enabled_group-moved (Par arms) = refl
  enabled_group-moved (If test comb a b) = refl
  enabled_group-moved (While test comb a) = refl
  enabled_group-moved (Repeat count a) = refl
  enabled_group-moved (StaticSeq written parts) = refl
  enabled_group-moved (StaticPar written arms) = refl
  enabled_group-moved (StaticIf written test a b) = refl
  enabled_group-moved (StaticRepeat written count a) = refl
  enabled_group-moved (Timed k) = refl

  enabled_all-moved : (vs : List Visited) → flat_map (λ (v : Visited). enabled_group v.form) (map moved_visited vs) ≡ flat_map (λ (v : Visited). enabled_group v.form) vs
  enabled_all-moved [] = refl
  enabled_all-moved (v ∷ vs) = ap₂ ◌++◌ (enabled_group-moved v.form) (enabled_all-moved vs)

  pub enabled_in-moved : (s : PlainStatement) → enabled_in (moved_statement move s) ≡ enabled_in s
  enabled_in-moved s = ap (flat_map (λ (v : Visited). enabled_group v.form)) (visit-moved Dynamic s) ∙ enabled_all-moved (visit Dynamic s)

  -- SHAPES
  pub is_static-moved : (form : PlainForm) → is_static (moved_form move form) ≡ is_static form
  is_static-moved Empty = refl
  is_static-moved (Enable g) = refl
  is_static-moved (Seq parts) = refl
  is_static-moved (Par arms) = refl
  is_static-moved (If test comb a b) = refl
  is_static-moved (While test comb a) = refl
  is_static-moved (Repeat count a) = refl
  is_static-moved (StaticSeq written parts) = refl
  is_static-moved (StaticPar written arms) = refl
  is_static-moved (StaticIf written test a b) = refl
  is_static-moved (StaticRepeat written count a) = refl
  is_static-moved (Timed k) = refl

  pub written_length-moved : (form : PlainForm) → written_length (moved_form move form) ≡ written_length form
  written_length-moved Empty = refl
  written_length-moved (Enable g) = refl
  written_length-moved (Seq parts) = refl
  written_length-moved (Par arms) = refl
  written_length-moved (If test comb a b) = refl
  written_length-moved (While test comb a) = refl
  written_length-moved (Repeat count a) = refl
  written_length-moved (StaticSeq written parts) = refl
  written_length-moved (StaticPar written arms) = refl
  written_length-moved (StaticIf written test a b) = refl
  written_length-moved (StaticRepeat written count a) = refl
  written_length-moved (Timed k) = refl

  pub count_in-moved : (form : PlainForm) → count_in (moved_form move form) ≡ count_in form
  count_in-moved Empty = refl
  count_in-moved (Enable g) = refl
  count_in-moved (Seq parts) = refl
  count_in-moved (Par arms) = refl
  count_in-moved (If test comb a b) = refl
  count_in-moved (While test comb a) = refl
  count_in-moved (Repeat count a) = refl
  count_in-moved (StaticSeq written parts) = refl
  count_in-moved (StaticPar written arms) = refl
  count_in-moved (StaticIf written test a b) = refl
  count_in-moved (StaticRepeat written count a) = refl
  count_in-moved (Timed k) = refl

  -- and what may stand in static control, also by where the word static stands at static invokes
  module _ (part other : PlainComponent) (lengths : (g : ℕ) → group_length other g ≡ group_length part g) (words : (k : ℕ) → (is_written (slice_get other.invokes k) ≡ is_written (slice_get part.invokes k)) × (is_timed (slice_get other.invokes k) ≡ is_timed (slice_get part.invokes k))) where
    pub may_stand-moved : (context : Context) (form : PlainForm) → may_stand other context (moved_form move form) ≡ may_stand part context form
    may_stand-moved context Empty = refl
    may_stand-moved context (Enable g) = ap is_some (lengths g)
    may_stand-moved context (Seq parts) = refl
    may_stand-moved context (Par arms) = refl
    may_stand-moved context (If test comb a b) = refl
    may_stand-moved context (While test comb a) = refl
    may_stand-moved context (Repeat count a) = refl
    may_stand-moved context (StaticSeq written parts) = refl
    may_stand-moved context (StaticPar written arms) = refl
    may_stand-moved context (StaticIf written test a b) = refl
    may_stand-moved context (StaticRepeat written count a) = refl
    may_stand-moved context (Timed k) = (words k).0

    mutual
      pub form_has_length-moved : (context : Context) (form : PlainForm) → form_has_length other context (moved_form move form) ≡ form_has_length part context form
      form_has_length-moved context Empty = refl
      form_has_length-moved context (Enable g) = ap is_some (lengths g)
      form_has_length-moved context (Seq parts) = refl
      form_has_length-moved context (Par arms) = refl
      form_has_length-moved context (If test comb a b) = refl
      form_has_length-moved context (While test comb a) = refl
      form_has_length-moved context (Repeat count a) = refl
      form_has_length-moved context (StaticSeq written parts) = all_have_length-moved parts
      form_has_length-moved context (StaticPar written arms) = all_have_length-moved arms
      form_has_length-moved context (StaticIf written test a b) = ap₂ ◌&&◌ (has_length-moved Branch a) (has_length-moved Branch b)
      form_has_length-moved context (StaticRepeat written count a) = has_length-moved InStatic a
      form_has_length-moved context (Timed k) = (words k).1

      pub has_length-moved : (context : Context) (s : PlainStatement) → has_length other context (moved_statement move s) ≡ has_length part context s
      has_length-moved context (Placed form place) = form_has_length-moved context form

      all_have_length-moved : (ss : PlainStatements) → all_have_length other (moved_statements move ss) ≡ all_have_length part ss
      all_have_length-moved no_statements = refl
      all_have_length-moved (a_statement s ss) = ap₂ ◌&&◌ (has_length-moved InStatic s) (all_have_length-moved ss)

  -- where the groups have their lengths
  module _ (part other : PlainComponent) (lengths : (g : ℕ) → group_length other g ≡ group_length part g) where
    mutual
      pub form_occurrences-moved : (form : PlainForm) → form_occurrences other (moved_form move form) ≡ form_occurrences part form
      form_occurrences-moved Empty = refl
      form_occurrences-moved (Enable g) = ap (λ o. one_if (is_some o)) (lengths g)
      form_occurrences-moved (Seq parts) = refl
      form_occurrences-moved (Par arms) = refl
      form_occurrences-moved (If test comb a b) = refl
      form_occurrences-moved (While test comb a) = refl
      form_occurrences-moved (Repeat count a) = refl
      form_occurrences-moved (StaticSeq written parts) = occurrences_in-moved parts
      form_occurrences-moved (StaticPar written arms) = occurrences_in-moved arms
      form_occurrences-moved (StaticIf written test a b) = ap₂ ◌+◌ (occurrences-moved a) (occurrences-moved b)
      form_occurrences-moved (StaticRepeat written count a) = occurrences-moved a
      form_occurrences-moved (Timed k) = refl

      occurrences-moved : (s : PlainStatement) → occurrences other (moved_statement move s) ≡ occurrences part s
      occurrences-moved (Placed form place) = form_occurrences-moved form

      occurrences_in-moved : (ss : PlainStatements) → occurrences_in other (moved_statements move ss) ≡ occurrences_in part ss
      occurrences_in-moved no_statements = refl
      occurrences_in-moved (a_statement s ss) = ap₂ ◌+◌ (occurrences-moved s) (occurrences_in-moved ss)

    is_island_form-moved : (form : PlainForm) → is_island_form other (moved_form move form) ≡ is_island_form part form
    is_island_form-moved Empty = refl
    is_island_form-moved (Enable g) = ap is_some (lengths g)
    is_island_form-moved (Seq parts) = refl
    is_island_form-moved (Par arms) = refl
    is_island_form-moved (If test comb a b) = refl
    is_island_form-moved (While test comb a) = refl
    is_island_form-moved (Repeat count a) = refl
    is_island_form-moved (StaticSeq written parts) = refl
    is_island_form-moved (StaticPar written arms) = refl
    is_island_form-moved (StaticIf written test a b) = refl
    is_island_form-moved (StaticRepeat written count a) = refl
    is_island_form-moved (Timed k) = refl

    pub is_island-moved : (v : Visited) → is_island other (moved_visited v) ≡ is_island part v
    is_island-moved v = ap (λ b. is_dynamic v.context && b) (is_island_form-moved v.form)

    pub occurrences_of-moved : (vs : List Visited) → occurrences_of other (map moved_visited vs) ≡ occurrences_of part vs
    occurrences_of-moved [] = refl
    occurrences_of-moved (v ∷ vs) = ap₂ ◌+◌ (ap (λ b. island_occurrences other b (moved_form move v.form)) (is_island-moved v) ∙ one (is_island part v)) (occurrences_of-moved vs)
      where
        one : (b : Bool) → island_occurrences other b (moved_form move v.form) ≡ island_occurrences part b v.form
        one true = form_occurrences-moved v.form
        one false = refl
