-- LIMITS: counts are the same apart from places.
use Rattle.std.proofs.Common.{◌≡◌, ℕ, ◌+◌, max, true, false, Bool, List, [], ◌∷◌, ◌++◌, length, map, None, refl, sym, ap, ap₂, ◌∙◌, arith}
use Rattle.std.proofs.lemmas.List.{length-map}
use Rattle.cx_text.specs.declared.places.Place.{Place}
use Rattle.cx_prim.specs.Rows.{Row}
use Rattle.cx_meaning.specs.Designs.{PlainAssign, PlainInvoke, PlainGroup, PlainCell, PlainComponent, PlainForm}
use Rattle.cx_meaning.specs.Instances.{Instance, Node, Cells, no_cells, a_primitive, an_instance, part_of}
use Rattle.cx_rules.specs.Items.{guard_nodes, Dynamic, Visited, visit, statements_in}
use Rattle.cx_rules.specs.Invokes.{form_lasts}
use Rattle.cx_rules.specs.Counts.{needed, is_one_of, group_if, needed_from, needed_groups, Inners, inner_at, cell_count_of, cells_in, always_in, group_count_of, copy_count_of, groups_for, copies_for, statements_counted, form_counted, is_any_island, occurrences_counted, inner, if_static, inners_of, counted_cells, counted_groups, size_with, occurrences_at, unless_static, weight_within, counted_weight, instances_within, counted_instances, depth_within, counted_depth}
use Rattle.cx_rules.specs.Sizes.{assigns_size, groups_size, shape_words, words_below, words_in}
use Rattle.cx_rules.specs.LimitRule.{count_in, is_too_many, first_limit, statement_limit, BreaksStatement}
use Rattle.cx_rewrites.specs.Places.{unplaced_assign, unplaced_invoke, unplaced_group, unplaced_cell, unplaced_visited, unplaced_form, SamePart}
use Rattle.cx_rewrites.proofs.PlaceLemmas.{SameTree, SameCells, same_parts}
use Rattle.cx_rewrites.proofs.PlaceRuns.{same_tree_itself, same_part_itself}
use Rattle.cx_rewrites.proofs.PlacePorts.{guard_nodes-unplaced}
use Rattle.cx_rewrites.proofs.PlaceLeads.{visit-unplaced, groups_is}
use Rattle.cx_rewrites.proofs.PlaceShapes.{count_in-unplaced}
use Rattle.cx_rewrites.proofs.PlaceInvokes.{captures_are, form_lasts-unplaced, form_counted-unplaced, is_any_island-unplaced, occurrences_counted-unplaced, statements_counted-unplaced}
use Rattle.cx_rewrites.proofs.PlaceRules.{ByStatement}

assigns_size-unplaced : (list : List PlainAssign) → assigns_size (map unplaced_assign list) ≡ assigns_size list
assigns_size-unplaced [] = refl
assigns_size-unplaced (a ∷ rest) = ap (λ n. 1 + n + assigns_size (map unplaced_assign rest)) (guard_nodes-unplaced a.guard) ∙ ap (λ n. 1 + guard_nodes a.guard + n) (assigns_size-unplaced rest)

groups_size-unplaced : (list : List PlainGroup) → groups_size (map unplaced_group list) ≡ groups_size list
groups_size-unplaced [] = refl
groups_size-unplaced (g ∷ rest) = ap (λ n. 1 + n + groups_size (map unplaced_group rest)) (assigns_size-unplaced g.assigns) ∙ ap (λ n. 1 + assigns_size g.assigns + n) (groups_size-unplaced rest)

-- lists that are the same by a map are as long
as_long : {A B : Type 0} (f : A → B) (list other : List A) → map f list ≡ map f other → length list ≡ length other
as_long f list other e = sym (length-map list f) ∙ ap length e ∙ length-map other f

cells_in-unplaced : (cells : List PlainCell) (below : Inners) → cells_in (map unplaced_cell cells) below ≡ cells_in cells below
cells_in-unplaced [] below = refl
cells_in-unplaced (c ∷ cs) [] = ap (λ n. 1 + n) (cells_in-unplaced cs [])
cells_in-unplaced (c ∷ cs) (x ∷ below) = ap (λ n. cell_count_of x + n) (cells_in-unplaced cs below)

groups_for-unplaced : (below : Inners) (vs : List PlainInvoke) → groups_for below (map unplaced_invoke vs) ≡ groups_for below vs
groups_for-unplaced below [] = refl
groups_for-unplaced below (v ∷ vs) = ap (λ n. group_count_of (inner_at below v.cell) + n) (groups_for-unplaced below vs)

copies_for-unplaced : (below : Inners) (vs : List PlainInvoke) → copies_for below (map unplaced_invoke vs) ≡ copies_for below vs
copies_for-unplaced below [] = refl
copies_for-unplaced below (v ∷ vs) = ap (λ n. copy_count_of (inner_at below v.cell) + n) (copies_for-unplaced below vs)

needed_from-unplaced : (gs : List ℕ) (g : ℕ) (list : List PlainGroup) → needed_from gs g (map unplaced_group list) ≡ map unplaced_group (needed_from gs g list)
needed_from-unplaced gs g [] = refl
needed_from-unplaced gs g (x ∷ xs) = ap (group_if (is_one_of g gs) (unplaced_group x)) (needed_from-unplaced gs (1 + g) xs) ∙ by (is_one_of g gs)
  where
    by : (b : Bool) → group_if b (unplaced_group x) (map unplaced_group (needed_from gs (1 + g) xs)) ≡ map unplaced_group (group_if b x (needed_from gs (1 + g) xs))
    by true = refl
    by false = refl

module _ (part other : PlainComponent) (same : SamePart part other) where
  pub groups_count-same : length part.groups ≡ length other.groups
  groups_count-same = as_long unplaced_group part.groups other.groups same.groups

  pub statements_in-same : map unplaced_visited (statements_in part) ≡ map unplaced_visited (statements_in other)
  statements_in-same = sym (visit-unplaced Dynamic part.control) ∙ ap (visit Dynamic) same.control ∙ visit-unplaced Dynamic other.control

  -- WITH STATIC COMPONENTS WRITTEN OUT, where the same stands at the cells
  module _ (below : Inners) where
    cells_in-same : cells_in part.cells below ≡ cells_in other.cells below
    cells_in-same = sym (cells_in-unplaced part.cells below) ∙ ap (λ cells. cells_in cells below) same.cells ∙ cells_in-unplaced other.cells below

    pub groups_for-same : groups_for below part.invokes ≡ groups_for below other.invokes
    groups_for-same = sym (groups_for-unplaced below part.invokes) ∙ ap (groups_for below) same.invokes ∙ groups_for-unplaced below other.invokes

    copies_for-same : copies_for below part.invokes ≡ copies_for below other.invokes
    copies_for-same = sym (copies_for-unplaced below part.invokes) ∙ ap (copies_for below) same.invokes ∙ copies_for-unplaced below other.invokes

    needed_groups-same : map unplaced_group (needed_groups part) ≡ map unplaced_group (needed_groups other)
    needed_groups-same =
        sym (needed_from-unplaced (needed part) 0 part.groups) ∙ ap₂ (λ gs list. needed_from gs 0 list) needed-same same.groups ∙ needed_from-unplaced (needed other) 0 other.groups
      where
        needed-same : needed part ≡ needed other
        needed-same = ap₂ ◌++◌ (groups_is part other same part.control other.control same.control) (captures_are part other same part.control other.control same.control)

    always_size-same : assigns_size part.always ≡ assigns_size other.always
    always_size-same = sym (assigns_size-unplaced part.always) ∙ ap assigns_size same.always ∙ assigns_size-unplaced other.always

    groups_size-same : groups_size part.groups ≡ groups_size other.groups
    groups_size-same = sym (groups_size-unplaced part.groups) ∙ ap groups_size same.groups ∙ groups_size-unplaced other.groups

    statements-same : statements_counted part below (statements_in part) ≡ statements_counted other below (statements_in other)
    statements-same =
        sym (statements_counted-unplaced part other same below (statements_in part)) ∙ ap (statements_counted other below) statements_in-same
        ∙ statements_counted-unplaced other other (same_part_itself other) below (statements_in other)

    occurrences-same : occurrences_counted part below (statements_in part) ≡ occurrences_counted other below (statements_in other)
    occurrences-same =
        sym (occurrences_counted-unplaced part other same below (statements_in part)) ∙ ap (occurrences_counted other below) statements_in-same
        ∙ occurrences_counted-unplaced other other (same_part_itself other) below (statements_in other)

    inner-same : inner part below ≡ inner other below
    inner-same =
        let cells : cells_in part.cells below + length part.outputs ≡ cells_in other.cells below + length other.outputs = ap₂ ◌+◌ cells_in-same (ap length same.outputs) in
        let always : assigns_size part.always + always_in below ≡ assigns_size other.always + always_in below = ap (λ n. n + always_in below) always_size-same in
        let groups : length (needed_groups part) + groups_for below part.invokes ≡ length (needed_groups other) + groups_for below other.invokes =
        ap₂ ◌+◌ (as_long unplaced_group (needed_groups part) (needed_groups other) needed_groups-same) groups_for-same in
        let copies : groups_size (needed_groups part) + copies_for below part.invokes ≡ groups_size (needed_groups other) + copies_for below other.invokes =
        ap₂ ◌+◌ (sym (groups_size-unplaced (needed_groups part)) ∙ ap groups_size needed_groups-same ∙ groups_size-unplaced (needed_groups other)) copies_for-same in
        let statements = statements-same in
        let occurrences = occurrences-same in
        cc

    size_with-same : size_with part below ≡ size_with other below
    size_with-same =
        let inputs : length part.inputs ≡ length other.inputs = ap length same.inputs in
        let outputs : length part.outputs ≡ length other.outputs = ap length same.outputs in
        let cells = cells_in-same in
        let groups = groups_size-same in
        let copies = copies_for-same in
        let always = always_size-same in
        let statements = statements-same in
        let occurrences = occurrences-same in
        omega (arith, inputs, outputs, cells, groups, copies, always, statements, occurrences)

-- what stands at the cells
inners_of-same : (cells more : Cells) → SameCells cells more → inners_of cells ≡ inners_of more
inners_of-same no_cells no_cells h = refl
inners_of-same no_cells (a_primitive twin more) h = absurd h
inners_of-same no_cells (an_instance twin more) h = absurd h
inners_of-same (a_primitive row rest) no_cells h = absurd h
inners_of-same (a_primitive row rest) (a_primitive twin more) (e, h) = ap (λ list. None ∷ list) (inners_of-same rest more h)
inners_of-same (a_primitive row rest) (an_instance twin more) h = absurd h
inners_of-same (an_instance child rest) no_cells h = absurd h
inners_of-same (an_instance child rest) (a_primitive twin more) h = absurd h
inners_of-same (an_instance (Node part cells) rest) (an_instance (Node other others) more) ((h, hs), t) =
    ap₂ ◌∷◌ (ap₂ if_static h.latency (inner-same part other h (inners_of cells) ∙ ap (inner other) (inners_of-same cells others hs))) (inners_of-same rest more t)

pub counted_cells-same : (i j : Instance) → SameTree i j → counted_cells i ≡ counted_cells j
counted_cells-same (Node part cells) (Node other more) (h, hs) = cells_in-same part other h (inners_of cells) ∙ ap (cells_in other.cells) (inners_of-same cells more hs)

pub counted_groups-same : (i j : Instance) → SameTree i j → counted_groups i ≡ counted_groups j
counted_groups-same (Node part cells) (Node other more) (h, hs) =
    ap₂ ◌+◌ (groups_count-same part other h) (groups_for-same part other h (inners_of cells) ∙ ap (λ below. groups_for below other.invokes) (inners_of-same cells more hs))

size-same : (part other : PlainComponent) → SamePart part other → (cells more : Cells) → SameCells cells more → size_with part (inners_of cells) ≡ size_with other (inners_of more)
size-same part other h cells more hs = size_with-same part other h (inners_of cells) ∙ ap (size_with other) (inners_of-same cells more hs)

-- OVER THE TREE
weight_within-same : (cells more : Cells) → SameCells cells more → weight_within cells ≡ weight_within more
weight_within-same no_cells no_cells h = refl
weight_within-same no_cells (a_primitive twin more) h = absurd h
weight_within-same no_cells (an_instance twin more) h = absurd h
weight_within-same (a_primitive row rest) no_cells h = absurd h
weight_within-same (a_primitive row rest) (a_primitive twin more) (e, h) = weight_within-same rest more h
weight_within-same (a_primitive row rest) (an_instance twin more) h = absurd h
weight_within-same (an_instance child rest) no_cells h = absurd h
weight_within-same (an_instance child rest) (a_primitive twin more) h = absurd h
weight_within-same (an_instance (Node part cells) rest) (an_instance (Node other others) more) ((h, hs), t) =
    ap₂ ◌+◌ (ap₂ ◌+◌ (ap₂ unless_static h.latency (ap (λ n. n + 1) (size-same part other h cells others hs))) (weight_within-same cells others hs)) (weight_within-same rest more t)

pub counted_weight-same : (i j : Instance) → SameTree i j → counted_weight i ≡ counted_weight j
counted_weight-same (Node part cells) (Node other more) (h, hs) = ap₂ (λ m n. m + 1 + n) (size-same part other h cells more hs) (weight_within-same cells more hs)

instances_within-same : (cells more : Cells) → SameCells cells more → instances_within cells ≡ instances_within more
instances_within-same no_cells no_cells h = refl
instances_within-same no_cells (a_primitive twin more) h = absurd h
instances_within-same no_cells (an_instance twin more) h = absurd h
instances_within-same (a_primitive row rest) no_cells h = absurd h
instances_within-same (a_primitive row rest) (a_primitive twin more) (e, h) = instances_within-same rest more h
instances_within-same (a_primitive row rest) (an_instance twin more) h = absurd h
instances_within-same (an_instance child rest) no_cells h = absurd h
instances_within-same (an_instance child rest) (a_primitive twin more) h = absurd h
instances_within-same (an_instance (Node part cells) rest) (an_instance (Node other others) more) ((h, hs), t) =
    ap₂ ◌+◌ (ap₂ ◌+◌ (ap (λ latency. unless_static latency 1) h.latency) (instances_within-same cells others hs)) (instances_within-same rest more t)

pub counted_instances-same : (i j : Instance) → SameTree i j → counted_instances i ≡ counted_instances j
counted_instances-same (Node part cells) (Node other more) (h, hs) = ap (λ n. 1 + n) (instances_within-same cells more hs)

depth_within-same : (cells more : Cells) → SameCells cells more → depth_within cells ≡ depth_within more
depth_within-same no_cells no_cells h = refl
depth_within-same no_cells (a_primitive twin more) h = absurd h
depth_within-same no_cells (an_instance twin more) h = absurd h
depth_within-same (a_primitive row rest) no_cells h = absurd h
depth_within-same (a_primitive row rest) (a_primitive twin more) (e, h) = depth_within-same rest more h
depth_within-same (a_primitive row rest) (an_instance twin more) h = absurd h
depth_within-same (an_instance child rest) no_cells h = absurd h
depth_within-same (an_instance child rest) (a_primitive twin more) h = absurd h
depth_within-same (an_instance (Node part cells) rest) (an_instance (Node other others) more) ((h, hs), t) =
    ap₂ max (ap₂ ◌+◌ (ap (λ latency. unless_static latency 1) h.latency) (depth_within-same cells others hs)) (depth_within-same rest more t)

pub counted_depth-same : (i j : Instance) → SameTree i j → counted_depth i ≡ counted_depth j
counted_depth-same (Node part cells) (Node other more) (h, hs) = ap (λ n. 1 + n) (depth_within-same cells more hs)

mutual
  pub words_below-same : (i j : Instance) → SameTree i j → words_below i ≡ words_below j
  words_below-same (Node part cells) (Node other more) (h, hs) = words_in-same cells more hs

  words_in-same : (cells more : Cells) → SameCells cells more → words_in cells ≡ words_in more
  words_in-same no_cells no_cells h = refl
  words_in-same no_cells (a_primitive twin more) h = absurd h
  words_in-same no_cells (an_instance twin more) h = absurd h
  words_in-same (a_primitive row rest) no_cells h = absurd h
  words_in-same (a_primitive row rest) (a_primitive twin more) (e, h) = ap (λ (r : Row). shape_words r.shape + words_in rest) e ∙ ap (λ n. shape_words twin.shape + n) (words_in-same rest more h)
  words_in-same (a_primitive row rest) (an_instance twin more) h = absurd h
  words_in-same (an_instance child rest) no_cells h = absurd h
  words_in-same (an_instance child rest) (a_primitive twin more) h = absurd h
  words_in-same (an_instance child rest) (an_instance twin more) (t, h) = ap (λ n. n + words_in rest) (words_below-same child twin t) ∙ ap (λ n. words_below twin + n) (words_in-same rest more h)

-- AT A STATEMENT
occurrences_at-same : (i j : Instance) → SameTree i j → (form : PlainForm) → occurrences_at j (unplaced_form form) ≡ occurrences_at i form
occurrences_at-same (Node part cells) (Node other more) (h, hs) form =
    ap (λ below. form_counted other below (unplaced_form form)) (sym (inners_of-same cells more hs)) ∙ form_counted-unplaced part other h (inners_of cells) form

statement_limit-unplaced : (i j : Instance) → SameTree i j → (v : Visited) → statement_limit j (unplaced_visited v) ≡ statement_limit i v
statement_limit-unplaced i j t v =
    let same : SamePart (part_of i) (part_of j) = same_parts i j t in
    ap₂ (λ k b. first_limit (is_too_many k) b (occurrences_at j (unplaced_form v.form)) (form_lasts (part_of j) (unplaced_form v.form))) (count_in-unplaced v.form) (is_any_island-unplaced (part_of i) (part_of j) same v)
    ∙ ap₂ (first_limit (is_too_many (count_in v.form)) (is_any_island (part_of i) v)) (occurrences_at-same i j t v.form) (form_lasts-unplaced (part_of i) (part_of j) same v.form)

pub statement_limit_kept : (i j : Instance) → SameTree i j → (v x : Visited) → unplaced_visited v ≡ unplaced_visited x → (place : Place) (name : List ℕ)
    → BreaksStatement i v place name → ByStatement BreaksStatement j x
statement_limit_kept i j t v x e place name (limited, is, told) =
    (_, _, (limited, sym (statement_limit-unplaced j j (same_tree_itself j) x) ∙ ap (statement_limit j) (sym e) ∙ statement_limit-unplaced i j t v ∙ is, (refl, refl)))
