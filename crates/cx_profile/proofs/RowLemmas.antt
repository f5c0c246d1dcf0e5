-- The rows of a tree are its entries: their paths, their groups and their instances.
use Rattle.std.proofs.Common.{◌≡◌, ℕ, zero, suc, ◌+◌, Bool, true, false, List, [], ◌∷◌, ◌++◌, length, map, get_or, append_assoc, Option, Some, option_map, refl, sym, ap, ◌∙◌, arith}
use Rattle.std.specs.Prelude.{codes, if◌then◌else◌}
use Rattle.std.specs.List.{slice_get}
use Rattle.std.proofs.lemmas.List.{map-append, length-map}
use Rattle.std.proofs.lemmas.Option.{slice_get-map}
use Rattle.cx_text.proofs.OptionLaws.{same_some}
use Rattle.cx_text.proofs.ListLaws.{front, behind as slice_get-behind}
use Rattle.cx_meaning.specs.Designs.{PlainGroup, PlainCell, no_group, group_at}
use Rattle.cx_meaning.specs.Instances.{Instance, Node, Cells, no_cells, a_primitive, an_instance, part_of, Path, behind, paths_of, paths_below, instance_at, child_at}
use Rattle.cx_rules.specs.Ports.{cell_name}
use Rattle.cx_rules.specs.Sizes.{instances_below}
use Rattle.cx_rules.specs.FullPaths.{names_along}
use Rattle.cx_state.proofs.TreeLemmas.{count_paths}
use Rattle.cx_profiling.specs.Counters.{is_counted, counters_from, ProfileEntry, behind_cell, Shown, shown_here, shown_at_cell, shown_in, shown_below, first_gained, entries_of}
use Rattle.cx_profile.specs.declared.entries.ProfiledGroup.{ProfiledGroup}
use Rattle.cx_profile.specs.Profiles.{group_path}
use Rattle.cx_profile.specs.Rows.{own_rows, first_name, others, names_below, rows_in, rows_below}
use Rattle.cx_meaning.proofs.InstancesLemmas.{here as instance_here}

-- what is told of each entry
abbrev of_entries : {A : Type 0} → (ProfileEntry → A) → List Shown → List A
of_entries f xs = map (λ x. f x.entry) xs

map_entries : {A : Type 0} (f : ProfileEntry → A) (xs : List Shown) → of_entries f xs ≡ map f (map (λ x. x.entry) xs)
map_entries f [] = refl
map_entries f (x ∷ xs) = ap (λ l. f x.entry ∷ l) (map_entries f xs)

at_cell : {A : Type 0} (f : ProfileEntry → A) (c p : ℕ) (xs : List Shown) → of_entries f (shown_at_cell c p xs) ≡ of_entries (λ e. f (behind_cell c e)) xs
at_cell f c p [] = refl
at_cell f c p (x ∷ xs) = ap (λ l. f (behind_cell c x.entry) ∷ l) (at_cell f c (suc p) xs)

same_entries : {A : Type 0} (f g : ProfileEntry → A) → ((e : ProfileEntry) → f e ≡ g e) → (xs : List Shown) → of_entries f xs ≡ of_entries g xs
same_entries f g same [] = refl
same_entries f g same (x ∷ xs) = ap (λ y. y ∷ of_entries f xs) (same x.entry) ∙ ap (λ l. g x.entry ∷ l) (same_entries f g same xs)

-- OWN GROUPS: what is told of a row is told of the entry of its group
own-rows : {A : Type 0} (tell : ProfiledGroup → A) (f : ProfileEntry → A) (cells : Cells) (n : ℕ) (names : List ℕ) (c g h : ℕ) (gs : List PlainGroup)
    → ((m : ℕ) (x : PlainGroup) → slice_get gs m ≡ Some x → tell (record { instance = n; group = g + m; path = names ++ x.name }) ≡ f (record { path = []; group = h + m })) → g ≡ h
    → map tell (own_rows cells n names g gs) ≡ of_entries f (map shown_here (counters_from cells c h gs))
own-rows tell f cells n names c g h [] told same = refl
own-rows tell f cells n names c g h (x ∷ gs) told same =
    by (is_counted cells x) (own-rows tell f cells n names (suc (suc c)) (g + 1) (suc h) gs later (omega arith)) (own-rows tell f cells n names c (g + 1) (suc h) gs later (omega arith))
  where
    later : (m : ℕ) (y : PlainGroup) → slice_get gs m ≡ Some y → tell (record { instance = n; group = g + 1 + m; path = names ++ y.name }) ≡ f (record { path = []; group = suc h + m })
    later m y at =
        ap (λ k. tell (record { instance = n; group = k; path = names ++ y.name })) (let e : g + 1 + m ≡ g + suc m = omega arith in e) ∙ told (suc m) y at
        ∙ ap (λ k. f (record { path = []; group = k })) (let e : h + suc m ≡ suc h + m = omega arith in e)

    here : tell (record { instance = n; group = g; path = names ++ x.name }) ≡ f (record { path = []; group = h })
    here =
        ap (λ k. tell (record { instance = n; group = k; path = names ++ x.name })) (let e : g ≡ g + 0 = omega arith in e) ∙ told 0 x refl
        ∙ ap (λ k. f (record { path = []; group = k })) (let e : h + 0 ≡ h = omega arith in e)

    by : (b : Bool) → map tell (own_rows cells n names (g + 1) gs) ≡ of_entries f (map shown_here (counters_from cells (suc (suc c)) (suc h) gs))
        → map tell (own_rows cells n names (g + 1) gs) ≡ of_entries f (map shown_here (counters_from cells c (suc h) gs))
        → map tell (if b then record { instance = n; group = g; path = names ++ x.name } ∷ own_rows cells n names (g + 1) gs else own_rows cells n names (g + 1) gs)
        ≡ of_entries f (map shown_here (if b then record { group = h; register = c } ∷ counters_from cells (suc (suc c)) (suc h) gs else counters_from cells c (suc h) gs))
    by true counted plain = ap (λ y. y ∷ map tell (own_rows cells n names (g + 1) gs)) here ∙ ap (λ l. f (record { path = []; group = h }) ∷ l) counted
    by false counted plain = plain

no_more : (m : ℕ) → m ≡ 0 + m
no_more m = omega arith

-- PATHS
cell_first : (cs : List PlainCell) → cell_name cs 0 ≡ first_name cs
cell_first [] = refl
cell_first (c ∷ cs) = refl

cell_other : (cs : List PlainCell) (m : ℕ) → cell_name cs (suc m) ≡ cell_name (others cs) m
cell_other [] m = refl
cell_other (c ∷ cs) m = refl

group_named : (gs : List PlainGroup) (m : ℕ) (x : PlainGroup) → slice_get gs m ≡ Some x → (get_or gs m no_group).name ≡ x.name
group_named [] m x e = absurd cc
group_named (g ∷ gs) zero x e = ap (λ (y : PlainGroup). y.name) (same_some g x e)
group_named (g ∷ gs) (suc m) x e = group_named gs m x e

join : (names name point along own : List ℕ) → ((names ++ name) ++ point) ++ (along ++ own) ≡ names ++ (((name ++ point) ++ along) ++ own)
join names name point along own = simp append_assoc

next_name : (i : Instance) (cs : List PlainCell) (c : ℕ) → ((m : ℕ) → cell_name (part_of i).cells (c + m) ≡ cell_name cs m) → (m : ℕ) → cell_name (part_of i).cells (suc c + m) ≡ cell_name (others cs) m
next_name i cs c named m = ap (cell_name (part_of i).cells) (let e : suc c + m ≡ c + suc m = omega arith in e) ∙ named (suc m) ∙ cell_other cs m

next_child : (i : Instance) (c m : ℕ) (path : Path) → instance_at i ((suc c + m) ∷ path) ≡ instance_at i ((c + suc m) ∷ path)
next_child i c m path = ap (λ k. instance_at i (k ∷ path)) (let e : suc c + m ≡ c + suc m = omega arith in e)

mutual
  paths-are : (i : Instance) (n : ℕ) (names : List ℕ) → map (λ (r : ProfiledGroup). r.path) (rows_in i n names) ≡ of_entries (λ e. names ++ group_path i e) (shown_in i)
  paths-are (Node part cells) n names =
      map-append (λ (r : ProfiledGroup). r.path) (own_rows cells n names 0 part.groups) (rows_below cells part.cells (n + 1) names)
      ∙ ap (λ l. l ++ map (λ (r : ProfiledGroup). r.path) (rows_below cells part.cells (n + 1) names))
      (own-rows (λ r. r.path) (λ e. names ++ group_path (Node part cells) e) cells n names (length part.cells) 0 0 part.groups (λ m x at. ap (λ l. names ++ l) (sym (group_named part.groups m x at)) ∙ ap (λ k. names ++ (get_or part.groups k no_group).name) (no_more m)) refl)
      ∙ ap (λ l. of_entries (λ e. names ++ group_path (Node part cells) e) (map shown_here (counters_from cells (length part.cells) 0 part.groups)) ++ l)
      (paths-below (Node part cells) cells part.cells 0 (n + 1) names (λ m. ap (cell_name part.cells) (sym (no_more m))) (λ m path. ap (λ k. child_at cells k path) (sym (no_more m))))
      ∙ sym (map-append (λ x. names ++ group_path (Node part cells) x.entry) (map shown_here (counters_from cells (length part.cells) 0 part.groups)) (shown_below cells 0))

  -- of the cells from c on of an instance
  paths-below : (i : Instance) (rest : Cells) (cs : List PlainCell) (c n : ℕ) (names : List ℕ) → ((m : ℕ) → cell_name (part_of i).cells (c + m) ≡ cell_name cs m)
      → ((m : ℕ) (path : Path) → instance_at i ((c + m) ∷ path) ≡ child_at rest m path)
      → map (λ (r : ProfiledGroup). r.path) (rows_below rest cs n names) ≡ of_entries (λ e. names ++ group_path i e) (shown_below rest c)
  paths-below i no_cells cs c n names named stands = refl
  paths-below i (a_primitive row rest) cs c n names named stands = paths-below i rest (others cs) (suc c) n names (next_name i cs c named) (λ m path. next_child i c m path ∙ stands (suc m) path)
  paths-below i (an_instance child rest) cs c n names named stands =
      map-append (λ (r : ProfiledGroup). r.path) (rows_in child n (names_below names (first_name cs))) (rows_below rest (others cs) (n + instances_below child) names)
      ∙ ap (λ l. l ++ map (λ (r : ProfiledGroup). r.path) (rows_below rest (others cs) (n + instances_below child) names))
      (paths-are child n (names_below names (first_name cs))
      ∙ same_entries (λ e. names_below names (first_name cs) ++ group_path child e) (λ e. names ++ group_path i (behind_cell c e)) (λ e. one e) (shown_in child)
      ∙ sym (at_cell (λ e. names ++ group_path i e) c (first_gained (part_of child)) (shown_in child)))
      ∙ ap (λ l. of_entries (λ e. names ++ group_path i e) (shown_at_cell c (first_gained (part_of child)) (shown_in child)) ++ l)
      (paths-below i rest (others cs) (suc c) (n + instances_below child) names (next_name i cs c named) (λ m path. next_child i c m path ∙ stands (suc m) path))
      ∙ sym (map-append (λ x. names ++ group_path i x.entry) (shown_at_cell c (first_gained (part_of child)) (shown_in child)) (shown_below rest (suc c)))
    where
      here : (path : Path) → instance_at i (c ∷ path) ≡ instance_at child path
      here path = ap (λ m. instance_at i (m ∷ path)) (let e : c ≡ c + 0 = omega arith in e) ∙ stands 0 path

      name : cell_name (part_of i).cells c ≡ first_name cs
      name = ap (cell_name (part_of i).cells) (let e : c ≡ c + 0 = omega arith in e) ∙ named 0 ∙ cell_first cs

      one : (e : ProfileEntry) → names_below names (first_name cs) ++ group_path child e ≡ names ++ group_path i (behind_cell c e)
      one e =
          join names (first_name cs) (codes ".") (names_along child e.path) (group_at (part_of (instance_at child e.path)) e.group).name
          ∙ ap (λ x. names ++ (((x ++ codes ".") ++ names_along child e.path) ++ (group_at (part_of (instance_at child e.path)) e.group).name)) (sym name)
          ∙ ap (λ x. names ++ (((cell_name (part_of i).cells c ++ codes ".") ++ names_along x e.path) ++ (group_at (part_of (instance_at child e.path)) e.group).name)) (sym (here [] ∙ instance_here child))
          ∙ ap (λ x. names ++ (((cell_name (part_of i).cells c ++ codes ".") ++ names_along (instance_at i (c ∷ [])) e.path) ++ (group_at (part_of x) e.group).name)) (sym (here e.path))

-- GROUPS
mutual
  groups-are : (i : Instance) (n : ℕ) (names : List ℕ) → map (λ (r : ProfiledGroup). r.group) (rows_in i n names) ≡ of_entries (λ e. e.group) (shown_in i)
  groups-are (Node part cells) n names =
      map-append (λ (r : ProfiledGroup). r.group) (own_rows cells n names 0 part.groups) (rows_below cells part.cells (n + 1) names)
      ∙ ap (λ l. l ++ map (λ (r : ProfiledGroup). r.group) (rows_below cells part.cells (n + 1) names))
      (own-rows (λ r. r.group) (λ e. e.group) cells n names (length part.cells) 0 0 part.groups (λ m x at. refl) refl)
      ∙ ap (λ l. of_entries (λ e. e.group) (map shown_here (counters_from cells (length part.cells) 0 part.groups)) ++ l) (groups-below cells part.cells 0 (n + 1) names)
      ∙ sym (map-append (λ x. x.entry.group) (map shown_here (counters_from cells (length part.cells) 0 part.groups)) (shown_below cells 0))

  groups-below : (rest : Cells) (cs : List PlainCell) (c n : ℕ) (names : List ℕ) → map (λ (r : ProfiledGroup). r.group) (rows_below rest cs n names) ≡ of_entries (λ e. e.group) (shown_below rest c)
  groups-below no_cells cs c n names = refl
  groups-below (a_primitive row rest) cs c n names = groups-below rest (others cs) (suc c) n names
  groups-below (an_instance child rest) cs c n names =
      map-append (λ (r : ProfiledGroup). r.group) (rows_in child n (names_below names (first_name cs))) (rows_below rest (others cs) (n + instances_below child) names)
      ∙ ap (λ l. l ++ map (λ (r : ProfiledGroup). r.group) (rows_below rest (others cs) (n + instances_below child) names))
      (groups-are child n (names_below names (first_name cs)) ∙ sym (at_cell (λ e. e.group) c (first_gained (part_of child)) (shown_in child)))
      ∙ ap (λ l. of_entries (λ e. e.group) (shown_at_cell c (first_gained (part_of child)) (shown_in child)) ++ l) (groups-below rest (others cs) (suc c) (n + instances_below child) names)
      ∙ sym (map-append (λ x. x.entry.group) (shown_at_cell c (first_gained (part_of child)) (shown_in child)) (shown_below rest (suc c)))

-- INSTANCES: by what is found at numbers from n on
module _ (find : ℕ → Option Path) where
  abbrev Finds : List Path → ℕ → (Path → Path) → Type 0
  Finds paths n f = (m : ℕ) (q : Path) → slice_get paths m ≡ Some q → find (n + m) ≡ Some (f q)

  mutual
    instances-are : (i : Instance) (n : ℕ) (names : List ℕ) (f : Path → Path) → Finds (paths_of i) n f → map (λ (r : ProfiledGroup). find r.instance) (rows_in i n names) ≡ of_entries (λ e. Some (f e.path)) (shown_in i)
    instances-are (Node part cells) n names f finds =
        map-append (λ (r : ProfiledGroup). find r.instance) (own_rows cells n names 0 part.groups) (rows_below cells part.cells (n + 1) names)
        ∙ ap (λ l. l ++ map (λ (r : ProfiledGroup). find r.instance) (rows_below cells part.cells (n + 1) names))
        (own-rows (λ r. find r.instance) (λ e. Some (f e.path)) cells n names (length part.cells) 0 0 part.groups (λ m x at. own) refl)
        ∙ ap (λ l. of_entries (λ e. Some (f e.path)) (map shown_here (counters_from cells (length part.cells) 0 part.groups)) ++ l)
        (instances-below cells part.cells 0 (n + 1) names f (λ m q at. ap find (let e : n + 1 + m ≡ n + suc m = omega arith in e) ∙ finds (suc m) q at))
        ∙ sym (map-append (λ x. Some (f x.entry.path)) (map shown_here (counters_from cells (length part.cells) 0 part.groups)) (shown_below cells 0))
      where
        own : find n ≡ Some (f [])
        own = ap find (let e : n ≡ n + 0 = omega arith in e) ∙ finds 0 [] refl

    instances-below : (rest : Cells) (cs : List PlainCell) (c n : ℕ) (names : List ℕ) (f : Path → Path) → Finds (paths_below rest c) n f
        → map (λ (r : ProfiledGroup). find r.instance) (rows_below rest cs n names) ≡ of_entries (λ e. Some (f e.path)) (shown_below rest c)
    instances-below no_cells cs c n names f finds = refl
    instances-below (a_primitive row rest) cs c n names f finds = instances-below rest (others cs) (suc c) n names f finds
    instances-below (an_instance child rest) cs c n names f finds =
        map-append (λ (r : ProfiledGroup). find r.instance) (rows_in child n (names_below names (first_name cs))) (rows_below rest (others cs) (n + instances_below child) names)
        ∙ ap (λ l. l ++ map (λ (r : ProfiledGroup). find r.instance) (rows_below rest (others cs) (n + instances_below child) names))
        (instances-are child n (names_below names (first_name cs)) (λ q. f (c ∷ q)) inner ∙ sym (at_cell (λ e. Some (f e.path)) c (first_gained (part_of child)) (shown_in child)))
        ∙ ap (λ l. of_entries (λ e. Some (f e.path)) (shown_at_cell c (first_gained (part_of child)) (shown_in child)) ++ l) (instances-below rest (others cs) (suc c) (n + instances_below child) names f outer)
        ∙ sym (map-append (λ x. Some (f x.entry.path)) (shown_at_cell c (first_gained (part_of child)) (shown_in child)) (shown_below rest (suc c)))
      where
        inner : Finds (paths_of child) n (λ q. f (c ∷ q))
        inner m q at = finds m (c ∷ q) (front (behind c (paths_of child)) (paths_below rest (suc c)) m (c ∷ q) (slice_get-map (λ path. c ∷ path) (paths_of child) m ∙ ap (λ o. mapped o) at))
          where
            mapped : Option Path → Option Path
            mapped o = option_map (λ path. c ∷ path) o

        outer : Finds (paths_below rest (suc c)) (n + instances_below child) f
        outer m q at =
            let long : length (behind c (paths_of child)) ≡ instances_below child = length-map (paths_of child) (λ path. c ∷ path) ∙ count_paths child in
            ap find (let e : n + instances_below child + m ≡ n + (length (behind c (paths_of child)) + m) = omega arith in e)
            ∙ finds (length (behind c (paths_of child)) + m) q (slice_get-behind (behind c (paths_of child)) (paths_below rest (suc c)) (length (behind c (paths_of child)) + m) m refl ∙ at)

-- THE ROWS OF A TREE
pub rows-paths : (i : Instance) → map (λ (r : ProfiledGroup). r.path) (rows_in i 0 []) ≡ map (group_path i) (entries_of i)
rows-paths i = paths-are i 0 [] ∙ map_entries (group_path i) (shown_in i)

pub rows-groups : (i : Instance) → map (λ (r : ProfiledGroup). r.group) (rows_in i 0 []) ≡ map (λ (e : ProfileEntry). e.group) (entries_of i)
rows-groups i = groups-are i 0 [] ∙ map_entries (λ e. e.group) (shown_in i)

pub rows-instances : (i : Instance) → map (λ (r : ProfiledGroup). slice_get (paths_of i) r.instance) (rows_in i 0 []) ≡ map (λ (e : ProfileEntry). Some e.path) (entries_of i)
rows-instances i = instances-are (slice_get (paths_of i)) i 0 [] (λ q. q) (λ m q at. ap (slice_get (paths_of i)) (sym (no_more m)) ∙ at) ∙ map_entries (λ e. Some e.path) (shown_in i)
