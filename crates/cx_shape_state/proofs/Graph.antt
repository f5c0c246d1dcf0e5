-- The graph of a component: what a cell waits for.
use Rattle.std.proofs.Common.{◌≡◌, ◌+◌, ◌<◌, ℕ, zero, suc, nat_eq, Bool, true, false, cond, List, [], ◌∷◌, Option, Some, None, length, flat_map, get_or, ◌⊎◌, inl, inr, ⊎_elim, refl, sym, ap, ◌∙◌, subst, arith}
use Rattle.std.proofs.lemmas.Bool.{eqb-true, eq-eqb}
use Rattle.cx_text.specs.Members.{In}
use Rattle.cx_meaning.specs.declared.ports.PlacedPort.{PlacedPort}
use Rattle.cx_meaning.specs.Designs.{PlainAssign, PlainGroup, group_at, no_group}
use Rattle.cx_meaning.specs.Instances.{Instance, part_of, cell_count, cells_of}
use Rattle.cx_meaning.specs.Sights as sights
use Rattle.cx_rules.specs.Items.{sources_of}
use Rattle.cx_graphs.specs.Graphs.{Edges, targets_of, IsGraph}
use Rattle.cx_shape_state.specs.declared.basis.Basis.{Basis}
use Rattle.cx_shape_state.specs.declared.basis.Basis.TheVariants as basis
use Rattle.cx_shape_state.specs.Waits.{basis_of, reader_of, waits_on, if_reader, always_waits, group_waits, waits_of, tabled, waits}
use Rattle.cx_shape_state.specs.Joining.{IsWithin}
use Rattle.cx_shape_state.proofs.Cells.{reader_within, basis_within}
use Rattle.cx_graphs.proofs.Marks.{in_left, in_right, in_either}

module _ {A : Type 0} (f : A → List ℕ) where
  in_flat : (xs : List A) (x : A) (n : ℕ) → In xs x → In (f x) n → In (flat_map f xs) n
  in_flat [] x n i j = absurd i
  in_flat (y ∷ xs) x n (inl e) j = in_left (f y) (flat_map f xs) n (subst (λ v. In (f v) n) (sym e) j)
  in_flat (y ∷ xs) x n (inr i) j = in_right (f y) (flat_map f xs) n (in_flat xs x n i j)

  flat_in : (xs : List A) (n : ℕ) → In (flat_map f xs) n → (x : A) × In xs x × In (f x) n
  flat_in [] n i = absurd i
  flat_in (y ∷ xs) n i = ⊎_elim (λ p. (y, inl refl, p)) (λ q. let rest = flat_in xs n q in (rest.0, inr rest.1, rest.2)) (in_either (f y) (flat_map f xs) n i)

-- tables
table_length : (f : ℕ → List ℕ) (n k : ℕ) → length (tabled f n k) ≡ k
table_length f n zero = refl
table_length f n (suc k) = ap suc (table_length f (suc n) k)

table_at : (f : ℕ → List ℕ) (n k c : ℕ) → c < k → targets_of (tabled f n k) c ≡ f (n + c)
table_at f n zero c h = absurd (omega (arith, h))
table_at f n (suc k) zero h = let same : n ≡ n + 0 = omega arith in ap f same
table_at f n (suc k) (suc c) h = let same : suc n + c ≡ n + suc c = omega arith in table_at f (suc n) k c (omega (arith, h)) ∙ ap f same

table_past : (f : ℕ → List ℕ) (n k c m : ℕ) → In (targets_of (tabled f n k) c) m → c < k
table_past f n zero c m i = absurd i
table_past f n (suc k) zero m i = omega arith
table_past f n (suc k) (suc c) m i = let rest = table_past f (suc n) k c m i in omega (arith, rest)

-- what a reader waits for
if_reader_in : (r : Option ℕ) (c m : ℕ) (list : List ℕ) → In (if_reader r c list) m → (r ≡ Some c) × In list m
if_reader_in None c m list i = absurd i
if_reader_in (Some d) c m list i = choice (nat_eq d c) refl i
  where
    choice : (b : Bool) → nat_eq d c ≡ b → In (cond b list []) m → (Some d ≡ Some c) × In list m
    choice true e j = (ap Some (eqb-true d c e), j)
    choice false e j = absurd j

in_if_reader : (r : Option ℕ) (c m : ℕ) (list : List ℕ) → r ≡ Some c → In list m → In (if_reader r c list) m
in_if_reader r c m list e i =
    subst (λ o. In (if_reader o c list) m) (sym e) (subst (λ b. In (cond b list []) m) (sym (eq-eqb c c refl)) i)

module _ (i : Instance) (inputs : Bool) where
  abbrev pub graph : Edges
  graph = waits i inputs

  abbrev always_of : ℕ → List ℕ
  always_of c = flat_map (always_waits i inputs c) (part_of i).always

  abbrev groups_of : ℕ → List ℕ
  groups_of c = flat_map (λ g. flat_map (group_waits i c) g.assigns) (part_of i).groups

  pub graph_length : length graph ≡ cell_count (cells_of i)
  graph_length = table_length (waits_of i inputs) 0 (cell_count (cells_of i))

  pub targets_are : (c : ℕ) → c < cell_count (cells_of i) → targets_of graph c ≡ waits_of i inputs c
  targets_are c h = let same : 0 + c ≡ c = omega arith in table_at (waits_of i inputs) 0 (cell_count (cells_of i)) c h ∙ ap (waits_of i inputs) same

  pub target_within : (c m : ℕ) → In (targets_of graph c) m → c < cell_count (cells_of i)
  target_within c m j = table_past (waits_of i inputs) 0 (cell_count (cells_of i)) c m j

  -- a continuous assignment of an input that a cell reads, and a port that it names
  pub record AlwaysWaits (c m : ℕ) : Type 0 where
    pub assign : PlainAssign
    pub stands : In (part_of i).always assign
    pub reader : reader_of i assign.target ≡ Some c
    pub port : PlacedPort
    pub named : In (sources_of assign) port
    pub waits : In (waits_on c (basis_of i inputs port.port)) m

  -- an assignment of a group
  pub record GroupWaits (c m : ℕ) : Type 0 where
    pub group : PlainGroup
    pub there : In (part_of i).groups group
    pub assign : PlainAssign
    pub stands : In group.assigns assign
    pub reader : reader_of i assign.target ≡ Some c
    pub same : c ≡ m

  pub waits_either : (c m : ℕ) → In (waits_of i inputs c) m → AlwaysWaits c m ⊎ GroupWaits c m
  waits_either c m j =
      ⊎_elim
      (λ a. let one = flat_in (always_waits i inputs c) (part_of i).always m a in
      let read = if_reader_in (reader_of i one.0.target) c m (flat_map (λ p. waits_on c (basis_of i inputs p.port)) (sources_of one.0)) one.2 in
      let name = flat_in (λ p. waits_on c (basis_of i inputs p.port)) (sources_of one.0) m read.1 in
      inl (record { assign = one.0; stands = one.1; reader = read.0; port = name.0; named = name.1; waits = name.2 }))
      (λ g. let one = flat_in (λ x. flat_map (group_waits i c) x.assigns) (part_of i).groups m g in
      let a = flat_in (group_waits i c) one.0.assigns m one.2 in
      let read = if_reader_in (reader_of i a.0.target) c m (c ∷ []) a.2 in
      inr (record { group = one.0; there = one.1; assign = a.0; stands = a.1; reader = read.0; same = ⊎_elim (λ e. e) (λ none. absurd none) read.1 }))
      (in_either (always_of c) (groups_of c) m j)

  pub always_in : (c m : ℕ) → AlwaysWaits c m → In (waits_of i inputs c) m
  always_in c m w =
      in_left (always_of c) (groups_of c) m
      (in_flat (always_waits i inputs c) (part_of i).always w.assign m w.stands
      (in_if_reader (reader_of i w.assign.target) c m (flat_map (λ p. waits_on c (basis_of i inputs p.port)) (sources_of w.assign)) w.reader
      (in_flat (λ p. waits_on c (basis_of i inputs p.port)) (sources_of w.assign) w.port m w.named w.waits)))

  group_in : (groups : List PlainGroup) (g c : ℕ) (a : PlainAssign) → In (get_or groups g no_group).assigns a → reader_of i a.target ≡ Some c
      → In (flat_map (λ x. flat_map (group_waits i c) x.assigns) groups) c
  group_in [] g c a j e = absurd j
  group_in (x ∷ groups) zero c a j e =
      in_left (flat_map (group_waits i c) x.assigns) (flat_map (λ y. flat_map (group_waits i c) y.assigns) groups) c
      (in_flat (group_waits i c) x.assigns a c j (in_if_reader (reader_of i a.target) c c (c ∷ []) e (inl refl)))
  group_in (x ∷ groups) (suc g) c a j e =
      in_right (flat_map (group_waits i c) x.assigns) (flat_map (λ y. flat_map (group_waits i c) y.assigns) groups) c (group_in groups g c a j e)

  -- where a group drives an input that a cell reads, the cell waits on itself
  pub driven_waits : (g c : ℕ) (a : PlainAssign) → In (group_at (part_of i) g).assigns a → reader_of i a.target ≡ Some c → In (waits_of i inputs c) c
  driven_waits g c a j e = in_right (always_of c) (groups_of c) c (group_in (part_of i).groups g c a j e)

  on_within : (bound c m : ℕ) (b : Basis) → c < bound → IsWithin bound b → In (waits_on c b) m → m < bound
  on_within bound c m basis.State h k j = absurd j
  on_within bound c m basis.Nothing h k (inl e) = subst (λ x. x < bound) e h
  on_within bound c m basis.Nothing h k (inr j) = absurd j
  on_within bound c m (basis.Cell d) h k (inl e) = subst (λ x. x < bound) e k
  on_within bound c m (basis.Cell d) h k (inr j) = absurd j

  waits_within : (c m : ℕ) → In (waits_of i inputs c) m → m < cell_count (cells_of i)
  waits_within c m j =
      ⊎_elim
      (λ w. on_within (cell_count (cells_of i)) c m (basis_of i inputs w.port.port) (reader_within i w.assign.target c w.reader) (basis_within i inputs w.port.port) w.waits)
      (λ w. subst (λ x. x < cell_count (cells_of i)) w.same (reader_within i w.assign.target c w.reader))
      (waits_either c m j)

  pub is_graph : IsGraph graph
  is_graph c m j =
      subst (λ k. m < k) (sym graph_length)
      (waits_within c m (subst (λ l. In l m) (targets_are c (target_within c m j)) j))
