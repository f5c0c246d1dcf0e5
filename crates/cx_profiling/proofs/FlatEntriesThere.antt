-- THE ENTRIES THAT STAND FOR A GROUP are there: their groups are those of the flat component, or of an instance that stands among its cells.
use Rattle.std.proofs.Common.{◌≡◌, ℕ, suc, ◌+◌, ◌<◌, inl, inr, Bool, true, false, nat_eq, List, [], ◌∷◌, length, map, get_or, Some, refl, sym, ap, ◌∙◌, subst, arith}
use Rattle.std.specs.Prelude.{flat_map, if◌then◌else◌}
use Rattle.std.proofs.lemmas.Bool.{eqb-true}
use Rattle.std.proofs.lemmas.List.{length-append, length-map}
use Rattle.std.proofs.lemmas.List.Folds.{length-flat_map-take}
use Rattle.cx_text.proofs.MemberLaws.{image_in}
use Rattle.cx_meaning.specs.Designs.{PlainInvoke, PlainComponent, PlainDesign}
use Rattle.cx_meaning.specs.Instances.{Instance, Node, Cells, OfInstance, part_of, cells_of, cell_at, child_at, instance_at, Path, tree_of}
use Rattle.cx_meaning.specs.Control.{groups_of}
use Rattle.cx_text.specs.Members.{In}
use Rattle.cx_meaning.proofs.InstancesLemmas.{child_is}
use Rattle.cx_rewrites.specs.Moving.{moved_group}
use Rattle.cx_rules.specs.Counts.{is_one_of}
use Rattle.cx_flattening.specs.Events.{no_invoke, the_invoke}
use Rattle.cx_flattening.specs.Whole.{is_static}
use Rattle.cx_flattening.specs.Flattened.{Kids, kid_at, kept_at, start_of, copy_of, copies, own_port, flat_groups, flat_kids, flat_part}
use Rattle.cx_flattening.specs.FlatDesign.{flat_design}
use Rattle.cx_flattening.specs.Acting.{IsUsed}
use Rattle.cx_flattening.specs.Embedded.{IsEmbedded, IsFlattened}
use Rattle.cx_flattening.proofs.LevelSights.{kid-static, kid-dynamic}
use Rattle.cx_flattening.proofs.Standing.{embedded_static, embedded_dynamic}
use Rattle.cx_flattening.proofs.FlatActs.{copy_within}
use Rattle.cx_flattening.proofs.FlatCounts.{from_flat}
use Rattle.cx_flattening.proofs.FlatLimits.{zero_plus}
use Rattle.cx_flattening.proofs.FlatOrigins.{own_there}
use Rattle.cx_profiling.specs.Counters.{ProfileEntry}
use Rattle.cx_profiling.specs.FlatEntries.{entry_at, invokes_of, placed_entry, entries_in_flat, entries_below, flat_entries}
use Rattle.cx_profiling.proofs.FlatTotals.{entries-child, IsThere, child_there}

-- an entry of the flat instance is there, among whatever cells it stands
abbrev IsStanding : Instance → Path → ℕ → Type 0
IsStanding i [] g = g < length (flat_part i).groups
IsStanding i (x ∷ path) g = (first : ℕ) (host : Cells) → IsEmbedded i first host → g < length (part_of (child_at host (first + x) path)).groups

-- THE GROUPS of a flat component: the component's own, and the copies for each invoke
module _ (kids : Kids) (part : PlainComponent) where
  all_groups : length (flat_groups kids part) ≡ length part.groups + length (flat_map (copies kids part) part.invokes)
  all_groups =
      length-append (map (moved_group (own_port kids part)) part.groups) (flat_map (copies kids part) part.invokes)
      ∙ ap (λ n. n + length (flat_map (copies kids part) part.invokes)) (length-map part.groups (moved_group (own_port kids part)))

  copy_there : (j g : ℕ) (kid : PlainComponent) → j < length part.invokes → kid_at kids (the_invoke part j).cell ≡ Some kid → IsUsed kid g → g < length kid.groups
      → copy_of kids part kid j g < length (flat_groups kids part)
  copy_there j g kid less its used there =
      let all = all_groups in
      let inside = copy_within kids part j g kid its used there in
      let before = length-flat_map-take (copies kids part) part.invokes j no_invoke less in
      omega (arith, all, inside, before)

-- an invoke of a cell
record InvokeOf (c k : ℕ) (vs : List PlainInvoke) (j : ℕ) : Type 0 where
  number : ℕ
  is : j ≡ k + number
  less : number < length vs
  its : (get_or vs number no_invoke).cell ≡ c

invoke_of : (c k : ℕ) (vs : List PlainInvoke) (j : ℕ) → In (invokes_of c k vs) j → InvokeOf c k vs j
invoke_of c k [] j i = absurd i
invoke_of c k (v ∷ vs) j i = by (nat_eq v.cell c) refl i (λ later. invoke_of c (suc k) vs j later)
  where
    next : InvokeOf c (suc k) vs j → InvokeOf c k (v ∷ vs) j
    next r =
        let more : suc k + r.number ≡ k + suc r.number = omega arith in
        let inside = r.less in
        record { number = suc r.number; is = r.is ∙ more; less = omega (arith, inside); its = r.its }

    by : (b : Bool) → nat_eq v.cell c ≡ b → In (if b then k ∷ invokes_of c (suc k) vs else invokes_of c (suc k) vs) j
        → (In (invokes_of c (suc k) vs) j → InvokeOf c (suc k) vs j) → InvokeOf c k (v ∷ vs) j
    by true same (inl e) rest = let here : k ≡ k + 0 = omega arith in record { number = 0; is = sym e ∙ here; less = omega arith; its = eqb-true v.cell c same }
    by true same (inr later) rest = next (rest later)
    by false other later rest = next (rest later)

-- ONE LEVEL UP: an entry of a child stands in the caller where the child's stands
module _ (part : PlainComponent) (cells : Cells) (c : ℕ) (child : Instance) (at : cell_at cells c ≡ OfInstance child) where
  abbrev i : Instance
  i = Node part cells

  abbrev kids : Kids
  kids = flat_kids cells

  twin_standing : (twin : Instance) → length (part_of twin).groups ≡ length (flat_part child).groups → IsEmbedded child 0 (cells_of twin) → (path : Path) (g : ℕ)
      → IsStanding child path g
      → g < length (part_of (instance_at twin path)).groups
  twin_standing (Node P C) same embedded [] g stands = omega (arith, same, stands)
  twin_standing (Node P C) same embedded (x ∷ path) g stands = subst (λ k. g < length (part_of (child_at C k path)).groups) (zero_plus x) (stands 0 C embedded)

  kept_standing : is_static child ≡ false → (path : Path) (g : ℕ) → IsStanding child path g → IsStanding i (kept_at kids c ∷ path) g
  kept_standing dynamic path g stands first host embedded =
      let r = embedded_dynamic kids part first host cells 0 c child embedded at dynamic in
      let place : cell_at host (first + kept_at kids c) ≡ OfInstance r.0 = ap (λ k. cell_at host (first + kept_at kids k)) (sym (zero_plus c)) ∙ r.1 in
      subst (λ y. g < length (part_of y).groups) (sym (child_is host (first + kept_at kids c) r.0 place path))
      (twin_standing r.0 (ap length r.2.groups) r.3 path g stands)

  inner_standing : is_static child ≡ true → (x : ℕ) (path : Path) (g : ℕ) → IsStanding child (x ∷ path) g → IsStanding i ((start_of kids part c + x) ∷ path) g
  inner_standing static x path g stands first host embedded =
      let r = embedded_static kids part first host cells 0 c child embedded at static in
      let place : first + start_of kids part c + x ≡ first + (start_of kids part c + x) = omega arith in
      subst (λ k. g < length (part_of (child_at host k path)).groups) place
      (stands (first + start_of kids part c) host (subst (λ k. IsEmbedded child (first + start_of kids part k) host) (zero_plus c) r.0))

  copies_standing : is_static child ≡ true → (g : ℕ) → IsStanding child [] g → (b : Bool) → is_one_of g (groups_of (flat_part child).control) ≡ b → (e : ProfileEntry)
      → In (if b then map (λ j. entry_at [] (copy_of kids part (flat_part child) j g)) (invokes_of c 0 part.invokes) else []) e → IsStanding i e.path e.group
  copies_standing static g stands false unused e inside = absurd inside
  copies_standing static g stands true used e inside =
      let r = image_in (λ j. entry_at [] (copy_of kids part (flat_part child) j g)) (invokes_of c 0 part.invokes) e inside in
      let v = invoke_of c 0 part.invokes r.0 r.1 in
      let number : v.number ≡ r.0 = sym (zero_plus v.number) ∙ sym v.is in
      subst (λ (y : ProfileEntry). IsStanding i y.path y.group) r.2
      (subst (λ k. copy_of kids part (flat_part child) k g < length (flat_groups kids part)) number
      (copy_there kids part v.number g (flat_part child) v.less (ap (kid_at kids) v.its ∙ kid-static cells c child at static) used stands))

  placed_standing : (path : Path) (g : ℕ) → IsStanding child path g → (e : ProfileEntry) → In (placed_entry kids part c (kid_at kids c) path g) e → IsStanding i e.path e.group
  placed_standing path g stands e inside = by (is_static child) refl path stands inside
    where
      alone : (p : Path) → IsStanding i p g → In (entry_at p g ∷ []) e → IsStanding i e.path e.group
      alone p is (inl same) = subst (λ (y : ProfileEntry). IsStanding i y.path y.group) same is
      alone p is (inr none) = absurd none

      by : (b : Bool) → is_static child ≡ b → (p : Path) → IsStanding child p g → In (placed_entry kids part c (kid_at kids c) p g) e → IsStanding i e.path e.group
      by false dynamic p is k =
          alone (kept_at kids c ∷ p) (kept_standing dynamic p g is) (subst (λ x. In (placed_entry kids part c x p g) e) (kid-dynamic cells c child at dynamic) k)
      by true static [] is k =
          copies_standing static g is (is_one_of g (groups_of (flat_part child).control)) refl e
          (subst (λ x. In (placed_entry kids part c x [] g) e) (kid-static cells c child at static) k)
      by true static (x ∷ p) is k =
          alone ((start_of kids part c + x) ∷ p) (inner_standing static x p g is) (subst (λ y. In (placed_entry kids part c y (x ∷ p) g) e) (kid-static cells c child at static) k)

all_standing : (i : Instance) (path : Path) (g : ℕ) → IsThere i path g → (e : ProfileEntry) → In (entries_in_flat i path g) e → IsStanding i e.path e.group
all_standing (Node part cells) [] g there e (inl same) = subst (λ (y : ProfileEntry). IsStanding (Node part cells) y.path y.group) same (own_there (flat_kids cells) part g there)
all_standing (Node part cells) [] g there e (inr none) = absurd none
all_standing (Node part cells) (c ∷ path) g there e inside =
    let r = child_there cells c path g there in
    let f = from_flat (λ (y : ProfileEntry). placed_entry (flat_kids cells) part c (kid_at (flat_kids cells) c) y.path y.group) (entries_below cells c path g) e inside in
    placed_standing part cells c r.0 r.1 f.0.path f.0.group (all_standing r.0 path g r.2 f.0 (subst (λ list. In list f.0) (entries-child cells c r.0 r.1 path g) f.1)) e f.2

flat_standing : (i flat : Instance) → IsFlattened i flat → (path : Path) (g : ℕ) → IsStanding i path g → g < length (part_of (instance_at flat path)).groups
flat_standing i (Node P C) flattened [] g stands = let same = ap length flattened.0.groups in omega (arith, same, stands)
flat_standing i (Node P C) flattened (x ∷ path) g stands = subst (λ k. g < length (part_of (child_at C k path)).groups) (zero_plus x) (stands 0 C flattened.1)

pub flat_entry_there : (d : PlainDesign) → IsFlattened (tree_of d) (tree_of (flat_design d)) → (path : Path) (g : ℕ) → IsThere (tree_of d) path g → (e : ProfileEntry)
    → In (flat_entries d (entry_at path g)) e
    → e.group < length (part_of (instance_at (tree_of (flat_design d)) e.path)).groups
flat_entry_there d flattened path g there e inside =
    flat_standing (tree_of d) (tree_of (flat_design d)) flattened e.path e.group (all_standing (tree_of d) path g there e inside)
