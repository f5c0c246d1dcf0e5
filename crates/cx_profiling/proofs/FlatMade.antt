-- WHAT ONE CYCLE COUNTS: what acts of the flat instance counts of each group of the tree what is done there.
use Rattle.std.proofs.Common.{◌≡◌, ◌≢◌, ◌⊎◌, ⊎_elim, ℕ, zero, suc, ◌+◌, ◌<◌, Bool, true, false, nat_eq, List, [], ◌∷◌, ◌++◌, length, map, get_or, Some, refl, sym, ap, ◌∙◌, subst, arith}
use Rattle.std.specs.Prelude.{sum_by, if◌then◌else◌}
use Rattle.std.proofs.lemmas.Bool.{eqb-true, both_ways, eq-eqb}
use Rattle.std.proofs.lemmas.List.Sums.{sum_by-cons}
use Rattle.cx_meaning.specs.Designs.{PlainInvoke, PlainComponent, PlainForm, PlainStatement}
use Rattle.cx_meaning.specs.Instances.{Instance, Node, Cells, no_cells, a_primitive, an_instance, OfInstance, cells_of, cell_at, Path}
use Rattle.cx_meaning.specs.Active.{Active, entries}
use Rattle.cx_meaning.specs.Control.{groups_of}
use Rattle.cx_meaning.proofs.InstancesLemmas.{instance_is}
use Rattle.cx_rules.specs.Counts.{is_one_of}
use Rattle.cx_rewrites.specs.Tallies.{Tally, none}
use Rattle.cx_flattening.specs.Events.{no_invoke}
use Rattle.cx_flattening.specs.Deeds.{Deed, Acts, Fed, deed_if, own_entries, deeds_below}
use Rattle.cx_flattening.specs.Whole.{is_static}
use Rattle.cx_flattening.specs.Flattened.{Kids, kid_at, copy_of, flat_kids, flat_part}
use Rattle.cx_flattening.specs.Acting.{IsIdle, IsFed, ActsAs, AllActAs}
use Rattle.cx_flattening.proofs.FlatDeeds.{lower}
use Rattle.cx_flattening.proofs.DeedSources.{Does, rests, a_group, a_part, all_arms, one_branch, other_branch, a_round, an_invoke, a_capture, DoesArms, no_arms, an_arm}
use Rattle.cx_flattening.proofs.LevelSights.{kid-static, kid-dynamic}
use Rattle.cx_flattening.proofs.FlatLimits.{zero_plus}
use Rattle.cx_profiling.specs.Counting.{once, made_with}
use Rattle.cx_profiling.specs.WholeCounting.{done_with}
use Rattle.cx_profiling.specs.FlatEntries.{invokes_of}
use Rattle.cx_profiling.proofs.BareCounts.{nothing_done}
use Rattle.cx_profiling.proofs.FlatTotals.{lowered, lowered_kept, lowered_inner, lowered_copies, told, told_own, told_below, told_none, told_same, IsThere, child_there}

-- A PATH on which each cell is of a static component
abbrev pub IsInside : Instance → Path → Type 0
IsInside i [] = Unit {0}
IsInside i (c ∷ path) = (child : Instance) × (cell_at (cells_of i) c ≡ OfInstance child) × (is_static child ≡ true) × IsInside child path

-- all is done in the instance and in static components below it
abbrev pub AllInside : Instance → List Deed → Type 0
AllInside i [] = Unit {0}
AllInside i (Acts at e ∷ rest) = IsInside i at × AllInside i rest
AllInside i (Fed at c inputs ∷ rest) = IsInside i at × AllInside i rest

inside_both : (i : Instance) (ds ws : List Deed) → AllInside i ds → AllInside i ws → AllInside i (ds ++ ws)
inside_both i [] ws h k = k
inside_both i (Acts at e ∷ rest) ws h k = (h.0, inside_both i rest ws h.1 k)
inside_both i (Fed at c inputs ∷ rest) ws h k = (h.0, inside_both i rest ws h.1 k)

inside_lower : (i : Instance) (c : ℕ) (child : Instance) → cell_at (cells_of i) c ≡ OfInstance child → is_static child ≡ true → (ds : List Deed) → AllInside child ds
    → AllInside i (map (lower (c ∷ [])) ds)
inside_lower i c child at static [] h = tt
inside_lower i c child at static (Acts path e ∷ rest) h = ((child, at, static, h.0), inside_lower i c child at static rest h.1)
inside_lower i c child at static (Fed path d inputs ∷ rest) h = ((child, at, static, h.0), inside_lower i c child at static rest h.1)

mutual
  pub does_inside : {i : Instance} {form : PlainForm} {ds : List Deed} → Does i form ds → AllInside i ds
  does_inside rests = tt
  does_inside (a_group e) = (tt, tt)
  does_inside (a_part s among d) = does_inside d
  does_inside (all_arms d) = arms_inside d
  does_inside (one_branch d) = does_inside d
  does_inside (other_branch d) = does_inside d
  does_inside (a_round d) = does_inside d
  does_inside {i} (an_invoke {kds = kds} j child less at static d) = (tt, inside_lower i _ child at static kds (does_inside d))
  does_inside (a_capture j e less captures) = (tt, tt)

  arms_inside : {i : Instance} {ss : List PlainStatement} {ds : List Deed} → DoesArms i ss ds → AllInside i ds
  arms_inside no_arms = tt
  arms_inside {i} (an_arm {ds = ds} {ws = ws} s d ds_inside) = inside_both i ds ws (does_inside d) (arms_inside ds_inside)

-- what is done below a cell
module _ (i : Instance) (c : ℕ) (child : Instance) (at : cell_at (cells_of i) c ≡ OfInstance child) where
  inner_inside : (d : ℕ) (path : Path) → IsInside i (d ∷ path) → nat_eq d c ≡ true → IsInside child path
  inner_inside d path h same =
      subst (λ x. IsInside x path) (instance_is h.0 child (sym h.1 ∙ ap (cell_at (cells_of i)) (eqb-true d c same) ∙ at)) h.3

  pub below_inside : (ds : List Deed) → AllInside i ds → AllInside child (deeds_below c ds)
  below_inside [] h = tt
  below_inside (Acts [] e ∷ rest) h = below_inside rest h.1
  below_inside (Acts (d ∷ path) e ∷ rest) h = by (nat_eq d c) refl (below_inside rest h.1)
    where
      by : (b : Bool) → nat_eq d c ≡ b → AllInside child (deeds_below c rest) → AllInside child (deed_if b (Acts path e) (deeds_below c rest))
      by true same later = (inner_inside d path h.0 same, later)
      by false other later = later
  below_inside (Fed [] d inputs ∷ rest) h = below_inside rest h.1
  below_inside (Fed (d ∷ path) e inputs ∷ rest) h = by (nat_eq d c) refl (below_inside rest h.1)
    where
      by : (b : Bool) → nat_eq d c ≡ b → AllInside child (deeds_below c rest) → AllInside child (deed_if b (Fed path e inputs) (deeds_below c rest))
      by true same later = (inner_inside d path h.0 same, later)
      by false other later = later

  pub below_dynamic : is_static child ≡ false → (ds : List Deed) → AllInside i ds → deeds_below c ds ≡ []
  below_dynamic dynamic [] h = refl
  below_dynamic dynamic (Acts [] e ∷ rest) h = below_dynamic dynamic rest h.1
  below_dynamic dynamic (Acts (d ∷ path) e ∷ rest) h = by (nat_eq d c) refl (below_dynamic dynamic rest h.1)
    where
      by : (b : Bool) → nat_eq d c ≡ b → deeds_below c rest ≡ [] → deed_if b (Acts path e) (deeds_below c rest) ≡ []
      by true same later =
          absurd (let x : h.0.0 ≡ child = instance_is h.0.0 child (sym h.0.1 ∙ ap (cell_at (cells_of i)) (eqb-true d c same) ∙ at) in both_ways _ (ap is_static x ∙ dynamic) h.0.2)
      by false other later = later
  below_dynamic dynamic (Fed [] d inputs ∷ rest) h = below_dynamic dynamic rest h.1
  below_dynamic dynamic (Fed (d ∷ path) e inputs ∷ rest) h = by (nat_eq d c) refl (below_dynamic dynamic rest h.1)
    where
      by : (b : Bool) → nat_eq d c ≡ b → deeds_below c rest ≡ [] → deed_if b (Fed path e inputs) (deeds_below c rest) ≡ []
      by true same later =
          absurd (let x : h.0.0 ≡ child = instance_is h.0.0 child (sym h.0.1 ∙ ap (cell_at (cells_of i)) (eqb-true d c same) ∙ at) in both_ways _ (ap is_static x ∙ dynamic) h.0.2)
      by false other later = later

-- SUMS over the invokes of a cell
module _ (c : ℕ) (f : ℕ → ℕ) where
  none_of : (k : ℕ) (vs : List PlainInvoke) → ((j : ℕ) → j < length vs → (get_or vs j no_invoke).cell ≡ c → f (k + j) ≡ 0) → sum_by f (invokes_of c k vs) ≡ 0
  none_of k [] still = refl
  none_of k (v ∷ vs) still =
      by (nat_eq v.cell c) refl (none_of (suc k) vs (λ j less its. let next : suc k + j ≡ k + suc j = omega arith in ap f next ∙ still (suc j) (omega (arith, less)) its))
    where
      by : (b : Bool) → nat_eq v.cell c ≡ b → sum_by f (invokes_of c (suc k) vs) ≡ 0 → sum_by f (if b then k ∷ invokes_of c (suc k) vs else invokes_of c (suc k) vs) ≡ 0
      by true same later =
          let all = sum_by-cons f k (invokes_of c (suc k) vs) in
          let first : f (k + 0) ≡ 0 = still 0 (omega arith) (eqb-true v.cell c same) in
          let here : k ≡ k + 0 = omega arith in
          let none_here : f k ≡ 0 = ap f here ∙ first in
          omega (arith, all, none_here, later)
      by false other later = later

  one_of : (k : ℕ) (vs : List PlainInvoke) (x : ℕ) → x < length vs → (get_or vs x no_invoke).cell ≡ c
      → ((j : ℕ) → j < length vs → (get_or vs j no_invoke).cell ≡ c → j ≢ x → f (k + j) ≡ 0)
      → sum_by f (invokes_of c k vs) ≡ f (k + x)
  one_of k [] x less its still = absurd (omega (arith, less))
  one_of k (v ∷ vs) zero less its still =
      ap (λ b. sum_by f (if b then k ∷ invokes_of c (suc k) vs else invokes_of c (suc k) vs)) (eq-eqb v.cell c its)
      ∙ sum_by-cons f k (invokes_of c (suc k) vs) ∙ ap (λ n. f k + n) later ∙ done
    where
      later : sum_by f (invokes_of c (suc k) vs) ≡ 0
      later =
          none_of (suc k) vs (λ j inside own. let next : suc k + j ≡ k + suc j = omega arith in ap f next ∙ still (suc j) (omega (arith, inside)) own (λ same. omega (arith, same)))

      done : f k + 0 ≡ f (k + 0)
      done = let here : k + 0 ≡ k = omega arith in omega arith ∙ ap f (sym here)
  one_of k (v ∷ vs) (suc x) less its still =
      by (nat_eq v.cell c) refl
      (one_of (suc k) vs x (omega (arith, less)) its
      (λ j inside own other. let next : suc k + j ≡ k + suc j = omega arith in ap f next ∙ still (suc j) (omega (arith, inside)) own (λ same. other (omega (arith, same)))))
    where
      by : (b : Bool) → nat_eq v.cell c ≡ b → sum_by f (invokes_of c (suc k) vs) ≡ f (suc k + x)
          → sum_by f (if b then k ∷ invokes_of c (suc k) vs else invokes_of c (suc k) vs) ≡ f (k + suc x)
      by true same later =
          let here : k ≡ k + 0 = omega arith in
          let next : suc k + x ≡ k + suc x = omega arith in
          let all = sum_by-cons f k (invokes_of c (suc k) vs) in
          let none_here : f k ≡ 0 = ap f here ∙ still 0 (omega arith) (eqb-true v.cell c same) (λ zero_is. omega (arith, zero_is)) in
          let there = later ∙ ap f next in
          omega (arith, all, none_here, there)
      by false other later = let next : suc k + x ≡ k + suc x = omega arith in later ∙ ap f next

-- WHAT ACTS IN A STATIC CHILD, in what acts of the flat component
abbrev ChildActs : Kids → PlainComponent → Instance → List Deed → Active → ℕ → Type 0
ChildActs kids part child deeds more c =
    (inner : Active) × ActsAs child (entries (own_entries (deeds_below c deeds))) (deeds_below c deeds) inner
    × (IsIdle kids part c (flat_part child) deeds inner more ⊎ IsFed kids part c (flat_part child) deeds inner more)

acts_at : (kids : Kids) (part : PlainComponent) (deeds : List Deed) (more : Active) (cells : Cells) (c n : ℕ) (child : Instance) → AllActAs kids part cells c deeds more
    → cell_at cells n ≡ OfInstance child → is_static child ≡ true
    → ChildActs kids part child deeds more (c + n)
acts_at kids part deeds more no_cells c n child acts at static = absurd (cc)
acts_at kids part deeds more (a_primitive row rest) c zero child acts at static = absurd (cc)
acts_at kids part deeds more (a_primitive row rest) c (suc n) child acts at static =
    let next : suc c + n ≡ c + suc n = omega arith in subst (ChildActs kids part child deeds more) next (acts_at kids part deeds more rest (suc c) n child acts at static)
acts_at kids part deeds more (an_instance other rest) c zero child acts at static =
    let here : c ≡ c + 0 = omega arith in
    let same : other ≡ child = instance_is other child at in
    let r = acts.0 (ap is_static same ∙ static) in
    subst (ChildActs kids part child deeds more) here (subst (λ x. ChildActs kids part x deeds more c) same (r.0, r.2, r.3))
acts_at kids part deeds more (an_instance other rest) c (suc n) child acts at static =
    let next : suc c + n ≡ c + suc n = omega arith in subst (ChildActs kids part child deeds more) next (acts_at kids part deeds more rest (suc c) n child acts.1 at static)

module _ (kids : Kids) (part : PlainComponent) (c : ℕ) (child : PlainComponent) (static : kid_at kids c ≡ Some child) (deeds : List Deed) (inner more : Active) where
  abbrev total : ℕ → Bool → ℕ
  total g b = if b then sum_by (λ j. made_with more [] (copy_of kids part child j g)) (invokes_of c 0 part.invokes) else 0

  -- the copy for an invoke, where it acts
  abbrev copy_made : ℕ → ℕ → ℕ
  copy_made g j = once (more.offset (copy_of kids part child j g))

  idle_total : IsIdle kids part c child deeds inner more → (g : ℕ) (b : Bool) → is_one_of g (groups_of child.control) ≡ b → total g b ≡ once (inner.offset g)
  idle_total idle g true used =
      none_of c (copy_made g) 0 part.invokes
      (λ j less its. ap (copy_made g) (zero_plus j) ∙ ap once (idle.copies j g (record { there = less; cell = its }) used))
      ∙ ap once (sym (idle.still g))
  idle_total idle g false unused = ap once (sym (idle.still g))

  fed_total : IsFed kids part c child deeds inner more → (g : ℕ) (b : Bool) → is_one_of g (groups_of child.control) ≡ b → total g b ≡ once (inner.offset g)
  fed_total fed g true used =
      one_of c (copy_made g) 0 part.invokes fed.invoke fed.its.there fed.its.cell
      (λ j less its other. ap (copy_made g) (zero_plus j) ∙ ap once (fed.others j g (record { there = less; cell = its }) other used))
      ∙ ap (copy_made g) (zero_plus fed.invoke) ∙ ap once (fed.used g used)
  fed_total fed g false unused = ap once (sym (fed.unused g unused))

  lowered_made : IsIdle kids part c child deeds inner more ⊎ IsFed kids part c child deeds inner more → (path : Path) (g : ℕ)
      → lowered kids part c (made_with more) path g ≡ made_with inner path g
  lowered_made acts [] g =
      lowered_copies kids part c (made_with more) child static g
      ∙ ⊎_elim (λ idle. idle_total idle g (is_one_of g (groups_of child.control)) refl) (λ fed. fed_total fed g (is_one_of g (groups_of child.control)) refl) acts
  lowered_made acts (e ∷ path) g = lowered_inner kids part c (made_with more) child static e path g

-- ONE CYCLE in the tree, in which act acts in the instance
abbrev pub made : Active → List Deed → Tally
made act deeds [] g = once (act.offset g)
made act deeds (c ∷ path) g = done_with (deeds_below c deeds) path g

pub made_done : (deeds : List Deed) (path : Path) (g : ℕ) → made (entries (own_entries deeds)) deeds path g ≡ done_with deeds path g
made_done deeds [] g = refl
made_done deeds (c ∷ path) g = refl

-- below a cell, where it is so below its child
below_made : (part : PlainComponent) (cells : Cells) (act more : Active) (deeds : List Deed) → ActsAs (Node part cells) act deeds more → AllInside (Node part cells) deeds
    → (c : ℕ) (path : Path) (g : ℕ)
    → ((child : Instance) (inner : Active) (others : List Deed) → ActsAs child (entries (own_entries others)) others inner → AllInside child others → IsThere child path g
    → told child (made_with inner) path g ≡ made (entries (own_entries others)) others path g)
    → IsThere (Node part cells) (c ∷ path) g → told (Node part cells) (made_with more) (c ∷ path) g ≡ done_with (deeds_below c deeds) path g
below_made part cells act more deeds acts inside c path g again there = of_child (child_there cells c path g there)
  where
    of_child : (child : Instance) × (cell_at cells c ≡ OfInstance child) × IsThere child path g
        → told (Node part cells) (made_with more) (c ∷ path) g ≡ done_with (deeds_below c deeds) path g
    of_child (child, at, below) = told_below part cells (made_with more) c child at path g ∙ by (is_static child) refl
      where
        by : (b : Bool) → is_static child ≡ b → told child (lowered (flat_kids cells) part c (made_with more)) path g ≡ done_with (deeds_below c deeds) path g
        by true static =
            let r = subst (ChildActs (flat_kids cells) part child deeds more) (zero_plus c) (acts_at (flat_kids cells) part deeds more cells 0 c child acts.1 at static) in
            told_same child (lowered (flat_kids cells) part c (made_with more)) (made_with r.0)
            (lowered_made (flat_kids cells) part c (flat_part child) (kid-static cells c child at static) deeds r.0 more r.2) path g
            ∙ again child r.0 (deeds_below c deeds) r.1 (below_inside (Node part cells) c child at deeds inside) below
            ∙ made_done (deeds_below c deeds) path g
        by false dynamic =
            told_same child (lowered (flat_kids cells) part c (made_with more)) none
            (lowered_kept (flat_kids cells) part c (made_with more) (kid-dynamic cells c child at dynamic)) path g
            ∙ told_none child path g ∙ sym (nothing_done path g)
            ∙ ap (λ ds. done_with ds path g) (sym (below_dynamic (Node part cells) c child at dynamic deeds inside))

pub told_made : (i : Instance) (act more : Active) (deeds : List Deed) → ActsAs i act deeds more → AllInside i deeds → (path : Path) (g : ℕ) → IsThere i path g
    → told i (made_with more) path g ≡ made act deeds path g
told_made (Node part cells) act more deeds acts inside [] g there = told_own part cells (made_with more) g ∙ ap once (acts.0 g there)
told_made (Node part cells) act more deeds acts inside (c ∷ path) g there =
    below_made part cells act more deeds acts inside c path g
    (λ child inner others does within below. told_made child (entries (own_entries others)) inner others does within path g below) there
