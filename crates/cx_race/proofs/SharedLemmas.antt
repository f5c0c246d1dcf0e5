-- Shared cells and groups that are enabled twice, by tallies.
use Rattle.std.proofs.Common.{◌≡◌, ◌≢◌, ℕ, true, List, [], ◌++◌, Option, Some, None, map, flat_map, slice_get, ⊎_elim, refl, sym, ap, ◌∙◌, subst, arith}
use Rattle.cx_graphs.specs.Graphs as graphs
use Rattle.cx_graphs.specs.Graphs.{Edges, targets_of, IsReached}
use Rattle.cx_meaning.specs.Designs.{PlainComponent, PlainStatement}
use Rattle.cx_text.specs.Members.{In}
use Rattle.cx_meaning.specs.Control.{groups_of}
use Rattle.cx_rules.specs.Invokes.{drives_all, ReadsAll, driven}
use Rattle.cx_rules.specs.RaceRule.{Arms, IsShared, IsEnabledTwice, enabled_in}
use Rattle.cx_graphs.specs.declared.owners.Owners.{Owners}
use Rattle.cx_graphs.specs.declared.owners.Owners.TheVariants.{Nobody, Only, Several}
use Rattle.cx_graphs.specs.Owners.{Covers, Sound, owners_at, IsSeveral, IsLeast}
use Rattle.cx_graphs.specs.Tallies.{Starts, Reaches, Tallies, starts_of}
use Rattle.cx_race.specs.Cells.{targets_in_group, cells_in_group, invoked_by, met_by, driven_all_by, named_all_by}
use Rattle.cx_race.specs.Links.{AreLinks}
use Rattle.cx_race.proofs.CellLemmas.{group_lists}
use Rattle.cx_race.proofs.InvokeLemmas.{in_driven_all, is_driven_all}
use Rattle.cx_race.proofs.ReadAllLemmas.{all_reads_reached, reached_all_reads}
use Rattle.cx_race.specs.Races.{IsLeastOf, IsFirstRace, race_of}
use Rattle.cx_race.proofs.ArmLemmas.{as_node, from_node, list_at, arm_at, from_nowhere}
use Rattle.cx_text.proofs.NumberLaws.{same_or}

-- owners that cover a number have one
pub an_owner : (P : ℕ → Type 0) (o : Owners) (k : ℕ) → Covers o k → Sound P o → (j : ℕ) × P j
an_owner P Nobody k c s = absurd c
an_owner P (Only j) k c s = (j, s)
an_owner P Several k c s = (s.0, s.3)

-- two owners are several
pub two_owners : (o : Owners) (j k : ℕ) → j ≢ k → Covers o j → Covers o k → o ≡ Several
two_owners Nobody j k d a b = absurd a
two_owners (Only m) j k d a b = absurd (d (sym a ∙ b))
two_owners Several j k d a b = refl

-- several are two
pub owners_two : (P : ℕ → Type 0) (o : Owners) → o ≡ Several → Sound P o → (j : ℕ) × (k : ℕ) × (j ≢ k) × P j × P k
owners_two P o e s = subst (Sound P) e s

-- what has an owner is touched
pub is_touched : (P : ℕ → ℕ → Type 0) (owners : List Owners) (touched : List ℕ) → Tallies P owners touched → (n k : ℕ) → P n k → In touched n
is_touched P owners touched t n k h = ⊎_elim (λ nobody. absurd (subst (λ o. Covers o k) nobody ((t.tells n).all k h))) (λ i. i) (t.kept.others n)

-- the least of what several own is the least of what P holds of, where these are one
pub least_is : (owners : List Owners) (among : List ℕ) (P : ℕ → Type 0) → ((n : ℕ) → In among n → IsSeveral owners n → P n) → ((n : ℕ) → P n → In among n × IsSeveral owners n)
    → (least : Option ℕ) → IsLeast owners among least → IsLeastOf P least
least_is owners among P sound all None l = λ n p. let h = all n p in l n h.0 h.1
least_is owners among P sound all (Some n) l = (sound n l.0 l.1, λ m lt p. let h = all m p in let few = l.2 m h.0 h.1 in absurd (omega (arith, lt, few)))

abbrev two_arms : (arms : List PlainStatement) (j k : ℕ) (s t : PlainStatement) → j ≢ k → slice_get arms j ≡ Some s → slice_get arms k ≡ Some t → Arms arms
two_arms arms j k s t d a b = record { one = j; other = k; differ = d; first = s; second = t; first_stands = a; second_stands = b }

-- SHARED CELLS
module _ (part : PlainComponent) (arms : List PlainStatement) (g members cells : Edges) (links : AreLinks part g)
    (targets : members ≡ map targets_in_group part.groups) (names : cells ≡ map cells_in_group part.groups)
    (driving reading : List Owners) (driven_ones read_ones : List ℕ) where
  abbrev Driver : ℕ → ℕ → Type 0
  Driver = Starts (starts_of members (map groups_of arms) (map (invoked_by part) arms))

  abbrev Reader : ℕ → ℕ → Type 0
  Reader = Reaches g (starts_of cells (map groups_of arms) (map (met_by part) arms))

  -- the nodes from which arm k starts
  driven_are : (k : ℕ) (s : PlainStatement) → slice_get arms k ≡ Some s → starts_of members (map groups_of arms) (map (invoked_by part) arms) k ≡ driven_all_by part s
  driven_are k s e =
      ap (λ l. l ++ flat_map (targets_of members) (targets_of (map groups_of arms) k)) (list_at (invoked_by part) arms k s e)
      ∙ ap (λ gs. invoked_by part s ++ flat_map (targets_of members) gs) (list_at groups_of arms k s e)
      ∙ ap (λ m. invoked_by part s ++ flat_map (targets_of m) (groups_of s)) targets
      ∙ ap (λ l. invoked_by part s ++ l) (group_lists targets_in_group refl part (groups_of s))

  named_are : (k : ℕ) (s : PlainStatement) → slice_get arms k ≡ Some s → starts_of cells (map groups_of arms) (map (met_by part) arms) k ≡ named_all_by part s
  named_are k s e =
      ap (λ l. l ++ flat_map (targets_of cells) (targets_of (map groups_of arms) k)) (list_at (met_by part) arms k s e)
      ∙ ap (λ gs. met_by part s ++ flat_map (targets_of cells) gs) (list_at groups_of arms k s e)
      ∙ ap (λ m. met_by part s ++ flat_map (targets_of m) (groups_of s)) names
      ∙ ap (λ l. met_by part s ++ l) (group_lists cells_in_group refl part (groups_of s))

  nowhere : (m : Edges) (f : PlainStatement → List ℕ) (k : ℕ) → ((h : PlainStatement → List ℕ) → targets_of (map h arms) k ≡ []) → starts_of m (map groups_of arms) (map f arms) k ≡ []
  nowhere m f k none = ap (λ l. l ++ flat_map (targets_of m) (targets_of (map groups_of arms) k)) (none f) ∙ ap (λ gs. flat_map (targets_of m) gs) (none groups_of)

  driver : (c k : ℕ) (s : PlainStatement) → slice_get arms k ≡ Some s → drives_all part s c ≡ true → Driver c k
  driver c k s e h = subst (λ l. In l c) (sym (driven_are k s e)) (as_node (driven_all_by part s) c (in_driven_all part s c h))

  reader : (c k : ℕ) (s : PlainStatement) → slice_get arms k ≡ Some s → ReadsAll part s c → Reader c k
  reader c k s e h = subst (λ l. IsReached g l c) (sym (named_are k s e)) (all_reads_reached part s g links c h)

  is_driver : (c k : ℕ) → Driver c k → (s : PlainStatement) × (slice_get arms k ≡ Some s) × (drives_all part s c ≡ true)
  is_driver c k h = ⊎_elim
      (λ a. (a.0, a.1, is_driven_all part a.0 c (from_node (driven_all_by part a.0) c (subst (λ l. In l c) (driven_are k a.0 a.1) h))))
      (λ none. absurd (subst (λ l. In l c) (nowhere members (invoked_by part) k none) h))
      (arm_at arms k)

  is_reader : (c k : ℕ) → Reader c k → (s : PlainStatement) × (slice_get arms k ≡ Some s) × ReadsAll part s c
  is_reader c k h = ⊎_elim
      (λ a. (a.0, a.1, reached_all_reads part a.0 g links c (subst (λ l. IsReached g l c) (named_are k a.0 a.1) h)))
      (λ none. absurd (from_nowhere g c (subst (λ l. IsReached g l c) (nowhere cells (met_by part) k none) h)))
      (arm_at arms k)

  shared_by : (c j k : ℕ) → j ≢ k → Driver c j → Reader c k → IsShared part arms c
  shared_by c j k differ dj rk = let a = is_driver c j dj in let b = is_reader c k rk in (two_arms arms j k a.0 b.0 differ a.1 b.1, a.2, b.2)

  module _ (d : Tallies Driver driving driven_ones) (r : Tallies Reader reading read_ones) where
    shared : (c : ℕ) → In driven_ones c → IsSeveral reading c → IsShared part arms c
    shared c i several =
        let covered = d.some c i in
        let j = an_owner (Driver c) (owners_at driving c) covered.0 covered.1 ((d.tells c).sound) in
        let two = owners_two (Reader c) (owners_at reading c) several ((r.tells c).sound) in
        ⊎_elim
        (λ same. shared_by c j.0 two.1 (λ e. two.2 (sym same ∙ e)) j.1 two.4)
        (λ differ. shared_by c j.0 two.0 differ j.1 two.3)
        (same_or j.0 two.0)

    is_shared : (c : ℕ) → IsShared part arms c → In driven_ones c × IsSeveral reading c
    is_shared c h =
        let two = h.0 in (
          is_touched Driver driving driven_ones d c two.one (driver c two.one two.first two.first_stands h.1),
          two_owners (owners_at reading c) two.one two.other two.differ
              ((r.tells c).all two.one (reader c two.one two.first two.first_stands (driven h.1)))
              ((r.tells c).all two.other (reader c two.other two.second two.second_stands h.2)),
        )

    pub least_shared : (least : Option ℕ) → IsLeast reading driven_ones least → IsLeastOf (IsShared part arms) least
    least_shared least l = least_is reading driven_ones (IsShared part arms) shared is_shared least l

-- GROUPS THAT ARE ENABLED TWICE
module _ (arms : List PlainStatement) (owners : List Owners) (touched : List ℕ) (t : Tallies (Starts (targets_of (map enabled_in arms))) owners touched) where
  abbrev Enabler : ℕ → ℕ → Type 0
  Enabler = Starts (targets_of (map enabled_in arms))

  enabler : (g k : ℕ) (s : PlainStatement) → slice_get arms k ≡ Some s → In (enabled_in s) g → Enabler g k
  enabler g k s e i = subst (λ l. In l g) (sym (list_at enabled_in arms k s e)) (as_node (enabled_in s) g i)

  is_enabler : (g k : ℕ) → Enabler g k → (s : PlainStatement) × (slice_get arms k ≡ Some s) × In (enabled_in s) g
  is_enabler g k h = ⊎_elim
      (λ a. (a.0, a.1, from_node (enabled_in a.0) g (subst (λ l. In l g) (list_at enabled_in arms k a.0 a.1) h)))
      (λ none. absurd (subst (λ l. In l g) (none enabled_in) h))
      (arm_at arms k)

  twice : (g : ℕ) → In touched g → IsSeveral owners g → IsEnabledTwice arms g
  twice g i several =
      let two = owners_two (Enabler g) (owners_at owners g) several ((t.tells g).sound) in
      let a = is_enabler g two.0 two.3 in
      let b = is_enabler g two.1 two.4 in
      (two_arms arms two.0 two.1 a.0 b.0 two.2 a.1 b.1, a.2, b.2)

  is_twice : (g : ℕ) → IsEnabledTwice arms g → In touched g × IsSeveral owners g
  is_twice g h =
      let two = h.0 in
      let one = enabler g two.one two.first two.first_stands h.1 in
      let other = enabler g two.other two.second two.second_stands h.2 in
      (is_touched Enabler owners touched t g two.one one, two_owners (owners_at owners g) two.one two.other two.differ ((t.tells g).all two.one one) ((t.tells g).all two.other other))

  pub least_twice : (least : Option ℕ) → IsLeast owners touched least → IsLeastOf (IsEnabledTwice arms) least
  least_twice least l = least_is owners touched (IsEnabledTwice arms) twice is_twice least l

-- a shared cell goes before a group that is enabled twice
pub first_is : (part : PlainComponent) (arms : List PlainStatement) (cell group : Option ℕ) → IsLeastOf (IsShared part arms) cell → IsLeastOf (IsEnabledTwice arms) group → IsFirstRace part arms (race_of cell group)
first_is part arms None None c g = (c, g)
first_is part arms None (Some n) c g = (c, g)
first_is part arms (Some n) group c g = c
