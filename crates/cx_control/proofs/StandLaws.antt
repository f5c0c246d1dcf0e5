-- Statements of the control of an instance: their parts stand there too, and drive and read no more.
use Rattle.std.proofs.Common.{◌≡◌, ℕ, suc, inl, inr, Bool, true, false, ◌||◌, List, [], ◌∷◌, ◌++◌, refl, sym, subst}
use Rattle.std.specs.Prelude.{flat_map, if◌then◌else◌}
use Rattle.cx_text.proofs.MemberLaws.{in_left, in_right, number_in}
use Rattle.cx_text.specs.Members.{In}
use Rattle.cx_meaning.specs.declared.ports.PlacedPort.{PlacedPort}
use Rattle.cx_meaning.specs.Designs.{PlainComponent, PlainStatement, Placed, PlainStatements, no_statements, a_statement, list_of}
use Rattle.cx_meaning.specs.Instances.{Instance, part_of, State, merge}
use Rattle.cx_meaning.specs.Sights.{Held}
use Rattle.cx_meaning.specs.Control.{groups_of, group_drives, groups_drive, drives}
use Rattle.cx_rules.specs.Items.{Dynamic, Visited, visit, visit_all, test_in, option_list, tests_of}
use Rattle.cx_rules.specs.Footprints as footprints
use Rattle.cx_rules.specs.Footprints.{Reads}
use Rattle.cx_rules.specs.RaceRule.{IsShared}
use Rattle.cx_laws.proofs.VisitLemmas.{visited, as_visited, itself}
use Rattle.cx_lockstep.specs.Lawful.{IsPart, of_seq, of_par, then_branch, else_branch, of_while, of_repeat, Apart, AreApart}
use Rattle.cx_control.specs.Spots.{Spot, Cell, Number, Input, shown, spots_of, reads_spot}
use Rattle.cx_control.specs.InstanceRules.{Stands}
use Rattle.cx_meaning.proofs.SightsLaws.{behind_comb}
use Rattle.cx_meaning.proofs.ControlLaws.{groups_drive_in, in_parts}
use Rattle.cx_text.proofs.NumberLaws.{suc_zero, zero_suc, false_true}
use Rattle.cx_rules.proofs.InvokesLemmas.{drives_more, reads_more}

visits_all : (ss : PlainStatements) (s : PlainStatement) (v : Visited) → In (list_of ss) s → In (visit Dynamic s) v → In (visit_all Dynamic ss) v
visits_all no_statements s v i j = absurd i
visits_all (a_statement t ts) s v (inl e) j = in_left (visit Dynamic t) (visit_all Dynamic ts) v (subst (λ x. In (visit Dynamic x) v) (sym e) j)
visits_all (a_statement t ts) s v (inr i) j = in_right (visit Dynamic t) (visit_all Dynamic ts) v (visits_all ts s v i j)

-- what is visited in a part is visited in the whole
pub visits_part : {s whole : PlainStatement} → IsPart s whole → (v : Visited) → In (visit Dynamic s) v → In (visit Dynamic whole) v
visits_part (of_seq {s} {parts} {place} i) v j = inr (visits_all parts s v i j)
visits_part (of_par {s} {arms} {place} i) v j = inr (visits_all arms s v i j)
visits_part (then_branch {test} {comb} {a} {b} {place}) v j = inr (in_left (visit Dynamic a) (visit Dynamic b) v j)
visits_part (else_branch {test} {comb} {a} {b} {place}) v j = inr (in_right (visit Dynamic a) (visit Dynamic b) v j)
visits_part (of_while {test} {comb} {a} {place}) v j = inr j
visits_part (of_repeat {count} {a} {place}) v j = inr j

pub parts_stand : (i : Instance) (s whole : PlainStatement) → IsPart s whole → Stands i whole → Stands i s
parts_stand i (Placed form place) (Placed f p) part stands =
    visited Dynamic (part_of i).control (record { context = Dynamic; form = f; place = p }) (as_visited (Placed form place)) stands (visits_part part (as_visited (Placed form place)) (itself (Placed form place)))

pub groups_part : {s whole : PlainStatement} → IsPart s whole → (g : ℕ) → In (groups_of s) g → In (groups_of whole) g
groups_part (of_seq {s} {parts} {place} i) g j = in_parts parts s g i j
groups_part (of_par {s} {arms} {place} i) g j = in_parts arms s g i j
groups_part (then_branch {test} {comb} {a} {b} {place}) g j = behind_comb comb (groups_of a ++ groups_of b) g (in_left (groups_of a) (groups_of b) g j)
groups_part (else_branch {test} {comb} {a} {b} {place}) g j = behind_comb comb (groups_of a ++ groups_of b) g (in_right (groups_of a) (groups_of b) g j)
groups_part (of_while {test} {comb} {a} {place}) g j = behind_comb comb (groups_of a) g j
groups_part (of_repeat {count} {a} {place}) g j = j

groups_within : (part : PlainComponent) (gs hs : List ℕ) → ((g : ℕ) → In gs g → In hs g) → (c : ℕ) → groups_drive part gs c ≡ true → groups_drive part hs c ≡ true
groups_within part [] hs within c e = absurd (false_true e)
groups_within part (g ∷ gs) hs within c e = either (group_drives part g c) refl e (groups_within part gs hs (λ h i. within h (inr i)) c)
  where
    either : (b : Bool) → group_drives part g c ≡ b → (b || groups_drive part gs c) ≡ true → (groups_drive part gs c ≡ true → groups_drive part hs c ≡ true) → groups_drive part hs c ≡ true
    either true here f later = groups_drive_in part hs g c (within g (inl refl)) here
    either false none f later = later f

-- so it drives and reads no more
pub part_drives : (part : PlainComponent) (s whole : PlainStatement) → IsPart s whole → (c : ℕ) → drives part s c ≡ true → drives part whole c ≡ true
part_drives part s whole is_part c e = groups_within part (groups_of s) (groups_of whole) (groups_part is_part) c e

flat_within : {A B : Type 0} (each : A → List B) (xs ys : List A) → ((x : A) → In xs x → In ys x) → (y : B) → In (flat_map each xs) y → In (flat_map each ys) y
flat_within each [] ys within y i = absurd i
flat_within each (x ∷ xs) ys within y i = either (each x) i (λ j. into ys (within x (inl refl)) j) (flat_within each xs ys (λ z j. within z (inr j)) y)
  where
    into : (zs : List _) → In zs x → In (each x) y → In (flat_map each zs) y
    into [] j k = absurd j
    into (z ∷ zs) (inl e) k = in_left (each z) (flat_map each zs) y (subst (λ w. In (each w) y) (sym e) k)
    into (z ∷ zs) (inr j) k = in_right (each z) (flat_map each zs) y (into zs j k)

    either : (first : List _) → In (first ++ flat_map each xs) y → (In first y → In (flat_map each ys) y) → (In (flat_map each xs) y → In (flat_map each ys) y) → In (flat_map each ys) y
    either [] j f h = h j
    either (z ∷ zs) (inl e) f h = f (inl e)
    either (z ∷ zs) (inr j) f h = either zs j (λ k. f (inr k)) h

tests_part : (s whole : PlainStatement) → IsPart s whole → (p : PlacedPort) → In (tests_of s) p → In (tests_of whole) p
tests_part s whole is_part p i = flat_within (λ v. option_list (test_in v.form)) (visit Dynamic s) (visit Dynamic whole) (visits_part is_part) p i

pub part_reads : (part : PlainComponent) (s whole : PlainStatement) → IsPart s whole → {c : ℕ} → Reads part s c → Reads part whole c
part_reads part s whole is_part {c} (footprints.driven e) = footprints.driven (part_drives part s whole is_part c e)
part_reads part s whole is_part {c} (footprints.named p g a i j n) = footprints.named p g a (groups_part is_part g i) j n
part_reads part s whole is_part {c} (footprints.tested p test i e) = footprints.tested p test (tests_part s whole is_part test i) e
part_reads part s whole is_part {c} (footprints.through b p q a r i t n) = footprints.through b p q a (part_reads part s whole is_part r) i t n

-- the same of spots
pub spots_wider : (one other : ℕ → Bool) → ((c : ℕ) → one c ≡ true → other c ≡ true) → (x : Spot) → spots_of one x ≡ true → spots_of other x ≡ true
spots_wider one other wider (Cell []) e = e
spots_wider one other wider (Cell (c ∷ path)) e = wider c e
spots_wider one other wider (Number [] n) e = e
spots_wider one other wider (Number (c ∷ path) n) e = wider c e
spots_wider one other wider (Input n) e = e

pub reads_wider : (one other : ℕ → Type 0) → ((c : ℕ) → one c → other c) → (x : Spot) → reads_spot one x → reads_spot other x
reads_wider one other wider (Cell []) r = r
reads_wider one other wider (Cell (c ∷ path)) r = wider c r
reads_wider one other wider (Number [] n) r = r
reads_wider one other wider (Number (c ∷ path) n) r = wider c r
reads_wider one other wider (Input n) r = r

-- ARMS are apart where no cell is shared
pub spots_apart : (part : PlainComponent) (s t : PlainStatement) → ((c : ℕ) → drives part s c ≡ true → Reads part t c → ⊥) → (x : Spot) → spots_of (drives part s) x ≡ true → reads_spot (Reads part t) x → ⊥
spots_apart part s t apart (Cell []) d r = r
spots_apart part s t apart (Cell (c ∷ path)) d r = apart c d r
spots_apart part s t apart (Number [] n) d r = r
spots_apart part s t apart (Number (c ∷ path) n) d r = apart c d r
spots_apart part s t apart (Input n) d r = false_true d

pub are_apart : (part : PlainComponent) (arms : List PlainStatement) → ((c : ℕ) → IsShared part arms c → ⊥) → AreApart (λ s. spots_of (drives part s)) (λ s. reads_spot (Reads part s)) arms
are_apart part [] unshared = tt
are_apart part (s ∷ ss) unshared = (first, are_apart part ss later)
  where
    first : (t : PlainStatement) → In ss t → Apart (λ u. spots_of (drives part u)) (λ u. reads_spot (Reads part u)) s t
    first t i = let n = number_in ss t i in record {
      first = λ x. spots_apart part s t (λ c d r. unshared c (record { one = 0; other = suc n.0; differ = zero_suc n.0; first = s; second = t; first_stands = refl; second_stands = n.1 }, drives_more part s c d, reads_more part t c r)) x;
      second = λ x. spots_apart part t s (λ c d r. unshared c (record { one = suc n.0; other = 0; differ = suc_zero n.0; first = t; second = s; first_stands = n.1; second_stands = refl }, drives_more part t c d, reads_more part s c r)) x;
    }

    later : (c : ℕ) → IsShared part ss c → ⊥
    later c (two, d, r) =
        unshared c (record { one = suc two.one; other = suc two.other; differ = λ e. two.differ (same e); first = two.first; second = two.second; first_stands = two.first_stands; second_stands = two.second_stands }, d, r)
      where
        same : suc two.one ≡ suc two.other → two.one ≡ two.other
        same e = cc

-- the spots that an arm drives come from one state, and the others from another
pub merge_is_shown : (part : PlainComponent) (held : Held) (arm : PlainStatement) (s t : State) (x : Spot)
    → shown held (merge (drives part arm) s t) x ≡ (if spots_of (drives part arm) x then shown held s x else shown held t x)
merge_is_shown part held arm s t (Cell []) = refl
merge_is_shown part held arm s t (Cell (c ∷ path)) = refl
merge_is_shown part held arm s t (Number [] n) = refl
merge_is_shown part held arm s t (Number (c ∷ path) n) = same (drives part arm c)
  where
    same : (b : Bool) → ◌≡◌ {A = ℕ} 0 (if b then 0 else 0)
    same true = refl
    same false = refl
merge_is_shown part held arm s t (Input n) = refl
