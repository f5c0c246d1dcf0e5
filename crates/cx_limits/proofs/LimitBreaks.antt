-- What a scan looks at, and the breaks of the limits, are the same.
use Rattle.std.proofs.Common.{◌≡◌, ℕ, zero, suc, ◌+◌, ◌-◌, ◌^◌, ◌<◌, ◌≤◌, nat_eq, nat_lt, Bool, true, false, inl, inr, ◌⊎◌, ⊎_elim, List, [], ◌∷◌, ◌++◌, length, Option, Some, None, option_map, refl, sym, ap, ◌∙◌, subst, arith, if◌then◌else◌}
use Rattle.std.specs.List.{slice_get}
use Rattle.std.proofs.lemmas.Bool.{cases_lt, cases_eq, ltb-true, lt-ltb, eq-eqb, eqb-true, false_from_ne_true}
use Rattle.cx_text.proofs.MemberLaws.{in_either, in_left, in_right}
use Rattle.cx_text.specs.declared.places.Place.{Place}
use Rattle.cx_text.specs.declared.diagnostics.Diagnostic.{Diagnostic}
use Rattle.cx_text.specs.declared.rules.Rule.{Rule}
use Rattle.cx_text.specs.declared.rules.Rule.TheVariants as told_rules
use Rattle.cx_text.specs.declared.limits.TheConstants.{CELLS, GROUPS, INSTANCES, INSTANCE_DEPTH, MEMORY_WORDS, WEIGHT}
use Rattle.cx_meaning.specs.Designs.{PlainComponent, PlainDesign, component_at}
use Rattle.cx_meaning.specs.Instances.{tree_of}
use Rattle.cx_text.specs.Members.{In}
use Rattle.cx_rules.specs.Accepted.{Breaks, stage_of, part_key, key_of, comes_before, KeepsStage, IsFirstOf}
use Rattle.cx_rules.specs.Items.{Visited, statements_in}
use Rattle.cx_rules.specs.Counts.{Inners, counted_cells, counted_groups, counted_instances, counted_depth, counted_weight, groups_for}
use Rattle.cx_rules.specs.LimitRule as rule
use Rattle.cx_rules.specs.LimitRule.{OnCells, OnGroups, OnRepeat, OnOccurrences, OnLatency, OnInstances, OnDepth, OnWords, OnWeight, order_of, word_of, BreaksStatement, BreaksPart, BreaksTree}
use Rattle.cx_rules.specs.Ports.{component_of}
use Rattle.cx_rules.specs.Sizes.{words_below}
use Rattle.cx_rules.specs.Spots.{Part, Itself, AStatement, Whole, Spot, OnStatement}
use Rattle.cx_design_sizes.specs.Capped.{capped}
use Rattle.cx_limits.specs.declared.found.Limited.{Limited}
use Rattle.cx_limits.specs.declared.found.Limited.TheVariants as limited
use Rattle.cx_limits.specs.declared.found.FoundBreak.{FoundBreak}
use Rattle.cx_limits.specs.Inners.{cell_counts, below_at, limit_at}
use Rattle.cx_limits.specs.Rows.{counts_of}
use Rattle.cx_limits.specs.Scan.{told, limited_of, noted, past_statements, if_over, past_own, past_part, past_tree, past_one, past_first, past_all}
use Rattle.cx_rules.proofs.KeyOrder.{before_cases}
use Rattle.cx_limits.proofs.FirstLimit.{Test, spot_key, past_tests, IsAscending, limit_key, IsBest, best_of}
use Rattle.cx_limits.proofs.AtLemmas.{limit_there, cells_there, groups_there}
use Rattle.cx_text.proofs.OptionLaws.{none_is_some}

-- THE TESTS, in the order in which a scan makes them
abbrev at_statement : PlainComponent → Inners → ℕ → ℕ → Visited → Test
at_statement part below k n v = record { spot = record { component = k; part = AStatement n }; place = v.place; limited = option_map told (limit_at part below v) }

abbrev statement_tests : PlainComponent → Inners → ℕ → ℕ → List Visited → List Test
statement_tests part below k n [] = []
statement_tests part below k n (v ∷ vs) = at_statement part below k n v ∷ statement_tests part below k (suc n) vs

abbrev at_word : (ℕ → Part) → ℕ → Place → rule.Limited → ℕ → ℕ → Test
at_word kind k place l limit count = record { spot = record { component = k; part = kind (order_of l) }; place = place; limited = if_over (told l) limit count }

abbrev own_tests : PlainComponent → Inners → ℕ → List Test
own_tests part below k =
    at_word Itself k part.place OnCells CELLS (capped (cell_counts below))
    ∷ at_word Itself k part.place OnGroups GROUPS (capped (length part.groups + groups_for below part.invokes)) ∷ []

abbrev tree_tests : PlainDesign → ℕ → Place → List Test
tree_tests d k place =
    at_word Whole k place OnInstances INSTANCES (capped (counted_instances (tree_of d))) ∷ at_word Whole k place OnDepth INSTANCE_DEPTH (capped (counted_depth (tree_of d)))
    ∷ at_word Whole k place OnWords MEMORY_WORDS (capped (words_below (tree_of d))) ∷ at_word Whole k place OnWeight WEIGHT (capped (counted_weight (tree_of d))) ∷ []

abbrev main_tests : Bool → PlainDesign → ℕ → Place → List Test
main_tests true d k place = tree_tests d k place
main_tests false d k place = []

-- those of the component of a number
abbrev owns : PlainDesign → ℕ → List Test
owns d k = own_tests (component_at d k) (below_at d k) k

abbrev statements : PlainDesign → ℕ → List Test
statements d k = statement_tests (component_at d k) (below_at d k) k 0 (statements_in (component_at d k))

abbrev mains : PlainDesign → ℕ → List Test
mains d k = main_tests (nat_eq k d.main) d k (component_at d k).place

abbrev part_tests : PlainDesign → ℕ → List Test
part_tests d k = owns d k ++ (statements d k ++ mains d k)

-- those of the first so many components
abbrev tests_below : PlainDesign → ℕ → List Test
tests_below d zero = []
tests_below d (suc k) = tests_below d k ++ part_tests d k

-- a test of a component is of one of the three
of_three : (d : PlainDesign) (k : ℕ) (t : Test) → In (part_tests d k) t → In (owns d k) t ⊎ In (statements d k) t ⊎ In (mains d k) t
of_three d k t i = ⊎_elim (λ own. inl own) (λ lower. inr (in_either (statements d k) (mains d k) t lower)) (in_either (owns d k) (statements d k ++ mains d k) t i)

-- A SCAN makes these tests
past_append : (best : Option FoundBreak) (xs ys : List Test) → past_tests best (xs ++ ys) ≡ past_tests (past_tests best xs) ys
past_append best [] ys = refl
past_append best (t ∷ xs) ys = past_append (noted best t.place t.limited) xs ys

past_statement_tests : (part : PlainComponent) (below : Inners) (k n : ℕ) (best : Option FoundBreak) (vs : List Visited) → past_tests best (statement_tests part below k n vs) ≡ past_statements part below best vs
past_statement_tests part below k n best [] = refl
past_statement_tests part below k n best (v ∷ vs) = past_statement_tests part below k (suc n) (noted best v.place (option_map told (limit_at part below v))) vs

past_main : (is_main : Bool) (d : PlainDesign) (k : ℕ) (place : Place) (best : Option FoundBreak)
    → past_tests best (main_tests is_main d k place) ≡ (if is_main then past_tree best place (counts_of (tree_of d)) else best)
past_main true d k place best = refl
past_main false d k place best = refl

past_part_tests : (d : PlainDesign) (k : ℕ) (best : Option FoundBreak) → past_tests best (part_tests d k) ≡ past_one d best k
past_part_tests d k best =
    let part = component_at d k in
    past_append (past_own best part (below_at d k)) (statements d k) (mains d k)
    ∙ ap (λ b. past_tests b (mains d k)) (past_statement_tests part (below_at d k) k 0 (past_own best part (below_at d k)) (statements_in part))
    ∙ past_main (nat_eq k d.main) d k part.place (past_part best part (below_at d k))

past_below : (d : PlainDesign) (n : ℕ) → past_tests None (tests_below d n) ≡ past_first d n
past_below d zero = refl
past_below d (suc k) =
    past_append None (tests_below d k) (part_tests d k) ∙ ap (λ b. past_tests b (part_tests d k)) (past_below d k) ∙ past_part_tests d k (past_first d k)

-- THE ORDER of the tests is that of their spots
no_less : (x y : ℕ) (xs ys : List ℕ) → y ≤ x → (x ≡ y → comes_before xs ys ≡ false) → comes_before (x ∷ xs) (y ∷ ys) ≡ false
no_less x y xs ys le h = false_from_ne_true (comes_before (x ∷ xs) (y ∷ ys)) (λ e. either (before_cases x y xs ys e))
  where
    either : (x < y) ⊎ ((x ≡ y) × (comes_before xs ys ≡ true)) → ⊥
    either (inl lt) = omega arith
    either (inr (e, f)) = let g : false ≡ true = sym (h e) ∙ f in cc

-- the spots of a list are of one kind in one component, and their numbers rise from one on
abbrev IsRising : (ℕ → Part) → ℕ → ℕ → List Test → Type 0
IsRising kind k n [] = Unit {0}
IsRising kind k n (t ∷ ts) = (m : ℕ) × (t.spot ≡ record { component = k; part = kind m }) × (n ≤ m) × IsRising kind k m ts

rising_in : (kind : ℕ → Part) (k n : ℕ) (ts : List Test) (s : Test) → IsRising kind k n ts → In ts s → (m : ℕ) × (s.spot ≡ record { component = k; part = kind m }) × (n ≤ m)
rising_in kind k n [] s r i = absurd i
rising_in kind k n (t ∷ ts) s r (inl e) = (r.0, ap (λ u. u.spot) (sym e) ∙ r.1, r.2)
rising_in kind k n (t ∷ ts) s r (inr i) = let q = rising_in kind k r.0 ts s r.3 i in (q.0, q.1, (let a : n ≤ r.0 = r.2 in let b : r.0 ≤ q.0 = q.2 in omega arith))

rising_lower : (kind : ℕ → Part) (k n m : ℕ) (ts : List Test) → n ≤ m → IsRising kind k m ts → IsRising kind k n ts
rising_lower kind k n m [] le r = tt
rising_lower kind k n m (t ∷ ts) le r = (r.0, r.1, (let a : m ≤ r.0 = r.2 in omega arith), r.3)

rising_ascends : (kind : ℕ → Part) (a : ℕ) → ((m : ℕ) → part_key (kind m) ≡ a ∷ m ∷ []) → (k n : ℕ) (ts : List Test) → IsRising kind k n ts → IsAscending ts
rising_ascends kind a key k n [] r = tt
rising_ascends kind a key k n (t ∷ ts) r = (above, rising_ascends kind a key k r.0 ts r.3)
  where
    spot_is : (s : Spot) (m : ℕ) → s ≡ record { component = k; part = kind m } → spot_key s ≡ k ∷ a ∷ m ∷ []
    spot_is s m e = ap spot_key e ∙ ap (λ xs. k ∷ xs) (key m)

    above : (s : Test) → In ts s → comes_before (spot_key s.spot) (spot_key t.spot) ≡ false
    above s i =
        let q = rising_in kind k r.0 ts s r.3 i in
        let le : r.0 ≤ q.0 = q.2 in
        let h : comes_before (k ∷ a ∷ q.0 ∷ []) (k ∷ a ∷ r.0 ∷ []) ≡ false = no_less k k (a ∷ q.0 ∷ []) (a ∷ r.0 ∷ []) (omega arith) (λ e. no_less a a (q.0 ∷ []) (r.0 ∷ []) (omega arith) (λ f. no_less q.0 r.0 [] [] le (λ g. refl))) in
        ap (λ xs. comes_before xs (spot_key t.spot)) (spot_is s.spot q.0 q.1) ∙ ap (comes_before (k ∷ a ∷ q.0 ∷ [])) (spot_is t.spot r.0 r.1) ∙ h

statements_rise : (part : PlainComponent) (below : Inners) (k n : ℕ) (vs : List Visited) → IsRising AStatement k n (statement_tests part below k n vs)
statements_rise part below k n [] = tt
statements_rise part below k n (v ∷ vs) =
    (n, refl, omega arith, rising_lower AStatement k n (suc n) (statement_tests part below k (suc n) vs) (omega arith) (statements_rise part below k (suc n) vs))

owns_rise : (d : PlainDesign) (k : ℕ) → IsRising Itself k 0 (owns d k)
owns_rise d k = (0, refl, omega arith, (1, refl, omega arith, tt))

main_rise : (is_main : Bool) (d : PlainDesign) (k : ℕ) (place : Place) → IsRising Whole k 0 (main_tests is_main d k place)
main_rise true d k place = (5, refl, omega arith, (6, refl, omega arith, (7, refl, omega arith, (8, refl, omega arith, tt))))
main_rise false d k place = tt

mains_rise : (d : PlainDesign) (k : ℕ) → IsRising Whole k 0 (mains d k)
mains_rise d k = main_rise (nat_eq k d.main) d k (component_at d k).place

all_rise : (d : PlainDesign) (k : ℕ) → IsRising AStatement k 0 (statements d k)
all_rise d k = statements_rise (component_at d k) (below_at d k) k 0 (statements_in (component_at d k))

ascending_append : (xs ys : List Test) → IsAscending xs → IsAscending ys → ((s t : Test) → In xs s → In ys t → comes_before (spot_key t.spot) (spot_key s.spot) ≡ false) → IsAscending (xs ++ ys)
ascending_append [] ys a b h = b
ascending_append (x ∷ xs) ys (above, a) b h = ((λ s i. either s (in_either xs ys s i)), ascending_append xs ys a b (λ s t i j. h s t (inr i) j))
  where
    either : (s : Test) → In xs s ⊎ In ys s → comes_before (spot_key s.spot) (spot_key x.spot) ≡ false
    either s (inl i) = above s i
    either s (inr j) = h x s (inl refl) j

-- of two kinds the spots of the one come before those of the other
kinds_apart : (one other : ℕ → Part) (a b : ℕ) → ((m : ℕ) → part_key (one m) ≡ a ∷ m ∷ []) → ((m : ℕ) → part_key (other m) ≡ b ∷ m ∷ []) → a < b → (k : ℕ) (xs ys : List Test)
    → IsRising one k 0 xs → IsRising other k 0 ys → (s t : Test) → In xs s → In ys t → comes_before (spot_key t.spot) (spot_key s.spot) ≡ false
kinds_apart one other a b of_one of_other less k xs ys up above s t i j =
    let q = rising_in one k 0 xs s up i in
    let r = rising_in other k 0 ys t above j in
    let h : comes_before (k ∷ b ∷ r.0 ∷ []) (k ∷ a ∷ q.0 ∷ []) ≡ false =
    no_less k k (b ∷ r.0 ∷ []) (a ∷ q.0 ∷ []) (omega arith) (λ e. no_less b a (r.0 ∷ []) (q.0 ∷ []) (omega arith) (λ f. absurd (omega arith))) in
    ap (λ x. comes_before x (spot_key s.spot)) (ap spot_key r.1 ∙ ap (λ xs. k ∷ xs) (of_other r.0))
    ∙ ap (comes_before (k ∷ b ∷ r.0 ∷ [])) (ap spot_key q.1 ∙ ap (λ xs. k ∷ xs) (of_one q.0)) ∙ h

part_ascends : (d : PlainDesign) (k : ℕ) → IsAscending (part_tests d k)
part_ascends d k =
    ascending_append (owns d k) (statements d k ++ mains d k) (rising_ascends Itself 0 (λ m. refl) k 0 (owns d k) (owns_rise d k))
    (ascending_append (statements d k) (mains d k) (rising_ascends AStatement 3 (λ m. refl) k 0 (statements d k) (all_rise d k))
    (rising_ascends Whole 5 (λ m. refl) k 0 (mains d k) (mains_rise d k))
    (kinds_apart AStatement Whole 3 5 (λ m. refl) (λ m. refl) (omega arith) k (statements d k) (mains d k) (all_rise d k) (mains_rise d k)))
    (λ s t i j. ⊎_elim
    (λ one. kinds_apart Itself AStatement 0 3 (λ m. refl) (λ m. refl) (omega arith) k (owns d k) (statements d k) (owns_rise d k) (all_rise d k) s t i one)
    (λ one. kinds_apart Itself Whole 0 5 (λ m. refl) (λ m. refl) (omega arith) k (owns d k) (mains d k) (owns_rise d k) (mains_rise d k) s t i one)
    (in_either (statements d k) (mains d k) t j))

part_component : (d : PlainDesign) (k : ℕ) (t : Test) → In (part_tests d k) t → t.spot.component ≡ k
part_component d k t i = either (of_three d k t i)
  where
    at : (kind : ℕ → Part) (ts : List Test) → IsRising kind k 0 ts → In ts t → t.spot.component ≡ k
    at kind ts up j = ap (λ (s : Spot). s.component) (rising_in kind k 0 ts t up j).1

    either : In (owns d k) t ⊎ In (statements d k) t ⊎ In (mains d k) t → t.spot.component ≡ k
    either (inl j) = at Itself (owns d k) (owns_rise d k) j
    either (inr (inl j)) = at AStatement (statements d k) (all_rise d k) j
    either (inr (inr j)) = at Whole (mains d k) (mains_rise d k) j

below_component : (d : PlainDesign) (n : ℕ) (t : Test) → In (tests_below d n) t → t.spot.component < n
below_component d zero t i = absurd i
below_component d (suc k) t i =
    ⊎_elim (λ before. let lt : t.spot.component < k = below_component d k t before in omega arith) (λ last. let e : t.spot.component ≡ k = part_component d k t last in omega arith)
    (in_either (tests_below d k) (part_tests d k) t i)

all_ascend : (d : PlainDesign) (n : ℕ) → IsAscending (tests_below d n)
all_ascend d zero = tt
all_ascend d (suc k) =
    ascending_append (tests_below d k) (part_tests d k) (all_ascend d k) (part_ascends d k)
    (λ s t i j.
    let lt : s.spot.component < k = below_component d k s i in
    let e : t.spot.component ≡ k = part_component d k t j in
    no_less t.spot.component s.spot.component (part_key t.spot.part) (part_key s.spot.part) (omega arith) (λ f. absurd (omega arith)))

-- SOUND AND COMPLETE: a test that finds a limit exceeded is a break, and each break is found by a test
if_over_some : (l : Limited) (limit count : ℕ) (f : Limited) → if_over l limit count ≡ Some f → (limit < count) × (l ≡ f)
if_over_some l limit count f e = by (nat_lt limit count) refl e
  where
    by : (b : Bool) → nat_lt limit count ≡ b → (if b then Some l else None) ≡ Some f → (limit < count) × (l ≡ f)
    by true lt e = (ltb-true limit count lt, (let g : Some l ≡ Some f = e in cc))
    by false lt e = absurd (none_is_some f e)

if_over_is : (l : Limited) (limit count : ℕ) → limit < count → if_over l limit count ≡ Some l
if_over_is l limit count lt = ap (λ b. if b then Some l else None) (lt-ltb limit count lt)

limited_of_told : (l : rule.Limited) → limited_of (told l) ≡ l
limited_of_told OnCells = refl
limited_of_told OnGroups = refl
limited_of_told OnRepeat = refl
limited_of_told OnOccurrences = refl
limited_of_told OnLatency = refl
limited_of_told OnInstances = refl
limited_of_told OnDepth = refl
limited_of_told OnWords = refl
limited_of_told OnWeight = refl

mapped : (o : Option rule.Limited) (f : Limited) → option_map told o ≡ Some f → (l : rule.Limited) × (o ≡ Some l) × (told l ≡ f)
mapped None f e = absurd (none_is_some f e)
mapped (Some l) f e = (l, refl, (let g : Some (told l) ≡ Some f = e in cc))

-- the name of what was found
word_is : (l : rule.Limited) (f : Limited) → told l ≡ f → word_of (limited_of f) ≡ word_of l
word_is l f e = ap word_of (ap limited_of (sym e) ∙ limited_of_told l)

statement_test : (part : PlainComponent) (below : Inners) (k n : ℕ) (vs : List Visited) (t : Test) → In (statement_tests part below k n vs) t → (m : ℕ) × (v : Visited) × (slice_get vs m ≡ Some v) × (at_statement part below k (n + m) v ≡ t)
statement_test part below k n [] t i = absurd i
statement_test part below k n (v ∷ vs) t (inl e) = (0, v, refl, (let z : n + 0 ≡ n = omega arith in ap (λ x. at_statement part below k x v) z ∙ e))
statement_test part below k n (v ∷ vs) t (inr i) =
    let q = statement_test part below k (suc n) vs t i in
    (suc q.0, q.1, q.2, (let z : n + suc q.0 ≡ suc n + q.0 = omega arith in ap (λ x. at_statement part below k x q.1) z ∙ q.3))

statement_tested : (part : PlainComponent) (below : Inners) (k n m : ℕ) (vs : List Visited) (v : Visited) → slice_get vs m ≡ Some v → In (statement_tests part below k n vs) (at_statement part below k (n + m) v)
statement_tested part below k n m [] v e = absurd (none_is_some v e)
statement_tested part below k n zero (w ∷ vs) v e = inl ((let z : n ≡ n + 0 = omega arith in ap (λ x. at_statement part below k x w) z) ∙ (let same : w ≡ v = (let f : Some w ≡ Some v = e in cc) in ap (λ x. at_statement part below k (n + 0) x) same))
statement_tested part below k n (suc m) (w ∷ vs) v e =
    inr (subst (λ x. In (statement_tests part below k (suc n) vs) (at_statement part below k x v)) (let z : suc n + m ≡ n + suc m = omega arith in z) (statement_tested part below k (suc n) m vs v e))

from_part : (d : PlainDesign) (n : ℕ) (t : Test) → In (tests_below d n) t → (k : ℕ) × (k < n) × In (part_tests d k) t
from_part d zero t i = absurd i
from_part d (suc n) t i =
    ⊎_elim (λ before. let r = from_part d n t before in (r.0, (let lt : r.0 < n = r.1 in omega arith), r.2)) (λ last. (n, omega arith, last)) (in_either (tests_below d n) (part_tests d n) t i)

from_tested : (d : PlainDesign) (n k : ℕ) (t : Test) → k < n → In (part_tests d k) t → In (tests_below d n) t
from_tested d zero k t lt i = absurd (omega arith)
from_tested d (suc n) k t lt i =
    ⊎_elim (λ same. in_right (tests_below d n) (part_tests d n) t (subst (λ x. In (part_tests d x) t) (sym same) i))
    (λ other. in_left (tests_below d n) (part_tests d n) t (from_tested d n k t (⊎_elim (λ (less : k < n). less) (λ (ge : n ≤ k). absurd (other (omega arith))) (cases_lt k n)) i))
    (cases_eq n k)

module _ (d : PlainDesign) where
  abbrev all_tests : List Test
  all_tests = tests_below d (length d.components)

  abbrev IsBroken : Test → Limited → Type 0
  IsBroken t f = Breaks d told_rules.Limit t.spot t.place (word_of (limited_of f))

  over_capped : (limit n : ℕ) → limit < capped n → limit < n
  over_capped limit n h = omega arith

  over_uncapped : (limit n : ℕ) → limit < 2 ^ 64 - 1 → limit < n → limit < capped n
  over_uncapped limit n small h = omega arith

  statement_broken : (n : ℕ) (t : Test) (f : Limited) → n < length d.components → In (statements d n) t → t.limited ≡ Some f → IsBroken t f
  statement_broken n t f within i e =
      let q = statement_test (component_at d n) (below_at d n) n 0 (statements_in (component_at d n)) t i in
      let z : 0 + q.0 ≡ q.0 = omega arith in
      let same : at_statement (component_at d n) (below_at d n) n q.0 q.1 ≡ t = ap (λ x. at_statement (component_at d n) (below_at d n) n x q.1) (sym z) ∙ q.3 in
      let r = mapped (limit_at (component_at d n) (below_at d n) q.1) f (ap (λ (u : Test). u.limited) same ∙ e) in
      subst (λ (u : Test). Breaks d told_rules.Limit u.spot u.place (word_of (limited_of f))) same
      (inr (inr (inl (record {
        within = within;
        number = q.0;
        is = refl;
        statement = q.1;
        stands = q.2;
        breaks = (r.0, sym (limit_there d n q.1) ∙ r.1, (refl, word_is r.0 f r.2));
      }))))

  -- at main
  tree_broken : (n : ℕ) → n ≡ d.main → (t : Test) (f : Limited) → In (tree_tests d n (component_at d n).place) t → t.limited ≡ Some f
      → Breaks d told_rules.Limit t.spot t.place (word_of (limited_of f))
  tree_broken n main t f (inl same) e =
      let r = if_over_some limited.Instances INSTANCES (capped (counted_instances (tree_of d))) f (ap (λ (u : Test). u.limited) same ∙ e) in
      subst (λ (u : Test). Breaks d told_rules.Limit u.spot u.place (word_of (limited_of f))) same
      (inr (inr (inr (inl (record { at_main = main; is = refl; exceeds = over_capped INSTANCES (counted_instances (tree_of d)) r.0; tells = (ap (λ k. (component_at d k).place) main, word_is OnInstances f r.1) })))))
  tree_broken n main t f (inr (inl same)) e =
      let r = if_over_some limited.Depth INSTANCE_DEPTH (capped (counted_depth (tree_of d))) f (ap (λ (u : Test). u.limited) same ∙ e) in
      subst (λ (u : Test). Breaks d told_rules.Limit u.spot u.place (word_of (limited_of f))) same
      (inr (inr (inr (inr (inl (record { at_main = main; is = refl; exceeds = over_capped INSTANCE_DEPTH (counted_depth (tree_of d)) r.0; tells = (ap (λ k. (component_at d k).place) main, word_is OnDepth f r.1) }))))))
  tree_broken n main t f (inr (inr (inl same))) e =
      let r = if_over_some limited.Words MEMORY_WORDS (capped (words_below (tree_of d))) f (ap (λ (u : Test). u.limited) same ∙ e) in
      subst (λ (u : Test). Breaks d told_rules.Limit u.spot u.place (word_of (limited_of f))) same
      (inr (inr (inr (inr (inr (inl (record { at_main = main; is = refl; exceeds = over_capped MEMORY_WORDS (words_below (tree_of d)) r.0; tells = (ap (λ k. (component_at d k).place) main, word_is OnWords f r.1) })))))))
  tree_broken n main t f (inr (inr (inr (inl same)))) e =
      let r = if_over_some limited.Weight WEIGHT (capped (counted_weight (tree_of d))) f (ap (λ (u : Test). u.limited) same ∙ e) in
      subst (λ (u : Test). Breaks d told_rules.Limit u.spot u.place (word_of (limited_of f))) same
      (inr (inr (inr (inr (inr (inr (record { at_main = main; is = refl; exceeds = over_capped WEIGHT (counted_weight (tree_of d)) r.0; tells = (ap (λ k. (component_at d k).place) main, word_is OnWeight f r.1) })))))))
  tree_broken n main t f (inr (inr (inr (inr i)))) e = absurd i

  own_broken : (n : ℕ) (t : Test) (f : Limited) → n < length d.components → In (owns d n) t → t.limited ≡ Some f → IsBroken t f
  own_broken n t f within (inl same) e =
      let r = if_over_some limited.Cells CELLS (capped (cell_counts (below_at d n))) f (ap (λ (u : Test). u.limited) same ∙ e) in
      subst (λ (u : Test). Breaks d told_rules.Limit u.spot u.place (word_of (limited_of f))) same
      (inl (record {
        within = within;
        is = refl;
        exceeds = over_capped CELLS (counted_cells (component_of d n)) (subst (λ m. CELLS < m) (cells_there d n within) r.0);
        tells = (refl, word_is OnCells f r.1);
      }))
  own_broken n t f within (inr (inl same)) e =
      let part = component_at d n in
      let r = if_over_some limited.Groups GROUPS (capped (length part.groups + groups_for (below_at d n) part.invokes)) f (ap (λ (u : Test). u.limited) same ∙ e) in
      subst (λ (u : Test). Breaks d told_rules.Limit u.spot u.place (word_of (limited_of f))) same
      (inr (inl (record {
        within = within;
        is = refl;
        exceeds = over_capped GROUPS (counted_groups (component_of d n)) (subst (λ m. GROUPS < m) (groups_there d n) r.0);
        tells = (refl, word_is OnGroups f r.1);
      })))
  own_broken n t f within (inr (inr i)) e = absurd i

  main_broken : (n : ℕ) (t : Test) (f : Limited) → In (mains d n) t → t.limited ≡ Some f → IsBroken t f
  main_broken n t f i e = by (nat_eq n d.main) refl i
    where
      by : (b : Bool) → nat_eq n d.main ≡ b → In (main_tests b d n (component_at d n).place) t → Breaks d told_rules.Limit t.spot t.place (word_of (limited_of f))
      by true h i = tree_broken n (eqb-true n d.main h) t f i e
      by false h i = absurd i

  -- each test that finds a limit exceeded is a break
  sound : (t : Test) (f : Limited) → In all_tests t → t.limited ≡ Some f → IsBroken t f
  sound t f i e =
      let r = from_part d (length d.components) t i in
      ⊎_elim (λ own. own_broken r.0 t f r.1 own e) (λ lower. ⊎_elim (λ one. statement_broken r.0 t f r.1 one e) (λ one. main_broken r.0 t f one e) lower) (of_three d r.0 t r.2)

  -- a break is found by a test
  abbrev IsFoundAt : Spot → Place → Type 0
  IsFoundAt spot place = (t : Test) × (f : Limited) × In all_tests t × (t.spot ≡ spot) × (t.place ≡ place) × (t.limited ≡ Some f)

  own_tested : (n : ℕ) (t : Test) → n < length d.components → In (owns d n) t → In all_tests t
  own_tested n t lt i = from_tested d (length d.components) n t lt (in_left (owns d n) (statements d n ++ mains d n) t i)

  statement_is_tested : (n : ℕ) (t : Test) → n < length d.components → In (statements d n) t → In all_tests t
  statement_is_tested n t lt i = from_tested d (length d.components) n t lt (in_right (owns d n) (statements d n ++ mains d n) t (in_left (statements d n) (mains d n) t i))

  tree_tested : (t : Test) → d.main < length d.components → In (tree_tests d d.main (component_at d d.main).place) t → In all_tests t
  tree_tested t lt i =
      from_tested d (length d.components) d.main t lt
      (in_right (owns d d.main) (statements d d.main ++ mains d d.main) t
      (in_right (statements d d.main) (mains d d.main) t
      (subst (λ b. In (main_tests b d d.main (component_at d d.main).place) t) (sym (eq-eqb d.main d.main refl)) (of_main i))))
    where
      of_main : In (tree_tests d d.main (component_at d d.main).place) t → In (main_tests true d d.main (component_at d d.main).place) t
      of_main i = i

  spot_is : (spot : Spot) (c : ℕ) (part : Part) → spot.component ≡ c → spot.part ≡ part → record { component = c; part = part } ≡ spot
  spot_is spot c part e f = λ i. record { component = sym e i; part = sym f i }

  word_found : (kind : ℕ → Part) (l : rule.Limited) (limit count : ℕ) (spot : Spot) (place : Place) (c : ℕ) → spot.component ≡ c → spot.part ≡ kind (order_of l) → limit < count
      → place ≡ (component_at d c).place → In all_tests (at_word kind c (component_at d c).place l limit count) → IsFoundAt spot place
  word_found kind l limit count spot place c at is exceeds told_at i =
      (at_word kind c (component_at d c).place l limit count, told l, i, spot_is spot c (kind (order_of l)) at is, sym told_at, if_over_is (told l) limit count exceeds)

  statement_found : (spot : Spot) (place : Place) (name : List ℕ) → OnStatement BreaksStatement d spot place name → IsFoundAt spot place
  statement_found spot place name b =
      let k : ℕ = spot.component in
      let z : 0 + b.number ≡ b.number = omega arith in
      let i : In (statements d k) (at_statement (component_at d k) (below_at d k) k b.number b.statement) =
      subst (λ x. In (statements d k) (at_statement (component_at d k) (below_at d k) k x b.statement)) z
      (statement_tested (component_at d k) (below_at d k) k 0 b.number (statements_in (component_at d k)) b.statement b.stands) in (
        at_statement (component_at d k) (below_at d k) k b.number b.statement,
        told b.breaks.0,
        statement_is_tested k (at_statement (component_at d k) (below_at d k) k b.number b.statement) b.within i,
        spot_is spot k (AStatement b.number) refl b.is,
        sym b.breaks.2.0,
        ap (option_map told) (limit_there d k b.statement ∙ b.breaks.1),
      )

  complete : d.main < length d.components → (spot : Spot) (place : Place) (name : List ℕ) → Breaks d told_rules.Limit spot place name → IsFoundAt spot place
  complete main spot place name (inl b) =
      let k : ℕ = spot.component in
      word_found Itself OnCells CELLS (capped (cell_counts (below_at d k))) spot place k refl b.is
      (subst (λ m. CELLS < m) (sym (cells_there d k b.within)) (over_uncapped CELLS (counted_cells (component_of d k)) (omega arith) b.exceeds)) b.tells.0
      (own_tested k _ b.within (inl refl))
  complete main spot place name (inr (inl b)) =
      let k : ℕ = spot.component in
      let part = component_at d k in
      word_found Itself OnGroups GROUPS (capped (length part.groups + groups_for (below_at d k) part.invokes)) spot place k refl b.is
      (subst (λ m. GROUPS < m) (sym (groups_there d k)) (over_uncapped GROUPS (counted_groups (component_of d k)) (omega arith) b.exceeds)) b.tells.0
      (own_tested k _ b.within (inr (inl refl)))
  complete main spot place name (inr (inr (inl b))) = statement_found spot place name b
  complete main spot place name (inr (inr (inr (inl b)))) =
      word_found Whole OnInstances INSTANCES (capped (counted_instances (tree_of d))) spot place d.main b.at_main b.is (over_uncapped INSTANCES (counted_instances (tree_of d)) (omega arith) b.exceeds) b.tells.0
      (tree_tested _ main (inl refl))
  complete main spot place name (inr (inr (inr (inr (inl b))))) =
      word_found Whole OnDepth INSTANCE_DEPTH (capped (counted_depth (tree_of d))) spot place d.main b.at_main b.is (over_uncapped INSTANCE_DEPTH (counted_depth (tree_of d)) (omega arith) b.exceeds) b.tells.0
      (tree_tested _ main (inr (inl refl)))
  complete main spot place name (inr (inr (inr (inr (inr (inl b)))))) =
      word_found Whole OnWords MEMORY_WORDS (capped (words_below (tree_of d))) spot place d.main b.at_main b.is (over_uncapped MEMORY_WORDS (words_below (tree_of d)) (omega arith) b.exceeds) b.tells.0
      (tree_tested _ main (inr (inr (inl refl))))
  complete main spot place name (inr (inr (inr (inr (inr (inr b)))))) =
      word_found Whole OnWeight WEIGHT (capped (counted_weight (tree_of d))) spot place d.main b.at_main b.is (over_uncapped WEIGHT (counted_weight (tree_of d)) (omega arith) b.exceeds) b.tells.0
      (tree_tested _ main (inr (inr (inr (inl refl)))))

  -- THE ANSWERS of a scan
  rule_is_limit : (r : Rule) → stage_of r ≡ 7 → r ≡ told_rules.Limit
  rule_is_limit told_rules.Limit e = refl
  rule_is_limit _ e = absurd (omega arith)

  best : IsBest all_tests (past_all d)
  best = subst (IsBest all_tests) (past_below d (length d.components)) (best_of all_tests (all_ascend d (length d.components)))

  -- where nothing was found no limit is broken
  pub none_found : d.main < length d.components → past_all d ≡ None → KeepsStage 7 d
  none_found main e r spot place name stage b =
      let is : Breaks d told_rules.Limit spot place name = subst (λ x. Breaks d x spot place name) (rule_is_limit r stage) b in
      let q : IsFoundAt spot place = complete main spot place name is in
      let none : IsBest all_tests None = subst (IsBest all_tests) e best in
      none_is_some q.1 (sym (none q.0 q.2) ∙ q.5)

  -- what was found is the first break
  pub first_found : d.main < length d.components → (f : FoundBreak) (told_as : Diagnostic) → past_all d ≡ Some f
      → told_as.rule ≡ told_rules.Limit → told_as.place ≡ f.place → told_as.name ≡ word_of (limited_of f.limited) → IsFirstOf 7 d told_as
  first_found main f told_as e rule_is place_is name_is = by (subst (IsBest all_tests) e best)
    where
      by : IsBest all_tests (Some f) → IsFirstOf 7 d told_as
      by (t, b) = record {
        in_stage = ap stage_of rule_is;
        spot = t.spot;
        breaks = breaks;
        first = first;
      }
        where
          place_same : t.place ≡ told_as.place
          place_same = b.place ∙ sym place_is

          breaks : Breaks d told_as.rule t.spot told_as.place told_as.name
          breaks =
              subst (λ r. Breaks d r t.spot told_as.place told_as.name) (sym rule_is)
              (subst (λ p. Breaks d told_rules.Limit t.spot p told_as.name) place_same
              (subst (λ n. Breaks d told_rules.Limit t.spot t.place n) (sym name_is) (sound t f.limited b.stands b.exceeds)))

          key_same : limit_key t.spot t.place ≡ key_of told_as.rule t.spot told_as.place
          key_same = ap (λ p. key_of told_rules.Limit t.spot p) place_same ∙ ap (λ r. key_of r t.spot told_as.place) (sym rule_is)

          first : (r : Rule) (other : Spot) (place : Place) (name : List ℕ) → stage_of r ≡ 7 → Breaks d r other place name → comes_before (key_of r other place) (key_of told_as.rule t.spot told_as.place) ≡ false
          first r other place name stage breaks_too =
              let is : Breaks d told_rules.Limit other place name = subst (λ x. Breaks d x other place name) (rule_is_limit r stage) breaks_too in
              let q : IsFoundAt other place = complete main other place name is in
              let h : comes_before (limit_key q.0.spot q.0.place) (limit_key t.spot t.place) ≡ false = b.first q.0 q.1 q.2 q.5 in
              subst (λ x. comes_before (key_of x other place) (key_of told_as.rule t.spot told_as.place) ≡ false) (sym (rule_is_limit r stage))
              (subst (λ k. comes_before (limit_key other place) k ≡ false) key_same
              (subst (λ s. comes_before (limit_key s place) (limit_key t.spot t.place) ≡ false) q.3
              (subst (λ p. comes_before (limit_key q.0.spot p) (limit_key t.spot t.place) ≡ false) q.4 h)))
