-- The limits at a statement: which are exceeded, and which are not where none is told.
use Rattle.std.proofs.Common.{◌≡◌, ℕ, ◌≤◌, Bool, true, false, ◌&&◌, ◌||◌, Option, Some, None, refl, ap, ap₂, ◌∙◌}
use Rattle.std.specs.Prelude.{nat_lt, nat_le, if◌then◌else◌}
use Rattle.std.proofs.lemmas.Bool.{le-leb}
use Rattle.cx_text.proofs.BoolLaws.{and_true}
use Rattle.cx_text.specs.declared.limits.TheConstants.{OCCURRENCES, REPETITIONS}
use Rattle.cx_meaning.specs.Designs.{PlainDesign, component_at}
use Rattle.cx_meaning.specs.Instances.{Instance, part_of, tree_within}
use Rattle.cx_meaning.specs.Islands.{form_length}
use Rattle.cx_meaning.proofs.DesignsLemmas.{same_part}
use Rattle.cx_rules.specs.Items.{Visited}
use Rattle.cx_rules.specs.StaticControl.{is_island}
use Rattle.cx_rules.specs.Invokes.{form_lasts}
use Rattle.cx_rules.specs.Counts.{is_any_island, occurrences_at}
use Rattle.cx_rules.specs.LimitRule.{Limited, OnRepeat, OnOccurrences, OnLatency, count_in, is_too_many, first_limit, statement_limit, flat_limit}
use Rattle.cx_rules.specs.Flat.{IsFlat}
use Rattle.cx_rules.proofs.CountsLemmas.{any_island-flat, occurrences_at-flat, lasts_within}

-- the first limit of three
abbrev pub first_of : Bool → Bool → Bool → Option Limited
first_of many occurs long = if many then Some OnRepeat else if occurs then Some OnOccurrences else if long then Some OnLatency else None

some_limit : (many occurs long : Bool) → long ≡ true → (limited : Limited) × (first_of many occurs long ≡ Some limited)
some_limit true occurs long e = (OnRepeat, refl)
some_limit false true long e = (OnOccurrences, refl)
some_limit false false long e = (OnLatency, ap (λ b. if b then Some OnLatency else None) e)

island_too : (island other : Bool) → island ≡ true → (island || other) ≡ true
island_too island other e = ap (λ b. b || other) e

-- a count of rounds that is too great is told
pub over_repeat : (i : Instance) (v : Visited) → is_too_many (count_in v.form) ≡ true → statement_limit i v ≡ Some OnRepeat
over_repeat i v e =
    ap (λ b. first_of b (is_any_island (part_of i) v && nat_lt OCCURRENCES (occurrences_at i v.form)) (is_any_island (part_of i) v && nat_le REPETITIONS (form_lasts (part_of i) v.form))) e

-- of an island that lasts too long a limit is told
pub over_latency : (i : Instance) (v : Visited) → is_island (part_of i) v ≡ true → REPETITIONS ≤ form_lasts (part_of i) v.form → (limited : Limited) × (statement_limit i v ≡ Some limited)
over_latency i v island long =
    some_limit (is_too_many (count_in v.form)) (is_any_island (part_of i) v && nat_lt OCCURRENCES (occurrences_at i v.form)) (is_any_island (part_of i) v && nat_le REPETITIONS (form_lasts (part_of i) v.form))
    (and_true (is_any_island (part_of i) v) (nat_le REPETITIONS (form_lasts (part_of i) v.form)) (island_too (is_island (part_of i) v) _ island) (le-leb REPETITIONS (form_lasts (part_of i) v.form) long))

-- where none is told there are few rounds, and no island lasts too long
pub keeps_limits : (i : Instance) (v : Visited) → statement_limit i v ≡ None
    → (is_too_many (count_in v.form) ≡ false) × ((is_island (part_of i) v && nat_le REPETITIONS (form_lasts (part_of i) v.form)) ≡ false)
keeps_limits i v none =
    by (is_too_many (count_in v.form)) (is_any_island (part_of i) v && nat_lt OCCURRENCES (occurrences_at i v.form)) (is_island (part_of i) v) _ (nat_le REPETITIONS (form_lasts (part_of i) v.form)) none
  where
    by : (many occurs island other long : Bool) → first_of many occurs ((island || other) && long) ≡ None → (many ≡ false) × ((island && long) ≡ false)
    by true occurs island other long e = absurd cc
    by false true island other long e = absurd cc
    by false false true other true e = absurd cc
    by false false true other false e = (refl, refl)
    by false false false other long e = (refl, refl)

-- WITHOUT STATIC COMPONENTS a limit is on what stands there
pub statement_limit-flat : (d : PlainDesign) → IsFlat d → (n k : ℕ) (v : Visited) → statement_limit (tree_within d n k) v ≡ flat_limit (component_at d k) v
statement_limit-flat d flat n k v =
    ap (λ b. first_limit (is_too_many (count_in v.form)) b (occurrences_at (tree_within d n k) v.form) (form_lasts (part_of (tree_within d n k)) v.form)) (any_island-flat d flat n k v)
    ∙ ap₂ (first_limit (is_too_many (count_in v.form)) (is_island (component_at d k) v)) (occurrences_at-flat d flat n k v.form)
    (lasts_within d flat n k v.form ∙ ap (λ part. form_length part v.form) (same_part d n k))
