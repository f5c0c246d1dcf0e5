-- How many groups are enabled below a number, by a list that ends above all of them.
use Rattle.std.proofs.Common.{◌≡◌, ℕ, zero, suc, ◌+◌, ◌-◌, ◌<◌, ◌≤◌, Bool, true, false, nat_eq, List, ◌∷◌, ⊎_elim, length, get_or, map, refl, sym, ap, ◌∙◌, arith}
use Rattle.std.specs.List.{range_with_len}
use Rattle.std.proofs.lemmas.Bool.{cases_lt, eqb-true}
use Rattle.std.proofs.lemmas.List.FromFn.{get_or-map-range_with_len, length-map-range_with_len}
use Rattle.std.proofs.lemmas.Option.{slice_get-get_or, slice_get_past}
use Rattle.cx_rules.specs.Counts.{is_one_of}
use Rattle.cx_flattening.specs.Copies.{count_if, enabled_below}
use Rattle.cx_flat.specs.Enabling.{or_count, below_by}

-- past a bound none is one of a list
abbrev pub PastAll : ℕ → List ℕ → Type 0
PastAll bound used = (g : ℕ) → bound ≤ g → is_one_of g used ≡ false

pub apart : (g h : ℕ) → h < g → nat_eq g h ≡ false
apart g h less = by (nat_eq g h) refl
  where
    by : (b : Bool) → nat_eq g h ≡ b → nat_eq g h ≡ false
    by true e = absurd (let same : g ≡ h = eqb-true g h e in omega (arith, same, less))
    by false e = e

-- no more are enabled past the bound
below_past : (used : List ℕ) (bound more : ℕ) → PastAll bound used → enabled_below used (more + bound) ≡ enabled_below used bound
below_past used bound zero all = ap (enabled_below used) (let e : zero + bound ≡ bound = omega arith in e)
below_past used bound (suc more) all =
    ap (enabled_below used) (let e : suc more + bound ≡ suc (more + bound) = omega arith in e)
    ∙ ap (λ b. count_if b (enabled_below used (more + bound))) (all (more + bound) (omega arith))
    ∙ below_past used bound more all

-- THE LIST tells how many are enabled below each number
pub below_is : (used below : List ℕ) (bound count g : ℕ) → PastAll bound used → below ≡ map (enabled_below used) (range_with_len 0 bound) → count ≡ enabled_below used bound → below_by below count g ≡ enabled_below used g
below_is used below bound count g all is counted = ⊎_elim within past (cases_lt g bound)
  where
    size : length below ≡ bound
    size = ap length is ∙ length-map-range_with_len (enabled_below used) 0 bound

    within : g < bound → below_by below count g ≡ enabled_below used g
    within less =
        ap (λ o. or_count o count) (slice_get-get_or below g 0 (let s = size in omega (arith, s, less)))
        ∙ ap (λ xs. get_or xs g 0) is ∙ get_or-map-range_with_len (enabled_below used) 0 bound g g 0 less (let e : 0 + g ≡ g = omega arith in e)

    past : bound ≤ g → below_by below count g ≡ enabled_below used g
    past le =
        ap (λ o. or_count o count) (slice_get_past below g (let s = size in omega (arith, s, le)))
        ∙ counted ∙ sym (below_past used bound (g - bound) all)
        ∙ ap (enabled_below used) (let e : (g - bound) + bound ≡ g = omega (arith, le) in e)
