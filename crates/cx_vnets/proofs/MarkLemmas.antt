-- The search for the next mark among the bytes from a rank on.
use Rattle.std.proofs.Common.{◌≡◌, ℕ, ◌+◌, ◌-◌, ◌<◌, ◌≤◌, List, length, get_or, drop, nat_eq, slice_index, slice_range, ap, sym, ◌∙◌, subst, arith, ⊎_elim, get_or-take, get_or-drop, length-drop, length-take-le}
use Rattle.std.proofs.lemmas.Bool.{cases_Bool, cases_lt}
use Rattle.memchr.specs.Find.{Nowhere, NoneBefore, Passes, is_byte}
use Rattle.cx_vnets.specs.Stale.{is_stale, NoneStale, IsNext}

module _ (stale : List ℕ) (from : ℕ) (low : from ≤ length stale) where
  abbrev rest : List ℕ
  rest = slice_range stale from (length stale)

  rest_long : length rest ≡ length stale - from
  rest_long = let long = length-drop from stale in length-take-le (length stale - from) (drop from stale) (omega (arith, long))

  rest_at : (k : ℕ) → k < length stale - from → get_or rest k 0 ≡ get_or stale (from + k) 0
  rest_at k lt = get_or-take (length stale - from) (drop from stale) k 0 lt ∙ get_or-drop from stale k 0

  marked_at : (k : ℕ) → k < length stale - from → is_byte 1 (slice_index rest k) ≡ is_stale stale (from + k)
  marked_at k lt = ap (λ b. nat_eq b 1) (rest_at k lt)

  unmarked : (to : ℕ) → to ≤ length stale - from → Nowhere (Passes (is_byte 1) rest) 0 to → NoneStale stale from (from + to)
  unmarked to le none k a b =
      let split : from + (k - from) ≡ k = omega arith in
      let lt : k - from < to = omega arith in
      let below : k - from < length stale - from = omega (arith, lt, le) in
      ⊎_elim (λ yes. absurd (none (k - from) (omega arith) lt (marked_at (k - from) below ∙ ap (is_stale stale) split ∙ yes))) (λ no. no) (cases_Bool (is_stale stale k))

  pub none_marked : Nowhere (Passes (is_byte 1) rest) 0 (length rest) → NoneStale stale from (length stale)
  none_marked none =
      let whole : from + (length stale - from) ≡ length stale = omega (arith, low) in
      subst (NoneStale stale from) whole (unmarked (length stale - from) (omega arith) (subst (Nowhere (Passes (is_byte 1) rest) 0) rest_long none))

  pub next_is : (steps : ℕ) → NoneBefore (Passes (is_byte 1) rest) 0 (length rest) steps → Passes (is_byte 1) rest steps → IsNext stale from (from + steps)
  next_is steps before passes =
      let lt : steps < length stale - from = subst (λ n. steps < n) rest_long before.high in
      record {
        low = omega arith;
        high = omega (arith, lt);
        before = unmarked steps (omega (arith, lt)) before.before;
        marked = sym (marked_at steps lt) ∙ passes;
      }

-- no mark up to a rank, and none from there on
pub none_stale_on : (stale : List ℕ) (from between to : ℕ) → NoneStale stale from between → NoneStale stale between to → NoneStale stale from to
none_stale_on stale from between to first second k le lt = ⊎_elim (λ below. first k le below) (λ above. second k above lt) (cases_lt k between)

-- the same, where a mark stands behind
pub is_next_on : (stale : List ℕ) (from between next : ℕ) → from ≤ between → NoneStale stale from between → IsNext stale between next → IsNext stale from next
is_next_on stale from between next le first is = let low = is.low in record {
  low = omega (arith, le, low);
  high = is.high;
  before = none_stale_on stale from between next first is.before;
  marked = is.marked;
}
