-- Where a statement of an island is in a cycle: its offset, from the counts of timers and the samples.
use Rattle.std.proofs.Common.{◌≡◌, ℕ, zero, suc, ◌+◌, ◌-◌, ◌*◌, ◌%◌, ◌<◌, ◌≤◌, ⊎_elim, ◌&&◌, not, nat_le, nat_lt, Bool, true, false, if◌then◌else◌, List, [], ◌∷◌, ◌++◌, Option, Some, None, option_map, option_and_then, refl, sym, ap, ◌∙◌, arith}
use Rattle.std.proofs.lemmas.Bool.{cases_lt, lt-ltb, le-ltb, le-leb, lt-leb}
use Rattle.std.proofs.lemmas.Nat.{mod_below}
use Rattle.cx_static.specs.declared.islands.Sample.{Sample}
use Rattle.cx_static.specs.Lowering.{Begin, begin_at, later, if_sampled}
use Rattle.cx_control.specs.Sampling.{within_length, behind_length, where_so}
use Rattle.cx_wiring.specs.TimerCounts.{nested}

-- the offset in so many cycles from a count on
abbrev pub range_in : ℕ → ℕ → Option ℕ → Option ℕ
range_in from n None = None
range_in from n (Some c) = if nat_le from c && nat_lt c (from + n) then Some (c - from) else None

-- a number is before a range, in it, or behind it
pub data Lies (from n c : ℕ) : Type 0 where
  before : c < from → Lies from n c
  in_it : from ≤ c → c < from + n → Lies from n c
  behind : from ≤ c → from + n ≤ c → Lies from n c

pub lies : (from n c : ℕ) → Lies from n c
lies from n c = ⊎_elim before (λ l. ⊎_elim (λ m. in_it l m) (λ m. behind l m) (cases_lt c (from + n))) (cases_lt c from)

pub at_before : (from n c : ℕ) → c < from → range_in from n (Some c) ≡ None
at_before from n c l = ap (λ b. if b && nat_lt c (from + n) then Some (c - from) else None) (lt-leb from c l)

pub at_in : (from n c : ℕ) → from ≤ c → c < from + n → range_in from n (Some c) ≡ Some (c - from)
at_in from n c l m = ap (λ b. if b && nat_lt c (from + n) then Some (c - from) else None) (le-leb from c l) ∙ ap (λ b. if b then Some (c - from) else None) (lt-ltb c (from + n) m)

pub at_behind : (from n c : ℕ) → from ≤ c → from + n ≤ c → range_in from n (Some c) ≡ None
at_behind from n c l m = ap (λ b. if b && nat_lt c (from + n) then Some (c - from) else None) (le-leb from c l) ∙ ap (λ b. if b then Some (c - from) else None) (le-ltb c (from + n) m)

pub within_in : (p j : ℕ) → j < p → within_length p j ≡ Some j
within_in p j l = ap (λ b. if b then Some j else None) (lt-ltb j p l)

pub within_out : (p j : ℕ) → p ≤ j → within_length p j ≡ None
within_out p j l = ap (λ b. if b then Some j else None) (le-ltb j p l)

-- a shorter part that begins at once
pub range_short : (from n m : ℕ) → m ≤ n → (o : Option ℕ) → option_and_then (within_length m) (range_in from n o) ≡ range_in from m o
range_short from n m less None = refl
range_short from n m less (Some c) = by (lies from n c)
  where
    by : Lies from n c → option_and_then (within_length m) (range_in from n (Some c)) ≡ range_in from m (Some c)
    by (before l) = ap (option_and_then (within_length m)) (at_before from n c l) ∙ sym (at_before from m c l)
    by (behind l f) = ap (option_and_then (within_length m)) (at_behind from n c l f) ∙ sym (at_behind from m c l (omega arith))
    by (in_it l f) =
        ap (option_and_then (within_length m)) (at_in from n c l f)
        ∙ ⊎_elim (λ g. within_in m (c - from) (omega arith) ∙ sym (at_in from m c l g)) (λ g. within_out m (c - from) (omega arith) ∙ sym (at_behind from m c l g)) (cases_lt c (from + m))

-- a part behind one of so many cycles
pub range_behind : (from n m : ℕ) → (o : Option ℕ) → option_and_then (behind_length n) (range_in from (n + m) o) ≡ range_in (from + n) m o
range_behind from n m None = refl
range_behind from n m (Some c) = by (lies from (n + m) c)
  where
    early : (j : ℕ) → j < n → behind_length n j ≡ None
    early j l = ap (λ b. if b then None else Some (j - n)) (lt-ltb j n l)

    late : (j : ℕ) → n ≤ j → behind_length n j ≡ Some (j - n)
    late j l = ap (λ b. if b then None else Some (j - n)) (le-ltb j n l)

    by : Lies from (n + m) c → option_and_then (behind_length n) (range_in from (n + m) (Some c)) ≡ range_in (from + n) m (Some c)
    by (before l) = ap (option_and_then (behind_length n)) (at_before from (n + m) c l) ∙ sym (at_before (from + n) m c (omega arith))
    by (behind l f) = ap (option_and_then (behind_length n)) (at_behind from (n + m) c l f) ∙ sym (at_behind (from + n) m c (omega arith) (omega arith))
    by (in_it l f) =
        ap (option_and_then (behind_length n)) (at_in from (n + m) c l f)
        ∙ ⊎_elim
        (λ g. early (c - from) (omega arith) ∙ sym (at_before (from + n) m c (omega arith)))
        (λ g. let e : (c - from) - n ≡ c - (from + n) = omega arith in late (c - from) (omega arith) ∙ ap Some e ∙ sym (at_in (from + n) m c (omega arith) (omega arith)))
        (cases_lt c (from + n))

-- a round of a body of p cycles
pub range_round : (from count p : ℕ) (o : Option ℕ) → range_in 0 p (nested from (from + count * p) p o) ≡ option_map (λ j. j % p) (range_in from (count * p) o)
range_round from count p None = refl
range_round from count p (Some c) = by (lies from (count * p) c)
  where
    some_p : (k q : ℕ) → 0 < k * q → 0 < q
    some_p k zero some = let none : k * 0 ≡ 0 = omega arith in absurd (omega arith)
    some_p k (suc q) some = omega arith

    by : Lies from (count * p) c → range_in 0 p (nested from (from + count * p) p (Some c)) ≡ option_map (λ j. j % p) (range_in from (count * p) (Some c))
    by (before l) =
        ap (λ b. range_in 0 p (if b && nat_lt c (from + count * p) then Some ((c - from) % p) else None)) (lt-leb from c l) ∙ sym (ap (option_map (λ j. j % p)) (at_before from (count * p) c l))
    by (behind l f) =
        ap (λ b. range_in 0 p (if b && nat_lt c (from + count * p) then Some ((c - from) % p) else None)) (le-leb from c l)
        ∙ ap (λ b. range_in 0 p (if b then Some ((c - from) % p) else None)) (le-ltb c (from + count * p) f)
        ∙ sym (ap (option_map (λ j. j % p)) (at_behind from (count * p) c l f))
    by (in_it l f) =
        let some : 0 < p = some_p count p (omega arith) in
        let below : (c - from) % p < p = mod_below (c - from) p some in
        let same : (c - from) % p - 0 ≡ (c - from) % p = omega arith in
        ap (λ b. range_in 0 p (if b && nat_lt c (from + count * p) then Some ((c - from) % p) else None)) (le-leb from c l)
        ∙ ap (λ b. range_in 0 p (if b then Some ((c - from) % p) else None)) (lt-ltb c (from + count * p) f)
        ∙ at_in 0 p ((c - from) % p) (omega arith) (omega arith) ∙ ap Some same
        ∙ sym (ap (option_map (λ j. j % p)) (at_in from (count * p) c l f))

-- WHERE A STATEMENT of n cycles is: nowhere where the samples are not as wanted
module _ (counts : ℕ → Option ℕ) (kept : ℕ → Bool) where
  abbrev pub is_wanted : Sample → Bool
  is_wanted s = if s.wanted then kept s.point else not (kept s.point)

  abbrev pub are_wanted : List Sample → Bool
  are_wanted [] = true
  are_wanted (s ∷ rest) = is_wanted s && are_wanted rest

  abbrev pub live_in : Begin → ℕ → Option ℕ
  live_in x n = where_so (are_wanted x.samples) (range_in x.at n (counts x.timer))

  pub live_short : (x : Begin) (n m : ℕ) → m ≤ n → option_and_then (within_length m) (live_in x n) ≡ live_in x m
  live_short x n m less = by (are_wanted x.samples)
    where
      by : (b : Bool) → option_and_then (within_length m) (where_so b (range_in x.at n (counts x.timer))) ≡ where_so b (range_in x.at m (counts x.timer))
      by true = range_short x.at n m less (counts x.timer)
      by false = refl

  pub live_behind : (x : Begin) (n m : ℕ) → option_and_then (behind_length n) (live_in x (n + m)) ≡ live_in (later n x) m
  live_behind x n m = by (are_wanted x.samples)
    where
      by : (b : Bool) → option_and_then (behind_length n) (where_so b (range_in x.at (n + m) (counts x.timer))) ≡ where_so b (range_in (x.at + n) m (counts x.timer))
      by true = range_behind x.at n m (counts x.timer)
      by false = refl

  pub live_round : (x : Begin) (t count p : ℕ) → counts t ≡ nested x.at (x.at + count * p) p (counts x.timer) → live_in (begin_at t 0 x.samples) p ≡ option_map (λ j. j % p) (live_in x (count * p))
  live_round x t count p e = by (are_wanted x.samples)
    where
      by : (b : Bool) → where_so b (range_in 0 p (counts t)) ≡ option_map (λ j. j % p) (where_so b (range_in x.at (count * p) (counts x.timer)))
      by true = ap (range_in 0 p) e ∙ range_round x.at count p (counts x.timer)
      by false = refl

  wanted_more : (xs : List Sample) (y : Sample) → are_wanted (xs ++ y ∷ []) ≡ are_wanted xs && is_wanted y
  wanted_more [] y = by (is_wanted y)
    where
      by : (b : Bool) → (b && true) ≡ b
      by true = refl
      by false = refl
  wanted_more (x ∷ xs) y = ap (λ b. is_wanted x && b) (wanted_more xs y) ∙ by (is_wanted x) (are_wanted xs) (is_wanted y)
    where
      by : (a b c : Bool) → (a && (b && c)) ≡ ((a && b) && c)
      by true b c = refl
      by false b c = refl

  both_so : (a b : Bool) (o : Option ℕ) → where_so (a && b) o ≡ where_so b (where_so a o)
  both_so true true o = refl
  both_so true false o = refl
  both_so false true o = refl
  both_so false false o = refl

  pub live_true : (x : Begin) (n m : ℕ) → live_in (if_sampled n true x) m ≡ where_so (kept n) (live_in x m)
  live_true x n m = ap (λ b. where_so b (range_in x.at m (counts x.timer))) (wanted_more x.samples (record { point = n; wanted = true })) ∙ both_so (are_wanted x.samples) (kept n) (range_in x.at m (counts x.timer))

  pub live_false : (x : Begin) (n m : ℕ) → live_in (if_sampled n false x) m ≡ where_so (not (kept n)) (live_in x m)
  live_false x n m = ap (λ b. where_so b (range_in x.at m (counts x.timer))) (wanted_more x.samples (record { point = n; wanted = false })) ∙ both_so (are_wanted x.samples) (not (kept n)) (range_in x.at m (counts x.timer))
