-- The ports of a side by their numbers, one after the other, and what stands at them.
use Rattle.std.proofs.Common.{◌≡◌, ℕ, zero, suc, ◌+◌, ◌-◌, ◌<◌, ◌≤◌, ⊎_elim, Bool, true, false, List, get_or, [], ◌∷◌, ◌++◌, append_assoc, drop, drop-cons, length, set, Some, None, if◌then◌else◌, refl, sym, ap, ◌∙◌, subst, arith}
use Rattle.std.proofs.lemmas.Bool.{cases_eq, cases_lt}
use Rattle.std.proofs.lemmas.List.{get_or-set_other, get_or-set_same, length-set}
use Rattle.cx_bits.specs.BitVector.{BitVector}
use Rattle.cx_prim.specs.declared.ports.PortRow.{PortRow}
use Rattle.cx_prim.specs.declared.ports.Side.{Side}
use Rattle.cx_prim.specs.declared.ports.Side.TheVariants.{Enable, Plain, Output, Registered}
use Rattle.cx_prim.specs.Rows.{FitsPorts, Inputs, is_enable_side}
use Rattle.cx_meaning.specs.declared.sights.Seen.{Seen}
use Rattle.cx_meaning.specs.declared.sights.Seen.TheVariants.{Value}
use Rattle.cx_eval_drives.specs.Gathers.{AreWide}
use Rattle.cx_eval_cycle.specs.Ports.{AllStand, AreNumbered, KeepStanding, Stands, is_side, numbers_from}
use Rattle.cx_text.proofs.BoolLaws.{not_both}

-- SIDES
pub enable_side : (side : Side) → is_side Enable side ≡ is_enable_side side
enable_side Enable = refl
enable_side Plain = refl
enable_side Output = refl
enable_side Registered = refl

pub plain_apart : (side : Side) → is_side Plain side ≡ true → is_enable_side side ≡ false
plain_apart Enable e = absurd (cc)
plain_apart Plain e = refl
plain_apart Output e = refl
plain_apart Registered e = refl

-- NUMBERS as they are listed: those so far, with those of the ports that are left, are all
module _ (test : ℕ → Bool) (count : ℕ) where
  abbrev pub AreSoFar : List ℕ → ℕ → Type 0
  AreSoFar numbers p = numbers ++ numbers_from test p (count - p) ≡ numbers_from test 0 count

  pub so_far_begin : AreSoFar [] 0
  so_far_begin = let all : count - 0 ≡ count = omega arith in ap (numbers_from test 0) all

  one_more : (p : ℕ) → p < count → numbers_from test p (count - p) ≡ (if test p then p ∷ numbers_from test (p + 1) (count - (p + 1)) else numbers_from test (p + 1) (count - (p + 1)))
  one_more p lt =
      let left : count - p ≡ suc (count - (p + 1)) = omega arith in
      let next : suc p ≡ p + 1 = omega arith in
      ap (numbers_from test p) left ∙ ap (λ q. if test p then p ∷ numbers_from test q (count - (p + 1)) else numbers_from test q (count - (p + 1))) next

  pub so_far_skips : (numbers : List ℕ) (p : ℕ) → p < count → test p ≡ false → AreSoFar numbers p → AreSoFar numbers (p + 1)
  so_far_skips numbers p lt fails far =
      let rest = numbers_from test (p + 1) (count - (p + 1)) in
      ap (λ xs. numbers ++ xs) (sym (one_more p lt ∙ ap (λ b. if b then p ∷ rest else rest) fails)) ∙ far

  pub so_far_takes : (old new : List ℕ) (p : ℕ) → p < count → test p ≡ true → new ≡ old ++ p ∷ [] → AreSoFar old p → AreSoFar new (p + 1)
  so_far_takes old new p lt passes pushed far =
      let rest = numbers_from test (p + 1) (count - (p + 1)) in
      ap (λ xs. xs ++ rest) pushed ∙ append_assoc old (p ∷ []) rest ∙ ap (λ xs. old ++ xs) (sym (one_more p lt ∙ ap (λ b. if b then p ∷ rest else rest) passes)) ∙ far

-- without any, all ports fail
pub none_pass : (test : ℕ → Bool) (p n : ℕ) → numbers_from test p n ≡ [] → (k : ℕ) → k < n → test (p + k) ≡ false
none_pass test p zero e k lt = absurd (omega (arith, lt))
none_pass test p (suc n) e k lt = by (test p) refl e (λ f j less. none_pass test (suc p) n f j less) k lt
  where
    rest : List ℕ
    rest = numbers_from test (suc p) n

    by : (b : Bool) → test p ≡ b → (if b then p ∷ rest else rest) ≡ [] → (rest ≡ [] → (j : ℕ) → j < n → test (suc p + j) ≡ false) → (k : ℕ) → k < suc n → test (p + k) ≡ false
    by true is f later k lt = absurd (cc)
    by false is f later zero lt = (let z : p + 0 ≡ p = omega arith in ap test z) ∙ is
    by false is f later (suc k) lt = (let s : p + suc k ≡ suc p + k = omega arith in ap test s) ∙ later f k (omega (arith, lt))

-- A WALK over the ports that pass: the next of them, from one on
pub record IsNext (test : ℕ → Bool) (p count q : ℕ) : Type 0 where
  pub from : p ≤ q
  pub within : q < count
  pub passes : test q ≡ true
  pub skipped : (k : ℕ) → p ≤ k → k < q → test k ≡ false

abbrev IsWalk : (ℕ → Bool) → ℕ → ℕ → ℕ → List ℕ → Type 0
IsWalk test p end q rest = IsNext test p end q × (rest ≡ numbers_from test (q + 1) (end - (q + 1)))

next_is : (test : ℕ → Bool) (p n q : ℕ) (rest : List ℕ) → numbers_from test p n ≡ q ∷ rest → IsWalk test p (p + n) q rest
next_is test p zero q rest e = absurd (cc)
next_is test p (suc n) q rest e = by (test p) refl e (λ f. next_is test (suc p) n q rest f)
  where
    left : List ℕ
    left = numbers_from test (suc p) n

    by : (b : Bool) → test p ≡ b → (if b then p ∷ left else left) ≡ q ∷ rest → (left ≡ q ∷ rest → IsWalk test (suc p) (suc p + n) q rest) → IsWalk test p (p + suc n) q rest
    by true is f later =
        let same : p ≡ q = cc in
        let tail : left ≡ rest = cc in
        let next : suc p ≡ q + 1 = omega arith in
        let count : n ≡ p + suc n - (q + 1) = omega arith in
        (record { from = omega (arith, same); within = omega (arith, same); passes = ap test (sym same) ∙ is; skipped = λ k le lt. absurd (omega (arith, le, lt, same)) }, sym tail ∙ ap (λ m. numbers_from test m n) next ∙ ap (numbers_from test (q + 1)) count)
    by false is f later =
        let found = later f in
        let sum : suc p + n ≡ p + suc n = omega arith in
        let from : suc p ≤ q = found.0.from in (
          record {
            from = omega (arith, from);
            within = subst (λ m. q < m) sum found.0.within;
            passes = found.0.passes;
            skipped = λ k le lt. ⊎_elim (λ (at : k ≡ p). ap test at ∙ is) (λ differs. found.0.skipped k (omega (arith, le, differs)) lt) (cases_eq k p);
          },
          found.1 ∙ ap (λ m. numbers_from test (q + 1) (m - (q + 1))) sum,
        )

module _ (test : ℕ → Bool) (count : ℕ) (numbers : List ℕ) where
  -- so many of the numbers are those of the ports before one
  pub record HaveWalked (k p : ℕ) : Type 0 where
    pub left : drop k numbers ≡ numbers_from test p (count - p)
    pub within : p ≤ count

  pub walk_begin : AreNumbered test count numbers → HaveWalked 0 0
  walk_begin are = record { left = are ∙ (let all : count ≡ count - 0 = omega arith in ap (numbers_from test 0) all); within = omega arith }

  pub walk_next : (k p d : ℕ) → k < length numbers → HaveWalked k p → IsNext test p count (get_or numbers k d) × HaveWalked (k + 1) (get_or numbers k d + 1)
  walk_next k p d lt walked =
      let q = get_or numbers k d in
      let within = walked.within in
      let sum : p + (count - p) ≡ count = omega arith in
      let next : suc k ≡ k + 1 = omega arith in
      let found = next_is test p (count - p) q (drop (suc k) numbers) (sym walked.left ∙ drop-cons numbers k d lt) in
      let is = subst (λ m. IsNext test p m q) sum found.0 in
      let below : q < count = is.within in
      (is, record { left = ap (λ m. drop m numbers) (sym next) ∙ found.1 ∙ ap (λ m. numbers_from test (q + 1) (m - (q + 1))) sum; within = omega (arith, below) })

  drop_past : (xs : List ℕ) (k : ℕ) → length xs ≤ k → drop k xs ≡ []
  drop_past [] zero le = refl
  drop_past [] (suc k) le = refl
  drop_past (x ∷ xs) zero le = absurd (omega (arith, le))
  drop_past (x ∷ xs) (suc k) le = drop_past xs k (omega (arith, le))

  pub walk_end : (k p : ℕ) → length numbers ≤ k → HaveWalked k p → (q : ℕ) → p ≤ q → q < count → test q ≡ false
  walk_end k p past walked q from lt =
      let sum : p + (q - p) ≡ q = omega (arith, from) in
      ap test (sym sum) ∙ none_pass test p (count - p) (sym walked.left ∙ drop_past numbers k past) (q - p) (omega (arith, from, lt))

-- WHAT STANDS at the ports, where one more is filled
module _ (look : ℕ → Seen) where
  stands_here : (inputs : Inputs) (q : ℕ) (b : BitVector) → q < length inputs → look q ≡ Value b → Stands look (set inputs q (Some b)) q
  stands_here inputs q b lt e = record { value = b; seen = e; at = get_or-set_same inputs q (Some b) None lt }

  pub fills : (inputs : Inputs) (q : ℕ) (b : BitVector) → q < length inputs → look q ≡ Value b → Stands look (set inputs q (Some b)) q × KeepStanding look inputs (set inputs q (Some b))
  fills inputs q b lt e = (
    stands_here inputs q b lt e,
    λ p s.
        ⊎_elim (λ (at : p ≡ q). subst (Stands look (set inputs q (Some b))) (sym at) (stands_here inputs q b lt e))
        (λ differs. record { value = s.value; seen = s.seen; at = get_or-set_other inputs q p (Some b) None differs ∙ s.at })
        (cases_eq p q),
  )

  -- before the next of a walk, and to its end
  pub all_next : (test : ℕ → Bool) (inputs : Inputs) (p q count : ℕ) → IsNext test p count q → AllStand look test p inputs → Stands look inputs q → AllStand look test (q + 1) inputs
  all_next test inputs p q count next all here k lt on =
      ⊎_elim
      (λ below. all k below on)
      (λ from. ⊎_elim (λ (at : k ≡ q). subst (Stands look inputs) (sym at) here) (λ differs. absurd (not_both (test k) on (next.skipped k from (omega (arith, lt, differs))))) (cases_eq k q))
      (cases_lt k p)

  pub all_kept : (test : ℕ → Bool) (old new : Inputs) (p : ℕ) → KeepStanding look old new → AllStand look test p old → AllStand look test p new
  all_kept test old new p keeps all k lt on = keeps k (all k lt on)

-- what is put at a port fits it
module _ (look : ℕ → Seen) (ports : List PortRow) (inputs : Inputs) (q : ℕ) (b : BitVector) where
  pub fits_still : AreWide look ports → look q ≡ Value b → FitsPorts ports inputs → FitsPorts ports (set inputs q (Some b))
  fits_still wide e fits = record {
    count = length-set inputs q (Some b) ∙ fits.count;
    widths =
        λ n port v at f.
        ⊎_elim
        (λ (here : n ≡ q). wide n port v at (ap look here ∙ e ∙ ap Value (by here f)))
        (λ differs. fits.widths n port v at (sym (get_or-set_other inputs q n (Some b) None differs) ∙ f))
        (cases_eq n q);
  }
    where
      same : (x y : BitVector) → Some x ≡ Some y → x ≡ y
      same x y e = cc

      gone : (xs : Inputs) (m : ℕ) (v : BitVector) → length xs ≤ m → get_or xs m None ≡ Some v → ⊥
      gone [] m v le f = cc
      gone (x ∷ xs) zero v le f = absurd (omega (arith, le))
      gone (x ∷ xs) (suc m) v le f = gone xs m v (omega (arith, le)) f

      by : {n : ℕ} {v : BitVector} → n ≡ q → get_or (set inputs q (Some b)) n None ≡ Some v → b ≡ v
      by {n} {v} here f =
          ⊎_elim
          (λ lt. same b v (sym (get_or-set_same inputs q (Some b) None lt) ∙ ap (λ m. get_or (set inputs q (Some b)) m None) (sym here) ∙ f))
          (λ past. absurd (gone (set inputs q (Some b)) n v (let long = length-set inputs q (Some b) in omega (arith, long, past, here)) f))
          (cases_lt q (length inputs))
