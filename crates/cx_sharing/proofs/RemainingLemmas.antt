-- The cells of a set among a list: how many there are, and where each of them stands.
use Rattle.std.proofs.Common.{◌≡◌, ℕ, zero, suc, ◌+◌, ◌-◌, ◌<◌, ◌≤◌, ⊎_elim, Bool, true, false, List, [], ◌∷◌, length, refl, sym, ap, ◌∙◌, subst, arith}
use Rattle.std.specs.Prelude.{if◌then◌else◌}
use Rattle.std.proofs.lemmas.Bool.{cases_lt}
use Rattle.cx_meaning.specs.Designs.{PlainCell}
use Rattle.cx_meaning.specs.Instances.{Instance, Nothing, cell_at, cells_for}
use Rattle.cx_meaning.proofs.InstancesLemmas.{kind_skip, first_at, at_kind}
use Rattle.cx_sharing.specs.Uses.{kind_in}
use Rattle.cx_sharing.specs.Giving.{staying}
use Rattle.cx_sharing.specs.SharedDesign.{remaining}
use Rattle.cx_sharing.proofs.KeptLemmas.{staying_more, staying_grows}

-- how many of so many cells from cell k on are in the set
abbrev pub counted : (ℕ → Bool) → ℕ → ℕ → ℕ
counted set k zero = 0
counted set k (suc c) = if set k then suc (counted set (suc k) c) else counted set (suc k) c

counted_staying : (set : ℕ → Bool) (k c : ℕ) → staying set (k + c) ≡ staying set k + counted set k c
counted_staying set k zero = let none : k + 0 ≡ k = omega arith in let more : staying set k ≡ staying set k + 0 = omega arith in ap (staying set) none ∙ more
counted_staying set k (suc c) =
    let next : k + suc c ≡ suc k + c = omega arith in
    ap (staying set) next ∙ counted_staying set (suc k) c ∙ by (set k)
  where
    by : (b : Bool) → (if b then suc (staying set k) else staying set k) + counted set (suc k) c ≡ staying set k + (if b then suc (counted set (suc k) c) else counted set (suc k) c)
    by true = omega arith
    by false = refl

pub from_zero : (set : ℕ → Bool) (c : ℕ) → counted set 0 c ≡ staying set c
from_zero set c =
    let e = counted_staying set 0 c in
    let none : 0 + c ≡ c = omega arith in
    let same : staying set (0 + c) ≡ staying set c = ap (staying set) none in
    omega (arith, e, same)

-- as many as are left
length_counted : (set : ℕ → Bool) (k : ℕ) (cells : List PlainCell) → length (remaining set k cells) ≡ counted set k (length cells)
length_counted set k [] = refl
length_counted set k (cell ∷ cells) = by (set k) (length_counted set (suc k) cells)
  where
    by : (b : Bool) → length (remaining set (suc k) cells) ≡ counted set (suc k) (length cells)
        → length (if b then cell ∷ remaining set (suc k) cells else remaining set (suc k) cells) ≡ (if b then suc (counted set (suc k) (length cells)) else counted set (suc k) (length cells))
    by true e = ap suc e
    by false e = e

pub length_left : (set : ℕ → Bool) (cells : List PlainCell) → length (remaining set 0 cells) ≡ staying set (length cells)
length_left set cells = length_counted set 0 cells ∙ from_zero set (length cells)

-- and of the same kinds
kind_counted : (set : ℕ → Bool) (k : ℕ) (cells : List PlainCell) (c : ℕ) → set (k + c) ≡ true → c < length cells → kind_in (remaining set k cells) (counted set k c) ≡ kind_in cells c
kind_counted set k [] c on lt = absurd (omega (arith, lt))
kind_counted set k (cell ∷ cells) zero on lt = by (set k) (let here : k ≡ k + 0 = omega arith in ap set here ∙ on)
  where
    by : (b : Bool) → b ≡ true → kind_in (if b then cell ∷ remaining set (suc k) cells else remaining set (suc k) cells) 0 ≡ cell.kind
    by true e = refl
    by false e = absurd (cc)
kind_counted set k (cell ∷ cells) (suc c) on lt = by (set k) (let there : suc k + c ≡ k + suc c = omega arith in kind_counted set (suc k) cells c (ap set there ∙ on) (omega (arith, lt)))
  where
    by : (b : Bool) → kind_in (remaining set (suc k) cells) (counted set (suc k) c) ≡ kind_in cells c
        → kind_in (if b then cell ∷ remaining set (suc k) cells else remaining set (suc k) cells) (if b then suc (counted set (suc k) c) else counted set (suc k) c) ≡ kind_in cells c
    by true e = e
    by false e = e

pub kind_left : (set : ℕ → Bool) (cells : List PlainCell) (c : ℕ) → set c ≡ true → c < length cells → kind_in (remaining set 0 cells) (staying set c) ≡ kind_in cells c
kind_left set cells c on lt =
    let first : 0 + c ≡ c = omega arith in
    ap (kind_in (remaining set 0 cells)) (sym (from_zero set c)) ∙ kind_counted set 0 cells c (ap set first ∙ on) lt

-- the number of a cell that is left is one of those that are left; beyond the cells none is
pub staying_within : (set : ℕ → Bool) (cells : List PlainCell) (c : ℕ) → set c ≡ true → c < length cells → staying set c < length (remaining set 0 cells)
staying_within set cells c on lt =
    let grows = staying_grows set c (length cells) on lt in
    let same = length_left set cells in
    omega (arith, grows, same)

pub staying_past : (set : ℕ → Bool) (cells : List PlainCell) (c : ℕ) → length cells ≤ c → length (remaining set 0 cells) ≤ staying set c
staying_past set cells c le =
    let same = length_left set cells in
    let whole : (c - length cells) + length cells ≡ c = omega (arith, le) in
    let more : staying set (length cells) ≤ staying set c = subst (λ n. staying set (length cells) ≤ staying set n) whole (staying_more set (length cells) (c - length cells)) in
    omega (arith, same, more)

-- a cell of the set, by how many stand before it
pub record StandsAt (set : ℕ → Bool) (n e : ℕ) : Type 0 where
  pub cell : ℕ
  pub within : cell < n
  pub on : set cell ≡ true
  pub number : staying set cell ≡ e

pub stands_at : (set : ℕ → Bool) (n e : ℕ) → e < staying set n → StandsAt set n e
stands_at set zero e lt = absurd (omega (arith, lt))
stands_at set (suc n) e lt = by (set n) refl lt (stands_at set n e)
  where
    wider : StandsAt set n e → StandsAt set (suc n) e
    wider r = let within = r.within in record { cell = r.cell; within = omega (arith, within); on = r.on; number = r.number }

    by : (b : Bool) → set n ≡ b → e < (if b then suc (staying set n) else staying set n) → (e < staying set n → StandsAt set n e) → StandsAt set (suc n) e
    by true on l later =
        ⊎_elim (λ h. wider (later h)) (λ h. record { cell = n; within = omega arith; on = on; number = omega (arith, l, h) }) (cases_lt e (staying set n))
    by false off l later = wider (later l)

-- WHAT STANDS AT A CELL, by its kind
pub cell_is : (child : ℕ → Instance) (cells : List PlainCell) (c : ℕ) → c < length cells → cell_at (cells_for child cells) c ≡ at_kind child (kind_in cells c)
cell_is child [] c lt = absurd (omega (arith, lt))
cell_is child (cell ∷ cells) zero lt = first_at child cell.kind (cells_for child cells)
cell_is child (cell ∷ cells) (suc c) lt = kind_skip child cell.kind (cells_for child cells) c ∙ cell_is child cells c (omega (arith, lt))

pub none_past : (child : ℕ → Instance) (cells : List PlainCell) (c : ℕ) → length cells ≤ c → cell_at (cells_for child cells) c ≡ Nothing
none_past child [] c le = refl
none_past child (cell ∷ cells) zero le = absurd (omega (arith, le))
none_past child (cell ∷ cells) (suc c) le = kind_skip child cell.kind (cells_for child cells) c ∙ none_past child cells c (omega (arith, le))
