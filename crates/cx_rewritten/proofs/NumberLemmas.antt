-- The numbers of names among the cells that stay.
use Rattle.std.proofs.Common.{◌≡◌, ℕ, suc, ◌+◌, inl, inr, ◌⊎◌, Bool, true, false, List, [], ◌∷◌, map, Option, Some, None, refl, sym, ap, ◌∙◌, arith}
use Rattle.std.specs.Prelude.{if◌then◌else◌}
use Rattle.cx_meaning.specs.Designs.{PlainCell, PlainComponent}
use Rattle.cx_rules.specs.Ports.{cell_name}
use Rattle.cx_numbering.specs.Names.{same_name, number_of, later}
use Rattle.cx_sharing.specs.Giving.{keeper, stays, staying, new_cell}
use Rattle.cx_sharing.specs.SharedDesign.{remaining}
use Rattle.cx_sharing.specs.SharedTree.{keeper_name, kept_name}
use Rattle.cx_sharing.proofs.KeptLemmas.{keeper_stays}
use Rattle.cx_sharing.proofs.KeeperLemmas.{WasGiven, given_or_kept}
use Rattle.cx_sharing.proofs.RemainingLemmas.{counted, from_zero}

abbrev pub names_of : List PlainCell → List (List ℕ)
names_of cells = map (λ cell. cell.name) cells

later_some : (o : Option ℕ) (c : ℕ) → later o ≡ Some c → (d : ℕ) × (o ≡ Some d) × (c ≡ suc d)
later_some None c e = absurd (cc)
later_some (Some d) c e = let same : suc d ≡ c = cc in (d, refl, sym same)

-- the first of a name that stays is the first among those that stay
pub number_left : (set : ℕ → Bool) (k : ℕ) (name : List ℕ) (cells : List PlainCell) (c : ℕ) → number_of name (names_of cells) ≡ Some c → set (k + c) ≡ true
    → number_of name (names_of (remaining set k cells)) ≡ Some (counted set k c)
number_left set k name [] c e on = absurd (cc)
number_left set k name (cell ∷ cells) c e on = by (same_name cell.name name) refl e (number_left set (suc k) name cells)
  where
    first : (b : Bool) → set k ≡ b → same_name cell.name name ≡ true → b ≡ true → number_of name (names_of (if b then cell ∷ remaining set (suc k) cells else remaining set (suc k) cells)) ≡ Some 0
    first true at same h = ap (λ t. if t then Some 0 else later (number_of name (names_of (remaining set (suc k) cells)))) same
    first false at same h = absurd (cc)

    further : (d : ℕ) (b : Bool) → same_name cell.name name ≡ false → number_of name (names_of (remaining set (suc k) cells)) ≡ Some (counted set (suc k) d)
        → number_of name (names_of (if b then cell ∷ remaining set (suc k) cells else remaining set (suc k) cells)) ≡ Some (if b then suc (counted set (suc k) d) else counted set (suc k) d)
    further d true differ h = ap (λ t. if t then Some 0 else later (number_of name (names_of (remaining set (suc k) cells)))) differ ∙ ap later h
    further d false differ h = h

    by : (t : Bool) → same_name cell.name name ≡ t → (if t then Some 0 else later (number_of name (names_of cells))) ≡ Some c
        → ((d : ℕ) → number_of name (names_of cells) ≡ Some d → set (suc k + d) ≡ true → number_of name (names_of (remaining set (suc k) cells)) ≡ Some (counted set (suc k) d))
        → number_of name (names_of (remaining set k (cell ∷ cells))) ≡ Some (counted set k c)
    by true same e more =
        let zero_is : 0 ≡ c = cc in
        let here : k ≡ k + c = omega (arith, zero_is) in
        first (set k) refl same (ap set here ∙ on) ∙ ap (λ n. Some (counted set k n)) zero_is
    by false differ e more =
        let r = later_some (number_of name (names_of cells)) c e in
        let there : suc k + r.0 ≡ k + c = omega (arith, r.2) in
        further r.0 (set k) differ (more r.0 r.1 (ap set there ∙ on)) ∙ ap (λ n. Some (counted set k n)) (sym r.2)

-- THE NUMBER OF A KEPT NAME is the new number of the cell, where no cell before the keeper has its name
pub number_kept : (part : PlainComponent) (name : List ℕ) (c : ℕ) → number_of name (names_of part.cells) ≡ Some c
    → number_of (cell_name part.cells (keeper part c)) (names_of part.cells) ≡ Some (keeper part c)
    → number_of (kept_name part name) (names_of (remaining (stays part) 0 part.cells)) ≡ Some (new_cell part c)
number_kept part name c e own =
    let none : 0 + keeper part c ≡ keeper part c = omega arith in
    ap (λ o. number_of (keeper_name part o name) (names_of (remaining (stays part) 0 part.cells))) e
    ∙ number_left (stays part) 0 (cell_name part.cells (keeper part c)) part.cells (keeper part c) own (ap (stays part) none ∙ keeper_stays part c)
    ∙ ap Some (from_zero (stays part) (keeper part c))

-- the first cell keeps its number
pub new_zero : (part : PlainComponent) → new_cell part 0 ≡ 0
new_zero part = by (given_or_kept part 0)
  where
    by : WasGiven part 0 ⊎ (keeper part 0 ≡ 0) → new_cell part 0 ≡ 0
    by (inl r) = let less = r.behind in absurd (omega (arith, less))
    by (inr e) = ap (staying (stays part)) e
