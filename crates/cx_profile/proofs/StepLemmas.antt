-- Lists that loops make, one item after another.
use Rattle.std.proofs.Common.{◌≡◌, ℕ, zero, suc, ◌+◌, ◌-◌, ◌*◌, ◌^◌, ◌<◌, ◌≤◌, Bool, true, false, List, [], ◌∷◌, ◌++◌, map, append_assoc, refl, sym, ap, ◌∙◌, arith}
use Rattle.std.specs.Prelude.{nat_le, if◌then◌else◌}
use Rattle.std.specs.List.{range_with_len}
use Rattle.std.proofs.Math.Nat.{pow-suc}
use Rattle.std.proofs.lemmas.Bool.{leb-true, le-leb}
use Rattle.std.proofs.lemmas.List.{map-append}
use Rattle.std.proofs.lemmas.List.FromFn.{map-range_with_len_more}
use Rattle.cx_text.proofs.ListLaws.{range_appended}
use Rattle.cx_text.specs.declared.places.Place.{Place}
use Rattle.cx_prim.specs.declared.names.PrimitiveName.TheVariants as primitives
use Rattle.cx_meaning.specs.Designs.{PlainCell}
use Rattle.cx_design.specs.declared.cells.Cell.{Cell}
use Rattle.cx_design.specs.PlainForms.{plain_cell}
use Rattle.cx_profiling.specs.Instrumented.{new_cell, name_at, counter_cells, width_from, address_width}

-- where what is pushed is seen by a map
pub range_seen : {A B : Type 0} (see : B → A) (f : ℕ → A) (old : List A) (xs ys : List B) (x : B) (n : ℕ) → ys ≡ xs ++ x ∷ [] → map see xs ≡ old ++ map f (range_with_len 0 n) → see x ≡ f n
    → map see ys ≡ old ++ map f (range_with_len 0 (n + 1))
range_seen see f old xs ys x n pushed so_far is = range_appended f old (map see xs) (map see ys) (see x) n (ap (map see) pushed ∙ map-append see xs (x ∷ [])) so_far is

-- THE CELLS OF ONE MORE COUNTER
abbrev register : Place → List (List ℕ) → ℕ → PlainCell
register place names n = new_cell place (name_at names n) primitives.Reg (64 ∷ []) false

abbrev adder : Place → List (List ℕ) → ℕ → PlainCell
adder place names n = new_cell place (name_at names n) primitives.Add (64 ∷ []) false

counter_more : (place : Place) (names : List (List ℕ)) (n m k : ℕ) → m ≡ n + 2 * k → counter_cells place names n (suc k) ≡ counter_cells place names n k ++ register place names m ∷ adder place names (m + 1) ∷ []
counter_more place names n m zero e =
    let a : n ≡ m = omega arith in
    let b : suc n ≡ m + 1 = omega arith in
    ap (λ i. register place names i ∷ adder place names (suc n) ∷ []) a ∙ ap (λ i. register place names m ∷ adder place names i ∷ []) b
counter_more place names n m (suc k) e = ap (λ l. register place names n ∷ adder place names (suc n) ∷ l) (counter_more place names (suc (suc n)) m k (omega arith))

pub counter_pushed : (place : Place) (names : List (List ℕ)) (old : List PlainCell) (xs ys zs : List Cell) (x y : Cell) (k m : ℕ) → ys ≡ xs ++ x ∷ [] → zs ≡ ys ++ y ∷ [] → m ≡ 2 * k
    → map plain_cell xs ≡ old ++ counter_cells place names 0 k → plain_cell x ≡ register place names m → plain_cell y ≡ adder place names (m + 1)
    → map plain_cell zs ≡ old ++ counter_cells place names 0 (k + 1)
counter_pushed place names old xs ys zs x y k m first second twice so_far a b =
    ap (map plain_cell) second ∙ map-append plain_cell ys (y ∷ []) ∙ ap (λ l. map plain_cell l ++ plain_cell y ∷ []) first
    ∙ ap (λ l. l ++ plain_cell y ∷ []) (map-append plain_cell xs (x ∷ []))
    ∙ ap (λ l. (l ++ plain_cell x ∷ []) ++ plain_cell y ∷ []) so_far
    ∙ append_assoc (old ++ counter_cells place names 0 k) (plain_cell x ∷ []) (plain_cell y ∷ [])
    ∙ append_assoc old (counter_cells place names 0 k) (plain_cell x ∷ plain_cell y ∷ [])
    ∙ ap (λ c. old ++ (counter_cells place names 0 k ++ c ∷ plain_cell y ∷ [])) a ∙ ap (λ c. old ++ (counter_cells place names 0 k ++ register place names m ∷ c ∷ [])) b
    ∙ ap (λ l. old ++ l) (sym (counter_more place names 0 m k (omega arith)))
    ∙ let e : suc k ≡ k + 1 = omega arith in ap (λ n. old ++ counter_cells place names 0 n) e

-- WIDTHS OF ADDRESSES: the first that names all words
abbrev pub StillAt : ℕ → ℕ → ℕ → Type 0
StillAt words width step = (more : ℕ) → more + step ≡ words → width_from more width words ≡ address_width words

pub width_found : (words width step : ℕ) → step < words → words ≤ 2 ^ width → StillAt words width step → width ≡ address_width words
width_found words width step less fits still = sym (ap (λ b. if b then width else width_from j (suc width) words) (le-leb words (2 ^ width) fits)) ∙ still (suc j) (omega arith)
  where
    j : ℕ
    j = words - (step + 1)

pub width_next : (words width step : ℕ) → 2 ^ width < words → StillAt words width step → StillAt words (width + 1) (step + 1)
width_next words width step less still more e =
    let one : width + 1 ≡ suc width = omega arith in
    ap (λ w. width_from more w words) one ∙ sym (ap (λ b. if b then width else width_from more (suc width) words) (no (nat_le words (2 ^ width)) refl)) ∙ still (suc more) (omega arith)
  where
    no : (b : Bool) → nat_le words (2 ^ width) ≡ b → nat_le words (2 ^ width) ≡ false
    no true f = absurd (let h : words ≤ 2 ^ width = leb-true words (2 ^ width) f in omega arith)
    no false f = f

pub width_last : (words width step : ℕ) → words ≤ step → step ≤ words → StillAt words width step → width ≡ address_width words
width_last words width step past within still = still 0 (omega arith)

pub named_next : (named width : ℕ) → named ≡ 2 ^ width → named * 2 ≡ 2 ^ (width + 1)
named_next named width e = ap (λ n. n * 2) e ∙ sym (pow-suc 2 width) ∙ let one : suc width ≡ width + 1 = omega arith in ap (λ w. 2 ^ w) one
