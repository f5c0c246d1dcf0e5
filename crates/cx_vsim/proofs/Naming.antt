-- The first instance of `main` of a name, and its array.
use Rattle.std.proofs.Common.{◌≡◌, ◌≢◌, ℕ, zero, suc, ◌+◌, ◌<◌, ◌≤◌, ◌==◌, ◌&&◌, ⊎_elim, Bool, true, false, cond, List, [], ◌∷◌, map, drop, get_or, length, Option, Some, None, option_map, option_and_then, slice_get, refl, ap, sym, ◌∙◌, if◌then◌else◌, arith}
use Rattle.std.proofs.lemmas.Bool.{cases_lt}
use Rattle.std.proofs.lemmas.Option.{slice_get_past, same_Some, get_or_from_slice_get}
use Rattle.std.specs.Cmp.Lexicographic.{bytes_decides}
use Rattle.std.specs.HashMap as maps
use Rattle.std.specs.HashMap.{HashMap}
use Rattle.std.specs.Option.{option_map_or}
use denote.Ref.{Bor}
use Rattle.cx_vtree.specs.Plain.{PlainExternal}
use Rattle.cx_vtree.specs.InstanceTree.{Placed, same_name, decls_at, declared_arrays, arrays_at}
use Rattle.cx_vtree.specs.SimRun.{instance_named, first_array}
use Rattle.cx_velab.specs.declared.tree.Row.{Row}
use Rattle.cx_velab.specs.Rows.{placed_of}
use Rattle.cx_vnets.specs.declared.codes.NetPosition.{NetPosition}
use Rattle.cx_vtree.specs.NameNumbers.{position, number_by}
use Rattle.cx_vnets.specs.Numbers.{arrays_before, array_number, place_of}
use Rattle.cx_velab.specs.Tables.{all_places}
use Rattle.cx_vsim.specs.Externals.{array_of, HasArray}
use Rattle.cx_vsim.specs.Mains.{HasMainFrom}
use Rattle.cx_vsim.proofs.Finding.{place_at}
use Rattle.cx_velab.proofs.TablesLemmas.{places_length}

dropped : {A : Type 0} (xs : List A) (i : ℕ) (x : A) → slice_get xs i ≡ Some x → drop i xs ≡ x ∷ drop (suc i) xs
dropped [] i x e = absurd (cc)
dropped (y ∷ xs) zero x e = let same : y ≡ x = cc in ap (λ z. z ∷ xs) same
dropped (y ∷ xs) (suc i) x e = dropped xs i x e

module _ (rows : List Row) (i : ℕ) (row : Row) (name : List ℕ) (at : slice_get rows i ≡ Some row) where
  unfolded : instance_named (map placed_of (drop i rows)) i name
      ≡ (if row.holder == 0 && same_name row.instance.now.name name then Some i else instance_named (map placed_of (drop (suc i) rows)) (i + 1) name)
  unfolded = ap (λ l. instance_named (map placed_of l) i name) (dropped rows i row at)

  next : instance_named (map placed_of (drop (suc i) rows)) (i + 1) name ≡ instance_named (map placed_of (drop (i + 1) rows)) (i + 1) name
  next = let s : suc i ≡ i + 1 = omega arith in ap (λ k. instance_named (map placed_of (drop k rows)) (i + 1) name) s

  found_here : row.holder ≡ 0 → same_name row.instance.now.name name ≡ true → instance_named (map placed_of (drop i rows)) i name ≡ Some i
  found_here h s = unfolded
      ∙ ap (λ k. if k == 0 && same_name row.instance.now.name name then Some i else instance_named (map placed_of (drop (suc i) rows)) (i + 1) name) h
      ∙ ap (λ b. if b then Some i else instance_named (map placed_of (drop (suc i) rows)) (i + 1) name) s

  not_named : row.holder ≡ 0 → same_name row.instance.now.name name ≡ false → instance_named (map placed_of (drop i rows)) i name ≡ instance_named (map placed_of (drop (i + 1) rows)) (i + 1) name
  not_named h s = unfolded
      ∙ ap (λ k. if k == 0 && same_name row.instance.now.name name then Some i else instance_named (map placed_of (drop (suc i) rows)) (i + 1) name) h
      ∙ ap (λ b. if b then Some i else instance_named (map placed_of (drop (suc i) rows)) (i + 1) name) s ∙ next

-- an instance of `main` goes before those of its name behind it
pub main_entered : {S : Type 0} (m n : HashMap (Bor (List ℕ)) ℕ S) (rows : List Row) (i : ℕ) (row : Row) → slice_get rows i ≡ Some row → row.holder ≡ 0
    → ((q : Bor (List ℕ)) → maps.get (λ x y. same_name x.now y.now) n q ≡ cond (same_name row.instance.now.name q.now) (Some i) (maps.get (λ x y. same_name x.now y.now) m q))
    → HasMainFrom m (i + 1) (map placed_of (drop (i + 1) rows)) → HasMainFrom n i (map placed_of (drop i rows))
main_entered m n rows i row at held up had q = up (record { ref_ptr = (0, 0); now = q }) ∙ go (same_name row.instance.now.name q) refl
  where
    go : (t : Bool) → same_name row.instance.now.name q ≡ t → cond t (Some i) (number_by m q) ≡ instance_named (map placed_of (drop i rows)) i q
    go true e = sym (found_here rows i row q at held e)
    go false e = had q ∙ sym (not_named rows i row q at held e)

array_within : (tree : List Placed) (i : ℕ) (n : List ℕ) → arrays_at tree i ≡ n ∷ [] → i < length tree
array_within tree i n at = ⊎_elim (λ lt. lt) (λ le. absurd (past (slice_get tree i) (slice_get_past tree i le) at)) (cases_lt i (length tree))
  where
    past : (o : Option Placed) → o ≡ None → declared_arrays (option_map_or (λ p. p.part.decls) o []) ≡ n ∷ [] → ⊥
    past None e at = cc
    past (Some p) e at = cc

module _ (tree : List Placed) (e : PlainExternal) (has : HasArray tree e) where
  instance_within : has.number < length tree
  instance_within = array_within tree has.number (first_array (decls_at tree has.number)) has.only

  -- the array is the first of its instance
  pub array_is : array_of tree e ≡ Some (arrays_before tree has.number)
  array_is =
      let first = first_array (decls_at tree has.number) in
      let self : same_name first first ≡ true = (bytes_decides first first).1 refl in
      let none : arrays_before tree has.number + 0 ≡ arrays_before tree has.number = omega arith in
      ap (option_and_then (λ j. array_number tree j (first_array (decls_at tree j)))) has.found
      ∙ ap (λ l. option_map (λ k. arrays_before tree has.number + k) (position l first)) has.only
      ∙ ap (λ b. option_map (λ k. arrays_before tree has.number + k) (if b then Some 0 else option_map suc (position [] first))) self
      ∙ ap Some none

  module _ (j : ℕ) (named : instance_named tree 0 e.instance ≡ Some j) (places : List NetPosition) where
    same : has.number ≡ j
    same = same_Some has.number j (sym has.found ∙ named)

    pub instance_placed : places ≡ all_places tree (length tree) → j < length places
    instance_placed all =
        let sized : length places ≡ length tree = ap length all ∙ places_length tree (length tree) in
        omega (arith, same, instance_within, sized)

    pub array_place : (d : NetPosition) → places ≡ all_places tree (length tree) → array_of tree e ≡ Some (get_or places j d).arrays
    array_place d all =
        let at : slice_get places has.number ≡ Some (place_of tree has.number) = ap (λ l. slice_get l has.number) all ∙ place_at tree (length tree) has.number instance_within in
        let got : get_or places j d ≡ place_of tree has.number = ap (λ k. get_or places k d) (sym same) ∙ get_or_from_slice_get places has.number (place_of tree has.number) d at in
        array_is ∙ ap (λ (p : NetPosition). Some p.arrays) (sym got)
