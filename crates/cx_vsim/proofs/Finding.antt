-- Instances that are found by names and by numbers.
use Rattle.std.proofs.Common.{◌≡◌, ℕ, zero, suc, ◌+◌, ◌<◌, ◌≤◌, ⊎_elim, List, [], ◌∷◌, ◌++◌, length, Some, slice_get, refl, ap, sym, ◌∙◌, subst, arith}
use Rattle.std.proofs.lemmas.Bool.{cases_lt}
use Rattle.std.proofs.lemmas.Option.{slice_get_within, same_Some}
use Rattle.cx_vtree.specs.InstanceTree.{Placed, nets_at}
use Rattle.cx_vnets.specs.declared.codes.NetPosition.{NetPosition}
use Rattle.cx_vnets.specs.Numbers.{before, nets_before, place_of}
use Rattle.cx_vnets.specs.RunsFlat.{IsNet}
use Rattle.cx_velab.specs.Tables.{all_places}
use Rattle.cx_vsim.specs.Nets.{IsLastBegun}
use Rattle.cx_velab.proofs.TablesLemmas.{places_length}

pub front_at : (ps : List NetPosition) (p q : NetPosition) (j : ℕ) → slice_get ps j ≡ Some q → slice_get (ps ++ p ∷ []) j ≡ Some q
front_at [] p q j e = absurd (cc)
front_at (x ∷ ps) p q zero e = e
front_at (x ∷ ps) p q (suc j) e = front_at ps p q j e

pub last_at : (ps : List NetPosition) (p : NetPosition) → slice_get (ps ++ p ∷ []) (length ps) ≡ Some p
last_at [] p = refl
last_at (x ∷ ps) p = last_at ps p

pub place_at : (tree : List Placed) (n j : ℕ) → j < n → slice_get (all_places tree n) j ≡ Some (place_of tree j)
place_at tree zero j lt = absurd (omega arith)
place_at tree (suc n) j lt = ⊎_elim
    (λ less. front_at (all_places tree n) (place_of tree n) (place_of tree j) j (place_at tree n j less))
    (λ le.
    let same : n ≡ j = omega arith in
    subst (λ k. slice_get (all_places tree (suc n)) k ≡ Some (place_of tree k)) same
    (subst (λ k. slice_get (all_places tree (suc n)) k ≡ Some (place_of tree n)) (places_length tree n) (last_at (all_places tree n) (place_of tree n))))
    (cases_lt j n)

pub begun_later : (ps : List NetPosition) (net i found : ℕ) (p : NetPosition) → slice_get ps i ≡ Some p → net < p.nets → IsLastBegun ps net i found → IsLastBegun ps net (i + 1) found
begun_later ps net i found p at gt b = record {
  so_far = λ j q lt is begun. ⊎_elim
      (λ less. b.so_far j q less is begun)
      (λ le.
      let same : j ≡ i = omega arith in
      let one : q ≡ p = same_Some q p (sym is ∙ ap (slice_get ps) same ∙ at) in
      let nets : q.nets ≡ p.nets = ap (λ x. x.nets) one in
      absurd (omega (arith, nets, begun, gt)))
      (cases_lt j i);
  here = b.here;
}

pub before_up : (lists : ℕ → List (List ℕ)) (i j : ℕ) → i ≤ j → before lists i ≤ before lists j
before_up lists i zero le =
    let e : i ≡ 0 = omega arith in
    let same : before lists i ≡ before lists 0 = ap (before lists) e in
    omega arith
before_up lists i (suc j) le = ⊎_elim
    (λ less.
    let within : i ≤ j = omega arith in
    let up = before_up lists i j within in
    let step : before lists (suc j) ≡ before lists j + length (lists j) = refl in
    omega arith)
    (λ more.
    let e : i ≡ suc j = omega arith in
    let same : before lists i ≡ before lists (suc j) = ap (before lists) e in
    omega arith)
    (cases_lt i (suc j))

module _ (tree : List Placed) (net i k : ℕ) (is : IsNet tree net i k) where
  -- instances after that of the net begin after it
  after_it : (j : ℕ) → i < j → net < nets_before tree j
  after_it j lt =
      let within = slice_get_within (nets_at tree i) k is.name is.stands_there in
      let next : suc i ≤ j = omega arith in
      let up = before_up (nets_at tree) (suc i) j next in
      let step : nets_before tree (suc i) ≡ nets_before tree i + length (nets_at tree i) = refl in
      let number = is.number in
      omega arith

  pub last_is_it : (ps : List NetPosition) (found : ℕ) → IsLastBegun ps net (length ps) found → i < length tree → ps ≡ all_places tree (length tree) → found ≡ i
  last_is_it ps found b inside e =
      let there : slice_get ps i ≡ Some (place_of tree i) = ap (λ l. slice_get l i) e ∙ place_at tree (length tree) i inside in
      let number = is.number in
      let begun : nets_before tree i ≤ net = omega arith in
      let low : i ≤ found = b.so_far i (place_of tree i) (slice_get_within ps i (place_of tree i) there) there begun in
      let sized : length ps ≡ length tree = ap length e ∙ places_length tree (length tree) in
      ⊎_elim
      (λ none. omega arith)
      (λ h.
      let lt = slice_get_within ps found h.0 h.1 in
      let lt' : found < length tree = omega (arith, lt, sized) in
      let same : h.0 ≡ place_of tree found = same_Some h.0 (place_of tree found) (sym h.1 ∙ ap (λ l. slice_get l found) e ∙ place_at tree (length tree) found lt') in
      let nets : h.0.nets ≡ nets_before tree found = ap (λ x. x.nets) same in
      ⊎_elim
      (λ less. let far = after_it found less in absurd (omega (arith, far, nets, h.2)))
      (λ le. omega arith)
      (cases_lt i found))
      b.here
