-- Where instances begin, one after another.
use Rattle.std.proofs.Common.{◌≡◌, ℕ, zero, suc, ◌+◌, ◌<◌, ◌≤◌, ◌≢◌, ⊎_elim, List, [], ◌∷◌, ◌++◌, map, length, Some, slice_get, refl, ap, sym, ◌∙◌, add-one, arith}
use Rattle.std.specs.Option.{option_map_or}
use Rattle.std.proofs.lemmas.Bool.Decides.{eqb_tells}
use Rattle.cx_vtree.specs.InstanceTree.{Placed, nets_at, declared_nets, declared_arrays, arrays_at}
use Rattle.cx_vnets.specs.declared.codes.NetPosition.{NetPosition}
use Rattle.cx_velab.specs.Paths.{nets_in}
use Rattle.cx_vnets.specs.Numbers.{before, nets_before, arrays_before, place_of}
use Rattle.cx_velab.specs.Tables.{all_places}

-- more lists have no fewer names
pub before_up : (lists : ℕ → List (List ℕ)) (n i : ℕ) → i ≤ n → before lists i ≤ before lists n
before_up lists zero i le =
    let e : i ≡ 0 = omega arith in
    let same : before lists i ≡ before lists 0 = ap (before lists) e in
    omega arith
before_up lists (suc n) i le = ⊎_elim
    (λ s. let same : before lists i ≡ before lists (suc n) = ap (before lists) s.1 in omega arith)
    (λ d.
    let apart : i ≢ suc n = d.1 in
    let within : i ≤ n = omega arith in
    let up = before_up lists n i within in
    let step : before lists (suc n) ≡ before lists n + length (lists n) = refl in
    omega arith)
    (eqb_tells i (suc n))

module _ (tree : List Placed) (i : ℕ) (p : Placed) (at : slice_get tree i ≡ Some p) where
  nets_there : nets_at tree i ≡ nets_in p.part
  nets_there = ap (λ o. map (λ q. q.name) (option_map_or (λ q. q.part.ports) o []) ++ declared_nets (option_map_or (λ q. q.part.decls) o [])) at

  arrays_there : arrays_at tree i ≡ declared_arrays p.part.decls
  arrays_there = ap (λ o. declared_arrays (option_map_or (λ q. q.part.decls) o [])) at

  pub nets_next : nets_before tree (i + 1) ≡ nets_before tree i + length (nets_in p.part)
  nets_next = ap (nets_before tree) (add-one i) ∙ ap (λ l. nets_before tree i + length l) nets_there

  pub arrays_next : arrays_before tree (i + 1) ≡ arrays_before tree i + length (declared_arrays p.part.decls)
  arrays_next = ap (arrays_before tree) (add-one i) ∙ ap (λ l. arrays_before tree i + length l) arrays_there

  -- the numbers of one more instance are small, where those of all are
  pub nets_small : (n most : ℕ) → i < n → nets_before tree n < most → nets_before tree i + length (nets_in p.part) < most
  nets_small n most lt small =
      let next : i + 1 ≤ n = omega arith in
      let up : nets_before tree (i + 1) ≤ nets_before tree n = before_up (nets_at tree) n (i + 1) next in
      let e = nets_next in
      omega arith

  pub arrays_small : (n most : ℕ) → i < n → arrays_before tree n < most → arrays_before tree i + length (declared_arrays p.part.decls) < most
  arrays_small n most lt small =
      let next : i + 1 ≤ n = omega arith in
      let up : arrays_before tree (i + 1) ≤ arrays_before tree n = before_up (arrays_at tree) n (i + 1) next in
      let e = arrays_next in
      omega arith

pub places_next : (tree : List Placed) (i : ℕ) → all_places tree (i + 1) ≡ all_places tree i ++ place_of tree i ∷ []
places_next tree i = ap (all_places tree) (add-one i)

place_is : (tree : List Placed) (i n a : ℕ) → n ≡ nets_before tree i → a ≡ arrays_before tree i → ◌≡◌ {A = NetPosition} (record { nets = n; arrays = a }) (place_of tree i)
place_is tree i n a e f = cc

pub placed_next : (tree : List Placed) (i n a : ℕ) (old new : List NetPosition) → new ≡ old ++ record { nets = n; arrays = a } ∷ [] → old ≡ all_places tree i → n ≡ nets_before tree i → a ≡ arrays_before tree i
    → new ≡ all_places tree (i + 1)
placed_next tree i n a old new pushed had e f =
    pushed ∙ ap (λ l. l ++ record { nets = n; arrays = a } ∷ []) had ∙ ap (λ x. all_places tree i ++ x ∷ []) (place_is tree i n a e f) ∙ sym (places_next tree i)
