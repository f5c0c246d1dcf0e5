-- Nets by the instances that they stand in.
use Rattle.std.proofs.Common.{◌≡◌, ℕ, zero, suc, ◌+◌, ◌-◌, ◌<◌, ◌≤◌, List, length, get_or, Some, slice_get, ap, sym, ◌∙◌, subst, arith}
use Rattle.std.proofs.lemmas.Option.{slice_get_within, slice_get_past, get_or_from_slice_get}
use Rattle.std.proofs.lemmas.Bool.{cases_lt}
use Rattle.std.specs.Option.{option_map_or}
use Rattle.cx_vtree.specs.InstanceTree.{Placed, nets_at, declared_nets}
use Rattle.cx_vnets.specs.declared.codes.NetPosition.{NetPosition}
use Rattle.cx_vnets.specs.Numbers.{before, nets_before, place_of}
use Rattle.cx_vnets.specs.RunsFlat.{IsNet}
use Rattle.cx_velab.specs.Tables.{all_places}
use Rattle.std.proofs.Common.{[], ◌∷◌, ◌++◌, Option, None, map, ⊎_elim, refl}
use Rattle.cx_vsim.proofs.Finding.{front_at, last_at, place_at, before_up}
use Rattle.cx_velab.proofs.TablesLemmas.{places_length}
use Rattle.cx_vtree.proofs.InstanceTreeLemmas.{net_within}

module _ (places : List NetPosition) (tree : List Placed) (net i k r : ℕ) (all : places ≡ all_places tree (length tree)) (is : IsNet tree net i k) (found : r ≡ i) where
  pub inside : r < length tree
  inside = subst (λ x. x < length tree) (sym found) (net_within tree i k is.name is.stands_there)

  pub within_places : r < length places
  within_places =
      let lt = inside in
      let sized = ap length all ∙ places_length tree (length tree) in
      omega (arith, lt, sized)

  pub begin_is : (d : NetPosition) → (get_or places r d).nets ≡ nets_before tree i
  begin_is d =
      let at : slice_get places r ≡ Some (place_of tree r) = ap (λ l. slice_get l r) all ∙ place_at tree (length tree) r inside in
      ap (λ (p : NetPosition). p.nets) (get_or_from_slice_get places r (place_of tree r) d at) ∙ ap (nets_before tree) found

  pub not_below : (d : NetPosition) → (get_or places r d).nets ≤ net
  not_below d = let e = begin_is d in let n = is.number in omega (arith, e, n)

  pub place_is : (d : NetPosition) → net - (get_or places r d).nets ≡ k
  place_is d = let e = begin_is d in let n = is.number in omega (arith, e, n)

  pub place_small : (most : ℕ) → nets_before tree (length tree) < most → k < most
  place_small most small =
      let lt : i < length tree = net_within tree i k is.name is.stands_there in
      let next : suc i ≤ length tree = omega (arith, lt) in
      let up = before_up (nets_at tree) (suc i) (length tree) next in
      let step : before (nets_at tree) (suc i) ≡ before (nets_at tree) i + length (nets_at tree i) = refl in
      let there = slice_get_within (nets_at tree i) k is.name is.stands_there in
      omega (arith, small, up, step, there)
