-- The values of all nets.
use Rattle.std.proofs.Common.{◌≡◌, ℕ, zero, suc, ◌+◌, ◌<◌, ◌==◌, List, [], ◌∷◌, false, Some, IsSome, option_and_then, slice_get, length, refl, ap, sym, ◌∙◌, subst}
use Rattle.std.specs.Option.{option_map_or}
use Rattle.std.specs.Prelude.{codes}
use Rattle.std.proofs.lemmas.Option.{slice_get_within, slice_get-get_or, get_or_from_slice_get}
use Rattle.cx_bits.specs.BitVector.{BitVector}
use Rattle.cx_vtree.specs.InstanceTree.{Placed, nets_at}
use Rattle.cx_vtree.specs.Meaning.{Moment, Look}
use Rattle.cx_vtree.specs.SimRun as source
use Rattle.cx_vtree.specs.SimRun.{IsWhole}
use Rattle.cx_vnets.specs.declared.nets.Nets.{Nets}
use Rattle.cx_vnets.specs.declared.nets.Stored.{Stored}
use Rattle.cx_vnets.specs.Search.{no_bits, value_at, AllHave, SameWidths}
use Rattle.cx_vnets.specs.Values.{HasValue}
use Rattle.cx_vnets.specs.declared.machines.Machine.{Machine}
use Rattle.cx_vnets.specs.Runs as flat
use Rattle.cx_vnets.specs.Numbers.{nets_before, net_number, look_by}
use Rattle.cx_vnets.specs.Flat.{NetsStand}
use Rattle.cx_vnets.specs.Memory.{StoredStands}
use Rattle.cx_vnets.specs.EdgesFlat.{AreApart}
use Rattle.cx_vnets.proofs.Numbering.{number_at, number_of, number_below}
use Rattle.cx_vnets.proofs.FlatValues.{value_by_name, value_by_number, net_there}
use Rattle.cx_text.proofs.OptionLaws.{bind_some}
use Rattle.cx_vtree.proofs.InstanceTreeLemmas.{net_within}

-- lists whose values have the same widths are of one length
pub same_length : (xs ys : List BitVector) → SameWidths xs ys → length xs ≡ length ys
same_length [] [] same = refl
same_length [] (y ∷ ys) same = absurd (let e = same zero in cc)
same_length (x ∷ xs) [] same = absurd (let e = same zero in cc)
same_length (x ∷ xs) (y ∷ ys) same = ap suc (same_length xs ys (λ f. same (suc f)))

module _ (tree : List Placed) (m : Moment) (n : Nets) (s : Stored) (stands : NetsStand tree n) (memory : StoredStands tree m s) (values : List BitVector) (long : length values ≡ length n.drivers.items) where
  net_below : (i k : ℕ) (name : List ℕ) → slice_get (nets_at tree i) k ≡ Some name → nets_before tree i + k < length values
  net_below i k name at =
      let lt = number_below (nets_at tree) i k (length tree) name (net_within tree i k name at) at in
      subst (λ c. nets_before tree i + k < c) (sym (long ∙ stands.count)) lt

  -- values of all nets are a whole look
  pub whole_by_values : AllHave n s values → IsWhole tree m (look_by tree values)
  whole_by_values all = record {
    right = λ j net w known.
        let r = bind_some (slice_get values) (net_number tree j net) w known in
        let p = number_at (nets_at tree) j net r.0 r.1 in
        let lt : r.0 < length n.drivers.items = subst (λ c. r.0 < c) long (slice_get_within values r.0 w r.2) in
        let has = subst (HasValue n s r.0) (get_or_from_slice_get values r.0 w no_bits r.2) (all r.0 lt) in
        value_by_name tree m n s stands memory has j p.0 net (sym p.2) p.1;
    whole = λ i k name at.
        let r = number_of (nets_at tree) i k name at in
        let v = slice_get-get_or values (nets_before tree i + r.0) no_bits (net_below i r.0 name r.2) in
        subst IsSome (sym (ap (option_and_then (slice_get values)) r.1 ∙ v)) refl;
  }

  -- a whole look is the values of all nets
  values_by_whole : (look : Look) → IsWhole tree m look
      → ((i k : ℕ) (name : List ℕ) → slice_get (nets_at tree i) k ≡ Some name → look i name ≡ slice_get values (nets_before tree i + k)) → AllHave n s values
  values_by_whole look whole same f lt =
      let p = net_there tree n stands f lt in
      let v = slice_get-get_or values (nets_before tree p.0 + p.1) no_bits (net_below p.0 p.1 p.2 p.4) in
      let has = value_by_number tree m n s stands memory (whole.right p.0 p.2 (value_at values (nets_before tree p.0 + p.1)) (same p.0 p.1 p.2 p.4 ∙ v)) p.1 p.4 in
      subst (λ x. HasValue n s x (value_at values x)) (sym p.3) has

  -- the look of values, where names are apart
  look_at : AreApart tree → (i k : ℕ) (name : List ℕ) → slice_get (nets_at tree i) k ≡ Some name → look_by tree values i name ≡ slice_get values (nets_before tree i + k)
  look_at apart i k name at =
      let r = number_of (nets_at tree) i k name at in
      ap (option_and_then (slice_get values)) r.1 ∙ ap (λ h. slice_get values (nets_before tree i + h)) (apart.nets i r.0 k name r.2 at)

  pub values_by_look : AreApart tree → IsWhole tree m (look_by tree values) → AllHave n s values
  values_by_look apart whole = values_by_whole (look_by tree values) whole (look_at apart)

  -- the net `done`
  pub done_same : (machine : Machine) → net_number tree 0 (codes "done") ≡ Some machine.done → source.is_done (look_by tree values) ≡ flat.is_done machine values
  done_same machine number =
      let p = number_at (nets_at tree) 0 (codes "done") machine.done number in
      let lt : machine.done < length values = subst (λ f. f < length values) p.2 (net_below 0 p.0 (codes "done") p.1) in
      ap (λ o. option_map_or (λ (b : BitVector). b.value == 1) (option_and_then (slice_get values) o) false) number
      ∙ ap (λ o. option_map_or (λ (b : BitVector). b.value == 1) o false) (slice_get-get_or values machine.done no_bits lt)
