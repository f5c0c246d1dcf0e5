-- The nets by their numbers have the values that they have by instance and name.
use Rattle.std.proofs.Common.{◌≡◌, ℕ, ◌+◌, ◌<◌, List, Option, Some, option_and_then, option_map, unwrap_or, slice_get, length, refl, ap, sym, ◌∙◌, subst, arith}
use Rattle.cx_bits.specs.BitVector.{BitVector}
use Rattle.cx_vtree.specs.Plain.{PlainExpr}
use Rattle.cx_vtree.specs.InstanceTree.{Placed, decls_at, nets_at, Origin, Outside, Tied, Held, Given, origin_of, arrays_at}
use Rattle.cx_vtree.specs.Meaning as named
use Rattle.cx_vtree.specs.Meaning.{Moment, Look, word_in, expr_at, from_origin, step, by_step}
use Rattle.cx_vtree.specs.SimRun.{IsFirstLoop}
use Rattle.cx_vnets.specs.declared.arrays.Words.{Words}
use Rattle.cx_vnets.specs.declared.codes.Code.{Code}
use Rattle.cx_vnets.specs.declared.nets.Nets.{Nets}
use Rattle.cx_vnets.specs.declared.nets.Stored.{Stored}
use Rattle.cx_vnets.specs.declared.nets.Driver.{Driver}
use Rattle.cx_vnets.specs.declared.nets.Driver.TheVariants as driver
use Rattle.cx_vnets.specs.Arrays.{word_of, word_at}
use Rattle.cx_vnets.specs.Search.{IsFirstWithout}
use Rattle.cx_vnets.specs.Values.{code_at, driver_in, rule, HasValue, by_rule}
use Rattle.cx_vtree.specs.NameNumbers.{position}
use Rattle.cx_vnets.specs.Numbers.{nets_before, arrays_before, net_number, place_of}
use Rattle.cx_vnets.specs.Flat.{CodeStands, DriverStands, NetsStand}
use Rattle.cx_vnets.specs.Memory.{StoredStands}
use Rattle.cx_vnets.proofs.Numbering.{position_here, number_parts, number_below, number_order, order_back, number_there, located, located_here, located_tells}
use Rattle.cx_vnets.proofs.CodeValues.{same_value}
use Rattle.cx_text.proofs.OptionLaws.{bind_some}
use Rattle.cx_vtree.proofs.InstanceTreeLemmas.{net_within}

-- each number below the count is that of a net
pub net_there : (tree : List Placed) (n : Nets) → NetsStand tree n → (f : ℕ) → f < length n.drivers.items
    → (i : ℕ) × (k : ℕ) × (name : List ℕ) × (f ≡ nets_before tree i + k) × (slice_get (nets_at tree i) k ≡ Some name)
net_there tree n stands f lt = let r = number_there (nets_at tree) (length tree) f (subst (λ x. f < x) stands.count lt) in (r.0, r.1, r.2, r.4, r.5)

module _ (tree : List Placed) (m : Moment) (s : Stored) (memory : StoredStands tree m s) where
  -- a word of an array
  pub same_word : (i : ℕ) (name : List ℕ) (a index : ℕ) → position (arrays_at tree i) name ≡ Some a
      → word_in (m.state.word i) (decls_at tree i) name index ≡ word_at s.arrays.items (arrays_before tree i + a) index
  same_word i name a index e =
      let r = memory.arrays i a name (position_here (arrays_at tree i) name a e) in
      sym (ap (λ o. unwrap_or (option_map (λ (x : Words). word_of x index) o) (record { width = 0; value = 0 })) r.1 ∙ r.2.each index)

  module _ (look : Look) (nets : ℕ → Option BitVector)
      (same : (j : ℕ) (name : List ℕ) (h : ℕ) → position (nets_at tree j) name ≡ Some h → look j name ≡ nets (nets_before tree j + h)) where
    -- an expression of an instance, by what is known of the nets
    pub same_at : (table : List Code) (i c : ℕ) (e : PlainExpr) → CodeStands tree table i c e → expr_at tree m look i e ≡ option_and_then (code_at s nets (place_of tree i)) (slice_get table c)
    same_at table i c e h =
        same_value (position (nets_at tree i)) (position (arrays_at tree i)) (look i) (λ k. nets (nets_before tree i + k))
        (word_in (m.state.word i) (decls_at tree i)) (λ a. word_at s.arrays.items (arrays_before tree i + a)) (same i) (same_word i) h.0 e h.2
        ∙ sym (ap (option_and_then (code_at s nets (place_of tree i))) h.1)

    module _ (n : Nets) (stands : NetsStand tree n) where
      same_driver : (i k : ℕ) (name : List ℕ) (o : Origin) (x : Driver) → slice_get (nets_at tree i) k ≡ Some name → origin_of tree i name ≡ Some o
          → DriverStands tree n.codes.items i o x → from_origin tree m look i name o ≡ driver_in n s nets (nets_before tree i + k) (Some x)
      same_driver i k name Outside driver.Held there is h = sym (memory.inputs i k name there is)
      same_driver i k name (Held w) driver.Held there is h = sym (memory.registers i k w name there is)
      same_driver i k name (Tied j net) (driver.Tied g) there is h =
          let r = number_parts (nets_at tree) j net g h in
          same j net r.0 r.1 ∙ ap nets r.2
      same_driver i k name (Given e) (driver.Given c p) there is h =
          same_at n.codes.items i c e h.1
          ∙ ap (λ q. option_and_then (code_at s nets q) (slice_get n.codes.items c)) (sym h.0)
      same_driver i k name o x there is h = absurd h

      -- one rule is one step
      pub same_step : (i k : ℕ) (name : List ℕ) → slice_get (nets_at tree i) k ≡ Some name → step tree m look i name ≡ rule n s nets (nets_before tree i + k)
      same_step i k name there =
          let r = stands.each i k name there in
          ap (option_and_then (from_origin tree m look i name)) r.1
          ∙ same_driver i k name r.0 r.2.0 there r.1 r.2.2
          ∙ sym (ap (driver_in n s nets (nets_before tree i + k)) r.2.1)

module _ (tree : List Placed) (m : Moment) (n : Nets) (s : Stored) (stands : NetsStand tree n) (memory : StoredStands tree m s) where
  -- what is known by numbers, by names, and the other way round
  abbrev named_look : (ℕ → Option BitVector) → Look
  named_look nets j name = option_and_then nets (net_number tree j name)

  abbrev look_of : Look → ℕ × List ℕ → Option BitVector
  look_of look q = look q.0 q.1

  abbrev numbered_look : Look → ℕ → Option BitVector
  numbered_look look g = option_and_then (look_of look) (located (nets_at tree) (length tree) g)

  named_same : (nets : ℕ → Option BitVector) (j : ℕ) (name : List ℕ) (h : ℕ) → position (nets_at tree j) name ≡ Some h → named_look nets j name ≡ nets (nets_before tree j + h)
  named_same nets j name h e = ap (λ o. option_and_then nets (option_map (λ k. nets_before tree j + k) o)) e

  numbered_same : (look : Look) (j : ℕ) (name : List ℕ) (h : ℕ) → position (nets_at tree j) name ≡ Some h → look j name ≡ numbered_look look (nets_before tree j + h)
  numbered_same look j name h e =
      let at = position_here (nets_at tree j) name h e in
      sym (ap (option_and_then (look_of look)) (located_here (nets_at tree) (length tree) j h name (net_within tree j h name at) at))

  -- a value by its number is the value by instance and name
  pub value_by_name : {f : ℕ} {v : BitVector} → HasValue n s f v → (i k : ℕ) (name : List ℕ) → f ≡ nets_before tree i + k → slice_get (nets_at tree i) k ≡ Some name → named.HasValue tree m i name v
  value_by_name {f} {v} (by_rule nets right e) i k name is there =
      by_step (named_look nets)
      (λ j net w known.
      let r = bind_some nets (net_number tree j net) w known in
      let p = number_parts (nets_at tree) j net r.0 r.1 in
      value_by_name (right r.0 w r.2) j p.0 net (sym p.2) (position_here (nets_at tree j) net p.0 p.1))
      (same_step tree m s memory (named_look nets) nets (named_same nets) n stands i k name there ∙ ap (rule n s nets) (sym is) ∙ e)

  pub value_by_number : {i : ℕ} {name : List ℕ} {v : BitVector} → named.HasValue tree m i name v → (k : ℕ) → slice_get (nets_at tree i) k ≡ Some name → HasValue n s (nets_before tree i + k) v
  value_by_number {i} {name} {v} (by_step look right e) k there =
      by_rule (numbered_look look)
      (λ g w known.
      let r = bind_some (look_of look) (located (nets_at tree) (length tree) g) w known in
      let p = located_tells (nets_at tree) (length tree) g r.0.0 r.0.1 r.1 in
      subst (λ x. HasValue n s x w) (sym p.1) (value_by_number (right r.0.0 r.0.1 w r.2) p.0 p.2))
      (sym (same_step tree m s memory look (numbered_look look) (numbered_same look) n stands i k name there) ∙ e)

  -- the first net without a value
  pub loop_by_name : (f i k : ℕ) (name : List ℕ) → f ≡ nets_before tree i + k → slice_get (nets_at tree i) k ≡ Some name → IsFirstWithout n s f → IsFirstLoop tree m i k
  loop_by_name f i k name is there first = record {
    name = name;
    stands_there = there;
    no_value = λ v has. first.no_value v (subst (λ x. HasValue n s x v) (sym is) (value_by_number has k there));
    earlier_have = λ j h net order at.
        let lower = number_order (nets_at tree) j h i k net at order in
        let v = first.earlier_have (nets_before tree j + h) (subst (λ x. nets_before tree j + h < x) (sym is) lower) in
        (v.0, value_by_name v.1 j h net refl at);
  }

  pub loop_by_number : (i k : ℕ) → IsFirstLoop tree m i k → IsFirstWithout n s (nets_before tree i + k)
  loop_by_number i k first = record {
    there = subst (λ x. nets_before tree i + k < x) (sym stands.count) (number_order_end i k first.name first.stands_there);
    earlier_have = λ g lower. earlier g lower;
    no_value = λ v has. first.no_value v (value_by_name has i k first.name refl first.stands_there);
  }
    where
      number_order_end : (i k : ℕ) (name : List ℕ) → slice_get (nets_at tree i) k ≡ Some name → nets_before tree i + k < nets_before tree (length tree)
      number_order_end i k name at = number_below (nets_at tree) i k (length tree) name (net_within tree i k name at) at

      earlier : (g : ℕ) → g < nets_before tree i + k → (v : BitVector) × HasValue n s g v
      earlier g lower =
          let below = number_order_end i k first.name first.stands_there in
          let lt : g < nets_before tree (length tree) = omega arith in
          let r = number_there (nets_at tree) (length tree) g lt in
          let order = order_back (nets_at tree) r.0 r.1 i k first.name first.stands_there (subst (λ x. x < nets_before tree i + k) r.4 lower) in
          let v = first.earlier_have r.0 r.1 r.2 order r.5 in
          (v.0, subst (λ x. HasValue n s x v.0) (sym r.4) (value_by_number v.1 r.1 r.5))
