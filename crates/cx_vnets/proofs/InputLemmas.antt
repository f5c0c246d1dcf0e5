-- The inputs of a cycle.
use Rattle.std.proofs.Common.{◌≡◌, ℕ, ◌+◌, ◌<◌, ◌==◌, Bool, true, false, not, List, Option, Some, None, option_and_then, option_map, slice_get, slice_set, length, refl, ap, sym, ◌∙◌, subst, if◌then◌else◌}
use Rattle.std.specs.Prelude.{codes}
use Rattle.std.specs.Option.{option_map_or}
use Rattle.std.proofs.lemmas.Bool.{eqb-true}
use Rattle.std.proofs.lemmas.List.{length-set}
use Rattle.std.proofs.lemmas.Option.{slice_get_within}
use Rattle.cx_bits.specs.BitVector.{BitVector}
use Rattle.cx_vtree.specs.Plain.{PlainExpr}
use Rattle.cx_vtree.specs.InstanceTree.{Placed, same_name, nets_at, NetKind, Input, Driven, Stored, Outside, Tied, Held, Given, net_of, assigned, driving_output, origin_by, kind_in, origin_of}
use Rattle.cx_vtree.specs.Meaning.{State, Moment, outside_value}
use Rattle.cx_vnets.specs.declared.nets.Stored.{Stored as Memory}
use Rattle.cx_vnets.specs.declared.machines.Machine.{Machine}
use Rattle.cx_vnets.specs.Runs.{bit, WithInputs}
use Rattle.cx_vnets.specs.Numbers.{nets_before, arrays_before}
use Rattle.cx_vnets.specs.Memory.{StoredStands}
use Rattle.cx_vnets.specs.EdgesFlat.{AreApart}
use Rattle.cx_vnets.specs.RunsFlat.{IsInput}
use Rattle.cx_vnets.proofs.Numbering.{number_at, number_once}
use Rattle.cx_vnets.proofs.FlatSetSteps.{get_set_other}
use Rattle.cx_vtree.proofs.InstanceTreeLemmas.{driving_not_outside, same_is, same_self}
use Rattle.cx_text.proofs.OptionLaws.{bind_some}
use Rattle.cx_text.proofs.ListLaws.{get_set_same}

module _ (tree : List Placed) (i : ℕ) (name : List ℕ) where
  input_zero : (t : Bool) (o : Option (List ℕ)) (holder : ℕ) → (if t then Some Outside else option_map (Tied holder) o) ≡ Some Outside → t ≡ true
  input_zero true o holder e = refl
  input_zero false None holder e = absurd (cc)
  input_zero false (Some net) holder e = absurd (cc)

  driven_never : (o : Option PlainExpr) → option_map_or (λ e. Some (Given e)) o (driving_output tree 0 i name) ≡ Some Outside → ⊥
  driven_never None e = driving_not_outside tree 0 i name e
  driven_never (Some x) e = cc

  by_kind : (p : Placed) (kind : NetKind) → origin_by tree i p name kind ≡ Some Outside → i ≡ 0
  by_kind p Input e = eqb-true i 0 (input_zero (i == 0) (net_of p.conns name) p.holder e)
  by_kind p Driven e = absurd (driven_never (assigned p.part.assigns name) e)
  by_kind p (Stored w) e = absurd (cc)

  outside_zero : origin_of tree i name ≡ Some Outside → i ≡ 0
  outside_zero e =
      let r = bind_some (λ (p : Placed). option_and_then (origin_by tree i p name) (kind_in p.part.ports p.part.decls name)) (slice_get tree i) Outside e in
      let q = bind_some (origin_by tree i r.0 name) (kind_in r.0.part.ports r.0.part.decls name) Outside r.2 in
      by_kind r.0 q.0 q.2

module _ (tree : List Placed) (apart : AreApart tree) (input : List ℕ) (f : ℕ) (is : IsInput tree input f) where
  -- the net of an input is no other net
  input_once : (i k : ℕ) (name : List ℕ) → slice_get (nets_at tree i) k ≡ Some name → f ≡ nets_before tree i + k → (0 ≡ i) × (input ≡ name)
  input_once i k name there same =
      let p = number_at (nets_at tree) 0 input f is.number in
      let one = number_once (nets_at tree) 0 p.0 i k input name p.1 there (p.2 ∙ same) in
      (one.0, one.2)

  no_register : (i k w : ℕ) (name : List ℕ) → slice_get (nets_at tree i) k ≡ Some name → origin_of tree i name ≡ Some (Held w) → f ≡ nets_before tree i + k → ⊥
  no_register i k w name there held same =
      let one = input_once i k name there same in
      let origin = sym is.outside ∙ ap (λ j. origin_of tree j input) one.0 ∙ ap (origin_of tree i) one.1 ∙ held in
      cc

  other_name : (k : ℕ) (name : List ℕ) → slice_get (nets_at tree 0) k ≡ Some name → same_name name input ≡ false → f ≡ nets_before tree 0 + k → ⊥
  other_name k name there differs same =
      let one = input_once 0 k name there same in
      let t = subst (λ n. same_name n input ≡ true) one.1 (same_self input) in
      let never = sym t ∙ differs in cc

  input_net : (k : ℕ) → slice_get (nets_at tree 0) k ≡ Some input → f ≡ nets_before tree 0 + k
  input_net k there =
      let p = number_at (nets_at tree) 0 input f is.number in
      sym p.2 ∙ ap (λ z. nets_before tree 0 + z) (apart.nets 0 p.0 k input p.1 there)

module _ (tree : List Placed) (apart : AreApart tree) (m : Machine) (reset_is : IsInput tree (codes "reset") m.reset) (go_is : IsInput tree (codes "go") m.go)
    (state : State) (r g : ℕ) (one two : Bool) (before after : Memory) (memory : StoredStands tree (record { state = state; reset = r; go = g }) before)
    (nets_are : after.nets.items ≡ slice_set (slice_set before.nets.items m.reset (bit one)) m.go (bit two)) (arrays_are : after.arrays.items ≡ before.arrays.items) where
  abbrev inner : List BitVector
  inner = slice_set before.nets.items m.reset (bit one)

  abbrev nets : List BitVector
  nets = slice_set inner m.go (bit two)

  abbrev old : Moment
  old = record { state = state; reset = r; go = g }

  abbrev new : Moment
  new = record { state = state; reset = if one then 1 else 0; go = if two then 1 else 0 }

  other_net : (f : ℕ) → (m.reset ≡ f → ⊥) → (m.go ≡ f → ⊥) → slice_get nets f ≡ slice_get before.nets.items f
  other_net f not_reset not_go = get_set_other inner m.go f (bit two) not_go ∙ get_set_other before.nets.items m.reset f (bit one) not_reset

  -- an input of `main` by its name
  module _ (k : ℕ) (name : List ℕ) (there : slice_get (nets_at tree 0) k ≡ Some name) (out : origin_of tree 0 name ≡ Some Outside) where
    abbrev f : ℕ
    f = nets_before tree 0 + k

    abbrev value_by : Bool → Bool → BitVector
    value_by is_reset is_go = record { width = 1; value = if is_reset then new.reset else (if is_go then new.go else 0) }

    within : f < length before.nets.items
    within = slice_get_within before.nets.items f (outside_value old name) (memory.inputs 0 k name there out)

    not_reset : same_name name (codes "reset") ≡ false → m.reset ≡ f → ⊥
    not_reset differs = other_name tree apart (codes "reset") m.reset reset_is k name there differs

    not_go : same_name name (codes "go") ≡ false → m.go ≡ f → ⊥
    not_go differs = other_name tree apart (codes "go") m.go go_is k name there differs

    at_reset : codes "reset" ≡ name → slice_get nets f ≡ Some (bit one)
    at_reset same =
        let net = input_net tree apart (codes "reset") m.reset reset_is k (there ∙ ap Some (sym same)) in
        get_set_other inner m.go f (bit two) (not_go (subst (λ n. same_name n (codes "go") ≡ false) same refl))
        ∙ ap (λ j. slice_get (slice_set before.nets.items j (bit one)) f) net
        ∙ get_set_same before.nets.items f (bit one) within

    at_go : codes "go" ≡ name → slice_get nets f ≡ Some (bit two)
    at_go same =
        let net = input_net tree apart (codes "go") m.go go_is k (there ∙ ap Some (sym same)) in
        ap (λ j. slice_get (slice_set inner j (bit two)) f) net
        ∙ get_set_same inner f (bit two) (subst (λ c. f < c) (sym (length-set before.nets.items m.reset (bit one))) within)

    at_other : same_name name (codes "reset") ≡ false → same_name name (codes "go") ≡ false → slice_get nets f ≡ Some (value_by false false)
    at_other no_reset no_go =
        other_net f (not_reset no_reset) (not_go no_go)
        ∙ memory.inputs 0 k name there out
        ∙ ap (λ t. Some (record { width = 1; value = if t then r else (if same_name name (codes "go") then g else 0) })) no_reset
        ∙ ap (λ t. Some (record { width = 1; value = if t then g else 0 })) no_go

    by_names : (t u : Bool) → same_name name (codes "reset") ≡ t → same_name name (codes "go") ≡ u → slice_get nets f ≡ Some (value_by t u)
    by_names true u is is' = at_reset (sym (same_is name (codes "reset") is))
    by_names false true is is' = at_go (sym (same_is name (codes "go") is'))
    by_names false false is is' = at_other is is'

    input_value : slice_get nets f ≡ Some (outside_value new name)
    input_value = by_names (same_name name (codes "reset")) (same_name name (codes "go")) refl refl

  input_at : (i k : ℕ) (name : List ℕ) → slice_get (nets_at tree i) k ≡ Some name → origin_of tree i name ≡ Some Outside → i ≡ 0 → slice_get nets (nets_before tree i + k) ≡ Some (outside_value new name)
  input_at i k name there out zero_is =
      subst (λ j. slice_get nets (nets_before tree j + k) ≡ Some (outside_value new name)) (sym zero_is)
      (input_value k name (subst (λ j. slice_get (nets_at tree j) k ≡ Some name) zero_is there) (subst (λ j. origin_of tree j name ≡ Some Outside) zero_is out))

  -- what is stored with the inputs of another cycle
  pub inputs_stand : StoredStands tree new after
  inputs_stand = record {
    registers = λ i k w name there held.
        ap (λ l. slice_get l (nets_before tree i + k)) nets_are
        ∙ other_net (nets_before tree i + k)
        (no_register tree apart (codes "reset") m.reset reset_is i k w name there held)
        (no_register tree apart (codes "go") m.go go_is i k w name there held)
        ∙ memory.registers i k w name there held;
    inputs = λ i k name there out. ap (λ l. slice_get l (nets_before tree i + k)) nets_are ∙ input_at i k name there out (outside_zero tree i name out);
    arrays = λ i a name there. let x = memory.arrays i a name there in (x.0, ap (λ l. slice_get l (arrays_before tree i + a)) arrays_are ∙ x.1, x.2);
    count = ap length arrays_are ∙ memory.count;
  }

pub inputs_same : (tree : List Placed) → AreApart tree → (m : Machine) → IsInput tree (codes "reset") m.reset → IsInput tree (codes "go") m.go → (state : State) (r g : ℕ) (one : Bool) (before after : Memory)
    → StoredStands tree (record { state = state; reset = r; go = g }) before → WithInputs m one before after → StoredStands tree (record { state = state; reset = if one then 1 else 0; go = if not one then 1 else 0 }) after
inputs_same tree apart m reset_is go_is state r g one before after memory inputs = inputs_stand tree apart m reset_is go_is state r g one (not one) before after memory inputs.nets inputs.arrays
