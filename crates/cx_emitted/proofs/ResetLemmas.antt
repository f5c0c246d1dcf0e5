-- The edge with reset: registers are 0 behind it, and words are as they were.
use Rattle.std.proofs.Common.{◌≡◌, ℕ, ◌==◌, nat_lt, List, [], ◌∷◌, Bool, true, false, Option, Some, None, option_and_then, slice_get, if◌then◌else◌, refl, sym, ap, ◌∙◌, subst}
use Rattle.std.specs.Prelude.{All, IsSome}
use Rattle.std.specs.Option.{option_map_or}
use Rattle.std.specs.Cmp.Lexicographic.{same_text}
use Rattle.std.proofs.lemmas.List.Elements.{All-head, All-tail}
use Rattle.std.proofs.lemmas.Option.{option_and_then_some}
use Rattle.cx_bits.specs.BitVector.{BitVector}
use Rattle.cx_vtree.specs.Plain.{Number, PlainPort, PlainDecl, WireOf, RegisterOf, ArrayOf, PlainAssign, PlainEdge, PlainSource}
use Rattle.cx_vtree.specs.InstanceTree.{Placed, same_name, decls_at, NetKind, Input, Driven, Stored, declared_kind, kind_in, Held, net_of, assigned, driving_output, origin_by, origin_of, instances_of}
use Rattle.cx_vtree.specs.Meaning.{State, Moment, Look, expr_at}
use Rattle.cx_vtree.specs.Edges.{acting_sets, acting_stores, edge_at, number_or, register_after, array_size, store_to, word_by}
use Rattle.cx_vtree.specs.SimRun.{Outcome, start_state, SimRun, loops_in_reset, after_reset}
use Rattle.cx_emitted.specs.Resets.{IsZero, IsSetAmong, HasReset, IsReset}
use Rattle.cx_emitted.specs.Power.{HasPower, held_in_reset, after_power, PowerRun, IsNoLoop}
use Rattle.cx_emitted.proofs.ModuleLemmas.{part_keeps}
use Rattle.cx_emitted.proofs.AlikeLemmas.{Alike, runs_alike}
use Rattle.cx_vtree.proofs.InstanceTreeLemmas.{input_unheld, output_unheld, assigned_unheld}
use Rattle.cx_text.proofs.OptionLaws.{by_test}

held_kind : (tree : List Placed) (i w : ℕ) (p : Placed) (name : List ℕ) (kind : NetKind) → origin_by tree i p name kind ≡ Some (Held w) → kind ≡ Stored w
held_kind tree i w p name Input e = absurd (input_unheld (i == 0) (net_of p.conns name) p.holder w e)
held_kind tree i w p name Driven e = absurd (assigned_unheld (assigned p.part.assigns name) (driving_output tree 0 i name) w (output_unheld tree 0 i w name) e)
held_kind tree i w p name (Stored v) e = cc

module _ (sets : List PlainAssign) where
  declared_set : (ds : List PlainDecl) (name : List ℕ) (w : ℕ) → All (IsSetAmong sets) ds → declared_kind ds name ≡ Some (Stored w) → IsSome (assigned sets name)
  declared_set [] name w all e = absurd (cc)
  declared_set (WireOf n v ∷ ds) name w all e =
      by_test (IsSome (assigned sets name)) (same_name n name) (Some Driven) (declared_kind ds name) (Stored w) e
      (λ same f. absurd (cc))
      (λ f. declared_set ds name w (All-tail (IsSetAmong sets) (WireOf n v) ds all) f)
  declared_set (RegisterOf n v ∷ ds) name w all e =
      by_test (IsSome (assigned sets name)) (same_name n name) (Some (Stored v)) (declared_kind ds name) (Stored w) e
      (λ same f. subst (λ m. IsSome (assigned sets m)) (same_text n name (sym same)) (All-head (IsSetAmong sets) (RegisterOf n v) ds all))
      (λ f. declared_set ds name w (All-tail (IsSetAmong sets) (RegisterOf n v) ds all) f)
  declared_set (ArrayOf n v k ∷ ds) name w all e = declared_set ds name w (All-tail (IsSetAmong sets) (ArrayOf n v k) ds all) e

  port_unstored : (o : Bool) (w : ℕ) → Some (if o then Driven else Input) ≡ Some (Stored w) → ⊥
  port_unstored true w e = absurd (cc)
  port_unstored false w e = absurd (cc)

  register_set : (ps : List PlainPort) (ds : List PlainDecl) (name : List ℕ) (w : ℕ) → All (IsSetAmong sets) ds → kind_in ps ds name ≡ Some (Stored w) → IsSome (assigned sets name)
  register_set [] ds name w all e = declared_set ds name w all e
  register_set (p ∷ ps) ds name w all e =
      by_test (IsSome (assigned sets name)) (same_name p.name name) (Some (if p.output then Driven else Input)) (kind_in ps ds name) (Stored w) e
      (λ same f. absurd (port_unstored p.output w f))
      (λ f. register_set ps ds name w all f)

-- among these a name is set to a number of value 0
abbrev IsZeroed : List PlainAssign → List ℕ → Type 0
IsZeroed sets name = (b : BitVector) × (assigned sets name ≡ Some (Number b)) × (b.value ≡ 0)

zeroed : (sets : List PlainAssign) (name : List ℕ) → All IsZero sets → IsSome (assigned sets name) → IsZeroed sets name
zeroed [] name all some = absurd (cc)
zeroed (a ∷ rest) name all some = go (same_name a.name name) refl (zeroed rest name (All-tail IsZero a rest all)) some where
  go : (same : Bool) → same_name a.name name ≡ same → (IsSome (assigned rest name) → IsZeroed rest name) → IsSome (if same then Some a.value else assigned rest name)
      → (b : BitVector) × ((if same_name a.name name then Some a.value else assigned rest name) ≡ Some (Number b)) × (b.value ≡ 0)
  go true e later is = let z = All-head IsZero a rest all in (z.0, ap (λ t. if t then Some a.value else assigned rest name) e ∙ ap Some z.1, z.2)
  go false e later is = let z = later is in (z.0, ap (λ t. if t then Some a.value else assigned rest name) e ∙ z.1, z.2)

module _ (source : PlainSource) where
  abbrev tree : List Placed
  tree = instances_of source

  held_zeroed : IsReset source → (i : ℕ) (name : List ℕ) (w : ℕ) → origin_of tree i name ≡ Some (Held w) → IsZeroed (acting_sets 1 (edge_at tree i)) name
  held_zeroed is i name w e =
      option_and_then_some (λ p. option_and_then (origin_by tree i p name) (kind_in p.part.ports p.part.decls name)) (slice_get tree i) (Held w) e
      (λ p there f. option_and_then_some (origin_by tree i p name) (kind_in p.part.ports p.part.decls name) (Held w) f
      (λ kind kinds g.
      let has : HasReset p.part = part_keeps HasReset source is i p there in
      let sets : List PlainAssign = acting_sets 1 p.part.edge in
      let stored : kind_in p.part.ports p.part.decls name ≡ Some (Stored w) = kinds ∙ ap Some (held_kind tree i w p name kind g) in
      let own : IsZeroed sets name = zeroed sets name has.zeros (register_set sets p.part.ports p.part.decls name w has.registers stored) in
      subst (λ edge. IsZeroed (acting_sets 1 edge) name) (sym (ap (option_and_then (λ (q : Placed). q.part.edge)) there)) own))

  zero_after : IsReset source → (m : Moment) → m.reset ≡ 1 → (look : Look) (i : ℕ) (name : List ℕ) (w : ℕ) → origin_of tree i name ≡ Some (Held w) → register_after tree m look i name ≡ 0
  zero_after is m reset look i name w e =
      let z = held_zeroed is i name w e in
      ap (λ r. option_map_or (λ x. number_or (m.state.register i name) (expr_at tree m look i x)) (assigned (acting_sets r (edge_at tree i)) name) (m.state.register i name)) reset
      ∙ ap (λ o. option_map_or (λ x. number_or (m.state.register i name) (expr_at tree m look i x)) o (m.state.register i name)) z.1
      ∙ z.2

  no_store : (name : List ℕ) (edge : Option PlainEdge) → store_to (acting_stores 1 edge) name ≡ None
  no_store name None = refl
  no_store name (Some e) = refl

  pub word_stays : (go : ℕ) (look : Look) (s : State) (i : ℕ) (name : List ℕ) (k : ℕ) → (after_power source go look s).word i name k ≡ s.word i name k
  word_stays go look s i name k =
      ap (λ o. if nat_lt k (array_size (decls_at tree i) name) then option_map_or (word_by tree (held_in_reset go s) look i (s.word i name k) k) o (s.word i name k) else s.word i name k) (no_store name (edge_at tree i))
      ∙ either (nat_lt k (array_size (decls_at tree i) name))
    where
      either : (b : Bool) → (if b then s.word i name k else s.word i name k) ≡ s.word i name k
      either true = refl
      either false = refl

  -- all power-up states lead to one
  pub alike_after : IsReset source → (loaded : List (List ℕ)) (s t : State) → HasPower source loaded s → HasPower source loaded t → (go other : ℕ) (look nets : Look)
      → Alike tree (after_power source go look s) (after_power source other nets t)
  alike_after is loaded s t hs ht go other look nets = record {
    registers = λ i name w e. zero_after is (held_in_reset go s) refl look i name w e ∙ sym (zero_after is (held_in_reset other t) refl nets i name w e);
    words = λ i name k. word_stays go look s i name k ∙ hs i name k ∙ sym (ht i name k) ∙ sym (word_stays other nets t i name k);
  }

  pub forgets : IsReset source → (loaded : List (List ℕ)) {last : ℕ} {o : Outcome} → SimRun source loaded last o → IsNoLoop o → (power : State) → HasPower source loaded power → PowerRun source power last o
  forgets is loaded (loops_in_reset {i} {k} l) none power has = absurd (none i k refl)
  forgets is loaded (after_reset look w rest) none power has = record {
    runs = λ go nets. runs_alike source rest (after_power source go nets power) (alike_after is loaded (start_state source loaded) power (λ i name k. refl) has 0 go look nets);
  }
