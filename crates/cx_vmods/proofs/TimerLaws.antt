-- The module of a timer does what its row says.
use Rattle.std.specs.Prelude.{◌≡◌, ℕ, zero, suc, ◌+◌, ◌-◌, ◌%◌, ◌^◌, ◌<◌, ◌≤◌, ◌==◌, Bool, true, false, ◌&&◌, List, [], ◌∷◌, Option, Some, slice_get, unwrap_or, if◌then◌else◌, codes, refl}
use Rattle.std.proofs.Common.{ap, sym, ◌∙◌, subst, arith}
use Rattle.std.proofs.Math.Nat.{mod-eq_of_lt}
use Rattle.std.proofs.lemmas.Bool.Decides.{nat_tests}
use Rattle.cx_bits.specs.BitVector.{BitVector}
use Rattle.cx_bits.specs.Operators.{bit_of}
use Rattle.cx_prim.specs.CellStates.{Timer}
use Rattle.cx_prim.specs.Rows.{Inputs, number_of, HasSide, is_output_side, reset}
use Rattle.cx_prim.specs.CombinationalLaws.{not_output}
use Rattle.cx_prim.specs.PipeRows.{timer_row, timer_go}
use Rattle.cx_vtree.specs.Plain.{PlainModule}
use Rattle.cx_vtree.specs.InstanceTree.{Placed, nets_at}
use Rattle.cx_vtree.specs.Meaning.{Moment, Look, HasValue}
use Rattle.cx_vtree.specs.Edges.{state_after}
use Rattle.cx_vtree.specs.SimRun.{IsWhole}
use Rattle.cx_vmods.specs.Spelling.{spelled}
use Rattle.cx_vmods.specs.Parts.{made_of, with_piece}
use Rattle.cx_vmods.specs.Clocked as clocked
use Rattle.cx_vmods.specs.Modules.{ports_of, module_with}
use Rattle.cx_vmods.specs.Stands.{StandsFor}
use Rattle.cx_vmods.specs.Built.{kept_at, port_net, zero_at, Stands, IsAt, AreGiven, HoldsWords, GivesOutputs, GivesNets, Steps, Resets, IsBuilt}
use Rattle.cx_vmods.specs.Inside.{Known, known, AreKnown, value_in, set_in}
use Rattle.cx_vmods.proofs.InsideLemmas.{none_known, also_known, has_by, all_have}
use Rattle.cx_vmods.proofs.EdgeLemmas.{set_has, register_cleared}
use Rattle.cx_vmods.proofs.InputLemmas.{HasBit, input_has, bit_has, register_has}

abbrev timer_at : List ℕ → ℕ → PlainModule
timer_at name n = module_with name (ports_of (timer_row n)) (made_of (clocked.timer n))

-- the registers, with their values
abbrev held : ℕ → Bool → List Known
held count done = known (spelled (codes "count")) 32 count ∷ known (spelled (codes "finished")) 1 (bit_of done).value ∷ []

-- whether this is the last cycle, as the module finds it
abbrev is_last : ℕ → ℕ → Bool
is_last n count = count == (n - 1) % 2 ^ 32

-- all nets in their order
abbrev all_nets : ℕ → Bool → ℕ → Bool → List Known
all_nets n go count done =
    known (spelled (codes "go")) 1 (bit_of go).value ∷ known (spelled (codes "out")) 32 count ∷ known (spelled (codes "done")) 1 (bit_of done).value
    ∷ known (spelled (codes "ends")) 1 (bit_of (is_last n count)).value ∷ known (spelled (codes "finishes")) 1 (bit_of (go && is_last n count)).value ∷ held count done

abbrev IsTimer : List ℕ → ℕ → ℕ → List Placed → Moment → ℕ → ℕ → Bool → Inputs → Type 0
IsTimer name n width tree now j count done inputs = IsAt (timer_at name n) (timer_row n) (StandsFor width) tree now j (Timer count done) inputs

module _ (name : List ℕ) (n width : ℕ) (tree : List Placed) (now : Moment) (j : ℕ) (count : ℕ) (done : Bool) (inputs : Inputs) (at : IsTimer name n width tree now j count done inputs) where
  registers_known : AreKnown tree now j (held count done)
  unfolding spelled with_piece
  registers_known =
      also_known (known (spelled (codes "count")) 32 count) (register_has (spelled (codes "count")) 32 count at.stands refl at.holds.0)
      (also_known (known (spelled (codes "finished")) 1 (bit_of done).value) (register_has (spelled (codes "finished")) 1 (bit_of done).value at.stands refl at.holds.1) none_known)

  go_has : AreGiven (timer_row n) inputs → HasBit tree now j inputs 0 (spelled (codes "go"))
  unfolding spelled with_piece
  go_has given = bit_has (input_has at 0 _ refl refl (given 0 _ refl refl))

  nets_known : (go : HasBit tree now j inputs 0 (spelled (codes "go"))) → AreKnown tree now j (all_nets n go.bit count done)
  unfolding spelled with_piece
  nets_known go =
      let last = has_by {ks = held count done} {name = spelled (codes "ends")} {v = bit_of (is_last n count)} at.stands registers_known refl in
      let at_end = also_known (known (spelled (codes "ends")) 1 (bit_of (is_last n count)).value) last registers_known in
      also_known (known (spelled (codes "go")) 1 (bit_of go.bit).value) go.has
      (also_known (known (spelled (codes "out")) 32 count) (has_by at.stands registers_known refl)
      (also_known (known (spelled (codes "done")) 1 (bit_of done).value) (has_by at.stands registers_known refl)
      (also_known (known (spelled (codes "ends")) 1 (bit_of (is_last n count)).value) last
      (also_known (known (spelled (codes "finishes")) 1 (bit_of (go.bit && is_last n count)).value)
      (has_by at.stands (also_known (known (spelled (codes "go")) 1 (bit_of go.bit).value) go.has at_end) (by go.bit (is_last n count))) registers_known))))
    where
      by : (t u : Bool) → value_in (timer_at name n) (kept_at now.state j) (known (spelled (codes "go")) 1 (bit_of t).value ∷ known (spelled (codes "ends")) 1 (bit_of u).value ∷ held count done) (spelled (codes "finishes")) ≡ Some (bit_of (t && u))
      by true true = refl
      by true false = refl
      by false true = refl
      by false false = refl

  outputs : (k : ℕ) → HasSide (timer_row n) k is_output_side → HasValue tree now j (port_net (timer_at name n) k) (unwrap_or ((timer_row n).output (Timer count done) inputs k) (zero_at (timer_row n) k))
  unfolding spelled with_piece
  outputs zero side = absurd (not_output _ _ side.1 refl side.2)
  outputs (suc zero) side = has_by at.stands registers_known refl
  outputs (suc (suc zero)) side = has_by at.stands registers_known refl
  outputs (suc (suc (suc k))) side = absurd (let none = side.1 in cc)

  nets : AreGiven (timer_row n) inputs → (k : ℕ) (net : List ℕ) → slice_get (nets_at tree j) k ≡ Some net → 2 ≤ k → (v : BitVector) × HasValue tree now j net v
  unfolding spelled with_piece
  nets given k net there behind = all_have _ _ at.stands (nets_known (go_has given)) refl there behind

  module _ (look : Look) (whole : IsWhole tree now look) (running : now.reset ≡ 0) (go : HasBit tree now j inputs 0 (spelled (codes "go"))) where
    next_count : (state_after tree now look).register j (spelled (codes "count")) ≡ (if go.bit then (if is_last n count then 0 % 2 ^ 32 else (count + 1 % 2 ^ 32) % 2 ^ 32) else 0 % 2 ^ 32)
    unfolding spelled with_piece
    next_count = set_has (spelled (codes "count")) (record { width = 32; value = if go.bit then (if is_last n count then 0 % 2 ^ 32 else (count + 1 % 2 ^ 32) % 2 ^ 32) else 0 % 2 ^ 32 }) 0 look at.stands whole running (nets_known go) (by go.bit (is_last n count))
      where
        by : (t u : Bool) → set_in 0 (timer_at name n) (kept_at now.state j)
            (known (spelled (codes "go")) 1 (bit_of t).value ∷ known (spelled (codes "out")) 32 count ∷ known (spelled (codes "done")) 1 (bit_of done).value
            ∷ known (spelled (codes "ends")) 1 (bit_of u).value ∷ known (spelled (codes "finishes")) 1 (bit_of (t && u)).value ∷ held count done) (spelled (codes "count"))
            ≡ Some (record { width = 32; value = if t then (if u then 0 % 2 ^ 32 else (count + 1 % 2 ^ 32) % 2 ^ 32) else 0 % 2 ^ 32 })
        by true true = refl
        by true false = refl
        by false u = refl

    next_finished : (state_after tree now look).register j (spelled (codes "finished")) ≡ (bit_of (go.bit && is_last n count)).value
    unfolding spelled with_piece
    next_finished = set_has (spelled (codes "finished")) (bit_of (go.bit && is_last n count)) 0 look at.stands whole running (nets_known go) refl

    step : 1 ≤ n → n < 2 ^ 32 → StandsFor width (kept_at (state_after tree now look) j) ((timer_row n).next (Timer count done) inputs)
    step some few = subst (λ (o : Option BitVector). StandsFor width (kept_at (state_after tree now look) j) (if number_of o == 1 then timer_go n (Timer count done) else Timer 0 false)) (sym go.is) (by go.bit (is_last n count) refl refl)
      where
        last_is : is_last n count ≡ (count + 1 == n)
        last_is =
            let below : (n - 1) % 2 ^ 32 ≡ n - 1 = mod-eq_of_lt (omega arith) in
            ap (λ (m : ℕ). count == m) below ∙ grind (arith, nat_tests)

        by : (t u : Bool) → go.bit ≡ t → is_last n count ≡ u → StandsFor width (kept_at (state_after tree now look) j) (if (bit_of t).value == 1 then timer_go n (Timer count done) else Timer 0 false)
        by true true e f =
            let at_last : (count + 1 == n) ≡ true = sym last_is ∙ f in
            subst (λ (b : Bool). StandsFor width (kept_at (state_after tree now look) j) (if b then Timer 0 true else Timer (count + 1) false)) (sym at_last) (
              next_count ∙ ap (λ (b : Bool). if b then (if is_last n count then 0 % 2 ^ 32 else (count + 1 % 2 ^ 32) % 2 ^ 32) else 0 % 2 ^ 32) e ∙ ap (λ (b : Bool). if b then 0 % 2 ^ 32 else (count + 1 % 2 ^ 32) % 2 ^ 32) f,
              next_finished ∙ ap (λ (b : Bool). (bit_of (b && is_last n count)).value) e ∙ ap (λ (b : Bool). (bit_of b).value) f,
            )
        by true false e f =
            let at_last : (count + 1 == n) ≡ false = sym last_is ∙ f in
            let under = at.of_row in
            let fits : (count + 1) % 2 ^ 32 ≡ count + 1 = mod-eq_of_lt (omega arith) in
            subst (λ (b : Bool). StandsFor width (kept_at (state_after tree now look) j) (if b then Timer 0 true else Timer (count + 1) false)) (sym at_last) (
              next_count ∙ ap (λ (b : Bool). if b then (if is_last n count then 0 % 2 ^ 32 else (count + 1 % 2 ^ 32) % 2 ^ 32) else 0 % 2 ^ 32) e ∙ ap (λ (b : Bool). if b then 0 % 2 ^ 32 else (count + 1 % 2 ^ 32) % 2 ^ 32) f ∙ fits,
              next_finished ∙ ap (λ (b : Bool). (bit_of (b && is_last n count)).value) e ∙ ap (λ (b : Bool). (bit_of b).value) f,
            )
        by false u e f =
            (next_count ∙ ap (λ (b : Bool). if b then (if is_last n count then 0 % 2 ^ 32 else (count + 1 % 2 ^ 32) % 2 ^ 32) else 0 % 2 ^ 32) e, next_finished ∙ ap (λ (b : Bool). (bit_of (b && is_last n count)).value) e)

-- every register is 0 after an edge with reset
reset_edge : (name : List ℕ) (n width : ℕ) (tree : List Placed) (now : Moment) (look : Look) (j : ℕ) → Stands (timer_at name n) tree j → IsWhole tree now look → now.reset ≡ 1
    → StandsFor width (kept_at (state_after tree now look) j) (Timer 0 false)
unfolding spelled with_piece
reset_edge name n width tree now look j stands whole is =
    (register_cleared (spelled (codes "count")) 32 look stands whole is refl, register_cleared (spelled (codes "finished")) 1 look stands whole is refl)

-- the module of a timer
pub timer_built : (name : List ℕ) (n width : ℕ) → 1 ≤ n → n < 2 ^ 32 → IsBuilt (timer_at name n) (timer_row n) (StandsFor width)
timer_built name n width some few = record {
  start = (refl, refl);
  loaded = λ words word takes same. absurd takes;
  words = words;
  outputs = outputs_of;
  nets = nets_of;
  step = step_of;
  reset_edge = reset_of;
}
  where
    words : HoldsWords (timer_at name n) (timer_row n) (StandsFor width)
    words kept (Timer count done) k holds of_row within = absurd (omega arith)
    words kept state k holds of_row within = absurd of_row

    outputs_of : GivesOutputs (timer_at name n) (timer_row n) (StandsFor width)
    outputs_of tree now j k (Timer count done) inputs at side given = outputs name n width tree now j count done inputs at k side
    outputs_of tree now j k state inputs at side given = absurd at.of_row

    nets_of : GivesNets (timer_at name n) (timer_row n) (StandsFor width)
    nets_of tree now j k net (Timer count done) inputs at given = nets name n width tree now j count done inputs at given k net
    nets_of tree now j k net state inputs at given = absurd at.of_row

    step_of : Steps (timer_at name n) (timer_row n) (StandsFor width)
    step_of tree now look j (Timer count done) inputs at given whole running =
        step name n width tree now j count done inputs at look whole running (go_has name n width tree now j count done inputs at given) some few
    step_of tree now look j state inputs at given whole running = absurd at.of_row

    reset_of : Resets (timer_at name n) (timer_row n) (StandsFor width)
    reset_of tree now look j state stands holds of_row whole is = reset_edge name n width tree now look j stands whole is
