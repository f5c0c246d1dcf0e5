-- The module of a register does what its row says.
use Rattle.std.specs.Prelude.{◌≡◌, ℕ, zero, suc, ◌≤◌, ◌==◌, Bool, true, false, List, [], ◌∷◌, Option, Some, slice_get, unwrap_or, if◌then◌else◌, codes, refl}
use Rattle.std.proofs.Common.{ap, sym, ◌∙◌, subst, arith}
use Rattle.cx_bits.specs.BitVector.{BitVector}
use Rattle.cx_bits.specs.Operators.{bit_of}
use Rattle.cx_prim.specs.CellStates.{Register}
use Rattle.cx_prim.specs.Rows.{Inputs, number_of, value_at, HasSide, is_output_side, reset}
use Rattle.cx_prim.specs.CombinationalLaws.{not_output}
use Rattle.cx_prim.specs.RegisterRow.{register_row}
use Rattle.cx_vtree.specs.Plain.{PlainModule}
use Rattle.cx_vtree.specs.InstanceTree.{Placed, nets_at}
use Rattle.cx_vtree.specs.Meaning.{Moment, Look, HasValue}
use Rattle.cx_vtree.specs.Edges.{state_after}
use Rattle.cx_vtree.specs.SimRun.{IsWhole}
use Rattle.cx_vmods.specs.Spelling.{spelled}
use Rattle.cx_vmods.specs.Parts.{made_of, with_piece}
use Rattle.cx_vmods.specs.Clocked as clocked
use Rattle.cx_vmods.specs.Modules.{ports_of, module_with}
use Rattle.cx_vmods.specs.Stands.{StandsFor}
use Rattle.cx_vmods.specs.Built.{kept_at, port_net, zero_at, Stands, IsAt, AreGiven, HoldsWords, GivesOutputs, GivesNets, Steps, Resets, IsBuilt}
use Rattle.cx_vmods.specs.Inside.{Known, known, AreKnown, set_in}
use Rattle.cx_vmods.proofs.InsideLemmas.{none_known, also_known, has_by, all_have}
use Rattle.cx_vmods.proofs.EdgeLemmas.{set_has, register_cleared}
use Rattle.cx_vmods.proofs.InputLemmas.{HasInput, HasBit, input_has, bit_has, register_has}

abbrev register_at : List ℕ → ℕ → PlainModule
register_at name w = module_with name (ports_of (register_row w)) (made_of (clocked.register w))

-- the registers, with their values
abbrev held : ℕ → ℕ → Bool → List Known
held w value done = known (spelled (codes "held")) w value ∷ known (spelled (codes "finished")) 1 (bit_of done).value ∷ []

-- all nets in their order
abbrev all_nets : ℕ → ℕ → Bool → ℕ → Bool → List Known
all_nets w a enable value done =
    known (spelled (codes "in")) w a ∷ known (spelled (codes "write_en")) 1 (bit_of enable).value ∷ known (spelled (codes "out")) w value ∷ known (spelled (codes "done")) 1 (bit_of done).value ∷ held w value done

-- what stands at the inputs
record AtInputs (tree : List Placed) (now : Moment) (j w : ℕ) (inputs : Inputs) : Type 0 where
  pub data_in : HasInput tree now j inputs 0 (spelled (codes "in")) w
  pub enable : HasBit tree now j inputs 1 (spelled (codes "write_en"))

abbrev IsRegister : List ℕ → ℕ → List Placed → Moment → ℕ → ℕ → Bool → Inputs → Type 0
IsRegister name w tree now j value done inputs = IsAt (register_at name w) (register_row w) (StandsFor w) tree now j (Register value done) inputs

module _ (name : List ℕ) (w : ℕ) (tree : List Placed) (now : Moment) (j : ℕ) (value : ℕ) (done : Bool) (inputs : Inputs) (at : IsRegister name w tree now j value done inputs) where
  registers_known : AreKnown tree now j (held w value done)
  unfolding spelled with_piece
  registers_known =
      also_known (known (spelled (codes "held")) w value) (register_has (spelled (codes "held")) w value at.stands refl at.holds.0)
      (also_known (known (spelled (codes "finished")) 1 (bit_of done).value) (register_has (spelled (codes "finished")) 1 (bit_of done).value at.stands refl at.holds.1) none_known)

  at_inputs : AreGiven (register_row w) inputs → AtInputs tree now j w inputs
  unfolding spelled with_piece
  at_inputs given = record { data_in = input_has at 0 _ refl refl (given 0 _ refl refl); enable = bit_has (input_has at 1 _ refl refl (given 1 _ refl refl)) }

  nets_known : (given : AtInputs tree now j w inputs) → AreKnown tree now j (all_nets w given.data_in.value given.enable.bit value done)
  unfolding spelled with_piece
  nets_known given =
      also_known (known (spelled (codes "in")) w given.data_in.value) given.data_in.has
      (also_known (known (spelled (codes "write_en")) 1 (bit_of given.enable.bit).value) given.enable.has
      (also_known (known (spelled (codes "out")) w value) (has_by at.stands registers_known refl)
      (also_known (known (spelled (codes "done")) 1 (bit_of done).value) (has_by at.stands registers_known refl) registers_known)))

  outputs : (n : ℕ) → HasSide (register_row w) n is_output_side
      → HasValue tree now j (port_net (register_at name w) n) (unwrap_or ((register_row w).output (Register value done) inputs n) (zero_at (register_row w) n))
  unfolding spelled with_piece
  outputs zero side = absurd (not_output _ _ side.1 refl side.2)
  outputs (suc zero) side = absurd (not_output _ _ side.1 refl side.2)
  outputs (suc (suc zero)) side = has_by at.stands registers_known refl
  outputs (suc (suc (suc zero))) side = has_by at.stands registers_known refl
  outputs (suc (suc (suc (suc n)))) side = absurd (let none = side.1 in cc)

  nets : AreGiven (register_row w) inputs → (k : ℕ) (net : List ℕ) → slice_get (nets_at tree j) k ≡ Some net → 2 ≤ k → (v : BitVector) × HasValue tree now j net v
  unfolding spelled with_piece
  nets given k net there behind = all_have _ _ at.stands (nets_known (at_inputs given)) refl there behind

  module _ (look : Look) (whole : IsWhole tree now look) (running : now.reset ≡ 0) (given : AtInputs tree now j w inputs) where
    next_held : (state_after tree now look).register j (spelled (codes "held")) ≡ (if given.enable.bit then given.data_in.value else value)
    unfolding spelled with_piece
    next_held = set_has (spelled (codes "held")) (record { width = w; value = if given.enable.bit then given.data_in.value else value }) 0 look at.stands whole running (nets_known given) (by given.enable.bit)
      where
        by : (t : Bool) → set_in 0 (register_at name w) (kept_at now.state j) (all_nets w given.data_in.value t value done) (spelled (codes "held"))
            ≡ Some (record { width = w; value = if t then given.data_in.value else value })
        by true = refl
        by false = refl

    next_finished : (state_after tree now look).register j (spelled (codes "finished")) ≡ (bit_of given.enable.bit).value
    unfolding spelled with_piece
    next_finished = set_has (spelled (codes "finished")) (bit_of given.enable.bit) 0 look at.stands whole running (nets_known given) refl

    step : StandsFor w (kept_at (state_after tree now look) j) ((register_row w).next (Register value done) inputs)
    step = subst (λ (o : Option BitVector). StandsFor w (kept_at (state_after tree now look) j) (if number_of o == 1 then Register (value_at inputs 0) true else Register value false)) (sym given.enable.is) (by given.enable.bit refl)
      where
        by : (t : Bool) → given.enable.bit ≡ t → StandsFor w (kept_at (state_after tree now look) j) (if (bit_of t).value == 1 then Register (value_at inputs 0) true else Register value false)
        by true e = (next_held ∙ ap (λ (b : Bool). if b then given.data_in.value else value) e ∙ sym (ap number_of given.data_in.is), next_finished ∙ ap (λ (b : Bool). (bit_of b).value) e)
        by false e = (next_held ∙ ap (λ (b : Bool). if b then given.data_in.value else value) e, next_finished ∙ ap (λ (b : Bool). (bit_of b).value) e)

-- every register is 0 after an edge with reset
reset_edge : (name : List ℕ) (w : ℕ) (tree : List Placed) (now : Moment) (look : Look) (j : ℕ) → Stands (register_at name w) tree j → IsWhole tree now look → now.reset ≡ 1
    → StandsFor w (kept_at (state_after tree now look) j) (Register 0 false)
unfolding spelled with_piece
reset_edge name w tree now look j stands whole is =
    (register_cleared (spelled (codes "held")) w look stands whole is refl, register_cleared (spelled (codes "finished")) 1 look stands whole is refl)

-- the module of a register
pub register_built : (name : List ℕ) (w : ℕ) → IsBuilt (register_at name w) (register_row w) (StandsFor w)
register_built name w = record {
  start = (refl, refl);
  loaded = λ words word takes same. absurd takes;
  words = words;
  outputs = outputs_of;
  nets = nets_of;
  step = step_of;
  reset_edge = reset_of;
}
  where
    words : HoldsWords (register_at name w) (register_row w) (StandsFor w)
    words kept (Register value done) k holds of_row within = absurd (omega arith)
    words kept state k holds of_row within = absurd of_row

    outputs_of : GivesOutputs (register_at name w) (register_row w) (StandsFor w)
    outputs_of tree now j n (Register value done) inputs at side given = outputs name w tree now j value done inputs at n side
    outputs_of tree now j n state inputs at side given = absurd at.of_row

    nets_of : GivesNets (register_at name w) (register_row w) (StandsFor w)
    nets_of tree now j k net (Register value done) inputs at given = nets name w tree now j value done inputs at given k net
    nets_of tree now j k net state inputs at given = absurd at.of_row

    step_of : Steps (register_at name w) (register_row w) (StandsFor w)
    step_of tree now look j (Register value done) inputs at given whole running =
        step name w tree now j value done inputs at look whole running (at_inputs name w tree now j value done inputs at given)
    step_of tree now look j state inputs at given whole running = absurd at.of_row

    reset_of : Resets (register_at name w) (register_row w) (StandsFor w)
    reset_of tree now look j state stands holds of_row whole is = reset_edge name w tree now look j stands whole is
