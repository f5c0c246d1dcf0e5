-- What stands at the inputs of an instance, and in its registers.
use Rattle.std.specs.Prelude.{◌≡◌, ℕ, zero, suc, ◌+◌, ◌^◌, ◌<◌, ◌==◌, Bool, true, false, List, [], Option, Some, None, IsSome, slice_get, unwrap_or, map, option_map, refl}
use Rattle.std.proofs.Common.{ap, ◌∙◌, subst, arith}
use Rattle.std.proofs.lemmas.Option.{slice_get-map}
use Rattle.cx_bits.specs.BitVector.{BitVector}
use Rattle.cx_bits.specs.Operators.{bit_of}
use Rattle.cx_prim.specs.declared.ports.PortRow.{PortRow}
use Rattle.cx_prim.specs.CellStates.{CellState}
use Rattle.cx_prim.specs.Rows.{Inputs, Row, input, value_at, is_on, number_of, is_output_side}
use Rattle.cx_prim.specs.PortNames.{text_of}
use Rattle.cx_vtree.specs.Plain.{PlainPort, PlainModule}
use Rattle.cx_vtree.specs.InstanceTree.{Placed}
use Rattle.cx_vtree.specs.Meaning.{Moment, HasValue}
use Rattle.cx_vmods.specs.Stands.{Kept}
use Rattle.cx_vmods.specs.Spelling.{spelled}
use Rattle.cx_vmods.specs.Modules.{port_of, ports_of}
use Rattle.cx_vmods.specs.Built.{kept_at, port_net, zero_at, Stands, IsAt}
use Rattle.cx_vmods.specs.Inside.{value_in}
use Rattle.cx_vmods.proofs.InsideLemmas.{none_known, has_by}

-- a value stands at input n, which is this net
pub record HasInput (tree : List Placed) (now : Moment) (j : ℕ) (inputs : Inputs) (n : ℕ) (name : List ℕ) (width : ℕ) : Type 0 where
  pub value : ℕ
  pub is : input inputs n ≡ Some (record { width = width; value = value })
  pub fits : value < 2 ^ width
  pub has : HasValue tree now j name (record { width = width; value = value })

-- a bit stands there
pub record HasBit (tree : List Placed) (now : Moment) (j : ℕ) (inputs : Inputs) (n : ℕ) (name : List ℕ) : Type 0 where
  pub bit : Bool
  pub is : input inputs n ≡ Some (bit_of bit)
  pub has : HasValue tree now j name (bit_of bit)

-- what stands at an input is as wide as its port, and fits
pub input_has : {m : PlainModule} {row : Row} {StandFor : Kept → CellState → Type 0} {tree : List Placed} {now : Moment} {j : ℕ} {state : CellState} {inputs : Inputs}
    → IsAt m row StandFor tree now j state inputs → (n : ℕ) (port : PortRow) → slice_get row.ports n ≡ Some port → is_output_side port.side ≡ false → IsSome (input inputs n)
    → HasInput tree now j inputs n (port_net m n) port.width
input_has {m} {row} {StandFor} {tree} {now} {j} {state} {inputs} at n port there side some = by (input inputs n) refl some
  where
    by : (o : Option BitVector) → input inputs n ≡ o → IsSome o → HasInput tree now j inputs n (port_net m n) port.width
    by None e there_is = absurd (let wrong : false ≡ true = there_is in cc)
    by (Some b) e there_is =
        let wide : b.width ≡ port.width = at.fits.widths n port b there e in
        let same : b ≡ record { width = port.width; value = b.value } = ap (λ (w : ℕ). let v : BitVector = record { width = w; value = b.value } in v) wide in
        record {
          value = b.value;
          is = e ∙ ap Some same;
          fits = subst (λ (w : ℕ). b.value < 2 ^ w) wide (at.values n b e).in_range;
          has = subst (λ (v : BitVector). HasValue tree now j (port_net m n) v) same (at.given n port b there side e);
        }

-- one bit
pub bit_has : {tree : List Placed} {now : Moment} {j : ℕ} {inputs : Inputs} {n : ℕ} {name : List ℕ} → HasInput tree now j inputs n name 1 → HasBit tree now j inputs n name
bit_has {tree} {now} {j} {inputs} {n} {name} at = by at.value refl
  where
    by : (v : ℕ) → at.value ≡ v → HasBit tree now j inputs n name
    by zero e = record { bit = false; is = at.is ∙ ap (λ (v : ℕ). let b : Option BitVector = Some (record { width = 1; value = v }) in b) e; has = subst (λ (v : ℕ). HasValue tree now j name (record { width = 1; value = v })) e at.has }
    by (suc zero) e = record { bit = true; is = at.is ∙ ap (λ (v : ℕ). let b : Option BitVector = Some (record { width = 1; value = v }) in b) e; has = subst (λ (v : ℕ). HasValue tree now j name (record { width = 1; value = v })) e at.has }
    by (suc (suc v)) e = absurd (let few = at.fits in omega arith)

-- a register has what is kept
pub register_has : {m : PlainModule} {tree : List Placed} {now : Moment} {j : ℕ} (name : List ℕ) (width value : ℕ) → Stands m tree j
    → value_in m (kept_at now.state j) [] name ≡ Some (record { width = width; value = now.state.register j name }) → now.state.register j name ≡ value
    → HasValue tree now j name (record { width = width; value = value })
register_has {m} {tree} {now} {j} name width value stands is e =
    subst (λ (v : ℕ). HasValue tree now j name (record { width = width; value = v })) e (has_by stands none_known is)

on_bit : (t : Bool) → ((bit_of t).value == 1) ≡ t
on_bit true = refl
on_bit false = refl

-- what the row reads at an input
pub is_on-bit : {tree : List Placed} {now : Moment} {j : ℕ} {inputs : Inputs} {n : ℕ} {name : List ℕ} (at : HasBit tree now j inputs n name) → is_on inputs n ≡ at.bit
is_on-bit at = ap (λ (o : Option BitVector). number_of o == 1) at.is ∙ on_bit at.bit

-- the number that a row reads at an input
pub value_at-input : {tree : List Placed} {now : Moment} {j : ℕ} {inputs : Inputs} {n : ℕ} {name : List ℕ} {width : ℕ} (at : HasInput tree now j inputs n name width) → value_at inputs n ≡ at.value
value_at-input at = ap number_of at.is

-- the net of a port of the row, and its width
pub port_net-row : (m : PlainModule) (row : Row) (n : ℕ) (port : PortRow) → m.ports ≡ ports_of row → slice_get row.ports n ≡ Some port → port_net m n ≡ spelled (text_of port.name)
port_net-row m row n port nets there =
    let behind : n + 2 ≡ suc (suc n) = omega arith in
    ap (λ (ps : List PlainPort). unwrap_or (slice_get (map (λ p. p.name) ps) (n + 2)) []) nets
    ∙ ap (λ (k : ℕ). unwrap_or (slice_get (map (λ p. p.name) (ports_of row)) k) []) behind
    ∙ ap (λ (o : Option (List ℕ)). unwrap_or o []) (slice_get-map (λ p. p.name) (map port_of row.ports) n ∙ ap (option_map (λ p. p.name)) (slice_get-map port_of row.ports n ∙ ap (option_map port_of) there))

-- a zero as wide as the port
pub zero_at-row : (row : Row) (n : ℕ) (port : PortRow) → slice_get row.ports n ≡ Some port → zero_at row n ≡ record { width = port.width; value = 0 }
zero_at-row row n port there =
    ap (λ (o : Option ℕ). let b : BitVector = record { width = unwrap_or o 1; value = 0 } in b) (slice_get-map (λ p. p.width) row.ports n ∙ ap (option_map (λ p. p.width)) there)
