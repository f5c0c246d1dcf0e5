-- A module of inputs and one assigned output does what its row says, where the expression does.
use Rattle.std.specs.Prelude.{◌≡◌, ℕ, zero, suc, ◌^◌, ◌<◌, Bool, true, false, List, [], ◌∷◌, Option, Some, unwrap_or, option_map, option_and_then, codes, refl}
use Rattle.std.proofs.Common.{sym, subst, arith}
use Rattle.cx_bits.specs.BitVector.{BitVector, of_width}
use Rattle.cx_bits.specs.Operators.{bit_of}
use Rattle.cx_prim.specs.declared.ports.PortRow.{PortRow}
use Rattle.cx_prim.specs.CellStates.{Stateless}
use Rattle.cx_prim.specs.Rows.{Inputs, Row, input}
use Rattle.cx_prim.specs.CombinationalLaws.{not_output}
use Rattle.cx_prim.specs.CombinationalRows.{combinational_row, constant_row, unary_row, binary_row, mux_row, chosen}
use Rattle.cx_vtree.specs.Plain.{PlainExpr, Chosen, PlainModule}
use Rattle.cx_vtree.specs.Meaning.{HasValue, expr_in}
use Rattle.cx_vmods.specs.Spelling.{spelled, net}
use Rattle.cx_vmods.specs.Parts.{made_of, with_piece}
use Rattle.cx_vmods.specs.Combinational.{giving, mux}
use Rattle.cx_vmods.specs.Modules.{ports_of, module_with}
use Rattle.cx_vmods.specs.Stands.{StandsFor}
use Rattle.cx_vmods.specs.Built.{zero_at, HoldsWords, GivesOutputs, GivesNets, Steps, Resets, IsBuilt}
use Rattle.cx_vmods.specs.Inside.{Known, known, found}
use Rattle.cx_vmods.proofs.InsideLemmas.{none_known, also_known, has_by, all_have}
use Rattle.cx_vmods.proofs.InputLemmas.{input_has, bit_has}

-- a module without a state owes its outputs and its nets
pub stateless_built : (m : PlainModule) (ports : List PortRow) (count : ℕ) (value : Inputs → Option BitVector) (w : ℕ)
    → GivesOutputs m (combinational_row ports count value) (StandsFor w) → GivesNets m (combinational_row ports count value) (StandsFor w)
    → IsBuilt m (combinational_row ports count value) (StandsFor w)
stateless_built m ports count value w outputs nets = record {
  start = tt;
  loaded = λ words word takes same. absurd takes;
  words = words;
  outputs = outputs;
  nets = nets;
  step = step;
  reset_edge = resets;
}
  where
    words : HoldsWords m (combinational_row ports count value) (StandsFor w)
    words kept Stateless k holds of_row within = absurd (omega arith)
    words kept state k holds of_row within = absurd of_row

    step : Steps m (combinational_row ports count value) (StandsFor w)
    step tree now look j Stateless inputs at given whole running = tt
    step tree now look j state inputs at given whole running = absurd at.of_row

    resets : Resets m (combinational_row ports count value) (StandsFor w)
    resets tree now look j state stands holds of_row whole is = tt

-- a module that gives an expression
abbrev pub giving_at : List ℕ → Row → PlainExpr → PlainModule
giving_at name row e = module_with name (ports_of row) (made_of (giving e))

-- the value of an expression without arrays, by the nets that are known
abbrev pub value_by : List Known → PlainExpr → Option BitVector
value_by ks e = expr_in (found ks) (λ array index. record { width = 0; value = 0 }) e

-- the expression is what the operator makes of `in`
abbrev pub Computes1 : ℕ → (BitVector → BitVector) → PlainExpr → Type 0
Computes1 w f e = (a : ℕ) → a < 2 ^ w → value_by (known (spelled (codes "in")) w a ∷ []) e ≡ Some (f (of_width w a))

-- and of `left` and `right`
abbrev pub Computes2 : ℕ → (BitVector → BitVector → BitVector) → PlainExpr → Type 0
Computes2 w f e = (a b : ℕ) → a < 2 ^ w → b < 2 ^ w → value_by (known (spelled (codes "left")) w a ∷ known (spelled (codes "right")) w b ∷ []) e ≡ Some (f (of_width w a) (of_width w b))

-- a module without inputs
pub constant_built : (name : List ℕ) (w v : ℕ) (e : PlainExpr) (width : ℕ) → value_by [] e ≡ Some (of_width w v) → IsBuilt (giving_at name (constant_row w v) e) (constant_row w v) (StandsFor width)
unfolding spelled with_piece
constant_built name w v e width computes = stateless_built (giving_at name (constant_row w v) e) _ _ _ width outputs nets
  where
    outputs : GivesOutputs (giving_at name (constant_row w v) e) (constant_row w v) (StandsFor width)
    outputs tree now j zero state inputs at side given = has_by at.stands none_known computes
    outputs tree now j (suc n) state inputs at side given = absurd (let none = side.1 in cc)

    nets : GivesNets (giving_at name (constant_row w v) e) (constant_row w v) (StandsFor width)
    nets tree now j k net state inputs at given there behind =
        all_have _ _ at.stands (also_known (known (spelled (codes "out")) w v) (has_by at.stands none_known computes) none_known) refl there behind

-- a module of one input
pub unary_built : (name : List ℕ) (w v : ℕ) (f : BitVector → BitVector) (e : PlainExpr) (width : ℕ) → Computes1 w f e → IsBuilt (giving_at name (unary_row w v f) e) (unary_row w v f) (StandsFor width)
unfolding spelled with_piece
unary_built name w v f e width computes = stateless_built (giving_at name (unary_row w v f) e) _ _ _ width outputs nets
  where
    outputs : GivesOutputs (giving_at name (unary_row w v f) e) (unary_row w v f) (StandsFor width)
    outputs tree now j zero state inputs at side given = absurd (not_output _ _ side.1 refl side.2)
    outputs tree now j (suc zero) state inputs at side given =
        let operand = input_has at 0 _ refl refl (given 0 refl) in
        subst (λ (o : Option BitVector). HasValue tree now j (spelled (codes "out")) (unwrap_or (option_map f o) (zero_at (unary_row w v f) 1))) (sym operand.is)
        (has_by at.stands (also_known (known (spelled (codes "in")) w operand.value) operand.has none_known) (computes operand.value operand.fits))
    outputs tree now j (suc (suc n)) state inputs at side given = absurd (let none = side.1 in cc)

    nets : GivesNets (giving_at name (unary_row w v f) e) (unary_row w v f) (StandsFor width)
    nets tree now j k net state inputs at given there behind =
        let operand = input_has at 0 _ refl refl (given 0 _ refl refl) in
        let first = also_known (known (spelled (codes "in")) w operand.value) operand.has none_known in
        let out = f (of_width w operand.value) in
        all_have _ _ at.stands
        (also_known (known (spelled (codes "in")) w operand.value) operand.has
        (also_known (record { name = spelled (codes "out"); bits = out }) (has_by at.stands first (computes operand.value operand.fits)) none_known)) refl there behind

-- a module of two inputs
pub binary_built : (name : List ℕ) (w v : ℕ) (f : BitVector → BitVector → BitVector) (e : PlainExpr) (width : ℕ) → Computes2 w f e
    → IsBuilt (giving_at name (binary_row w v f) e) (binary_row w v f) (StandsFor width)
unfolding spelled with_piece
binary_built name w v f e width computes = stateless_built (giving_at name (binary_row w v f) e) _ _ _ width outputs nets
  where
    outputs : GivesOutputs (giving_at name (binary_row w v f) e) (binary_row w v f) (StandsFor width)
    outputs tree now j zero state inputs at side given = absurd (not_output _ _ side.1 refl side.2)
    outputs tree now j (suc zero) state inputs at side given = absurd (not_output _ _ side.1 refl side.2)
    outputs tree now j (suc (suc zero)) state inputs at side given =
        let left = input_has at 0 _ refl refl (given 0 refl) in
        let right = input_has at 1 _ refl refl (given 1 refl) in
        subst (λ (o : Option BitVector). HasValue tree now j (spelled (codes "out")) (unwrap_or (option_and_then (λ x. option_map (f x) (input inputs 1)) o) (zero_at (binary_row w v f) 2))) (sym left.is)
        (subst (λ (o : Option BitVector). HasValue tree now j (spelled (codes "out")) (unwrap_or (option_map (f (of_width w left.value)) o) (zero_at (binary_row w v f) 2))) (sym right.is)
        (has_by at.stands
        (also_known (known (spelled (codes "left")) w left.value) left.has (also_known (known (spelled (codes "right")) w right.value) right.has none_known))
        (computes left.value right.value left.fits right.fits)))
    outputs tree now j (suc (suc (suc n))) state inputs at side given = absurd (let none = side.1 in cc)

    nets : GivesNets (giving_at name (binary_row w v f) e) (binary_row w v f) (StandsFor width)
    nets tree now j k net state inputs at given there behind =
        let left = input_has at 0 _ refl refl (given 0 _ refl refl) in
        let right = input_has at 1 _ refl refl (given 1 _ refl refl) in
        let both = also_known (known (spelled (codes "left")) w left.value) left.has (also_known (known (spelled (codes "right")) w right.value) right.has none_known) in
        let out = f (of_width w left.value) (of_width w right.value) in
        all_have _ _ at.stands
        (also_known (known (spelled (codes "left")) w left.value) left.has (also_known (known (spelled (codes "right")) w right.value) right.has
        (also_known (record { name = spelled (codes "out"); bits = out }) (has_by at.stands both (computes left.value right.value left.fits right.fits)) none_known))) refl there behind

-- the module of a multiplexer
pub mux_built : (name : List ℕ) (w width : ℕ) → IsBuilt (module_with name (ports_of (mux_row w)) (made_of mux)) (mux_row w) (StandsFor width)
unfolding spelled with_piece
mux_built name w width = stateless_built (module_with name (ports_of (mux_row w)) (made_of mux)) _ _ _ width outputs nets
  where
    by : (t : Bool) (x y : ℕ) → value_by (known (spelled (codes "cond")) 1 (bit_of t).value ∷ known (spelled (codes "tru")) w x ∷ known (spelled (codes "fal")) w y ∷ []) (Chosen (net (codes "cond")) (net (codes "tru")) (net (codes "fal")))
        ≡ Some (chosen (bit_of t) (of_width w x) (of_width w y))
    by true x y = refl
    by false x y = refl

    outputs : GivesOutputs (module_with name (ports_of (mux_row w)) (made_of mux)) (mux_row w) (StandsFor width)
    outputs tree now j zero state inputs at side given = absurd (not_output _ _ side.1 refl side.2)
    outputs tree now j (suc zero) state inputs at side given = absurd (not_output _ _ side.1 refl side.2)
    outputs tree now j (suc (suc zero)) state inputs at side given = absurd (not_output _ _ side.1 refl side.2)
    outputs tree now j (suc (suc (suc zero))) state inputs at side given =
        let cond = bit_has (input_has at 0 _ refl refl (given 0 refl)) in
        let one = input_has at 1 _ refl refl (given 1 refl) in
        let other = input_has at 2 _ refl refl (given 2 refl) in
        subst (λ (o : Option BitVector). HasValue tree now j (spelled (codes "out")) (unwrap_or (option_and_then (λ c. option_and_then (λ x. option_map (chosen c x) (input inputs 2)) (input inputs 1)) o) (zero_at (mux_row w) 3))) (sym cond.is)
        (subst (λ (o : Option BitVector). HasValue tree now j (spelled (codes "out")) (unwrap_or (option_and_then (λ x. option_map (chosen (bit_of cond.bit) x) (input inputs 2)) o) (zero_at (mux_row w) 3))) (sym one.is)
        (subst (λ (o : Option BitVector). HasValue tree now j (spelled (codes "out")) (unwrap_or (option_map (chosen (bit_of cond.bit) (of_width w one.value)) o) (zero_at (mux_row w) 3))) (sym other.is)
        (has_by at.stands
        (also_known (known (spelled (codes "cond")) 1 (bit_of cond.bit).value) cond.has (also_known (known (spelled (codes "tru")) w one.value) one.has (also_known (known (spelled (codes "fal")) w other.value) other.has none_known)))
        (by cond.bit one.value other.value))))
    outputs tree now j (suc (suc (suc (suc n)))) state inputs at side given = absurd (let none = side.1 in cc)

    nets : GivesNets (module_with name (ports_of (mux_row w)) (made_of mux)) (mux_row w) (StandsFor width)
    nets tree now j k net state inputs at given there behind =
        let cond = bit_has (input_has at 0 _ refl refl (given 0 _ refl refl)) in
        let one = input_has at 1 _ refl refl (given 1 _ refl refl) in
        let other = input_has at 2 _ refl refl (given 2 _ refl refl) in
        let all =
        also_known (known (spelled (codes "cond")) 1 (bit_of cond.bit).value) cond.has (also_known (known (spelled (codes "tru")) w one.value) one.has (also_known (known (spelled (codes "fal")) w other.value) other.has none_known)) in
        let out = chosen (bit_of cond.bit) (of_width w one.value) (of_width w other.value) in
        all_have _ _ at.stands
        (also_known (known (spelled (codes "cond")) 1 (bit_of cond.bit).value) cond.has (also_known (known (spelled (codes "tru")) w one.value) one.has (also_known (known (spelled (codes "fal")) w other.value) other.has
        (also_known (record { name = spelled (codes "out"); bits = out }) (has_by at.stands all (by cond.bit one.value other.value)) none_known)))) refl there behind
