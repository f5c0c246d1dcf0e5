-- The module of a multiplier does what its row says.
use Rattle.std.specs.Prelude.{◌≡◌, ◌≢◌, ℕ, zero, suc, ◌*◌, ◌%◌, ◌^◌, ◌<◌, ◌≤◌, ◌==◌, Bool, true, false, ◌&&◌, List, [], ◌∷◌, Some, slice_get, unwrap_or, if◌then◌else◌, codes, refl}
use Rattle.std.proofs.Common.{sym, subst, arith, ap, ◌∙◌}
use Rattle.cx_bits.specs.BitVector.{BitVector}
use Rattle.cx_bits.specs.Operators.{bit_of}
use Rattle.cx_prim.specs.CellStates.{PipeRun, Multiplier}
use Rattle.cx_prim.specs.Rows.{Inputs, value_at, HasSide, is_output_side}
use Rattle.cx_prim.specs.CombinationalLaws.{not_output}
use Rattle.cx_prim.specs.PipeRows.{at_rest, multiplier_row, multiplied, stopped}
use Rattle.cx_vtree.specs.Plain.{PlainModule}
use Rattle.cx_vtree.specs.InstanceTree.{Placed, nets_at}
use Rattle.cx_vtree.specs.Meaning.{Moment, Look, HasValue}
use Rattle.cx_vtree.specs.Edges.{state_after}
use Rattle.cx_vtree.specs.SimRun.{IsWhole}
use Rattle.cx_vmods.specs.Spelling.{spelled}
use Rattle.cx_vmods.specs.Parts.{made_of, with_piece}
use Rattle.cx_vmods.specs.Clocked as clocked
use Rattle.cx_vmods.specs.Modules.{ports_of, module_with}
use Rattle.cx_vmods.specs.Stands.{StandsFor}
use Rattle.cx_vmods.specs.Built.{kept_at, port_net, zero_at, Stands, IsAt, AreGiven, HoldsWords, GivesOutputs, GivesNets, Steps, Resets, IsBuilt}
use Rattle.cx_vmods.specs.Inside.{Known, known, AreKnown, value_in}
use Rattle.cx_vmods.proofs.InsideLemmas.{none_known, also_known, has_by, all_have}
use Rattle.cx_vmods.proofs.EdgeLemmas.{set_has, register_cleared}
use Rattle.cx_vmods.proofs.InputLemmas.{HasInput, HasBit, input_has, bit_has, register_has, is_on-bit, value_at-input}

abbrev multiplier_at : List ℕ → ℕ → PlainModule
multiplier_at name w = module_with name (ports_of (multiplier_row w)) (made_of (clocked.multiplier w))

-- the values of the registers, and what stands at the inputs
record Values : Type 0 where
  pub count : ℕ
  pub done : Bool
  pub held_left : ℕ
  pub held_right : ℕ
  pub product : ℕ

record Given : Type 0 where
  pub go : Bool
  pub left : ℕ
  pub right : ℕ

abbrev operands : ℕ → Values → List Known
operands w v = known (spelled (codes "held_left")) w v.held_left ∷ known (spelled (codes "held_right")) w v.held_right ∷ known (spelled (codes "product")) w v.product ∷ []

abbrev registers : ℕ → Values → List Known
registers w v = known (spelled (codes "count")) 2 v.count ∷ known (spelled (codes "finished")) 1 (bit_of v.done).value ∷ operands w v

-- all nets in their order
abbrev all_nets : ℕ → Given → Values → List Known
all_nets w g v =
    known (spelled (codes "go")) 1 (bit_of g.go).value ∷ known (spelled (codes "left")) w g.left ∷ known (spelled (codes "right")) w g.right
    ∷ known (spelled (codes "out")) w v.product ∷ known (spelled (codes "done")) 1 (bit_of v.done).value
    ∷ known (spelled (codes "ends")) 1 (bit_of (v.count == 2)).value ∷ known (spelled (codes "finishes")) 1 (bit_of (g.go && (v.count == 2))).value
    ∷ known (spelled (codes "count")) 2 v.count ∷ known (spelled (codes "finished")) 1 (bit_of v.done).value
    ∷ known (spelled (codes "starts")) 1 (bit_of (v.count == 0)).value ∷ operands w v

-- what stands at the inputs has its value
record AreThere (w : ℕ) (tree : List Placed) (now : Moment) (j : ℕ) (g : Given) : Type 0 where
  pub go : HasValue tree now j (spelled (codes "go")) (bit_of g.go)
  pub left : HasValue tree now j (spelled (codes "left")) (record { width = w; value = g.left })
  pub right : HasValue tree now j (spelled (codes "right")) (record { width = w; value = g.right })

-- the registers of an instance have these values
record AreHeld (tree : List Placed) (now : Moment) (j : ℕ) (v : Values) : Type 0 where
  pub count : now.state.register j (spelled (codes "count")) ≡ v.count
  pub finished : now.state.register j (spelled (codes "finished")) ≡ (bit_of v.done).value
  pub left : now.state.register j (spelled (codes "held_left")) ≡ v.held_left
  pub right : now.state.register j (spelled (codes "held_right")) ≡ v.held_right
  pub product : now.state.register j (spelled (codes "product")) ≡ v.product

module _ (name : List ℕ) (w : ℕ) (tree : List Placed) (now : Moment) (j : ℕ) (v : Values) (stands : Stands (multiplier_at name w) tree j) (held : AreHeld tree now j v) where
  registers_known : AreKnown tree now j (registers w v)
  unfolding spelled with_piece clocked.multiplier
  registers_known =
      also_known (known (spelled (codes "count")) 2 v.count) (register_has (spelled (codes "count")) 2 v.count stands refl held.count)
      (also_known (known (spelled (codes "finished")) 1 (bit_of v.done).value) (register_has (spelled (codes "finished")) 1 (bit_of v.done).value stands refl held.finished)
      (also_known (known (spelled (codes "held_left")) w v.held_left) (register_has (spelled (codes "held_left")) w v.held_left stands refl held.left)
      (also_known (known (spelled (codes "held_right")) w v.held_right) (register_has (spelled (codes "held_right")) w v.held_right stands refl held.right)
      (also_known (known (spelled (codes "product")) w v.product) (register_has (spelled (codes "product")) w v.product stands refl held.product) none_known))))

  nets_known : (g : Given) → AreThere w tree now j g → AreKnown tree now j (all_nets w g v)
  unfolding spelled with_piece clocked.multiplier
  nets_known g there =
      let ends = has_by {ks = registers w v} {name = spelled (codes "ends")} {v = bit_of (v.count == 2)} stands registers_known refl in
      let starts = has_by {ks = registers w v} {name = spelled (codes "starts")} {v = bit_of (v.count == 0)} stands registers_known refl in
      let at_end = also_known (known (spelled (codes "ends")) 1 (bit_of (v.count == 2)).value) ends registers_known in
      let finishes = has_by stands (also_known (known (spelled (codes "go")) 1 (bit_of g.go).value) there.go at_end) (by g.go (v.count == 2)) in
      also_known (known (spelled (codes "go")) 1 (bit_of g.go).value) there.go
      (also_known (known (spelled (codes "left")) w g.left) there.left
      (also_known (known (spelled (codes "right")) w g.right) there.right
      (also_known (known (spelled (codes "out")) w v.product) (has_by stands registers_known refl)
      (also_known (known (spelled (codes "done")) 1 (bit_of v.done).value) (has_by stands registers_known refl)
      (also_known (known (spelled (codes "ends")) 1 (bit_of (v.count == 2)).value) ends
      (also_known (known (spelled (codes "finishes")) 1 (bit_of (g.go && (v.count == 2))).value) finishes
      (also_known (known (spelled (codes "count")) 2 v.count) (register_has (spelled (codes "count")) 2 v.count stands refl held.count)
      (also_known (known (spelled (codes "finished")) 1 (bit_of v.done).value) (register_has (spelled (codes "finished")) 1 (bit_of v.done).value stands refl held.finished)
      (also_known (known (spelled (codes "starts")) 1 (bit_of (v.count == 0)).value) starts
      (also_known (known (spelled (codes "held_left")) w v.held_left) (register_has (spelled (codes "held_left")) w v.held_left stands refl held.left)
      (also_known (known (spelled (codes "held_right")) w v.held_right) (register_has (spelled (codes "held_right")) w v.held_right stands refl held.right)
      (also_known (known (spelled (codes "product")) w v.product) (register_has (spelled (codes "product")) w v.product stands refl held.product) none_known))))))))))))
    where
      by : (t u : Bool) → value_in (multiplier_at name w) (kept_at now.state j) (known (spelled (codes "go")) 1 (bit_of t).value ∷ known (spelled (codes "ends")) 1 (bit_of u).value ∷ registers w v) (spelled (codes "finishes")) ≡ Some (bit_of (t && u))
      by true true = refl
      by true false = refl
      by false true = refl
      by false false = refl

-- the registers after an edge without reset: with `go` by the count, and else
module _ (name : List ℕ) (w : ℕ) (tree : List Placed) (now : Moment) (j : ℕ) (look : Look) (stands : Stands (multiplier_at name w) tree j) (whole : IsWhole tree now look) (running : now.reset ≡ 0) where
  next : (left right : ℕ) (done go : Bool) (count held_left held_right product a b : ℕ)
      → AreHeld tree now j (record { count = count; done = done; held_left = held_left; held_right = held_right; product = product })
      → AreThere w tree now j (record { go = go; left = a; right = b })
      → count < 3 → (count ≢ 0 → (held_left ≡ left) × (held_right ≡ right))
      → StandsFor w (kept_at (state_after tree now look) j) (if go then multiplied w 3 (if count == 0 then record { count = count; left = a; right = b; done = done } else record { count = count; left = left; right = right; done = done }) product
      else Multiplier (record { count = 0; left = left; right = right; done = false }) product)
  unfolding spelled with_piece clocked.multiplier
  next left right done true zero l r product a b held there under operands = record {
    counts = record {
      count = set_has (spelled (codes "count")) (record { width = 2; value = 1 }) 0 look stands whole running (nets_known name w tree now j _ stands held _ there) refl;
      finished = set_has (spelled (codes "finished")) (bit_of false) 0 look stands whole running (nets_known name w tree now j _ stands held _ there) refl;
    };
    operands = λ some. record {
      left = set_has (spelled (codes "held_left")) (record { width = w; value = a }) 0 look stands whole running (nets_known name w tree now j _ stands held _ there) refl;
      right = set_has (spelled (codes "held_right")) (record { width = w; value = b }) 0 look stands whole running (nets_known name w tree now j _ stands held _ there) refl;
    };
    has_product = set_has (spelled (codes "product")) (record { width = w; value = product }) 0 look stands whole running (nets_known name w tree now j _ stands held _ there) refl;
  }
  next left right done true (suc zero) l r product a b held there under operands =
      let kept = operands (λ e. absurd (cc)) in record {
        counts = record {
          count = set_has (spelled (codes "count")) (record { width = 2; value = 2 }) 0 look stands whole running (nets_known name w tree now j _ stands held _ there) refl;
          finished = set_has (spelled (codes "finished")) (bit_of false) 0 look stands whole running (nets_known name w tree now j _ stands held _ there) refl;
        };
        operands = λ some. record {
          left = set_has (spelled (codes "held_left")) (record { width = w; value = l }) 0 look stands whole running (nets_known name w tree now j _ stands held _ there) refl ∙ kept.0;
          right = set_has (spelled (codes "held_right")) (record { width = w; value = r }) 0 look stands whole running (nets_known name w tree now j _ stands held _ there) refl ∙ kept.1;
        };
        has_product = set_has (spelled (codes "product")) (record { width = w; value = product }) 0 look stands whole running (nets_known name w tree now j _ stands held _ there) refl;
      }
  next left right done true (suc (suc zero)) l r product a b held there under operands =
      let kept = operands (λ e. absurd (cc)) in record {
        counts = record {
          count = set_has (spelled (codes "count")) (record { width = 2; value = 0 }) 0 look stands whole running (nets_known name w tree now j _ stands held _ there) refl;
          finished = set_has (spelled (codes "finished")) (bit_of true) 0 look stands whole running (nets_known name w tree now j _ stands held _ there) refl;
        };
        operands = λ some. absurd (some refl);
        has_product = set_has (spelled (codes "product")) (record { width = w; value = l * r % 2 ^ w }) 0 look stands whole running (nets_known name w tree now j _ stands held _ there) refl
            ∙ ap (λ (n : ℕ). n * r % 2 ^ w) kept.0 ∙ ap (λ (n : ℕ). left * n % 2 ^ w) kept.1;
      }
  next left right done true (suc (suc (suc count))) l r product a b held there under operands = absurd (omega arith)
  next left right done false count l r product a b held there under operands = record {
    counts = record {
      count = set_has (spelled (codes "count")) (record { width = 2; value = 0 }) 0 look stands whole running (nets_known name w tree now j _ stands held _ there) refl;
      finished = set_has (spelled (codes "finished")) (bit_of false) 0 look stands whole running (nets_known name w tree now j _ stands held _ there) refl;
    };
    operands = λ some. absurd (some refl);
    has_product = set_has (spelled (codes "product")) (record { width = w; value = product }) 0 look stands whole running (nets_known name w tree now j _ stands held _ there) refl;
  }

module _ (name : List ℕ) (w : ℕ) (tree : List Placed) (now : Moment) (j : ℕ) (run : PipeRun) (product : ℕ) (inputs : Inputs)
    (at : IsAt (multiplier_at name w) (multiplier_row w) (StandsFor w) tree now j (Multiplier run product) inputs) where
  abbrev values : Values
  values = record { count = run.count; done = run.done; held_left = now.state.register j (spelled (codes "held_left")); held_right = now.state.register j (spelled (codes "held_right")); product = product }

  held : AreHeld tree now j values
  held = record { count = at.holds.counts.count; finished = at.holds.counts.finished; left = refl; right = refl; product = at.holds.has_product }

  outputs : (n : ℕ) → HasSide (multiplier_row w) n is_output_side
      → HasValue tree now j (port_net (multiplier_at name w) n) (unwrap_or ((multiplier_row w).output (Multiplier run product) inputs n) (zero_at (multiplier_row w) n))
  unfolding spelled with_piece clocked.multiplier
  outputs zero side = absurd (not_output _ _ side.1 refl side.2)
  outputs (suc zero) side = absurd (not_output _ _ side.1 refl side.2)
  outputs (suc (suc zero)) side = absurd (not_output _ _ side.1 refl side.2)
  outputs (suc (suc (suc zero))) side = has_by at.stands (registers_known name w tree now j values at.stands held) refl
  outputs (suc (suc (suc (suc zero)))) side = has_by at.stands (registers_known name w tree now j values at.stands held) refl
  outputs (suc (suc (suc (suc (suc n))))) side = absurd (let none = side.1 in cc)

  module _ (given : AreGiven (multiplier_row w) inputs) where
    go_has : HasBit tree now j inputs 0 (spelled (codes "go"))
    unfolding spelled with_piece clocked.multiplier
    go_has = bit_has (input_has at 0 _ refl refl (given 0 _ refl refl))

    left_has : HasInput tree now j inputs 1 (spelled (codes "left")) w
    unfolding spelled with_piece clocked.multiplier
    left_has = input_has at 1 _ refl refl (given 1 _ refl refl)

    right_has : HasInput tree now j inputs 2 (spelled (codes "right")) w
    unfolding spelled with_piece clocked.multiplier
    right_has = input_has at 2 _ refl refl (given 2 _ refl refl)

    abbrev at_inputs : Given
    at_inputs = record { go = go_has.bit; left = left_has.value; right = right_has.value }

    there : AreThere w tree now j at_inputs
    there = record { go = go_has.has; left = left_has.has; right = right_has.has }

    nets : (k : ℕ) (net : List ℕ) → slice_get (nets_at tree j) k ≡ Some net → 2 ≤ k → (v : BitVector) × HasValue tree now j net v
    unfolding spelled with_piece clocked.multiplier
    nets k net stands_there behind = all_have _ _ at.stands (nets_known name w tree now j values at.stands held at_inputs there) refl stands_there behind

    step : (look : Look) → IsWhole tree now look → now.reset ≡ 0 → StandsFor w (kept_at (state_after tree now look) j) ((multiplier_row w).next (Multiplier run product) inputs)
    step look whole running =
        let after : Bool → ℕ → ℕ → Type 0 = λ go a b. StandsFor w (kept_at (state_after tree now look) j)
        (if go then multiplied w 3 (if run.count == 0 then record run { left = a; right = b } else run) product else Multiplier (stopped run) product) in
        subst (λ (go : Bool). after go (value_at inputs 1) (value_at inputs 2)) (sym (is_on-bit go_has))
        (subst (λ (a : ℕ). after go_has.bit a (value_at inputs 2)) (sym (value_at-input left_has))
        (subst (λ (b : ℕ). after go_has.bit left_has.value b) (sym (value_at-input right_has))
        (next name w tree now j look at.stands whole running run.left run.right run.done go_has.bit run.count values.held_left values.held_right product left_has.value right_has.value held there at.of_row.0.under_way
        (λ some. let kept = at.holds.operands some in (kept.left, kept.right)))))

-- every register is 0 after an edge with reset
reset_edge : (name : List ℕ) (w : ℕ) (tree : List Placed) (now : Moment) (look : Look) (j : ℕ) → Stands (multiplier_at name w) tree j → IsWhole tree now look → now.reset ≡ 1
    → StandsFor w (kept_at (state_after tree now look) j) (Multiplier at_rest 0)
unfolding spelled with_piece clocked.multiplier
reset_edge name w tree now look j stands whole is = record {
  counts = record {
    count = register_cleared (spelled (codes "count")) 2 look stands whole is refl;
    finished = register_cleared (spelled (codes "finished")) 1 look stands whole is refl;
  };
  operands = λ some. absurd (some refl);
  has_product = register_cleared (spelled (codes "product")) w look stands whole is refl;
}

-- the module of a multiplier
pub multiplier_built : (name : List ℕ) (w : ℕ) → IsBuilt (multiplier_at name w) (multiplier_row w) (StandsFor w)
multiplier_built name w = record {
  start = record { counts = record { count = refl; finished = refl }; operands = λ some. absurd (some refl); has_product = refl };
  loaded = λ words word takes same. absurd takes;
  words = words;
  outputs = outputs_of;
  nets = nets_of;
  step = step_of;
  reset_edge = reset_of;
}
  where
    words : HoldsWords (multiplier_at name w) (multiplier_row w) (StandsFor w)
    words kept (Multiplier run product) k holds of_row within = absurd (omega arith)
    words kept state k holds of_row within = absurd of_row

    outputs_of : GivesOutputs (multiplier_at name w) (multiplier_row w) (StandsFor w)
    outputs_of tree now j n (Multiplier run product) inputs at side given = outputs name w tree now j run product inputs at n side
    outputs_of tree now j n state inputs at side given = absurd at.of_row

    nets_of : GivesNets (multiplier_at name w) (multiplier_row w) (StandsFor w)
    nets_of tree now j k net (Multiplier run product) inputs at given = nets name w tree now j run product inputs at given k net
    nets_of tree now j k net state inputs at given = absurd at.of_row

    step_of : Steps (multiplier_at name w) (multiplier_row w) (StandsFor w)
    step_of tree now look j (Multiplier run product) inputs at given whole running = step name w tree now j run product inputs at given look whole running
    step_of tree now look j state inputs at given whole running = absurd at.of_row

    reset_of : Resets (multiplier_at name w) (multiplier_row w) (StandsFor w)
    reset_of tree now look j state stands holds of_row whole is = reset_edge name w tree now look j stands whole is
