-- The module of a divider does what its row says.
use Rattle.std.specs.Prelude.{◌≡◌, ◌≢◌, ℕ, zero, suc, ◌+◌, ◌-◌, ◌%◌, ◌^◌, ◌<◌, ◌≤◌, ◌==◌, ◌&&◌, Bool, true, false, List, [], ◌∷◌, Some, slice_get, unwrap_or, if◌then◌else◌, codes, refl}
use Rattle.std.proofs.Common.{sym, subst, arith, ap, ◌∙◌, eq-eqb}
use Rattle.std.proofs.Math.Nat.{mod-eq_of_lt}
use Rattle.std.proofs.lemmas.Nat.{pow_pos}
use Rattle.std.proofs.lemmas.Bool.{eqb-true}
use Rattle.std.proofs.lemmas.Bool.Decides.{nat_tests}
use Rattle.cx_bits.specs.BitVector.{BitVector, of_width}
use Rattle.cx_bits.specs.Operators.{bit_of}
use Rattle.cx_prim.specs.Widths.{IsWidth}
use Rattle.cx_prim.specs.CellStates.{PipeRun, Divider}
use Rattle.cx_prim.specs.Rows.{Inputs, value_at, HasSide, is_output_side}
use Rattle.cx_prim.specs.CombinationalLaws.{not_output}
use Rattle.cx_prim.specs.PipeRows.{at_rest, divider_row, divided, stopped}
use Rattle.cx_vtree.specs.InstanceTree.{Placed, nets_at}
use Rattle.cx_vtree.specs.Meaning.{Moment, Look, HasValue}
use Rattle.cx_vtree.specs.Edges.{state_after}
use Rattle.cx_vtree.specs.SimRun.{IsWhole}
use Rattle.cx_vmods.specs.Spelling.{spelled}
use Rattle.cx_vmods.specs.Parts.{with_piece}
use Rattle.cx_vmods.specs.BitCounts.{bits_for}
use Rattle.cx_vmods.specs.Clocked as clocked
use Rattle.cx_vmods.specs.Stands.{StandsFor}
use Rattle.cx_vmods.specs.Built.{kept_at, port_net, zero_at, Stands, IsAt, AreGiven, HoldsWords, GivesOutputs, GivesNets, Steps, Resets, IsBuilt}
use Rattle.cx_vmods.specs.Inside.{known, set_in}
use Rattle.cx_vmods.proofs.InsideLemmas.{none_known, also_known, all_have}
use Rattle.cx_vmods.proofs.EdgeLemmas.{set_has, register_cleared}
use Rattle.cx_vmods.proofs.InputLemmas.{HasInput, HasBit, input_has, bit_has, is_on-bit, value_at-input}
use Rattle.cx_vmods.proofs.AddressLemmas.{bits_for-suffices}
use Rattle.cx_vmods.proofs.DivisionLemmas.{quotient_at, remainder_at}
use Rattle.cx_vmods.proofs.DividingLemmas.{IsUnderWay, begins, goes_on, ends_divided}
use Rattle.cx_vmods.proofs.DividerNets.{divider_at, Values, Given, ends, starts, rest_now, digits_now, divisor_now, rest_next, digits_next, AreThere, AreHeld, count_has, quotient_has, remainder_has, out_quotient_has, out_remainder_has, done_has, ends_has, finishes_has, divisor_now_has, rest_next_has, digits_next_has, nets_known}

-- the nets of a cycle, and what its edge leaves in the registers
module _ (name : List ℕ) (w : ℕ) (ok : IsWidth w) (tree : List Placed) (now : Moment) (j : ℕ) (look : Look) (stands : Stands (divider_at name w) tree j) (whole : IsWhole tree now look) (running : now.reset ≡ 0)
    (v : Values) (held : AreHeld tree now j v) (g : Given) (there : AreThere w tree now j g) where
  next_count : (state_after tree now look).register j (spelled (codes "count")) ≡ (if g.go then (if ends w v then 0 % 2 ^ bits_for w else (v.count + 1 % 2 ^ bits_for w) % 2 ^ bits_for w) else 0 % 2 ^ bits_for w)
  unfolding spelled with_piece clocked.divider
  next_count =
      set_has (spelled (codes "count")) (of_width (bits_for w) (if g.go then (if ends w v then 0 % 2 ^ bits_for w else (v.count + 1 % 2 ^ bits_for w) % 2 ^ bits_for w) else 0 % 2 ^ bits_for w)) 0 look stands whole running
      (also_known (known (spelled (codes "go")) 1 (bit_of g.go).value) there.go
      (also_known (known (spelled (codes "ends")) 1 (bit_of (ends w v)).value) (ends_has name w tree now j v stands held)
      (also_known (known (spelled (codes "count")) (bits_for w) v.count) (count_has name w tree now j v stands held) none_known)))
      (by g.go (ends w v))
    where
      by : (t u : Bool) → set_in 0 (divider_at name w) (kept_at now.state j) (known (spelled (codes "go")) 1 (bit_of t).value ∷ known (spelled (codes "ends")) 1 (bit_of u).value ∷ known (spelled (codes "count")) (bits_for w) v.count ∷ []) (spelled (codes "count"))
          ≡ Some (of_width (bits_for w) (if t then (if u then 0 % 2 ^ bits_for w else (v.count + 1 % 2 ^ bits_for w) % 2 ^ bits_for w) else 0 % 2 ^ bits_for w))
      by true true = refl
      by true false = refl
      by false u = refl

  next_finished : (state_after tree now look).register j (spelled (codes "finished")) ≡ (bit_of (g.go && ends w v)).value
  unfolding spelled with_piece clocked.divider
  next_finished =
      set_has (spelled (codes "finished")) (bit_of (g.go && ends w v)) 0 look stands whole running
      (also_known (known (spelled (codes "finishes")) 1 (bit_of (g.go && ends w v)).value) (finishes_has name w tree now j v stands held ok g there) none_known) refl

  next_rest : (state_after tree now look).register j (spelled (codes "rest")) ≡ rest_next w g v
  unfolding spelled with_piece clocked.divider
  next_rest =
      set_has (spelled (codes "rest")) (of_width w (rest_next w g v)) 0 look stands whole running
      (also_known (known (spelled (codes "rest_next")) w (rest_next w g v)) (rest_next_has name w tree now j v stands held ok g there) none_known) refl

  next_digits : (state_after tree now look).register j (spelled (codes "digits")) ≡ digits_next w g v
  unfolding spelled with_piece clocked.divider
  next_digits =
      set_has (spelled (codes "digits")) (of_width w (digits_next w g v)) 0 look stands whole running
      (also_known (known (spelled (codes "digits_next")) w (digits_next w g v)) (digits_next_has name w tree now j v stands held ok g there) none_known) refl

  next_divisor : (state_after tree now look).register j (spelled (codes "divisor")) ≡ divisor_now w g v
  unfolding spelled with_piece clocked.divider
  next_divisor =
      set_has (spelled (codes "divisor")) (of_width w (divisor_now w g v)) 0 look stands whole running
      (also_known (known (spelled (codes "divisor_now")) w (divisor_now w g v)) (divisor_now_has name w tree now j v stands held ok g there) none_known) refl

  next_quotient : (state_after tree now look).register j (spelled (codes "quotient")) ≡ (if g.go && ends w v then digits_next w g v else v.quotient)
  unfolding spelled with_piece clocked.divider
  next_quotient =
      set_has (spelled (codes "quotient")) (of_width w (if g.go && ends w v then digits_next w g v else v.quotient)) 0 look stands whole running
      (also_known (known (spelled (codes "finishes")) 1 (bit_of (g.go && ends w v)).value) (finishes_has name w tree now j v stands held ok g there)
      (also_known (known (spelled (codes "digits_next")) w (digits_next w g v)) (digits_next_has name w tree now j v stands held ok g there)
      (also_known (known (spelled (codes "quotient")) w v.quotient) (quotient_has name w tree now j v stands held) none_known)))
      (by (g.go && ends w v))
    where
      by : (t : Bool) → set_in 0 (divider_at name w) (kept_at now.state j) (known (spelled (codes "finishes")) 1 (bit_of t).value ∷ known (spelled (codes "digits_next")) w (digits_next w g v) ∷ known (spelled (codes "quotient")) w v.quotient ∷ []) (spelled (codes "quotient"))
          ≡ Some (of_width w (if t then digits_next w g v else v.quotient))
      by true = refl
      by false = refl

  next_remainder : (state_after tree now look).register j (spelled (codes "remainder")) ≡ (if g.go && ends w v then rest_next w g v else v.remainder)
  unfolding spelled with_piece clocked.divider
  next_remainder =
      set_has (spelled (codes "remainder")) (of_width w (if g.go && ends w v then rest_next w g v else v.remainder)) 0 look stands whole running
      (also_known (known (spelled (codes "finishes")) 1 (bit_of (g.go && ends w v)).value) (finishes_has name w tree now j v stands held ok g there)
      (also_known (known (spelled (codes "rest_next")) w (rest_next w g v)) (rest_next_has name w tree now j v stands held ok g there)
      (also_known (known (spelled (codes "remainder")) w v.remainder) (remainder_has name w tree now j v stands held) none_known)))
      (by (g.go && ends w v))
    where
      by : (t : Bool) → set_in 0 (divider_at name w) (kept_at now.state j) (known (spelled (codes "finishes")) 1 (bit_of t).value ∷ known (spelled (codes "rest_next")) w (rest_next w g v) ∷ known (spelled (codes "remainder")) w v.remainder ∷ []) (spelled (codes "remainder"))
          ≡ Some (of_width w (if t then rest_next w g v else v.remainder))
      by true = refl
      by false = refl

  wide : w ≤ 2 ^ bits_for w
  wide = let few = ok.few_bits in bits_for-suffices w (omega arith)

  ends_is : ends w v ≡ (v.count + 1 == w)
  ends_is =
      let some = ok.some_bits in
      let below : (w - 1) % 2 ^ bits_for w ≡ w - 1 = let fits = wide in mod-eq_of_lt (omega arith) in
      ap (λ (n : ℕ). v.count == n) below ∙ grind (arith, nat_tests)

  -- with these operands, of which so many bits are divided
  after : (left right : ℕ) → v.count < w → left < 2 ^ w → right < 2 ^ w → IsUnderWay w v.count left right (rest_now w v) (digits_now w g v) (divisor_now w g v) → (idle_left idle_right : ℕ)
      → StandsFor w (kept_at (state_after tree now look) j)
      (if g.go then divided w w (record { count = v.count; left = left; right = right; done = v.done }) v.quotient v.remainder else Divider (record { count = 0; left = idle_left; right = idle_right; done = false }) v.quotient v.remainder)
  after left right under fits_l fits_r is idle_left idle_right = by g.go refl (v.count + 1 == w) refl
    where
      on : IsUnderWay w (v.count + 1) left right (rest_next w g v) (digits_next w g v) (divisor_now w g v)
      on = goes_on w v.count left right (rest_now w v) (digits_now w g v) (divisor_now w g v) ok under fits_l fits_r is

      zero_is : 0 % 2 ^ bits_for w ≡ 0
      zero_is = mod-eq_of_lt (pow_pos (bits_for w))

      both : (t u : Bool) → g.go ≡ t → (v.count + 1 == w) ≡ u → (g.go && ends w v) ≡ (t && u)
      both t u e f = ap (λ (b : Bool). b && ends w v) e ∙ ap (λ (b : Bool). t && b) (ends_is ∙ f)

      count_is : (t u : Bool) → g.go ≡ t → (v.count + 1 == w) ≡ u → (state_after tree now look).register j (spelled (codes "count")) ≡ (if t then (if u then 0 % 2 ^ bits_for w else (v.count + 1 % 2 ^ bits_for w) % 2 ^ bits_for w) else 0 % 2 ^ bits_for w)
      count_is t u e f =
          next_count ∙ ap (λ (b : Bool). if b then (if ends w v then 0 % 2 ^ bits_for w else (v.count + 1 % 2 ^ bits_for w) % 2 ^ bits_for w) else 0 % 2 ^ bits_for w) e
          ∙ ap (λ (b : Bool). if t then (if b then 0 % 2 ^ bits_for w else (v.count + 1 % 2 ^ bits_for w) % 2 ^ bits_for w) else 0 % 2 ^ bits_for w) (ends_is ∙ f)

      by : (t : Bool) → g.go ≡ t → (u : Bool) → (v.count + 1 == w) ≡ u → StandsFor w (kept_at (state_after tree now look) j)
          (if t then divided w w (record { count = v.count; left = left; right = right; done = v.done }) v.quotient v.remainder else Divider (record { count = 0; left = idle_left; right = idle_right; done = false }) v.quotient v.remainder)
      by true e true f =
          let all : v.count + 1 ≡ w = eqb-true (v.count + 1) w f in
          let end = ends_divided w (v.count + 1) left right (rest_next w g v) (digits_next w g v) (divisor_now w g v) all on in
          subst (λ (b : Bool). StandsFor w (kept_at (state_after tree now look) j)
          (if b then Divider (if b then record { count = 0; left = left; right = right; done = true } else record { count = v.count + 1; left = left; right = right; done = false }) (quotient_at w left right) (remainder_at left right)
          else Divider (if b then record { count = 0; left = left; right = right; done = true } else record { count = v.count + 1; left = left; right = right; done = false }) v.quotient v.remainder)) (sym f)
          (record {
            counts = record { count = count_is true true e f ∙ zero_is; finished = next_finished ∙ ap (λ (b : Bool). (bit_of b).value) (both true true e f) };
            dividing = λ some. absurd (some refl);
            has_quotient = next_quotient ∙ ap (λ (b : Bool). if b then digits_next w g v else v.quotient) (both true true e f) ∙ end.quotient;
            has_remainder = next_remainder ∙ ap (λ (b : Bool). if b then rest_next w g v else v.remainder) (both true true e f) ∙ end.remainder;
          })
      by true e false f =
          let more : v.count + 1 < w = grind (arith, nat_tests) in
          let room = wide in
          let one : 1 % 2 ^ bits_for w ≡ 1 = mod-eq_of_lt (omega arith) in
          let counted : (v.count + 1 % 2 ^ bits_for w) % 2 ^ bits_for w ≡ v.count + 1 = ap (λ (n : ℕ). (v.count + n) % 2 ^ bits_for w) one ∙ mod-eq_of_lt (omega arith) in
          subst (λ (b : Bool). StandsFor w (kept_at (state_after tree now look) j)
          (if b then Divider (if b then record { count = 0; left = left; right = right; done = true } else record { count = v.count + 1; left = left; right = right; done = false }) (quotient_at w left right) (remainder_at left right)
          else Divider (if b then record { count = 0; left = left; right = right; done = true } else record { count = v.count + 1; left = left; right = right; done = false }) v.quotient v.remainder)) (sym f)
          (record {
            counts = record { count = count_is true false e f ∙ counted; finished = next_finished ∙ ap (λ (b : Bool). (bit_of b).value) (both true false e f) };
            dividing = λ some. record { has_divisor = next_divisor ∙ on.has_divisor; has_rest = next_rest ∙ on.has_rest; has_digits = next_digits ∙ on.has_digits };
            has_quotient = next_quotient ∙ ap (λ (b : Bool). if b then digits_next w g v else v.quotient) (both true false e f);
            has_remainder = next_remainder ∙ ap (λ (b : Bool). if b then rest_next w g v else v.remainder) (both true false e f);
          })
      by false e u f = record {
        counts = record { count = count_is false u e f ∙ zero_is; finished = next_finished ∙ ap (λ (b : Bool). (bit_of b).value) (both false u e f) };
        dividing = λ some. absurd (some refl);
        has_quotient = next_quotient ∙ ap (λ (b : Bool). if b then digits_next w g v else v.quotient) (both false u e f);
        has_remainder = next_remainder ∙ ap (λ (b : Bool). if b then rest_next w g v else v.remainder) (both false u e f);
      }

module _ (name : List ℕ) (w : ℕ) (ok : IsWidth w) (tree : List Placed) (now : Moment) (j : ℕ) (run : PipeRun) (quotient remainder : ℕ) (inputs : Inputs)
    (at : IsAt (divider_at name w) (divider_row w) (StandsFor w) tree now j (Divider run quotient remainder) inputs) where
  abbrev values : Values
  values = record {
    count = run.count;
    done = run.done;
    rest = now.state.register j (spelled (codes "rest"));
    digits = now.state.register j (spelled (codes "digits"));
    divisor = now.state.register j (spelled (codes "divisor"));
    quotient = quotient;
    remainder = remainder;
  }

  held : AreHeld tree now j values
  held = record { count = at.holds.counts.count; finished = at.holds.counts.finished; rest = refl; digits = refl; divisor = refl; quotient = at.holds.has_quotient; remainder = at.holds.has_remainder }

  outputs : (n : ℕ) → HasSide (divider_row w) n is_output_side
      → HasValue tree now j (port_net (divider_at name w) n) (unwrap_or ((divider_row w).output (Divider run quotient remainder) inputs n) (zero_at (divider_row w) n))
  unfolding spelled with_piece clocked.divider
  outputs zero side = absurd (not_output _ _ side.1 refl side.2)
  outputs (suc zero) side = absurd (not_output _ _ side.1 refl side.2)
  outputs (suc (suc zero)) side = absurd (not_output _ _ side.1 refl side.2)
  outputs (suc (suc (suc zero))) side = out_quotient_has name w tree now j values at.stands held
  outputs (suc (suc (suc (suc zero)))) side = out_remainder_has name w tree now j values at.stands held
  outputs (suc (suc (suc (suc (suc zero))))) side = done_has name w tree now j values at.stands held
  outputs (suc (suc (suc (suc (suc (suc n)))))) side = absurd (let none = side.1 in cc)

  module _ (given : AreGiven (divider_row w) inputs) where
    go_has : HasBit tree now j inputs 0 (spelled (codes "go"))
    unfolding spelled with_piece clocked.divider
    go_has = bit_has (input_has at 0 _ refl refl (given 0 _ refl refl))

    left_has : HasInput tree now j inputs 1 (spelled (codes "left")) w
    unfolding spelled with_piece clocked.divider
    left_has = input_has at 1 _ refl refl (given 1 _ refl refl)

    right_has : HasInput tree now j inputs 2 (spelled (codes "right")) w
    unfolding spelled with_piece clocked.divider
    right_has = input_has at 2 _ refl refl (given 2 _ refl refl)

    abbrev at_inputs : Given
    at_inputs = record { go = go_has.bit; left = left_has.value; right = right_has.value }

    there : AreThere w tree now j at_inputs
    there = record { go = go_has.has; left = left_has.has; right = right_has.has }

    nets : (k : ℕ) (net : List ℕ) → slice_get (nets_at tree j) k ≡ Some net → 2 ≤ k → (v : BitVector) × HasValue tree now j net v
    unfolding spelled with_piece clocked.divider
    nets k net stands_there behind = all_have _ _ at.stands (nets_known name w tree now j values at.stands held ok at_inputs there) refl stands_there behind

    -- the first cycle takes the operands from the inputs, and the others from the registers
    under_way : (z : Bool) → (run.count == 0) ≡ z
        → IsUnderWay w run.count (if z then left_has.value else run.left) (if z then right_has.value else run.right) (rest_now w values) (digits_now w at_inputs values) (divisor_now w at_inputs values)
    under_way z is = by z is (starts_as z is)
      where
        starts_as : (z : Bool) → (run.count == 0) ≡ z → starts w values ≡ z
        starts_as z is = ap (λ (n : ℕ). run.count == n) (mod-eq_of_lt (pow_pos (bits_for w))) ∙ is

        by : (z : Bool) → (run.count == 0) ≡ z → starts w values ≡ z
            → IsUnderWay w run.count (if z then left_has.value else run.left) (if z then right_has.value else run.right) (rest_now w values) (digits_now w at_inputs values) (divisor_now w at_inputs values)
        by true zero_is s =
            let none : run.count ≡ 0 = eqb-true run.count 0 zero_is in
            subst (λ (b : Bool). IsUnderWay w run.count left_has.value right_has.value (if b then 0 % 2 ^ w else values.rest) (if b then left_has.value else values.digits) (if b then right_has.value else values.divisor)) (sym s)
            (subst (λ (c : ℕ). IsUnderWay w c left_has.value right_has.value (0 % 2 ^ w) left_has.value right_has.value) (sym none) (begins w left_has.value right_has.value left_has.fits))
        by false some_is s =
            let some : run.count ≢ 0 = λ e. let wrong : (run.count == 0) ≡ true = eq-eqb run.count 0 e in absurd (let clash : false ≡ true = sym some_is ∙ wrong in cc) in
            let dividing = at.holds.dividing some in
            subst (λ (b : Bool). IsUnderWay w run.count run.left run.right (if b then 0 % 2 ^ w else values.rest) (if b then left_has.value else values.digits) (if b then right_has.value else values.divisor)) (sym s)
            (record { has_rest = dividing.has_rest; has_digits = dividing.has_digits; has_divisor = dividing.has_divisor })

    step : (look : Look) → IsWhole tree now look → now.reset ≡ 0 → StandsFor w (kept_at (state_after tree now look) j) ((divider_row w).next (Divider run quotient remainder) inputs)
    step look whole running =
        let next : Bool → Bool → ℕ → ℕ → Type 0 = λ go z a b. StandsFor w (kept_at (state_after tree now look) j)
        (if go then divided w w (if z then record run { left = a; right = b } else run) quotient remainder else Divider (stopped run) quotient remainder) in
        subst (λ (go : Bool). next go (run.count == 0) (value_at inputs 1) (value_at inputs 2)) (sym (is_on-bit go_has))
        (subst (λ (a : ℕ). next go_has.bit (run.count == 0) a (value_at inputs 2)) (sym (value_at-input left_has))
        (subst (λ (b : ℕ). next go_has.bit (run.count == 0) left_has.value b) (sym (value_at-input right_has))
        (by (run.count == 0) refl)))
      where
        by : (z : Bool) → (run.count == 0) ≡ z → StandsFor w (kept_at (state_after tree now look) j)
            (if go_has.bit then divided w w (if z then record run { left = left_has.value; right = right_has.value } else run) quotient remainder else Divider (stopped run) quotient remainder)
        by true is =
            after name w ok tree now j look at.stands whole running values held at_inputs there left_has.value right_has.value at.of_row.0.under_way left_has.fits right_has.fits (under_way true is) run.left run.right
        by false is =
            after name w ok tree now j look at.stands whole running values held at_inputs there run.left run.right at.of_row.0.under_way at.of_row.0.left_fits at.of_row.0.right_fits (under_way false is) run.left run.right

-- every register is 0 after an edge with reset
reset_edge : (name : List ℕ) (w : ℕ) (tree : List Placed) (now : Moment) (look : Look) (j : ℕ) → Stands (divider_at name w) tree j → IsWhole tree now look → now.reset ≡ 1
    → StandsFor w (kept_at (state_after tree now look) j) (Divider at_rest 0 0)
unfolding spelled with_piece clocked.divider
reset_edge name w tree now look j stands whole is = record {
  counts = record {
    count = register_cleared (spelled (codes "count")) (bits_for w) look stands whole is refl;
    finished = register_cleared (spelled (codes "finished")) 1 look stands whole is refl;
  };
  dividing = λ some. absurd (some refl);
  has_quotient = register_cleared (spelled (codes "quotient")) w look stands whole is refl;
  has_remainder = register_cleared (spelled (codes "remainder")) w look stands whole is refl;
}

-- the module of a divider
pub divider_built : (name : List ℕ) (w : ℕ) → IsWidth w → IsBuilt (divider_at name w) (divider_row w) (StandsFor w)
divider_built name w ok = record {
  start = record { counts = record { count = refl; finished = refl }; dividing = λ some. absurd (some refl); has_quotient = refl; has_remainder = refl };
  loaded = λ words word takes same. absurd takes;
  words = words;
  outputs = outputs_of;
  nets = nets_of;
  step = step_of;
  reset_edge = reset_of;
}
  where
    words : HoldsWords (divider_at name w) (divider_row w) (StandsFor w)
    words kept (Divider run quotient remainder) k holds of_row within = absurd (omega arith)
    words kept state k holds of_row within = absurd of_row

    outputs_of : GivesOutputs (divider_at name w) (divider_row w) (StandsFor w)
    outputs_of tree now j n (Divider run quotient remainder) inputs at side given = outputs name w ok tree now j run quotient remainder inputs at n side
    outputs_of tree now j n state inputs at side given = absurd at.of_row

    nets_of : GivesNets (divider_at name w) (divider_row w) (StandsFor w)
    nets_of tree now j k net (Divider run quotient remainder) inputs at given = nets name w ok tree now j run quotient remainder inputs at given k net
    nets_of tree now j k net state inputs at given = absurd at.of_row

    step_of : Steps (divider_at name w) (divider_row w) (StandsFor w)
    step_of tree now look j (Divider run quotient remainder) inputs at given whole running = step name w ok tree now j run quotient remainder inputs at given look whole running
    step_of tree now look j state inputs at given whole running = absurd at.of_row

    reset_of : Resets (divider_at name w) (divider_row w) (StandsFor w)
    reset_of tree now look j state stands holds of_row whole is = reset_edge name w tree now look j stands whole is
