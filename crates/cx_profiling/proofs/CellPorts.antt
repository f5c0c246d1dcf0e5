-- The ports of a component's cell, before and after the component gains outputs.
use Rattle.std.proofs.Common.{◌≡◌, ℕ, zero, suc, ◌+◌, ◌-◌, ◌<◌, ◌≤◌, ⊎_elim, Bool, true, false, if◌then◌else◌, length, nat_eq, refl, sym, ap, ◌∙◌, subst, arith}
use Rattle.std.specs.Prelude.{nat_lt}
use Rattle.std.proofs.lemmas.Bool.{lt-ltb, le-ltb, eq-eqb, ne_eqb, cases_eq, cases_lt}
use Rattle.cx_meaning.specs.Designs.{PlainComponent, PlainDesign, component_at}
use Rattle.cx_meaning.specs.Sights.{PartPort, Go, AnInput, AnOutput, ItsDone, output_port, later_port, part_port}
use Rattle.cx_profiling.specs.Counters.{first_gained}
use Rattle.cx_profiling.specs.Instrumented.{gained, with_counts}
use Rattle.cx_profiling.proofs.PortLemmas.{grown_number}
use Rattle.cx_profiling.proofs.GainedLemmas.{grown_at}

abbrev numbered : ℕ → ℕ → ℕ → PartPort
numbered inputs outputs zero = Go
numbered inputs outputs (suc n) = later_port inputs outputs n

by_number : (part : PlainComponent) (p : ℕ) → part_port part p ≡ numbered (length part.inputs) (length part.outputs) p
by_number part zero = refl
by_number part (suc n) = refl

an_input : (i o n : ℕ) → n < i → later_port i o n ≡ AnInput n
an_input i o n less = ap (λ b. if b then AnInput n else output_port o (n - i)) (lt-ltb n i less)

an_output : (i o n m : ℕ) → n ≡ i + m → m < o → later_port i o n ≡ AnOutput m
an_output i o n m e less =
    let past : i ≤ n = omega (arith, e) in
    let rest : n - i ≡ m = omega (arith, e) in
    ap (λ b. if b then AnInput n else output_port o (n - i)) (le-ltb n i past) ∙ ap (output_port o) rest ∙ ap (λ b. if b then AnOutput m else ItsDone) (lt-ltb m o less)

its_done : (i o n : ℕ) → i + o ≤ n → later_port i o n ≡ ItsDone
its_done i o n past =
    let first : i ≤ n = omega (arith, past) in
    let rest : o ≤ n - i = omega (arith, past) in
    ap (λ b. if b then AnInput n else output_port o (n - i)) (le-ltb n i first) ∙ ap (λ b. if b then AnOutput (n - i) else ItsDone) (le-ltb (n - i) o rest)

same_later : (i o g n : ℕ) → n < i + o → later_port i (o + g) n ≡ later_port i o n
same_later i o g n less =
    ⊎_elim (λ (input : n < i). an_input i (o + g) n input ∙ sym (an_input i o n input))
    (λ (past : i ≤ n). let e : n ≡ i + (n - i) = omega (arith, past) in
    let more : n - i < o + g = omega (arith, past, less) in
    let few : n - i < o = omega (arith, past, less) in
    an_output i (o + g) n (n - i) e more ∙ sym (an_output i o n (n - i) e few)) (cases_lt n i)

same_number : (i o g p : ℕ) → p ≤ suc (i + o) → numbered i (o + g) (if nat_eq p (suc (i + o)) then p + g else p) ≡ numbered i o p
same_number i o g p few = ⊎_elim last before (cases_eq p (suc (i + o)))
  where
    last : p ≡ suc (i + o) → numbered i (o + g) (if nat_eq p (suc (i + o)) then p + g else p) ≡ numbered i o p
    last e =
        let further : p + g ≡ suc (i + o + g) = omega (arith, e) in
        let far : i + (o + g) ≤ i + o + g = omega arith in
        ap (λ b. numbered i (o + g) (if b then p + g else p)) (eq-eqb p (suc (i + o)) e) ∙ ap (numbered i (o + g)) further ∙ its_done i (o + g) (i + o + g) far
        ∙ sym (ap (numbered i o) e ∙ its_done i o (i + o) (omega arith))

    less_than : (q : ℕ) → q ≤ suc (i + o) → (q ≡ suc (i + o) → ⊥) → numbered i (o + g) q ≡ numbered i o q
    less_than zero few differ = refl
    less_than (suc n) few differ = same_later i o g n (⊎_elim (λ (less : n < i + o). less) (λ (past : i + o ≤ n). absurd (differ (omega (arith, few, past)))) (cases_lt n (i + o)))

    before : (p ≡ suc (i + o) → ⊥) → numbered i (o + g) (if nat_eq p (suc (i + o)) then p + g else p) ≡ numbered i o p
    before differ = ap (λ b. numbered i (o + g) (if b then p + g else p)) (ne_eqb p (suc (i + o)) differ) ∙ less_than p few differ

-- a port that the child gives
pub data IsGiven : PartPort → Type 0 where
  given_output : (n : ℕ) → IsGiven (AnOutput n)
  given_done : IsGiven ItsDone

past_given : (o n : ℕ) → IsGiven (output_port o n)
past_given o n = by (nat_lt n o)
  where
    by : (b : Bool) → IsGiven (if b then AnOutput n else ItsDone)
    by true = given_output n
    by false = given_done

pub part_given : (part : PlainComponent) (p : ℕ) → suc (length part.inputs) ≤ p → IsGiven (part_port part p)
part_given part zero past = absurd (omega (arith, past))
part_given part (suc n) past =
    let far : length part.inputs ≤ n = omega (arith, past) in
    subst IsGiven (sym (ap (λ b. if b then AnInput n else output_port (length part.outputs) (n - length part.inputs)) (le-ltb n (length part.inputs) far))) (past_given (length part.outputs) (n - length part.inputs))

-- done is the port behind the outputs
pub done_port : (part : PlainComponent) → part_port part (first_gained part) ≡ ItsDone
done_port part = by_number part (first_gained part) ∙ its_done (length part.inputs) (length part.outputs) (length part.inputs + length part.outputs) (omega arith)

module _ (d : PlainDesign) (k : ℕ) (within : k < length d.components) where
  -- each port is what it was, at its new number
  pub ports_alike : (p : ℕ) → p ≤ first_gained (component_at d k)
      → part_port (component_at (with_counts d) k) (grown_number d (first_gained (component_at d k)) (gained d k) p) ≡ part_port (component_at d k) p
  ports_alike p few =
      by_number (component_at (with_counts d) k) (grown_number d (first_gained (component_at d k)) (gained d k) p)
      ∙ ap (λ inputs. numbered (length inputs) (length (component_at (with_counts d) k).outputs) (grown_number d (first_gained (component_at d k)) (gained d k) p)) (grown_at d k within).inputs
      ∙ ap (λ outputs. numbered (length (component_at d k).inputs) outputs (grown_number d (first_gained (component_at d k)) (gained d k) p)) ((grown_at d k within).outputs)
      ∙ same_number (length (component_at d k).inputs) (length (component_at d k).outputs) (gained d k) p few
      ∙ sym (by_number (component_at d k) p)

  -- and the gained ones stand before done
  pub gained_port : (m : ℕ) → m < gained d k → part_port (component_at (with_counts d) k) (first_gained (component_at d k) + m) ≡ AnOutput (length (component_at d k).outputs + m)
  gained_port m few =
      let number : first_gained (component_at d k) + m ≡ suc (length (component_at d k).inputs + (length (component_at d k).outputs + m)) = omega arith in
      let less : length (component_at d k).outputs + m < length (component_at d k).outputs + gained d k = omega (arith, few) in
      by_number (component_at (with_counts d) k) (first_gained (component_at d k) + m)
      ∙ ap (λ inputs. numbered (length inputs) (length (component_at (with_counts d) k).outputs) (first_gained (component_at d k) + m)) (grown_at d k within).inputs
      ∙ ap (λ outputs. numbered (length (component_at d k).inputs) outputs (first_gained (component_at d k) + m)) ((grown_at d k within).outputs)
      ∙ ap (numbered (length (component_at d k).inputs) (length (component_at d k).outputs + gained d k)) number
      ∙ an_output (length (component_at d k).inputs) (length (component_at d k).outputs + gained d k) (length (component_at d k).inputs + (length (component_at d k).outputs + m)) (length (component_at d k).outputs + m) refl less
