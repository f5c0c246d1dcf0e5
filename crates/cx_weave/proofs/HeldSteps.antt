-- The inputs of a call, held one after the other.
use Rattle.std.proofs.Common.{◌≡◌, ◌≢◌, ℕ, ◌+◌, ◌≤◌, ◌<◌, ⊎_elim, List, [], ◌∷◌, ◌++◌, length, Some, None, sym, ap, ◌∙◌, subst, arith}
use Rattle.std.proofs.Math.Path.{fun_ext}
use Rattle.std.specs.List.{slice_get}
use Rattle.std.proofs.lemmas.Bool.{cases_lt}
use Rattle.std.proofs.lemmas.List.{ext_get_or, get_or_past}
use Rattle.std.proofs.lemmas.Option.{slice_get-get_or}
use Rattle.cx_bits.specs.BitVector.{BitVector}
use Rattle.cx_meaning.specs.declared.sights.Seen.{Seen}
use Rattle.cx_meaning.specs.declared.sights.Seen.TheVariants.{Value, Undefined}
use Rattle.cx_meaning.specs.Designs.{PlainDesign}
use Rattle.cx_meaning.specs.Instances.{Instance, Path, State, part_of, instance_at, tree_of}
use Rattle.cx_meaning.specs.Sights.{Held}
use Rattle.cx_meaning.specs.Calls.{inputs_of_call}
use Rattle.cx_rules.specs.Ports.{declared_width}
use Rattle.cx_state.specs.Tables.{IsNumber}
use Rattle.cx_state.specs.States.{PlainInstance, instance_state, inputs_held, with_held, IsStateOf, StandsFor, under_path}
use Rattle.cx_turns.specs.Children.{HasChild, HoldsCall, IsPart}
use Rattle.cx_turns.proofs.HoldLemmas.{held_stands, held_here, held_others}
use Rattle.cx_weave.specs.Calls.{HoldsList, HoldsAs}
use Rattle.cx_orders.specs.Steps.{first_inputs, held_as}
use Rattle.cx_weave.specs.Strands.{InputsFit}
use Rattle.cx_weave.proofs.CallSteps.{child_is}
use Rattle.cx_orders.proofs.Runs.{first_at, first_length}
use Rattle.cx_state.proofs.TablesLemmas.{one_path}

-- the first inputs are held as they are listed, and nothing else changes
pub record HoldsSoFar (d : PlainDesign) (old new : List PlainInstance) (child : ℕ) (inputs : List Seen) (k : ℕ) : Type 0 where
  pub stands : (s : State) → StandsFor (tree_of d) old s → StandsFor (tree_of d) new s
  pub own : (j : ℕ) → j < k → inputs_held new child j ≡ held_as inputs j
  pub others : (m input : ℕ) → m ≢ child → inputs_held new m input ≡ inputs_held old m input

module _ (d : PlainDesign) (old : List PlainInstance) (child : ℕ) (inputs : List Seen) where
  -- each of them is there
  pub input_there : (n c k : ℕ) → HasChild d n c child → (at : Path) → IsNumber d n at → InputsFit d n c (Some inputs) → (mid : List PlainInstance) → IsStateOf d mid → k < length inputs → k < length (instance_state mid child).held
  input_there n c k has at number fits mid state less =
      let one = (state.fits child (at ++ c ∷ []) (has at number)).inputs in
      let two = (fits at number).count in
      omega (arith, one, two, less)

  pub held_goes : (mid : List PlainInstance) (k : ℕ) (x : Seen) → child < length mid → k < length (instance_state mid child).held → x ≡ held_as inputs k → HoldsSoFar d old mid child inputs k → HoldsSoFar d old (with_held mid child k x) child inputs (k + 1)
  held_goes mid k x there inside is so = record {
    stands = λ s h. held_stands mid child k x d s there (so.stands s h);
    own = λ j less. ⊎_elim
        (λ (below : j < k). held_others mid child k x there child j (λ same e. absurd (omega (arith, below, e))) ∙ so.own j below)
        (λ (above : k ≤ j). let e : j ≡ k = omega (arith, above, less) in subst (λ m. inputs_held (with_held mid child k x) child m ≡ held_as inputs m) (sym e) (held_here mid child k x there inside ∙ is))
        (cases_lt j k);
    others = λ m input ne. held_others mid child k x there m input (λ same e. ne same) ∙ so.others m input ne;
  }

  -- an input that is held has its width
  pub width_fits : (n c k : ℕ) (x : Seen) → HasChild d n c child → (at : Path) → IsNumber d n at → InputsFit d n c (Some inputs) → k < length inputs → x ≡ held_as inputs k
      → (path : Path) (b : BitVector) → IsNumber d child path → x ≡ Value b → declared_width (part_of (instance_at (tree_of d) path)).inputs k ≡ Some b.width
  width_fits n c k x has at number fits less is path b there value =
      let same : path ≡ at ++ c ∷ [] = one_path d child path (at ++ c ∷ []) there (has at number) in
      subst (λ p. declared_width (part_of (instance_at (tree_of d) p)).inputs k ≡ Some b.width) (sym same)
      ((fits at number).widths k b (slice_get-get_or inputs k Undefined less ∙ ap (λ y. Some y) (sym is ∙ value)))

  pub held_ends : (new : List PlainInstance) (n c k : ℕ) → HasChild d n c child → (at : Path) → IsNumber d n at → InputsFit d n c (Some inputs) → IsStateOf d new → length inputs ≤ k → HoldsSoFar d old new child inputs k → HoldsList d old new child inputs
  held_ends new n c k has at number fits state past so = record {
    stands = so.stands;
    own = fun_ext (λ j. ⊎_elim
        (λ (below : j < length inputs). so.own j (omega (arith, below, past)))
        (λ (above : length inputs ≤ j).
        let count : length (instance_state new child).held ≡ length inputs = (state.fits child (at ++ c ∷ []) (has at number)).inputs ∙ sym (fits at number).count in
        get_or_past (instance_state new child).held j Undefined (omega (arith, count, above)) ∙ sym (get_or_past inputs j Undefined above))
        (cases_lt j (length inputs)));
    others = so.others;
  }

-- THE INPUTS OF A CALL in its first turn
module _ (d : PlainDesign) (old new : List PlainInstance) (n g c child : ℕ) (part : IsPart d n c) (has : HasChild d n c child) (state : IsStateOf d new) (holds : HoldsCall d old new n g c child) where
  pub first_held : (inputs : List Seen) → inputs ≡ (instance_state new child).held → HoldsAs d old new n g c child None inputs
  first_held inputs is = record {
    holds = record { stands = holds.stands; own = ap (λ (xs : List Seen). held_as xs) (sym is); others = holds.others };
    seen = λ path s number stands.
        let i = instance_at (tree_of d) path in
        let there = has path number in
        let fit = state.fits child (path ++ c ∷ []) there in
        let h : Held = inputs_of_call i (inputs_held old n) g c (under_path path s) in
        let count : length (part_of (instance_at i (c ∷ []))).inputs ≡ length (part_of (instance_at (tree_of d) (path ++ c ∷ []))).inputs = ap (λ (j : Instance). length (part_of j).inputs) (sym (child_is d n c part path number)) in
        let long : length (instance_state new child).held ≡ length (part_of (instance_at i (c ∷ []))).inputs = fit.inputs ∙ sym count in
        is
        ∙ ext_get_or Undefined (instance_state new child).held (first_inputs h (length (part_of (instance_at i (c ∷ []))).inputs)) (long ∙ sym (first_length h (length (part_of (instance_at i (c ∷ []))).inputs)))
        (λ k less. holds.inputs path s k number stands (omega (arith, less, fit.inputs)) ∙ sym (first_at h (length (part_of (instance_at i (c ∷ []))).inputs) k (omega (arith, less, long))));
    fits = λ path number.
        let fit = state.fits child (path ++ c ∷ []) (has path number) in
        record {
          count = ap (λ (xs : List Seen). length xs) is ∙ fit.inputs;
          widths = λ k b e. fit.widths k b (ap (λ (xs : List Seen). slice_get xs k) (sym is) ∙ e);
        };
  }
