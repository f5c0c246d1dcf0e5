-- Worked values, by hand from the sentences of the definitions.
use Rattle.std.proofs.Common.{◌≡◌, ℕ, List, [], ◌∷◌, Some, refl, if◌then◌else◌, arith}
use Rattle.std.specs.Prelude.{All, codes}
use Rattle.std.proofs.lemmas.List.Elements.{All-nil, All-cons, All-head}
use Rattle.cx_bits.specs.BitVector.{of_width}
use Rattle.cx_vtree.specs.Plain.{Named, Number, RegisterOf, PlainAssign, PlainModule, SetTo, PlainSource}
use Rattle.cx_vtree.specs.InstanceTree.{same_name}
use Rattle.cx_vtree.specs.Meaning.{State, Look}
use Rattle.cx_emitted.specs.Resets.{IsZero, IsSetAmong, HasReset, IsReset}
use Rattle.cx_emitted.specs.Power.{after_power}

abbrev to_number : List ℕ → ℕ → PlainAssign
to_number name value = record { name = name; value = Number (of_width 4 value) }

-- a <= b and b <= a at an edge without reset; with reset a is set to this, and b or another one to 0
abbrev swapping : ℕ → List ℕ → PlainModule
swapping value other = record {
  name = codes "main";
  ports = [];
  decls = RegisterOf (codes "a") 4 ∷ RegisterOf (codes "b") 4 ∷ [];
  assigns = [];
  instances = [];
  edge = Some (record {
    reset = to_number (codes "a") value ∷ to_number other 0 ∷ [];
    step = SetTo (record { name = codes "a"; value = Named (codes "b") }) ∷ SetTo (record { name = codes "b"; value = Named (codes "a") }) ∷ [];
  });
}

abbrev alone : PlainModule → PlainSource
alone m = record { externals = []; modules = m ∷ [] }

abbrev both : List PlainAssign
both = to_number (codes "a") 0 ∷ to_number (codes "b") 0 ∷ []

-- both registers are set to 0
known_reset : IsReset (alone (swapping 0 (codes "b")))
known_reset = All-cons HasReset (swapping 0 (codes "b")) [] (record { zeros = zeros; registers = registers }) (All-nil HasReset) where
  zeros : All IsZero both
  zeros = All-cons IsZero (to_number (codes "a") 0) (to_number (codes "b") 0 ∷ []) (of_width 4 0, refl, refl) (All-cons IsZero (to_number (codes "b") 0) [] (of_width 4 0, refl, refl) (All-nil IsZero))

  registers : All (IsSetAmong both) (RegisterOf (codes "a") 4 ∷ RegisterOf (codes "b") 4 ∷ [])
  registers =
      All-cons (IsSetAmong both) (RegisterOf (codes "a") 4) (RegisterOf (codes "b") 4 ∷ []) refl
      (All-cons (IsSetAmong both) (RegisterOf (codes "b") 4) [] refl (All-nil (IsSetAmong both)))

-- b is left out, so the source has no reset
known_left_out : IsReset (alone (swapping 0 (codes "a"))) → ⊥
known_left_out is =
    let has : HasReset (swapping 0 (codes "a")) = All-head HasReset (swapping 0 (codes "a")) [] is in
    let some = has.registers 1 (RegisterOf (codes "b") 4) (omega arith) in
    absurd (cc)

-- a is set to 7
known_seven : IsReset (alone (swapping 7 (codes "b"))) → ⊥
known_seven is =
    let has : HasReset (swapping 7 (codes "b")) = All-head HasReset (swapping 7 (codes "b")) [] is in
    let z = All-head IsZero (to_number (codes "a") 7) (to_number (codes "b") 0 ∷ []) has.zeros in
    absurd (cc)

-- a power-up state: a is 9 and b is 31, which has more of_width than b
abbrev power : State
power = record { register = λ i name. if same_name name (codes "a") then 9 else 31; word = λ i name index. 5 }

-- whatever go is and whatever stands on the nets, both are 0 behind the edge with reset, and words are as they were
known_after : (go : ℕ) (look : Look)
    → let s : State = after_power (alone (swapping 0 (codes "b"))) go look power in (s.register 0 (codes "a") ≡ 0) × (s.register 0 (codes "b") ≡ 0) × (s.word 0 (codes "c") 1 ≡ 5)
known_after go look = (refl, refl, refl)

-- what is left out stays as it was
known_stays : (go : ℕ) (look : Look) → (after_power (alone (swapping 0 (codes "a"))) go look power).register 0 (codes "b") ≡ 31
known_stays go look = refl
