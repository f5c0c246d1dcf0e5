-- What the nets of a divider are worth in one cycle.
use Rattle.std.specs.Prelude.{◌≡◌, ℕ, ◌+◌, ◌-◌, ◌%◌, ◌^◌, ◌==◌, ◌&&◌, Bool, true, false, List, [], ◌∷◌, Some, if◌then◌else◌, codes, refl}
use Rattle.std.proofs.Common.{subst, arith, ap, ◌∙◌}
use Rattle.cx_bits.specs.Operators.{bit_of}
use Rattle.cx_prim.specs.Widths.{IsWidth}
use Rattle.cx_prim.specs.PipeRows.{divider_row}
use Rattle.cx_vtree.specs.Plain.{PlainModule}
use Rattle.cx_vtree.specs.InstanceTree.{Placed}
use Rattle.cx_vtree.specs.Meaning.{Moment, HasValue}
use Rattle.cx_vmods.specs.Spelling.{spelled}
use Rattle.cx_vmods.specs.Parts.{made_of, with_piece}
use Rattle.cx_vmods.specs.BitCounts.{bits_for}
use Rattle.cx_vmods.specs.Clocked as clocked
use Rattle.cx_vmods.specs.Modules.{ports_of, module_with}
use Rattle.cx_vmods.specs.Built.{kept_at, Stands}
use Rattle.cx_vmods.specs.Inside.{Known, known, AreKnown, value_in}
use Rattle.cx_bits.specs.BitVector.{of_width}
use Rattle.cx_vmods.proofs.InsideLemmas.{none_known, also_known, has_by}
use Rattle.cx_vmods.proofs.InputLemmas.{register_has}
use Rattle.cx_vmods.proofs.DividingLemmas.{longer_at, takes_number, takes_at, rest_after, digits_after, takes_bit}

-- the module of a divider
abbrev pub divider_at : List ℕ → ℕ → PlainModule
divider_at name w = module_with name (ports_of (divider_row w)) (made_of (clocked.divider w))

-- the values of the registers, and what stands at the inputs
pub record Values : Type 0 where
  pub count : ℕ
  pub done : Bool
  pub rest : ℕ
  pub digits : ℕ
  pub divisor : ℕ
  pub quotient : ℕ
  pub remainder : ℕ

-- what stands at the inputs in a cycle
pub record Given : Type 0 where
  pub go : Bool
  pub left : ℕ
  pub right : ℕ

-- what the nets of a cycle are worth
abbrev pub ends : ℕ → Values → Bool
ends w v = v.count == (w - 1) % 2 ^ bits_for w

-- no cycle was counted
abbrev pub starts : ℕ → Values → Bool
starts w v = v.count == 0 % 2 ^ bits_for w

-- the remainder so far
abbrev pub rest_now : ℕ → Values → ℕ
rest_now w v = if starts w v then 0 % 2 ^ w else v.rest

-- the bits that are left above those of the quotient
abbrev pub digits_now : ℕ → Given → Values → ℕ
digits_now w g v = if starts w v then g.left else v.digits

-- the divisor
abbrev pub divisor_now : ℕ → Given → Values → ℕ
divisor_now w g v = if starts w v then g.right else v.divisor

-- the remainder with one more bit
abbrev pub longer : ℕ → Given → Values → ℕ
longer w g v = longer_at w (rest_now w v) (digits_now w g v)

-- the divisor goes into it
abbrev pub takes : ℕ → Given → Values → Bool
takes w g v = takes_at w (rest_now w v) (longer w g v) (divisor_now w g v)

-- the remainder after it
abbrev pub rest_next : ℕ → Given → Values → ℕ
rest_next w g v = rest_after w (longer w g v) (divisor_now w g v) (takes w g v)

-- the bits after it
abbrev pub digits_next : ℕ → Given → Values → ℕ
digits_next w g v = digits_after w (digits_now w g v) (takes w g v)

-- all nets in their order
abbrev pub all_nets : ℕ → Given → Values → List Known
all_nets w g v =
    known (spelled (codes "go")) 1 (bit_of g.go).value ∷ known (spelled (codes "left")) w g.left ∷ known (spelled (codes "right")) w g.right
    ∷ known (spelled (codes "out_quotient")) w v.quotient ∷ known (spelled (codes "out_remainder")) w v.remainder ∷ known (spelled (codes "done")) 1 (bit_of v.done).value
    ∷ known (spelled (codes "ends")) 1 (bit_of (ends w v)).value ∷ known (spelled (codes "finishes")) 1 (bit_of (g.go && ends w v)).value
    ∷ known (spelled (codes "count")) (bits_for w) v.count ∷ known (spelled (codes "finished")) 1 (bit_of v.done).value ∷ known (spelled (codes "starts")) 1 (bit_of (starts w v)).value
    ∷ known (spelled (codes "rest_now")) w (rest_now w v) ∷ known (spelled (codes "digits_now")) w (digits_now w g v) ∷ known (spelled (codes "divisor_now")) w (divisor_now w g v)
    ∷ known (spelled (codes "longer")) w (longer w g v) ∷ known (spelled (codes "takes")) 1 (bit_of (takes w g v)).value
    ∷ known (spelled (codes "rest_next")) w (rest_next w g v) ∷ known (spelled (codes "digits_next")) w (digits_next w g v)
    ∷ known (spelled (codes "rest")) w v.rest ∷ known (spelled (codes "digits")) w v.digits ∷ known (spelled (codes "divisor")) w v.divisor
    ∷ known (spelled (codes "quotient")) w v.quotient ∷ known (spelled (codes "remainder")) w v.remainder ∷ []

-- what stands at the inputs has its value
pub record AreThere (w : ℕ) (tree : List Placed) (now : Moment) (j : ℕ) (g : Given) : Type 0 where
  pub go : HasValue tree now j (spelled (codes "go")) (bit_of g.go)
  pub left : HasValue tree now j (spelled (codes "left")) (of_width w g.left)
  pub right : HasValue tree now j (spelled (codes "right")) (of_width w g.right)

-- the registers of an instance have these values
pub record AreHeld (tree : List Placed) (now : Moment) (j : ℕ) (v : Values) : Type 0 where
  pub count : now.state.register j (spelled (codes "count")) ≡ v.count
  pub finished : now.state.register j (spelled (codes "finished")) ≡ (bit_of v.done).value
  pub rest : now.state.register j (spelled (codes "rest")) ≡ v.rest
  pub digits : now.state.register j (spelled (codes "digits")) ≡ v.digits
  pub divisor : now.state.register j (spelled (codes "divisor")) ≡ v.divisor
  pub quotient : now.state.register j (spelled (codes "quotient")) ≡ v.quotient
  pub remainder : now.state.register j (spelled (codes "remainder")) ≡ v.remainder

module _ (name : List ℕ) (w : ℕ) (tree : List Placed) (now : Moment) (j : ℕ) (v : Values) (stands : Stands (divider_at name w) tree j) (held : AreHeld tree now j v) where
  pub count_has : HasValue tree now j (spelled (codes "count")) (of_width (bits_for w) v.count)
  unfolding spelled with_piece clocked.divider
  count_has = register_has (spelled (codes "count")) (bits_for w) v.count stands refl held.count

  pub finished_has : HasValue tree now j (spelled (codes "finished")) (bit_of v.done)
  unfolding spelled with_piece clocked.divider
  finished_has = register_has (spelled (codes "finished")) 1 (bit_of v.done).value stands refl held.finished

  pub rest_has : HasValue tree now j (spelled (codes "rest")) (of_width w v.rest)
  unfolding spelled with_piece clocked.divider
  rest_has = register_has (spelled (codes "rest")) w v.rest stands refl held.rest

  pub digits_has : HasValue tree now j (spelled (codes "digits")) (of_width w v.digits)
  unfolding spelled with_piece clocked.divider
  digits_has = register_has (spelled (codes "digits")) w v.digits stands refl held.digits

  pub divisor_has : HasValue tree now j (spelled (codes "divisor")) (of_width w v.divisor)
  unfolding spelled with_piece clocked.divider
  divisor_has = register_has (spelled (codes "divisor")) w v.divisor stands refl held.divisor

  pub quotient_has : HasValue tree now j (spelled (codes "quotient")) (of_width w v.quotient)
  unfolding spelled with_piece clocked.divider
  quotient_has = register_has (spelled (codes "quotient")) w v.quotient stands refl held.quotient

  pub remainder_has : HasValue tree now j (spelled (codes "remainder")) (of_width w v.remainder)
  unfolding spelled with_piece clocked.divider
  remainder_has = register_has (spelled (codes "remainder")) w v.remainder stands refl held.remainder

  pub out_quotient_has : HasValue tree now j (spelled (codes "out_quotient")) (of_width w v.quotient)
  unfolding spelled with_piece clocked.divider
  out_quotient_has = has_by stands (also_known (known (spelled (codes "quotient")) w v.quotient) quotient_has none_known) refl

  pub out_remainder_has : HasValue tree now j (spelled (codes "out_remainder")) (of_width w v.remainder)
  unfolding spelled with_piece clocked.divider
  out_remainder_has = has_by stands (also_known (known (spelled (codes "remainder")) w v.remainder) remainder_has none_known) refl

  pub done_has : HasValue tree now j (spelled (codes "done")) (bit_of v.done)
  unfolding spelled with_piece clocked.divider
  done_has = has_by stands (also_known (known (spelled (codes "finished")) 1 (bit_of v.done).value) finished_has none_known) refl

  pub ends_has : HasValue tree now j (spelled (codes "ends")) (bit_of (ends w v))
  unfolding spelled with_piece clocked.divider
  ends_has = has_by stands (also_known (known (spelled (codes "count")) (bits_for w) v.count) count_has none_known) refl

  pub starts_has : HasValue tree now j (spelled (codes "starts")) (bit_of (starts w v))
  unfolding spelled with_piece clocked.divider
  starts_has = has_by stands (also_known (known (spelled (codes "count")) (bits_for w) v.count) count_has none_known) refl

  pub rest_now_has : HasValue tree now j (spelled (codes "rest_now")) (of_width w (rest_now w v))
  unfolding spelled with_piece clocked.divider
  rest_now_has =
      has_by stands (also_known (known (spelled (codes "starts")) 1 (bit_of (starts w v)).value) starts_has (also_known (known (spelled (codes "rest")) w v.rest) rest_has none_known)) (by (starts w v))
    where
      by : (s : Bool) → value_in (divider_at name w) (kept_at now.state j) (known (spelled (codes "starts")) 1 (bit_of s).value ∷ known (spelled (codes "rest")) w v.rest ∷ []) (spelled (codes "rest_now")) ≡ Some (of_width w (if s then 0 % 2 ^ w else v.rest))
      by true = refl
      by false = refl

  module _ (ok : IsWidth w) (g : Given) (there : AreThere w tree now j g) where
    pub finishes_has : HasValue tree now j (spelled (codes "finishes")) (bit_of (g.go && ends w v))
    unfolding spelled with_piece clocked.divider
    finishes_has =
        has_by stands (also_known (known (spelled (codes "go")) 1 (bit_of g.go).value) there.go (also_known (known (spelled (codes "ends")) 1 (bit_of (ends w v)).value) ends_has none_known)) (by g.go (ends w v))
      where
        by : (t u : Bool) → value_in (divider_at name w) (kept_at now.state j) (known (spelled (codes "go")) 1 (bit_of t).value ∷ known (spelled (codes "ends")) 1 (bit_of u).value ∷ []) (spelled (codes "finishes")) ≡ Some (bit_of (t && u))
        by true true = refl
        by true false = refl
        by false true = refl
        by false false = refl

    pub digits_now_has : HasValue tree now j (spelled (codes "digits_now")) (of_width w (digits_now w g v))
    unfolding spelled with_piece clocked.divider
    digits_now_has =
        has_by stands
        (also_known (known (spelled (codes "starts")) 1 (bit_of (starts w v)).value) starts_has (also_known (known (spelled (codes "left")) w g.left) there.left (also_known (known (spelled (codes "digits")) w v.digits) digits_has none_known)))
        (by (starts w v))
      where
        by : (s : Bool) → value_in (divider_at name w) (kept_at now.state j) (known (spelled (codes "starts")) 1 (bit_of s).value ∷ known (spelled (codes "left")) w g.left ∷ known (spelled (codes "digits")) w v.digits ∷ []) (spelled (codes "digits_now"))
            ≡ Some (of_width w (if s then g.left else v.digits))
        by true = refl
        by false = refl

    pub divisor_now_has : HasValue tree now j (spelled (codes "divisor_now")) (of_width w (divisor_now w g v))
    unfolding spelled with_piece clocked.divider
    divisor_now_has =
        has_by stands
        (also_known (known (spelled (codes "starts")) 1 (bit_of (starts w v)).value) starts_has (also_known (known (spelled (codes "right")) w g.right) there.right (also_known (known (spelled (codes "divisor")) w v.divisor) divisor_has none_known)))
        (by (starts w v))
      where
        by : (s : Bool) → value_in (divider_at name w) (kept_at now.state j) (known (spelled (codes "starts")) 1 (bit_of s).value ∷ known (spelled (codes "right")) w g.right ∷ known (spelled (codes "divisor")) w v.divisor ∷ []) (spelled (codes "divisor_now"))
            ≡ Some (of_width w (if s then g.right else v.divisor))
        by true = refl
        by false = refl

    pub longer_has : HasValue tree now j (spelled (codes "longer")) (of_width w (longer w g v))
    unfolding spelled with_piece clocked.divider
    longer_has =
        has_by stands (also_known (known (spelled (codes "rest_now")) w (rest_now w v)) rest_now_has (also_known (known (spelled (codes "digits_now")) w (digits_now w g v)) digits_now_has none_known)) refl

    pub takes_has : HasValue tree now j (spelled (codes "takes")) (bit_of (takes w g v))
    unfolding spelled with_piece clocked.divider
    takes_has =
        let some = ok.some_bits in
        let lone : w - 1 + 1 - (w - 1) ≡ 1 = omega arith in
        let number = takes_number w (rest_now w v) (longer w g v) (divisor_now w g v) in
        let raw : HasValue tree now j (spelled (codes "takes")) (of_width (w - 1 + 1 - (w - 1)) number) =
        has_by stands
        (also_known (known (spelled (codes "rest_now")) w (rest_now w v)) rest_now_has
        (also_known (known (spelled (codes "longer")) w (longer w g v)) longer_has (also_known (known (spelled (codes "divisor_now")) w (divisor_now w g v)) divisor_now_has none_known))) refl in
        subst (HasValue tree now j (spelled (codes "takes")))
        (ap (λ (k : ℕ). of_width k number) lone ∙ ap (of_width 1) (takes_bit w (rest_now w v) (longer w g v) (divisor_now w g v) some)) raw

    pub rest_next_has : HasValue tree now j (spelled (codes "rest_next")) (of_width w (rest_next w g v))
    unfolding spelled with_piece clocked.divider
    rest_next_has =
        has_by stands
        (also_known (known (spelled (codes "takes")) 1 (bit_of (takes w g v)).value) takes_has
        (also_known (known (spelled (codes "longer")) w (longer w g v)) longer_has (also_known (known (spelled (codes "divisor_now")) w (divisor_now w g v)) divisor_now_has none_known)))
        (by (takes w g v))
      where
        by : (t : Bool) → value_in (divider_at name w) (kept_at now.state j)
            (known (spelled (codes "takes")) 1 (bit_of t).value ∷ known (spelled (codes "longer")) w (longer w g v) ∷ known (spelled (codes "divisor_now")) w (divisor_now w g v) ∷ []) (spelled (codes "rest_next"))
            ≡ Some (of_width w (rest_after w (longer w g v) (divisor_now w g v) t))
        by true = refl
        by false = refl

    pub digits_next_has : HasValue tree now j (spelled (codes "digits_next")) (of_width w (digits_next w g v))
    unfolding spelled with_piece clocked.divider
    digits_next_has =
        has_by stands
        (also_known (known (spelled (codes "takes")) 1 (bit_of (takes w g v)).value) takes_has (also_known (known (spelled (codes "digits_now")) w (digits_now w g v)) digits_now_has none_known))
        (by (takes w g v))
      where
        by : (t : Bool) → value_in (divider_at name w) (kept_at now.state j) (known (spelled (codes "takes")) 1 (bit_of t).value ∷ known (spelled (codes "digits_now")) w (digits_now w g v) ∷ []) (spelled (codes "digits_next"))
            ≡ Some (of_width w (digits_after w (digits_now w g v) t))
        by true = refl
        by false = refl

    pub nets_known : AreKnown tree now j (all_nets w g v)
    nets_known =
        also_known (known (spelled (codes "go")) 1 (bit_of g.go).value) there.go
        (also_known (known (spelled (codes "left")) w g.left) there.left
        (also_known (known (spelled (codes "right")) w g.right) there.right
        (also_known (known (spelled (codes "out_quotient")) w v.quotient) out_quotient_has
        (also_known (known (spelled (codes "out_remainder")) w v.remainder) out_remainder_has
        (also_known (known (spelled (codes "done")) 1 (bit_of v.done).value) done_has
        (also_known (known (spelled (codes "ends")) 1 (bit_of (ends w v)).value) ends_has
        (also_known (known (spelled (codes "finishes")) 1 (bit_of (g.go && ends w v)).value) finishes_has
        (also_known (known (spelled (codes "count")) (bits_for w) v.count) count_has
        (also_known (known (spelled (codes "finished")) 1 (bit_of v.done).value) finished_has
        (also_known (known (spelled (codes "starts")) 1 (bit_of (starts w v)).value) starts_has
        (also_known (known (spelled (codes "rest_now")) w (rest_now w v)) rest_now_has
        (also_known (known (spelled (codes "digits_now")) w (digits_now w g v)) digits_now_has
        (also_known (known (spelled (codes "divisor_now")) w (divisor_now w g v)) divisor_now_has
        (also_known (known (spelled (codes "longer")) w (longer w g v)) longer_has
        (also_known (known (spelled (codes "takes")) 1 (bit_of (takes w g v)).value) takes_has
        (also_known (known (spelled (codes "rest_next")) w (rest_next w g v)) rest_next_has
        (also_known (known (spelled (codes "digits_next")) w (digits_next w g v)) digits_next_has
        (also_known (known (spelled (codes "rest")) w v.rest) rest_has
        (also_known (known (spelled (codes "digits")) w v.digits) digits_has
        (also_known (known (spelled (codes "divisor")) w v.divisor) divisor_has
        (also_known (known (spelled (codes "quotient")) w v.quotient) quotient_has
        (also_known (known (spelled (codes "remainder")) w v.remainder) remainder_has none_known))))))))))))))))))))))
