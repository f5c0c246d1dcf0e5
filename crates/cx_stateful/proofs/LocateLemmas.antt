-- The walk over the dimensions of a memory: how far it has come, and where it ends.
use Rattle.std.specs.Prelude.{◌≡◌, ℕ, zero, suc, ◌+◌, ◌-◌, ◌*◌, ◌<◌, ◌≤◌, ◌^◌, ◌==◌, ◌&&◌, Bool, true, false, List, [], ◌∷◌, Option, Some, None, is_some, is_none, nat_lt, nat_le, slice_index, length, drop, if◌then◌else◌, refl}
use Rattle.std.specs.List.{list_all}
use Rattle.std.proofs.Common.{ap, sym, ◌∙◌, subst, arith, drop-cons, add-one}
use Rattle.std.proofs.Math.Nat.{mul_assoc, add-mul, mul-le-mul_right, le-mul_of_pos_right}
use Rattle.std.proofs.lemmas.Bool.{ltb-true}
use Rattle.std.proofs.lemmas.Bool.Decides.{nat_tests}
use Rattle.cx_text.specs.Loading.{word_count}
use Rattle.cx_bits.specs.BitVector.{BitVector}
use Rattle.cx_prim.specs.Rows.{Inputs, input, value_at}
use Rattle.cx_prim.specs.MemoryRows.{are_sizes, first_beyond, have_addresses, word_number}
use Rattle.cx_text.proofs.LoadingLemmas.{word_count_positive}
use Rattle.cx_text.proofs.BoolLaws.{and_left, and_right}

-- the first dimensions are done: `number` is the number of what their addresses name
pub record IsLocating (sizes : List ℕ) (inputs : Inputs) (port number : ℕ) : Type 0 where
  pub beyond : first_beyond (drop port sizes) port inputs ≡ first_beyond sizes 0 inputs
  pub word : number * word_count (drop port sizes) + word_number (drop port sizes) port inputs ≡ word_number sizes 0 inputs
  pub within : (number + 1) * word_count (drop port sizes) ≤ word_count sizes

-- one dimension of the rest
one_more_word : (number size address count rest : ℕ) → number * (size * count) + (address * count + rest) ≡ (number * size + address) * count + rest
one_more_word number size address count rest =
    let product = mul_assoc number size count in let sum = add-mul (number * size) address count in omega (arith, product, sum)

one_more_within : (number size address count total : ℕ) → address < size → (number + 1) * (size * count) ≤ total → (number * size + address + 1) * count ≤ total
one_more_within number size address count total below within =
    let product : (number + 1) * size * count ≡ (number + 1) * (size * count) = mul_assoc (number + 1) size count in
    let row : (number + 1) * size ≡ number * size + 1 * size = add-mul number 1 size in
    let few : number * size + address + 1 ≤ (number + 1) * size = omega (arith, row) in
    let grown : (number * size + address + 1) * count ≤ (number + 1) * size * count = mul-le-mul_right count few in
    omega (arith, product, grown)

next_at : (sizes rest : List ℕ) (inputs : Inputs) (port number size : ℕ) → value_at inputs port < size
    → first_beyond (size ∷ rest) port inputs ≡ first_beyond sizes 0 inputs
    → number * word_count (size ∷ rest) + word_number (size ∷ rest) port inputs ≡ word_number sizes 0 inputs
    → (number + 1) * word_count (size ∷ rest) ≤ word_count sizes
    → (first_beyond rest (port + 1) inputs ≡ first_beyond sizes 0 inputs)
    × ((number * size + value_at inputs port) * word_count rest + word_number rest (port + 1) inputs ≡ word_number sizes 0 inputs)
    × ((number * size + value_at inputs port + 1) * word_count rest ≤ word_count sizes)
next_at sizes rest inputs port number size below beyond word within = (
  sym (ap (λ (b : Bool). if b then first_beyond rest (port + 1) inputs else Some port) test) ∙ beyond,
  sym (one_more_word number size (value_at inputs port) (word_count rest) (word_number rest (port + 1) inputs)) ∙ word,
  one_more_within number size (value_at inputs port) (word_count rest) (word_count sizes) below within,
)
  where
    test : nat_lt (value_at inputs port) size ≡ true
    test = grind (arith, nat_tests)

pub split_at : (sizes : List ℕ) (port : ℕ) → port < length sizes → drop port sizes ≡ slice_index sizes port ∷ drop (port + 1) sizes
split_at sizes port there = drop-cons sizes port 0 there ∙ ap (λ (k : ℕ). slice_index sizes port ∷ drop k sizes) (sym (add-one port))

pub IsLocating-next : (sizes : List ℕ) (inputs : Inputs) (port number : ℕ) → port < length sizes → value_at inputs port < slice_index sizes port → IsLocating sizes inputs port number
    → IsLocating sizes inputs (port + 1) (number * slice_index sizes port + value_at inputs port)
IsLocating-next sizes inputs port number there below far =
    let split = split_at sizes port there in
    let next = next_at sizes (drop (port + 1) sizes) inputs port number (slice_index sizes port) below
    (sym (ap (λ (rest : List ℕ). first_beyond rest port inputs) split) ∙ far.beyond)
    (sym (ap (λ (rest : List ℕ). number * word_count rest + word_number rest port inputs) split) ∙ far.word)
    (subst (λ (rest : List ℕ). (number + 1) * word_count rest ≤ word_count sizes) split far.within) in
    record { beyond = next.0; word = next.1; within = next.2 }

pub list_all-drop : (test : ℕ → Bool) (xs : List ℕ) (n : ℕ) → list_all test xs ≡ true → list_all test (drop n xs) ≡ true
list_all-drop test [] zero all = refl
list_all-drop test [] (suc n) all = refl
list_all-drop test (x ∷ xs) zero all = all
list_all-drop test (x ∷ xs) (suc n) all = list_all-drop test xs n (and_right (test x) (list_all test xs) all)

-- what has been found is below the number of words
pub IsLocating-below : (sizes : List ℕ) (inputs : Inputs) (port number : ℕ) → are_sizes sizes ≡ true → IsLocating sizes inputs port number → number < word_count sizes
IsLocating-below sizes inputs port number sized far =
    let positive = word_count_positive (drop port sizes) (list_all-drop (λ size. nat_le 1 size) sizes port (and_left _ _ sized)) in
    let grows : number + 1 ≤ (number + 1) * word_count (drop port sizes) = le-mul_of_pos_right (number + 1) positive in
    omega (arith, grows, far.within)

pub sizes_few : (sizes : List ℕ) → are_sizes sizes ≡ true → word_count sizes < 2 ^ 32
sizes_few sizes sized = ltb-true (word_count sizes) (2 ^ 32) (and_right (list_all (λ size. nat_le 1 size) sizes) _ sized)

-- whether values stand at the first addresses, as far as the walk has come
pub have_addresses-at : (sizes : List ℕ) (inputs : Inputs) (port : ℕ) → port < length sizes → have_addresses (drop port sizes) port inputs ≡ (is_some (input inputs port) && have_addresses (drop (port + 1) sizes) (port + 1) inputs)
have_addresses-at sizes inputs port there = ap (λ (rest : List ℕ). have_addresses rest port inputs) (split_at sizes port there)

pub have_addresses-step : (sizes : List ℕ) (inputs : Inputs) (port : ℕ) → port < length sizes → is_some (input inputs port) ≡ true → have_addresses (drop port sizes) port inputs ≡ have_addresses (drop (port + 1) sizes) (port + 1) inputs
have_addresses-step sizes inputs port there some = have_addresses-at sizes inputs port there ∙ ap (λ (b : Bool). b && have_addresses (drop (port + 1) sizes) (port + 1) inputs) some

pub have_addresses-missing : (sizes : List ℕ) (inputs : Inputs) (port : ℕ) → port < length sizes → is_some (input inputs port) ≡ false → have_addresses (drop port sizes) port inputs ≡ false
have_addresses-missing sizes inputs port there none = have_addresses-at sizes inputs port there ∙ ap (λ (b : Bool). b && have_addresses (drop (port + 1) sizes) (port + 1) inputs) none
