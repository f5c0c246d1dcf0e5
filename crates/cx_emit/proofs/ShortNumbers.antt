-- The numbers of a primitive, each behind `_`: few bytes.
use Rattle.std.proofs.Common.{◌≡◌, ℕ, suc, ◌+◌, ◌*◌, ◌^◌, ◌<◌, ◌≤◌, ◌==◌, ◌&&◌, true, false, List, [], ◌∷◌, ◌++◌, length, length-append, subst, arith}
use Rattle.std.specs.Prelude.{decimal, IsSome, nat_le, nat_lt, take, drop}
use Rattle.std.specs.List.{list_all}
use Rattle.std.proofs.Math.Nat.{pow-le-pow_right}
use Rattle.std.proofs.lemmas.Bool.{leb-true, ltb-true, eqb-true}
use Rattle.std.proofs.lemmas.Fmt.{length-decimal-le_wide}
use Rattle.std.proofs.lemmas.List.{length-take, length-drop, take-append-drop}
use Rattle.std.proofs.lemmas.Nat.{mul-le}
use Rattle.cx_text.specs.Members.{Each}
use Rattle.cx_text.specs.Loading.{word_count}
use Rattle.cx_prim.specs.declared.names.PrimitiveName.{PrimitiveName}
use Rattle.cx_prim.specs.declared.names.PrimitiveName.TheVariants.{Const, Wire, Add, Sub, And, Or, Xor, Not, Lsh, Rsh, Lt, Gt, Equal, Neq, Le, Ge, Slt, Sgt, Seq, Sneq, Sle, Sge, Slice, Pad, Mux, Reg, StdMemD1, StdMemD2, StdMemD3, StdMemD4, CombMemD1, CombMemD2, CombMemD3, CombMemD4, SeqMemD1, SeqMemD2, SeqMemD3, SeqMemD4, MultPipe, DivPipe, Timer}
use Rattle.cx_prim.specs.Widths.{is_width}
use Rattle.cx_prim.specs.Rows.{Row}
use Rattle.cx_prim.specs.MemoryRows.{are_sizes, is_address_width, memory_row, sequential_memory_row}
use Rattle.cx_prim.specs.Table.{PrimitiveRow, HasRow, at_width, constant_at, slice_at, pad_at, memory_at, timer_at, row_at}
use Rattle.cx_prim.proofs.TableCases.{is_width_tells}
use Rattle.cx_emit.specs.Names.{joined_numbers}
use Rattle.cx_text.proofs.BoolLaws.{and_left, and_right}
use Rattle.cx_vmods.proofs.NumberLemmas.{tested}

-- numbers of at most 39 digits, in so many bytes
pub record AreShort (bytes : ℕ) (ns : List ℕ) : Type 0 where
  pub small : Each (λ n. n < 10 ^ 64) ns
  pub short : length (joined_numbers ns) ≤ bytes

no_numbers : AreShort 0 []
no_numbers = record { small = tt; short = omega arith }

one_more : (k n bytes : ℕ) (ns : List ℕ) → 0 < k → n < 10 ^ k → n < 10 ^ 64 → AreShort bytes ns → AreShort (suc k + bytes) (n ∷ ns)
one_more k n bytes ns some few small h =
    let own = length-decimal-le_wide k n some few small in
    let whole = length-append (decimal n) (joined_numbers ns) in
    let rest = h.short in
    record { small = (small, h.small); short = omega (arith, own, whole, rest) }

no_more : (bytes more : ℕ) (ns : List ℕ) → bytes ≤ more → AreShort bytes ns → AreShort more ns
no_more bytes more ns less h = let own = h.short in record { small = h.small; short = omega (arith, own, less) }

both_few : (bytes more : ℕ) (ns ms : List ℕ) → AreShort bytes ns → AreShort more ms → AreShort (bytes + more) (ns ++ ms)
both_few bytes more [] ms h k = no_more more (bytes + more) ms (omega arith) k
both_few bytes more (n ∷ ns) ms h k =
    let rest = both_few (length (joined_numbers ns)) more ns ms (record { small = h.small.1; short = omega arith }) k in
    let all = rest.short in
    let own = h.short in
    let front = length-append (decimal n) (joined_numbers ns) in
    let whole = length-append (decimal n) (joined_numbers (ns ++ ms)) in
    record { small = (h.small.0, rest.small); short = omega (arith, all, own, front, whole) }

-- WIDTHS
a_width : (w bytes : ℕ) (ns : List ℕ) → is_width w ≡ true → AreShort bytes ns → AreShort (4 + bytes) (w ∷ ns)
a_width w bytes ns test h = let few = (is_width_tells w test).few_bits in one_more 3 w bytes ns (omega arith) (omega (arith, few)) (omega (arith, few)) h

width_few : (make : ℕ → Row) (numbers : List ℕ) → IsSome (at_width make numbers) → AreShort 60 numbers
width_few make [] there = absurd (let wrong : false ≡ true = there in cc)
width_few make (w ∷ []) there = no_more 4 60 (w ∷ []) (omega arith) (a_width w 0 [] (tested (is_width w) (make w) there) no_numbers)
width_few make (w ∷ v ∷ rest) there = absurd (let wrong : false ≡ true = there in cc)

const_few : (numbers : List ℕ) → IsSome (constant_at numbers) → AreShort 60 numbers
const_few [] there = absurd (let wrong : false ≡ true = there in cc)
const_few (w ∷ []) there = absurd (let wrong : false ≡ true = there in cc)
const_few (w ∷ v ∷ []) there =
    let test = tested (is_width w && nat_lt v (2 ^ w)) _ there in
    let width = and_left (is_width w) (nat_lt v (2 ^ w)) test in
    let below : v < 2 ^ w = ltb-true v (2 ^ w) (and_right (is_width w) (nat_lt v (2 ^ w)) test) in
    let few = (is_width_tells w width).few_bits in
    let two : 0 < 2 = omega arith in
    let grows : 2 ^ w ≤ 2 ^ 128 = pow-le-pow_right two few in
    no_more 44 60 (w ∷ v ∷ []) (omega arith) (a_width w 40 (v ∷ []) width (one_more 39 v 0 [] (omega arith) (omega (arith, below, grows)) (omega (arith, below, grows)) no_numbers))
const_few (w ∷ v ∷ x ∷ rest) there = absurd (let wrong : false ≡ true = there in cc)

two_widths : (w v : ℕ) → is_width w ≡ true → is_width v ≡ true → AreShort 60 (w ∷ v ∷ [])
two_widths w v one other = no_more 8 60 (w ∷ v ∷ []) (omega arith) (a_width w 4 (v ∷ []) one (a_width v 0 [] other no_numbers))

slice_few : (numbers : List ℕ) → IsSome (slice_at numbers) → AreShort 60 numbers
slice_few [] there = absurd (let wrong : false ≡ true = there in cc)
slice_few (w ∷ []) there = absurd (let wrong : false ≡ true = there in cc)
slice_few (w ∷ v ∷ []) there =
    let widths = and_left (is_width w && is_width v) (nat_le v w) (tested ((is_width w && is_width v) && nat_le v w) _ there) in
    two_widths w v (and_left (is_width w) (is_width v) widths) (and_right (is_width w) (is_width v) widths)
slice_few (w ∷ v ∷ x ∷ rest) there = absurd (let wrong : false ≡ true = there in cc)

pad_few : (numbers : List ℕ) → IsSome (pad_at numbers) → AreShort 60 numbers
pad_few [] there = absurd (let wrong : false ≡ true = there in cc)
pad_few (w ∷ []) there = absurd (let wrong : false ≡ true = there in cc)
pad_few (w ∷ v ∷ []) there =
    let widths = and_left (is_width w && is_width v) (nat_le w v) (tested ((is_width w && is_width v) && nat_le w v) _ there) in
    two_widths w v (and_left (is_width w) (is_width v) widths) (and_right (is_width w) (is_width v) widths)
pad_few (w ∷ v ∷ x ∷ rest) there = absurd (let wrong : false ≡ true = there in cc)

timer_few : (numbers : List ℕ) → IsSome (timer_at numbers) → AreShort 60 numbers
timer_few [] there = absurd (let wrong : false ≡ true = there in cc)
timer_few (n ∷ []) there =
    let below : n < 2 ^ 32 = ltb-true n (2 ^ 32) (and_right (nat_le 1 n) (nat_lt n (2 ^ 32)) (tested (nat_le 1 n && nat_lt n (2 ^ 32)) _ there)) in
    no_more 11 60 (n ∷ []) (omega arith) (one_more 10 n 0 [] (omega arith) (omega (arith, below)) (omega (arith, below)) no_numbers)
timer_few (n ∷ x ∷ rest) there = absurd (let wrong : false ≡ true = there in cc)

-- SIZES, whose product is below 2 ^ 32, and address widths
sizes_few : (sizes : List ℕ) → list_all (λ size. nat_le 1 size) sizes ≡ true → word_count sizes < 2 ^ 32 → AreShort (11 * length sizes) sizes × (1 ≤ word_count sizes)
sizes_few [] some few = (no_numbers, omega arith)
sizes_few (n ∷ ns) some few =
    let one : 1 ≤ n = leb-true 1 n (and_left (nat_le 1 n) (list_all (λ size. nat_le 1 size) ns) some) in
    let left : 1 * word_count ns ≤ n * word_count ns = mul-le 1 (word_count ns) n (word_count ns) one (omega arith) in
    let rest = sizes_few ns (and_right (nat_le 1 n) (list_all (λ size. nat_le 1 size) ns) some) (omega (arith, few, left)) in
    let later = rest.1 in
    let right : n * 1 ≤ n * word_count ns = mul-le n 1 n (word_count ns) (omega arith) later in
    (no_more (11 + 11 * length ns) (11 * length (n ∷ ns)) (n ∷ ns) (omega arith) (one_more 10 n (11 * length ns) ns (omega arith) (omega (arith, few, right)) (omega (arith, few, right)) rest.0), omega (arith, one, left, later))

addresses_few : (widths : List ℕ) → list_all is_address_width widths ≡ true → AreShort (3 * length widths) widths
addresses_few [] each = no_numbers
addresses_few (w ∷ ws) each =
    let few : w ≤ 64 = leb-true w 64 (and_right (nat_le 1 w) (nat_le w 64) (and_left (is_address_width w) (list_all is_address_width ws) each)) in
    no_more (3 + 3 * length ws) (3 * length (w ∷ ws)) (w ∷ ws) (omega arith)
    (one_more 2 w (3 * length ws) ws (omega arith) (omega (arith, few)) (omega (arith, few)) (addresses_few ws (and_right (is_address_width w) (list_all is_address_width ws) each)))

memory_few : (d : ℕ) → d ≤ 4 → (make : ℕ → List ℕ → List ℕ → Row) (numbers : List ℕ) → IsSome (memory_at d make numbers) → AreShort 60 numbers
memory_few d few make [] there = absurd (let wrong : false ≡ true = there in cc)
memory_few d few make (w ∷ rest) there =
    let test = tested ((is_width w && (length rest == 2 * d)) && (are_sizes (take d rest) && list_all is_address_width (drop d rest))) _ there in
    let front = and_left (is_width w && (length rest == 2 * d)) (are_sizes (take d rest) && list_all is_address_width (drop d rest)) test in
    let behind = and_right (is_width w && (length rest == 2 * d)) (are_sizes (take d rest) && list_all is_address_width (drop d rest)) test in
    let sized = and_left (are_sizes (take d rest)) (list_all is_address_width (drop d rest)) behind in
    let long : length rest ≡ 2 * d = eqb-true (length rest) (2 * d) (and_right (is_width w) (length rest == 2 * d) front) in
    let taken = length-take d rest in
    let left = length-drop d rest in
    let below : word_count (take d rest) < 2 ^ 32 = ltb-true (word_count (take d rest)) (2 ^ 32) (and_right (list_all (λ size. nat_le 1 size) (take d rest)) (nat_lt (word_count (take d rest)) (2 ^ 32)) sized) in
    let sizes = sizes_few (take d rest) (and_left (list_all (λ size. nat_le 1 size) (take d rest)) (nat_lt (word_count (take d rest)) (2 ^ 32)) sized) below in
    let addresses = addresses_few (drop d rest) (and_right (are_sizes (take d rest)) (list_all is_address_width (drop d rest)) behind) in
    let all : AreShort 56 (take d rest ++ drop d rest) =
    no_more (11 * length (take d rest) + 3 * length (drop d rest)) 56 (take d rest ++ drop d rest) (omega (arith, taken, left, long, few)) (both_few (11 * length (take d rest)) (3 * length (drop d rest)) (take d rest) (drop d rest) sizes.0 addresses) in
    a_width w 56 rest (and_left (is_width w) (length rest == 2 * d) front) (subst (AreShort 56) (take-append-drop d rest) all)

each_few : (name : PrimitiveName) (numbers : List ℕ) → IsSome (row_at name numbers) → AreShort 60 numbers
each_few Const numbers there = const_few numbers there
each_few Wire numbers there = width_few _ numbers there
each_few Add numbers there = width_few _ numbers there
each_few Sub numbers there = width_few _ numbers there
each_few And numbers there = width_few _ numbers there
each_few Or numbers there = width_few _ numbers there
each_few Xor numbers there = width_few _ numbers there
each_few Not numbers there = width_few _ numbers there
each_few Lsh numbers there = width_few _ numbers there
each_few Rsh numbers there = width_few _ numbers there
each_few Lt numbers there = width_few _ numbers there
each_few Gt numbers there = width_few _ numbers there
each_few Equal numbers there = width_few _ numbers there
each_few Neq numbers there = width_few _ numbers there
each_few Le numbers there = width_few _ numbers there
each_few Ge numbers there = width_few _ numbers there
each_few Slt numbers there = width_few _ numbers there
each_few Sgt numbers there = width_few _ numbers there
each_few Seq numbers there = width_few _ numbers there
each_few Sneq numbers there = width_few _ numbers there
each_few Sle numbers there = width_few _ numbers there
each_few Sge numbers there = width_few _ numbers there
each_few Slice numbers there = slice_few numbers there
each_few Pad numbers there = pad_few numbers there
each_few Mux numbers there = width_few _ numbers there
each_few Reg numbers there = width_few _ numbers there
each_few StdMemD1 numbers there = memory_few 1 (omega arith) memory_row numbers there
each_few StdMemD2 numbers there = memory_few 2 (omega arith) memory_row numbers there
each_few StdMemD3 numbers there = memory_few 3 (omega arith) memory_row numbers there
each_few StdMemD4 numbers there = memory_few 4 (omega arith) memory_row numbers there
each_few CombMemD1 numbers there = memory_few 1 (omega arith) memory_row numbers there
each_few CombMemD2 numbers there = memory_few 2 (omega arith) memory_row numbers there
each_few CombMemD3 numbers there = memory_few 3 (omega arith) memory_row numbers there
each_few CombMemD4 numbers there = memory_few 4 (omega arith) memory_row numbers there
each_few SeqMemD1 numbers there = memory_few 1 (omega arith) sequential_memory_row numbers there
each_few SeqMemD2 numbers there = memory_few 2 (omega arith) sequential_memory_row numbers there
each_few SeqMemD3 numbers there = memory_few 3 (omega arith) sequential_memory_row numbers there
each_few SeqMemD4 numbers there = memory_few 4 (omega arith) sequential_memory_row numbers there
each_few MultPipe numbers there = width_few _ numbers there
each_few DivPipe numbers there = width_few _ numbers there
each_few Timer numbers there = timer_few numbers there

-- of each primitive
pub numbers_few : (p : PrimitiveRow) → HasRow p → AreShort 60 p.numbers
numbers_few p has = each_few p.name p.numbers has
