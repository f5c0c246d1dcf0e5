-- The modules of primitives have names, each its own, and none that of a component's module.
use Rattle.std.proofs.Common.{◌≡◌, ℕ, ◌+◌, ◌^◌, ◌<◌, ◌≤◌, ◌&&◌, not, nat_eq, Bool, true, false, List, [], ◌∷◌, ◌++◌, length, length-append, get_or, refl, ap, ap₂, sym, ◌∙◌, if◌then◌else◌, arith, append_assoc}
use Rattle.std.specs.Prelude.{codes, decimal, nat_le}
use Rattle.std.specs.List.{list_all}
use Rattle.std.specs.Str.Parse.{digits_value}
use Rattle.std.proofs.lemmas.Bool.{leb-true, and_from, cond-true, cond-false}
use Rattle.std.proofs.lemmas.Fmt.{decimal_by_steps_wide, decimal_is_IsNumeral_wide}
use Rattle.std.proofs.lemmas.List.{append_cancel_left}
use Rattle.std.proofs.lemmas.List.Folds.{list_all-append}
use Rattle.cx_text.specs.Members.{Each}
use Rattle.cx_prim.specs.PrimitiveNames.{name_text}
use Rattle.cx_prim.specs.declared.names.PrimitiveName.{PrimitiveName}
use Rattle.cx_prim.specs.declared.names.PrimitiveName.TheVariants.{Const, Wire, Add, Sub, And, Or, Xor, Not, Lsh, Rsh, Lt, Gt, Equal, Neq, Le, Ge, Slt, Sgt, Seq, Sneq, Sle, Sge, Slice, Pad, Mux, Reg, StdMemD1, StdMemD2, StdMemD3, StdMemD4, CombMemD1, CombMemD2, CombMemD3, CombMemD4, SeqMemD1, SeqMemD2, SeqMemD3, SeqMemD4, MultPipe, DivPipe, Timer}
use Rattle.cx_prim.specs.Table.{PrimitiveRow, HasRow}
use Rattle.cx_prim.proofs.NameLemmas.{one_name}
use Rattle.cx_vtree.specs.Layout.{is_name_byte, is_name}
use Rattle.cx_emit.specs.Names.{numbered, module_name, joined_numbers, primitive_name}
use Rattle.cx_emit.proofs.NameLaws.{is_digit, one_digit, last_digit, digits_named, name_of}
use Rattle.cx_emit.proofs.ShortNumbers.{numbers_few}
use Rattle.cx_text.proofs.BoolLaws.{and_left, and_right, from_not}

-- a digit comes first
starts_digit : List ℕ → Bool
starts_digit [] = false
starts_digit (c ∷ cs) = is_digit c

abbrev AreSmall : List ℕ → Type 0
AreSmall ns = Each (λ n. n < 10 ^ 64) ns

-- DECIMALS: digits, and at least one
digits : (n : ℕ) → n < 10 ^ 64 → list_all is_digit (decimal n) ≡ true
digits n small = decimal_by_steps_wide (λ m ds. list_all is_digit ds ≡ true) one_digit (λ m ds big h. last_digit m ds h) n small

starts : (n : ℕ) → n < 10 ^ 64 → starts_digit (decimal n) ≡ true
unfolding starts_digit
starts n small = decimal_by_steps_wide (λ m ds. starts_digit ds ≡ true) first (λ m ds big h. more ds _ h) n small where
  first : (m : ℕ) → m < 10 → starts_digit ((48 + m) ∷ []) ≡ true
  first m few = and_left (is_digit (48 + m)) true (one_digit m few)

  more : (ds es : List ℕ) → starts_digit ds ≡ true → starts_digit (ds ++ es) ≡ true
  more [] es h = absurd (cc)
  more (d ∷ ds) es h = h

starts-append : (ds es : List ℕ) → starts_digit ds ≡ true → starts_digit (ds ++ es) ≡ true
unfolding starts_digit
starts-append [] es h = absurd (cc)
starts-append (d ∷ ds) es h = h

same_decimal : (n m : ℕ) → n < 10 ^ 64 → m < 10 ^ 64 → decimal n ≡ decimal m → n ≡ m
same_decimal n m small less same = sym (decimal_is_IsNumeral_wide n small).1 ∙ ap (digits_value 10) same ∙ (decimal_is_IsNumeral_wide m less).1

-- digits up to what begins with none
digits_end : (ds es xs ys : List ℕ) → list_all is_digit ds ≡ true → list_all is_digit es ≡ true → starts_digit xs ≡ false → starts_digit ys ≡ false → ds ++ xs ≡ es ++ ys → (ds ≡ es) × (xs ≡ ys)
unfolding starts_digit
digits_end [] [] xs ys one other none nor same = (refl, same)
digits_end [] (e ∷ es) xs ys one other none nor same = let digit = and_left (is_digit e) (list_all is_digit es) other in let wrong : false ≡ true = sym none ∙ ap starts_digit same ∙ digit in absurd (cc)
digits_end (d ∷ ds) [] xs ys one other none nor same = let digit = and_left (is_digit d) (list_all is_digit ds) one in let wrong : false ≡ true = sym nor ∙ ap starts_digit (sym same) ∙ digit in absurd (cc)
digits_end (d ∷ ds) (e ∷ es) xs ys one other none nor same =
    let rest = digits_end ds es xs ys (and_right (is_digit d) (list_all is_digit ds) one) (and_right (is_digit e) (list_all is_digit es) other) none nor (cc) in
    let first : d ≡ e = cc in
    (ap (λ x. x ∷ ds) first ∙ ap (λ zs. e ∷ zs) rest.0, rest.1)

joined_starts : (ns : List ℕ) → starts_digit (joined_numbers ns) ≡ false
unfolding starts_digit
joined_starts [] = refl
joined_starts (n ∷ ns) = refl

-- numbers behind `_` tell the numbers
same_numbers : (ns ms : List ℕ) → AreSmall ns → AreSmall ms → joined_numbers ns ≡ joined_numbers ms → ns ≡ ms
same_numbers [] [] small less same = refl
same_numbers [] (m ∷ ms) small less same = absurd (cc)
same_numbers (n ∷ ns) [] small less same = absurd (cc)
same_numbers (n ∷ ns) (m ∷ ms) small less same =
    let tails : decimal n ++ joined_numbers ns ≡ decimal m ++ joined_numbers ms = append_cancel_left (codes "_") (decimal n ++ joined_numbers ns) (decimal m ++ joined_numbers ms) same in
    let both = digits_end (decimal n) (decimal m) (joined_numbers ns) (joined_numbers ms) (digits n small.0) (digits m less.0) (joined_starts ns) (joined_starts ms) tails in
    ap (λ k. k ∷ ns) (same_decimal n m small.0 less.0 both.0) ∙ ap (λ ks. m ∷ ks) (same_numbers ns ms small.1 less.1 both.1)

-- WHAT COMES BEFORE the first number
before_number : List ℕ → List ℕ
before_number [] = []
before_number (c ∷ cs) = if nat_eq c 95 && starts_digit cs then [] else c ∷ before_number cs

has_no_number : List ℕ → Bool
has_no_number [] = true
has_no_number (c ∷ cs) = not (nat_eq c 95 && starts_digit cs) && has_no_number cs

text_starts : (cs ns : List ℕ) → starts_digit (cs ++ joined_numbers ns) ≡ starts_digit cs
unfolding starts_digit
text_starts [] ns = joined_starts ns
text_starts (c ∷ cs) ns = refl

before_text : (t ns : List ℕ) → has_no_number t ≡ true → AreSmall ns → before_number (t ++ joined_numbers ns) ≡ t
unfolding before_number has_no_number
before_text [] [] none small = refl
before_text [] (n ∷ ns) none small =
    cond-true (nat_eq 95 95 && starts_digit (decimal n ++ joined_numbers ns)) [] (95 ∷ before_number (decimal n ++ joined_numbers ns))
    (and_from (nat_eq 95 95) (starts_digit (decimal n ++ joined_numbers ns)) refl (starts-append (decimal n) (joined_numbers ns) (starts n small.0)))
before_text (c ∷ cs) ns none small =
    let here : (nat_eq c 95 && starts_digit cs) ≡ false = from_not (nat_eq c 95 && starts_digit cs) (and_left (not (nat_eq c 95 && starts_digit cs)) (has_no_number cs) none) in
    cond-false (nat_eq c 95 && starts_digit (cs ++ joined_numbers ns)) [] (c ∷ before_number (cs ++ joined_numbers ns)) (ap (λ b. nat_eq c 95 && b) (text_starts cs ns) ∙ here)
    ∙ ap (λ xs. c ∷ xs) (before_text cs ns (and_right (not (nat_eq c 95 && starts_digit cs)) (has_no_number cs) none) small)

-- EACH NAME as designs write it: few bytes of names, no number behind `_`, and not the first letter that the modules of components have
begins_otherwise : List ℕ → Bool
begins_otherwise [] = false
begins_otherwise (c ∷ cs) = not (nat_eq c 109)

is_fine : List ℕ → Bool
is_fine t = (list_all is_name_byte t && nat_le (length t) 13) && (has_no_number t && begins_otherwise t)

fine : (name : PrimitiveName) → is_fine (name_text name) ≡ true
unfolding is_fine has_no_number begins_otherwise starts_digit
fine Const = refl
fine Wire = refl
fine Add = refl
fine Sub = refl
fine And = refl
fine Or = refl
fine Xor = refl
fine Not = refl
fine Lsh = refl
fine Rsh = refl
fine Lt = refl
fine Gt = refl
fine Equal = refl
fine Neq = refl
fine Le = refl
fine Ge = refl
fine Slt = refl
fine Sgt = refl
fine Seq = refl
fine Sneq = refl
fine Sle = refl
fine Sge = refl
fine Slice = refl
fine Pad = refl
fine Mux = refl
fine Reg = refl
fine StdMemD1 = refl
fine StdMemD2 = refl
fine StdMemD3 = refl
fine StdMemD4 = refl
fine CombMemD1 = refl
fine CombMemD2 = refl
fine CombMemD3 = refl
fine CombMemD4 = refl
fine SeqMemD1 = refl
fine SeqMemD2 = refl
fine SeqMemD3 = refl
fine SeqMemD4 = refl
fine MultPipe = refl
fine DivPipe = refl
fine Timer = refl

module _ (name : PrimitiveName) where
  few_bytes : (list_all is_name_byte (name_text name) ≡ true) × (length (name_text name) ≤ 13)
  unfolding is_fine
  few_bytes =
      let t : List ℕ = name_text name in
      let both = and_left (list_all is_name_byte t && nat_le (length t) 13) (has_no_number t && begins_otherwise t) (fine name) in
      (and_left (list_all is_name_byte t) (nat_le (length t) 13) both, leb-true (length t) 13 (and_right (list_all is_name_byte t) (nat_le (length t) 13) both))

  no_number : (has_no_number (name_text name) ≡ true) × (begins_otherwise (name_text name) ≡ true)
  unfolding is_fine
  no_number =
      let t : List ℕ = name_text name in
      let both = and_right (list_all is_name_byte t && nat_le (length t) 13) (has_no_number t && begins_otherwise t) (fine name) in
      (and_left (has_no_number t) (begins_otherwise t) both, and_right (has_no_number t) (begins_otherwise t) both)

-- THE NAMES of modules
joined_named : (ns : List ℕ) → AreSmall ns → list_all is_name_byte (joined_numbers ns) ≡ true
joined_named [] small = refl
joined_named (n ∷ ns) small =
    list_all-append is_name_byte (codes "_" ++ decimal n) (joined_numbers ns)
    ∙ and_from (list_all is_name_byte (codes "_" ++ decimal n)) (list_all is_name_byte (joined_numbers ns)) (digits_named (decimal n) (digits n small.0)) (joined_named ns small.1)

behind : (p : PrimitiveRow) → primitive_name p ≡ codes "cx_" ++ (name_text p.name ++ joined_numbers p.numbers)
behind p = append_assoc (codes "cx_") (name_text p.name) (joined_numbers p.numbers)

module _ (p : PrimitiveRow) (has : HasRow p) where
  -- at most 76 bytes
  pub primitive_name_short : length (primitive_name p) ≤ 76
  primitive_name_short =
      let long = length-append (name_text p.name) (joined_numbers p.numbers) in
      let front = (few_bytes p.name).1 in
      let numbers = (numbers_few p has).short in
      let whole = ap (λ (n : List ℕ). length n) (behind p) in
      omega (arith, long, front, numbers, whole)

  pub is_name-primitive_name : is_name (primitive_name p) ≡ true
  is_name-primitive_name =
      let text : List ℕ = name_text p.name in
      let joined : List ℕ = joined_numbers p.numbers in
      let long = length-append text joined in
      let front = (few_bytes p.name).1 in
      let numbers = (numbers_few p has).short in
      ap is_name (behind p)
      ∙ name_of (text ++ joined) (list_all-append is_name_byte text joined ∙ and_from (list_all is_name_byte text) (list_all is_name_byte joined) (few_bytes p.name).0 (joined_named p.numbers (numbers_few p has).small))
      (omega (arith, long, front, numbers))

-- one name is that of one primitive at one list of numbers
pub primitive_name_tells : (p q : PrimitiveRow) → HasRow p → HasRow q → primitive_name p ≡ primitive_name q → p ≡ q
primitive_name_tells p q has hers same =
    let rest : name_text p.name ++ joined_numbers p.numbers ≡ name_text q.name ++ joined_numbers q.numbers =
    append_cancel_left (codes "cx_") (name_text p.name ++ joined_numbers p.numbers) (name_text q.name ++ joined_numbers q.numbers) (sym (behind p) ∙ same ∙ behind q) in
    let small = (numbers_few p has).small in
    let less = (numbers_few q hers).small in
    let texts : name_text p.name ≡ name_text q.name =
    sym (before_text (name_text p.name) p.numbers (no_number p.name).0 small) ∙ ap before_number rest ∙ before_text (name_text q.name) q.numbers (no_number q.name).0 less in
    let tails : joined_numbers p.numbers ≡ joined_numbers q.numbers =
    append_cancel_left (name_text q.name) (joined_numbers p.numbers) (joined_numbers q.numbers) (ap (λ t. t ++ joined_numbers p.numbers) (sym texts) ∙ rest) in
    ap₂ row (one_name p.name q.name texts) (same_numbers p.numbers q.numbers small less tails)
  where
    row : PrimitiveName → List ℕ → PrimitiveRow
    row name numbers = record { name = name; numbers = numbers }

-- it is none of the module of a component
otherwise : (t tail more : List ℕ) → begins_otherwise t ≡ true → t ++ tail ≡ 109 ∷ more → ⊥
unfolding begins_otherwise
otherwise [] tail more other same = absurd (cc)
otherwise (c ∷ cs) tail more other same = let first : c ≡ 109 = cc in let wrong : false ≡ true = ap (λ x. not (nat_eq x 109)) (sym first) ∙ other in absurd (cc)

pub primitive_other : (p : PrimitiveRow) (main j : ℕ) → primitive_name p ≡ module_name main j → ⊥
primitive_other p main j same = by_main (nat_eq j main) same where
  by_main : (b : Bool) → primitive_name p ≡ (if b then codes "main" else numbered (codes "m") j) → ⊥
  by_main true same = let first : 99 ≡ 109 = ap (λ (n : List ℕ). get_or n 0 0) (sym (behind p) ∙ same) in absurd (omega (arith, first))
  by_main false same =
      otherwise (name_text p.name) (joined_numbers p.numbers) (decimal j) (no_number p.name).1
      (append_cancel_left (codes "cx_") (name_text p.name ++ joined_numbers p.numbers) (109 ∷ decimal j) (sym (behind p) ∙ same))
