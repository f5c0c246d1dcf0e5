-- What the dump's definitions give step by step.
use Rattle.std.proofs.Common.{◌≡◌, ◌∙◌, cond, not, suc-mul, Option, Some, None, SomeIff, unwrap_or, ◌/◌, ℕ, suc, ◌+◌, ◌-◌, ◌*◌, ◌<◌, Bool, true, false, List, [], ◌∷◌, ◌++◌, length, map, take, drop, All, refl, ap, subst, append_assoc, arith}
use Rattle.std.specs.Cmp.Lexicographic.{slice_cmp}
use Rattle.std.specs.Prelude.{if◌then◌else◌}
use Rattle.std.proofs.Math.Nat.{mul-div_cancel_left}
use Rattle.std.specs.List.{position_or_len, insert}
use Rattle.std.specs.Ordering.{nat_cmp, is_lt}
use Rattle.std.proofs.lemmas.List.Elements.{All-nil, All-cons, All-head, All-tail}
use Rattle.cx_text.specs.Loading.{PlainMemory}
use Rattle.cx_data.specs.Dump.{comma_before, joined, pieces, insert_by_name, inserted_by_name, by_name}

-- the first piece, and the pieces after it
pub pieces-next : (count index size : ℕ) (words : List ℕ) → index < count
    → pieces (count - index) size words ≡ take size words ∷ pieces (count - (index + 1)) size (drop size words)
pieces-next count index size words lt =
    let e : suc (count - (index + 1)) ≡ count - index = omega arith in
    subst (λ (n : ℕ). pieces n size words ≡ take size words ∷ pieces (count - (index + 1)) size (drop size words)) e refl

-- the opening bracket
pub list_start : (text : List ℕ → List ℕ) (out more words : List ℕ) (count size : ℕ) → more ≡ out ++ 91 ∷ []
    → more ++ (joined 0 (map text (pieces (count - 0) size words)) ++ 93 ∷ [])
    ≡ out ++ 91 ∷ (joined 0 (map text (pieces count size words)) ++ 93 ∷ [])
list_start text out more words count size is = let e : count - 0 ≡ count = omega arith in rw (is, e) (simp append_assoc)

-- how long a part is, where there is one
pub part_len-is : (found : Option ℕ) (result len count size : ℕ) → SomeIff found (0 < count) (len / count)
    → result ≡ unwrap_or found 0 → len ≡ count * size → 0 < count → result ≡ size
part_len-is None result len count size none is product lt = absurd (none lt)
part_len-is (Some n) result len count size some is product lt =
    is ∙ (some.1 ∙ (ap (λ (n : ℕ). n / count) product ∙ mul-div_cancel_left size lt))

-- one more part of a list: the text so far, with what is left, is the same
pub list_step : (text : List ℕ → List ℕ) (out more whole rest part after : List ℕ) (count index size len : ℕ) → index < count
    → len ≡ size → part ≡ take len rest → after ≡ drop len rest
    → more ≡ (out ++ comma_before index) ++ text part
    → out ++ (joined index (map text (pieces (count - index) size rest)) ++ 93 ∷ []) ≡ whole
    → more ++ (joined (index + 1) (map text (pieces (count - (index + 1)) size after)) ++ 93 ∷ []) ≡ whole
list_step text out more whole rest part after count index size len lt sized front back is so_far =
    let next : pieces (count - index) size rest ≡ take size rest ∷ pieces (count - (index + 1)) size (drop size rest) = pieces-next count index size rest lt in
    let before : out ++ (joined index (map text (take size rest ∷ pieces (count - (index + 1)) size (drop size rest))) ++ 93 ∷ []) ≡ whole = rw next at so_far in
    let part_is : part ≡ take size rest = front ∙ ap (λ n. take n rest) sized in
    let after_is : after ≡ drop size rest = back ∙ ap (λ n. drop n rest) sized in
    rw (is, part_is, after_is) (simp append_assoc (simp append_assoc at before))

-- what is left of the words, after one more part
pub room_step : (rest after : List ℕ) (count index size len : ℕ) → index < count → len ≡ size
    → length after + len ≡ length rest → length rest ≡ (count - index) * size → length after ≡ (count - (index + 1)) * size
room_step rest after count index size len lt sized split room =
    let e : suc (count - (index + 1)) ≡ count - index = omega arith in
    let product : length rest ≡ suc (count - (index + 1)) * size = rw e room in
    let opened : length rest ≡ (count - (index + 1)) * size + size = rw suc-mul at product in
    omega arith

-- where a memory goes among others: before the first whose name is greater
pub insert_by_name-place : {X : Type 0} (plain : X → PlainMemory) (m : X) (xs : List X)
    → map plain (insert xs (position_or_len (λ other. is_lt (slice_cmp nat_cmp (plain m).shape.name (plain other).shape.name)) xs) m)
    ≡ insert_by_name (plain m) (map plain xs)
insert_by_name-place plain m [] = refl
insert_by_name-place {X} plain m (x ∷ xs) =
    let p : X → Bool = λ other. is_lt (slice_cmp nat_cmp (plain m).shape.name (plain other).shape.name) in
    let P : Bool → Type 0 = λ b.
    map plain (insert (x ∷ xs) (cond (not b) (1 + position_or_len p xs) 0) m)
    ≡ (if b then plain m ∷ plain x ∷ map plain xs else plain x ∷ insert_by_name (plain m) (map plain xs)) in
    let later : suc (position_or_len p xs) ≡ 1 + position_or_len p xs = omega arith in
    elim (p x) as P [
      | true ↦ refl
      | false ↦ subst (λ (n : ℕ). map plain (insert (x ∷ xs) n m) ≡ plain x ∷ insert_by_name (plain m) (map plain xs)) later
          (ap (λ (ys : List PlainMemory). plain x ∷ ys) (insert_by_name-place plain m xs))
    ]

-- one more memory in its place
pub ordered_step : {X : Type 0} (plain : X → PlainMemory) (m : X) (xs more : List X) (rest whole : List PlainMemory) (place : ℕ)
    → place ≡ position_or_len (λ other. is_lt (slice_cmp nat_cmp (plain m).shape.name (plain other).shape.name)) xs
    → more ≡ insert xs place m
    → inserted_by_name (map plain xs) (plain m ∷ rest) ≡ whole
    → inserted_by_name (map plain more) rest ≡ whole
ordered_step plain m xs more rest whole place there is so_far =
    let e : map plain more ≡ insert_by_name (plain m) (map plain xs) =
    ap (map plain) is ∙ (ap (λ (n : ℕ). map plain (insert xs n m)) there ∙ insert_by_name-place plain m xs) in
    ap (λ (ms : List PlainMemory). inserted_by_name ms rest) e ∙ so_far

pub All-insert_by_name : (P : PlainMemory → Type 0) (m : PlainMemory) (ms : List PlainMemory) → P m → All P ms → All P (insert_by_name m ms)
All-insert_by_name P m [] one all = All-cons P m [] one all
All-insert_by_name P m (other ∷ others) one all =
    elim (is_lt (slice_cmp nat_cmp m.shape.name other.shape.name))
    as (λ b. All P (if b then m ∷ other ∷ others else other ∷ insert_by_name m others)) [
      | true ↦ All-cons P m (other ∷ others) one all
      | false ↦ All-cons P other (insert_by_name m others) (All-head P other others all) (All-insert_by_name P m others one (All-tail P other others all))
    ]

pub All-inserted_by_name : (P : PlainMemory → Type 0) (ordered ms : List PlainMemory) → All P ordered → All P ms → All P (inserted_by_name ordered ms)
All-inserted_by_name P ordered [] all none = all
All-inserted_by_name P ordered (m ∷ ms) all more =
    All-inserted_by_name P (insert_by_name m ordered) ms (All-insert_by_name P m ordered (All-head P m ms more) all) (All-tail P m ms more)

-- what holds of each memory holds of each in the order of the names
pub All-by_name : (P : PlainMemory → Type 0) (ms : List PlainMemory) → All P ms → All P (by_name ms)
All-by_name P ms all = All-inserted_by_name P [] ms (All-nil P) all

-- what holds of each image holds of the image of each
pub All-from_map : {X Y : Type 0} (P : Y → Type 0) (f : X → Y) (xs : List X) → All P (map f xs) → All (λ x. P (f x)) xs
All-from_map {X} P f [] all = All-nil (λ (x : X). P (f x))
All-from_map {X} P f (x ∷ xs) all =
    All-cons (λ (x : X). P (f x)) x xs (All-head P (f x) (map f xs) all) (All-from_map P f xs (All-tail P (f x) (map f xs) all))
