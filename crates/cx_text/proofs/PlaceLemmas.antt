-- Places further on in a text.
use Rattle.std.proofs.Common.{◌≡◌, ℕ, zero, suc, ◌+◌, ◌≤◌, List, [], ◌∷◌, ◌++◌, if◌then◌else◌, length, take, Some, slice_get, Bool, true, false, ◌==◌, ◌≢◌, cond, add-zero, All, refl, sym, ◌∙◌, ap, subst, add-one, arith}
use Rattle.std.proofs.lemmas.Option.{slice_get_within}
use Rattle.cx_text.specs.declared.places.Place.{Place}
use Rattle.cx_text.specs.Places.{start, after_byte, after_bytes, place_at, StandsAt, advanced}
use Rattle.std.proofs.lemmas.Bool.{lt-ltb, ne_eqb}
use Rattle.std.specs.List.{AllByRecursion, count_by}
use Rattle.std.proofs.lemmas.List.Sums.{sum_by-cons}
use Rattle.std.proofs.lemmas.List.Elements.{recursion_from_All}

pub after_bytes-append : (p : Place) (xs ys : List ℕ) → after_bytes p (xs ++ ys) ≡ after_bytes (after_bytes p xs) ys
after_bytes-append p [] ys = refl
after_bytes-append p (x ∷ xs) ys = after_bytes-append (after_byte p x) xs ys

after_bytes-take_suc : (p : Place) (text : List ℕ) (n b : ℕ) → slice_get text n ≡ Some b → after_bytes p (take (suc n) text) ≡ after_byte (after_bytes p (take n text)) b
after_bytes-take_suc p [] n b h = absurd (cc)
after_bytes-take_suc p (x ∷ xs) zero b h = let same : x ≡ b = cc in ap (after_byte p) same
after_bytes-take_suc p (x ∷ xs) (suc n) b h = after_bytes-take_suc (after_byte p x) xs n b h

-- the place of the next byte is behind this one
pub place_at-more : (text : List ℕ) (n b : ℕ) → slice_get text n ≡ Some b → place_at text (n + 1) ≡ after_byte (place_at text n) b
place_at-more text n b h = subst (λ m. place_at text m ≡ after_byte (place_at text n) b) (sym (add-one n)) (after_bytes-take_suc start text n b h)

-- by a byte a line number and a column grow by 1 at most
chosen_line : (t : Bool) (p : Place) (n : ℕ) → p.line ≤ n → (let q : Place = if t then record { line = p.line + 1; column = 1 } else record { line = p.line; column = p.column + 1 } in q.line ≤ n + 1)
chosen_line true p n h = omega arith
chosen_line false p n h = omega arith

chosen_column : (t : Bool) (p : Place) (n : ℕ) → p.column ≤ n → (let q : Place = if t then record { line = p.line + 1; column = 1 } else record { line = p.line; column = p.column + 1 } in q.column ≤ n + 1)
chosen_column true p n h = omega arith
chosen_column false p n h = omega arith

-- one byte more is read
pub StandsAt-more : (text : List ℕ) (n b : ℕ) (p q : Place) → StandsAt text n p → slice_get text n ≡ Some b → q ≡ after_byte p b → StandsAt text (n + 1) q
StandsAt-more text n b p q s h e = record {
  within = let inside = slice_get_within text n b h in omega arith;
  limit = s.limit;
  here = e ∙ ap (λ p. after_byte p b) s.here ∙ sym (place_at-more text n b h);
  line = subst (λ (q : Place). q.line ≤ n + 1 + 1) (sym e) (chosen_line (b == 10) p (n + 1) s.line);
  column = subst (λ (q : Place). q.column ≤ n + 1 + 1) (sym e) (chosen_column (b == 10) p (n + 1) s.column);
}

-- where there is a byte, one more is read
pub advanced_within : (text : List ℕ) (n b : ℕ) → slice_get text n ≡ Some b → advanced (record { text = text; read = n }) ≡ record { text = text; read = n + 1 }
advanced_within text n b h = ap (λ t. record { text = text; read = if t then n + 1 else n }) (lt-ltb n (length text) (slice_get_within text n b h))

line_by_test : (t : Bool) (p : Place) → (let q : Place = if t then record { line = p.line + 1; column = 1 } else record { line = p.line; column = p.column + 1 } in q.line ≡ p.line + (if t then 1 else 0))
line_by_test true p = refl
line_by_test false p = sym (add-zero p.line)

-- a line's number counts line feeds
pub line-after_bytes : (p : Place) (bytes : List ℕ) → (after_bytes p bytes).line ≡ p.line + count_by (λ b. b == 10) bytes
line-after_bytes p [] = sym (add-zero p.line)
line-after_bytes p (b ∷ bs) =
    let first = line_by_test (b == 10) p in
    let rest = line-after_bytes (after_byte p b) bs in
    let counted = sum_by-cons (λ b. if b == 10 then 1 else 0) b bs in
    omega arith

-- within a line a column counts bytes
pub column-after_bytes : (p : Place) (bytes : List ℕ) → AllByRecursion (λ b. b ≢ 10) bytes → (after_bytes p bytes).column ≡ p.column + length bytes
column-after_bytes p [] h = sym (add-zero p.column)
column-after_bytes p (b ∷ bs) h =
    let same : after_byte p b ≡ record { line = p.line; column = p.column + 1 } = ap (λ t. cond t (record { line = p.line + 1; column = 1 }) (record { line = p.line; column = p.column + 1 })) (ne_eqb b 10 h.0) in
    let rest = column-after_bytes (after_byte p b) bs h.1 in
    let column : (after_byte p b).column ≡ p.column + 1 = ap (λ (q : Place). q.column) same in
    omega arith

pub column-place_at : (text : List ℕ) (n : ℕ) → All (λ b. b ≢ 10) (take n text) → (place_at text n).column ≡ 1 + length (take n text)
column-place_at text n h = column-after_bytes start (take n text) (recursion_from_All (λ b. b ≢ 10) (take n text) h)

pub column-place_at_later : (text before last : List ℕ) (n : ℕ) → take n text ≡ before ++ 10 ∷ last → All (λ b. b ≢ 10) last → (place_at text n).column ≡ 1 + length last
column-place_at_later text before last n e h =
    ap (λ bs. (after_bytes start bs).column) e
    ∙ ap (λ (q : Place). q.column) (after_bytes-append start before (10 ∷ last))
    ∙ column-after_bytes (record { line = (after_bytes start before).line + 1; column = 1 }) last (recursion_from_All (λ b. b ≢ 10) last h)
