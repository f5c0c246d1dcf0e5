-- The tokens of a text stand further and further on.
use Rattle.std.proofs.Common.{◌≡◌, ℕ, ◌+◌, ◌<◌, ◌≤◌, ◌==◌, Bool, true, false, if◌then◌else◌, List, [], ◌∷◌, length, ◌⊎◌, inl, inr, refl, arith}
use Rattle.cx_text.specs.declared.places.Place.{Place}
use Rattle.cx_text.specs.Places.{after_byte, after_bytes}
use Rattle.cx_ast.specs.declared.tokens.Token.{Token}
use Rattle.cx_lex.specs.Lex.{HasTokens, ended, gap, token}
use Rattle.cx_lex.proofs.WholeLemmas.{token_some}

-- p stands before q, and no later
abbrev pub Before : Place → Place → Type 0
Before p q = (p.line < q.line) ⊎ ((p.line ≡ q.line) × (p.column < q.column))

abbrev pub NoLater : Place → Place → Type 0
NoLater p q = (p.line < q.line) ⊎ ((p.line ≡ q.line) × (p.column ≤ q.column))

pub here : (p : Place) → NoLater p p
here p = inr (refl, omega arith)

pub before_no_later : (p q : Place) → Before p q → NoLater p q
before_no_later p q (inl l) = inl l
before_no_later p q (inr h) = inr (h.0, let c = h.1 in omega arith)

pub then_later : (p q r : Place) → NoLater p q → NoLater q r → NoLater p r
then_later p q r (inl h) (inl k) = inl (omega arith)
then_later p q r (inl h) (inr k) = inl (let e = k.0 in omega arith)
then_later p q r (inr h) (inl k) = inl (let e = h.0 in omega arith)
then_later p q r (inr h) (inr k) = inr ((let e = h.0 in let f = k.0 in omega arith), (let e = h.1 in let f = k.1 in omega arith))

pub then_before : (p q r : Place) → Before p q → NoLater q r → Before p r
then_before p q r (inl h) (inl k) = inl (omega arith)
then_before p q r (inl h) (inr k) = inl (let e = k.0 in omega arith)
then_before p q r (inr h) (inl k) = inl (let e = h.0 in omega arith)
then_before p q r (inr h) (inr k) = inr ((let e = h.0 in let f = k.0 in omega arith), (let e = h.1 in let f = k.1 in omega arith))

pub not_before_itself : (p : Place) → Before p p → ⊥
not_before_itself p (inl h) = omega arith
not_before_itself p (inr h) = let c = h.1 in omega arith

-- each byte has its place behind the one before
byte_moves : (t : Bool) (p : Place) → Before p (if t then record { line = p.line + 1; column = 1 } else record { line = p.line; column = p.column + 1 })
byte_moves true p = inl (omega arith)
byte_moves false p = inr (refl, omega arith)

after_byte_moves : (p : Place) (b : ℕ) → Before p (after_byte p b)
after_byte_moves p b = byte_moves (b == 10) p

bytes_no_earlier : (p : Place) (bytes : List ℕ) → NoLater p (after_bytes p bytes)
bytes_no_earlier p [] = here p
bytes_no_earlier p (b ∷ bs) = then_later p (after_byte p b) (after_bytes (after_byte p b) bs) (before_no_later p (after_byte p b) (after_byte_moves p b)) (bytes_no_earlier (after_byte p b) bs)

bytes_move : (p : Place) (bytes : List ℕ) → 0 < length bytes → Before p (after_bytes p bytes)
bytes_move p [] h = absurd (omega arith)
bytes_move p (b ∷ bs) h = then_before p (after_byte p b) (after_bytes (after_byte p b) bs) (after_byte_moves p b) (bytes_no_earlier (after_byte p b) bs)

-- the first token stands at p or later, and each other one behind the one before it
abbrev pub Rises : Place → List Token → Type 0
Rises p [] = Unit {0}
Rises p (t ∷ ts) = NoLater p t.place × ((q : Place) × Before t.place q × Rises q ts)

pub rises_earlier : (p q : Place) (ts : List Token) → NoLater p q → Rises q ts → Rises p ts
rises_earlier p q [] h r = tt
rises_earlier p q (t ∷ ts) h r = (then_later p q t.place h r.0, r.1)

pub text_rises : {place : Place} {text : List ℕ} {tokens : List Token} → HasTokens place text tokens → Rises place tokens
text_rises ended = tt
text_rises (gap {place = place} bytes rest {tokens = tokens} g more) = rises_earlier place (after_bytes place bytes) tokens (bytes_no_earlier place bytes) (text_rises more)
text_rises (token {place = place} bytes rest kind {tokens = tokens} t more) = (here place, (after_bytes place bytes, bytes_move place bytes (token_some t), text_rises more))
