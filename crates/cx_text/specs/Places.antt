-- Lines and columns, both counted from 1. A column is a byte, and a line feed ends a line.
use Rattle.std.specs.Prelude.{◌≡◌, ℕ, ◌+◌, ◌≤◌, ◌==◌, List, [], ◌∷◌, length, take, nat_lt, if◌then◌else◌}
use Rattle.cx_text.specs.declared.places.Place.{Place}

-- where a text begins
abbrev pub start : Place
start = record { line = 1; column = 1 }

-- the place after a byte: behind a line feed the next line begins
abbrev pub after_byte : Place → ℕ → Place
after_byte p b =
    if b == 10 then record { line = p.line + 1; column = 1 }
    else record { line = p.line; column = p.column + 1 }

-- the place after bytes that begin at a place
abbrev pub after_bytes : Place → List ℕ → Place
after_bytes p [] = p
after_bytes p (b ∷ bs) = after_bytes (after_byte p b) bs

-- the place of byte n of a text, counted from 0; of its end where n is its length
abbrev pub place_at : List ℕ → ℕ → Place
place_at text n = after_bytes start (take n text)

-- a text and how many of its bytes are read
pub record Reading : Type 0 where
  pub text : List ℕ
  pub read : ℕ

-- so many bytes of a text are read, and this is the place of the next one or of the end
pub record StandsAt (text : List ℕ) (read : ℕ) (place : Place) : Type 0 where
  pub within : read ≤ length text
  pub limit : length text ≤ 83886080
  pub here : place ≡ place_at text read
  pub line : place.line ≤ read + 1
  pub column : place.column ≤ read + 1

-- one byte more is read, unless all are
abbrev pub advanced : Reading → Reading
advanced r = record { text = r.text; read = if nat_lt r.read (length r.text) then r.read + 1 else r.read }
