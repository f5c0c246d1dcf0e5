-- A whole file, and the place at which reading stops.
use Rattle.std.specs.Prelude.{ℕ, ◌-◌, List, [], ◌∷◌, length, Result, Ok, Err, drop}
use Rattle.cx_text.specs.declared.places.Place.{Place}
use Rattle.cx_ast.specs.declared.tokens.Token.{Token}
use Rattle.cx_ast.specs.PlainTree.{PlainTree}
use Rattle.cx_grammar.specs.Reading.{Stop, Reads, read, unexpected}
use Rattle.cx_grammar.specs.Calyx.{nested_at, file}

-- a file and nothing behind it
abbrev pub whole_of : PlainTree → List Token → Result PlainTree Stop
whole_of tree [] = Ok tree
whole_of tree (t ∷ ts) = Err (unexpected (t ∷ ts))

abbrev pub then_whole : Reads PlainTree → Result PlainTree Stop
then_whole (Ok x) = whole_of x.0 x.1
then_whole (Err stop) = Err stop

abbrev pub whole_at : ℕ → List Token → Result PlainTree Stop
whole_at levels ts = then_whole (read (nested_at levels) file ts)

-- the place of the token from which on so many are left; the end has that of the last token, or 1:1
abbrev pub last_place : Place → List Token → Place
last_place place [] = place
last_place place (t ∷ ts) = last_place t.place ts

abbrev pub place_at : List Token → List Token → Place
place_at [] ts = last_place (record { line = 1; column = 1 }) ts
place_at (t ∷ rest) ts = t.place

abbrev pub place_left_of : List Token → ℕ → Place
place_left_of ts left = place_at (drop (length ts - left) ts) ts

-- reading a file from the left, with 64 levels of control and of each guard
unfoldable pub reading : List Token → Result PlainTree Stop
reading ts = whole_at 64 ts
