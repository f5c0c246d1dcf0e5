-- The modules of memories: one array, whose words are in row-major order.
use Rattle.std.specs.Prelude.{ℕ, List, [], ◌∷◌, ◌++◌, codes}
use Rattle.cx_text.specs.Loading.{word_count}
use Rattle.cx_vtree.specs.declared.operators.Operator.TheVariants.{And}
use Rattle.cx_vtree.specs.Plain.{PlainExpr, Applied, Chosen}
use Rattle.cx_vmods.specs.Spelling.{net, word}
use Rattle.cx_vmods.specs.Parts.{Piece, Wire, Output, Register, Array, Store, literal}
use Rattle.cx_vmods.specs.BitCounts.{bits_for}
use Rattle.cx_vmods.specs.Addresses.{in_range, index}
use Rattle.cx_vmods.specs.Clocked.{done_after}

-- the words, the index of the one at the addresses, and whether no address is out of range
abbrev pub words : ℕ → List ℕ → List ℕ → List Piece
words width sizes widths =
    Wire (codes "in_range") 1 (in_range 0 sizes widths)
    ∷ Wire (codes "index") (bits_for (word_count sizes)) (index 0 (bits_for (word_count sizes)) sizes widths)
    ∷ Array (codes "words") width (word_count sizes)
    ∷ []

-- the word at the addresses, and 0 where one is out of range
abbrev pub read : ℕ → PlainExpr
read width = Chosen (net (codes "in_range")) (word (codes "words") (net (codes "index"))) (literal width 0)

-- where the guard is 1 and no address is out of range the word becomes `write_data`
abbrev pub write : PlainExpr → List Piece
write guard =
    Store (Applied And guard (net (codes "in_range"))) (codes "words") (net (codes "index"))
    (net (codes "write_data")) ∷ []

abbrev pub reading : ℕ → List Piece
reading width = Output (codes "read_data") (read width) ∷ []

-- a read takes the word, and a write leaves what was read
abbrev pub next : ℕ → PlainExpr
next width =
    Chosen (net (codes "content_en")) (Chosen (net (codes "write_en")) (net (codes "held")) (read width))
    (net (codes "held"))

abbrev pub holding_read : ℕ → List Piece
holding_read width = Register (codes "held") width (next width) ∷ Output (codes "read_data") (net (codes "held")) ∷ []

-- read data follows the addresses; done follows a write
unfoldable pub combinational : ℕ → List ℕ → List ℕ → List Piece
combinational width sizes widths =
    words width sizes widths ++ write (net (codes "write_en")) ++ reading width
    ++ done_after (codes "write_en")

-- read data is registered; done follows a read or a write
unfoldable pub sequential : ℕ → List ℕ → List ℕ → List Piece
sequential width sizes widths =
    words width sizes widths
    ++ write (Applied And (net (codes "content_en")) (net (codes "write_en")))
    ++ holding_read width
    ++ done_after (codes "content_en")
