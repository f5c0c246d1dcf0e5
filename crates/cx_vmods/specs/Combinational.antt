-- The modules of primitives without a state.
use Rattle.std.specs.Prelude.{ℕ, ◌-◌, ◌^◌, List, [], ◌∷◌, nat_le, if◌then◌else◌, codes}
use Rattle.cx_vtree.specs.declared.operators.Operator.{Operator}
use Rattle.cx_vtree.specs.declared.operators.Operator.TheVariants.{Less, Xor}
use Rattle.cx_vtree.specs.Plain.{PlainExpr, Applied, Inverted, Chosen, Joined}
use Rattle.cx_vmods.specs.Spelling.{net, part}
use Rattle.cx_vmods.specs.Parts.{Piece, Output, literal}

abbrev pub giving : PlainExpr → List Piece
giving value = Output (codes "out") value ∷ []

abbrev pub constant : ℕ → ℕ → List Piece
constant width value = giving (literal width value)

abbrev pub wire : List Piece
wire = giving (net (codes "in"))

abbrev pub complement : List Piece
complement = giving (Inverted (net (codes "in")))

abbrev pub slice : ℕ → List Piece
slice out_width = giving (part (codes "in") (out_width - 1) 0)

-- zeros above; where no bit is added there are none
abbrev pub pad : ℕ → ℕ → List Piece
pad width out_width =
    if nat_le out_width width then wire
    else giving (Joined (literal (out_width - width) 0) (net (codes "in")))

abbrev pub operator : Operator → List Piece
operator op = giving (Applied op (net (codes "left")) (net (codes "right")))

-- of more than 32 bits the amount is cut to eight behind a comparison with the width, since tools take no amount from 2 ^ 32 on
abbrev pub shift : Operator → ℕ → List Piece
shift op width =
    if nat_le width 32
    then operator op
    else giving
    (Chosen
    (Applied Less (net (codes "right")) (literal width width))
    (Applied op (net (codes "left")) (Joined (literal (width - 8) 0) (part (codes "right") 7 0)))
    (literal width 0))

-- the top bit inverted
abbrev pub offset : List ℕ → ℕ → PlainExpr
offset name width = Applied Xor (net name) (literal width (2 ^ (width - 1)))

-- numbers in two's complement are in the order of what they are with the top bit inverted
abbrev pub signed : Operator → ℕ → List Piece
signed op width = giving (Applied op (offset (codes "left") width) (offset (codes "right") width))

abbrev pub mux : List Piece
mux = giving (Chosen (net (codes "cond")) (net (codes "tru")) (net (codes "fal")))
