-- The modules of the register, the timer and the pipes.
use Rattle.std.specs.Prelude.{ℕ, ◌-◌, List, [], ◌∷◌, ◌++◌, codes}
use Rattle.cx_vtree.specs.declared.operators.Operator.{Operator}
use Rattle.cx_vtree.specs.declared.operators.Operator.TheVariants.{Add, Subtract, Multiply, And, Or, ShiftLeft, ShiftRight, Equal, AtLeast}
use Rattle.cx_vtree.specs.Plain.{PlainExpr, Applied, Chosen}
use Rattle.cx_vmods.specs.Spelling.{net, part}
use Rattle.cx_vmods.specs.Parts.{Piece, Wire, Output, Register, literal}
use Rattle.cx_vmods.specs.BitCounts.{bits_for}

-- done follows a cycle in which an enabling port is 1
abbrev pub done_after : List ℕ → List Piece
done_after enable = Register (codes "finished") 1 (net enable) ∷ Output (codes "done") (net (codes "finished")) ∷ []

-- with `write_en` a register takes `in`
abbrev pub taking : ℕ → List Piece
taking width =
    Register (codes "held") width (Chosen (net (codes "write_en")) (net (codes "in")) (net (codes "held")))
    ∷ []

abbrev pub register : ℕ → List Piece
register width = taking width ++ done_after (codes "write_en") ++ Output (codes "out") (net (codes "held")) ∷ []

-- whether the count is a number
abbrev pub is_at : ℕ → ℕ → PlainExpr
is_at width number = Applied Equal (net (codes "count")) (literal width number)

-- one more with `go`, 0 after the last one, and 0 without `go`
abbrev pub next_count : ℕ → PlainExpr
next_count width =
    Chosen (net (codes "go"))
    (Chosen (net (codes "ends")) (literal width 0) (Applied Add (net (codes "count")) (literal width 1)))
    (literal width 0)

-- the cycles with `go` are counted, from 0 to `last` and from 0 again; done follows the last one
abbrev pub counting : ℕ → ℕ → List Piece
counting width last =
    Wire (codes "ends") 1 (is_at width last)
    ∷ Wire (codes "finishes") 1 (Applied And (net (codes "go")) (net (codes "ends")))
    ∷ Register (codes "count") width (next_count width)
    ∷ Register (codes "finished") 1 (net (codes "finishes"))
    ∷ Output (codes "done") (net (codes "finished"))
    ∷ []

-- no cycle was counted
abbrev pub starting : ℕ → List Piece
starting width = Wire (codes "starts") 1 (is_at width 0) ∷ []

-- a register takes a value in the last cycle
abbrev pub answering : List ℕ → ℕ → PlainExpr → List Piece
answering name width value = Register name width (Chosen (net (codes "finishes")) value (net name)) ∷ []

abbrev pub timer : ℕ → List Piece
timer length = counting 32 (length - 1) ++ Output (codes "out") (net (codes "count")) ∷ []

-- a register takes an input in the first cycle
abbrev pub operand : List ℕ → ℕ → List ℕ → List Piece
operand name width input = Register name width (Chosen (net (codes "starts")) (net input) (net name)) ∷ []

-- in the third cycle the output becomes the product of what the first one took
unfoldable pub multiplier : ℕ → List Piece
multiplier width =
    counting 2 2
    ++ starting 2
    ++ operand (codes "held_left") width (codes "left")
    ++ operand (codes "held_right") width (codes "right")
    ++ answering (codes "product") width (Applied Multiply (net (codes "held_left")) (net (codes "held_right")))
    ++ Output (codes "out") (net (codes "product")) ∷ []

-- a net shifted by a number of bits
abbrev pub shifted : Operator → List ℕ → ℕ → ℕ → PlainExpr
shifted op name width bits = Applied op (net name) (literal width bits)

-- a wire is a value in the first cycle, and a register in the others
abbrev pub current : List ℕ → ℕ → PlainExpr → List ℕ → List Piece
current name width first held = Wire name width (Chosen (net (codes "starts")) first (net held)) ∷ []

-- the remainder so far, the bits of the dividend above those of the quotient, and the divisor
abbrev pub operands : ℕ → List Piece
operands width =
    current (codes "rest_now") width (literal width 0) (codes "rest")
    ++ current (codes "digits_now") width (net (codes "left")) (codes "digits")
    ++ current (codes "divisor_now") width (net (codes "right")) (codes "divisor")

-- the divisor goes into the remainder with one more bit, of which the highest is cut off
abbrev pub takes : ℕ → PlainExpr
takes width =
    Applied Or (part (codes "rest_now") (width - 1) (width - 1))
    (Applied AtLeast (net (codes "longer")) (net (codes "divisor_now")))

-- the remainder with the next bit of the dividend below it
abbrev pub longer : ℕ → List Piece
longer width =
    Wire (codes "longer") width (Applied Add (shifted ShiftLeft (codes "rest_now") width 1)
    (shifted ShiftRight (codes "digits_now") width (width - 1)))
    ∷ Wire (codes "takes") 1 (takes width)
    ∷ []

-- the divisor is taken off where it goes into it
abbrev pub rest_next : PlainExpr
rest_next =
    Chosen (net (codes "takes")) (Applied Subtract (net (codes "longer")) (net (codes "divisor_now")))
    (net (codes "longer"))

-- the bits of the dividend that are left, and below them those of the quotient so far
abbrev pub digits_next : ℕ → PlainExpr
digits_next width =
    Applied Add (shifted ShiftLeft (codes "digits_now") width 1)
    (Chosen (net (codes "takes")) (literal width 1) (literal width 0))

abbrev pub one_bit : ℕ → List Piece
one_bit width = Wire (codes "rest_next") width rest_next ∷ Wire (codes "digits_next") width (digits_next width) ∷ []

abbrev pub holding : ℕ → List Piece
holding width =
    Register (codes "rest") width (net (codes "rest_next"))
    ∷ Register (codes "digits") width (net (codes "digits_next"))
    ∷ Register (codes "divisor") width (net (codes "divisor_now"))
    ∷ []

-- a register takes the value of a net in the last cycle, and an output shows it
abbrev pub result : List ℕ → ℕ → List ℕ → List ℕ → List Piece
result name width from output = answering name width (net from) ++ Output output (net name) ∷ []

-- what happens in each cycle of a division
abbrev pub division : ℕ → List Piece
division width = operands width ++ longer width ++ one_bit width ++ holding width

-- one bit of the quotient in each cycle, the highest first
unfoldable pub divider : ℕ → List Piece
divider width =
    counting (bits_for width) (width - 1)
    ++ starting (bits_for width)
    ++ division width
    ++ result (codes "quotient") width (codes "digits_next") (codes "out_quotient")
    ++ result (codes "remainder") width (codes "rest_next") (codes "out_remainder")
