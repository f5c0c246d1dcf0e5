-- Codes that compare a net with a literal, the rows of a table by a net and a value, and what codes hear of.
use Rattle.std.specs.Prelude.{◌≡◌, ℕ, ◌+◌, ◌*◌, ◌%◌, Bool, true, false, ◌⊎◌, ◌<◌, List, Option, Some, None, length, get_or, slice_get}
use Rattle.cx_bits.specs.BitVector.{BitVector}
use Rattle.cx_vtree.specs.declared.operators.Operator.{Operator}
use Rattle.cx_vtree.specs.declared.operators.Operator.TheVariants.{Add, Subtract, Multiply, And, Or, Xor, ShiftLeft, ShiftRight, Equal, NotEqual, Less, Greater, AtMost, AtLeast}
use Rattle.cx_vnets.specs.declared.codes.Code.{Code}
use Rattle.cx_vnets.specs.declared.codes.Code.TheVariants.{Net, Literal, Slice, Item', Binary', Not', Choose', Cat'}
use Rattle.cx_vnets.specs.declared.nets.Nets.{Nets}
use Rattle.cx_vnets.specs.declared.nets.Driver.{Driver}
use Rattle.cx_vnets.specs.declared.nets.Driver.TheVariants.{Held, Tied, Given}

abbrev pub IsNet : Code → ℕ → Type 0
IsNet (Net k) net = k ≡ net
IsNet c net = ⊥

abbrev pub IsLiteral : Code → BitVector → Type 0
IsLiteral (Literal b) literal = b ≡ literal
IsLiteral c literal = ⊥

-- of an operator that compares, whether it tells on which side of another value one is
abbrev pub is_sided : Operator → Option Bool
is_sided Add = None
is_sided Subtract = None
is_sided Multiply = None
is_sided And = None
is_sided Or = None
is_sided Xor = None
is_sided ShiftLeft = None
is_sided ShiftRight = None
is_sided Equal = Some false
is_sided NotEqual = Some false
is_sided Less = Some true
is_sided Greater = Some true
is_sided AtMost = Some true
is_sided AtLeast = Some true

-- an operator and operands that compare a net with a literal
abbrev pub IsComparison : Operator → Code → Code → ℕ → BitVector → Bool → Type 0
IsComparison op a b net literal sided = (is_sided op ≡ Some sided) × IsNet a net × IsLiteral b literal

-- the row of a net and a value in a table of so many rows. Several may have one row.
abbrev pub row_of : ℕ → BitVector → ℕ → ℕ
row_of net v count = (net % 4294967296 * 40503 + v.value % 4294967296) % count

-- where the list has a place for the net, it is noted there
abbrev pub IsNoted : List Bool → ℕ → Type 0
IsNoted compared net = net < length compared → get_or compared net false ≡ true

-- notes that only grow
pub record NotesGrow (old new : List Bool) : Type 0 where
  pub long : length new ≡ length old
  pub kept : (net : ℕ) → get_or old net false ≡ true → get_or new net false ≡ true

-- each net that a code names is so, and each array; but where the code compares a net with a literal, this may be so of the two instead
abbrev pub CodeHears : (ℕ → Type 0) → (ℕ → Type 0) → (ℕ → BitVector → Bool → Type 0) → Code → Type 0
CodeHears net array watch (Net k) = net k
CodeHears net array watch (Literal b) = Unit {0}
CodeHears net array watch (Slice k high low) = net k
CodeHears net array watch (Item' a p i) = array a × CodeHears net array watch i
CodeHears net array watch (Binary' op p a q b) =
    (CodeHears net array watch a × CodeHears net array watch b)
    ⊎ ((k : ℕ) × (v : BitVector) × (sided : Bool) × IsComparison op a b k v sided × watch k v sided)
CodeHears net array watch (Not' p a) = CodeHears net array watch a
CodeHears net array watch (Choose' p c q a r b) =
    CodeHears net array watch c × CodeHears net array watch a × CodeHears net array watch b
CodeHears net array watch (Cat' p a q b) = CodeHears net array watch a × CodeHears net array watch b

abbrev pub OptionHears : (ℕ → Type 0) → (ℕ → Type 0) → (ℕ → BitVector → Bool → Type 0) → Option Code → Type 0
OptionHears net array watch None = Unit {0}
OptionHears net array watch (Some c) = CodeHears net array watch c

abbrev pub DriverHears : List Code → (ℕ → Type 0) → (ℕ → Type 0) → (ℕ → BitVector → Bool → Type 0)
    → Option Driver → Type 0
DriverHears codes net array watch None = Unit {0}
DriverHears codes net array watch (Some Held) = Unit {0}
DriverHears codes net array watch (Some (Tied g)) = net g
DriverHears codes net array watch (Some (Given c p)) =
    OptionHears (λ k. net (p.nets + k)) (λ a. array (p.arrays + a))
    (λ k v sided. watch (p.nets + k) v sided) (slice_get codes c)

-- the same of what drives a net
abbrev pub NetHears : Nets → (ℕ → Type 0) → (ℕ → Type 0) → (ℕ → BitVector → Bool → Type 0) → ℕ → Type 0
NetHears n net array watch f = DriverHears n.codes.items net array watch (slice_get n.drivers.items f)
