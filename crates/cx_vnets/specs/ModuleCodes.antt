-- When a code stands for an expression.
use Rattle.std.specs.Prelude.{◌≡◌, ℕ, List, Option, Some, IsSome}
use Rattle.cx_vtree.specs.Plain.{PlainExpr, Named, Number, Part, Word, Applied, Inverted, Chosen, Joined}
use Rattle.cx_vnets.specs.declared.codes.Code.{Code}
use Rattle.cx_vnets.specs.declared.codes.Code.TheVariants.{Net, Literal, Slice, Item', Binary', Not', Choose', Cat'}

-- the numbers of nets or arrays by their names
abbrev pub Numbering : Type 0
Numbering = List ℕ → Option ℕ

-- the code is the expression with numbers for names, where nets and arrays have these numbers
abbrev pub IsCode : Numbering → Numbering → Code → PlainExpr → Type 0
IsCode nets arrays (Net k) (Named n) = nets n ≡ Some k
IsCode nets arrays (Literal b) (Number v) = b ≡ v
IsCode nets arrays (Slice k high low) (Part n h l) = (nets n ≡ Some k) × (high ≡ h) × (low ≡ l)
IsCode nets arrays (Item' a p i) (Word n j) = (arrays n ≡ Some a) × IsCode nets arrays i j
IsCode nets arrays (Binary' op p a q b) (Applied o x y) = (op ≡ o) × IsCode nets arrays a x × IsCode nets arrays b y
IsCode nets arrays (Not' p a) (Inverted x) = IsCode nets arrays a x
IsCode nets arrays (Choose' p c q a r b) (Chosen z x y) =
    IsCode nets arrays c z × IsCode nets arrays a x × IsCode nets arrays b y
IsCode nets arrays (Cat' p a q b) (Joined x y) = IsCode nets arrays a x × IsCode nets arrays b y
IsCode nets arrays c e = ⊥

-- all names of the expression have numbers
abbrev pub HasNumbers : Numbering → Numbering → PlainExpr → Type 0
HasNumbers nets arrays (Named n) = IsSome (nets n)
HasNumbers nets arrays (Number b) = Unit {0}
HasNumbers nets arrays (Part n high low) = IsSome (nets n)
HasNumbers nets arrays (Word n i) = IsSome (arrays n) × HasNumbers nets arrays i
HasNumbers nets arrays (Applied op a b) = HasNumbers nets arrays a × HasNumbers nets arrays b
HasNumbers nets arrays (Inverted a) = HasNumbers nets arrays a
HasNumbers nets arrays (Chosen c a b) = HasNumbers nets arrays c × HasNumbers nets arrays a × HasNumbers nets arrays b
HasNumbers nets arrays (Joined a b) = HasNumbers nets arrays a × HasNumbers nets arrays b
