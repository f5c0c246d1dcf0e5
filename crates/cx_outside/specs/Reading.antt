-- What a name holds, where it is told.
use Rattle.std.specs.Prelude.{◌≡◌, ℕ, List, Option, Some, None, length, IfSome, IsSomeAnd}

-- where it is told, the name holds these bytes
abbrev pub Holds : Option (List ℕ → Option (List ℕ)) → List ℕ → List ℕ → Type 0
Holds held name bytes = IfSome held (λ holds. holds name ≡ Some bytes)

-- where it is told, the name holds so many bytes
abbrev pub HasLength : Option (List ℕ → Option (List ℕ)) → List ℕ → ℕ → Type 0
HasLength held name count = IfSome held (λ holds. (bytes : List ℕ) × (holds name ≡ Some bytes) × (length bytes ≡ count))

-- it is told, and the name holds these bytes
abbrev pub IsHeld : Option (List ℕ → Option (List ℕ)) → List ℕ → List ℕ → Type 0
IsHeld held name bytes = IsSomeAnd held (λ holds. holds name ≡ Some bytes)

-- it is told, and the name holds nothing
abbrev pub IsAbsent : Option (List ℕ → Option (List ℕ)) → List ℕ → Type 0
IsAbsent held name = IsSomeAnd held (λ holds. holds name ≡ None)
