-- What is told of the files of a command: each has a limit in bytes, and the first that fails or is over its limit decides.
use Rattle.std.specs.Prelude.{◌≡◌, ◌⊎◌, ℕ, ◌<◌, ◌≤◌, List, ◌∷◌, Option, length}
use Rattle.cx_outside.specs.Counts.{HasRisen}
use Rattle.cx_outside.specs.Reading.{Holds, HasLength, IsAbsent}
use Rattle.cx_commands.specs.Commands.{Asked, Wanted, wanted_by}

-- where it is told, the file holds these bytes; and they are no more than it may have
pub record HoldsWithin (held : Option (List ℕ → Option (List ℕ))) (most : ℕ) (file bytes : List ℕ) : Type 0 where
  pub holds : Holds held file bytes
  pub within : length bytes ≤ most

-- the file holds bytes of which P holds, where it is told what files hold; in any case within its limit
pub record OfFile (held : Option (List ℕ → Option (List ℕ))) (most : ℕ) (file : List ℕ)
    (P : List ℕ → Type 0) : Type 0 where
  pub bytes : List ℕ
  pub reads : HoldsWithin held most file bytes
  pub is : P bytes

-- the first file of which something is told: each before it was read within its limit
pub data FirstOf (held : Option (List ℕ → Option (List ℕ))) (tells : Wanted → Type 0) : List Wanted → Type 0 where
  here : {w : Wanted} {ws : List Wanted} → tells w → FirstOf held tells (w ∷ ws)
  later : {w : Wanted} {ws : List Wanted} (bytes : List ℕ) → HoldsWithin held w.most w.file bytes
      → FirstOf held tells ws → FirstOf held tells (w ∷ ws)

-- it has more bytes than it may have, and so many where it is told
pub record IsOver (held : Option (List ℕ → Option (List ℕ))) (file : List ℕ) (seen : ℕ) (w : Wanted) : Type 0 where
  pub is : file ≡ w.file
  pub over : w.most < seen
  pub count : HasLength held file seen

abbrev pub IsTooLong : Option (List ℕ → Option (List ℕ)) → Asked → List ℕ → ℕ → Type 0
IsTooLong held command file seen = FirstOf held (IsOver held file seen) (wanted_by command)

-- a read failed, as the count of faults tells, or the files are told and have none of this name
abbrev pub IsReadFault : Option (List ℕ → Option (List ℕ)) → ℕ → ℕ → List ℕ → Type 0
IsReadFault held before after file = HasRisen before after ⊎ IsAbsent held file

-- it could not be read
pub record IsUnread (held : Option (List ℕ → Option (List ℕ))) (before after : ℕ) (file : List ℕ)
    (w : Wanted) : Type 0 where
  pub is : file ≡ w.file
  pub fault : IsReadFault held before after file

abbrev pub IsUnreadFile : Option (List ℕ → Option (List ℕ)) → Asked → ℕ → ℕ → List ℕ → Type 0
IsUnreadFile held command before after file = FirstOf held (IsUnread held before after file) (wanted_by command)
