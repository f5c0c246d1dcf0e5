-- The names of the reads that failed.
use Rattle.std.specs.Prelude.{ℕ, List, [], ◌∷◌, ◌++◌, Option, Some, None, Vec}
use Rattle.cx_outside.specs.declared.reading.FileAnswer.{FileAnswer}
use Rattle.cx_outside.specs.declared.reading.FileAnswer.TheVariants.{Failed, TooLong, Memory}

-- those after a read of this name with this answer: a failure alone adds its name
abbrev pub failed_by : FileAnswer → List ℕ → List (List ℕ) → List (List ℕ)
failed_by Failed name names = names ++ name ∷ []
failed_by (TooLong seen) name names = names
failed_by Memory name names = names

-- those of a list that is there once a read has failed
abbrev pub names_of : {A : Type 0} → Option (Vec (List ℕ) A) → List (List ℕ)
names_of None = []
names_of (Some names) = names.items
