-- What is said of the definitions.
use Rattle.std.specs.Prelude.{◌≡◌, true}
use Rattle.cx_vtree.specs.Plain.{PlainSource}
use Rattle.cx_vtree.specs.Sound.{is_sound}
use Rattle.cx_vread.specs.Held.{is_held}

-- a tree holds each sound source
abbrev pub SoundIsHeld : Type 0
SoundIsHeld = (s : PlainSource) → is_sound s ≡ true → is_held s ≡ true
