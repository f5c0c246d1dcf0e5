-- Why a text is not written.
use Rattle.std.specs.Prelude.{◌≡◌, ◌<◌, ℕ, List, length}
use Rattle.cx_vwrite.specs.declared.refusals.WriteRefusal.{WriteRefusal}
use Rattle.cx_vwrite.specs.declared.refusals.WriteRefusal.TheVariants.{TooLong, Memory}

-- the text is over the limit, and this is its length; or memory was refused
abbrev pub IsTooLong : ℕ → List ℕ → WriteRefusal → Type 0
IsTooLong limit text (TooLong n) = (n ≡ length text) × (limit < n)
IsTooLong limit text Memory = Unit {0}
