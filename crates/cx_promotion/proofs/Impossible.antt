-- WHAT CANNOT BE, whatever is wanted of it.
use Rattle.std.specs.Prelude.{◌≡◌, true, false, Some, None}

pub no_true : {A : Type 0} → false ≡ true → A
no_true e = absurd (cc)

pub no_some : {A : Type 0} {B : Type 0} (a : A) → None ≡ Some a → B
no_some a e = absurd (cc)
