-- What a loop over an iterator has seen, of the list that it yields.
use Rattle.std.proofs.Common.{◌≡◌, ◌<◌, ℕ, List, length, get_or, map, Option, Some, None, true, false}
use Rattle.std.specs.Option.{SomeIff, is_some}
use Rattle.std.specs.Iterator.{Yields}
use Rattle.std.proofs.lemmas.Iterator.{YieldsList}
use Rattle.std.proofs.lemmas.Iterator.Consumers.{YieldsList-turn, YieldsList-end}

module _ {S A B : Type 0} {steps : S → Option A → S → Type 0} {v : A → B} {s : S} {all : List B} where
  -- it has seen all
  pub seen_all : (xs : List A) (t : S) (r : Option A) (u : S) → Yields steps s xs t → r ≡ None → steps t r u → YieldsList steps v s all → (map v xs ≡ all) × (length xs ≡ length all)
  seen_all xs t r u y is st e = YieldsList-end e xs t y r u is st

  -- it sees the next one
  pub sees_next : (xs : List A) (t : S) (r : Option A) (u : S) (x : A) → Yields steps s xs t → r ≡ Some x → steps t r u → YieldsList steps v s all → (length xs < length all) × (v x ≡ get_or all (length xs) (v x))
  sees_next xs t r u x y is st e = YieldsList-turn e xs t y r u x is st

-- where there is a value it is told
pub some_number : (r : Option ℕ) (P : Type 0) (v : ℕ) → SomeIff r P v → P → r ≡ None → ⊥
some_number None P v told p e = told p
some_number (Some x) P v told p e = let f : Some x ≡ None = e in cc

pub is_some_number : (r : Option ℕ) (P : Type 0) (v : ℕ) → SomeIff r P v → P → is_some r ≡ false → ⊥
is_some_number None P v told p e = told p
is_some_number (Some x) P v told p e = let f : true ≡ false = e in cc
