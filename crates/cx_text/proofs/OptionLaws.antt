-- Facts of options.
use Rattle.std.proofs.Common.{◌≡◌, Option, Some, None, option_map, refl, option_and_then, ℕ, IsSome, Bool, true, false, if◌then◌else◌, sym, subst, is_some, true≢false}
use Rattle.std.specs.Option.{option_or}

pub map_some : {A B : Type 0} (f : A → B) (o : Option A) (y : B) → option_map f o ≡ Some y → (x : A) × (o ≡ Some x) × (f x ≡ y)
map_some f None y e = absurd (cc)
map_some f (Some x) y e = let same : f x ≡ y = cc in (x, refl, same)

pub bind_some : {A B : Type 0} (f : A → Option B) (o : Option A) (y : B) → option_and_then f o ≡ Some y → (x : A) × (o ≡ Some x) × (f x ≡ Some y)
bind_some f None y e = absurd (cc)
bind_some f (Some x) y e = (x, refl, e)

pub some_is : (m n : ℕ) → Some m ≡ Some n → m ≡ n
some_is m n e = cc

pub none_some : (k : ℕ) → ◌≡◌ {A = Option ℕ} None (Some k) → ⊥
none_some k e = cc

pub same_some : {A : Type 0} (x y : A) → Some x ≡ Some y → x ≡ y
same_some x y e = cc

pub none_is_some : {A : Type 0} (x : A) → ◌≡◌ {A = Option A} None (Some x) → ⊥
none_is_some x e = cc

pub one_value : {A : Type 0} (o : Option A) (x y : A) → o ≡ Some x → o ≡ Some y → x ≡ y
one_value o x y e f = cc

pub some_value : (o : Option ℕ) → IsSome o → (w : ℕ) × (o ≡ Some w)
some_value None h = absurd cc
some_value (Some w) h = (w, refl)

pub map_of : {A B : Type 0} (f : A → B) (o : Option A) (y : B) → option_map f o ≡ Some y → (x : A) × (o ≡ Some x) × (y ≡ f x)
map_of f None y e = absurd (cc)
map_of f (Some x) y e = (x, refl, cc)

pub same_width : {m n : ℕ} → Some m ≡ Some n → n ≡ m
same_width e = cc

-- by the two sides of a test
pub by_side : {A : Type 0} (P : Type 0) (t : Bool) (a b : Option A) (x : A) → (if t then a else b) ≡ Some x → (t ≡ true → a ≡ Some x → P) → (t ≡ false → b ≡ Some x → P) → P
by_side P true a b x e h k = h refl e
by_side P false a b x e h k = k refl e

-- by the two sides of a test
pub by_test : {A : Type 0} (P : Type 0) (t : Bool) (a b : Option A) (x : A) → (if t then a else b) ≡ Some x → (t ≡ true → a ≡ Some x → P) → (b ≡ Some x → P) → P
by_test P true a b x e here there = here refl e
by_test P false a b x e here there = there e

pub more_choice : {A : Type 0} (t : Bool) (a b c d : Option A) (y : A) → (a ≡ Some y → c ≡ Some y) → (b ≡ Some y → d ≡ Some y) → (if t then a else b) ≡ Some y → (if t then c else d) ≡ Some y
more_choice true a b c d y one other e = one e
more_choice false a b c d y one other e = other e

pub some_by : {A : Type 0} (o : Option A) (x : A) → o ≡ Some x → IsSome o
some_by o x e = subst IsSome (sym e) refl

pub none_of : {A : Type 0} (o : Option A) → is_some o ≡ false → o ≡ None
none_of None h = refl
none_of (Some x) h = absurd (true≢false h)

pub none_or_some : {A : Type 0} (o : Option A) (x : A) → o ≡ None → o ≡ Some x → ⊥
none_or_some o x e f = cc

pub option_or-none : {A : Type 0} (o : Option A) → option_or o None ≡ o
option_or-none None = refl
option_or-none (Some x) = refl
