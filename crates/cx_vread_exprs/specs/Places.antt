-- Where reading stands, and how one reading follows another.
use Rattle.std.specs.Prelude.{ℕ, zero, suc, ◌==◌, Bool, List, [], ◌∷◌, ◌++◌, Option, Some, None, is_some, if◌then◌else◌}

-- the bytes that are left, and whether a tree keeps of all before which rules it breaks
pub record Place : Type 0 where
  pub rest : List ℕ
  pub fits : Bool

-- what is read, and where that ends; None where nothing of the kind begins here
abbrev pub Reads : Type 0 → Type 0
Reads X = Option (X × Place)

abbrev pub moved : Place → List ℕ → Place
moved p rest = record { rest = rest; fits = p.fits }

abbrev pub then_reads : {X Y : Type 0} → Reads X → (X → Place → Option Y) → Option Y
then_reads None f = None
then_reads (Some x) f = f x.0 x.1

abbrev pub then_at : {Y : Type 0} → Option Place → (Place → Option Y) → Option Y
then_at None f = None
then_at (Some p) f = f p

-- the bytes after a fixed text
abbrev pub after_text : List ℕ → List ℕ → Option (List ℕ)
after_text [] bytes = Some bytes
after_text (w ∷ ws) [] = None
after_text (w ∷ ws) (b ∷ bs) = if b == w then after_text ws bs else None

abbrev pub at_bytes : Place → Option (List ℕ) → Option Place
at_bytes p None = None
at_bytes p (Some rest) = Some (moved p rest)

abbrev pub after : List ℕ → Place → Option Place
after want p = at_bytes p (after_text want p.rest)

abbrev pub begins : List ℕ → Place → Bool
begins want p = is_some (after_text want p.rest)

-- parts one after another, at most so many, while the bytes begin as such a part does
abbrev pub many : {X : Type 0} → (Place → Bool) → (Place → Reads X) → ℕ → Place → Reads (List X)
many {X} starts one zero p = Some ([], p)
many {X} starts one (suc n) p =
    if starts p
    then then_reads (one p) (λ x q. then_reads (many starts one n q) (λ xs r. Some (x ∷ xs, r)))
    else Some ([], p)

-- behind what was read before
abbrev pub with_front : {X : Type 0} → List X → Reads (List X) → Reads (List X)
with_front front reads = then_reads reads (λ xs p. Some (front ++ xs, p))
