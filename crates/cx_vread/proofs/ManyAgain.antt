-- Parts that are spelled one after another are read.
use Rattle.std.proofs.Common.{◌≡◌, ℕ, ◌<◌, ◌≤◌, zero, suc, Bool, true, false, List, [], ◌∷◌, ◌++◌, map, length, Some, refl, ◌∙◌, ap, sym, subst, arith, append_assoc, length-append, if◌then◌else◌}
use Rattle.std.specs.Prelude.{codes}
use Rattle.std.specs.List.{list_all}
use Rattle.std.proofs.lemmas.Bool.{and_parts}
use Rattle.cx_vtree.specs.Lines.{Line, line_text, lines_text}
use Rattle.cx_vread_exprs.specs.Places.{Place, Reads, then_reads, many}
use Rattle.cx_vread_exprs.proofs.NumberAgain.{clean}

abbrev pub joined_text : {X : Type 0} → (X → List ℕ) → List X → List ℕ
joined_text text [] = []
joined_text text (x ∷ xs) = text x ++ joined_text text xs

-- how parts of a kind are read where they are spelled, before what may follow: `kept` is what is read
pub record Again {X Y : Type 0} (starts : Place → Bool) (one : Place → Reads Y) (kept : X → Y) (text : X → List ℕ) (good : X → Bool) (follows : List ℕ → Type 0) : Type 0 where
  pub starts_so : (x : X) (y : List ℕ) → good x ≡ true → starts (clean (text x ++ y)) ≡ true
  pub reads_so : (x : X) (y : List ℕ) → good x ≡ true → follows y → one (clean (text x ++ y)) ≡ Some (kept x, clean y)
  pub follows_so : (x : X) (y : List ℕ) → good x ≡ true → follows (text x ++ y)
  pub some_text : (x : X) → good x ≡ true → 0 < length (text x)

module _ {X Y : Type 0} {starts : Place → Bool} {one : Place → Reads Y} {kept : X → Y} {text : X → List ℕ} {good : X → Bool} {follows : List ℕ → Type 0} where
  after_all : (a : Again starts one kept text good follows) (xs : List X) (z : List ℕ) → list_all good xs ≡ true → follows z → follows (joined_text text xs ++ z)
  after_all a [] z all end = end
  after_all a (x ∷ xs) z all end =
      subst follows (sym (append_assoc (text x) (joined_text text xs) z)) (a.follows_so x (joined_text text xs ++ z) (and_parts (good x) (list_all good xs) all).0)

  pub many_again : (a : Again starts one kept text good follows) (xs : List X) (n : ℕ) (z : List ℕ) → list_all good xs ≡ true → follows z → starts (clean z) ≡ false → length xs ≤ n
      → many starts one n (clean (joined_text text xs ++ z)) ≡ Some (map kept xs, clean z)
  many_again a [] zero z all end stops room = refl
  many_again a [] (suc n) z all end stops room =
      ap (λ b. if b then then_reads (one (clean z)) (λ x q. then_reads (many starts one n q) (λ xs r. Some (x ∷ xs, r))) else Some ([], clean z)) stops
  many_again a (x ∷ xs) zero z all end stops room = absurd (omega arith)
  many_again a (x ∷ xs) (suc n) z all end stops room =
      let parts = and_parts (good x) (list_all good xs) all in
      let y : List ℕ = joined_text text xs ++ z in
      ap (λ t. many starts one (suc n) (clean t)) (append_assoc (text x) (joined_text text xs) z)
      ∙ ap (λ b. if b then then_reads (one (clean (text x ++ y))) (λ x q. then_reads (many starts one n q) (λ xs r. Some (x ∷ xs, r))) else Some ([], clean (text x ++ y))) (a.starts_so x y parts.0)
      ∙ ap (λ r. then_reads r (λ x q. then_reads (many starts one n q) (λ xs r. Some (x ∷ xs, r)))) (a.reads_so x y parts.0 (after_all a xs z parts.1 end))
      ∙ ap (λ r. then_reads r (λ xs r. Some (kept x ∷ xs, r))) (many_again a xs n z parts.1 end stops (omega arith))

  room_for : (a : Again starts one kept text good follows) (xs : List X) (z : List ℕ) → list_all good xs ≡ true → length xs ≤ length (joined_text text xs ++ z)
  room_for a [] z all = omega arith
  room_for a (x ∷ xs) z all =
      let parts = and_parts (good x) (list_all good xs) all in
      let rest = room_for a xs z parts.1 in
      let one_byte = a.some_text x parts.0 in
      let e = ap length (append_assoc (text x) (joined_text text xs) z) in
      let l = length-append (text x) (joined_text text xs ++ z) in
      omega arith

  -- with as many turns as there are bytes
  pub all_again : (a : Again starts one kept text good follows) (xs : List X) (z : List ℕ) → list_all good xs ≡ true → follows z → starts (clean z) ≡ false
      → many starts one (length (joined_text text xs ++ z)) (clean (joined_text text xs ++ z)) ≡ Some (map kept xs, clean z)
  all_again a xs z all end stops = many_again a xs (length (joined_text text xs ++ z)) z all end stops (room_for a xs z all)

-- lines of one kind
pub lines_joined : {X : Type 0} (line : X → Line) (xs : List X) → lines_text (map line xs) ≡ joined_text (λ x. line_text (line x) ++ codes "\n") xs
lines_joined line [] = refl
lines_joined line (x ∷ xs) = ap (λ t. (line_text (line x) ++ codes "\n") ++ t) (lines_joined line xs)

-- nothing is asked of what follows
abbrev pub Anything : List ℕ → Type 0
Anything rest = Unit {0}
