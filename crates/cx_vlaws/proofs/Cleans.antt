-- Lines that break no rule.
use Rattle.std.proofs.Common.{◌≡◌, ℕ, ◌+◌, List, [], ◌∷◌, ◌++◌, Bool, true, false, Option, is_none, refl}
use Rattle.cx_vtree.specs.Sound.{Faults, no_faults, Break, break_at, first_break}

-- none of these lines breaks a rule
abbrev pub Clean : List Faults → Type 0
Clean [] = Unit {0}
Clean (f ∷ fs) = (f ≡ no_faults) × Clean fs

pub clean_left : (xs ys : List Faults) → Clean (xs ++ ys) → Clean xs
clean_left [] ys c = tt
clean_left (f ∷ xs) ys c = (c.0, clean_left xs ys c.1)

pub clean_right : (xs ys : List Faults) → Clean (xs ++ ys) → Clean ys
clean_right [] ys c = c
clean_right (f ∷ xs) ys c = clean_right xs ys c.1

line_clear : (name width limit : Bool) (line : ℕ) (later : Option Break) → is_none (break_at line (record { name = name; width = width; limit = limit }) later) ≡ true
    → (◌≡◌ {A = Faults} (record { name = name; width = width; limit = limit }) no_faults) × (is_none later ≡ true)
line_clear true width limit line later e = absurd (cc)
line_clear false true limit line later e = absurd (cc)
line_clear false false true line later e = absurd (cc)
line_clear false false false line later e = (refl, e)

pub clean_from_none : (fs : List Faults) (line : ℕ) → is_none (first_break line fs) ≡ true → Clean fs
clean_from_none [] line e = tt
clean_from_none (f ∷ fs) line e =
    let here = line_clear f.name f.width f.limit line (first_break (line + 1) fs) e in
    (here.0, clean_from_none fs (line + 1) here.1)
