-- Facts of what `Sizes` defines, that several crates above take.
use Rattle.std.proofs.Common.{ℕ, zero, suc, ◌≤◌, List, [], ◌∷◌, length, get_or, arith, ◌≡◌, ◌+◌, refl, Bool, ap, false, true, ◌++◌}
use Rattle.cx_meaning.specs.Designs.{PlainComponent, no_component, PlainCell}
use Rattle.cx_rules.specs.Sizes.{sizes_of, size_of}
use Rattle.cx_rules.specs.Externals.{if_external, row_for, rows_of}

pub few : (parts : List PlainComponent) (k : ℕ) → length (get_or parts k no_component).cells ≤ sizes_of parts
few [] k = omega arith
few (part ∷ parts) zero = omega arith
few (part ∷ parts) (suc k) = let h = few parts k in omega (arith, h)

pub sizes_many : (parts : List PlainComponent) → length parts ≤ sizes_of parts
sizes_many [] = omega arith
sizes_many (x ∷ parts) =
    let h : length parts ≤ sizes_of parts = sizes_many parts in
    let all : size_of x + 1 + sizes_of parts ≡ sizes_of (x ∷ parts) = refl in
    omega (arith, all)

pub rows-both : (xs ys : List PlainCell) → rows_of (xs ++ ys) ≡ rows_of xs ++ rows_of ys
rows-both [] ys = refl
rows-both (c ∷ cs) ys = choice c.external (rows-both cs ys)
  where
    choice : (b : Bool) → rows_of (cs ++ ys) ≡ rows_of cs ++ rows_of ys → if_external b c (rows_of (cs ++ ys)) ≡ if_external b c (rows_of cs) ++ rows_of ys
    choice true ih = ap (λ l. row_for c ∷ l) ih
    choice false ih = ih
