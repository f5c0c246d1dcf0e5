-- Tables of counts: what they hold, their shape, and how they grow.
use Rattle.std.specs.Prelude.{◌≡◌, ◌≢◌, ℕ, ◌+◌, ◌%◌, ◌^◌, ◌<◌, List, [], ◌∷◌, get_or, set, length, map}
use Rattle.cx_meaning.specs.Designs.{PlainDesign}
use Rattle.cx_meaning.specs.Instances.{Path, part_of, instance_at, tree_of}
use Rattle.cx_rewrites.specs.Tallies.{Tally, below}
use Rattle.cx_state.specs.Tables.{IsNumber}
use Rattle.cx_interp.specs.declared.counts.Counts.{Counts}

-- a table: for each instance, by its number, a number for each group of its component
abbrev pub plain_counts : Counts → List (List ℕ)
plain_counts counts = map (λ row. row.items) counts.rows.items

-- the count of group g of instance n; 0 where the table has none
abbrev pub count_at : List (List ℕ) → ℕ → ℕ → ℕ
count_at table n g = get_or (get_or table n []) g 0

-- each instance of a design has its row
abbrev pub HasRows : PlainDesign → List (List ℕ) → Type 0
HasRows d table =
    (n : ℕ) (path : Path) → IsNumber d n path
    → length (get_or table n []) ≡ length (part_of (instance_at (tree_of d) path)).groups

-- all counts are 0
abbrev pub IsZero : List (List ℕ) → Type 0
IsZero table = (n g : ℕ) → count_at table n g ≡ 0

-- the rows are as many and as long as before
abbrev pub KeepsShape : List (List ℕ) → List (List ℕ) → Type 0
KeepsShape old new = map (λ row. length row) new ≡ map (λ row. length row) old

-- one more at a place of a row, if it is there
abbrev pub one_more : List ℕ → ℕ → List ℕ
one_more row g = set row g ((get_or row g 0 + 1) % 2 ^ 64)

-- THE COUNTS OF INSTANCE n GROW by so much for each of its groups, modulo two to the 64, and no others
pub record GrowsAt (n : ℕ) (much : ℕ → ℕ) (old new : List (List ℕ)) : Type 0 where
  pub shape : KeepsShape old new
  pub own : (g : ℕ) → g < length (get_or old n []) → count_at new n g % 2 ^ 64 ≡ (count_at old n g + much g) % 2 ^ 64
  pub others : (m g : ℕ) → m ≢ n → count_at new m g ≡ count_at old m g

-- the tally of the instance at a path, as a tally of the whole tree
abbrev pub at_path : Path → Tally → Tally
at_path [] tally = tally
at_path (c ∷ path) tally = below c (at_path path tally)

-- THE COUNTS GROW by a tally of the whole tree, modulo two to the 64
abbrev pub Grows : PlainDesign → List (List ℕ) → List (List ℕ) → Tally → Type 0
Grows d old new tally =
    (n g : ℕ) (path : Path) → IsNumber d n path → g < length (part_of (instance_at (tree_of d) path)).groups
    → count_at new n g % 2 ^ 64 ≡ (count_at old n g + tally path g) % 2 ^ 64
