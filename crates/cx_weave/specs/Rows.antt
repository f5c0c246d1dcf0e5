-- Tables with a row for each instance: what the controls take, counted up to 2^64 - 1.
use Rattle.std.specs.Prelude.{◌≡◌, ℕ, ◌-◌, ◌^◌, ◌<◌, ◌≤◌, List, length, get_or}
use Rattle.cx_meaning.specs.Designs.{PlainDesign}
use Rattle.cx_meaning.specs.Instances.{Path, instance_at, paths_of, tree_of}
use Rattle.cx_state.specs.Tables.{IsNumber}
use Rattle.cx_weave.specs.declared.needs.Piece.{Piece}
use Rattle.cx_weave.specs.Takes.{control_need}

abbrev pub HasRow : PlainDesign → List ℕ → Type 0
HasRow d table = length table ≡ length (paths_of (tree_of d))

-- a count below 2^64 - 1 is at least so much
abbrev pub Covers : ℕ → ℕ → Type 0
Covers told n = told < 2 ^ 64 - 1 → n ≤ told

-- a table covers what the controls of the instances behind instance n take
abbrev pub CoversBehind : PlainDesign → Piece → List ℕ → ℕ → Type 0
CoversBehind d k table n =
    (m : ℕ) (path : Path) → n < m → IsNumber d m path
    → Covers (get_or table m 0) (control_need k (instance_at (tree_of d) path))

-- and those from instance n on
abbrev pub CoversFrom : PlainDesign → Piece → List ℕ → ℕ → Type 0
CoversFrom d k table n =
    (m : ℕ) (path : Path) → n ≤ m → IsNumber d m path
    → Covers (get_or table m 0) (control_need k (instance_at (tree_of d) path))
