-- Lines of comments before a text.
use Rattle.std.specs.Prelude.{◌≡◌, ℕ, true, List, [], ◌∷◌, ◌++◌}
use Rattle.std.specs.List.{list_all}
use Rattle.cx_lex.specs.Bytes.{is_in_line}

-- each begins with `//` and ends with a line feed, and has no other
pub data AreComments : List ℕ → Type 0 where
  no_line : AreComments []
  a_line : (body rest : List ℕ) → list_all is_in_line body ≡ true → AreComments rest
      → AreComments (47 ∷ 47 ∷ body ++ 10 ∷ rest)
