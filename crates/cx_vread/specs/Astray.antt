-- The first line with which the lines so far begin no text.
use Rattle.std.specs.Prelude.{◌≡◌, ℕ, zero, suc, ◌+◌, ◌==◌, nat_le, min, Bool, true, false, List, [], ◌∷◌, ◌++◌, Option, Some, None, if◌then◌else◌}
use Rattle.cx_vtree.specs.Layout.{is_laid_out}
use Rattle.cx_vtree.specs.Plain.{PlainSource}
use Rattle.cx_vtree.specs.Spelling.{text_of}
use Rattle.cx_vsound.specs.Search.{last_line}

-- the bytes of the first lines, each with its line feed
abbrev pub first_lines : ℕ → List ℕ → List ℕ
first_lines zero bytes = []
first_lines (suc n) [] = []
first_lines (suc n) (b ∷ bs) = b ∷ (if b == 10 then first_lines n bs else first_lines (suc n) bs)

-- how many line feeds there are
abbrev pub feeds_in : List ℕ → ℕ
feeds_in [] = 0
feeds_in (b ∷ bs) = if b == 10 then suc (feeds_in bs) else feeds_in bs

-- these bytes spell a source
pub record IsText (bytes : List ℕ) : Type 0 where
  pub source : PlainSource
  pub spelled : bytes ≡ text_of source
  pub laid : is_laid_out source ≡ true

-- some text begins with these bytes
pub record BeginsText (bytes : List ℕ) : Type 0 where
  pub behind : List ℕ
  pub whole : IsText (bytes ++ behind)

-- Whether the first n lines begin a text. What stands behind the last line feed is one line more, the last, and empty in a text: so with
-- it the lines begin a text where they are one.
abbrev pub LinesBeginBy : Bool → ℕ → List ℕ → Type 0
LinesBeginBy true n text = BeginsText (first_lines n text)
LinesBeginBy false n text = IsText text

abbrev pub LinesBegin : ℕ → List ℕ → Type 0
LinesBegin n text = LinesBeginBy (nat_le n (feeds_in text)) n text

-- the lines before this one begin a text, and with it they begin none; lines from 2^32 - 1 on are told as that one
pub record IsFirstAstray (text : List ℕ) (line : ℕ) : Type 0 where
  pub before : ℕ
  pub line_is : line ≡ min (before + 1) last_line
  pub begin : LinesBegin before text
  pub astray : LinesBegin (before + 1) text → ⊥

-- the first such line; where there is none, the lines are a text
abbrev pub FirstAstray : List ℕ → Option ℕ → Type 0
FirstAstray text (Some line) = IsFirstAstray text line
FirstAstray text None = IsText text
