-- What is answered to a text that spells a source.
use Rattle.std.specs.Prelude.{◌≡◌, ◌⊎◌, true, ℕ, List, Option, Some, None, option_map, Result, Ok, Err}
use Rattle.cx_vtree.specs.declared.sources.Source.{Source}
use Rattle.cx_vtree.specs.Plain.{PlainSource}
use Rattle.cx_vtree.specs.PlainSources.{plain_source}
use Rattle.cx_vtree.specs.Layout.{is_laid_out}
use Rattle.cx_vtree.specs.Sound.{break_of}
use Rattle.cx_vtree.specs.Spelling.{text_of}
use Rattle.cx_vsound.specs.Search.{told_break}
use Rattle.cx_vsound.specs.declared.search.Break as told
use Rattle.cx_vsound.specs.declared.search.Break.TheVariants as breaks
use Rattle.cx_vread.specs.Astray.{IsFirstAstray}
use Rattle.cx_vread.specs.declared.refusals.ReadRefusal.{ReadRefusal}
use Rattle.cx_vread.specs.declared.refusals.ReadRefusal.TheVariants as refusals

-- a break as a refusal
abbrev pub refusal : told.Break → ReadRefusal
refusal (breaks.Name line) = refusals.Name line
refusal (breaks.Width line) = refusals.Width line
refusal (breaks.Limit line) = refusals.Limit line

-- the source itself, or its first break
abbrev pub Answers : PlainSource → Result Source ReadRefusal → Type 0
Answers s (Ok source) = plain_source source ≡ s
Answers s (Err (refusals.Syntax line)) = ⊥
Answers s (Err (refusals.Name line)) = option_map told_break (break_of s) ≡ Some (breaks.Name line)
Answers s (Err (refusals.Width line)) = option_map told_break (break_of s) ≡ Some (breaks.Width line)
Answers s (Err (refusals.Limit line)) = option_map told_break (break_of s) ≡ Some (breaks.Limit line)
Answers s (Err refusals.Memory) = Unit {0}

-- the source itself
abbrev pub ReadAs : PlainSource → Result Source ReadRefusal → Type 0
ReadAs s (Ok source) = plain_source source ≡ s
ReadAs s (Err (refusals.Syntax line)) = ⊥
ReadAs s (Err (refusals.Name line)) = ⊥
ReadAs s (Err (refusals.Width line)) = ⊥
ReadAs s (Err (refusals.Limit line)) = ⊥
ReadAs s (Err refusals.Memory) = Unit {0}

-- what is answered to parts that were read of a text: their first break, or the parts where they have none and spell the text
abbrev pub TellsBy : List ℕ → PlainSource → Option told.Break → Result Source ReadRefusal → Type 0
TellsBy text read None result = text ≡ text_of read → is_laid_out read ≡ true → ReadAs read result
TellsBy text read (Some b) result = (result ≡ Err (refusal b)) ⊎ (result ≡ Err refusals.Memory)

abbrev pub TellsParts : List ℕ → PlainSource → Result Source ReadRefusal → Type 0
TellsParts text read result = TellsBy text read (option_map told_break (break_of read)) result

-- a refusal where reading stopped: for the first line astray, unless memory is wanting
abbrev pub IsAstray : List ℕ → ReadRefusal → Type 0
IsAstray text (refusals.Syntax line) = IsFirstAstray text line
IsAstray text (refusals.Name line) = ⊥
IsAstray text (refusals.Width line) = ⊥
IsAstray text (refusals.Limit line) = ⊥
IsAstray text refusals.Memory = Unit {0}

-- What was read of a text stands for the source that the text spells: both have one first break, and where they have none they are one.
pub record StandsFor (text : List ℕ) (read : PlainSource) : Type 0 where
  pub source : PlainSource
  pub spelled : text ≡ text_of source
  pub laid : is_laid_out source ≡ true
  pub breaks : option_map told_break (break_of read) ≡ option_map told_break (break_of source)
  pub same : option_map told_break (break_of read) ≡ None → read ≡ source

-- the text spells a source, of which this is the first break
pub record IsBreakOf (text : List ℕ) (refused : ReadRefusal) : Type 0 where
  pub source : PlainSource
  pub spelled : text ≡ text_of source
  pub laid : is_laid_out source ≡ true
  pub first : Answers source (Err refused)

-- WHAT A REFUSAL TELLS OF THE TEXT: the first line with which the lines so far begin no text; or the first break of what it spells
abbrev pub Tells : List ℕ → ReadRefusal → Type 0
Tells text (refusals.Syntax line) = IsFirstAstray text line
Tells text (refusals.Name line) = IsBreakOf text (refusals.Name line)
Tells text (refusals.Width line) = IsBreakOf text (refusals.Width line)
Tells text (refusals.Limit line) = IsBreakOf text (refusals.Limit line)
Tells text refusals.Memory = Unit {0}

-- what is answered where this is the first line with which the lines so far begin no text
abbrev pub AstrayAt : ℕ → Result Source ReadRefusal → Type 0
AstrayAt line (Ok source) = ⊥
AstrayAt line (Err (refusals.Syntax told)) = told ≡ line
AstrayAt line (Err (refusals.Name told)) = ⊥
AstrayAt line (Err (refusals.Width told)) = ⊥
AstrayAt line (Err (refusals.Limit told)) = ⊥
AstrayAt line (Err refusals.Memory) = Unit {0}
