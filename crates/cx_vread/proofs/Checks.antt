-- What a search that found nothing tells.
use Rattle.std.proofs.Common.{◌≡◌, true, ◌&&◌, inl, inr, ℕ, List, Option, Some, None, option_map, Result, Err, refl, ap, sym, subst, ◌∙◌}
use Rattle.std.specs.Prelude.{IsTrue, is_none}
use Rattle.cx_vtree.specs.Plain.{PlainSource}
use Rattle.cx_vtree.specs.Layout.{is_laid_out}
use Rattle.cx_vtree.specs.Sound.{Break, break_of, is_sound}
use Rattle.cx_vsound.specs.Search.{told_break}
use Rattle.cx_vsound.specs.declared.search.Break as told
use Rattle.cx_vsound.specs.declared.search.Break.TheVariants as breaks
use Rattle.cx_vread.specs.declared.refusals.ReadRefusal.{ReadRefusal}
use Rattle.cx_vread.specs.declared.refusals.ReadRefusal.TheVariants as refusals
use Rattle.cx_vtree.specs.Spelling.{text_of}
use Rattle.cx_vtree.specs.declared.sources.Source.{Source}
use Rattle.cx_vread.specs.ReadAnswers.{refusal, Answers, ReadAs, TellsBy, TellsParts}

none_told : (o : Option Break) → option_map told_break o ≡ None → is_none o ≡ true
none_told None e = refl
none_told (Some b) e = absurd (cc)

-- laid out, and without a break: sound
pub sound_by : (s : PlainSource) → is_laid_out s ≡ true → None ≡ option_map told_break (break_of s) → IsTrue (is_sound s)
sound_by s laid none = ap (λ b. b && is_none (break_of s)) laid ∙ none_told (break_of s) (sym none)

-- a break that is told answers
pub break_answers : (s : PlainSource) (b : told.Break) (r : ReadRefusal) → option_map told_break (break_of s) ≡ Some b → r ≡ refusal b → Answers s (Err r)
break_answers s (breaks.Name line) r e same = subst (λ x. Answers s (Err x)) (sym same) e
break_answers s (breaks.Width line) r e same = subst (λ x. Answers s (Err x)) (sym same) e
break_answers s (breaks.Limit line) r e same = subst (λ x. Answers s (Err x)) (sym same) e

-- what parts are told as
pub memory_tells : (text : List ℕ) (read : PlainSource) → TellsParts text read (Err refusals.Memory)
memory_tells text read = go (option_map told_break (break_of read))
  where
    go : (o : Option told.Break) → TellsBy text read o (Err refusals.Memory)
    go None = λ e laid. tt
    go (Some b) = inr refl

pub break_tells : (text : List ℕ) (read : PlainSource) (b : told.Break) (result : Result Source ReadRefusal) → Some b ≡ option_map told_break (break_of read) → result ≡ Err (refusal b) → TellsParts text read result
break_tells text read b result found is = subst (λ o. TellsBy text read o result) found (inl is)

pub none_tells : (text : List ℕ) (read : PlainSource) (result : Result Source ReadRefusal) → None ≡ option_map told_break (break_of read)
    → (text ≡ text_of read → is_laid_out read ≡ true → ReadAs read result) → TellsParts text read result
none_tells text read result found h = subst (λ o. TellsBy text read o result) found h
