-- What reading a whole text tells of the source that it spells.
use Rattle.std.proofs.Common.{◌≡◌, ℕ, inl, inr, true, List, [], Option, Some, None, option_map, Result, Ok, Err, refl, ap, sym, subst, ◌∙◌}
use Rattle.std.specs.Prelude.{IfOk, IfErr, is_none}
use Rattle.std.proofs.lemmas.Bool.{and_parts}
use Rattle.cx_vtree.specs.declared.sources.Source.{Source}
use Rattle.cx_vtree.specs.Layout.{is_laid_out}
use Rattle.cx_vtree.specs.Plain.{PlainSource}
use Rattle.cx_vtree.specs.Sound.{Break, break_of, is_sound}
use Rattle.cx_vtree.specs.Spelling.{text_of}
use Rattle.cx_vsound.specs.Search.{told_break}
use Rattle.cx_vsound.specs.declared.search.Break as told
use Rattle.cx_vsound.specs.declared.search.Break.TheVariants as kinds
use Rattle.cx_vread.specs.declared.refusals.ReadRefusal.{ReadRefusal}
use Rattle.cx_vread.specs.declared.refusals.ReadRefusal.TheVariants as refusals
use Rattle.cx_vread.specs.Parts.{source_at}
use Rattle.cx_vread.specs.Astray.{IsText}
use Rattle.cx_vread_exprs.specs.Places.{Place}
use Rattle.cx_vread.specs.ReadAnswers.{Answers, ReadAs, StandsFor, IsAstray, Tells, TellsBy, TellsParts, refusal}
use Rattle.cx_vread.proofs.AstrayOnce.{none_astray}
use Rattle.cx_vread.proofs.Checks.{sound_by, break_answers}
use Rattle.cx_vread.proofs.Kept.{kept_source}
use Rattle.cx_vread.proofs.KeptSame.{held_kept}
use Rattle.cx_vread.proofs.KeptSources.{break_kept}
use Rattle.cx_vread.proofs.HeldSources.{sound_held}
use Rattle.cx_vread_exprs.proofs.NumberAgain.{clean}
use Rattle.cx_vread.proofs.SourceAgain.{source_kept}
use Rattle.cx_vread.proofs.SourceFound.{source_found}

spelled : (s : PlainSource) (text : List ℕ) → text ≡ text_of s → is_laid_out s ≡ true → source_at (clean text) ≡ Some (kept_source s, clean [])
spelled s text e laid = ap (λ t. source_at (clean t)) e ∙ source_kept s laid

-- where reading stops the lines are no text
pub stops_astray : (text : List ℕ) → source_at (clean text) ≡ None → IsText text → ⊥
stops_astray text none t = let some = spelled t.source text t.spelled t.laid in absurd (cc)

-- reading does not stop in it, unless memory runs out
pub stops_for_memory : (s : PlainSource) (text : List ℕ) (refused : ReadRefusal) → IsAstray text refused
    → text ≡ text_of s → is_laid_out s ≡ true → Answers s (Err refused)
stops_for_memory s text (refusals.Syntax line) told e laid = none_astray text line (record { source = s; spelled = e; laid = laid }) told
stops_for_memory s text (refusals.Name line) told e laid = absurd told
stops_for_memory s text (refusals.Width line) told e laid = absurd told
stops_for_memory s text (refusals.Limit line) told e laid = absurd told
stops_for_memory s text refusals.Memory told e laid = tt

abbrev value_of : Option (PlainSource × Place) → PlainSource → PlainSource
value_of None other = other
value_of (Some x) other = x.0

-- what is no refusal for a break
as_answers : (s : PlainSource) (result : Result Source ReadRefusal) → ReadAs s result → Answers s result
as_answers s (Ok source) h = h
as_answers s (Err (refusals.Syntax line)) h = h
as_answers s (Err (refusals.Name line)) h = absurd h
as_answers s (Err (refusals.Width line)) h = absurd h
as_answers s (Err (refusals.Limit line)) h = absurd h
as_answers s (Err refusals.Memory) h = tt

-- what is kept of a source is told as it is
told_by : (s : PlainSource) (text : List ℕ) (result : Result Source ReadRefusal) (o : Option told.Break) → option_map told_break (break_of s) ≡ o → text ≡ text_of s → is_laid_out s ≡ true
    → TellsBy text (kept_source s) o result → Answers s result
told_by s text result None none e laid h =
    let held = sound_held s (sound_by s laid (sym none)) in
    let same = held_kept s held in
    as_answers s result (subst (λ t. ReadAs t result) same (h (e ∙ ap text_of (sym same)) (ap is_laid_out same ∙ laid)))
told_by s text result (Some b) found e laid (inl is) = subst (λ r. Answers s r) (sym is) (break_answers s b (refusal b) found refl)
told_by s text result (Some b) found e laid (inr is) = subst (λ r. Answers s r) (sym is) tt

-- what is read is kept of the source
pub answers_it : (s read : PlainSource) (text : List ℕ) (end : List ℕ) (result : Result Source ReadRefusal) → source_at (clean text) ≡ Some (read, clean end) → TellsParts text read result
    → text ≡ text_of s → is_laid_out s ≡ true → Answers s result
answers_it s read text end result gives answers e laid =
    let same : Some (read, clean end) ≡ Some (kept_source s, clean []) = sym gives ∙ spelled s text e laid in
    let is : read ≡ kept_source s = ap (λ o. value_of o (kept_source s)) same in
    let breaks : option_map told_break (break_of read) ≡ option_map told_break (break_of s) = ap (λ t. option_map told_break (break_of t)) is ∙ ap (option_map told_break) (break_kept s) in
    told_by s text result (option_map told_break (break_of s)) refl e laid
    (subst (λ t. TellsBy text t (option_map told_break (break_of s)) result) is (subst (λ o. TellsBy text read o result) breaks answers))

no_break : (o : Option Break) → is_none o ≡ true → option_map told_break o ≡ None
no_break None h = refl
no_break (Some b) h = absurd (cc)

-- what has no break is not refused for one
unbroken : (s : PlainSource) (result : Result Source ReadRefusal) → option_map told_break (break_of s) ≡ None → Answers s result → ReadAs s result
unbroken s (Ok source) none answer = answer
unbroken s (Err (refusals.Syntax line)) none answer = answer
unbroken s (Err (refusals.Name line)) none answer = let both = sym none ∙ answer in absurd (cc)
unbroken s (Err (refusals.Width line)) none answer = let both = sym none ∙ answer in absurd (cc)
unbroken s (Err (refusals.Limit line)) none answer = let both = sym none ∙ answer in absurd (cc)
unbroken s (Err refusals.Memory) none answer = tt

-- so a sound source is read
pub sound_read : (s : PlainSource) (text : List ℕ) (result : Result Source ReadRefusal)
    → ((t : PlainSource) → text ≡ text_of t → is_laid_out t ≡ true → Answers t result)
    → text ≡ text_of s → is_sound s ≡ true → ReadAs s result
sound_read s text result answers e sound =
    let both = and_parts (is_laid_out s) (is_none (break_of s)) sound in
    unbroken s result (no_break (break_of s) both.1) (answers s e both.0)

-- what was read stands for the source that the text spells
pub stands_for : (text : List ℕ) (read : PlainSource) (end : List ℕ) → source_at (clean text) ≡ Some (read, clean end) → StandsFor text read
stands_for text read end gives =
    let f = source_found (clean text) read (clean end) gives refl in
    let breaks : option_map told_break (break_of read) ≡ option_map told_break (break_of f.source) =
    ap (λ t. option_map told_break (break_of t)) (sym f.kept_is) ∙ ap (option_map told_break) (break_kept f.source) in
    record {
      source = f.source;
      spelled = f.spelled;
      laid = f.laid;
      breaks = breaks;
      same = λ none. sym f.kept_is ∙ held_kept f.source (sound_held f.source (sound_by f.source f.laid (sym (sym breaks ∙ none))));
    }

-- what a refusal tells
tells_break : (text : List ℕ) (read : PlainSource) (b : told.Break) → StandsFor text read → option_map told_break (break_of read) ≡ Some b → Tells text (refusal b)
tells_break text read (kinds.Name line) h found = record { source = h.source; spelled = h.spelled; laid = h.laid; first = sym h.breaks ∙ found }
tells_break text read (kinds.Width line) h found = record { source = h.source; spelled = h.spelled; laid = h.laid; first = sym h.breaks ∙ found }
tells_break text read (kinds.Limit line) h found = record { source = h.source; spelled = h.spelled; laid = h.laid; first = sym h.breaks ∙ found }

-- where reading stops
pub astray_tells : (text : List ℕ) (r : ReadRefusal) → IsAstray text r → Tells text r
astray_tells text (refusals.Syntax line) h = h
astray_tells text (refusals.Name line) h = absurd h
astray_tells text (refusals.Width line) h = absurd h
astray_tells text (refusals.Limit line) h = absurd h
astray_tells text refusals.Memory h = tt

-- parts without a break are not refused for one
read_as_tells : (text : List ℕ) (read : PlainSource) (result : Result Source ReadRefusal) → ReadAs read result → IfErr result (Tells text)
read_as_tells text read (Ok source) h = tt
read_as_tells text read (Err (refusals.Syntax line)) h = absurd h
read_as_tells text read (Err (refusals.Name line)) h = absurd h
read_as_tells text read (Err (refusals.Width line)) h = absurd h
read_as_tells text read (Err (refusals.Limit line)) h = absurd h
read_as_tells text read (Err refusals.Memory) h = tt

fitting_tells : (text : List ℕ) (read : PlainSource) (result : Result Source ReadRefusal) (o : Option told.Break) → option_map told_break (break_of read) ≡ o → StandsFor text read → TellsBy text read o result → IfErr result (Tells text)
fitting_tells text read result None none h answer =
    let same = h.same none in
    read_as_tells text read result (answer (h.spelled ∙ ap text_of (sym same)) (ap is_laid_out same ∙ h.laid))
fitting_tells text read result (Some b) found h (inl is) = subst (λ r. IfErr r (Tells text)) (sym is) (tells_break text read b h found)
fitting_tells text read result (Some b) found h (inr is) = subst (λ r. IfErr r (Tells text)) (sym is) tt

pub tells_it : (text : List ℕ) (read : PlainSource) (end : List ℕ) (result : Result Source ReadRefusal) → source_at (clean text) ≡ Some (read, clean end) → TellsParts text read result → IfErr result (Tells text)
tells_it text read end result gives answers = fitting_tells text read result (option_map told_break (break_of read)) refl (stands_for text read end gives) answers

-- what is read is a text
pub reads_text : (text : List ℕ) (read : PlainSource) (end : List ℕ) (result : Result Source ReadRefusal) → source_at (clean text) ≡ Some (read, clean end) → IfOk result (λ source. IsText text)
reads_text text read end (Ok source) gives = let h = stands_for text read end gives in record { source = h.source; spelled = h.spelled; laid = h.laid }
reads_text text read end (Err r) gives = tt
