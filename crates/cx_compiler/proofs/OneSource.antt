-- A TEXT SPELLS one sound source: what is read of the text of a sound source is that source.
use Rattle.std.proofs.Common.{◌≡◌, ℕ, List, [], Option, Some, None, sym, ap, ◌∙◌, true}
use Rattle.std.proofs.lemmas.Bool.{and_parts}
use Rattle.std.specs.Prelude.{is_none}
use Rattle.cx_vtree.specs.Plain.{PlainSource}
use Rattle.cx_vtree.specs.Layout.{is_laid_out}
use Rattle.cx_vtree.specs.Sound.{break_of, is_sound}
use Rattle.cx_vtree.specs.Spelling.{text_of}
use Rattle.cx_vread_exprs.specs.Places.{Place}
use Rattle.cx_vread_exprs.proofs.NumberAgain.{clean}
use Rattle.cx_vread.specs.Parts.{source_at}
use Rattle.cx_vread.proofs.HeldSources.{sound_held}
use Rattle.cx_vread.proofs.SourceAgain.{source_again}
use Rattle.cx_compiler.specs.Simulated.{IsVerilogOf}

abbrev source_or : PlainSource → Option (PlainSource × Place) → PlainSource
source_or s None = s
source_or s (Some x) = x.0

read_again : (s : PlainSource) → is_sound s ≡ true → source_at (clean (text_of s)) ≡ Some (s, clean [])
read_again s sound = source_again s (and_parts (is_laid_out s) (is_none (break_of s)) sound).0 (sound_held s sound)

pub one_source : (s t : PlainSource) → is_sound s ≡ true → is_sound t ≡ true → text_of s ≡ text_of t → s ≡ t
one_source s t a b e = ap (source_or s) (sym (read_again s a) ∙ ap (λ x. source_at (clean x)) e ∙ read_again t b)

pub one_source_of : (text : List ℕ) (s t : PlainSource) → IsVerilogOf text s → IsVerilogOf text t → s ≡ t
one_source_of text s t a b = one_source s t a.sound b.sound (sym a.spelled ∙ b.spelled)
