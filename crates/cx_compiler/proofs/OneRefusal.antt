-- What is told of a text that spells no sound source is one refusal: the first line astray is one, and so is the first break of what it spells.
use Rattle.std.proofs.Common.{◌≡◌, ◌≢◌, ℕ, List, Err, refl, ap}
use Rattle.cx_vtree.specs.Plain.{PlainSource}
use Rattle.cx_vread.specs.ReadAnswers.{Answers, IsBreakOf}
use Rattle.cx_vread.specs.declared.refusals.ReadRefusal.{ReadRefusal}
use Rattle.cx_vread.specs.declared.refusals.ReadRefusal.TheVariants as unread
use Rattle.cx_vread.proofs.AstrayOnce.{astray_at}
use Rattle.cx_compiler.specs.Simulated.{IsVerilogRefusal}

-- the first break of a source is one
one_break : (s : PlainSource) (a b : ReadRefusal) → a ≢ unread.Memory → b ≢ unread.Memory → Answers s (Err a) → Answers s (Err b) → a ≡ b
one_break s (unread.Syntax n) b told other h k = absurd h
one_break s a (unread.Syntax m) told other h k = absurd k
one_break s unread.Memory b told other h k = absurd (told refl)
one_break s a unread.Memory told other h k = absurd (other refl)
one_break s (unread.Name n) (unread.Name m) told other h k = let same : n ≡ m = cc in ap (λ x. unread.Name x) same
one_break s (unread.Width n) (unread.Width m) told other h k = let same : n ≡ m = cc in ap (λ x. unread.Width x) same
one_break s (unread.Limit n) (unread.Limit m) told other h k = let same : n ≡ m = cc in ap (λ x. unread.Limit x) same
one_break s (unread.Name n) (unread.Width m) told other h k = absurd (cc)
one_break s (unread.Name n) (unread.Limit m) told other h k = absurd (cc)
one_break s (unread.Width n) (unread.Name m) told other h k = absurd (cc)
one_break s (unread.Width n) (unread.Limit m) told other h k = absurd (cc)
one_break s (unread.Limit n) (unread.Name m) told other h k = absurd (cc)
one_break s (unread.Limit n) (unread.Width m) told other h k = absurd (cc)

-- where the text spells a source with a break
at_source : (text : List ℕ) (a b r : ReadRefusal) → IsVerilogRefusal text a → IsVerilogRefusal text b → IsBreakOf text r → a ≡ b
at_source text a b r h k p = one_break p.source a b h.told k.told (h.first p.source p.spelled p.laid) (k.first p.source p.spelled p.laid)

-- WHAT IS TOLD is one refusal
pub refusal_once : (text : List ℕ) (a b : ReadRefusal) → IsVerilogRefusal text a → IsVerilogRefusal text b → a ≡ b
refusal_once text (unread.Syntax n) (unread.Syntax m) h k = ap (λ x. unread.Syntax x) (astray_at text (Err (unread.Syntax n)) tt h.tells m k.tells)
refusal_once text (unread.Name n) b h k = at_source text (unread.Name n) b (unread.Name n) h k h.tells
refusal_once text (unread.Width n) b h k = at_source text (unread.Width n) b (unread.Width n) h k h.tells
refusal_once text (unread.Limit n) b h k = at_source text (unread.Limit n) b (unread.Limit n) h k h.tells
refusal_once text unread.Memory b h k = absurd (h.told refl)
refusal_once text (unread.Syntax n) (unread.Name m) h k = at_source text (unread.Syntax n) (unread.Name m) (unread.Name m) h k k.tells
refusal_once text (unread.Syntax n) (unread.Width m) h k = at_source text (unread.Syntax n) (unread.Width m) (unread.Width m) h k k.tells
refusal_once text (unread.Syntax n) (unread.Limit m) h k = at_source text (unread.Syntax n) (unread.Limit m) (unread.Limit m) h k k.tells
refusal_once text (unread.Syntax n) unread.Memory h k = absurd (k.told refl)
