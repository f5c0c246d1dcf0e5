-- A text has no line astray, and any other bytes have one first.
use Rattle.std.proofs.Common.{◌≡◌, ⊎_elim, ℕ, ◌+◌, ◌≤◌, zero, suc, ◌==◌, Bool, true, false, List, [], ◌∷◌, ◌++◌, Result, Ok, Err, refl, ◌∙◌, ap, sym, subst, arith, append_assoc, if◌then◌else◌}
use Rattle.std.specs.Prelude.{nat_le, min, IfOk, IfErr}
use Rattle.std.proofs.lemmas.Bool.{leb-true, leb-false, cases_lt}
use Rattle.cx_vtree.specs.declared.sources.Source.{Source}
use Rattle.cx_vsound.specs.Search.{last_line}
use Rattle.cx_vread.specs.declared.refusals.ReadRefusal.{ReadRefusal}
use Rattle.cx_vread.specs.declared.refusals.ReadRefusal.TheVariants as refusals
use Rattle.cx_vread.specs.Astray.{first_lines, feeds_in, IsText, LinesBeginBy, LinesBegin, IsFirstAstray}
use Rattle.cx_vread.specs.ReadAnswers.{IsBreakOf, Tells, AstrayAt}

-- fewer lines stand before more
fewer_lines : (n m : ℕ) (x : List ℕ) → n ≤ m → (y : List ℕ) × (first_lines m x ≡ first_lines n x ++ y)
fewer_lines zero m x le = (first_lines m x, refl)
fewer_lines (suc n) zero x le = absurd (omega arith)
fewer_lines (suc n) (suc m) [] le = ([], refl)
fewer_lines (suc n) (suc m) (b ∷ bs) le = pick (b == 10) (fewer_lines n m bs (omega arith)) (fewer_lines (suc n) (suc m) bs le)
  where
    pick : (t : Bool) → (y : List ℕ) × (first_lines m bs ≡ first_lines n bs ++ y) → (y : List ℕ) × (first_lines (suc m) bs ≡ first_lines (suc n) bs ++ y)
        → (y : List ℕ) × (b ∷ (if t then first_lines m bs else first_lines (suc m) bs) ≡ (b ∷ (if t then first_lines n bs else first_lines (suc n) bs)) ++ y)
    pick true h k = (h.0, ap (λ t. b ∷ t) h.1)
    pick false h k = (k.0, ap (λ t. b ∷ t) k.1)

lines_before : (n : ℕ) (x : List ℕ) → (y : List ℕ) × (x ≡ first_lines n x ++ y)
lines_before zero x = (x, refl)
lines_before (suc n) [] = ([], refl)
lines_before (suc n) (b ∷ bs) = pick (b == 10) (lines_before n bs) (lines_before (suc n) bs)
  where
    pick : (t : Bool) → (y : List ℕ) × (bs ≡ first_lines n bs ++ y) → (y : List ℕ) × (bs ≡ first_lines (suc n) bs ++ y) → (y : List ℕ) × (b ∷ bs ≡ (b ∷ (if t then first_lines n bs else first_lines (suc n) bs)) ++ y)
    pick true h k = (h.0, ap (λ t. b ∷ t) h.1)
    pick false h k = (k.0, ap (λ t. b ∷ t) k.1)

-- where more lines begin a text, fewer do
fewer_begin : (n m : ℕ) (x : List ℕ) → n ≤ m → LinesBegin m x → LinesBegin n x
fewer_begin n m x le h = go (nat_le n (feeds_in x)) (nat_le m (feeds_in x)) refl refl h
  where
    go : (s t : Bool) → nat_le n (feeds_in x) ≡ s → nat_le m (feeds_in x) ≡ t → LinesBeginBy t m x → LinesBeginBy s n x
    go true true few more h =
        let f = fewer_lines n m x le in
        record { behind = f.0 ++ h.behind; whole = subst IsText (ap (λ t. t ++ h.behind) f.1 ∙ append_assoc (first_lines n x) f.0 h.behind) h.whole }
    go true false few more h = let f = lines_before n x in record { behind = f.0; whole = subst IsText f.1 h }
    go false true few more h =
        let low = leb-false n (feeds_in x) few in
        let high = leb-true m (feeds_in x) more in
        absurd (omega arith)
    go false false few more h = h

-- a text has no line astray
text_begins : (n : ℕ) (x : List ℕ) → IsText x → LinesBegin n x
text_begins n x h = go (nat_le n (feeds_in x))
  where
    go : (t : Bool) → LinesBeginBy t n x
    go true = let f = lines_before n x in record { behind = f.0; whole = subst IsText f.1 h }
    go false = h

pub none_astray : (x : List ℕ) (line : ℕ) → IsText x → IsFirstAstray x line → ⊥
none_astray x line h a = a.astray (text_begins (a.before + 1) x h)

-- the first line astray is one
one_astray : (x : List ℕ) (one other : ℕ) → IsFirstAstray x one → IsFirstAstray x other → one ≡ other
one_astray x one other a b = ⊎_elim
    (λ lt. absurd (a.astray (fewer_begin (a.before + 1) b.before x (omega arith) b.begin)))
    (λ le. ⊎_elim (λ lt. absurd (b.astray (fewer_begin (b.before + 1) a.before x (omega arith) a.begin)))
    (λ ge. let first = a.line_is in let second = b.line_is in let same : a.before ≡ b.before = omega arith in first ∙ ap (λ n. min (n + 1) last_line) same ∙ sym second)
    (cases_lt b.before a.before))
    (cases_lt a.before b.before)

break_none : (x : List ℕ) (r : ReadRefusal) (line : ℕ) → IsFirstAstray x line → IsBreakOf x r → ⊥
break_none x r line a h = none_astray x line (record { source = h.source; spelled = h.spelled; laid = h.laid }) a

-- so it is told, unless memory is wanting
pub astray_at : (text : List ℕ) (result : Result Source ReadRefusal) → IfOk result (λ source. IsText text) → IfErr result (Tells text) → (line : ℕ) → IsFirstAstray text line → AstrayAt line result
astray_at text (Ok source) ok err line a = none_astray text line ok a
astray_at text (Err (refusals.Syntax told)) ok err line a = one_astray text told line err a
astray_at text (Err (refusals.Name told)) ok err line a = break_none text (refusals.Name told) line a err
astray_at text (Err (refusals.Width told)) ok err line a = break_none text (refusals.Width told) line a err
astray_at text (Err (refusals.Limit told)) ok err line a = break_none text (refusals.Limit told) line a err
astray_at text (Err refusals.Memory) ok err line a = tt
