-- A source whose lines break no rule has no first break.
use Rattle.std.proofs.Common.{◌≡◌, ℕ, ◌+◌, false, List, [], ◌∷◌, ◌++◌, Option, Some, None, if◌then◌else◌, refl, ap, ◌∙◌}
use Rattle.cx_vtree.specs.Plain.{PlainSource}
use Rattle.cx_vtree.specs.Sound.{Faults, Break, NameAt, WidthAt, LimitAt, first_break, break_at, break_of, faults_of}

-- a line that breaks no rule
pub record IsClean (f : Faults) : Type 0 where
  pub name : f.name ≡ false
  pub width : f.width ≡ false
  pub limit : f.limit ≡ false

pub data AreClean : List Faults → Type 0 where
  no_lines : AreClean []
  a_line : {f : Faults} {fs : List Faults} → IsClean f → AreClean fs → AreClean (f ∷ fs)

-- some lines before others
pub clean-append : (fs gs : List Faults) → AreClean fs → AreClean gs → AreClean (fs ++ gs)
clean-append [] gs one other = other
clean-append (f ∷ fs) gs (a_line here later) other = a_line here (clean-append fs gs later other)

break_at-clean : (line : ℕ) (f : Faults) (later : Option Break) → IsClean f → break_at line f later ≡ later
break_at-clean line f later h =
    ap (λ b. if b then Some (NameAt line) else (if f.width then Some (WidthAt line) else (if f.limit then Some (LimitAt line) else later))) h.name
    ∙ ap (λ b. if b then Some (WidthAt line) else (if f.limit then Some (LimitAt line) else later)) h.width
    ∙ ap (λ b. if b then Some (LimitAt line) else later) h.limit

-- lines that break no rule have no first break
pub first_break-clean : (line : ℕ) (fs : List Faults) → AreClean fs → first_break line fs ≡ None
first_break-clean line [] h = refl
first_break-clean line (f ∷ fs) (a_line here later) = break_at-clean line f (first_break (line + 1) fs) here ∙ first_break-clean (line + 1) fs later

pub break_of-clean : (s : PlainSource) → AreClean (faults_of s) → break_of s ≡ None
break_of-clean s h = first_break-clean 1 (faults_of s) h
