-- Lines that break the same rules, as far as the first that breaks one.
use Rattle.std.proofs.Common.{◌≡◌, ℕ, ◌+◌, not, Bool, true, false, ◌||◌, List, [], ◌∷◌, ◌++◌, Option, Some, refl, ◌∙◌, ap, if◌then◌else◌}
use Rattle.std.specs.List.{list_all}
use Rattle.std.proofs.lemmas.Bool.{and_from}
use Rattle.cx_vtree.specs.Sound.{Faults, Break, NameAt, WidthAt, LimitAt, break_at, first_break}
use Rattle.cx_vread.proofs.SoundHeld.{is_clean}

-- two lines are told alike, and what comes later
abbrev pub SameKind : Faults → Faults → Type 0
SameKind f g = (line : ℕ) (later : Option Break) → break_at line f later ≡ break_at line g later

abbrev pub Alike : List Faults → List Faults → Type 0
Alike [] [] = Unit {0}
Alike [] (g ∷ gs) = ⊥
Alike (f ∷ fs) [] = ⊥
Alike (f ∷ fs) (g ∷ gs) = SameKind f g × (is_clean f ≡ true → Alike fs gs)

-- a rule on widths counts where none on names is broken, and a limit where neither is
kind_same : (n w l m v k : Bool) → n ≡ m → (n ≡ false → w ≡ v) → (n ≡ false → w ≡ false → l ≡ k) → SameKind (record { name = n; width = w; limit = l }) (record { name = m; width = v; limit = k })
kind_same true w l m v k e f g line later = ap (λ b. if b then Some (NameAt line) else (if v then Some (WidthAt line) else (if k then Some (LimitAt line) else later))) e
kind_same false true l m v k e f g line later =
    ap (λ b. if b then Some (WidthAt line) else (if k then Some (LimitAt line) else later)) (f refl)
    ∙ ap (λ b. if b then Some (NameAt line) else (if v then Some (WidthAt line) else (if k then Some (LimitAt line) else later))) e
kind_same false false l m v k e f g line later =
    ap (λ b. if b then Some (LimitAt line) else later) (g refl refl)
    ∙ ap (λ b. if b then Some (WidthAt line) else (if k then Some (LimitAt line) else later)) (f refl)
    ∙ ap (λ b. if b then Some (NameAt line) else (if v then Some (WidthAt line) else (if k then Some (LimitAt line) else later))) e

pub same_kind : (f g : Faults) → f.name ≡ g.name → (f.name ≡ false → f.width ≡ g.width) → (f.name ≡ false → f.width ≡ false → f.limit ≡ g.limit) → SameKind f g
same_kind f g name width limit = kind_same f.name f.width f.limit g.name g.width g.limit name width limit

pub alike_refl : (fs : List Faults) → Alike fs fs
alike_refl [] = tt
alike_refl (f ∷ fs) = (λ line later. refl, λ h. alike_refl fs)

pub alike_append : (fs gs ks ls : List Faults) → Alike fs gs → (list_all is_clean fs ≡ true → Alike ks ls) → Alike (fs ++ ks) (gs ++ ls)
alike_append [] [] ks ls a b = b refl
alike_append [] (g ∷ gs) ks ls a b = absurd a
alike_append (f ∷ fs) [] ks ls a b = absurd a
alike_append (f ∷ fs) (g ∷ gs) ks ls a b =
    (a.0, λ clean. alike_append fs gs ks ls (a.1 clean) (λ all. b (and_from (is_clean f) (list_all is_clean fs) clean all)))

-- what comes after a line counts where it breaks nothing
behind : (n w l : Bool) (line : ℕ) (one other : Option Break) → (not (n || w || l) ≡ true → one ≡ other)
    → break_at line (record { name = n; width = w; limit = l }) one ≡ break_at line (record { name = n; width = w; limit = l }) other
behind true w l line one other h = refl
behind false true l line one other h = refl
behind false false true line one other h = refl
behind false false false line one other h = h refl

pub alike_break : (fs gs : List Faults) (line : ℕ) → Alike fs gs → first_break line fs ≡ first_break line gs
alike_break [] [] line a = refl
alike_break [] (g ∷ gs) line a = absurd a
alike_break (f ∷ fs) [] line a = absurd a
alike_break (f ∷ fs) (g ∷ gs) line a =
    behind f.name f.width f.limit line (first_break (line + 1) fs) (first_break (line + 1) gs) (λ clean. alike_break fs gs (line + 1) (a.1 clean))
    ∙ a.0 line (first_break (line + 1) gs)
