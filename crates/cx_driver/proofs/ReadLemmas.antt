-- What the reads of a command tell.
use Rattle.std.proofs.Common.{ℕ, suc, ◌<◌, ◌≤◌, ◌≡◌, inl, inr, List, [], ◌∷◌, Option, Some, Result, Err, MatchResult, map, length, Contains, sym, ap, ◌∙◌, subst, arith}
use Rattle.cx_outside.specs.Counts.{HasRisen}
use Rattle.cx_outside.specs.Failures.{failed_by}
use Rattle.cx_outside.specs.Reading.{IsAbsent, HasLength}
use Rattle.cx_outside.specs.declared.reading.FileAnswer.{FileAnswer}
use Rattle.cx_commands.specs.declared.refusals.Refusal.{Refusal}
use Rattle.cx_commands.specs.declared.refusals.Refusal.TheVariants as refusals
use Rattle.cx_driver.specs.Causes.{IsOfFile, HasCause}
use Rattle.cx_commands.specs.Commands.{Asked, Wanted, wanted_by}
use Rattle.cx_commands.specs.Reads.{HoldsWithin, OfFile, FirstOf, here, later, IsOver, IsUnread, IsReadFault}

abbrev pub Held : Type 0
Held = Option (List ℕ → Option (List ℕ))

-- a count that rose in the later part of a call rose in the whole
pub HasRisen-later : (before middle after : ℕ) → before ≤ middle → HasRisen middle after → HasRisen before after
HasRisen-later before middle after rises risen = omega (arith, rises, risen)

-- the names of the reads that failed, after one with this answer
pub failed_names : {X : Type 0} (r : Result X FileAnswer) (answer : FileAnswer) (name : List ℕ) (old_names new_names : List (List ℕ)) → r ≡ Err answer
    → MatchResult r (λ _. new_names ≡ old_names) (λ e. new_names ≡ failed_by e name old_names) → new_names ≡ failed_by answer name old_names
failed_names r answer name old_names new_names is names = subst (λ o. MatchResult o (λ _. new_names ≡ old_names) (λ e. new_names ≡ failed_by e name old_names)) is names

-- what is told of a file, after earlier reads
over_later : (told held : Held) (file : List ℕ) (seen : ℕ) (w : Wanted) → held ≡ told → IsOver held file seen w → IsOver told file seen w
over_later told held file seen w same h = record { is = h.is; over = h.over; count = subst (λ x. HasLength x file seen) same h.count }

unread_later : (told held : Held) (before middle after : ℕ) (file : List ℕ) (w : Wanted) → held ≡ told → before ≤ middle → IsUnread held middle after file w → IsUnread told before after file w
unread_later told held before middle after file w same rises h =
    let Absent : Held → Type 0 = λ x. IsAbsent x file in
    let fault : IsReadFault told before after file = elim h.fault [ inl risen ↦ inl (HasRisen-later before middle after rises risen) | inr absent ↦ inr (subst Absent same absent) ] in
    record { is = h.is; fault = fault }

-- what is told of the first file of a command
pub first_read : (command : Asked) (held : Held) (before after : ℕ) (w : Wanted) (ws : List Wanted) (r : Refusal) → wanted_by command ≡ w ∷ ws → IsOfFile held before after w r → HasCause command held before after r
first_read command held before after w ws (refusals.TooLong file seen) e h = subst (FirstOf held (IsOver held file.now seen)) (sym e) (here h)
first_read command held before after w ws (refusals.ReadFault file) e h = subst (FirstOf held (IsUnread held before after file.now)) (sym e) (here h)
first_read command held before after w ws (refusals.Stop stop) e h = inl h

-- and of the second, where the first was read
pub second_read : (command : Asked) (told held : Held) (before middle after : ℕ) (v w : Wanted) (ws : List Wanted) (bytes : List ℕ) (r : Refusal) → wanted_by command ≡ v ∷ w ∷ ws
    → HoldsWithin told v.most v.file bytes → held ≡ told → before ≤ middle → IsOfFile held middle after w r → HasCause command told before after r
second_read command told held before middle after v w ws bytes (refusals.TooLong file seen) e read same rises h =
    subst (FirstOf told (IsOver told file.now seen)) (sym e) (later bytes read (here (over_later told held file.now seen w same h)))
second_read command told held before middle after v w ws bytes (refusals.ReadFault file) e read same rises h =
    subst (FirstOf told (IsUnread told before after file.now)) (sym e) (later bytes read (here (unread_later told held before middle after file.now w same rises h)))
second_read command told held before middle after v w ws bytes (refusals.Stop stop) e read same rises h = inl h

-- both files of a command were read
pub both_read : (P : List ℕ → List ℕ → Type 0) (told held : Held) (m n : ℕ) (f g a b : List ℕ) → HoldsWithin told m f a → held ≡ told → HoldsWithin held n g b → P a b
    → OfFile told m f (λ text. OfFile told n g (λ bytes. P text bytes))
both_read P told held m n f g a b first same second p = record { bytes = a; reads = first; is = record { bytes = b; reads = subst (λ x. HoldsWithin x n g b) same second; is = p } }

-- a file of which something is told is one of those that are wanted
contains_first : (f : List ℕ) (fs : List (List ℕ)) (file : List ℕ) → file ≡ f → Contains (f ∷ fs) file
contains_first f fs file e = let below : 0 < length (f ∷ fs) = omega arith in (0, below, sym e)

contains_later : (f : List ℕ) (fs : List (List ℕ)) (file : List ℕ) → Contains fs file → Contains (f ∷ fs) file
contains_later f fs file h = let below = h.1 in let next : suc h.0 < length (f ∷ fs) = omega (arith, below) in (suc h.0, next, h.2)

pub unread_in : (held : Held) (before after : ℕ) (file : List ℕ) (ws : List Wanted) → FirstOf held (IsUnread held before after file) ws → Contains (map (λ w. w.file) ws) file × IsReadFault held before after file
unread_in held before after file [] h = elim h [ ]
unread_in held before after file (w ∷ ws) (here h) = (contains_first w.file (map (λ v. v.file) ws) file h.is, h.fault)
unread_in held before after file (w ∷ ws) (later bytes read h) =
    let k = unread_in held before after file ws h in
    (contains_later w.file (map (λ v. v.file) ws) file k.0, k.1)

-- WHERE ALL FILES ARE WITHIN THEIR LIMITS, none is told as too long, and none as unread
module _ (holds : List ℕ → Option (List ℕ)) where
  abbrev pub Readable : List Wanted → Type 0
  Readable [] = Unit {0}
  Readable (w ∷ ws) = ((bytes : List ℕ) × HoldsWithin (Some holds) w.most w.file bytes) × Readable ws

  pub same_bytes : (m n : ℕ) (file a b : List ℕ) → HoldsWithin (Some holds) m file a → HoldsWithin (Some holds) n file b → a ≡ b
  same_bytes m n file a b h k = let first = h.holds in let second = k.holds in cc

  pub over_not : (file : List ℕ) (seen : ℕ) (w : Wanted) (bytes : List ℕ) → HoldsWithin (Some holds) w.most w.file bytes → IsOver (Some holds) file seen w → ⊥
  over_not file seen w bytes read h =
      let named = h.is in
      let told = h.count.1 in
      let own = read.holds in
      let same : h.count.0 ≡ bytes = cc in
      let count : length bytes ≡ seen = ap (λ x. length x) (sym same) ∙ h.count.2 in
      let over = h.over in
      let within = read.within in
      omega (arith, count, over, within)

  pub none_over : (file : List ℕ) (seen : ℕ) (ws : List Wanted) → Readable ws → FirstOf (Some holds) (IsOver (Some holds) file seen) ws → ⊥
  none_over file seen [] all h = elim h [ ]
  none_over file seen (w ∷ ws) all (here h) = over_not file seen w all.0.0 all.0.1 h
  none_over file seen (w ∷ ws) all (later bytes read h) = none_over file seen ws all.1 h

  pub unread_not : (before after : ℕ) (file : List ℕ) (w : Wanted) (bytes : List ℕ) → (HasRisen before after → ⊥) → HoldsWithin (Some holds) w.most w.file bytes → IsUnread (Some holds) before after file w → ⊥
  unread_not before after file w bytes never read h = elim h.fault [ inl risen ↦ never risen | inr absent ↦ (let named = h.is in let own = read.holds in cc) ]

  pub none_unread : (before after : ℕ) (file : List ℕ) (ws : List Wanted) → (HasRisen before after → ⊥) → Readable ws → FirstOf (Some holds) (IsUnread (Some holds) before after file) ws → ⊥
  none_unread before after file [] never all h = elim h [ ]
  none_unread before after file (w ∷ ws) never all (here h) = unread_not before after file w all.0.0 never all.0.1 h
  none_unread before after file (w ∷ ws) never all (later bytes read h) = none_unread before after file ws never all.1 h
