-- Facts that several crates above take.
use Rattle.std.proofs.Common.{◌≡◌, inl, inr, Bool, true, false, nat_eq, if◌then◌else◌, List, [], ◌∷◌, map, Some, refl}
use Rattle.std.proofs.lemmas.Bool.{eqb-true}
use Rattle.cx_meaning.specs.Active.{Entry, offset_in, entries}
use Rattle.cx_text.specs.Members.{In}
use Rattle.cx_frames.proofs.SightFrames.{IsAmong}
use Rattle.cx_text.proofs.OptionLaws.{none_some}

pub entries_among : (es : List Entry) → IsAmong (entries es) (map (λ e. e.group) es)
entries_among [] g k e = none_some k e
entries_among (x ∷ es) g k e = go (nat_eq x.group g) refl e (entries_among es g k)
  where
    go : (b : Bool) → nat_eq x.group g ≡ b → (if b then Some x.offset else offset_in es g) ≡ Some k → (offset_in es g ≡ Some k → In (map (λ y. y.group) es) g) → In (map (λ y. y.group) (x ∷ es)) g
    go true same e later = inl (eqb-true x.group g same)
    go false differ e later = inr (later e)
