-- A port that one assignment of a list drives, or none.
use Rattle.std.proofs.Common.{◌≡◌, ℕ, inl, inr, ◌⊎◌, Bool, true, false, if◌then◌else◌, List, [], ◌∷◌, ◌++◌, Option, Some, None, refl, ap, ◌∙◌}
use Rattle.cx_meaning.specs.declared.ports.PortRef.{PortRef}
use Rattle.cx_meaning.specs.Designs.{PlainAssign, PlainComponent}
use Rattle.cx_meaning.specs.Active.{Active, Acting, Owned, owned, no_later, placed_in, by_place, offset_of, if_acting, if_target, acting, same_port, drivers}
use Rattle.cx_rules.proofs.FoundLemmas.{same_is}
use Rattle.cx_rewrites.specs.Driving.{assigns_of}

-- two references to different ports
pub other_port : (p q : PortRef) → (p ≡ q → ⊥) → same_port p q ≡ false
other_port p q differ = by (same_port p q) refl
  where
    by : (b : Bool) → same_port p q ≡ b → b ≡ false
    by false e = refl
    by true e = absurd (differ (same_is p q e))

module _ (act : Active) (p : PortRef) where
  -- an entry does not act on the port
  abbrev pub Silent : Owned → Type 0
  Silent o = (offset_of act o.owner ≡ None) ⊎ (same_port o.assign.target p ≡ false)

  abbrev pub AllSilent : List Owned → Type 0
  AllSilent [] = Unit {0}
  AllSilent (o ∷ os) = Silent o × AllSilent os

  pub silent_joined : (xs ys : List Owned) → AllSilent xs → AllSilent ys → AllSilent (xs ++ ys)
  silent_joined [] ys h k = k
  silent_joined (o ∷ xs) ys (e, h) k = (e, silent_joined xs ys h k)

  pub silent_owner : (owner : Option ℕ) (list : List PlainAssign) → offset_of act owner ≡ None → AllSilent (owned owner list)
  silent_owner owner [] e = tt
  silent_owner owner (a ∷ rest) e = (inl e, silent_owner owner rest e)

  -- one entry alone does, if it is active
  pub data Lone (o : Owned) : List Owned → Type 0 where
    here : {rest : List Owned} → same_port o.assign.target p ≡ true → AllSilent rest → Lone o (o ∷ rest)
    later : {x : Owned} {rest : List Owned} → Silent x → Lone o rest → Lone o (x ∷ rest)

  pub lone_after : (o : Owned) (xs : List Owned) {ys : List Owned} → AllSilent xs → Lone o ys → Lone o (xs ++ ys)
  lone_after o [] h k = k
  lone_after o (x ∷ xs) (e, h) k = later e (lone_after o xs h k)

  pub lone_before : (o : Owned) {xs : List Owned} (ys : List Owned) → Lone o xs → AllSilent ys → Lone o (xs ++ ys)
  lone_before o ys (here {rest = rest} e h) k = here e (silent_joined rest ys h k)
  lone_before o ys (later e l) k = later e (lone_before o ys l k)

  not_acting : (o : Owned) (rest : List Acting) → Silent o → if_target (same_port o.assign.target p) act o rest ≡ rest
  not_acting o rest (inr e) = ap (λ t. if_target t act o rest) e
  not_acting o rest (inl e) = by (same_port o.assign.target p)
    where
      by : (t : Bool) → if_target t act o rest ≡ rest
      by true = ap (λ k. if_acting k o.assign rest) e
      by false = refl

  skipped : (a : Owned) (list : List Owned) → Silent a → acting act p (placed_in a list) ≡ acting act p list
  skipped a [] e = not_acting a [] e
  skipped a (b ∷ list) e = by (no_later a.assign.place b.assign.place) (skipped a list e)
    where
      by : (t : Bool) → acting act p (placed_in a list) ≡ acting act p list → acting act p (if t then a ∷ b ∷ list else b ∷ placed_in a list) ≡ acting act p (b ∷ list)
      by true h = not_acting a (acting act p (b ∷ list)) e
      by false h = ap (if_target (same_port b.assign.target p) act b) h

  silent_acts : (list : List Owned) → AllSilent list → acting act p (by_place list) ≡ []
  silent_acts [] h = refl
  silent_acts (o ∷ os) (e, h) = skipped o (by_place os) e ∙ silent_acts os h

  placed_alone : (a : Owned) (list : List Owned) → same_port a.assign.target p ≡ true → acting act p list ≡ [] → acting act p (placed_in a list) ≡ if_acting (offset_of act a.owner) a.assign []
  placed_alone a [] e h = ap (λ t. if_target t act a []) e
  placed_alone a (b ∷ list) e h = by (no_later a.assign.place b.assign.place) (placed_alone a list e)
    where
      of_option : (k : Option ℕ) (x : PlainAssign) (rest : List Acting) → if_acting k x rest ≡ [] → (rest ≡ []) × (k ≡ None)
      of_option None x rest h = (h, refl)
      of_option (Some n) x rest h = absurd (cc)

      rest_none : (u : Bool) → if_target u act b (acting act p list) ≡ [] → acting act p list ≡ []
      rest_none true k = (of_option (offset_of act b.owner) b.assign (acting act p list) k).0
      rest_none false k = k

      of_target : (u : Bool) → if_target u act b (acting act p list) ≡ [] → acting act p (placed_in a list) ≡ if_acting (offset_of act a.owner) a.assign []
          → if_target u act b (acting act p (placed_in a list)) ≡ if_acting (offset_of act a.owner) a.assign []
      of_target false k inner = inner
      of_target true k inner = ap (λ n. if_acting n b.assign (acting act p (placed_in a list))) (of_option (offset_of act b.owner) b.assign (acting act p list) k).1 ∙ inner

      by : (t : Bool) → (acting act p list ≡ [] → acting act p (placed_in a list) ≡ if_acting (offset_of act a.owner) a.assign [])
          → acting act p (if t then a ∷ b ∷ list else b ∷ placed_in a list) ≡ if_acting (offset_of act a.owner) a.assign []
      by true inner = ap (λ t. if_target t act a (acting act p (b ∷ list))) e ∙ ap (if_acting (offset_of act a.owner) a.assign) h
      by false inner = of_target (same_port b.assign.target p) h (inner (rest_none (same_port b.assign.target p) h))

  lone_acts : (o : Owned) {list : List Owned} → Lone o list → acting act p (by_place list) ≡ if_acting (offset_of act o.owner) o.assign []
  lone_acts o (here {rest = rest} e h) = placed_alone o (by_place rest) e (silent_acts rest h)
  lone_acts o (later {x = x} {rest = rest} e l) = skipped x (by_place rest) e ∙ lone_acts o l

  -- WHAT DRIVES SUCH A PORT of a component
  pub lone_drives : (part : PlainComponent) (o : Owned) → Lone o (assigns_of part) → drivers part act p ≡ if_acting (offset_of act o.owner) o.assign []
  lone_drives part o l = lone_acts o l

  pub silent_drives : (part : PlainComponent) → AllSilent (assigns_of part) → drivers part act p ≡ []
  silent_drives part h = silent_acts (assigns_of part) h
