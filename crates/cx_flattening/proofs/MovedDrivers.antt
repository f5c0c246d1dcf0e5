-- Sorting minds places alone: the drivers of a port in another component are its drivers, moved, where those among the continuous
-- assignments and those among the groups are.
use Rattle.std.proofs.Common.{◌≡◌, Bool, true, false, cond, List, [], ◌∷◌, ◌++◌, map, None, refl, sym, ap, ◌∙◌}
use Rattle.std.proofs.lemmas.List.{map-append}
use Rattle.cx_meaning.specs.declared.ports.PortRef.{PortRef}
use Rattle.cx_meaning.specs.Designs.{PlainComponent}
use Rattle.cx_meaning.specs.Active.{Active, Acting, owned, owned_by_groups, no_later, acting, drivers}
use Rattle.cx_rewrites.specs.Moving.{moved_acting}
use Rattle.cx_flattening.proofs.Sorting.{put_in, sorted, drivers_sorted}

-- sorting minds places alone
module _ (f : PortRef → PortRef) where
  put_mapped : (a : Acting) (list : List Acting) → put_in (moved_acting f a) (map (moved_acting f) list) ≡ map (moved_acting f) (put_in a list)
  put_mapped a [] = refl
  put_mapped a (b ∷ bs) = choice (no_later a.assign.place b.assign.place) (put_mapped a bs)
    where
      choice : (t : Bool) → put_in (moved_acting f a) (map (moved_acting f) bs) ≡ map (moved_acting f) (put_in a bs)
          → cond t (moved_acting f a ∷ moved_acting f b ∷ map (moved_acting f) bs) (moved_acting f b ∷ put_in (moved_acting f a) (map (moved_acting f) bs)) ≡ map (moved_acting f) (cond t (a ∷ b ∷ bs) (b ∷ put_in a bs))
      choice true ih = refl
      choice false ih = ap (λ l. moved_acting f b ∷ l) ih

  sorted_mapped : (list : List Acting) → sorted (map (moved_acting f) list) ≡ map (moved_acting f) (sorted list)
  sorted_mapped [] = refl
  sorted_mapped (a ∷ rest) = ap (put_in (moved_acting f a)) (sorted_mapped rest) ∙ put_mapped a (sorted rest)

  -- THE DRIVERS of a port in the other component are its drivers, mapped, where those among the continuous assignments and those among
  -- the groups are: in whatever order the groups stand there
  pub drivers_mapped : (C F : PlainComponent) (act other : Active) (p q : PortRef)
      → acting other q (owned None F.always) ≡ map (moved_acting f) (acting act p (owned None C.always))
      → acting other q (owned_by_groups 0 F.groups) ≡ map (moved_acting f) (acting act p (owned_by_groups 0 C.groups))
      → drivers F other q ≡ map (moved_acting f) (drivers C act p)
  drivers_mapped C F act other p q a g =
      drivers_sorted F other q
      ∙ ap (λ l. sorted (l ++ acting other q (owned_by_groups 0 F.groups))) a
      ∙ ap (λ l. sorted (map (moved_acting f) (acting act p (owned None C.always)) ++ l)) g
      ∙ ap sorted (sym (map-append (moved_acting f) (acting act p (owned None C.always)) (acting act p (owned_by_groups 0 C.groups))))
      ∙ sorted_mapped (acting act p (owned None C.always) ++ acting act p (owned_by_groups 0 C.groups))
      ∙ ap (map (moved_acting f)) (sym (drivers_sorted C act p))
