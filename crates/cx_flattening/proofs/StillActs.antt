-- What acts of a flat component while no static child does anything: nothing, a group, a group that captures.
use Rattle.std.proofs.Common.{◌≡◌, ℕ, suc, ◌<◌, inl, [], length, Some, None, refl, ap, arith}
use Rattle.std.specs.Prelude.{if◌then◌else◌}
use Rattle.std.proofs.lemmas.Bool.{ne_eqb}
use Rattle.cx_meaning.specs.Designs.{PlainComponent}
use Rattle.cx_meaning.specs.Instances.{Instance, Node, Cells, no_cells, a_primitive, an_instance, part_of}
use Rattle.cx_meaning.specs.Active.{Active, nothing, group, capture, only_at, entries}
use Rattle.cx_flattening.specs.Flattened.{Kids, flat_kids, flat_part, copy_of}
use Rattle.cx_flattening.specs.Acting.{IsUsed, IsOf, ActsAs, AllActAs}

-- WHERE NOTHING IS DONE BELOW, no static child acts
mutual
  pub still_acts : (i : Instance) → ActsAs i (entries []) [] nothing
  still_acts (Node part cells) = (λ g less. refl, all_still (flat_kids cells) part nothing (λ c j g kid its used. refl) cells 0)

  pub all_still : (kids : Kids) (part : PlainComponent) (more : Active) → ((c j g : ℕ) (kid : PlainComponent) → IsOf part c j → IsUsed kid g → more.offset (copy_of kids part kid j g) ≡ None) → (cells : Cells) (c : ℕ) → AllActAs kids part cells c [] more
  all_still kids part more still no_cells c = tt
  all_still kids part more still (a_primitive row rest) c = all_still kids part more still rest (suc c)
  all_still kids part more still (an_instance child rest) c = (
    λ static. (nothing, refl, still_acts child, inl (record { unfed = refl; none_below = refl; still = λ g. refl; copies = λ j g its used. still c j g (flat_part child) its used })),
    all_still kids part more still rest (suc c),
  )

pub still_tops : (i : Instance) → ActsAs i nothing [] nothing
still_tops (Node part cells) = (λ g less. refl, all_still (flat_kids cells) part nothing (λ c j g kid its used. refl) cells 0)

-- a group alone
only_still : (kids : Kids) (part : PlainComponent) (h : ℕ) → h < length part.groups → (c j g : ℕ) (kid : PlainComponent) → IsOf part c j → IsUsed kid g → only_at h (copy_of kids part kid j g) ≡ None
only_still kids part h less c j g kid its used = ap (λ b. if b then Some 0 else None) (ne_eqb h (copy_of kids part kid j g) (λ same. omega (arith, less, same)))

pub group_acts : (i : Instance) (g : ℕ) → g < length (part_of i).groups → ActsAs i (group g) [] (group g)
group_acts (Node part cells) g less = (λ h inside. refl, all_still (flat_kids cells) part (group g) (only_still (flat_kids cells) part g less) cells 0)

pub capture_acts : (i : Instance) (g c e : ℕ) → g < length (part_of i).groups → ActsAs i (capture g c) [] (capture g e)
capture_acts (Node part cells) g c e less = (λ h inside. refl, all_still (flat_kids cells) part (capture g e) (only_still (flat_kids cells) part g less) cells 0)
