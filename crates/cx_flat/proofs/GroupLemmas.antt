-- Groups of a flat component, and the numbers of the first copies.
use Rattle.std.proofs.Common.{◌≡◌, ℕ, ◌+◌, ◌<◌, List, [], ◌∷◌, ◌++◌, Some, get_or, length, map, slice_get, take, sym, ap, ◌∙◌, arith}
use Rattle.std.specs.Prelude.{flat_map}
use Rattle.std.specs.List.{range_with_len}
use Rattle.std.proofs.lemmas.List.{length-append, length-map, map-append, take-map, take_more, flat_map_more}
use Rattle.std.proofs.lemmas.List.FromFn.{get_or-map-range_with_len, length-map-range_with_len}
use Rattle.std.proofs.lemmas.Option.{slice_get_within, get_or_from_slice_get}
use Rattle.cx_rewrites.specs.Moving.{moved_group}
use Rattle.cx_design.specs.declared.components.Component.{Component}
use Rattle.cx_design.specs.declared.groups.Group.{Group}
use Rattle.cx_design.specs.declared.invokes.StaticInvoke.{StaticInvoke}
use Rattle.cx_design.specs.PlainForms.{plain_component, plain_group, plain_invoke}
use Rattle.cx_flattening.specs.Flattened.{Kids, own_port, copies, first_copy}

module _ (kids : Kids) (part : Component) where
  -- the own groups, and the copies for so many invokes
  abbrev pub GroupsUpTo : ℕ → List Group → Type 0
  GroupsUpTo i gs = map plain_group gs ≡ map (moved_group (own_port kids (plain_component part))) (map plain_group part.groups.items) ++ flat_map (copies kids (plain_component part)) (map plain_invoke (take i part.invokes.items))

  -- THE NEXT COPY has the number of the first for the next invoke
  pub first_is : (i : ℕ) (gs : List Group) → GroupsUpTo i gs → length gs ≡ first_copy kids (plain_component part) i
  first_is i gs so_far =
      let size : length (map plain_group gs) ≡ length gs = length-map gs plain_group in
      let own : length (map (moved_group (own_port kids (plain_component part))) (map plain_group part.groups.items)) ≡ length (map plain_group part.groups.items) = length-map (map plain_group part.groups.items) (moved_group (own_port kids (plain_component part))) in
      let both = length-append (map (moved_group (own_port kids (plain_component part))) (map plain_group part.groups.items)) (flat_map (copies kids (plain_component part)) (map plain_invoke (take i part.invokes.items))) in
      sym size ∙ ap length so_far ∙ both
      ∙ ap (λ n. n + length (flat_map (copies kids (plain_component part)) (map plain_invoke (take i part.invokes.items)))) own
      ∙ ap (λ vs. length (map plain_group part.groups.items) + length (flat_map (copies kids (plain_component part)) vs)) (sym (take-map plain_invoke i part.invokes.items))

  -- with those for one invoke more
  pub groups_more : (i : ℕ) (gs now : List Group) (v : StaticInvoke) → i < length part.invokes.items → v ≡ get_or part.invokes.items i v → GroupsUpTo i gs
      → map plain_group now ≡ map plain_group gs ++ copies kids (plain_component part) (plain_invoke v) → GroupsUpTo (i + 1) now
  groups_more i gs now v less at so_far is =
      let own = map (moved_group (own_port kids (plain_component part))) (map plain_group part.groups.items) in
      let before = map plain_invoke (take i part.invokes.items) in
      is ∙ ap (λ l. l ++ copies kids (plain_component part) (plain_invoke v)) so_far
      ∙ flat_map_more (copies kids (plain_component part)) own before (plain_invoke v)
      ∙ ap (λ vs. own ++ flat_map (copies kids (plain_component part)) vs)
      (sym (map-append plain_invoke (take i part.invokes.items) (v ∷ [])) ∙ ap (λ x. map plain_invoke (take i part.invokes.items ++ x ∷ [])) at ∙ ap (map plain_invoke) (sym (take_more part.invokes.items i v less)))

pub firsts_told : (f : ℕ → ℕ) (firsts : List ℕ) (count k n : ℕ) → firsts ≡ map f (range_with_len 0 count) → slice_get firsts k ≡ Some n → n ≡ f k
firsts_told f firsts count k n is at =
    let size : length firsts ≡ count = ap length is ∙ length-map-range_with_len f 0 count in
    let within : k < length firsts = slice_get_within firsts k n at in
    sym (get_or_from_slice_get firsts k n 0 at) ∙ ap (λ xs. get_or xs k 0) is
    ∙ get_or-map-range_with_len f 0 count k k 0 (omega (arith, size, within)) (let e : 0 + k ≡ k = omega arith in e)
