-- Where the groups of all instances of a design stand in its flat design.
use Rattle.std.specs.Prelude.{◌≡◌, ℕ, suc, List, [], ◌∷◌, ◌++◌, Option, Some, None, length, map, slice_get, take}
use Rattle.std.specs.List.{range_with_len}
use Rattle.std.specs.declared.alloc.Global.{Global}
use Rattle.std.specs.declared.vec.Vec.{Vec}
use Rattle.cx_meaning.specs.Designs.{PlainKind, OfPrimitive, OfComponent, PlainCell, PlainComponent, PlainDesign}
use Rattle.cx_meaning.specs.Instances.{Instance, Path, instance_at, part_of, paths_of}
use Rattle.cx_text.specs.Members.{In}
use Rattle.cx_rules.specs.Ports.{component_of}
use Rattle.cx_flattening.specs.Flattened.{Kids}
use Rattle.cx_profiling.specs.Counters.{ProfileEntry}
use Rattle.cx_profiling.specs.FlatEntries.{entry_at, entries_in_flat, placed_entries}
use Rattle.cx_flat.specs.declared.places.InstancePlaces.{InstancePlaces}
use Rattle.cx_flat.specs.Placing.{plain_places}

-- of each group of an instance the entries of the flat design that stand for it
abbrev pub Standing : Type 0
Standing = List (List ProfileEntry)

abbrev pub places_at : Instance → Path → Standing
places_at i path = map (entries_in_flat i path) (range_with_len 0 (length (part_of (instance_at i path)).groups))

-- THE PLACES of the groups of an instance, and of all below it in pre-order, in the flat component of the instance
abbrev pub places_in : Instance → List Standing
places_in i = map (places_at i) (paths_of i)

-- what is listed of an instance, and of some
abbrev pub plain_instance : InstancePlaces → Standing
plain_instance i = map (λ g. plain_places g.items) i.groups.items

abbrev pub plain_instances : List InstancePlaces → List Standing
plain_instances list = map plain_instance list

-- of the component of a number
abbrev pub list_at : Option (Vec InstancePlaces Global) → List Standing
list_at None = []
list_at (Some list) = plain_instances list.items

abbrev pub listed : List (Vec InstancePlaces Global) → ℕ → List Standing
listed lists j = list_at (slice_get lists j)

-- THE PLACES of a component and all below it, by those of its children: its own groups stand once, in the flat component itself
abbrev pub own_places : ℕ → Standing
own_places count = map (λ g. entry_at [] g ∷ []) (range_with_len 0 count)

module _ (kids : Kids) (part : PlainComponent) (below : ℕ → List Standing) where
  abbrev pub kind_places : ℕ → PlainKind → List Standing
  kind_places c (OfPrimitive primitive) = []
  kind_places c (OfComponent j) = map (map (placed_entries kids part c)) (below j)

  abbrev pub cell_places : ℕ → List PlainCell → List Standing
  cell_places c [] = []
  cell_places c (cell ∷ cells) = kind_places c cell.kind ++ cell_places (suc c) cells

  abbrev pub component_places : List Standing
  component_places = own_places (length part.groups) ∷ cell_places 0 part.cells

-- the places of the first so many components of an order are listed
pub record ArePlacesTo (d : PlainDesign) (order : List ℕ) (i : ℕ)
    (lists : List (Vec InstancePlaces Global)) : Type 0 where
  pub sized : length lists ≡ length d.components
  pub known : (j : ℕ) → In (take i order) j → listed lists j ≡ places_in (component_of d j)
