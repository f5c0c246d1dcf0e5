-- What can be active in an instance.
use Rattle.std.specs.Prelude.{◌≡◌, ℕ, ◌<◌, List, [], length, map}
use Rattle.cx_meaning.specs.Designs.{PlainComponent}
use Rattle.cx_meaning.specs.Instances.{Instance, part_of}
use Rattle.cx_meaning.specs.Active.{Entry}
use Rattle.cx_text.specs.Members.{In}
use Rattle.cx_meaning.specs.Islands.{History, form_flat, active_in}
use Rattle.cx_rules.specs.Items.{Visited, statements_in}
use Rattle.cx_design.specs.declared.actives.Active.{Active}
use Rattle.cx_design.specs.declared.actives.Active.TheVariants as actives
use Rattle.cx_design.specs.PlainActives.{plain_entry}

-- static groups that a statement has active together in some cycle, by some values of its samples
abbrev pub AreTogether : PlainComponent → List Entry → Type 0
AreTogether part entries =
    (v : Visited) × (h : History) × (t : ℕ) × In (statements_in part) v
    × (entries ≡ active_in h t (form_flat part v.form 0 []))

-- a group that is there, or static groups that are active together
abbrev pub CanBeActive : Instance → Active → Type 0
CanBeActive i actives.Nothing = Unit {0}
CanBeActive i (actives.Group g) = g < length (part_of i).groups
CanBeActive i (actives.CallEnd g) = g < length (part_of i).groups
CanBeActive i (actives.Entries entries) = AreTogether (part_of i) (map plain_entry entries.items)
