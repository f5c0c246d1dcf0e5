-- Facts of what `Groups` defines, that several crates above take.
use Rattle.std.proofs.Common.{◌≡◌, ◌<◌, ℕ, List, length, map, get_or, sym, ap, ◌∙◌}
use Rattle.cx_meaning.specs.Designs.{no_group}
use Rattle.std.proofs.lemmas.List.{get_or-map}
use Rattle.cx_design.specs.declared.groups.Group.{Group}
use Rattle.cx_design.specs.PlainForms.{plain_group}

-- a group as it stands in its component
pub got_group : (groups : List Group) (n : ℕ) (x : Group) → n < length groups → x ≡ get_or groups n x → plain_group x ≡ get_or (map plain_group groups) n no_group
got_group groups n x h e = ap plain_group e ∙ sym (get_or-map plain_group groups n x no_group h)
