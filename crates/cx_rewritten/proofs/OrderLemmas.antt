-- Places that are left of others, in their order.
use Rattle.std.proofs.Common.{List, [], ◌∷◌, ◌++◌}
use Rattle.cx_text.specs.declared.places.Place.{Place}
use Rattle.cx_ast.specs.PlainTree.{PlainComponent}
use Rattle.cx_rewritten.specs.Ordered.{places_in, AreOf, none_left, left_out, one_kept, StandAs}

-- all of a list are some of it
pub all_of : (ps : List Place) → AreOf ps ps
all_of [] = none_left
all_of (p ∷ ps) = one_kept (all_of ps)

-- of two lists, one behind the other
pub both_of : {some all more whole : List Place} → AreOf some all → AreOf more whole → AreOf (some ++ more) (all ++ whole)
both_of none_left behind = behind
both_of (left_out rest) behind = left_out (both_of rest behind)
both_of (one_kept rest) behind = one_kept (both_of rest behind)

pub stand_themselves : (parts : List PlainComponent) → StandAs parts parts
stand_themselves [] = tt
stand_themselves (part ∷ parts) = (all_of (places_in part), stand_themselves parts)
