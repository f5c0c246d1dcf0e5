use Rattle.std.proofs.Common.{◌∙◌, List, [], ◌∷◌, map, ap}
use Rattle.std.specs.declared.alloc.Global.{Global}
use Rattle.std.specs.declared.vec.Vec.{Vec}
use Rattle.std.proofs.lemmas.List.{map-append}
use Rattle.cx_text.proofs.ListLaws.{range_pushed}
use Rattle.cx_profiling.specs.Counters.{ProfileEntry}
use Rattle.cx_profiling.specs.FlatEntries.{entry_at}
use Rattle.cx_flat.specs.declared.placing.FlatPlace.{FlatPlace}
use Rattle.cx_flat.specs.Placing.{plain_places}
use Rattle.cx_flat.proofs.places.own_places.Goals as goal

abbrev entries : Vec FlatPlace Global → List ProfileEntry
entries group = plain_places group.items

pub loop-group-preserved : goal.loop-group-preserved
loop-group-preserved c =
    let own = c.in_ok-own_place.field-0 in
    range_pushed (λ g. entry_at [] g ∷ []) (map entries c.loop-group.groups.items) (map entries c.push.new.self.items) (entries own) c.loop-group.group
    (ap (map entries) c.in_ok-push.ensures.items ∙ map-append entries c.loop-group.groups.items (own ∷ [])) c.loop-group.invariant c.in_ok-own_place.ensures.value
