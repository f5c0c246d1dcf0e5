use Rattle.std.proofs.Common.{◌≡◌, ℕ, List, [], Option, Some, None, slice_get, refl, ap, sym, ◌∙◌, map, ◌++◌}
use Rattle.std.specs.Option.{option_map_or}
use Rattle.cx_vtree.specs.InstanceTree.{Placed, instances_of, declared_nets}
use Rattle.cx_vlaws.specs.Origins.{IsNet}
use Rattle.cx_vlaws.proofs.Given.{has_origin}
use Rattle.cx_vlaws.proofs.origins.nets_have_origins.Goals as goal

-- where there is a net there is its instance
net_instance : (tree : List Placed) (i : ℕ) (n : List ℕ) → IsNet tree i n → (p : Placed) × (slice_get tree i ≡ Some p)
net_instance tree i n (k, at) = go (slice_get tree i) refl where
  go : (o : Option Placed) → slice_get tree i ≡ o → (p : Placed) × (slice_get tree i ≡ Some p)
  go None e = absurd (let h = sym (ap (λ (o : Option Placed). slice_get (map (λ q. q.name) (option_map_or (λ q. q.part.ports) o []) ++ declared_nets (option_map_or (λ q. q.part.decls) o [])) k) e) ∙ at in cc)
  go (Some p) e = (p, e)

pub returns : goal.returns
returns c source i name sound net = let (p, at) = net_instance (instances_of source) i name net in has_origin source sound i p at name net
