-- An idle turn leaves the same state in both.
use Rattle.std.proofs.Common.{◌≡◌, ℕ, suc, ◌+◌, [], ◌∷◌, refl, sym, ap, ◌∙◌, subst, arith}
use Rattle.std.proofs.Math.Path.{fun_ext}
use Rattle.cx_meaning.specs.Designs.{PlainComponent}
use Rattle.cx_meaning.specs.Instances.{Instance, Node, Cells, no_cells, a_primitive, an_instance, OfRow, OfInstance, cells_of, cell_at, Path, State, under, idle, idle_below}
use Rattle.cx_meaning.proofs.InstancesLemmas.{idle_below-row}
use Rattle.cx_flattening.specs.Flattened.{kept_at, start_of, flat_kids}
use Rattle.cx_flattening.specs.Embedded.{IsEmbedded, AreEmbedded, Stands, AllStand}
use Rattle.cx_rewrites.proofs.StandingLemmas.{idle_below-child}

-- the idle edges of the cells of a host
abbrev idle_host : Cells → State → State
idle_host host z [] = z []
idle_host host z (c ∷ path) = idle_below host c path (z (c ∷ path))

host_idle : (flat : Instance) (z : State) (path : Path) → idle flat z path ≡ idle_host (cells_of flat) z path
host_idle (Node part cells) z [] = refl
host_idle (Node part cells) z (c ∷ path) = refl

idle_child : (cells : Cells) (c : ℕ) (child : Instance) (s : State) → cell_at cells c ≡ OfInstance child → under c (idle_host cells s) ≡ idle child (under c s)
idle_child cells c child s e = fun_ext (λ path. idle_below-child cells c child path (s (c ∷ path)) e)

idle_node : (part : PlainComponent) (cells : Cells) (s : State) → idle (Node part cells) s ≡ idle_host cells s
idle_node part cells s = fun_ext (λ path. host_idle (Node part cells) s path)

mutual
  idles_stand : (i : Instance) (first : ℕ) (host : Cells) (s z : State) → IsEmbedded i first host → Stands i first s z → Stands i first (idle i s) (idle_host host z)
  idles_stand (Node part cells) first host s z embedded stands =
      subst (λ x. Stands (Node part cells) first x (idle_host host z)) (sym (idle_node part cells s))
      (all_idle cells part cells 0 (λ n. ap (cell_at cells) (plus n)) first host s z embedded stands)
    where
      plus : (a : ℕ) → a ≡ 0 + a
      plus a = omega arith

  all_idle : (rest : Cells) (part : PlainComponent) (cells : Cells) (c : ℕ) → ((n : ℕ) → cell_at rest n ≡ cell_at cells (c + n)) → (first : ℕ) (host : Cells) (s z : State)
      → AreEmbedded (flat_kids cells) part rest c first host → AllStand (flat_kids cells) part rest c first s z → AllStand (flat_kids cells) part rest c first (idle_host cells s) (idle_host host z)
  all_idle no_cells part cells c tail first host s z embedded stands = tt
  all_idle (a_primitive row rest) part cells c tail first host s z embedded stands = (
    idle_below-row host (first + kept_at (flat_kids cells) c) row (z ((first + kept_at (flat_kids cells) c) ∷ [])) embedded.0
        ∙ ap row.idle stands.0 ∙ sym (idle_below-row cells c row (s (c ∷ [])) at),
    all_idle rest part cells (suc c) (λ n. tail (suc n) ∙ ap (cell_at cells) (plus c n)) first host s z embedded.1 stands.1,
  )
    where
      plus : (a b : ℕ) → a + suc b ≡ suc a + b
      plus a b = omega arith

      zero_plus : (a : ℕ) → a + 0 ≡ a
      zero_plus a = omega arith

      at : cell_at cells c ≡ OfRow row
      at = ap (cell_at cells) (sym (zero_plus c)) ∙ sym (tail 0)
  all_idle (an_instance child rest) part cells c tail first host s z embedded stands = (
    λ static. subst (λ x. Stands child (first + start_of (flat_kids cells) part c) x (idle_host host z)) (sym (idle_child cells c child s at)) (idles_stand child (first + start_of (flat_kids cells) part c) host (under c s) z (embedded.0 static).0 (stands.0 static)),
    λ dynamic.
        let twin = embedded.1 dynamic in
        subst (λ x. Stands child 0 x (under (first + kept_at (flat_kids cells) c) (idle_host host z))) (sym (idle_child cells c child s at))
        (subst (Stands child 0 (idle child (under c s))) (idle_node_of twin.0 (under (first + kept_at (flat_kids cells) c) z) ∙ sym (idle_child host (first + kept_at (flat_kids cells) c) twin.0 z twin.1))
        (idles_stand child 0 (cells_of twin.0) (under c s) (under (first + kept_at (flat_kids cells) c) z) twin.3 (stands.1 dynamic))),
    all_idle rest part cells (suc c) (λ n. tail (suc n) ∙ ap (cell_at cells) (plus c n)) first host s z embedded.2 stands.2,
  )
    where
      plus : (a b : ℕ) → a + suc b ≡ suc a + b
      plus a b = omega arith

      zero_plus : (a : ℕ) → a + 0 ≡ a
      zero_plus a = omega arith

      at : cell_at cells c ≡ OfInstance child
      at = ap (cell_at cells) (sym (zero_plus c)) ∙ sym (tail 0)

      idle_node_of : (twin : Instance) (y : State) → idle_host (cells_of twin) y ≡ idle twin y
      idle_node_of (Node p cs) y = sym (idle_node p cs y)

-- AN IDLE TURN
pub idle_stands : (i flat : Instance) (s z : State) → IsEmbedded i 0 (cells_of flat) → Stands i 0 s z → Stands i 0 (idle i s) (idle flat z)
idle_stands i (Node part cells) s z embedded stands = subst (Stands i 0 (idle i s)) (sym (idle_node part cells z)) (idles_stand i 0 cells s z embedded stands)
