-- UNDER THE CONTINUOUS ASSIGNMENTS ALONE each port of the tree that may be tested is seen in the flat instance as in the tree.
use Rattle.std.proofs.Common.{◌≡◌, ℕ, zero, suc, ◌+◌, ⊎_elim, [], ◌∷◌, ◌++◌, length, Option, Some, None, refl, sym, ap, ◌∙◌, arith}
use Rattle.std.proofs.lemmas.List.{append-nil, append_assoc}
use Rattle.std.specs.Prelude.{◌-◌}
use Rattle.std.proofs.Math.Path.{fun_ext}
use Rattle.cx_meaning.specs.declared.ports.PortRef.{PortRef}
use Rattle.cx_meaning.specs.declared.ports.PortRef.TheVariants as ports
use Rattle.cx_meaning.specs.Designs.{PlainComponent}
use Rattle.cx_meaning.specs.Instances.{Instance, Node, Cells, no_cells, a_primitive, an_instance, OfInstance, cells_of, cell_at, Path, State, under}
use Rattle.cx_meaning.specs.Active.{Active, nothing, entries}
use Rattle.cx_meaning.specs.Sights.{Look, Held, unheld, seen}
use Rattle.cx_rules.specs.Circles.{IsAcyclic, AcyclicBelow}
use Rattle.cx_flattening.specs.Events.{Spot}
use Rattle.cx_flattening.specs.Deeds.{held_below}
use Rattle.cx_flattening.specs.Whole.{look_below, look_at}
use Rattle.cx_flattening.specs.Flattened.{kid_at, kept_at, wire_at, flat_kids, port_if, own_port}
use Rattle.cx_flattening.specs.Acting.{ActsAs, AllActAs}
use Rattle.cx_flattening.specs.Levels.{Asked, IsPlayed}
use Rattle.cx_flattening.specs.Fair.{IsNamed, AllFair, AllFairBelow}
use Rattle.cx_flattening.specs.Seeing.{NoCircle, NoneBelow}
use Rattle.cx_flattening.specs.Sampling.{placed, IsOwn, AllSpots, SpotsBelow}
use Rattle.cx_flattening.proofs.Standing.{fair_own}
use Rattle.cx_flattening.proofs.FlatOutputs.{kids_seen}
use Rattle.cx_flattening.proofs.FlatSights.{played_found}
use Rattle.cx_flattening.proofs.FlatChildren.{idle_played}
use Rattle.cx_flattening.proofs.FlatSeen.{Alive, none_fed}

-- what is seen at a path, where something acts of the instance itself
abbrev pub look_from : Instance → Held → Active → State → Path → Look
look_from (Node part cells) held act s [] p = seen (Node part cells) held act s p
look_from (Node part cells) held act s (c ∷ path) p = look_at cells c (under c s) path p

look_at-child : (cells : Cells) (c : ℕ) (child : Instance) (s : State) (path : Path) (p : PortRef) → cell_at cells c ≡ OfInstance child → look_at cells c s path p ≡ look_below child unheld s path p
look_at-child no_cells c child s path p e = absurd (cc)
look_at-child (a_primitive row rest) zero child s path p e = absurd (cc)
look_at-child (a_primitive row rest) (suc c) child s path p e = look_at-child rest c child s path p e
look_at-child (an_instance other rest) zero child s path p e = let same : other ≡ child = cc in ap (λ i. look_below i unheld s path p) same
look_at-child (an_instance other rest) (suc c) child s path p e = look_at-child rest c child s path p e

still_look : (i : Instance) (look : Look) (c : ℕ) (s : State) (path : Path) (p : PortRef) → look_below i unheld s path p ≡ look_from i (held_below look c []) (entries []) s path p
still_look (Node part cells) look c s [] p =
    ap (λ (held : Held). seen (Node part cells) held nothing s p) (fun_ext (λ n. refl)) ∙ ap (λ (f : ℕ → Option ℕ). seen (Node part cells) (held_below look c []) (record { offset = f; done_cell = None }) s p) (fun_ext (λ g. refl))
still_look (Node part cells) look c s (d ∷ path) p = refl

module _ (host : Instance) (host_held : Held) (more : Active) (z : State) (acyclic : IsAcyclic host more) (deeper : AcyclicBelow (cells_of host)) (below : Path → Look) where
  abbrev pub SeenThere : Spot → PortRef → Type 0
  SeenThere x q = seen host host_held more z q ≡ below x.at x.port

  mutual
    pub spots_seen : (i : Instance) → AllFair i → (first : ℕ) (f : PortRef → PortRef) (held : Held) (act inner : Active) (s : State) (inputs outputs holes : ℕ → Type 0)
        → IsPlayed host host_held more z i first f held act inner s inputs outputs holes → ActsAs i act [] inner → NoCircle i act [] → Alive i [] inputs
        → (at : Path) → ((path : Path) (p : PortRef) → below (at ++ path) p ≡ look_from i held act s path p) → AllSpots SeenThere i first at
    spots_seen (Node part cells) fair first f held act inner s inputs outputs holes played does calm alive at looks = (
      λ p named own.
          sym (ap (seen host host_held more z) (place p named own))
          ∙ played_found part cells fair.0 (kids_seen cells fair.1) host host_held more z acyclic deeper first f held act inner s inputs outputs holes played calm.0 calm.1 p (asked p named own)
          ∙ sym (looks [] p) ∙ ap (λ path. below path p) (append-nil at),
      spots_below cells part cells 0 (λ n. ap (cell_at cells) (plus n)) fair fair.1 first f held act inner s inputs outputs holes played does.1 calm calm.2 alive at looks,
    )
      where
        plus : (a : ℕ) → a ≡ 0 + a
        plus a = omega arith

        by_kid : (c p : ℕ) (o : Option PlainComponent) → f (port_if (flat_kids cells) part o c p) ≡ placed first (port_if (flat_kids cells) part o c p)
        by_kid c p None = played.cells (kept_at (flat_kids cells) c) p
        by_kid c p (Some kid) = played.cells (wire_at (flat_kids cells) part kid c (p - 1 - length kid.inputs)) 1

        place : (p : PortRef) → IsNamed (Node part cells) p → IsOwn p → f (own_port (flat_kids cells) part p) ≡ placed first (own_port (flat_kids cells) part p)
        place (ports.Cell c p) named own = by_kid c p (kid_at (flat_kids cells) c)
        place (ports.Input n) named own = absurd own
        place (ports.Output n) named own = absurd named
        place (ports.Done g) named own = absurd named
        place (ports.Literal w v) named own = played.literals w v

        asked : (p : PortRef) → IsNamed (Node part cells) p → IsOwn p → Asked (Node part cells) inputs outputs holes p
        asked (ports.Cell c p) named own = named
        asked (ports.Input n) named own = absurd own
        asked (ports.Output n) named own = absurd named
        asked (ports.Done g) named own = absurd named
        asked (ports.Literal w v) named own = tt

    spots_below : (rest : Cells) (part : PlainComponent) (cells : Cells) (c : ℕ) → ((n : ℕ) → cell_at rest n ≡ cell_at cells (c + n)) → AllFair (Node part cells) → AllFairBelow rest
        → (first : ℕ) (f : PortRef → PortRef) (held : Held) (act inner : Active) (s : State) (inputs outputs holes : ℕ → Type 0)
        → IsPlayed host host_held more z (Node part cells) first f held act inner s inputs outputs holes → AllActAs (flat_kids cells) part rest c [] inner
        → NoCircle (Node part cells) act [] → NoneBelow rest c [] → Alive (Node part cells) [] inputs
        → (at : Path) → ((path : Path) (p : PortRef) → below (at ++ path) p ≡ look_from (Node part cells) held act s path p) → SpotsBelow SeenThere (flat_kids cells) part rest c first at
    spots_below no_cells part cells c tail fair fair_rest first f held act inner s inputs outputs holes played does calm calm_rest alive at looks = tt
    spots_below (a_primitive row rest) part cells c tail fair fair_rest first f held act inner s inputs outputs holes played does calm calm_rest alive at looks =
        spots_below rest part cells (suc c) (λ n. tail (suc n) ∙ ap (cell_at cells) (plus c n)) fair fair_rest first f held act inner s inputs outputs holes played does calm calm_rest alive at looks
      where
        plus : (a b : ℕ) → a + suc b ≡ suc a + b
        plus a b = omega arith
    spots_below (an_instance child rest) part cells c tail fair fair_rest first f held act inner s inputs outputs holes played does calm calm_rest alive at looks = (
      λ static.
          let h = does.0 static in
          ⊎_elim
          (λ idle. spots_seen child fair_rest.0 _ _ _ _ h.0 _ _ _ _
          (idle_played part cells fair.0 (kids_seen cells fair.1) host host_held more z acyclic deeper first f held act inner s inputs outputs holes played c child at_cell static (fair_own child fair_rest.0) [] calm.0 calm.1 alive h.0 h.2 idle)
          h.2 (calm_rest.0 static) (λ d sources e n less. none_fed d [] sources refl e) (at ++ (c ∷ []))
          (λ path p.
          ap (λ whole. below whole p) (append_assoc at (c ∷ []) path) ∙ looks (c ∷ path) p ∙ look_at-child cells c child (under c s) path p at_cell
          ∙ still_look child (seen (Node part cells) held act s) c (under c s) path p))
          (λ fed. absurd (none_fed c [] _ refl fed.fed))
          h.3,
      spots_below rest part cells (suc c) (λ n. tail (suc n) ∙ ap (cell_at cells) (plus c n)) fair fair_rest.1 first f held act inner s inputs outputs holes played does.1 calm calm_rest.1 alive at looks,
    )
      where
        plus : (a b : ℕ) → a + suc b ≡ suc a + b
        plus a b = omega arith

        zero_plus : (a : ℕ) → a + 0 ≡ a
        zero_plus a = omega arith

        at_cell : cell_at cells c ≡ OfInstance child
        at_cell = ap (cell_at cells) (sym (zero_plus c)) ∙ sym (tail 0)
