-- What a statement reads is what is reached from the cells that it names.
use Rattle.std.proofs.Common.{ℕ, List, flat_map, ⊎_elim}
use Rattle.cx_text.proofs.MemberLaws.{flat_in, in_either, in_flat, in_left, in_right}
use Rattle.cx_graphs.specs.Graphs.{Edges, IsReached, at_start, by_edge}
use Rattle.cx_meaning.specs.Designs.{PlainComponent, PlainStatement, group_at}
use Rattle.cx_text.specs.Members.{In}
use Rattle.cx_meaning.specs.Control.{groups_of}
use Rattle.cx_rules.specs.Items.{tests_of}
use Rattle.cx_rules.specs.Footprints.{Reads, driven, named, tested, through}
use Rattle.cx_race.specs.Cells.{port_cell, named_in, named_in_all, targets_in_group, cells_in_group, named_by}
use Rattle.cx_race.specs.Links.{AreLinks}
use Rattle.cx_race.proofs.CellLemmas.{cell_is, has_cell, in_driven, is_driven, in_named, is_named}
use Rattle.cx_race.proofs.ArmLemmas.{as_node, from_node}

module _ (part : PlainComponent) (s : PlainStatement) where
  abbrev of_group : ℕ → List ℕ
  of_group g = cells_in_group (group_at part g)

  abbrev of_groups : List ℕ
  of_groups = flat_map of_group (groups_of s)

  abbrev of_tests : List ℕ
  of_tests = flat_map port_cell (tests_of s)

  abbrev targets : ℕ → List ℕ
  targets g = targets_in_group (group_at part g)

  abbrev names : ℕ → List ℕ
  names g = named_in_all (group_at part g).assigns

  -- what stands in the list is read
  starts_read : (c : ℕ) → In (named_by part s) c → Reads part s c
  starts_read c i =
      ⊎_elim
      (λ l. let p = flat_in port_cell (tests_of s) c l in let q = cell_is p.0.port c p.2 in tested q.0 p.0 p.1 q.1)
      (λ r. let g = flat_in of_group (groups_of s) c r in
      ⊎_elim
      (λ d. driven (is_driven part s c (in_flat targets (groups_of s) g.0 c g.1 d)))
      (λ n. let a = flat_in named_in (group_at part g.0).assigns c n in
      let q = is_named a.0 c a.2 in
      named q.0 g.0 a.0 g.1 a.1 q.1)
      (in_either (targets g.0) (names g.0) c g.2))
      (in_either of_tests of_groups c i)

  module _ (g : Edges) (links : AreLinks part g) where
    pub reached_reads : (c : ℕ) → IsReached g (named_by part s) c → Reads part s c
    reached_reads c (at_start i) = starts_read c (from_node (named_by part s) c i)
    reached_reads c (by_edge m r i) =
        let a = links.links.sound m c i in
        let t = cell_is a.0.target m a.2 in
        let q = is_named a.0 c a.3 in
        through m t.0 q.0 a.0 (reached_reads m r) a.1 t.1 q.1

    starts : (c : ℕ) → In (named_by part s) c → IsReached g (named_by part s) c
    starts c i = at_start (as_node (named_by part s) c i)

    in_groups : (h c : ℕ) → In (groups_of s) h → In (of_group h) c → IsReached g (named_by part s) c
    in_groups h c i j = starts c (in_right of_tests of_groups c (in_flat of_group (groups_of s) h c i j))

    pub reads_reached : (c : ℕ) → Reads part s c → IsReached g (named_by part s) c
    reads_reached c (driven h) =
        let d = flat_in targets (groups_of s) c (in_driven part s c h) in in_groups d.0 c d.1 (in_left (targets d.0) (names d.0) c d.2)
    reads_reached c (named p h a i j n) = in_groups h c i (in_right (targets h) (names h) c (in_flat named_in (group_at part h).assigns a c j (in_named a c p n)))
    reads_reached c (tested p test i e) = starts c (in_left of_tests of_groups c (in_flat port_cell (tests_of s) test c i (has_cell test.port c p e)))
    reads_reached c (through m p q a r i t n) = by_edge m (reads_reached m r) (links.links.all m c a i (has_cell a.target m p t) (in_named a c q n))
