-- What a statement with static invokes reads is what is reached from the cells that it drives or names.
use Rattle.std.proofs.Common.{◌≡◌, ℕ, List, ◌++◌, Option, Some, None, flat_map, ⊎_elim, refl, sym, subst}
use Rattle.cx_text.proofs.MemberLaws.{flat_in, in_either, in_flat, in_left, in_right}
use Rattle.cx_graphs.specs.Graphs.{Edges, IsReached, at_start, by_edge}
use Rattle.cx_meaning.specs.Designs.{PlainInvoke, PlainComponent, PlainStatement, group_at}
use Rattle.cx_text.specs.Members.{In}
use Rattle.cx_meaning.specs.Control.{groups_of}
use Rattle.cx_rules.specs.Items.{tests_of}
use Rattle.cx_rules.specs.Invokes.{invoke_at, invokes_of, capture_of, ReadsAll, driven, named, captured, fed, tested, through}
use Rattle.cx_race.specs.Cells.{port_cell, named_in, named_in_all, targets_in_group, cells_in_group, tested_by, driven_by, named_in_capture, named_in_invoke, named_in_invokes, invoked_by, met_by, named_all_by}
use Rattle.cx_race.specs.Links.{AreLinks}
use Rattle.cx_race.proofs.CellLemmas.{cell_is, has_cell, in_named, is_named}
use Rattle.cx_race.proofs.InvokeLemmas.{caught_name, capture_named, in_driven_all, is_driven_all}
use Rattle.cx_race.proofs.ArmLemmas.{as_node, from_node}

module _ (part : PlainComponent) (s : PlainStatement) where
  abbrev ks : List ℕ
  ks = invokes_of s

  abbrev of_group : ℕ → List ℕ
  of_group g = cells_in_group (group_at part g)

  abbrev of_groups : List ℕ
  of_groups = flat_map of_group (groups_of s)

  abbrev of_invokes : List ℕ
  of_invokes = invoked_by part s ++ named_in_invokes part ks

  abbrev targets : ℕ → List ℕ
  targets g = targets_in_group (group_at part g)

  abbrev names : ℕ → List ℕ
  names g = named_in_all (group_at part g).assigns

  abbrev captures_at : ℕ → List ℕ
  captures_at k = capture_of (invoke_at part k)

  abbrev names_at : ℕ → List ℕ
  names_at k = named_in_invoke part (invoke_at part k)

  -- WHAT STANDS IN THE LIST IS READ
  test_read : (c : ℕ) → In (tested_by s) c → ReadsAll part s c
  test_read c i = let p = flat_in port_cell (tests_of s) c i in let q = cell_is p.0.port c p.2 in tested q.0 p.0 p.1 q.1

  target_read : (c : ℕ) → In (driven_by part s) c → ReadsAll part s c
  target_read c i = driven (is_driven_all part s c (in_right (invoked_by part s) (driven_by part s) c i))

  invoked_read : (c : ℕ) → In (invoked_by part s) c → ReadsAll part s c
  invoked_read c i = driven (is_driven_all part s c (in_left (invoked_by part s) (driven_by part s) c i))

  -- an input of a static invoke, or of the group that captures
  name_read : (k : ℕ) (o : Option PlainInvoke) → invoke_at part k ≡ o → In ks k → (c : ℕ) → In (named_in_invoke part o) c → ReadsAll part s c
  name_read k None e i c j = absurd j
  name_read k (Some v) e i c j =
      ⊎_elim
      (λ l. let a = flat_in named_in v.inputs c l in
      let q = is_named a.0 c a.2 in
      fed q.0 a.0 (record { number = k; stands = i; invoke = v; is = e; input = a.1 }) q.1)
      (λ r. let g = caught_name part v.captures c r in
      let a = flat_in named_in (group_at part g.0).assigns c g.2 in
      let q = is_named a.0 c a.2 in
      captured q.0 g.0 a.0 (in_flat captures_at ks k g.0 i (subst (λ x. In (capture_of x) g.0) (sym e) g.1)) a.1 q.1)
      (in_either (named_in_all v.inputs) (named_in_capture part v.captures) c j)

  invokes_read : (c : ℕ) → In (named_in_invokes part ks) c → ReadsAll part s c
  invokes_read c i = let k = flat_in names_at ks c i in name_read k.0 (invoke_at part k.0) refl k.1 c k.2

  met_read : (c : ℕ) → In (met_by part s) c → ReadsAll part s c
  met_read c i =
      ⊎_elim
      (λ l. test_read c l)
      (λ r. ⊎_elim (λ x. invoked_read c x) (λ y. invokes_read c y) (in_either (invoked_by part s) (named_in_invokes part ks) c r))
      (in_either (tested_by s) of_invokes c i)

  groups_read : (c : ℕ) → In of_groups c → ReadsAll part s c
  groups_read c i =
      let g = flat_in of_group (groups_of s) c i in
      ⊎_elim
      (λ d. target_read c (in_flat targets (groups_of s) g.0 c g.1 d))
      (λ n. let a = flat_in named_in (group_at part g.0).assigns c n in
      let q = is_named a.0 c a.2 in
      named q.0 g.0 a.0 g.1 a.1 q.1)
      (in_either (targets g.0) (names g.0) c g.2)

  starts_read : (c : ℕ) → In (named_all_by part s) c → ReadsAll part s c
  starts_read c i = ⊎_elim (λ l. met_read c l) (λ r. groups_read c r) (in_either (met_by part s) of_groups c i)

  module _ (g : Edges) (links : AreLinks part g) where
    pub reached_all_reads : (c : ℕ) → IsReached g (named_all_by part s) c → ReadsAll part s c
    reached_all_reads c (at_start i) = starts_read c (from_node (named_all_by part s) c i)
    reached_all_reads c (by_edge m r i) =
        let a = links.links.sound m c i in
        let t = cell_is a.0.target m a.2 in
        let q = is_named a.0 c a.3 in
        through m t.0 q.0 a.0 (reached_all_reads m r) a.1 t.1 q.1

    starts : (c : ℕ) → In (named_all_by part s) c → IsReached g (named_all_by part s) c
    starts c i = at_start (as_node (named_all_by part s) c i)

    in_groups : (h c : ℕ) → In (groups_of s) h → In (of_group h) c → IsReached g (named_all_by part s) c
    in_groups h c i j = starts c (in_right (met_by part s) of_groups c (in_flat of_group (groups_of s) h c i j))

    in_met : (c : ℕ) → In (met_by part s) c → IsReached g (named_all_by part s) c
    in_met c i = starts c (in_left (met_by part s) of_groups c i)

    in_invoked : (c : ℕ) → In (invoked_by part s) c → IsReached g (named_all_by part s) c
    in_invoked c i = in_met c (in_right (tested_by s) of_invokes c (in_left (invoked_by part s) (named_in_invokes part ks) c i))

    in_names : (k c : ℕ) → In ks k → In (names_at k) c → IsReached g (named_all_by part s) c
    in_names k c i j =
        in_met c (in_right (tested_by s) of_invokes c (in_right (invoked_by part s) (named_in_invokes part ks) c (in_flat names_at ks k c i j)))

    in_targets : (c : ℕ) → In (driven_by part s) c → IsReached g (named_all_by part s) c
    in_targets c i = let d = flat_in targets (groups_of s) c i in in_groups d.0 c d.1 (in_left (targets d.0) (names d.0) c d.2)

    pub all_reads_reached : (c : ℕ) → ReadsAll part s c → IsReached g (named_all_by part s) c
    all_reads_reached c (driven h) = ⊎_elim (λ l. in_invoked c l) (λ r. in_targets c r) (in_either (invoked_by part s) (driven_by part s) c (in_driven_all part s c h))
    all_reads_reached c (named p h a i j n) = in_groups h c i (in_right (targets h) (names h) c (in_flat named_in (group_at part h).assigns a c j (in_named a c p n)))
    all_reads_reached c (captured p h a i j n) =
        let k = flat_in captures_at ks h i in
        in_names k.0 c k.1 (capture_named part (invoke_at part k.0) h c k.2 (in_flat named_in (group_at part h).assigns a c j (in_named a c p n)))
    all_reads_reached c (fed p a f n) =
        let inputs = named_in_all f.invoke.inputs in
        in_names f.number c f.stands
        (subst (λ o. In (named_in_invoke part o) c) (sym f.is)
        (in_left inputs (named_in_capture part f.invoke.captures) c (in_flat named_in f.invoke.inputs a c f.input (in_named a c p n))))
    all_reads_reached c (tested p test i e) =
        in_met c (in_left (tested_by s) of_invokes c (in_flat port_cell (tests_of s) test c i (has_cell test.port c p e)))
    all_reads_reached c (through m p q a r i t n) = by_edge m (all_reads_reached m r) (links.links.all m c a i (has_cell a.target m p t) (in_named a c q n))
