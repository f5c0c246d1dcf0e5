-- What depends on what in the other instance does so in the first, where the cells are renamed; so a circle of the other is one of the first.
use Rattle.std.proofs.Common.{◌≡◌, ℕ, inl, inr, List, [], ◌∷◌, map, refl, sym, subst}
use Rattle.cx_prim.specs.declared.ports.Side.{Side}
use Rattle.cx_prim.specs.declared.ports.Side.TheVariants as sides
use Rattle.cx_prim.specs.Rows.{Row}
use Rattle.cx_meaning.specs.Rows.{side_of}
use Rattle.cx_meaning.specs.declared.ports.PortRef.{PortRef}
use Rattle.cx_meaning.specs.declared.ports.PortRef.TheVariants as ports
use Rattle.cx_meaning.specs.Designs.{PlainGuard, Always, Atom, Negation, All, Any, Compared, Within, PlainGuards, no_guards, a_guard, PlainAssign}
use Rattle.cx_meaning.specs.Instances.{Instance, At, part_of, cells_of, cell_at}
use Rattle.cx_meaning.specs.Active.{Active, Acting, drivers}
use Rattle.cx_meaning.specs.Sights.{GuardNames, AnyNames, PartPort, Go, AnInput, AnOutput, ItsDone, part_port}
use Rattle.cx_rules.specs.Footprints.{AssignNames, Mentions, SideLeads, PartLeads, CellLeads, Leads, Depends, at_once, by_way_of}
use Rattle.cx_rules.specs.RaceRule.{HasCycle}
use Rattle.cx_rewrites.specs.Moving.{moved_guard, moved_guards, moved_assign, moved_acting}
use Rattle.cx_rewrites.specs.Renaming.{renamed, AtLike, same_row, like_child, both_nothing, IsRenamed}

module _ (move : PortRef → PortRef) where
  -- a port that a port with this property is moved to
  abbrev pub IsImage : (PortRef → Type 0) → PortRef → Type 0
  IsImage P q = (p : PortRef) × (move p ≡ q) × P p

  wider : (P Q : PortRef → Type 0) (q : PortRef) → ((p : PortRef) → P p → Q p) → IsImage P q → IsImage Q q
  wider P Q q f (p, e, h) = (p, e, f p h)

  mutual
    guard_back : (g : PlainGuard) (q : PortRef) → GuardNames (moved_guard move g) q → IsImage (GuardNames g) q
    guard_back Always q n = absurd n
    guard_back (Atom p) q e = (p.port, e, refl)
    guard_back (Negation g) q n = guard_back g q n
    guard_back (All gs) q n = guards_back gs q n
    guard_back (Any gs) q n = guards_back gs q n
    guard_back (Compared c a b) q (inl e) = (a.port, e, inl refl)
    guard_back (Compared c a b) q (inr e) = (b.port, e, inr refl)
    guard_back (Within from to) q n = absurd n

    guards_back : (gs : PlainGuards) (q : PortRef) → AnyNames (moved_guards move gs) q → IsImage (AnyNames gs) q
    guards_back no_guards q n = absurd n
    guards_back (a_guard g gs) q (inl n) = wider (GuardNames g) (AnyNames (a_guard g gs)) q (λ p h. inl h) (guard_back g q n)
    guards_back (a_guard g gs) q (inr n) = wider (AnyNames gs) (AnyNames (a_guard g gs)) q (λ p h. inr h) (guards_back gs q n)

  -- what a moved assignment names is moved from what the assignment names
  pub names_back : (a : PlainAssign) (q : PortRef) → AssignNames (moved_assign move a) q → IsImage (AssignNames a) q
  names_back a q (inl n) = wider (GuardNames a.guard) (AssignNames a) q (λ p h. inl h) (guard_back a.guard q n)
  names_back a q (inr e) = (a.source.port, e, inr refl)

  pub mentions_back : (acts : List Acting) (q : PortRef) → Mentions (map (moved_acting move) acts) q → IsImage (Mentions acts) q
  mentions_back [] q (b, i, n) = absurd i
  mentions_back (a ∷ rest) q (b, inl e, n) =
      wider (AssignNames a.assign) (Mentions (a ∷ rest)) q (λ p h. (a, inl refl, h)) (names_back a.assign q (subst (λ (x : Acting). AssignNames x.assign q) (sym e) n))
  mentions_back (a ∷ rest) q (b, inr i, n) = wider (Mentions rest) (Mentions (a ∷ rest)) q (λ p h. (h.0, inr h.1, h.2)) (mentions_back rest q (b, i, n))

module _ (i j : Instance) (cell : ℕ → ℕ) (act more : Active) (inside : PortRef → Type 0) (parts : IsRenamed i j cell act more inside) where
  abbrev Back : (PortRef → Type 0) → PortRef → Type 0
  Back P q = IsImage (renamed cell) P q

  targets_back : (p q : PortRef) → inside p → Mentions (drivers (part_of j) more (renamed cell p)) q → Back (Mentions (drivers (part_of i) act p)) q
  targets_back p q here m = mentions_back (renamed cell) (drivers (part_of i) act p) q (subst (λ acts. Mentions acts q) (parts.drives p here) m)

  side_back : (c n : ℕ) (row : Row) (side : Side) (q : PortRef) → inside (ports.Cell c n) → SideLeads (part_of j) more row (cell c) n side q → Back (SideLeads (part_of i) act row c n side) q
  side_back c n row sides.Enable q here l = targets_back (ports.Cell c n) q here l
  side_back c n row sides.Plain q here l = targets_back (ports.Cell c n) q here l
  side_back c n row sides.Output q here (m, reads, e) = (ports.Cell c m, e, (m, reads, refl))
  side_back c n row sides.Registered q here l = absurd l

  part_back : (c n : ℕ) (port : PartPort) (q : PortRef) → inside (ports.Cell c n) → PartLeads (part_of j) more (cell c) n port q → Back (PartLeads (part_of i) act c n port) q
  part_back c n Go q here l = targets_back (ports.Cell c n) q here l
  part_back c n (AnInput input) q here l = targets_back (ports.Cell c n) q here l
  part_back c n (AnOutput output) q here l = absurd l
  part_back c n ItsDone q here l = absurd l

  cell_back : (c n : ℕ) (at to : At) (q : PortRef) → AtLike at to → inside (ports.Cell c n) → CellLeads (part_of j) more (cell c) n to q → Back (CellLeads (part_of i) act c n at) q
  cell_back c n at to q (same_row row) here l = side_back c n row (side_of row n) q here l
  cell_back c n at to q (like_child child twin same) here l =
      part_back c n (part_port (part_of child) n) q here (subst (λ x. PartLeads (part_of j) more (cell c) n x q) (sym (same n)) l)
  cell_back c n at to q both_nothing here l = absurd l

  leads_back : (p q : PortRef) → inside p → Leads j more (renamed cell p) q → Back (Leads i act p) q
  leads_back (ports.Cell c n) q here l = cell_back c n (cell_at (cells_of i) c) (cell_at (cells_of j) (cell c)) q (parts.cells c n here) here l
  leads_back (ports.Input n) q here l = absurd l
  leads_back (ports.Output n) q here l = targets_back (ports.Output n) q here l
  leads_back (ports.Done g) q here l = targets_back (ports.Done g) q here l
  leads_back (ports.Literal w v) q here l = absurd l

  -- a way from a port that is inside stays inside
  pub depends_back : (p q r : PortRef) → inside p → renamed cell p ≡ r → Depends j more r q → (port : PortRef) × (renamed cell port ≡ q) × Depends i act p port × inside port
  depends_back p q r here e (at_once l) =
      let x = leads_back p q here (subst (λ z. Leads j more z q) (sym e) l) in
      (x.0, x.1, at_once x.2, parts.closed p x.0 here x.2)
  depends_back p q r here e (by_way_of m l d) =
      let x = leads_back p m here (subst (λ z. Leads j more z m) (sym e) l) in
      let y = depends_back x.0 q m (parts.closed p x.0 here x.2) x.1 d in
      (y.0, y.1, by_way_of x.0 x.2 y.2, y.3)

  -- A CIRCLE through the port of a renamed cell is a circle of the first instance, where no two ports inside become one
  pub circle_back : ((p q : PortRef) → inside p → inside q → renamed cell p ≡ renamed cell q → p ≡ q) → (p : PortRef) → inside p → Depends j more (renamed cell p) (renamed cell p) → HasCycle i act
  circle_back one p here d = let r = depends_back p (renamed cell p) (renamed cell p) here refl d in (p, subst (Depends i act p) (one r.0 p r.3 here r.1) r.2)
