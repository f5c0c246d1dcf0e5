-- A SET OF PORTS is closed under what they lead to, if what its active assignments name stands in it, and what its outputs read.
use Rattle.std.proofs.Common.{◌≡◌, ℕ, inl, inr, Bool, true, false, List, [], ◌∷◌, Option, Some, None, refl, sym, subst}
use Rattle.cx_text.specs.Members.{In}
use Rattle.cx_prim.specs.declared.ports.Side.{Side}
use Rattle.cx_prim.specs.declared.ports.Side.TheVariants as sides
use Rattle.cx_prim.specs.Rows.{Row}
use Rattle.cx_meaning.specs.declared.ports.PortRef.{PortRef}
use Rattle.cx_meaning.specs.declared.ports.PortRef.TheVariants as ports
use Rattle.cx_meaning.specs.Rows.{side_of}
use Rattle.cx_meaning.specs.Instances.{Instance, At, Nothing, OfRow, OfInstance, cell_at, cells_of, part_of}
use Rattle.cx_meaning.specs.Active.{Active, Acting, Owned, source_order, offset_of, if_acting, if_target, acting, same_port, drivers}
use Rattle.cx_meaning.specs.Sights.{PartPort, Go, AnInput, AnOutput, ItsDone, part_port}
use Rattle.cx_rules.specs.Footprints.{AssignNames, Mentions, Leads, CellLeads, SideLeads, PartLeads}
use Rattle.cx_rules.proofs.FoundLemmas.{same_is}

-- an active assignment of a port that names another
pub record Mention (act : Active) (list : List Owned) (p q : PortRef) : Type 0 where
  pub owned : Owned
  pub stands : In list owned
  pub target : owned.assign.target ≡ p
  pub offset : ℕ
  pub active : offset_of act owned.owner ≡ Some offset
  pub names : AssignNames owned.assign q

later_mention : {act : Active} {o : Owned} {list : List Owned} {p q : PortRef} → Mention act list p q → Mention act (o ∷ list) p q
later_mention m = record { owned = m.owned; stands = inr m.stands; target = m.target; offset = m.offset; active = m.active; names = m.names }

module _ (act : Active) (o : Owned) (rest : List Owned) (p q : PortRef) (below : Mentions (acting act p rest) q → Mention act rest p q) where
  by_offset : same_port o.assign.target p ≡ true → (k : Option ℕ) → offset_of act o.owner ≡ k → Mentions (if_acting k o.assign (acting act p rest)) q → Mention act (o ∷ rest) p q
  by_offset is None off m = later_mention (below m)
  by_offset is (Some k) off (a, inl e, names) = record {
    owned = o;
    stands = inl refl;
    target = same_is o.assign.target p is;
    offset = k;
    active = off;
    names = subst (λ (x : Acting). AssignNames x.assign q) (sym e) names;
  }
  by_offset is (Some k) off (a, inr i, names) = later_mention (below (a, i, names))

  by_target : (b : Bool) → same_port o.assign.target p ≡ b → Mentions (if_target b act o (acting act p rest)) q → Mention act (o ∷ rest) p q
  by_target false is m = later_mention (below m)
  by_target true is m = by_offset is (offset_of act o.owner) refl m

pub mention_of : (act : Active) (list : List Owned) (p q : PortRef) → Mentions (acting act p list) q → Mention act list p q
mention_of act [] p q m = absurd m.1
mention_of act (o ∷ rest) p q m = by_target act o rest p q (λ x. mention_of act rest p q x) (same_port o.assign.target p) refl m

module _ (i : Instance) (act : Active) (inside : PortRef → Type 0)
    (named : (o : Owned) (k : ℕ) (q : PortRef) → In (source_order (part_of i)) o → offset_of act o.owner ≡ Some k → inside o.assign.target → AssignNames o.assign q → inside q)
    (read : (c p m : ℕ) (row : Row) → cell_at (cells_of i) c ≡ OfRow row → side_of row p ≡ sides.Output → row.reads p m ≡ true → inside (ports.Cell c p) → inside (ports.Cell c m)) where
  mentioned : (p q : PortRef) → inside p → Mentions (drivers (part_of i) act p) q → inside q
  mentioned p q here m =
      let found = mention_of act (source_order (part_of i)) p q m in
      named found.owned found.offset q found.stands found.active (subst inside (sym found.target) here) found.names

  side_closed : (c p : ℕ) (q : PortRef) (row : Row) → cell_at (cells_of i) c ≡ OfRow row → (side : Side) → side_of row p ≡ side → inside (ports.Cell c p) → SideLeads (part_of i) act row c p side q → inside q
  side_closed c p q row is sides.Enable side here leads = mentioned (ports.Cell c p) q here leads
  side_closed c p q row is sides.Plain side here leads = mentioned (ports.Cell c p) q here leads
  side_closed c p q row is sides.Output side here leads = subst inside leads.2 (read c p leads.0 row is side leads.1 here)
  side_closed c p q row is sides.Registered side here leads = absurd leads

  part_closed : (c p : ℕ) (q : PortRef) (port : PartPort) → inside (ports.Cell c p) → PartLeads (part_of i) act c p port q → inside q
  part_closed c p q Go here leads = mentioned (ports.Cell c p) q here leads
  part_closed c p q (AnInput n) here leads = mentioned (ports.Cell c p) q here leads
  part_closed c p q (AnOutput n) here leads = absurd leads
  part_closed c p q ItsDone here leads = absurd leads

  cell_closed : (c p : ℕ) (q : PortRef) (at : At) → cell_at (cells_of i) c ≡ at → inside (ports.Cell c p) → CellLeads (part_of i) act c p at q → inside q
  cell_closed c p q Nothing is here leads = absurd leads
  cell_closed c p q (OfRow row) is here leads = side_closed c p q row is (side_of row p) refl here leads
  cell_closed c p q (OfInstance child) is here leads = part_closed c p q (part_port (part_of child) p) here leads

  pub is_closed : (p q : PortRef) → inside p → Leads i act p q → inside q
  is_closed (ports.Cell c p) q here leads = cell_closed c p q (cell_at (cells_of i) c) refl here leads
  is_closed (ports.Input n) q here leads = absurd leads
  is_closed (ports.Output n) q here leads = mentioned (ports.Output n) q here leads
  is_closed (ports.Done g) q here leads = mentioned (ports.Done g) q here leads
  is_closed (ports.Literal w v) q here leads = absurd leads
