-- WHAT AN ISLAND DOES by the new numbers: paths, cells and ports of it are renumbered, each port by the component at its path; the same groups act,
-- and the cells that stand for the fed ones are fed the renamed sources.
use Rattle.std.proofs.Common.{◌≡◌, ℕ, suc, ◌-◌, inl, inr, Bool, true, false, ◌&&◌, List, [], ◌∷◌, map, refl, ap, ◌∙◌}
use Rattle.std.specs.Prelude.{nat_eq, nat_le, nat_lt, if◌then◌else◌}
use Rattle.std.proofs.lemmas.Bool.{eqb-true}
use Rattle.cx_text.specs.Members.{In}
use Rattle.cx_meaning.specs.declared.ports.PortRef.{PortRef}
use Rattle.cx_meaning.specs.declared.ports.PortRef.TheVariants as ports
use Rattle.cx_meaning.specs.Designs.{PlainAssign, PlainComponent}
use Rattle.cx_meaning.specs.Instances.{Instance, Node, Cells, OfInstance, part_of, cell_at, instance_at, child_at, Path}
use Rattle.cx_meaning.specs.Active.{same_port}
use Rattle.cx_meaning.specs.Sights.{Look}
use Rattle.cx_meaning.specs.Islands.{is_wanted}
use Rattle.cx_rewrites.specs.Moving.{moved_assign}
use Rattle.cx_rewrites.specs.Renaming.{renamed}
use Rattle.cx_rewrites.specs.Standing.{renumbered, renumbered_below}
use Rattle.cx_flattening.specs.Events.{Spot, spot, Sample, Event, Runs, Feeds, Looks, source_in, source_to}
use Rattle.cx_flattening.specs.Deeds.{History, hold, Deed, Acts, Fed, deed_if, is_now, deeds_in, spot_if, looked_in, own_entries, deeds_below, held_if, held_below}
use Rattle.cx_sharing.specs.Uses.{is_candidate}
use Rattle.cx_sharing.specs.Giving.{new_cell}
use Rattle.cx_sharing.proofs.TwinStates.{child_renumbered, child_is}
use Rattle.cx_sharing.proofs.WholeTwins.{same_number}

-- the new numbers of the cells of the component at a path
abbrev pub number_at : Instance → Path → ℕ → ℕ
number_at root at = new_cell (part_of (instance_at root at))

module _ (root : Instance) where
  abbrev pub moved_spot : Spot → Spot
  moved_spot x = spot (renumbered new_cell root x.at) (renamed (number_at root x.at) x.port)

  abbrev pub moved_sample : Sample → Sample
  moved_sample x = record { spot = moved_spot x.spot; cycle = x.cycle; wanted = x.wanted }

  abbrev pub moved_inputs : Path → List PlainAssign → List PlainAssign
  moved_inputs at inputs = map (moved_assign (renamed (number_at root at))) inputs

  abbrev pub moved_event : Event → Event
  moved_event (Runs at g from to conditions) = Runs (renumbered new_cell root at) g from to (map moved_sample conditions)
  moved_event (Feeds at c inputs from to conditions) = Feeds (renumbered new_cell root at) (number_at root at c) (moved_inputs at inputs) from to (map moved_sample conditions)
  moved_event (Looks x cycle conditions) = Looks (moved_spot x) cycle (map moved_sample conditions)

  abbrev pub moved_deed : Deed → Deed
  moved_deed (Acts at e) = Acts (renumbered new_cell root at) e
  moved_deed (Fed at c inputs) = Fed (renumbered new_cell root at) (number_at root at c) (moved_inputs at inputs)

  -- histories that say the same of spots
  abbrev pub Says : History → History → Type 0
  Says h k = (x : Spot) (u : ℕ) → k (moved_spot x) u ≡ h x u

  module _ (h k : History) (says : Says h k) where
    hold-moved : (conditions : List Sample) → hold k (map moved_sample conditions) ≡ hold h conditions
    hold-moved [] = refl
    hold-moved (x ∷ rest) =
        ap (λ b. is_wanted x.wanted b && hold k (map moved_sample rest)) (says x.spot x.cycle)
        ∙ ap (λ b. is_wanted x.wanted (h x.spot x.cycle) && b) (hold-moved rest)

    picked : (b : Bool) (x : Deed) (rest list : List Deed) → rest ≡ map moved_deed list → deed_if b (moved_deed x) rest ≡ map moved_deed (deed_if b x list)
    picked true x rest list e = ap (λ l. moved_deed x ∷ l) e
    picked false x rest list e = e

    pub deeds-moved : (t : ℕ) (list : List Event) → deeds_in k t (map moved_event list) ≡ map moved_deed (deeds_in h t list)
    deeds-moved t [] = refl
    deeds-moved t (Runs at g from to conditions ∷ rest) =
        ap (λ b. deed_if (nat_le from t && nat_lt t to && b) (Acts (renumbered new_cell root at) (record { group = g; offset = t - from })) (deeds_in k t (map moved_event rest))) (hold-moved conditions)
        ∙ picked (is_now h t from to conditions) (Acts at (record { group = g; offset = t - from })) (deeds_in k t (map moved_event rest)) (deeds_in h t rest) (deeds-moved t rest)
    deeds-moved t (Feeds at c inputs from to conditions ∷ rest) =
        ap (λ b. deed_if (nat_le from t && nat_lt t to && b) (Fed (renumbered new_cell root at) (number_at root at c) (moved_inputs at inputs)) (deeds_in k t (map moved_event rest))) (hold-moved conditions)
        ∙ picked (is_now h t from to conditions) (Fed at c inputs) (deeds_in k t (map moved_event rest)) (deeds_in h t rest) (deeds-moved t rest)
    deeds-moved t (Looks x cycle conditions ∷ rest) = deeds-moved t rest

    spots_picked : (b : Bool) (x : Spot) (rest list : List Spot) → rest ≡ map moved_spot list → spot_if b (moved_spot x) rest ≡ map moved_spot (spot_if b x list)
    spots_picked true x rest list e = ap (λ l. moved_spot x ∷ l) e
    spots_picked false x rest list e = e

    pub looks-moved : (t : ℕ) (list : List Event) → looked_in k t (map moved_event list) ≡ map moved_spot (looked_in h t list)
    looks-moved t [] = refl
    looks-moved t (Runs at g from to conditions ∷ rest) = looks-moved t rest
    looks-moved t (Feeds at c inputs from to conditions ∷ rest) = looks-moved t rest
    looks-moved t (Looks x cycle conditions ∷ rest) =
        ap (λ b. spot_if (nat_eq t cycle && b) (moved_spot x) (looked_in k t (map moved_event rest))) (hold-moved conditions)
        ∙ spots_picked (nat_eq t cycle && hold h conditions) x (looked_in k t (map moved_event rest)) (looked_in h t rest) (looks-moved t rest)

-- the same groups of the instance act
pub own-moved : (root : Instance) (ds : List Deed) → own_entries (map (moved_deed root) ds) ≡ own_entries ds
own-moved (Node part cells) [] = refl
own-moved (Node part cells) (Acts [] e ∷ rest) = ap (λ l. e ∷ l) (own-moved (Node part cells) rest)
own-moved (Node part cells) (Acts (c ∷ at) e ∷ rest) = own-moved (Node part cells) rest
own-moved (Node part cells) (Fed [] c inputs ∷ rest) = own-moved (Node part cells) rest
own-moved (Node part cells) (Fed (d ∷ at) c inputs ∷ rest) = own-moved (Node part cells) rest

-- AT A CELL THAT IS NO CANDIDATE
module _ (part : PlainComponent) (cells : Cells) (c : ℕ) (none : is_candidate part c ≡ false) where
  abbrev i : Instance
  i = Node part cells

  abbrev new : ℕ → ℕ
  new = new_cell part

  module _ (child : Instance) (at : cell_at cells c ≡ OfInstance child) where
    picked_below : (b : Bool) (x y : Deed) (rest list : List Deed) → (b ≡ true → y ≡ moved_deed child x) → rest ≡ map (moved_deed child) list → deed_if b y rest ≡ map (moved_deed child) (deed_if b x list)
    picked_below true x y rest list h e = ap (λ z. z ∷ rest) (h refl) ∙ ap (λ l. moved_deed child x ∷ l) e
    picked_below false x y rest list h e = e

    pub below-moved : (ds : List Deed) → deeds_below (new c) (map (moved_deed i) ds) ≡ map (moved_deed child) (deeds_below c ds)
    below-moved [] = refl
    below-moved (Acts [] e ∷ rest) = below-moved rest
    below-moved (Acts (x ∷ path) e ∷ rest) =
        ap (λ b. deed_if b (Acts (renumbered_below new_cell cells x path) e) (deeds_below (new c) (map (moved_deed i) rest))) (same_number part x c none)
        ∙ picked_below (nat_eq x c) (Acts path e) (Acts (renumbered_below new_cell cells x path) e) (deeds_below (new c) (map (moved_deed i) rest)) (deeds_below c rest)
        (λ h. ap (λ p. Acts p e) (ap (λ y. renumbered_below new_cell cells y path) (eqb-true x c h) ∙ child_renumbered cells c child path at)) (below-moved rest)
    below-moved (Fed [] x inputs ∷ rest) = below-moved rest
    below-moved (Fed (x ∷ path) d inputs ∷ rest) =
        ap (λ b. deed_if b (fed x) (deeds_below (new c) (map (moved_deed i) rest))) (same_number part x c none)
        ∙ picked_below (nat_eq x c) (Fed path d inputs) (fed x) (deeds_below (new c) (map (moved_deed i) rest)) (deeds_below c rest)
        (λ h.
        ap fed (eqb-true x c h)
        ∙ ap (λ p. Fed p (new_cell (part_of (child_at cells c path)) d) (map (moved_assign (renamed (new_cell (part_of (child_at cells c path))))) inputs)) (child_renumbered cells c child path at)
        ∙ ap (λ y. Fed (renumbered new_cell child path) (new_cell (part_of y) d) (map (moved_assign (renamed (new_cell (part_of y)))) inputs)) (child_is cells c child path at)) (below-moved rest)
      where
        fed : ℕ → Deed
        fed y = Fed (renumbered_below new_cell cells y path) (new_cell (part_of (child_at cells y path)) d) (map (moved_assign (renamed (new_cell (part_of (child_at cells y path))))) inputs)

  -- the source of an input
  port_number : (t : PortRef) (p : ℕ) → same_port (renamed new t) (ports.Cell (new c) p) ≡ same_port t (ports.Cell c p)
  port_number (ports.Cell d q) p = ap (λ b. b && nat_eq q p) (same_number part d c none)
  port_number (ports.Input n) p = refl
  port_number (ports.Output n) p = refl
  port_number (ports.Done g) p = refl
  port_number (ports.Literal w v) p = refl

  source_in-moved : (list : List PlainAssign) (p : ℕ) → source_in (new c) (map (moved_assign (renamed new)) list) (ports.Cell (new c) p) ≡ renamed new (source_in c list (ports.Cell c p))
  source_in-moved [] p = refl
  source_in-moved (a ∷ rest) p =
      ap (λ b. if b then renamed new a.source.port else source_in (new c) (map (moved_assign (renamed new)) rest) (ports.Cell (new c) p)) (port_number a.target p)
      ∙ choice (same_port a.target (ports.Cell c p)) (source_in-moved rest p)
    where
      choice : (b : Bool) → source_in (new c) (map (moved_assign (renamed new)) rest) (ports.Cell (new c) p) ≡ renamed new (source_in c rest (ports.Cell c p))
          → (if b then renamed new a.source.port else source_in (new c) (map (moved_assign (renamed new)) rest) (ports.Cell (new c) p)) ≡ renamed new (if b then a.source.port else source_in c rest (ports.Cell c p))
      choice true e = refl
      choice false e = e

  pub source_to-moved : (list : List PlainAssign) (n : ℕ) → source_to (new c) (map (moved_assign (renamed new)) list) n ≡ renamed new (source_to c list n)
  source_to-moved list n = source_in-moved list (suc n)

  -- what the child's inputs are held as, where what they are fed is seen alike
  pub held-moved : (look other : Look) (n : ℕ) (ds : List Deed)
      → ((inputs : List PlainAssign) → In ds (Fed [] c inputs) → other (source_to (new c) (map (moved_assign (renamed new)) inputs) n) ≡ look (source_to c inputs n))
      → held_below other (new c) (map (moved_deed i) ds) n ≡ held_below look c ds n
  held-moved look other n [] fed = refl
  held-moved look other n (Acts at e ∷ rest) fed = held-moved look other n rest (λ inputs k. fed inputs (inr k))
  held-moved look other n (Fed [] x inputs ∷ rest) fed =
      ap (λ b. held_if b (λ m. other (source_to (new c) (map (moved_assign (renamed new)) inputs) m)) (held_below other (new c) (map (moved_deed i) rest)) n) (same_number part x c none)
      ∙ by (nat_eq x c) refl (held-moved look other n rest (λ list k. fed list (inr k)))
    where
      by : (b : Bool) → nat_eq x c ≡ b → held_below other (new c) (map (moved_deed i) rest) n ≡ held_below look c rest n
          → held_if b (λ m. other (source_to (new c) (map (moved_assign (renamed new)) inputs) m)) (held_below other (new c) (map (moved_deed i) rest)) n ≡ held_if b (λ m. look (source_to c inputs m)) (held_below look c rest) n
      by true e later = fed inputs (inl (ap (λ y. Fed [] y inputs) (eqb-true x c e)))
      by false e later = later
  held-moved look other n (Fed (d ∷ at) x inputs ∷ rest) fed = held-moved look other n rest (λ list k. fed list (inr k))
