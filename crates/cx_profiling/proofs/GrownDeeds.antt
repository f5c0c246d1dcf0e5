-- WHAT AN ISLAND DOES with the ports moved, each by the component at its path: the same groups act, the same cells are fed, and the ports
-- at which static ifs look are moved.
use Rattle.std.proofs.Common.{◌≡◌, ℕ, ◌-◌, inl, inr, Bool, true, false, ◌&&◌, nat_eq, nat_le, nat_lt, List, [], ◌∷◌, map, refl, ap, ◌∙◌, subst}
use Rattle.std.proofs.lemmas.Bool.{eqb-true}
use Rattle.cx_text.specs.Members.{In}
use Rattle.cx_meaning.specs.declared.ports.PortRef.{PortRef}
use Rattle.cx_meaning.specs.Designs.{PlainAssign}
use Rattle.cx_meaning.specs.Instances.{Path}
use Rattle.cx_meaning.specs.Sights.{Look}
use Rattle.cx_meaning.specs.Islands.{is_wanted}
use Rattle.cx_rewrites.specs.Moving.{moved_assign}
use Rattle.cx_flattening.specs.Events.{Spot, spot, Sample, Event, Runs, Feeds, Looks, source_to}
use Rattle.cx_flattening.specs.Deeds.{History, hold, Deed, Acts, Fed, deed_if, is_now, deeds_in, spot_if, looked_in, own_entries, deeds_below, held_if, held_below}

module _ (mv : Path → PortRef → PortRef) where
  abbrev pub moved_spot : Spot → Spot
  moved_spot x = spot x.at (mv x.at x.port)

  abbrev pub moved_sample : Sample → Sample
  moved_sample x = record { spot = moved_spot x.spot; cycle = x.cycle; wanted = x.wanted }

  abbrev pub moved_event : Event → Event
  moved_event (Runs at g from to conditions) = Runs at g from to (map moved_sample conditions)
  moved_event (Feeds at c inputs from to conditions) = Feeds at c (map (moved_assign (mv at)) inputs) from to (map moved_sample conditions)
  moved_event (Looks x cycle conditions) = Looks (moved_spot x) cycle (map moved_sample conditions)

  abbrev pub moved_deed : Deed → Deed
  moved_deed (Acts at e) = Acts at e
  moved_deed (Fed at c inputs) = Fed at c (map (moved_assign (mv at)) inputs)

  -- the same groups of the instance act
  pub own-moved : (ds : List Deed) → own_entries (map moved_deed ds) ≡ own_entries ds
  own-moved [] = refl
  own-moved (Acts [] e ∷ rest) = ap (λ l. e ∷ l) (own-moved rest)
  own-moved (Acts (c ∷ at) e ∷ rest) = own-moved rest
  own-moved (Fed at c inputs ∷ rest) = own-moved rest

one_picked : (f : Deed → Deed) (b : Bool) (x y : Deed) (rest list : List Deed) → (b ≡ true → y ≡ f x) → rest ≡ map f list → deed_if b y rest ≡ map f (deed_if b x list)
one_picked f true x y rest list h e = ap (λ z. z ∷ rest) (h refl) ∙ ap (λ l. f x ∷ l) e
one_picked f false x y rest list h e = e

-- and below a cell
pub below-moved : (mv : Path → PortRef → PortRef) (c : ℕ) (ds : List Deed) → deeds_below c (map (moved_deed mv) ds) ≡ map (moved_deed (λ at. mv (c ∷ at))) (deeds_below c ds)
below-moved mv c [] = refl
below-moved mv c (Acts [] e ∷ rest) = below-moved mv c rest
below-moved mv c (Acts (x ∷ at) e ∷ rest) = one_picked (moved_deed (λ p. mv (c ∷ p))) (nat_eq x c) (Acts at e) (Acts at e) (deeds_below c (map (moved_deed mv) rest)) (deeds_below c rest) (λ h. refl) (below-moved mv c rest)
below-moved mv c (Fed [] e inputs ∷ rest) = below-moved mv c rest
below-moved mv c (Fed (x ∷ at) e inputs ∷ rest) =
    one_picked (moved_deed (λ p. mv (c ∷ p))) (nat_eq x c) (Fed at e inputs) (Fed at e (map (moved_assign (mv (x ∷ at))) inputs)) (deeds_below c (map (moved_deed mv) rest)) (deeds_below c rest)
    (λ h. ap (λ y. Fed at e (map (moved_assign (mv (y ∷ at))) inputs)) (eqb-true x c h)) (below-moved mv c rest)

-- WHAT IS KNOWN of spots, of the groups that act and of the cells that are fed
module _ (P : Spot → Type 0) (A : Path → ℕ → Type 0) (F : Path → ℕ → List PlainAssign → Type 0) where
  abbrev pub AreKnown : List Sample → Type 0
  AreKnown conditions = (x : Sample) → In conditions x → P x.spot

  abbrev pub IsKnownEvent : Event → Type 0
  IsKnownEvent (Runs at g from to conditions) = A at g × AreKnown conditions
  IsKnownEvent (Feeds at c inputs from to conditions) = F at c inputs × AreKnown conditions
  IsKnownEvent (Looks x cycle conditions) = P x × AreKnown conditions

  abbrev pub IsKnownDeed : Deed → Type 0
  IsKnownDeed (Acts at e) = A at e.group
  IsKnownDeed (Fed at c inputs) = F at c inputs

  abbrev pub AllKnown : List Event → Type 0
  AllKnown list = (x : Event) → In list x → IsKnownEvent x

  abbrev pub AllDeedsKnown : List Deed → Type 0
  AllDeedsKnown ds = (x : Deed) → In ds x → IsKnownDeed x

  deed_known : (b : Bool) (y : Deed) (rest : List Deed) → IsKnownDeed y → AllDeedsKnown rest → AllDeedsKnown (deed_if b y rest)
  deed_known true y rest h all x (inl e) = subst IsKnownDeed e h
  deed_known true y rest h all x (inr i) = all x i
  deed_known false y rest h all x i = all x i

  pub deeds_known : (h : History) (t : ℕ) (list : List Event) → AllKnown list → AllDeedsKnown (deeds_in h t list)
  deeds_known h t [] all x i = absurd i
  deeds_known h t (Runs at g from to conditions ∷ rest) all x i =
      deed_known (is_now h t from to conditions) (Acts at (record { group = g; offset = t - from })) (deeds_in h t rest) (all (Runs at g from to conditions) (inl refl)).0
      (deeds_known h t rest (λ y j. all y (inr j))) x i
  deeds_known h t (Feeds at c inputs from to conditions ∷ rest) all x i =
      deed_known (is_now h t from to conditions) (Fed at c inputs) (deeds_in h t rest) (all (Feeds at c inputs from to conditions) (inl refl)).0 (deeds_known h t rest (λ y j. all y (inr j))) x i
  deeds_known h t (Looks s cycle conditions ∷ rest) all x i = deeds_known h t rest (λ y j. all y (inr j)) x i

  spot_known : (b : Bool) (y : Spot) (rest : List Spot) → P y → ((x : Spot) → In rest x → P x) → (x : Spot) → In (spot_if b y rest) x → P x
  spot_known true y rest h all x (inl e) = subst P e h
  spot_known true y rest h all x (inr i) = all x i
  spot_known false y rest h all x i = all x i

  pub looks_known : (h : History) (t : ℕ) (list : List Event) → AllKnown list → (x : Spot) → In (looked_in h t list) x → P x
  looks_known h t [] all x i = absurd i
  looks_known h t (Runs at g from to conditions ∷ rest) all x i = looks_known h t rest (λ y j. all y (inr j)) x i
  looks_known h t (Feeds at c inputs from to conditions ∷ rest) all x i = looks_known h t rest (λ y j. all y (inr j)) x i
  looks_known h t (Looks s cycle conditions ∷ rest) all x i =
      spot_known (nat_eq t cycle && hold h conditions) s (looked_in h t rest) (all (Looks s cycle conditions) (inl refl)).0 (looks_known h t rest (λ y j. all y (inr j))) x i

  -- histories that say the same of spots and of those that they are moved to
  module _ (mv : Path → PortRef → PortRef) (h k : History) (says : (x : Spot) → P x → (u : ℕ) → k (moved_spot mv x) u ≡ h x u) where
    hold-moved : (conditions : List Sample) → AreKnown conditions → hold k (map (moved_sample mv) conditions) ≡ hold h conditions
    hold-moved [] all = refl
    hold-moved (x ∷ rest) all =
        ap (λ b. is_wanted x.wanted b && hold k (map (moved_sample mv) rest)) (says x.spot (all x (inl refl)) x.cycle)
        ∙ ap (λ b. is_wanted x.wanted (h x.spot x.cycle) && b) (hold-moved rest (λ y i. all y (inr i)))

    pub deeds-moved : (t : ℕ) (list : List Event) → AllKnown list → deeds_in k t (map (moved_event mv) list) ≡ map (moved_deed mv) (deeds_in h t list)
    deeds-moved t [] all = refl
    deeds-moved t (Runs at g from to conditions ∷ rest) all =
        ap (λ b. deed_if (nat_le from t && nat_lt t to && b) (Acts at (record { group = g; offset = t - from })) (deeds_in k t (map (moved_event mv) rest))) (hold-moved conditions (all (Runs at g from to conditions) (inl refl)).1)
        ∙ one_picked (moved_deed mv) (is_now h t from to conditions) (Acts at (record { group = g; offset = t - from })) (Acts at (record { group = g; offset = t - from }))
        (deeds_in k t (map (moved_event mv) rest)) (deeds_in h t rest) (λ e. refl) (deeds-moved t rest (λ y j. all y (inr j)))
    deeds-moved t (Feeds at c inputs from to conditions ∷ rest) all =
        ap (λ b. deed_if (nat_le from t && nat_lt t to && b) (Fed at c (map (moved_assign (mv at)) inputs)) (deeds_in k t (map (moved_event mv) rest))) (hold-moved conditions (all (Feeds at c inputs from to conditions) (inl refl)).1)
        ∙ one_picked (moved_deed mv) (is_now h t from to conditions) (Fed at c inputs) (Fed at c (map (moved_assign (mv at)) inputs))
        (deeds_in k t (map (moved_event mv) rest)) (deeds_in h t rest) (λ e. refl) (deeds-moved t rest (λ y j. all y (inr j)))
    deeds-moved t (Looks x cycle conditions ∷ rest) all = deeds-moved t rest (λ y j. all y (inr j))

    spots_picked : (b : Bool) (x : Spot) (rest list : List Spot) → rest ≡ map (moved_spot mv) list → spot_if b (moved_spot mv x) rest ≡ map (moved_spot mv) (spot_if b x list)
    spots_picked true x rest list e = ap (λ l. moved_spot mv x ∷ l) e
    spots_picked false x rest list e = e

    pub looks-moved : (t : ℕ) (list : List Event) → AllKnown list → looked_in k t (map (moved_event mv) list) ≡ map (moved_spot mv) (looked_in h t list)
    looks-moved t [] all = refl
    looks-moved t (Runs at g from to conditions ∷ rest) all = looks-moved t rest (λ y j. all y (inr j))
    looks-moved t (Feeds at c inputs from to conditions ∷ rest) all = looks-moved t rest (λ y j. all y (inr j))
    looks-moved t (Looks x cycle conditions ∷ rest) all =
        ap (λ b. spot_if (nat_eq t cycle && b) (moved_spot mv x) (looked_in k t (map (moved_event mv) rest))) (hold-moved conditions (all (Looks x cycle conditions) (inl refl)).1)
        ∙ spots_picked (nat_eq t cycle && hold h conditions) x (looked_in k t (map (moved_event mv) rest)) (looked_in h t rest) (looks-moved t rest (λ y j. all y (inr j)))

  -- an input of a child, where what it is fed is seen alike
  pub held-moved : (mv : Path → PortRef → PortRef) (look other : Look) (c n : ℕ)
      → ((inputs : List PlainAssign) → F [] c inputs → other (source_to c (map (moved_assign (mv [])) inputs) n) ≡ look (source_to c inputs n))
      → (ds : List Deed) → AllDeedsKnown ds → held_below other c (map (moved_deed mv) ds) n ≡ held_below look c ds n
  held-moved mv look other c n fed [] all = refl
  held-moved mv look other c n fed (Acts at e ∷ rest) all = held-moved mv look other c n fed rest (λ x i. all x (inr i))
  held-moved mv look other c n fed (Fed [] x inputs ∷ rest) all = by (nat_eq x c) refl (held-moved mv look other c n fed rest (λ y i. all y (inr i)))
    where
      by : (b : Bool) → nat_eq x c ≡ b → held_below other c (map (moved_deed mv) rest) n ≡ held_below look c rest n
          → held_if b (λ m. other (source_to c (map (moved_assign (mv [])) inputs) m)) (held_below other c (map (moved_deed mv) rest)) n ≡ held_if b (λ m. look (source_to c inputs m)) (held_below look c rest) n
      by true e later = fed inputs (subst (λ y. F [] y inputs) (eqb-true x c e) (all (Fed [] x inputs) (inl refl)))
      by false e later = later
  held-moved mv look other c n fed (Fed (d ∷ at) x inputs ∷ rest) all = held-moved mv look other c n fed rest (λ y i. all y (inr i))
