-- One driver more is right.
use Rattle.std.proofs.Common.{◌≡◌, ◌≢◌, ℕ, zero, suc, ◌+◌, ◌<◌, ◌≤◌, ⊎_elim, Bool, true, false, List, [], ◌∷◌, ◌++◌, map, length, Some, None, option_map, slice_get, refl, ap, sym, ◌∙◌, subst, arith}
use Rattle.std.specs.Prelude.{slice_set, unwrap_or}
use Rattle.std.specs.Option.{option_map_or}
use Rattle.std.proofs.lemmas.Bool.{cases_order}
use Rattle.std.proofs.lemmas.Bool.Decides.{eqb_tells}
use Rattle.std.proofs.lemmas.Option.{slice_get_within}
use Rattle.cx_vtree.specs.Plain.{PlainPort, PlainAssign, PlainConn}
use Rattle.cx_vtree.specs.InstanceTree.{Placed, declared_nets, nets_at, Origin, Tied, Given, origin_of}
use Rattle.cx_vnets.specs.declared.codes.Code.{Code}
use Rattle.cx_vnets.specs.declared.nets.Driver.{Driver}
use Rattle.cx_vnets.specs.declared.nets.Driver.TheVariants as driver
use Rattle.cx_vtree.specs.NameNumbers.{position}
use Rattle.cx_vnets.specs.Numbers.{before, nets_before, net_number, place_of}
use Rattle.cx_vnets.specs.Flat.{DriverStands}
use Rattle.cx_velab.specs.Ties.{number_or_0, tied_by, tied_ports, given_nets}
use Rattle.cx_velab.specs.Driven.{IsRight, KeepsRight, NetsAreApart, IsWhole, TellsOrigin, IsConnected, IsTied, TiesAreRight, IsGiven, GivensAreRight}
use Rattle.cx_velab.proofs.BaseLemmas.{before_up}
use Rattle.cx_text.proofs.ListLaws.{get_set_same}
use Rattle.cx_vnets.proofs.Numbering.{position_here, position_there}

set_apart : {A : Type 0} (xs : List A) (i j : ℕ) (x : A) → j ≢ i → slice_get (slice_set xs i x) j ≡ slice_get xs j
set_apart [] i j x ne = refl
set_apart (y ∷ xs) zero zero x ne = absurd (ne refl)
set_apart (y ∷ xs) zero (suc j) x ne = refl
set_apart (y ∷ xs) (suc i) zero x ne = refl
set_apart (y ∷ xs) (suc i) (suc j) x ne = set_apart xs i j x (λ e. ne (ap suc e))

length-put : {A : Type 0} (xs : List A) (i : ℕ) (x : A) → length (slice_set xs i x) ≡ length xs
length-put [] i x = refl
length-put (y ∷ xs) zero x = refl
length-put (y ∷ xs) (suc i) x = ap suc (length-put xs i x)

-- numbers of an earlier list are below those of a later one
below : (lists : ℕ → List (List ℕ)) (i j k h : ℕ) → i < j → k < length (lists i) → before lists i + k < before lists j + h
below lists i j k h less within =
    let up : before lists (suc i) ≤ before lists j = before_up lists j (suc i) less in
    let step : before lists (suc i) ≡ before lists i + length (lists i) = refl in
    omega arith

-- a number belongs to one place of one list
once : (lists : ℕ → List (List ℕ)) (i j k h : ℕ) → k < length (lists i) → h < length (lists j) → before lists i + k ≡ before lists j + h → (i ≡ j) × (k ≡ h)
once lists i j k h lk lh e = ⊎_elim
    (λ same. let f : before lists i ≡ before lists j = ap (before lists) same in (same, omega arith))
    (λ order. ⊎_elim
    (λ less. let lt = below lists i j k h less lk in absurd (omega arith))
    (λ more. let lt = below lists j i h k more lh in absurd (omega arith))
    order)
    (cases_order i j)

module _ (tree : List Placed) (codes : List Code) (apart : NetsAreApart tree) where
  -- a net that stands in an instance has its place as its number
  number_is : (i k : ℕ) (name : List ℕ) → slice_get (nets_at tree i) k ≡ Some name → net_number tree i name ≡ Some (nets_before tree i + k)
  number_is i k name at =
      let p = position_there (nets_at tree i) name k at in
      let same : p.0 ≡ k = apart i p.0 k name (position_here (nets_at tree i) name p.0 p.1) at in
      ap (option_map (λ j. nets_before tree i + j)) p.1 ∙ ap (λ j. Some (nets_before tree i + j)) same

  -- numbers are those of drivers
  is_within : (drivers : List Driver) (i k : ℕ) (name : List ℕ) → IsWhole tree drivers → slice_get (nets_at tree i) k ≡ Some name → nets_before tree i + k < length drivers
  is_within drivers i k name whole at = ⊎_elim
      (λ past. absurd (beyond past))
      (λ order. ⊎_elim
      (λ less. let lt = below (nets_at tree) i (length tree) k 0 less (slice_get_within (nets_at tree i) k name at) in omega (arith, lt, whole))
      (λ more. absurd (over more))
      order)
      (cases_order i (length tree))
    where
      none : (xs : List Placed) (j : ℕ) → length xs ≤ j → slice_get xs j ≡ None
      none [] j le = refl
      none (x ∷ xs) zero le = absurd (omega arith)
      none (x ∷ xs) (suc j) le = none xs j (omega arith)

      empty : slice_get tree i ≡ None → ⊥
      empty e = let f : nets_at tree i ≡ [] = ap (λ o. map (λ p. p.name) (option_map_or (λ p. p.part.ports) o []) ++ declared_nets (option_map_or (λ p. p.part.decls) o [])) e in
          let g : slice_get (nets_at tree i) k ≡ None = ap (λ l. slice_get l k) f in absurd (cc)

      beyond : i ≡ length tree → ⊥
      beyond e = empty (none tree i (omega arith))

      over : length tree < i → ⊥
      over lt = empty (none tree i (omega arith))

  -- a driver that is right is put at the number of a net
  module _ (old : List Driver) (j h : ℕ) (net : List ℕ) (o : Origin) (x : Driver) (whole : IsWhole tree old) (at : slice_get (nets_at tree j) h ≡ Some net) (is : origin_of tree j net ≡ Some o) (stands : DriverStands tree codes j o x) where
    abbrev new : List Driver
    new = slice_set old (nets_before tree j + h) x

    put_right : IsRight tree codes new j h
    put_right name there =
        let same : net ≡ name = cc in
        (o, subst (λ n. origin_of tree j n ≡ Some o) same is, (x, get_set_same old (nets_before tree j + h) x (is_within old j h net whole at), stands))

    put_keeps : KeepsRight tree codes old new
    put_keeps i k right name there = ⊎_elim
        (λ s.
        let one = once (nets_at tree) i j k h (slice_get_within (nets_at tree i) k name there) (slice_get_within (nets_at tree j) h net at) s.1 in
        subst (λ z. IsRight tree codes new z k) (sym one.0) (subst (λ z. IsRight tree codes new j z) (sym one.1) put_right) name there)
        (λ d.
        let r = right name there in
        (r.0, r.1, (r.2.0, set_apart old (nets_before tree j + h) (nets_before tree i + k) x d.1 ∙ r.2.1, r.2.2)))
        (eqb_tells (nets_before tree i + k) (nets_before tree j + h))

    put_whole : IsWhole tree new
    put_whole = length-put old (nets_before tree j + h) x ∙ whole

  -- what one connection does
  abbrev TieTells : List Driver → List Driver → ℕ → ℕ → ℕ → ℕ → Bool → Type 0
  TieTells old new i holder k number b = KeepsRight tree codes old new × IsWhole tree new × IsTied tree codes new i holder k number b

  tie_by : (b : Bool) (i holder k number : ℕ) (port net : List ℕ) (old : List Driver) → IsWhole tree old → slice_get (nets_at tree i) k ≡ Some port → slice_get (nets_at tree holder) number ≡ Some net
      → TellsOrigin tree i holder port net b → TieTells old (tied_by b (nets_before tree i + k) (nets_before tree holder + number) old) i holder k number b
  tie_by true i holder k number port net old whole own there origin =
      let stands = number_is i k port own in (
        put_keeps old holder number net (Tied i port) (driver.Tied (nets_before tree i + k)) whole there origin stands,
        put_whole old holder number net (Tied i port) (driver.Tied (nets_before tree i + k)) whole there origin stands,
        put_right old holder number net (Tied i port) (driver.Tied (nets_before tree i + k)) whole there origin stands,
      )
  tie_by false i holder k number port net old whole own there origin =
      let stands = number_is holder number net there in (
        put_keeps old i k port (Tied holder net) (driver.Tied (nets_before tree holder + number)) whole own origin stands,
        put_whole old i k port (Tied holder net) (driver.Tied (nets_before tree holder + number)) whole own origin stands,
        put_right old i k port (Tied holder net) (driver.Tied (nets_before tree holder + number)) whole own origin stands,
      )

  tie_one : (i holder k : ℕ) (port : PlainPort) (c : PlainConn) (old : List Driver) → IsWhole tree old → (con : IsConnected tree i holder k port c)
      → TieTells old (tied_by port.output (nets_before tree i + k) (nets_before tree holder + number_or_0 (position (nets_at tree holder)) c.net) old) i holder k con.number port.output
  tie_one i holder k port c old whole con =
      let same : number_or_0 (position (nets_at tree holder)) c.net ≡ con.number = ap (λ o. unwrap_or o 0) con.net in
      subst (λ m. TieTells old (tied_by port.output (nets_before tree i + k) (nets_before tree holder + m) old) i holder k con.number port.output) (sym same)
      (tie_by port.output i holder k con.number port.name c.net old whole con.own (position_here (nets_at tree holder) c.net con.number con.net) con.origin)

  keeps_tied : (a b : List Driver) (i holder k n : ℕ) (t : Bool) → KeepsRight tree codes a b → IsTied tree codes a i holder k n t → IsTied tree codes b i holder k n t
  keeps_tied a b i holder k n true keeps h = keeps holder n h
  keeps_tied a b i holder k n false keeps h = keeps i k h

  abbrev AllTied : ℕ → ℕ → ℕ → List PlainPort → List PlainConn → List Driver → Type 0
  AllTied i holder k ports conns drivers =
      (j : ℕ) (port : PlainPort) (c : PlainConn) (n : ℕ) → slice_get ports j ≡ Some port → slice_get conns j ≡ Some c → position (nets_at tree holder) c.net ≡ Some n
      → IsTied tree codes drivers i holder (k + j) n port.output

  -- a first connection and the others
  all_tied : (i holder k number : ℕ) (p : PlainPort) (ps : List PlainPort) (d : PlainConn) (cs : List PlainConn) (drivers : List Driver) → position (nets_at tree holder) d.net ≡ Some number
      → IsTied tree codes drivers i holder k number p.output → AllTied i holder (k + 1) ps cs drivers → AllTied i holder k (p ∷ ps) (d ∷ cs) drivers
  all_tied i holder k number p ps d cs drivers numbered first rest zero port c n e f g =
      let p_is : p ≡ port = cc in
      let d_is : d ≡ c = cc in
      let named : position (nets_at tree holder) d.net ≡ Some n = ap (λ x. position (nets_at tree holder) x.net) d_is ∙ g in
      let n_is : number ≡ n = cc in
      let k_is : k ≡ k + 0 = omega arith in
      subst (λ x. IsTied tree codes drivers i holder (k + 0) n x.output) p_is
      (subst (λ m. IsTied tree codes drivers i holder (k + 0) m p.output) n_is (subst (λ m. IsTied tree codes drivers i holder m number p.output) k_is first))
  all_tied i holder k number p ps d cs drivers numbered first rest (suc j) port c n e f g =
      let k_is : k + 1 + j ≡ k + suc j = omega arith in
      subst (λ m. IsTied tree codes drivers i holder m n port.output) k_is (rest j port c n e f g)

  ties : (i holder k : ℕ) (ports : List PlainPort) (conns : List PlainConn) (drivers : List Driver) → IsWhole tree drivers
      → ((j : ℕ) (port : PlainPort) (c : PlainConn) → slice_get ports j ≡ Some port → slice_get conns j ≡ Some c → IsConnected tree i holder (k + j) port c)
      → KeepsRight tree codes drivers (tied_ports (position (nets_at tree holder)) (nets_before tree i) (nets_before tree holder) k ports conns drivers)
      × IsWhole tree (tied_ports (position (nets_at tree holder)) (nets_before tree i) (nets_before tree holder) k ports conns drivers)
      × AllTied i holder k ports conns (tied_ports (position (nets_at tree holder)) (nets_before tree i) (nets_before tree holder) k ports conns drivers)
  ties i holder k [] conns drivers whole facts = (λ a b r. r, whole, λ j port c n e f g. absurd (cc))
  ties i holder k (p ∷ ps) [] drivers whole facts = (λ a b r. r, whole, λ j port c n e f g. absurd (cc))
  ties i holder k (p ∷ ps) (c ∷ cs) drivers whole facts =
      let k_is : k + 0 ≡ k = omega arith in
      let con = subst (λ m. IsConnected tree i holder m p c) k_is (facts 0 p c refl refl) in
      let mid : List Driver = tied_by p.output (nets_before tree i + k) (nets_before tree holder + number_or_0 (position (nets_at tree holder)) c.net) drivers in
      let one = tie_one i holder k p c drivers whole con in
      let rest = ties i holder (k + 1) ps cs mid one.1
      (λ j port d e f. let m_is : k + suc j ≡ k + 1 + j = omega arith in subst (λ m. IsConnected tree i holder m port d) m_is (facts (suc j) port d e f)) in
      let end : List Driver = tied_ports (position (nets_at tree holder)) (nets_before tree i) (nets_before tree holder) (k + 1) ps cs mid in (
        λ a b r. rest.0 a b (one.0 a b r),
        rest.1,
        all_tied i holder k con.number p ps c cs end con.net (keeps_tied mid end i holder k con.number p.output rest.0 one.2) rest.2,
      )

  give_one : (i first : ℕ) (a : PlainAssign) (old : List Driver) → IsWhole tree old → (con : IsGiven tree codes i first a)
      → KeepsRight tree codes old (slice_set old (nets_before tree i + number_or_0 (position (nets_at tree i)) a.name) (driver.Given first (place_of tree i)))
      × IsWhole tree (slice_set old (nets_before tree i + number_or_0 (position (nets_at tree i)) a.name) (driver.Given first (place_of tree i)))
      × IsRight tree codes (slice_set old (nets_before tree i + number_or_0 (position (nets_at tree i)) a.name) (driver.Given first (place_of tree i))) i con.number
  give_one i first a old whole con =
      let same : number_or_0 (position (nets_at tree i)) a.name ≡ con.number = ap (λ o. unwrap_or o 0) con.net in
      let there = position_here (nets_at tree i) a.name con.number con.net in
      let stands : DriverStands tree codes i (Given a.value) (driver.Given first (place_of tree i)) = (refl, con.coded) in
      subst (λ m. KeepsRight tree codes old (slice_set old (nets_before tree i + m) (driver.Given first (place_of tree i)))
      × IsWhole tree (slice_set old (nets_before tree i + m) (driver.Given first (place_of tree i)))
      × IsRight tree codes (slice_set old (nets_before tree i + m) (driver.Given first (place_of tree i))) i con.number) (sym same) (
        put_keeps old i con.number a.name (Given a.value) (driver.Given first (place_of tree i)) whole there con.origin stands,
        put_whole old i con.number a.name (Given a.value) (driver.Given first (place_of tree i)) whole there con.origin stands,
        put_right old i con.number a.name (Given a.value) (driver.Given first (place_of tree i)) whole there con.origin stands,
      )

  abbrev AllGiven : ℕ → List PlainAssign → List Driver → Type 0
  AllGiven i assigns drivers = (j : ℕ) (a : PlainAssign) (n : ℕ) → slice_get assigns j ≡ Some a → position (nets_at tree i) a.name ≡ Some n → IsRight tree codes drivers i n

  all_given : (i number : ℕ) (d : PlainAssign) (rest : List PlainAssign) (drivers : List Driver) → position (nets_at tree i) d.name ≡ Some number
      → IsRight tree codes drivers i number → AllGiven i rest drivers → AllGiven i (d ∷ rest) drivers
  all_given i number d rest drivers numbered first later zero a n e g =
      let d_is : d ≡ a = cc in
      let named : position (nets_at tree i) d.name ≡ Some n = ap (λ x. position (nets_at tree i) x.name) d_is ∙ g in
      let n_is : number ≡ n = cc in
      subst (λ m. IsRight tree codes drivers i m) n_is first
  all_given i number d rest drivers numbered first later (suc j) a n e g = later j a n e g

  givens : (i first : ℕ) (assigns : List PlainAssign) (drivers : List Driver) → IsWhole tree drivers
      → ((j : ℕ) (a : PlainAssign) → slice_get assigns j ≡ Some a → IsGiven tree codes i (first + j) a)
      → KeepsRight tree codes drivers (given_nets (position (nets_at tree i)) (place_of tree i) first assigns drivers)
      × IsWhole tree (given_nets (position (nets_at tree i)) (place_of tree i) first assigns drivers)
      × AllGiven i assigns (given_nets (position (nets_at tree i)) (place_of tree i) first assigns drivers)
  givens i first [] drivers whole facts = (λ a b r. r, whole, λ j a n e g. absurd (cc))
  givens i first (d ∷ rest) drivers whole facts =
      let f_is : first + 0 ≡ first = omega arith in
      let con = subst (λ m. IsGiven tree codes i m d) f_is (facts 0 d refl) in
      let mid : List Driver = slice_set drivers (nets_before tree i + number_or_0 (position (nets_at tree i)) d.name) (driver.Given first (place_of tree i)) in
      let one = give_one i first d drivers whole con in
      let later = givens i (first + 1) rest mid one.1
      (λ j a e. let m_is : first + suc j ≡ first + 1 + j = omega arith in subst (λ m. IsGiven tree codes i m a) m_is (facts (suc j) a e)) in
      let end : List Driver = given_nets (position (nets_at tree i)) (place_of tree i) (first + 1) rest mid in (
        λ a b r. later.0 a b (one.0 a b r),
        later.1,
        all_given i con.number d rest end con.net (later.0 i con.number one.2) later.2,
      )

pub ties_right : TiesAreRight
ties_right tree codes i holder ports conns drivers apart whole facts =
    let t = ties tree codes apart i holder 0 ports conns drivers whole
    (λ j port c e f. let m_is : j ≡ 0 + j = omega arith in subst (λ m. IsConnected tree i holder m port c) m_is (facts j port c e f)) in (
      t.0,
      t.1,
      λ k port c n e f g.
          let m_is : 0 + k ≡ k = omega arith in
          subst (λ m. IsTied tree codes (tied_ports (position (nets_at tree holder)) (nets_before tree i) (nets_before tree holder) 0 ports conns drivers) i holder m n port.output) m_is (t.2 k port c n e f g),
    )

pub givens_right : GivensAreRight
givens_right tree codes i first assigns drivers apart whole facts = givens tree codes apart i first assigns drivers whole facts
