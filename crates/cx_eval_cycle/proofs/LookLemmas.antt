-- What a look at a cell comes to, by what stands at its ports.
use Rattle.std.proofs.Common.{◌≡◌, ℕ, zero, suc, ◌+◌, ◌<◌, Bool, true, false, ◌||◌, List, get_or, [], ◌∷◌, length, Option, Some, None, Ok, refl, sym, ap, ◌∙◌, subst, arith}
use Rattle.std.specs.Prelude.{IsSome, slice_get}
use Rattle.std.proofs.Math.Path.{fun_ext}
use Rattle.std.proofs.lemmas.Bool.{or_right, or_left}
use Rattle.std.proofs.lemmas.Option.{slice_get_within}
use Rattle.cx_bits.specs.BitVector.{BitVector}
use Rattle.cx_prim.specs.CellStates.{CellState}
use Rattle.cx_prim.specs.declared.ports.PortRow.{PortRow}
use Rattle.cx_prim.specs.declared.ports.Side.TheVariants.{Enable}
use Rattle.cx_prim.specs.Rows.{AgreesWhereEnabling, AgreesWhereLooked, Inputs, IsLawful, IsLookedAt, IsQuiet, Row, edge, edge_of, input, is_enable_side, number_of}
use Rattle.cx_meaning.specs.declared.sights.Seen.{Seen}
use Rattle.cx_meaning.specs.declared.sights.Seen.TheVariants.{Value, Conflict, Undefined}
use Rattle.cx_meaning.specs.declared.sights.FaultKind.TheVariants as faults
use Rattle.cx_meaning.specs.Sights.{Gathered, Given, Lacks, gather_port, gather}
use Rattle.cx_meaning.specs.Cycles.{Outcome, Next, Stops, enables, looks_at, after_edge, after_data, after_enabling}
use Rattle.cx_meaning.proofs.RowsLemmas.{side_at}
use Rattle.cx_eval_cycle.specs.declared.looking.CellStop.{CellStop}
use Rattle.cx_eval_cycle.specs.Ports.{AllStand, IsValue, Stands, StopsAt}
use Rattle.cx_text.proofs.BoolLaws.{not_both, or_false}

-- WHAT IS GATHERED from one port on: what stands at the ports, or the first that lacks
module _ (look : ℕ → Seen) (test : ℕ → Bool) (inputs : Inputs) where
  given_from : (p : ℕ) (list : List PortRow) → ((k : ℕ) → k < length list → test (p + k) ≡ true → Stands look inputs (p + k)) → (xs : Inputs) × (gather look test p list ≡ Given xs)
  given_from p [] h = ([], refl)
  given_from p (port ∷ list) h =
      by (test p) refl (given_from (suc p) list (λ k lt on. let s : suc p + k ≡ p + suc k = omega arith in subst (Stands look inputs) (sym s) (h (suc k) (omega (arith, lt)) (ap test (sym s) ∙ on))))
    where
      by : (b : Bool) → test p ≡ b → (xs : Inputs) × (gather look test (suc p) list ≡ Given xs) → (xs : Inputs) × (gather look test p (port ∷ list) ≡ Given xs)
      by true on rest =
          let z : p + 0 ≡ p = omega arith in
          let s = h 0 (omega arith) (ap test z ∙ on) in (
            Some s.value ∷ rest.0,
            ap (λ w. gather_port w p (look p) (gather look test (suc p) list)) on
                ∙ ap (λ x. gather_port true p x (gather look test (suc p) list)) (ap look (sym z) ∙ s.seen)
                ∙ ap (gather_port true p (Value s.value)) rest.1,
          )
      by false off rest = (None ∷ rest.0, ap (λ w. gather_port w p (look p) (gather look test (suc p) list)) off ∙ ap (gather_port false p (look p)) rest.1)

-- the first port that lacks
module _ (look : ℕ → Seen) (test : ℕ → Bool) where
  lacks_here : (p : ℕ) (x : Seen) (g : Gathered) → ((b : BitVector) → x ≡ Value b → ⊥) → gather_port true p x g ≡ Lacks p x
  lacks_here p (Value b) g lacks = absurd (lacks b refl)
  lacks_here p Conflict g lacks = refl
  lacks_here p Undefined g lacks = refl

  lacks_from : (p : ℕ) (list : List PortRow) (q : ℕ) → q < length list → test (p + q) ≡ true → ((b : BitVector) → look (p + q) ≡ Value b → ⊥) → ((k : ℕ) → k < q → test (p + k) ≡ true → IsValue (look (p + k)))
      → gather look test p list ≡ Lacks (p + q) (look (p + q))
  lacks_from p [] q lt on lacks h = absurd (omega (arith, lt))
  lacks_from p (port ∷ list) zero lt on lacks h =
      let z : p ≡ p + 0 = omega arith in
      ap (λ w. gather_port w p (look p) (gather look test (suc p) list)) (ap test z ∙ on)
      ∙ lacks_here p (look p) (gather look test (suc p) list) (λ b e. lacks b (ap look (sym z) ∙ e))
      ∙ ap (λ m. Lacks m (look m)) z
  lacks_from p (port ∷ list) (suc q) lt on lacks h =
      let s : suc p + q ≡ p + suc q = omega arith in
      by (test p) refl
      (lacks_from (suc p) list q (omega (arith, lt)) (ap test s ∙ on) (λ b e. lacks b (ap look (sym s) ∙ e))
      (λ k less here. let t : suc p + k ≡ p + suc k = omega arith in subst (λ m. IsValue (look m)) (sym t) (h (suc k) (omega (arith, less)) (ap test (sym t) ∙ here)))
      ∙ ap (λ m. Lacks m (look m)) s)
    where
      by : (b : Bool) → test p ≡ b → gather look test (suc p) list ≡ Lacks (p + suc q) (look (p + suc q)) → gather look test p (port ∷ list) ≡ Lacks (p + suc q) (look (p + suc q))
      by true here later =
          let z : p + 0 ≡ p = omega arith in
          let v = h 0 (omega arith) (ap test z ∙ here) in
          ap (λ w. gather_port w p (look p) (gather look test (suc p) list)) here
          ∙ ap (λ x. gather_port true p x (gather look test (suc p) list)) (ap look (sym z) ∙ v.is)
          ∙ ap (gather_port true p (Value v.value)) later
      by false off later = ap (λ w. gather_port w p (look p) (gather look test (suc p) list)) off ∙ ap (gather_port false p (look p)) later

  -- from the first port on
  lacks_at : (list : List PortRow) (stop : CellStop) → StopsAt look test (length list) stop → gather look test 0 list ≡ Lacks stop.port (look stop.port)
  lacks_at list stop s =
      let z : (m : ℕ) → 0 + m ≡ m = λ m. omega arith in
      lacks_from 0 list stop.port s.within (ap test (z stop.port) ∙ s.wanted) (λ b e. s.lack.no_value b (ap look (sym (z stop.port)) ∙ e))
      (λ k less here. subst (λ m. IsValue (look m)) (sym (z k)) (s.earlier k less (ap test (sym (z k)) ∙ here)))
      ∙ ap (λ m. Lacks m (look m)) (z stop.port)

-- what is gathered is what is seen at these ports
gather_below : (look other : ℕ → Seen) (test : ℕ → Bool) (p : ℕ) (list : List PortRow) → ((k : ℕ) → k < length list → look (p + k) ≡ other (p + k)) → gather look test p list ≡ gather other test p list
gather_below look other test p [] same = refl
gather_below look other test p (port ∷ list) same =
    let z : p + 0 ≡ p = omega arith in
    ap (λ x. gather_port (test p) p x (gather look test (suc p) list)) (ap look (sym z) ∙ same 0 (omega arith) ∙ ap other z)
    ∙ ap (gather_port (test p) p (other p))
    (gather_below look other test (suc p) list (λ k lt. let s : suc p + k ≡ p + suc k = omega arith in ap look s ∙ same (suc k) (omega (arith, lt)) ∙ ap other (sym s)))

-- a wanted port of what is given has a value, the one that it is seen as
record IsEntry (look : ℕ → Seen) (xs : Inputs) (k n : ℕ) : Type 0 where
  pub value : BitVector
  pub seen : look n ≡ Value value
  pub at : get_or xs k None ≡ Some value

entry_is : (w : Bool) (p : ℕ) (x : Seen) (g : Gathered) (xs : Inputs) → gather_port w p x g ≡ Given xs
    → (entry : Option BitVector) × (ys : Inputs) × (g ≡ Given ys) × (xs ≡ entry ∷ ys) × (w ≡ true → (b : BitVector) × (x ≡ Value b) × (entry ≡ Some b))
entry_is false p x (Given ys) xs is = (None, ys, refl, (let f : Given (None ∷ ys) ≡ Given xs = is in cc), λ e. absurd (cc))
entry_is false p x (Lacks q y) xs is = absurd (cc)
entry_is true p (Value v) (Given ys) xs is = (Some v, ys, refl, (let f : Given (Some v ∷ ys) ≡ Given xs = is in cc), λ e. (v, refl, refl))
entry_is true p (Value v) (Lacks q y) xs is = absurd (cc)
entry_is true p Conflict g xs is = absurd (cc)
entry_is true p Undefined g xs is = absurd (cc)

given_entry : (look : ℕ → Seen) (wanted : ℕ → Bool) (p : ℕ) (list : List PortRow) (xs : Inputs) → gather look wanted p list ≡ Given xs → (k : ℕ) → k < length list → wanted (p + k) ≡ true → IsEntry look xs k (p + k)
given_entry look wanted p [] xs is k lt w = absurd (omega arith)
given_entry look wanted p (port ∷ list) xs is zero lt w =
    let r = entry_is (wanted p) p (look p) (gather look wanted (suc p) list) xs is in
    let z : p + 0 ≡ p = omega arith in
    let v = r.4 (ap wanted (sym z) ∙ w) in
    record { value = v.0; seen = ap look z ∙ v.1; at = ap (λ ys. get_or ys 0 None) r.3 ∙ v.2 }
given_entry look wanted p (port ∷ list) xs is (suc k) lt w =
    let r = entry_is (wanted p) p (look p) (gather look wanted (suc p) list) xs is in
    let s : suc p + k ≡ p + suc k = omega arith in
    let within : k < length list = (let m : suc k < suc (length list) = lt in omega arith) in
    let t = given_entry look wanted (suc p) list r.1 r.2 k within (ap wanted s ∙ w) in
    record { value = t.value; seen = ap look (sym s) ∙ t.seen; at = ap (λ ys. get_or ys (suc k) None) r.3 ∙ t.at }

-- what is given is what stands there
same_value : (a b : BitVector) → Value a ≡ Value b → a ≡ b
same_value a b e = cc

pub stands_same : (look : ℕ → Seen) (xs ys : Inputs) (p : ℕ) → Stands look xs p → Stands look ys p → input xs p ≡ input ys p
stands_same look xs ys p s t = s.at ∙ ap Some (same_value s.value t.value (sym s.seen ∙ t.seen)) ∙ sym t.at

module _ (look : ℕ → Seen) (test : ℕ → Bool) (list : List PortRow) (inputs : Inputs) (stand : AllStand look test (length list) inputs) where
  given_all : (xs : Inputs) × (gather look test 0 list ≡ Given xs)
  given_all = given_from look test inputs 0 list (λ k lt on. let z : 0 + k ≡ k = omega arith in subst (Stands look inputs) (sym z) (stand k lt (ap test (sym z) ∙ on)))

  given_same : (k : ℕ) → k < length list → test k ≡ true → input inputs k ≡ input given_all.0 k
  given_same k lt on =
      let z : 0 + k ≡ k = omega arith in
      let s = stand k lt on in
      let e = given_entry look test 0 list given_all.0 given_all.1 k lt (ap test z ∙ on) in
      s.at ∙ ap Some (same_value s.value e.value (sym s.seen ∙ ap look (sym z) ∙ e.seen)) ∙ sym e.at

-- A LOOK AT A CELL
module _ (look : ℕ → Seen) (row : Row) (state : CellState) where
  abbrev pub outcome : Outcome
  outcome = after_enabling look row state (gather look (enables row) 0 row.ports)

  -- another look that sees the same at its ports comes to the same
  pub outcome_alike : (other : ℕ → Seen) → ((p : ℕ) → p < length row.ports → look p ≡ other p) → outcome ≡ after_enabling other row state (gather other (enables row) 0 row.ports)
  outcome_alike other same = ap (after_enabling look row state) (alike_by (enables row)) ∙ by (gather other (enables row) 0 row.ports)
    where
      alike_by : (test : ℕ → Bool) → gather look test 0 row.ports ≡ gather other test 0 row.ports
      alike_by test = gather_below look other test 0 row.ports (λ k lt. let z : 0 + k ≡ k = omega arith in ap look z ∙ same k lt ∙ ap other (sym z))

      by : (g : Gathered) → after_enabling look row state g ≡ after_enabling other row state g
      by (Given xs) = ap (after_data row state) (alike_by (looks_at row state xs))
      by (Lacks p x) = refl

  reaches_edge : (xs ys : Inputs) → gather look (enables row) 0 row.ports ≡ Given xs → gather look (looks_at row state xs) 0 row.ports ≡ Given ys → after_edge (edge row state ys) ≡ outcome
  reaches_edge xs ys e f = sym (ap (after_enabling look row state) e ∙ ap (after_data row state) f)

  pub in_range_goes : (xs ys : Inputs) → gather look (enables row) 0 row.ports ≡ Given xs → gather look (looks_at row state xs) 0 row.ports ≡ Given ys → row.out_of_range ys ≡ None → Next (row.next state ys) ≡ outcome
  in_range_goes xs ys e f r = sym (ap (λ o. after_edge (edge_of o (row.next state ys))) r) ∙ reaches_edge xs ys e f

  -- an enabling port that is no value stops it
  pub stops_enabling : (stop : CellStop) → StopsAt look (enables row) (length row.ports) stop → Stops stop.kind stop.port ≡ outcome
  stops_enabling stop s = ap (λ kind. Stops kind stop.port) s.lack.kind ∙ sym (ap (after_enabling look row state) (lacks_at look (enables row) row.ports stop s))

  enabled : (n : ℕ) (port : PortRow) → slice_get row.ports n ≡ Some port → port.side ≡ Enable → enables row n ≡ true
  enabled n port at side = ap is_enable_side (side_at row.ports n port at ∙ side)

  some_there : (o : Option BitVector) (b : BitVector) → o ≡ Some b → IsSome o
  some_there (Some v) b e = refl
  some_there None b e = absurd (cc)

  -- WHERE ALL ENABLING PORTS STAND
  module _ (lawful : IsLawful row) (inputs : Inputs) (stand : AllStand look (enables row) (length row.ports) inputs) where
    abbrev first : (xs : Inputs) × (gather look (enables row) 0 row.ports ≡ Given xs)
    first = given_all look (enables row) row.ports inputs stand

    alike : (others : Inputs) → AllStand look (enables row) (length row.ports) others → AgreesWhereEnabling row others first.0
    alike others all = record {
      enabling = λ n port at side.
          let on = enabled n port at side in
          let lt = slice_get_within row.ports n port at in
          stands_same look others inputs n (all n lt on) (stand n lt on) ∙ given_same look (enables row) row.ports inputs stand n lt on;
    }

    looks_alike : (others : Inputs) → AllStand look (enables row) (length row.ports) others → (n : ℕ) → looks_at row state others n ≡ looks_at row state first.0 n
    looks_alike others all n = ap (λ b. enables row n || b) (lawful.by_enabling state others first.0 n (alike others all))

    -- what is demanded is so by the enabling ports alone
    pub demands_still : (others : Inputs) → AllStand look (enables row) (length row.ports) others → (n : ℕ) → row.demands state others n ≡ row.demands state inputs n
    demands_still others all n = lawful.by_enabling state others first.0 n (alike others all) ∙ sym (lawful.by_enabling state inputs first.0 n (alike inputs stand))

    -- a port that is demanded and is no value stops the cell
    pub stops_demanded : (stop : CellStop) → StopsAt look (looks_at row state inputs) (length row.ports) stop → Stops stop.kind stop.port ≡ outcome
    stops_demanded stop s =
        let same = looks_alike inputs stand in
        let lacking = lacks_at look (looks_at row state first.0) row.ports stop (record { within = s.within; wanted = sym (same stop.port) ∙ s.wanted; lack = s.lack; earlier = λ k less on. s.earlier k less (same k ∙ on) }) in
        ap (λ kind. Stops kind stop.port) s.lack.kind ∙ sym (ap (after_enabling look row state) first.1 ∙ ap (after_data row state) lacking)

    -- all of them 0
    module _ (quiet : IsQuiet row inputs) where
      first_quiet : IsQuiet row first.0
      first_quiet n port at side = ap number_of (sym ((alike inputs stand).enabling n port at side)) ∙ quiet n port at side

      only_enabling : looks_at row state first.0 ≡ enables row
      only_enabling = fun_ext (λ n. ap (λ b. enables row n || b) (lawful.nothing_demanded state first.0 n first_quiet) ∙ or_false (enables row n))

      none_beyond : (o : Option ℕ) (after idle : CellState) → edge_of o after ≡ Ok idle → o ≡ None
      none_beyond None after idle e = refl
      none_beyond (Some n) after idle e = absurd (cc)

      pub quiet_goes : Next (row.next state inputs) ≡ outcome
      quiet_goes =
          let idles = lawful.quiet_is_idle state inputs quiet in
          sym (ap (λ o. after_edge (edge_of o (row.next state inputs))) (none_beyond (row.out_of_range inputs) (row.next state inputs) (row.idle state) idles))
          ∙ ap after_edge (idles ∙ sym (lawful.quiet_is_idle state first.0 first_quiet))
          ∙ reaches_edge first.0 first.0 first.1 (ap (λ test. gather look test 0 row.ports) only_enabling ∙ first.1)

      pub quiet_looked : IsLookedAt row state inputs
      quiet_looked = record {
        enabling = λ n port at side. let s = stand n (slice_get_within row.ports n port at) (enabled n port at side) in some_there (input inputs n) s.value s.at;
        demanded = λ n port at side on. absurd (not_both (row.demands state inputs n) on (lawful.nothing_demanded state inputs n quiet));
      }

    -- all that is looked at stands
    module _ (others : Inputs) (all : AllStand look (looks_at row state inputs) (length row.ports) others) where
      still : AllStand look (enables row) (length row.ports) others
      still n lt on = all n lt (or_left (enables row n) (row.demands state inputs n) on)

      looked : AllStand look (looks_at row state first.0) (length row.ports) others
      looked n lt on = all n lt (looks_alike inputs stand n ∙ on)

      abbrev whole : (ys : Inputs) × (gather look (looks_at row state first.0) 0 row.ports ≡ Given ys)
      whole = given_all look (looks_at row state first.0) row.ports others looked

      wanted : (n : ℕ) → row.demands state others n ≡ true → looks_at row state first.0 n ≡ true
      wanted n on = or_right (enables row n) (row.demands state first.0 n) (sym (lawful.by_enabling state others first.0 n (alike others still)) ∙ on)

      agrees : AgreesWhereLooked row state others whole.0
      agrees = record {
        enabling = λ n port at side. given_same look (looks_at row state first.0) row.ports others looked n (slice_get_within row.ports n port at) (or_left (enables row n) (row.demands state first.0 n) (enabled n port at side));
        demanded = λ n port at side on. given_same look (looks_at row state first.0) row.ports others looked n (slice_get_within row.ports n port at) (wanted n on);
      }

      pub looked_edge : after_edge (edge row state others) ≡ outcome
      looked_edge = ap after_edge (lawful.looked_at state others whole.0 agrees) ∙ reaches_edge first.0 whole.0 first.1 whole.1

      pub looked_beyond : (p : ℕ) → row.out_of_range others ≡ Some p → Stops faults.Range p ≡ outcome
      looked_beyond p beyond = sym (ap (λ o. after_edge (edge_of o (row.next state others))) beyond) ∙ looked_edge

      pub looked_goes : row.out_of_range others ≡ None → Next (row.next state others) ≡ outcome
      looked_goes within = sym (ap (λ o. after_edge (edge_of o (row.next state others))) within) ∙ looked_edge

      pub looked_all : IsLookedAt row state others
      looked_all = record {
        enabling = λ n port at side. let s = still n (slice_get_within row.ports n port at) (enabled n port at side) in some_there (input others n) s.value s.at;
        demanded = λ n port at side on. let s = looked n (slice_get_within row.ports n port at) (wanted n on) in some_there (input others n) s.value s.at;
      }
