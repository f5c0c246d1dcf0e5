-- How the ports of a part are connected.
use Rattle.std.proofs.Common.{◌≡◌, ℕ, zero, suc, ◌==◌, List, [], ◌∷◌, ◌++◌, Bool, true, false, ◌&&◌, ◌||◌, not, length, Some, slice_get, refl, ap, sym, ◌∙◌, subst, if◌then◌else◌, arith, codes}
use Rattle.std.proofs.lemmas.Bool.{or_parts, or_left, or_right, and_parts, and_from, and_right, both_ways, not-false, eqb-true, cond-true, cond-false}
use Rattle.cx_vtree.specs.Plain.{PlainPort, PlainConn, PlainInstance, PlainModule}
use Rattle.cx_vtree.specs.InstanceTree.{same_name, net_of, is_output, output_to}
use Rattle.cx_vtree.specs.Sound.{Scope, has_name, has_output, is_source, is_wire, width_of, miswired, misconnects, misfits, ports_of, driven_by, driven_by_all}
use Rattle.cx_vlaws.proofs.Fresh.{has_left, has_right, has-append, Fresh, fresh_right, fresh_sides}
use Rattle.cx_vlaws.proofs.Scopes.{port_names, other_than, port_at_has, has-output}
use Rattle.cx_vtree.proofs.InstanceTreeLemmas.{same_is, is_same}

-- a port is connected to a net that it fits
pub record IsConnected (scope : Scope) (p : PlainPort) (c : PlainConn) : Type 0 where
  pub port : p.name ≡ c.port
  pub outward : p.output ≡ true → is_wire (scope c.net) ≡ true
  pub inward : p.output ≡ false → is_source (scope c.net) ≡ true
  pub width : p.width ≡ width_of (scope c.net)

-- all ports are, one after another
abbrev pub Aligned : Scope → List PlainPort → List PlainConn → Type 0
Aligned scope [] [] = Unit {0}
Aligned scope [] (c ∷ cs) = ⊥
Aligned scope (p ∷ ps) [] = ⊥
Aligned scope (p ∷ ps) (c ∷ cs) = IsConnected scope p c × Aligned scope ps cs

outward_is : (output wire source : Bool) → (if output then not wire else not source) ≡ false → output ≡ true → wire ≡ true
outward_is true true source e h = refl
outward_is true false source e h = absurd (cc)
outward_is false wire source e h = absurd (cc)

inward_is : (output wire source : Bool) → (if output then not wire else not source) ≡ false → output ≡ false → source ≡ true
inward_is false wire true e h = refl
inward_is false wire false e h = absurd (cc)
inward_is true wire source e h = absurd (cc)

connected : (scope : Scope) (p : PlainPort) (c : PlainConn) → miswired scope p c ≡ false → not (p.width == width_of (scope c.net)) ≡ false → IsConnected scope p c
connected scope p c e w =
    let outer = or_parts (not (same_name p.name c.port) || (if p.output then not (is_wire (scope c.net)) else not (is_source (scope c.net))))
    ((same_name p.name (codes "clk") || same_name p.name (codes "reset")) && not (same_name p.name c.net)) e in
    let inner = or_parts (not (same_name p.name c.port)) (if p.output then not (is_wire (scope c.net)) else not (is_source (scope c.net))) outer.0 in
    record {
      port = same_is p.name c.port (not-false (same_name p.name c.port) inner.0);
      outward = outward_is p.output (is_wire (scope c.net)) (is_source (scope c.net)) inner.1;
      inward = inward_is p.output (is_wire (scope c.net)) (is_source (scope c.net)) inner.1;
      width = eqb-true p.width (width_of (scope c.net)) (not-false (p.width == width_of (scope c.net)) w);
    }

pub aligned_from : (scope : Scope) (ps : List PlainPort) (cs : List PlainConn) → misconnects scope ps cs ≡ false → misfits scope ps cs ≡ false → Aligned scope ps cs
aligned_from scope [] [] e w = tt
aligned_from scope [] (c ∷ cs) e w = let none = eqb-true (length (c ∷ cs)) 0 (not-false (length (c ∷ cs) == 0) e) in absurd (omega arith)
aligned_from scope (p ∷ ps) [] e w = absurd (cc)
aligned_from scope (p ∷ ps) (c ∷ cs) e w =
    let wires = or_parts (miswired scope p c) (misconnects scope ps cs) e in
    let widths = or_parts (not (p.width == width_of (scope c.net))) (misfits scope ps cs) w in
    (connected scope p c wires.0 widths.0, aligned_from scope ps cs wires.1 widths.1)

-- the port of a connection
pub port_of : (scope : Scope) (ps : List PlainPort) (cs : List PlainConn) → Aligned scope ps cs → (k : ℕ) (c : PlainConn) → slice_get cs k ≡ Some c → (p : PlainPort) × (slice_get ps k ≡ Some p) × IsConnected scope p c
port_of scope [] [] a k c e = absurd (cc)
port_of scope [] (x ∷ cs) a k c e = absurd a
port_of scope (p ∷ ps) [] a k c e = absurd a
port_of scope (p ∷ ps) (x ∷ cs) a zero c e = let same : x ≡ c = cc in (p, refl, subst (IsConnected scope p) same a.0)
port_of scope (p ∷ ps) (x ∷ cs) a (suc k) c e = port_of scope ps cs a.1 k c e

-- the net that an input is connected to
pub net-of_port : (scope : Scope) (earlier : List (List ℕ)) (ps : List PlainPort) (cs : List PlainConn) → Aligned scope ps cs → Fresh earlier (port_names ps) → (k : ℕ) (p : PlainPort) → slice_get ps k ≡ Some p
    → (c : PlainConn) × (slice_get cs k ≡ Some c) × IsConnected scope p c × (net_of cs p.name ≡ Some c.net)
net-of_port scope earlier [] cs a f k p e = absurd (cc)
net-of_port scope earlier (x ∷ ps) [] a f k p e = absurd a
net-of_port scope earlier (x ∷ ps) (c ∷ cs) a f zero p e =
    let same : x ≡ p = cc in
    let connects = subst (λ q. IsConnected scope q c) same a.0 in
    (c, refl, connects, cond-true (same_name c.port p.name) (Some c.net) (net_of cs p.name) (is_same c.port p.name (sym connects.port)))
net-of_port scope earlier (x ∷ ps) (c ∷ cs) a f (suc k) p e =
    let (d, at, connects, found) = net-of_port scope (earlier ++ x.name ∷ []) ps cs a.1 f.1 k p e in
    let other = other_than earlier (port_names ps) x.name p.name f.1 (port_at_has ps k p e) in
    (d, at, connects, cond-false (same_name c.port p.name) (Some c.net) (net_of cs p.name) (subst (λ n. same_name n p.name ≡ false) a.0.port other) ∙ found)

-- the output that is connected to a net
pub output_found : (ports : List PlainPort) (cs : List PlainConn) (net port : List ℕ) → output_to ports cs net ≡ Some port
    → (k : ℕ) × (c : PlainConn) × (slice_get cs k ≡ Some c) × (c.net ≡ net) × (is_output ports c.port ≡ true) × (c.port ≡ port)
output_found ports [] net port e = absurd (cc)
output_found ports (c ∷ cs) net port e = go (same_name c.net net && is_output ports c.port) refl (output_found ports cs net port) where
  go : (here : Bool) → (same_name c.net net && is_output ports c.port) ≡ here
      → (output_to ports cs net ≡ Some port → (k : ℕ) × (d : PlainConn) × (slice_get cs k ≡ Some d) × (d.net ≡ net) × (is_output ports d.port ≡ true) × (d.port ≡ port))
      → (k : ℕ) × (d : PlainConn) × (slice_get (c ∷ cs) k ≡ Some d) × (d.net ≡ net) × (is_output ports d.port ≡ true) × (d.port ≡ port)
  go true is later =
      let both = and_parts (same_name c.net net) (is_output ports c.port) is in
      let same : Some c.port ≡ Some port = sym (cond-true (same_name c.net net && is_output ports c.port) (Some c.port) (output_to ports cs net) is) ∙ e in
      (zero, c, refl, same_is c.net net both.0, both.1, cc)
  go false is later =
      let (k, d, at, named, out, port_is) = later (sym (cond-false (same_name c.net net && is_output ports c.port) (Some c.port) (output_to ports cs net) is) ∙ e) in
      (suc k, d, at, named, out, port_is)

-- a net that is driven is connected to an output
pub output_there : (ports : List PlainPort) (cs : List PlainConn) (net : List ℕ) → Fresh [] (port_names ports) → has_name (driven_by ports cs) net ≡ true → (port : List ℕ) × (output_to ports cs net ≡ Some port)
output_there ports [] net f e = absurd (cc)
output_there ports (c ∷ cs) net f e = go (is_output ports c.port) (same_name c.net net) refl refl (output_there ports cs net f) where
  driven : driven_by ports (c ∷ cs) ≡ (if is_output ports c.port then c.net ∷ driven_by ports cs else driven_by ports cs)
  driven = ap (λ b. if b then c.net ∷ driven_by ports cs else driven_by ports cs) (has-output [] ports c.port f)

  there : has_name (if is_output ports c.port then c.net ∷ driven_by ports cs else driven_by ports cs) net ≡ true
  there = subst (λ l. has_name l net ≡ true) driven e

  go : (out same : Bool) → is_output ports c.port ≡ out → same_name c.net net ≡ same → (has_name (driven_by ports cs) net ≡ true → (port : List ℕ) × (output_to ports cs net ≡ Some port))
      → (port : List ℕ) × (output_to ports (c ∷ cs) net ≡ Some port)
  go true true out same later = (c.port, cond-true (same_name c.net net && is_output ports c.port) (Some c.port) (output_to ports cs net) (and_from (same_name c.net net) (is_output ports c.port) same out))
  go true false out same later =
      let h : has_name (c.net ∷ driven_by ports cs) net ≡ true = subst (λ b. has_name (if b then c.net ∷ driven_by ports cs else driven_by ports cs) net ≡ true) out there in
      let next = later (sym (ap (λ b. b || has_name (driven_by ports cs) net) same) ∙ h) in
      (next.0, cond-false (same_name c.net net && is_output ports c.port) (Some c.port) (output_to ports cs net) (ap (λ b. b && is_output ports c.port) same) ∙ next.1)
  go false same out is later =
      let h : has_name (driven_by ports cs) net ≡ true = subst (λ b. has_name (if b then c.net ∷ driven_by ports cs else driven_by ports cs) net ≡ true) out there in
      let next = later h in
      (next.0, cond-false (same_name c.net net && is_output ports c.port) (Some c.port) (output_to ports cs net) (ap (λ b. same_name c.net net && b) out ∙ and_right (same_name c.net net) false refl) ∙ next.1)

-- an output drives the net that it is connected to
pub output_drives : (ports : List PlainPort) (cs : List PlainConn) → Fresh [] (port_names ports) → (k : ℕ) (c : PlainConn) → slice_get cs k ≡ Some c → is_output ports c.port ≡ true → has_name (driven_by ports cs) c.net ≡ true
output_drives ports [] f k c e out = absurd (cc)
output_drives ports (x ∷ cs) f zero c e out =
    let same : x ≡ c = cc in
    let outs : has_output ports x.port ≡ true = has-output [] ports x.port f ∙ ap (λ (d : PlainConn). is_output ports d.port) same ∙ out in
    subst (λ l. has_name l c.net ≡ true) (sym (cond-true (has_output ports x.port) (x.net ∷ driven_by ports cs) (driven_by ports cs) outs))
    (or_left (same_name x.net c.net) (has_name (driven_by ports cs) c.net) (is_same x.net c.net (ap (λ (d : PlainConn). d.net) same)))
output_drives ports (x ∷ cs) f (suc k) c e out = go (has_output ports x.port) (output_drives ports cs f k c e out) where
  go : (b : Bool) → has_name (driven_by ports cs) c.net ≡ true → has_name (if b then x.net ∷ driven_by ports cs else driven_by ports cs) c.net ≡ true
  go true h = or_right (same_name x.net c.net) (has_name (driven_by ports cs) c.net) h
  go false h = h

-- and no other output of the part does
pub output-to : (earlier : List (List ℕ)) (ports : List PlainPort) (cs : List PlainConn) → Fresh [] (port_names ports) → Fresh earlier (driven_by ports cs) → (k : ℕ) (c : PlainConn) → slice_get cs k ≡ Some c → is_output ports c.port ≡ true
    → output_to ports cs c.net ≡ Some c.port
output-to earlier ports [] f g k c e out = absurd (cc)
output-to earlier ports (x ∷ cs) f g zero c e out =
    let same : x ≡ c = cc in
    cond-true (same_name x.net c.net && is_output ports x.port) (Some x.port) (output_to ports cs c.net)
    (and_from (same_name x.net c.net) (is_output ports x.port) (is_same x.net c.net (ap (λ (d : PlainConn). d.net) same)) (ap (λ (d : PlainConn). is_output ports d.port) same ∙ out))
    ∙ ap (λ (d : PlainConn). Some d.port) same
output-to earlier ports (x ∷ cs) f g (suc k) c e out = go (has_output ports x.port) refl g (output_drives ports cs f k c e out) (λ earlier' h. output-to earlier' ports cs f h k c e out) where
  go : (b : Bool) → has_output ports x.port ≡ b → Fresh earlier (if b then x.net ∷ driven_by ports cs else driven_by ports cs) → has_name (driven_by ports cs) c.net ≡ true
      → ((earlier' : List (List ℕ)) → Fresh earlier' (driven_by ports cs) → output_to ports cs c.net ≡ Some c.port) → output_to ports (x ∷ cs) c.net ≡ Some c.port
  go true is h driven later =
      cond-false (same_name x.net c.net && is_output ports x.port) (Some x.port) (output_to ports cs c.net) (ap (λ b. b && is_output ports x.port) (other_than earlier (driven_by ports cs) x.net c.net h.1 driven))
      ∙ later (earlier ++ x.net ∷ []) h.1
  go false is h driven later =
      cond-false (same_name x.net c.net && is_output ports x.port) (Some x.port) (output_to ports cs c.net) (ap (λ b. same_name x.net c.net && b) (sym (has-output [] ports x.port f) ∙ is) ∙ and_right (same_name x.net c.net) false refl)
      ∙ later earlier h

-- a net that some instance drives
pub driver_among : (before : List PlainModule) (xs : List PlainInstance) (n : List ℕ) → has_name (driven_by_all before xs) n ≡ true
    → (s : ℕ) × (x : PlainInstance) × (slice_get xs s ≡ Some x) × (has_name (driven_by (ports_of before x.kind) x.conns) n ≡ true)
driver_among before [] n e = absurd (cc)
driver_among before (x ∷ xs) n e = go (has_name (driven_by (ports_of before x.kind) x.conns) n) refl (sym (has-append (driven_by (ports_of before x.kind) x.conns) (driven_by_all before xs) n) ∙ e) (driver_among before xs n) where
  go : (here : Bool) → has_name (driven_by (ports_of before x.kind) x.conns) n ≡ here → (has_name (driven_by (ports_of before x.kind) x.conns) n || has_name (driven_by_all before xs) n) ≡ true
      → (has_name (driven_by_all before xs) n ≡ true → (s : ℕ) × (y : PlainInstance) × (slice_get xs s ≡ Some y) × (has_name (driven_by (ports_of before y.kind) y.conns) n ≡ true))
      → (s : ℕ) × (y : PlainInstance) × (slice_get (x ∷ xs) s ≡ Some y) × (has_name (driven_by (ports_of before y.kind) y.conns) n ≡ true)
  go true is h later = (zero, x, refl, is)
  go false is h later = let (s, y, at, drives) = later (sym (ap (λ b. b || has_name (driven_by_all before xs) n) is) ∙ h) in (suc s, y, at, drives)

pub among_drivers : (before : List PlainModule) (xs : List PlainInstance) (n : List ℕ) (s : ℕ) (x : PlainInstance) → slice_get xs s ≡ Some x → has_name (driven_by (ports_of before x.kind) x.conns) n ≡ true → has_name (driven_by_all before xs) n ≡ true
among_drivers before [] n s x e h = absurd (cc)
among_drivers before (y ∷ xs) n zero x e h =
    let same : y ≡ x = cc in
    has_left (driven_by (ports_of before y.kind) y.conns) (driven_by_all before xs) n (subst (λ (z : PlainInstance). has_name (driven_by (ports_of before z.kind) z.conns) n ≡ true) (sym same) h)
among_drivers before (y ∷ xs) n (suc s) x e h = has_right (driven_by (ports_of before y.kind) y.conns) (driven_by_all before xs) n (among_drivers before xs n s x e h)

-- one instance alone drives a net
pub one_driver : (earlier : List (List ℕ)) (before : List PlainModule) (xs : List PlainInstance) (n : List ℕ) → Fresh earlier (driven_by_all before xs) → (s t : ℕ) (x y : PlainInstance) → slice_get xs s ≡ Some x → slice_get xs t ≡ Some y
    → has_name (driven_by (ports_of before x.kind) x.conns) n ≡ true → has_name (driven_by (ports_of before y.kind) y.conns) n ≡ true → s ≡ t
one_driver earlier before [] n f s t x y e g h i = absurd (cc)
one_driver earlier before (z ∷ xs) n f zero zero x y e g h i = refl
one_driver earlier before (z ∷ xs) n f zero (suc t) x y e g h i =
    let same : z ≡ x = cc in
    absurd (both_ways (has_name (driven_by_all before xs) n)
    (fresh_sides earlier (driven_by (ports_of before z.kind) z.conns) (driven_by_all before xs) n f (subst (λ (q : PlainInstance). has_name (driven_by (ports_of before q.kind) q.conns) n ≡ true) (sym same) h))
    (among_drivers before xs n t y g i))
one_driver earlier before (z ∷ xs) n f (suc s) zero x y e g h i =
    let same : z ≡ y = cc in
    absurd (both_ways (has_name (driven_by_all before xs) n)
    (fresh_sides earlier (driven_by (ports_of before z.kind) z.conns) (driven_by_all before xs) n f (subst (λ (q : PlainInstance). has_name (driven_by (ports_of before q.kind) q.conns) n ≡ true) (sym same) i))
    (among_drivers before xs n s x e h))
one_driver earlier before (z ∷ xs) n f (suc s) (suc t) x y e g h i =
    ap suc (one_driver (earlier ++ driven_by (ports_of before z.kind) z.conns) before xs n (fresh_right earlier (driven_by (ports_of before z.kind) z.conns) (driven_by_all before xs) f) s t x y e g h i)
