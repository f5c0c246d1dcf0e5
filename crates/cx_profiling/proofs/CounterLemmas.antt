-- The counters of an instance, and the ports that show the counts.
use Rattle.std.proofs.Common.{◌≡◌, ℕ, zero, suc, ◌+◌, ◌*◌, ◌<◌, Bool, true, false, inl, inr, ◌⊎◌, List, [], ◌∷◌, length, Some, refl, sym, ap, ◌∙◌, arith}
use Rattle.std.specs.Prelude.{if◌then◌else◌}
use Rattle.std.specs.List.{slice_get}
use Rattle.cx_text.proofs.MemberLaws.{in_either}
use Rattle.cx_text.specs.declared.places.Place.{Place}
use Rattle.cx_prim.specs.declared.names.PrimitiveName.TheVariants as primitives
use Rattle.cx_meaning.specs.declared.ports.PortRef.TheVariants as ports
use Rattle.cx_meaning.specs.Designs.{PlainGroup, PlainKind, OfPrimitive, OfComponent, PlainCell}
use Rattle.cx_meaning.specs.Instances.{Instance, Cells, cells_for, add_cell, part_of}
use Rattle.cx_text.specs.Members.{In}
use Rattle.cx_profiling.specs.Counters.{is_counted, Counter, counters_from, Shown, shown_at_cell, shown_in, shown_below, first_gained}
use Rattle.cx_profiling.specs.Instrumented.{new_cell, name_at, counter_cells}

-- the registers of counters are every second cell
pub in_counters : (cells : Cells) (c g : ℕ) (gs : List PlainGroup) (counter : Counter) → In (counters_from cells c g gs) counter
    → (m : ℕ) × (m < length (counters_from cells c g gs)) × (counter.register ≡ c + 2 * m)
in_counters cells c g [] counter i = absurd i
in_counters cells c g (x ∷ gs) counter i = by (is_counted cells x) i (in_counters cells (suc (suc c)) (suc g) gs counter) (in_counters cells c (suc g) gs counter)
  where
    later : (m : ℕ) × (m < length (counters_from cells (suc (suc c)) (suc g) gs)) × (counter.register ≡ suc (suc c) + 2 * m)
        → (m : ℕ) × (m < suc (length (counters_from cells (suc (suc c)) (suc g) gs))) × (counter.register ≡ c + 2 * m)
    later (m, less, e) = (suc m, omega arith, omega arith)

    by : (b : Bool) → In (if b then record { group = g; register = c } ∷ counters_from cells (suc (suc c)) (suc g) gs else counters_from cells c (suc g) gs) counter
        → (In (counters_from cells (suc (suc c)) (suc g) gs) counter → (m : ℕ) × (m < length (counters_from cells (suc (suc c)) (suc g) gs)) × (counter.register ≡ suc (suc c) + 2 * m))
        → (In (counters_from cells c (suc g) gs) counter → (m : ℕ) × (m < length (counters_from cells c (suc g) gs)) × (counter.register ≡ c + 2 * m))
        → (m : ℕ) × (m < length (if b then record { group = g; register = c } ∷ counters_from cells (suc (suc c)) (suc g) gs else counters_from cells c (suc g) gs)) × (counter.register ≡ c + 2 * m)
    by true (inl e) counted not_counted = (0, omega arith, omega (arith, ap (λ x. x.register) e))
    by true (inr i) counted not_counted = later (counted i)
    by false i counted not_counted = not_counted i

-- THE CELLS OF COUNTERS: a register and an adder for each
pub register_at : (place : Place) (names : List (List ℕ)) (n k m : ℕ) → m < k → (name : List ℕ) × (slice_get (counter_cells place names n k) (2 * m) ≡ Some (new_cell place name primitives.Reg (64 ∷ []) false))
register_at place names n zero m less = absurd (omega arith)
register_at place names n (suc k) zero less = (name_at names n, refl)
register_at place names n (suc k) (suc m) less =
    let later = register_at place names (suc (suc n)) k m (omega arith) in
    let two : 2 * suc m ≡ suc (suc (2 * m)) = omega arith in
    (later.0, ap (slice_get (counter_cells place names n (suc k))) two ∙ later.1)

pub adder_at : (place : Place) (names : List (List ℕ)) (n k m : ℕ) → m < k → (name : List ℕ) × (slice_get (counter_cells place names n k) (suc (2 * m)) ≡ Some (new_cell place name primitives.Add (64 ∷ []) false))
adder_at place names n zero m less = absurd (omega arith)
adder_at place names n (suc k) zero less = (name_at names (suc n), refl)
adder_at place names n (suc k) (suc m) less =
    let later = adder_at place names (suc (suc n)) k m (omega arith) in
    let two : suc (2 * suc m) ≡ suc (suc (suc (2 * m))) = omega arith in
    (later.0, ap (slice_get (counter_cells place names n (suc k))) two ∙ later.1)

pub counter_cells-length : (place : Place) (names : List (List ℕ)) (n k : ℕ) → length (counter_cells place names n k) ≡ 2 * k
counter_cells-length place names n zero = refl
counter_cells-length place names n (suc k) = let later : length (counter_cells place names (suc (suc n)) k) ≡ 2 * k = counter_cells-length place names (suc (suc n)) k in omega arith

-- THE PORTS OF CHILDREN that show counts
pub record IsShownBelow (child : ℕ → Instance) (cells : List PlainCell) (from : ℕ) (x : Shown) : Type 0 where
  pub c : ℕ
  pub cell : PlainCell
  pub here : slice_get cells c ≡ Some cell
  pub component : ℕ
  pub kind : cell.kind ≡ OfComponent component
  pub m : ℕ
  pub less : m < length (shown_in (child component))
  pub port : x.port ≡ ports.Cell (from + c) (first_gained (part_of (child component)) + m)

in_shown_at_cell : (c p : ℕ) (xs : List Shown) (x : Shown) → In (shown_at_cell c p xs) x → (m : ℕ) × (m < length xs) × (x.port ≡ ports.Cell c (p + m))
in_shown_at_cell c p [] x i = absurd i
in_shown_at_cell c p (y ∷ xs) x (inl e) = (0, omega arith, ap (λ z. z.port) (sym e) ∙ let z : p ≡ p + 0 = omega arith in ap (ports.Cell c) z)
in_shown_at_cell c p (y ∷ xs) x (inr i) = by (in_shown_at_cell c (suc p) xs x i)
  where
    by : (m : ℕ) × (m < length xs) × (x.port ≡ ports.Cell c (suc p + m)) → (m : ℕ) × (m < suc (length xs)) × (x.port ≡ ports.Cell c (p + m))
    by (m, less, e) = (suc m, omega arith, e ∙ let z : suc p + m ≡ p + suc m = omega arith in ap (ports.Cell c) z)

pub in_shown_below : (child : ℕ → Instance) (cells : List PlainCell) (from : ℕ) (x : Shown) → In (shown_below (cells_for child cells) from) x → IsShownBelow child cells from x
in_shown_below child [] from x i = absurd i
in_shown_below child (cell ∷ cells) from x i = by cell.kind refl i (in_shown_below child cells (suc from) x)
  where
    later : IsShownBelow child cells (suc from) x → IsShownBelow child (cell ∷ cells) from x
    later s = record {
      c = suc s.c;
      cell = s.cell;
      here = s.here;
      component = s.component;
      kind = s.kind;
      m = s.m;
      less = s.less;
      port = s.port ∙ let z : suc from + s.c ≡ from + suc s.c = omega arith in ap (λ n. ports.Cell n (first_gained (part_of (child s.component)) + s.m)) z;
    }

    here_shown : (k : ℕ) → cell.kind ≡ OfComponent k → (m : ℕ) × (m < length (shown_in (child k))) × (x.port ≡ ports.Cell from (first_gained (part_of (child k)) + m)) → IsShownBelow child (cell ∷ cells) from x
    here_shown k e (m, less, port) = record {
      c = 0;
      cell = cell;
      here = refl;
      component = k;
      kind = e;
      m = m;
      less = less;
      port = port ∙ let z : from ≡ from + 0 = omega arith in ap (λ n. ports.Cell n (first_gained (part_of (child k)) + m)) z;
    }

    here_or_later : (k : ℕ) → cell.kind ≡ OfComponent k → In (shown_at_cell from (first_gained (part_of (child k))) (shown_in (child k))) x ⊎ In (shown_below (cells_for child cells) (suc from)) x
        → (In (shown_below (cells_for child cells) (suc from)) x → IsShownBelow child cells (suc from) x) → IsShownBelow child (cell ∷ cells) from x
    here_or_later k e (inl here) rest = here_shown k e (in_shown_at_cell from (first_gained (part_of (child k))) (shown_in (child k)) x here)
    here_or_later k e (inr l) rest = later (rest l)

    by : (kind : PlainKind) → cell.kind ≡ kind → In (shown_below (add_cell child kind (cells_for child cells)) from) x
        → (In (shown_below (cells_for child cells) (suc from)) x → IsShownBelow child cells (suc from) x) → IsShownBelow child (cell ∷ cells) from x
    by (OfPrimitive p) e i rest = later (rest i)
    by (OfComponent k) e i rest = here_or_later k e (in_either (shown_at_cell from (first_gained (part_of (child k))) (shown_in (child k))) (shown_below (cells_for child cells) (suc from)) x i) rest
