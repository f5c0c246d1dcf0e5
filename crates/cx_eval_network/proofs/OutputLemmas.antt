-- What outputs read, and ports by their sides.
use Rattle.std.proofs.Common.{◌≡◌, ℕ, zero, suc, ◌<◌, ◌≤◌, Bool, true, false, List, [], ◌∷◌, get_or, length, take, Option, Some, None, refl, ap, ◌∙◌, arith}
use Rattle.std.specs.Prelude.{slice_get, if◌then◌else◌}
use Rattle.std.proofs.lemmas.List.{length-take}
use Rattle.cx_bits.specs.BitVector.{BitVector}
use Rattle.cx_prim.specs.declared.ports.PortRow.{PortRow}
use Rattle.cx_prim.specs.declared.ports.Side.{Side}
use Rattle.cx_prim.specs.declared.ports.Side.TheVariants.{Registered}
use Rattle.cx_prim.specs.Rows.{HasSide, Row, is_output_side}
use Rattle.cx_meaning.specs.Rows.{side_from, side_of}
use Rattle.cx_design_parts.specs.Outputs.{is_read_port, read_count}

pub few_read : (list : List PortRow) → read_count list ≤ length list
few_read [] = omega arith
few_read (port ∷ list) = choice (is_read_port port) (few_read list)
  where
    choice : (b : Bool) → read_count list ≤ length list → (if b then suc (read_count list) else 0) ≤ suc (length list)
    choice true h = omega (arith, h)
    choice false h = omega arith

-- the port of a number, and its side
port_there : (list : List PortRow) (n : ℕ) → n < length list → (port : PortRow) × (slice_get list n ≡ Some port) × (port.side ≡ side_from list n)
port_there [] n lt = absurd (omega (arith, lt))
port_there (x ∷ list) zero lt = (x, refl, refl)
port_there (x ∷ list) (suc n) lt = port_there list n (omega (arith, lt))

pub has_side : (row : Row) (n : ℕ) (side : Side) → n < length row.ports → side_of row n ≡ side → is_output_side side ≡ true → HasSide row n is_output_side
has_side row n side lt is out = let port = port_there row.ports n lt in (port.0, port.1, ap is_output_side (port.2 ∙ is) ∙ out)

pub same_registered : (row : Row) (n : ℕ) → n < length row.ports → side_of row n ≡ Registered → (port : PortRow) × (slice_get row.ports n ≡ Some port) × (port.side ≡ Registered)
same_registered row n lt is = let port = port_there row.ports n lt in (port.0, port.1, port.2 ∙ is)

-- nothing stands at any port
record IsBare (xs : List (Option BitVector)) : Type 0 where
  none : (n : ℕ) → get_or xs n None ≡ None

bare_none : IsBare []
bare_none = record { none = λ n. refl }

bare_more : (xs : List (Option BitVector)) → IsBare xs → IsBare (None ∷ xs)
bare_more xs bare = record { none = each }
  where
    each : (n : ℕ) → get_or (None ∷ xs) n None ≡ None
    each zero = refl
    each (suc n) = bare.none n

abbrev pub nine_none : List (Option BitVector)
nine_none = None ∷ None ∷ None ∷ None ∷ None ∷ None ∷ None ∷ None ∷ None ∷ []

bare_nine : IsBare nine_none
bare_nine = bare_more _ (bare_more _ (bare_more _ (bare_more _ (bare_more _ (bare_more _ (bare_more _ (bare_more _ (bare_more [] bare_none))))))))

bare_take : (count : ℕ) (xs : List (Option BitVector)) → ((n : ℕ) → get_or xs n None ≡ None) → (n : ℕ) → get_or (take count xs) n None ≡ None
bare_take zero xs bare n = refl
bare_take (suc count) [] bare n = refl
bare_take (suc count) (x ∷ xs) bare zero = bare zero
bare_take (suc count) (x ∷ xs) bare (suc n) = bare_take count xs (λ k. bare (suc k)) n

take_count : {A : Type 0} (count : ℕ) (xs : List A) → count ≤ length xs → length (take count xs) ≡ count
take_count count xs few = let t = length-take count xs in omega (arith, t, few)

pub front_bare : (count n : ℕ) → get_or (take count nine_none) n None ≡ None
front_bare count n = bare_take count nine_none bare_nine.none n

pub none_count : (count : ℕ) → count ≤ 9 → length (take count nine_none) ≡ count
none_count count few = take_count count nine_none few
