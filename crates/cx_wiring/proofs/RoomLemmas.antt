-- Wires and registers from two numbers on of which a condition holds.
use Rattle.std.proofs.Common.{ℕ, suc, ◌+◌, ◌<◌, ◌≤◌, List, [], ◌∷◌, ◌++◌, length, arith, length-append}
use Rattle.cx_net.specs.Nets.{PlainNetTarget, ToRegister, ToWire, PlainNetDriver}
use Rattle.cx_wiring.specs.Bounds.{AllDrive}

module _ (P : PlainNetTarget → Type 0) where
  pub drive_both : (ds es : List PlainNetDriver) → AllDrive P ds → AllDrive P es → AllDrive P (ds ++ es)
  drive_both [] es h k = k
  drive_both (d ∷ ds) es h k = (h.0, drive_both ds es h.1 k)

  -- so many wires from this one on, and so many registers
  pub record Room (wire register wires registers : ℕ) : Type 0 where
    pub wire_in : (n : ℕ) → wire ≤ n → n < wire + wires → P (ToWire n)
    pub register_in : (n : ℕ) → register ≤ n → n < register + registers → P (ToRegister n)

  pub at_in : {w r n k : ℕ} → Room w r (suc (suc n)) k → P (ToWire w)
  at_in {w} {r} {n} room =
      let low : w ≤ w = omega arith in
      let high : w < w + suc (suc n) = omega arith in
      room.wire_in w low high

  pub end_in : {w r n k : ℕ} → Room w r (suc (suc n)) k → P (ToWire (suc w))
  end_in {w} {r} {n} room =
      let low : w ≤ suc w = omega arith in
      let high : suc w < w + suc (suc n) = omega arith in
      room.wire_in (suc w) low high

  pub inside_room : {w r n k : ℕ} → Room w r (suc (suc n)) k → Room (suc (suc w)) r n k
  inside_room {w} {r} {n} room = record {
    wire_in = λ m low high. let l : w ≤ m = omega arith in let h : m < w + suc (suc n) = omega arith in room.wire_in m l h;
    register_in = room.register_in;
  }

  pub first_room : {w r : ℕ} (n m : ℕ) (rs qs : List ℕ) → Room w r (n + m) (length (rs ++ qs)) → Room w r n (length rs)
  first_room {w} {r} n m rs qs room = record {
    wire_in = λ i low high. let h : i < w + (n + m) = omega arith in room.wire_in i low h;
    register_in = λ i low high. let h : i < r + length (rs ++ qs) = omega (arith, length-append rs qs) in room.register_in i low h;
  }

  pub later_room : {w r : ℕ} (n m : ℕ) (rs qs : List ℕ) → Room w r (n + m) (length (rs ++ qs)) → Room (w + n) (r + length rs) m (length qs)
  later_room {w} {r} n m rs qs room = record {
    wire_in = λ i low high. let l : w ≤ i = omega arith in let h : i < w + (n + m) = omega arith in room.wire_in i l h;
    register_in = λ i low high. let l : r ≤ i = omega arith in let h : i < r + length (rs ++ qs) = omega (arith, length-append rs qs) in room.register_in i l h;
  }

  pub own_in : {w r n k : ℕ} → Room w r n (suc k) → P (ToRegister r)
  own_in {w} {r} {n} {k} room =
      let low : r ≤ r = omega arith in
      let high : r < r + suc k = omega arith in
      room.register_in r low high

  pub behind_own : {w r n k : ℕ} → Room w r n (suc k) → Room w (suc r) n k
  behind_own {w} {r} {n} {k} room = record {
    wire_in = room.wire_in;
    register_in = λ i low high. let l : r ≤ i = omega arith in let h : i < r + suc k = omega arith in room.register_in i l h;
  }

  -- so many wires from one on
  pub record Wires (wire count : ℕ) : Type 0 where
    pub among : (n : ℕ) → wire ≤ n → n < wire + count → P (ToWire n)

  pub first_wire : {w n : ℕ} → Wires w (suc n) → P (ToWire w)
  first_wire {w} {n} wires =
      let low : w ≤ w = omega arith in
      let high : w < w + suc n = omega arith in
      wires.among w low high

  pub later_wires : {w n : ℕ} → Wires w (suc n) → Wires (suc w) n
  later_wires {w} {n} wires = record { among = λ i low high. let l : w ≤ i = omega arith in let h : i < w + suc n = omega arith in wires.among i l h }

  pub first_wires : {w : ℕ} (n m : ℕ) → Wires w (n + m) → Wires w n
  first_wires {w} n m wires = record { among = λ i low high. let h : i < w + (n + m) = omega arith in wires.among i low h }

  pub rest_wires : {w : ℕ} (n m : ℕ) → Wires w (n + m) → Wires (w + n) m
  rest_wires {w} n m wires = record { among = λ i low high. let l : w ≤ i = omega arith in let h : i < w + (n + m) = omega arith in wires.among i l h }
