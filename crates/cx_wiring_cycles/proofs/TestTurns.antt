-- One cycle of an if and of a while, over what their parts' drivers do.
use Rattle.std.proofs.Common.{◌≡◌, ℕ, suc, ◌+◌, ◌<◌, Bool, true, false, not, ◌&&◌, if◌then◌else◌, List, Option, Some, sym, ap, ◌∙◌, arith}
use Rattle.cx_bits.specs.BitVector.{BitVector}
use Rattle.cx_meaning.specs.declared.ports.PortRef.{PortRef}
use Rattle.cx_lockstep.specs.Worlds.{Control, At, Done, is_done}
use Rattle.cx_lockstep.specs.Machines.{InThen, InElse, AtHead, InBody, within}
use Rattle.cx_control.specs.Codings.{Coding, beside, zeros, if_coding, while_coding}
use Rattle.cx_net.specs.Nets.{PlainNetExpr, OfPort, Inverse, ToRegister, ToHole, PlainNetDriver}
use Rattle.cx_net.specs.NetMeaning.{Node, NetAround, truth_bit}
use Rattle.cx_static.specs.Islands.{PlainIsland}
use Rattle.cx_wiring.specs.Stands.{Stand, at, end_of}
use Rattle.cx_wiring.specs.Control.{found_one, found_zero, comb_goes}
use Rattle.cx_wiring.specs.Takings.{Says, takes, AllIdle}
use Rattle.cx_wiring.proofs.TakingLemmas.{says_both, says_not, idle_passes}
use Rattle.cx_wiring_cycles.specs.Shown.{wide, Going, told, comb_going}
use Rattle.cx_wiring_cycles.specs.Turning.{Turns}
use Rattle.cx_wiring_cycles.proofs.AwayLaws.{comb_idle}
use Rattle.cx_wiring_cycles.proofs.TurnLemmas.{beside_same, beside_zero}
use Rattle.cx_wiring_cycles.proofs.FormTurns.{comb_hole, if_drivers, if_region, if_hole, while_drivers, while_region, while_hole}

module _ (groups : ℕ) (islands : List PlainIsland) (around : NetAround) (registers : ℕ → Option BitVector) (look : Node → Option BitVector) where
  found_is : (x : Stand) (test : PortRef) (a b : Bool) → Says around registers look (at x) a → Says around registers look (OfPort test) b → Says around registers look (found_one x test) (a && b)
  found_is x test a b h k = says_both around registers look (at x) (OfPort test) a b h k

  failed_is : (x : Stand) (test : PortRef) (a b : Bool) → Says around registers look (at x) a → Says around registers look (OfPort test) b → Says around registers look (found_zero x test) (a && not b)
  failed_is x test a b h k = says_both around registers look (at x) (Inverse (OfPort test)) a (not b) h (says_not around registers look (OfPort test) b k)

  -- the comb group of a test at which control does not stand
  comb_passes : (x : Stand) (comb : Option ℕ) (g : ℕ) (o : Option BitVector) → Says around registers look (at x) false → takes around registers look (ToHole g) o (comb_goes groups islands x comb) ≡ o
  comb_passes x comb g o off = idle_passes around registers look (ToHole g) tt o (comb_goes groups islands x comb)
      (comb_idle groups islands around registers look 0 (λ n. 0) (λ n. false) (λ p. false) x comb off)

  module _ {A B : Type 0} (a : Coding A) (b : Coding B) (x : Stand) (test : PortRef) (comb : Option ℕ) (r : ℕ) (xs ys : List PlainNetDriver) (when : PlainNetExpr) (next_a next_b : ℕ → ℕ) (bit : Bool)
      (test_is : Says around registers look (OfPort test) bit) where
    abbrev all : List PlainNetDriver
    all = if_drivers around registers look groups islands x test comb (x.position + 1) (x.position + 1 + a.size) xs ys when

    -- CONTROL STANDS AT THE TEST
    pub if_begins : (p : A) (q : B) → a.number p ≡ 0 → ((j : ℕ) → a.other p j ≡ 0) → b.number q ≡ 0 → ((j : ℕ) → b.other q j ≡ 0) → ((n : ℕ) → n < a.extra → next_a n ≡ 0) → ((n : ℕ) → n < b.extra → next_b n ≡ 0)
        → Says around registers look (at x) true → Says around registers look (end_of x.wire) false → AllIdle around registers look xs → AllIdle around registers look ys → (c : Bool) → bit ≡ c
        → Turns groups around registers look (if_coding a b) x.wire x.region x.position r all (beside a.extra next_a next_b) (comb_going comb) (if c then At (InThen p) else At (InElse q))
    if_begins p q p_first p_zeros q_first q_zeros rest_a rest_b on ends idle_x idle_y true is =
        let place : x.position + 1 ≡ x.position + suc (a.number p) = omega arith in
        record {
          ends = ends;
          moves = if_region around registers look groups islands x test comb (x.position + 1) (x.position + 1 + a.size) xs ys when (Some (wide r)) bit (not bit) (found_is x test true bit on test_is) (failed_is x test true bit on test_is)
              ∙ ap (λ t. if t then Some (wide (x.position + 1)) else takes around registers look (ToRegister x.region) (if not t then Some (wide (x.position + 1 + a.size)) else takes around registers look (ToRegister x.region) (Some (wide r)) ys) xs) is
              ∙ ap (λ n. Some (wide n)) place;
          others = λ n less. beside_same a.extra b.extra next_a next_b (a.other p) zeros (λ j l. rest_a j l ∙ sym (p_zeros j)) rest_b n less;
          goes_so = goes_here;
        }
      where
        goes_here : (g : ℕ) (o : Option BitVector) → takes around registers look (ToHole (groups + g)) o (if_drivers around registers look groups islands x test comb (x.position + 1) (x.position + 1 + a.size) xs ys when) ≡ told g o (comb_going comb)
        goes_here g o =
            if_hole around registers look groups islands x test comb (x.position + 1) (x.position + 1 + a.size) xs ys when (groups + g) o
            ∙ ap (λ l. takes around registers look (ToHole (groups + g)) l (comb_goes groups islands x comb)) (idle_passes around registers look (ToHole (groups + g)) tt _ xs idle_x ∙ idle_passes around registers look (ToHole (groups + g)) tt o ys idle_y)
            ∙ comb_hole around registers look groups islands x comb g o on
    if_begins p q p_first p_zeros q_first q_zeros rest_a rest_b on ends idle_x idle_y false is =
        let place : x.position + 1 + a.size ≡ x.position + suc (a.size + b.number q) = omega arith in
        record {
          ends = ends;
          moves = if_region around registers look groups islands x test comb (x.position + 1) (x.position + 1 + a.size) xs ys when (Some (wide r)) bit (not bit) (found_is x test true bit on test_is) (failed_is x test true bit on test_is)
              ∙ ap (λ t. if t then Some (wide (x.position + 1)) else takes around registers look (ToRegister x.region) (if not t then Some (wide (x.position + 1 + a.size)) else takes around registers look (ToRegister x.region) (Some (wide r)) ys) xs) is
              ∙ idle_passes around registers look (ToRegister x.region) tt _ xs idle_x ∙ ap (λ n. Some (wide n)) place;
          others = λ n less. beside_same a.extra b.extra next_a next_b zeros (b.other q) rest_a (λ j l. rest_b j l ∙ sym (q_zeros j)) n less;
          goes_so = goes_here;
        }
      where
        goes_here : (g : ℕ) (o : Option BitVector) → takes around registers look (ToHole (groups + g)) o (if_drivers around registers look groups islands x test comb (x.position + 1) (x.position + 1 + a.size) xs ys when) ≡ told g o (comb_going comb)
        goes_here g o =
            if_hole around registers look groups islands x test comb (x.position + 1) (x.position + 1 + a.size) xs ys when (groups + g) o
            ∙ ap (λ l. takes around registers look (ToHole (groups + g)) l (comb_goes groups islands x comb)) (idle_passes around registers look (ToHole (groups + g)) tt _ xs idle_x ∙ idle_passes around registers look (ToHole (groups + g)) tt o ys idle_y)
            ∙ comb_hole around registers look groups islands x comb g o on

    module _ (off : Says around registers look (at x) false) (goes : List Going) where
      branch_region : (o : Option BitVector) → takes around registers look (ToRegister x.region) o all ≡ takes around registers look (ToRegister x.region) (takes around registers look (ToRegister x.region) o ys) xs
      branch_region o = if_region around registers look groups islands x test comb (x.position + 1) (x.position + 1 + a.size) xs ys when o false false (found_is x test false bit off test_is) (failed_is x test false bit off test_is)

      branch_hole : (g : ℕ) (o : Option BitVector) → takes around registers look (ToHole (groups + g)) o all
          ≡ takes around registers look (ToHole (groups + g)) (takes around registers look (ToHole (groups + g)) o ys) xs
      branch_hole g o = if_hole around registers look groups islands x test comb (x.position + 1) (x.position + 1 + a.size) xs ys when (groups + g) o ∙ comb_passes x comb (groups + g) _ off

      -- CONTROL STANDS IN A BRANCH
      pub if_then : (wire : ℕ) (k : Control A) → AllIdle around registers look ys → ((n : ℕ) → n < b.extra → next_b n ≡ 0) → Says around registers look (end_of x.wire) (is_done k)
          → Turns groups around registers look a wire x.region (x.position + 1) r xs next_a goes k
          → Turns groups around registers look (if_coding a b) x.wire x.region x.position r all (beside a.extra next_a next_b) goes (within InThen Done k)
      if_then wire (At p) idle rest ends t =
          let place : x.position + 1 + a.number p ≡ x.position + suc (a.number p) = omega arith in
          record {
            ends = ends;
            moves = branch_region (Some (wide r)) ∙ ap (λ l. takes around registers look (ToRegister x.region) l xs) (idle_passes around registers look (ToRegister x.region) tt (Some (wide r)) ys idle) ∙ t.moves ∙ ap (λ n. Some (wide n)) place;
            others = λ n less. beside_same a.extra b.extra next_a next_b (a.other p) zeros t.others rest n less;
            goes_so = λ g o. branch_hole g o ∙ ap (λ l. takes around registers look (ToHole (groups + g)) l xs) (idle_passes around registers look (ToHole (groups + g)) tt o ys idle) ∙ t.goes_so g o;
          }
      if_then wire Done idle rest ends t = record {
        ends = ends;
        moves = λ o. branch_region o ∙ ap (λ l. takes around registers look (ToRegister x.region) l xs) (idle_passes around registers look (ToRegister x.region) tt o ys idle) ∙ t.moves o;
        others = λ n less. beside_same a.extra b.extra next_a next_b zeros zeros t.others rest n less ∙ beside_zero a.extra n;
        goes_so = λ g o. branch_hole g o ∙ ap (λ l. takes around registers look (ToHole (groups + g)) l xs) (idle_passes around registers look (ToHole (groups + g)) tt o ys idle) ∙ t.goes_so g o;
      }

      pub if_else : (wire : ℕ) (k : Control B) → AllIdle around registers look xs → ((n : ℕ) → n < a.extra → next_a n ≡ 0) → Says around registers look (end_of x.wire) (is_done k)
          → Turns groups around registers look b wire x.region (x.position + 1 + a.size) r ys next_b goes k
          → Turns groups around registers look (if_coding a b) x.wire x.region x.position r all (beside a.extra next_a next_b) goes (within InElse Done k)
      if_else wire (At p) idle rest ends t =
          let place : x.position + 1 + a.size + b.number p ≡ x.position + suc (a.size + b.number p) = omega arith in
          record {
            ends = ends;
            moves = branch_region (Some (wide r)) ∙ idle_passes around registers look (ToRegister x.region) tt _ xs idle ∙ t.moves ∙ ap (λ n. Some (wide n)) place;
            others = λ n less. beside_same a.extra b.extra next_a next_b zeros (b.other p) rest t.others n less;
            goes_so = λ g o. branch_hole g o ∙ idle_passes around registers look (ToHole (groups + g)) tt _ xs idle ∙ t.goes_so g o;
          }
      if_else wire Done idle rest ends t = record {
        ends = ends;
        moves = λ o. branch_region o ∙ idle_passes around registers look (ToRegister x.region) tt _ xs idle ∙ t.moves o;
        others = λ n less. beside_same a.extra b.extra next_a next_b zeros zeros rest t.others n less ∙ beside_zero a.extra n;
        goes_so = λ g o. branch_hole g o ∙ idle_passes around registers look (ToHole (groups + g)) tt _ xs idle ∙ t.goes_so g o;
      }

  -- WHILE
  module _ {A : Type 0} (a : Coding A) (x : Stand) (test : PortRef) (comb : Option ℕ) (r body : ℕ) (xs : List PlainNetDriver) (next_a : ℕ → ℕ) (bit : Bool) (test_is : Says around registers look (OfPort test) bit) where
    abbrev loop : List PlainNetDriver
    loop = while_drivers around registers look groups islands x test comb (x.position + 1) body xs

    pub while_begins : (p : A) → a.number p ≡ 0 → ((j : ℕ) → a.other p j ≡ 0) → ((n : ℕ) → n < a.extra → next_a n ≡ 0) → Says around registers look (at x) true → Says around registers look (end_of x.wire) (not bit)
        → Says around registers look (end_of body) false → AllIdle around registers look xs → (c : Bool) → bit ≡ c
        → Turns groups around registers look (while_coding a) x.wire x.region x.position r loop next_a (comb_going comb) (if c then At (InBody p) else Done)
    while_begins p first zeros_at rest on ends over idle true is =
        let place : x.position + 1 ≡ x.position + suc (a.number p) = omega arith in
        record {
          ends = ends ∙ ap (λ t. Some (truth_bit (not t))) is;
          moves = while_region around registers look groups islands x test comb (x.position + 1) body xs (Some (wide r)) bit false (found_is x test true bit on test_is) over
              ∙ ap (λ t. if t then Some (wide (x.position + 1)) else takes around registers look (ToRegister x.region) (Some (wide r)) xs) is ∙ ap (λ n. Some (wide n)) place;
          others = λ n less. rest n less ∙ sym (zeros_at n);
          goes_so = λ g o. while_hole around registers look groups islands x test comb (x.position + 1) body xs (groups + g) o
              ∙ ap (λ l. takes around registers look (ToHole (groups + g)) l (comb_goes groups islands x comb)) (idle_passes around registers look (ToHole (groups + g)) tt o xs idle)
              ∙ comb_hole around registers look groups islands x comb g o on;
        }
    while_begins p first zeros_at rest on ends over idle false is = record {
      ends = ends ∙ ap (λ t. Some (truth_bit (not t))) is;
      moves = λ o. while_region around registers look groups islands x test comb (x.position + 1) body xs o bit false (found_is x test true bit on test_is) over
          ∙ ap (λ t. if t then Some (wide (x.position + 1)) else takes around registers look (ToRegister x.region) o xs) is ∙ idle_passes around registers look (ToRegister x.region) tt o xs idle;
      others = λ n less. rest n less;
      goes_so = λ g o. while_hole around registers look groups islands x test comb (x.position + 1) body xs (groups + g) o
          ∙ ap (λ l. takes around registers look (ToHole (groups + g)) l (comb_goes groups islands x comb)) (idle_passes around registers look (ToHole (groups + g)) tt o xs idle)
          ∙ comb_hole around registers look groups islands x comb g o on;
    }

    pub while_goes_on : (k : Control A) (goes : List Going) → Says around registers look (at x) false → Says around registers look (end_of x.wire) false
        → Turns groups around registers look a body x.region (x.position + 1) r xs next_a goes k
        → Turns groups around registers look (while_coding a) x.wire x.region x.position r loop next_a goes (within InBody (At AtHead) k)
    while_goes_on (At p) goes off ends t =
        let place : x.position + 1 + a.number p ≡ x.position + suc (a.number p) = omega arith in
        record {
          ends = ends;
          moves = while_region around registers look groups islands x test comb (x.position + 1) body xs (Some (wide r)) false false (found_is x test false bit off test_is) t.ends ∙ t.moves ∙ ap (λ n. Some (wide n)) place;
          others = t.others;
          goes_so = λ g o. while_hole around registers look groups islands x test comb (x.position + 1) body xs (groups + g) o ∙ comb_passes x comb (groups + g) _ off ∙ t.goes_so g o;
        }
    while_goes_on Done goes off ends t =
        let place : x.position ≡ x.position + 0 = omega arith in
        record {
          ends = ends;
          moves = while_region around registers look groups islands x test comb (x.position + 1) body xs (Some (wide r)) false true (found_is x test false bit off test_is) t.ends
              ∙ t.moves (Some (wide x.position)) ∙ ap (λ n. Some (wide n)) place;
          others = t.others;
          goes_so = λ g o. while_hole around registers look groups islands x test comb (x.position + 1) body xs (groups + g) o ∙ comb_passes x comb (groups + g) _ off ∙ t.goes_so g o;
        }
