-- What the drivers of one target take, among all drivers in their order, and when drivers do nothing.
use Rattle.std.specs.Prelude.{◌≡◌, ℕ, suc, ◌≤◌, Bool, false, List, [], ◌∷◌, Option, Some, option_and_then, if◌then◌else◌}
use Rattle.cx_bits.specs.BitVector.{BitVector}
use Rattle.cx_net.specs.Nets.{PlainNetExpr, PlainNetTarget, ToPort, ToRegister, ToWire, ToHole, ToDone, PlainNetDriver}
use Rattle.cx_net.specs.NetMeaning.{Node, AWire, NetAround, is_true, truth_bit, net_expr, same_target}

module _ (around : NetAround) (registers : ℕ → Option BitVector) (look : Node → Option BitVector) where
  abbrev pub value : PlainNetExpr → Option BitVector
  value = net_expr around registers look

  -- an expression is this one bit
  abbrev pub Says : PlainNetExpr → Bool → Type 0
  Says e b = value e ≡ Some (truth_bit b)

  -- a driver of the target: where its guard is 1 it gives its source, else what comes behind
  abbrev pub takes_of : Bool → PlainNetDriver → Option BitVector → Option BitVector
  takes_of drives d later =
      if drives then option_and_then (λ g. if is_true g then value d.source else later) (value d.guard)
      else later

  abbrev pub takes : PlainNetTarget → Option BitVector → List PlainNetDriver → Option BitVector
  takes t undriven [] = undriven
  takes t undriven (d ∷ ds) = takes_of (same_target d.target t) d (takes t undriven ds)

  -- the wires from the first one on have the values of their drivers, each of one
  abbrev pub Connects : ℕ → PlainNetTarget → PlainNetExpr → Type 0
  Connects first (ToWire n) source = first ≤ n → look (AWire n) ≡ value source
  Connects first (ToPort p) source = Unit {0}
  Connects first (ToRegister n) source = Unit {0}
  Connects first (ToHole n) source = Unit {0}
  Connects first ToDone source = Unit {0}

  abbrev pub AllConnect : ℕ → List PlainNetDriver → Type 0
  AllConnect first [] = Unit {0}
  AllConnect first (d ∷ ds) = Connects first d.target d.source × AllConnect first ds

  -- drivers of what is no wire do not act
  abbrev pub Idles : PlainNetTarget → PlainNetExpr → Type 0
  Idles (ToWire n) guard = Unit {0}
  Idles (ToPort p) guard = Says guard false
  Idles (ToRegister n) guard = Says guard false
  Idles (ToHole n) guard = Says guard false
  Idles ToDone guard = Says guard false

  abbrev pub AllIdle : List PlainNetDriver → Type 0
  AllIdle [] = Unit {0}
  AllIdle (d ∷ ds) = Idles d.target d.guard × AllIdle ds

  -- registers from this one on have these widths, and the values that are kept
  abbrev pub AreRegisters : (ℕ → ℕ) → ℕ → List ℕ → Type 0
  AreRegisters kept n [] = Unit {0}
  AreRegisters kept n (w ∷ ws) =
      (registers n ≡ Some (record { width = w; value = kept n })) × AreRegisters kept (suc n) ws

abbrev pub IsNoWire : PlainNetTarget → Type 0
IsNoWire (ToWire n) = ⊥
IsNoWire (ToPort p) = Unit {0}
IsNoWire (ToRegister n) = Unit {0}
IsNoWire (ToHole n) = Unit {0}
IsNoWire ToDone = Unit {0}
