-- A machine stays ready over inputs.
use Rattle.std.proofs.Common.{◌≡◌, ℕ, Bool, List, slice_set, ap, sym, ◌∙◌, subst}
use Rattle.cx_vnets.specs.declared.arrays.Words.{Words}
use Rattle.cx_vnets.specs.declared.machines.Bench.{Bench}
use Rattle.cx_vnets.specs.declared.machines.Machine.{Machine}
use Rattle.cx_vnets.specs.declared.nets.Stored.{Stored}
use Rattle.cx_vnets.specs.Arrays.{IsEven, array_width}
use Rattle.cx_vnets.specs.Fits.{width_at}
use Rattle.cx_vnets.specs.Machines.{KeepsWidths}
use Rattle.cx_vnets.specs.Runs.{bit, IsReady}
use Rattle.cx_vnets.proofs.EdgeLemmas.{width_set}
use Rattle.cx_vnets.proofs.Ready.{ready-keeps}
use Rattle.cx_net_runs.specs.Inputs.{HasInputs}

-- inputs are one bit, as they were
inputs_keep : (m : Machine) (reset go : Bool) (before after : Stored) (b : Bench) → HasInputs m reset go before after → IsReady m before b → KeepsWidths before after
inputs_keep m reset go before after b w r =
    let first : (f : ℕ) → width_at (slice_set before.nets.items m.reset (bit reset)) f ≡ width_at before.nets.items f = width_set before.nets.items m.reset (bit reset) r.reset in
    record {
      nets = λ f. ap (λ l. width_at l f) w.nets ∙ width_set (slice_set before.nets.items m.reset (bit reset)) m.go (bit go) (first m.go ∙ r.go) f ∙ first f;
      arrays = λ a. ap (λ l. array_width l a) w.arrays;
      even = subst (λ (l : List Words). IsEven l) (sym w.arrays) r.fits.even;
    }

pub inputs_ready : (m : Machine) (reset go : Bool) (before after : Stored) (b : Bench) → HasInputs m reset go before after → IsReady m before b → IsReady m after b
inputs_ready m reset go before after b w r = ready-keeps m before after b (inputs_keep m reset go before after b w r) r
