-- The net without holes keeps what the net does.
use Rattle.std.proofs.Common.{◌≡◌, sym, subst}
use Rattle.std.proofs.Math.Logic.{∥∥₁_map}
use Rattle.cx_net.specs.Nets.{PlainNet}
use Rattle.cx_net.specs.NetFits.{IsFit, HasTargets, IsNet}
use Rattle.cx_net.specs.NetRuns.{AreWords}
use Rattle.cx_holes.specs.Inlining.{inlined}
use Rattle.cx_holes.specs.Names.{NetNames}
use Rattle.cx_holes.specs.Kept.{DoesWithoutHoles}
use Rattle.cx_holes.proofs.CellLemmas.{cells-inlined}
use Rattle.cx_holes.proofs.FitNames.{fit_names}
use Rattle.cx_holes.proofs.RenamedFits.{inlined_fits, inlined_targets, inlined_no_holes}
use Rattle.cx_holes.proofs.RenamedRuns.{inlined_grounded, inlined_runs}

inlined_does : (net : PlainNet) → IsFit net → HasTargets net → DoesWithoutHoles net (inlined net)
inlined_does net fits targets =
    let names : NetNames net = fit_names net fits targets in
    record {
      runs = λ loaded last o. inlined_runs net names loaded last o;
      grounded = λ d. inlined_grounded net names (AreWords d);
      fits = inlined_fits net names fits;
      no_holes = inlined_no_holes net;
      cells = cells-inlined net;
    }

-- so does what was made as the definition says
pub made_does : (net made : PlainNet) → IsFit net → HasTargets net → made ≡ inlined net → DoesWithoutHoles net made
made_does net made fits targets is = subst (DoesWithoutHoles net) (sym is) (inlined_does net fits targets)

-- a net without holes is a net
inlined_net : (net : PlainNet) → IsNet net → IsNet (inlined net)
inlined_net net own =
    let names : NetNames net = fit_names net own.fits own.targets in
    record { fits = inlined_fits net names own.fits; targets = inlined_targets net names own.targets }

pub made_net : (net made : PlainNet) → ∥ IsNet net ∥₁ → made ≡ inlined net → ∥ IsNet made ∥₁
made_net net made keeps is = ∥∥₁_map keeps (λ own. subst IsNet (sym is) (inlined_net net own))
