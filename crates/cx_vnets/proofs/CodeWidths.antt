-- A value of a code is as wide as the code.
use Rattle.std.proofs.Common.{◌+◌, option_map, slice_get, ap}
use Rattle.cx_vnets.specs.Arrays.{word_at, array_width}
use Rattle.cx_vnets.specs.Fits.{width_at}
use Rattle.cx_vnets.specs.Widths.{HaveWidths}
use Rattle.cx_vnets.proofs.Widths.{code_in_width, word_width}

pub code_has_width : HaveWidths
code_has_width values arrays p c w v even width e =
    code_in_width (λ k. slice_get values (p.nets + k)) (λ k. width_at values (p.nets + k)) (λ k x i. ap (option_map (λ y. y.width)) i) (λ a. word_at arrays (p.arrays + a))
    (λ a. array_width arrays (p.arrays + a)) (λ a i u has. word_width arrays even (p.arrays + a) i u has) c w v width e
