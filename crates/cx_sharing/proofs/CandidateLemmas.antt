-- What is known of a candidate: it is a primitive without a state, some group drives it, and no continuous assignment uses it.
use Rattle.std.proofs.Common.{◌≡◌, ℕ, Bool, true, false, ◌&&◌, refl}
use Rattle.std.specs.Prelude.{not}
use Rattle.std.specs.List.{list_any}
use Rattle.cx_text.proofs.BoolLaws.{and_both}
use Rattle.cx_prim.specs.Table.{PrimitiveRow}
use Rattle.cx_meaning.specs.Designs.{PlainKind, OfPrimitive, OfComponent, PlainGroup, PlainComponent}
use Rattle.cx_meaning.specs.Control.{assigns_drive}
use Rattle.cx_sharing.specs.Uses.{is_combinational, kind_in, assigns_use, is_candidate}

pub record IsCandidate (part : PlainComponent) (c : ℕ) : Type 0 where
  pub primitive : PrimitiveRow
  pub kind : kind_in part.cells c ≡ OfPrimitive primitive
  pub combines : is_combinational (OfPrimitive primitive) ≡ true
  pub driven : list_any (λ (g : PlainGroup). assigns_drive g.assigns c) part.groups ≡ true
  pub unread : assigns_use part.always c ≡ false

pub candidate_is : (part : PlainComponent) (c : ℕ) → is_candidate part c ≡ true → IsCandidate part c
candidate_is part c e =
    let two = and_both (is_combinational (kind_in part.cells c) && list_any (λ (g : PlainGroup). assigns_drive g.assigns c) part.groups) (not (assigns_use part.always c)) e in
    let one = and_both (is_combinational (kind_in part.cells c)) (list_any (λ (g : PlainGroup). assigns_drive g.assigns c) part.groups) two.0 in
    by (kind_in part.cells c) refl one.0 one.1 (off (assigns_use part.always c) two.1)
  where
    off : (b : Bool) → not b ≡ true → b ≡ false
    off true e = absurd (cc)
    off false e = refl

    by : (kind : PlainKind) → kind_in part.cells c ≡ kind → is_combinational kind ≡ true → list_any (λ (g : PlainGroup). assigns_drive g.assigns c) part.groups ≡ true → assigns_use part.always c ≡ false → IsCandidate part c
    by (OfPrimitive p) is combines driven unread = record { primitive = p; kind = is; combines = combines; driven = driven; unread = unread }
    by (OfComponent k) is combines driven unread = absurd (cc)
