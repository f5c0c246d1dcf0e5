-- The widths of the external memories of a sound source.
use Rattle.std.proofs.Common.{◌≡◌, ◌<◌, ◌≤◌, ℕ, zero, suc, List, [], ◌∷◌, true, Some, All, slice_get, refl, ap}
use Rattle.std.proofs.lemmas.List.Elements.{All-nil, All-cons}
use Rattle.cx_text.specs.Loading.{word_count}
use Rattle.cx_data.specs.Widths.{HasWordWidth}
use Rattle.cx_vtree.specs.Plain.{PlainDecl, WireOf, RegisterOf, ArrayOf, PlainExternal, PlainSource}
use Rattle.cx_vtree.specs.PlainParts.{row_of, rows_of}
use Rattle.cx_vtree.specs.InstanceTree.{decls_at, instances_of}
use Rattle.cx_vtree.specs.Sound.{arrays_in, decl_meaning, width_of, is_sound}
use Rattle.cx_vlaws.specs.Memories.{IsMemory}

-- an array that is the only one is declared
array_there : (ds : List PlainDecl) (w n : ℕ) → arrays_in ds ≡ (w, n) ∷ [] → (k : ℕ) × (x : List ℕ) × (slice_get ds k ≡ Some (ArrayOf x w n))
array_there [] w n e = absurd (cc)
array_there (WireOf x v ∷ ds) w n e = let (k, y, at) = array_there ds w n e in (suc k, y, at)
array_there (RegisterOf x v ∷ ds) w n e = let (k, y, at) = array_there ds w n e in (suc k, y, at)
array_there (ArrayOf x v m ∷ ds) w n e =
    let pair : ◌≡◌ {A = ℕ × ℕ} (v, m) (w, n) = cc in
    (zero, x, ap (λ (p : ℕ × ℕ). Some (ArrayOf x p.0 p.1)) pair)

abbrev Memories : Type 0
Memories = (s : PlainSource) (k : ℕ) (e : PlainExternal) → is_sound s ≡ true → slice_get s.externals k ≡ Some e → IsMemory (instances_of s) e

abbrev Bounds : Type 0
Bounds = (s : PlainSource) (i k : ℕ) (d : PlainDecl) → is_sound s ≡ true → slice_get (decls_at (instances_of s) i) k ≡ Some d
    → (0 < width_of (decl_meaning d)) × (width_of (decl_meaning d) ≤ 128)

row_has_width : (s : PlainSource) → is_sound s ≡ true → Memories → Bounds → (k : ℕ) (e : PlainExternal) → slice_get s.externals k ≡ Some e → HasWordWidth (row_of e)
row_has_width s sound memories bounds k e at =
    let m = memories s k e sound at in
    let (j, x, there) = array_there (decls_at (instances_of s) m.number) e.width (word_count e.sizes) m.array in
    let bound = bounds s m.number j (ArrayOf x e.width (word_count e.sizes)) sound there in
    record { positive = bound.0; narrow = m.width }

all_have_width : (es : List PlainExternal) → ((k : ℕ) (e : PlainExternal) → slice_get es k ≡ Some e → HasWordWidth (row_of e)) → All HasWordWidth (rows_of es)
all_have_width [] h = All-nil HasWordWidth
all_have_width (e ∷ es) h = All-cons HasWordWidth (row_of e) (rows_of es) (h zero e refl) (all_have_width es (λ k x at. h (suc k) x at))

pub rows_have_width : (s : PlainSource) → is_sound s ≡ true → Memories → Bounds → All HasWordWidth (rows_of s.externals)
rows_have_width s sound memories bounds = all_have_width s.externals (row_has_width s sound memories bounds)
