use Rattle.std.proofs.Common.{◌≡◌, ap, ◌∙◌}
use Rattle.cx_text.specs.Loading.{word_count}
use Rattle.cx_vscope.specs.Drafts.{draft_modules, draft_sizes, draft_external}
use Rattle.cx_vtree.specs.Sound as sound
use Rattle.cx_vsound.specs.Arrays.{seen, other_length, other_width}
use Rattle.cx_vsound.specs.Parts.{external_faults_by}
use Rattle.cx_vsound.proofs.Memories.{other_length_is, other_width_is}
use Rattle.cx_vsound.proofs.externals.external_faults.Goals as goal

pub returns : goal.returns
returns c =
    let e = draft_external c.args.e.now in
    let arrays = sound.memory_arrays (draft_modules c.args.modules.now) e in
    let length : c.in_ok-other_length.other_length ≡ sound.not_this_memory arrays e =
    c.in_ok-other_length.ensures ∙ ap (λ xs. other_length (seen c.memory_arrays-arrays.result) (word_count (draft_sizes xs))) c.deref.ensures.value
    ∙ ap (λ a. other_length a (word_count e.sizes)) c.memory_arrays-arrays.ensures ∙ other_length_is arrays e in
    let width : c.is_other_width-other_width.result ≡ sound.not_this_width arrays e =
    c.is_other_width-other_width.ensures ∙ ap (λ a. other_width a e.width) c.memory_arrays-arrays.ensures ∙ other_width_is arrays e in
    c.faults_by.ensures
    ∙ ap (λ b. external_faults_by b c.is_other_width-other_width.result c.args.names.now c.args.taken.now e) length
    ∙ ap (λ b. external_faults_by (sound.not_this_memory arrays e) b c.args.names.now c.args.taken.now e) width
