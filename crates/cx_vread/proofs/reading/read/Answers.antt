use Rattle.std.proofs.Common.{Err}
use Rattle.cx_vread.proofs.WholeTexts.{stops_for_memory, answers_it, sound_read, stands_for, astray_tells, tells_it, reads_text}
use Rattle.cx_vread.proofs.AstrayOnce.{astray_at}
use Rattle.cx_vread.proofs.reading.read.Goals as goal

pub returns-in-Err-clause-spelled : goal.returns-in-Err-clause-spelled
returns-in-Err-clause-spelled c = λ s e laid. stops_for_memory s c.args.text.now c.stopped.result c.stopped.ensures e laid

pub returns-in-Err-clause-sound : goal.returns-in-Err-clause-sound
returns-in-Err-clause-sound c = λ s e sound. sound_read s c.args.text.now (Err c.stopped.result)
    (λ t e laid. stops_for_memory t c.args.text.now c.stopped.result c.stopped.ensures e laid) e sound

pub returns-in-Ok-clause-spelled : goal.returns-in-Ok-clause-spelled
returns-in-Ok-clause-spelled c = λ s e laid. answers_it s _ c.args.text.now _ c.answer.result c.in-Ok.ensures c.answer.ensures.answer e laid

pub returns-in-Ok-clause-sound : goal.returns-in-Ok-clause-sound
returns-in-Ok-clause-sound c = λ s e sound. sound_read s c.args.text.now c.answer.result
    (λ t e laid. answers_it t _ c.args.text.now _ c.answer.result c.in-Ok.ensures c.answer.ensures.answer e laid) e sound

pub returns-in-Err-clause-told : goal.returns-in-Err-clause-told
returns-in-Err-clause-told c = astray_tells c.args.text.now c.stopped.result c.stopped.ensures

pub returns-in-Ok-clause-told : goal.returns-in-Ok-clause-told
returns-in-Ok-clause-told c = tells_it c.args.text.now _ _ c.answer.result c.in-Ok.ensures c.answer.ensures.answer

pub returns-in-Err-clause-astray : goal.returns-in-Err-clause-astray
returns-in-Err-clause-astray c = λ line first. astray_at c.args.text.now (Err c.stopped.result) tt
    (astray_tells c.args.text.now c.stopped.result c.stopped.ensures) line first

pub returns-in-Ok-clause-astray : goal.returns-in-Ok-clause-astray
returns-in-Ok-clause-astray c = λ line first. astray_at c.args.text.now c.answer.result (reads_text c.args.text.now _ _ c.answer.result c.in-Ok.ensures)
    (tells_it c.args.text.now _ _ c.answer.result c.in-Ok.ensures c.answer.ensures.answer) line first

pub answer-requires : goal.answer-requires
answer-requires c = stands_for c.args.text.now _ c.in-Ok.found.1.rest.now c.in-Ok.ensures
