use Rattle.std.proofs.Common.{refl}
use Rattle.cx_outside.specs.declared.reading.FileAnswer.TheVariants as answers
use Rattle.cx_driver.proofs.ReadLemmas.{failed_names}
use Rattle.cx_driver.proofs.running.read.Goals as goal

pub returns-in-Err-TooLong-clause-cause : goal.returns-in-Err-TooLong-clause-cause
returns-in-Err-TooLong-clause-cause g c =
    let told = c.read_file.ensures.too_long c.in-Err-TooLong.seen (let long = c.in-Err-TooLong.is in let failed = c.in-Err-TooLong.field-0-is in cc) in
    record { is = refl; over = told.0; count = told.1 }

pub returns-in-Err-Failed-clause-unread : goal.returns-in-Err-Failed-clause-unread
returns-in-Err-Failed-clause-unread g c =
    let told = answers.Failed in
    failed_names c.read_file.result told c.args.file.now (g.F.Files.failures c.args.files.now) (g.F.Files.failures c.read_file.new.self)
    (let is = c.in-Err-Failed.is in let answer = c.in-Err-Failed.field-0-is in cc) c.read_file.ensures.names

pub returns-in-Err-TooLong-clause-unread : goal.returns-in-Err-TooLong-clause-unread
returns-in-Err-TooLong-clause-unread g c =
    let told = answers.TooLong c.in-Err-TooLong.seen in
    failed_names c.read_file.result told c.args.file.now (g.F.Files.failures c.args.files.now) (g.F.Files.failures c.read_file.new.self)
    (let is = c.in-Err-TooLong.is in let answer = c.in-Err-TooLong.field-0-is in cc) c.read_file.ensures.names

pub returns-in-Err-Memory-clause-unread : goal.returns-in-Err-Memory-clause-unread
returns-in-Err-Memory-clause-unread g c =
    let told = answers.Memory in
    failed_names c.read_file.result told c.args.file.now (g.F.Files.failures c.args.files.now) (g.F.Files.failures c.read_file.new.self)
    (let is = c.in-Err-Memory.is in let answer = c.in-Err-Memory.field-0-is in cc) c.read_file.ensures.names
