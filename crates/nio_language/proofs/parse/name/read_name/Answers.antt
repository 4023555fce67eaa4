use Rattle.std.proofs.Common.{Some, None}
use Rattle.nio_language.proofs.NameWords.{number_read}
use Rattle.nio_language.proofs.NameWords.{no_number, name_at_first, no_later_number, no_serial, name_at_serial}
use Rattle.nio_language.proofs.parse.name.read_name.Goals as goal

pub returns-in_err-number-in-None : goal.returns-in_err-number-in-None
returns-in_err-number-in-None c =
    rw c.from_residual.ensures
    (no_number c.args.letter c.requires c.args.word.now c.in-None.ensures.only
    (number_read c.args.letter c.args.word.now None c.in_err-number-in-None.ensures))

pub returns-in_ok-number-in-None : goal.returns-in_ok-number-in-None
returns-in_ok-number-in-None c =
    name_at_first c.args.letter c.requires c.args.word.now c.in_ok-number-in-None.number c.in-None.ensures.only
    (number_read c.args.letter c.args.word.now (Some c.in_ok-number-in-None.number) c.in_ok-number-in-None.ensures)

pub returns-in_err-number-in-Some : goal.returns-in_err-number-in-Some
returns-in_err-number-in-Some c =
    rw c.from_residual-in_err-number-in-Some.ensures
    (no_later_number c.args.letter c.requires c.args.word.now c.in-Some.number.now c.in-Some.serial.now
    c.in-Some.ensures.found c.in-Some.ensures.only
    (number_read c.args.letter c.in-Some.number.now None c.in_err-number-in-Some.ensures))

pub returns-in_err-serial-in-Some : goal.returns-in_err-serial-in-Some
returns-in_err-serial-in-Some c =
    rw c.from_residual-in_err-serial-in-Some.ensures
    (no_serial c.args.letter c.requires c.args.word.now c.in-Some.number.now c.in-Some.serial.now
    c.in-Some.ensures.found c.in-Some.ensures.only c.in_err-serial-in-Some.ensures)

pub returns-in_ok-serial-in-Some : goal.returns-in_ok-serial-in-Some
returns-in_ok-serial-in-Some c =
    name_at_serial c.args.letter c.requires c.args.word.now c.in-Some.number.now c.in-Some.serial.now
    c.in_ok-number-in-Some.number c.in_ok-serial-in-Some.serial c.in-Some.ensures.found c.in-Some.ensures.only
    (number_read c.args.letter c.in-Some.number.now (Some c.in_ok-number-in-Some.number)
    c.in_ok-number-in-Some.ensures) c.in_ok-serial-in-Some.ensures
