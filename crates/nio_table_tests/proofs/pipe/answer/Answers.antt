use Rattle.std.proofs.Common.{refl, ap}
use Rattle.nio_words.proofs.Pins.{no_pin_stays}
use Rattle.nio_words.proofs.Stepping.{still_ready}
use Rattle.nio_words.proofs.Views.{step_acts}
use Rattle.nio_pipe.proofs.Idle.{may_after, may_same}
use Rattle.nio_table_tests.proofs.pipe.answer.Goals as goal

pub returns-in-Read : goal.returns-in-Read
returns-in-Read c =
    let e = c.try_read.ensures in
    may_same (ap (λ pipe. pipe.source) e.pipe) (ap (λ pipe. pipe.sink) e.pipe)
    (may_after e.call.acts e.ready e.unpinned c.requires)

pub returns-in-Write : goal.returns-in-Write
returns-in-Write c =
    let e = c.try_write.ensures in
    may_same (ap (λ pipe. pipe.source) e.pipe) (ap (λ pipe. pipe.sink) e.pipe)
    (may_after e.call.acts e.ready e.unpinned c.requires)

pub returns-in-CloseSource : goal.returns-in-CloseSource
returns-in-CloseSource c =
    let e = c.close_source.ensures in
    may_same (ap (λ pipe. pipe.source) e.pipe) (ap (λ pipe. pipe.sink) e.pipe)
    (may_after e.call.acts e.ready e.unpinned c.requires)

pub returns-in-CloseSink : goal.returns-in-CloseSink
returns-in-CloseSink c =
    let e = c.close_sink.ensures in
    may_same (ap (λ pipe. pipe.source) e.pipe) (ap (λ pipe. pipe.sink) e.pipe)
    (may_after e.call.acts e.ready e.unpinned c.requires)

pub returns-in-Interrupt : goal.returns-in-Interrupt
returns-in-Interrupt c =
    let acts = step_acts c.set_interrupt.ensures refl in
    may_after acts (still_ready _ _ _ _ _ _ c.set_interrupt.ensures c.requires.ready)
    (no_pin_stays acts refl c.requires.unpinned) c.requires
