use Rattle.std.proofs.Common.{ℕ, List, ap, sym, ◌∙◌}
use Rattle.nio_plain.proofs.Replying.{of_word, without_memory}
use Rattle.nio_plain.specs.PlainState.{limits_of, rules_of, state_of}
use Rattle.nio_plain.specs.Seq.{call_of}
use Rattle.nio_plain.specs.Seq.Piping.{pwrite_call}
use Rattle.nio_plain.proofs.plain.Plain.call_of.Goals as goal

pub returns-in-Selector : goal.returns-in-Selector
unfolding call_of
returns-in-Selector c =
    let p = c.args.self.now in
    of_word _ _ _ _ _ (ap (call_of (rules_of p) (limits_of p) (state_of p) c.args.me) c.in-Selector.is)
    c.open_selector.ensures

pub returns-in-Channel : goal.returns-in-Channel
unfolding call_of
returns-in-Channel c =
    let p = c.args.self.now in
    of_word _ _ _ _ _ (ap (call_of (rules_of p) (limits_of p) (state_of p) c.args.me) c.in-Channel.is)
    c.open_channel.ensures

pub returns-in-Blocking : goal.returns-in-Blocking
unfolding call_of
returns-in-Blocking c =
    let p = c.args.self.now in
    of_word _ _ _ _ _ (ap (call_of (rules_of p) (limits_of p) (state_of p) c.args.me) c.in-Blocking.is)
    (without_memory _ _ _ _ c.set_blocking.ensures)

pub returns-in-IsBlocking : goal.returns-in-IsBlocking
unfolding call_of
returns-in-IsBlocking c =
    let p = c.args.self.now in
    of_word _ _ _ _ _ (ap (call_of (rules_of p) (limits_of p) (state_of p) c.args.me) c.in-IsBlocking.is)
    (without_memory _ _ _ _ c.is_blocking_channel.ensures)

pub returns-in-IsOpen : goal.returns-in-IsOpen
unfolding call_of
returns-in-IsOpen c =
    let p = c.args.self.now in
    of_word _ _ _ _ _ (ap (call_of (rules_of p) (limits_of p) (state_of p) c.args.me) c.in-IsOpen.is)
    (without_memory _ _ _ _ c.is_open_channel.ensures)

pub returns-in-IsRegistered : goal.returns-in-IsRegistered
unfolding call_of
returns-in-IsRegistered c =
    let p = c.args.self.now in
    of_word _ _ _ _ _ (ap (call_of (rules_of p) (limits_of p) (state_of p) c.args.me) c.in-IsRegistered.is)
    (without_memory _ _ _ _ c.is_registered_channel.ensures)

pub returns-in-KeyFor : goal.returns-in-KeyFor
unfolding call_of
returns-in-KeyFor c =
    let p = c.args.self.now in
    of_word _ _ _ _ _ (ap (call_of (rules_of p) (limits_of p) (state_of p) c.args.me) c.in-KeyFor.is)
    (without_memory _ _ _ _ c.key_for.ensures)

pub returns-in-Register : goal.returns-in-Register
unfolding call_of
returns-in-Register c =
    let p = c.args.self.now in
    of_word _ _ _ _ _ (ap (call_of (rules_of p) (limits_of p) (state_of p) c.args.me) c.in-Register.is)
    c.register.ensures

pub returns-in-Closec : goal.returns-in-Closec
unfolding call_of
returns-in-Closec c =
    let p = c.args.self.now in
    of_word _ _ _ _ _ (ap (call_of (rules_of p) (limits_of p) (state_of p) c.args.me) c.in-Closec.is)
    (without_memory _ _ _ _ c.close_channel.ensures)

pub returns-in-Valid : goal.returns-in-Valid
unfolding call_of
returns-in-Valid c =
    let p = c.args.self.now in
    of_word _ _ _ _ _ (ap (call_of (rules_of p) (limits_of p) (state_of p) c.args.me) c.in-Valid.is)
    (without_memory _ _ _ _ c.is_valid_key.ensures)

pub returns-in-Interest : goal.returns-in-Interest
unfolding call_of
returns-in-Interest c =
    let p = c.args.self.now in
    of_word _ _ _ _ _ (ap (call_of (rules_of p) (limits_of p) (state_of p) c.args.me) c.in-Interest.is)
    (without_memory _ _ _ _ c.interest.ensures)

pub returns-in-Ready : goal.returns-in-Ready
unfolding call_of
returns-in-Ready c =
    let p = c.args.self.now in
    of_word _ _ _ _ _ (ap (call_of (rules_of p) (limits_of p) (state_of p) c.args.me) c.in-Ready.is)
    (without_memory _ _ _ _ c.ready.ensures)

pub returns-in-Iset : goal.returns-in-Iset
unfolding call_of
returns-in-Iset c =
    let p = c.args.self.now in
    of_word _ _ _ _ _ (ap (call_of (rules_of p) (limits_of p) (state_of p) c.args.me) c.in-Iset.is)
    (without_memory _ _ _ _ c.set_interest.ensures)

pub returns-in-Ior : goal.returns-in-Ior
unfolding call_of
returns-in-Ior c =
    let p = c.args.self.now in
    of_word _ _ _ _ _ (ap (call_of (rules_of p) (limits_of p) (state_of p) c.args.me) c.in-Ior.is)
    (without_memory _ _ _ _ c.interest_or.ensures)

pub returns-in-Iand : goal.returns-in-Iand
unfolding call_of
returns-in-Iand c =
    let p = c.args.self.now in
    of_word _ _ _ _ _ (ap (call_of (rules_of p) (limits_of p) (state_of p) c.args.me) c.in-Iand.is)
    (without_memory _ _ _ _ c.interest_and.ensures)

pub returns-in-Cancel : goal.returns-in-Cancel
unfolding call_of
returns-in-Cancel c =
    let p = c.args.self.now in
    of_word _ _ _ _ _ (ap (call_of (rules_of p) (limits_of p) (state_of p) c.args.me) c.in-Cancel.is)
    (without_memory _ _ _ _ c.cancel.ensures)

pub returns-in-Unselect : goal.returns-in-Unselect
unfolding call_of
returns-in-Unselect c =
    let p = c.args.self.now in
    of_word _ _ _ _ _ (ap (call_of (rules_of p) (limits_of p) (state_of p) c.args.me) c.in-Unselect.is)
    (without_memory _ _ _ _ c.unselect.ensures)

pub returns-in-Attach : goal.returns-in-Attach
unfolding call_of
returns-in-Attach c =
    let p = c.args.self.now in
    of_word _ _ _ _ _ (ap (call_of (rules_of p) (limits_of p) (state_of p) c.args.me) c.in-Attach.is)
    (without_memory _ _ _ _ c.attach.ensures)

pub returns-in-Attachment : goal.returns-in-Attachment
unfolding call_of
returns-in-Attachment c =
    let p = c.args.self.now in
    of_word _ _ _ _ _ (ap (call_of (rules_of p) (limits_of p) (state_of p) c.args.me) c.in-Attachment.is)
    (without_memory _ _ _ _ c.attachment.ensures)

pub returns-in-Begin : goal.returns-in-Begin
unfolding call_of
returns-in-Begin c =
    let p = c.args.self.now in
    of_word _ _ _ _ _ (ap (call_of (rules_of p) (limits_of p) (state_of p) c.args.me) c.in-Begin.is) c.begin.ensures

pub returns-in-Told : goal.returns-in-Told
unfolding call_of
returns-in-Told c =
    let p = c.args.self.now in
    of_word _ _ _ _ _ (ap (call_of (rules_of p) (limits_of p) (state_of p) c.args.me) c.in-Told.is) c.told.ensures

pub returns-in-Failed : goal.returns-in-Failed
unfolding call_of
returns-in-Failed c =
    let p = c.args.self.now in
    of_word _ _ _ _ _ (ap (call_of (rules_of p) (limits_of p) (state_of p) c.args.me) c.in-Failed.is)
    (without_memory _ _ _ _ c.failed.ensures)

pub returns-in-Wakeup : goal.returns-in-Wakeup
unfolding call_of
returns-in-Wakeup c =
    let p = c.args.self.now in
    of_word _ _ _ _ _ (ap (call_of (rules_of p) (limits_of p) (state_of p) c.args.me) c.in-Wakeup.is)
    (without_memory _ _ _ _ c.wakeup.ensures)

pub returns-in-Close : goal.returns-in-Close
unfolding call_of
returns-in-Close c =
    let p = c.args.self.now in
    of_word _ _ _ _ _ (ap (call_of (rules_of p) (limits_of p) (state_of p) c.args.me) c.in-Close.is)
    (without_memory _ _ _ _ c.close.ensures)

pub returns-in-CloseEnd : goal.returns-in-CloseEnd
unfolding call_of
returns-in-CloseEnd c =
    let p = c.args.self.now in
    of_word _ _ _ _ _ (ap (call_of (rules_of p) (limits_of p) (state_of p) c.args.me) c.in-CloseEnd.is)
    (without_memory _ _ _ _ c.close_end.ensures)

pub returns-in-Keys : goal.returns-in-Keys
unfolding call_of
returns-in-Keys c =
    let p = c.args.self.now in
    of_word _ _ _ _ _ (ap (call_of (rules_of p) (limits_of p) (state_of p) c.args.me) c.in-Keys.is) c.keys.ensures

pub returns-in-Selected : goal.returns-in-Selected
unfolding call_of
returns-in-Selected c =
    let p = c.args.self.now in
    of_word _ _ _ _ _ (ap (call_of (rules_of p) (limits_of p) (state_of p) c.args.me) c.in-Selected.is)
    c.selected.ensures

pub returns-in-Interrupt : goal.returns-in-Interrupt
unfolding call_of
returns-in-Interrupt c =
    let p = c.args.self.now in
    of_word _ _ _ _ _ (ap (call_of (rules_of p) (limits_of p) (state_of p) c.args.me) c.in-Interrupt.is)
    (without_memory _ _ _ _ c.interrupt.ensures)

pub returns-in-Interrupted : goal.returns-in-Interrupted
unfolding call_of
returns-in-Interrupted c =
    let p = c.args.self.now in
    of_word _ _ _ _ _ (ap (call_of (rules_of p) (limits_of p) (state_of p) c.args.me) c.in-Interrupted.is)
    (without_memory _ _ _ _ c.interrupted.ensures)

pub returns-in-Pipe : goal.returns-in-Pipe
unfolding call_of
returns-in-Pipe c =
    let p = c.args.self.now in
    of_word _ _ _ _ _ (ap (call_of (rules_of p) (limits_of p) (state_of p) c.args.me) c.in-Pipe.is) c.pipe.ensures

pub returns-in-Pwrite : goal.returns-in-Pwrite
unfolding call_of
returns-in-Pwrite c =
    let p = c.args.self.now in
    of_word _ _ _ _ _
    (ap (call_of (rules_of p) (limits_of p) (state_of p) c.args.me) c.in-Pwrite.is
    ∙ ap (λ (bytes : List ℕ). pwrite_call (state_of p) c.args.me c.in-Pwrite.chan bytes) (sym c.as_slice.ensures))
    c.pwrite.ensures

pub returns-in-Pread : goal.returns-in-Pread
unfolding call_of
returns-in-Pread c =
    let p = c.args.self.now in
    of_word _ _ _ _ _ (ap (call_of (rules_of p) (limits_of p) (state_of p) c.args.me) c.in-Pread.is) c.pread.ensures

pub returns-in-Group : goal.returns-in-Group
unfolding call_of
returns-in-Group c =
    let p = c.args.self.now in
    of_word _ _ _ _ _ (ap (call_of (rules_of p) (limits_of p) (state_of p) c.args.me) c.in-Group.is)
    (without_memory _ _ _ _ c.call_on_group.ensures)
