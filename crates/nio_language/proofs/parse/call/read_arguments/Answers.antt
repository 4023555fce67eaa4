-- Each arm reads the arguments by their shape, and makes the call of them.
use Rattle.std.proofs.Common.{map, rules}
use Rattle.nio_language.proofs.CallParts.{made_call, made_on_group}
use Rattle.nio_language.proofs.parse.call.read_arguments.Goals as goal

pub returns-in-Alone : goal.returns-in-Alone
returns-in-Alone c =
    rw c.in-Alone.is
    (made_call _ _ (λ args own. own) (map (λ w. w.now) c.args.args.now) c.read_none.result c.map.result
    c.read_none.ensures c.map.ensures.cases (λ x k h. search rules))

pub returns-in-OnSelector : goal.returns-in-OnSelector
returns-in-OnSelector c =
    rw c.in-OnSelector.is
    (made_call _ _ (λ args own. own) (map (λ w. w.now) c.args.args.now) c.read_one_selector.result
    c.map-in-OnSelector.result c.read_one_selector.ensures c.map-in-OnSelector.ensures.cases
    (λ x k h. search rules))

pub returns-in-OnChannel : goal.returns-in-OnChannel
returns-in-OnChannel c =
    rw c.in-OnChannel.is
    (made_call _ _ (λ args own. own) (map (λ w. w.now) c.args.args.now) c.read_one_channel.result
    c.map-in-OnChannel.result c.read_one_channel.ensures c.map-in-OnChannel.ensures.cases (λ x k h. search rules))

pub returns-in-OnKey : goal.returns-in-OnKey
returns-in-OnKey c =
    rw c.in-OnKey.is
    (made_call _ _ (λ args own. own) (map (λ w. w.now) c.args.args.now) c.read_selector_key.result c.map-in-OnKey.result
    c.read_selector_key.ensures c.map-in-OnKey.ensures.cases (λ x k h. search rules))

pub returns-in-OnKeyOps : goal.returns-in-OnKeyOps
returns-in-OnKeyOps c =
    rw c.in-OnKeyOps.is
    (made_call _ _ (λ args own. own) (map (λ w. w.now) c.args.args.now) c.read_key_ops.result c.map-in-OnKeyOps.result
    c.read_key_ops.ensures c.map-in-OnKeyOps.ensures.cases (λ x k h. search rules))

pub returns-in-Channel : goal.returns-in-Channel
returns-in-Channel c =
    rw c.in-Channel.is
    (made_call _ _ (λ args own. own) (map (λ w. w.now) c.args.args.now) c.read_kind.result c.map-in-Channel.result
    c.read_kind.ensures c.map-in-Channel.ensures.cases (λ x k h. search rules))

pub returns-in-Blocking : goal.returns-in-Blocking
returns-in-Blocking c =
    rw c.in-Blocking.is
    (made_call _ _ (λ args own. own) (map (λ w. w.now) c.args.args.now) c.read_mode.result c.map-in-Blocking.result
    c.read_mode.ensures c.map-in-Blocking.ensures.cases (λ x k h. search rules))

pub returns-in-KeyFor : goal.returns-in-KeyFor
returns-in-KeyFor c =
    rw c.in-KeyFor.is
    (made_call _ _ (λ args own. own) (map (λ w. w.now) c.args.args.now) c.read_channel_selector.result
    c.map-in-KeyFor.result c.read_channel_selector.ensures c.map-in-KeyFor.ensures.cases (λ x k h. search rules))

pub returns-in-Register : goal.returns-in-Register
returns-in-Register c =
    rw c.in-Register.is
    (made_call _ _ (λ args own. own) (map (λ w. w.now) c.args.args.now) c.read_registration.result
    c.map-in-Register.result c.read_registration.ensures c.map-in-Register.ensures.cases (λ x k h. search rules))

pub returns-in-Attach : goal.returns-in-Attach
returns-in-Attach c =
    rw c.in-Attach.is
    (made_call _ _ (λ args own. own) (map (λ w. w.now) c.args.args.now) c.read_key_number.result c.map-in-Attach.result
    c.read_key_number.ensures c.map-in-Attach.ensures.cases (λ x k h. search rules))

pub returns-in-Begin : goal.returns-in-Begin
returns-in-Begin c =
    rw c.in-Begin.is
    (made_call _ _ (λ args own. own) (map (λ w. w.now) c.args.args.now) c.read_wait.result c.map-in-Begin.result
    c.read_wait.ensures c.map-in-Begin.ensures.cases (λ x k h. search rules))

pub returns-in_ok-read_told-in-Told : goal.returns-in_ok-read_told-in-Told
returns-in_ok-read_told-in-Told c =
    rw c.in-Told.is
    (made_call _ _ (λ args own. own) (map (λ w. w.now) c.args.args.now) c.in_ok-read_told-in-Told.field-0
    c.map-in-Told.result c.in_ok-read_told-in-Told.ensures c.map-in-Told.ensures.cases (λ x k h. search rules))

pub returns-in-OnCaller : goal.returns-in-OnCaller
returns-in-OnCaller c =
    rw c.in-OnCaller.is
    (made_call _ _ (λ args own. own) (map (λ w. w.now) c.args.args.now) c.read_one_caller.result
    c.map-in-OnCaller.result c.read_one_caller.ensures c.map-in-OnCaller.ensures.cases (λ x k h. search rules))

pub returns-in_ok-read_channel_bytes-in-Pwrite : goal.returns-in_ok-read_channel_bytes-in-Pwrite
returns-in_ok-read_channel_bytes-in-Pwrite c =
    rw c.in-Pwrite.is
    (made_call _ _ (λ args own. own) (map (λ w. w.now) c.args.args.now) c.in_ok-read_channel_bytes-in-Pwrite.field-0
    c.map-in-Pwrite.result c.in_ok-read_channel_bytes-in-Pwrite.ensures c.map-in-Pwrite.ensures.cases
    (λ x k h. search rules))

pub returns-in-Pread : goal.returns-in-Pread
returns-in-Pread c =
    rw c.in-Pread.is
    (made_call _ _ (λ args own. own) (map (λ w. w.now) c.args.args.now) c.read_channel_count.result
    c.map-in-Pread.result c.read_channel_count.ensures c.map-in-Pread.ensures.cases (λ x k h. search rules))

pub returns-in-OnGroup : goal.returns-in-OnGroup
returns-in-OnGroup c =
    rw c.in-OnGroup.is
    (made_on_group _ (map (λ w. w.now) c.args.args.now) c.read_group_call.result c.map-in-OnGroup.result
    c.read_group_call.ensures c.map-in-OnGroup.ensures.cases (λ g d h. search rules))
