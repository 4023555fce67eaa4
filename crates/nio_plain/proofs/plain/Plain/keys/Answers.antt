use Rattle.std.proofs.Common.{ap, sym}
use Rattle.std.proofs.Math.Bool.{and-true}
use Rattle.nio_history.specs.Sets.{in_key_set}
use Rattle.nio_plain.proofs.Replying.{of_word}
use Rattle.nio_plain.proofs.Places.{same_function}
use Rattle.nio_plain.specs.PlainState.{state_of}
use Rattle.nio_plain.specs.Seq.Listing.{keys_call, listed}
use Rattle.nio_plain.proofs.plain.Plain.keys.Goals as goal

pub returns : goal.returns
unfolding keys_call
returns c =
    let st = state_of c.args.self.now in
    let all = same_function (λ i. sym (and-true (in_key_set (st.shared.key c.args.sel.0 i)))) in
    of_word _ _ _ _ _ (ap (listed st c.args.sel) all) c.set_of.ensures
