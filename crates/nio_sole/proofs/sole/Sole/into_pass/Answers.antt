use Rattle.std.proofs.Common.{◌<◌, sym, subst}
use Rattle.std.proofs.Math.Logic.{∥∥₁_map}
use Rattle.nio_base.specs.declared.numbers.CallerNo.{CallerNo}
use Rattle.nio_history.specs.PassViews.{HasNoPin}
use Rattle.nio_orderly.specs.Orderly.{IsWhole}
use Rattle.nio_sole.proofs.After.{has_no_pin}
use Rattle.nio_sole.proofs.Beginnings.{made_whole}
use Rattle.nio_sole.specs.Sole.{limits_of, words_of}
use Rattle.nio_sole.specs.Stands.{progress_of}
use Rattle.nio_sole.proofs.sole.Sole.into_pass.Goals as goal
use Rattle.nio_words.specs.Passes.{IsReady, acts_seen, seen}
use Rattle.nio_words.specs.Views.{view}
use Rattle.nio_words.specs.declared.words.Pass.{Pass}

pub returns-clause-ready : goal.returns-clause-ready
returns-clause-ready c =
    let sole = c.args.self in
    subst (λ (p : Pass). (n : CallerNo) → n.0 < (limits_of sole).callers → IsReady (words_of sole) p n)
    (sym c.into_pass.ensures) sole.stands.ready

pub returns-clause-whole : goal.returns-clause-whole
returns-clause-whole c =
    let sole = c.args.self in
    subst (λ (p : Pass). ∥ IsWhole (limits_of sole) (seen p) ∥₁) (sym c.into_pass.ensures)
    (∥∥₁_map sole.stands.made
    (λ made n. made_whole (limits_of sole) (acts_seen sole.desk.pass n) n (progress_of sole.desk) (made n)))

pub returns-clause-unpinned : goal.returns-clause-unpinned
returns-clause-unpinned c =
    let sole = c.args.self in
    subst (λ (p : Pass). (n : CallerNo) → HasNoPin (view (words_of sole) p) n) (sym c.into_pass.ensures)
    (λ n. has_no_pin (words_of sole) sole.desk n sole.stands)
