use Rattle.std.proofs.Common.{◌≡◌, ◌∷◌, [], Some, None, sym, ◌∙◌}
use Rattle.std.proofs.lemmas.Bool.Decides.{Decides-eqb}
use Rattle.std.proofs.lemmas.List.{append_cancel_right}
use Rattle.std.proofs.lemmas.Slice.Eq.{strip_prefix_is, strip_suffix_is}
use Rattle.nio_script.proofs.EntryTexts.{arrow_found, arrow_parts, arrow_uncut}
use Rattle.nio_script.proofs.history.cut_at_arrow.Goals as goal

pub returns-in_err-before-clause-only : goal.returns-in_err-before-clause-only
returns-in_err-before-clause-only c =
    λ before after none e. absurd (arrow_uncut c.args.text.now before after c.in_err-before.ensures.only none e)

pub returns-in_err-call-clause-only : goal.returns-in_err-call-clause-only
returns-in_err-call-clause-only c =
    λ before after none e.
    let parts = arrow_parts c.args.text.now before after c.in_ok-before.before.now c.in_ok-before.after.now
    c.in_ok-before.ensures.only none e in
    absurd (strip_suffix_is Decides-eqb c.in_ok-before.before.now (32 ∷ 45 ∷ []) None c.in_err-call.ensures.cases before
    parts.0)

pub returns-in_err-reply-clause-only : goal.returns-in_err-reply-clause-only
returns-in_err-reply-clause-only c =
    λ before after none e.
    let parts = arrow_parts c.args.text.now before after c.in_ok-before.before.now c.in_ok-before.after.now
    c.in_ok-before.ensures.only none e in
    absurd (strip_prefix_is Decides-eqb c.in_ok-before.after.now (32 ∷ []) None c.in_err-reply.ensures.cases after
    parts.1)

pub returns-clause-found : goal.returns-clause-found
returns-clause-found c =
    arrow_found c.args.text.now c.in_ok-call.call.now c.in_ok-reply.reply.now c.in_ok-before.before.now
    c.in_ok-before.after.now c.in_ok-before.ensures.found
    (strip_suffix_is Decides-eqb c.in_ok-before.before.now (32 ∷ 45 ∷ [])
    (Some c.in_ok-call.call) c.in_ok-call.ensures.cases)
    (strip_prefix_is Decides-eqb c.in_ok-before.after.now (32 ∷ [])
    (Some c.in_ok-reply.reply) c.in_ok-reply.ensures.cases)

pub returns-clause-only : goal.returns-clause-only
returns-clause-only c =
    λ before after none e.
    let parts = arrow_parts c.args.text.now before after c.in_ok-before.before.now c.in_ok-before.after.now
    c.in_ok-before.ensures.only none e in
    let call = strip_suffix_is Decides-eqb c.in_ok-before.before.now (32 ∷ 45 ∷ [])
    (Some c.in_ok-call.call) c.in_ok-call.ensures.cases in
    let reply = strip_prefix_is Decides-eqb c.in_ok-before.after.now (32 ∷ [])
    (Some c.in_ok-reply.reply) c.in_ok-reply.ensures.cases in
    let same : 32 ∷ c.in_ok-reply.reply.now ≡ 32 ∷ after = sym reply ∙ parts.1 in (
      append_cancel_right c.in_ok-call.call.now before (32 ∷ 45 ∷ []) (sym call ∙ parts.0),
      cc,
    )
