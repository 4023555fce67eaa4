use Rattle.std.proofs.Common.{List, ℕ, ap, ◌∙◌, rules}
use Rattle.std.specs.List.{filter}
use Rattle.std.proofs.lemmas.Fn.{filter_same}
use Rattle.nio_select.specs.Asked.{key_at}
use Rattle.nio_kept.specs.News.{Heard, is_ready}
use Rattle.nio_kept.proofs.news.News.leave_ready.Goals as goal

pub returns : goal.returns
returns c =
    let kept = c.self.inside.kept.items in
    ap (λ (xs : List ℕ).
    record { kept = kept; keys = c.self.inside.keys.items; candidates = xs; seen = c.self.inside.seen })
    (filter_same _ (λ i. is_ready kept (key_at i c.args.asked.now.keys)) _ (λ x b f' k. search rules) _ _
    c.retain.ensures.filtered)
    ∙ ap (λ (n : Heard). record n { candidates = filter (λ i. is_ready n.kept (key_at i c.args.asked.now.keys)) n.candidates })
    c.self.view_is
