use Rattle.std.proofs.Common.{◌++◌, ◌∷◌, [], Bool, ℕ, List, if◌then◌else◌, ap, sym, ◌∙◌}
use Rattle.nio_select.specs.Asked.{key_at}
use Rattle.nio_kept.specs.News.{is_ready}
use Rattle.nio_kept.proofs.Looks.{index_listed, none_ready}
use Rattle.nio_kept.proofs.news.News.list.Goals as goal

pub returns-then-has_ready-clause-listed : goal.returns-then-has_ready-clause-listed
returns-then-has_ready-clause-listed c =
    λ ok known. index_listed c.args.self.now c.args.asked.now.keys c.args.chan.0 c.in-Some.index c.push.new.self.items
    (sym c.in-Some.ensures.noted)
    (c.push.ensures.items
    ∙ (ap (λ (b : Bool). if b then c.self.inside.candidates.items ++ c.in-Some.index ∷ [] else c.self.inside.candidates.items)
    (sym c.is_ok.ensures.value ∙ ok)
    ∙ ap (λ v. v.candidates ++ c.in-Some.index ∷ []) c.self.view_is)) known

pub returns-else-has_ready-clause-listed : goal.returns-else-has_ready-clause-listed
returns-else-has_ready-clause-listed c =
    λ ok known. none_ready c.args.self.now c.args.asked.now.keys c.args.chan.0 c.in-Some.index
    (sym c.in-Some.ensures.noted) c.has_ready.ensures.alone
    (ap (λ (kept : List ℕ). is_ready kept (key_at c.in-Some.index c.args.asked.now.keys))
    (sym (c.as_slice.ensures.value ∙ ap (λ v. v.kept) c.self.view_is))
    ∙ (sym c.has_ready.ensures.is ∙ c.if-has_ready.false)) known
