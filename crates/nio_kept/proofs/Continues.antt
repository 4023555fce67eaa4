-- A list without a stamp follows on any other.
use Rattle.std.proofs.Common.{◌≡◌, ◌||◌, false, Option, Some, None, refl, sym, ◌∙◌, ap}
use Rattle.nio_select.specs.Asked.{Looked}
use Rattle.nio_select.specs.declared.stamp.Stamp.{Stamp}
use Rattle.nio_kept.specs.News.{AreApart, Continues, Heard, is_next, is_same}

same_none : (seen : Option Stamp) → is_same seen None ≡ false
same_none None = refl
same_none (Some stamp) = refl

next_none : (seen : Option Stamp) → is_next seen None ≡ false
next_none None = refl
next_none (Some stamp) = refl

either_none : (seen : Option Stamp) → (is_same seen None || is_next seen None) ≡ false
either_none None = refl
either_none (Some stamp) = refl

-- so of a list without a stamp it is asked only that it has no channel twice
pub continues_unlisted : (news : Heard) (asked : Looked) → asked.stamp ≡ None → AreApart asked.keys → Continues news asked
continues_unlisted news asked unlisted apart = record {
  before = asked;
  follows = record {
    same = λ is. absurd (cc (sym is ∙ (ap (is_same asked.stamp) unlisted ∙ same_none asked.stamp)));
    next = λ is. absurd (cc (sym is ∙ (ap (is_next asked.stamp) unlisted ∙ next_none asked.stamp)));
  };
  remembered = λ is. absurd (cc (sym is
      ∙ (ap (λ (stamp : Option Stamp). is_same news.seen stamp || is_next news.seen stamp) unlisted
      ∙ either_none news.seen)));
  apart = apart;
}
