-- A test of an answer, and that the answer is the one that stands there.
use Rattle.std.proofs.Common.{◌≡◌, ℕ, Bool, true, false, ◌&&◌, ◌==◌, ◌↔◌, IsTrue, refl, ap, sym, ◌∙◌, eqb-true, eq-eqb}
use Rattle.std.proofs.lemmas.Bool.{and_parts, and_from}
use Rattle.std.specs.Bool.{beq}
use Rattle.nio_history.specs.Questions.{flag, word, index_word}
use Rattle.nio_history.specs.declared.found.IndexWord.{IndexWord}
use Rattle.nio_history.specs.declared.found.Stage.{Stage}

pub flag_iff : (found r x : Bool) → r ≡ x → IsTrue (beq found r) ↔ (flag found ≡ flag x)
flag_iff true true x e = (λ h. ap flag e, λ h. refl)
flag_iff true false x e = (λ h. cc, λ h. let same : true ≡ x = cc in cc)
flag_iff false true x e = (λ h. cc, λ h. let same : false ≡ x = cc in cc)
flag_iff false false x e = (λ h. ap flag e, λ h. refl)

pub word_iff : (found r x : ℕ) → r ≡ x → IsTrue (found == r) ↔ (word found ≡ word x)
word_iff found r x e =
    (λ h. ap word (eqb-true found r h ∙ e), λ h. let same : found ≡ x = cc in eq-eqb found r (same ∙ sym e))

-- ---- a stage, and an index's word

abbrev is_same_stage : Stage → Stage → Bool
is_same_stage x y =
    beq x.claimed y.claimed && (beq x.published y.published && (beq x.cancelled y.cancelled
    && (beq x.removed y.removed && ((x.chan.0 == y.chan.0) && (x.serial == y.serial)))))

abbrev pub is_same_index : IndexWord → IndexWord → Bool
is_same_index x y = is_same_stage x.stage y.stage && beq x.pinned y.pinned

same_flag : (x y : Bool) → beq x y ≡ true → x ≡ y
same_flag true true h = refl
same_flag true false h = cc
same_flag false true h = cc
same_flag false false h = refl

flag-self : (x : Bool) → beq x x ≡ true
flag-self true = refl
flag-self false = refl

same_stage : (x y : Stage) → is_same_stage x y ≡ true → x ≡ y
same_stage x y h =
    let claimed = and_parts (beq x.claimed y.claimed) _ h in
    let published = and_parts (beq x.published y.published) _ claimed.1 in
    let cancelled = and_parts (beq x.cancelled y.cancelled) _ published.1 in
    let removed = and_parts (beq x.removed y.removed) _ cancelled.1 in
    let numbers = and_parts (x.chan.0 == y.chan.0) (x.serial == y.serial) removed.1 in
    λ i. record {
      claimed = same_flag x.claimed y.claimed claimed.0 i;
      published = same_flag x.published y.published published.0 i;
      cancelled = same_flag x.cancelled y.cancelled cancelled.0 i;
      removed = same_flag x.removed y.removed removed.0 i;
      chan = record {
        0 = eqb-true x.chan.0 y.chan.0 numbers.0 i;
      };
      serial = eqb-true x.serial y.serial numbers.1 i;
    }

stage-self : (x : Stage) → is_same_stage x x ≡ true
stage-self x =
    and_from (beq x.claimed x.claimed) _ (flag-self x.claimed)
    (and_from (beq x.published x.published) _ (flag-self x.published)
    (and_from (beq x.cancelled x.cancelled) _ (flag-self x.cancelled)
    (and_from (beq x.removed x.removed) _ (flag-self x.removed)
    (and_from (x.chan.0 == x.chan.0) (x.serial == x.serial) (eq-eqb x.chan.0 x.chan.0 refl)
    (eq-eqb x.serial x.serial refl)))))

same_index : (x y : IndexWord) → is_same_index x y ≡ true → x ≡ y
same_index x y h =
    let both = and_parts (is_same_stage x.stage y.stage) (beq x.pinned y.pinned) h in
    λ i. record {
      stage = same_stage x.stage y.stage both.0 i;
      pinned = same_flag x.pinned y.pinned both.1 i;
    }

index-self : (x : IndexWord) → is_same_index x x ≡ true
index-self x =
    and_from (is_same_stage x.stage x.stage) (beq x.pinned x.pinned) (stage-self x.stage) (flag-self x.pinned)

pub index_iff : (b : Bool) (found r x : IndexWord) → b ≡ is_same_index found r → r ≡ x
    → IsTrue b ↔ (index_word found ≡ index_word x)
index_iff b found r x is e = (
  λ h. ap index_word (same_index found r (sym is ∙ h) ∙ e),
  λ h. let same : found ≡ x = cc in (is ∙ ap (is_same_index found) (e ∙ sym same)) ∙ index-self found,
)
