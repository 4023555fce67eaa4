-- Two calls on the group with one word and the same arguments' words are one.
use Rattle.std.proofs.Common.{◌≡◌, ℕ, drop, refl, sym, ap, ◌∙◌, subst, arith}
use Rattle.std.proofs.lemmas.Fmt.{decimal_injective}
use Rattle.nio_base.specs.declared.group.GKind.{GKind}
use Rattle.nio_base.specs.declared.group.GKind.TheVariants as kind
use Rattle.nio_base.specs.declared.group.OpKind.{OpKind}
use Rattle.nio_base.specs.declared.group.OpKind.TheVariants as op
use Rattle.nio_base.specs.declared.group.Outcome.TheVariants as outcome
use Rattle.nio_base.specs.declared.numbers.GChan.{GChan}
use Rattle.nio_base.specs.declared.numbers.OpNo.{OpNo}
use Rattle.nio_language.specs.GroupWords.{IsGroupName}
use Rattle.nio_language.specs.GroupCalls.{IsGroupCall, IsOutcome, group_argument_words}
use Rattle.nio_language.specs.GroupWords.{group_channel_word, group_kind_word, operation_kind_word, operation_word}
use Rattle.nio_language.specs.GroupWords.{outcome_words}
use Rattle.nio_language.specs.Words.{IsNumber}
use Rattle.nio_language.specs.declared.group_call.GroupCall.{GroupCall}
use Rattle.nio_language.specs.declared.group_call.GroupCall.TheVariants as group
use Rattle.nio_language.specs.declared.group_word.GroupWord.{GroupWord}
use Rattle.nio_language.specs.declared.group_word.GroupWord.TheVariants as word
use Rattle.nio_language.proofs.GroupParts.{HasForm, IsOf, lone_call, report_call, start_call}
use Rattle.nio_language.proofs.OneName.{name_one}
use Rattle.nio_language.proofs.Ones.{IsOne, all_three, both, byte_at, numbered_one, word_at}

-- words

abbrev operation_no : ℕ → OpNo
operation_no n = record { 0 = n }

group_channel_one : IsOne IsGroupName group_channel_word
group_channel_one x y f g e =
    let parts = name_one 103 x.number x.serial y.number y.serial (λ q. omega (arith, q)) f g e in
    ap (λ n. let c : GChan = record { number = n; serial = x.serial } in c) parts.0
    ∙ ap (λ m. let c : GChan = record { number = y.number; serial = m } in c) parts.1

operation_one : IsOne (λ n. IsNumber n.0) operation_word
operation_one x y f g e = ap operation_no (decimal_injective x.0 y.0 (omega arith) (omega arith) e)

group_kind_one : (x y : GKind) → group_kind_word x ≡ group_kind_word y → x ≡ y
group_kind_one kind.Stream kind.Stream e = refl
group_kind_one kind.Listener kind.Listener e = refl
group_kind_one kind.Stream kind.Listener e = absurd (omega (arith, byte_at 0 e))
group_kind_one kind.Listener kind.Stream e = absurd (omega (arith, byte_at 0 e))

operation_kind_one : (x y : OpKind) → operation_kind_word x ≡ operation_kind_word y → x ≡ y
operation_kind_one op.Accept op.Accept e = refl
operation_kind_one op.Connect op.Connect e = refl
operation_kind_one op.Read op.Read e = refl
operation_kind_one op.Write op.Write e = refl
operation_kind_one _ _ e = absurd (omega (arith, byte_at 0 e))

-- each outcome begins with another letter, but for two
outcome_one : IsOne IsOutcome outcome_words
outcome_one (outcome.Count x) (outcome.Count y) f g e =
    ap outcome.Count (decimal_injective x y (omega arith) (omega arith) (word_at 1 e))
outcome_one outcome.End outcome.End f g e = refl
outcome_one outcome.Connected outcome.Connected f g e = refl
outcome_one outcome.Accepted outcome.Accepted f g e = refl
outcome_one outcome.Fault outcome.Fault f g e = refl
outcome_one (outcome.Count x) outcome.Connected f g e = absurd (omega (arith, byte_at 2 (word_at 0 e)))
outcome_one outcome.Connected (outcome.Count y) f g e = absurd (omega (arith, byte_at 2 (word_at 0 e)))
outcome_one _ _ f g e = absurd (omega (arith, byte_at 0 (word_at 0 e)))

-- calls of one form

abbrev IsOneForm : {A : Type 0} → (A → GroupCall) → Type 0
IsOneForm form = IsOne (λ x. IsGroupCall (form x)) (λ x. group_argument_words (form x))

gopen_one : IsOneForm group.Gopen
gopen_one x y f g e = group_kind_one x y (word_at 0 e)

gbind_one : IsOneForm group.Gbind
gbind_one x y f g e = group_channel_one x y f g (word_at 0 e)

start_one : IsOneForm start_call
start_one x y f g e =
    all_three x y (group_channel_one x.0 y.0 f.0 g.0 (word_at 0 e)) (operation_kind_one x.1 y.1 (word_at 1 e))
    (decimal_injective x.2 y.2 (omega (arith, f.1)) (omega (arith, g.1)) (word_at 2 e))

report_one : IsOneForm report_call
report_one x y f g e =
    both x y (operation_one x.0 y.0 f.0 g.0 (word_at 0 e)) (outcome_one x.1 y.1 f.1 g.1 (ap (drop 1) e))

done_one : IsOneForm group.Done
done_one x y f g e = operation_one x y f g (word_at 0 e)

lone_one : (g : GroupCall) → IsOneForm (lone_call g)
lone_one g x y f k e = refl

formed_one : {A : Type 0} (form : A → GroupCall) → IsOneForm form → (g h : GroupCall) → HasForm form g → HasForm form h
    → IsGroupCall g → IsGroupCall h → group_argument_words g ≡ group_argument_words h → g ≡ h
formed_one form one g h x y f k e =
    let same = one x.0 y.0 (subst IsGroupCall x.1 f) (subst IsGroupCall y.1 k)
    (ap group_argument_words (sym x.1) ∙ (e ∙ ap group_argument_words y.1)) in
    x.1 ∙ (ap form same ∙ sym y.1)

pub group_call_one : (w : GroupWord) (g h : GroupCall) → IsOf w g → IsOf w h → IsGroupCall g → IsGroupCall h
    → group_argument_words g ≡ group_argument_words h → g ≡ h
group_call_one word.Gopen g h = formed_one group.Gopen gopen_one g h
group_call_one word.Gbind g h = formed_one group.Gbind gbind_one g h
group_call_one word.Start g h = formed_one start_call start_one g h
group_call_one word.Report g h = formed_one report_call report_one g h
group_call_one word.Take g h = formed_one (lone_call group.Take) (lone_one group.Take) g h
group_call_one word.Done g h = formed_one group.Done done_one g h
group_call_one word.Gclose g h = formed_one group.Gclose gbind_one g h
group_call_one word.Shutdown g h = formed_one (lone_call group.Shutdown) (lone_one group.Shutdown) g h
group_call_one word.ShutdownNow g h = formed_one (lone_call group.ShutdownNow) (lone_one group.ShutdownNow) g h
group_call_one word.IsShutdown g h = formed_one (lone_call group.IsShutdown) (lone_one group.IsShutdown) g h
group_call_one word.Terminated g h = formed_one (lone_call group.Terminated) (lone_one group.Terminated) g h
