-- What lines say of channels and of pipes: which say nothing, and what those of an owner say.
use Rattle.std.proofs.Common.{◌≡◌, ℕ, ◌==◌, Bool, true, false, cond, ◌&&◌, List, [], take, refl, ap, sym, ◌∙◌}
use Rattle.std.proofs.Common.{eq-eqb, eqb-true}
use Rattle.std.proofs.lemmas.Bool.{and_from, and_left, and_parts, and_right, both_ways, cond-false, cond-true}
use Rattle.std.proofs.lemmas.Bool.{false_from_ne_true}
use Rattle.nio_base.specs.declared.numbers.CallerNo.{CallerNo}
use Rattle.nio_base.specs.declared.numbers.ChanId.{ChanId}
use Rattle.nio_language.specs.WordRows.{PipeUse, neither, reads}
use Rattle.nio_language.specs.declared.call.Call.{Call}
use Rattle.nio_language.specs.declared.call.Call.TheVariants as call
use Rattle.nio_language.specs.declared.call.ScriptCall.{ScriptCall}
use Rattle.nio_language.specs.declared.reply.Reply.{Reply}
use Rattle.nio_language.specs.declared.reply.Reply.TheVariants as reply
use Rattle.nio_plain.proofs.CallChanges.{may_keep}
use Rattle.nio_plain.specs.ScriptState.{Pipe}
use Rattle.nio_plain.specs.Seq.Pipes.{is_same_id, owns_sink, owns_source}
use Rattle.nio_race.proofs.SetupKept.{IsBeside, IsSilent}
use Rattle.nio_race.proofs.SetupLines.{ReadsEnd, end_of, none-where, of-none, read_of, written_of}
use Rattle.nio_race.specs.PipeBytes.{bytes_of, seals_by, number_of, read_by, says_closed, written_by}
use Rattle.nio_race.specs.Piping.{use_of}
use Rattle.nio_sole.proofs.ChannelNames.{channel_is, same_channel}

abbrev pub line : CallerNo → Call → Reply → ScriptCall × Reply
line me word r = (record { caller = me; call = word }, r)

pub of-same : {A : Type 0} (b : Bool) (x : A) → cond b x x ≡ x
of-same true x = refl
of-same false x = refl

-- ---- lines that are on no pipe

pub neither-silent : (x : ScriptCall × Reply) → use_of x.0.call ≡ neither → (c : ChanId) → IsSilent c x
neither-silent x e c = record {
  read = ap (λ (u : PipeUse). read_by c u x.1) e;
  written = ap (λ (u : PipeUse). written_by c u x.1) e;
  end = ap (λ (u : PipeUse). seals_by c u x.1) e;
  untold = λ (ends : ReadsEnd c x).
      let is_read : use_of x.0.call ≡ reads c ends.limit = ap use_of ends.call in
      absurd (cc (e, is_read));
}

-- ---- reads

-- a read that gave no byte and told no end
pub read-silent : (me : CallerNo) (c : ChanId) (n : ℕ) (r : Reply) → bytes_of r ≡ [] → (r ≡ reply.End → ⊥)
    → (k : ChanId) → IsSilent k (line me (call.Pread c n) r)
read-silent me c n r none no_end k = record {
  read = of-none (is_same_id c k) (bytes_of r) [] none;
  written = refl;
  end = refl;
  untold = λ (ends : ReadsEnd k (line me (call.Pread c n) r)). no_end ends.reply;
}

-- a read says nothing of another channel
pub read-elsewhere : (me : CallerNo) (c : ChanId) (n : ℕ) (r : Reply) (k : ChanId) → is_same_id c k ≡ false
    → IsSilent k (line me (call.Pread c n) r)
read-elsewhere me c n r k other = record {
  read = cond-false (is_same_id c k) (bytes_of r) [] other;
  written = refl;
  end = refl;
  untold = λ (ends : ReadsEnd k (line me (call.Pread c n) r)).
      let it = ends.call in
      let same : c ≡ k = cc it in
      both_ways (is_same_id c k) other (same_channel c k same);
}

-- whose end is whose
own-end : (a b : ChanId) (x y : ℕ) → (is_same_id a b && (x == y)) ≡ true
    → ((y == x) ≡ true) × (is_same_id b a ≡ true)
own-end a b x y own =
    let both = and_parts (is_same_id a b) (x == y) own in
    (eq-eqb y x (sym (eqb-true x y both.1)), same_channel b a (sym (channel_is a b both.0)))

other-end : (a b : ChanId) (x y : ℕ) → (is_same_id a b && (x == y)) ≡ false → (y == x) ≡ true
    → is_same_id b a ≡ false
other-end a b x y other by =
    false_from_ne_true (is_same_id b a)
    (λ at. both_ways (is_same_id a b && (x == y)) other
    (and_from (is_same_id a b) (x == y) (same_channel a b (sym (channel_is b a at)))
    (eq-eqb x y (sym (eqb-true y x by)))))

pub source-is : (me : CallerNo) (c : ChanId) (p : Pipe) → owns_source me c p ≡ true → p.source ≡ c
source-is me c p own = channel_is p.source c (and_parts (is_same_id p.source c) (p.reader.0 == me.0) own).0

-- nor of a pipe whose source isn't the caller's own with this channel
pub read-beside : (me : CallerNo) (c : ChanId) (n : ℕ) (r : Reply) (p : Pipe) → owns_source me c p ≡ false
    → IsBeside p (line me (call.Pread c n) r)
read-beside me c n r p other =
    let x = line me (call.Pread c n) r in
    let silent : (me.0 == p.reader.0) ≡ true → IsSilent p.source x =
    λ by. read-elsewhere me c n r p.source (other-end p.source c p.reader.0 me.0 other by) in
    record {
      read = none-where (me.0 == p.reader.0) (read_by p.source (use_of x.0.call) r) [] (λ by. (silent by).read);
      written = of-same {A = List ℕ} (me.0 == p.writer.0) [];
      end = of-same {A = Bool} (me.0 == p.writer.0) false;
      untold = λ ends. (silent ends.by).untold ends.reads;
    }

-- of the caller's own source it says what was read
pub read-own : (me : CallerNo) (c : ChanId) (n : ℕ) (r : Reply) (p : Pipe) → owns_source me c p ≡ true
    → read_of p.reader p.source (line me (call.Pread c n) r) ≡ bytes_of r
read-own me c n r p own =
    let is = own-end p.source c p.reader.0 me.0 own in
    cond-true (me.0 == p.reader.0) (cond (is_same_id c p.source) (bytes_of r) []) [] is.0
    ∙ cond-true (is_same_id c p.source) (bytes_of r) [] is.1

-- ---- writes and closings

pub sink-is : (me : CallerNo) (c : ChanId) (p : Pipe) → owns_sink me c p ≡ true → p.sink ≡ c
sink-is me c p own = channel_is p.sink c (and_parts (is_same_id p.sink c) (p.writer.0 == me.0) own).0

-- the line is on the sink c: it writes these bytes, and may leave the seal
pub record IsOnSink (c : ChanId) (bytes : List ℕ) (seals : Bool) (x : ScriptCall × Reply) : Type 0 where
  pub read : (k : ChanId) → read_by k (use_of x.0.call) x.1 ≡ []
  pub written : (k : ChanId) → written_by k (use_of x.0.call) x.1 ≡ cond (is_same_id c k) bytes []
  pub end : (k : ChanId) → seals_by k (use_of x.0.call) x.1 ≡ (is_same_id c k && seals)
  pub untold : (k : ChanId) → ReadsEnd k x → ⊥

pub write-on : (me : CallerNo) (c : ChanId) (bytes : List ℕ) (r : Reply)
    → IsOnSink c (take (number_of r) bytes) (says_closed r) (line me (call.Pwrite c bytes) r)
write-on me c bytes r = record {
  read = λ k. refl;
  written = λ k. refl;
  end = λ k. refl;
  untold = λ k (ends : ReadsEnd k (line me (call.Pwrite c bytes) r)). let it = ends.call in absurd (cc it);
}

pub close-on : (me : CallerNo) (c : ChanId) (r : Reply) → IsOnSink c [] (says_closed r) (line me (call.Closec c) r)
close-on me c r = record {
  read = λ k. refl;
  written = λ k. sym (of-same {A = List ℕ} (is_same_id c k) []);
  end = λ k. refl;
  untold = λ k (ends : ReadsEnd k (line me (call.Closec c) r)). let it = ends.call in absurd (cc it);
}

module _ {c : ChanId} {bytes : List ℕ} {seals : Bool} where
  sink-silent : {x : ScriptCall × Reply} → IsOnSink c bytes seals x → bytes ≡ [] → seals ≡ false
      → (k : ChanId) → IsSilent k x
  sink-silent on none unsealed k = record {
    read = on.read k;
    written = on.written k ∙ of-none (is_same_id c k) bytes [] none;
    end = on.end k ∙ and_right (is_same_id c k) seals unsealed;
    untold = on.untold k;
  }

  -- it says nothing of another channel
  pub sink-elsewhere : {x : ScriptCall × Reply} → IsOnSink c bytes seals x → (k : ChanId) → is_same_id c k ≡ false
      → IsSilent k x
  sink-elsewhere on k other = record {
    read = on.read k;
    written = on.written k ∙ cond-false (is_same_id c k) bytes [] other;
    end = on.end k ∙ and_left (is_same_id c k) seals other;
    untold = on.untold k;
  }

  module _ {me : CallerNo} {word : Call} {r : Reply} where
    -- nor of a pipe whose sink isn't the caller's own with this channel
    pub sink-beside : IsOnSink c bytes seals (line me word r) → (p : Pipe) → owns_sink me c p ≡ false
        → IsBeside p (line me word r)
    sink-beside on p other =
        let silent : (me.0 == p.writer.0) ≡ true → IsSilent p.sink (line me word r) =
        λ by. sink-elsewhere on p.sink (other-end p.sink c p.writer.0 me.0 other by) in
        record {
          read = of-none (me.0 == p.reader.0) (read_by p.source (use_of word) r) [] (on.read p.source);
          written = none-where (me.0 == p.writer.0) (written_by p.sink (use_of word) r) [] (λ by. (silent by).written);
          end = none-where (me.0 == p.writer.0) (seals_by p.sink (use_of word) r) false (λ by. (silent by).end);
          untold = λ ends. on.untold p.source ends.reads;
        }

    -- of the caller's own sink it says what was written, and whether it leaves the seal
    pub sink-written : IsOnSink c bytes seals (line me word r) → (p : Pipe) → owns_sink me c p ≡ true
        → written_of p.writer p.sink (line me word r) ≡ bytes
    sink-written on p own =
        let is = own-end p.sink c p.writer.0 me.0 own in
        cond-true (me.0 == p.writer.0) (written_by p.sink (use_of word) r) [] is.0
        ∙ (on.written p.sink ∙ cond-true (is_same_id c p.sink) bytes [] is.1)

    pub sink-seals : IsOnSink c bytes seals (line me word r) → (p : Pipe) → owns_sink me c p ≡ true
        → end_of p.writer p.sink (line me word r) ≡ seals
    sink-seals on p own =
        let is = own-end p.sink c p.writer.0 me.0 own in
        cond-true (me.0 == p.writer.0) (seals_by p.sink (use_of word) r) false is.0
        ∙ (on.end p.sink ∙ ap (λ (b : Bool). b && seals) is.1)

-- ---- calls that change nothing

no-bytes : (word : Call) (r : Reply) → may_keep word r ≡ true → bytes_of r ≡ []
no-bytes word (reply.Bytes bytes) keeps = absurd cc
no-bytes word _ keeps = refl

no-number : (c : ChanId) (bytes : List ℕ) (r : Reply) → may_keep (call.Pwrite c bytes) r ≡ true → number_of r ≡ 0
no-number c bytes (reply.Number n) keeps = eqb-true n 0 keeps
no-number c bytes _ keeps = refl

-- a call that may leave a seal doesn't say that its channel is closed
keeps-open : (word : Call) (r : Reply) → may_keep word reply.Already ≡ false → may_keep word r ≡ true
    → says_closed r ≡ false
keeps-open word reply.«Ok» seals keeps = absurd cc
keeps-open word reply.Already seals keeps = absurd (both_ways (may_keep word reply.Already) seals keeps)
keeps-open word reply.ClosedChannel seals keeps = absurd (both_ways (may_keep word reply.Already) seals keeps)
keeps-open word reply.ClosedByInterrupt seals keeps = absurd cc
keeps-open word reply.AsyncClose seals keeps = absurd cc
keeps-open word _ seals keeps = refl

pub nothing-silent : (me : CallerNo) (word : Call) (r : Reply) → may_keep word r ≡ true
    → (k : ChanId) → IsSilent k (line me word r)
nothing-silent me (call.Pread c n) r keeps =
    read-silent me c n r (no-bytes (call.Pread c n) r keeps)
    (λ end. both_ways (may_keep (call.Pread c n) r) (ap (may_keep (call.Pread c n)) end) keeps)
nothing-silent me (call.Pwrite c bytes) r keeps =
    sink-silent (write-on me c bytes r) (ap (λ (n : ℕ). take n bytes) (no-number c bytes r keeps))
    (keeps-open (call.Pwrite c bytes) r refl keeps)
nothing-silent me (call.Closec c) r keeps =
    sink-silent (close-on me c r) refl (keeps-open (call.Closec c) r refl keeps)
nothing-silent me _ r keeps = neither-silent (line me _ r) refl
