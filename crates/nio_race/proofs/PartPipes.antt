-- Pipes are parted, one after the other, and their ends given to the racers.
use Rattle.std.proofs.Common.{◌≡◌, ℕ, zero, suc, ◌+◌, ◌<◌, ◌≤◌, ◌==◌, Bool, true, false, IsFalse, if◌then◌else◌, List}
use Rattle.std.proofs.Common.{[], ◌∷◌, ◌++◌, length, map, All, get_or, refl, sym, ap, ◌∙◌, subst, ⊎_elim, append_assoc}
use Rattle.std.proofs.Common.{arith}
use Rattle.std.specs.Prelude.{filter}
use Rattle.std.proofs.lemmas.Bool.{cases_lt}
use Rattle.std.proofs.lemmas.List.{append-nil, get_or_at, get_or_append_left, get_or_push, length-append, map_push}
use Rattle.std.proofs.lemmas.List.Elements.{All-nil, All-push, All-tail}
use Rattle.nio_base.specs.declared.numbers.CallerNo.{CallerNo}
use Rattle.nio_pipe.specs.Ends.{AreEnds, free}
use Rattle.nio_pipe.specs.Pipe.{room_of}
use Rattle.nio_plain.specs.ScriptState.{Pipe}
use Rattle.nio_sole.specs.Stands.{pipe_of, pipes_of}
use Rattle.nio_sole.specs.declared.desk.OwnedPipe.{OwnedPipe}
use Rattle.nio_race.proofs.HaveEach.{same_later, same_self}
use Rattle.nio_race.proofs.JoinEnds.{kept_push}
use Rattle.nio_race.specs.Ends.{AddsParted, AreEach, AreSameButEnds, HasNoEnds, HasRacers, HaveParted, HaveEnds}
use Rattle.nio_race.specs.Ends.{IsPartedAs, PartedPipe}
use Rattle.nio_race.specs.declared.ends.Owners.{Owners}
use Rattle.nio_race.specs.declared.racer.Racer.{Racer}

-- ---- a list more

pub each_push : {A B : Type 0} (R : A → B → Type 0) (xs : List A) (ys : List B) (x : A) (y : B) → AreEach R xs ys
    → R x y → AreEach R (xs ++ x ∷ []) (ys ++ y ∷ [])
each_push {A = A} R xs ys x y each is = record {
  count = length-append ys (y ∷ []) ∙ (ap (λ m. m + 1) each.count ∙ sym (length-append xs (x ∷ [])));
  each = λ k a b below a_is b_is. ⊎_elim
      (λ (earlier : k < length xs). each.each k a b earlier
      (sym (get_or_append_left xs (x ∷ []) a k earlier) ∙ a_is)
      (sym (get_or_append_left ys (y ∷ []) b k (subst (λ (m : ℕ). k < m) (sym each.count) earlier)) ∙ b_is))
      (λ (last : length xs ≤ k).
      let here : length xs ≡ k = omega (arith, below, last, length-append xs (x ∷ [])) in
      let x_is : x ≡ a = sym (get_or_push xs x a k here) ∙ a_is in
      let y_is : y ≡ b = sym (get_or_push ys y b k (each.count ∙ here)) ∙ b_is in
      subst (λ (p : A). R p b) x_is (subst (R x) y_is is))
      (cases_lt k (length xs));
}

-- ---- a pipe more

-- no room is known behind the seal; before it, all that there is
room_known : (sealed : Bool) (room free : ℕ) → (IsFalse sealed → free ≡ room) → (if sealed then 0 else room) ≤ free
room_known true room free is = omega arith
room_known false room free is = omega (arith, is refl)

pub parted_as : (pipe : OwnedPipe) (before after : List Racer) (owners : Owners)
    (adds : AddsParted pipe before after owners)
    → IsPartedAs (pipe_of pipe) (record { owners = owners; source = adds.source; sink = adds.sink })
parted_as pipe before after owners adds = record {
  reader = adds.reader;
  writer = adds.writer;
  source = adds.parts.source_channel;
  sink = adds.parts.sink_channel;
  none_received = adds.parts.none_received;
  waiting = adds.parts.all_sent;
  seal = adds.parts.seal_left;
  known = record {
    bytes = adds.parts.all_known;
    sealed = λ is. adds.parts.seal_known ∙ is;
    ended = λ is. absurd (cc is);
  };
  room = room_known pipe.pipe.sealed (room_of pipe.pipe) (free adds.sink) adds.parts.room;
}

have_more : (pipe : OwnedPipe) (before after : List Racer) (owners : Owners) (parted : List PartedPipe)
    (adds : AddsParted pipe before after owners) → HaveEnds before parted
    → HaveEnds after (parted ++ record { owners = owners; source = adds.source; sink = adds.sink } ∷ [])
have_more pipe before after owners parted adds has_ends =
    let x : PartedPipe = record { owners = owners; source = adds.source; sink = adds.sink } in
    let source = adds.source in
    let sink = adds.sink in
    record {
      sources = λ n. adds.sources n
          ∙ (ap (λ ys. ys ++ (if pipe.reader.0 == n.0 then source ∷ [] else [])) (has_ends.sources n)
          ∙ (ap (λ (m : CallerNo). map (λ (y : PartedPipe). y.source)
          (filter (λ (y : PartedPipe). y.owners.reader.0 == n.0) parted)
          ++ (if m.0 == n.0 then source ∷ [] else [])) (sym adds.reader)
          ∙ sym (kept_push (λ (y : PartedPipe). y.owners.reader.0 == n.0) (λ (y : PartedPipe). y.source) parted x)));
      sinks = λ n. adds.sinks n
          ∙ (ap (λ ys. ys ++ (if pipe.writer.0 == n.0 then sink ∷ [] else [])) (has_ends.sinks n)
          ∙ (ap (λ (m : CallerNo). map (λ (y : PartedPipe). y.sink)
          (filter (λ (y : PartedPipe). y.owners.writer.0 == n.0) parted)
          ++ (if m.0 == n.0 then sink ∷ [] else [])) (sym adds.writer)
          ∙ sym (kept_push (λ (y : PartedPipe). y.owners.writer.0 == n.0) (λ (y : PartedPipe). y.sink) parted x)));
      pairs = All-push (λ (y : PartedPipe). AreEnds y.source y.sink) parted x has_ends.pairs adds.parts.ends;
    }

have_parted_more : (pipe : OwnedPipe) (before after : List Racer) (all : List Owners) (owners : Owners)
    (done : List OwnedPipe) → HaveParted before all (pipes_of done) → AddsParted pipe before after owners
    → HaveParted after (all ++ owners ∷ []) (pipes_of (done ++ pipe ∷ []))
have_parted_more pipe before after all owners done have adds =
    let x : PartedPipe = record { owners = owners; source = adds.source; sink = adds.sink } in
    let parted = have.among.parted in
    record {
      among = record {
        parted = parted ++ x ∷ [];
        owners_are =
            ap (λ (os : List Owners). os ++ owners ∷ []) have.among.owners_are
            ∙ sym (map_push (λ (y : PartedPipe). y.owners) parted x);
        has_ends = have_more pipe before after owners parted adds have.among.has_ends;
      };
      each = subst (λ (ps : List Pipe). AreEach IsPartedAs ps (parted ++ x ∷ [])) (sym (map_push pipe_of done pipe))
          (each_push IsPartedAs (pipes_of done) parted (pipe_of pipe) x have.each
          (parted_as pipe before after owners adds));
    }

-- ---- one after the other

none_had : {Y : Type 0} (f : Racer → List Y) (racers : List Racer) (n : ℕ)
    → All (λ r. f r ≡ []) racers → get_or (map f racers) n [] ≡ []
none_had f [] n none = refl
none_had f (r ∷ racers) zero none = none 0 r (omega arith)
none_had f (r ∷ racers) (suc n) none =
    none_had f racers n (All-tail (λ (x : Racer). f x ≡ []) r racers none)

pub record IsParting (first racers : List Racer) (owners : List Owners) (pipes rest : List OwnedPipe) : Type 0 where
  pub same : AreSameButEnds first racers
  pub done : List OwnedPipe
  pub parts : pipes ≡ done ++ rest
  pub parted : HaveParted racers owners (pipes_of done)

pub begins : (racers : List Racer) (owners : List Owners) (pipes rest : List OwnedPipe) → All HasNoEnds racers
    → owners ≡ [] → rest ≡ pipes → IsParting racers racers owners pipes rest
begins racers owners pipes rest endless none is = record {
  same = same_self racers;
  done = [];
  parts = sym is;
  parted = record {
    among = record {
      parted = [];
      owners_are = none;
      has_ends = record {
        sources = λ n. none_had (λ (r : Racer). r.ends.sources.items) racers n.0
            (λ k d below. (endless k d below).sources);
        sinks = λ n. none_had (λ (r : Racer). r.ends.sinks.items) racers n.0 (λ k d below. (endless k d below).sinks);
        pairs = All-nil (λ (x : PartedPipe). AreEnds x.source x.sink);
      };
    };
    each = record { count = refl; each = λ k x y below. absurd (omega (arith, below)) };
  };
}

pub next_has_racers : (first racers : List Racer) (owners : List Owners) (pipes rest later : List OwnedPipe)
    (pipe : OwnedPipe) → IsParting first racers owners pipes rest → rest ≡ pipe ∷ later
    → All (HasRacers first) pipes → HasRacers racers pipe
next_has_racers first racers owners pipes rest later pipe at is all =
    let parts : pipes ≡ at.done ++ pipe ∷ later = at.parts ∙ ap (λ (ps : List OwnedPipe). at.done ++ ps) is in
    let within : length at.done < length (at.done ++ pipe ∷ later) =
    omega (arith, length-append at.done (pipe ∷ later)) in
    let here : HasRacers first (get_or (at.done ++ pipe ∷ later) (length at.done) pipe) =
    subst (λ (ps : List OwnedPipe). All (HasRacers first) ps) parts all (length at.done) pipe within in
    let it : HasRacers first pipe =
    subst (HasRacers first) (get_or_at at.done pipe later pipe (length at.done) refl) here in
    record {
      reader = subst (λ (m : ℕ). pipe.reader.0 < m) (sym at.same.count) it.reader;
      writer = subst (λ (m : ℕ). pipe.writer.0 < m) (sym at.same.count) it.writer;
    }

pub one_parted : (first racers racers' : List Racer) (all all' : List Owners) (pipes rest later : List OwnedPipe)
    (pipe : OwnedPipe) (owners : Owners) → IsParting first racers all pipes rest → rest ≡ pipe ∷ later
    → AddsParted pipe racers racers' owners → AreSameButEnds racers racers' → all' ≡ all ++ owners ∷ []
    → IsParting first racers' all' pipes later
one_parted first racers racers' all all' pipes rest later pipe owners at is adds same more = record {
  same = same_later first racers racers' at.same same;
  done = at.done ++ pipe ∷ [];
  parts = at.parts ∙ (ap (λ (ps : List OwnedPipe). at.done ++ ps) is ∙ sym (append_assoc at.done (pipe ∷ []) later));
  parted = subst (λ (os : List Owners). HaveParted racers' os (pipes_of (at.done ++ pipe ∷ []))) (sym more)
      (have_parted_more pipe racers racers' all owners at.done at.parted adds);
}

pub all_parted : (first racers : List Racer) (owners : List Owners) (pipes rest : List OwnedPipe)
    → IsParting first racers owners pipes rest → rest ≡ [] → HaveParted racers owners (pipes_of pipes)
all_parted first racers owners pipes rest at none =
    subst (λ (ps : List OwnedPipe). HaveParted racers owners (pipes_of ps))
    (sym (at.parts ∙ (ap (λ (ps : List OwnedPipe). at.done ++ ps) none ∙ append-nil at.done))) at.parted
