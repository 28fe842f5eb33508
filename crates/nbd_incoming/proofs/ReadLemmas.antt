-- What is asked by a stream as it is told are the requests of it.
use Rattle.std.proofs.Common.{◌≡◌, ℕ, zero, suc, ◌+◌, ◌-◌, ◌<◌, ◌≤◌, Bool, true, false, List, [], ◌∷◌, ◌++◌, length, map, take, drop, refl, sym, ap, subst, ◌∙◌, arith, append_assoc, append-nil, length-append, length-drop, Option, None, Some}
use Rattle.std.specs.Prelude.{flat_map, ltb}
use Rattle.std.specs.Option.{option_to_list}
use Rattle.std.proofs.lemmas.Bool.{ne_eqb}
use Rattle.std.proofs.lemmas.List.{drop_at}
use Rattle.nbd_model.specs.Message.{bytes_behind, is_disconnect}
use Rattle.nbd_model.specs.Session.{ending_in}
use Rattle.nbd_model.specs.Stream as streams
use Rattle.nbd_model.specs.Stream.{Message, Requests, Stream, StreamEnd, is_whole, most_stream, requests_in, requests_of, stream_from, stream_of, with_asked, without_more}
use Rattle.nbd_model.proofs.FrontLemmas.{front_of-few}
use Rattle.nbd_wire.specs.declared.event.Event.{Event}
use Rattle.nbd_wire.specs.declared.event.Event.TheVariants.{More, Ask, Bytes}
use Rattle.nbd_wire.specs.declared.event.Event.TheVariants as events
use Rattle.nbd_wire.specs.Splitting.{Place, InHead, InBytes, AtWrong, Taken, take_from}
use Rattle.nbd_wire.specs.CuttingLaws.{Told, Telling, with_told, tell_piece, tell, tell_all, with_more, and_event, and_told, joined, groups_told}
use Rattle.nbd_wire.proofs.CuttingLemmas.{cuttings_tell}
use Rattle.nbd_wire.proofs.GroupLemmas.{group_law}
use Rattle.nbd_incoming.specs.Taking as taking
use Rattle.nbd_incoming.specs.Taking.{Outcome, Part, Whole, Disconnected, Wrong, Fits, Asking, EndingLaw, GroupsLaw, asks_by, asks_in, asks_none, end_of, ending_by, groups_in, outcome_of}
use Rattle.nbd_incoming.proofs.StepLemmas.{Adds, Goes, IsCut, Leaves, Steps, steps}

-- ---- the requests of messages

-- Each of them is asked.
abbrev pub AreAsked : List Message → Type 0
AreAsked [] = Unit {0}
AreAsked (m ∷ messages) = (is_disconnect m.request ≡ false) × (is_whole m ≡ true) × AreAsked messages

asked-more : (done : List Message) (m : Message) → AreAsked done → is_disconnect m.request ≡ false → is_whole m ≡ true → AreAsked (done ++ m ∷ [])
asked-more [] m are goes whole = (goes, whole, tt)
asked-more (x ∷ done) m are goes whole = (are.0, are.1, asked-more done m are.2 goes whole)

abbrev with_all : List Message → Requests → Requests
with_all done r = record r { asked = done ++ r.asked }

abbrev by_first : Bool → Option ℕ → Message → Requests → (ends whole : Bool) → Requests
by_first long wrong m rest ends whole = elim ends as (λ x. Requests) [
  | true ↦ record { asked = []; ending = streams.Disconnected }
  | false ↦ elim whole as (λ x. Requests) [ true ↦ with_asked m rest | false ↦ without_more long wrong ]
]

requests-front : (long : Bool) (wrong : Option ℕ) (done tail : List Message) → AreAsked done
    → requests_in long wrong (done ++ tail) ≡ with_all done (requests_in long wrong tail)
requests-front long wrong [] tail are = refl
requests-front long wrong (m ∷ done) tail are =
    ap (λ (b : Bool). by_first long wrong m (requests_in long wrong (done ++ tail)) b (is_whole m)) are.0
    ∙ ap (λ (b : Bool). by_first long wrong m (requests_in long wrong (done ++ tail)) false b) are.1
    ∙ ap (with_asked m) (requests-front long wrong done tail are.2)

-- ---- a stream as it was told so far

-- So far these were asked, and this is coming or has come.
abbrev pub IsRead : Stream → List Message → Place → Option StreamEnd → Option Message → Type 0
IsRead s done place None coming = (s.messages ≡ done ++ option_to_list coming) × (s.wrong ≡ None) × Fits place coming
IsRead s done place (Some streams.Disconnected) coming = IsCut done s
IsRead s done place (Some streams.Ended) coming = ⊥
IsRead s done place (Some (streams.WrongMagic magic)) coming = (s.messages ≡ done) × (s.wrong ≡ Some magic) × (place ≡ AtWrong magic)
IsRead s done place (Some streams.TooLong) coming = ⊥

ended_here : (long : Bool) → without_more long None ≡ record { asked = []; ending = end_of long None }
ended_here true = refl
ended_here false = refl

abbrev told_so : List Message → StreamEnd → Requests
told_so done end = record { asked = done; ending = end }

-- A write that is coming is not asked.
not_asked : (long : Bool) (place : Place) (coming : Option Message) → Fits place coming
    → requests_in long None (option_to_list coming) ≡ told_so [] (end_of long None)
not_asked long (InHead head) None fits = ended_here long
not_asked long (InHead head) (Some m) fits = absurd fits
not_asked long (InBytes left) None fits = absurd fits
not_asked long (AtWrong magic) coming fits = absurd fits
not_asked long (InBytes left) (Some m) fits =
    let some = fits.some in
    let sum = fits.left_ in
    ap (λ (b : Bool). by_first long None m (without_more long None) b (is_whole m)) fits.goes
    ∙ ap (λ (b : Bool). by_first long None m (without_more long None) false b) (ne_eqb (length m.bytes) (bytes_behind m.request) (λ same. absurd (omega (arith, same, some, sum))))
    ∙ ended_here long

-- The requests of it.
pub requests-read : (long : Bool) (s : Stream) (done : List Message) (place : Place) (ending : Option StreamEnd) (coming : Option Message)
    → IsRead s done place ending coming → AreAsked done → requests_in long s.wrong s.messages ≡ told_so done (end_of long ending)
requests-read long s done place None coming is are =
    ap (λ (l : List Message). requests_in long s.wrong l) is.0 ∙ ap (λ (w : Option ℕ). requests_in long w (done ++ option_to_list coming)) is.1
    ∙ requests-front long None done (option_to_list coming) are
    ∙ ap (with_all done) (not_asked long place coming is.2)
    ∙ ap (λ (l : List Message). told_so l (end_of long None)) (append-nil done)
requests-read long s done place (Some streams.Disconnected) coming is are =
    ap (λ (l : List Message). requests_in long s.wrong l) is.is
    ∙ requests-front long s.wrong done (is.last ∷ is.more) are
    ∙ ap (λ (b : Bool). with_all done (by_first long s.wrong is.last (requests_in long s.wrong is.more) b (is_whole is.last))) is.ends
    ∙ ap (λ (l : List Message). told_so l streams.Disconnected) (append-nil done)
requests-read long s done place (Some streams.Ended) coming is are = absurd is
requests-read long s done place (Some (streams.WrongMagic magic)) coming is are =
    ap (λ (l : List Message). requests_in long s.wrong l) (is.0 ∙ sym (append-nil done)) ∙ ap (λ (w : Option ℕ). requests_in long w (done ++ [])) is.1
    ∙ requests-front long (Some magic) done [] are
    ∙ ap (λ (l : List Message). told_so l (streams.WrongMagic magic)) (append-nil done)
requests-read long s done place (Some streams.TooLong) coming is are = absurd is

-- ---- what is told behind an end changes nothing

with_more-behind : (bytes : List ℕ) (done : List Message) (m : Message) (more : List Message)
    → with_more bytes (done ++ m ∷ more) ≡ done ++ with_more bytes (m ∷ more)
with_more-behind bytes [] m more = refl
with_more-behind bytes (x ∷ []) m more = refl
with_more-behind bytes (x ∷ y ∷ done) m more = ap (λ (l : List Message). x ∷ l) (with_more-behind bytes (y ∷ done) m more)

cut-event : (done : List Message) (s : Stream) (bytes : List ℕ) (event : Event) → IsCut done s → IsCut done (and_event s bytes event)
cut-event done s bytes More is = is
cut-event done s bytes (Ask r) is = record {
  last = is.last;
  more = is.more ++ record { request = r; bytes = [] } ∷ [];
  is = ap (λ (l : List Message). l ++ record { request = r; bytes = [] } ∷ []) is.is ∙ append_assoc done (is.last ∷ is.more) (record { request = r; bytes = [] } ∷ []);
  ends = is.ends;
}
cut-event done s bytes (Bytes n) is =
    by is.more (ap (with_more bytes) is.is ∙ with_more-behind bytes done is.last is.more)
  where
    by : (more : List Message) → with_more bytes s.messages ≡ done ++ with_more bytes (is.last ∷ more) → IsCut done (and_event s bytes (Bytes n))
    by [] same = record { last = record is.last { bytes = is.last.bytes ++ bytes }; more = []; is = same; ends = is.ends }
    by (x ∷ more) same = record { last = is.last; more = with_more bytes (x ∷ more); is = same; ends = is.ends }
cut-event done s bytes (events.Wrong magic) is = record { last = is.last; more = is.more; is = is.is; ends = is.ends }

cut-told : (done : List Message) (s : Stream) (told : List Told) → IsCut done s → IsCut done (and_told s told)
cut-told done s [] is = is
cut-told done s (t ∷ told) is = cut-told done (and_event s t.bytes t.event) told (cut-event done s t.bytes t.event is)

abbrev IsWrong : Stream → List Message → Place → ℕ → Type 0
IsWrong s done place magic = (s.messages ≡ done) × (s.wrong ≡ Some magic) × (place ≡ AtWrong magic)

wrong-told : (n : ℕ) (s : Stream) (done : List Message) (magic : ℕ) (piece : List ℕ) → s.messages ≡ done → s.wrong ≡ Some magic
    → IsWrong (and_told s (tell_piece n (AtWrong magic) piece).told) done (tell_piece n (AtWrong magic) piece).place magic
wrong-told zero s done magic piece messages wrong = (messages, wrong, refl)
wrong-told (suc n) s done magic piece messages wrong = (messages, refl, refl)

wrong-at : (n : ℕ) (s : Stream) (done : List Message) (magic : ℕ) (place : Place) (piece : List ℕ) → IsWrong s done place magic
    → IsWrong (and_told s (tell_piece n place piece).told) done (tell_piece n place piece).place magic
wrong-at n s done magic place piece is =
    subst (λ (p : Place). IsWrong (and_told s (tell_piece n p piece).told) done (tell_piece n p piece).place magic) (sym is.2)
    (wrong-told n s done magic piece is.0 is.1)

-- An end stays.
stays-ended : (n : ℕ) (s : Stream) (done : List Message) (place : Place) (end : StreamEnd) (coming : Option Message) (piece : List ℕ)
    → IsRead s done place (Some end) coming
    → IsRead (and_told s (tell_piece n place piece).told) done (tell_piece n place piece).place (Some end) coming
stays-ended n s done place streams.Disconnected coming piece is = cut-told done s (tell_piece n place piece).told is
stays-ended n s done place streams.Ended coming piece is = is
stays-ended n s done place (streams.WrongMagic magic) coming piece is = wrong-at n s done magic place piece is
stays-ended n s done place streams.TooLong coming piece is = is

-- ---- a piece

-- The turns behind the first one.
abbrev rest_of : ℕ → Taken → List ℕ → Event → Telling
rest_of n t rest event = elim event as (λ x. Telling) [
  | More ↦ record { told = []; place = t.place }
  | Ask r ↦ tell_piece n t.place rest
  | Bytes m ↦ tell_piece n t.place rest
  | events.Wrong magic ↦ record { told = []; place = t.place }
]

-- What is read once some more is told: so it is asked.
record Reads (s : Stream) (done : List Message) (r : Telling) (a : Asking) : Type 0 where
  pub is : IsRead (and_told s r.told) (done ++ a.asked) r.place a.ending a.coming
  pub are : AreAsked (done ++ a.asked)

reads-none : (s : Stream) (done : List Message) (place : Place) (coming : Option Message) → IsRead s done place None coming → AreAsked done
    → Reads s done (record { told = []; place = place }) (asks_none None coming)
reads-none s done place coming is are = record {
  is = subst (λ (l : List Message). IsRead s l place None coming) (sym (append-nil done)) is;
  are = subst AreAsked (sym (append-nil done)) are;
}

module _ (n : ℕ) (again : (s : Stream) (done : List Message) (place : Place) (coming : Option Message) (piece : List ℕ) → length piece < n
    → IsRead s done place None coming → AreAsked done → Reads s done (tell_piece n place piece) (asks_by coming (tell_piece n place piece).told)) where
  -- Behind the first turn,
  reads-rest : (s : Stream) (done : List Message) (t : Taken) (coming : Option Message) (piece : List ℕ) (event : Event) → length piece < suc n
      → Goes event t.count piece → IsRead s done t.place None coming → AreAsked done
      → Reads s done (rest_of n t (drop t.count piece) event) (asks_by coming (rest_of n t (drop t.count piece) event).told)
  reads-rest s done t coming piece More low goes is are = reads-none s done t.place coming is are
  reads-rest s done t coming piece (Ask r) low goes is are =
      again s done t.place coming (drop t.count piece) (omega (arith, length-drop t.count piece, goes.0, goes.1, low)) is are
  reads-rest s done t coming piece (Bytes m) low goes is are =
      again s done t.place coming (drop t.count piece) (omega (arith, length-drop t.count piece, goes.0, goes.1, low)) is are
  reads-rest s done t coming piece (events.Wrong magic) low goes is are = reads-none s done t.place coming is are

  cut-rest : (s : Stream) (done : List Message) (t : Taken) (rest : List ℕ) (event : Event) → IsCut done s → IsCut done (and_told s (rest_of n t rest event).told)
  cut-rest s done t rest event is = cut-told done s (rest_of n t rest event).told is

  wrong-rest : (s : Stream) (done : List Message) (t : Taken) (rest : List ℕ) (event : Event) (magic : ℕ) → IsWrong s done t.place magic
      → IsWrong (and_told s (rest_of n t rest event).told) done (rest_of n t rest event).place magic
  wrong-rest s done t rest More magic is = is
  wrong-rest s done t rest (Ask r) magic is = wrong-at n s done magic t.place rest is
  wrong-rest s done t rest (Bytes m) magic is = wrong-at n s done magic t.place rest is
  wrong-rest s done t rest (events.Wrong other) magic is = is

  -- by what comes of it.
  module _ (done : List Message) (t : Taken) (piece : List ℕ) (low : length piece < suc n) (goes : Goes t.event t.count piece) (are : AreAsked done) where
    abbrev rest : Telling
    rest = rest_of n t (drop t.count piece) t.event

    abbrev asks : Outcome → Asking
    asks outcome = elim outcome as (λ x. Asking) [
      | Part next ↦ asks_by next rest.told
      | Whole m ↦ taking.with_asked m (asks_by None rest.told)
      | Disconnected ↦ asks_none (Some streams.Disconnected) None
      | Wrong magic ↦ asks_none (Some (streams.WrongMagic magic)) None
    ]

    reads-by : (s : Stream) (outcome : Outcome) → Leaves outcome t.place → Adds done outcome s → Reads s done rest (asks outcome)
    reads-by s (Part next) leaves adds = reads-rest s done t next piece t.event low goes (adds.0, adds.1, leaves) are
    reads-by s (Whole m) leaves adds =
        let more = done ++ m ∷ [] in
        let later = reads-rest s more t None piece t.event low goes (adds.0 ∙ sym (append-nil more), adds.1, leaves.0) (asked-more done m are leaves.1 leaves.2) in
        let a = asks_by None rest.told in
        let all = append_assoc done (m ∷ []) a.asked in
        record {
          is = subst (λ (l : List Message). IsRead (and_told s rest.told) l rest.place a.ending a.coming) all later.is;
          are = subst AreAsked all later.are;
        }
    reads-by s Disconnected leaves adds = record {
      is = subst (λ (l : List Message). IsCut l (and_told s rest.told)) (sym (append-nil done)) (cut-rest s done t (drop t.count piece) t.event adds);
      are = subst AreAsked (sym (append-nil done)) are;
    }
    reads-by s (Wrong magic) leaves adds = record {
      is = subst (λ (l : List Message). IsWrong (and_told s rest.told) l rest.place magic) (sym (append-nil done))
          (wrong-rest s done t (drop t.count piece) t.event magic (adds.0, adds.1, leaves));
      are = subst AreAsked (sym (append-nil done)) are;
    }

reads-piece : (n : ℕ) (s : Stream) (done : List Message) (place : Place) (coming : Option Message) (piece : List ℕ) → length piece < n
    → IsRead s done place None coming → AreAsked done → Reads s done (tell_piece n place piece) (asks_by coming (tell_piece n place piece).told)
reads-piece zero s done place coming piece low is are = absurd (omega (arith, low))
reads-piece (suc n) s done place coming piece low is are =
    let t = take_from place piece in
    let step = steps place coming piece is.2 in
    let now = and_event s (take t.count piece) t.event in
    let r = reads-by n (λ s_ done_ place_ coming_ piece_ low_ is_ are_. reads-piece n s_ done_ place_ coming_ piece_ low_ is_ are_) done t piece low step.goes are
    now (outcome_of coming t.event (take t.count piece)) step.leaves (step.adds s done is.0 is.1) in
    record { is = r.is; are = r.are }

reads-tell : (s : Stream) (done : List Message) (place : Place) (coming : Option Message) (piece : List ℕ)
    → IsRead s done place None coming → AreAsked done → Reads s done (tell place piece) (asks_in place coming piece)
reads-tell s done place coming piece is are = reads-piece (suc (length piece)) s done place coming piece (omega arith) is are

-- ---- all pieces

and_told-append : (s : Stream) (a b : List Told) → and_told s (a ++ b) ≡ and_told (and_told s a) b
and_told-append s [] b = refl
and_told-append s (t ∷ a) b = and_told-append (and_event s t.bytes t.event) a b

begun : IsRead (stream_of []) [] (InHead []) None None
unfolding stream_from
begun = (refl, refl, record { room = omega arith; short = front_of-few [] (omega arith) })

abbrev none_in : List (List ℕ) → List (List Message)
none_in pieces = map (λ (piece : List ℕ). []) pieces

-- Behind an end no piece asks for more.
groups-ended : (pieces : List (List ℕ)) (told : List Told) (place : Place) (done : List Message) (end : StreamEnd) (coming : Option Message)
    → IsRead (joined told) done place (Some end) coming → AreAsked done → none_in pieces ≡ groups_told told place (length done) pieces
groups-ended [] told place done end coming is are = refl
groups-ended (piece ∷ pieces) told place done end coming is are =
    let next = tell place piece in
    let now = subst (λ (s : Stream). IsRead s done next.place (Some end) coming) (sym (and_told-append (stream_of []) told next.told))
    (stays-ended (suc (length piece)) (joined told) done place end coming piece is) in
    let all = ap (λ (r : Requests). r.asked) (requests-read false (joined (told ++ next.told)) done next.place (Some end) coming now are) in
    ap (λ (l : List (List Message)). [] ∷ l) (groups-ended pieces (told ++ next.told) next.place done end coming now are)
    ∙ ap (λ (l : List Message). l ∷ groups_told (told ++ next.told) next.place (length done) pieces) (sym (none_left done))
    ∙ ap (λ (l : List Message). drop (length done) l ∷ groups_told (told ++ next.told) next.place (length l) pieces) (sym all)
  where
    none_left : (l : List Message) → drop (length l) l ≡ []
    none_left l = ap (drop (length l)) (sym (append-nil l)) ∙ drop_at l [] (length l) refl

groups-read : (pieces : List (List ℕ)) (told : List Told) (place : Place) (done : List Message) (coming : Option Message)
    → IsRead (joined told) done place None coming → AreAsked done → groups_in place coming pieces ≡ groups_told told place (length done) pieces
groups-read [] told place done coming is are = refl
groups-read (piece ∷ pieces) told place done coming is are =
    let next = tell place piece in
    let a = asks_in place coming piece in
    let reads = reads-tell (joined told) done place coming piece is are in
    let joined_now = sym (and_told-append (stream_of []) told next.told) in
    let now = subst (λ (s : Stream). IsRead s (done ++ a.asked) next.place a.ending a.coming) joined_now reads.is in
    let all = ap (λ (r : Requests). r.asked) (requests-read false (joined (told ++ next.told)) (done ++ a.asked) next.place a.ending a.coming now reads.are) in
    ap (λ (l : List (List Message)). a.asked ∷ l)
    (by (λ now_ are_. groups-read pieces (told ++ next.told) next.place (done ++ a.asked) a.coming now_ are_) a.ending now reads.are)
    ∙ ap (λ (l : List Message). l ∷ groups_told (told ++ next.told) next.place (length (done ++ a.asked)) pieces) (sym (drop_at done a.asked (length done) refl))
    ∙ ap (λ (l : List Message). drop (length done) l ∷ groups_told (told ++ next.told) next.place (length l) pieces) (sym all)
  where
    by : let next = tell place piece in
        let a = asks_in place coming piece in
        (IsRead (joined (told ++ next.told)) (done ++ a.asked) next.place None a.coming → AreAsked (done ++ a.asked)
        → groups_in next.place a.coming pieces ≡ groups_told (told ++ next.told) next.place (length (done ++ a.asked)) pieces)
        → (ending : Option StreamEnd) → IsRead (joined (told ++ next.told)) (done ++ a.asked) next.place ending a.coming → AreAsked (done ++ a.asked)
        → elim ending as (λ x. List (List Message)) [ None ↦ groups_in next.place a.coming pieces | Some end ↦ none_in pieces ]
        ≡ groups_told (told ++ next.told) next.place (length (done ++ a.asked)) pieces
    by again None now are_ = again now are_
    by again (Some end) now are_ =
        groups-ended pieces (told ++ (tell place piece).told) (tell place piece).place (done ++ (asks_in place coming piece).asked) end (asks_in place coming piece).coming now are_

-- What ends them.
ends-ended : (pieces : List (List ℕ)) (s : Stream) (place : Place) (done : List Message) (end : StreamEnd) (coming : Option Message) (long : Bool)
    → IsRead s done place (Some end) coming → AreAsked done
    → let all = and_told s (tell_all place pieces).told in (requests_in long all.wrong all.messages).ending ≡ end
ends-ended [] s place done end coming long is are = ap (λ (r : Requests). r.ending) (requests-read long s done place (Some end) coming is are)
ends-ended (piece ∷ pieces) s place done end coming long is are =
    let next = tell place piece in
    ap (λ (x : Stream). (requests_in long x.wrong x.messages).ending) (and_told-append s next.told (tell_all next.place pieces).told)
    ∙ ends-ended pieces (and_told s next.told) next.place done end coming long (stays-ended (suc (length piece)) s done place end coming piece is) are

ends-read : (pieces : List (List ℕ)) (s : Stream) (place : Place) (done : List Message) (coming : Option Message) (long : Bool)
    → IsRead s done place None coming → AreAsked done
    → let all = and_told s (tell_all place pieces).told in (requests_in long all.wrong all.messages).ending ≡ end_of long (ending_by place coming pieces)
ends-read [] s place done coming long is are = ap (λ (r : Requests). r.ending) (requests-read long s done place None coming is are)
ends-read (piece ∷ pieces) s place done coming long is are =
    let next = tell place piece in
    let a = asks_in place coming piece in
    let reads = reads-tell s done place coming piece is are in
    ap (λ (x : Stream). (requests_in long x.wrong x.messages).ending) (and_told-append s next.told (tell_all next.place pieces).told)
    ∙ by (λ is_ are_. ends-read pieces (and_told s next.told) next.place (done ++ a.asked) a.coming long is_ are_) a.ending reads.is reads.are
  where
    by : let next = tell place piece in
        let a = asks_in place coming piece in
        let all = and_told (and_told s next.told) (tell_all next.place pieces).told in
        (IsRead (and_told s next.told) (done ++ a.asked) next.place None a.coming → AreAsked (done ++ a.asked)
        → (requests_in long all.wrong all.messages).ending ≡ end_of long (ending_by next.place a.coming pieces))
        → (ending : Option StreamEnd) → IsRead (and_told s next.told) (done ++ a.asked) next.place ending a.coming → AreAsked (done ++ a.asked)
        → (requests_in long all.wrong all.messages).ending
        ≡ end_of long (elim ending as (λ x. Option StreamEnd) [ None ↦ ending_by next.place a.coming pieces | Some end ↦ Some end ])
    by again None now are_ = again now are_
    by again (Some end) now are_ =
        ends-ended pieces (and_told s (tell place piece).told) (tell place piece).place (done ++ (asks_in place coming piece).asked) end (asks_in place coming piece).coming long now are_

-- ---- for callers

pub groups_law : GroupsLaw
groups_law pieces = groups-read pieces [] (InHead []) [] None begun tt ∙ group_law pieces

pub ending_law : EndingLaw
ending_law stream pieces cut =
    let long = ltb most_stream (length stream) in
    let told = joined (tell_all (InHead []) pieces).told in
    let same : told ≡ stream_of (take most_stream stream) = cuttings_tell pieces ∙ ap stream_of cut in
    sym (ap (λ (s : Stream). (requests_in long s.wrong s.messages).ending) same)
    ∙ ends-read pieces (stream_of []) (InHead []) [] None long begun tt
