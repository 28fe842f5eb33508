-- On the way through a piece: what is done so far, and what is left of it.
use Rattle.std.proofs.Common.{◌≡◌, ℕ, suc, ◌+◌, ◌-◌, ◌<◌, ◌≤◌, List, [], ◌∷◌, ◌++◌, length, drop, take, refl, sym, ◌∙◌, ap, subst, arith, append-nil, append_assoc, length-drop, Option, None, Some}
use Rattle.std.proofs.lemmas.List.{drop-drop, drop_all}
use Rattle.device_model.specs.Mode.{DeviceFormat}
use Rattle.device_model.specs.Progress.{DeviceState, after_events}
use Rattle.device_parts.specs.declared.condition.Condition.TheVariants.{Working}
use Rattle.device_parts.specs.Device.{Standing}
use Rattle.device.specs.Device.{IsDevice}
use Rattle.nbd_model.specs.Stream.{Message}
use Rattle.nbd_model.specs.Judged.{submission_of}
use Rattle.nbd_model.specs.Session.{Deed, Flying, Moment, Part, ask_one, most_waiting, no_deeds, submit_to, take_piece, until, with_deeds}
use Rattle.nbd_model.specs.Deeds.{events_in}
use Rattle.nbd_wire.specs.Splitting.{Place, take_from}
use Rattle.nbd_wire.specs.CuttingLaws.{Telling, tell, tell_piece}
use Rattle.nbd_flight.specs.declared.stop.Stop.{Stop}
use Rattle.nbd_flight.specs.declared.stop.Stop.TheVariants as Faults
use Rattle.nbd_flight.specs.declared.flight.Flight.{Flight}
use Rattle.nbd_flight.specs.declared.whole.Whole as flights
use Rattle.nbd_flight.specs.Asking.{IsWhole, handing}
use Rattle.nbd_flight.specs.Deeds.{HasStopped, Scene, behind}
use Rattle.nbd_flight.specs.Flight.{AreThose}
use Rattle.nbd_flight.specs.Rounds.{HasMade, HasMadeRounds, HasStoppedRounds, moment_of}
use Rattle.nbd_flight.proofs.DeedLemmas.{behind-append, done_none, done_then, stopped_before, stopped_then, stopped_wider}
use Rattle.nbd_flight.proofs.ServiceLemmas.{damage_then, or_false}
use Rattle.nbd_flight.proofs.UntilLemmas.{made_until, stopped_until}
use Rattle.nbd_incoming.specs.declared.incoming.Coming.{Coming}
use Rattle.nbd_incoming.specs.declared.incoming.Incoming.{Incoming}
use Rattle.nbd_incoming.specs.declared.taken.Taken.{Taken}
use Rattle.nbd_incoming.specs.declared.taken.Taken.TheVariants as takens
use Rattle.nbd_incoming.specs.Incoming.{HasTaken, IsOutcome, Keeps, KeepsComing}
use Rattle.nbd_incoming.specs.Taking as taking
use Rattle.nbd_incoming.specs.Taking.{Asking, Outcome, asks_by, asks_in, asks_none, outcome_of}
use Rattle.nbd_session.specs.declared.piece_end.PieceEnd.{PieceEnd}
use Rattle.nbd_session.specs.declared.piece_end.PieceEnd.TheVariants as ends
use Rattle.nbd_session.specs.Piece.{EndsSo, HasAsked, HasTakenPiece, end_told}
use Rattle.nbd_session.specs.UnderWay.{IsUnderWay}
use Rattle.nbd_session.proofs.AskingLemmas.{AsksSo, IsRequest, is_disconnect, is_part, is_request, is_wrong, quiet, turn_disconnects, turn_part, turn_whole, turn_wrong, with_front}
use Rattle.nbd_session.proofs.SettledLemmas.{ask-at_once, piece-next, piece-settles}
use Rattle.nbd_session.proofs.UnderWayLemmas.{ask-state, stands_so, until-few, until-state, way-rounds, way-takes}

-- ---- a part that is done, in a session under way

-- The device stands behind it.
pub record IsAlong (w : Standing) (p : Part) (x y : Flight) (old now : Scene) : Type 0 where
  pub made : HasMade w p x y old now
  pub state : p.behind.state ≡ (behind w p.deeds).state
  pub way : IsUnderWay w.format p.behind

module _ (w : Standing) (p : Part) (x y : Flight) (old mid : Scene) (along : IsAlong w p x y old mid) where
  abbrev pub here : Standing
  here = behind w p.deeds

  pub here-is : moment_of here p.behind.flying p.behind.taken ≡ p.behind
  here-is = ap (λ (s : DeviceState). record p.behind { state = s }) (sym along.state)

  here-way : IsUnderWay w.format (moment_of here p.behind.flying p.behind.taken)
  here-way = subst (IsUnderWay w.format) (sym here-is) along.way

  -- One part more is done,
  pub along_then : (z : Flight) (new : Scene) (q : Part) → q.behind.state ≡ after_events w.format p.behind.state (events_in q.deeds) → IsUnderWay w.format q.behind
      → HasMade here q y z mid new → IsAlong w (with_deeds p.deeds q) x z old new
  along_then z new q state way made = record {
    made = record {
      done = done_then w p.deeds q.deeds old mid new along.made.done made.done;
      flying = made.flying;
      damage = damage_then p.deeds q.deeds x y z along.made.damage made.damage;
    };
    state = state ∙ ap (λ (s : DeviceState). after_events w.format s (events_in q.deeds)) along.state
        ∙ sym (ap (λ (u : Standing). u.state) (behind-append w p.deeds q.deeds));
    way = way;
  }

  -- as rounds are,
  pub along_rounds : (most : ℕ) (z : Flight) (new : Scene) → HasMadeRounds here most (moment_of here p.behind.flying p.behind.taken) y z mid new
      → IsAlong w (with_deeds p.deeds (until w.format most p.behind)) x z old new
  along_rounds most z new rounds =
      let f = w.format in
      let so = stands_so f (moment_of here p.behind.flying p.behind.taken) here-way in
      let made = made_until here so.base (so.taken_messages ++ []) so.some most (moment_of here p.behind.flying p.behind.taken) (so.stands []) so.bound y z mid new rounds in
      along_then z new (until f most p.behind) (until-state f p.behind along.way most) (way-rounds f p.behind most along.way)
      (subst (λ (m : Moment). HasMade here (until f most m) y z mid new) here-is made)

  pub stopped_rounds : (most : ℕ) (fault : Stop) (new : Scene) → HasStoppedRounds here most (moment_of here p.behind.flying p.behind.taken) fault mid new
      → HasStopped w (p.deeds ++ (until w.format most p.behind).deeds) fault old new
  stopped_rounds most fault new stopped =
      let f = w.format in
      let m = moment_of here p.behind.flying p.behind.taken in
      let so = stands_so f m here-way in
      stopped_then w p.deeds (until f most p.behind).deeds fault old mid new along.made.done
      (subst (λ (n : Moment). HasStopped here (until f most n).deeds fault mid new) here-is
      (stopped_until here so.base (so.taken_messages ++ []) so.some most m (so.stands []) so.bound fault mid new stopped))

  -- and so is a request that is handed in where there is room for one more.
  module _ (message : Message) (few : length p.behind.flying ≤ most_waiting) where
    one_is : ask_one w.format p.behind message ≡ submit_to w.format p.behind message.request.cookie (submission_of w.format.blocks message)
    one_is = ask-at_once w.format p.behind message few

    pub along_asks : (z : Flight) (new : Scene) → HasMade here (handing message here (moment_of here p.behind.flying p.behind.taken)) y z mid new
        → IsAlong w (with_deeds p.deeds (ask_one w.format p.behind message)) x z old new
    along_asks z new made =
        along_then z new (ask_one w.format p.behind message) (ask-state w.format p.behind along.way message) (way-takes w.format p.behind message along.way)
        (subst (λ (q : Part). HasMade here q y z mid new) (sym one_is)
        (subst (λ (m : Moment). HasMade here (submit_to w.format m message.request.cookie (submission_of w.format.blocks message)) y z mid new) here-is made))

    pub stopped_asks : (fault : Stop) (new : Scene) → HasStopped here (handing message here (moment_of here p.behind.flying p.behind.taken)).deeds fault mid new
        → HasStopped w (p.deeds ++ (ask_one w.format p.behind message).deeds) fault old new
    stopped_asks fault new stopped =
        stopped_then w p.deeds (ask_one w.format p.behind message).deeds fault old mid new along.made.done
        (subst (λ (q : Part). HasStopped here q.deeds fault mid new) (sym one_is)
        (subst (λ (m : Moment). HasStopped here (submit_to w.format m message.request.cookie (submission_of w.format.blocks message)).deeds fault mid new) here-is stopped))

-- ---- on the way through a piece

-- Some of the requests of the piece are taken; the others stand in the bytes from `at` on.
pub record IsOnPiece (w : Standing) (m : Moment) (all : Asking) (last : Place) (piece : List ℕ) (at : ℕ) (incoming : Incoming) (x y : Flight) (old now : Scene)
    : Type 0 where
  pub part : Part
  pub along : IsAlong w part x y old now
  pub front : List Message
  pub whole : (rest : List Message) → take_piece w.format m (front ++ rest) ≡ with_deeds part.deeds (take_piece w.format part.behind rest)
  pub turns : ℕ
  pub enough : length (drop at piece) < turns
  pub coming : Option Message
  pub keeps : Keeps incoming coming
  pub asks : all ≡ with_front front (asks_by coming (tell_piece turns incoming.splitter (drop at piece)).told)
  pub ends : last ≡ (tell_piece turns incoming.splitter (drop at piece)).place

pub piece_begins : (w : Standing) (m : Moment) (piece : List ℕ) (incoming : Incoming) (x : Flight) (old : Scene) → IsDevice w Working old.parts old.moments
    → AreThose x.waiting.items m.flying → m.state ≡ w.state → IsUnderWay w.format m → (coming : Option Message) → Keeps incoming coming
    → IsOnPiece w m (asks_in incoming.splitter coming piece) (tell incoming.splitter piece).place piece 0 incoming x x old old
piece_begins w m piece incoming x old is are state way coming keeps = record {
  part = no_deeds m;
  along = record {
    made = record { done = done_none w old is; flying = are; damage = sym (or_false x.eio) };
    state = state;
    way = way;
  };
  front = [];
  whole = λ rest. refl;
  turns = suc (length piece);
  enough = omega arith;
  coming = coming;
  keeps = keeps;
  asks = refl;
  ends = refl;
}

module _ (w : Standing) (m : Moment) (all : Asking) (last : Place) (piece : List ℕ) (at : ℕ) (incoming : Incoming) (x y : Flight) (old mid : Scene)
    (way : IsOnPiece w m all last piece at incoming x y old mid) where
  abbrev f : DeviceFormat
  f = w.format

  abbrev settled : Part
  settled = with_deeds way.part.deeds (until f most_waiting way.part.behind)

  -- Rounds are made until there is room for one more,
  pub piece_rounds : (z : Flight) (new : Scene) → HasMadeRounds (behind w way.part.deeds) most_waiting (moment_of (behind w way.part.deeds) way.part.behind.flying way.part.behind.taken) y z mid new
      → IsOnPiece w m all last piece at incoming x z old new
  piece_rounds z new rounds = record {
    part = settled;
    along = along_rounds w way.part x y old mid way.along most_waiting z new rounds;
    front = way.front;
    whole = λ rest.
        let next = until f most_waiting way.part.behind in
        way.whole rest ∙ ap (with_deeds way.part.deeds) (piece-settles f way.part.behind way.along.way rest)
        ∙ ap (λ (l : List Deed). record (take_piece f next.behind rest) { deeds = l }) (sym (append_assoc way.part.deeds next.deeds (take_piece f next.behind rest).deeds));
    turns = way.turns;
    enough = way.enough;
    coming = way.coming;
    keeps = way.keeps;
    asks = way.asks;
    ends = way.ends;
  }

  -- and then there is.
  pub piece_few : (z : Flight) (new : Scene) (rounds : HasMadeRounds (behind w way.part.deeds) most_waiting (moment_of (behind w way.part.deeds) way.part.behind.flying way.part.behind.taken) y z mid new)
      → length (piece_rounds z new rounds).part.behind.flying ≤ most_waiting
  unfolding piece_rounds
  piece_few z new rounds = until-few f way.part.behind way.along.way most_waiting

  -- All that is asked in the piece, from here on.
  whole_here : take_piece f m all.asked
      ≡ with_deeds way.part.deeds (take_piece f way.part.behind (asks_by way.coming (tell_piece way.turns incoming.splitter (drop at piece)).told).asked)
  whole_here = ap (λ (a : Asking). take_piece f m a.asked) way.asks ∙ way.whole (asks_by way.coming (tell_piece way.turns incoming.splitter (drop at piece)).told).asked

  -- Something stopped what comes first of the rest,
  pub piece_stopped : (first rest : List Deed) (fault : Stop) (new : Scene)
      → (take_piece f way.part.behind (asks_by way.coming (tell_piece way.turns incoming.splitter (drop at piece)).told).asked).deeds ≡ first ++ rest
      → HasStopped w (way.part.deeds ++ first) fault old new → HasStopped w (take_piece f m all.asked).deeds fault old new
  piece_stopped first rest fault new same stopped =
      subst (λ (l : List Deed). HasStopped w l fault old new)
      (sym (ap (λ (p : Part). p.deeds) whole_here ∙ ap (λ (l : List Deed). way.part.deeds ++ l) same ∙ sym (append_assoc way.part.deeds first rest)))
      (stopped_wider w (way.part.deeds ++ first) rest fault old new stopped)

  -- as rounds,
  pub piece_stopped_rounds : (fault : Stop) (new : Scene)
      → HasStoppedRounds (behind w way.part.deeds) most_waiting (moment_of (behind w way.part.deeds) way.part.behind.flying way.part.behind.taken) fault mid new
      → HasStopped w (take_piece f m all.asked).deeds fault old new
  piece_stopped_rounds fault new stopped =
      let rest = (asks_by way.coming (tell_piece way.turns incoming.splitter (drop at piece)).told).asked in
      let next = until f most_waiting way.part.behind in
      piece_stopped next.deeds (take_piece f next.behind rest).deeds fault new (ap (λ (p : Part). p.deeds) (piece-settles f way.part.behind way.along.way rest))
      (stopped_rounds w way.part x y old mid way.along most_waiting fault new stopped)

  -- or nothing of it was begun.
  pub piece_stopped_here : HasStopped w (take_piece f m all.asked).deeds Faults.Memory old mid
  piece_stopped_here =
      let rest = (take_piece f way.part.behind (asks_by way.coming (tell_piece way.turns incoming.splitter (drop at piece)).told).asked).deeds in
      piece_stopped [] rest Faults.Memory mid refl
      (subst (λ (l : List Deed). HasStopped w l Faults.Memory old mid) refl
      (stopped_then w way.part.deeds [] Faults.Memory old mid mid way.along.made.done (stopped_before (behind w way.part.deeds) [] mid way.along.made.done.run.device)))

  -- It is at its end.
  pub piece_ends : length piece ≤ at → HasAsked w m all.asked x y old mid × EndsSo None all last incoming
  piece_ends high =
      let nothing : drop at piece ≡ [] = drop_all at piece high in
      let silent = quiet way.turns incoming.splitter way.coming way.keeps.fits in
      let told = λ (l : List ℕ). asks_by way.coming (tell_piece way.turns incoming.splitter l).told in
      let asks : all ≡ record { asked = way.front; ending = None; coming = way.coming } =
      way.asks ∙ ap (with_front way.front) (ap told nothing ∙ silent.asks) ∙ ap (λ (l : List Message). record { asked = l; ending = None; coming = way.coming }) (append-nil way.front) in (
        record {
          part = way.part;
          made = way.along.made;
          state = way.along.state;
          way = way.along.way;
          left = ap (λ (a : Asking). take_piece f m a.asked) asks ∙ ap (take_piece f m) (sym (append-nil way.front)) ∙ way.whole [];
        },
        record {
          ends = sym (ap (λ (a : Asking). a.ending) asks);
          goes = λ none. subst (Keeps incoming) (sym (ap (λ (a : Asking). a.coming) asks)) way.keeps;
          place_ = λ none. sym (way.ends ∙ ap (λ (l : List ℕ). (tell_piece way.turns incoming.splitter l).place) nothing ∙ silent.ends);
        },
      )

-- ---- one take

-- With one asked more before.
front-more : (front : List Message) (message : Message) (a : Asking) → with_front front (taking.with_asked message a) ≡ with_front (front ++ message ∷ []) a
front-more front message a = ap (λ (l : List Message). record a { asked = l }) (sym (append_assoc front (message ∷ []) a.asked))

module _ (w : Standing) (m : Moment) (all : Asking) (last : Place) (piece : List ℕ) (at : ℕ) (incoming : Incoming) (x y : Flight) (old mid : Scene)
    (way : IsOnPiece w m all last piece at incoming x y old mid) (low : at < length piece)
    (now : Incoming) (count : ℕ) (taken : Taken) (has : HasTaken incoming now (drop at piece) count taken) where
  abbrev n : ℕ
  n = way.turns - 1

  abbrev rest : List ℕ
  rest = drop at piece

  abbrev place : Place
  place = (take_from incoming.splitter rest).place

  turns_is : way.turns ≡ suc n
  turns_is = let enough = way.enough in omega (arith, enough)

  -- What comes of it, by as many bytes as a splitter takes.
  abbrev outcome : Outcome
  outcome = outcome_of way.coming (take_from incoming.splitter rest).event (take (take_from incoming.splitter rest).count rest)

  abbrev IsTold : Taken → Type 0
  IsTold t = IsOutcome now.blocks now.block_size now.coming t outcome

  pub outcome_is : IsTold taken
  outcome_is = subst (λ (k : ℕ). IsOutcome now.blocks now.block_size now.coming taken (outcome_of way.coming (take_from incoming.splitter rest).event (take k rest)))
      has.count_ (has.outcome way.coming way.keeps)

  bytes_left : drop (take_from incoming.splitter rest).count rest ≡ drop (at + count) piece
  bytes_left = ap (λ (k : ℕ). drop k rest) (sym has.count_) ∙ drop-drop count at piece

  -- The turns that are left are those from there on.
  abbrev left_told : Telling
  left_told = tell_piece n place (drop (take_from incoming.splitter rest).count rest)

  left_is : left_told ≡ tell_piece n now.splitter (drop (at + count) piece)
  left_is = ap (λ (p : Place). tell_piece n p (drop (take_from incoming.splitter rest).count rest)) (sym has.place) ∙ ap (tell_piece n now.splitter) bytes_left

  all_is : all ≡ with_front way.front (asks_by way.coming (tell_piece (suc n) incoming.splitter rest).told)
  all_is = way.asks ∙ ap (λ (k : ℕ). with_front way.front (asks_by way.coming (tell_piece k incoming.splitter rest).told)) turns_is

  last_is : last ≡ (tell_piece (suc n) incoming.splitter rest).place
  last_is = way.ends ∙ ap (λ (k : ℕ). (tell_piece k incoming.splitter rest).place) turns_is

  module _ (some : 0 < count) where
    fewer : length (drop (at + count) piece) < n
    fewer =
        let enough = way.enough in
        omega (arith, enough, some, low, length-drop at piece, length-drop (at + count) piece)

    -- No request ended with it.
    pub piece_part : taken ≡ takens.Part → IsOnPiece w m all last piece (at + count) now x y old mid
    piece_part is =
        let told = is_part now.blocks now.block_size now.coming _ (subst IsTold is outcome_is) in
        let turn = turn_part n incoming.splitter way.coming rest way.keeps.fits told.next told.is in
        record {
          part = way.part;
          along = way.along;
          front = way.front;
          whole = way.whole;
          turns = n;
          enough = fewer;
          coming = told.next;
          keeps = record { fits = subst (λ (p : Place). taking.Fits p told.next) (sym has.place) turn.1; write = told.keeps };
          asks = all_is ∙ ap (with_front way.front) (turn.0.asks ∙ ap (λ (r : Telling). asks_by told.next r.told) left_is);
          ends = last_is ∙ turn.0.ends ∙ ap (λ (r : Telling). r.place) left_is;
        }

    -- One did.
    module _ (whole : flights.Whole) (is : taken ≡ takens.Whole whole) where
      abbrev request : IsRequest now.blocks now.block_size now.coming whole outcome
      request = is_request now.blocks now.block_size now.coming whole _ (subst IsTold is outcome_is)

      abbrev pub message_in : Message
      message_in = request.m

      pub message_whole : IsWhole now.blocks now.block_size whole message_in
      message_whole = request.whole_

      request_turn : AsksSo way.coming (tell_piece (suc n) incoming.splitter rest) (taking.with_asked message_in (asks_by None left_told.told)) left_told.place × taking.Fits place None
      request_turn = turn_whole n incoming.splitter way.coming rest way.keeps.fits request.m request.is

      module _ (few : length way.part.behind.flying ≤ most_waiting) where
        abbrev one : Part
        one = ask_one w.format way.part.behind message_in

        -- It is handed in,
        pub piece_asks : (z : Flight) (new : Scene)
            → HasMade (behind w way.part.deeds) (handing message_in (behind w way.part.deeds) (moment_of (behind w way.part.deeds) way.part.behind.flying way.part.behind.taken)) y z mid new
            → IsOnPiece w m all last piece (at + count) now x z old new
        piece_asks z new made = record {
          part = with_deeds way.part.deeds one;
          along = along_asks w way.part x y old mid way.along message_in few z new made;
          front = way.front ++ message_in ∷ [];
          whole = λ later.
              ap (take_piece w.format m) (append_assoc way.front (message_in ∷ []) later) ∙ way.whole (message_in ∷ later)
              ∙ ap (with_deeds way.part.deeds) (piece-next w.format way.part.behind message_in later)
              ∙ ap (λ (l : List Deed). record (take_piece w.format one.behind later) { deeds = l }) (sym (append_assoc way.part.deeds one.deeds (take_piece w.format one.behind later).deeds));
          turns = n;
          enough = fewer;
          coming = None;
          keeps = record {
            fits = subst (λ (p : Place). taking.Fits p None) (sym has.place) request_turn.1;
            write = subst (λ (c : Option Coming). KeepsComing now.blocks now.block_size c None) (sym request.none) tt;
          };
          asks = all_is ∙ ap (with_front way.front) (request_turn.0.asks ∙ ap (λ (r : Telling). taking.with_asked message_in (asks_by None r.told)) left_is)
              ∙ front-more way.front message_in (asks_by None (tell_piece n now.splitter (drop (at + count) piece)).told);
          ends = last_is ∙ request_turn.0.ends ∙ ap (λ (r : Telling). r.place) left_is;
        }

        -- or something stopped it.
        pub piece_stopped_asks : (fault : Stop) (new : Scene)
            → HasStopped (behind w way.part.deeds) (handing message_in (behind w way.part.deeds) (moment_of (behind w way.part.deeds) way.part.behind.flying way.part.behind.taken)).deeds fault mid new
            → HasStopped w (take_piece w.format m all.asked).deeds fault old new
        piece_stopped_asks fault new stopped =
            let later = (asks_by None left_told.told).asked in
            let here_asked : (asks_by way.coming (tell_piece way.turns incoming.splitter rest).told).asked ≡ message_in ∷ later =
            ap (λ (k : ℕ). (asks_by way.coming (tell_piece k incoming.splitter rest).told).asked) turns_is ∙ ap (λ (a : Asking). a.asked) request_turn.0.asks in
            piece_stopped w m all last piece at incoming x y old mid way one.deeds (take_piece w.format one.behind later).deeds fault new
            (ap (λ (l : List Message). (take_piece w.format way.part.behind l).deeds) here_asked ∙ ap (λ (p : Part). p.deeds) (piece-next w.format way.part.behind message_in later))
            (stopped_asks w way.part x y old mid way.along message_in few fault new stopped)

  -- The requests end with it.
  ends_asked : (end : PieceEnd) → all ≡ with_front way.front (asks_none (Some (end_told end)) None)
      → HasAsked w m all.asked x y old mid × EndsSo (Some end) all last now
  ends_asked end asks = (
    record {
      part = way.part;
      made = way.along.made;
      state = way.along.state;
      way = way.along.way;
      left = ap (λ (a : Asking). take_piece w.format m a.asked) asks ∙ way.whole [];
    },
    record {
      ends = sym (ap (λ (a : Asking). a.ending) asks);
      goes = λ none. absurd (by none);
      place_ = λ none. absurd (by none);
    },
  )
    where
      by : ◌≡◌ {A = Option PieceEnd} (Some end) None → ⊥
      by same = cc

  pub piece_disconnects : taken ≡ takens.Disconnected → HasAsked w m all.asked x y old mid × EndsSo (Some ends.Disconnected) all last now
  piece_disconnects is =
      let told = is_disconnect now.blocks now.block_size now.coming _ (subst IsTold is outcome_is) in
      ends_asked ends.Disconnected (all_is ∙ ap (with_front way.front) (turn_disconnects n incoming.splitter way.coming rest way.keeps.fits told))

  pub piece_wrong : (magic : ℕ) → taken ≡ takens.Wrong magic → HasAsked w m all.asked x y old mid × EndsSo (Some (ends.Wrong magic)) all last now
  piece_wrong magic is =
      let told = is_wrong now.blocks now.block_size now.coming magic _ (subst IsTold is outcome_is) in
      ends_asked (ends.Wrong magic) (all_is ∙ ap (with_front way.front) (turn_wrong n incoming.splitter way.coming rest way.keeps.fits magic told))

-- ---- for callers

none-left : (flying : List Flying) → length flying ≤ 0 → flying ≡ []
none-left [] few = refl
none-left (r ∷ flying) few = absurd (omega (arith, few))

-- Then the rounds are made that are left of a piece: none is in flight behind them.
module _ (w : Standing) (m : Moment) (asked : List Message) (x y : Flight) (old mid : Scene) (has : HasAsked w m asked x y old mid) where
  along : IsAlong w has.part x y old mid
  along = record { made = has.made; state = has.state; way = has.way }

  pub piece_taken : (z : Flight) (new : Scene) → HasMadeRounds (behind w has.part.deeds) 0 (moment_of (behind w has.part.deeds) has.part.behind.flying has.part.behind.taken) y z mid new
      → HasTakenPiece w m asked x z old new
  piece_taken z new rounds =
      let done = along_rounds w has.part x y old mid along 0 z new rounds in
      record {
        made = subst (λ (p : Part). HasMade w p x z old new) (sym has.left) done.made;
        state = subst (λ (p : Part). p.behind.state ≡ (behind w p.deeds).state) (sym has.left) done.state;
        way = subst (λ (p : Part). IsUnderWay w.format p.behind) (sym has.left) done.way;
        none = subst (λ (p : Part). p.behind.flying ≡ []) (sym has.left) (none-left (until w.format 0 has.part.behind).behind.flying (until-few w.format has.part.behind has.way 0));
      }

  pub piece_untaken : (fault : Stop) (new : Scene) → HasStoppedRounds (behind w has.part.deeds) 0 (moment_of (behind w has.part.deeds) has.part.behind.flying has.part.behind.taken) fault mid new
      → HasStopped w (take_piece w.format m asked).deeds fault old new
  piece_untaken fault new stopped =
      subst (λ (p : Part). HasStopped w p.deeds fault old new) (sym has.left) (stopped_rounds w has.part x y old mid along 0 fault new stopped)
