-- On the way through a stream: what is done so far, and where it ends.
use Rattle.std.proofs.Common.{◌≡◌, inl, ℕ, ◌+◌, ◌-◌, ◌<◌, ◌≤◌, Bool, true, false, List, [], ◌∷◌, ◌++◌, length, drop, take, map, Option, None, Some, option_map, refl, sym, ◌∙◌, ap, subst, arith, append-nil, append_assoc, length-append, length-drop}
use Rattle.std.specs.Prelude.{ltb}
use Rattle.std.specs.Option.{ForSome}
use Rattle.std.proofs.lemmas.Bool.{le-ltb, lt-ltb}
use Rattle.std.proofs.lemmas.List.{take_all}
use Rattle.device_model.specs.Mode.{DeviceFormat}
use Rattle.device_model.specs.Progress.{DeviceState, after_events}
use Rattle.device_parts.specs.declared.condition.Condition.TheVariants.{Working}
use Rattle.device_parts.specs.Device.{Standing}
use Rattle.device.specs.Device.{IsDevice}
use Rattle.stream_io.specs.Stream.{Gives}
use Rattle.nbd_model.specs.Stream as streams
use Rattle.nbd_model.specs.Stream.{Message, most_stream, requests_of}
use Rattle.nbd_model.specs.Session.{Deed, Flying, Moment, Part, most_piece, no_deeds, opened_session, take_piece, take_pieces, with_deeds}
use Rattle.nbd_model.specs.Deeds.{events_in}
use Rattle.nbd_wire.specs.CuttingLaws.{tell}
use Rattle.nbd_wire.specs.Splitting.{Place, InHead}
use Rattle.nbd_flight.specs.declared.stop.Stop.{Stop}
use Rattle.nbd_flight.specs.declared.stop.Stop.TheVariants as stops
use Rattle.nbd_flight.specs.declared.flight.Flight.{Flight}
use Rattle.nbd_flight.specs.declared.flight.Waiting.{Waiting}
use Rattle.nbd_flight.specs.Deeds.{HasDone, HasStopped, Scene, behind}
use Rattle.nbd_flight.specs.Flight.{AreThose}
use Rattle.nbd_flight.specs.Rounds.{CountsDamage, moment_of}
use Rattle.nbd_flight.proofs.DeedLemmas.{done_none, stopped_before, stopped_then, stopped_wider}
use Rattle.nbd_flight.proofs.ServiceLemmas.{or_false}
use Rattle.nbd_incoming.specs.declared.incoming.Incoming.{Incoming}
use Rattle.nbd_incoming.specs.Incoming.{Keeps}
use Rattle.nbd_incoming.specs.Taking.{Asking, asks_in, end_of, ending_by, groups_in}
use Rattle.nbd_incoming.proofs.ReadLemmas.{ending_law, groups_law}
use Rattle.nbd_session.specs.declared.piece_end.PieceEnd.{PieceEnd}
use Rattle.nbd_session.specs.declared.piece_end.PieceEnd.TheVariants as piece_ends
use Rattle.nbd_session.specs.Piece.{EndsSo, HasTakenPiece, end_told}
use Rattle.nbd_session.specs.UnderWay.{IsUnderWay}
use Rattle.nbd_session.proofs.PieceLemmas.{IsAlong, along_then, here-is}
use Rattle.nbd_session.proofs.SettledLemmas.{until-none}
use Rattle.nbd_session.specs.Serving.{HasServed, end_in_piece, ending_told, fault_of}
use Rattle.nbd_session.specs.Session.{Course, HasLostSource, HasStoppedIn, HasStoppedSo, IsNew, deeds_over, ending_of}
use Rattle.nbd_session.proofs.CutLemmas.{take-front}
use Rattle.nbd_session.proofs.CourseLemmas.{course, left_more, left_none, rest_in, unread}
use Rattle.nbd_model.proofs.CuttingLemmas.{AreSmall, singles, small-append, small-none, small-one, whole-append, whole_of}

-- What ends the requests in a piece ends the stream so.
pub told_end : (end : PieceEnd) → end_told end ≡ ending_told (end_in_piece end)
told_end piece_ends.Disconnected = refl
told_end (piece_ends.Wrong magic) = refl

end_some : (too_long : Bool) (end : streams.StreamEnd) → end_of too_long (Some end) ≡ end
end_some true end = refl
end_some false end = refl

-- ---- the requests of each piece

abbrev groups_of : List (List ℕ) → List (List Message)
groups_of pieces = groups_in (InHead []) None pieces

abbrev ending_of_all : List (List ℕ) → Option streams.StreamEnd
ending_of_all pieces = ending_by (InHead []) None pieces

deeds-groups : (w : Standing) (pieces : List (List ℕ)) → deeds_over w pieces ≡ (take_pieces w.format (opened_session w.state) (groups_of pieces)).deeds
deeds-groups w pieces = ap (λ (g : List (List Message)). (take_pieces w.format (opened_session w.state) g).deeds) (sym (groups_law pieces))

abbrev none_asked : List Message
none_asked = []

-- In pieces behind the end nothing is done.
empty-pieces : (f : DeviceFormat) (m : Moment) → m.flying ≡ [] → (later : List (List ℕ))
    → take_pieces f m (map (λ (piece : List ℕ). none_asked) later) ≡ no_deeds m
empty-pieces f m none [] = refl
empty-pieces f m none (piece ∷ later) =
    ap (λ (p : Part). with_deeds p.deeds (take_pieces f p.behind (map (λ (piece : List ℕ). none_asked) later)))
    (until-none f 0 m (subst (λ (l : List Flying). length l ≤ 0) (sym none) (omega arith)))
    ∙ empty-pieces f m none later

-- ---- on the way

-- All that is asked in the pieces so far is done, and nothing in them ends the requests. Of the bound so much is left.
pub record IsOnStream (w : Standing) (left left_now : Option (List ℕ)) (room : ℕ) (incoming : Incoming) (x y : Flight) (old now : Scene)
    : Type 0 where
  pub part : Part
  pub along : IsAlong w part x y old now
  pub none : part.behind.flying ≡ []
  pub pieces : List (List ℕ)
  pub small : AreSmall pieces
  pub size : room + length (whole_of pieces) ≡ most_stream
  pub is_left : left ≡ option_map (λ (rest : List ℕ). whole_of pieces ++ rest) left_now
  pub coming : Option Message
  pub keeps : Keeps incoming coming
  pub groups : (later : List (List ℕ)) → take_pieces w.format (opened_session w.state) (groups_of (pieces ++ later))
      ≡ with_deeds part.deeds (take_pieces w.format part.behind (groups_in incoming.splitter coming later))
  pub ends : (later : List (List ℕ)) → ending_of_all (pieces ++ later) ≡ ending_by incoming.splitter coming later

pub stream_begins : (w : Standing) (left : Option (List ℕ)) (incoming : Incoming) (x : Flight) (old : Scene) → IsDevice w Working old.parts old.moments
    → IsNew w → x.waiting.items ≡ [] → incoming.splitter ≡ InHead [] → Keeps incoming None → IsOnStream w left left most_stream incoming x x old old
stream_begins w left incoming x old is new none place keeps = record {
  part = no_deeds (opened_session w.state);
  along = record {
    made = record {
      done = done_none w old is;
      flying = subst (λ (l : List Waiting). AreThose l []) (sym none) tt;
      damage = sym (or_false x.eio);
    };
    state = refl;
    way = record {
      some = new.some;
      base = new.base;
      next = new.next;
      set_bits = new.set_bits;
      awaiting = new.awaiting;
      steps = [];
      is = ap opened_session new.is;
    };
  };
  none = refl;
  pieces = [];
  small = small-none;
  size = omega arith;
  is_left = left_none left;
  coming = None;
  keeps = keeps;
  groups = λ later. ap (λ (p : Place). take_pieces w.format (opened_session w.state) (groups_in p None later)) (sym place);
  ends = λ later. ap (λ (p : Place). ending_by p None later) (sym place);
}

-- It comes to an end as the stream does, by the pieces that were read and those that were not.
module _ (w : Standing) (left then_ : Option (List ℕ)) (pieces : List (List ℕ)) (room : ℕ) (other : List ℕ) (small : AreSmall pieces)
    (size : room + length (whole_of pieces) ≡ most_stream) (is : left ≡ option_map (λ (rest : List ℕ). whole_of pieces ++ rest) then_) where
  abbrev own : Course left
  own = course left then_ pieces room other small size is

  abbrev later : List (List ℕ)
  later = unread left then_ pieces room other small size is

  ends_by : (too_long : Bool) (end : Option streams.StreamEnd) → ltb most_stream (length own.stream) ≡ too_long → ending_of_all (pieces ++ later) ≡ end
      → ending_of own ≡ end_of too_long end
  ends_by too_long end size_is by =
      ending_law own.stream own.pieces own.cut ∙ ap (λ (b : Bool). end_of b (ending_of_all own.pieces)) size_is ∙ ap (end_of too_long) by

  serves_by : (ending : streams.StreamEnd) (deeds : List Deed) (x y : Flight) (old new : Scene) → ending_of own ≡ ending
      → (take_pieces w.format (opened_session w.state) (groups_of (pieces ++ later))).deeds ≡ deeds → HasDone w deeds old new → CountsDamage deeds x y
      → HasServed w left ending x y old new
  serves_by ending deeds x y old new ends same done damage =
      let all : deeds_over w own.pieces ≡ deeds = deeds-groups w own.pieces ∙ same in
      record {
        course = own;
        ends = ends;
        done = subst (λ (l : List Deed). HasDone w l old new) (sym all) done;
        damage = subst (λ (l : List Deed). CountsDamage l x y) (sym all) damage;
      }

  stops_by : (stop : Stop) (first rest : List Deed) (old new : Scene) → (take_pieces w.format (opened_session w.state) (groups_of (pieces ++ later))).deeds ≡ first ++ rest
      → HasStopped w first stop old new → HasStopped w (deeds_over w own.pieces) stop old new
  stops_by stop first rest old new same stopped =
      subst (λ (l : List Deed). HasStopped w l stop old new) (sym (deeds-groups w own.pieces ∙ same)) (stopped_wider w first rest stop old new stopped)

-- What stopped the requests is told of the session.
stops_so : (w : Standing) (left : Option (List ℕ)) (stop : Stop) (old new : Scene) (own : Course left) → HasStopped w (deeds_over w own.pieces) stop old new
    → HasStoppedSo w left (fault_of stop) old (record { moments = new.moments; held = new.held })
stops_so w left stops.Memory old new own stopped = record { course = own; parts = new.parts; stopped = stopped }
stops_so w left stops.Disk old new own stopped = inl (record { course = own; parts = new.parts; stopped = stopped })
stops_so w left stops.Sink old new own stopped = record { course = own; parts = new.parts; stopped = stopped }

-- Nothing was begun.
pub stream_unbegun : (w : Standing) (left : Option (List ℕ)) (old : Scene) → IsDevice w Working old.parts old.moments
    → HasStoppedIn w left stops.Memory old (record { moments = old.moments; held = old.held })
stream_unbegun w left old is = record {
  course = course left left [] most_stream [] small-none (omega arith) (left_none left);
  parts = old.parts;
  stopped = stopped_before w (deeds_over w (course left left [] most_stream [] small-none (omega arith) (left_none left)).pieces) old is;
}

-- ---- where it stands

module _ (w : Standing) (left left_now : Option (List ℕ)) (room : ℕ) (incoming : Incoming) (x y : Flight) (old mid : Scene)
    (on : IsOnStream w left left_now room incoming x y old mid) where
  abbrev f : DeviceFormat
  f = w.format

  abbrev here : Standing
  here = behind w on.part.deeds

  -- The session goes on from here.
  pub here_way : IsUnderWay f (moment_of here on.part.behind.flying on.part.behind.taken)
  here_way = subst (IsUnderWay f) (sym (here-is w on.part x y old mid on.along)) on.along.way

  few : length (whole_of on.pieces) ≤ most_stream
  few = let size = on.size in omega (arith, size)

  -- Nothing is done of pieces that are not there.
  none_more : (more : List (List ℕ)) → more ≡ [] → (take_pieces f (opened_session w.state) (groups_of (on.pieces ++ more))).deeds ≡ on.part.deeds
  none_more more nothing =
      ap (λ (l : List (List ℕ)). (take_pieces f (opened_session w.state) (groups_of (on.pieces ++ l))).deeds) nothing
      ∙ ap (λ (p : Part). p.deeds) (on.groups []) ∙ append-nil on.part.deeds

  none_ends : (more : List (List ℕ)) → more ≡ [] → ending_of_all (on.pieces ++ more) ≡ None
  none_ends more nothing = ap (λ (l : List (List ℕ)). ending_of_all (on.pieces ++ l)) nothing ∙ on.ends []

  no_singles : (bytes : List ℕ) → bytes ≡ [] → singles (take room bytes) ≡ []
  no_singles bytes nothing = ap (λ (l : List ℕ). singles (take room l)) nothing ∙ ap singles (take_all room [] (omega arith))

  -- The source is at its end.
  at_end : (n : ℕ) (buffer : List ℕ) → n ≡ 0 → 0 < length buffer → (o : Option (List ℕ)) → ForSome o (Gives n buffer) → rest_in [] o ≡ []
  at_end n buffer nothing some None gives = refl
  at_end n buffer nothing some (Some bytes) gives = (gives bytes refl).end nothing some

  pub stream_ends : (n : ℕ) (buffer : List ℕ) → n ≡ 0 → 0 < length buffer → ForSome left_now (Gives n buffer) → HasServed w left streams.Ended x y old mid
  stream_ends n buffer nothing some gives =
      let empty = at_end n buffer nothing some left_now gives in
      let unread_none = no_singles (rest_in [] left_now) empty in
      let own = course left left_now on.pieces room [] on.small on.size on.is_left in
      let short : length own.stream ≤ most_stream = subst (λ (l : List ℕ). length l ≤ most_stream) (sym (ap (λ (l : List ℕ). whole_of on.pieces ++ l) empty ∙ append-nil (whole_of on.pieces))) few in
      serves_by w left left_now on.pieces room [] on.small on.size on.is_left streams.Ended on.part.deeds x y old mid
      (ends_by w left left_now on.pieces room [] on.small on.size on.is_left false None (le-ltb most_stream (length own.stream) short) (none_ends _ unread_none))
      (none_more _ unread_none) on.along.made.done on.along.made.damage

  -- It is past the bound.
  more_left : (n within : ℕ) (buffer : List ℕ) → within < n → (o : Option (List ℕ)) → ForSome o (Gives n buffer) → 0 < length (rest_in (0 ∷ []) (option_map (drop within) o))
  more_left n within buffer low None gives = omega arith
  more_left n within buffer low (Some bytes) gives =
      let long = (gives bytes refl).within in
      let size = length-drop within bytes in
      omega (arith, low, long, size)

  pub stream_long : room ≡ 0 → (before : Option (List ℕ)) (n within : ℕ) (buffer : List ℕ) → within < n → ForSome before (Gives n buffer) → left_now ≡ option_map (drop within) before
      → HasServed w left streams.TooLong x y old mid
  stream_long full before n within buffer low gives next =
      let own = course left left_now on.pieces room (0 ∷ []) on.small on.size on.is_left in
      let some : 0 < length (rest_in (0 ∷ []) left_now) = subst (λ (o : Option (List ℕ)). 0 < length (rest_in (0 ∷ []) o)) (sym next) (more_left n within buffer low before gives) in
      let size = on.size in
      let whole = length-append (whole_of on.pieces) (rest_in (0 ∷ []) left_now) in
      let long : most_stream < length (whole_of on.pieces ++ rest_in (0 ∷ []) left_now) = omega (arith, full, some, size, whole) in
      let unread_none : unread left left_now on.pieces room (0 ∷ []) on.small on.size on.is_left ≡ [] = ap (λ (k : ℕ). singles (take k (rest_in (0 ∷ []) left_now))) full ∙ ap singles (take-none (rest_in (0 ∷ []) left_now)) in
      serves_by w left left_now on.pieces room (0 ∷ []) on.small on.size on.is_left streams.TooLong on.part.deeds x y old mid
      (ends_by w left left_now on.pieces room (0 ∷ []) on.small on.size on.is_left true None (lt-ltb most_stream (length own.stream) long) (none_ends _ unread_none))
      (none_more _ unread_none) on.along.made.done on.along.made.damage
    where
      take-none : (xs : List ℕ) → take 0 xs ≡ []
      take-none [] = refl
      take-none (x ∷ xs) = refl

  -- What is done so far, and that nothing ends the requests in that.
  pub deeds_so_far : deeds_over w on.pieces ≡ on.part.deeds
  deeds_so_far =
      deeds-groups w on.pieces
      ∙ ap (λ (l : List (List ℕ)). (take_pieces f (opened_session w.state) (groups_of l)).deeds) (sym (append-nil on.pieces)) ∙ none_more [] refl

  pub unended_so_far : (requests_of (whole_of on.pieces)).ending ≡ streams.Ended
  unended_so_far =
      ending_law (whole_of on.pieces) on.pieces (sym (take_all most_stream (whole_of on.pieces) few))
      ∙ ap (λ (b : Bool). end_of b (ending_of_all on.pieces)) (le-ltb most_stream (length (whole_of on.pieces)) few)
      ∙ ap (end_of false) (ap ending_of_all (sym (append-nil on.pieces)) ∙ on.ends [])

  -- The source failed.
  pub stream_lost : HasLostSource w left old (record { moments = mid.moments; held = mid.held })
  stream_lost =
      let own = course left left_now on.pieces room [] on.small on.size on.is_left in
      let count = length on.pieces in
      let read : take count own.pieces ≡ on.pieces = take-front on.pieces (unread left left_now on.pieces room [] on.small on.size on.is_left) in
      let all : deeds_over w (take count own.pieces) ≡ on.part.deeds = ap (deeds_over w) read ∙ deeds_so_far in
      record {
        course = own;
        count = count;
        served = record { parts = mid.parts; done = subst (λ (l : List Deed). HasDone w l old mid) (sym all) on.along.made.done };
        unended = ap (λ (l : List (List ℕ)). (requests_of (whole_of l)).ending) read ∙ unended_so_far;
      }

  -- ---- one piece

  module _ (piece : List ℕ) (then_ : Option (List ℕ)) (few_in : length piece ≤ most_piece) (low : length piece ≤ room)
      (given : left_now ≡ option_map (λ (rest : List ℕ). piece ++ rest) then_) where
    abbrev a : Asking
    a = asks_in incoming.splitter on.coming piece

    abbrev q : Part
    q = take_piece f on.part.behind a.asked

    abbrev pieces_now : List (List ℕ)
    pieces_now = on.pieces ++ piece ∷ []

    abbrev room_now : ℕ
    room_now = room - length piece

    size_now : room_now + length (whole_of pieces_now) ≡ most_stream
    size_now =
        let size = on.size in
        let whole : length (whole_of (on.pieces ++ piece ∷ [])) ≡ length (whole_of on.pieces) + length piece =
        ap length (whole-append on.pieces (piece ∷ []) ∙ ap (λ (l : List ℕ). whole_of on.pieces ++ l) (append-nil piece)) ∙ length-append (whole_of on.pieces) piece in
        omega (arith, size, whole, low)

    left_then : left ≡ option_map (λ (rest : List ℕ). whole_of pieces_now ++ rest) then_
    left_then =
        left_more left left_now then_ (whole_of on.pieces) piece on.is_left given
        ∙ ap (λ (l : List ℕ). option_map (λ (rest : List ℕ). l ++ rest) then_)
        (ap (λ (l : List ℕ). whole_of on.pieces ++ l) (sym (append-nil piece)) ∙ sym (whole-append on.pieces (piece ∷ [])))

    small_now : AreSmall pieces_now
    small_now = small-append on.pieces (piece ∷ []) on.small (small-one piece few_in)

    abbrev own_now : (other : List ℕ) → Course left
    own_now other = course left then_ pieces_now room_now other small_now size_now left_then

    -- What is done of this piece and of those behind it.
    abbrev groups_by : List (List ℕ) → Option streams.StreamEnd → List (List Message)
    groups_by later end = elim end as (λ x. List (List Message)) [
      | None ↦ groups_in (tell incoming.splitter piece).place a.coming later
      | Some e ↦ map (λ (piece : List ℕ). none_asked) later
    ]

    abbrev ends_then : List (List ℕ) → Option streams.StreamEnd → Option streams.StreamEnd
    ends_then later end = elim end as (λ x. Option streams.StreamEnd) [
      | None ↦ ending_by (tell incoming.splitter piece).place a.coming later
      | Some e ↦ Some e
    ]

    groups_now : (later : List (List ℕ)) → take_pieces f (opened_session w.state) (groups_of (pieces_now ++ later))
        ≡ with_deeds (on.part.deeds ++ q.deeds) (take_pieces f q.behind (groups_by later a.ending))
    groups_now later =
        ap (λ (l : List (List ℕ)). take_pieces f (opened_session w.state) (groups_of l)) (append_assoc on.pieces (piece ∷ []) later)
        ∙ on.groups (piece ∷ later)
        ∙ ap (λ (l : List Deed). record (take_pieces f q.behind (groups_by later a.ending)) { deeds = l }) (sym (append_assoc on.part.deeds q.deeds (take_pieces f q.behind (groups_by later a.ending)).deeds))

    ends_now : (later : List (List ℕ)) → ending_of_all (pieces_now ++ later) ≡ ends_then later a.ending
    ends_now later = ap ending_of_all (append_assoc on.pieces (piece ∷ []) later) ∙ on.ends (piece ∷ later)

    -- Something stopped it.
    pub piece_stops : (stop : Stop) (new : Scene) → HasStopped here (take_piece f (moment_of here on.part.behind.flying on.part.behind.taken) a.asked).deeds stop mid new
        → HasStoppedSo w left (fault_of stop) old (record { moments = new.moments; held = new.held })
    piece_stops stop new stopped =
        let moved = subst (λ (m : Moment). HasStopped here (take_piece f m a.asked).deeds stop mid new) (here-is w on.part x y old mid on.along) stopped in
        let later = unread left then_ pieces_now room_now [] small_now size_now left_then in
        stops_so w left stop old new (own_now [])
        (stops_by w left then_ pieces_now room_now [] small_now size_now left_then stop (on.part.deeds ++ q.deeds) (take_pieces f q.behind (groups_by later a.ending)).deeds old new
        (ap (λ (p : Part). p.deeds) (groups_now later))
        (stopped_then w on.part.deeds q.deeds stop old mid new on.along.made.done moved))

    module _ (end : Option PieceEnd) (now : Incoming) (z : Flight) (new : Scene)
        (taken : HasTakenPiece here (moment_of here on.part.behind.flying on.part.behind.taken) a.asked y z mid new)
        (ends : EndsSo end a (tell incoming.splitter piece).place now) where
      taken_here : HasTakenPiece here on.part.behind a.asked y z mid new
      taken_here = subst (λ (m : Moment). HasTakenPiece here m a.asked y z mid new) (here-is w on.part x y old mid on.along) taken

      along_now : IsAlong w (with_deeds on.part.deeds q) x z old new
      along_now =
          along_then w on.part x y old mid on.along z new q
          (taken_here.state ∙ ap (λ (s : DeviceState). after_events f s (events_in q.deeds)) (sym on.along.state)) taken_here.way taken_here.made

      -- It goes on,
      pub piece_goes : end ≡ None → IsOnStream w left then_ room_now now x z old new
      piece_goes none =
          let going : a.ending ≡ None = sym ends.ends ∙ ap (option_map end_told) none in
          let place = sym (ends.place_ none) in
          record {
            part = with_deeds on.part.deeds q;
            along = along_now;
            none = taken_here.none;
            pieces = pieces_now;
            small = small_now;
            size = size_now;
            is_left = left_then;
            coming = a.coming;
            keeps = ends.goes none;
            groups = λ later. groups_now later
                ∙ ap (λ (e : Option streams.StreamEnd). with_deeds (on.part.deeds ++ q.deeds) (take_pieces f q.behind (groups_by later e))) going
                ∙ ap (λ (p : Place). with_deeds (on.part.deeds ++ q.deeds) (take_pieces f q.behind (groups_in p a.coming later))) place;
            ends = λ later. ends_now later ∙ ap (ends_then later) going ∙ ap (λ (p : Place). ending_by p a.coming later) place;
          }

      -- or it ends here.
      pub piece_ends_all : (told : PieceEnd) → end ≡ Some told → HasServed w left (end_told told) x z old new
      piece_ends_all told is =
          let ended : a.ending ≡ Some (end_told told) = sym ends.ends ∙ ap (option_map end_told) is in
          let later = unread left then_ pieces_now room_now [] small_now size_now left_then in
          serves_by w left then_ pieces_now room_now [] small_now size_now left_then (end_told told) (on.part.deeds ++ q.deeds) x z old new
          (ends_by w left then_ pieces_now room_now [] small_now size_now left_then (ltb most_stream (length (own_now []).stream)) (Some (end_told told)) refl (ends_now later ∙ ap (ends_then later) ended)
          ∙ end_some (ltb most_stream (length (own_now []).stream)) (end_told told))
          (ap (λ (p : Part). p.deeds) (groups_now later
          ∙ ap (λ (e : Option streams.StreamEnd). with_deeds (on.part.deeds ++ q.deeds) (take_pieces f q.behind (groups_by later e))) ended
          ∙ ap (with_deeds (on.part.deeds ++ q.deeds)) (empty-pieces f q.behind taken_here.none later))
          ∙ append-nil (on.part.deeds ++ q.deeds))
          along_now.made.done along_now.made.damage
