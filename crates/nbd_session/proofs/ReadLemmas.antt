-- How much of a stream is read, and what is replied to then.
use Rattle.std.proofs.Common.{◌≡◌, ℕ, suc, ◌+◌, ◌-◌, ◌<◌, ◌≤◌, List, [], ◌∷◌, ◌++◌, length, drop, take, Option, None, Some, option_map, refl, sym, ◌∙◌, ap, subst, arith, append-nil, append_assoc, length-append}
use Rattle.std.specs.Option.{ForSome}
use Rattle.std.proofs.lemmas.List.{take_all}
use Rattle.device_parts.specs.Device.{Standing}
use Rattle.stream_io.specs.Stream.{Gives, TakesAtMost}
use Rattle.stream_io.proofs.StreamLemmas.{left_more as drop_more, with_bytes-with_bytes}
use Rattle.nbd_model.specs.Stream as streams
use Rattle.nbd_model.specs.Stream.{most_stream, requests_of, stream_from}
use Rattle.nbd_model.specs.Session.{Deed, most_piece}
use Rattle.nbd_model.specs.Deeds.{text_in}
use Rattle.nbd_flight.specs.declared.flight.Flight.{Flight}
use Rattle.nbd_flight.specs.declared.stop.Stop.{Stop}
use Rattle.nbd_flight.specs.declared.stop.Stop.TheVariants as stops
use Rattle.nbd_flight.specs.Deeds.{HasDone, HasStopped, Scene, held_with}
use Rattle.nbd_flight.proofs.DeedLemmas.{held_none}
use Rattle.nbd_incoming.specs.declared.incoming.Incoming.{Incoming}
use Rattle.nbd_session.specs.Session.{HasReadPieces, IsNew, ReadsStream, deeds_over, joined, most_read}
use Rattle.nbd_session.proofs.CourseLemmas.{left_given, left_more, left_none}
use Rattle.nbd_model.proofs.CuttingLemmas.{AreSmall, none_unended, small-append, small-none, small-one, whole-append, whole_of}
use Rattle.nbd_session.proofs.CutLemmas.{take-front}
use Rattle.nbd_session.proofs.StreamLemmas.{IsOnStream, deeds_so_far, unended_so_far}

-- ---- how many bytes

pub none_dropped : (left : Option (List ℕ)) → option_map (drop 0) left ≡ left
none_dropped None = refl
none_dropped (Some bytes) = refl

pub took_none : (most : ℕ) (left later : Option (List ℕ)) → later ≡ left → TakesAtMost most left later
took_none most left later same = record { count = 0; within = omega arith; rest = same ∙ sym (none_dropped left) }

pub took_more : (most n more : ℕ) (left next later : Option (List ℕ)) → TakesAtMost most left next → later ≡ option_map (drop n) next → most + n ≤ more
    → TakesAtMost more left later
took_more most n more left next later took gives within = record {
  count = took.count + n;
  within = let before = took.within in omega (arith, before, within);
  rest = drop_more took.count n left next later took.rest gives;
}

pub took_same : (most more : ℕ) (left next later : Option (List ℕ)) → TakesAtMost most left next → later ≡ next → most ≤ more → TakesAtMost more left later
took_same most more left next later took same within = record {
  count = took.count;
  within = let before = took.within in omega (arith, before, within);
  rest = same ∙ took.rest;
}

-- ---- what the sink holds more

pub record HoldsMore (old new : Scene) : Type 0 where
  pub text : List ℕ
  pub is : new.held ≡ held_with text old.held

pub done_holds : (w : Standing) (deeds : List Deed) (old new : Scene) → HasDone w deeds old new → HoldsMore old new
done_holds w deeds old new done = record { text = text_in deeds; is = done.told }

pub stopped_holds : (w : Standing) (deeds : List Deed) (stop : Stop) (old new : Scene) → HasStopped w deeds stop old new → HoldsMore old new
stopped_holds w deeds stops.Memory old new stopped = record { text = text_in stopped.made; is = stopped.done.told }
stopped_holds w deeds stops.Disk old new stopped = record { text = text_in stopped.made; is = stopped.told ∙ stopped.done.told }
stopped_holds w deeds stops.Sink old new stopped = record {
  text = text_in stopped.made ++ take stopped.told.count stopped.bytes;
  is = stopped.told.held ∙ with_bytes-with_bytes (text_in stopped.made) (take stopped.told.count stopped.bytes) old.held;
}

-- ---- which pieces

-- None,
pub read_nothing : (w : Standing) (left later : Option (List ℕ)) {failed : Type 0} (held_before held : Option (List ℕ)) → later ≡ left → held ≡ held_before
    → HasReadPieces w left later failed held_before held
read_nothing w left later held_before held same told = record {
  pieces = [];
  small = small-none;
  read = sym same ∙ left_none later;
  done = 0;
  but_one = omega arith;
  more = [];
  told = told ∙ sym (held_none held_before);
  within = omega arith;
  unended = none_unended;
  asked = λ failed. omega arith;
}

module _ (w : Standing) (left left_now : Option (List ℕ)) (room : ℕ) (incoming : Incoming) (x y : Flight) (old mid : Scene)
    (on : IsOnStream w left left_now room incoming x y old mid) where
  abbrev count : ℕ
  count = length on.pieces

  few : length (whole_of on.pieces) ≤ most_stream
  few = let size = on.size in omega (arith, size)

  told_so_far : mid.held ≡ held_with (text_in (deeds_over w on.pieces)) old.held
  told_so_far = on.along.made.done.told ∙ ap (λ (l : List Deed). held_with (text_in l) old.held) (sym (deeds_so_far w left left_now room incoming x y old mid on))

  -- those that are all replied to,
  pub read_so_far : {failed : Type 0} (later : Option (List ℕ)) → later ≡ left_now → HasReadPieces w left later failed old.held mid.held
  read_so_far later same =
      let all = take_all count on.pieces (omega arith) in
      record {
        pieces = on.pieces;
        small = on.small;
        read = on.is_left ∙ ap (option_map (λ (rest : List ℕ). whole_of on.pieces ++ rest)) (sym same);
        done = count;
        but_one = omega arith;
        more = [];
        told = told_so_far
            ∙ ap (λ (l : List ℕ). held_with l old.held) (sym (append-nil (text_in (deeds_over w on.pieces)))
            ∙ ap (λ (l : List (List ℕ)). text_in (deeds_over w l) ++ []) (sym all));
        within = subst (λ (l : List (List ℕ)). length (joined l) ≤ most_stream) (sym all) few;
        unended = ap (λ (l : List (List ℕ)). (requests_of (joined l)).ending) all ∙ unended_so_far w left left_now room incoming x y old mid on;
        asked = λ failed. omega arith;
      }

  -- or one more.
  pub read_one_more : {failed : Type 0} (n : ℕ) (buffer : List ℕ) → length (take n buffer) ≤ most_piece → ForSome left_now (Gives n buffer)
      → (later : Option (List ℕ)) → later ≡ option_map (drop n) left_now → (failed → ⊥) → (new : Scene) → HoldsMore mid new
      → HasReadPieces w left later failed old.held new.held
  read_one_more n buffer small gives later next sound new holds =
      let piece = take n buffer in
      let pieces = on.pieces ++ piece ∷ [] in
      let all : take count pieces ≡ on.pieces = take-front on.pieces (piece ∷ []) in
      let given = left_given left_now n n buffer (omega arith) gives in
      let whole : whole_of on.pieces ++ piece ≡ whole_of pieces =
      ap (λ (l : List ℕ). whole_of on.pieces ++ l) (sym (append-nil piece)) ∙ sym (whole-append on.pieces (piece ∷ [])) in
      record {
        pieces = pieces;
        small = small-append on.pieces (piece ∷ []) on.small (small-one piece small);
        read = left_more left left_now later (whole_of on.pieces) piece on.is_left
            (given ∙ ap (option_map (λ (rest : List ℕ). piece ++ rest)) (sym next))
            ∙ ap (λ (l : List ℕ). option_map (λ (rest : List ℕ). l ++ rest) later) whole;
        done = count;
        but_one = let size = length-append on.pieces (piece ∷ []) in omega (arith, size);
        more = holds.text;
        told = holds.is ∙ ap (held_with holds.text) told_so_far ∙ with_bytes-with_bytes (text_in (deeds_over w on.pieces)) holds.text old.held
            ∙ ap (λ (l : List (List ℕ)). held_with (text_in (deeds_over w l) ++ holds.text) old.held) (sym all);
        within = subst (λ (l : List (List ℕ)). length (joined l) ≤ most_stream) (sym all) few;
        unended = ap (λ (l : List (List ℕ)). (requests_of (joined l)).ending) all ∙ unended_so_far w left left_now room incoming x y old mid on;
        asked = λ failed. absurd (sound failed);
      }
