-- A request of the stream is refused, or handed in to the device.
use Rattle.std.proofs.Common.{◌≡◌, inl, inr, ℕ, zero, suc, ◌<◌, ◌≤◌, List, [], ◌∷◌, ◌++◌, length, take, Option, None, Some, slice_get, refl, sym, ◌∙◌, ap, subst, arith, append-nil}
use Rattle.std.proofs.lemmas.Option.{none-some, slice_get_within}
use Rattle.image_model.specs.Cells.{Cell}
use Rattle.device_model.specs.Mode.{DeviceFormat}
use Rattle.device_model.specs.Progress.{DeviceState, Submit, Answer, Ticket, in_flight, EventResult, submit_by, event_result}
use Rattle.device_model.specs.Request.{Asked, newly_asked, Request}
use Rattle.device_model.specs.RequestLaws.{requests_of}
use Rattle.device_model.specs.Submission.{Submission, request_in, bytes_in}
use Rattle.device_model.proofs.EventLemmas.{IsServing-event}
use Rattle.device_model.proofs.RequestLemmas.{slice_get-push_last, slice_get-push}
use Rattle.device_model.proofs.SubmissionLemmas.{refusal, result-working, ticket_law}
use Rattle.std.proofs.lemmas.List.{map-append}
use Rattle.nbd_model.specs.Stream.{Message}
use Rattle.nbd_model.specs.Judged.{submission_of}
use Rattle.nbd_model.specs.Session.{Flying, Moment, Part, flying_with, submit_to, most_waiting}
use Rattle.nbd_model.specs.SessionLaws.{Refuses, numbers_of, ServesAll, asked_by}
use Rattle.nbd_model.proofs.SubmittedLemmas.{fresh-suc, IsNoTicket, NoTicket, refusal-no_ticket, flying-same, fitting, numbers_of-push, asked_by-next, take-push, take-listed}
use Rattle.nbd_model.proofs.FlyingLemmas.{IsAt, at_on, IsFlying, AreFlying, AreFlying-same, Holds-front, Holds-last, Covers}
use Rattle.nbd_model.proofs.RoundLemmas.{Keeps, Stands, in_flight-le}

module _ (f : DeviceFormat) (base : ℕ → Cell) (all : List Message) where
  -- ---- a request of the stream

  slice_get-front : (s : DeviceState) (t : List Asked) (y : Asked) (i : ℕ) (x : Asked) → t ≡ s.progress.requests ++ y ∷ [] → slice_get s.progress.requests i ≡ Some x → slice_get t i ≡ Some x
  slice_get-front s t y i x is there = ap (λ (l : List Asked). slice_get l i) is ∙ front s.progress.requests y i x there
    where
      front : (xs : List Asked) (y : Asked) (i : ℕ) (x : Asked) → slice_get xs i ≡ Some x → slice_get (xs ++ y ∷ []) i ≡ Some x
      front [] y i x there = absurd (none-some x there)
      front (z ∷ xs) y zero x there = there
      front (z ∷ xs) y (suc i) x there = front xs y i x there

  -- The requests in flight, with the last one that was submitted.
  AreFlying-push : (s t : DeviceState) (y : Asked) (r : Flying) (low : ℕ) (flying : List Flying) → t.progress.requests ≡ s.progress.requests ++ y ∷ []
      → r.ticket ≡ suc (length s.progress.requests) → IsFlying f all t r → low ≤ r.ticket → AreFlying f all s low flying → AreFlying f all t low (flying ++ r ∷ [])
  AreFlying-push s t y r low [] is ticket new high are = (high, new, tt)
  AreFlying-push s t y r low (q ∷ flying) is ticket new high are =
      let old = are.1 in
      let there = slice_get_within s.progress.requests old.place old.at.asked old.at.there in
      let q_ticket = old.ticket in (
        are.0,
        record {
          place = old.place;
          ticket = old.ticket;
          at = at_on f all s t q.number q.cookie old.place old.at old.at.asked
              (ap (λ (l : List Asked). take old.place (requests_of l)) is ∙ take-push s.progress.requests y old.place (omega (arith, there))) (slice_get-front s t.progress.requests y old.place old.at.asked is old.at.there) refl old.at.unfinished;
        },
        AreFlying-push s t y r (suc q.ticket) flying is ticket new (omega (arith, there, q_ticket, ticket)) are.2,
      )

  module _ (m : Moment) (message : Message) (is : slice_get all m.taken ≡ Some message) (st : Stands f base all m)
      (few : ServesAll f → length m.flying ≤ most_waiting) where
    abbrev cookie : ℕ
    cookie = message.request.cookie

    refused : submission_of f.blocks message ≡ None → Keeps f base all m (submit_to f m cookie None)
    refused none = record {
      works = st.works;
      serving = st.serving;
      flying = st.flying;
      state = refl;
      replies = (Refuses message is none refl, tt);
      once = λ n. let more = fresh-suc m.taken n in omega (arith, more);
      covers = st.covers;
      listed = λ serves whole. st.listed serves whole ∙ sym (asked_by-next f all m.taken message is None none ∙ append-nil (asked_by f (take m.taken all)));
    }

    module _ (submission : Submission) (asks : submission_of f.blocks message ≡ Some submission) where
      abbrev handed : Part
      handed = submit_to f m cookie (Some submission)

      -- What the device answers and leaves, by why it is refused.
      handed_by : (why : Option Answer) → refusal f m.state.progress submission ≡ why → NoTicket why → Keeps f base all m handed
      handed_by (Some answer) why none =
          let result = result-working f m.state (Submit submission) st.works ∙ ap (submit_by f m.state.progress submission) why in
          let told : (event_result f m.state (Submit submission)).answer ≡ answer = ap (λ (x : EventResult). x.answer) result in
          let requests : handed.behind.state.progress.requests ≡ m.state.progress.requests = ap (λ (x : EventResult). x.progress.requests) result in
          let flying : handed.behind.flying ≡ m.flying = ap (λ (a : Answer). flying_with m m.taken cookie a) told ∙ flying-same m m.taken cookie answer none in
          record {
            works = st.works;
            serving = IsServing-event f base m.state (Submit submission) st.serving;
            flying = subst (λ (l : List Flying). AreFlying f all handed.behind.state 0 l) (sym flying)
                (AreFlying-same f all m.state handed.behind.state 0 m.flying (ap requests_of requests) (λ i high. ap (λ (l : List Asked). slice_get l i) requests) st.flying);
            state = refl;
            replies = tt;
            once = λ n.
                let more = fresh-suc m.taken n in
                let same = ap (λ (l : List Flying). numbers_of l n) flying in
                omega (arith, more, same);
            covers = subst (λ (l : List Flying). Covers f all handed.behind.state 0 l) (sym flying)
                (λ i a high there not_over. st.covers i a high (sym (ap (λ (l : List Asked). slice_get l i) requests) ∙ there) not_over);
            listed = λ serves whole.
                let fits = fitting f serves message submission (whole m.taken message is) asks in
                let waiting = in_flight-le f base all m st in
                let least = few serves in
                let room : in_flight m.state.progress.requests < f.slots = let slots = serves.slots in omega (arith, waiting, least, slots) in
                absurd (subst IsNoTicket (sym told ∙ (ticket_law f m.state submission st.works).1 (fits, room)) none);
          }
      handed_by None why none =
          let new = newly_asked (request_in f.blocks.block_size submission) (bytes_in submission) in
          let result = result-working f m.state (Submit submission) st.works ∙ ap (submit_by f m.state.progress submission) why in
          let ticket = suc (length m.state.progress.requests) in
          let told : (event_result f m.state (Submit submission)).answer ≡ Ticket ticket = ap (λ (x : EventResult). x.answer) result in
          let requests : handed.behind.state.progress.requests ≡ m.state.progress.requests ++ new ∷ [] = ap (λ (x : EventResult). x.progress.requests) result in
          let r : Flying = record { number = m.taken; ticket = ticket; cookie = cookie } in
          let flying : handed.behind.flying ≡ m.flying ++ r ∷ [] = ap (λ (a : Answer). flying_with m m.taken cookie a) told in
          let place = length m.state.progress.requests in
          let at : IsAt f all handed.behind.state m.taken cookie place = record {
            message = message;
            is = is;
            cookie_is = refl;
            submission = submission;
            asks = asks;
            asked = new;
            there = ap (λ (l : List Asked). slice_get l place) requests ∙ slice_get-push_last m.state.progress.requests new;
            request = refl;
            before = λ serves whole.
                ap (λ (l : List Asked). take place (requests_of l)) requests ∙ take-push m.state.progress.requests new place (omega arith)
                ∙ take-listed m.state.progress.requests ∙ st.listed serves whole;
            unfinished = refl;
          } in
          record {
            works = st.works;
            serving = IsServing-event f base m.state (Submit submission) st.serving;
            flying = subst (λ (l : List Flying). AreFlying f all handed.behind.state 0 l) (sym flying)
                (AreFlying-push m.state handed.behind.state new r 0 m.flying requests refl (record { place = place; ticket = refl; at = at }) (omega arith) st.flying);
            state = refl;
            replies = tt;
            once = λ n.
                let more = fresh-suc m.taken n in
                let pushed = ap (λ (l : List Flying). numbers_of l n) flying ∙ numbers_of-push m.flying r n in
                omega (arith, more, pushed);
            covers = subst (λ (l : List Flying). Covers f all handed.behind.state 0 l) (sym flying)
                (λ i a high there not_over. elim (slice_get-push m.state.progress.requests new i a (sym (ap (λ (l : List Asked). slice_get l i) requests) ∙ there)) [
                  | inl old ↦ Holds-front f all i m.flying r (st.covers i a high old not_over)
                  | inr last ↦ Holds-last f all i m.flying r (ap suc (sym last.0))
                ]);
            listed = λ serves whole.
                let asked : Request = request_in f.blocks.block_size submission in
                ap requests_of requests
                ∙ map-append (λ (a : Asked). a.request) m.state.progress.requests (new ∷ [])
                ∙ ap (λ (l : List Request). l ++ asked ∷ []) (st.listed serves whole)
                ∙ sym (asked_by-next f all m.taken message is (Some submission) asks);
          }

      handed_in : Keeps f base all m handed
      handed_in = handed_by (refusal f m.state.progress submission) refl (refusal-no_ticket f m.state.progress submission)

    pub submitted : Keeps f base all m (submit_to f m cookie (submission_of f.blocks message))
    submitted = by (submission_of f.blocks message) refl
      where
        by : (o : Option Submission) → submission_of f.blocks message ≡ o → Keeps f base all m (submit_to f m cookie o)
        by None none = refused none
        by (Some submission) asks = handed_in submission asks
