-- What becomes of the list of requests: each of them stays what was submitted.
use Rattle.std.proofs.Common.{◌≡◌, inl, inr, ℕ, zero, suc, List, [], ◌∷◌, ◌++◌, map, set, Option, None, Some, option_map, slice_get, refl, sym, ◌∙◌, ap, subst}
use Rattle.std.proofs.lemmas.Bool.{cases_eq}
use Rattle.std.proofs.lemmas.Option.{none-some, same_Some, slice_get-map}
use Rattle.image_model.specs.Cells.{Cell}
use Rattle.device_model.specs.History.{cells_now}
use Rattle.device_model.specs.Journal.{JournalCounts}
use Rattle.device_model.specs.Mode.{DeviceFormat}
use Rattle.device_model.specs.Progress.{Progress, Condition, Working, Broken, Closed, DeviceState, opened_device, Event, Submit, Serve, Step, Take, Close, FailedServe, FailedStep, FailedClose, with_block_of, with_block, serve_with, serve_unheld, serve_by, serve_asked, serve, journal_with, form_refusal, slots_refusal, submit_by, take_by, take_asked, take_reply, with_dropped, working_result, broken_result, result_in, after_event, after_events}
use Rattle.device_model.specs.Reply.{Reply}
use Rattle.device_model.specs.Request.{Request, Read, Write, Flush, Asked, RequestState, Unfinished, Finished, Taken, Dropped, newly_asked, as_dropped, held_by}
use Rattle.device_model.specs.SubmissionLaws.{IsFitting, IsOfSubmission, IsInRange, AcceptedLaw, KeptLaw}
use Rattle.device_model.specs.Submission.{Submission, request_in, bytes_in}
use Rattle.device_model.proofs.EventLemmas.{requests-finished}
use Rattle.device_model.proofs.RequestLemmas.{slice_get-set_same, slice_get-set_other, slice_get-push}
use Rattle.device_model.proofs.RoomLemmas.{step-requests_of}
use Rattle.device_model.proofs.SerialLemmas.{slice_get-dropped}
use Rattle.device_model.proofs.SubmissionLemmas.{refusal, refusal-parts, form_refusal-none, IsInRange-fits}

-- They are the same request.
pub record IsSame (a b : Asked) : Type 0 where
  pub request : b.request ≡ a.request
  pub given : b.given ≡ a.given

IsSame-refl : (a : Asked) → IsSame a a
IsSame-refl a = record { request = refl; given = refl }

IsSame-both : (a b c : Asked) → IsSame a b → IsSame b c → IsSame a c
IsSame-both a b c first second = record { request = second.request ∙ first.request; given = second.given ∙ first.given }

-- What an event may do to the list: nothing; one request goes on; one more is accepted; the unfinished ones are dropped.
pub data Goes (f : DeviceFormat) (before after : List Asked) : Type 0 where
  Stays : after ≡ before → Goes f before after
  GoesOn : (k : ℕ) (a b : Asked) → slice_get before k ≡ Some a → IsSame a b → after ≡ set before k b → Goes f before after
  Accepts : (submission : Submission) → IsFitting f submission
      → after ≡ before ++ newly_asked (request_in f.blocks.block_size submission) (bytes_in submission) ∷ [] → Goes f before after
  Drops : after ≡ map as_dropped before → Goes f before after

as_dropped-same : (request : Request) (given : List ℕ) (served : ℕ) (reply : Reply) (got : List ℕ) (state : RequestState)
    → let a : Asked = record { request = request; given = given; served = served; reply = reply; got = got; state = state } in IsSame a (as_dropped a)
as_dropped-same request given served reply got Unfinished = record { request = refl; given = refl }
as_dropped-same request given served reply got Finished = record { request = refl; given = refl }
as_dropped-same request given served reply got Taken = record { request = refl; given = refl }
as_dropped-same request given served reply got Dropped = record { request = refl; given = refl }

IsSame-dropped : (a : Asked) → IsSame a (as_dropped a)
IsSame-dropped a = as_dropped-same a.request a.given a.served a.reply a.got a.state

module _ (f : DeviceFormat) where
  -- ---- each event

  IsSame-served : (cells : ℕ → Cell) (a : Asked) (r : Request) → IsSame a (with_block_of f cells a r)
  IsSame-served cells a (Read first count) = record { request = refl; given = refl }
  IsSame-served cells a (Write first blocks fua) = record { request = refl; given = refl }
  IsSame-served cells a Flush = record { request = refl; given = refl }

  module _ (s : DeviceState) (k : ℕ) (a : Asked) (there : slice_get s.progress.requests k ≡ Some a) where
    serve_with-goes : (j : Option JournalCounts) → Goes f s.progress.requests (serve_with f s k a j).progress.requests
    serve_with-goes None = Stays refl
    serve_with-goes (Some j) = GoesOn k a (with_block f (cells_now f.blocks.tag s.history) a) there (IsSame-served (cells_now f.blocks.tag s.history) a a.request) refl

    serve_unheld-goes : (held : Option ℕ) → Goes f s.progress.requests (serve_unheld f s k a held).progress.requests
    serve_unheld-goes (Some ticket) = Stays refl
    serve_unheld-goes None = serve_with-goes (journal_with f s.progress.journal a a.request)

    serve_by-goes : (state : RequestState) → Goes f s.progress.requests (serve_by f s k a state).progress.requests
    serve_by-goes Unfinished = serve_unheld-goes (held_by s.progress.requests k a.request)
    serve_by-goes Finished = Stays refl
    serve_by-goes Taken = Stays refl
    serve_by-goes Dropped = Stays refl

    take_by-goes : (state : RequestState) → Goes f s.progress.requests (take_by s.progress k a state).progress.requests
    take_by-goes Unfinished = Stays refl
    take_by-goes Finished = GoesOn k a (record a { state = Taken }) there (record { request = refl; given = refl }) refl
    take_by-goes Taken = Stays refl
    take_by-goes Dropped = Stays refl

  serve_asked-goes : (s : DeviceState) (k : ℕ) (asked : Option Asked) → slice_get s.progress.requests k ≡ asked → Goes f s.progress.requests (serve_asked f s k asked).progress.requests
  serve_asked-goes s k None is = Stays refl
  serve_asked-goes s k (Some a) is = serve_by-goes s k a is a.state

  serve-goes : (s : DeviceState) (ticket : ℕ) → Goes f s.progress.requests (serve f s ticket).progress.requests
  serve-goes s zero = Stays refl
  serve-goes s (suc k) = serve_asked-goes s k (slice_get s.progress.requests k) refl

  take_asked-goes : (s : DeviceState) (k : ℕ) (asked : Option Asked) → slice_get s.progress.requests k ≡ asked → Goes f s.progress.requests (take_asked s.progress k asked).progress.requests
  take_asked-goes s k None is = Stays refl
  take_asked-goes s k (Some a) is = take_by-goes s k a is a.state

  take-goes : (s : DeviceState) (ticket : ℕ) → Goes f s.progress.requests (take_reply s.progress ticket).progress.requests
  take-goes s zero = Stays refl
  take-goes s (suc k) = take_asked-goes s k (slice_get s.progress.requests k) refl

  submit-goes : (p : Progress) (submission : Submission) (refused : Option _) → refusal f p submission ≡ refused → Goes f p.requests (submit_by f p submission refused).progress.requests
  submit-goes p submission (Some answer) is = Stays refl
  submit-goes p submission None is =
      Accepts submission (form_refusal-none f submission (refusal-parts (form_refusal f submission) (slots_refusal f p.requests) is).0) refl

  working-goes : (s : DeviceState) (event : Event) → Goes f s.progress.requests (working_result f s event).progress.requests
  working-goes s (Submit submission) = submit-goes s.progress submission (refusal f s.progress submission) refl
  working-goes s (Serve ticket) = serve-goes s ticket
  working-goes s (Step actor) = Stays (step-requests_of f s.progress actor)
  working-goes s (Take ticket) = take-goes s ticket
  working-goes s Close = Drops (requests-finished f.mode (with_dropped s.progress))
  working-goes s (FailedServe ticket) = Stays refl
  working-goes s (FailedStep actor) = Stays refl
  working-goes s FailedClose = Drops refl

  broken-goes : (s : DeviceState) (event : Event) → Goes f s.progress.requests (broken_result s.progress event).progress.requests
  broken-goes s (Take ticket) = take-goes s ticket
  broken-goes s event = Stays refl

  event-goes : (s : DeviceState) (event : Event) → Goes f s.progress.requests (after_event f s event).progress.requests
  event-goes s event = by s.condition
    where
      by : (c : Condition) → Goes f s.progress.requests (result_in f s c event).progress.requests
      by Working = working-goes s event
      by Broken = broken-goes s event
      by Closed = Stays refl

  -- ---- what each request stays

  Kept : List Asked → ℕ → Asked → Type 0
  Kept after k a = (b : Asked) × (slice_get after k ≡ Some b) × IsSame a b

  slice_get-front : (xs ys : List Asked) (k : ℕ) (a : Asked) → slice_get xs k ≡ Some a → slice_get (xs ++ ys) k ≡ Some a
  slice_get-front [] ys k a is = absurd (none-some a is)
  slice_get-front (x ∷ xs) ys zero a is = is
  slice_get-front (x ∷ xs) ys (suc k) a is = slice_get-front xs ys k a is

  goes-kept : (before after : List Asked) → Goes f before after → (k : ℕ) (a : Asked) → slice_get before k ≡ Some a → Kept after k a
  unfolding Kept
  goes-kept before after (Stays same) k a is = (a, ap (λ (l : List Asked). slice_get l k) same ∙ is, IsSame-refl a)
  goes-kept before after (Accepts submission fits more) k a is =
      (a, ap (λ (l : List Asked). slice_get l k) more ∙ slice_get-front before (newly_asked (request_in f.blocks.block_size submission) (bytes_in submission) ∷ []) k a is, IsSame-refl a)
  goes-kept before after (Drops dropped) k a is =
      (as_dropped a, ap (λ (l : List Asked). slice_get l k) dropped ∙ slice_get-map as_dropped before k ∙ ap (option_map as_dropped) is, IsSame-dropped a)
  goes-kept before after (GoesOn i x b there same goes) k a is = elim (cases_eq k i) [
    | inl here ↦
        let it : x ≡ a = same_Some x a (sym there ∙ sym (ap (slice_get before) here) ∙ is) in
        (b, ap (slice_get after) here ∙ ap (λ (l : List Asked). slice_get l i) goes ∙ slice_get-set_same before i x b there, subst (λ (y : Asked). IsSame y b) it same)
    | inr other ↦ (a, ap (λ (l : List Asked). slice_get l k) goes ∙ slice_get-set_other before i k b other ∙ is, IsSame-refl a)
  ]

  events-kept : (s : DeviceState) (events : List Event) (k : ℕ) (a : Asked) → slice_get s.progress.requests k ≡ Some a → Kept (after_events f s events).progress.requests k a
  unfolding Kept
  events-kept s [] k a is = (a, is, IsSame-refl a)
  events-kept s (event ∷ events) k a is =
      let one = goes-kept s.progress.requests (after_event f s event).progress.requests (event-goes s event) k a is in
      let rest = events-kept (after_event f s event) events k one.0 one.1 in
      (rest.0, rest.1, IsSame-both a one.0 rest.0 one.2 rest.2)

  -- ---- what each request is

  abbrev AreAccepted : List Asked → Type 0
  AreAccepted requests = (k : ℕ) (a : Asked) → slice_get requests k ≡ Some a → IsOfSubmission f a

  IsOfSubmission-same : (a b : Asked) → IsSame a b → IsOfSubmission f a → IsOfSubmission f b
  IsOfSubmission-same a b same is = record {
    submission = is.submission;
    fitting = is.fitting;
    request = same.request ∙ is.request;
    given = same.given ∙ is.given;
  }

  goes-accepted : (before after : List Asked) → Goes f before after → AreAccepted before → AreAccepted after
  goes-accepted before after (Stays same) accepted = subst AreAccepted (sym same) accepted
  goes-accepted before after (Accepts submission fits more) accepted = subst AreAccepted (sym more) (λ k a is. elim (slice_get-push before new k a is) [
    | inl there ↦ accepted k a there
    | inr last ↦ subst (IsOfSubmission f) last.1 (record { submission = submission; fitting = fits; request = refl; given = refl })
  ])
    where
      new : Asked
      new = newly_asked (request_in f.blocks.block_size submission) (bytes_in submission)
  goes-accepted before after (Drops dropped) accepted = subst AreAccepted (sym dropped) each
    where
      each : AreAccepted (map as_dropped before)
      each k b is =
          let was = slice_get-dropped f (λ c. record { bytes = []; tag = [] }) before k b is in
          subst (IsOfSubmission f) was.2 (IsOfSubmission-same was.0 (as_dropped was.0) (IsSame-dropped was.0) (accepted k was.0 was.1))
  goes-accepted before after (GoesOn i x b there same goes) accepted = subst AreAccepted (sym goes) (λ k a is. elim (cases_eq k i) [
    | inl here ↦
        let it : b ≡ a = same_Some b a (sym (slice_get-set_same before i x b there) ∙ sym (ap (slice_get (set before i b)) here) ∙ is) in
        subst (IsOfSubmission f) it (IsOfSubmission-same x b same (accepted i x there))
    | inr other ↦ accepted k a (sym (slice_get-set_other before i k b other) ∙ is)
  ])

  events-accepted : (s : DeviceState) (events : List Event) → AreAccepted s.progress.requests → AreAccepted (after_events f s events).progress.requests
  events-accepted s [] accepted = accepted
  events-accepted s (event ∷ events) accepted =
      events-accepted (after_event f s event) events (goes-accepted s.progress.requests (after_event f s event).progress.requests (event-goes s event) accepted)

-- ---- the laws

pub kept_law : KeptLaw
unfolding Kept
kept_law f s events k a is =
    let kept = events-kept f s events k a is in
    (kept.0, kept.1, kept.2.request, kept.2.given)

pub accepted_law : AcceptedLaw
accepted_law f s reached k a is =
    let opened = opened_device reached.base reached.next reached.set_bits reached.awaiting in
    let all = events-accepted f opened reached.events (λ i x none. absurd (none-some x none)) in
    let one = all k a (sym (ap (λ (t : DeviceState). slice_get t.progress.requests k) reached.is) ∙ is) in
    (one, subst (IsInRange f) (sym one.request) (IsInRange-fits f one.submission one.fitting))
