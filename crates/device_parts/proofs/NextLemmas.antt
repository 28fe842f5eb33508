-- The request of a ticket in flight, as `device_model` has it, and what a serve makes of it, in every mode.
use Rattle.std.proofs.Common.{◌≡◌, ℕ, zero, suc, ◌+◌, ◌*◌, ◌<◌, ◌++◌, Bool, true, false, if◌then◌else◌, List, [], ◌∷◌, length, take, drop, set, get_or, slice_get, Option, Some, IfSome, refl, sym, ◌∙◌, ap, subst, arith}
use Rattle.std.specs.List.{list_any}
use Rattle.std.specs.Str.{bytes_eq}
use Rattle.std.proofs.lemmas.Bool.{true≢false}
use Rattle.std.proofs.lemmas.Option.{none-some}
use Rattle.image_model.specs.Cells.{Cell}
use Rattle.device_model.specs.History.{Tagger, cells_now}
use Rattle.device_model.specs.Journal.{JournalCounts}
use Rattle.device_model.specs.Mode.{DeviceFormat}
use Rattle.device_model.specs.Progress as Model
use Rattle.device_model.specs.Reply as ModelReply
use Rattle.device_model.specs.Request as Asks
use Rattle.device_model.specs.RequestLaws.{IsReached, requests_of}
use Rattle.device_model.specs.Serial.{readable_cells, serial_cells}
use Rattle.device_model.specs.Submission as Submissions
use Rattle.device_model.proofs.SerialLemmas.{IsServedPart}
use Rattle.device_model.proofs.SubmissionLemmas.{get_or-blocks_in, length-blocks_in, result-working}
use Rattle.direct_laws.specs.JournalLawsEventLaws.{IsServed}
use Rattle.direct_laws.proofs.DeviceLemmas.{serving-works}
use Rattle.request_slots.specs.Flight.{Flight, bytes_in, is_in_flight, is_of, slot_of, turn_of}
use Rattle.request_slots.specs.InFlight.{IsFlightOf, blocks_read, bytes_now, request_with, slot_for}
use Rattle.request_slots.specs.Serving.{next_bytes, with_block_read, with_change, with_fault}
use Rattle.request_slots.specs.declared.slot.Slot.{Slot}
use Rattle.request_slots.specs.declared.turn.Turn.{Turn}
use Rattle.request_slots.proofs.ServeEventLemmas.{flight_fault, flight_read, got_none}
use Rattle.device_parts.proofs.TurnLemmas.{IsTurnOf, placed, slot-is, turn_is}

-- The request of a ticket in flight, and what is done next for it.
pub record IsNext (requests : List Asks.Asked) (ticket : ℕ) (turn : Turn) : Type 0 where
  pub k : ℕ
  pub asked : Asks.Asked
  pub ticket_ : ticket ≡ suc k
  pub there : slice_get requests k ≡ Some asked
  pub open_ : Asks.is_over asked.state ≡ false
  pub turn_ : IsTurnOf requests k asked turn

pub next_of_ticket : (f : DeviceFormat) (flight : Flight) (requests : List Asks.Asked) → IsFlightOf f flight requests → (ticket : ℕ) (turn : Turn)
    → is_in_flight ticket flight ≡ true → turn_of flight ticket ≡ turn → IsNext requests ticket turn
next_of_ticket f flight requests is ticket turn in_flight told =
    let place = placed ticket 1 requests (sym (ap (λ (xs : List Slot). list_any (is_of ticket) xs) is.slots) ∙ in_flight) in
    let ticket_is : ticket ≡ suc place.place = let same = place.is in omega (arith, same) in
    record {
      k = place.place;
      asked = place.asked;
      ticket_ = ticket_is;
      there = place.there;
      open_ = place.open_;
      turn_ = subst (IsTurnOf requests place.place place.asked) (ap (turn_of flight) (sym ticket_is) ∙ told)
          (turn_is f flight requests is place.place place.asked place.there place.open_);
    }

module _ (f : DeviceFormat) (s : Model.DeviceState) where
  -- ---- nothing is done

  module _ (works : s.condition ≡ Model.Working) (k : ℕ) (r : Asks.Asked) (there : slice_get s.progress.requests k ≡ Some r) where
    serve-state : (state : Asks.RequestState) → r.state ≡ state → Model.event_result f s (Model.Serve (suc k)) ≡ Model.serve_by f s k r state
    serve-state state e = result-working f s (Model.Serve (suc k)) works ∙ ap (Model.serve_asked f s k) there ∙ ap (Model.serve_by f s k r) e

    -- A request that is done stays so,
    pub finished-is : r.state ≡ Asks.Finished → Model.event_result f s (Model.Serve (suc k)) ≡ Model.only_answers s.progress Model.Done
    finished-is e = serve-state Asks.Finished e

    -- and one that another holds waits for it.
    pub held-is : (by : ℕ) → r.state ≡ Asks.Unfinished → Asks.held_by s.progress.requests k r.request ≡ Some by
        → Model.event_result f s (Model.Serve (suc k)) ≡ Model.only_answers s.progress (Model.HeldBy by)
    held-is by e held = serve-state Asks.Unfinished e ∙ ap (Model.serve_unheld f s k r) held

  -- ---- a request that is served

  -- It with its next block, and the requests with it so.
  abbrev pub served_asked : Asks.Asked → Asks.Asked
  served_asked r = Model.with_block f (cells_now f.blocks.tag s.history) r

  abbrev pub requests_then : ℕ → Asks.Asked → List Asks.Asked
  requests_then k r = set s.progress.requests k (served_asked r)

  module _ (k : ℕ) (r : Asks.Asked) (served : IsServed s k r) where
    -- What a serve of it gives, where the journal has room.
    pub serve_is : (request : Asks.Request) → r.request ≡ request → Model.serve f s (suc k) ≡ Model.serve_with f s k r (Model.journal_with f s.progress.journal r request)
    serve_is request e =
        ap (Model.serve_asked f s k) served.there ∙ ap (Model.serve_by f s k r) served.unfinished ∙ ap (Model.serve_unheld f s k r) served.unheld
        ∙ ap (λ (x : Asks.Request). Model.serve_with f s k r (Model.journal_with f s.progress.journal r x)) e

    pub result_is : (request : Asks.Request) (j : JournalCounts) → r.request ≡ request → Model.journal_with f s.progress.journal r request ≡ Some j
        → Model.event_result f s (Model.Serve (suc k)) ≡ Model.serve_with f s k r (Some j)
    result_is request j e put = result-working f s (Model.Serve (suc k)) served.works ∙ serve_is request e ∙ ap (Model.serve_with f s k r) put

    pub there_then : slice_get (requests_then k r) k ≡ Some (served_asked r)
    there_then = set_there s.progress.requests k r served.there (served_asked r)
      where
        set_there : (xs : List Asks.Asked) (i : ℕ) (x : Asks.Asked) → slice_get xs i ≡ Some x → (y : Asks.Asked) → slice_get (set xs i y) i ≡ Some y
        set_there [] i x at y = absurd (none-some x at)
        set_there (z ∷ xs) zero x at y = refl
        set_there (z ∷ xs) (suc i) x at y = set_there xs i x at y

    finished_open : (b : Bool) → Asks.is_over (Model.finished_if b) ≡ false
    finished_open true = refl
    finished_open false = refl

    pub open_then : Asks.is_over (served_asked r).state ≡ false
    open_then = by r.request refl
      where
        by : (q : Asks.Request) → r.request ≡ q → Asks.is_over (served_asked r).state ≡ false
        by (Asks.Read first count) e = ap (λ (x : Asks.Request). Asks.is_over (Model.with_block_of f (cells_now f.blocks.tag s.history) r x).state) e ∙ finished_open _
        by (Asks.Write first blocks fua) e = ap (λ (x : Asks.Request). Asks.is_over (Model.with_block_of f (cells_now f.blocks.tag s.history) r x).state) e ∙ finished_open _
        by Asks.Flush e = ap (λ (x : Asks.Request). Asks.is_over (Model.with_block_of f (cells_now f.blocks.tag s.history) r x).state) e

    module _ (flight : Flight) (is : IsFlightOf f flight s.progress.requests) where
      -- ---- a block that was read, with the tag that is stored for it

      pub flight_put : (tagger : Tagger) (first count block : ℕ) (bytes stored computed : List ℕ) → r.request ≡ Asks.Read first count → block ≡ first + r.served → length bytes ≡ f.blocks.block_size
          → computed ≡ tagger block bytes
          → ModelReply.block_reply f.blocks.tag block (readable_cells f (cells_now f.blocks.tag s.history) block) ≡ ModelReply.block_reply tagger block (record { bytes = bytes; tag = stored })
          → IsFlightOf f (if bytes_eq stored computed then with_change (suc k) (with_block_read flight.block_size bytes) flight
          else with_change (suc k) (with_fault block stored computed) flight) (requests_then k r)
      flight_put tagger first count block bytes stored computed e block_ size computed_ told = by (bytes_eq stored computed) refl
        where
          cells_then : ℕ → Cell
          cells_then = cells_now f.blocks.tag s.history

          next_told : ModelReply.block_reply f.blocks.tag (Model.next_block r) (readable_cells f cells_then (Model.next_block r))
              ≡ (if bytes_eq stored computed then ModelReply.Bytes bytes else ModelReply.TagFault block stored computed)
          next_told =
              ap (λ (n : ℕ). ModelReply.block_reply f.blocks.tag n (readable_cells f cells_then n)) (ap (λ (q : Asks.Request). Asks.first_of q + r.served) e ∙ sym block_)
              ∙ told ∙ ap (λ (x : List ℕ). if bytes_eq stored x then ModelReply.Bytes bytes else ModelReply.TagFault block stored x) (sym computed_)

          by : (c : Bool) → bytes_eq stored computed ≡ c → IsFlightOf f (if bytes_eq stored computed then with_change (suc k) (with_block_read flight.block_size bytes) flight
              else with_change (suc k) (with_fault block stored computed) flight) (requests_then k r)
          by true q =
              subst (λ (x : Bool). IsFlightOf f (if x then with_change (suc k) (with_block_read flight.block_size bytes) flight else with_change (suc k) (with_fault block stored computed) flight) (requests_then k r)) (sym q)
              (flight_read f cells_then flight s.progress.requests k r is served.there served.unfinished first count bytes e size
              (next_told ∙ ap (λ (x : Bool). if x then ModelReply.Bytes bytes else ModelReply.TagFault block stored computed) q))
          by false q =
              subst (λ (x : Bool). IsFlightOf f (if x then with_change (suc k) (with_block_read flight.block_size bytes) flight else with_change (suc k) (with_fault block stored computed) flight) (requests_then k r)) (sym q)
              (flight_fault f cells_then flight s.progress.requests k r is served.there served.unfinished first count block stored computed e
              (next_told ∙ ap (λ (x : Bool). if x then ModelReply.Bytes bytes else ModelReply.TagFault block stored computed) q))

      -- ---- a block of a write

      module _ (reached : IsReached f s) (first : ℕ) (blocks : List (List ℕ)) (fua : Bool) (e : r.request ≡ Asks.Write first blocks fua) where
        below : r.served < length blocks
        below =
            let part : IsServedPart f (serial_cells f 1 s.history.base (take k (requests_of s.progress.requests))) r r.request = (serving-works f s reached served.works).stands.each k r served.there in
            (subst (IsServedPart f (serial_cells f 1 s.history.base (take k (requests_of s.progress.requests))) r) e part).0 (ap Asks.is_unfinished served.unfinished)

        abbrev blocks_in_request : Asks.Request → List (List ℕ)
        blocks_in_request (Asks.Read x y) = []
        blocks_in_request (Asks.Write x ys z) = ys
        blocks_in_request Asks.Flush = []

        abbrev is_write : Asks.Request → Bool
        is_write (Asks.Read x y) = false
        is_write (Asks.Write x ys z) = true
        is_write Asks.Flush = false

        given_is : get_or blocks r.served [] ≡ take f.blocks.block_size (drop (r.served * f.blocks.block_size) r.given)
        given_is = let sub = (is.each k r served.there).1 in by sub.submission (sym e ∙ sub.request) sub.given
          where
            by : (sub : Submissions.Submission) → Asks.Write first blocks fua ≡ Submissions.request_in f.blocks.block_size sub → r.given ≡ Submissions.bytes_in sub
                → get_or blocks r.served [] ≡ take f.blocks.block_size (drop (r.served * f.blocks.block_size) r.given)
            by (Submissions.Submission.Read x y buffer) same given = absurd (true≢false (ap is_write same))
            by (Submissions.Submission.Write x many bytes z) same given =
                let same_blocks : blocks ≡ Submissions.blocks_in f.blocks.block_size many bytes = ap blocks_in_request same in
                let low : r.served < many = subst (λ (n : ℕ). r.served < n) (ap (λ (xs : List (List ℕ)). length xs) same_blocks ∙ length-blocks_in f.blocks.block_size many bytes) below in
                ap (λ (xs : List (List ℕ)). get_or xs r.served []) same_blocks ∙ get_or-blocks_in f.blocks.block_size many bytes r.served low
                ∙ ap (λ (xs : List ℕ). take f.blocks.block_size (drop (r.served * f.blocks.block_size) xs)) (sym given)
            by Submissions.Submission.Flush same given = absurd (true≢false (ap is_write same))

        bytes_is : next_bytes flight.block_size (slot_for (1 + k) r) ≡ get_or blocks r.served []
        bytes_is =
            let read = (is.each k r served.there).0 in
            let none = got_none f.blocks.block_size r read (read.open_ (ap Asks.is_unfinished served.unfinished)) (ap (blocks_read r) e) in
            ap (λ (n : ℕ). next_bytes n (slot_for (1 + k) r)) is.block_size
            ∙ ap (λ (q : Asks.Request). take f.blocks.block_size (drop (r.served * f.blocks.block_size) (bytes_in (request_with q (bytes_now r))))) e
            ∙ ap (λ (xs : List ℕ). take f.blocks.block_size (drop (r.served * f.blocks.block_size) (xs ++ drop (length xs) r.given))) none
            ∙ sym given_is

        -- The bytes that come next are those of the write.
        pub bytes-next : (bytes : List ℕ) → IfSome (slot_of (suc k) flight) (λ slot. bytes ≡ next_bytes flight.block_size slot) → bytes ≡ get_or blocks r.served []
        bytes-next bytes bytes_ =
            subst (λ (o : Option Slot). IfSome o (λ slot. bytes ≡ next_bytes flight.block_size slot))
            (slot-is f flight s.progress.requests is k r served.there (ap Asks.is_over served.unfinished)) bytes_ ∙ bytes_is
