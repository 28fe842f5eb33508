-- The block that is written next for a request is one that a serve of it writes, in every mode.
use Rattle.std.proofs.Common.{◌≡◌, ℕ, suc, Bool, true, if◌then◌else◌, List, [], ◌∷◌, Some, sym, ◌∙◌, ap, subst}
use Rattle.std.specs.List.{Contains}
use Rattle.std.proofs.lemmas.List.Elements.{Contains-append_left, Contains-push}
use Rattle.device_model.specs.History.{Begun, BlockWrite, Change, Flushed, IsWrittenIn, Written}
use Rattle.device_model.specs.Mode.{DeviceFormat}
use Rattle.device_model.specs.Progress.{DeviceState, EventResult, Serve, Working, block_changes, event_result, is_flushed_by, serve_with}
use Rattle.device_model.specs.Request.{Asked, Write}
use Rattle.journal_laws.specs.EventLaws.{IsServed, next_write}
use Rattle.request_slots.specs.Flight.{Flight, is_in_flight, turn_of}
use Rattle.request_slots.specs.InFlight.{IsFlightOf}
use Rattle.request_slots.specs.declared.turn.Turn.TheVariants as Turns
use Rattle.device_parts.proofs.NextLemmas.{next_of_ticket}

-- A block of a write begins with that.
write_begins : (k : ℕ) (a : Asked) (first : ℕ) (blocks : List (List ℕ)) (fua : Bool)
    → Contains (block_changes (suc k) a (Write first blocks fua)) (Begun (next_write k first blocks a.served))
write_begins k a first blocks fua =
    let write = next_write k first blocks a.served in
    Contains-append_left (Begun write ∷ []) (Written write ∷ (if is_flushed_by a blocks fua then Flushed ∷ [] else []))
    (Begun write) (Contains-push [] (Begun write))

module _ (f : DeviceFormat) (s : DeviceState) (flight : Flight) (is : IsFlightOf f flight s.progress.requests) (works : s.condition ≡ Working)
    (serves : (k : ℕ) (a : Asked) → IsServed s k a → event_result f s (Serve (suc k)) ≡ serve_with f s k a (Some s.progress.journal))
    (ticket : ℕ) (there : is_in_flight ticket flight ≡ true) where
  pub next_is_written : (block : ℕ) (is_flushed : Bool) → turn_of flight ticket ≡ Turns.Write block is_flushed
      → IsWrittenIn (event_result f s (Serve ticket)).changes block
  next_is_written block is_flushed next =
      let own = next_of_ticket f flight s.progress.requests is ticket (Turns.Write block is_flushed) there next in
      let turn = own.turn_ in
      let write : BlockWrite = next_write own.k turn.first turn.blocks own.asked.served in
      let served : event_result f s (Serve (suc own.k)) ≡ serve_with f s own.k own.asked (Some s.progress.journal) =
      serves own.k own.asked (record { works = works; there = own.there; unfinished = turn.unfinished; unheld = turn.unheld }) in
      let changes : (event_result f s (Serve ticket)).changes ≡ block_changes (suc own.k) own.asked (Write turn.first turn.blocks turn.fua) =
      ap (λ (t : ℕ). (event_result f s (Serve t)).changes) own.ticket_ ∙ ap (λ (x : EventResult). x.changes) served
      ∙ ap (block_changes (suc own.k) own.asked) turn.request in
      record {
        write = write;
        begun = subst (λ (l : List Change). Contains l (Begun write)) (sym changes)
            (write_begins own.k own.asked turn.first turn.blocks turn.fua);
        is = sym turn.block_;
      }
