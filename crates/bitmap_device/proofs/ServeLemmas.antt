-- What a serve of a ticket in flight does, by what is done next for it.
use Rattle.std.proofs.Common.{◌≡◌, ℕ, suc, ◌+◌, ◌<◌, Bool, true, if◌then◌else◌, List, length, IfSome, refl, sym, ◌∙◌, ap, subst}
use Rattle.std.specs.Str.{bytes_eq}
use Rattle.disk_model.specs.Disk.{Content}
use Rattle.disk_model.specs.Identity.{DiskIdentity}
use Rattle.image_model.specs.Geometry.{Geometry}
use Rattle.device_model.specs.History.{BlockWrite}
use Rattle.device_model.specs.Progress as Model
use Rattle.journal_laws.specs.EventLaws.{next_write}
use Rattle.place_model.specs.Format.{tagger_of}
use Rattle.bitmap_model.specs.Steps.{after_flush}
use Rattle.bitmap_laws.specs.Device.{with_block}
use Rattle.bitmap_laws.specs.EventLaws.{after_read}
use Rattle.bitmap_laws.proofs.EventLemmas.{after_read-format, failed_flush_law, failed_read_law, failed_write_law}
use Rattle.direct_mode.specs.Cells.{IsBlock, IsTaggedBlock, block_write}
use Rattle.hmac_tag.specs.TagMaker.{TagRule}
use Rattle.request_slots.specs.Flight.{Flight, is_in_flight, slot_of, turn_of}
use Rattle.request_slots.specs.Serving.{next_bytes, with_block_counted, with_block_read, with_change, with_fault, with_finish}
use Rattle.request_slots.specs.declared.turn.Turn.{Turn}
use Rattle.request_slots.specs.declared.turn.Turn.TheVariants as Turns
use Rattle.device_parts.specs.declared.answers.Served.TheVariants as Serves
use Rattle.device_parts.specs.declared.condition.Condition.TheVariants as Conditions
use Rattle.device_parts.specs.declared.parts.Parts.{Parts}
use Rattle.device_parts.specs.Answers as Answers
use Rattle.device_parts.specs.Answers.{served_by, tag_by}
use Rattle.device_parts.specs.Device.{Standing}
use Rattle.device_parts.proofs.NextLemmas.{IsNext, next_of_ticket}
use Rattle.device_parts.proofs.ReadyLemmas.{block-low, length-tag_by}
use Rattle.bitmap_mode.specs.Reading.{HasRead, MayReadBlock, ReadsBlock}
use Rattle.bitmap_mode.specs.Standing.{Leaves, MayTurnInto, StandsIn}
use Rattle.bitmap_mode.specs.States.{States}
use Rattle.bitmap_mode.specs.Writing.{MayWriteBlock, TakesWrite, WritesBlock}
use Rattle.bitmap_device.specs.Device.{BitmapStanding, IsBitmapped, IsOverDisk, IsReady, KeepsTagsIn, kept, marked_on, standing_on}
use Rattle.bitmap_device.proofs.DoneLemmas.{failed_flush, failed_read, failed_write, is_served, served_finished, served_flush, served_held, served_read, served_write, write_is}
use Rattle.bitmap_device.proofs.OverDisk.{HasFailedIn, IsServedAs, rule_told, stands, stands_with}
use Rattle.bitmap_device.proofs.TagLemmas.{tags_may_turn, tags_through}

-- ---- a block of a request

module _ (parts : Parts) (regions : States) (disk : DiskIdentity) (moments : List Content) (ready : IsReady parts regions disk moments) where
  pub block-is : (block : ℕ) (bytes : List ℕ) → block < parts.slots.blocks → length bytes ≡ parts.slots.block_size → IsBlock regions.geometry block bytes
  block-is block bytes low size = subst (λ (g : Geometry). IsBlock g block bytes) (sym ready.geometry) (record {
    low = block-low parts disk moments ready.parts_ block low;
    size = size ∙ ready.parts_.block_size;
  })

  pub tagged-is : (block : ℕ) (bytes : List ℕ) → block < parts.slots.blocks → length bytes ≡ parts.slots.block_size
      → IsTaggedBlock regions.geometry block bytes (tag_by parts.maker parts.spb block bytes)
  tagged-is block bytes low size = record {
    block_ = block-is block bytes low size;
    tag_size = length-tag_by parts disk moments ready.parts_ block bytes ∙ ap (λ (g : Geometry). g.shape.tag_size) (sym ready.geometry);
  }

-- ---- a serve

module _ (w : BitmapStanding) (parts : Parts) (regions : States) (a : List Content) (is : IsOverDisk w Conditions.Working parts regions a) (ticket : ℕ) (there : is_in_flight ticket parts.slots ≡ true) where
  -- The request of the ticket, and what is done next for it.
  next_for : (turn : Turn) → turn_of parts.slots ticket ≡ turn → IsNext w.state.progress.requests ticket turn
  next_for turn told = next_of_ticket w.format parts.slots w.state.progress.requests is.flight ticket turn there told

  pub serve_finished : turn_of parts.slots ticket ≡ Turns.Finished → IsServedAs w ticket Serves.Done parts regions a a
  serve_finished turn =
      let next = next_for Turns.Finished turn in
      subst (λ (t : ℕ). IsServedAs w t Serves.Done parts regions a a) (sym next.ticket_) (served_finished w parts regions a is next.k next.asked next.there next.turn_)

  pub serve_held : (by : ℕ) → turn_of parts.slots ticket ≡ Turns.Held by → IsServedAs w ticket (Serves.Held by) parts regions a a
  serve_held by turn =
      let next = next_for (Turns.Held by) turn in
      subst (λ (t : ℕ). IsServedAs w t (Serves.Held by) parts regions a a) (sym next.ticket_)
      (served_held w parts regions a is next.k next.asked next.there by next.turn_.0 next.turn_.1)

  -- ---- a flush

  module _ (turn : turn_of parts.slots ticket ≡ Turns.Flush) (b : List Content) (through : StandsIn (λ d. d) regions parts.tags a b) where
    pub serve_flush_done : (new : Parts) (states : States) → new.slots ≡ with_change ticket with_finish parts.slots → new.maker ≡ parts.maker
        → Leaves (λ d. after_flush d) regions states parts.tags new.tags a b → IsServedAs w ticket Serves.Done new states a b
    serve_flush_done new states slots maker flushed =
        let next = next_for Turns.Flush turn in
        let has = stands w parts regions a is in
        subst (λ (t : ℕ). IsServedAs w t Serves.Done new states a b) (sym next.ticket_)
        (served_flush w parts regions a is next.k next.asked next.there next.turn_.unfinished next.turn_.unheld next.turn_.request new states b
        (slots ∙ ap (λ (t : ℕ). with_change t with_finish parts.slots) next.ticket_) maker (through w.disk (marked_on w) has) (flushed w.disk (marked_on w) has))

    pub serve_flush_failed : (new : Parts) (states : States) → new.slots ≡ parts.slots → new.maker ≡ parts.maker → HasFailedIn w ticket new states a b
    serve_flush_failed new states slots maker =
        let next = next_for Turns.Flush turn in
        subst (λ (t : ℕ). HasFailedIn w t new states a b) (sym next.ticket_)
        (failed_flush w parts regions a is next.k next.asked next.there next.turn_.unfinished next.turn_.unheld next.turn_.request new states b slots maker
        (through w.disk (marked_on w) (stands w parts regions a is)))

  module _ (disk : DiskIdentity) (ready : IsReady parts regions disk a) where
    computed_told : (block : ℕ) (bytes : List ℕ) → tag_by parts.maker parts.spb block bytes ≡ tagger_of w.disk.format block bytes
    computed_told = rule_told w parts regions a is parts.spb (ready.parts_.spb ∙ sym (ap (λ (g : Geometry). g.shape.spb) (stands w parts regions a is).geometry))

    -- ---- a block of a read

    module _ (block : ℕ) (turn : turn_of parts.slots ticket ≡ Turns.Read block) (b : List Content) where
      pub serve_read_done : (mid new : Parts) (states : States) (stored : List ℕ)
          → mid.slots ≡ parts.slots → mid.maker ≡ parts.maker → mid.spb ≡ parts.spb → length mid.buffer.items ≡ parts.slots.block_size
          → new ≡ record mid { slots = Answers.after_read ticket block stored mid }
          → ReadsBlock parts.maker block mid.buffer.items stored regions states parts.tags mid.tags a b
          → IsServedAs w ticket (served_by (turn_of new.slots ticket)) new states a b
      serve_read_done mid new states stored slots maker spb size new_ reads =
          let next = next_for (Turns.Read block) turn in
          let bytes = mid.buffer.items in
          let computed = tag_by mid.maker mid.spb block bytes in
          let told : computed ≡ tagger_of w.disk.format block bytes =
          ap (λ (rule : TagRule). tag_by rule mid.spb block bytes) maker ∙ ap (λ (n : ℕ). tag_by parts.maker n block bytes) spb ∙ computed_told block bytes in
          let in_flight : new.slots ≡ (if bytes_eq stored computed then with_change (suc next.k) (with_block_read parts.slots.block_size bytes) parts.slots
          else with_change (suc next.k) (with_fault block stored computed) parts.slots) =
          ap (λ (p : Parts). p.slots) new_ ∙ ap (λ (x : Flight). if bytes_eq stored computed then with_change ticket (with_block_read x.block_size bytes) x else with_change ticket (with_fault block stored computed) x) slots
          ∙ ap (λ (t : ℕ). if bytes_eq stored computed then with_change t (with_block_read parts.slots.block_size bytes) parts.slots else with_change t (with_fault block stored computed) parts.slots) next.ticket_ in
          let has = reads w.disk (marked_on w) (stands_with w parts regions a is ready.geometry) in
          subst (λ (t : ℕ). IsServedAs w t (served_by (turn_of new.slots t)) new states a b) (sym next.ticket_)
          (served_read w parts regions a is next.k next.asked next.there next.turn_.unfinished next.turn_.unheld next.turn_.first next.turn_.count next.turn_.request
          block bytes stored computed new states b next.turn_.block_ size told in_flight (ap (λ (p : Parts). p.maker) new_ ∙ maker)
          (subst (λ (p : Parts). HasRead w.disk (marked_on w) block bytes stored states p.tags a b) (sym new_) has))

      pub serve_read_failed : (new : Parts) (states : States) → new.slots ≡ parts.slots → new.maker ≡ parts.maker
          → MayReadBlock parts.maker block regions parts.tags a b → HasFailedIn w ticket new states a b
      serve_read_failed new states slots maker may =
          let next = next_for (Turns.Read block) turn in
          subst (λ (t : ℕ). HasFailedIn w t new states a b) (sym next.ticket_)
          (failed_read w parts regions a is next.k next.asked next.there next.turn_.unfinished next.turn_.unheld next.turn_.first next.turn_.count next.turn_.request
          block new states b next.turn_.block_ slots maker (may w.disk (marked_on w) (stands_with w parts regions a is ready.geometry)))

    -- ---- a block of a write

    module _ (block : ℕ) (flushes : Bool) (turn : turn_of parts.slots ticket ≡ Turns.Write block flushes) (bytes : List ℕ)
        (bytes_ : IfSome (slot_of ticket parts.slots) (λ slot. bytes ≡ next_bytes parts.slots.block_size slot))
        (tag : List ℕ) (tag_ : tag ≡ tag_by parts.maker parts.spb block bytes) (b : List Content) where
      write_next : IsNext w.state.progress.requests ticket (Turns.Write block flushes)
      write_next = next_for (Turns.Write block flushes) turn

      bytes_told : IfSome (slot_of (suc write_next.k) parts.slots) (λ slot. bytes ≡ next_bytes parts.slots.block_size slot)
      bytes_told = subst (λ (t : ℕ). IfSome (slot_of t parts.slots) (λ slot. bytes ≡ next_bytes parts.slots.block_size slot)) write_next.ticket_ bytes_

      takes : TakesWrite w.disk (marked_on w) (block_write (suc write_next.k) block bytes) tag regions parts.tags a
      takes = record { stands = stands w parts regions a is; tag_ = tag_ ∙ computed_told block bytes }

      pub serve_write_done : (new : Parts) (states : States) → WritesBlock block bytes tag flushes regions states parts.tags new.tags a b
          → new.slots ≡ with_change ticket with_block_counted parts.slots → new.maker ≡ parts.maker → IsServedAs w ticket (served_by (turn_of new.slots ticket)) new states a b
      serve_write_done new states writes slots maker =
          let next = write_next in
          subst (λ (t : ℕ). IsServedAs w t (served_by (turn_of new.slots t)) new states a b) (sym next.ticket_)
          (served_write w parts regions a is next.k next.asked next.there next.turn_.unfinished next.turn_.unheld next.turn_.first next.turn_.blocks next.turn_.fua next.turn_.request
          block bytes next.turn_.block_ bytes_told flushes new states b next.turn_.flushes_ (writes w.disk (suc next.k) (marked_on w) takes)
          (slots ∙ ap (λ (t : ℕ). with_change t with_block_counted parts.slots) next.ticket_) maker)

      pub serve_write_failed : (new : Parts) (states : States) → MayWriteBlock block bytes tag regions parts.tags a b
          → new.slots ≡ parts.slots → new.maker ≡ parts.maker → HasFailedIn w ticket new states a b
      serve_write_failed new states may slots maker =
          let next = write_next in
          subst (λ (t : ℕ). HasFailedIn w t new states a b) (sym next.ticket_)
          (failed_write w parts regions a is next.k next.asked next.there next.turn_.unfinished next.turn_.unheld next.turn_.first next.turn_.blocks next.turn_.fua next.turn_.request
          block bytes next.turn_.block_ bytes_told new states b (may w.disk (suc next.k) (marked_on w) takes) slots maker)

-- ---- the tags of blocks without a write

module _ (w : Standing) (parts : Parts) (regions : States) (a : List Content) (is : IsBitmapped w Conditions.Working (kept parts regions) a) (ticket : ℕ) (there : is_in_flight ticket parts.slots ≡ true) (b : List Content) where
  abbrev on : BitmapStanding
  on = standing_on w is.disk

  next_on : (turn : Turn) → turn_of parts.slots ticket ≡ turn → IsNext w.state.progress.requests ticket turn
  next_on turn told = next_for on parts regions a is.over ticket there turn told

  pub flush_tags : turn_of parts.slots ticket ≡ Turns.Flush → StandsIn (λ d. d) regions parts.tags a b → KeepsTagsIn w (Model.FailedServe ticket) a b
  flush_tags turn through =
      let next = next_on Turns.Flush turn in
      let served = is_served on parts regions a is.over next.k next.asked next.there next.turn_.unfinished next.turn_.unheld in
      subst (λ (t : ℕ). KeepsTagsIn w (Model.FailedServe t) a b) (sym next.ticket_)
      (tags_through w Conditions.Working (kept parts regions) a is (Model.FailedServe (suc next.k)) is.disk refl
      (failed_flush_law w.format w.state is.disk next.k next.asked is.over.device served next.turn_.request) a b
      (through is.disk (marked_on on) (stands on parts regions a is.over)))

  module _ (disk : DiskIdentity) (ready : IsReady parts regions disk a) where
    pub read_tags : (block : ℕ) → turn_of parts.slots ticket ≡ Turns.Read block → MayReadBlock parts.maker block regions parts.tags a b → KeepsTagsIn w (Model.FailedServe ticket) a b
    read_tags block turn may =
        let next = next_on (Turns.Read block) turn in
        let served = is_served on parts regions a is.over next.k next.asked next.there next.turn_.unfinished next.turn_.unheld in
        let keeps = failed_read_law w.format w.state is.disk next.k next.asked next.turn_.first next.turn_.count is.over.device served next.turn_.request in
        let then_ = next.turn_.first + next.asked.served in
        subst (λ (t : ℕ). KeepsTagsIn w (Model.FailedServe t) a b) (sym next.ticket_)
        (tags_may_turn w Conditions.Working (kept parts regions) a is (Model.FailedServe (suc next.k)) is.disk (after_read is.disk then_) refl keeps.0
        (after_read-format is.disk then_) keeps.1 a b
        (subst (λ (n : ℕ). MayTurnInto is.disk (after_read is.disk n) (marked_on on) a b) next.turn_.block_
        (may is.disk (marked_on on) (stands_with on parts regions a is.over ready.geometry))))

    pub write_tags : (block : ℕ) (flushes : Bool) → turn_of parts.slots ticket ≡ Turns.Write block flushes → (bytes : List ℕ)
        → IfSome (slot_of ticket parts.slots) (λ slot. bytes ≡ next_bytes parts.slots.block_size slot)
        → (tag : List ℕ) → tag ≡ tag_by parts.maker parts.spb block bytes → MayWriteBlock block bytes tag regions parts.tags a b → KeepsTagsIn w (Model.FailedServe ticket) a b
    write_tags block flushes turn bytes bytes_ tag tag_ may =
        let next = next_on (Turns.Write block flushes) turn in
        let served = is_served on parts regions a is.over next.k next.asked next.there next.turn_.unfinished next.turn_.unheld in
        let write = next_write next.k next.turn_.first next.turn_.blocks next.asked.served in
        let keeps = failed_write_law w.format w.state is.disk next.k next.asked next.turn_.first next.turn_.blocks next.turn_.fua is.over.device served next.turn_.request in
        let bytes_then = subst (λ (t : ℕ). IfSome (slot_of t parts.slots) (λ slot. bytes ≡ next_bytes parts.slots.block_size slot)) next.ticket_ bytes_ in
        let same = write_is on parts regions a is.over next.k next.asked next.there next.turn_.unfinished next.turn_.unheld next.turn_.first next.turn_.blocks next.turn_.fua next.turn_.request
        block bytes next.turn_.block_ bytes_then in
        subst (λ (t : ℕ). KeepsTagsIn w (Model.FailedServe t) a b) (sym next.ticket_)
        (tags_may_turn w Conditions.Working (kept parts regions) a is (Model.FailedServe (suc next.k)) is.disk (with_block is.disk write) refl keeps.2
        refl keeps.1 a b
        (subst (λ (x : BlockWrite). MayTurnInto is.disk (with_block is.disk x) (marked_on on) a b) same
        (may is.disk (suc next.k) (marked_on on)
        (record { stands = stands on parts regions a is.over; tag_ = tag_ ∙ computed_told on parts regions a is.over ticket there disk ready block bytes }))))
