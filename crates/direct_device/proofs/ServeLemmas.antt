-- What a serve of a ticket in flight does, by what is done next for it.
use Rattle.std.proofs.Common.{◌≡◌, ℕ, suc, ◌*◌, ◌<◌, Bool, true, if◌then◌else◌, List, length, IfSome, refl, sym, ◌∙◌, ap, subst}
use Rattle.std.specs.Str.{bytes_eq}
use Rattle.disk_model.specs.Disk.{Content, Reads}
use Rattle.disk_model.specs.Identity.{DiskIdentity}
use Rattle.disk_model.specs.Moments.{HasNow}
use Rattle.image_model.specs.Geometry.{Geometry, data_at}
use Rattle.image_model.specs.Cells.{salt_of}
use Rattle.image_model.specs.Tag.{tag_of}
use Rattle.place_model.specs.Format.{tagger_of}
use Rattle.direct_model.specs.Steps.{after_flush}
use Rattle.direct_mode.specs.CallLaws.{StandsThrough}
use Rattle.direct_mode.specs.Cells.{HasCells, IsBlock, IsTaggedBlock, KeepsDisk}
use Rattle.direct_mode.specs.Serving.{HasFailed, HasServed, ServedWrite, WritesNext}
use Rattle.tag_store.specs.Store.{Store, given_tags}
use Rattle.recalculation.specs.declared.recalculating.Recalculation.{Recalculation}
use Rattle.hmac_tag.specs.TagMaker.{TagRule}
use Rattle.request_slots.specs.Flight.{Flight, is_in_flight, slot_of, turn_of}
use Rattle.request_slots.specs.Serving.{next_bytes, with_block_counted, with_block_read, with_change, with_fault, with_finish}
use Rattle.request_slots.specs.declared.turn.Turn.{Turn}
use Rattle.request_slots.specs.declared.turn.Turn.TheVariants as Turns
use Rattle.device_parts.specs.declared.answers.Served.TheVariants as Serves
use Rattle.device_parts.specs.declared.condition.Condition.TheVariants as Conditions
use Rattle.device_parts.specs.declared.parts.Parts.{Parts}
use Rattle.device_parts.specs.Answers.{after_read, served_by, tag_by}
use Rattle.device_parts.specs.Device.{IsReady}
use Rattle.device_parts.proofs.NextLemmas.{IsNext, next_of_ticket}
use Rattle.device_parts.proofs.ReadyLemmas.{block-low, length-tag_by}
use Rattle.direct_device.specs.Device.{DirectStanding, IsOverDisk}
use Rattle.direct_device.specs.Taking.{IsTaken, IsToRead, awaiting_read}
use Rattle.direct_device.proofs.OverDisk.{HasFailedIn, IsServedAs}
use Rattle.direct_device.proofs.DoneLemmas.{failed_flush, failed_read, failed_write, served_finished, served_flush, served_held, served_read, served_write, writes_next}

-- ---- a block of a request

module _ (parts : Parts) (disk : DiskIdentity) (moments : List Content) (ready : IsReady parts disk moments) where
  pub block-is : (block : ℕ) (bytes : List ℕ) → block < parts.slots.blocks → length bytes ≡ parts.slots.block_size → IsBlock parts.tags.geometry block bytes
  block-is block bytes low size = record {
    low = block-low parts disk moments ready block low;
    size = size ∙ ready.block_size;
  }

  pub tagged-is : (block : ℕ) (bytes : List ℕ) → block < parts.slots.blocks → length bytes ≡ parts.slots.block_size
      → IsTaggedBlock parts.tags.geometry block bytes (tag_by parts.maker parts.spb block bytes)
  tagged-is block bytes low size = record {
    block_ = block-is block bytes low size;
    tag_size = length-tag_by parts disk moments ready block bytes;
  }

-- ---- a serve

module _ (w : DirectStanding) (parts : Parts) (recalculation : Recalculation) (a : List Content) (is : IsOverDisk w Conditions.Working parts recalculation a) (ticket : ℕ) (there : is_in_flight ticket parts.slots ≡ true) where
  abbrev Next : Turn → Type 0
  Next turn = IsNext w.state.progress.requests ticket turn

  next_told : (turn : Turn) → turn_of parts.slots ticket ≡ turn → Next turn
  next_told turn told = next_of_ticket w.format parts.slots w.state.progress.requests is.flight ticket turn there told

  pub serve_finished : turn_of parts.slots ticket ≡ Turns.Finished → IsServedAs w ticket Serves.Done parts recalculation a a
  serve_finished turn =
      let next = next_told Turns.Finished turn in
      subst (λ (t : ℕ). IsServedAs w t Serves.Done parts recalculation a a) (sym next.ticket_) (served_finished w parts recalculation a is next.k next.asked next.there next.turn_)

  pub serve_held : (by : ℕ) → turn_of parts.slots ticket ≡ Turns.Held by → IsServedAs w ticket (Serves.Held by) parts recalculation a a
  serve_held by turn =
      let next = next_told (Turns.Held by) turn in
      subst (λ (t : ℕ). IsServedAs w t (Serves.Held by) parts recalculation a a) (sym next.ticket_) (served_held w parts recalculation a is next.k next.asked next.there by next.turn_.0 next.turn_.1)

  module _ (turn : turn_of parts.slots ticket ≡ Turns.Flush) where
    flush_next : Next Turns.Flush
    flush_next = next_told Turns.Flush turn

    pub serve_flush_done : (new : Parts) (b : List Content) → new.slots ≡ with_change ticket with_finish parts.slots → new.maker ≡ parts.maker
        → StandsThrough w.disk a b → HasCells (after_flush w.disk) w.state.progress.regions.awaiting new.tags b → IsServedAs w ticket Serves.Done new recalculation a b
    serve_flush_done new b slots maker through has =
        let next = flush_next in
        subst (λ (t : ℕ). IsServedAs w t Serves.Done new recalculation a b) (sym next.ticket_)
        (served_flush w parts recalculation a is next.k next.asked next.there next.turn_.unfinished next.turn_.unheld new b next.turn_.request
        (slots ∙ ap (λ (t : ℕ). with_change t with_finish parts.slots) next.ticket_) maker through has)

    pub serve_flush_failed : (new : Parts) (b : List Content) → new.slots ≡ parts.slots → new.maker ≡ parts.maker → StandsThrough w.disk a b → HasFailedIn w ticket new recalculation a b
    serve_flush_failed new b slots maker through =
        let next = flush_next in
        subst (λ (t : ℕ). HasFailedIn w t new recalculation a b) (sym next.ticket_)
        (failed_flush w parts recalculation a is next.k next.asked next.there next.turn_.unfinished next.turn_.unheld new b next.turn_.request slots maker through)

  rule_told : (disk : DiskIdentity) → IsReady parts disk a → (block : ℕ) (bytes : List ℕ) → tag_by parts.maker parts.spb block bytes ≡ tagger_of w.disk.format block bytes
  rule_told disk ready block bytes =
      ap (λ (rule : TagRule). tag_of rule.key rule.salt rule.size (block * parts.spb) bytes) is.rule
      ∙ ap (λ (n : ℕ). tag_of w.disk.format.key (salt_of w.disk.format.superblock) w.disk.format.geometry.shape.tag_size (block * n) bytes)
      (ready.spb ∙ sym (ap (λ (g : Geometry). g.shape.spb) (is.works refl).cells.geometry))

  -- The disk has its cells with the regions that await, before a block is read.
  pub to_read : IsToRead w.disk w.state.progress.regions.awaiting parts.maker recalculation parts.tags a
  to_read = record { cells = (is.works refl).cells; recalculation_ = (is.works refl).recalculation_; rule_ = is.rule }

  module _ (block : ℕ) (turn : turn_of parts.slots ticket ≡ Turns.Read block) (low : block < parts.slots.blocks) where
    read_next : Next (Turns.Read block)
    read_next = next_told (Turns.Read block) turn

    pub serve_read_done : (disk : DiskIdentity) (store : Store) (mid new : Parts) (last : Recalculation) (stored : List ℕ) (m b : List Content) → IsReady parts disk a
        → mid.slots ≡ parts.slots → mid.maker ≡ parts.maker → mid.spb ≡ parts.spb → length mid.buffer.items ≡ parts.slots.block_size
        → new ≡ record mid { slots = after_read ticket block stored mid }
        → IsTaken w.disk w.state.progress.regions.awaiting block last store a m
        → KeepsDisk w.disk (awaiting_read w.disk.geometry block w.state.progress.regions.awaiting) mid.tags m b
        → HasNow (Reads (data_at store.geometry block) mid.buffer.items) m → HasNow (λ c. stored ≡ given_tags store c block) m
        → IsServedAs w ticket (served_by (turn_of new.slots ticket)) new last a b
    serve_read_done disk store mid new last stored m b ready slots maker spb size new_ taken kept reads tag =
        let next = read_next in
        let bytes = mid.buffer.items in
        let computed = tag_by mid.maker mid.spb block bytes in
        let told : computed ≡ tagger_of w.disk.format block bytes =
        ap (λ (rule : TagRule). tag_by rule mid.spb block bytes) maker ∙ ap (λ (n : ℕ). tag_by parts.maker n block bytes) spb ∙ rule_told disk ready block bytes in
        let in_flight : new.slots ≡ (if bytes_eq stored computed then with_change (suc next.k) (with_block_read parts.slots.block_size bytes) parts.slots
        else with_change (suc next.k) (with_fault block stored computed) parts.slots) =
        ap (λ (p : Parts). p.slots) new_ ∙ ap (λ (x : Flight). if bytes_eq stored computed then with_change ticket (with_block_read x.block_size bytes) x else with_change ticket (with_fault block stored computed) x) slots
        ∙ ap (λ (t : ℕ). if bytes_eq stored computed then with_change t (with_block_read parts.slots.block_size bytes) parts.slots else with_change t (with_fault block stored computed) parts.slots) next.ticket_ in
        subst (λ (t : ℕ). IsServedAs w t (served_by (turn_of new.slots t)) new last a b) (sym next.ticket_)
        (served_read w parts recalculation a is next.k next.asked next.there next.turn_.unfinished next.turn_.unheld next.turn_.first next.turn_.count block bytes stored computed store new last m b next.turn_.request next.turn_.block_
        low size told in_flight (ap (λ (p : Parts). p.maker) new_ ∙ maker) taken
        (subst (λ (p : Parts). KeepsDisk w.disk (awaiting_read w.disk.geometry block w.state.progress.regions.awaiting) p.tags m b) (sym new_) kept) reads tag)

    pub serve_read_failed : (new : Parts) (last : Recalculation) (b : List Content) → new.slots ≡ parts.slots → new.maker ≡ parts.maker → StandsThrough w.disk a b → HasFailedIn w ticket new last a b
    serve_read_failed new last b slots maker through =
        let next = read_next in
        subst (λ (t : ℕ). HasFailedIn w t new last a b) (sym next.ticket_)
        (failed_read w parts recalculation a is next.k next.asked next.there next.turn_.unfinished next.turn_.unheld next.turn_.first next.turn_.count new last b next.turn_.request slots maker through)

  module _ (block : ℕ) (flushes : Bool) (turn : turn_of parts.slots ticket ≡ Turns.Write block flushes) (disk : DiskIdentity) (ready : IsReady parts disk a) (bytes : List ℕ)
      (bytes_ : IfSome (slot_of ticket parts.slots) (λ slot. bytes ≡ next_bytes parts.slots.block_size slot)) where
    pub write_next : Next (Turns.Write block flushes)
    write_next = next_told (Turns.Write block flushes) turn

    module _ (tag : List ℕ) (tag_ : tag ≡ tag_by parts.maker parts.spb block bytes) where
      abbrev pub served_of : ServedWrite
      served_of = record {
        format = w.format;
        state = w.state;
        disk = w.disk;
        entry = w.entry;
        place = write_next.k;
        asked = write_next.asked;
        first = write_next.turn_.first;
        blocks = write_next.turn_.blocks;
        fua = write_next.turn_.fua;
      }

      serve_writes : WritesNext served_of block bytes tag flushes parts.tags a
      serve_writes =
          let next = write_next in
          writes_next w parts recalculation a is next.k next.asked next.there next.turn_.unfinished next.turn_.unheld next.turn_.first next.turn_.blocks next.turn_.fua next.turn_.request block bytes
          tag flushes next.turn_.block_ next.turn_.flushes_
          (subst (λ (t : ℕ). IfSome (slot_of t parts.slots) (λ slot. bytes ≡ next_bytes parts.slots.block_size slot)) next.ticket_ bytes_) (tag_ ∙ rule_told disk ready block bytes)

      pub serve_write_done : (new : Parts) (b : List Content) → ((x : ServedWrite) → WritesNext x block bytes tag flushes parts.tags a → HasServed x flushes new.tags a b)
          → new.slots ≡ with_change ticket with_block_counted parts.slots → new.maker ≡ parts.maker → IsServedAs w ticket (served_by (turn_of new.slots ticket)) new recalculation a b
      serve_write_done new b does slots maker =
          let next = write_next in
          subst (λ (t : ℕ). IsServedAs w t (served_by (turn_of new.slots t)) new recalculation a b) (sym next.ticket_)
          (served_write w parts recalculation a is next.k next.asked next.there next.turn_.unfinished next.turn_.unheld next.turn_.first next.turn_.blocks next.turn_.fua next.turn_.request flushes new b
          (does served_of serve_writes) (slots ∙ ap (λ (t : ℕ). with_change t with_block_counted parts.slots) next.ticket_) maker)

      pub serve_write_failed : (new : Parts) (b : List Content) → ((x : ServedWrite) → WritesNext x block bytes tag flushes parts.tags a → HasFailed x a b)
          → new.slots ≡ parts.slots → new.maker ≡ parts.maker → HasFailedIn w ticket new recalculation a b
      serve_write_failed new b does slots maker =
          let next = write_next in
          subst (λ (t : ℕ). HasFailedIn w t new recalculation a b) (sym next.ticket_)
          (failed_write w parts recalculation a is next.k next.asked next.there next.turn_.unfinished next.turn_.unheld next.turn_.first next.turn_.blocks next.turn_.fua next.turn_.request new b
          (does served_of serve_writes) slots maker)
