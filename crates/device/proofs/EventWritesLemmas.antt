-- What one call of a device writes, as what its event may.
use Rattle.std.proofs.Common.{◌≡◌, inl, inr, ⊎_elim, ℕ, Bool, true, false, List, [], ◌∷◌, Option, Some, None, refl, sym, ◌∙◌, ap, subst}
use Rattle.disk_model.specs.Disk.{Content, OnlyAdds}
use Rattle.disk_model.specs.Moments.{EachSince}
use Rattle.disk_model.proofs.MomentsLemmas.{EachMoment-kept, adds_wider}
use Rattle.image_model.specs.declared.flags.TheConstants.{RECALCULATING}
use Rattle.image_model.specs.Geometry.{Geometry, regions}
use Rattle.image_model.specs.Superblock.{Superblock, has_flag}
use Rattle.device_model.specs.Actors.{actor_of}
use Rattle.device_model.specs.History.{Change, IsWrittenIn}
use Rattle.device_model.specs.Mode as Model
use Rattle.device_model.specs.Progress.{Event, Serve, Step, changes_of, event_result}
use Rattle.place_model.specs.Format.{DiskFormat}
use Rattle.bitmap_laws.proofs.EventLemmas.{served_law as bitmap_served_law}
use Rattle.bitmap_laws.proofs.LeastLemmas.{least_found}
use Rattle.direct_laws.proofs.EventLemmas.{served_law}
use Rattle.place_model.specs.Places.{IsOfPlaces, WritesPlaces}
use Rattle.direct_mode.proofs.PlacesLemmas.{IsOfPlaces-wider}
use Rattle.recalculate_laws.specs.Formats.{AwaitsWork}
use Rattle.recalculate_laws.proofs.FormatsLemmas.{work_flag_law}
use Rattle.recalculation.specs.declared.recalculating.Recalculation.{Recalculation}
use Rattle.recalculation.specs.Recalculation.{IsOfTagsOrHead, WritesRegion, next_of}
use Rattle.recalculation.proofs.KeptLemmas.{next_is}
use Rattle.place_model.specs.Tags.{HoldsTag}
use Rattle.request_slots.specs.Flight.{is_in_flight, turn_of}
use Rattle.device_model.specs.declared.actor.Actor.{Actor}
use Rattle.device_model.specs.declared.actor.Actor.TheVariants as Actors
use Rattle.device_parts.specs.declared.condition.Condition.TheVariants as Conditions
use Rattle.device_parts.specs.declared.parts.Parts.{Parts}
use Rattle.device_parts.specs.Device.{Standing}
use Rattle.direct_device.specs.Answers.{IsWrittenNext, WritesAs, WritesClose}
use Rattle.direct_device.specs.Device.{kept as direct_kept}
use Rattle.journal_device.specs.Device.{kept}
use Rattle.bitmap_device.specs.Device.{kept as bitmap_kept}
use Rattle.device.specs.declared.mode.Mode.{Mode}
use Rattle.device.specs.declared.mode.Mode.TheVariants.{Bitmap, Direct, Journal, Recovery}
use Rattle.device.specs.Answers.{WritesInClose, WritesInServe, WritesInStep}
use Rattle.place_model.specs.Awaiting.{fields_of}
use Rattle.device.specs.Device.{IsDeviceIn, IsEmptied}
use Rattle.place_model.specs.RunWrites.{IsOfRun, WritesOnly}
use Rattle.device.proofs.ModeLemmas.{own_direct, own_journal, plain_bitmap}
use Rattle.device.proofs.MovingLemmas.{own_places}
use Rattle.device.proofs.NextWritesLemmas.{next_is_written}
use Rattle.device.proofs.BitmapWritesLemmas.{bitmap_close_only, bitmap_serve_only, bitmap_step_only}
use Rattle.device.proofs.JournalWritesLemmas.{journal_close_only, journal_serve_only, journal_step_only}
use Rattle.device.proofs.WritesLemmas.{WritesOnly-kept, WritesOnly-left}

-- ---- direct mode

module _ (w : Standing) (common : Parts) (r : Recalculation) (a : List Content) (is : IsEmptied w Conditions.Working (direct_kept common r) a) where
  -- The blocks lie where the device has them.
  places : common.tags.geometry ≡ w.on.geometry
  places = own_places w (direct_kept common r) a is.direct

  -- So a serve writes only what its changes do.
  direct_serve_only : (ticket : ℕ) → is_in_flight ticket common.slots ≡ true → (new : Geometry) {b : List Content} → WritesPlaces (IsWrittenNext common.slots ticket) common.tags.geometry new a b
      → WritesOnly Model.Direct w.on.geometry w.entry (event_result w.format w.state (Serve ticket)).changes a b
  direct_serve_only ticket there new {b} writes =
      let over = is.direct.over in
      let changes = (event_result w.format w.state (Serve ticket)).changes in
      adds_wider (IsOfPlaces w.on.geometry (IsWrittenNext common.slots ticket)) (IsOfRun Model.Direct w.on.geometry w.entry changes)
      (λ sector x of. inr (IsOfPlaces-wider (IsWrittenNext common.slots ticket) (IsWrittenIn changes) w.on.geometry
      (λ block next. next_is_written w.format w.state common.slots over.flight over.condition_ (λ k asked served. served_law w.format w.state is.direct.disk k asked over.device served) ticket there block next.is_flushed next.turn)
      sector x of))
      (subst (λ (g : Geometry). EachSince (OnlyAdds (IsOfPlaces g (IsWrittenNext common.slots ticket))) a b) places writes.each)

  -- Where a region awaits the flag is set, in the image that was opened, too.
  direct_flag : (region : ℕ) → next_of r ≡ Some region → has_flag RECALCULATING (fields_of w.entry).flags ≡ true
  direct_flag region next =
      let d = is.direct.disk in
      let over = is.direct.over in
      let awaiting = w.state.progress.regions.awaiting in
      let own = (over.works refl).recalculation_ in
      let least = sym (next_is d.format awaiting r own) ∙ next in
      let work : AwaitsWork d.format awaiting = λ other waits.
      let m = over.device.awaiting other waits in
      record { block = m.block; inside = m.inside; is = m.is; to_recalculate = m.to_recalculate } in
      (is.no_more refl).flag
      (ap (λ (s : Superblock). has_flag RECALCULATING s.flags) own.fields
      ∙ work_flag_law d.format awaiting region work (least_found (regions d.geometry) awaiting region least).1)

  module _ (changes : List Change) where
    abbrev Only : List Content → Type 0
    Only b = WritesOnly Model.Direct w.on.geometry w.entry changes a b

    -- Where tags are to be recalculated sector 0 may be written.
    of_head : {b : List Content} → has_flag RECALCULATING (fields_of w.entry).flags ≡ true → EachSince (OnlyAdds (IsOfTagsOrHead common.tags.geometry)) a b → Only b
    of_head flag writes =
        adds_wider (IsOfTagsOrHead common.tags.geometry) (IsOfRun Model.Direct w.on.geometry w.entry changes)
        (λ sector x of. ⊎_elim (λ tag. inr (inl (subst (λ (g : Geometry). HoldsTag g sector) places tag))) (λ head. inl (record { is = head; flag = flag })) of) writes

    region_only : (o : Option ℕ) → next_of r ≡ o → {b : List Content} → WritesRegion o common.tags.geometry a b → Only b
    region_only None next same = EachMoment-kept _ same
    region_only (Some region) next writes = of_head (direct_flag region next) writes

    direct_step_only : (actor : Actor) {b : List Content} → WritesAs actor common r a b → WritesOnly Model.Direct w.on.geometry w.entry changes a b
    direct_step_only Actors.Commit same = EachMoment-kept _ same
    direct_step_only Actors.Place same = EachMoment-kept _ same
    direct_step_only Actors.Settle same = EachMoment-kept _ same
    direct_step_only Actors.Clean same = EachMoment-kept _ same
    direct_step_only Actors.Recalc writes = region_only (next_of r) refl writes

    direct_close_only : (t : Bool) → has_flag RECALCULATING r.position.flags ≡ t → {b : List Content} → WritesClose t common.tags.geometry a b → WritesOnly Model.Direct w.on.geometry w.entry changes a b
    direct_close_only true set writes = of_head ((is.no_more refl).flag set) writes
    direct_close_only false set writes =
        adds_wider (λ sector x. HoldsTag common.tags.geometry sector) (IsOfRun Model.Direct w.on.geometry w.entry changes)
        (λ sector x tag. inr (inl (subst (λ (g : Geometry). HoldsTag g sector) places tag))) writes

-- ---- for callers

module _ (w : Standing) (common : Parts) (a : List Content) where
  -- The sectors that an event may write.
  abbrev pub WritesIn : Event → List Content → Type 0
  WritesIn event b = WritesOnly w.format.mode w.on.geometry w.entry (changes_of w.format w.state (event ∷ [])) a b

  -- What is written of one event's changes is so of that event alone.
  alone : (event : Event) {b : List Content} → WritesOnly w.format.mode w.on.geometry w.entry (event_result w.format w.state event).changes a b
      → WritesIn event b
  alone event writes = WritesOnly-left w.format.mode w.on.geometry w.entry (event_result w.format w.state event).changes [] writes

  -- So it is in the mode of the device.
  in_mode : (mode : Model.Mode) (changes : List Change) {b : List Content} → mode ≡ w.format.mode
      → WritesOnly mode w.on.geometry w.entry changes a b → WritesOnly w.format.mode w.on.geometry w.entry changes a b
  in_mode mode changes {b} same writes = subst (λ (m : Model.Mode). WritesOnly m w.on.geometry w.entry changes a b) same writes

  at_format : (d : DiskFormat) (changes : List Change) {b : List Content} → d ≡ w.on
      → WritesOnly Model.Bitmap d.geometry w.entry changes a b → WritesOnly Model.Bitmap w.on.geometry w.entry changes a b
  at_format d changes {b} format writes = subst (λ (x : DiskFormat). WritesOnly Model.Bitmap x.geometry w.entry changes a b) format writes

  -- A serve writes what its event may,
  pub serve_writes : (mode : Mode) → IsDeviceIn mode w Conditions.Working common a → (ticket : ℕ) → is_in_flight ticket common.slots ≡ true
      → (new : Parts) {b : List Content} → WritesInServe mode ticket common new a b → WritesIn (Serve ticket) b
  serve_writes (Direct r) is ticket there new writes =
      alone (Serve ticket) (in_mode Model.Direct (event_result w.format w.state (Serve ticket)).changes (own_direct w Conditions.Working common r a is)
      (direct_serve_only w common r a is ticket there new.tags.geometry writes))
  serve_writes (Journal state) is ticket there new writes =
      let changes = (event_result w.format w.state (Serve ticket)).changes in
      alone (Serve ticket) (in_mode Model.Journal changes (own_journal w Conditions.Working common state a is)
      (journal_serve_only w common state.journal state.recalculation a is changes (turn_of common.slots ticket) writes))
  serve_writes (Bitmap states) is ticket there new writes =
      let d = is.disk in
      let changes = (event_result w.format w.state (Serve ticket)).changes in
      let stands = is.over.stands refl in
      alone (Serve ticket) (in_mode Model.Bitmap changes (plain_bitmap.own w Conditions.Working (bitmap_kept common states) a is) (at_format d.format changes is.format
      (bitmap_serve_only d.format.geometry w.entry changes common states ticket (writes.0 ∙ sym stands.geometry) (sym stands.geometry)
      (λ block is_flushed turn. next_is_written w.format w.state common.slots is.over.flight is.over.condition_
      (λ k asked served. bitmap_served_law w.format w.state d k asked is.over.device served) ticket there block is_flushed turn)
      (turn_of common.slots ticket) refl writes.1)))
  serve_writes Recovery is ticket there new kept =
      alone (Serve ticket) (WritesOnly-kept w.format.mode w.on.geometry w.entry (event_result w.format w.state (Serve ticket)).changes kept)

  -- so does a step,
  pub step_writes : (mode : Mode) → IsDeviceIn mode w Conditions.Working common a → (actor : Actor) {b : List Content}
      → WritesInStep mode actor common a b → WritesIn (Step (actor_of actor)) b
  step_writes (Direct r) is actor writes =
      let changes = (event_result w.format w.state (Step (actor_of actor))).changes in
      alone (Step (actor_of actor)) (in_mode Model.Direct changes (own_direct w Conditions.Working common r a is) (direct_step_only w common r a is changes actor writes))
  step_writes (Journal state) is actor writes =
      let changes = (event_result w.format w.state (Step (actor_of actor))).changes in
      alone (Step (actor_of actor)) (in_mode Model.Journal changes (own_journal w Conditions.Working common state a is)
      (journal_step_only w common state.journal state.recalculation a is changes actor writes))
  step_writes (Bitmap states) is actor writes =
      let d = is.disk in
      let changes = (event_result w.format w.state (Step (actor_of actor))).changes in
      let stands = is.over.stands refl in
      alone (Step (actor_of actor)) (in_mode Model.Bitmap changes (plain_bitmap.own w Conditions.Working (bitmap_kept common states) a is) (at_format d.format changes is.format
      (bitmap_step_only d.format.geometry w.entry changes common states (writes.0 ∙ sym stands.geometry) (sym stands.geometry) actor writes.1)))
  step_writes Recovery is actor kept =
      alone (Step (actor_of actor)) (WritesOnly-kept w.format.mode w.on.geometry w.entry (event_result w.format w.state (Step (actor_of actor))).changes kept)

  -- and a close writes what may be written whatever changes.
  pub close_writes : (mode : Mode) → IsDeviceIn mode w Conditions.Working common a → (changes : List Change) {b : List Content}
      → WritesInClose mode common a b → WritesOnly w.format.mode w.on.geometry w.entry changes a b
  close_writes (Direct r) is changes writes =
      in_mode Model.Direct changes (own_direct w Conditions.Working common r a is)
      (direct_close_only w common r a is changes (has_flag RECALCULATING r.position.flags) refl writes)
  close_writes (Journal state) is changes writes =
      in_mode Model.Journal changes (own_journal w Conditions.Working common state a is)
      (journal_close_only w common state.journal state.recalculation a is changes writes)
  close_writes (Bitmap states) is changes writes =
      let d = is.disk in
      let stands = is.over.stands refl in
      in_mode Model.Bitmap changes (plain_bitmap.own w Conditions.Working (bitmap_kept common states) a is) (at_format d.format changes is.format
      (bitmap_close_only d.format.geometry w.entry changes common states (writes.0 ∙ sym stands.geometry) (sym stands.geometry) writes.1))
  close_writes Recovery is changes kept = WritesOnly-kept w.format.mode w.on.geometry w.entry changes kept
