-- Which fields each image has at each moment of a step and of a close, and which sectors are written in a step.
use Rattle.std.proofs.Common.{◌≡◌, inl, inr, ℕ, Bool, true, false, refl, sym, ◌∙◌, ap, subst, Option, Some, None, List}
use Rattle.std.proofs.lemmas.Option.{none-some}
use Rattle.disk_model.specs.Disk.{Content}
use Rattle.disk_model.proofs.MomentsLemmas.{EachMoment-kept, EachMoment-then, EachMoment-weaker, no_moment}
use Rattle.image_model.specs.Geometry.{Geometry}
use Rattle.image_model.specs.Superblock.{Superblock}
use Rattle.image_model.proofs.NumberLemmas.{cases_option}
use Rattle.device_model.specs.Regions.{with_region}
use Rattle.place_model.specs.Format.{DiskFormat, IsReadAs}
use Rattle.journal_model.specs.JournaledDisk.{JournaledDisk}
use Rattle.journal_ring.specs.declared.ring.Moved.{Moved}
use Rattle.journal_ring.specs.declared.ring.Moved.TheVariants.{Did, Idle}
use Rattle.recalculate_laws.specs.Calls.{IsCutThrough}
use Rattle.recalculate_laws.specs.Formats.{IsFormatOf}
use Rattle.recalculate_laws.specs.Position.{moved_fields}
use Rattle.recalculation.specs.declared.recalculating.Recalculation.{Recalculation}
use Rattle.recalculation.specs.Position as Positions
use Rattle.recalculation.specs.Position.{HasMoved, MovesIn}
use Rattle.recalculation.specs.Recalculation.{HasFieldsThrough, Moving, SettlesPosition, SettlesPositionIn, StepsPositionIn, Taken, fields_behind, fields_left, fields_next, fields_or, next_of, to_write}
use Rattle.tag_store.specs.Store.{Store, given_tags}
use Rattle.hmac_tag.specs.TagMaker.{TagRule}
use Rattle.device_parts.specs.declared.parts.Parts.{Parts}
use Rattle.device_parts.specs.Device.{Standing}
use Rattle.journal_mode.specs.Closing.{HasClosed, IsAllFree}
use Rattle.journal_mode.specs.Journal.{PlacedRing}
use Rattle.journal_mode.specs.Standing.{IsLeftThrough, JournalStanding, StandsAs}
use Rattle.journal_device.specs.Answers.{MovesFieldsTo, WritesMove}
use Rattle.journal_device.specs.Device.{awaiting_in, kept, standing_of, standing_on}
use Rattle.journal_device.specs.Recalculating.{HasStepped, StepsRegion, StepsRegionIn}
use Rattle.journal_device.proofs.CutLemmas.{has_position, position_cut, unmoved_cut}
use Rattle.journal_device.proofs.DoneLemmas.{idle_now, stands_now, works_now}
use Rattle.journal_device.proofs.EndLemmas.{working}
use Rattle.journal_device.proofs.OverDisk.{state_of}
use Rattle.journal_device.proofs.RecalcLemmas.{step_cut}
use Rattle.recalculation.proofs.FieldsLemmas.{behind_is, under_is}

-- ---- which fields

module _ (w : Standing) (d : JournaledDisk) (new : Superblock) (same : IsFormatOf w.on d.format) where
  -- What a cut leaves is read under the old fields, or under the new ones,
  cut_fields : {a b : List Content} → IsCutThrough d new a b → HasFieldsThrough w.on d.superblock new a b
  cut_fields cut = EachMoment-weaker (λ c each image of. elim (each image of) [
    | inl old ↦ inl (subst (λ (f : DiskFormat). IsReadAs f image) (under_is w.on d.format d.superblock same) (record {
      readable = old.opens.openable.readable;
      superblock = old.opens.superblock;
      geometry = old.opens.geometry;
    }))
    | inr moved ↦ inr (subst (λ (f : DiskFormat). IsReadAs f image) (under_is w.on d.format new same) (record {
      readable = moved.opens.openable.readable;
      superblock = moved.opens.superblock;
      geometry = moved.opens.geometry;
    }))
  ]) cut

  -- and what a call of the journal leaves under the old ones.
  left_fields : (y : JournalStanding) → y.disk ≡ d → {a b : List Content} → IsLeftThrough y a b → HasFieldsThrough w.on d.superblock new a b
  left_fields y is left = EachMoment-weaker (λ c each image of.
      let opens = (each image of).opens in
      inl (subst (λ (f : DiskFormat). IsReadAs f image)
      (ap (λ (x : JournaledDisk). x.format) is ∙ under_is w.on d.format d.superblock same)
      (record { readable = opens.openable.readable; superblock = opens.superblock; geometry = opens.geometry }))) left

-- ---- how far a call came that went through

moved_in : (o : Option Superblock) (g : Geometry) (tags : Content → ℕ → List ℕ) (old new : Superblock) (a b : List Content) → HasMoved o g tags old new a b → MovesIn o a b
moved_in None g tags old new a b moved = moved.1
moved_in (Some fields) g tags old new a b moved =
    let written = moved.1 in
    Positions.Syncing written.head written.between written.is_head written.writes.written written.writes.adds written.syncs.adds

settled_in : (old new : Recalculation) (g : Geometry) (tags now : Content → ℕ → List ℕ) (a b : List Content) → SettlesPosition old new g tags now a b → SettlesPositionIn old g tags a b
settled_in old new g tags now a b settles =
    Moving now settles.between settles.settles (moved_in (to_write old) g now old.position new.position settles.between b settles.moves)

stepped_in : (rule : TagRule) (old new : Recalculation) (store last : Store) (a b : List Content) → StepsRegion rule old new store last a b → StepsRegionIn rule old store a b
stepped_in rule old new store last a b steps = record {
  region = steps.region;
  least = steps.least;
  through = Taken steps.steps.mid steps.steps.made steps.steps.between steps.steps.takes
      (settled_in steps.steps.mid new store.geometry steps.steps.made (given_tags last) steps.steps.between b steps.steps.settles);
}

module _ (parts : Parts) (journal : PlacedRing) (r : Recalculation) (a : List Content) where
  abbrev Heads : (new : Superblock) → List Content → Type 0
  Heads new b = MovesFieldsTo new (kept parts (state_of journal r)) a b

  -- ---- a step

  -- Where nothing is written,
  pub still_heads : (new : Superblock) (b : List Content) → b ≡ a → MovesFieldsTo new (kept parts (state_of journal r)) a b
  still_heads new b same w is = EachMoment-kept _ same

  -- a call of the journal,
  pub journal_heads : (new : Superblock) (b : List Content) → ((y : JournalStanding) → StandsAs y journal parts.tags a → IsLeftThrough y a b)
      → MovesFieldsTo new (kept parts (state_of journal r)) a b
  journal_heads new b lefts w is =
      let v = standing_on w is.disk in
      let works = works_now v parts journal r a is.over in
      subst (λ (s : Superblock). HasFieldsThrough w.on s new a b) (sym works.recalc_.fields)
      (left_fields w is.disk new is.format (standing_of v) refl (lefts (standing_of v) (stands_now v parts journal r a is.over)))

  -- and one of the recalculation, how far it came.
  pub region_heads : (b : List Content) → StepsRegionIn parts.maker r parts.tags a b
      → MovesFieldsTo (fields_next r) (kept parts (state_of journal r)) a b
  region_heads b in_ w is =
      let d = is.disk in
      let v = standing_on w d in
      let works = works_now v parts journal r a is.over in
      let own = works.recalc_ in
      let fields = ap (λ (o : Option ℕ). fields_behind o r) in_.least ∙ behind_is d.format (awaiting_in v) r own in_.region in
      subst (λ (s : Superblock). HasFieldsThrough w.on s (fields_next r) a b) (sym own.fields)
      (subst (λ (s : Superblock). HasFieldsThrough w.on d.superblock s a b) (sym fields)
      (cut_fields w d (moved_fields d.superblock d.geometry (with_region in_.region false (awaiting_in v))) is.format
      (step_cut v parts journal r a is.over in_.region in_.least b
      (subst (λ (g : Geometry). StepsPositionIn parts.maker in_.region r g (given_tags parts.tags) a b) (sym works.stands.placed.cells.geometry) in_.through))))

  -- ---- a close

  -- The journal is closed, and then the position moves.
  pub close_heads : (put : PlacedRing) (store : Store) (m b : List Content)
      → ((y : JournalStanding) → StandsAs y journal parts.tags a → y.history.pending ≡ None → HasClosed y put parts.tags store a m)
      → ((y : JournalStanding) → StandsAs y journal parts.tags a → IsLeftThrough y a m) → IsAllFree put.ring
      → SettlesPositionIn r store.geometry (given_tags store) m b
      → MovesFieldsTo (fields_left r) (kept parts (state_of journal r)) a b
  close_heads put store m b closes lefts free through w is =
      let v = standing_on w is.disk in
      let y = standing_of v in
      let stands = stands_now v parts journal r a is.over in
      let closed = closes y stands (idle_now v parts journal r a is.over) in
      let d = closed.disk in
      let works = working w parts journal r a is put store m closed free (lefts y stands) in
      let own = works.recalc_ in
      let format = subst (IsFormatOf w.on) (sym closed.format) is.format in
      let in_ = subst (λ (g : Geometry). SettlesPositionIn r g (given_tags store) m b) (sym closed.committed.placed.cells.geometry) through in
      let cut : IsCutThrough d (fields_left r) m b = elim (cases_option (to_write r)) [
        | inl none ↦ unmoved_cut d (awaiting_in v) (fields_left r) r (given_tags store) m b works.keeps none in_
        | inr some ↦
            let told = has_position d (awaiting_in v) r own works.written some.0 some.1 in
            let left : fields_left r ≡ moved_fields d.superblock d.geometry (awaiting_in v) = ap (λ (o : Option Superblock). fields_or o r.position) some.1 ∙ told.0 in
            subst (λ (s : Superblock). IsCutThrough d s m b) (sym left) (position_cut d (awaiting_in v) r own works.written (given_tags store) m b works.keeps in_)
      ] in
      EachMoment-then (journal_heads (fields_left r) m lefts w is)
      (subst (λ (s : Superblock). HasFieldsThrough w.on s (fields_left r) m b) (sym own.fields) (cut_fields w d (fields_left r) format cut))

-- ---- a step that went through

-- One of the recalculation moves the fields so, once it went through.
pub stepped_heads : {A : Type 0} (parts : Parts) (journal : PlacedRing) (r new : Recalculation) (last : Store) (moments : A → List Content) (first final : A) (moved : Moved)
    → HasStepped moved parts.maker r new parts.tags last moments first final
    → MovesFieldsTo (fields_next r) (kept parts (state_of journal r)) (moments first) (moments final)
stepped_heads parts journal r new last moments first final Did has =
    region_heads parts journal r (moments first) (moments final) (stepped_in parts.maker r new parts.tags last (moments first) (moments final) has)
stepped_heads parts journal r new last moments first final Idle has =
    still_heads parts journal r (moments first) (fields_next r) (moments final) (ap moments has.disk)

-- ---- which sectors

-- A step that did something, or failed, had a region to take.
pub stepped_still : {A : Type 0} (moved : Moved) (rule : TagRule) (old new : Recalculation) (store last : Store) (moments : A → List Content) (first final : A)
    → HasStepped moved rule old new store last moments first final → next_of old ≡ None → moments final ≡ moments first
stepped_still Did rule old new store last moments first final has none = absurd (none-some has.region (sym none ∙ has.least))
stepped_still Idle rule old new store last moments first final has none = ap moments has.disk

pub failed_still : (rule : TagRule) (old : Recalculation) (store : Store) (a b : List Content) → StepsRegionIn rule old store a b → next_of old ≡ None → b ≡ a
failed_still rule old store a b in_ none = absurd (none-some in_.region (sym none ∙ in_.least))

-- Where the position does not move nothing is written, whether the flag is set or not.
pub unmoved : (t : Bool) (g : Geometry) (a : List Content) → WritesMove t g a a
unmoved true g a = no_moment a _
unmoved false g a = refl
