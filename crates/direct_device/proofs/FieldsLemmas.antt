-- Which fields each image has at each moment of a step and of a close, and which sectors are written in them.
use Rattle.std.proofs.Common.{◌≡◌, inl, inr, ℕ, Bool, true, false, if◌then◌else◌, not, ◌&&◌, refl, sym, ◌∙◌, ap, subst, Option, Some, None, IfSome, List}
use Rattle.disk_model.specs.Disk.{Content, OnlyAdds}
use Rattle.disk_model.specs.Moments.{EachSince}
use Rattle.disk_model.proofs.MomentsLemmas.{EachMoment-kept, EachMoment-weaker, adds_then, sync_adds}
use Rattle.image_model.specs.declared.flags.TheConstants.{RECALCULATING}
use Rattle.image_model.specs.Geometry.{Geometry}
use Rattle.image_model.specs.Superblock.{Superblock, has_flag}
use Rattle.image_model.proofs.NumberLemmas.{cases_option}
use Rattle.place_model.specs.Format.{DiskFormat, IsReadAs}
use Rattle.direct_model.specs.DirectDisk.{DirectDisk}
use Rattle.direct_mode.specs.Settling.{Back, SettlesIn, Syncing}
use Rattle.recalculate_laws.specs.Calls.{SettlesBy}
use Rattle.recalculate_laws.specs.DirectCalls.{IsCutThrough}
use Rattle.recalculate_laws.specs.Formats.{IsFormatOf}
use Rattle.recalculate_laws.specs.Moments.{awaiting_then}
use Rattle.recalculate_laws.specs.Position.{moved_fields}
use Rattle.recalculate_laws.proofs.DirectCallsLemmas.{direct_stands_cut_law}
use Rattle.recalculation.specs.declared.recalculating.Recalculation.{Recalculation}
use Rattle.recalculation.specs.Awaiting.{awaiting_of}
use Rattle.recalculation.specs.Position.{MayMove, MovesIn, is_same_position}
use Rattle.recalculation.specs.Recalculation.{HasFieldsThrough, IsOfTagsOrHead, Moving, SettlesPositionIn, Settling, StepsPositionIn, fields_behind, fields_left, fields_next, fields_or, next_of, to_write}
use Rattle.recalculation.proofs.KeptLemmas.{moved_if_some}
use Rattle.tag_store.specs.Store.{given_tags}
use Rattle.place_model.specs.Tags.{HoldsTag}
use Rattle.device_parts.specs.declared.condition.Condition.TheVariants.{Working}
use Rattle.device_parts.specs.declared.parts.Parts.{Parts}
use Rattle.device_parts.specs.Device.{Standing}
use Rattle.direct_device.specs.Answers.{WritesClose}
use Rattle.direct_device.specs.Device.{IsDirect, kept, standing_on}
use Rattle.direct_device.proofs.MovingLemmas.{settling_cut, settling_stands}
use Rattle.direct_device.proofs.StepLemmas.{may_move, step_cut}
use Rattle.recalculation.proofs.FieldsLemmas.{behind_is, under_is}
use Rattle.recalculation.proofs.AllLemmas.{only_tags}

-- ---- which fields

-- What a cut leaves is read under the old fields, or under the new ones.
cut_fields : (w : Standing) (d : DirectDisk) (new : Superblock) {a b : List Content} → IsFormatOf w.on d.format → IsCutThrough d new a b → HasFieldsThrough w.on d.superblock new a b
cut_fields w d new same cut = EachMoment-weaker (λ c each image of. elim (each image of) [
  | inl old ↦ inl (subst (λ (f : DiskFormat). IsReadAs f image) (under_is w.on d.format d.superblock same) old.reads)
  | inr moved ↦ inr (subst (λ (f : DiskFormat). IsReadAs f image) (under_is w.on d.format new same) moved.reads)
]) cut

module _ (parts : Parts) (r : Recalculation) (a : List Content) (may : MayMove r.position) where
  -- So it is in a step,
  pub step_heads : (b : List Content) → (next_of r ≡ None → b ≡ a) → IfSome (next_of r) (λ region. StepsPositionIn parts.maker region r parts.tags.geometry (given_tags parts.tags) a b)
      → (w : Standing) → IsDirect w Working (kept parts r) a → HasFieldsThrough w.on r.position (fields_next r) a b
  step_heads b idle through w is =
      let d = is.disk in
      let awaiting = w.state.progress.regions.awaiting in
      let own = (is.over.works refl).recalculation_ in
      elim (cases_option (next_of r)) [
        | inl none ↦ EachMoment-kept _ (idle none)
        | inr found ↦
            let in_ = subst (λ (o : Option ℕ). IfSome o (λ region. StepsPositionIn parts.maker region r parts.tags.geometry (given_tags parts.tags) a b)) found.1 through in
            let fields = ap (λ (o : Option ℕ). fields_behind o r) found.1 ∙ behind_is d.format awaiting r own found.0 in
            subst (λ (s : Superblock). HasFieldsThrough w.on s (fields_next r) a b) (sym own.fields)
            (subst (λ (s : Superblock). HasFieldsThrough w.on d.superblock s a b) (sym fields)
            (cut_fields w d (moved_fields d.superblock d.geometry (awaiting_then found.0 awaiting)) is.format
            (step_cut (standing_on w d) parts r a is.over found.0 found.1 may b in_)))
      ]

  -- and in a close.
  pub close_heads : (b : List Content) → SettlesPositionIn r parts.tags.geometry (given_tags parts.tags) a b
      → (w : Standing) → IsDirect w Working (kept parts r) a → HasFieldsThrough w.on r.position (fields_left r) a b
  close_heads b through w is =
      let d = is.disk in
      let awaiting = w.state.progress.regions.awaiting in
      let works = is.over.works refl in
      let own = works.recalculation_ in
      let in_ = subst (λ (g : Geometry). SettlesPositionIn r g (given_tags parts.tags) a b) (sym works.cells.geometry) through in
      subst (λ (s : Superblock). HasFieldsThrough w.on s (fields_left r) a b) (sym own.fields)
      (cut_fields w d (fields_left r) is.format (elim (cases_option (to_write r)) [
        | inl none ↦ direct_stands_cut_law d (fields_left r) a b (settling_stands d awaiting (given_tags parts.tags) a works.cells.now r own b none in_)
        | inr some ↦
            let left : fields_left r ≡ moved_fields d.superblock d.geometry awaiting = ap (λ (o : Option Superblock). fields_or o r.position) some.1 ∙ (moved_if_some d.format awaiting r own some.0 some.1).0 in
            subst (λ (s : Superblock). IsCutThrough d s a b) (sym left)
            (settling_cut d awaiting (given_tags parts.tags) a works.cells.now r own (may_move (standing_on w d) parts r a is.over may some.0 some.1) b in_)
      ]))

-- ---- which sectors

module _ (g : Geometry) where
  abbrev OfTags : ℕ → List ℕ → Type 0
  OfTags sector x = HoldsTag g sector

  -- All is flushed without another sector than those of tags,
  settles_tags : (tags : Content → ℕ → List ℕ) {a b : List Content} → SettlesIn g tags a b → EachSince (OnlyAdds (λ sector x. HoldsTag g sector)) a b
  settles_tags tags (Back adds) = only_tags g tags tags adds
  settles_tags tags (Syncing back between writes reads image adds) = adds_then OfTags (only_tags g tags tags writes.adds) (sync_adds OfTags image adds)

  settled_tags : (tags now : Content → ℕ → List ℕ) {a b : List Content} → SettlesBy g tags now a b → EachSince (OnlyAdds (λ sector x. HoldsTag g sector)) a b
  settled_tags tags now settles = adds_then OfTags (only_tags g tags tags settles.writes_back.adds) (sync_adds OfTags settles.syncs.image settles.syncs.adds)

  -- and where the flag is not set sector 0 is none of those that a close writes.
  module _ (r : Recalculation) where
    none_written : has_flag RECALCULATING r.position.flags ≡ false → to_write r ≡ None
    none_written unset =
        let moved = moved_fields r.position r.awaiting.geometry (awaiting_of r.awaiting) in
        ap (λ (t : Bool). if t && not (is_same_position r.position moved) then Some moved else None) unset

    tags_alone : (tags : Content → ℕ → List ℕ) (a b : List Content) → to_write r ≡ None → SettlesPositionIn r g tags a b → EachSince (OnlyAdds (λ sector x. HoldsTag g sector)) a b
    tags_alone tags a b none (Settling in_) = settles_tags tags in_
    tags_alone tags a b none (Moving now between settles moves) =
        subst (λ (m : List Content). EachSince (OnlyAdds OfTags) a m) (sym (subst (λ (o : Option Superblock). MovesIn o between b) none moves)) (settled_tags tags now settles)

    pub close_writes : (tags : Content → ℕ → List ℕ) (a b : List Content) → SettlesPositionIn r g tags a b → EachSince (OnlyAdds (IsOfTagsOrHead g)) a b
        → (t : Bool) → has_flag RECALCULATING r.position.flags ≡ t → WritesClose t g a b
    close_writes tags a b through writes true is = writes
    close_writes tags a b through writes false is = tags_alone tags a b (none_written is) through
