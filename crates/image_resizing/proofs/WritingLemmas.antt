-- What a resize writes, step by step.
use Rattle.std.proofs.Common.{◌≡◌, ◌≢◌, inl, inr, ⊎_elim, ℕ, ◌-◌, ◌/◌, ◌<◌, ◌≤◌, true, false, refl, sym, ◌∙◌, ap, subst, arith, Some, Option, List, drop, ◌++◌, length}
use Rattle.std.specs.Option.{IsSomeAnd, option_map}
use Rattle.std.proofs.lemmas.Bool.{cases_Bool, true≢false}
use Rattle.std.proofs.lemmas.List.{take_all}
use Rattle.std.proofs.lemmas.Option.{same_Some}
use Rattle.disk_model.specs.Disk.{AddsSome, Content, Image, IsImage, IsOfRun, OnlyAdds, Reads, last_image, newest_only, sector_in, with_run}
use Rattle.disk_model.specs.Moments.{EachMoment, EachSince, IsChangedBy, content_now}
use Rattle.disk_model.proofs.DiskLemmas.{AddsSome-adds, AddsSome-all, OnlyAdds-join, OnlyAdds-none, OnlyAdds-wider, newest_only-adds, newest_only-pending}
use Rattle.disk_model.proofs.MomentsLemmas.{EachMoment-then, EachMoment-weaker}
use Rattle.image_model.specs.declared.flags.TheConstants.{DIRTY_BITMAP}
use Rattle.image_model.specs.Cells.{replayed_entries}
use Rattle.image_model.specs.Geometry.{Geometry}
use Rattle.image_model.specs.Superblock.{Superblock, has_flag, superblock_bytes}
use Rattle.buffer_cache.proofs.CachedLemmas.{told_at_end}
use Rattle.place_model.proofs.TagsLemmas.{tag_byte-behind}
use Rattle.place_model.specs.RecoveryWrites.{IsOfRecovery, IsOfRecovering}
use Rattle.resize_model.specs.CallLaws.{StandsThrough}
use Rattle.resize_model.specs.Growth.{IsOfGrowth}
use Rattle.resize_model.specs.Resized.{resized_head}
use Rattle.resize_model.specs.Written.{Growing as GrowingResize, IsOfHead, IsToGrow as IsToGrowResize, Recovering, Telling as TellingResize}
use Rattle.resize_model.proofs.PlacesLemmas.{resized_provided_law}
use Rattle.image_resizing.specs.declared.planning.Plan.{Plan}
use Rattle.image_resizing.specs.Grown.{IsPrepared}
use Rattle.image_resizing.specs.Plan.{IsPlan, growth_of, present_format}
use Rattle.image_resizing.specs.Writing.{Growing, IsSettledBy, IsWrittenBehind, IsWrittenBy, Telling, head_over}
use Rattle.image_resizing.proofs.SettledLemmas.{data-late}

-- What is so since the start is so by that, where it is told.
pub since_told : (a b : List Content) (P : Content → Content → Type 0) (start : Content) → content_now a ≡ Some start → EachSince P a b → EachMoment a b (P start)
since_told a b P start told m = EachMoment-weaker (λ c from. subst (λ (o : Option Content). IsSomeAnd o (λ s. P s c)) told from) m

-- ---- the first sector

module _ (plan : Plan) (start : Content) (old head : List ℕ) (read : Reads 0 old start) (old_size : length old ≡ 512) (size : length head ≡ 512)
    (written_is : head ≡ superblock_bytes plan.grown.fields ++ drop 64 old) where
  -- It gets the new fields over what is read of it.
  head_is : head ≡ head_over plan (last_image start 0)
  head_is =
      let is_last : old ≡ last_image start 0 = sym (take_all 512 old (omega (arith, old_size))) ∙ read 0 (omega (arith, old_size)) in
      written_is ∙ ap (λ (xs : List ℕ). superblock_bytes plan.grown.fields ++ drop 64 xs) is_last

  of_head : (s : ℕ) (x : List ℕ) → IsOfRun 0 head s x → IsOfHead (head_over plan (last_image start 0)) s x
  of_head s x of =
      let none : s ≡ 0 = let ends = of.ends in omega (arith, ends, size) in
      record {
        first = none;
        is = of.is ∙ ap (λ (n : ℕ). sector_in head (n - 0)) none ∙ take_all 512 head (omega (arith, size)) ∙ head_is;
      }

  adds_head : (c : Content) → AddsSome 0 head start c → OnlyAdds (IsOfHead (head_over plan (last_image start 0))) start c
  adds_head c some = OnlyAdds-wider (IsOfRun 0 head) (IsOfHead (head_over plan (last_image start 0))) of_head start c (AddsSome-adds 0 head start c some)

  -- While it is written nothing else is,
  pub writes_head : (a b : List Content) → content_now a ≡ Some start → EachSince (AddsSome 0 head) a b → EachMoment a b (OnlyAdds (IsOfHead (head_over plan (last_image start 0))) start)
  writes_head a b told m = EachMoment-weaker adds_head (since_told a b (AddsSome 0 head) start told m)

  -- and while it is synced.
  pub syncs_head : (a m b : List Content) → content_now a ≡ Some start → IsChangedBy (with_run 0 head) a m → ((c : Content) → content_now m ≡ Some c → IsImage c (last_image c))
      → EachSince (λ s c. c ≡ newest_only s) m b → EachMoment m b (OnlyAdds (IsOfHead (head_over plan (last_image start 0))) start)
  syncs_head a m b told written reads synced =
      let W = IsOfHead (head_over plan (last_image start 0)) in
      let mid = with_run 0 head start in
      let told_mid : content_now m ≡ Some mid = written ∙ ap (option_map (with_run 0 head)) told in
      EachMoment-weaker
      (λ c is. subst (OnlyAdds W start) (sym is) (OnlyAdds-join W start mid (newest_only mid) (adds_head mid (AddsSome-all 0 head start)) (newest_only-adds W mid (reads mid told_mid))))
      (since_told m b (λ s c. c ≡ newest_only s) mid told_mid synced)

-- ---- a growth

module _ (sectors : ℕ) (plan : Plan) (image : Image) (first : Content) (a b : List Content) (told : content_now a ≡ Some first) (through : StandsThrough (growth_of sectors plan image) a b) where
  -- While the new blocks are written,
  pub writes_new : (head : List ℕ) → EachMoment a b (IsWrittenBehind (growth_of sectors plan image) head first)
  writes_new head = EachMoment-weaker (λ c adds. Growing adds) (since_told a b (OnlyAdds (IsOfGrowth (growth_of sectors plan image))) first told through.adds)

  -- and while the first sector is, behind them.
  pub writes_told : (c : List Content) (grown : Content) → content_now b ≡ Some grown → IsPrepared sectors plan image grown → IsImage grown (last_image grown)
      → EachMoment b c (OnlyAdds (IsOfHead (head_over plan (last_image grown 0))) grown)
      → EachMoment a c (IsWrittenBehind (growth_of sectors plan image) (head_over plan (image 0)) first)
  writes_told c grown told_grown prepared reads heads =
      let w = growth_of sectors plan image in
      let W = IsOfGrowth w in
      let end = (told_at_end (OnlyAdds W) (λ x. OnlyAdds-none W x) through.adds).each grown told_grown in
      let written : OnlyAdds W first grown = subst (λ (x : Content). OnlyAdds W x grown) (same_Some end.0 first (sym end.1 ∙ told)) end.2 in
      let same : last_image grown 0 ≡ image 0 = (prepared.stands.each 0 (last_image grown 0) (reads 0)).head refl in
      EachMoment-then (writes_new (head_over plan (image 0)))
      (EachMoment-weaker (λ x adds. Telling grown (record { written = written; settled = prepared.settled; new = prepared.new })
      (subst (λ (xs : List ℕ). OnlyAdds (IsOfHead (head_over plan xs)) grown x) same adds)) heads)

-- ---- a resize

module _ (sectors : ℕ) (plan : Plan) (is : IsPlan sectors plan) (start : Content) where
  -- No recovery writes the first sector,
  not_first : (x : List ℕ) → IsOfRecovery plan.present.geometry (replayed_entries plan.present.geometry (last_image start)) 0 x → ⊥
  not_first x of = ⊎_elim
      (λ place. ⊎_elim
      (λ entry. let late = data-late plan.present.geometry (entry.entry.sector / plan.present.geometry.shape.spb) in let begins = entry.in_place.begins in omega (arith, late, begins))
      (λ holds. let late = tag_byte-behind plan.present.geometry sectors holds.block holds.byte is.present.geometry holds.block_low in let there = holds.is in omega (arith, late, there)) place)
      (λ empty. let begins = empty.in_place.begins in omega (arith, begins)) of

  -- so that it stays until the disk is settled.
  first_stays : (first : Content) → IsImage first (last_image first) → IsSettledBy sectors plan start first → last_image first 0 ≡ last_image start 0
  first_stays first reads settled = elim (cases_Bool (has_flag DIRTY_BITMAP plan.present.fields.flags)) [
    | inl set ↦ ap (λ (c : Content). last_image c 0) (settled.synced set)
    | inr clear ↦ ⊎_elim
        (λ old. (newest_only-pending start).only 0 (last_image first 0) old)
        (λ of. absurd (not_first (last_image first 0) of))
        ((settled.recovered clear).among 0 (last_image first 0) (reads 0))
  ]

  -- It is settled, and then grows.
  to_grow_resize : plan.grown.fields.provided ≢ plan.present.fields.provided → (first : Content) → IsSettledBy sectors plan start first
      → IsToGrowResize (IsOfRecovering plan.present.geometry) (present_format sectors plan) start first
  to_grow_resize other first settled =
      let more = (resized_provided_law plan.present.fields sectors plan.present.geometry is.present.fields is.present.told).not_below in
      let provided = ap (λ (s : Superblock). s.provided) is.fields in
      record {
        more = less _ _ more (λ same. other (provided ∙ sym same));
        bitmap = settled.synced;
        journal = settled.recovered;
        settled = settled.from.settled;
      }
    where
      less : (m n : ℕ) → m ≤ n → m ≢ n → m < n
      less m n le ne = omega (arith, le, ne)

  pub behind_resize : plan.grown.fields.provided ≢ plan.present.fields.provided → (first : Content) → IsImage first (last_image first) → IsSettledBy sectors plan start first → (c : Content)
      → IsWrittenBehind (growth_of sectors plan (last_image first)) (head_over plan (last_image first 0)) first c → IsWrittenBy sectors plan start c
  behind_resize other first reads settled c (Growing adds) = GrowingResize first (to_grow_resize other first settled) adds
  behind_resize other first reads settled c (Telling grown tell adds) =
      TellingResize first grown (to_grow_resize other first settled) tell
      (subst (λ (xs : List ℕ). OnlyAdds (IsOfHead xs) grown c)
      (ap (head_over plan) (first_stays first reads settled) ∙ ap (λ (s : Superblock). resized_head s (last_image start 0)) is.fields) adds)

  -- Until it is settled nothing is written under a bitmap,
  pub synced_resize : has_flag DIRTY_BITMAP plan.present.fields.flags ≡ true → (a b : List Content) → content_now a ≡ Some start → EachSince (λ s c. c ≡ newest_only s) a b
      → EachMoment a b (IsWrittenBy sectors plan start)
  synced_resize set a b told m = EachMoment-weaker (λ c same. Recovering (record {
    bitmap = λ set_. inr same;
    journal = λ clear. absurd (true≢false (sym set ∙ clear));
  })) (since_told a b (λ s c. c ≡ newest_only s) start told m)

  -- and else what a recovery may write.
  pub recovered_resize : has_flag DIRTY_BITMAP plan.present.fields.flags ≡ false → (a b : List Content) → EachMoment a b (IsOfRecovering plan.present.geometry start)
      → EachMoment a b (IsWrittenBy sectors plan start)
  recovered_resize clear a b m = EachMoment-weaker (λ c of. Recovering (record {
    bitmap = λ set. absurd (true≢false (sym set ∙ clear));
    journal = λ clear_. inr of;
  })) m

-- A sync is part of a recovery.
pub sync_recovers : (g : Geometry) (a b : List Content) (start : Content) → content_now a ≡ Some start → EachSince (λ s c. c ≡ newest_only s) a b → EachMoment a b (IsOfRecovering g start)
sync_recovers g a b start told m =
    EachMoment-weaker (λ c same. subst (IsOfRecovering g start) (sym same) (OnlyAdds-none (IsOfRecovery g (replayed_entries g (last_image start))) (newest_only start)))
    (since_told a b (λ s c. c ≡ newest_only s) start told m)
