-- What awaits by the fields of sector 0 grows less alone: while the position moves, and while sector 0 is not written.
use Rattle.std.proofs.Common.{◌≡◌, ◌⊎◌, inl, inr, ℕ, ◌+◌, ◌*◌, max, nat_lt, Bool, false, if◌then◌else◌, refl, sym, ◌∙◌, ap, subst, arith, Ok, Option, Some, None, List, []}
use Rattle.std.specs.Int.{w32, bit_not}
use Rattle.std.specs.List.{Contains}
use Rattle.std.proofs.lemmas.Bool.{and_from, and_parts, lt-ltb, ltb-true, ne_eqb, true≢false}
use Rattle.disk_model.specs.Disk.{Content, EachImage, Image, OnlyAdds, last_image}
use Rattle.disk_model.specs.Moments.{EachSince, HasNow, content_now}
use Rattle.disk_model.proofs.MomentsLemmas.{EachMoment-weaker, content_at_end, each_content}
use Rattle.image_model.specs.declared.flags.TheConstants.{RECALCULATING}
use Rattle.image_model.specs.Geometry.{Geometry, IsGeometry, geometry_of}
use Rattle.image_model.specs.Superblock.{Superblock, fields_in, has_flag, superblock_of}
use Rattle.image_model.proofs.NumberLemmas.{cases_option}
use Rattle.place_model.specs.Format.{DiskFormat, IsReadAs}
use Rattle.place_model.proofs.FormatLemmas.{format_on-read, reads_from, reads_tells}
use Rattle.change_model.proofs.FieldsLemmas.{has_flag-gone}
use Rattle.direct_laws.specs.CallLaws.{ReadsImage}
use Rattle.recalculate_laws.specs.Formats.{IsFormatOf, under_fields}
use Rattle.recalculate_laws.specs.Position.{moved_fields, next_awaiting, position_at, region_start}
use Rattle.recalculation.specs.declared.recalculating.Recalculation.{Recalculation}
use Rattle.recalculation.specs.Awaiting.{awaiting_of}
use Rattle.recalculation.specs.Position.{fields_to_write}
use Rattle.recalculation.specs.Recalculation.{HasFieldsThrough, fields_behind, fields_left, fields_next, fields_or}
use Rattle.recalculation.proofs.PositionLemmas.{written_moved}
use Rattle.device_parts.specs.declared.condition.Condition.TheVariants.{Working}
use Rattle.device_parts.specs.Device.{Standing}
use Rattle.direct_device.specs.declared.parts.DirectParts.{DirectParts}
use Rattle.direct_device.specs.Device.{IsDirect}
use Rattle.journal_device.specs.declared.parts.JournalParts.{JournalParts}
use Rattle.journal_device.specs.Device.{IsJournaled}
use Rattle.place_model.specs.Awaiting.{AwaitsNoMore, HasNoMore, HasNoMoreIn, fields_of}

-- ---- fields

pub no_more_same : (g : Geometry) (s : Superblock) → AwaitsNoMore g s s
no_more_same g s = record { flag = λ set. set; blocks_ = λ b low is. is }

pub no_more_then : (g : Geometry) (s t u : Superblock) → AwaitsNoMore g s t → AwaitsNoMore g t u → AwaitsNoMore g s u
no_more_then g s t u first second = record {
  flag = λ set. first.flag (second.flag set);
  blocks_ = λ b low is. first.blocks_ b low (second.blocks_ b low is);
}

-- Whatever region the position moves to, it moves on; and without one no block is to be recalculated.
no_more_at : (g y : Geometry) (s : Superblock) (o : Option ℕ) → AwaitsNoMore g s (position_at s y o)
no_more_at g y s None =
    let gone : has_flag RECALCULATING (position_at s y None).flags ≡ false = has_flag-gone RECALCULATING (bit_not w32 RECALCULATING) s.flags refl in
    record {
      flag = λ set. absurd (true≢false (sym set ∙ gone));
      blocks_ = λ b low is. absurd (true≢false (sym (and_parts (has_flag RECALCULATING (position_at s y None).flags) (nat_lt s.provided ((b + 1) * g.shape.spb)) is).0 ∙ gone));
    }
no_more_at g y s (Some region) = record {
  flag = λ set. set;
  blocks_ = λ b low is.
      let parts = and_parts (has_flag RECALCULATING s.flags) (nat_lt (max s.recalc_sector (region_start y region)) ((b + 1) * g.shape.spb)) is in
      let below = ltb-true (max s.recalc_sector (region_start y region)) ((b + 1) * g.shape.spb) parts.1 in
      and_from (has_flag RECALCULATING s.flags) (nat_lt s.recalc_sector ((b + 1) * g.shape.spb)) parts.0 (lt-ltb s.recalc_sector ((b + 1) * g.shape.spb) (omega arith));
}

pub no_more_moved : (g y : Geometry) (s : Superblock) (awaiting : ℕ → Bool) → AwaitsNoMore g s (moved_fields s y awaiting)
no_more_moved g y s awaiting = no_more_at g y s (next_awaiting s y awaiting)

-- The fields that are written move it, if any are,
no_more_or : (g y : Geometry) (s : Superblock) (awaiting : ℕ → Bool) → AwaitsNoMore g s (fields_or (fields_to_write s y awaiting) s)
no_more_or g y s awaiting = elim (cases_option (fields_to_write s y awaiting)) [
  | inl none ↦ subst (λ (o : Option Superblock). AwaitsNoMore g s (fields_or o s)) (sym none) (no_more_same g s)
  | inr some ↦
      subst (λ (o : Option Superblock). AwaitsNoMore g s (fields_or o s)) (sym some.1)
      (subst (AwaitsNoMore g s) (sym (written_moved s y awaiting some.0 some.1).0) (no_more_moved g y s awaiting))
]

-- in a close,
pub no_more_left : (g : Geometry) (r : Recalculation) → AwaitsNoMore g r.position (fields_left r)
no_more_left g r = no_more_or g r.awaiting.geometry r.position (awaiting_of r.awaiting)

-- and in a step.
behind_no_more : (g : Geometry) (r : Recalculation) (o : Option ℕ) → AwaitsNoMore g r.position (fields_behind o r)
behind_no_more g r None = no_more_same g r.position
behind_no_more g r (Some region) = no_more_moved g r.awaiting.geometry r.position _

pub no_more_next : (g : Geometry) (r : Recalculation) → AwaitsNoMore g r.position (fields_next r)
no_more_next g r = behind_no_more g r _

-- ---- images

-- An image that is read under some fields has these in sector 0.
pub fields_read : (d : DiskFormat) (image : Image) → IsReadAs d image → fields_of image ≡ d.superblock
fields_read d image reads =
    let geometry = (reads_tells d image reads).is_geometry in
    let some : (d.sectors ≡ 0) → ⊥ = λ none. let last = geometry.last in let spb = geometry.spb.0 in omega arith in
    ap (λ (t : Bool). fields_in (if t then [] else image 0)) (sym (ne_eqb d.sectors 0 some))
    ∙ ap (λ (f : DiskFormat). f.superblock) (format_on-read d image reads)

-- A format of the device, under some fields, is the device's own under these.
pub under_is : (on d : DiskFormat) (s : Superblock) → IsFormatOf on d → under_fields d s ≡ under_fields on s
under_is on d s same =
    ap (λ (key : Option (List ℕ)). let f : DiskFormat = record { key = key; sectors = d.sectors; superblock = s; geometry = d.geometry } in f) same.key
    ∙ ap (λ (sectors : ℕ). let f : DiskFormat = record { key = on.key; sectors = sectors; superblock = s; geometry = d.geometry } in f) same.sectors
    ∙ ap (λ (g : Geometry). let f : DiskFormat = record { key = on.key; sectors = on.sectors; superblock = s; geometry = g } in f) same.geometry

-- Each candidate of sector 0 has the fields of this format, which has its geometry.
pub record HasHeads (d : DiskFormat) (c : Content) : Type 0 where
  pub each : (x : List ℕ) → Contains (c 0) x → superblock_of x ≡ Ok d.superblock
  pub has_geometry : geometry_of d.superblock d.sectors ≡ Ok d.geometry
  pub is_geometry : IsGeometry d.geometry d.sectors

-- So each image can be read in it.
pub heads_read : (d : DiskFormat) (c : Content) → HasHeads d c → EachImage (IsReadAs d) c
heads_read d c has image is =
    reads_from d image (record { head = has.each (image 0) (is 0); has_geometry = has.has_geometry; is_geometry = has.is_geometry })

-- So it is in the format of a device that works, under the fields of its position, in direct mode
pub heads_direct : (w : Standing) (device : DirectParts) (a : List Content) → IsDirect w Working device a → HasNow (HasHeads (under_fields w.on device.recalculation.position)) a
heads_direct w device a is c told =
    let d = is.disk in
    let works = is.over.works refl in
    let stands = (works.cells.now c told).stands in
    let heads : HasHeads d.format c = record {
      each = λ x among. (stands.each 0 x among).head refl;
      has_geometry = stands.formed.has_geometry;
      is_geometry = stands.formed.is_geometry;
    } in
    subst (λ (s : Superblock). HasHeads (under_fields w.on s) c) (sym works.recalculation_.fields)
    (subst (λ (f : DiskFormat). HasHeads f c) (under_is w.on d.format d.superblock is.format) heads)

-- and in journal mode.
pub heads_journal : (w : Standing) (device : JournalParts) (a : List Content) → IsJournaled w Working device a → HasNow (HasHeads (under_fields w.on device.state.recalculation.position)) a
heads_journal w device a is c told =
    let d = is.disk in
    let works = is.over.works refl in
    let stands = (works.keeps c told).keeps.stands in
    let heads : HasHeads d.format c = record {
      each = λ x among. (stands.each 0 x among).outside.head refl;
      has_geometry = stands.sound.formed.has_geometry;
      is_geometry = stands.sound.formed.is_geometry;
    } in
    subst (λ (s : Superblock). HasHeads (under_fields w.on s) c) (sym works.recalc_.fields)
    (subst (λ (f : DiskFormat). HasHeads f c) (under_is w.on d.format d.superblock is.format) heads)

-- ---- calls

-- It stays so while sector 0 is not written.
pub heads_stay : (w : Standing) (s : Superblock) (W : ℕ → List ℕ → Type 0) {a b : List Content} → ((x : List ℕ) → W 0 x → ⊥) → HasNow (HasHeads (under_fields w.on s)) a → EachSince (OnlyAdds W) a b
    → HasFieldsThrough w.on s s a b
heads_stay w s W {a} {b} other now writes =
    each_content W (EachImage (λ image. IsReadAs (under_fields w.on s) image ⊎ IsReadAs (under_fields w.on s) image))
    (λ start told c only image is.
    let had = now start told in
    let has : HasHeads (under_fields w.on s) c = record {
      each = λ x among. elim (only.among 0 x among) [
        | inl was ↦ had.each x was
        | inr written ↦ absurd (other x written)
      ];
      has_geometry = had.has_geometry;
      is_geometry = had.is_geometry;
    } in
    inl (heads_read (under_fields w.on s) c has image is)) writes

-- No block more awaits by the fields that images have then,
pub heads_no_more : (w : Standing) (old new : Superblock) {a b : List Content} → AwaitsNoMore w.on.geometry (fields_of w.entry) old → AwaitsNoMore w.on.geometry old new → HasFieldsThrough w.on old new a b
    → HasNoMoreIn w.on.geometry w.entry a b
heads_no_more w old new first moved through =
    EachMoment-weaker (λ c each image is. elim (each image is) [
      | inl was ↦ subst (AwaitsNoMore w.on.geometry (fields_of w.entry)) (sym (fields_read (under_fields w.on old) image was)) first
      | inr now ↦
          subst (AwaitsNoMore w.on.geometry (fields_of w.entry)) (sym (fields_read (under_fields w.on new) image now))
          (no_more_then w.on.geometry (fields_of w.entry) old new first moved)
    ]) through

-- also at its end,
pub no_more_now : (w : Standing) (s : Superblock) (a : List Content) → AwaitsNoMore w.on.geometry (fields_of w.entry) s → HasNow (HasHeads (under_fields w.on s)) a → HasNow (HasNoMore w.on.geometry w.entry) a
no_more_now w s a no_more heads c told image is =
    subst (AwaitsNoMore w.on.geometry (fields_of w.entry)) (sym (fields_read (under_fields w.on s) image (heads_read (under_fields w.on s) c (heads c told) image is))) no_more

-- and so by the fields of the position then.
pub no_more_behind : (w : Standing) (old new : Superblock) {a b : List Content} (told : Content) → content_now b ≡ Some told → ReadsImage b → AwaitsNoMore w.on.geometry (fields_of w.entry) old
    → HasNow (HasHeads (under_fields w.on old)) a → HasNoMoreIn w.on.geometry w.entry a b → HasNow (HasHeads (under_fields w.on new)) b → AwaitsNoMore w.on.geometry (fields_of w.entry) new
no_more_behind w old new {a} {b} told is_told reads no_more before through after =
    let image = last_image told in
    let is = reads told is_told in
    let now = content_at_end through (no_more_now w old a no_more before) told is_told image is in
    subst (AwaitsNoMore w.on.geometry (fields_of w.entry)) (fields_read (under_fields w.on new) image (heads_read (under_fields w.on new) told (after told is_told) image is)) now
