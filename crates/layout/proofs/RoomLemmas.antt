-- Whether a disk has room for a layout.
use Rattle.std.proofs.Common.{◌≡◌, ℕ, ◌+◌, ◌-◌, ◌^◌, ◌<◌, ◌≤◌, Bool, true, List, [], ◌∷◌, Ok, Err, refl, sym, ap, subst, ◌∙◌, arith}
use Rattle.std.specs.Prelude.{◌&&◌, nat_lt}
use Rattle.std.proofs.lemmas.Bool.{lt-ltb, le-ltb}
use Rattle.image_model.specs.declared.flags.TheConstants.{DIRTY_BITMAP}
use Rattle.image_model.specs.Faults.{ok_unless}
use Rattle.image_model.specs.Superblock.{Superblock, has_flag, IsAccepted}
use Rattle.image_model.specs.Geometry.{Geometry, bitmap_sectors, geometry_of, journal_sectors, layout_of, sector_at, size_faults}
use Rattle.image_model.specs.declared.geom_fault.GeomFault.{GeomFault}
use Rattle.image_model.specs.declared.geom_fault.GeomFault.TheVariants.{TooSmall, BitmapTooLarge}
use Rattle.image_model.proofs.Bounds.{sector_at-low}
use Rattle.image_model.proofs.FaultLemmas.{ok_unless-append_err}
use Rattle.image_model.proofs.GeometryOf.{geometry_given}
use Rattle.layout.specs.Layout.{IsWithinLimits}

-- The sector of the disk that holds the last provided one.
abbrev last_sector : Superblock → Geometry → ℕ
last_sector s g = sector_at g (s.provided - 1)

-- Where it is within limits, the journal of the fields is.
pub journal_within : (s : Superblock) (sectors : ℕ) (g : Geometry) → IsWithinLimits s sectors g
    → journal_sectors (layout_of s) ≤ 2 ^ 20
journal_within s sectors g within = subst (λ g. journal_sectors g ≤ 2 ^ 20) within.geometry within.journal

-- ---- for callers

-- The place of the last provided sector can be told in 64 bits.
pub last_sector_fits : (s : Superblock) (sectors : ℕ) (g : Geometry) → IsAccepted s → IsWithinLimits s sectors g
    → last_sector s g < 2 ^ 55
last_sector_fits s sectors g h within =
    let provided = h.provided in
    subst (λ g. last_sector s g < 2 ^ 55) (sym within.geometry)
    (sector_at-low s (s.provided - 1) h.layout (journal_within s sectors g within) (omega arith))

-- What is refused by size alone is refused.
pub geometry_of-refused : (s : Superblock) (sectors : ℕ) (fault : GeomFault)
    → Err fault ≡ ok_unless (size_faults (layout_of s) sectors) (layout_of s) → Err fault ≡ geometry_of s sectors
unfolding geometry_of
geometry_of-refused s sectors fault told =
    let g = layout_of s in
    let need = last_sector s g + 1 in
    let has_long_bitmap = has_flag DIRTY_BITMAP s.flags && nat_lt (journal_sectors g) (bitmap_sectors g) in
    let later : List (Bool × GeomFault) =
    (nat_lt sectors need, TooSmall sectors need)
    ∷ (has_long_bitmap, BitmapTooLarge (bitmap_sectors g) (journal_sectors g))
    ∷ [] in
    sym (ok_unless-append_err (size_faults g sectors) later g g fault (sym told))

-- Without room for the last sector the disk is too small.
pub geometry_of-small : (s : Superblock) (sectors last : ℕ) (g : Geometry) → IsWithinLimits s sectors g
    → last ≡ last_sector s g → sectors < last + 1 → Err (TooSmall sectors (last + 1)) ≡ geometry_of s sectors
unfolding geometry_of
geometry_of-small s sectors last g within last_is small =
    let last_own : last ≡ last_sector s (layout_of s) = last_is ∙ ap (last_sector s) within.geometry in
    let device = le-ltb (2 ^ 48) sectors within.device in
    let journal = le-ltb (2 ^ 20) (journal_sectors (layout_of s)) (journal_within s sectors g within) in
    let test = lt-ltb sectors (last + 1) small in
    rw (device, journal, ← last_own, test) refl

-- With it, but with too long a bitmap, that is.
pub geometry_of-long_bitmap : (s : Superblock) (sectors last need have : ℕ) (g : Geometry)
    → IsWithinLimits s sectors g → last ≡ last_sector s g → last + 1 ≤ sectors
    → has_flag DIRTY_BITMAP s.flags ≡ true → need ≡ bitmap_sectors g → have ≡ journal_sectors g → have < need
    → Err (BitmapTooLarge need have) ≡ geometry_of s sectors
unfolding geometry_of
geometry_of-long_bitmap s sectors last need have g within last_is enough flag need_is have_is long =
    let is = within.geometry in
    let last_own : last ≡ last_sector s (layout_of s) = last_is ∙ ap (last_sector s) is in
    let need_own : need ≡ bitmap_sectors (layout_of s) = need_is ∙ ap (λ g. bitmap_sectors g) is in
    let have_own : have ≡ journal_sectors (layout_of s) = have_is ∙ ap (λ g. journal_sectors g) is in
    let device = le-ltb (2 ^ 48) sectors within.device in
    let journal = le-ltb (2 ^ 20) have (subst (λ n. n ≤ 2 ^ 20) (sym have_is) within.journal) in
    let test = le-ltb sectors (last + 1) enough in
    let bitmap = lt-ltb have need long in
    rw (← last_own, ← need_own, ← have_own, device, journal, test, flag, bitmap) refl

-- With all of them it has room.
pub geometry_of-room : (s : Superblock) (sectors last need have : ℕ) (g : Geometry)
    → IsWithinLimits s sectors g → last ≡ last_sector s g → last + 1 ≤ sectors
    → need ≡ bitmap_sectors g → have ≡ journal_sectors g → (has_flag DIRTY_BITMAP s.flags ≡ true → need ≤ have)
    → Ok g ≡ geometry_of s sectors
geometry_of-room s sectors last need have g within last_is enough need_is have_is short =
    let is = within.geometry in
    sym ((geometry_given s sectors g).1 (
      is,
      record {
        device = within.device;
        journal = journal_within s sectors g within;
        last = subst (λ g. last_sector s g < sectors) is (omega arith);
        bitmap = subst (λ g. has_flag DIRTY_BITMAP s.flags ≡ true → bitmap_sectors g ≤ journal_sectors g) is
            (λ set. let fits = short set in omega arith);
      },
    ))
