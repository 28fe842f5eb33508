-- Lemmas on the words of specs/Superblock.antt.
use Rattle.std.proofs.Common.{◌≡◌, ℕ, ◌^◌, ◌<◌, ◌≤◌, max, true, false, not, List, [], ◌∷◌, ◌++◌, length, take, slice_index, Ok, Err, refl, sym, ap, subst, ◌∙◌, arith, bit_and}
use Rattle.std.proofs.lemmas.Bool.{cond_both, not-false, not_from_true, leb-true, le-leb, le-ltb, and_parts, and_from, ltb-false, eqb-true, eqb-false, eq-eqb, ne_eqb}
use Rattle.std.proofs.lemmas.List.{take_at}
use Rattle.std.proofs.lemmas.Nat.{and_assoc}
use Rattle.std.proofs.Math.Nat.{mod-eq_of_lt}
use Rattle.std.specs.Prelude.{nat_eq}
use Rattle.std.specs.List.{starts_with}
use Rattle.std.specs.Bool.{Decides}
use Rattle.std.proofs.lemmas.Bool.Decides.{Decides-eqb}
use Rattle.std.proofs.lemmas.Slice.Eq.{slice_eq-Decides}
use Rattle.std.specs.Int.{w32, bit_not, is_in_range, IsInRange}
use Rattle.image_model.specs.declared.flags.TheConstants.{HAVE_JOURNAL_MAC, RECALCULATING, DIRTY_BITMAP, FIXED_PADDING, FIXED_HMAC, INLINE, KNOWN_FLAGS}
use Rattle.image_model.specs.Superblock.{Superblock, has_flag, unknown_flags, is_provided, superblock_faults, magic, fields_in, superblock_of, superblock_bytes, version_for, IsAccepted}
use Rattle.image_model.specs.declared.super_fields.SuperFault.TheVariants.{Magic}
use Rattle.image_model.specs.Faults.{ok_unless}
use Rattle.image_model.specs.SuperblockLaws.{FitsBytes, ToldLaw, ReadsBackLaw, WrittenLaw}
use Rattle.image_model.proofs.SectorLemmas.{number_in-bytes_of, number_in-lt, length-piece}
use Rattle.image_model.proofs.FaultLemmas.{HasPassed, ok_unless-told, ok_unless-passed}

-- ---- tests and what they tell

in_range : (low high n : ℕ) → not (is_in_range low high n) ≡ false → IsInRange low high n
in_range low high n h =
    let parts = and_parts _ _ (not-false _ h) in
    (leb-true low n parts.0, leb-true n high parts.1)

passes_range : (low high n : ℕ) → IsInRange low high n → not (is_in_range low high n) ≡ false
passes_range low high n h = not_from_true _ (and_from _ _ (le-leb low n h.0) (le-leb n high h.1))

-- A flag outside the known ones is not set where no unknown one is.
pub flag_unset : (flag flags : ℕ) → bit_and (bit_not w32 KNOWN_FLAGS) flag ≡ flag → unknown_flags flags ≡ 0 → has_flag flag flags ≡ false
flag_unset flag flags outside none =
    let none_here : bit_and flags flag ≡ 0 =
    ap (bit_and flags) (sym outside) ∙ sym (and_assoc flag flags (bit_not w32 KNOWN_FLAGS)) ∙ ap (λ n. bit_and n flag) none in
    not_from_true _ (eq-eqb _ 0 none_here)

-- ---- the fields

-- Fields that no test refuses are accepted.
passed_accepted : (s : Superblock) → HasPassed (superblock_faults s) → IsAccepted s
passed_accepted s (version, (mac, (inline, (flags, (interleave, (block, (tag, (sections, (provided, end))))))))) =
    let parts = and_parts _ _ (not-false _ provided) in
    let some = eqb-false s.sections 0 sections in
    record {
      layout = record {
        version = in_range 1 5 s.version version;
        flags = eqb-true _ 0 (not-false _ flags);
        log2_interleave = in_range 3 31 s.log2_interleave interleave;
        log2_spb = ltb-false 3 s.log2_spb block;
        tag_size = in_range 1 32 s.tag_size tag;
        sections = omega (arith, some);
      };
      provided = in_range 1 (2 ^ 48) s.provided (not_from_true _ parts.0);
      whole_blocks = eqb-true _ 0 parts.1;
    }

-- No test refuses accepted fields.
accepted_passed : (s : Superblock) → IsAccepted s → HasPassed (superblock_faults s)
accepted_passed s h =
    let layout = h.layout in (
      passes_range 1 5 s.version layout.version,
      (
        flag_unset HAVE_JOURNAL_MAC s.flags refl layout.flags,
        (
          flag_unset INLINE s.flags refl layout.flags,
          (
            not_from_true _ (eq-eqb _ 0 layout.flags),
            (
              passes_range 3 31 s.log2_interleave layout.log2_interleave,
              (
                le-ltb 3 s.log2_spb layout.log2_spb,
                (
                  passes_range 1 32 s.tag_size layout.tag_size,
                  (
                    ne_eqb s.sections 0 (λ e. let some = layout.sections in omega arith),
                    (
                      not_from_true _ (and_from _ _ (not-false _ (passes_range 1 (2 ^ 48) s.provided h.provided)) (eq-eqb _ 0 h.whole_blocks)),
                      tt,
                    ),
                  ),
                ),
              ),
            ),
          ),
        ),
      ),
    )

-- The magic stands exactly where the first eight bytes are its own.
magic_decides : (bytes : List ℕ) → Decides (starts_with nat_eq bytes magic) (magic ≡ take 8 bytes)
magic_decides bytes = slice_eq-Decides Decides-eqb magic (take 8 bytes) _ refl

-- ---- what is written

-- Fields that are equal one by one are equal.
same_fields : (s : Superblock) (version log2_interleave tag_size sections provided flags log2_spb log2_region recalc_sector : ℕ) (salt : List ℕ) → version ≡ s.version → log2_interleave ≡ s.log2_interleave → tag_size ≡ s.tag_size → sections ≡ s.sections → provided ≡ s.provided → flags ≡ s.flags → log2_spb ≡ s.log2_spb → log2_region ≡ s.log2_region → recalc_sector ≡ s.recalc_sector → salt ≡ s.salt → record { version = version; log2_interleave = log2_interleave; tag_size = tag_size; sections = sections; provided = provided; flags = flags; log2_spb = log2_spb; log2_region = log2_region; recalc_sector = recalc_sector; salt = salt } ≡ s
same_fields s _ _ _ _ _ _ _ _ _ _ is_version is_interleave is_tag_size is_sections is_provided is_flags is_spb is_region is_recalc_sector is_salt =
    rw (is_version, is_interleave, is_tag_size, is_sections, is_provided, is_flags, is_spb, is_region, is_recalc_sector, is_salt) refl

-- The bytes of the fields hold the fields.
fields_in-superblock_bytes : (s : Superblock) (rest : List ℕ) → IsAccepted s → FitsBytes s → fields_in (superblock_bytes s ++ rest) ≡ s
unfolding fields_in superblock_bytes
fields_in-superblock_bytes s rest h fits =
    let layout = h.layout in
    same_fields s _ _ _ _ _ _ _ _ _ _
    (mod-eq_of_lt (omega arith))
    (mod-eq_of_lt (omega arith))
    (number_in-bytes_of s.tag_size 2 [] (omega arith))
    (number_in-bytes_of s.sections 4 [] (omega arith))
    (number_in-bytes_of s.provided 8 [] (omega arith))
    (number_in-bytes_of s.flags 4 [] (omega arith))
    (mod-eq_of_lt (omega arith))
    (mod-eq_of_lt (omega arith))
    (number_in-bytes_of s.recalc_sector 8 [] (omega arith))
    (take_at s.salt rest 16 fits.salt)

magic_written : (s : Superblock) (rest : List ℕ) → take 8 (superblock_bytes s ++ rest) ≡ magic
unfolding superblock_bytes
magic_written s rest = refl

-- ---- for callers

-- The fields are told exactly where the magic stands and none of them is refused.
pub superblock_told : ToldLaw
unfolding superblock_of
superblock_told bytes s = (
  λ told.
      let parts = ok_unless-told ((not (starts_with nat_eq bytes magic), Magic) ∷ superblock_faults (fields_in bytes)) (fields_in bytes) s told in
      let accepted = passed_accepted (fields_in bytes) parts.1.1 in
      (sym ((magic_decides bytes).0 (not-false _ parts.1.0)), sym parts.0, subst IsAccepted parts.0 accepted),
  λ h.
      let accepted = subst IsAccepted h.1 h.2 in
      let known = (magic_decides bytes).1 (sym h.0) in
      ok_unless-passed ((not (starts_with nat_eq bytes magic), Magic) ∷ superblock_faults (fields_in bytes)) (fields_in bytes)
      (not_from_true _ known, accepted_passed (fields_in bytes) accepted)
      ∙ ap Ok (sym h.1),
)

-- No test refuses accepted fields.
pub superblock_faults-passed : (s : Superblock) → IsAccepted s → ok_unless (superblock_faults s) s ≡ Ok s
superblock_faults-passed s h = ok_unless-passed (superblock_faults s) s (accepted_passed s h)

-- Fields that no test refuses are accepted.
pub superblock_faults-accepted : (s told : Superblock) → ok_unless (superblock_faults s) s ≡ Ok told → IsAccepted s
superblock_faults-accepted s told is = passed_accepted s (ok_unless-told (superblock_faults s) s told is).1

-- Without the magic nothing else is looked at.
pub superblock_of-no_magic : (bytes : List ℕ) → starts_with nat_eq bytes magic ≡ false → superblock_of bytes ≡ Err Magic
unfolding superblock_of
superblock_of-no_magic bytes missing = ap (λ known. ok_unless ((not known, Magic) ∷ superblock_faults (fields_in bytes)) (fields_in bytes)) missing

-- With it the fields are judged.
pub superblock_of-magic : (bytes : List ℕ) → starts_with nat_eq bytes magic ≡ true → superblock_of bytes ≡ ok_unless (superblock_faults (fields_in bytes)) (fields_in bytes)
unfolding superblock_of
superblock_of-magic bytes known = ap (λ known. ok_unless ((not known, Magic) ∷ superblock_faults (fields_in bytes)) (fields_in bytes)) known

-- What was written for accepted fields reads as these fields.
pub superblock_of-superblock_bytes : ReadsBackLaw
superblock_of-superblock_bytes s rest h fits =
    let same = fields_in-superblock_bytes s rest h fits in
    (superblock_told (superblock_bytes s ++ rest) s).1 (magic_written s rest, sym same, h)

-- The fields take 64 bytes.
pub length-superblock_bytes : WrittenLaw
unfolding superblock_bytes
length-superblock_bytes s fits = omega (arith, fits.salt)

-- What stands in bytes fits them.
pub FitsBytes-fields_in : (bytes : List ℕ) → 64 ≤ length bytes → ((k : ℕ) → slice_index bytes k < 256) → FitsBytes (fields_in bytes)
unfolding fields_in
FitsBytes-fields_in bytes long low = record {
  sections = number_in-lt bytes 12 4 low;
  flags = number_in-lt bytes 24 4 low;
  log2_region = low 29;
  recalc_sector = number_in-lt bytes 32 8 low;
  salt = length-piece bytes 48 16 (omega arith);
}

-- A version that is written is one that is accepted, and none below the version read.
pub version_for-accepted : (version flags : ℕ) → IsInRange 1 5 version → IsInRange 1 5 (version_for version flags) × (version ≤ version_for version flags)
version_for-accepted version flags h =
    let in_range : ℕ → Type 0 = λ n. IsInRange 1 5 (max version n) × (version ≤ max version n) in
    cond_both (has_flag FIXED_HMAC flags) 5 _ in_range (λ set. ((omega arith, omega arith), omega arith))
    (λ unset. cond_both (has_flag FIXED_PADDING flags) 4 _ in_range (λ set. ((omega arith, omega arith), omega arith))
    (λ unset. cond_both (has_flag DIRTY_BITMAP flags) 3 _ in_range (λ set. ((omega arith, omega arith), omega arith))
    (λ unset. cond_both (has_flag RECALCULATING flags) 2 1 in_range (λ set. ((omega arith, omega arith), omega arith)) (λ unset. ((omega arith, omega arith), omega arith)))))
