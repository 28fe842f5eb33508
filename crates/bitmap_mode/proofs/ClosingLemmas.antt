-- The bits that a close clears, one after the other.
use Rattle.std.proofs.Common.{◌≡◌, ◌≢◌, inl, inr, ℕ, zero, suc, ◌+◌, ◌-◌, ◌<◌, ◌≤◌, Bool, false, not, ◌&&◌, nat_lt, if◌then◌else◌, refl, sym, ◌∙◌, ap, subst, arith, List, Option, Some, None, find}
use Rattle.std.specs.List.{range_with_len}
use Rattle.std.proofs.lemmas.Bool.{and_from, and_left, and_right, cases_Bool, cases_eq, cases_lt, le-ltb, lt-ltb, not_from_false, true≢false}
use Rattle.disk_model.specs.Disk.{Content, OnlyAdds}
use Rattle.disk_model.specs.Moments.{EachSince}
use Rattle.disk_model.proofs.MomentsLemmas.{adds_then, adds_wider}
use Rattle.image_model.specs.Geometry.{Geometry, regions}
use Rattle.device_model.specs.Regions.{RegionCounts, clean_all, with_region, written_back}
use Rattle.journal_laws.specs.RegionLaws.{AreRegions}
use Rattle.bitmap_model.specs.BitmapDisk.{BitmapDisk}
use Rattle.bitmap_model.proofs.BitLemmas.{with_region-here, with_region-other}
use Rattle.bitmap_laws.specs.CallLaws.{AddsBits, AreSameBits, IsBitmapSector, KeepsNow, StandsThrough}
use Rattle.bitmap_laws.specs.CloseLaws.{IsRested, cleared_below}
use Rattle.bitmap_laws.specs.EventLaws.{with_cleared}
use Rattle.bitmap_laws.specs.ServeLaws.{ClearsBit}
use Rattle.bitmap_laws.proofs.CallLemmas.{kept_stands_law, still_law}
use Rattle.bitmap_laws.proofs.CloseLemmas.{clear_begins_law, clear_ends_law, clear_fails_law, clear_skips_law, clear_stands_law, clear_turn_law}
use Rattle.dirty_bitmap.specs.Regions.{Regions, has_region}
use Rattle.tag_store.specs.Store.{IsMarkedTags, Store}
use Rattle.recalculation.specs.Awaiting.{AwaitingRegions, awaiting_of}
use Rattle.bitmap_mode.specs.States.{AreSameCounts, States, counts_of, may_be_clean}
use Rattle.bitmap_mode.specs.Closing.{IsClosedInPart, IsOfCleared, IsOfClose, bits_cleared}
use Rattle.bitmap_mode.proofs.CleaningLemmas.{clean_parts}
use Rattle.recalculation.proofs.FindLemmas.{IsNext, next_found, next_none}

-- ---- bits

module _ (c : RegionCounts) where
  cleared-in : (count r : ℕ) → r < count → bits_cleared c count r ≡ (c.set_bits r && c.awaiting r)
  cleared-in count r low = ap (λ (t : Bool). if t then c.set_bits r && c.awaiting r else c.set_bits r) (lt-ltb r count low)

  pub cleared-out : (count r : ℕ) → count ≤ r → bits_cleared c count r ≡ c.set_bits r
  cleared-out count r high = ap (λ (t : Bool). if t then c.set_bits r && c.awaiting r else c.set_bits r) (le-ltb r count high)

  -- A region that may not be cleaned, and is not fresh, keeps what it has.
  kept_so : (now : RegionCounts) (r : ℕ) → now.set_bits r ≡ c.set_bits r → now.awaiting r ≡ c.awaiting r → now.fresh r ≡ false → may_be_clean now r ≡ false → (c.set_bits r && c.awaiting r) ≡ c.set_bits r
  kept_so now r set awaits rests none = elim (cases_Bool (c.set_bits r)) [
    | inr clear ↦ and_left (c.set_bits r) (c.awaiting r) clear ∙ sym clear
    | inl is ↦ elim (cases_Bool (c.awaiting r)) [
      | inl waits ↦ and_from (c.set_bits r) (c.awaiting r) is waits ∙ sym is
      | inr idle ↦ absurd (true≢false (sym (and_from (now.set_bits r && not (now.awaiting r)) (not (now.fresh r))
          (and_from (now.set_bits r) (not (now.awaiting r)) (set ∙ is) (not_from_false (now.awaiting r) (awaits ∙ idle))) (not_from_false (now.fresh r) rests)) ∙ none))
    ]
  ]

  module _ (g : Geometry) (now : RegionCounts) (from : ℕ) (bits : AreSameBits g now.set_bits (bits_cleared c from)) (awaits : (r : ℕ) → now.awaiting r ≡ c.awaiting r)
      (rested : (r : ℕ) → r < regions g → now.fresh r ≡ false) where
    pub passed : (r : ℕ) → from ≤ r → r < regions g → may_be_clean now r ≡ false → (c.set_bits r && c.awaiting r) ≡ c.set_bits r
    passed r above low none = kept_so now r (bits r low ∙ cleared-out from r above) (awaits r) (rested r low) none

    -- So the bits are as well those with more regions behind.
    same_to : (count : ℕ) → from ≤ count → ((r : ℕ) → from ≤ r → r < count → may_be_clean now r ≡ false) → AreSameBits g now.set_bits (bits_cleared c count)
    same_to count high none r low = bits r low ∙ elim (cases_lt r count) [
      | inr behind ↦ cleared-out from r (omega (arith, high, behind)) ∙ sym (cleared-out count r behind)
      | inl within ↦ elim (cases_lt r from) [
        | inl before ↦ cleared-in from r before ∙ sym (cleared-in count r within)
        | inr above ↦ cleared-out from r above ∙ sym (passed r above low (none r above within)) ∙ sym (cleared-in count r within)
      ]
    ]

    -- One bit more is cleared.
    pub cleared_next : (region : ℕ) → IsNext (may_be_clean now) (regions g) from region → c.awaiting region ≡ false → (new : ℕ → Bool) → AreSameBits g new (with_region region false now.set_bits)
        → AreSameBits g new (bits_cleared c (region + 1))
    cleared_next region next idle new clears r low = clears r low ∙ elim (cases_eq region r) [
      | inl here ↦
          with_region-here region r false now.set_bits here
          ∙ sym (cleared-in (region + 1) r (omega (arith, here)) ∙ and_right (c.set_bits r) (c.awaiting r) (ap c.awaiting (sym here) ∙ idle))
      | inr apart ↦
          let above = next.above in
          with_region-other region r false now.set_bits apart
          ∙ same_to region above next.before r low
          ∙ elim (cases_lt r region) [
            | inl before ↦ cleared-in region r before ∙ sym (cleared-in (region + 1) r (omega arith))
            | inr behind ↦ let other : region ≢ r = apart in cleared-out region r behind ∙ sym (cleared-out (region + 1) r (omega (arith, behind, other)))
          ]
    ]

    -- Behind the last one all are.
    pub cleared_all : ((r : ℕ) → from ≤ r → r < regions g → may_be_clean now r ≡ false) → AreSameBits g now.set_bits (clean_all c).set_bits
    cleared_all none r low = elim (cases_lt r from) [
      | inl before ↦ bits r low ∙ cleared-in from r before
      | inr above ↦ bits r low ∙ cleared-out from r above ∙ sym (passed r above low (none r above low))
    ]

-- ---- what its disk stands for

module _ (d : BitmapDisk) (marked : ℕ → Bool) (c : RegionCounts) (g : Geometry) (there : d.geometry ≡ g) (are : AreRegions c d) (rested : IsRested d) where
  in_disk : (r : ℕ) → r < regions g → r < regions d.geometry
  in_disk r low = subst (λ (y : Geometry). r < regions y) (sym there) low

  -- The bits in memory are those of the disk.
  disk_cleared : (count : ℕ) → AreSameBits g (bits_cleared c count) (cleared_below d count).bits
  disk_cleared count r low =
      ap (λ (t : Bool). if nat_lt r count then t && c.awaiting r else t) (are.set_bits r (in_disk r low))
      ∙ ap (λ (t : Bool). if nat_lt r count then d.bits r && t else d.bits r) (are.awaiting r (in_disk r low))

  -- Regions that keep what they have are passed.
  pass_more : (tags : Content → ℕ → List ℕ) (a : List Content) (from n : ℕ) → ((r : ℕ) → from ≤ r → r < from + n → (d.bits r && d.awaiting r) ≡ d.bits r)
      → KeepsNow (cleared_below d from) marked tags a → KeepsNow (cleared_below d (from + n)) marked tags a
  pass_more tags a from zero kept keeps = let none : from ≡ from + zero = omega arith in subst (λ (k : ℕ). KeepsNow (cleared_below d k) marked tags a) none keeps
  pass_more tags a from (suc n) kept keeps =
      let more : from + n + 1 ≡ from + suc n = omega arith in
      subst (λ (k : ℕ). KeepsNow (cleared_below d k) marked tags a) more
      (clear_skips_law d (from + n) marked tags a (kept (from + n) (omega arith) (omega arith)) (pass_more tags a from n (λ r above under. kept r above (omega arith)) keeps))

  pass_to : (tags : Content → ℕ → List ℕ) (a : List Content) (from count : ℕ) → from ≤ count → count ≤ regions g → ((r : ℕ) → from ≤ r → r < count → (c.set_bits r && c.awaiting r) ≡ c.set_bits r)
      → KeepsNow (cleared_below d from) marked tags a → KeepsNow (cleared_below d count) marked tags a
  pass_to tags a from count high inside kept keeps =
      let all : from + (count - from) ≡ count = omega arith in
      subst (λ (k : ℕ). KeepsNow (cleared_below d k) marked tags a) all
      (pass_more tags a from (count - from)
      (λ r above under.
      let low = in_disk r (omega (arith, inside, high)) in
      ap (λ (t : Bool). t && d.awaiting r) (sym (are.set_bits r low))
      ∙ ap (λ (t : Bool). c.set_bits r && t) (sym (are.awaiting r low))
      ∙ kept r above (omega (arith, high)) ∙ are.set_bits r low)
      keeps)

  -- At the start none is cleared,
  pub close_begins : (tags : Content → ℕ → List ℕ) (a : List Content) → KeepsNow d marked tags a → KeepsNow (cleared_below d 0) marked tags a × StandsThrough (with_cleared d) marked a a
  close_begins tags a keeps =
      let begins = clear_begins_law d marked tags a keeps in
      (begins, clear_stands_law d marked 0 a a rested (still_law (cleared_below d 0) marked a a refl (kept_stands_law (cleared_below d 0) marked tags a begins)))

  module _ (tags : Content → ℕ → List ℕ) (a : List Content) (now : RegionCounts) (from region : ℕ) (bits : AreSameBits g now.set_bits (bits_cleared c from)) (awaits : (r : ℕ) → now.awaiting r ≡ c.awaiting r)
      (idle_ : (r : ℕ) → r < regions g → now.fresh r ≡ false) (next : IsNext (may_be_clean now) (regions g) from region) (idle : c.awaiting region ≡ false)
      (keeps : KeepsNow (cleared_below d from) marked tags a) where
    here : KeepsNow (cleared_below d region) marked tags a
    here =
        let inside = next.inside in
        pass_to tags a from region next.above (omega (arith, inside)) (λ r above under. passed c g now from bits awaits idle_ r above (omega (arith, under, inside)) (next.before r above under)) keeps

    bits_here : AreSameBits g now.set_bits (cleared_below d region).bits
    bits_here r low = same_to c g now from bits awaits idle_ region next.above next.before r low ∙ disk_cleared region r low

    idle_here : d.awaiting region ≡ false
    idle_here = sym (are.awaiting region (in_disk region next.inside)) ∙ idle

    -- a turn clears one,
    pub close_turn : (now_ : Content → ℕ → List ℕ) (b : List Content) → ClearsBit g now.set_bits region tags now_ a b
        → StandsThrough (with_cleared d) marked a b × KeepsNow (cleared_below d (region + 1)) marked now_ b
    close_turn now_ b clears = clear_turn_law d g region marked now.set_bits tags now_ a b there rested next.inside idle_here bits_here here clears

    -- or fails,
    pub close_fails : (b : List Content) → AddsBits g (with_region region false now.set_bits) a b → StandsThrough (with_cleared d) marked a b
    close_fails b adds = clear_fails_law d g region marked now.set_bits tags a b there rested idle_here bits_here here adds

  -- and at the end all are.
  pub close_ends : (tags : Content → ℕ → List ℕ) (a : List Content) (from : ℕ) → from ≤ regions g → ((r : ℕ) → from ≤ r → r < regions g → (c.set_bits r && c.awaiting r) ≡ c.set_bits r)
      → KeepsNow (cleared_below d from) marked tags a → KeepsNow (with_cleared d) marked tags a
  close_ends tags a from low kept keeps =
      clear_ends_law d marked tags a (subst (λ (y : Geometry). KeepsNow (cleared_below d (regions y)) marked tags a) (sym there) (pass_to tags a from (regions g) low (omega arith) kept keeps))

-- ---- what is written

sector_same : (g : Geometry) (one other : ℕ → Bool) (sector : ℕ) (x : List ℕ) → AreSameBits g one other → IsBitmapSector g one sector x → IsBitmapSector g other sector x
sector_same g one other sector x same of = record {
  group = of.group;
  inside = of.inside;
  is = of.is;
  are = record { whole = of.are.whole; each = λ r low there. of.are.each r low there ∙ same r low; unused = of.are.unused };
}

-- Sectors of the bitmap with some of the bits cleared, and then one with a bit more.
pub clears_more : (g : Geometry) (c : RegionCounts) (bits : ℕ → Bool) (count : ℕ) {a m b : List Content} → AreSameBits g bits (bits_cleared c count) → EachSince (OnlyAdds (IsOfCleared g c)) a m → AddsBits g bits m b
    → EachSince (OnlyAdds (IsOfCleared g c)) a b
clears_more g c bits count same first adds =
    adds_then (IsOfCleared g c) first (adds_wider (IsBitmapSector g bits) (IsOfCleared g c) (λ sector x of. record { count = count; sector_ = sector_same g bits (bits_cleared c count) sector x same of }) adds)

-- ---- the loop

-- What is found is next of the regions, by the geometry at the start.
pub next_there : (s now : States) (from region : ℕ) (o : Option ℕ) → now.geometry ≡ s.geometry → o ≡ find (may_be_clean (counts_of now)) (range_with_len from (regions now.geometry - from)) → o ≡ Some region
    → IsNext (may_be_clean (counts_of now)) (regions s.geometry) from region
next_there s now from region o there is found =
    subst (λ (y : Geometry). IsNext (may_be_clean (counts_of now)) (regions y) from region) there (next_found (may_be_clean (counts_of now)) (regions now.geometry) from region o is found)

pub none_there : (s now : States) (from : ℕ) (o : Option ℕ) → now.geometry ≡ s.geometry → o ≡ find (may_be_clean (counts_of now)) (range_with_len from (regions now.geometry - from)) → o ≡ None
    → (r : ℕ) → from ≤ r → r < regions s.geometry → may_be_clean (counts_of now) r ≡ false
none_there s now from o there is none r above low =
    next_none (may_be_clean (counts_of now)) (regions now.geometry) from o is none r above (subst (λ (y : Geometry). r < regions y) (sym there) low)

-- The other counts are those at the start.
pub awaits_there : (s now : States) → now.awaiting ≡ s.awaiting → (r : ℕ) → (counts_of now).awaiting r ≡ (counts_of s).awaiting r
awaits_there s now same r = ap (λ (w : AwaitingRegions). awaiting_of w r) same

pub rested_there : (s now : States) → now.fresh ≡ s.fresh → ((r : ℕ) → r < regions s.geometry → (counts_of s).fresh r ≡ false) → (r : ℕ) → r < regions s.geometry → (counts_of now).fresh r ≡ false
rested_there s now same rested r low = ap (λ (set : Regions). has_region set r) same ∙ rested r low

-- Such a region does not await.
pub idle_there : (s now : States) (from region : ℕ) → now.awaiting ≡ s.awaiting → IsNext (may_be_clean (counts_of now)) (regions s.geometry) from region → (counts_of s).awaiting region ≡ false
idle_there s now from region same next = sym (awaits_there s now same region) ∙ (clean_parts (counts_of now) region next.passes).1

-- The disk has the counts then.
pub regions_cleared : (d : BitmapDisk) (c : RegionCounts) → AreRegions c d → AreRegions (clean_all c) (with_cleared d)
regions_cleared d c are = record {
  set_bits = λ r low. ap (λ (t : Bool). t && c.awaiting r) (are.set_bits r low) ∙ ap (λ (t : Bool). d.bits r && t) (are.awaiting r low);
  awaiting = are.awaiting;
  fresh = are.fresh;
}

-- ---- behind a flush

-- None is fresh then.
pub none_fresh : (s flushed : States) → flushed.geometry ≡ s.geometry → AreSameCounts s.geometry (counts_of flushed) (written_back (counts_of s)) → (r : ℕ) → r < regions flushed.geometry → (counts_of flushed).fresh r ≡ false
none_fresh s flushed there counts r low = counts.fresh r (subst (λ (y : Geometry). r < regions y) there low)

-- The counts are those at the start, with these bits cleared.
pub counts_closed : (s flushed closed : States) → flushed.geometry ≡ s.geometry → AreSameCounts s.geometry (counts_of flushed) (written_back (counts_of s)) → AreSameCounts flushed.geometry (counts_of closed) (clean_all (counts_of flushed))
    → AreSameCounts s.geometry (counts_of closed) (clean_all (written_back (counts_of s)))
counts_closed s flushed closed there first second =
    let low_in = λ (r : ℕ) (low : r < regions s.geometry). subst (λ (y : Geometry). r < regions y) (sym there) low in
    record {
      set_bits = λ r low.
          second.set_bits r (low_in r low)
          ∙ ap (λ (t : Bool). t && (counts_of flushed).awaiting r) (first.set_bits r low)
          ∙ ap (λ (t : Bool). (counts_of s).set_bits r && t) (first.awaiting r low);
      awaiting = λ r low. second.awaiting r (low_in r low) ∙ first.awaiting r low;
      fresh = λ r low. second.fresh r (low_in r low) ∙ first.fresh r low;
    }

-- So they are in part, where not all of these were cleared,
pub closed_in_part : (s flushed closed : States) → flushed.geometry ≡ s.geometry → AreSameCounts s.geometry (counts_of flushed) (written_back (counts_of s))
    → IsClosedInPart flushed.geometry (counts_of flushed) (counts_of closed) → IsClosedInPart s.geometry (written_back (counts_of s)) (counts_of closed)
closed_in_part s flushed closed there first part =
    let low_in = λ (r : ℕ) (low : r < regions s.geometry). subst (λ (y : Geometry). r < regions y) (sym there) low in
    record {
      count = part.count;
      counts = record {
        set_bits = λ r low.
            part.counts.set_bits r (low_in r low)
            ∙ ap (λ (t : Bool). if nat_lt r part.count then t && (counts_of flushed).awaiting r else t) (first.set_bits r low)
            ∙ ap (λ (t : Bool). if nat_lt r part.count then (counts_of s).set_bits r && t else (counts_of s).set_bits r) (first.awaiting r low);
        awaiting = λ r low. part.counts.awaiting r (low_in r low) ∙ first.awaiting r low;
        fresh = λ r low. part.counts.fresh r (low_in r low) ∙ first.fresh r low;
      };
    }

-- and where all were.
pub closed_whole : (g : Geometry) (old new : RegionCounts) → AreSameCounts g new (clean_all old) → IsClosedInPart g old new
closed_whole g old new all = record {
  count = regions g;
  counts = record { set_bits = λ r low. all.set_bits r low ∙ sym (cleared-in old (regions g) r low); awaiting = all.awaiting; fresh = all.fresh };
}

-- What is written: first tags, and then sectors of the bitmap.
pub close_adds : (s flushed : States) (store : Store) {a m b : List Content} → flushed.geometry ≡ s.geometry → AreSameCounts s.geometry (counts_of flushed) (written_back (counts_of s))
    → EachSince (OnlyAdds (IsMarkedTags store)) a m → EachSince (OnlyAdds (IsOfCleared flushed.geometry (counts_of flushed))) m b → EachSince (OnlyAdds (IsOfClose s store)) a b
close_adds s flushed store {a} {m} {b} there counts first second =
    adds_then (IsOfClose s store) (adds_wider (IsMarkedTags store) (IsOfClose s store) (λ sector x marked. inl marked) first)
    (adds_wider (IsOfCleared s.geometry (counts_of flushed)) (IsOfClose s store)
    (λ sector x of. inr (record {
      count = of.count;
      sector_ = sector_same s.geometry (bits_cleared (counts_of flushed) of.count) (bits_cleared (counts_of s) of.count) sector x
          (λ r low.
          ap (λ (t : Bool). if nat_lt r of.count then t && (counts_of flushed).awaiting r else t) (counts.set_bits r low)
          ∙ ap (λ (t : Bool). if nat_lt r of.count then (counts_of s).set_bits r && t else (counts_of s).set_bits r) (counts.awaiting r low))
          of.sector_;
    }))
    (subst (λ (y : Geometry). EachSince (OnlyAdds (IsOfCleared y (counts_of flushed))) m b) there second))
