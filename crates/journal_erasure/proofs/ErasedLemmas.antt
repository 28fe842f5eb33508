-- An erasure, on the disk that the journal is one of.
use Rattle.std.proofs.Common.{◌≡◌, ℕ, Bool, true, false, not, ◌+◌, ◌-◌, ◌*◌, ◌/◌, ◌%◌, ◌<◌, List, [], refl, sym, ◌∙◌, ap, subst, arith, Some}
use Rattle.std.specs.Option.{option_map}
use Rattle.std.proofs.NetLemmas.Options.{map_some}
use Rattle.std.proofs.lemmas.Nat.{div-add-mod', div_below, mod_below}
use Rattle.std.proofs.lemmas.Bool.{true≢false}
use Rattle.disk_model.specs.Disk.{Content, EachImage, IsImage, OnlyAdds, last_image, newest_only, sector_in}
use Rattle.disk_model.specs.Moments.{content_now, EachMoment, FromStart, HasNow}
use Rattle.disk_model.proofs.DiskLemmas.{newest_only-last, newest_only-pending, OnlyAdds-wider}
use Rattle.disk_model.proofs.MomentsLemmas.{each_content}
use Rattle.image_model.specs.Geometry.{Geometry, section_at, section_sectors}
use Rattle.image_model.specs.Walk.{bears, later}
use Rattle.place_model.specs.Journal.{numbers_on}
use Rattle.journal_model.specs.Erasing.{IsErasable, IsOfErasure, StandsErasing, ReadsErased}
use Rattle.journal_model.specs.JournaledDisk.{JournaledDisk, IsCutOf, StandsFor}
use Rattle.journal_model.proofs.CutOfLemmas.{wide}
use Rattle.journal_model.proofs.ErasingLemmas.{erasure_begins, erasure_goes_on, erasure_turns, erasure_ends, erasure_cut}
use Rattle.journal_laws.proofs.EmptiedLemmas.{erased_law}
use Rattle.journal_erasure.specs.declared.part.Part.{Part}
use Rattle.journal_erasure.specs.declared.part.Part.TheVariants.{Others, Newest}
use Rattle.journal_erasure.specs.declared.erasure.Erasure.{Erasure}
use Rattle.journal_erasure.specs.Newest.{is_newest}
use Rattle.journal_erasure.specs.Parts.{is_of_part}
use Rattle.image_model.specs.EmptySections.{AreEmptySections, empty_image}
use Rattle.journal_erasure.specs.Erased.{IsErased}
use Rattle.journal_erasure.specs.Erasing.{IsErasureOf, IsOfPart, with_empty_journal, with_part}
use Rattle.journal_erasure.proofs.PartsLemmas.{chosen-adds, chosen-image, last-chosen}
use Rattle.journal_erasure.proofs.EmptyLemmas.{empty_journal}
use Rattle.journal_erasure.proofs.StepsLemmas.{parts-at_once, sectors_in_order}

-- The part with the sectors of the newest number is the last.
abbrev pub is_last : Part → Bool
is_last Others = false
is_last Newest = true

-- A sector is of the part exactly where the test of the newest number says so.
of_part-last : (b : Bool) (e : Erasure) (part : Part) (k : ℕ) → is_newest e.newest k ≡ b → b ≡ is_last part → is_of_part e.newest part k ≡ true
of_part-last b e Others k is same = ap not (is ∙ same)
of_part-last b e Newest k is same = is ∙ same

last-of_part : (e : Erasure) (part : Part) (k : ℕ) → is_of_part e.newest part k ≡ true → is_newest e.newest k ≡ is_last part
last-of_part e Others k is = not_true (is_newest e.newest k) is
  where
    not_true : (b : Bool) → not b ≡ true → b ≡ false
    not_true true p = absurd (true≢false (sym p))
    not_true false p = refl
last-of_part e Newest k is = is

module _ (d : JournaledDisk) (e : Erasure) (bytes : List ℕ) (of : IsErasureOf d.geometry e d) (are : AreEmptySections d.geometry (later 2 e.number) bytes) where
  abbrev width : ℕ
  width = section_sectors d.geometry.shape

  abbrev count : ℕ
  count = d.geometry.sections * section_sectors d.geometry.shape

  erasable : IsErasable d e.number (empty_image d.geometry bytes)
  erasable = record {
    settled = of.settled;
    numbered = of.has_newest.numbered;
    newest_is = of.has_newest.newest_is;
    writes = empty_journal d (later 2 e.number) bytes are;
  }

  -- What a part brings is of that part of the erasure.
  is_of_erasure : 0 < width → (part : Part) (s : ℕ) (x : List ℕ) → IsOfPart d.geometry e part 0 d.geometry.sections bytes s x
      → IsOfErasure d e.number (empty_image d.geometry bytes) (is_last part) s x
  is_of_erasure some part s x is =
      let i : ℕ = is.place / width in
      let j : ℕ = is.place % width in
      let narrow = mod_below is.place width some in
      let inside = div_below is.place width d.geometry.sections some is.ends in
      let place = div-add-mod' is.place width in
      let behind : is.place ≡ s - section_at d.geometry 0 = omega (arith, is.is) in
      record {
        section = i;
        place = j;
        inside = inside;
        narrow = narrow;
        is = omega (arith, is.is, place);
        marked = of.marks i j inside narrow ∙ ap (is_newest e.newest) place ∙ last-of_part e part is.place is.marked;
        bytes = is.holds ∙ ap (sector_in bytes) behind;
      }

  -- What reads give after it is empty.
  reads_erased : (part : Part) (c : Content) → ReadsErased d e.number (empty_image d.geometry bytes) (is_last part) (with_part d.geometry e part 0 d.geometry.sections bytes c)
  reads_erased part c = record {
    each = λ i j low narrow marked.
        let k : ℕ = i * width + j in
        let s : ℕ = section_at d.geometry i + j in
        let place : k ≡ s - section_at d.geometry 0 = omega arith in
        let next = sectors_in_order d.geometry (i + 1) d.geometry.sections (omega (arith, low)) in
        last-chosen (is_of_part e.newest part) (section_at d.geometry 0) (0 * width) count bytes c s (record {
          low = omega arith;
          high = omega (arith, next, narrow);
          is = ap (is_of_part e.newest part) (sym place)
              ∙ of_part-last (bears (numbers_on d.geometry d.journal i j) e.number) e part k (sym (of.marks i j low narrow)) marked;
        });
  }

  -- ---- the first part

  begun : (start c : Content) → StandsFor d start → OnlyAdds (IsOfPart d.geometry e Others 0 d.geometry.sections bytes) start c
      → StandsErasing d e.number (empty_image d.geometry bytes) false c
  begun start c stands adds =
      erasure_goes_on d e.number (empty_image d.geometry bytes) false start c erasable
      (erasure_begins d e.number (empty_image d.geometry bytes) start stands)
      (OnlyAdds-wider (IsOfPart d.geometry e Others 0 d.geometry.sections bytes) (IsOfErasure d e.number (empty_image d.geometry bytes) false)
      (is_of_erasure (wide d stands.sound.formed) Others) start c adds)

  cut_first : (start c : Content) → StandsFor d start → OnlyAdds (IsOfPart d.geometry e Others 0 d.geometry.sections bytes) start c → EachImage (IsCutOf d []) c
  cut_first start c stands adds = erasure_cut d e.number (empty_image d.geometry bytes) false c erasable (begun start c stands adds)

  -- ---- the last part

  abbrev others : Content → Content
  others c = with_part d.geometry e Others 0 d.geometry.sections bytes c

  abbrev all : Content → Content
  all c = with_part d.geometry e Newest 0 d.geometry.sections bytes (newest_only (with_part d.geometry e Others 0 d.geometry.sections bytes c))

  turned : (start : Content) → StandsFor d start → IsImage start (last_image start) → StandsErasing d e.number (empty_image d.geometry bytes) true (newest_only (others start))
  turned start stands reads =
      erasure_turns d e.number (empty_image d.geometry bytes) (others start) erasable
      (begun start (others start) stands (chosen-adds (is_of_part e.newest Others) (section_at d.geometry 0) (0 * width) count bytes start))
      (chosen-image (is_of_part e.newest Others) (section_at d.geometry 0) (0 * width) count bytes start reads)
      (reads_erased Others start)

  goes_on : (start first c : Content) → StandsFor d start → StandsErasing d e.number (empty_image d.geometry bytes) true first
      → OnlyAdds (IsOfPart d.geometry e Newest 0 d.geometry.sections bytes) first c → StandsErasing d e.number (empty_image d.geometry bytes) true c
  goes_on start first c stands erasing adds =
      erasure_goes_on d e.number (empty_image d.geometry bytes) true first c erasable erasing
      (OnlyAdds-wider (IsOfPart d.geometry e Newest 0 d.geometry.sections bytes) (IsOfErasure d e.number (empty_image d.geometry bytes) true)
      (is_of_erasure (wide d stands.sound.formed) Newest) first c adds)

  cut_last : (start c : Content) → StandsFor d start → IsImage start (last_image start)
      → OnlyAdds (IsOfPart d.geometry e Newest 0 d.geometry.sections bytes) (newest_only (others start)) c → EachImage (IsCutOf d []) c
  cut_last start c stands reads adds =
      erasure_cut d e.number (empty_image d.geometry bytes) true c erasable (goes_on start (newest_only (others start)) c stands (turned start stands reads) adds)

  -- ---- the end

  ended : (start : Content) → StandsFor d start → IsImage start (last_image start) → IsErased d e.number (empty_image d.geometry bytes) (newest_only (all start))
  ended start stands reads =
      let image = empty_image d.geometry bytes in
      let first = newest_only (others start) in
      let erasing = goes_on start first (all start) stands (turned start stands reads)
      (chosen-adds (is_of_part e.newest Newest) (section_at d.geometry 0) (0 * width) count bytes first) in
      let shown = chosen-image (is_of_part e.newest Newest) (section_at d.geometry 0) (0 * width) count bytes first (newest_only-last (others start)) in
      let ends = erasure_ends d e.number image (all start) erasable erasing shown (reads_erased Newest first) in
      let direct = erased_law d e.number image (all start) erasable erasing shown (reads_erased Newest first) in
      record {
        stands = ends.0;
        rests = ends.1;
        settled = newest_only-pending (all start);
        direct = direct.0;
        replays_nothing = direct.1;
      }

-- ---- for callers

-- A disk shows what it tells.
abbrev pub Shows : List Content → Type 0
Shows moments = (c : Content) → content_now moments ≡ Some c → IsImage c (last_image c)

-- Each image of the first part is a cut.
pub cuts_first : {a b : List Content} (g : Geometry) (e : Erasure) (bytes : List ℕ) (d : JournaledDisk) → IsErasureOf g e d → AreEmptySections g (later 2 e.number) bytes → HasNow (StandsFor d) a
    → EachMoment a b (FromStart a (OnlyAdds (IsOfPart g e Others 0 g.sections bytes))) → EachMoment a b (EachImage (IsCutOf d []))
cuts_first {a} {b} g e bytes d of are now m =
    subst (λ (g : Geometry). IsErasureOf g e d → AreEmptySections g (later 2 e.number) bytes
    → EachMoment a b (FromStart a (OnlyAdds (IsOfPart g e Others 0 g.sections bytes))) → EachMoment a b (EachImage (IsCutOf d []))) of.geometry
    (λ of are m. each_content (IsOfPart d.geometry e Others 0 d.geometry.sections bytes) (EachImage (IsCutOf d [])) (λ start told c adds. cut_first d e bytes of are start c (now start told) adds) m)
    of are m

-- So is each of the last.
pub cuts_last : (a b : List Content) {c : List Content} (g : Geometry) (e : Erasure) (bytes : List ℕ) (d : JournaledDisk) → IsErasureOf g e d → AreEmptySections g (later 2 e.number) bytes → HasNow (StandsFor d) a → Shows a
    → content_now b ≡ option_map (λ c. newest_only (with_part g e Others 0 g.sections bytes c)) (content_now a)
    → EachMoment b c (FromStart b (OnlyAdds (IsOfPart g e Newest 0 g.sections bytes))) → EachMoment b c (EachImage (IsCutOf d []))
cuts_last a b {c} g e bytes d of are now shows written m =
    subst (λ (g : Geometry). IsErasureOf g e d → AreEmptySections g (later 2 e.number) bytes
    → content_now b ≡ option_map (λ c. newest_only (with_part g e Others 0 g.sections bytes c)) (content_now a)
    → EachMoment b c (FromStart b (OnlyAdds (IsOfPart g e Newest 0 g.sections bytes))) → EachMoment b c (EachImage (IsCutOf d []))) of.geometry
    (λ of are written m. each_content (IsOfPart d.geometry e Newest 0 d.geometry.sections bytes) (EachImage (IsCutOf d [])) (λ middle told later adds.
    map_some (λ c. newest_only (with_part d.geometry e Others 0 d.geometry.sections bytes c)) (content_now a) middle (sym written ∙ told)
    (λ start told_start is. cut_last d e bytes of are start later (now start told_start) (shows start told_start)
    (subst (λ (x : Content). OnlyAdds (IsOfPart d.geometry e Newest 0 d.geometry.sections bytes) x later) (sym is) adds))) m)
    of are written m

-- At the end the journal is empty.
pub erased_now : (a b : List Content) (g : Geometry) (e : Erasure) (bytes : List ℕ) (d : JournaledDisk) → IsErasureOf g e d → AreEmptySections g (later 2 e.number) bytes → HasNow (StandsFor d) a → Shows a
    → content_now b ≡ option_map (with_empty_journal g bytes) (content_now a) → HasNow (IsErased d e.number (empty_image g bytes)) b
erased_now a b g e bytes d of are now shows written =
    subst (λ (g : Geometry). IsErasureOf g e d → AreEmptySections g (later 2 e.number) bytes
    → content_now b ≡ option_map (with_empty_journal g bytes) (content_now a) → HasNow (IsErased d e.number (empty_image g bytes)) b) of.geometry
    (λ of are written c told. map_some (with_empty_journal d.geometry bytes) (content_now a) c (sym written ∙ told)
    (λ start told_start is. subst (IsErased d e.number (empty_image d.geometry bytes)) (parts-at_once d.geometry e bytes start are.size ∙ is)
    (ended d e bytes of are start (now start told_start) (shows start told_start))))
    of are written
