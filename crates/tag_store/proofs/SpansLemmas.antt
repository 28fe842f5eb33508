-- Lemmas on the words of specs/Spans.antt: what a span holds, and what the calls of a cache make of it.
use Rattle.std.proofs.Common.{◌≡◌, ◌≢◌, ◌⊎◌, inl, inr, ⊎_elim, ℕ, suc, ◌+◌, ◌-◌, ◌<◌, ◌≤◌, min, Bool, nat_eq, if◌then◌else◌, List, [], ◌++◌, length, take, drop, refl, sym, ◌∙◌, ap, subst, arith, add-one, append-nil, length-drop, Option, Some, None}
use Rattle.std.specs.List.{Contains}
use Rattle.std.specs.Option.{is_some}
use Rattle.std.proofs.lemmas.Bool.{cases_Bool, cases_eq, cases_lt, ne_eqb}
use Rattle.std.proofs.lemmas.List.{take-append-le, take_all, take_rest, drop-append-le}
use Rattle.std.proofs.lemmas.Option.{none-some}
use Rattle.std.proofs.Math.Seq.{take-append-add}
use Rattle.disk_model.specs.Disk.{Content, Image, IsImage, OnlyAdds, last_image}
use Rattle.disk_model.specs.Identity.{DiskIdentity}
use Rattle.disk_model.specs.Moments.{EachMoment, EachSince, HasNow, content_now}
use Rattle.disk_model.proofs.DiskLemmas.{OnlyAdds-join, OnlyAdds-none, OnlyAdds-wider}
use Rattle.disk_model.proofs.MomentsLemmas.{EachMoment-join, adds_then, adds_told, adds_wider}
use Rattle.image_model.specs.Sectors.{bytes_at}
use Rattle.buffer_cache.specs.declared.held.Held.{Held}
use Rattle.buffer_cache.specs.declared.held.HeldSectors.{HeldSectors}
use Rattle.buffer_cache.specs.Cached.{Changes, IsMarkedSector, IsOfDisk, IsPutOut, Keeps, cached, held_or, marked_of, piece_of, with_given_piece}
use Rattle.buffer_cache.specs.HeldSectors.{HoldsAlso, held_in, with_piece}
use Rattle.buffer_cache.proofs.CachedLemmas.{IsMarkedSector-put_out, adds_marked, told_at_end, told_on}
use Rattle.tag_store.specs.Spans.{HoldsSpan, IsInSpan, IsOfSpan, IsOutForSpan, MarksSpan, StoresPart, StoresSpan, span_of, with_span}

-- ---- what stands in a span

-- Bytes that end in their sector,
pub span_of-one : (image : Image) (at from size : ℕ) → length (image at) ≡ 512 → from + size ≤ 512 → span_of at from size image ≡ take size (drop from (image at))
span_of-one image at from size whole fits =
    ap (take size) (drop-append-le from (image at) (bytes_at image (suc at) 1) (omega (arith, whole)))
    ∙ take-append-le size (drop from (image at)) (bytes_at image (suc at) 1) (omega (arith, length-drop from (image at), whole))

-- and bytes that go on in the next one.
pub span_of-two : (image : Image) (at from size rest : ℕ) → length (image at) ≡ 512 → from ≤ 512 → size ≡ 512 - from + rest
    → span_of at from size image ≡ take (512 - from) (drop from (image at)) ++ take rest (image (at + 1))
span_of-two image at from size rest whole begins is =
    let front = drop from (image at) in
    let size_is : size ≡ length front + rest = omega (arith, length-drop from (image at), whole) in
    ap (λ (xs : List ℕ). take size xs) (drop-append-le from (image at) (bytes_at image (suc at) 1) (omega (arith, whole)))
    ∙ ap (λ (n : ℕ). take n (front ++ bytes_at image (suc at) 1)) size_is
    ∙ take-append-add front (bytes_at image (suc at) 1) rest
    ∙ ap (λ (xs : List ℕ). front ++ take rest xs) (append-nil (image (suc at)) ∙ ap image (sym (add-one at)))
    ∙ ap (λ (xs : List ℕ). xs ++ take rest (image (at + 1))) (sym (take_all (512 - from) front (omega (arith, length-drop from (image at), whole))))

-- Each sector that is given is whole.
pub cached-whole : (disk : DiskIdentity) (m : List Content) (sectors : HeldSectors) → IsOfDisk sectors disk m → ((c : Content) → content_now m ≡ Some c → IsImage c (last_image c))
    → ((c : Content) (sector : ℕ) (x : List ℕ) → content_now m ≡ Some c → sector < disk.sectors → Contains (c sector) x → length x ≡ 512)
    → (c : Content) → content_now m ≡ Some c → (sector : ℕ) → sector < disk.sectors → length (cached sectors c sector) ≡ 512
cached-whole disk m sectors is reads whole c told sector low =
    by_held (held_in sectors sector) (is.whole sector) (whole c sector (last_image c sector) told low (reads c told sector))
  where
    by_held : (o : Option Held) → ((held : Held) → o ≡ Some held → length held.bytes ≡ 512) → length (last_image c sector) ≡ 512 → length (held_or o (last_image c sector)) ≡ 512
    by_held None of read = read
    by_held (Some held) of read = of held refl

pub reads_two : {a b : List Content} {P : Content → Type 0} (at from first rest size : ℕ) (x y : List ℕ) (r s : HeldSectors) → ((c : Content) → content_now a ≡ Some c → length (cached r c at) ≡ 512)
    → from ≤ 512 → first ≡ 512 - from → size ≡ 512 - from + rest → HasNow (λ c. x ≡ piece_of from first (cached r c at)) a → EachMoment a b P → Keeps r s a b
    → HasNow (λ c. y ≡ piece_of 0 rest (cached s c (at + 1))) b → HasNow (λ c. x ++ y ≡ span_of at from size (cached r c)) a
reads_two at from first rest size x y r s whole begins first_is size_is read moments keeps then_read c told =
    let end = told_on moments c told in
    let x_is : x ≡ take (512 - from) (drop from (cached r c at)) = read c told ∙ ap (λ (n : ℕ). take n (drop from (cached r c at))) first_is in
    let y_is : y ≡ take rest (cached r c (at + 1)) = then_read end.0 end.1 ∙ ap (λ (xs : List ℕ). take rest xs) (keeps.given c told end.0 end.1 (at + 1)) in
    ap (λ (xs : List ℕ). xs ++ y) x_is ∙ ap (λ (xs : List ℕ). take (512 - from) (drop from (cached r c at)) ++ xs) y_is
    ∙ sym (span_of-two (cached r c) at from size rest (whole c told) begins size_is)

-- The parts of some bytes, as they are cut.
pub first_part : (bytes : List ℕ) (from cut : ℕ) → cut ≡ min (length bytes) (512 - from) → take cut bytes ≡ take (512 - from) bytes
first_part bytes from cut is = elim (cases_lt (512 - from) (length bytes)) [
  | inl more ↦ let same : cut ≡ 512 - from = omega (arith, is) in ap (λ (n : ℕ). take n bytes) same
  | inr all ↦ let same : cut ≡ length bytes = omega (arith, is) in
      ap (λ (n : ℕ). take n bytes) same ∙ take_all (length bytes) bytes (omega arith) ∙ sym (take_all (512 - from) bytes all)
]

pub rest_part : (bytes : List ℕ) (from cut : ℕ) → cut ≡ min (length bytes) (512 - from) → cut ≢ length bytes → take (length bytes - cut) (drop cut bytes) ≡ drop (512 - from) bytes
rest_part bytes from cut is other =
    let same : cut ≡ 512 - from = omega (arith, is, other) in
    take_rest bytes cut ∙ ap (λ (n : ℕ). drop n bytes) same

-- ---- what is held and marked

held_or_not : (o : Option Held) → (o ≡ None) ⊎ ((held : Held) × (o ≡ Some held))
held_or_not None = inl refl
held_or_not (Some held) = inr (held, refl)

-- The first sector has the first byte, and the next one the last, where the bytes go on in it.
pub first_in_span : (at from size sector : ℕ) → from < 512 → 1 ≤ size → sector ≡ at → IsInSpan at from size sector
first_in_span at from size sector begins some same = record { byte = 0; low = some; is = omega arith }

pub next_in_span : (at from size sector : ℕ) → from < 512 → size ≤ 512 → 512 < from + size → sector ≡ at + 1 → IsInSpan at from size sector
next_in_span at from size sector begins short past same = record { byte = size - 1; low = omega arith; is = omega arith }

-- A sector of the span comes to be held, after others or none.
HoldsSpan-also : (at from size which : ℕ) (r s t : HeldSectors) → ((sector : ℕ) → sector ≡ which → IsInSpan at from size sector) → HoldsSpan at from size r s → HoldsAlso which s t → HoldsSpan at from size r t
HoldsSpan-also at from size which r s t of first also = record {
  each = λ sector held is. elim (cases_eq sector which) [
    | inl same ↦ inr (of sector same)
    | inr ne ↦ elim (held_or_not (held_in s sector)) [
      | inl missed ↦ absurd (none-some held (sym (also.each sector ne missed) ∙ is))
      | inr found ↦ first.each sector found.0 found.1
    ]
  ];
}

HoldsSpan-none : (at from size : ℕ) (r : HeldSectors) → HoldsSpan at from size r r
HoldsSpan-none at from size r = record { each = λ sector held is. inl (ap is_some is) }

pub HoldsSpan-one : (at from size : ℕ) (r s : HeldSectors) → from < 512 → 1 ≤ size → HoldsAlso at r s → HoldsSpan at from size r s
HoldsSpan-one at from size r s begins some also = HoldsSpan-also at from size at r r s (λ sector same. first_in_span at from size sector begins some same) (HoldsSpan-none at from size r) also

pub HoldsSpan-two : (at from size : ℕ) (r s t : HeldSectors) → from < 512 → 1 ≤ size → size ≤ 512 → 512 < from + size → HoldsAlso at r s → HoldsAlso (at + 1) s t → HoldsSpan at from size r t
HoldsSpan-two at from size r s t begins some short past first second =
    HoldsSpan-also at from size (at + 1) r s t (λ sector same. next_in_span at from size sector begins short past same) (HoldsSpan-one at from size r s begins some first) second

-- so by a step after others,
MarksSpan-kept : {a b : List Content} (at from size : ℕ) (r s t : HeldSectors) → MarksSpan at from size r s → Keeps s t a b → MarksSpan at from size r t
MarksSpan-kept at from size r s t first keeps = record {
  each = λ sector marked.
      let same = keeps.marked sector marked in
      ⊎_elim (λ before. inl (same ∙ before)) inr (first.each sector (ap marked_of (sym same) ∙ marked));
  slots = keeps.slots ∙ first.slots;
}

-- but a sector of the span.
MarksSpan-changed : {a b : List Content} (at from size which begin : ℕ) (piece : List ℕ) (r s t : HeldSectors) → ((sector : ℕ) → sector ≡ which → IsInSpan at from size sector)
    → MarksSpan at from size r s → Changes which begin piece s t a b → MarksSpan at from size r t
MarksSpan-changed at from size which begin piece r s t of first changes = record {
  each = λ sector marked. elim (cases_eq sector which) [
    | inl same ↦ inr (of sector same)
    | inr ne ↦
        let same = changes.others sector ne marked in
        ⊎_elim (λ before. inl (same ∙ before)) inr (first.each sector (ap marked_of (sym same) ∙ marked))
  ];
  slots = changes.slots ∙ first.slots;
}

MarksSpan-none : (at from size : ℕ) (r : HeldSectors) → MarksSpan at from size r r
MarksSpan-none at from size r = record { each = λ sector marked. inl refl; slots = refl }

pub MarksSpan-one : {a b : List Content} (at from size : ℕ) (piece : List ℕ) (r s : HeldSectors) → from < 512 → 1 ≤ size → Changes at from piece r s a b → MarksSpan at from size r s
MarksSpan-one at from size piece r s begins some changes =
    MarksSpan-changed at from size at from piece r r s (λ sector same. first_in_span at from size sector begins some same) (MarksSpan-none at from size r) changes

pub MarksSpan-half : {a b c : List Content} (at from size : ℕ) (piece : List ℕ) (r s t : HeldSectors) → from < 512 → 1 ≤ size → Changes at from piece r s a b → Keeps s t b c → MarksSpan at from size r t
MarksSpan-half at from size piece r s t begins some changes keeps =
    MarksSpan-kept at from size r s t (MarksSpan-one at from size piece r s begins some changes) keeps

pub MarksSpan-two : {a b c : List Content} (at from size : ℕ) (piece rest : List ℕ) (r s t : HeldSectors) → from < 512 → 1 ≤ size → size ≤ 512 → 512 < from + size → Changes at from piece r s a b → Changes (at + 1) 0 rest s t b c → MarksSpan at from size r t
MarksSpan-two at from size piece rest r s t begins some short past first second =
    MarksSpan-changed at from size (at + 1) 0 rest r s t (λ sector same. next_in_span at from size sector begins short past same) (MarksSpan-one at from size piece r s begins some first) second

-- ---- what is given

-- No bytes in place of none.
pub with_given_piece-none : (at : ℕ) (image : Image) (sector : ℕ) → with_given_piece at 0 [] image sector ≡ image sector
with_given_piece-none at image sector = elim (cases_Bool (nat_eq at sector)) [ inl y ↦ rw y refl | inr n ↦ rw n refl ]

-- A piece of a sector follows from what stands in it.
with_given_piece-same : (at from : ℕ) (piece : List ℕ) (old new : Image) (sector : ℕ) → new sector ≡ old sector → with_given_piece at from piece new sector ≡ with_given_piece at from piece old sector
with_given_piece-same at from piece old new sector same = ap (λ (x : List ℕ). if nat_eq at sector then with_piece from piece x else x) same

pub with_given_piece-other : (at from : ℕ) (piece : List ℕ) (image : Image) (sector : ℕ) → sector ≢ at → with_given_piece at from piece image sector ≡ image sector
with_given_piece-other at from piece image sector ne = ap (λ (t : Bool). if t then with_piece from piece (image sector) else image sector) (ne_eqb at sector (λ e. ne (sym e)))

-- The first sector has its part, and none of the rest.
pub with_span-first : (at from : ℕ) (bytes : List ℕ) (image : Image) (sector : ℕ) → sector ≡ at → with_span at from bytes image sector ≡ with_given_piece at from (take (512 - from) bytes) image sector
with_span-first at from bytes image sector same =
    with_given_piece-other (at + 1) 0 (drop (512 - from) bytes) (with_given_piece at from (take (512 - from) bytes) image) sector (λ e. omega arith)

pub StoresSpan-two : {a b c : List Content} (W : ℕ → List ℕ → Type 0) (at from : ℕ) (bytes piece rest : List ℕ) (r s t : HeldSectors) → piece ≡ take (512 - from) bytes → rest ≡ drop (512 - from) bytes
    → Changes at from piece r s a b → Changes (at + 1) 0 rest s t b c → EachSince (OnlyAdds W) b c → StoresSpan at from bytes r t a c
StoresSpan-two W at from bytes piece rest r s t is rest_is first second moments = record {
  given = λ x told z told_end sector.
      let middle = (told_at_end (OnlyAdds W) (OnlyAdds-none W) moments).each z told_end in
      second.given middle.0 middle.1 z told_end sector
      ∙ with_given_piece-same (at + 1) 0 rest (with_given_piece at from piece (cached r x)) (cached s middle.0) sector (first.given x told middle.0 middle.1 sector)
      ∙ ap (λ (p : List ℕ). with_given_piece (at + 1) 0 p (with_given_piece at from piece (cached r x)) sector) rest_is
      ∙ ap (λ (p : List ℕ). with_given_piece (at + 1) 0 (drop (512 - from) bytes) (with_given_piece at from p (cached r x)) sector) is;
}

pub StoresPart-half : {a b c : List Content} (W : ℕ → List ℕ → Type 0) (at from : ℕ) (bytes piece : List ℕ) (r s t : HeldSectors) → piece ≡ take (512 - from) bytes → 512 < from + length bytes
    → Changes at from piece r s a b → Keeps s t b c → EachSince (OnlyAdds W) b c → StoresPart at from bytes r t a c
StoresPart-half W at from bytes piece r s t is past first keeps moments = record {
  given = λ x told z told_end sector.
      let middle = (told_at_end (OnlyAdds W) (OnlyAdds-none W) moments).each z told_end in
      let now : cached t z sector ≡ with_given_piece at from piece (cached r x) sector = keeps.given middle.0 middle.1 z told_end sector ∙ first.given x told middle.0 middle.1 sector in
      elim (cases_eq sector at) [
        | inl same ↦ inr (
          record { is = same; past = past },
          now ∙ ap (λ (p : List ℕ). with_given_piece at from p (cached r x) sector) is ∙ sym (with_span-first at from bytes (cached r x) sector same),
        )
        | inr ne ↦ inl (now ∙ with_given_piece-other at from piece (cached r x) sector ne)
      ];
}

-- ---- what may be written

-- What is marked now was so before.
pub IsMarkedSector-before : {a b : List Content} (r s : HeldSectors) (sector : ℕ) (x : List ℕ) → Keeps r s a b → IsMarkedSector s sector x → IsMarkedSector r sector x
IsMarkedSector-before r s sector x keeps of =
    record { held = of.held; is = sym (keeps.marked sector (ap marked_of of.is ∙ of.marked)) ∙ of.is; marked = of.marked; bytes = of.bytes }

-- What goes out for the first sector, and for the second.
out_for_first : (at from size : ℕ) (r : HeldSectors) (sector : ℕ) (x : List ℕ) → IsPutOut at r sector x → IsOutForSpan at from size r sector x
out_for_first at from size r sector x out = record { marked = IsMarkedSector-put_out at r sector x out; used = inl out.missed }

pub out_by_one : {a b : List Content} (at from size : ℕ) (r : HeldSectors) → EachSince (OnlyAdds (IsPutOut at r)) a b → EachSince (OnlyAdds (IsOutForSpan at from size r)) a b
out_by_one at from size r moments = adds_wider (IsPutOut at r) (IsOutForSpan at from size r) (out_for_first at from size r) moments

pub out_by_two : {a b c : List Content} (at from size : ℕ) (r s : HeldSectors) → 512 < from + size → EachSince (OnlyAdds (IsPutOut at r)) a b → Keeps r s a b → EachSince (OnlyAdds (IsPutOut (at + 1) s)) b c
    → EachSince (OnlyAdds (IsOutForSpan at from size r)) a c
out_by_two at from size r s past first keeps second =
    adds_then (IsOutForSpan at from size r) (out_by_one at from size r first)
    (adds_wider (IsMarkedSector s) (IsOutForSpan at from size r) (λ sector x of. record { marked = IsMarkedSector-before r s sector x keeps of; used = inr past }) (adds_marked (at + 1) s second))

pub span_by_one : {a b : List Content} (at from : ℕ) (bytes : List ℕ) (r : HeldSectors) → EachSince (OnlyAdds (IsPutOut at r)) a b → EachSince (λ start. OnlyAdds (IsOfSpan at from bytes r start) start) a b
span_by_one at from bytes r moments =
    adds_told (IsOfSpan at from bytes r) (IsPutOut at r) (λ start told sector x of. inl (out_for_first at from (length bytes) r sector x of)) moments

-- What is marked after the first part is put was marked before, or it is the first sector with that part.
pub marked_then : {a b : List Content} (at from : ℕ) (bytes piece : List ℕ) (r s : HeldSectors) (start middle : Content) → content_now a ≡ Some start → content_now b ≡ Some middle → piece ≡ take (512 - from) bytes
    → 512 < from + length bytes → Changes at from piece r s a b → (sector : ℕ) (x : List ℕ) → IsMarkedSector s sector x → IsOfSpan at from bytes r start sector x
marked_then at from bytes piece r s start middle told told_middle is past first sector x of = elim (cases_eq sector at) [
  | inl same ↦ inr (
    record { is = same; past = past },
    of.bytes ∙ sym (ap (λ (o : Option Held). held_or o (last_image middle sector)) of.is) ∙ first.given start told middle told_middle sector
        ∙ ap (λ (p : List ℕ). with_given_piece at from p (cached r start) sector) is ∙ sym (with_span-first at from bytes (cached r start) sector same),
  )
  | inr ne ↦ inl (record {
    marked = record { held = of.held; is = sym (first.others sector ne (ap marked_of of.is ∙ of.marked)) ∙ of.is; marked = of.marked; bytes = of.bytes };
    used = inr past;
  })
]

pub span_by_two : {a b c : List Content} (at from : ℕ) (bytes piece : List ℕ) (r s : HeldSectors) → piece ≡ take (512 - from) bytes → 512 < from + length bytes
    → EachSince (OnlyAdds (IsPutOut at r)) a b → Changes at from piece r s a b → EachSince (OnlyAdds (IsPutOut (at + 1) s)) b c
    → EachSince (λ start. OnlyAdds (IsOfSpan at from bytes r start) start) a c
span_by_two at from bytes piece r s is past first changes second =
    EachMoment-join (λ start. OnlyAdds (IsOfSpan at from bytes r start) start) (OnlyAdds (IsMarkedSector s)) (span_by_one at from bytes r first) (adds_marked (at + 1) s second)
    (λ start middle later told told_middle so_far adds.
    let W = IsOfSpan at from bytes r start in
    let adds_then_ : OnlyAdds W middle later = OnlyAdds-wider (IsMarkedSector s) W (marked_then at from bytes piece r s start middle told told_middle is past changes) middle later adds in
    ⊎_elim (λ e. subst (λ (c : Content). OnlyAdds W c later) e adds_then_) (λ p. OnlyAdds-join W start middle later p adds_then_) so_far)
