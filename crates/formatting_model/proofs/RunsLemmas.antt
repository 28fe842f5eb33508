-- What runs of writes change, and what they leave.
use Rattle.std.proofs.Common.{◌≡◌, ◌⊎◌, inl, inr, ⊎_elim, ℕ, ◌+◌, ◌-◌, ◌*◌, ◌/◌, ◌<◌, ◌≤◌, List, [], ◌∷◌, ◌++◌, length, min, take, refl, sym, ◌∙◌, ap, subst, arith, Option, Some, None}
use Rattle.std.specs.Option.{option_map}
use Rattle.std.proofs.lemmas.Option.{none-some, same_Some}
use Rattle.std.proofs.lemmas.Bool.{cases_lt}
use Rattle.std.proofs.lemmas.List.{drop-replicate, take-replicate, length-replicate}
use Rattle.disk_model.specs.Disk.{Content, Image, AddsSome, last_candidate, last_image, sector_in, with_run}
use Rattle.disk_model.specs.Moments.{content_now, EachMoment, FromStart, HasNow}
use Rattle.disk_model.proofs.DiskLemmas.{last_image-with_run, last_image-with_run_out, with_run-out}
use Rattle.disk_model.proofs.MomentsLemmas.{EachMoment-join, EachMoment-weaker, FromStart-weaker, content_at_end}
use Rattle.image_model.specs.Sectors.{zero_bytes}
use Rattle.image_model.specs.Entries.{IsWithin}
use Rattle.formatting_model.specs.FirstSector.{zero_sector}
use Rattle.formatting_model.specs.Runs.{ChangesOnly, HasZeros}

-- ---- the end of a call

-- The content before a call that changed it.
pub changed_now : (f : Content → Content) (old new : Option Content) → new ≡ option_map f old → (d : Content) → new ≡ Some d → (c : Content) × (old ≡ Some c) × (d ≡ f c)
changed_now f None new e d told = absurd (none-some d (sym e ∙ told))
changed_now f (Some c) new e d told = (c, refl, sym (same_Some _ _ (sym e ∙ told)))

-- Where it began, by what every moment since has.
abbrev pub IsEnd : List Content → (Content → Content → Type 0) → Content → Type 0
IsEnd a R d = (start : Content) × (content_now a ≡ Some start) × ((d ≡ start) ⊎ R start d)

from_start : (a : List Content) (R : Content → Content → Type 0) (c : Content) → FromStart a R c → IsEnd a R c
from_start [] R c from = absurd from
from_start (x ∷ a) R c from = (x, refl, inr from)

pub since_end : {a b : List Content} (R : Content → Content → Type 0) → EachMoment a b (FromStart a R) → (d : Content) → content_now b ≡ Some d → IsEnd a R d
since_end {a} {b} R m d told = content_at_end (EachMoment-weaker (λ c from. from_start a R c from) m) (λ c told_c. (c, told_c, inl refl)) d told

-- A disk that told its content tells it later.
pub told_later : {a b : List Content} (P : Content → Type 0) → EachMoment a b P → (c : Content) → content_now a ≡ Some c → (d : Content) × (content_now b ≡ Some d)
told_later {a} {b} P m c told = later m.since m.grows
  where
    later : (since : List Content) → b ≡ since ++ a → (d : Content) × (content_now b ≡ Some d)
    later [] e = (c, ap content_now e ∙ told)
    later (x ∷ since) e = (x, ap content_now e)

-- ---- what is changed

pub ChangesOnly-none : (S : ℕ → Type 0) (c : Content) → ChangesOnly S c c
ChangesOnly-none S c = record { others = λ s out. refl }

pub changes_wider : {a b : List Content} (S V : ℕ → Type 0) → ((s : ℕ) → S s → V s) → EachMoment a b (FromStart a (ChangesOnly S)) → EachMoment a b (FromStart a (ChangesOnly V))
changes_wider {a} S V f m = EachMoment-weaker (FromStart-weaker a (ChangesOnly S) (ChangesOnly V) (λ start c told h. record { others = λ s out. h.others s (λ of. out (f s of)) })) m

pub changes_then : {a b c : List Content} (S : ℕ → Type 0) → EachMoment a b (FromStart a (ChangesOnly S)) → EachMoment b c (FromStart b (ChangesOnly S)) → EachMoment a c (FromStart a (ChangesOnly S))
changes_then S first second = EachMoment-join (ChangesOnly S) (ChangesOnly S) first second
    (λ start middle later told told_middle so_far h. record {
      others = λ s out. h.others s out ∙ ⊎_elim (λ e. ap (λ (x : Content). x s) e) (λ p. p.others s out) so_far;
    })

pub write_changes : {a b : List Content} (S : ℕ → Type 0) (at : ℕ) (bytes : List ℕ) → ((s : ℕ) → at ≤ s → s < at + length bytes / 512 → S s)
    → EachMoment a b (FromStart a (AddsSome at bytes)) → EachMoment a b (FromStart a (ChangesOnly S))
write_changes {a} S at bytes f m = EachMoment-weaker (FromStart-weaker a (AddsSome at bytes) (ChangesOnly S) (λ start c told some. record {
  others = λ s out. ⊎_elim (λ e. e) (λ e. e ∙ with_run-out at bytes start s (λ low high. out (f s low high))) (some s);
})) m

-- ---- what stays

-- The images agree but in these sectors.
abbrev pub AgreeBut : (ℕ → Type 0) → Image → Image → Type 0
AgreeBut S one other = (s : ℕ) → (S s → ⊥) → other s ≡ one s

-- A fact on other sectors than those that are changed stays.
pub keeps_now : {a b : List Content} (S : ℕ → Type 0) (P : Image → Type 0) → ((one other : Image) → AgreeBut S one other → P one → P other)
    → HasNow (λ c. P (last_image c)) a → EachMoment a b (FromStart a (ChangesOnly S)) → HasNow (λ c. P (last_image c)) b
keeps_now S P keeps now m d told =
    let end = since_end (ChangesOnly S) m d told in
    elim end.2 [
      | inl e ↦ subst (λ (x : Content). P (last_image x)) (sym e) (now end.0 end.1)
      | inr changes ↦ keeps (last_image end.0) (last_image d) (λ s out. ap (λ (x : List (List ℕ)). last_candidate x) (changes.others s out)) (now end.0 end.1)
    ]

-- The same for a write.
pub write_keeps : (a b : List Content) (at : ℕ) (bytes : List ℕ) (P : Image → Type 0) → ((one other : Image) → AgreeBut (IsWithin at (length bytes / 512)) one other → P one → P other)
    → HasNow (λ c. P (last_image c)) a → content_now b ≡ option_map (with_run at bytes) (content_now a) → HasNow (λ c. P (last_image c)) b
write_keeps a b at bytes P keeps now written d told =
    let was = changed_now (with_run at bytes) (content_now a) (content_now b) written d told in
    keeps (last_image was.0) (last_image d)
    (λ s out. ap (λ (x : Content). last_image x s) was.2 ∙ last_image-with_run_out at bytes was.0 s (λ low high. out (low, high))) (now was.0 was.1)

-- ---- zeros

pub sector_in-zeros : (sectors k : ℕ) → k < sectors → sector_in (zero_bytes (512 * sectors)) k ≡ zero_sector
sector_in-zeros sectors k low =
    ap (take 512) (drop-replicate (512 * k) (512 * sectors) 0) ∙ take-replicate 512 (512 * sectors - 512 * k) 0 (omega (arith, low))

zeros_more : (at done part : ℕ) (c : Content) → HasZeros at done (last_image c) → HasZeros at (done + part) (last_image (with_run (at + done) (zero_bytes (512 * part)) c))
zeros_more at done part c so_far k low =
    let long : length (zero_bytes (512 * part)) ≡ 512 * part = length-replicate {A = ℕ} (512 * part) 0 in
    let size : length (zero_bytes (512 * part)) / 512 ≡ part = omega (arith, long) in
    elim (cases_lt k done) [
      | inl before ↦ last_image-with_run_out (at + done) (zero_bytes (512 * part)) c (at + k) (λ from to. omega (arith, before, from)) ∙ so_far k before
      | inr from ↦
          last_image-with_run (at + done) (zero_bytes (512 * part)) c (at + k) (omega (arith, from)) (omega (arith, size, low))
          ∙ sector_in-zeros part (at + k - (at + done)) (omega (arith, from, low))
    ]

-- One more run of zeros.
pub zeros_next : (a b : List Content) (at done part : ℕ) (bytes : List ℕ) → bytes ≡ zero_bytes (512 * part) → HasNow (λ c. HasZeros at done (last_image c)) a
    → content_now b ≡ option_map (with_run (at + done) bytes) (content_now a) → HasNow (λ c. HasZeros at (done + part) (last_image c)) b
zeros_next a b at done part bytes is so_far written d told =
    let was = changed_now (with_run (at + done) bytes) (content_now a) (content_now b) written d told in
    subst (λ (x : Content). HasZeros at (done + part) (last_image x)) (sym (was.2 ∙ ap (λ (xs : List ℕ). with_run (at + done) xs was.0) is)) (zeros_more at done part was.0 (so_far was.0 was.1))

-- A part of zeros is zeros.
pub part_of_zeros : (sectors part : ℕ) (zeros : List ℕ) → zeros ≡ zero_bytes (512 * sectors) → part ≤ sectors → take (512 * part) zeros ≡ zero_bytes (512 * part)
part_of_zeros sectors part zeros is low = ap (take (512 * part)) is ∙ take-replicate (512 * part) (512 * sectors) 0 (omega (arith, low))

-- So many sectors are written at once: as many as there are zeros, or as are left.
pub sectors_of_zeros : (sectors part : ℕ) (zeros : List ℕ) (left : ℕ) → zeros ≡ zero_bytes (512 * sectors) → part ≡ min (length zeros / 512) left
    → (part ≤ left) × (part ≤ sectors) × (length (take (512 * part) zeros) / 512 ≡ part)
sectors_of_zeros sectors part zeros left is least =
    let long : length zeros ≡ 512 * sectors = ap length is ∙ length-replicate {A = ℕ} (512 * sectors) 0 in
    let low : part ≤ sectors = omega (arith, least, long) in
    let size : length (take (512 * part) zeros) ≡ 512 * part = ap length (part_of_zeros sectors part zeros is low) ∙ length-replicate {A = ℕ} (512 * part) 0 in
    (omega (arith, least), low, omega (arith, size))
