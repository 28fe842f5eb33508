-- One call more of a read or a write that is done by parts.
use Rattle.std.proofs.Common.{◌≡◌, inl, inr, ℕ, ◌+◌, ◌-◌, ◌*◌, ◌/◌, ◌<◌, ◌≤◌, List, length, take, drop, sym, ◌∙◌, ap, subst, arith}
use Rattle.std.specs.Option.{option_map}
use Rattle.std.proofs.lemmas.Bool.{cases_lt}
use Rattle.std.proofs.lemmas.List.{length-take-le}
use Rattle.std.proofs.lemmas.Option.{same_Some}
use borrow.Rule.Slice.PartMut.{put_mid}
use Rattle.disk_model.specs.Disk.{Content, last_image, sector_in, Reads, with_sectors, AddsSome}
use Rattle.disk_model.specs.Moments.{content_now, EachMoment, FromStart}
use Rattle.disk_model.proofs.MomentsLemmas.{EachMoment-join}
use Rattle.disk_model.proofs.SectorLemmas.{sector_in-take, sector_in-put_below, sector_in-put_within, AddsSome-next}

-- What was read so far, and what one call read behind it.
pub read_more : (from done n m : ℕ) (buffer part : List ℕ) (c : Content) → from ≡ 512 * (from / 512) → done ≡ 512 * (done / 512) → done ≤ length buffer → n ≡ 512 * (n / 512) → n ≤ length part
    → ((k : ℕ) → k < done / 512 → sector_in buffer k ≡ last_image c (from / 512 + k)) → Reads ((from + done) / 512) (take n part) c
    → (k : ℕ) → k < (done + n) / 512 → sector_in (put_mid done m buffer part) k ≡ last_image c (from / 512 + k)
read_more from done n m buffer part c begins whole within whole_n within_n so_far reads k below = elim (cases_lt k (done / 512)) [
  | inl before ↦
      ap (λ (x : ℕ). sector_in (put_mid x m buffer part) k) whole
      ∙ sector_in-put_below buffer part (done / 512) m k (omega (arith, whole, within)) before ∙ so_far k before
  | inr behind ↦
      let j = k - done / 512 in
      let place : done / 512 + (k - done / 512) ≡ k = omega (arith, behind) in
      let there : (from + done) / 512 + (k - done / 512) ≡ from / 512 + k = omega (arith, behind, begins, whole) in
      ap (λ (x : ℕ). sector_in (put_mid x m buffer part) k) whole
      ∙ ap (sector_in (put_mid (512 * (done / 512)) m buffer part)) (sym place)
      ∙ sector_in-put_within buffer part (done / 512) m j (omega (arith, whole, within)) (omega (arith, below, behind, whole, whole_n, within_n))
      ∙ sym (sector_in-take n part j (omega (arith, below, behind, whole, whole_n)))
      ∙ reads j (omega (arith, below, behind, whole, whole_n, length-take-le n part within_n))
      ∙ ap (last_image c) there
]

-- What was added so far, and what one call adds behind it.
pub moments_more : {a b d : List Content} (at from done : ℕ) (bytes rest : List ℕ) → done ≡ 512 * (done / 512) → length bytes ≡ 512 * (length bytes / 512) → done ≤ length bytes → from ≡ at + done / 512 → rest ≡ drop done bytes
    → content_now b ≡ option_map (with_sectors (done / 512) at bytes) (content_now a) → EachMoment a b (FromStart a (AddsSome at bytes)) → EachMoment b d (FromStart b (AddsSome from rest)) → EachMoment a d (FromStart a (AddsSome at bytes))
moments_more at from done bytes rest whole all_whole within place is so_far first second =
    EachMoment-join (AddsSome at bytes) (AddsSome from rest) first second
    (λ start middle later told told_middle before adds.
    let at_middle : middle ≡ with_sectors (done / 512) at bytes start = same_Some _ _ (sym told_middle ∙ so_far ∙ ap (option_map (with_sectors (done / 512) at bytes)) told) in
    AddsSome-next at from done bytes rest start later whole all_whole within place is (subst (λ (m : Content). AddsSome from rest m later) at_middle adds))
