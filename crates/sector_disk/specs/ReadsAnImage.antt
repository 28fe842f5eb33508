-- What reads of a record give is one of its images: the law that a `MemDisk` owes, so it stands here.
use Rattle.std.specs.Prelude.{◌≡◌, ℕ, List, [], ◌∷◌, ◌++◌, Some, if◌then◌else◌, ◌==◌}
use Rattle.std.specs.List.{Contains}
use Rattle.std.proofs.Common.{true, false, refl, sym, ◌∙◌, ap, subst, arith, inl, inr, suc, ◌*◌, ◌<◌, length, drop, length-drop}
use Rattle.std.proofs.lemmas.List.{length-take-le}
use Rattle.std.proofs.lemmas.List.Elements.{Contains-push_cases}
use Rattle.std.proofs.lemmas.Option.{same_Some}
use Rattle.disk_model.specs.Disk.{Content, IsImage, last_candidate, last_image, sector_in}
use Rattle.disk_model.specs.Moments.{content_now}
use Rattle.disk_model.proofs.DiskLemmas.{last_candidate-among, only_candidate}
use Rattle.sector_disk.specs.declared.record.Event.{Event}
use Rattle.sector_disk.specs.declared.record.Event.TheVariants.{Write, Sync}
use Rattle.sector_disk.specs.Record.{AreWholeEvents, after_event, content_of_bytes, content_after, moments_after, moments_of}

record ReadsAnImage (c : Content) : Type 0 where
  is : IsImage c (last_image c)

event_reads : (e : Event) (c : Content) → ReadsAnImage c → ReadsAnImage (after_event e c)
event_reads (Write at bytes) c h = record {
  is = λ s. elim (s == at) as (λ b. Contains (if b then c s ++ bytes ∷ [] else c s) (last_candidate (if b then c s ++ bytes ∷ [] else c s))) [
    | true ↦ last_candidate-among (c s) bytes
    | false ↦ h.is s
  ];
}
event_reads Sync c h = record { is = λ s. last_candidate-among [] (last_candidate (c s)) }

events_read : (c : Content) (es : List Event) → ReadsAnImage c → ReadsAnImage (content_after c es)
events_read c [] h = h
events_read c (e ∷ es) h = events_read (after_event e c) es (event_reads e c h)

content_now-moments : (c : Content) (past : List Content) (es : List Event) → content_now (moments_after c past es) ≡ Some (content_after c es)
content_now-moments c past [] = refl
content_now-moments c past (e ∷ es) = content_now-moments (after_event e c) (c ∷ past) es

-- The content now of the moments of a record.
pub content_now-moments_of : (base : List ℕ) (es : List Event) → content_now (moments_of base es) ≡ Some (content_after (content_of_bytes base) es)
content_now-moments_of base es = content_now-moments (content_of_bytes base) [] es

pub last_image_is_image : (base : List ℕ) (es : List Event) (c : Content) → content_now (moments_of base es) ≡ Some c → IsImage c (last_image c)
last_image_is_image base es c told =
    let h = events_read (content_of_bytes base) es (record { is = λ s. last_candidate-among [] (sector_in base s) }) in
    subst (λ (d : Content). IsImage d (last_image d)) (same_Some _ _ (sym (content_now-moments_of base es) ∙ told)) h.is

-- Each candidate of the first sectors is whole: the other law that a `MemDisk` owes.
record HasWholeSectors (sectors : ℕ) (c : Content) : Type 0 where
  reads : IsImage c (last_image c)
  whole : (sector : ℕ) (x : List ℕ) → sector < sectors → Contains (c sector) x → length x ≡ 512

only_one : (y x : List ℕ) → Contains (y ∷ []) x → x ≡ y
only_one y x has = only_candidate y x has

event_whole : (sectors : ℕ) (e : Event) (c : Content) → ((at : ℕ) (bytes : List ℕ) → e ≡ Write at bytes → length bytes ≡ 512) → HasWholeSectors sectors c → HasWholeSectors sectors (after_event e c)
event_whole sectors (Write at bytes) c one h = record {
  reads = (event_reads (Write at bytes) c (record { is = h.reads })).is;
  whole = λ s x low. elim (s == at) as (λ b. Contains (if b then c s ++ bytes ∷ [] else c s) x → length x ≡ 512) [
    | true ↦ λ has. elim (Contains-push_cases (c s) bytes x has) [ inl was ↦ h.whole s x low was | inr new ↦ ap length (sym new) ∙ one at bytes refl ]
    | false ↦ h.whole s x low
  ];
}
event_whole sectors Sync c one h = record {
  reads = (event_reads Sync c (record { is = h.reads })).is;
  whole = λ s x low has. h.whole s x low (subst (λ (y : List ℕ). Contains (c s) y) (sym (only_one (last_candidate (c s)) x has)) (h.reads s));
}

events_whole : (sectors : ℕ) (c : Content) (es : List Event) → AreWholeEvents es → HasWholeSectors sectors c → HasWholeSectors sectors (content_after c es)
events_whole sectors c [] each h = h
events_whole sectors c (e ∷ es) each h = events_whole sectors (after_event e c) es (λ k at bytes is. each (suc k) at bytes is) (event_whole sectors e c (λ at bytes is. each 0 at bytes (ap (λ (x : Event). Some x) is)) h)

first_whole : (base : List ℕ) (sectors s : ℕ) → length base ≡ 512 * sectors → s < sectors → length (sector_in base s) ≡ 512
first_whole base sectors s size low = length-take-le 512 (drop (512 * s) base) (omega (arith, size, length-drop (512 * s) base))

pub candidates_are_whole : (sectors : ℕ) (base : List ℕ) (es : List Event) (c : Content) (sector : ℕ) (x : List ℕ) → length base ≡ 512 * sectors → AreWholeEvents es
    → content_now (moments_of base es) ≡ Some c → sector < sectors → Contains (c sector) x → length x ≡ 512
candidates_are_whole sectors base es c sector x size each told low has =
    let h = events_whole sectors (content_of_bytes base) es each (record {
      reads = λ s. last_candidate-among [] (sector_in base s);
      whole = λ s y low_s has_y. ap length (only_one (sector_in base s) y has_y) ∙ first_whole base sectors s size low_s;
    }) in
    h.whole sector x low (subst (λ (d : Content). Contains (d sector) x) (same_Some _ _ (sym told ∙ content_now-moments_of base es)) has)
