-- What writes of the first sector leave.
use Rattle.std.proofs.Common.{◌≡◌, ◌⊎◌, inl, inr, ℕ, List, ◌++◌, length, drop, sym, ◌∙◌, ap, subst}
use Rattle.std.specs.List.{Contains}
use Rattle.std.specs.Option.{option_map}
use Rattle.std.proofs.lemmas.Option.{same_Some}
use Rattle.std.proofs.lemmas.List.{drop-replicate}
use Rattle.disk_model.specs.Disk.{Content, AddsSome, EachImage, IsImage, OnlyAdds, last_image, newest_only}
use Rattle.disk_model.specs.Moments.{content_now, EachMoment, FromStart}
use Rattle.disk_model.proofs.DiskLemmas.{IsOfRun-one, OnlyAdds-image, only_candidate}
use Rattle.disk_model.proofs.MomentsLemmas.{EachMoment-join, EachMoment-weaker, FromStart-weaker, write_adds}
use Rattle.image_model.specs.Sectors.{zero_bytes}
use Rattle.image_model.specs.Superblock.{Superblock, superblock_bytes}
use Rattle.formatting_model.specs.FirstSector.{zero_sector, head_of, HasZeroHead, IsAmidFounding, IsFirst}

-- What only adds zeros there.
pub forgetting_is : (start later : Content) → OnlyAdds (IsFirst zero_sector) start later → EachImage (λ image. IsImage start image ⊎ HasZeroHead image) later
forgetting_is start later adds image is =
    let at : (s : ℕ) → Contains (start s) (image s) ⊎ IsFirst zero_sector s (image s) = OnlyAdds-image (IsFirst zero_sector) start later image adds is in
    elim (at 0) [
      | inl old ↦ inl (λ s. elim (at s) [
        | inl was ↦ was
        | inr first ↦ subst (λ (n : ℕ). Contains (start n) (image n)) (sym first.0) old
      ])
      | inr new ↦ inr new.1
    ]

-- What only adds the fields there, to the last image.
founding_is : (s : Superblock) (start later : Content) → OnlyAdds (IsFirst (head_of s)) (newest_only start) later → IsAmidFounding s start later
founding_is s start later adds image is =
    let at : (n : ℕ) → Contains (newest_only start n) (image n) ⊎ IsFirst (head_of s) n (image n) = OnlyAdds-image (IsFirst (head_of s)) (newest_only start) later image adds is in
    elim (at 0) [
      | inl old ↦ inl (only_candidate (last_image start 0) (image 0) old)
      | inr new ↦ inr (record {
        head = new.1;
        others = λ n other. elim (at n) [
          | inl was ↦ only_candidate (last_image start n) (image n) was
          | inr first ↦ absurd (other first.0)
        ];
      })
    ]

-- ---- for callers

-- A write of the first sector.
pub first_adds : {a b : List Content} (bytes : List ℕ) → length bytes ≡ 512 → EachMoment a b (FromStart a (AddsSome 0 bytes)) → EachMoment a b (FromStart a (OnlyAdds (IsFirst bytes)))
first_adds bytes one moments = write_adds (IsFirst bytes) 0 bytes moments (λ s x of. IsOfRun-one 0 bytes s x one of)

-- The first sync of the founding.
pub amid_first_sync : {a b : List Content} (s : Superblock) → EachMoment a b (FromStart a (λ start c. c ≡ newest_only start)) → EachMoment a b (FromStart a (IsAmidFounding s))
amid_first_sync {a} s moments = EachMoment-weaker (FromStart-weaker a (λ start c. c ≡ newest_only start) (IsAmidFounding s) (λ start later told is image of. inl (only_candidate (last_image start 0) (image 0) (subst (λ (c : Content). Contains (c 0) (image 0)) is (of 0))))) moments

-- What stands behind it.
pub amid_founding : {a b c : List Content} (s : Superblock) → EachMoment a b (FromStart a (λ start c. c ≡ newest_only start)) → content_now b ≡ option_map newest_only (content_now a)
    → EachMoment b c (FromStart b (OnlyAdds (IsFirst (head_of s)))) → EachMoment a c (FromStart a (IsAmidFounding s))
amid_founding {a} {b} {c} s first synced second =
    EachMoment-join (IsAmidFounding s) (OnlyAdds (IsFirst (head_of s))) (amid_first_sync s first) second
    (λ start middle later told told_middle so_far adds.
    let is : newest_only start ≡ middle = same_Some _ _ (sym (synced ∙ ap (option_map newest_only) told) ∙ told_middle) in
    founding_is s start later (subst (λ (x : Content). OnlyAdds (IsFirst (head_of s)) x later) (sym is) adds))

-- What was written over zeros is the fields with zeros behind them.
pub head_is : (s : Superblock) (bytes : List ℕ) → bytes ≡ superblock_bytes s ++ drop 64 (zero_bytes 512) → bytes ≡ head_of s
head_is s bytes is = is ∙ ap (λ (xs : List ℕ). superblock_bytes s ++ xs) (drop-replicate 64 512 0)

pub head_adds : {a b : List Content} (s : Superblock) (bytes : List ℕ) → length bytes ≡ 512 → bytes ≡ superblock_bytes s ++ drop 64 (zero_bytes 512)
    → EachMoment a b (FromStart a (AddsSome 0 bytes)) → EachMoment a b (FromStart a (OnlyAdds (IsFirst (head_of s))))
head_adds {a} {b} s bytes one is moments =
    subst (λ (xs : List ℕ). EachMoment a b (FromStart a (OnlyAdds (IsFirst xs)))) (head_is s bytes is) (first_adds bytes one moments)
