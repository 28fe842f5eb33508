-- Commit ids at values from outside, by computing.
use Rattle.std.proofs.Common.{◌≡◌, refl, Some, None, [], ◌∷◌, ◌++◌, replicate}
use Rattle.image_model.specs.CommitId.{commit_id, number_of, id_in, commit_number}

-- Section 1, sector 5, number 2, by the exclusive or of the kernel's base and the place.
commit_id-third_number : commit_id 1 5 2 ≡ 0x3333_3332_3333_3336
commit_id-third_number = refl

-- The first data sector of section 0 under each number: on disk 19, 2a, 3b and 4c are the first bytes.
commit_id-first_data_sector : commit_id 0 8 0 ∷ commit_id 0 8 1 ∷ commit_id 0 8 2 ∷ commit_id 0 8 3 ∷ []
    ≡ 0x1111_1111_1111_1119 ∷ 0x2222_2222_2222_222a ∷ 0x3333_3333_3333_333b ∷ 0x4444_4444_4444_444c ∷ []
commit_id-first_data_sector = refl

-- A sector of 504 bytes aa and then `2a22222222222222` is the eighth of section 0 with number 1,
commit_number-written : commit_number 0 8 (replicate 504 0xaa ++ 0x2a ∷ replicate 7 0x22) ≡ Some 1
unfolding number_of id_in
commit_number-written = refl

-- and bears no number at another place.
commit_number-elsewhere : commit_number 0 9 (replicate 504 0xaa ++ 0x2a ∷ replicate 7 0x22) ≡ None
unfolding number_of id_in
commit_number-elsewhere = refl

commit_number-zero : commit_number 0 0 (replicate 512 0) ≡ None
unfolding number_of id_in
commit_number-zero = refl
