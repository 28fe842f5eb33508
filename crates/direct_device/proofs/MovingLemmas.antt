-- A position that moves, as the laws of direct mode have it: what each moment is, and what the end is.
use Rattle.std.proofs.Common.{◌≡◌, inl, inr, ℕ, Bool, refl, sym, subst, Option, None, List}
use Rattle.disk_model.specs.Disk.{Content}
use Rattle.disk_model.proofs.MomentsLemmas.{EachMoment-kept, EachMoment-then}
use Rattle.image_model.specs.Superblock.{Superblock}
use Rattle.image_model.proofs.NumberLemmas.{cases_option}
use Rattle.direct_model.specs.DirectDisk.{DirectDisk}
use Rattle.direct_mode.specs.CallLaws.{KeepsNow, StandsThrough}
use Rattle.direct_mode.specs.Settling.{Back, SettlesIn, Syncing}
use Rattle.direct_mode.proofs.CallLemmas.{back_law}
use Rattle.direct_mode.proofs.ServeLemmas.{sync_failed_law}
use Rattle.recalculate_laws.specs.Calls.{IsSettledNow}
use Rattle.recalculate_laws.specs.DirectCalls.{IsCutThrough}
use Rattle.recalculate_laws.specs.Position.{HasPosition, moved_fields}
use Rattle.recalculate_laws.proofs.DirectCallsLemmas.{direct_head_sync_through_law, direct_head_through_law, direct_settled_law, direct_stands_cut_law}
use Rattle.recalculation.specs.declared.recalculating.Recalculation.{Recalculation}
use Rattle.recalculation.specs.Position as Positions
use Rattle.recalculation.specs.Position.{MayMove, MovesIn, WritesFieldsIn}
use Rattle.recalculation.specs.Recalculation.{HasFields, IsRecalculationOf, Moving, SettlesPositionIn, Settling, to_write}
use Rattle.recalculation.proofs.KeptLemmas.{moved_if_some}

-- Each image has the fields of the disk.
pub fields_told : (d : DirectDisk) (awaiting : ℕ → Bool) (tags : Content → ℕ → List ℕ) (b : List Content) → KeepsNow d awaiting tags b → HasFields d.superblock b
fields_told d awaiting tags b keeps c told image is = ((keeps c told).stands.each 0 (image 0) (is 0)).head refl

module _ (d : DirectDisk) (awaiting : ℕ → Bool) (tags : Content → ℕ → List ℕ) (a : List Content) (keeps : KeepsNow d awaiting tags a) where
  abbrev moved : Superblock
  moved = moved_fields d.superblock d.geometry awaiting

  -- While all is flushed the disk stands for the same.
  pub settling_through : (b : List Content) → SettlesIn d.geometry tags a b → StandsThrough d a b
  settling_through b (Back adds) = back_law d d.geometry awaiting tags a b refl keeps adds
  settling_through b (Syncing back between writes reads image adds) = sync_failed_law d d.geometry awaiting tags back a between b refl keeps writes image adds

  still_cut : (fields : Superblock) (m b : List Content) → b ≡ m → IsCutThrough d fields m b
  still_cut fields m b same = EachMoment-kept _ same

  module _ (r : Recalculation) (own : IsRecalculationOf d.superblock d.geometry awaiting r) where
    -- So it does where sector 0 is not written.
    none_moves : (o : Option Superblock) (m b : List Content) → o ≡ None → MovesIn o m b → b ≡ m
    none_moves o m b none moves = subst (λ (x : Option Superblock). MovesIn x m b) none moves

    pub settling_stands : (b : List Content) → to_write r ≡ None → SettlesPositionIn r d.geometry tags a b → StandsThrough d a b
    settling_stands b none (Settling in_) = settling_through b in_
    settling_stands b none (Moving now between settles moves) =
        subst (StandsThrough d a) (sym (none_moves (to_write r) between b none moves)) (direct_settled_law d awaiting tags now a between keeps settles).0

    module _ (position : HasPosition d.superblock) where
      head_cut : (fields : Superblock) → fields ≡ moved → (now : Content → ℕ → List ℕ) (m b : List Content) → KeepsNow d awaiting now m → IsSettledNow d.geometry now m → WritesFieldsIn fields m b → IsCutThrough d moved m b
      head_cut fields same now m b keeps_now settled (Positions.Unwritten still) = still_cut moved m b still
      head_cut fields same now m b keeps_now settled (Positions.Writing head is_head adds) =
          direct_head_through_law d awaiting now head m b keeps_now settled position (subst (λ (s : Superblock). Positions.IsHeadOf s head m) same is_head) adds
      head_cut fields same now m b keeps_now settled (Positions.Syncing head between is_head written adds synced) =
          let is_head_ = subst (λ (s : Superblock). Positions.IsHeadOf s head m) same is_head in
          EachMoment-then (direct_head_through_law d awaiting now head m between keeps_now settled position is_head_ adds)
          (direct_head_sync_through_law d awaiting now head m between b keeps_now settled position is_head_ written synced)

      moves_cut : (now : Content → ℕ → List ℕ) (m b : List Content) → KeepsNow d awaiting now m → IsSettledNow d.geometry now m → MovesIn (to_write r) m b → IsCutThrough d moved m b
      moves_cut now m b keeps_now settled moves = elim (cases_option (to_write r)) [
        | inl none ↦ still_cut moved m b (none_moves (to_write r) m b none moves)
        | inr some ↦ head_cut some.0 (moved_if_some d.format awaiting r own some.0 some.1).0 now m b keeps_now settled (subst (λ (x : Option Superblock). MovesIn x m b) some.1 moves)
      ]

      -- At each moment each image is one that a cut leaves, under the old fields or the moved ones.
      pub settling_cut : (b : List Content) → SettlesPositionIn r d.geometry tags a b → IsCutThrough d moved a b
      settling_cut b (Settling in_) = direct_stands_cut_law d moved a b (settling_through b in_)
      settling_cut b (Moving now between settles moves) =
          let settled = direct_settled_law d awaiting tags now a between keeps settles in
          EachMoment-then (direct_stands_cut_law d moved a between settled.0) (moves_cut now between b settled.1 settled.3 moves)
