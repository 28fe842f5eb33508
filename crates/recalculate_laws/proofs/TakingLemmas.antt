-- A region that is recalculated without a bitmap, by the loop over its blocks.
use Rattle.std.proofs.Common.{◌≡◌, ℕ, ◌<◌, Bool, ◌∙◌, List}
use Rattle.disk_model.specs.Disk.{Content, OnlyAdds}
use Rattle.disk_model.proofs.DiskLemmas.{OnlyAdds-none}
use Rattle.disk_model.proofs.MomentsLemmas.{content_at_end}
use Rattle.place_model.specs.Format.{DiskFormat}
use Rattle.place_model.specs.Tags.{IsOfTags}
use Rattle.journal_model.specs.JournaledDisk.{JournaledDisk}
use Rattle.direct_model.specs.DirectDisk.{DirectDisk}
use Rattle.direct_model.proofs.DirectLemmas.{tags_written_law}
use Rattle.direct_laws.specs.ReadLaws.{KeepsCells}
use Rattle.direct_laws.proofs.CallLemmas.{each_from}
use Rattle.direct_laws.proofs.ReadLemmas.{are_tags, are_recalculated, keeps_recalculated}
use Rattle.bitmap_laws.proofs.CallLemmas.{start_told, end_from}
use Rattle.recalculate_laws.specs.Moments.{tags_then}
use Rattle.recalculate_laws.specs.Recalculating.{KeepsAwaiting}
use Rattle.recalculate_laws.specs.Taking.{TakingLaw, TakenLaw, DirectTakingLaw, DirectTakenLaw}
use Rattle.recalculate_laws.proofs.RecalculatingLemmas.{recalculated_law, recalculating_cut}

-- What it adds, beside the content at its start.
abbrev TakeAdds : DiskFormat → ℕ → (Content → ℕ → List ℕ) → Content → Content → Type 0
TakeAdds d region tags start = OnlyAdds (IsOfTags d.geometry (tags start) (tags_then d region start (tags start))) start

take_none : (d : DiskFormat) (region : ℕ) (tags : Content → ℕ → List ℕ) (start : Content) → TakeAdds d region tags start start
take_none d region tags start = OnlyAdds-none (IsOfTags d.geometry (tags start) (tags_then d region start (tags start))) start

-- ---- in journal mode

-- Tags that are the same for each block are as good.
pub awaiting_given : (d : JournaledDisk) (awaiting : ℕ → Bool) (tags now : ℕ → List ℕ) (c : Content) → ((b : ℕ) → b < d.geometry.blocks → now b ≡ tags b) → KeepsAwaiting d awaiting tags c → KeepsAwaiting d awaiting now c
awaiting_given d awaiting tags now c same keeps = record {
  keeps = record {
    stands = keeps.keeps.stands;
    reads = keeps.keeps.reads;
    tags_are = record { each = λ b low rests. same b low ∙ keeps.keeps.tags_are.each b low rests };
  };
  made = λ b low waits rested. same b low ∙ keeps.made b low waits rested;
}

pub taking_law : TakingLaw
taking_law d region awaiting tags a b keeps adds =
    each_from (TakeAdds d.format region tags) _ (λ start told c more. recalculating_cut d region awaiting (tags start) start c (keeps start told) more) adds

pub taken_law : TakenLaw
taken_law d region awaiting tags now a b keeps taken c told =
    let P = TakeAdds d.format region tags in
    let start = start_told P c taken.adds told in
    let adds = end_from P (take_none d.format region tags) taken.adds start.0 c start.1 told in
    awaiting_given d _ (tags_then d.format region start.0 (tags start.0)) (now c) c (taken.gives start.0 start.1 c told)
    (recalculated_law d region awaiting (tags start.0) start.0 c (keeps start.0 start.1) adds (taken.others start.0 start.1 c told))

-- ---- in direct mode

pub cells_given : (d : DirectDisk) (awaiting : ℕ → Bool) (tags now : ℕ → List ℕ) (c : Content) → ((b : ℕ) → b < d.geometry.blocks → now b ≡ tags b) → KeepsCells d awaiting tags c → KeepsCells d awaiting now c
cells_given d awaiting tags now c same keeps = record { stands = keeps.stands; reads = keeps.reads; tags_are = λ b low rests. same b low ∙ keeps.tags_are b low rests }

pub direct_taking_law : DirectTakingLaw
direct_taking_law d region awaiting tags a b keeps adds =
    let each = each_from (TakeAdds d.format region tags) _ (λ start told c more.
    tags_written_law d (tags start) (tags_then d.format region start (tags start)) start c (keeps start told).stands
    (are_tags d awaiting (tags start) start (keeps start told)) (are_recalculated d region awaiting (tags start) start (keeps start told)) more) adds in
    record { moments = each; now = content_at_end each (λ start told. (keeps start told).stands) }

pub direct_taken_law : DirectTakenLaw
direct_taken_law d region awaiting tags now a b keeps taken c told =
    let P = TakeAdds d.format region tags in
    let start = start_told P c taken.adds told in
    let adds = end_from P (take_none d.format region tags) taken.adds start.0 c start.1 told in
    cells_given d _ (tags_then d.format region start.0 (tags start.0)) (now c) c (taken.gives start.0 start.1 c told)
    (keeps_recalculated d region awaiting (tags start.0) start.0 c (keeps start.0 start.1) adds (taken.others start.0 start.1 c told))
