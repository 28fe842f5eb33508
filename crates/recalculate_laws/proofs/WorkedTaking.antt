-- The loop over the blocks of a region, on a fresh disk where none is to be recalculated: all tags stay in memory, and the region
-- awaits no more. No law of that speaks of nothing.
use Rattle.std.proofs.Common.{◌≡◌, ℕ, Bool, false, sym, ◌∙◌, ap, subst, Some, List, [], ◌∷◌}
use Rattle.std.proofs.lemmas.Option.{same_Some}
use Rattle.disk_model.specs.Disk.{Content, EachImage, IsImage, last_image}
use Rattle.disk_model.specs.Moments.{EachMoment}
use Rattle.disk_model.proofs.DiskLemmas.{newest_only-last}
use Rattle.disk_model.proofs.MomentsLemmas.{no_moment}
use Rattle.device_model.specs.Mode.{Direct}
use Rattle.device_model.specs.Regions.{with_region}
use Rattle.place_model.specs.Opened.{awaiting_on}
use Rattle.place_model.proofs.WorkedDisk.{journal_format, fresh_journal}
use Rattle.journal_model.specs.JournaledDisk.{StandsFor, IsCutOf}
use Rattle.journal_model.proofs.WorkedDisk.{fresh}
use Rattle.direct_model.proofs.WorkedDisk as Directs
use Rattle.direct_laws.specs.CallLaws.{KeepsNow, StandsThrough}
use Rattle.direct_laws.specs.ReadLaws
use Rattle.direct_laws.proofs.Worked as Directly
use Rattle.change_model.proofs.WorkedDisk.{content, tags}
use Rattle.recalculate_laws.specs.Moments.{tags_then}
use Rattle.recalculate_laws.specs.Recalculating.{KeepsAwaiting}
use Rattle.recalculate_laws.specs.Taking.{TakesRegion, KeepsAwaitingNow}
use Rattle.recalculate_laws.proofs.TakingLemmas.{taking_law, taken_law, direct_taking_law, direct_taken_law}
use Rattle.recalculate_laws.proofs.WorkedJournal.{none, KeepsAwaiting-fresh}

abbrev start : List Content
start = content ∷ []

abbrev told_tags : Content → ℕ → List ℕ
told_tags c = tags

abbrev made_tags : Content → ℕ → List ℕ
made_tags c = tags_then journal_format 0 c tags

-- Both contents are the one there is.
same_content : (one other : Content) → Some content ≡ Some one → Some content ≡ Some other → one ≡ other
same_content one other told_one told_other = same_Some one other (sym told_one ∙ told_other)

TakesRegion-first : TakesRegion journal_format 0 told_tags made_tags start start
TakesRegion-first = record {
  image = λ c told. subst (λ (x : Content). IsImage x (last_image x)) (same_Some content c told) (newest_only-last content);
  adds = no_moment start _;
  others = λ s told c told_c. record { each = λ sector off. ap (λ (x : Content). last_image x sector) (same_content c s told_c told) };
  gives = λ s told c told_c b low. ap (λ (x : Content). made_tags x b) (same_content c s told_c told);
}

-- ---- in journal mode

KeepsAwaitingNow-fresh : KeepsAwaitingNow fresh none told_tags start
KeepsAwaitingNow-fresh c told = subst (KeepsAwaiting fresh none tags) (same_Some content c told) KeepsAwaiting-fresh

pub taking-journal : EachMoment start start (λ c. StandsFor fresh c × EachImage (IsCutOf fresh []) c)
taking-journal = taking_law fresh 0 none told_tags start start KeepsAwaitingNow-fresh (no_moment start _)

pub taken-journal : KeepsAwaitingNow fresh (with_region 0 false none) made_tags start
taken-journal = taken_law fresh 0 none told_tags made_tags start start KeepsAwaitingNow-fresh TakesRegion-first

-- ---- in direct mode

abbrev waits : ℕ → Bool
waits = awaiting_on Direct journal_format fresh_journal

KeepsNow-fresh : KeepsNow Directs.fresh waits told_tags start
KeepsNow-fresh c told = subst (ReadLaws.KeepsCells Directs.fresh waits tags) (same_Some content c told) Directly.KeepsCells-fresh.0

pub taking-direct : StandsThrough Directs.fresh start start
taking-direct = direct_taking_law Directs.fresh 0 waits told_tags start start KeepsNow-fresh (no_moment start _)

pub taken-direct : KeepsNow Directs.fresh (with_region 0 false waits) made_tags start
taken-direct = direct_taken_law Directs.fresh 0 waits told_tags made_tags start start KeepsNow-fresh TakesRegion-first
