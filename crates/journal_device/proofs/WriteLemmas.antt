-- A put that went through, and one that did not.
use Rattle.std.proofs.Common.{◌≡◌, ◌↔◌, inl, inr, ℕ, List, true, false, Bool, Result, Ok, Err, refl, subst, sym}
use Rattle.std.specs.Prelude.{OnOk, OnErr, IsOk}
use Rattle.std.specs.Result.{is_err}
use Rattle.std.proofs.lemmas.Bool.{true≢false}
use Rattle.disk_model.specs.Disk.{Content}
use Rattle.disk_model.specs.Identity.{DiskIdentity}
use Rattle.disk_model.specs.Disk.{OnlyAdds}
use Rattle.disk_model.specs.Moments.{EachSince}
use Rattle.disk_model.proofs.DiskLemmas.{OnlyAdds-wider}
use Rattle.disk_model.proofs.MomentsLemmas.{EachMoment-kept, EachMoment-weaker, FromStart-weaker, adds_then, adds_wider}
use Rattle.image_model.specs.Geometry.{Geometry}
use Rattle.place_model.specs.Tags.{IsOfTags, HoldsTag}
use Rattle.direct_laws.specs.CallLaws.{AddsTags}
use Rattle.hmac_tag.specs.TagMaker.{TagRule}
use Rattle.recalculation.specs.declared.recalculating.Recalculation.{Recalculation}
use Rattle.tag_store.specs.Store.{IsOutForTag, IsStore, Store}
use Rattle.journal_device.specs.Recalculating.{TakesIf, TakesIfIn}
use Rattle.request_slots.specs.declared.turn.Turn.TheVariants as Turns
use Rattle.device_parts.specs.declared.parts.Parts.{Parts}
use Rattle.device_parts.specs.Device.{IsReady}
use Rattle.device_parts.proofs.ReadyLemmas.{ready_read, same_flight}
use Rattle.journal_mode.specs.Journal.{PlacedRing}
use Rattle.journal_device.specs.Answers.{HasEntryMore, WritesFor, WritesRead}
use Rattle.journal_device.specs.Writing.{WritesIf}
use Rattle.journal_device.specs.declared.parts.JournalState.{JournalState}

-- What a call ensures on Ok holds where its result is not an error.
pub put_ok : {T E P : Type 0} (r : Result T E) → is_err r ≡ false → OnOk r P → P
put_ok (Ok x) good holds = holds
put_ok (Err e) good holds = absurd (true≢false good)

-- What is Ok exactly where a test passes fails where the test does.
pub full_if_refused : {T E : Type 0} (r : Result T E) (test : Bool) → is_err r ≡ true → (IsOk r ↔ (test ≡ true)) → test ≡ false
full_if_refused (Ok x) test bad same = absurd (true≢false (sym bad))
full_if_refused (Err e) true bad same = absurd (true≢false (sym (same.1 refl)))
full_if_refused (Err e) false bad same = refl

-- What a call ensures on an error holds where its result is one.
pub on_refusal : {T E P : Type 0} (r : Result T E) → is_err r ≡ true → OnErr r P → P
on_refusal (Ok x) bad holds = absurd (true≢false (sym bad))
on_refusal (Err e) bad holds = holds

-- ---- what is written

pub writes_if : (flushes : Bool) (block : ℕ) (parts : Parts) (state : JournalState) (mid : PlacedRing) (before after : List Content) → HasEntryMore state.journal block mid
    → WritesIf flushes mid before after → WritesFor (Turns.Write block flushes) parts state before after
writes_if true block parts state mid before after more writes = inr (record { put = mid; more = more; batches = writes })
writes_if false block parts state mid before after more writes = writes

pub writes_none : (flushes : Bool) (block : ℕ) (parts : Parts) (state : JournalState) (before : List Content) → WritesFor (Turns.Write block flushes) parts state before before
writes_none true block parts state before = inl refl
writes_none false block parts state before = refl

-- ---- what is ready

-- With another store of the same disk it stays so.
pub ready_tags : (parts : Parts) (tags : Store) (disk now : DiskIdentity) (a b : List Content) → IsReady parts disk a → IsStore tags now b → tags.geometry ≡ parts.tags.geometry → IsReady (record parts { tags = tags }) now b
ready_tags parts tags disk now a b ready store same =
    ready_read parts (record parts { tags = tags }) disk now a b ready store same (same_flight parts.slots) refl refl ready.buffer

-- ---- a read

-- Sectors of tags are written, while tags are added,
tags_hold : (g : Geometry) (old new : Content → ℕ → List ℕ) {a b : List Content} → AddsTags g old new a b → EachSince (OnlyAdds (λ sector x. HoldsTag g sector)) a b
tags_hold g old new {a} m = EachMoment-weaker (FromStart-weaker a (λ start. OnlyAdds (IsOfTags g (old start) (new start)) start) (OnlyAdds (λ sector x. HoldsTag g sector))
    (λ start c told adds. OnlyAdds-wider (IsOfTags g (old start) (new start)) (λ sector x. HoldsTag g sector) (λ sector x of. record {
      block = of.block;
      byte = of.byte;
      block_low = of.block_low;
      byte_low = of.byte_low;
      is = of.is;
    }) start c adds)) m

-- where a region is recalculated first,
pub writes_first : (t : Bool) (rule : TagRule) (region block : ℕ) (recalculation : Recalculation) (parts : Parts) (a m : List Content) → TakesIfIn t rule region recalculation parts.tags a m → WritesRead t block parts a m
writes_first true rule region block recalculation parts a m adds = tags_hold parts.tags.geometry _ _ adds
writes_first false rule region block recalculation parts a m same = EachMoment-kept _ same

-- and then the tag of a block is got.
pub writes_read : (t : Bool) (rule : TagRule) (region block : ℕ) (old new : Recalculation) (parts : Parts) (store : Store) (a m b : List Content) → store.geometry ≡ parts.tags.geometry → TakesIf t rule region old new parts.tags store a m
    → TakesIfIn t rule region old parts.tags a m → EachSince (OnlyAdds (IsOutForTag block store)) m b → WritesRead t block parts a b
writes_read true rule region block old new parts store a m b same taken adds out =
    adds_then (λ sector x. HoldsTag parts.tags.geometry sector) (tags_hold parts.tags.geometry _ _ adds)
    (adds_wider (IsOutForTag block store) (λ sector x. HoldsTag parts.tags.geometry sector) (λ sector x of. subst (λ (g : Geometry). HoldsTag g sector) same of.marked.tags) out)
writes_read false rule region block old new parts store a m b same taken adds out =
    subst (λ (s : List Content). EachSince (OnlyAdds (IsOutForTag block parts.tags)) s b) taken.2
    (subst (λ (x : Store). EachSince (OnlyAdds (IsOutForTag block x)) m b) taken.1 out)
