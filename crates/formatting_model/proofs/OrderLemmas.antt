-- The order of a formatting: the first sync, and calls in a row behind it.
use Rattle.std.proofs.Common.{◌≡◌, ◌⊎◌, inl, inr, ⊎_elim, ℕ, ◌+◌, ◌/◌, ◌≤◌, List, [], ◌∷◌, ◌++◌, length, length-append, refl, sym, ◌∙◌, ap, subst, arith, Option, Some, Result, Ok, Err, OnOk, OnErr}
use Rattle.std.specs.List.{AllByRecursion, Contains}
use Rattle.std.specs.Option.{IsSomeAnd, option_map}
use Rattle.std.proofs.lemmas.List.{length-replicate}
use Rattle.std.proofs.lemmas.List.Elements.{Contains-append_left, at_from_Contains}
use Rattle.std.proofs.lemmas.Option.{same_Some}
use Rattle.disk_model.specs.Disk.{Content, IsImage, AddsSome, last_image, newest_only, sector_in, with_run}
use Rattle.disk_model.specs.Moments.{content_now, EachMoment, EachSince, FromStart}
use Rattle.disk_model.proofs.DiskLemmas.{AddsSome-adds, IsOfRun-one, OnlyAdds-wider, with_run-out, with_sectors-in, within_or_out}
use Rattle.disk_model.proofs.MomentsLemmas.{EachMoment-then, EachMoment-weaker, FromStart-weaker}
use Rattle.formatting_model.specs.FirstSector.{HasZeroHead, IsFirst, forgotten, zero_sector}
use Rattle.formatting_model.specs.Order.{HasFirstSync, IsForgotten, IsInOrder, IsUnsettled}
use Rattle.formatting_model.proofs.FirstSectorLemmas.{forgetting_is}

-- ---- moments

-- What is told at the start.
told_start : (h : List Content) (Q : Content → Content → Type 0) (c : Content) → FromStart h Q c → (m : Content) × (content_now h ≡ Some m) × Q m c
told_start [] Q c q = absurd q
told_start (m ∷ h) Q c q = (m, refl, q)

at_start : (h : List Content) (Q : Content → Content → Type 0) (m c : Content) → content_now h ≡ Some m → Q m c → FromStart h Q c
at_start h Q m c told q = subst (λ (o : Option Content). IsSomeAnd o (λ start. Q start c)) (sym told) q

-- A disk that tells nothing tells nothing later.
pub silent : {a b : List Content} (P : Content → Content → Type 0) → EachSince P a b → a ≡ [] → b ≡ []
silent {a} {b} P m none = by m.since m.grows m.each
  where
    by : (since : List Content) → b ≡ since ++ a → AllByRecursion (FromStart a P) since → b ≡ []
    by [] e each = e ∙ none
    by (x ∷ since) e each = absurd (subst (λ (h : List Content). FromStart h P x) none each.0)

-- The oldest of what was added, where something was.
abbrev Oldest : (P : Content → Type 0) (b c : List Content) → Type 0
Oldest P b c = (first : Content) × P first × EachMoment (first ∷ b) c P

oldest : (P : Content → Type 0) (b c : List Content) → EachMoment b c P → (c ≡ b) ⊎ Oldest P b c
oldest P b c m = by c m.since m.grows m.each
  where
    by : (c since : List Content) → c ≡ since ++ b → AllByRecursion P since → (c ≡ b) ⊎ Oldest P b c
    by c [] e each = inl e
    by c (x ∷ since) e each = ⊎_elim
        (λ none. inr (x, each.0, record { since = []; grows = e ∙ ap (λ (h : List Content). x ∷ h) none; each = tt }))
        (λ some. inr (
          some.0,
          some.1,
          record {
            since = x ∷ some.2.since;
            grows = e ∙ ap (λ (h : List Content). x ∷ h) some.2.grows;
            each = (each.0, some.2.each);
          },
        )) (by (since ++ b) since refl each.1)

-- ---- the first sync

with_run_keeps : (at : ℕ) (bytes : List ℕ) (c : Content) (s : ℕ) (x : List ℕ) → Contains (c s) x → Contains (with_run at bytes c s) x
with_run_keeps at bytes c s x has = elim (within_or_out at (length bytes / 512) s) [
  | inl within ↦ subst (λ (xs : List (List ℕ)). Contains xs x) (sym (with_sectors-in (length bytes / 512) at bytes c s within.0 within.1)) (Contains-append_left (c s) _ x has)
  | inr out ↦ subst (λ (xs : List (List ℕ)). Contains xs x) (sym (with_run-out at bytes c s out)) has
]

keeps : (start later : Content) → AddsSome 0 zero_sector start later → (s : ℕ) (x : List ℕ) → Contains (start s) x → Contains (later s) x
keeps start later some s x has = ⊎_elim
    (λ same. subst (λ (xs : List (List ℕ)). Contains xs x) (sym same) has)
    (λ new. subst (λ (xs : List (List ℕ)). Contains xs x) (sym new) (with_run_keeps 0 zero_sector start s x has)) (some s)

zero_sector_whole : length zero_sector ≡ 512
zero_sector_whole = length-replicate {A = ℕ} 512 0

unsettled : (start later : Content) → AddsSome 0 zero_sector start later → IsUnsettled HasZeroHead start later
unsettled start later some = record {
  kept = λ image is s. keeps start later some s (image s) (is s);
  images = forgetting_is start later
      (OnlyAdds-wider _ (IsFirst zero_sector) (λ s x of. IsOfRun-one 0 zero_sector s x zero_sector_whole of) start later (AddsSome-adds 0 zero_sector start later some));
}

-- While zeros come to the first sector, nothing is settled.
pub amid_zeros : {a b : List Content} → EachSince (AddsSome 0 zero_sector) a b → EachSince (IsUnsettled HasZeroHead) a b
amid_zeros {a} m = EachMoment-weaker (FromStart-weaker a (AddsSome 0 zero_sector) (IsUnsettled HasZeroHead) (λ start later told some. unsettled start later some)) m

-- With zeros beside what it had, the first sector is not settled.
two_candidates : (start : Content) → IsImage start (last_image start) → newest_only (with_run 0 zero_sector start) ≡ with_run 0 zero_sector start → ⊥
two_candidates start reads same =
    let some : 1 ≤ length (start 0) = let at = at_from_Contains (start 0) (last_image start 0) (reads 0) in omega (arith, at.1) in
    let both = with_sectors-in (length zero_sector / 512) 0 zero_sector start 0 (omega arith) (omega (arith, zero_sector_whole)) in
    let long : length (with_run 0 zero_sector start 0) ≡ length (start 0) + 1 = ap length both ∙ length-append (start 0) (sector_in zero_sector 0 ∷ []) in
    let one : 1 ≡ length (with_run 0 zero_sector start 0) = ap (λ (c : Content). length (c 0)) same in
    omega (arith, some, long, one)

-- The first sync stands behind zeros, and before all else.
pub first_sync : (a b c : List Content) → ((x : Content) → content_now a ≡ Some x → IsImage x (last_image x)) → EachSince (AddsSome 0 zero_sector) a b
    → content_now b ≡ option_map (with_run 0 zero_sector) (content_now a) → EachSince (λ start later. later ≡ newest_only start) b c → content_now c ≡ option_map newest_only (content_now b)
    → (start : Content) → content_now a ≡ Some start → HasFirstSync (IsUnsettled HasZeroHead) IsForgotten a c
first_sync a b c reads zeros written syncs synced start told =
    let now : content_now b ≡ Some (with_run 0 zero_sector start) = written ∙ ap (option_map (with_run 0 zero_sector)) told in
    let is : (x : Content) → FromStart b (λ s later. later ≡ newest_only s) x → FromStart a IsForgotten x = λ x from.
    at_start a IsForgotten start x told (subst (λ (o : Option Content). IsSomeAnd o (λ s. x ≡ newest_only s)) now from) in
    elim (oldest (FromStart b (λ s later. later ≡ newest_only s)) b c syncs) [
      | inl none ↦ absurd (two_candidates start (reads start told)
          (same_Some _ _ (sym (synced ∙ ap (option_map newest_only) now) ∙ ap content_now none ∙ now)))
      | inr some ↦ record { unsynced = b; earlier = amid_zeros zeros; settled = some.0; is_settled = is some.0 some.1; later = EachMoment-weaker is some.2 }
    ]

-- ---- calls in a row

module _ (Early : Content → Content → Type 0) where
  pub first_sync_weaker : {a b : List Content} (Wide M L : Content → Content → Type 0) → ((start later : Content) → Early start later → Wide start later)
      → ((start later : Content) → M start later → L start later) → HasFirstSync Early M a b → HasFirstSync Wide L a b
  first_sync_weaker {a} Wide M L f g has = record {
    unsynced = has.unsynced;
    earlier = EachMoment-weaker (FromStart-weaker a Early Wide (λ start later told e. f start later e)) has.earlier;
    settled = has.settled;
    is_settled = has.is_settled;
    later = EachMoment-weaker (FromStart-weaker a M L (λ start later told e. g start later e)) has.later;
  }

  pub order_weaker : {a b : List Content} (Wide M L : Content → Content → Type 0) → ((start later : Content) → Early start later → Wide start later)
      → ((start later : Content) → M start later → L start later) → IsInOrder Early M a b → IsInOrder Wide L a b
  order_weaker {a} Wide M L f g order = ⊎_elim
      (λ early. inl (EachMoment-weaker (FromStart-weaker a Early Wide (λ start later told e. f start later e)) early))
      (λ has. inr (first_sync_weaker Wide M L f g has)) order

  -- One call more behind the first sync.
  pub first_sync_then : {a b c : List Content} (M L Q : Content → Content → Type 0) → ((start later : Content) → M start later → L start later)
      → ((start middle later : Content) → content_now a ≡ Some start → content_now b ≡ Some middle → Q middle later → L start later)
      → HasFirstSync Early M a b → EachSince Q b c → HasFirstSync Early L a c
  first_sync_then {a} {b} {c} M L Q f g has second =
      let start = told_start a IsForgotten has.settled has.is_settled in
      record {
        unsynced = has.unsynced;
        earlier = has.earlier;
        settled = has.settled;
        is_settled = has.is_settled;
        later = EachMoment-then (EachMoment-weaker (FromStart-weaker a M L (λ s later told e. f s later e)) has.later)
            (EachMoment-weaker (λ x from. let middle = told_start b Q x from in
            at_start a L start.0 x start.1 (g start.0 middle.0 x start.1 middle.1 middle.2)) second);
      }

  pub silent_order : {a b : List Content} (L : Content → Content → Type 0) → IsInOrder Early L a b → a ≡ [] → b ≡ []
  silent_order {a} L order none = ⊎_elim (λ early. silent Early early none)
      (λ has. absurd (subst (λ (h : List Content). FromStart h IsForgotten has.settled) none has.is_settled)) order

  -- Where the disk tells its content, the first sync has succeeded.
  pub in_order : (a b : List Content) (L : Content → Content → Type 0) → (a ≡ [] → b ≡ []) → ((start : Content) → content_now a ≡ Some start → HasFirstSync Early L a b) → IsInOrder Early L a b
  in_order [] b L none has = inl (record { since = []; grows = none refl; each = tt })
  in_order (start ∷ a) b L none has = inr (has start refl)

  -- Each content of both kinds.
  pub each_in_order : {a b : List Content} (L Both : Content → Content → Type 0) → ((start later : Content) → Early start later → Both start later)
      → ((start : Content) → Both start (forgotten start)) → ((start later : Content) → L start later → Both start later) → IsInOrder Early L a b → EachSince Both a b
  each_in_order {a} {b} L Both f at g order = ⊎_elim (λ early. weaker Early f early) (λ has.
      let settled : EachMoment has.unsynced (has.settled ∷ has.unsynced) (FromStart a Both) = record {
        since = has.settled ∷ [];
        grows = refl;
        each = (FromStart-weaker a IsForgotten Both (λ start c told is. subst (λ (x : Content). Both start x) (sym is) (at start)) has.settled has.is_settled, tt);
      } in
      EachMoment-then (weaker Early f has.earlier) (EachMoment-then settled (weaker L g has.later))) order
    where
      weaker : {h k : List Content} (P : Content → Content → Type 0) → ((start later : Content) → P start later → Both start later) → EachMoment h k (FromStart a P) → EachMoment h k (FromStart a Both)
      weaker P f m = EachMoment-weaker (FromStart-weaker a P Both (λ start later told p. f start later p)) m

-- ---- for callers

-- Zeros in the first sector and a sync, which succeeds or changes nothing.
pub forget_order : (a b c : List Content) {T E : Type 0} (result : Result T E) → ((x : Content) → content_now a ≡ Some x → IsImage x (last_image x)) → EachSince (AddsSome 0 zero_sector) a b
    → content_now b ≡ option_map (with_run 0 zero_sector) (content_now a) → EachSince (λ start later. later ≡ newest_only start) b c
    → OnOk result (content_now c ≡ option_map newest_only (content_now b)) → OnErr result (c ≡ b) → IsInOrder (IsUnsettled HasZeroHead) IsForgotten a c
forget_order a b c (Ok x) reads zeros written syncs synced err = in_order (IsUnsettled HasZeroHead) a c IsForgotten
    (λ none. silent (λ start later. later ≡ newest_only start) syncs (silent (AddsSome 0 zero_sector) zeros none))
    (first_sync a b c reads zeros written syncs synced)
forget_order a b c (Err e) reads zeros written syncs synced err = inl (subst (λ (h : List Content). EachSince (IsUnsettled HasZeroHead) a h) (sym err) (amid_zeros zeros))
