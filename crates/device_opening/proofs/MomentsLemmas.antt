-- The first sync of an opening, and what comes behind it.
use Rattle.std.proofs.Common.{◌≡◌, ℕ, refl, sym, ◌∙◌, ap, subst, Option, Some, None, List, [], ◌∷◌, ◌++◌}
use Rattle.std.specs.Option.{ForSome, IsSomeAnd, option_map}
use Rattle.std.proofs.lemmas.Option.{none-some, same_Some}
use Rattle.disk_model.specs.Disk.{Content, Image, OnlyAdds, last_image, newest_only}
use Rattle.disk_model.specs.Moments.{EachMoment, EachSince, FromStart, HasNow, IsChangedBy, content_now}
use Rattle.disk_model.proofs.DiskLemmas.{OnlyAdds-none}
use Rattle.disk_model.proofs.MomentsLemmas.{EachMoment-join, EachMoment-weaker, FromStart-weaker}
use Rattle.std.specs.List.{AllByRecursion, Contains}
use Rattle.std.proofs.lemmas.List.{append_cancel_right}
use Rattle.image_model.specs.Cells.{replayed_entries}
use Rattle.image_model.specs.Geometry.{Geometry}
use Rattle.journal_mode.specs.Emptied.{KeepsResting}
use Rattle.place_model.specs.RecoveryWrites.{IsOfPlacing}

-- Two facts of each moment are one.
all_both : (P Q : Content → Type 0) (xs : List Content) → AllByRecursion P xs → AllByRecursion Q xs
    → AllByRecursion (λ c. P c × Q c) xs
all_both P Q [] p q = tt
all_both P Q (x ∷ xs) p q = ((p.0, q.0), all_both P Q xs p.1 q.1)

pub EachMoment-both : {a b : List Content} {P Q : Content → Type 0} → EachMoment a b P → EachMoment a b Q
    → EachMoment a b (λ c. P c × Q c)
EachMoment-both {a} {b} {P} {Q} p q = record {
  since = p.since;
  grows = p.grows;
  each = all_both P Q p.since p.each (subst (AllByRecursion Q) (append_cancel_right q.since p.since a (sym q.grows ∙ p.grows)) q.each);
}

-- What is told at the start is known of it.
from_told : (o : Option Content) (P : Content → Type 0) (start : Content) → o ≡ Some start → IsSomeAnd o P → P start
from_told None P start told p = absurd (none-some start told)
from_told (Some c) P start told p = subst P (same_Some c start told) p

pub told_synced : (a b : Option Content) (c : Content) → b ≡ option_map newest_only a → a ≡ Some c → b ≡ Some (newest_only c)
told_synced a b c synced told = synced ∙ ap (option_map newest_only) told

-- Where the start is told, so is the end.
told_on : (a since : List Content) (start : Content) → content_now a ≡ Some start → (c : Content) × (content_now (since ++ a) ≡ Some c)
told_on a [] start told = (start, told)
told_on a (c ∷ since) start told = (c, refl)

pub now_told : {a b : List Content} {P : Content → Type 0} → EachMoment a b P → (start : Content) → content_now a ≡ Some start → (c : Content) × (content_now b ≡ Some c)
now_told {a} {b} m start told = subst (λ (h : List Content). (c : Content) × (content_now h ≡ Some c)) (sym m.grows) (told_on a m.since start told)

-- Of a disk that tells its content it is enough to speak of that.
pub since_from : (a b : List Content) (P Q : Content → Content → Type 0) → EachSince Q a b → ((start : Content) → content_now a ≡ Some start → EachMoment a b (P start)) → EachSince P a b
since_from [] b P Q m f = EachMoment-weaker (λ c p. absurd p) m
since_from (start ∷ h) b P Q m f = EachMoment-weaker (λ c p. p) (f start refl)

-- What holds now where the start is told holds now.
pub settled_by : (a : List Content) {b : List Content} (Q : Content → Content → Type 0) (P : Content → Type 0) → EachSince Q a b → ((start : Content) → content_now a ≡ Some start → HasNow P b) → HasNow P b
settled_by (start ∷ h) Q P m f c told = f start refl c told
settled_by [] Q P m f c told = absurd (none m.since m.each (sym (ap content_now m.grows) ∙ told))
  where
    none : (since : List Content) → AllByRecursion (FromStart [] Q) since → content_now (since ++ []) ≡ Some c → ⊥
    none [] each at = none-some c at
    none (x ∷ since) each at = absurd each.0

-- Each content since is so, where it is by the start and that is told.
pub each_from : {a b : List Content} (P : Content → Content → Type 0) (start : Content) → content_now a ≡ Some start → EachSince P a b → EachMoment a b (P start)
each_from {a} P start told m = EachMoment-weaker (λ c from. from_told (content_now a) (λ x. P x c) start told from) m

-- What reads give stays so.
pub now_synced : (P : Image → Type 0) (a b : List Content) → IsChangedBy newest_only a b → HasNow (λ c. P (last_image c)) a → HasNow (λ c. P (last_image c)) b
now_synced P a b synced has c told = by (content_now a) has (sym synced ∙ told)
  where
    by : (o : Option Content) → ForSome o (λ c. P (last_image c)) → option_map newest_only o ≡ Some c → P (last_image c)
    by None known e = absurd (none-some c e)
    by (Some start) known e = subst (λ (x : Content). P (last_image x)) (same_Some (newest_only start) c e) (known start refl)

module _ (W : Image → ℕ → List ℕ → Type 0) where
  -- What an opening may add: a part of what is settled, and then these.
  abbrev Settles : Content → Content → Type 0
  Settles start = OnlyAdds (W (last_image start)) (newest_only start)

  -- The sync alone adds nothing to it,
  pub sync_settles : {a b : List Content} → EachSince (λ start c. c ≡ newest_only start) a b → EachSince Settles a b
  sync_settles {a} m =
      EachMoment-weaker (FromStart-weaker a (λ start c. c ≡ newest_only start) Settles (λ start c told is.
      subst (λ (x : Content). Settles start x) (sym is) (OnlyAdds-none (W (last_image start)) (newest_only start)))) m

  -- and what comes behind it adds to that.
  pub settles_then : {a b c : List Content} → EachSince (λ start c. c ≡ newest_only start) a b → IsChangedBy newest_only a b → EachSince (λ start. OnlyAdds (W (last_image start)) start) b c → EachSince Settles a c
  settles_then {a} {b} first synced second =
      EachMoment-join Settles (λ start. OnlyAdds (W (last_image start)) start) (sync_settles first) second
      (λ start middle later told told_middle so_far adds.
      let is : middle ≡ newest_only start = same_Some middle (newest_only start) (sym told_middle ∙ told_synced (content_now a) (content_now b) start synced told) in
      subst (λ (x : Content). OnlyAdds (W (last_image x)) x later) is adds)

-- Two syncs are no more than one.
pub syncs_then : {a b c : List Content} → EachSince (λ start c. c ≡ newest_only start) a b → IsChangedBy newest_only a b → EachSince (λ start c. c ≡ newest_only start) b c → EachSince (λ start c. c ≡ newest_only start) a c
syncs_then {a} {b} first synced second =
    EachMoment-join (λ start c. c ≡ newest_only start) (λ start c. c ≡ newest_only start) first second
    (λ start middle later told told_middle so_far is.
    is ∙ ap newest_only (same_Some middle (newest_only start) (sym told_middle ∙ told_synced (content_now a) (content_now b) start synced told)))

-- ---- a journal at rest

module _ (g : Geometry) where
  abbrev Rests : Content → Content → Type 0
  Rests start = KeepsResting g start (newest_only start)

  -- The sync alone leaves it,
  pub sync_rests : {a b : List Content} → EachSince (λ start c. c ≡ newest_only start) a b → EachSince Rests a b
  sync_rests {a} m =
      EachMoment-weaker (FromStart-weaker a (λ start c. c ≡ newest_only start) Rests (λ start c told is rests.
      subst (λ (x : Content). OnlyAdds (IsOfPlacing g (Contains (replayed_entries g (last_image start)))) (newest_only start) x) (sym is)
      (OnlyAdds-none (IsOfPlacing g (Contains (replayed_entries g (last_image start)))) (newest_only start)))) m

  -- and so does what comes behind it.
  pub rests_then : {a b c : List Content} → EachSince (λ start c. c ≡ newest_only start) a b → IsChangedBy newest_only a b → EachSince (λ start. KeepsResting g start start) b c → EachSince Rests a c
  rests_then {a} {b} first synced second =
      EachMoment-join Rests (λ start. KeepsResting g start start) (sync_rests first) second
      (λ start middle later told told_middle so_far keeps.
      let is : middle ≡ newest_only start = same_Some middle (newest_only start) (sym told_middle ∙ told_synced (content_now a) (content_now b) start synced told) in
      subst (λ (x : Content). KeepsResting g x x later) is keeps)
