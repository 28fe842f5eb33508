-- What a command calls, reads and leaves of what lies outside, by its result and by its status.
use Rattle.std.proofs.Common.{◌≡◌, ◌⊎◌, inl, inr, ℕ, List, refl, sym, ◌∙◌, ap, subst, Option, Some, None, Result, Ok, Err, IsErrAnd, IfErr}
use Rattle.std.specs.Prelude.{option_and_then}
use Rattle.std.specs.Option.{ForSome}
use Rattle.disk_model.specs.Disk.{Content}
use Rattle.disk_model.specs.Identity.{DiskIdentity, IsBoundTo, IsThere, NamedDisk}
use Rattle.disk_model.specs.Moments.{content_now}
use Rattle.command_ending.specs.declared.ended.Ended.{Ended}
use Rattle.command_ending.specs.declared.ended.Ended.TheVariants as Endings
use Rattle.command_task.specs.declared.asked.Asked.{Asked}
use Rattle.command_task.specs.declared.asked.Asking.{Asking}
use Rattle.command_task.specs.declared.asked.Asking.TheVariants.{OneImage, TwoImages}
use Rattle.command_task.specs.declared.asked.AskedMirror.{AskedMirror}
use Rattle.std.proofs.lemmas.Option.{none-some, same_Some}
use Rattle.command_task.specs.declared.asked.Task.{Task}
use Rattle.command_task.specs.declared.asked.Task.TheVariants as Tasks
use Rattle.integrity_tool.specs.declared.top_call.Outside.{Outside}
use Rattle.integrity_tool.specs.KeyFile.{HasHash, IsKeyed, ReadsKey, ReadsKeyFile}
use Rattle.command_model.specs.KeyFile.{HasFile}
use Rattle.command_model.specs.Outset.{key_by}
use Rattle.integrity_tool.specs.Top.{HasWrongKey}
use Rattle.command_task.specs.Unopened.{IsUnopenedAt, IsUnopenedFor}
use Rattle.command_task.specs.Words.{HasOneImage, asked_of, asking_of, key_file_of_asking, on_one_image, second_name, second_of}
use Rattle.command_model.specs.World.{World}
use Rattle.command_task.proofs.EndedLemmas.{ok_no_err}
use Rattle.command_ending.specs.declared.refusal.Refusal.TheVariants as refusals

-- ---- the words

-- Words that ask for something are a command.
pub no_command : (command : List (List ℕ)) (asking : Asking) → asking_of command ≡ None → asking_of command ≡ Some asking → ⊥
no_command command asking none asks = absurd (cc)

-- What they ask for on one image, where they ask for that, and where they ask for nothing.
pub asked_one : (command : List (List ℕ)) (asked : Asked) → asking_of command ≡ Some (OneImage asked) → asked_of command ≡ Some asked
asked_one command asked asks = ap (option_and_then on_one_image) asks

pub asked_none : (command : List (List ℕ)) → asking_of command ≡ None → asked_of command ≡ None
asked_none command none = ap (option_and_then on_one_image) none

-- They name no second image then.
pub no_second : (command : List (List ℕ)) (asked : Asked) → asking_of command ≡ Some (OneImage asked) → (name : List ℕ) → second_name command ≡ Some name → ⊥
no_second command asked asks name names = none-some name (sym (ap second_of asks) ∙ names)

-- Nor are they those of a mirror.
pub no_mirror : (command : List (List ℕ)) (asked : Asked) → asking_of command ≡ Some (OneImage asked) → (both : AskedMirror)
    → asking_of command ≡ Some (TwoImages both) → ⊥
no_mirror command asked asks both is = absurd (cc)

-- Words of a mirror name two images.
pub no_one_image : (command : List (List ℕ)) (both : AskedMirror) → asking_of command ≡ Some (TwoImages both) → HasOneImage (asking_of command) → ⊥
no_one_image command both is one = subst HasOneImage is one

-- They name this one as the second.
pub named_second : (command : List (List ℕ)) (both : AskedMirror) → asking_of command ≡ Some (TwoImages both) → (name : List ℕ)
    → second_name command ≡ Some name → name ≡ both.second
named_second command both asks name names = same_Some _ _ (sym names ∙ ap second_of asks)

-- What ends a command with the words, or for want of memory for them.
pub err_words : {T : Type 0} (r : Result T Ended) (ended : Ended) → r ≡ Err ended → (ended ≡ Endings.Refused refusals.Words) ⊎ (ended ≡ Endings.Memory)
    → (r ≡ Err (Endings.Refused refusals.Words)) ⊎ (r ≡ Err Endings.Memory)
err_words r ended is ends = elim ends [
  | inl words ↦ inl (is ∙ ap (λ (e : Ended). Err e) words)
  | inr memory ↦ inr (is ∙ ap (λ (e : Ended). Err e) memory)
]

-- ---- the key

-- A key that is taken is not wrong.
pub right_key : (command : List (List ℕ)) (world : World) (asking : Asking) (key : Option (List ℕ)) → asking_of command ≡ Some asking
    → IsKeyed (key_file_of_asking (Some asking)) world.keys (HasHash key) → HasWrongKey command world → ⊥
right_key command world asking key asks keyed wrong =
    let same : key_file_of_asking (asking_of command) ≡ key_file_of_asking (Some asking) = ap key_file_of_asking asks in
    let told = keyed wrong.bytes (subst (λ (f : Option (List ℕ)). HasFile f world.keys wrong.bytes) same wrong.has) in
    ok_no_err _ key wrong.refusal told
    (subst (λ (f : Option (List ℕ)). key_by f wrong.bytes ≡ Err wrong.refusal) same wrong.refused)

-- What was read of the file of a key, of all that lies outside,
pub key_file_read : {D E K S O : Type 0} (world : Outside D E K S O → World) (named : K → List ℕ → Option (List ℕ)) (left : K → Option (List ℕ))
    (first last : Outside D E K S O) (file other : Option (List ℕ)) {is_read was_read : Type 0} → other ≡ file → (is_read → was_read)
    → (world first).keys ≡ named first.key.now → (world last).keys ≡ named last.key.now → (world last).key ≡ left last.key.now
    → ReadsKey file named left first.key.now last.key.now was_read → ReadsKeyFile other world first last is_read
key_file_read {D} {E} {K} {S} {O} world named left first last file other {is_read} {was_read} same weaker before after rest read =
    subst (λ (f : Option (List ℕ)). ReadsKeyFile f world first last is_read) (sym same) (by file read)
  where
    by : (f : Option (List ℕ)) → ReadsKey f named left first.key.now last.key.now was_read → ReadsKeyFile f world first last is_read
    by None unread = unread
    by (Some f) told = λ bytes has.
        let t = told bytes (sym (ap (λ (k : List ℕ → Option (List ℕ)). k f) before) ∙ has) in (
          record { count = t.0.count; within = t.0.within; rest = ap (λ (k : List ℕ → Option (List ℕ)). k f) after ∙ t.0.rest },
          λ now. rest ∙ t.1 (weaker now),
        )

-- and once more is done that leaves the key's source.
pub key_file_kept : {D E K S O : Type 0} (world : Outside D E K S O → World) (first mid last : Outside D E K S O) (file : Option (List ℕ)) {is_read was_read : Type 0}
    → (is_read → was_read) → last.key.now ≡ mid.key.now → (world last).keys ≡ (world mid).keys → (world last).key ≡ (world mid).key
    → ReadsKeyFile file world first mid was_read → ReadsKeyFile file world first last is_read
key_file_kept world first mid last None weaker same keys rest read = same ∙ read
key_file_kept world first mid last (Some file) weaker same keys rest read = λ bytes has.
    let t = read bytes has in (
      record { count = t.0.count; within = t.0.within; rest = ap (λ (k : List ℕ → Option (List ℕ)). k file) keys ∙ t.0.rest },
      λ now. rest ∙ t.1 (weaker now),
    )

-- ---- the script

-- What holds of all errors that are so, of one that is.
pub of_error : {T : Type 0} (P : Ended → Type 0) (Q : Type 0) (r : Result T Ended) → IfErr r (λ ended. P ended → Q) → IsErrAnd r P → Q
of_error P Q (Ok x) all one = absurd one
of_error P Q (Err ended) all one = all one

-- ---- an image that is not opened

unopened_same_at : (task : Task) (moments : List Content) → IsUnopenedAt task moments moments
unopened_same_at (Tasks.Run mode) moments = refl
unopened_same_at (Tasks.Serve mode) moments = tt
unopened_same_at Tasks.Dump moments = tt
unopened_same_at (Tasks.Check what) moments = tt
unopened_same_at Tasks.Salvage moments = tt
unopened_same_at Tasks.Resize moments = tt
unopened_same_at (Tasks.Format new) moments = tt
unopened_same_at (Tasks.Exercise seed count) moments = tt

-- Nothing is opened where all is as it was.
pub unopened_same : (asked : Option Asked) (moments : List Content) → IsUnopenedFor asked moments moments
unopened_same None moments = tt
unopened_same (Some asked) moments = unopened_same_at asked.task moments

-- What is asked is done on the disk that is bound.
pub unopened_given : (asked : Asked) (other : Option Asked) → other ≡ Some asked → (before after mid last : List Content) → before ≡ mid → after ≡ last
    → IsUnopenedAt asked.task mid last → IsUnopenedFor other before after
unopened_given asked other asks before after mid last there at_end unopened =
    subst (λ (o : Option Asked). IsUnopenedFor o before after) (sym asks)
    (subst (λ (m : List Content). IsUnopenedAt asked.task m after) (sym there)
    (subst (λ (m : List Content). IsUnopenedAt asked.task mid m) (sym at_end) unopened))

-- ---- a disk that is bound to a name

-- So it is where it is what it was.
pub still_bound : {name other : List ℕ} {before after : DiskIdentity} → name ≡ other → IsBoundTo other before.name → after ≡ before
    → IsBoundTo name after.name
still_bound {name} {other} {before} {after} is bound same =
    subst (λ (d : DiskIdentity). IsBoundTo name d.name) (sym same) (subst (λ (n : List ℕ). IsBoundTo n before.name) (sym is) bound)

-- What stands under the name then has as many sectors as what was found there.
pub still_sized : {D : Type 0} (identity : D → DiskIdentity) (moments : D → List Content) (named : D → List ℕ → NamedDisk)
    → ((disk : D) (name : List ℕ) → IsBoundTo name (identity disk).name
    → named disk name ≡ record { sectors = (identity disk).sectors; moments = moments disk })
    → (old mid last : D) {name other : List ℕ} → name ≡ other → IsBoundTo other (identity mid).name
    → IsThere (named old other) (identity mid).sectors (moments mid) → identity last ≡ identity mid
    → ForSome (content_now (named old name).moments) (λ content. (named last name).sectors ≡ (named old name).sectors)
still_sized identity moments named if_bound old mid last {name} {other} is bound found same content told =
    let here = subst (λ (n : List ℕ). IsThere (named old n) (identity mid).sectors (moments mid)) (sym is) found in
    ap (λ (n : NamedDisk). n.sectors) (if_bound last name (still_bound is bound same)) ∙ ap (λ (d : DiskIdentity). d.sectors) same
    ∙ sym (ap (λ (n : NamedDisk). n.sectors) (here.is content told))
